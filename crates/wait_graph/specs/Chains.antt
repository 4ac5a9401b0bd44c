-- Who waits for whom, a row of bits for each, and the chains of waits.
use Rattle.std.specs.Prelude.{◌≡◌, ℕ, List, [], ◌∷◌, slice_index}
use Rattle.std.specs.Int.{bit_at}

-- i waits for j: bit j of row i is 1
abbrev pub WaitsFor : List ℕ → ℕ → ℕ → Type 0
WaitsFor edges i j = bit_at (slice_index edges i) j ≡ 1

-- i waits for the first of these, each of them for the next one, and the last, or i where there are none, for the target
abbrev pub IsChain : List ℕ → ℕ → List ℕ → ℕ → Type 0
IsChain edges i [] target = WaitsFor edges i target
IsChain edges i (j ∷ js) target = WaitsFor edges i j × IsChain edges j js target

-- a chain of one or more waits leads from i to the target
abbrev pub LeadsTo : List ℕ → ℕ → ℕ → Type 0
LeadsTo edges i target = (between : List ℕ) × IsChain edges i between target
