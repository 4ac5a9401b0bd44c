-- A pipe of a FIFO that is there has an end that opens its node.
use Rattle.std.proofs.Common.{◌≡◌, ℕ, zero, suc, ◌+◌, ◌<◌, ◌==◌, ◌&&◌, Bool, true, false, cond, List, [], ◌∷◌, length, Option, None, Some, is_some, slice_index_or, refl, ap, sym, ◌∙◌, subst, ◌⊎◌, inl, inr, arith}
use Rattle.std.specs.List.{count_by}
use Rattle.std.specs.Option.{option_and_then}
use Rattle.std.proofs.lemmas.Bool.Decides.{eqb_tells}
use Rattle.std.proofs.lemmas.List.Sums.{sum_by-cons}
use Rattle.posix_defs.specs.Pipe.{Pipe, fifo_of}
use Rattle.posix_defs.specs.Files.Descriptions.{Target, OnNode, OnPipe, OnSocket, Description, Descriptions, description_at, may_read, may_write}
use Rattle.posix_defs.specs.Files.Whole.{is_pipe, is_read_end, is_write_end}
use Rattle.machine_laws.specs.Piped.{ArePiped, pipe_in}
use Rattle.machine_laws.proofs.FifoPlaces.{fifo_in}
use Rattle.machine_laws.proofs.Items.{true_false}
use Rattle.machine_laws.proofs.Openers.{Opener, node_in}

-- where some pass a test, one is there that does
count_there : {X : Type 0} (p : X → Bool) (xs : List X) (d : X) → 0 < count_by p xs → (i : ℕ) × (i < length xs) × (p (slice_index_or xs i d) ≡ true)
count_there p [] d h = absurd (let none : 0 < 0 = h in omega arith)
count_there p (x ∷ xs) d h = go (p x) refl (λ some. count_there p xs d some)
  where
    go : (b : Bool) → p x ≡ b → (0 < count_by p xs → (i : ℕ) × (i < length xs) × (p (slice_index_or xs i d) ≡ true))
        → (i : ℕ) × (i < length (x ∷ xs)) × (p (slice_index_or (x ∷ xs) i d) ≡ true)
    go true is behind = (0, omega arith, is)
    go false is behind = let e : count_by p (x ∷ xs) ≡ cond (p x) 1 0 + count_by p xs = sum_by-cons (λ x. cond (p x) 1 0) x xs in
        let none : cond {A = ℕ} (p x) 1 0 ≡ 0 = ap (λ b. cond {A = ℕ} b 1 0) is in
        let rest = behind (omega arith) in
        (suc rest.0, (let k : rest.0 < length xs = rest.1 in omega arith), rest.2)

first_holds : (a b : Bool) → (a && b) ≡ true → a ≡ true
first_holds true b e = refl
first_holds false b e = absurd (true_false false e refl)

-- an end of a pipe is open on it
on_pipe : (place : ℕ) (target : Target) → is_pipe place target ≡ true → target ≡ OnPipe place
on_pipe place (OnNode number) e = absurd (true_false false e refl)
on_pipe place (OnPipe other) e = elim (eqb_tells other place) [ inl alike ↦ ap OnPipe alike.1 | inr apart ↦ absurd (true_false (other == place) e apart.0) ]
on_pipe place (OnSocket other) e = absurd (true_false false e refl)

pub fifo_held : (descriptions : Descriptions) (pipes : List (Option Pipe)) → ArePiped descriptions pipes → (place number : ℕ) → fifo_in pipes place ≡ Some number → Opener descriptions pipes number
fifo_held descriptions pipes piped place number of = go (pipe_in pipes place) refl of
  where
    reads : (i : ℕ) (o : Option Description) → description_at descriptions i ≡ o → is_read_end place o ≡ true → Opener descriptions pipes number
    reads i None is e = absurd (true_false false e refl)
    reads i (Some description) is e = record {
      place = i;
      description = description;
      is = is;
      on = ap (node_in pipes) (on_pipe place description.target (first_holds (is_pipe place description.target) (may_read description.access) e)) ∙ of;
    }

    writes : (i : ℕ) (o : Option Description) → description_at descriptions i ≡ o → is_write_end place o ≡ true → Opener descriptions pipes number
    writes i None is e = absurd (true_false false e refl)
    writes i (Some description) is e = record {
      place = i;
      description = description;
      is = is;
      on = ap (node_in pipes) (on_pipe place description.target (first_holds (is_pipe place description.target) (may_write description.access) e)) ∙ of;
    }

    some : (n : ℕ) → (0 < n) ⊎ (n ≡ 0)
    some zero = inr refl
    some (suc n) = inl (omega arith)

    go : (o : Option Pipe) → pipe_in pipes place ≡ o → fifo_in pipes place ≡ Some number → Opener descriptions pipes number
    go None is f = absurd (true_false false (sym (ap (λ o. is_some (option_and_then fifo_of o)) is) ∙ ap is_some f) refl)
    go (Some pipe) is f = let counted = piped.counted place pipe is in elim (some pipe.readers) [
      | inl reader ↦ let here = count_there (is_read_end place) descriptions None (subst (λ n. 0 < n) counted.readers reader) in
          reads here.0 (description_at descriptions here.0) refl here.2
      | inr none ↦ let here = count_there (is_write_end place) descriptions None (let all : 0 < pipe.readers + pipe.writers = piped.some_end place pipe is in
          let same : pipe.writers ≡ count_by (is_write_end place) descriptions = counted.writers in omega arith) in
          writes here.0 (description_at descriptions here.0) refl here.2
    ]
