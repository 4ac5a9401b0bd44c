use Rattle.std.proofs.Common.{◌≡◌, ℕ, zero, suc, ◌==◌, ◌/◌, ◌%◌, ◌&&◌, Bool, true, false, get_or, replicate, nat_lt, ap, refl, ◌∙◌}
use Rattle.std.specs.Int.{bit_at}
use Rattle.std.proofs.lemmas.Nat.Bits.{bit_at-zero}
use Rattle.path_calls.specs.Nodes.{most_nodes}
use Rattle.path_calls.proofs.node_set.NodeSet.new.Goals as goal

zeros : (n k : ℕ) → get_or (replicate {A = ℕ} n 0) k 0 ≡ 0
zeros zero k = refl
zeros (suc n) zero = refl
zeros (suc n) (suc k) = zeros n k

neither : (b : Bool) → (b && false) ≡ false
neither true = refl
neither false = refl

pub returns : goal.returns
returns c = λ number.
    ap (λ byte. nat_lt number most_nodes && (bit_at byte (number % 8) == 1)) (zeros 1024 (number / 8))
    ∙ ap (λ bit. nat_lt number most_nodes && (bit == 1)) (bit_at-zero (number % 8))
    ∙ neither (nat_lt number most_nodes)
