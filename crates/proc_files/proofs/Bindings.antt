-- A table of names goes on where names stay.
use Rattle.std.proofs.Common.{◌≡◌, ℕ, ◌∙◌, sym, List, Option}
use Rattle.proc_files.specs.Names.{AreBound}

-- each key has the name that it had
pub bound_on : (name now : ℕ → Option ℕ) (names : List (Option ℕ)) → AreBound name names → ((key : ℕ) → now key ≡ name key) → AreBound now names
bound_on name now names are same = record {
  bound = λ node key at. same key ∙ are.bound node key at;
  named = λ key node is. are.named key node (sym (same key) ∙ is);
}
