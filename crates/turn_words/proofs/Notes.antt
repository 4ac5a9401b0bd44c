-- What one item more adds to what is noted and heard.
use Rattle.std.proofs.Common.{◌≡◌, ◌≤◌, List, [], ◌∷◌, ◌++◌, length, refl, ap, sym, ◌∙◌, subst, arith, append_assoc, append-nil}
use Rattle.turn_words.specs.declared.items.Item.{Item}
use Rattle.turn_words.specs.declared.items.Item.TheVariants.{Noted, Cleared, Given, Back, Starved, Live, Quiet}
use Rattle.turn_words.specs.Items.{entry_of, heard, noted, said}
use Rattle.turn_words.specs.Laws.{NotedGoesOn}
use Rattle.turn_words.specs.Rule.{MayPut}

pub noted_more : (history : List Item) (x : Item) → noted (history ++ x ∷ []) ≡ noted history ++ entry_of x
noted_more [] x = append-nil (entry_of x)
noted_more (y ∷ history) x = ap (λ l. entry_of y ++ l) (noted_more history x) ∙ sym (append_assoc (entry_of y) (noted history) (entry_of x))

pub heard_more : (history : List Item) (x : Item) → heard (history ++ x ∷ []) ≡ heard history ++ said x
heard_more [] x = append-nil (said x)
heard_more (y ∷ history) x = ap (λ l. said y ++ l) (heard_more history x) ∙ sym (append_assoc (said y) (heard history) (said x))

pub goes_on : NotedGoesOn
goes_on history x = (noted_more history x, heard_more history x)

one_said : (x : Item) → length (said x) ≤ 1
one_said (Noted e) = omega arith
one_said (Cleared what live) = omega arith
one_said (Given pid) = omega arith
one_said (Back pid) = omega arith
one_said Starved = omega arith
one_said (Live n) = omega arith
one_said Quiet = omega arith

-- a value that stands for what was taken with one item behind it may be put back
pub may_put : {T : Type 0} (stands : T → List Item → Type 0) (seen : List Item) (value : T) (x : Item) → stands value (heard (seen ++ x ∷ [])) → MayPut stands (heard seen) value
may_put stands seen value x st = (heard seen ++ said x, (subst (λ l. stands value l) (heard_more seen x) st, (said x, one_said x, refl)))
