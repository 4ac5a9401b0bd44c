-- What is given out by the worked use.
use Rattle.std.proofs.Common.{◌≡◌, ℕ, Bool, true, false, true≢false, cond, eqb, List, [], ◌∷◌, ◌++◌, refl, sym, ap, ◌∙◌, subst, eq-eqb, append-nil}
use Rattle.std.proofs.lemmas.Bool.{eqb-true}
use Rattle.std.specs.Prelude.{Option, Some, None}
use Rattle.turn_words.specs.declared.items.Item.{Item}
use Rattle.turn_words.specs.declared.items.Item.TheVariants.{Given, Back, Quiet}
use Rattle.turn_words.specs.Items.{Placed, is_given, heard, holds}
use Rattle.shared_trials.specs.Desk.{IsDesk}
use Rattle.turn_words.proofs.Held.{given_more, holds_more}
use Rattle.turn_words.proofs.Notes.{heard_more}

both_same : (b : Bool) → cond b b false ≡ b
both_same true = refl
both_same false = refl

never : (b : Bool) → cond b false b ≡ false
never true = refl
never false = refl

given_out : (items : List Item) (pid : ℕ) → IsDesk None items → IsDesk (Some pid) (items ++ Given pid ∷ [])
given_out items pid none_given other =
    given_more other false items (Given pid) ∙ (ap (λ (b : Bool). cond (eqb pid other) (eqb pid other) b) (none_given other) ∙ both_same (eqb pid other))

pub gives_out : (seen : List Item) (pid : ℕ) → IsDesk None (heard seen) → IsDesk (Some pid) (heard (seen ++ Given pid ∷ []))
gives_out seen pid none_given = subst (IsDesk (Some pid)) (sym (heard_more seen (Given pid))) (given_out (heard seen) pid none_given)

gone_back : (items : List Item) (pid : ℕ) → IsDesk (Some pid) items → IsDesk None (items ++ Back pid ∷ [])
gone_back items pid given other =
    given_more other false items (Back pid) ∙ (ap (λ (b : Bool). cond (eqb pid other) false b) (given other) ∙ never (eqb pid other))

pub goes_back : (seen : List Item) (pid : ℕ) → IsDesk (Some pid) (heard seen) → IsDesk None (heard (seen ++ Back pid ∷ []))
goes_back seen pid given = subst (IsDesk None) (sym (heard_more seen (Back pid))) (gone_back (heard seen) pid given)

pub stays : (desk : Option ℕ) (seen : List Item) → IsDesk desk (heard seen) → IsDesk desk (heard (seen ++ Quiet ∷ []))
stays desk seen stands = subst (IsDesk desk) (sym (heard_more seen Quiet)) (subst (IsDesk desk) (sym (append-nil (heard seen))) stands)

-- what is given out is what the desk keeps
pub found : (desk : Option ℕ) (items : List Item) (pid : ℕ) → IsDesk desk items → is_given pid items ≡ true → desk ≡ Some pid
found None items pid stands is = absurd (true≢false (sym is ∙ stands pid))
found (Some given) items pid stands is = ap Some (eqb-true given pid (sym (stands pid) ∙ is))

pub held_now : (mine : List Placed) (place pid : ℕ) → holds pid (mine ++ (place, Given pid) ∷ []) ≡ true
held_now mine place pid = holds_more pid mine (place, Given pid) ∙ (ap (λ (b : Bool). cond b b (holds pid mine)) (eq-eqb pid pid refl))
