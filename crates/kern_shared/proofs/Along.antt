-- A held process along a shared history: as long as none of its items comes, its control stands.
use Rattle.std.proofs.Common.{◌≡◌, ℕ, zero, suc, ◌<◌, ◌≤◌, ◌⊎◌, ⊎_elim, cond, Bool, true, false, true≢false, List, [], ◌∷◌, ◌++◌, length, refl, ap, sym, ◌∙◌, subst, inl, inr, arith, append_assoc, append-nil}
use mathlib.Core.List.{IsPrefix}
use mathlib.Core.Option.{some}
use lib.ListN.{get_elem?}
use Rattle.kabi_types.specs.declared.calls.Call.{Call}
use Rattle.kabi_types.specs.declared.scripts.Script.{Script}
use Rattle.posix_defs.specs.Control as program
use Rattle.posix_defs.specs.History.{Past}
use Rattle.posix_defs.specs.Plain.{control_of}
use Rattle.turn_words.specs.declared.items.Item.{Item}
use Rattle.turn_words.specs.declared.items.Item.TheVariants.{Noted, Cleared, Given, Back, Starved, Live, Quiet}
use Rattle.turn_words.specs.Items.{Placed, given_after, gives, heard, holds, is_given, is_of, said}
use Rattle.turn_words.specs.Rule.{AreIn, AreLast}
use Rattle.turn_words.proofs.Held.{given_more}
use Rattle.turn_words.proofs.Lists.{at_below}
use Rattle.kern_shared.specs.Attends.{HoldsCall}
use Rattle.kern_shared.specs.Shared.{IsShared, goes_on, starts}
use Rattle.kern_shared.proofs.OnePast.{same_more}
use Rattle.kern_shared.proofs.Standing.{controls_stand}

-- none of these items is one of the process
abbrev pub NoneOf : ℕ → List Item → Type 0
NoneOf pid [] = Unit {0}
NoneOf pid (x ∷ items) = (is_of pid x ≡ false) × NoneOf pid items

none_append : (pid : ℕ) (xs ys : List Item) → NoneOf pid xs → NoneOf pid ys → NoneOf pid (xs ++ ys)
none_append pid [] ys none rest = rest
none_append pid (x ∷ xs) ys none rest = (none.0, none_append pid xs ys none.1 rest)

none_said : (pid : ℕ) (x : Item) → is_of pid x ≡ false → NoneOf pid (said x)
none_said pid (Noted e) h = (h, tt)
none_said pid (Cleared what live) h = (h, tt)
none_said pid (Given other) h = (h, tt)
none_said pid (Back other) h = (h, tt)
none_said pid Starved h = (h, tt)
none_said pid (Live n) h = (h, tt)
none_said pid Quiet h = tt

pub none_heard : (pid : ℕ) (items : List Item) → NoneOf pid items → NoneOf pid (heard items)
none_heard pid [] none = tt
none_heard pid (x ∷ items) none = none_append pid (said x) (heard items) (none_said pid x none.0) (none_heard pid items none.1)

pub heard_append : (xs ys : List Item) → heard (xs ++ ys) ≡ heard xs ++ heard ys
heard_append [] ys = refl
heard_append (x ∷ xs) ys = ap (λ l. said x ++ l) (heard_append xs ys) ∙ sym (append_assoc (said x) (heard xs) (heard ys))

none_all : (pid : ℕ) (items : List Item) → ((k : ℕ) (x : Item) → get_elem? items k ≡ some x → is_of pid x ≡ false) → NoneOf pid items
none_all pid [] each = tt
none_all pid (x ∷ items) each = (each zero x refl, none_all pid items (λ k y at. each (suc k) y at))

-- behind a beginning, where none at a place from its end on is one of the process
none_behind : (pid : ℕ) (seen rest : List Item) → ((k : ℕ) (x : Item) → length seen ≤ k → get_elem? (seen ++ rest) k ≡ some x → is_of pid x ≡ false) → NoneOf pid rest
none_behind pid [] rest each = none_all pid rest (λ k x at. each k x (omega arith) at)
none_behind pid (y ∷ seen) rest each = none_behind pid seen rest (λ k x le at. each (suc k) x (omega arith) at)

-- what a pass holds none of whose items came since, as its items and the rule of the turns tell
pub none_since : (pid : ℕ) (seen rest : List Item) (mine : List Placed) → AreIn mine seen → AreLast mine (seen ++ rest) → holds pid mine ≡ true → NoneOf pid rest
none_since pid seen rest mine stand last held =
    let known = last pid held in
    let below : known.0 < length seen = at_below seen known.0 (Given pid) (stand.1 known.0 (Given pid) known.1) in
    none_behind pid seen rest (λ k x le at. known.2 k x (omega (arith, below, le)) at)

skip : (pid : ℕ) (before : Bool) (items : List Item) → NoneOf pid items → given_after pid before items ≡ before
skip pid before [] none = refl
skip pid before (x ∷ items) none = ap (λ (b : Bool). given_after pid (cond b (gives pid x) before) items) none.0 ∙ skip pid before items none.1

given_skip : (pid : ℕ) (before : Bool) (items more : List Item) → NoneOf pid more → given_after pid before (items ++ more) ≡ given_after pid before items
given_skip pid before [] more none = skip pid before more none
given_skip pid before (x ∷ items) more none = given_skip pid (cond (is_of pid x) (gives pid x) before) items more none

split_last : (xs : List Item) → (xs ≡ []) ⊎ ((m : List Item) × (y : Item) × (xs ≡ m ++ y ∷ []))
split_last [] = inl refl
split_last (x ∷ xs) = ⊎_elim
    (λ (e : xs ≡ []). inr ([], x, ap (λ l. x ∷ l) e))
    (λ (h : (m : List Item) × (y : Item) × (xs ≡ m ++ y ∷ [])). inr (x ∷ h.0, h.1, ap (λ l. x ∷ l) h.2))
    (split_last xs)

none_last : (pid : ℕ) (m : List Item) (y : Item) → NoneOf pid (m ++ y ∷ []) → NoneOf pid m × (is_of pid y ≡ false)
none_last pid [] y none = (tt, none.0)
none_last pid (x ∷ m) y none = let rest = none_last pid m y none.1 in ((none.0, rest.0), rest.1)

none_at_start : (pid : ℕ) (items more : List Item) → [] ≡ items ++ more → is_given pid items ≡ true → ⊥
none_at_start pid [] more is given = true≢false (sym given)
none_at_start pid (x ∷ items) more is given = cc

pub control_along : (script : Script) (steps : ℕ) (all : List Item) (last : Past) → IsShared script steps all last → (pid : ℕ) (items more : List Item) → all ≡ items ++ more
    → NoneOf pid more → is_given pid items ≡ true → (past : Past) × IsShared script steps items past × (control_of last.plain pid ≡ control_of past.plain pid)
control_along script steps _ _ starts pid items more is none given = absurd (none_at_start pid items more is given)
control_along script steps _ _ (goes_on before past next x shared may) pid items more is none given = ⊎_elim
    (λ (e : more ≡ []).
    let whole : before ++ x ∷ [] ≡ items = is ∙ ap (λ l. items ++ l) e ∙ append-nil items in
    (next, subst (λ l. IsShared script steps l next) whole (goes_on before past next x shared may), refl))
    (λ (h : (m : List Item) × (y : Item) × (more ≡ m ++ y ∷ [])).
    let parts = same_more before (items ++ h.0) x h.1 (is ∙ ap (λ l. items ++ l) h.2 ∙ sym (append_assoc items h.0 (h.1 ∷ []))) in
    let nones = none_last pid h.0 h.1 (subst (NoneOf pid) h.2 none) in
    let earlier = control_along script steps before past shared pid items h.0 parts.0 nones.0 given in
    let here : is_given pid before ≡ true = ap (is_given pid) parts.0 ∙ given_skip pid false items h.0 nones.0 ∙ given in
    let now : is_given pid (before ++ x ∷ []) ≡ true =
    given_more pid false before x ∙ ap (λ (b : Bool). cond b (gives pid x) (is_given pid before)) (ap (is_of pid) parts.1 ∙ nones.1) ∙ here in
    (earlier.0, earlier.1, controls_stand script steps before past next x shared may pid here now ∙ earlier.2))
    (split_last more)

-- a pass that holds a process with its call holds it so behind more items, none of which is one of the process
pub call_stands : (script : Script) (steps : ℕ) (seen rest : List Item) (pid : ℕ) (call : Call) → NoneOf pid rest → HoldsCall script steps (heard seen) pid call
    → HoldsCall script steps (heard (seen ++ rest)) pid call
call_stands script steps seen rest pid call none has = record {
  given = ap (is_given pid) (heard_append seen rest) ∙ given_skip pid false (heard seen) (heard rest) (none_heard pid rest none) ∙ has.given;
  is_call = λ last shared.
      let earlier = control_along script steps (heard (seen ++ rest)) last shared pid (heard seen) (heard rest) (heard_append seen rest) (none_heard pid rest none) has.given in
      has.is_call earlier.0 earlier.1 ∙ ap (program.call_of script) (sym earlier.2);
}

-- the same for what a pass has seen and for what it sees at its next take
pub call_at_take : (script : Script) (steps : ℕ) (seen taken : List Item) (mine : List Placed) (pid : ℕ) (call : Call) → IsPrefix seen taken → AreIn mine seen → AreLast mine taken
    → holds pid mine ≡ true → HoldsCall script steps (heard seen) pid call → HoldsCall script steps (heard taken) pid call
call_at_take script steps seen taken mine pid call begins stand last held has =
    subst (λ l. HoldsCall script steps (heard l) pid call) begins.1
    (call_stands script steps seen begins.0 pid call (none_since pid seen begins.0 mine stand (subst (AreLast mine) (sym begins.1) last) held) has)
