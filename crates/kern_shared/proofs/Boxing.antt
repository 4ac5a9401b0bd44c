-- What the box around the kernel's value keeps, behind one item more.
use Rattle.std.proofs.Common.{◌≡◌, ℕ, ◌+◌, ◌-◌, ◌≤◌, ◌==◌, ◌&&◌, cond, Bool, true, false, true≢false, List, [], ◌∷◌, ◌++◌, length, refl, ap, sym, ◌∙◌, subst, arith, append-nil, length-append}
use Rattle.std.specs.Prelude.{nat_le}
use Rattle.kabi_types.specs.declared.calls.Call.{Call}
use Rattle.kabi_types.specs.declared.scripts.Script.{Script}
use Rattle.posix_defs.specs.History.{Past}
use Rattle.posix_defs.specs.Needs.{bound}
use Rattle.posix_defs.specs.Sizes.{room}
use Rattle.charge_words.specs.declared.rule.ChargeView.{ChargeView}
use Rattle.turn_words.specs.declared.items.Item.{Item}
use Rattle.turn_words.specs.declared.items.Item.TheVariants.{Noted, Cleared, Given, Back, Starved, Live, Quiet}
use Rattle.turn_words.specs.Items.{entry_of, noted, said}
use Rattle.kern_shared.specs.declared.attends.Attended.{Attended}
use Rattle.kern_shared.specs.declared.attends.Attended.TheVariants as attended
use Rattle.kern_shared.specs.declared.picks.Picked.{Picked}
use Rattle.kern_shared.specs.declared.picks.Picked.TheVariants as picked
use Rattle.kern_shared.specs.Attends.{HasReserved, ReservesNothing, TakesIn, TellsSpent, told_item}
use Rattle.kern_shared.specs.Boxed.{IsBoxed, IsIdle, is_idle, is_quiet, reserved_by, times_reserved}
use Rattle.kern_shared.specs.Picks.{Picks, picked_item}
use Rattle.kern_shared.specs.Shared.{IsShared}

-- more items tell of no less
never_less : (script : Script) (left : ℕ) (items more : List Item) → times_reserved script left items ≤ times_reserved script left (items ++ more)
never_less script left [] more = omega arith
never_less script left (x ∷ items) more =
    let rest = never_less script (left - length (entry_of x)) items more in omega (arith, rest)

-- one item more tells of what it does where so many entries are behind
one_more : (script : Script) (left : ℕ) (items : List Item) (x : Item)
    → times_reserved script left (items ++ x ∷ []) ≡ times_reserved script left items + reserved_by script (left - length (noted items)) x
one_more script left [] x =
    let same : left ≡ left - length (noted []) = omega arith in
    let told = ap (λ (n : ℕ). reserved_by script n x) same in
    omega (arith, told)
one_more script left (y ∷ items) x =
    let rest = one_more script (left - length (entry_of y)) items x in
    let many : length (noted (y ∷ items)) ≡ length (entry_of y) + length (noted items) = length-append (entry_of y) (noted items) in
    let same : (left - length (entry_of y)) - length (noted items) ≡ left - length (noted (y ∷ items)) = omega (arith, many) in
    let here = rest ∙ ap (λ (n : ℕ). times_reserved script (left - length (entry_of y)) items + reserved_by script n x) same in
    omega (arith, here)

once_at_most : (b : Bool) → cond b 1 0 ≤ 1
once_at_most true = omega arith
once_at_most false = omega arith

no_more : (n : ℕ) → n ≤ n
no_more n = omega arith

-- what was reserved for an answer is what its item tells, at most
told_reserved : (script : Script) (steps : ℕ) (items : List Item) (pid : ℕ) (call : Call) (answer : Attended) → TellsSpent steps items answer
    → cond (nat_le (bound call) (room script.heap)) 1 0 ≤ reserved_by script (steps - length (noted items)) (told_item pid call answer)
told_reserved script steps items pid call (attended.Done reply) tells = once_at_most (nat_le (bound call) (room script.heap))
told_reserved script steps items pid call (attended.Part moved) tells = once_at_most (nat_le (bound call) (room script.heap))
told_reserved script steps items pid call attended.Refused tells = no_more (cond (nat_le (bound call) (room script.heap)) 1 0)
told_reserved script steps items pid call attended.Sleep tells = once_at_most (nat_le (bound call) (room script.heap))
told_reserved script steps items pid call (attended.Short charged need) tells = absurd tells
told_reserved script steps items pid call (attended.Ended status) tells = once_at_most (nat_le (bound call) (room script.heap))
told_reserved script steps items pid call attended.Gone tells = once_at_most (nat_le (bound call) (room script.heap))
told_reserved script steps items pid call attended.Spent tells =
    let all : length (noted items) ≡ steps = tells in
    let none : steps - length (noted items) ≡ 0 = omega (arith, all) in
    subst (λ (n : ℕ). cond (nat_le (bound call) (room script.heap)) 1 0 ≤ cond (n == 0) 1 0) (sym none) (once_at_most (nat_le (bound call) (room script.heap)))

both : (b c : Bool) → (b && c) ≡ true → (b ≡ true) × (c ≡ true)
both true c h = (refl, h)
both false c h = absurd (true≢false (sym h))

-- a quiet item leaves the items
quiet_says : (items : List Item) (x : Item) → is_quiet x ≡ true → items ++ said x ≡ items
quiet_says items (Noted e) is = absurd (true≢false (sym is))
quiet_says items (Cleared what live) is = absurd (true≢false (sym is))
quiet_says items (Given pid) is = absurd (true≢false (sym is))
quiet_says items (Back pid) is = absurd (true≢false (sym is))
quiet_says items Starved is = absurd (true≢false (sym is))
quiet_says items (Live n) is = absurd (true≢false (sym is))
quiet_says items Quiet is = append-nil items

-- where a pick was answered Idle the next one may be so too
idle_behind : (script : Script) (steps : ℕ) (items : List Item) (result : Picked) → ((past : Past) → IsShared script steps items past → Picks script steps items past result)
    → is_idle result ≡ true → IsIdle script steps (items ++ said (picked_item result))
idle_behind script steps items (picked.Run pid call) picks is = absurd (true≢false (sym is))
idle_behind script steps items picked.Idle picks is = subst (IsIdle script steps) (sym (append-nil items)) picks
idle_behind script steps items (picked.Over which) picks is = absurd (true≢false (sym is))

module _ {S : Type 0} (stands : S → List Item → Type 0) (script : Script) (steps : ℕ) (state : S) (items : List Item) where
  -- a box at boot
  pub boxed_at_boot : (idle : Bool) (reserves : ℕ) → idle ≡ false → reserves ≡ 0 → stands state [] → IsBoxed stands script steps state idle reserves []
  boxed_at_boot idle reserves awake none value = record {
    value = value;
    nobody = λ is. absurd (true≢false (sym is ∙ awake));
    few = omega (arith, none);
  }

  -- behind a pick that asked nobody
  pub boxed_still : (idle : Bool) (reserves : ℕ) → IsBoxed stands script steps state idle reserves items → IsBoxed stands script steps state idle reserves (items ++ said Quiet)
  boxed_still idle reserves b = subst (IsBoxed stands script steps state idle reserves) (sym (append-nil items)) b

  -- behind a pick
  pub boxed_picked : (idle now : Bool) (old reserves : ℕ) (before : S) (result : Picked) → IsBoxed stands script steps before idle old items
      → now ≡ is_idle result → reserves ≡ old → ((past : Past) → IsShared script steps items past → Picks script steps items past result)
      → stands state (items ++ said (picked_item result)) → IsBoxed stands script steps state now reserves (items ++ said (picked_item result))
  boxed_picked idle now old reserves before result b told same picks value = record {
    value = value;
    nobody = λ is. idle_behind script steps items result picks (sym told ∙ is);
    few = (let few = b.few in let more = never_less script steps items (said (picked_item result)) in omega (arith, few, more, same));
  }

  -- behind a relief
  pub boxed_relieved : (idle now : Bool) (old seat : ChargeView) (before : S) (x : Item) → IsBoxed stands script steps before idle old.reserves items
      → now ≡ (idle && is_quiet x) → ReservesNothing old seat → stands state (items ++ said x) → IsBoxed stands script steps state now seat.reserves (items ++ said x)
  boxed_relieved idle now old seat before x b stays nothing value = record {
    value = value;
    nobody = λ is. let still = both idle (is_quiet x) (sym stays ∙ is) in subst (IsIdle script steps) (sym (quiet_says items x still.1)) (b.nobody still.0);
    few = (let few = b.few in let more = never_less script steps items (said x) in let same = nothing.reserves in omega (arith, few, more, same));
  }

  -- behind the answer to a call, for which a pass's seat has reserved
  pub boxed_turned : (idle now : Bool) (old seat own : ChargeView) (before : S) (pid : ℕ) (call : Call) (answer : Attended) → IsBoxed stands script steps before idle old.reserves items
      → now ≡ false → HasReserved script call own → TakesIn old seat own → TellsSpent steps items answer → stands state (items ++ told_item pid call answer ∷ [])
      → IsBoxed stands script steps state now seat.reserves (items ++ told_item pid call answer ∷ [])
  boxed_turned idle now old seat own before pid call answer b changed reserved takes tells value = record {
    value = value;
    nobody = λ is. absurd (true≢false (sym is ∙ changed));
    few = (
        let few = b.few in
        let more = one_more script steps items (told_item pid call answer) in
        let told = told_reserved script steps items pid call answer tells in
        let once = reserved.once in
        let sum = takes.reserves in
        omega (arith, few, more, told, once, sum)
        );
  }

  -- behind a process that was given back
  pub boxed_back : (idle now : Bool) (old reserves : ℕ) (before : S) (pid : ℕ) → IsBoxed stands script steps before idle old items → now ≡ false → reserves ≡ old
      → stands state (items ++ Back pid ∷ []) → IsBoxed stands script steps state now reserves (items ++ Back pid ∷ [])
  boxed_back idle now old reserves before pid b changed same value = record {
    value = value;
    nobody = λ is. absurd (true≢false (sym is ∙ changed));
    few = (let few = b.few in let more = never_less script steps items (Back pid ∷ []) in omega (arith, few, more, same));
  }
