-- What a turn leaves of a pass, by the item that it is passed on with.
use Rattle.std.proofs.Common.{◌≡◌, ℕ, ◌+◌, ◌==◌, ◌&&◌, not, ⊎_elim, cond, Bool, true, false, true≢false, List, [], ◌∷◌, ◌++◌, length, Option, None, Some, refl, ap, sym, ◌∙◌, subst, arith, eq-eqb}
use Rattle.std.proofs.lemmas.Bool.{eqb-true}
use Rattle.std.specs.Prelude.{nat_le}
use mathlib.Core.Option.{some}
use lib.ListN.{get_elem?}
use Rattle.atomic_table.proofs.Lists.{at_last, at_longer}
use Rattle.atomic_table.specs.Seated.{TableId}
use Rattle.kabi_types.specs.declared.calls.Call.{Call}
use Rattle.kabi_types.specs.declared.scripts.Script.{Script}
use Rattle.kern_events.specs.declared.reliefs.Relief.{Relief}
use Rattle.kern_events.specs.declared.reliefs.Relief.TheVariants as relief
use Rattle.posix_defs.specs.History.{Past}
use Rattle.posix_defs.specs.Needs.{bound}
use Rattle.posix_defs.specs.Plain.{call_of}
use Rattle.posix_defs.specs.Process.{is_alive}
use Rattle.posix_defs.specs.Sizes.{room}
use Rattle.charge_words.specs.declared.rule.ChargeView.{ChargeView}
use Rattle.charge_words.specs.Names.{ChargeWord, SeatState as ChargeState}
use Rattle.turn_words.specs.declared.items.Item.{Item}
use Rattle.turn_words.specs.declared.items.Item.TheVariants.{Noted, Cleared, Given, Back, Starved, Live, Quiet}
use Rattle.turn_words.specs.declared.rule.TurnView.{TurnView}
use Rattle.turn_words.specs.Items.{Has, Placed, gives, heard, holds, is_given, is_of, said}
use Rattle.turn_words.specs.Rule.{AreIn, MayGive, MayReturn, Told}
use Rattle.turn_words.specs.Seats.{SeatState as TurnState}
use Rattle.turn_words.proofs.Held.{given_more, has_end, holds_more, rises_more}
use Rattle.turn_words.proofs.Lists.{at_below}
use Rattle.turn_words.proofs.Notes.{heard_more}
use Rattle.kern_shared.specs.declared.attends.Attended.{Attended}
use Rattle.kern_shared.specs.declared.attends.Attended.TheVariants as attended
use Rattle.kern_shared.specs.declared.picks.Picked.{Picked}
use Rattle.kern_shared.specs.declared.picks.Picked.TheVariants as picked
use Rattle.kern_shared.specs.Attends.{HasReserved, HoldsCall, IsUnused, TellsSpent, told_item}
use Rattle.kern_shared.specs.Boxed.{IsBoxed}
use Rattle.kern_shared.specs.Passes.{AttendsTo, HoldsJust, HoldsPicked, IsAtRest, PassesOn, PutsBack, Takes, TurnsInTurn, given_behind, given_by, is_given_one}
use Rattle.kern_shared.specs.Picks.{Picks, picked_item}
use Rattle.kern_shared.specs.Relieves.{Relieves}
use Rattle.kern_shared.specs.Shared.{IsShared, goes_on, is_free, sleeps_on}
use Rattle.kern_shared.proofs.Along.{call_at_take, call_stands}
use Rattle.kern_shared.proofs.OnePast.{one_past}

same_both : (b : Bool) → cond b b false ≡ b
same_both true = refl
same_both false = refl

none_left : (b : Bool) → cond b false b ≡ false
none_left true = refl
none_left false = refl

-- an item that is none of any process's own
abbrev pub OfNobody : Item → Type 0
OfNobody x = (pid : ℕ) → is_of pid x ≡ false

-- behind such an item a pass holds what it held
pub holds_still : (given : Option ℕ) (mine : List Placed) (n : ℕ) (x : Item) → OfNobody x → HoldsJust given mine → HoldsJust given (mine ++ (n, x) ∷ [])
holds_still given mine n x nobody just pid = holds_more pid mine (n, x) ∙ ap (λ (b : Bool). cond b (gives pid x) (holds pid mine)) (nobody pid) ∙ just pid

-- behind a Given one that held none holds that one
pub holds_given : (mine : List Placed) (n p : ℕ) → HoldsJust None mine → HoldsJust (Some p) (mine ++ (n, Given p) ∷ [])
holds_given mine n p just pid = holds_more pid mine (n, Given p) ∙ ap (λ (b : Bool). cond (p == pid) (p == pid) b) (just pid) ∙ same_both (p == pid)

-- behind a Back, or an entry of its own, of the process that it held, it holds none
pub holds_back : (mine : List Placed) (n p : ℕ) → HoldsJust (Some p) mine → HoldsJust None (mine ++ (n, Back p) ∷ [])
holds_back mine n p just pid = holds_more pid mine (n, Back p) ∙ ap (λ (b : Bool). cond (p == pid) false b) (just pid) ∙ none_left (p == pid)

-- the item of an answer that comes of a turn
abbrev pub OfTurn : Attended → Type 0
OfTurn (attended.Short _ _) = ⊥
OfTurn _ = Unit {0}

told_returns : (mine : List Placed) (n p : ℕ) (call : Call) (answer : Attended) → OfTurn answer → HoldsJust (Some p) mine → (pid : ℕ)
    → cond (is_of pid (told_item p call answer)) (gives pid (told_item p call answer)) (holds pid mine) ≡ false
told_returns mine n p call (attended.Done _) turn just pid = ap (λ (b : Bool). cond (p == pid) false b) (just pid) ∙ none_left (p == pid)
told_returns mine n p call (attended.Part _) turn just pid = ap (λ (b : Bool). cond (p == pid) false b) (just pid) ∙ none_left (p == pid)
told_returns mine n p call attended.Refused turn just pid = ap (λ (b : Bool). cond (p == pid) false b) (just pid) ∙ none_left (p == pid)
told_returns mine n p call attended.Sleep turn just pid = ap (λ (b : Bool). cond (p == pid) false b) (just pid) ∙ none_left (p == pid)
told_returns mine n p call (attended.Short _ _) turn just pid = absurd turn
told_returns mine n p call (attended.Ended _) turn just pid = ap (λ (b : Bool). cond (p == pid) false b) (just pid) ∙ none_left (p == pid)
told_returns mine n p call attended.Gone turn just pid = ap (λ (b : Bool). cond (p == pid) false b) (just pid) ∙ none_left (p == pid)
told_returns mine n p call attended.Spent turn just pid = ap (λ (b : Bool). cond (p == pid) false b) (just pid) ∙ none_left (p == pid)

pub holds_told : (mine : List Placed) (n p : ℕ) (call : Call) (answer : Attended) → OfTurn answer → HoldsJust (Some p) mine → HoldsJust None (mine ++ (n, told_item p call answer) ∷ [])
holds_told mine n p call answer turn just pid = holds_more pid mine (n, told_item p call answer) ∙ told_returns mine n p call answer turn just pid

-- an item of an answer is one of that process, and gives nobody
told_of_it : (p : ℕ) (call : Call) (answer : Attended) → OfTurn answer → (pid : ℕ) → (is_of pid (told_item p call answer) ≡ (p == pid)) × (gives pid (told_item p call answer) ≡ false)
told_of_it p call (attended.Done _) turn pid = (refl, refl)
told_of_it p call (attended.Part _) turn pid = (refl, refl)
told_of_it p call attended.Refused turn pid = (refl, refl)
told_of_it p call attended.Sleep turn pid = (refl, refl)
told_of_it p call (attended.Short _ _) turn pid = absurd turn
told_of_it p call (attended.Ended _) turn pid = (refl, refl)
told_of_it p call attended.Gone turn pid = (refl, refl)
told_of_it p call attended.Spent turn pid = (refl, refl)

pub told_may_return : (mine : List Placed) (p : ℕ) (call : Call) (answer : Attended) → OfTurn answer → HoldsJust (Some p) mine → MayReturn mine (told_item p call answer)
told_may_return mine p call answer turn just pid of gives_not = just pid ∙ sym (told_of_it p call answer turn pid).0 ∙ of

pub told_may_give : (items : List Item) (p : ℕ) (call : Call) (answer : Attended) → OfTurn answer → MayGive items (told_item p call answer)
told_may_give items p call answer turn pid gave = absurd (true≢false (sym gave ∙ (told_of_it p call answer turn pid).1))

pub back_may_return : (mine : List Placed) (p : ℕ) → HoldsJust (Some p) mine → MayReturn mine (Back p)
back_may_return mine p just pid of gives_not = just pid ∙ of

pub nobody_may_return : (mine : List Placed) (x : Item) → OfNobody x → MayReturn mine x
nobody_may_return mine x nobody pid of gives_not = absurd (true≢false (sym of ∙ nobody pid))

pub held_one : (given : Option ℕ) (mine : List Placed) (pid : ℕ) → HoldsJust given mine → given ≡ Some pid → holds pid mine ≡ true
held_one given mine pid just given_is = just pid ∙ ap (λ o. is_given_one o pid) given_is ∙ eq-eqb pid pid refl

pub just_one : (given : Option ℕ) (mine : List Placed) (pid : ℕ) → HoldsJust given mine → given ≡ Some pid → HoldsJust (Some pid) mine
just_one given mine pid just given_is = subst (λ o. HoldsJust o mine) given_is just

-- an answer of a turn is one
pub of_turn : (steps : ℕ) (items : List Item) (answer : Attended) → TellsSpent steps items answer → OfTurn answer
of_turn steps items (attended.Done _) tells = tt
of_turn steps items (attended.Part _) tells = tt
of_turn steps items attended.Refused tells = tt
of_turn steps items attended.Sleep tells = tt
of_turn steps items (attended.Short _ _) tells = tells
of_turn steps items (attended.Ended _) tells = tt
of_turn steps items attended.Gone tells = tt
of_turn steps items attended.Spent tells = tt

pub none_behind : (given : Option ℕ) (answer : Attended) → OfTurn answer → None ≡ given_behind given answer
none_behind given (attended.Done _) turn = refl
none_behind given (attended.Part _) turn = refl
none_behind given attended.Refused turn = refl
none_behind given attended.Sleep turn = refl
none_behind given (attended.Short _ _) turn = absurd turn
none_behind given (attended.Ended _) turn = refl
none_behind given attended.Gone turn = refl
none_behind given attended.Spent turn = refl

pub attends_by : {T : Type 0} (stands : T → List Item → Type 0) (script : Script) (steps : ℕ) (turn after : TurnState T) (before own : ChargeView) (pid : ℕ) (call : Call) (answer : Attended)
    → OfTurn answer → TurnsInTurn stands script steps turn.known after.known pid call answer → AttendsTo stands script steps turn after before own pid call answer
attends_by stands script steps turn after before own pid call (attended.Done _) of h = h
attends_by stands script steps turn after before own pid call (attended.Part _) of h = h
attends_by stands script steps turn after before own pid call attended.Refused of h = h
attends_by stands script steps turn after before own pid call attended.Sleep of h = h
attends_by stands script steps turn after before own pid call (attended.Short _ _) of h = absurd of
attends_by stands script steps turn after before own pid call (attended.Ended _) of h = h
attends_by stands script steps turn after before own pid call attended.Gone of h = h
attends_by stands script steps turn after before own pid call attended.Spent of h = h

-- what is passed on by a pick
pub given_not : (script : Script) (items : List Item) (past : Past) (pid : ℕ) → is_free script items past pid ≡ true → is_given pid items ≡ false
given_not script items past pid free = by_test (is_alive past.plain.table pid) (is_given pid items) (not (sleeps_on script items past pid)) free
  where
    by_test : (a b c : Bool) → (a && not b && c) ≡ true → b ≡ false
    by_test a false c h = refl
    by_test true true c h = absurd (true≢false (sym h))
    by_test false true c h = absurd (true≢false (sym h))

pub picked_may_return : (mine : List Placed) (result : Picked) → MayReturn mine (picked_item result)
picked_may_return mine (picked.Run p call) pid of gives_not = absurd (true≢false (sym of ∙ gives_not))
picked_may_return mine picked.Idle pid of gives_not = absurd (true≢false (sym of))
picked_may_return mine (picked.Over which) pid of gives_not = absurd (true≢false (sym of))

pub picked_may_give : (script : Script) (steps : ℕ) (items : List Item) (past : Past) (result : Picked) → Picks script steps items past result → MayGive items (picked_item result)
picked_may_give script steps items past (picked.Run p call) picks pid gave =
    subst (λ (k : ℕ). is_given k items ≡ false) (eqb-true p pid gave) (given_not script items past p picks.0.free)
picked_may_give script steps items past picked.Idle picks pid gave = absurd (true≢false (sym gave))
picked_may_give script steps items past (picked.Over which) picks pid gave = absurd (true≢false (sym gave))

pub holds_picked : (mine : List Placed) (n : ℕ) (result : Picked) → HoldsJust None mine → HoldsJust (given_by result) (mine ++ (n, picked_item result) ∷ [])
holds_picked mine n (picked.Run p call) just = holds_given mine n p just
holds_picked mine n picked.Idle just = holds_still None mine n Quiet (λ pid. refl) just
holds_picked mine n (picked.Over which) just = holds_still None mine n Quiet (λ pid. refl) just

pub holds_by : (given now : Option ℕ) (mine : List Placed) (n : ℕ) (result : Picked) → given ≡ None → now ≡ given_by result → HoldsJust given mine
    → HoldsJust now (mine ++ (n, picked_item result) ∷ [])
holds_by given now mine n result none is just =
    subst (λ o. HoldsJust o (mine ++ (n, picked_item result) ∷ [])) (sym is) (holds_picked mine n result (subst (λ o. HoldsJust o mine) none just))

-- what may be put back and passed on as an item may be so as the same item by another name
pub shares_as : {S : Type 0} (stands : S → List Item → Type 0) (script : Script) (steps : ℕ) (state : S) (idle : Bool) (reserves : ℕ) (items : List Item) (x item : Item)
    → x ≡ item → IsBoxed stands script steps state idle reserves (items ++ said item) → IsBoxed stands script steps state idle reserves (items ++ said x)
shares_as stands script steps state idle reserves items x item same s = subst (λ i. IsBoxed stands script steps state idle reserves (items ++ said i)) (sym same) s

told_said : (p : ℕ) (call : Call) (answer : Attended) → OfTurn answer → told_item p call answer ∷ [] ≡ said (told_item p call answer)
told_said p call (attended.Done _) turn = refl
told_said p call (attended.Part _) turn = refl
told_said p call attended.Refused turn = refl
told_said p call attended.Sleep turn = refl
told_said p call (attended.Short _ _) turn = absurd turn
told_said p call (attended.Ended _) turn = refl
told_said p call attended.Gone turn = refl
told_said p call attended.Spent turn = refl

pub told_shares : {S : Type 0} (stands : S → List Item → Type 0) (script : Script) (steps : ℕ) (state : S) (idle : Bool) (reserves : ℕ) (items : List Item)
    (p : ℕ) (call : Call) (answer : Attended) → OfTurn answer → IsBoxed stands script steps state idle reserves (items ++ told_item p call answer ∷ [])
    → IsBoxed stands script steps state idle reserves (items ++ said (told_item p call answer))
told_shares stands script steps state idle reserves items p call answer turn s =
    subst (λ l. IsBoxed stands script steps state idle reserves (items ++ l)) (told_said p call answer turn) s

pub returns_as : (before mine : List Placed) (x item : Item) → mine ≡ before → x ≡ item → MayReturn before item → MayReturn mine x
returns_as before mine x item mine_is same may = subst (λ l. MayReturn l x) (sym mine_is) (subst (MayReturn before) (sym same) may)

pub gives_as : (items : List Item) (x item : Item) → x ≡ item → MayGive items item → MayGive items x
gives_as items x item same may = subst (MayGive items) (sym same) may

-- what is passed on by a relief is nobody's
pub relief_of_nobody : (script : Script) (steps : ℕ) (items : List Item) (past : Past) (word : ℕ) (result : Relief) (x : Item) → Relieves script steps items past word result x → OfNobody x
relief_of_nobody script steps items past word relief.Spent x h pid = ap (is_of pid) h.1
relief_of_nobody script steps items past word relief.NoneWaiting x h pid = ap (is_of pid) h.2
relief_of_nobody script steps items past word (relief.Fits _) x h pid = ap (is_of pid) h.4
relief_of_nobody script steps items past word (relief.Outstanding _ _) x h pid = ap (is_of pid) h.3
relief_of_nobody script steps items past word (relief.Evicted _) x h pid = ap (is_of pid) h.1.2
relief_of_nobody script steps items past word (relief.Killed _) x h pid = ap (is_of pid) h.1.5
relief_of_nobody script steps items past word relief.Starved x h pid = ap (is_of pid) h.2

gives_nobody : (x : Item) → OfNobody x → (pid : ℕ) → gives pid x ≡ false
gives_nobody (Noted e) nobody pid = refl
gives_nobody (Cleared what live) nobody pid = refl
gives_nobody (Given other) nobody pid = nobody pid
gives_nobody (Back other) nobody pid = refl
gives_nobody Starved nobody pid = refl
gives_nobody (Live n) nobody pid = refl
gives_nobody Quiet nobody pid = refl

pub nobody_may_give : (items : List Item) (x : Item) → OfNobody x → MayGive items x
nobody_may_give items x nobody pid gave = absurd (true≢false (sym gave ∙ gives_nobody x nobody pid))

-- one item more of the pass's own, at the place behind all that it has seen
in_more : (mine : List Placed) (seen : List Item) (x : Item) → AreIn mine seen → AreIn (mine ++ (length seen, x) ∷ []) (seen ++ x ∷ [])
in_more mine seen x stand = (
  rises_more 0 mine (length seen, x) stand.0 (omega arith) (λ place y has. at_below seen place y (stand.1 place y has)),
  λ place y has. ⊎_elim
      (λ (old : Has mine place y). at_longer seen (x ∷ []) place y (stand.1 place y old))
      (λ (last : (length seen ≡ place) × (x ≡ y)).
      subst (λ (k : ℕ). get_elem? (seen ++ x ∷ []) k ≡ some y) last.0 (at_last seen x (length seen) refl ∙ ap some last.1))
      (has_end mine (length seen, x) place y has),
)

-- what holds of a value that was put back, by what it stands for
valued : {T : Type 0} (stands : T → List Item → Type 0) (taken : List Item) (x : Item) (after : TurnView T) (state : T) → stands state (heard taken ++ said x)
    → after.seen ≡ taken ++ x ∷ [] → after.value ≡ Some state → Told stands after.value (heard after.seen)
valued stands taken x after state st seen value =
    subst (λ o. Told stands o (heard after.seen)) (sym value)
    (subst (λ l. stands state (heard l)) (sym seen) (subst (λ l. stands state l) (sym (heard_more taken x)) st))

module _ {T : Type 0} (stands : T → List Item → Type 0) (before taken : TurnState T) (value : T) (takes : Takes stands before taken value) where
  -- the call of a held process is that of the value that was taken
  pub has_at_take : (script : Script) (steps : ℕ) (charge : ChargeWord) (turns : TableId) (old : ChargeState) (given : Option ℕ) (pid : ℕ) (call : Call)
      → IsAtRest script steps charge turns before old given → given ≡ Some pid → HoldsCall script steps (heard before.known.seen) pid call → HoldsCall script steps (heard taken.known.seen) pid call
  has_at_take script steps charge turns old given pid call rest given_is has =
      call_at_take script steps before.known.seen taken.known.seen before.known.mine pid call takes.seen rest.mine takes.last (held_one given before.known.mine pid rest.holds given_is) has

  pub given_at_take : (script : Script) (steps : ℕ) (charge : ChargeWord) (turns : TableId) (old : ChargeState) (given : Option ℕ) (pid : ℕ)
      → IsAtRest script steps charge turns before old given → given ≡ Some pid → is_given pid (heard taken.known.seen) ≡ true
  given_at_take script steps charge turns old given pid rest given_is = takes.given pid (held_one given before.known.mine pid rest.holds given_is)

module _ {T : Type 0} (stands : T → List Item → Type 0) (before taken after : TurnState T) (value state : T) (x : Item) (takes : Takes stands before taken value) (puts : PutsBack taken after state x) where
  -- the value that was put back stands for all that the pass has seen then
  pub passes : (item : Item) → x ≡ item → stands state (heard taken.known.seen ++ said item) → PassesOn stands before.known after.known taken.known.seen item
  passes item same st = subst (λ i. PassesOn stands before.known after.known taken.known.seen i) same (record {
    begins = takes.seen;
    seen = puts.seen;
    mine = puts.mine ∙ ap (λ l. l ++ (length taken.known.seen, x) ∷ []) takes.mine;
    value = valued stands taken.known.seen x after.known state (subst (λ i. stands state (heard taken.known.seen ++ said i)) (sym same) st) puts.seen puts.value;
    is_boot = puts.is_boot ∙ takes.is_boot;
    others = puts.others ∙ takes.others;
  })

  -- a pass between two calls again
  pub rests : (script : Script) (steps : ℕ) (charge : ChargeWord) (turns : TableId) (old own : ChargeState) (given now : Option ℕ) (item : Item) → x ≡ item
      → IsAtRest script steps charge turns before old given → own.charge ≡ charge → own.known.holds ≡ 0 → IsUnused own.known
      → (past : Past) × IsShared script steps (heard taken.known.seen ++ said item) past
      → HoldsJust now (before.known.mine ++ (length taken.known.seen, item) ∷ []) → IsAtRest script steps charge turns after own now
  rests script steps charge turns old own given now item same rest of_charge empty unused shared holds_now = record {
    of_turns = puts.turns ∙ takes.turns ∙ rest.of_turns;
    of_charge = of_charge;
    free = puts.free;
    empty = empty;
    unused = unused;
    shared = (
      shared.0,
      subst (λ l. IsShared script steps (heard l) shared.0) (sym seen_is) (subst (λ l. IsShared script steps l shared.0) (sym (heard_more taken.known.seen item)) shared.1),
    );
    mine = subst (λ l. AreIn after.known.mine l) (sym seen_is)
        (subst (λ l. AreIn l (taken.known.seen ++ item ∷ [])) (sym mine_is) (in_more taken.known.mine taken.known.seen item takes.placed));
    holds = subst (HoldsJust now) (sym (mine_is ∙ ap (λ l. l ++ (length taken.known.seen, item) ∷ []) takes.mine)) holds_now;
  }
    where
      seen_is : after.known.seen ≡ taken.known.seen ++ item ∷ []
      seen_is = puts.seen ∙ ap (λ i. taken.known.seen ++ i ∷ []) same

      mine_is : after.known.mine ≡ taken.known.mine ++ (length taken.known.seen, item) ∷ []
      mine_is = puts.mine ∙ ap (λ (i : Item). taken.known.mine ++ (length taken.known.seen, i) ∷ []) same

  -- behind an item that isn't one of its a process is held with its call still
  pub has_behind : (script : Script) (steps : ℕ) (pid : ℕ) (call : Call) → is_of pid x ≡ false → HoldsCall script steps (heard taken.known.seen) pid call
      → HoldsCall script steps (heard after.known.seen) pid call
  has_behind script steps pid call other has =
      subst (λ l. HoldsCall script steps (heard l) pid call) (sym puts.seen) (call_stands script steps taken.known.seen (x ∷ []) pid call (other, tt) has)

-- a seat that has reserved nothing still hasn't where the counts are as before
pub unused_still : (before after : ChargeView) → after.reserves ≡ before.reserves → after.raised ≡ before.raised → IsUnused before → IsUnused after
unused_still before after reserves raised unused = record { reserves = reserves ∙ unused.reserves; raised = raised ∙ unused.raised }

-- what was reserved once for a call, by a seat that had reserved nothing
pub has_reserved : (script : Script) (call : Call) (before after : ChargeView) (need : ℕ) → need ≡ bound call → IsUnused before
    → (after.reserves ≡ before.reserves + cond (nat_le need (room script.heap)) 1 0) × (after.raised ≡ before.raised + cond (nat_le need (room script.heap)) need 0)
    → HasReserved script call after
has_reserved script call before after need is unused counts =
    let here = subst (λ n. (after.reserves ≡ before.reserves + cond (nat_le n (room script.heap)) 1 0) × (after.raised ≡ before.raised + cond (nat_le n (room script.heap)) n 0)) is counts in
    let once : after.reserves ≡ before.reserves + cond (nat_le (bound call) (room script.heap)) 1 0 = here.0 in
    let raised : after.raised ≡ before.raised + cond (nat_le (bound call) (room script.heap)) (bound call) 0 = here.1 in
    let none = unused.reserves in
    let nothing = unused.raised in record { once = omega (arith, once, none); raised = omega (arith, raised, nothing) }

-- where only the charge seat has changed
pub rests_still : {T : Type 0} (script : Script) (steps : ℕ) (charge : ChargeWord) (turns : TableId) (turn : TurnState T) (old own : ChargeState) (given : Option ℕ)
    → IsAtRest script steps charge turns turn old given → own.charge ≡ charge → own.known.holds ≡ 0 → IsUnused own.known → IsAtRest script steps charge turns turn own given
rests_still script steps charge turns turn old own given rest of_charge empty unused = record {
  of_turns = rest.of_turns;
  of_charge = of_charge;
  free = rest.free;
  empty = empty;
  unused = unused;
  shared = rest.shared;
  mine = rest.mine;
  holds = rest.holds;
}

-- behind its Given a process is held with the call that it makes there
pub has_picked : (script : Script) (steps : ℕ) (taken after : List Item) (past : Past) (result : Picked) → after ≡ taken ++ picked_item result ∷ []
    → IsShared script steps (heard taken) past → Picks script steps (heard taken) past result → HoldsPicked script steps after result
has_picked script steps taken after past (picked.Run pid call) seen shared picks = record {
  given = ap (λ l. is_given pid (heard l)) seen ∙ ap (is_given pid) (heard_more taken (Given pid)) ∙ given_more pid false (heard taken) (Given pid) ∙ gives_it;
  is_call = λ last behind.
      let same : last ≡ past = one_past script steps (heard taken ++ Given pid ∷ []) last past
      (subst (λ l. IsShared script steps l last) (ap heard seen ∙ heard_more taken (Given pid)) behind)
      (goes_on (heard taken) past past (Given pid) shared (picks.0, refl)) in
      picks.1 ∙ ap (λ (p : Past). call_of script p.plain pid) (sym same);
}
  where
    gives_it : cond (is_of pid (Given pid)) (gives pid (Given pid)) (is_given pid (heard taken)) ≡ true
    gives_it = ap (λ (b : Bool). cond b b (is_given pid (heard taken))) (eq-eqb pid pid refl)
has_picked script steps taken after past picked.Idle seen shared picks = tt
has_picked script steps taken after past (picked.Over which) seen shared picks = tt
