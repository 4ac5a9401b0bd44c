-- What a pick answers, and whether the run is over.
use Rattle.std.proofs.Common.{◌≡◌, ℕ, ◌+◌, ◌<◌, ◌≤◌, ◌==◌, ◌||◌, ◌&&◌, ◌⊎◌, not, ⊎_elim, Bool, true, false, true≢false, List, [], ◌∷◌, ◌++◌, length, Option, None, Some, refl, ap, sym, ◌∙◌, subst, inl, inr, arith, eq-eqb}
use Rattle.std.specs.List.{list_all}
use Rattle.std.proofs.lemmas.Bool.{eqb-true}
use Rattle.std.proofs.lemmas.Bool.Decides.{leb_tells}
use Rattle.kabi_types.specs.declared.calls.Call.{Call}
use Rattle.kabi_types.specs.declared.entries.End.{End}
use Rattle.kabi_types.specs.declared.entries.End.TheVariants as end
use Rattle.kabi_types.specs.declared.entries.Entry.{Entry}
use Rattle.kabi_types.specs.declared.scripts.Script.{Script}
use Rattle.posix_defs.specs.declared.turner.Turned.{Turned}
use Rattle.posix_defs.specs.History.{Past, is_among}
use Rattle.posix_defs.specs.Machine.{would_block}
use Rattle.posix_defs.specs.Needs.{bound}
use Rattle.posix_defs.specs.Plain.{Plain, call_of}
use Rattle.posix_defs.specs.Process.{is_alive}
use Rattle.posix_defs.specs.World.{World}
use Rattle.charge_words.specs.Names.{ChargeWord}
use Rattle.turn_words.specs.declared.items.Item.{Item}
use Rattle.turn_words.specs.declared.items.Item.TheVariants.{Given}
use Rattle.turn_words.specs.Items.{is_given, noted}
use Rattle.turn_words.proofs.Held.{contrary, not_true}
use Rattle.kern_shared.specs.declared.held.Held.{Held}
use Rattle.kern_shared.specs.Lists.{AreAlive, is_held, lowest}
use Rattle.kern_shared.specs.Picks.{EndsAs, IsLowestFree, IsOverAs, Says}
use Rattle.kern_shared.specs.Shared.{AllAsleep, IsOver, IsShared, MayGive, NobodyHeld, dozes, has_starved, is_free, sleeps_on}
use Rattle.kern_shared.specs.Shares.{AreHeld, ArePresent, KernelValue, Shares, pids_of}
use Rattle.kern_shared.proofs.Keeping.{behind_given, few_held}
use Rattle.kern_shared.proofs.Runs.{entries_within}
use Rattle.kern_shared.proofs.OnePast.{one_past}
use Rattle.kern_shared.proofs.Lowest.{IsLowest, all_alive, all_among, held_among, lowest_none, lowest_some, some_fails}

both : (b c : Bool) → (b && c) ≡ true → (b ≡ true) × (c ≡ true)
both true c h = (refl, h)
both false c h = absurd (true≢false (sym h))

not_false : (b : Bool) → not b ≡ true → b ≡ false
not_false true h = absurd (true≢false (sym h))
not_false false h = refl

-- who dozes is alive
pub dozing_live : (plain : Plain) (awake dozing : List ℕ) (entries : List Entry) → ArePresent plain awake dozing entries → AreAlive plain dozing
dozing_live plain awake dozing entries are =
    all_alive plain dozing (λ pid among. (both (is_alive plain.table pid) (dozes pid entries) (sym (are.dozing_are pid) ∙ among)).0)

module _ (script : Script) (items : List Item) (past : Past) (awake dozing : List ℕ) (held : List Held)
    (are : ArePresent past.plain awake dozing (noted items)) (holders : AreHeld script past.plain held items) where
  -- where nobody is awake and all that doze would block, all sleep
  pub all_sleep : awake ≡ [] → list_all (would_block script past.plain) dozing ≡ true → AllAsleep script items past
  all_sleep none all pid alive = by_test (dozes pid (noted items)) refl
    where
      by_test : (b : Bool) → dozes pid (noted items) ≡ b → (b && would_block script past.plain pid) ≡ true
      by_test true is = all_among (would_block script past.plain) dozing all pid (are.dozing_are pid ∙ ap (λ (t : Bool). t && dozes pid (noted items)) alive ∙ is)
      by_test false is =
          let here : is_among pid awake ≡ true = are.awake_are pid ∙ ap (λ (t : Bool). t && not (dozes pid (noted items))) alive ∙ ap not is in
          contrary (is_among pid awake) here (ap (is_among pid) none)

  -- where one is awake not all sleep
  pub one_awake : (pid : ℕ) (rest : List ℕ) → awake ≡ pid ∷ rest → AllAsleep script items past → ⊥
  one_awake pid rest is all =
      let here : is_among pid awake ≡ true = ap (is_among pid) is ∙ ap (λ (b : Bool). b || is_among pid rest) (eq-eqb pid pid refl) in
      let parts = both (is_alive past.plain.table pid) (not (dozes pid (noted items))) (sym (are.awake_are pid) ∙ here) in
      contrary (dozes pid (noted items)) (both (dozes pid (noted items)) (would_block script past.plain pid) (all pid parts.0)).0 (not_false (dozes pid (noted items)) parts.1)

  pub some_awake : (length awake == 0) ≡ false → AllAsleep script items past → ⊥
  some_awake many all = by_list awake refl
    where
      by_list : (l : List ℕ) → awake ≡ l → ⊥
      by_list [] is = absurd (true≢false (sym (ap (λ (l : List ℕ). length l == 0) is) ∙ many))
      by_list (pid ∷ rest) is = one_awake pid rest is all

  -- or where one that dozes wouldn't block
  pub some_ready : list_all (would_block script past.plain) dozing ≡ false → AllAsleep script items past → ⊥
  some_ready some all =
      let found = some_fails (would_block script past.plain) dozing some in
      let parts = both (is_alive past.plain.table found.0) (dozes found.0 (noted items)) (sym (are.dozing_are found.0) ∙ found.1) in
      contrary (would_block script past.plain found.0) (both (dozes found.0 (noted items)) (would_block script past.plain found.0) (all found.0 parts.0)).1 found.2

  -- the tests for those that don't doze, and for those that do
  abbrev unheld : ℕ → Bool
  unheld pid = not (is_held pid held)

  abbrev ready : ℕ → Bool
  ready pid = not (is_held pid held) && not (would_block script past.plain pid)

  given_is : (pid : ℕ) → is_held pid held ≡ is_given pid items
  given_is pid = held_among pid held ∙ holders.pids pid

  -- who is free stands in one of the lists and passes its test, and the other way round
  free_awake : (pid : ℕ) → is_among pid awake ≡ true → unheld pid ≡ true → is_free script items past pid ≡ true
  free_awake pid among passes =
      let parts = both (is_alive past.plain.table pid) (not (dozes pid (noted items))) (sym (are.awake_are pid) ∙ among) in
      ap (λ (t : Bool). t && not (is_given pid items) && not (sleeps_on script items past pid)) parts.0
      ∙ ap (λ (t : Bool). not t && not (sleeps_on script items past pid)) (sym (given_is pid) ∙ not_false (is_held pid held) passes)
      ∙ ap (λ (t : Bool). not (t && would_block script past.plain pid)) (not_false (dozes pid (noted items)) parts.1)

  free_dozing : (pid : ℕ) → is_among pid dozing ≡ true → ready pid ≡ true → is_free script items past pid ≡ true
  free_dozing pid among passes =
      let parts = both (is_alive past.plain.table pid) (dozes pid (noted items)) (sym (are.dozing_are pid) ∙ among) in
      let tests = both (not (is_held pid held)) (not (would_block script past.plain pid)) passes in
      ap (λ (t : Bool). t && not (is_given pid items) && not (sleeps_on script items past pid)) parts.0
      ∙ ap (λ (t : Bool). not t && not (sleeps_on script items past pid)) (sym (given_is pid) ∙ not_false (is_held pid held) tests.0)
      ∙ ap (λ (t : Bool). not (t && would_block script past.plain pid)) parts.1 ∙ tests.1

  free_where : (pid : ℕ) → is_free script items past pid ≡ true → ((is_among pid awake ≡ true) × (unheld pid ≡ true)) ⊎ ((is_among pid dozing ≡ true) × (ready pid ≡ true))
  free_where pid free = by_test (dozes pid (noted items)) refl
    where
      three : (a b c : Bool) → (a && b && c) ≡ true → (a ≡ true) × (b ≡ true) × (c ≡ true)
      three true true c h = (refl, refl, h)
      three true false c h = absurd (true≢false (sym h))
      three false b c h = absurd (true≢false (sym h))

      parts : (is_alive past.plain.table pid ≡ true) × (not (is_given pid items) ≡ true) × (not (sleeps_on script items past pid) ≡ true)
      parts = three (is_alive past.plain.table pid) (not (is_given pid items)) (not (sleeps_on script items past pid)) free

      nobody : not (is_held pid held) ≡ true
      nobody = ap not (given_is pid) ∙ parts.1

      by_test : (b : Bool) → dozes pid (noted items) ≡ b → ((is_among pid awake ≡ true) × (unheld pid ≡ true)) ⊎ ((is_among pid dozing ≡ true) × (ready pid ≡ true))
      by_test true is = inr (
        are.dozing_are pid ∙ ap (λ (t : Bool). t && dozes pid (noted items)) parts.0 ∙ is,
        ap (λ (t : Bool). t && not (would_block script past.plain pid)) nobody ∙ ap (λ (t : Bool). not (t && would_block script past.plain pid)) (sym is) ∙ parts.2,
      )
      by_test false is = inl (are.awake_are pid ∙ ap (λ (t : Bool). t && not (dozes pid (noted items))) parts.0 ∙ ap not is, nobody)

  -- the lowest of both lists is the lowest that is free
  pub lowest_is : (first result : Option ℕ) → first ≡ lowest (λ pid. not (is_held pid held)) None awake
      → result ≡ lowest (λ pid. not (is_held pid held) && not (would_block script past.plain pid)) first dozing → IsLowestFree script items past result
  lowest_is first None first_is is =
      let later = lowest_none ready first dozing (sym is) in
      let earlier = lowest_none unheld None awake (sym first_is ∙ later.0) in
      λ pid. not_true (is_free script items past pid) (λ free. ⊎_elim
      (λ (h : (is_among pid awake ≡ true) × (unheld pid ≡ true)). contrary (unheld pid) h.1 (earlier.1 pid h.0))
      (λ (h : (is_among pid dozing ≡ true) × (ready pid ≡ true)). contrary (ready pid) h.1 (later.1 pid h.0))
      (free_where pid free))
  lowest_is first (Some pid) first_is is = (free, λ other less. not_true (is_free script items past other) (λ may. too_low other less (free_where other may)))
    where
      later : IsLowest ready first dozing pid
      later = lowest_some ready first dozing pid (sym is)

      none_some : (q : ℕ) → None ≡ Some q → ⊥
      none_some q h = cc

      of_first : first ≡ Some pid → is_free script items past pid ≡ true
      of_first same = ⊎_elim (λ (no : None ≡ Some pid). absurd (none_some pid no)) (λ (h : (is_among pid awake ≡ true) × (unheld pid ≡ true)). free_awake pid h.0 h.1)
          (lowest_some unheld None awake pid (sym first_is ∙ same)).is

      free : is_free script items past pid ≡ true
      free = ⊎_elim of_first (λ (h : (is_among pid dozing ≡ true) × (ready pid ≡ true)). free_dozing pid h.0 h.1) later.is

      in_first : (other : ℕ) (o : Option ℕ) → first ≡ o → other < pid → is_among other awake ≡ true → unheld other ≡ true → ⊥
      in_first other None same less among passes = contrary (unheld other) passes ((lowest_none unheld None awake (sym first_is ∙ same)).1 other among)
      in_first other (Some q) same less among passes =
          let most : pid ≤ q = later.before q same in
          let more : q ≤ other = (lowest_some unheld None awake q (sym first_is ∙ same)).least other among passes in
          absurd (omega (arith, most, more, less))

      too_low : (other : ℕ) → other < pid → ((is_among other awake ≡ true) × (unheld other ≡ true)) ⊎ ((is_among other dozing ≡ true) × (ready other ≡ true)) → ⊥
      too_low other less found = ⊎_elim
          (λ (h : (is_among other awake ≡ true) × (unheld other ≡ true)). in_first other first refl less h.0 h.1)
          (λ (h : (is_among other dozing ≡ true) × (ready other ≡ true)). let more : pid ≤ other = later.least other h.0 h.1 in absurd (omega (arith, more, less)))
          found

pub free_alive : (script : Script) (items : List Item) (past : Past) (pid : ℕ) → is_free script items past pid ≡ true → is_alive past.plain.table pid ≡ true
free_alive script items past pid free = first (is_alive past.plain.table pid) (not (is_given pid items)) (not (sleeps_on script items past pid)) free
  where
    first : (a b c : Bool) → (a && b && c) ≡ true → a ≡ true
    first true b c h = refl
    first false b c h = absurd (true≢false (sym h))

-- the lowest that is free may be given, where the run isn't over
pub may_give : (script : Script) (steps : ℕ) (items : List Item) (past : Past) (pid : ℕ) → IsOverAs script steps items past None → IsLowestFree script items past (Some pid)
    → MayGive script steps items past pid
may_give script steps items past pid over lowest = record { free = lowest.0; lowest = lowest.1; goes_on = over }

-- the end that stands, where nobody is held, ends the run
over_of_end : (script : Script) (steps : ℕ) (items : List Item) (past : Past) (which : End) → NobodyHeld items → EndsAs script steps items past (Some which) → IsOver script steps items past
over_of_end script steps items past end.Finished nobody ends = inr (inr (nobody, inl ends))
over_of_end script steps items past end.AllAsleep nobody ends = inr (inr (nobody, inr ends.1))
over_of_end script steps items past end.Spent nobody ends = inr (inl ends.1)
over_of_end script steps items past (end.Starved _ _) nobody ends = inl ends.2

-- and so it does where Starved was answered or all steps are used up
pub over_as : (script : Script) (steps : ℕ) (items : List Item) (past : Past) (result : Option End)
    → (has_starved items ≡ true) ⊎ ((length (noted items) ≡ steps) ⊎ NobodyHeld items) → EndsAs script steps items past result → IsOverAs script steps items past result
over_as script steps items past None may ends = λ over. ⊎_elim
    (λ (starved : has_starved items ≡ true). contrary (has_starved items) starved ends.2)
    (λ h. ⊎_elim (λ (all : length (noted items) ≡ steps). let below = ends.1 in absurd (omega arith))
    (λ k. ⊎_elim (λ (ended : is_alive past.plain.table 1 ≡ false). contrary (is_alive past.plain.table 1) ends.0.alive ended) (λ (all : AllAsleep script items past). ends.0.awake all) k.1) h)
    over
over_as script steps items past (Some which) may ends = (
  ⊎_elim
      (λ (starved : has_starved items ≡ true). inl starved)
      (λ h. ⊎_elim (λ (all : length (noted items) ≡ steps). inr (inl all)) (λ (nobody : NobodyHeld items). over_of_end script steps items past which nobody ends) h)
      may,
  ends,
)

-- where none of the three is, the run goes on
pub goes_still : (script : Script) (steps : ℕ) (items : List Item) (past : Past) → (has_starved items ≡ true → ⊥) → (length (noted items) ≡ steps → ⊥) → (NobodyHeld items → ⊥)
    → IsOver script steps items past → ⊥
goes_still script steps items past fed left held over = ⊎_elim fed (λ h. ⊎_elim left (λ k. held k.0) h) over

module _ {T : Type 0} (stands_for : T → World → Type 0) (script_of : T → Script) (beside : T → ℕ → Call → Turned → T → Type 0) where
  -- what holds of the past that a value has holds of every past that its items lead to
  pub at_past : (script : Script) (steps : ℕ) (charge : ChargeWord) (value : KernelValue T) (items : List Item) (s : Shares stands_for script_of beside script steps charge value items)
      (past : Past) → IsShared script steps items past → (P : Past → Type 0) → P s.past → P past
  at_past script steps charge value items s past shared P holds = subst P (one_past script steps items s.past past s.shared shared) holds

  pub present_now : (script : Script) (steps : ℕ) (charge : ChargeWord) (value : KernelValue T) (items : List Item) (s : Shares stands_for script_of beside script steps charge value items)
      → ArePresent s.past.plain value.awake value.dozing (noted items)
  present_now script steps charge value items s = subst (ArePresent s.past.plain value.awake value.dozing) s.history s.present

  pub dozing_alive : (script : Script) (steps : ℕ) (charge : ChargeWord) (value : KernelValue T) (items : List Item) (s : Shares stands_for script_of beside script steps charge value items)
      → AreAlive s.world.plain value.dozing
  dozing_alive script steps charge value items s =
      subst (λ p. AreAlive p value.dozing) (sym s.plain) (dozing_live s.past.plain value.awake value.dozing value.history s.present)

  -- nobody is held where the list is empty, and somebody is where it isn't
  pub nobody_held : (script : Script) (steps : ℕ) (charge : ChargeWord) (value : KernelValue T) (items : List Item) (s : Shares stands_for script_of beside script steps charge value items)
      → (length value.held == 0) ≡ true → NobodyHeld items
  nobody_held script steps charge value items s none = by_list value.held (λ pid. s.held.pids pid) (eqb-true (length value.held) 0 none)
    where
      by_list : (l : List Held) → ((pid : ℕ) → is_among pid (pids_of l) ≡ is_given pid items) → length l ≡ 0 → NobodyHeld items
      by_list [] pids is = λ pid. sym (pids pid)
      by_list (h ∷ l) pids is = absurd (omega arith)

  pub somebody_held : (script : Script) (steps : ℕ) (charge : ChargeWord) (value : KernelValue T) (items : List Item) (s : Shares stands_for script_of beside script steps charge value items)
      → (length value.held == 0) ≡ false → NobodyHeld items → ⊥
  somebody_held script steps charge value items s some nobody = by_list value.held (λ pid. s.held.pids pid) some
    where
      by_list : (l : List Held) → ((pid : ℕ) → is_among pid (pids_of l) ≡ is_given pid items) → (length l == 0) ≡ false → ⊥
      by_list [] pids is = absurd (true≢false is)
      by_list (h ∷ l) pids is = contrary (is_given h.pid items) (sym (pids h.pid) ∙ ap (λ (b : Bool). b || is_among h.pid (pids_of l)) (eq-eqb h.pid h.pid refl)) (nobody h.pid)

  empty_of : {X : Type 0} (l : List X) → (length l == 0) ≡ true → l ≡ []
  empty_of [] h = refl
  empty_of (x ∷ l) h = (let is : length (x ∷ l) ≡ 0 = eqb-true (length (x ∷ l)) 0 h in absurd (omega arith))

  -- what the tests of the two lists say of who sleeps
  pub awake_says : (script : Script) (steps : ℕ) (charge : ChargeWord) (value : KernelValue T) (items : List Item) (s : Shares stands_for script_of beside script steps charge value items)
      → (length value.awake == 0) ≡ false → AllAsleep script items s.past → ⊥
  awake_says script steps charge value items s some =
      some_awake script items s.past value.awake value.dozing value.held (present_now script steps charge value items s) s.held some

  pub asleep_says : (script : Script) (steps : ℕ) (charge : ChargeWord) (value : KernelValue T) (items : List Item) (s : Shares stands_for script_of beside script steps charge value items)
      (dozing : List ℕ) (result : Bool) → (length value.awake == 0) ≡ true → dozing ≡ value.dozing
      → result ≡ list_all (λ pid. would_block (script_of value.store) s.world.plain pid) dozing → Says result (AllAsleep script items s.past)
  asleep_says script steps charge value items s dozing result none dozing_is is = says result is
    where
      test_is : list_all (λ pid. would_block (script_of value.store) s.world.plain pid) dozing ≡ list_all (would_block script s.past.plain) value.dozing
      test_is = ap (λ l. list_all (would_block (script_of value.store) s.world.plain) l) dozing_is
          ∙ ap (λ sc. list_all (would_block sc s.world.plain) value.dozing) s.named ∙ ap (λ p. list_all (would_block script p) value.dozing) s.plain

      says : (b : Bool) → b ≡ list_all (λ pid. would_block (script_of value.store) s.world.plain pid) dozing → Says b (AllAsleep script items s.past)
      says true h = all_sleep script items s.past value.awake value.dozing value.held (present_now script steps charge value items s) s.held
          (empty_of value.awake none) (sym test_is ∙ sym h)
      says false h = some_ready script items s.past value.awake value.dozing value.held (present_now script steps charge value items s) s.held (sym test_is ∙ sym h)

  -- what the store answers, said of the past
  pub alive_is : (script : Script) (steps : ℕ) (charge : ChargeWord) (value : KernelValue T) (items : List Item) (s : Shares stands_for script_of beside script steps charge value items)
      (pid : ℕ) (result b : Bool) → result ≡ is_alive s.world.plain.table pid → result ≡ b → is_alive s.past.plain.table pid ≡ b
  alive_is script steps charge value items s pid result b is told = ap (λ (p : Plain). is_alive p.table pid) (sym s.plain) ∙ sym is ∙ told

  pub call_is : (script : Script) (steps : ℕ) (charge : ChargeWord) (value : KernelValue T) (items : List Item) (s : Shares stands_for script_of beside script steps charge value items)
      (pid : ℕ) (call : Call) → call ≡ call_of (script_of value.store) s.world.plain pid → call ≡ call_of script s.past.plain pid
  call_is script steps charge value items s pid call is = is ∙ ap (λ sc. call_of sc s.world.plain pid) s.named ∙ ap (λ p. call_of script p pid) s.plain

  pub lives_in_world : (script : Script) (steps : ℕ) (charge : ChargeWord) (value : KernelValue T) (items : List Item) (s : Shares stands_for script_of beside script steps charge value items)
      (pid : ℕ) → is_alive s.past.plain.table pid ≡ true → is_alive s.world.plain.table pid ≡ true
  lives_in_world script steps charge value items s pid alive = ap (λ (p : Plain). is_alive p.table pid) s.plain ∙ alive

  -- whether all steps are used up
  pub spent_is : (script : Script) (steps : ℕ) (charge : ChargeWord) (value : KernelValue T) (items : List Item) (s : Shares stands_for script_of beside script steps charge value items)
      → (length value.history == value.steps) ≡ true → length (noted items) ≡ steps
  spent_is script steps charge value items s all = sym (ap length s.history) ∙ eqb-true (length value.history) value.steps all ∙ s.limit

  pub below_is : (script : Script) (steps : ℕ) (charge : ChargeWord) (value : KernelValue T) (items : List Item) (s : Shares stands_for script_of beside script steps charge value items)
      → (length value.history == value.steps) ≡ false → length value.history < steps
  below_is script steps charge value items s left =
      let within : length (noted items) ≤ steps = entries_within script steps items s.past s.shared in
      let same : length value.history ≡ length (noted items) = ap length s.history in
      let limit : value.steps ≡ steps = s.limit in
      ⊎_elim (λ h. let more = h.1 in contrary (length value.history == value.steps) (eq-eqb (length value.history) value.steps (omega (arith, within, same, limit, more))) left) (λ h. h.1)
      (leb_tells steps (length value.history))

  pub below_noted : (script : Script) (steps : ℕ) (charge : ChargeWord) (value : KernelValue T) (items : List Item) (s : Shares stands_for script_of beside script steps charge value items)
      → (length value.history == value.steps) ≡ false → length (noted items) < steps
  below_noted script steps charge value items s left = subst (λ l. length l < steps) s.history (below_is script steps charge value items s left)

  -- whether an end that stands is one of the run
  pub may_be : (script : Script) (steps : ℕ) (charge : ChargeWord) (value : KernelValue T) (items : List Item) (s : Shares stands_for script_of beside script steps charge value items)
      (result : Bool) → result ≡ (value.starved || (length value.history == value.steps) || (length value.held == 0)) → result ≡ true
      → (has_starved items ≡ true) ⊎ ((length (noted items) ≡ steps) ⊎ NobodyHeld items)
  may_be script steps charge value items s result is told =
      one value.starved refl (length value.history == value.steps) refl (length value.held == 0) refl (sym is ∙ told)
    where
      one : (a : Bool) → value.starved ≡ a → (b : Bool) → (length value.history == value.steps) ≡ b → (d : Bool) → (length value.held == 0) ≡ d → (a || b || d) ≡ true
          → (has_starved items ≡ true) ⊎ ((length (noted items) ≡ steps) ⊎ NobodyHeld items)
      one true e b f d g h = inl (sym s.starved ∙ e)
      one false e true f d g h = inr (inl (spent_is script steps charge value items s f))
      one false e false f true g h = inr (inr (nobody_held script steps charge value items s g))
      one false e false f false g h = absurd (true≢false (sym h))

  pub may_not_be : (script : Script) (steps : ℕ) (charge : ChargeWord) (value : KernelValue T) (items : List Item) (s : Shares stands_for script_of beside script steps charge value items)
      (result : Bool) → result ≡ (value.starved || (length value.history == value.steps) || (length value.held == 0)) → result ≡ false → IsOver script steps items s.past → ⊥
  may_not_be script steps charge value items s result is told =
      one value.starved refl (length value.history == value.steps) refl (length value.held == 0) refl (sym is ∙ told)
    where
      one : (a : Bool) → value.starved ≡ a → (b : Bool) → (length value.history == value.steps) ≡ b → (d : Bool) → (length value.held == 0) ≡ d → (a || b || d) ≡ false
          → IsOver script steps items s.past → ⊥
      one true e b f d g h = absurd (true≢false h)
      one false e true f d g h = absurd (true≢false h)
      one false e false f true g h = absurd (true≢false h)
      one false e false f false g h = goes_still script steps items s.past (λ starved. contrary (has_starved items) starved (sym s.starved ∙ e))
          (λ all. let below = below_noted script steps charge value items s f in absurd (omega arith)) (somebody_held script steps charge value items s g)

  pub lowest_says : (script : Script) (steps : ℕ) (charge : ChargeWord) (value : KernelValue T) (items : List Item) (s : Shares stands_for script_of beside script steps charge value items)
      (awake dozing : List ℕ) (held others : List Held) (first result : Option ℕ) → awake ≡ value.awake → held ≡ value.held → dozing ≡ value.dozing → others ≡ value.held
      → first ≡ lowest (λ pid. not (is_held pid held)) None awake
      → result ≡ lowest (λ pid. not (is_held pid others) && not (would_block (script_of value.store) s.world.plain pid)) first dozing
      → IsLowestFree script items s.past result
  lowest_says script steps charge value items s awake dozing held others first result awake_is held_is dozing_is others_is first_is is =
      lowest_is script items s.past value.awake value.dozing value.held (present_now script steps charge value items s) s.held first result
      (first_is ∙ ap (λ h. lowest (λ pid. not (is_held pid h)) None awake) held_is ∙ ap (lowest (λ pid. not (is_held pid value.held)) None) awake_is)
      (is ∙ ap (λ h. lowest (λ pid. not (is_held pid h) && not (would_block (script_of value.store) s.world.plain pid)) first dozing) others_is
      ∙ ap (λ sc. lowest (λ pid. not (is_held pid value.held) && not (would_block sc s.world.plain pid)) first dozing) s.named
      ∙ ap (λ p. lowest (λ pid. not (is_held pid value.held) && not (would_block script p pid)) first dozing) s.plain
      ∙ ap (lowest (λ pid. not (is_held pid value.held) && not (would_block script s.past.plain pid)) first) dozing_is)

  -- a process may be given, and there is room to hold it
  pub room_for_one : (script : Script) (steps : ℕ) (charge : ChargeWord) (value : KernelValue T) (items : List Item) (s : Shares stands_for script_of beside script steps charge value items)
      → (IsOver script steps items s.past → ⊥) → length value.held < value.held_room
  room_for_one script steps charge value items s goes =
      let few : length value.held ≤ length value.history + 1 = few_held stands_for script_of beside script steps charge value items s in
      let within : length (noted items) ≤ steps = entries_within script steps items s.past s.shared in
      let same : length value.history ≡ length (noted items) = ap length s.history in
      let room : steps + 1 ≤ value.held_room = s.room.held in
      ⊎_elim (λ h. let more = h.1 in absurd (goes (inr (inl (omega (arith, within, more)))))) (λ h. let below = h.1 in omega (arith, few, same, room, below))
      (leb_tells steps (length (noted items)))

  pub given_now : (script : Script) (steps : ℕ) (charge : ChargeWord) (value : KernelValue T) (h : Held) (held : List Held) (held_room : ℕ)
      → held ≡ value.held ++ h ∷ [] → held_room ≡ value.held_room
      → (items : List Item) (s : Shares stands_for script_of beside script steps charge value items) → MayGive script steps items s.past h.pid
      → h.bound ≡ bound (call_of script s.past.plain h.pid)
      → Shares stands_for script_of beside script steps charge (record value { held = held; held_room = held_room }) (items ++ Given h.pid ∷ [])
  given_now script steps charge value h held held_room held_is room_is items s may is_bound =
      subst (λ l. Shares stands_for script_of beside script steps charge (record value { held = l; held_room = held_room }) (items ++ Given h.pid ∷ [])) (sym held_is)
      (subst (λ n. Shares stands_for script_of beside script steps charge (record value { held = value.held ++ h ∷ []; held_room = n }) (items ++ Given h.pid ∷ [])) (sym room_is)
      (behind_given stands_for script_of beside script steps charge value items s h may is_bound))
