-- The entries of a shared history are a run, and who is held is up.
use Rattle.std.proofs.Common.{◌≡◌, ℕ, ◌+◌, ◌<◌, ◌≤◌, ◌||◌, ◌&&◌, not, ◌⊎◌, Bool, true, false, true≢false, cond, eqb, List, [], ◌∷◌, ◌++◌, length, refl, ap, sym, ◌∙◌, subst, inl, inr, ⊎_elim, arith, append-nil, length-append}
use Rattle.std.proofs.lemmas.Bool.{eqb-true}
use Rattle.kabi_types.specs.declared.entries.Entry.{Entry}
use Rattle.kabi_types.specs.declared.entries.Entry.TheVariants as entry
use Rattle.kabi_types.specs.declared.scripts.Script.{Script}
use Rattle.posix_defs.specs.History.{Past, IsRun, MayFollow, boot_past, is_up}
use Rattle.posix_defs.specs.History as run
use Rattle.posix_defs.specs.Machine.{would_block}
use Rattle.posix_defs.specs.Process.{is_alive}
use Rattle.kern_laws.specs.Sleeping.{is_of, sleeps_by}
use Rattle.kern_laws.proofs.Sleepers.{sleeps_after}
use Rattle.turn_words.specs.declared.items.Item.{Item}
use Rattle.turn_words.specs.declared.items.Item.TheVariants.{Noted, Cleared, Given, Back, Starved, Live, Quiet}
use Rattle.turn_words.specs.Items.{entry_of, gives, is_given, is_own_entry, noted}
use Rattle.turn_words.specs.Items as item
use Rattle.turn_words.proofs.Held.{contrary, decide, given_more}
use Rattle.turn_words.proofs.Notes.{noted_more}
use Rattle.kern_shared.specs.Shared.{IsShared, MayShare, dozes, dozes_after, is_free, sleeps_on, starts, goes_on}
use Rattle.kern_shared.specs.Laws.{EntriesAreARun, HeldAreUp}

pub not_false : (b : Bool) → (b ≡ false → ⊥) → b ≡ true
not_false true n = refl
not_false false n = absurd (n refl)

-- an item with an entry goes on with the run
runs_on : (script : Script) (items : List Item) (past next : Past) (e : Entry) (x : Item) → entry_of x ≡ e ∷ [] → IsRun script (noted items) past → MayFollow script past e next
    → IsRun script (noted (items ++ x ∷ [])) next
runs_on script items past next e x is before may =
    subst (λ l. IsRun script l next) (ap (λ l. noted items ++ l) (sym is) ∙ sym (noted_more items x)) (run.goes_on (noted items) past next e before may)

-- an item without one leaves it
runs_still : (script : Script) (items : List Item) (past next : Past) (x : Item) → entry_of x ≡ [] → next ≡ past → IsRun script (noted items) past → IsRun script (noted (items ++ x ∷ [])) next
runs_still script items past next x is same before =
    subst (λ l. IsRun script l next) (sym (noted_more items x ∙ ap (λ l. noted items ++ l) is ∙ append-nil (noted items))) (subst (λ p. IsRun script (noted items) p) (sym same) before)

pub entries_run : (script : Script) (steps : ℕ) (items : List Item) (past : Past) → IsShared script steps items past → IsRun script (noted items) past
entries_run script steps _ _ starts = run.boots
entries_run script steps _ _ (goes_on items past next added before may) = by_item (entries_run script steps items past before) added may
  where
    by_item : IsRun script (noted items) past → (x : Item) → MayShare script steps items past x next → IsRun script (noted (items ++ x ∷ [])) next
    by_item rest (Noted e) m = runs_on script items past next e (Noted e) refl rest m.2
    by_item rest (Cleared what live) m = runs_on script items past next (entry.Evicted what) (Cleared what live) refl rest m.2
    by_item rest (Given pid) m = runs_still script items past next (Given pid) refl m.1 rest
    by_item rest (Back pid) m = runs_still script items past next (Back pid) refl m.1 rest
    by_item rest Starved m = runs_still script items past next Starved refl m.2 rest
    by_item rest (Live n) m = runs_still script items past next (Live n) refl m rest
    by_item rest Quiet m = absurd m

-- one entry more is at most all steps
one_step : (items : List Item) (x : Item) (e : Entry) (steps : ℕ) → entry_of x ≡ e ∷ [] → length (noted items) < steps → length (noted (items ++ x ∷ [])) ≤ steps
one_step items x e steps is below =
    let more : length (noted (items ++ x ∷ [])) ≡ length (noted items) + 1 =
    ap length (noted_more items x ∙ ap (λ l. noted items ++ l) is) ∙ length-append (noted items) (e ∷ []) in
    omega arith

pub same_steps : (items : List Item) (x : Item) → entry_of x ≡ [] → length (noted (items ++ x ∷ [])) ≡ length (noted items)
same_steps items x is = ap length (noted_more items x ∙ ap (λ l. noted items ++ l) is ∙ append-nil (noted items))

no_step : (items : List Item) (x : Item) (steps : ℕ) → entry_of x ≡ [] → length (noted items) ≤ steps → length (noted (items ++ x ∷ [])) ≤ steps
no_step items x steps is le = let same = same_steps items x is in omega arith

pub entries_within : (script : Script) (steps : ℕ) (items : List Item) (past : Past) → IsShared script steps items past → length (noted items) ≤ steps
entries_within script steps _ _ starts = omega arith
entries_within script steps _ _ (goes_on items past next added before may) = by_item (entries_within script steps items past before) added may
  where
    by_item : length (noted items) ≤ steps → (x : Item) → MayShare script steps items past x next → length (noted (items ++ x ∷ [])) ≤ steps
    by_item rest (Noted e) m = one_step items (Noted e) e steps refl m.0
    by_item rest (Cleared what live) m = one_step items (Cleared what live) (entry.Evicted what) steps refl m.0
    by_item rest (Given pid) m = no_step items (Given pid) steps refl rest
    by_item rest (Back pid) m = no_step items (Back pid) steps refl rest
    by_item rest Starved m = no_step items Starved steps refl rest
    by_item rest (Live n) m = no_step items (Live n) steps refl rest
    by_item rest Quiet m = absurd m

pub a_run : EntriesAreARun
a_run script steps items past shared = (entries_run script steps items past shared, entries_within script steps items past shared)

-- one entry more decides, where it is one of the process
pub dozes_more : (pid : ℕ) (before : Bool) (entries : List Entry) (e : Entry) → dozes_after pid before (entries ++ e ∷ []) ≡ cond (is_of pid e) (sleeps_by pid e) (dozes_after pid before entries)
dozes_more pid before [] e = refl
dozes_more pid before (x ∷ entries) e = dozes_more pid (cond (is_of pid x) (sleeps_by pid x) before) entries e

sleeps_of : (pid : ℕ) (e : Entry) → sleeps_by pid e ≡ true → is_of pid e ≡ true
sleeps_of pid (entry.Done _ _ _) h = absurd (true≢false (sym h))
sleeps_of pid (entry.Part _ _ _) h = h
sleeps_of pid (entry.Slept _ _) h = h
sleeps_of pid (entry.Ended _ _ _) h = absurd (true≢false (sym h))
sleeps_of pid (entry.Refused _ _ _) h = absurd (true≢false (sym h))
sleeps_of pid (entry.Gone _ _) h = absurd (true≢false (sym h))
sleeps_of pid (entry.Killed _ _ _ _) h = absurd (true≢false (sym h))
sleeps_of pid (entry.Evicted _) h = absurd (true≢false (sym h))

-- what makes a test of that form false
both_hold : (block slept of was_up : Bool) → not (block && (slept || (not of && not was_up))) ≡ false → (block ≡ true) × ((slept ≡ true) ⊎ ((of ≡ false) × (was_up ≡ false)))
both_hold false slept of was_up h = absurd (true≢false h)
both_hold true true of was_up h = (refl, inl refl)
both_hold true false true was_up h = absurd (true≢false h)
both_hold true false false true h = absurd (true≢false h)
both_hold true false false false h = (refl, inr (refl, refl))

-- who isn't up dozes, and its call would block
asleep_dozes : (script : Script) (entries : List Entry) (past : Past) → IsRun script entries past → (pid : ℕ) → is_up past pid ≡ false → (dozes pid entries ≡ true) × (would_block script past.plain pid ≡ true)
asleep_dozes script _ _ run.boots pid down = absurd (true≢false down)
asleep_dozes script _ _ (run.goes_on entries past next added before may) pid down =
    let told = both_hold (would_block script next.plain pid) (sleeps_by pid added) (is_of pid added) (is_up past pid) (sym (sleeps_after script past added next pid may) ∙ down) in (
      ⊎_elim
          (λ (slept : sleeps_by pid added ≡ true).
          dozes_more pid false entries added ∙ (ap (λ (b : Bool). cond b (sleeps_by pid added) (dozes pid entries)) (sleeps_of pid added slept) ∙ slept))
          (λ (h : (is_of pid added ≡ false) × (is_up past pid ≡ false)).
          dozes_more pid false entries added ∙ (ap (λ (b : Bool). cond b (sleeps_by pid added) (dozes pid entries)) h.0 ∙ (asleep_dozes script entries past before pid h.1).0))
          told.1,
      told.0,
    )

-- what a free process is
pub free_is_up : (alive given asleep : Bool) → (alive && not given && not asleep) ≡ true → asleep ≡ false
free_is_up true true asleep h = absurd (true≢false (sym h))
free_is_up true false true h = absurd (true≢false (sym h))
free_is_up true false false h = refl
free_is_up false given asleep h = absurd (true≢false (sym h))

-- an entry of somebody else leaves who is up
pub up_still : (script : Script) (past next : Past) (e : Entry) (pid : ℕ) → MayFollow script past e next → sleeps_by pid e ≡ false → is_up past pid ≡ true → is_up next pid ≡ true
up_still script past next e pid may not_slept up =
    sleeps_after script past e next pid may ∙ stays (would_block script next.plain pid) (sleeps_by pid e) (is_of pid e) (is_up past pid) not_slept up
  where
    stays : (block slept of was_up : Bool) → slept ≡ false → was_up ≡ true → not (block && (slept || (not of && not was_up))) ≡ true
    stays block true of was_up h up = absurd (true≢false h)
    stays block false of false h up = absurd (true≢false (sym up))
    stays true false true true h up = refl
    stays true false false true h up = refl
    stays false false of true h up = refl

-- an entry that isn't a process's own doesn't put it to sleep
pub own_sleep : (pid : ℕ) (e : Entry) → is_own_entry pid e ≡ false → sleeps_by pid e ≡ false
own_sleep pid (entry.Done _ _ _) h = refl
own_sleep pid (entry.Part _ _ _) h = h
own_sleep pid (entry.Slept _ _) h = h
own_sleep pid (entry.Ended _ _ _) h = refl
own_sleep pid (entry.Refused _ _ _) h = refl
own_sleep pid (entry.Gone _ _) h = refl
own_sleep pid (entry.Killed _ _ _ _) h = refl
own_sleep pid (entry.Evicted _) h = refl

-- where an item takes a process back or leaves it
pub given_before : (of before : Bool) → cond of false before ≡ true → (of ≡ false) × (before ≡ true)
given_before true before h = absurd (true≢false (sym h))
given_before false before h = (refl, h)

-- what is given out behind an item decides
pub given_behind : (pid : ℕ) (items : List Item) (x : Item) → is_given pid (items ++ x ∷ []) ≡ true → cond (item.is_of pid x) (gives pid x) (is_given pid items) ≡ true
given_behind pid items x h = sym (given_more pid false items x) ∙ h

pub held_up : HeldAreUp
held_up script steps _ _ starts pid given = absurd (true≢false (sym given))
held_up script steps _ _ (goes_on items past next added before may) pid given =
    by_item (λ h. held_up script steps items past before pid h) added may (given_behind pid items added given)
  where
    at_next : next ≡ past → is_up past pid ≡ true → is_up next pid ≡ true
    at_next same up = subst (λ p. is_up p pid ≡ true) (sym same) up

    by_item : (is_given pid items ≡ true → is_up past pid ≡ true) → (x : Item) → MayShare script steps items past x next
        → cond (item.is_of pid x) (gives pid x) (is_given pid items) ≡ true → is_up next pid ≡ true
    by_item rest (Noted e) m h =
        let k = given_before (is_own_entry pid e) (is_given pid items) h in
        up_still script past next e pid m.2 (own_sleep pid e k.0) (rest k.1)
    by_item rest (Cleared what live) m h = up_still script past next (entry.Evicted what) pid m.2 refl (rest h)
    by_item rest (Given other) m h = ⊎_elim
        (λ (is : eqb other pid ≡ true).
        let free : is_free script items past pid ≡ true = subst (λ (k : ℕ). is_free script items past k ≡ true) (eqb-true other pid is) m.0.free in
        let awake = free_is_up (is_alive past.plain.table pid) (is_given pid items) (sleeps_on script items past pid) free in
        at_next m.1 (not_false (is_up past pid) (λ down.
        let d = asleep_dozes script (noted items) past (entries_run script steps items past before) pid down in
        contrary (sleeps_on script items past pid) (ap (λ (b : Bool). b && would_block script past.plain pid) d.0 ∙ d.1) awake)))
        (λ (not : eqb other pid ≡ false). at_next m.1 (rest (sym (ap (λ (b : Bool). cond b b (is_given pid items)) not) ∙ h)))
        (decide (eqb other pid))
    by_item rest (Back other) m h = at_next m.1 (rest (given_before (eqb other pid) (is_given pid items) h).1)
    by_item rest Starved m h = at_next m.2 (rest h)
    by_item rest (Live n) m h = at_next m (rest h)
    by_item rest Quiet m h = absurd m
