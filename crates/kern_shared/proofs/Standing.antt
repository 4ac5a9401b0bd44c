-- Who is held was made, keeps its control, and isn't given up before its own Gone.
use Rattle.std.proofs.Common.{◌≡◌, ◌≢◌, ℕ, suc, ◌+◌, ◌<◌, ◌≤◌, ◌==◌, ◌||◌, ◌&&◌, ◌⊎◌, not, Bool, true, false, true≢false, cond, eqb, List, [], ◌∷◌, ◌++◌, length, refl, ap, sym, ◌∙◌, subst, inl, inr, ⊎_elim, arith, eq-eqb, length-append}
use Rattle.std.proofs.lemmas.Bool.{eqb-true}
use Rattle.kabi_types.specs.declared.entries.Entry.{Entry}
use Rattle.kabi_types.specs.declared.entries.Entry.TheVariants as entry
use Rattle.kabi_types.specs.declared.scripts.Script.{Script}
use Rattle.kabi_types.specs.declared.errnos.Errno.TheVariants.{ENOMEM}
use Rattle.kabi_types.specs.declared.replies.Reply.TheVariants.{Fail}
use Rattle.posix_defs.specs.History.{Past, IsRun, MayFollow, is_among}
use Rattle.posix_defs.specs.History as run
use Rattle.posix_defs.specs.Plain.{Plain, call_of, control_of, last_pid}
use Rattle.posix_defs.specs.Process.{is_alive}
use Rattle.kern_laws.proofs.Families.{reached_kept}
use Rattle.kern_laws.proofs.Nexts.{IsNext, AnswerGoes, alive_is_there, answered_next, die_next, posix_goes, same_next}
use Rattle.kern_laws.proofs.TablePlaces.{was_made}
use Rattle.turn_words.specs.declared.items.Item.{Item}
use Rattle.turn_words.specs.declared.items.Item.TheVariants.{Noted, Cleared, Given, Back, Starved, Live, Quiet}
use Rattle.turn_words.specs.Items.{entry_of, gives, is_given, is_own_entry, noted}
use Rattle.turn_words.specs.Items as item
use Rattle.turn_words.proofs.Held.{contrary, decide, not_true}
use Rattle.kern_shared.specs.Shared.{MayShare, gives_up, is_free, sleeps_on, starts, goes_on, times_gone}
use Rattle.kern_shared.specs.Laws.{ControlsStand, GivenUpOnce, HeldAreNotGivenUp, HeldWereMade}
use Rattle.kern_shared.proofs.Runs.{entries_run, given_before, given_behind}

-- whose entry it is; a kill and an eviction are anybody's
abbrev pub whose : Entry → ℕ → ℕ
whose (entry.Done pid _ _) any = pid
whose (entry.Part pid _ _) any = pid
whose (entry.Refused pid _ _) any = pid
whose (entry.Slept pid _) any = pid
whose (entry.Ended pid _ _) any = pid
whose (entry.Gone pid _) any = pid
whose (entry.Killed _ _ _ _) any = any
whose (entry.Evicted _) any = any

-- how the machine goes on behind an entry
pub goes : (script : Script) (past next : Past) (e : Entry) (any : ℕ) → length past.plain.table ≡ last_pid past.plain → MayFollow script past e next
    → IsNext past.plain next.plain (whose e any)
goes script past next (entry.Done pid _ reply) any made f = subst (λ p. IsNext past.plain p pid) (sym (ap (λ (p : Past). p.plain) f.leads))
    (subst (AnswerGoes past.plain pid) f.answers (posix_goes script past.plain pid (call_of script past.plain pid) made f.may_run.alive)).0
goes script past next (entry.Part pid _ moved) any made f = subst (λ p. IsNext past.plain p pid) (sym (ap (λ (p : Past). p.plain) f.leads))
    (subst (AnswerGoes past.plain pid) f.answers (posix_goes script past.plain pid (call_of script past.plain pid) made f.may_run.alive)).0
goes script past next (entry.Ended pid _ status) any made f = subst (λ p. IsNext past.plain p pid) (sym (ap (λ (p : Past). p.plain) f.leads))
    (subst (AnswerGoes past.plain pid) f.answers (posix_goes script past.plain pid (call_of script past.plain pid) made f.may_run.alive)).0
goes script past next (entry.Refused pid _ asked) any made f = subst (λ p. IsNext past.plain p pid) (sym (ap (λ (p : Past). p.plain) f.leads))
    (answered_next script past.plain past.plain pid (Fail ENOMEM) (same_next past.plain pid made))
goes script past next (entry.Slept pid _) any made f = subst (λ p. IsNext past.plain p pid) (sym (ap (λ (p : Past). p.plain) f.leads)) (same_next past.plain pid made)
goes script past next (entry.Gone pid _) any made f = subst (λ p. IsNext past.plain p pid) (sym (ap (λ (p : Past). p.plain) f.leads)) (same_next past.plain pid made)
goes script past next (entry.Killed pid waiter need live) any made f = subst (λ p. IsNext past.plain p any) (sym (ap (λ (p : Past). p.plain) f.leads)) (die_next past.plain any pid 9 made)
goes script past next (entry.Evicted what) any made f = subst (λ p. IsNext past.plain p any) (sym (ap (λ (p : Past). p.plain) f.leads)) (same_next past.plain any made)

other_pid : (pid other : ℕ) → (other == pid) ≡ false → pid ≢ other
other_pid pid other apart same = contrary (other == pid) (eq-eqb other pid (sym same)) apart

-- an entry that isn't a process's own is somebody else's
else_whose : (pid : ℕ) (e : Entry) → is_own_entry pid e ≡ false → pid ≢ whose e (suc pid)
else_whose pid (entry.Done other _ _) apart = other_pid pid other apart
else_whose pid (entry.Part other _ _) apart = other_pid pid other apart
else_whose pid (entry.Refused other _ _) apart = other_pid pid other apart
else_whose pid (entry.Slept other _) apart = other_pid pid other apart
else_whose pid (entry.Ended other _ _) apart = other_pid pid other apart
else_whose pid (entry.Gone other _) apart = other_pid pid other apart
else_whose pid (entry.Killed _ _ _ _) apart = λ same. absurd (omega arith)
else_whose pid (entry.Evicted _) apart = λ same. absurd (omega arith)

pub made_in : (script : Script) (entries : List Entry) (past : Past) → IsRun script entries past → length past.plain.table ≡ last_pid past.plain
made_in script entries past is_run = (reached_kept is_run).counted

-- who is alive was made
pub alive_made : (plain : Plain) (pid : ℕ) → length plain.table ≡ last_pid plain → is_alive plain.table pid ≡ true → (0 < pid) × (pid ≤ last_pid plain)
alive_made plain pid made alive =
    let there = alive_is_there plain.table pid alive in
    let within = was_made plain.table pid there.0 there.1 in
    (within.0, subst (λ n. pid ≤ n) made within.1)

free_lives : (alive given asleep : Bool) → (alive && not given && not asleep) ≡ true → alive ≡ true
free_lives true given asleep h = refl
free_lives false given asleep h = absurd (true≢false (sym h))

-- who was made still is behind an entry
still_made : (script : Script) (past next : Past) (e : Entry) (pid : ℕ) → length past.plain.table ≡ last_pid past.plain → MayFollow script past e next
    → (0 < pid) × (pid ≤ last_pid past.plain) → (0 < pid) × (pid ≤ last_pid next.plain)
still_made script past next e pid made f within =
    let more : last_pid past.plain ≤ last_pid next.plain = (goes script past next e (suc pid) made f).more in
    let below : pid ≤ last_pid past.plain = within.1 in
    (within.0, omega arith)

pub held_made : HeldWereMade
held_made script steps _ _ starts pid given = absurd (true≢false (sym given))
held_made script steps _ _ (goes_on items past next added before may) pid given =
    by_item (λ h. held_made script steps items past before pid h) added may (given_behind pid items added given)
  where
    counted : length past.plain.table ≡ last_pid past.plain
    counted = made_in script (noted items) past (entries_run script steps items past before)

    at_next : next ≡ past → (0 < pid) × (pid ≤ last_pid past.plain) → (0 < pid) × (pid ≤ last_pid next.plain)
    at_next same within = subst (λ (p : Past). (0 < pid) × (pid ≤ last_pid p.plain)) (sym same) within

    by_item : (is_given pid items ≡ true → (0 < pid) × (pid ≤ last_pid past.plain)) → (x : Item) → MayShare script steps items past x next
        → cond (item.is_of pid x) (gives pid x) (is_given pid items) ≡ true → (0 < pid) × (pid ≤ last_pid next.plain)
    by_item rest (Noted e) m h = still_made script past next e pid counted m.2 (rest (given_before (is_own_entry pid e) (is_given pid items) h).1)
    by_item rest (Cleared what live) m h = still_made script past next (entry.Evicted what) pid counted m.2 (rest h)
    by_item rest (Given other) m h = ⊎_elim
        (λ (is : eqb other pid ≡ true).
        let free : is_free script items past pid ≡ true = subst (λ (k : ℕ). is_free script items past k ≡ true) (eqb-true other pid is) m.0.free in
        at_next m.1 (alive_made past.plain pid counted (free_lives (is_alive past.plain.table pid) (is_given pid items) (sleeps_on script items past pid) free)))
        (λ (apart : eqb other pid ≡ false). at_next m.1 (rest (sym (ap (λ (b : Bool). cond b b (is_given pid items)) apart) ∙ h)))
        (decide (eqb other pid))
    by_item rest (Back other) m h = at_next m.1 (rest (given_before (eqb other pid) (is_given pid items) h).1)
    by_item rest Starved m h = at_next m.2 (rest h)
    by_item rest (Live n) m h = at_next m (rest h)
    by_item rest Quiet m h = absurd m

pub controls_stand : ControlsStand
controls_stand script steps items past next added shared may pid given still = by_item added may (given_behind pid items added still)
  where
    counted : length past.plain.table ≡ last_pid past.plain
    counted = made_in script (noted items) past (entries_run script steps items past shared)

    by_entry : (e : Entry) → MayFollow script past e next → is_own_entry pid e ≡ false → control_of next.plain pid ≡ control_of past.plain pid
    by_entry e f apart = (goes script past next e (suc pid) counted f).controls pid (else_whose pid e apart) (held_made script steps items past shared pid given).1

    at_next : next ≡ past → control_of next.plain pid ≡ control_of past.plain pid
    at_next same = ap (λ (p : Past). control_of p.plain pid) same

    by_item : (x : Item) → MayShare script steps items past x next → cond (item.is_of pid x) (gives pid x) (is_given pid items) ≡ true → control_of next.plain pid ≡ control_of past.plain pid
    by_item (Noted e) m h = by_entry e m.2 (given_before (is_own_entry pid e) (is_given pid items) h).0
    by_item (Cleared what live) m h = by_entry (entry.Evicted what) m.2 refl
    by_item (Given other) m h = at_next m.1
    by_item (Back other) m h = at_next m.1
    by_item Starved m h = at_next m.2
    by_item (Live n) m h = at_next m
    by_item Quiet m h = absurd m

-- whose call was given up behind an entry
gone_after : (script : Script) (past next : Past) (e : Entry) (pid : ℕ) → MayFollow script past e next → is_among pid next.gone ≡ (gives_up pid e || is_among pid past.gone)
gone_after script past next (entry.Done _ _ _) pid f = ap (λ (p : Past). is_among pid p.gone) f.leads
gone_after script past next (entry.Part _ _ _) pid f = ap (λ (p : Past). is_among pid p.gone) f.leads
gone_after script past next (entry.Refused _ _ _) pid f = ap (λ (p : Past). is_among pid p.gone) f.leads
gone_after script past next (entry.Slept _ _) pid f = ap (λ (p : Past). is_among pid p.gone) f.leads
gone_after script past next (entry.Ended _ _ _) pid f = ap (λ (p : Past). is_among pid p.gone) f.leads
gone_after script past next (entry.Gone _ _) pid f = ap (λ (p : Past). is_among pid p.gone) f.leads
gone_after script past next (entry.Killed _ _ _ _) pid f = ap (λ (p : Past). is_among pid p.gone) f.leads
gone_after script past next (entry.Evicted _) pid f = ap (λ (p : Past). is_among pid p.gone) f.leads

-- the process that an entry gives up has ended, and its call wasn't given up before
gives_up_ended : (script : Script) (past next : Past) (e : Entry) (pid : ℕ) → MayFollow script past e next → gives_up pid e ≡ true
    → (is_alive past.plain.table pid ≡ false) × (pid ≤ last_pid past.plain) × (is_among pid past.gone ≡ false)
gives_up_ended script past next (entry.Done _ _ _) pid f h = absurd (true≢false (sym h))
gives_up_ended script past next (entry.Part _ _ _) pid f h = absurd (true≢false (sym h))
gives_up_ended script past next (entry.Refused _ _ _) pid f h = absurd (true≢false (sym h))
gives_up_ended script past next (entry.Slept _ _) pid f h = absurd (true≢false (sym h))
gives_up_ended script past next (entry.Ended _ _ _) pid f h = absurd (true≢false (sym h))
gives_up_ended script past next (entry.Gone other _) pid f h =
    subst (λ (k : ℕ). (is_alive past.plain.table k ≡ false) × (k ≤ last_pid past.plain) × (is_among k past.gone ≡ false)) (eqb-true other pid h) (f.ended, f.made.1, f.first)
gives_up_ended script past next (entry.Killed _ _ _ _) pid f h = absurd (true≢false (sym h))
gives_up_ended script past next (entry.Evicted _) pid f h = absurd (true≢false (sym h))

either : (b c : Bool) → (b || c) ≡ true → (b ≡ true) ⊎ (c ≡ true)
either true c h = inl refl
either false c h = inr h

-- whose call was given up has ended, for good
gone_ended : (script : Script) (entries : List Entry) (past : Past) → IsRun script entries past → (pid : ℕ) → is_among pid past.gone ≡ true
    → (is_alive past.plain.table pid ≡ false) × (pid ≤ last_pid past.plain)
gone_ended script _ _ run.boots pid gone = absurd (true≢false (sym gone))
gone_ended script _ _ (run.goes_on entries past next e before f) pid gone =
    stays (⊎_elim
    (λ (now : gives_up pid e ≡ true). let told = gives_up_ended script past next e pid f now in (told.0, told.1))
    (λ (earlier : is_among pid past.gone ≡ true). gone_ended script entries past before pid earlier)
    (either (gives_up pid e) (is_among pid past.gone) (sym (gone_after script past next e pid f) ∙ gone)))
  where
    stays : (is_alive past.plain.table pid ≡ false) × (pid ≤ last_pid past.plain) → (is_alive next.plain.table pid ≡ false) × (pid ≤ last_pid next.plain)
    stays was =
        let onward = goes script past next e (suc pid) (made_in script entries past before) f in
        let more : last_pid past.plain ≤ last_pid next.plain = onward.more in
        let below : pid ≤ last_pid past.plain = was.1 in
        (not_true (is_alive next.plain.table pid) (λ lives. contrary (is_alive past.plain.table pid) (onward.revived pid was.1 lives) was.0), omega arith)

-- who isn't given up by an entry that isn't its own
not_given_up : (pid : ℕ) (e : Entry) → is_own_entry pid e ≡ false → gives_up pid e ≡ false
not_given_up pid (entry.Done _ _ _) apart = refl
not_given_up pid (entry.Part _ _ _) apart = refl
not_given_up pid (entry.Refused _ _ _) apart = refl
not_given_up pid (entry.Slept _ _) apart = refl
not_given_up pid (entry.Ended _ _ _) apart = refl
not_given_up pid (entry.Gone _ _) apart = apart
not_given_up pid (entry.Killed _ _ _ _) apart = refl
not_given_up pid (entry.Evicted _) apart = refl

pub held_not_gone : HeldAreNotGivenUp
held_not_gone script steps _ _ starts pid given = refl
held_not_gone script steps _ _ (goes_on items past next added before may) pid given =
    by_item (λ h. held_not_gone script steps items past before pid h) added may (given_behind pid items added given)
  where
    at_next : next ≡ past → is_among pid past.gone ≡ false → is_among pid next.gone ≡ false
    at_next same not_gone = ap (λ (p : Past). is_among pid p.gone) same ∙ not_gone

    by_entry : (e : Entry) → MayFollow script past e next → is_own_entry pid e ≡ false → is_among pid past.gone ≡ false → is_among pid next.gone ≡ false
    by_entry e f apart not_gone = gone_after script past next e pid f ∙ ap (λ (b : Bool). b || is_among pid past.gone) (not_given_up pid e apart) ∙ not_gone

    by_item : (is_given pid items ≡ true → is_among pid past.gone ≡ false) → (x : Item) → MayShare script steps items past x next
        → cond (item.is_of pid x) (gives pid x) (is_given pid items) ≡ true → is_among pid next.gone ≡ false
    by_item rest (Noted e) m h =
        let k = given_before (is_own_entry pid e) (is_given pid items) h in by_entry e m.2 k.0 (rest k.1)
    by_item rest (Cleared what live) m h = by_entry (entry.Evicted what) m.2 refl (rest h)
    by_item rest (Given other) m h = ⊎_elim
        (λ (is : eqb other pid ≡ true).
        let free : is_free script items past pid ≡ true = subst (λ (k : ℕ). is_free script items past k ≡ true) (eqb-true other pid is) m.0.free in
        let alive = free_lives (is_alive past.plain.table pid) (is_given pid items) (sleeps_on script items past pid) free in
        at_next m.1 (not_true (is_among pid past.gone) (λ gone.
        contrary (is_alive past.plain.table pid) alive (gone_ended script (noted items) past (entries_run script steps items past before) pid gone).0)))
        (λ (apart : eqb other pid ≡ false). at_next m.1 (rest (sym (ap (λ (b : Bool). cond b b (is_given pid items)) apart) ∙ h)))
        (decide (eqb other pid))
    by_item rest (Back other) m h = at_next m.1 (rest (given_before (eqb other pid) (is_given pid items) h).1)
    by_item rest Starved m h = at_next m.2 (rest h)
    by_item rest (Live n) m h = at_next m (rest h)
    by_item rest Quiet m h = absurd m

times_more : (pid : ℕ) (entries : List Entry) (e : Entry) → times_gone pid (entries ++ e ∷ []) ≡ times_gone pid entries + cond (gives_up pid e) 1 0
times_more pid [] e = let none : cond (gives_up pid e) 1 0 + 0 ≡ 0 + cond (gives_up pid e) 1 0 = omega arith in none
times_more pid (x ∷ entries) e = let rest : times_gone pid (entries ++ e ∷ []) ≡ times_gone pid entries + cond (gives_up pid e) 1 0 = times_more pid entries e in omega arith

-- a call was given up as often as the process is among those whose call was
counts : (script : Script) (entries : List Entry) (past : Past) → IsRun script entries past → (pid : ℕ) → times_gone pid entries ≡ cond (is_among pid past.gone) 1 0
counts script _ _ run.boots pid = refl
counts script _ _ (run.goes_on entries past next e before f) pid =
    times_more pid entries e ∙ ap (λ n. n + cond (gives_up pid e) 1 0) (counts script entries past before pid)
    ∙ one (gives_up pid e) (is_among pid past.gone) (λ now. (gives_up_ended script past next e pid f now).2)
    ∙ ap (λ (b : Bool). cond b 1 0) (sym (gone_after script past next e pid f))
  where
    one : (now earlier : Bool) → (now ≡ true → earlier ≡ false) → cond earlier 1 0 + cond now 1 0 ≡ cond (now || earlier) 1 0
    one true true first = absurd (true≢false (first refl))
    one true false first = refl
    one false true first = refl
    one false false first = refl

pub given_up_once : GivenUpOnce
given_up_once script steps items past shared pid =
    most (times_gone pid (noted items)) (is_among pid past.gone) (counts script (noted items) past (entries_run script steps items past shared) pid)
  where
    most : (n : ℕ) (b : Bool) → n ≡ cond b 1 0 → n ≤ 1
    most n true is = omega arith
    most n false is = omega arith

-- an entry makes one process at most
pub few_made : (script : Script) (entries : List Entry) (past : Past) → IsRun script entries past → last_pid past.plain ≤ length entries + 1
few_made script _ _ run.boots = omega arith
few_made script _ _ (run.goes_on entries past next e before f) =
    let rest : last_pid past.plain ≤ length entries + 1 = few_made script entries past before in
    let one : last_pid next.plain ≤ last_pid past.plain + 1 = (goes script past next e 0 (made_in script entries past before) f).one in
    let more : length (entries ++ e ∷ []) ≡ length entries + 1 = length-append entries (e ∷ []) in
    omega (arith, rest, one, more)
