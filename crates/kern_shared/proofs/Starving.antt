-- What is over stays over, and what stays where Starved was answered.
use Rattle.std.proofs.Common.{◌≡◌, ℕ, ◌+◌, ◌*◌, ◌<◌, ◌≤◌, ◌||◌, ◌&&◌, ◌⊎◌, Bool, true, false, true≢false, List, [], ◌∷◌, ◌++◌, length, refl, ap, sym, ◌∙◌, subst, inl, inr, ⊎_elim, arith, append-nil}
use Rattle.kabi_types.specs.declared.entries.Entry.{Entry}
use Rattle.kabi_types.specs.declared.entries.Entry.TheVariants as entry
use Rattle.kabi_types.specs.declared.scripts.Script.{Script}
use Rattle.posix_defs.specs.History.{Past, MayFollow, is_up}
use Rattle.posix_defs.specs.Machine.{would_block}
use Rattle.posix_defs.specs.Needs.{bound}
use Rattle.posix_defs.specs.Plain.{Plain, call_of}
use Rattle.posix_defs.specs.Process.{is_alive}
use Rattle.posix_defs.specs.Sizes.{reserve, room}
use Rattle.posix_defs.specs.World.{base, pins}
use Rattle.kern_laws.proofs.Caches.{pins_kept}
use Rattle.kern_laws.proofs.LivingVictim.{victim_lives}
use Rattle.turn_words.specs.declared.items.Item.{Item}
use Rattle.turn_words.specs.declared.items.Item.TheVariants.{Noted, Cleared, Given, Back, Starved, Live, Quiet}
use Rattle.turn_words.specs.Items.{is_given, noted}
use Rattle.turn_words.proofs.Held.{contrary, decide, given_more, not_true}
use Rattle.turn_words.proofs.Notes.{noted_more}
use Rattle.kern_shared.specs.Shared.{AllAsleep, IsOver, MayNote, MayShare, NobodyHeld, Starves, StarvesStill, dozes, has_starved, is_starved, is_turn}
use Rattle.kern_shared.specs.Laws.{NoRoomWhereStarved, OverStaysOver, StarvedStands}
use Rattle.kern_shared.proofs.Runs.{same_steps, up_still}

starved_still : (items more : List Item) → has_starved items ≡ true → has_starved (items ++ more) ≡ true
starved_still [] more h = absurd (true≢false (sym h))
starved_still (x ∷ items) more h = either_way (is_starved x) (has_starved items) (has_starved (items ++ more)) h (starved_still items more)
  where
    either_way : (b c d : Bool) → (b || c) ≡ true → (c ≡ true → d ≡ true) → (b || d) ≡ true
    either_way true c d h f = refl
    either_way false c d h f = f h

-- where nobody is held no entry can come
nobody_notes : (items : List Item) (past : Past) (e : Entry) → NobodyHeld items → MayNote items past e → ⊥
nobody_notes items past (entry.Done pid _ _) none_held h = contrary (is_given pid items) h (none_held pid)
nobody_notes items past (entry.Part pid _ _) none_held h = contrary (is_given pid items) h (none_held pid)
nobody_notes items past (entry.Refused pid _ _) none_held h = contrary (is_given pid items) h (none_held pid)
nobody_notes items past (entry.Slept pid _) none_held h = contrary (is_given pid items) h (none_held pid)
nobody_notes items past (entry.Ended pid _ _) none_held h = contrary (is_given pid items) h (none_held pid)
nobody_notes items past (entry.Gone pid _) none_held h = contrary (is_given pid items) h (none_held pid)
nobody_notes items past (entry.Killed _ _ _ _) none_held h = contrary (is_given h.0 items) h.1 (none_held h.0)
nobody_notes items past (entry.Evicted _) none_held h = h

-- who sleeps where an item tells live bytes alone
told_still : (script : Script) (items : List Item) (past next : Past) (n : ℕ) → next ≡ past → AllAsleep script items past → AllAsleep script (items ++ Live n ∷ []) next
told_still script items past next n same all =
    subst (λ p. AllAsleep script (items ++ Live n ∷ []) p) (sym same)
    (subst (λ entries. (pid : ℕ) → is_alive past.plain.table pid ≡ true → (dozes pid entries && would_block script past.plain pid) ≡ true) (sym (noted_more items (Live n) ∙ append-nil (noted items))) all)

pub over_stays : OverStaysOver
over_stays script steps items past next added _ may over = ⊎_elim
    (λ (starved : has_starved items ≡ true). inl (starved_still items (added ∷ []) starved))
    (λ h. ⊎_elim (λ (all : length (noted items) ≡ steps). inr (inl (full added may all))) (λ ends. quiet added may ends.0 ends.1) h)
    over
  where
    full : (x : Item) → MayShare script steps items past x next → length (noted items) ≡ steps → length (noted (items ++ x ∷ [])) ≡ steps
    full (Noted e) m all = let below = m.0 in absurd (omega arith)
    full (Cleared what live) m all = let below = m.0 in absurd (omega arith)
    full (Given pid) m all = same_steps items (Given pid) refl ∙ all
    full (Back pid) m all = same_steps items (Back pid) refl ∙ all
    full Starved m all = same_steps items Starved refl ∙ all
    full (Live n) m all = same_steps items (Live n) refl ∙ all
    full Quiet m all = absurd m

    quiet : (x : Item) → MayShare script steps items past x next → NobodyHeld items → ((is_alive past.plain.table 1 ≡ false) ⊎ AllAsleep script items past) → IsOver script steps (items ++ x ∷ []) next
    quiet (Noted e) m none_held ends = absurd (nobody_notes items past e none_held m.1)
    quiet (Cleared what live) m none_held ends = contrary (is_given m.1.0 items) m.1.1 (none_held m.1.0)
    quiet (Given pid) m none_held ends = absurd (m.0.goes_on (inr (inr (none_held, ends))))
    quiet (Back pid) m none_held ends = contrary (is_given pid items) m.0 (none_held pid)
    quiet Starved m none_held ends = contrary (is_given 1 items) m.0 (none_held 1)
    quiet (Live n) m none_held ends = inr (inr (
      λ pid. given_more pid false items (Live n) ∙ none_held pid,
      ⊎_elim
          (λ (ended : is_alive past.plain.table 1 ≡ false). inl (subst (λ (p : Past). is_alive p.plain.table 1 ≡ false) (sym m) ended))
          (λ (all : AllAsleep script items past). inr (told_still script items past next n m all))
          ends,
    ))
    quiet Quiet m none_held ends = absurd m

-- a Starved stands before one more item, or that is one
starved_before : (items : List Item) (x : Item) → is_starved x ≡ false → has_starved (items ++ x ∷ []) ≡ true → has_starved items ≡ true
starved_before [] x is h = absurd (true≢false (sym h ∙ ap (λ (b : Bool). b || false) is))
starved_before (y ∷ items) x is h = either_way (is_starved y) (has_starved (items ++ x ∷ [])) (has_starved items) h (starved_before items x is)
  where
    either_way : (b c d : Bool) → (b || c) ≡ true → (c ≡ true → d ≡ true) → (b || d) ≡ true
    either_way true c d h f = refl
    either_way false c d h f = f h

-- the machine and its account are as before, and the first process is up
starves_on : (script : Script) (past next : Past) → next.plain ≡ past.plain → next.account ≡ past.account → is_up next 1 ≡ true → Starves script past → Starves script next
starves_on script past next plain account up starves = record {
  alive = subst (λ (p : Plain). is_alive p.table 1 ≡ true) (sym plain) starves.alive;
  alone = λ other lives. starves.alone other (subst (λ (p : Plain). is_alive p.table other ≡ true) plain lives);
  up = up;
  fits_ever = subst (λ p. bound (call_of script p 1) ≤ room script.heap) (sym plain) starves.fits_ever;
  too_much = subst (λ p. script.heap < base p next.account + 128 * pins p + reserve + bound (call_of script p 1)) (sym plain)
      (subst (λ a. script.heap < base past.plain a + 128 * pins past.plain + reserve + bound (call_of script past.plain 1)) (sym account) starves.too_much);
}

-- an entry that is no turn of a live process, behind a Starved
entry_starves : (script : Script) (items : List Item) (past next : Past) (e : Entry) → MayNote items past e → MayFollow script past e next → is_turn (Noted e) ≡ false
    → Starves script past → Starves script next
entry_starves script items past next (entry.Done _ _ _) from f no_turn starves = absurd (true≢false no_turn)
entry_starves script items past next (entry.Part _ _ _) from f no_turn starves = absurd (true≢false no_turn)
entry_starves script items past next (entry.Slept _ _) from f no_turn starves = absurd (true≢false no_turn)
entry_starves script items past next (entry.Ended _ _ _) from f no_turn starves = absurd (true≢false no_turn)
entry_starves script items past next (entry.Refused pid _ asked) from f no_turn starves =
    let first : pid ≡ 1 = starves.alone pid f.alive in
    let same : bound (call_of script past.plain pid) ≡ bound (call_of script past.plain 1) = ap (λ n. bound (call_of script past.plain n)) first in
    let is : asked ≡ bound (call_of script past.plain pid) = f.is_bound in
    let fits : bound (call_of script past.plain 1) ≤ room script.heap = starves.fits_ever in
    let never : room script.heap < asked = f.never_fits in
    absurd (omega arith)
entry_starves script items past next (entry.Gone pid which) from f no_turn starves =
    starves_on script past next (ap (λ (p : Past). p.plain) f.leads) (ap (λ (p : Past). p.account) f.leads)
    (up_still script past next (entry.Gone pid which) 1 f refl starves.up) starves
entry_starves script items past next (entry.Killed pid waiter need live) from f no_turn starves =
    let victim = victim_lives script.policy past.plain past.account pid f.victim in absurd (victim.1 (starves.alone pid victim.0))
entry_starves script items past next (entry.Evicted what) from f no_turn starves = absurd from

pub starved_stands : StarvedStands
starved_stands script steps items past next added _ may turns still = by_item added may turns
  where
    before : (x : Item) → is_starved x ≡ false → has_starved (items ++ x ∷ []) ≡ true → Starves script past
    before x is starved = still (starved_before items x is starved)

    at_next : next ≡ past → Starves script past → Starves script next
    at_next same starves = subst (λ p. Starves script p) (sym same) starves

    by_item : (x : Item) → MayShare script steps items past x next → (is_turn x ≡ true → has_starved items ≡ false) → StarvesStill script (items ++ x ∷ []) next
    by_item (Noted e) m turns starved = ⊎_elim
        (λ (turn : is_turn (Noted e) ≡ true). contrary (has_starved items) (starved_before items (Noted e) refl starved) (turns turn))
        (λ (no : is_turn (Noted e) ≡ false). entry_starves script items past next e m.1 m.2 no (before (Noted e) refl starved))
        (decide (is_turn (Noted e)))
    by_item (Cleared what live) m turns starved =
        let starves = before (Cleared what live) refl starved in
        starves_on script past next (ap (λ (p : Past). p.plain) m.2.leads) (ap (λ (p : Past). p.account) m.2.leads)
        (up_still script past next (entry.Evicted what) 1 m.2 refl starves.up) starves
    by_item (Given pid) m turns starved = absurd (m.0.goes_on (inl (starved_before items (Given pid) refl starved)))
    by_item (Back pid) m turns starved = at_next m.1 (before (Back pid) refl starved)
    by_item Starved m turns starved = at_next m.2 m.1
    by_item (Live n) m turns starved = at_next m (before (Live n) refl starved)
    by_item Quiet m turns starved = absurd m

pub no_room : NoRoomWhereStarved
no_room script items past world pid still plain account may alive fits = not_true (has_starved items) (λ starved. full (still starved))
  where
    full : Starves script past → ⊥
    full starves =
        let first : pid ≡ 1 = starves.alone pid alive in
        let call : bound (call_of script past.plain pid) ≡ bound (call_of script past.plain 1) = ap (λ n. bound (call_of script past.plain n)) first in
        let many : pins past.plain ≤ length world.kept.vnodes = subst (λ p. pins p ≤ length world.kept.vnodes) plain (pins_kept world.plain world.kept may) in
        let same : base world.plain world.account ≡ base past.plain past.account = ap (λ p. base p world.account) plain ∙ ap (base past.plain) account in
        let much : script.heap < base past.plain past.account + 128 * pins past.plain + 2176 + bound (call_of script past.plain 1) = starves.too_much in
        let within : base world.plain world.account + (length world.kept.names * 64 + length world.kept.blocks * 1088 + length world.kept.vnodes * 128) + 2176
        + bound (call_of script past.plain pid) ≤ script.heap = fits in
        absurd (omega (arith, many, same, call, much, within))
