-- Who is live behind an entry, and who of them dozes.
use Rattle.std.proofs.Common.{◌≡◌, ◌≢◌, ℕ, ◌+◌, ◌<◌, ◌≤◌, ◌==◌, ◌||◌, ◌&&◌, not, ⊎_elim, Bool, true, false, true≢false, cond, List, [], ◌∷◌, ◌++◌, length, refl, ap, sym, ◌∙◌, subst, arith, eq-eqb, append-nil}
use Rattle.std.proofs.lemmas.Bool.{eqb-true}
use Rattle.std.proofs.lemmas.Bool.Decides.{leb_tells}
use Rattle.std.proofs.lemmas.Map.Views.{any-filter_same}
use Rattle.kabi_types.specs.declared.calls.CallKind.{CallKind}
use Rattle.kabi_types.specs.declared.entries.Entry.{Entry}
use Rattle.kabi_types.specs.declared.entries.Entry.TheVariants as entry
use Rattle.kabi_types.specs.declared.scripts.Script.{Script}
use Rattle.posix_defs.specs.History.{Past, IsRun, MayFollow, is_among}
use Rattle.posix_defs.specs.History as run
use Rattle.posix_defs.specs.Plain.{Plain, last_pid}
use Rattle.posix_defs.specs.Process.{is_alive}
use Rattle.posix_defs.specs.World.{AreOnce}
use Rattle.kern_laws.specs.Sleeping.{is_of, sleeps_by}
use Rattle.kern_laws.proofs.LivingVictim.{victim_lives}
use Rattle.kern_laws.proofs.Nexts.{IsNext}
use Rattle.turn_words.proofs.Held.{contrary, decide, not_true}
use Rattle.kern_shared.specs.Lists.{alive_but, awake_after, dozing_after, if_so}
use Rattle.kern_shared.specs.Shared.{dozes}
use Rattle.kern_shared.specs.Shares.{ArePresent}
use Rattle.kern_shared.proofs.Pids.{eq_turned, few_among, once_filtered, once_more}
use Rattle.kern_shared.proofs.Runs.{dozes_more}
use Rattle.kern_shared.proofs.Standing.{alive_made, few_made, goes, made_in}

-- behind an entry of nobody the same doze
pub present_still : (plain : Plain) (awake dozing : List ℕ) (entries : List Entry) (e : Entry) → ((pid : ℕ) → is_of pid e ≡ false)
    → ArePresent plain awake dozing entries → ArePresent plain awake dozing (entries ++ e ∷ [])
present_still plain awake dozing entries e nobody are = record {
  awake_are = λ pid. are.awake_are pid ∙ ap (λ (b : Bool). is_alive plain.table pid && not b) (sym (same pid));
  dozing_are = λ pid. are.dozing_are pid ∙ ap (λ (b : Bool). is_alive plain.table pid && b) (sym (same pid));
  awake_once = are.awake_once;
  dozing_once = are.dozing_once;
}
  where
    same : (pid : ℕ) → dozes pid (entries ++ e ∷ []) ≡ dozes pid entries
    same pid = dozes_more pid false entries e ∙ ap (λ (b : Bool). cond b (sleeps_by pid e) (dozes pid entries)) (nobody pid)

-- and behind the Gone of one that has ended
pub present_gone : (plain : Plain) (awake dozing : List ℕ) (entries : List Entry) (pid : ℕ) (which : CallKind) → is_alive plain.table pid ≡ false
    → ArePresent plain awake dozing entries → ArePresent plain awake dozing (entries ++ entry.Gone pid which ∷ [])
present_gone plain awake dozing entries pid which ended are = record {
  awake_are = λ other. are.awake_are other ∙ same other not;
  dozing_are = λ other. are.dozing_are other ∙ same other (λ b. b);
  awake_once = are.awake_once;
  dozing_once = are.dozing_once;
}
  where
    by_test : (other : ℕ) (f : Bool → Bool) (b : Bool) → (pid == other) ≡ b
        → (is_alive plain.table other && f (dozes other entries)) ≡ (is_alive plain.table other && f (cond b false (dozes other entries)))
    by_test other f true is =
        let dead : is_alive plain.table other ≡ false = subst (λ (k : ℕ). is_alive plain.table k ≡ false) (eqb-true pid other is) ended in
        ap (λ (b : Bool). b && f (dozes other entries)) dead ∙ sym (ap (λ (b : Bool). b && f false) dead)
    by_test other f false is = refl

    same : (other : ℕ) (f : Bool → Bool) → (is_alive plain.table other && f (dozes other entries)) ≡ (is_alive plain.table other && f (dozes other (entries ++ entry.Gone pid which ∷ [])))
    same other f = by_test other f (pid == other) refl ∙ ap (λ (b : Bool). is_alive plain.table other && f b) (sym (dozes_more other false entries (entry.Gone pid which)))

-- whose entry it is was made
of_made : (script : Script) (past next : Past) (e : Entry) (pid : ℕ) → length past.plain.table ≡ last_pid past.plain → MayFollow script past e next
    → is_of pid e ≡ true → pid ≤ last_pid past.plain
of_made script past next e pid made f is = by_entry e f is
  where
    of_alive : (other : ℕ) → is_alive past.plain.table other ≡ true → (other == pid) ≡ true → pid ≤ last_pid past.plain
    of_alive other alive same = subst (λ (k : ℕ). k ≤ last_pid past.plain) (eqb-true other pid same) (alive_made past.plain other made alive).1

    by_entry : (e : Entry) → MayFollow script past e next → is_of pid e ≡ true → pid ≤ last_pid past.plain
    by_entry (entry.Done other _ _) f is = of_alive other f.may_run.alive is
    by_entry (entry.Part other _ _) f is = of_alive other f.may_run.alive is
    by_entry (entry.Slept other _) f is = of_alive other f.may_run.alive is
    by_entry (entry.Ended other _ _) f is = of_alive other f.may_run.alive is
    by_entry (entry.Refused other _ _) f is = of_alive other f.alive is
    by_entry (entry.Gone other _) f is = subst (λ (k : ℕ). k ≤ last_pid past.plain) (eqb-true other pid is) f.made.1
    by_entry (entry.Killed other _ _ _) f is = of_alive other (victim_lives script.policy past.plain past.account other f.victim).0 is
    by_entry (entry.Evicted _) f is = absurd (true≢false (sym is))

-- who wasn't made doesn't doze
unmade_awake : (script : Script) (entries : List Entry) (past : Past) → IsRun script entries past → (pid : ℕ) → last_pid past.plain < pid → dozes pid entries ≡ false
unmade_awake script _ _ run.boots pid above = refl
unmade_awake script _ _ (run.goes_on entries past next e before f) pid above =
    dozes_more pid false entries e
    ∙ ap (λ (b : Bool). cond b (sleeps_by pid e) (dozes pid entries)) (not_true (is_of pid e) (λ is. let most = of_made script past next e pid made f is in absurd (omega (arith, above, more, most))))
    ∙ unmade_awake script entries past before pid (omega (arith, above, more))
  where
    made : length past.plain.table ≡ last_pid past.plain
    made = made_in script entries past before

    more : last_pid past.plain ≤ last_pid next.plain
    more = (goes script past next e 0 made f).more

-- membership in the lists
among_both : (xs ys : List ℕ) (n : ℕ) → is_among n (xs ++ ys) ≡ (is_among n xs || is_among n ys)
among_both [] ys n = refl
among_both (x ∷ xs) ys n = ap (λ (b : Bool). (x == n) || b) (among_both xs ys n) ∙ three (x == n) (is_among n xs) (is_among n ys)
  where
    three : (a b c : Bool) → (a || (b || c)) ≡ ((a || b) || c)
    three true b c = refl
    three false b c = refl

among_if : (there : Bool) (pid n : ℕ) → is_among n (if_so there pid) ≡ (there && (pid == n))
among_if true pid n = one (pid == n)
  where
    one : (b : Bool) → (b || false) ≡ b
    one true = refl
    one false = refl
among_if false pid n = refl

among_but : (plain : Plain) (pid : ℕ) (pids : List ℕ) (n : ℕ) → is_among n (alive_but plain pid pids) ≡ ((not (pid == n) && is_alive plain.table n) && is_among n pids)
among_but plain pid pids n =
    any-filter_same (λ k. k == n) (λ k. not (k == pid) && is_alive plain.table k) (not (pid == n) && is_alive plain.table n)
    (λ k is. ap (λ j. not (j == pid) && is_alive plain.table j) (eqb-true k n is) ∙ ap (λ (b : Bool). not b && is_alive plain.table n) (eq_turned n pid)) pids

-- one more at most, each once
once_if : (there : Bool) (pid : ℕ) (pids : List ℕ) → AreOnce pids → (there ≡ true → is_among pid pids ≡ false) → AreOnce (pids ++ if_so there pid)
once_if true pid pids once apart = once_more pids pid once (apart refl)
once_if false pid pids once apart = subst AreOnce (sym (append-nil pids)) once

module _ (old new : Plain) (who pid : ℕ) (sleeps : Bool) (entries : List Entry) (e : Entry) (awake dozing : List ℕ)
    (made : length old.table ≡ last_pid old) (next : IsNext old new who) (own_made : pid ≤ last_pid old)
    (of : (other : ℕ) → is_of other e ≡ (pid == other)) (slept : (other : ℕ) → (pid == other) ≡ true → sleeps_by other e ≡ sleeps)
    (unmade : (other : ℕ) → last_pid old < other → dozes other entries ≡ false) (are : ArePresent old awake dozing entries) where
  abbrev lives : ℕ → Bool
  lives other = is_alive new.table other

  abbrev lived : ℕ → Bool
  lived other = is_alive old.table other

  -- a process was made, and it is this one
  abbrev is_new : ℕ → Bool
  is_new other = not (last_pid new == last_pid old) && (last_pid new == other)

  both_true : (b c : Bool) → (b && c) ≡ true → (b ≡ true) × (c ≡ true)
  both_true true true h = (refl, refl)
  both_true true false h = absurd (true≢false (sym h))
  both_true false c h = absurd (true≢false (sym h))

  not_false : (b : Bool) → not b ≡ true → b ≡ false
  not_false true h = absurd (true≢false (sym h))
  not_false false h = refl

  new_above : (other : ℕ) → is_new other ≡ true → (last_pid old < other) × (other ≡ last_pid new)
  new_above other is =
      let two = both_true (not (last_pid new == last_pid old)) (last_pid new == other) is in
      let same : last_pid new ≡ other = eqb-true (last_pid new) other two.1 in
      let more : last_pid old ≤ last_pid new = next.more in (
        ⊎_elim
            (λ h. let less = h.1 in let equal : last_pid new ≡ last_pid old = omega arith in
            contrary (last_pid new == last_pid old) (eq-eqb (last_pid new) (last_pid old) equal) (not_false (last_pid new == last_pid old) two.0))
            (λ h. let above = h.1 in omega arith)
            (leb_tells other (last_pid old)),
        sym same,
      )

  above_new : (other : ℕ) → last_pid old < other → lives other ≡ true → is_new other ≡ true
  above_new other above alive =
      let most : other ≤ last_pid new = (alive_made new other next.made alive).1 in
      let one : last_pid new ≤ last_pid old + 1 = next.one in
      let is : last_pid new ≡ other = omega arith in
      let apart : last_pid new ≢ last_pid old = λ same. absurd (omega arith) in
      ap (λ (b : Bool). not b && (last_pid new == other)) (not_true (last_pid new == last_pid old) (λ same. apart (eqb-true (last_pid new) (last_pid old) same)))
      ∙ eq-eqb (last_pid new) other is

  new_lives : (other : ℕ) → is_new other ≡ true → lives other ≡ true
  new_lives other is =
      let where_it_is = new_above other is in let same : other ≡ last_pid new = where_it_is.1 in next.born other where_it_is.0 (omega arith)

  lived_still : (other : ℕ) → other ≤ last_pid old → lives other ≡ true → lived other ≡ true
  lived_still other within alive = next.revived other within alive

  unborn : (other : ℕ) → last_pid old < other → lived other ≡ false
  unborn other above = not_true (is_alive old.table other) (λ alive. let most = (alive_made old other made alive).1 in absurd (omega arith))

  -- behind the entry, where it is another process's
  other_dozes : (other : ℕ) → (pid == other) ≡ false → dozes other (entries ++ e ∷ []) ≡ dozes other entries
  other_dozes other apart = dozes_more other false entries e ∙ ap (λ (b : Bool). cond b (sleeps_by other e) (dozes other entries)) (of other ∙ apart)

  own_dozes : (other : ℕ) → (pid == other) ≡ true → dozes other (entries ++ e ∷ []) ≡ sleeps
  own_dozes other same = dozes_more other false entries e ∙ ap (λ (b : Bool). cond b (sleeps_by other e) (dozes other entries)) (of other ∙ same) ∙ slept other same

  in_kept : (other : ℕ) (pids : List ℕ) → (pid == other) ≡ false → is_among other (alive_but new pid pids) ≡ (lives other && is_among other pids)
  in_kept other pids apart = among_but new pid pids other ∙ ap (λ (b : Bool). (not b && is_alive new.table other) && is_among other pids) apart

  not_in_kept : (other : ℕ) (pids : List ℕ) → (pid == other) ≡ true → is_among other (alive_but new pid pids) ≡ false
  not_in_kept other pids same = among_but new pid pids other ∙ ap (λ (b : Bool). (not b && is_alive new.table other) && is_among other pids) same

  -- the process itself, where it stands in one of the lists
  own_in : (other : ℕ) (b : Bool) → (pid == other) ≡ true → is_among other (if_so (is_alive new.table pid && b) pid) ≡ (is_alive new.table other && b)
  own_in other b same =
      among_if (is_alive new.table pid && b) pid other ∙ ap (λ (t : Bool). (is_alive new.table pid && b) && t) same ∙ and_true (is_alive new.table pid && b)
      ∙ ap (λ k. is_alive new.table k && b) (eqb-true pid other same)
    where
      and_true : (a : Bool) → (a && true) ≡ a
      and_true true = refl
      and_true false = refl

  other_in : (other : ℕ) (b : Bool) → (pid == other) ≡ false → is_among other (if_so (is_alive new.table pid && b) pid) ≡ false
  other_in other b apart =
      among_if (is_alive new.table pid && b) pid other ∙ ap (λ (t : Bool). (is_alive new.table pid && b) && t) apart ∙ and_false (is_alive new.table pid && b)
    where
      and_false : (a : Bool) → (a && false) ≡ false
      and_false true = refl
      and_false false = refl

  -- who was live before and is now
  kept_same : (b f : Bool) (other : ℕ) → other ≤ last_pid old → (lives other && (lived other && f)) ≡ (lives other && f)
  kept_same b f other within = by_test (lives other) (lived other) (lived_still other within)
    where
      by_test : (a l : Bool) → (a ≡ true → l ≡ true) → (a && (l && f)) ≡ (a && f)
      by_test true l still = ap (λ (t : Bool). t && f) (still refl)
      by_test false l still = refl

  three_in : (other : ℕ) (a b : Bool) → is_among other (alive_but new pid awake) ≡ a → is_among other (if_so (is_alive new.table pid && not sleeps) pid) ≡ b
      → is_among other (awake_after new pid sleeps (last_pid old) awake) ≡ ((a || b) || is_new other)
  three_in other a b first second =
      among_both (alive_but new pid awake ++ if_so (is_alive new.table pid && not sleeps) pid) (if_so (not (last_pid new == last_pid old)) (last_pid new)) other
      ∙ ap (λ (t : Bool). t || is_among other (if_so (not (last_pid new == last_pid old)) (last_pid new)))
      (among_both (alive_but new pid awake) (if_so (is_alive new.table pid && not sleeps) pid) other
      ∙ ap (λ (t : Bool). t || is_among other (if_so (is_alive new.table pid && not sleeps) pid)) first ∙ ap (λ (t : Bool). a || t) second)
      ∙ ap (λ (t : Bool). (a || b) || t) (among_if (not (last_pid new == last_pid old)) (last_pid new) other)

  or_no : (a : Bool) → ((a || false) || false) ≡ a
  or_no true = refl
  or_no false = refl

  awake_is : (other : ℕ) → is_among other (awake_after new pid sleeps (last_pid old) awake) ≡ (is_alive new.table other && not (dozes other (entries ++ e ∷ [])))
  awake_is other = ⊎_elim
      (λ (same : (pid == other) ≡ true).
      let none : is_new other ≡ false = not_true (is_new other) (λ is. let above = (new_above other is).0 in let own : pid ≡ other = eqb-true pid other same in absurd (omega (arith, above, own, own_made))) in
      three_in other false (is_alive new.table other && not sleeps) (not_in_kept other awake same) (own_in other (not sleeps) same)
      ∙ ap (λ (t : Bool). (is_alive new.table other && not sleeps) || t) none ∙ one (is_alive new.table other && not sleeps)
      ∙ ap (λ (t : Bool). is_alive new.table other && not t) (sym (own_dozes other same)))
      (λ (apart : (pid == other) ≡ false).
      three_in other (lives other && (lived other && not (dozes other entries))) false
      (in_kept other awake apart ∙ ap (λ (t : Bool). lives other && t) (are.awake_are other)) (other_in other (not sleeps) apart)
      ∙ ⊎_elim
      (λ h. let within = h.1 in
      ap (λ (t : Bool). ((lives other && (lived other && not (dozes other entries))) || false) || t)
      (not_true (is_new other) (λ is. let above = (new_above other is).0 in absurd (omega arith)))
      ∙ or_no (lives other && (lived other && not (dozes other entries))) ∙ kept_same true (not (dozes other entries)) other within)
      (λ h. beyond other h.1)
      (leb_tells other (last_pid old))
      ∙ ap (λ (t : Bool). is_alive new.table other && not t) (sym (other_dozes other apart)))
      (decide (pid == other))
    where
      one : (b : Bool) → (b || false) ≡ b
      one true = refl
      one false = refl

      beyond : (other : ℕ) → last_pid old < other
          → (((lives other && (lived other && not (dozes other entries))) || false) || is_new other) ≡ (lives other && not (dozes other entries))
      beyond other above =
          by_test (lives other) (lived other) (dozes other entries) (is_new other) (unborn other above) (unmade other above) (above_new other above) (new_lives other)
        where
          by_test : (a l d n : Bool) → l ≡ false → d ≡ false → (a ≡ true → n ≡ true) → (n ≡ true → a ≡ true) → (((a && (l && not d)) || false) || n) ≡ (a && not d)
          by_test true l d n dead up forth back = ap (λ (t : Bool). ((true && (l && not d)) || false) || t) (forth refl) ∙ or_true ((true && (l && not d)) || false) ∙ sym (ap not up)
            where
              or_true : (b : Bool) → (b || true) ≡ true
              or_true true = refl
              or_true false = refl
          by_test false l d n dead up forth back = not_true n (λ is. absurd (true≢false (sym (back is))))

  dozing_is : (other : ℕ) → is_among other (dozing_after new pid sleeps dozing) ≡ (is_alive new.table other && dozes other (entries ++ e ∷ []))
  dozing_is other = among_both (alive_but new pid dozing) (if_so (is_alive new.table pid && sleeps) pid) other ∙ ⊎_elim
      (λ (same : (pid == other) ≡ true).
      ap (λ (t : Bool). t || is_among other (if_so (is_alive new.table pid && sleeps) pid)) (not_in_kept other dozing same) ∙ own_in other sleeps same
      ∙ ap (λ (t : Bool). is_alive new.table other && t) (sym (own_dozes other same)))
      (λ (apart : (pid == other) ≡ false).
      ap (λ (t : Bool). is_among other (alive_but new pid dozing) || t) (other_in other sleeps apart)
      ∙ one (is_among other (alive_but new pid dozing))
      ∙ in_kept other dozing apart ∙ ap (λ (t : Bool). lives other && t) (are.dozing_are other)
      ∙ ⊎_elim
      (λ h. kept_same true (dozes other entries) other h.1)
      (λ h. by_test (lives other) (lived other) (dozes other entries) (unmade other h.1))
      (leb_tells other (last_pid old))
      ∙ ap (λ (t : Bool). is_alive new.table other && t) (sym (other_dozes other apart)))
      (decide (pid == other))
    where
      one : (b : Bool) → (b || false) ≡ b
      one true = refl
      one false = refl

      by_test : (a l d : Bool) → d ≡ false → (a && (l && d)) ≡ (a && d)
      by_test true true d up = refl
      by_test true false d up = sym up
      by_test false l d up = refl

  pub present_after : ArePresent new (awake_after new pid sleeps (last_pid old) awake) (dozing_after new pid sleeps dozing) (entries ++ e ∷ [])
  present_after = record {
    awake_are = awake_is;
    dozing_are = dozing_is;
    awake_once = once_if (not (last_pid new == last_pid old)) (last_pid new) (alive_but new pid awake ++ if_so (is_alive new.table pid && not sleeps) pid)
        (once_if (is_alive new.table pid && not sleeps) pid (alive_but new pid awake) (once_filtered (λ other. not (other == pid) && is_alive new.table other) awake are.awake_once)
        (λ _. not_in_kept pid awake (eq-eqb pid pid refl)))
        (λ more. apart (not_false (last_pid new == last_pid old) more));
    dozing_once = once_if (is_alive new.table pid && sleeps) pid (alive_but new pid dozing) (once_filtered (λ other. not (other == pid) && is_alive new.table other) dozing are.dozing_once)
        (λ _. not_in_kept pid dozing (eq-eqb pid pid refl));
  }
    where
      apart : (last_pid new == last_pid old) ≡ false → is_among (last_pid new) (alive_but new pid awake ++ if_so (is_alive new.table pid && not sleeps) pid) ≡ false
      apart differs =
          let more : last_pid old ≤ last_pid new = next.more in
          let not_same : last_pid new ≢ last_pid old = λ same. contrary (last_pid new == last_pid old) (eq-eqb (last_pid new) (last_pid old) same) differs in
          let above : last_pid old < last_pid new =
          ⊎_elim (λ h. let less = h.1 in absurd (not_same (omega arith))) (λ h. h.1) (leb_tells (last_pid new) (last_pid old)) in
          let other : (pid == last_pid new) ≡ false = not_true (pid == last_pid new) (λ same. let is : pid ≡ last_pid new = eqb-true pid (last_pid new) same in absurd (omega (arith, is, own_made, above))) in
          among_both (alive_but new pid awake) (if_so (is_alive new.table pid && not sleeps) pid) (last_pid new)
          ∙ ap (λ (t : Bool). t || is_among (last_pid new) (if_so (is_alive new.table pid && not sleeps) pid))
          (in_kept (last_pid new) awake other ∙ ap (λ (t : Bool). lives (last_pid new) && t) (are.awake_are (last_pid new) ∙ ap (λ (t : Bool). t && not (dozes (last_pid new) entries)) (unborn (last_pid new) above))
          ∙ and_false (lives (last_pid new)))
          ∙ other_in (last_pid new) (not sleeps) other
        where
          and_false : (a : Bool) → (a && false) ≡ false
          and_false true = refl
          and_false false = refl

-- so the lists may be told anew behind any entry of one process, behind which the same entries stand
pub present_behind : (script : Script) (past next : Past) (entries : List Entry) (e : Entry) (pid : ℕ) (sleeps : Bool) (awake dozing : List ℕ)
    → IsRun script entries past → MayFollow script past e next → ((other : ℕ) → is_of other e ≡ (pid == other)) → ((other : ℕ) → (pid == other) ≡ true → sleeps_by other e ≡ sleeps)
    → ArePresent past.plain awake dozing entries
    → ArePresent next.plain (awake_after next.plain pid sleeps (last_pid past.plain) awake) (dozing_after next.plain pid sleeps dozing) (entries ++ e ∷ [])
present_behind script past next entries e pid sleeps awake dozing is_run f of slept are =
    let made = made_in script entries past is_run in
    present_after past.plain next.plain _ pid sleeps entries e awake dozing made (goes script past next e 0 made f)
    (of_made script past next e pid made f (of pid ∙ eq-eqb pid pid refl)) of slept (unmade_awake script entries past is_run) are

-- and they are never longer than there is room for
pub few_present : (script : Script) (past : Past) (entries : List Entry) (awake dozing : List ℕ) → IsRun script entries past → ArePresent past.plain awake dozing entries
    → (length awake ≤ length entries + 1) × (length dozing ≤ length entries + 1)
few_present script past entries awake dozing is_run are =
    let most : last_pid past.plain ≤ length entries + 1 = few_made script entries past is_run in
    let up : length awake ≤ last_pid past.plain = few_among awake (last_pid past.plain) are.awake_once (λ pid among. within pid (not (dozes pid entries)) (sym (are.awake_are pid) ∙ among)) in
    let down : length dozing ≤ last_pid past.plain = few_among dozing (last_pid past.plain) are.dozing_once (λ pid among. within pid (dozes pid entries) (sym (are.dozing_are pid) ∙ among)) in
    (omega (arith, most, up), omega (arith, most, down))
  where
    within : (pid : ℕ) (b : Bool) → (is_alive past.plain.table pid && b) ≡ true → (0 < pid) × (pid ≤ last_pid past.plain)
    within pid b is = alive_made past.plain pid (made_in script entries past is_run) (first (is_alive past.plain.table pid) is)
      where
        first : (a : Bool) → (a && b) ≡ true → a ≡ true
        first true h = refl
        first false h = absurd (true≢false (sym h))
