-- Who sleeps after an entry, what was given up, and what was evicted.
use Rattle.std.proofs.Common.{◌≡◌, ℕ, ◌≤◌, ◌==◌, ◌||◌, ◌&&◌, not, Bool, true, false, List, ◌∷◌, refl, ap, sym, ◌∙◌, subst, arith, inl, inr}
use Rattle.std.proofs.lemmas.Bool.Decides.{eqb_tells}
use Rattle.std.proofs.lemmas.Map.Views.{any-filter_same}
use Rattle.kabi_types.specs.declared.calls.CallKind.{CallKind}
use Rattle.kabi_types.specs.declared.classes.Need.{Need}
use Rattle.kabi_types.specs.declared.entries.Entry.{Entry}
use Rattle.kabi_types.specs.declared.entries.Entry.TheVariants as entry
use Rattle.kabi_types.specs.declared.scripts.Script.{Script}
use Rattle.posix_defs.specs.Needs.{need_of}
use Rattle.posix_defs.specs.Plain.{Plain, call_of}
use Rattle.posix_defs.specs.Machine.{would_block}
use Rattle.posix_defs.specs.History.{AreCovered, Fills, Past, IsRun, MayFollow, boots, goes_on, fills_after, is_among, is_up, others, still_asleep}
use Rattle.kern_laws.specs.Sleeping.{is_of, sleeps_by}

-- the test for a number tells whether it is that number
is_that : (n m : ℕ) → (n == m) ≡ true → n ≡ m
is_that n m e = elim (eqb_tells n m) [ inl is ↦ is.1 | inr is ↦ (let f = is.0 in cc) ]

-- of the sleepers those are left who would block
still_among : (script : Script) (plain : Plain) (pids : List ℕ) (pid : ℕ) → is_among pid (still_asleep script plain pids) ≡ (would_block script plain pid && is_among pid pids)
still_among script plain pids pid =
    any-filter_same (λ other. other == pid) (would_block script plain) (would_block script plain pid) (λ other e. ap (would_block script plain) (is_that other pid e)) pids

-- and others than one are those of before but that one
others_among : (q : ℕ) (pids : List ℕ) (pid : ℕ) → is_among pid (others q pids) ≡ (not (q == pid) && is_among pid pids)
others_among q pids pid =
    any-filter_same (λ other. other == pid) (λ other. not (other == q)) (not (q == pid)) (λ other e. ap (λ n. not (n == q)) (is_that other pid e) ∙ ap not (turned pid q)) pids
  where
    turned : (n m : ℕ) → (n == m) ≡ (m == n)
    turned n m = elim (eqb_tells n m) [
      | inl is ↦ ap (λ k. n == k) (sym is.1) ∙ ap (λ k. k == n) is.1
      | inr is ↦ elim (eqb_tells m n) [ inl other ↦ absurd (is.1 (sym other.1)) | inr other ↦ is.0 ∙ sym other.0 ]
    ]

not_not : (b : Bool) → not (not b) ≡ b
not_not true = refl
not_not false = refl

drop_self : (b c : Bool) → (b || (not b && c)) ≡ (b || c)
drop_self true c = refl
drop_self false c = refl

-- who sleeps then is told by the entry and by who slept before
abbrev AsTold : Script → Past → Entry → ℕ → Past → Type 0
AsTold script past added pid next =
    is_among pid next.asleep ≡ (would_block script next.plain pid && (sleeps_by pid added || (not (is_of pid added) && not (is_up past pid))))

-- where a process's own entry wakes it
woken : (script : Script) (past : Past) (q : ℕ) (plain : Plain) (pid : ℕ)
    → is_among pid (still_asleep script plain (others q past.asleep)) ≡ (would_block script plain pid && (not (q == pid) && not (is_up past pid)))
woken script past q plain pid = still_among script plain (others q past.asleep) pid
    ∙ ap (λ b. would_block script plain pid && b) (others_among q past.asleep pid ∙ ap (λ b. not (q == pid) && b) (sym (not_not (is_among pid past.asleep))))

-- where nobody's does
asleep_still : (script : Script) (past : Past) (plain : Plain) (pid : ℕ)
    → is_among pid (still_asleep script plain past.asleep) ≡ (would_block script plain pid && not (is_up past pid))
asleep_still script past plain pid = still_among script plain past.asleep pid
    ∙ ap (λ b. would_block script plain pid && b) (sym (not_not (is_among pid past.asleep)))

told_by : (script : Script) (past : Past) (added : Entry) (next : Past) (pid : ℕ) → MayFollow script past added next → AsTold script past added pid next
told_by script past (entry.Done q kind reply) next pid f = subst (AsTold script past (entry.Done q kind reply) pid) (sym f.leads) (woken script past q f.plain pid)
told_by script past (entry.Ended q kind status) next pid f = subst (AsTold script past (entry.Ended q kind status) pid) (sym f.leads) (woken script past q f.plain pid)
told_by script past (entry.Part q kind moved) next pid f =
    subst (AsTold script past (entry.Part q kind moved) pid) (sym f.leads)
    (still_among script f.plain (q ∷ others q past.asleep) pid
    ∙ ap (λ b. would_block script f.plain pid && ((q == pid) || b)) (others_among q past.asleep pid ∙ ap (λ b. not (q == pid) && b) (sym (not_not (is_among pid past.asleep)))))
told_by script past (entry.Slept q kind) next pid f =
    subst (AsTold script past (entry.Slept q kind) pid) (sym f.leads)
    (still_among script past.plain (q ∷ past.asleep) pid
    ∙ ap (λ b. would_block script past.plain pid && b) (ap (λ b. (q == pid) || b) (sym (not_not (is_among pid past.asleep))) ∙ sym (drop_self (q == pid) (not (is_up past pid)))))
told_by script past (entry.Refused q kind asked) next pid f =
    subst (AsTold script past (entry.Refused q kind asked) pid) (sym f.leads) (woken script past q _ pid)
told_by script past (entry.Gone q kind) next pid f =
    subst (AsTold script past (entry.Gone q kind) pid) (sym f.leads) (woken script past q past.plain pid)
told_by script past (entry.Killed q waiter need live) next pid f =
    subst (AsTold script past (entry.Killed q waiter need live) pid) (sym f.leads) (woken script past q _ pid)
told_by script past (entry.Evicted what) next pid f =
    subst (AsTold script past (entry.Evicted what) pid) (sym f.leads) (asleep_still script past past.plain pid)

-- who sleeps after an entry
pub sleeps_after : (script : Script) (past : Past) (added : Entry) (next : Past) (pid : ℕ) → MayFollow script past added next
    → is_up next pid ≡ not (would_block script next.plain pid && (sleeps_by pid added || (not (is_of pid added) && not (is_up past pid))))
sleeps_after script past added next pid follows = ap not (told_by script past added next pid follows)

more_filled : (evicted fills : Fills) (need : Need) → AreCovered evicted fills → AreCovered evicted (fills_after fills need)
more_filled evicted fills need are = record {
  names = let h : evicted.names ≤ fills.names = are.names in omega arith;
  blocks = let h : evicted.blocks ≤ fills.blocks = are.blocks in omega arith;
  vnodes = let h : evicted.vnodes ≤ fills.vnodes = are.vnodes in omega arith;
}

-- what was evicted was cached
covered_after : (script : Script) (past : Past) (added : Entry) (next : Past) → MayFollow script past added next
    → AreCovered past.evicted past.filled → AreCovered next.evicted next.filled
covered_after script past added next follows are = by_entry added follows
  where
    Covered : Past → Type 0
    Covered past = AreCovered past.evicted past.filled

    by_entry : (added : Entry) → MayFollow script past added next → Covered next
    by_entry (entry.Done q _ _) f = subst Covered (sym f.leads) (more_filled past.evicted past.filled (need_of (call_of script past.plain q)) are)
    by_entry (entry.Ended q _ _) f = subst Covered (sym f.leads) (more_filled past.evicted past.filled (need_of (call_of script past.plain q)) are)
    by_entry (entry.Part q _ _) f = subst Covered (sym f.leads) (more_filled past.evicted past.filled (need_of (call_of script past.plain q)) are)
    by_entry (entry.Slept q _) f = subst Covered (sym f.leads) (more_filled past.evicted past.filled (need_of (call_of script past.plain q)) are)
    by_entry (entry.Refused _ _ _) f = subst Covered (sym f.leads) are
    by_entry (entry.Gone _ _) f = subst Covered (sym f.leads) are
    by_entry (entry.Killed _ _ _ _) f = subst Covered (sym f.leads) are
    by_entry (entry.Evicted what) f = subst Covered (sym f.leads) f.covered

pub covered_in : {script : Script} {history : List Entry} {past : Past} → IsRun script history past → AreCovered past.evicted past.filled
covered_in boots = record { names = omega arith; blocks = omega arith; vnodes = omega arith }
covered_in {script} (goes_on history past next added before follows) = covered_after script past added next follows (covered_in before)

same_number : (n : ℕ) → (n == n) ≡ true
same_number n = elim (eqb_tells n n) [ inl is ↦ is.0 | inr is ↦ absurd (is.1 refl) ]

-- a call that is given up is among those that were
pub given_up : (script : Script) (past : Past) (pid : ℕ) (which : CallKind) (next : Past) → MayFollow script past (entry.Gone pid which) next
    → (is_among pid past.gone ≡ false) × (is_among pid next.gone ≡ true)
given_up script past pid which next f =
    (f.first, ap (λ p. is_among pid p.gone) f.leads ∙ ap (λ b. b || is_among pid past.gone) (same_number pid))

-- and stays there
pub stays_given_up : (script : Script) (past : Past) (added : Entry) (next : Past) (pid : ℕ) → MayFollow script past added next
    → is_among pid past.gone ≡ true → is_among pid next.gone ≡ true
stays_given_up script past added next pid follows there = by_entry added follows
  where
    There : Past → Type 0
    There past = is_among pid past.gone ≡ true

    or_true : (b c : Bool) → c ≡ true → (b || c) ≡ true
    or_true true c e = refl
    or_true false c e = e

    by_entry : (added : Entry) → MayFollow script past added next → There next
    by_entry (entry.Done _ _ _) f = subst There (sym f.leads) there
    by_entry (entry.Ended _ _ _) f = subst There (sym f.leads) there
    by_entry (entry.Part _ _ _) f = subst There (sym f.leads) there
    by_entry (entry.Slept _ _) f = subst There (sym f.leads) there
    by_entry (entry.Refused _ _ _) f = subst There (sym f.leads) there
    by_entry (entry.Gone q _) f = subst There (sym f.leads) (or_true (q == pid) (is_among pid past.gone) there)
    by_entry (entry.Killed _ _ _ _) f = subst There (sym f.leads) there
    by_entry (entry.Evicted what) f = subst There (sym f.leads) there
