-- The processes of a table, by their keys and by their pids.
use Rattle.std.proofs.Common.{◌≡◌, ◌≢◌, ◌⊎◌, ℕ, ◌<◌, ◌≤◌, ◌==◌, true, false, cond, List, [], ◌∷◌, Option, None, Some, IsSome, is_some, refl, ap, sym, ◌∙◌, subst, arith, inl, inr}
use Rattle.std.specs.Prelude.{IsSomeAnd}
use Rattle.std.specs.List.{Contains}
use Rattle.std.proofs.lemmas.Bool.Decides.{eqb_tells}
use Rattle.std.proofs.lemmas.List.{get_or-set_same, get_or-set_other}
use Rattle.kheap_slabs.specs.Objects.{InUse, object, put}
use Rattle.kheap_slabs.proofs.ObjectLemmas.{InUse-within}
use Rattle.kheap_slabs.specs.declared.objects.Proc.{Proc}
use Rattle.kheap_slabs.specs.Heap.{Heap}
use Rattle.kheap_slabs.specs.Keys.{AreKeysOf}
use Rattle.posix_defs.specs.Files.State.{HalfOpen}
use Rattle.proc_table.specs.Opening.{HaveOpenings}
use Rattle.proc_table.specs.Procs.{proc_of}
use Rattle.proc_table.specs.Table.{AreBetween, AreStored, TableView, key_of, keys_of, processes, procs_at}
use Rattle.proc_table.specs.declared.places.Place.{Place}
use Rattle.proc_table.proofs.PlaceLemmas.{Contains-cases, IsAt, eqb_other, eqb_same, key_of-none, key_of-proc, none_not_some, some_same, stored_is}

-- a pid that has a place is above those before, and not above the last
pub pid_between : (places : List Place) (before last pid key : ℕ) → AreBetween before places last → key_of places pid ≡ Some key → (before < pid) × (pid ≤ last)
pid_between [] before last pid key between is = cc
pid_between (place ∷ places) before last pid key between is = elim (eqb_tells place.pid pid) [
  | inl same ↦ (
    subst (λ n. before < n) same.1 between.0,
    subst (λ n. n ≤ last) same.1 (above places place.pid between.1),
  )
  | inr other ↦
      let rest = pid_between places place.pid last pid key between.1 (sym (ap (λ b. cond b (Some place.key) (key_of places pid)) other.0) ∙ is) in
      (let first : before < place.pid = between.0 in let more : place.pid < pid = rest.0 in omega (arith, first, more), rest.1)
]
  where
    above : (places : List Place) (before : ℕ) → AreBetween before places last → before ≤ last
    above [] before between = between
    above (place ∷ places) before between = let more = above places place.pid between.1 in let first : before < place.pid = between.0 in omega (arith, first, more)

-- each key of the table is that of a pid
pub key_listed : (places : List Place) (before last key : ℕ) → AreBetween before places last → Contains (keys_of places) key → (pid : ℕ) × (key_of places pid ≡ Some key)
key_listed [] before last key between there = absurd (omega (arith, there.1))
key_listed (place ∷ places) before last key between there = elim (Contains-cases place.key key (keys_of places) there) [
  | inl same ↦ (place.pid, ap (λ b. cond b (Some place.key) (key_of places place.pid)) (eqb_same place.pid place.pid refl) ∙ ap Some same)
  | inr behind ↦
      let rest = key_listed places place.pid last key between.1 behind in
      let above = pid_between places place.pid last rest.0 key between.1 rest.1 in (
        rest.0,
        ap (λ b. cond b (Some place.key) (key_of places rest.0)) (eqb_other place.pid rest.0 (λ same. omega (arith, same, above.0))) ∙ rest.1,
      )
]

-- The process of a pid, and its key.
pub record Found (objects : List (Option Proc)) (places : List Place) (pid : ℕ) (proc : Proc) : Type 0 where
  pub key : ℕ
  pub named : key_of places pid ≡ Some key
  pub there : object objects key ≡ Some proc

pub found_by_pid : (objects : List (Option Proc)) (places : List Place) (pid : ℕ) (proc : Proc) → AreStored objects places → proc_of (procs_at objects places) pid ≡ Some proc
    → Found objects places pid proc
found_by_pid objects places pid proc stored is = by_key (key_of places pid) refl
  where
    by_key : (o : Option ℕ) → key_of places pid ≡ o → Found objects places pid proc
    by_key None none = absurd (none_not_some (proc_of (procs_at objects places) pid) proc (key_of-none objects places pid stored none) is)
    by_key (Some key) some =
        let named = key_of-proc objects places pid key stored some in
        record { key = key; named = some; there = named.1 ∙ ap Some (some_same (proc_of (procs_at objects places) pid) named.0 proc named.3 is) }

-- ---- one Proc becomes another of its pid

module _ (objects : List (Option Proc)) (key : ℕ) (proc now : Proc) (there : object objects key ≡ Some proc) (own : now.pid ≡ proc.pid) where
  pub put_same : object (put objects key now) key ≡ Some now
  put_same = get_or-set_same objects key (Some now) None (InUse-within objects key (ap is_some there))

  pub put_other : (other : ℕ) → other ≢ key → object (put objects key now) other ≡ object objects other
  put_other other apart = get_or-set_other objects key other (Some now) None apart

  -- each place has its process still
  pub stored_still : (places : List Place) → AreStored objects places → AreStored (put objects key now) places
  stored_still [] stored = tt
  stored_still (place ∷ places) stored = (here (eqb_tells place.key key), stored_still places stored.1)
    where
      here : (((place.key == key) ≡ true) × (place.key ≡ key)) ⊎ (((place.key == key) ≡ false) × (place.key ≢ key))
          → IsSomeAnd (object (put objects key now) place.key) (λ p. p.pid ≡ place.pid)
      here (inl same) =
          let at : IsAt objects place = stored_is objects place stored.0 in
          let it : at.proc ≡ proc = some_same (object objects key) at.proc proc (ap (object objects) (sym same.1) ∙ at.is) there in
          subst (λ o. IsSomeAnd o (λ p. p.pid ≡ place.pid)) (sym (ap (object (put objects key now)) same.1 ∙ put_same)) (own ∙ sym (ap (λ (p : Proc). p.pid) it) ∙ at.pid)
      here (inr apart) = subst (λ o. IsSomeAnd o (λ p. p.pid ≡ place.pid)) (sym (put_other place.key apart.1)) stored.0

  -- the same keys are in use
  pub used_still : (keys : List ℕ) → AreKeysOf objects keys → AreKeysOf (put objects key now) keys
  used_still keys all = record {
    used = λ other listed. to other (eqb_tells other key) (all.used other listed);
    listed = λ other used. all.listed other (from other (eqb_tells other key) used);
    once = all.once;
  }
    where
      to : (other : ℕ) → (((other == key) ≡ true) × (other ≡ key)) ⊎ (((other == key) ≡ false) × (other ≢ key)) → InUse objects other → InUse (put objects key now) other
      to other (inl same) used = ap is_some (ap (object (put objects key now)) same.1 ∙ put_same)
      to other (inr apart) used = subst IsSome (sym (put_other other apart.1)) used

      from : (other : ℕ) → (((other == key) ≡ true) × (other ≡ key)) ⊎ (((other == key) ≡ false) × (other ≢ key)) → InUse (put objects key now) other → InUse objects other
      from other (inl same) used = ap is_some (ap (object objects) same.1 ∙ there)
      from other (inr apart) used = subst IsSome (put_other other apart.1) used

  module _ (places : List Place) (pid : ℕ) (stored : AreStored objects places) (named : key_of places pid ≡ Some key) where
    its_pid : proc.pid ≡ pid
    its_pid =
        let it = key_of-proc objects places pid key stored named in
        ap (λ (p : Proc). p.pid) (some_same (object objects key) proc it.0 there it.1) ∙ it.2

    -- the process of the pid is the new one
    pub found_now : proc_of (procs_at (put objects key now) places) pid ≡ Some now
    found_now =
        let it = key_of-proc (put objects key now) places pid key (stored_still places stored) named in
        it.3 ∙ ap Some (some_same (object (put objects key now) key) it.0 now it.1 put_same)

    pub found_before : proc_of (procs_at objects places) pid ≡ Some proc
    found_before =
        let it = key_of-proc objects places pid key stored named in
        it.3 ∙ ap Some (some_same (object objects key) it.0 proc it.1 there)

    -- and every other pid has the process that it had
    pub found_others : (other : ℕ) → other ≢ pid → proc_of (procs_at (put objects key now) places) other ≡ proc_of (procs_at objects places) other
    found_others other apart = by_key (key_of places other) refl
      where
        by_key : (o : Option ℕ) → key_of places other ≡ o → proc_of (procs_at (put objects key now) places) other ≡ proc_of (procs_at objects places) other
        by_key None none = key_of-none (put objects key now) places other (stored_still places stored) none ∙ sym (key_of-none objects places other stored none)
        by_key (Some that) some =
            let before = key_of-proc objects places other that stored some in
            let after = key_of-proc (put objects key now) places other that (stored_still places stored) some in
            let differs : that ≢ key = λ same. apart (sym before.2 ∙ ap (λ (p : Proc). p.pid) (some_same (object objects key) before.0 proc (ap (object objects) (sym same) ∙ before.1) there) ∙ its_pid) in
            after.3 ∙ ap Some (some_same (object objects that) after.0 before.0 (sym (put_other that differs) ∙ after.1) before.1) ∙ sym before.3

-- who sleeps in an open sleeps in it in another heap with the same Procs
pub openings_on : (old new : Heap) (kept : TableView) (openings : List (Option HalfOpen)) → new.procs ≡ old.procs → HaveOpenings (processes old kept) kept.last openings → HaveOpenings (processes new kept) kept.last openings
openings_on old new kept openings same = subst (λ (objects : List (Option Proc)). HaveOpenings (procs_at objects kept.listed) kept.last openings) (sym same)
