-- What the laws of the table rest on.
use Rattle.std.proofs.Common.{◌≡◌, ◌≢◌, ◌⊎◌, ℕ, zero, suc, ◌+◌, ◌≤◌, ◌==◌, ◌||◌, ℤ, pos, Bool, true, false, cond, not, List, [], ◌∷◌, filter, length, map, Option, None, Some, Ok, Err, refl, sym, ap, ◌∙◌, subst, inl, inr, arith, slice_set}
use Rattle.std.specs.Prelude.{nat_le}
use Rattle.std.specs.List.{AllByRecursion, cons_option}
use Rattle.std.proofs.lemmas.Bool.Decides.{eqb_tells}
use Rattle.kabi_types.specs.declared.errnos.Errno.TheVariants.{EAGAIN}
use Rattle.kabi_types.specs.declared.replies.Reply.TheVariants.{Val}
use Rattle.kabi_types.specs.declared.scripts.Script.{Script}
use Rattle.kheap_slabs.specs.Objects.{object}
use Rattle.kheap_slabs.specs.declared.objects.Proc.{Proc}
use Rattle.kheap_slabs.specs.Heap.{Heap}
use Rattle.kheap_slabs.specs.Owners.{Owners, IsOwned}
use Rattle.kheap_slabs.specs.Spaces.{keys_in}
use Rattle.page_space.specs.Accounts.{AccountMoves, AreFrames}
use Rattle.page_space.specs.Contents.{StandsFor}
use Rattle.posix_defs.specs.Answer.{failed, replied}
use Rattle.posix_defs.specs.ByPid.{with_pid}
use Rattle.posix_defs.specs.Ending.{die_in, leaves}
use Rattle.posix_defs.specs.Forking.{fork, greatest_pid, is_full, most_processes, with_child}
use Rattle.posix_defs.specs.Memory.{Frames, Memory}
use Rattle.posix_defs.specs.Plain.{Plain, last_pid}
use Rattle.posix_defs.specs.Process.{Ignores, Table, ignoring, is_there, process_at, with_ignores, with_memory}
use Rattle.posix_defs.specs.Waiting.{Exited, any_from, exited_from, waited_for, waitpid}
use Rattle.proc_table.specs.Accounting.{HasAccount, IsPlaced}
use Rattle.proc_table.specs.Changes.{forked_as, is_full_at, is_other, reaped_as, replaced, with_nodes}
use Rattle.proc_table.specs.Moves.{MemoryStays, ProcTurns, SpaceTurns, TableMoves}
use Rattle.proc_table.specs.Procs.{IsLight, ignored_by, proc_of, process_of}
use Rattle.proc_table.specs.Standing.{AreFrom, IsTable, answered_fork, answered_wait, ends_in, found_in}
use Rattle.proc_table.specs.Table.{AreStored, Holds, TableView, places_kept, processes, procs_at, with_procs}
use Rattle.proc_table.specs.declared.places.Place.{Place}
use Rattle.proc_table.proofs.AccountLemmas.{all_both, becomes_account, turned_account}
use Rattle.proc_table.proofs.FamilyLemmas.{as_many, changed_table, disposes_is, length-with_memory, length-with_pid, remembers_is, same_table}
use Rattle.proc_table.proofs.HoldLemmas.{Becomes, becomes-moves, becomes-procs, content_kept, memory_kept}
use Rattle.proc_table.proofs.MemoryLemmas.{memory_at-is, memory_at-same, others_same, process_of-same, processes_same}
use Rattle.proc_table.proofs.OwnLemmas.{AreRising, all_weaker, rising_procs}
use Rattle.proc_table.proofs.PlaceLemmas.{Follows, Misses, eqb_is, eqb_other, eqb_same, follows_one, key_of-misses, key_of-proc, object_missed, some_same, stored_is}
use Rattle.proc_table.proofs.TurnLemmas.{all_changed, all_kept, listed_proc, turned-memory, turned-moves, turned-procs}

-- as many processes stand at places as there are places
pub length-procs_at : (objects : List (Option Proc)) (places : List Place) → AreStored objects places → length (procs_at objects places) ≡ length places
length-procs_at objects [] stored = refl
length-procs_at objects (place ∷ places) stored =
    let at = stored_is objects place stored.0 in
    ap (λ o. length (cons_option o (procs_at objects places))) at.is ∙ ap suc (length-procs_at objects places stored.1)

-- A space comes back.
module _ (old mid new : Heap) (kept : TableView) (pid key : ℕ) (proc : Proc) (now : List (Option ℕ)) (holds : Holds old kept) (turns : SpaceTurns old mid new kept pid key proc now) where
  pub back-procs : processes new kept ≡ map (with_nodes pid now) (processes old kept)
  back-procs = turned-procs old mid new kept holds pid key proc now turns.found turns.there turns.runs turns.moves.owners turns.moves.others turns.moves.kept turns.after

  pub back-moves : TableMoves old kept new kept
  back-moves = turned-moves old mid new kept holds pid key proc now turns.found turns.there turns.runs turns.moves.owners turns.moves.others turns.moves.kept turns.after

  pub back-others : MemoryStays old new (filter (is_other pid) (processes old kept))
  back-others = turned-memory old mid new kept holds pid key proc now turns.found turns.there turns.runs turns.moves.owners turns.moves.others turns.moves.kept turns.after

  pub back-table : (table : Table) (memory : Memory) → StandsFor mid now memory → length memory ≡ 256 → IsTable old kept table → IsTable new kept (with_memory table pid memory)
  back-table table memory stands whole is = record {
    present = subst (AreFrom new 1 (with_memory table pid memory)) (sym back-procs)
        (remembers_is old new table (processes old kept) pid now memory is.present
        (memory_at-same mid new now now (λ page below. content_kept mid new now page (ap (λ (h : Heap). h.nodes) turns.after) (ap (λ (h : Heap). h.pages) turns.after))
        ∙ sym (memory_at-is mid now memory whole stands))
        (others_same old new (processes old kept) pid back-others));
    made = length-with_memory table pid memory ∙ is.made;
  }

  pub back-account : (before after : Frames) (has : HasAccount old kept before) → AccountMoves old mid proc.nodes now has.number before after pid → HasAccount new kept after
  back-account before after has moved =
      turned_account old mid new kept before after pid proc now moved.renumbered holds has
      (listed_proc old mid new kept holds pid key proc now turns.found turns.there turns.runs turns.moves.owners turns.moves.others turns.moves.kept turns.after)
      moved.others moved.kept moved.accounted.numbers moved.accounted.places moved.accounted.whole moved.pids
      back-procs (ap (λ (h : Heap). h.nodes) turns.after) (ap (λ (h : Heap). h.pages) turns.after)

-- who has a pid is the only one
pub only_one : (procs : List Proc) (before pid : ℕ) (proc : Proc) → AreRising before procs → proc_of procs pid ≡ Some proc → AllByRecursion (λ p. p.pid ≡ pid → p ≡ proc) procs
only_one [] before pid proc rising is = tt
only_one (first ∷ procs) before pid proc rising is = by_case (eqb_tells first.pid pid) (only_one procs first.pid pid proc rising.1)
  where
    above : (procs : List Proc) (before : ℕ) → AreRising before procs → pid ≤ before → AllByRecursion (λ p. p.pid ≡ pid → p ≡ proc) procs
    above [] before rising low = tt
    above (one ∷ procs) before rising low = ((λ same. absurd (omega (arith, rising.0))), above procs one.pid rising.1 (omega (arith, rising.0)))

    by_case : (((first.pid == pid) ≡ true) × (first.pid ≡ pid)) ⊎ (((first.pid == pid) ≡ false) × (first.pid ≢ pid))
        → (proc_of procs pid ≡ Some proc → AllByRecursion (λ p. p.pid ≡ pid → p ≡ proc) procs) → AllByRecursion (λ p. p.pid ≡ pid → p ≡ proc) (first ∷ procs)
    by_case (inl same) rest = (
      (λ own. some_same (proc_of (first ∷ procs) pid) first proc (ap (λ b. cond b (Some first) (proc_of procs pid)) same.0) is),
      above procs first.pid rising.1 (let e = same.1 in omega arith),
    )
    by_case (inr other) rest = ((λ own. absurd (other.1 own)), rest (sym (ap (λ b. cond b (Some first) (proc_of procs pid)) other.0) ∙ is))

-- A process goes on.
module _ (old new : Heap) (kept : TableView) (pid key : ℕ) (proc now : Proc) (holds : Holds old kept) (turns : ProcTurns old new kept pid key proc now) where
  named : (p : Proc) × (object old.procs key ≡ Some p) × (p.pid ≡ pid) × (proc_of (processes old kept) pid ≡ Some p)
  named = key_of-proc old.procs kept.listed pid key holds.stored turns.found

  has_pid : proc.pid ≡ pid
  has_pid = ap (λ p. p.pid) (some_same (object old.procs key) proc named.0 turns.there named.1) ∙ named.2

  abbrev goes_on : Proc → Option Proc
  goes_on p = Some (replaced pid now p)

  replaced_other : (p : Proc) → p.pid ≢ pid → replaced pid now p ≡ p
  replaced_other p apart = ap (λ b. cond b now p) (eqb_other p.pid pid apart)

  procs_are : new.procs ≡ slice_set old.procs key (Some now)
  procs_are = ap (λ (h : Heap). h.procs) turns.after

  follows : Follows goes_on old.procs new.procs kept.listed
  follows = subst (λ procs. Follows goes_on old.procs procs kept.listed) (sym procs_are)
      (follows_one goes_on old.procs key pid proc (Some now) kept.listed 0 kept.last (λ p apart. ap Some (replaced_other p apart)) turns.there
      (ap (λ b. Some (cond b now proc)) (eqb_same proc.pid pid has_pid)) holds.stored holds.rising turns.found)

  missed : (other : ℕ) → Misses other kept.listed → object new.procs other ≡ object old.procs other
  missed other misses =
      ap (λ procs. object procs other) procs_are
      ∙ object_missed old.procs key other (Some now) (λ same. key_of-misses kept.listed pid key turns.found (subst (λ k. Misses k kept.listed) same misses))

  -- the only process of that pid
  abbrev Only : Proc → Type 0
  Only p = IsLight p × (p.pid ≡ pid → p ≡ proc)

  nodes_now : now.nodes ≡ proc.nodes
  nodes_now = ap (λ p. p.nodes) turns.same

  pid_now : now.pid ≡ proc.pid
  pid_now = ap (λ p. p.pid) turns.same

  light_now : IsLight proc → IsLight now
  light_now light = subst IsLight (sym turns.same) (record { memory = light.memory; descriptors = light.descriptors; awake = turns.awake light.awake })

  pid_by : (p : Proc) (b : Bool) → (p.pid == pid) ≡ b → (cond b now p).pid ≡ p.pid
  pid_by p true own = pid_now ∙ has_pid ∙ sym (eqb_is p.pid pid own)
  pid_by p false own = refl

  pids : (p q : Proc) → goes_on p ≡ Some q → q.pid ≡ p.pid
  pids p q is = ap (λ r. r.pid) (sym (some_same (Some q) (replaced pid now p) q (sym is) refl)) ∙ pid_by p (p.pid == pid) refl

  light_by : (p : Proc) → Only p → (b : Bool) → (p.pid == pid) ≡ b → IsLight (cond b now p)
  light_by p only true own = light_now (subst IsLight (only.1 (eqb_is p.pid pid own)) only.0)
  light_by p only false own = only.0

  nodes_by : (p : Proc) → Only p → (b : Bool) → (p.pid == pid) ≡ b → (cond b now p).nodes ≡ p.nodes
  nodes_by p only true own = nodes_now ∙ ap (λ q. q.nodes) (sym (only.1 (eqb_is p.pid pid own)))
  nodes_by p only false own = refl

  sound : Becomes Only goes_on
  sound = record {
    pid = pids;
    light = λ p q only is. subst IsLight (some_same (Some q) (replaced pid now p) q (sym is) refl) (light_by p only (p.pid == pid) refl);
    keys = λ p only. ap keys_in (nodes_by p only (p.pid == pid) refl);
  }

  all_only : AllByRecursion Only (processes old kept)
  all_only = all_both IsLight (λ p. p.pid ≡ pid → p ≡ proc) (processes old kept) holds.light
      (only_one (processes old kept) 0 pid proc (rising_procs old.procs kept.listed 0 kept.last holds.stored holds.rising)
      (named.3 ∙ ap Some (some_same (object old.procs key) named.0 proc named.1 turns.there)))

  only_procs : new ≡ record old { procs = new.procs }
  only_procs = turns.after ∙ ap (λ (procs : List (Option Proc)). record old { procs = procs }) (sym procs_are)

  kept_is : record kept { listed = places_kept goes_on old.procs kept.listed } ≡ kept
  kept_is = ap (λ (places : List Place). record kept { listed = places }) (all_kept (replaced pid now) old.procs kept.listed holds.stored)

  pub on-procs : processes new kept ≡ map (replaced pid now) (processes old kept)
  on-procs =
      ap (processes new) (sym kept_is)
      ∙ becomes-procs Only goes_on sound old new kept holds all_only follows missed only_procs
      ∙ all_changed (replaced pid now) (processes old kept)

  pub on-moves : TableMoves old kept new kept
  on-moves = subst (TableMoves old kept new) kept_is (becomes-moves Only goes_on sound old new kept holds all_only follows missed only_procs)

  pub on-account : (frames : Frames) → HasAccount old kept frames → HasAccount new kept frames
  on-account frames has =
      becomes_account Only goes_on old new kept kept frames pids
      (λ p q only is. ap (λ r. r.nodes) (sym (some_same (Some q) (replaced pid now p) q (sym is) refl)) ∙ nodes_by p only (p.pid == pid) refl)
      (λ p only is. absurd (let none : Some (replaced pid now p) ≡ None = is in cc)) all_only
      (on-procs ∙ sym (all_changed (replaced pid now) (processes old kept))) refl (ap (λ (h : Heap). h.nodes) turns.after) (ap (λ (h : Heap). h.pages) turns.after) has

  in_heap : (p : Proc) → process_of new p ≡ process_of old p
  in_heap p = process_of-same old new p (λ page. content_kept old new p.nodes page (ap (λ (h : Heap). h.nodes) turns.after) (ap (λ (h : Heap). h.pages) turns.after))

  -- what it is to the machine, where it works where it did
  becomes : now.cwd ≡ proc.cwd → process_of new now ≡ record (process_of old proc) { ignores = ignored_by now }
  becomes stays = in_heap now ∙ ap (process_of old) turns.same ∙ ap (λ (cwd : ℕ). record (process_of old proc) { directory = cwd; ignores = ignored_by now }) stays

  pub on-disposed : (table : Table) → now.cwd ≡ proc.cwd → IsTable old kept table → IsTable new kept (with_ignores table pid (ignored_by now))
  on-disposed table stays is = record {
    present = subst (AreFrom new 1 (with_ignores table pid (ignored_by now))) (sym on-procs)
        (disposes_is old new table (processes old kept) pid proc now (ignored_by now) is.present (pid_now ∙ has_pid) in_heap (becomes stays)
        (all_weaker Only (λ p. p.pid ≡ pid → p ≡ proc) (processes old kept) (λ p only. only.1) all_only));
    made = length-with_pid table pid (ignoring (ignored_by now) (process_at table pid)) ∙ is.made;
  }

  pub on-table : (table : Table) → now.cwd ≡ proc.cwd → ignored_by now ≡ ignored_by proc → IsTable old kept table → IsTable new kept table
  on-table table stays ignores is = record {
    present = subst (AreFrom new 1 table) (sym on-procs)
        (changed_table is.present new (replaced pid now)
        (all_weaker Only (λ p. (process_of new (replaced pid now p) ≡ process_of old p) × ((replaced pid now p).pid ≡ p.pid)) (processes old kept)
        (λ p only. (process_by p only (p.pid == pid) refl, pid_by p (p.pid == pid) refl)) all_only));
    made = is.made;
  }
    where
      process_by : (p : Proc) → Only p → (b : Bool) → (p.pid == pid) ≡ b → process_of new (cond b now p) ≡ process_of old p
      process_by p only true own =
          becomes stays ∙ ap (λ (it : Ignores). record (process_of old proc) { ignores = it }) ignores ∙ ap (process_of old) (sym (only.1 (eqb_is p.pid pid own)))
      process_by p only false own = in_heap p

-- The heap changes elsewhere.
pub elsewhere_holds : (old new : Heap) (kept : TableView) (others : Owners) → new.procs ≡ old.procs → IsOwned new (with_procs (processes old kept) others) → Holds old kept → Holds new kept
elsewhere_holds old new kept others same owned holds = record {
  stored = subst (λ procs. AreStored procs kept.listed) (sym same) holds.stored;
  rising = holds.rising;
  light = subst (λ procs. AllByRecursion IsLight (procs_at procs kept.listed)) (sym same) holds.light;
  owned = (others, subst (λ procs. IsOwned new (with_procs (procs_at procs kept.listed) others)) (sym same) owned);
}

pub elsewhere_table : (old new : Heap) (kept : TableView) (table : Table) → new.procs ≡ old.procs → new.nodes ≡ old.nodes → new.pages ≡ old.pages → IsTable old kept table → IsTable new kept table
elsewhere_table old new kept table same nodes pages is = record {
  present = subst (λ procs. AreFrom new 1 table (procs_at procs kept.listed)) (sym same)
      (same_table is.present new (processes_same old new (processes old kept) (memory_kept old new (processes old kept) nodes pages)));
  made = is.made;
}

pub elsewhere_account : (old new : Heap) (kept : TableView) (frames : Frames) → new.procs ≡ old.procs → new.nodes ≡ old.nodes → new.pages ≡ old.pages → HasAccount old kept frames → HasAccount new kept frames
elsewhere_account old new kept frames same nodes pages has = record {
  number = has.number;
  numbers = subst (λ p. AreFrames has.number p frames) (sym pages) has.numbers;
  placed = subst (λ n. AllByRecursion (IsPlaced has.number n frames) (processes new kept)) (sym nodes)
      (subst (λ procs. AllByRecursion (IsPlaced has.number old.nodes frames) (procs_at procs kept.listed)) (sym same) has.placed);
  gone = λ q none. has.gone q (ap (λ procs. proc_of (procs_at procs kept.listed) q) (sym same) ∙ none);
  made = has.made;
}

-- What the table answers is what the plain machine answers.
pub fork_is : (script : Script) (plain : Plain) (h : Heap) (kept : TableView) (pid : ℕ) → Holds h kept → IsTable h kept plain.table → last_pid plain ≡ kept.last
    → fork script plain pid ≡ answered_fork script plain pid (forked_as (length kept.listed) kept.last)
fork_is script plain h kept pid holds is last = by_full (is_full plain) refl
  where
    as_full : is_full plain ≡ is_full_at (length kept.listed) kept.last
    as_full =
        ap (λ n. nat_le most_processes n || nat_le greatest_pid (last_pid plain)) (sym (as_many is.present) ∙ length-procs_at h.procs kept.listed holds.stored)
        ∙ ap (λ n. nat_le most_processes (length kept.listed) || nat_le greatest_pid n) last

    by_full : (b : Bool) → is_full plain ≡ b → fork script plain pid ≡ answered_fork script plain pid (forked_as (length kept.listed) kept.last)
    by_full true full =
        ap (λ b. cond b (failed script plain pid EAGAIN) (replied script (with_child script plain pid) pid (Val (pos (last_pid plain + 1))))) full
        ∙ sym (ap (λ b. answered_fork script plain pid (cond b (Err EAGAIN) (Ok (kept.last + 1)))) (sym as_full ∙ full))
    by_full false full =
        ap (λ b. cond b (failed script plain pid EAGAIN) (replied script (with_child script plain pid) pid (Val (pos (last_pid plain + 1))))) full
        ∙ ap (λ n. replied script (with_child script plain pid) pid (Val (pos (n + 1)))) last
        ∙ sym (ap (λ b. answered_fork script plain pid (cond b (Err EAGAIN) (Ok (kept.last + 1)))) (sym as_full ∙ full))

pub wait_is : (script : Script) (plain : Plain) (pid : ℕ) (which options : ℤ) → waitpid script plain pid which options ≡ answered_wait script plain pid options (found_in plain.table pid which)
wait_is script plain pid which options = by_told (exited_from pid which 1 plain.table) (any_from pid which 1 plain.table) refl
  where
    by_told : (o : Option Exited) (b : Bool) → any_from pid which 1 plain.table ≡ b
        → waited_for script plain pid which options o ≡ answered_wait script plain pid options (reaped_as o (any_from pid which 1 plain.table))
    by_told (Some exited) b any = refl
    by_told None true any = rw any refl
    by_told None false any = rw any refl

pub end_is : (table : Table) (pid status : ℕ) → pid ≢ 1 → is_there (process_at table 1) ≡ true → die_in table pid status ≡ ends_in table pid status
end_is table zero status other there = sym (ap (λ b. cond (not b) (leaves table 0 status) (leaves table 0 status)) there)
end_is table (suc zero) status other there = absurd (other refl)
end_is table (suc (suc i)) status other there =
    sym (ap (λ b. cond ((suc (suc i) == 1) || not b) (with_pid (leaves table (suc (suc i)) status) (suc (suc i)) None) (leaves table (suc (suc i)) status)) there
    ∙ ap (λ b. cond (b || false) (with_pid (leaves table (suc (suc i)) status) (suc (suc i)) None) (leaves table (suc (suc i)) status)) (eqb_other (suc (suc i)) 1 other))
