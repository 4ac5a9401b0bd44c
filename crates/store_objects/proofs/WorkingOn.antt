-- Where processes work once one has a child, is waited for, or has something else in memory.
use Rattle.std.proofs.Common.{◌≡◌, ℕ, zero, suc, ◌+◌, ◌≤◌, ◌==◌, not, Bool, true, false, cond, List, [], ◌∷◌, ◌++◌, filter, length, None, Some, is_none, refl, ap, sym, ◌∙◌, subst, inl, inr, arith, slice_set}
use Rattle.std.specs.Prelude.{slice_get, unwrap_or}
use Rattle.std.specs.List.{AllByRecursion}
use Rattle.std.proofs.lemmas.Bool.Decides.{eqb_tells}
use Rattle.kheap_slabs.specs.declared.objects.Proc.{Proc}
use Rattle.memfs_ops.specs.FileTree.{one_more}
use Rattle.posix_defs.specs.Memory.{Memory}
use Rattle.posix_defs.specs.Plain.{root}
use Rattle.posix_defs.specs.Process.{Table, remembering, runs, with_memory}
use Rattle.posix_defs.specs.World.{directories_of}
use Rattle.proc_table.specs.Changes.{is_other}
use Rattle.proc_table.specs.Procs.{HasEnded, proc_of}
use Rattle.proc_table.specs.Standing.{IsTable}
use Rattle.proc_table.proofs.OwnLemmas.{AreRising, others_above}
use Rattle.proc_table.proofs.PlaceLemmas.{some_same}
use Rattle.store_objects.specs.declared.objects.Objects.{Objects}
use Rattle.store_objects.specs.Objects.{procs_of}
use Rattle.store_objects.specs.Trees.{but_root}
use Rattle.store_objects.specs.Working.{directories_in, entered_pins}
use Rattle.store_objects.proofs.HeldNodes.{one_if, whole}
use Rattle.store_objects.proofs.WorkPlaces.{away, behind, count, directories_from, of_proc, others_by, proc_cons}

-- who is found and runs works in one of these directories
pub works_among : (P : ℕ → Type 0) (procs : List Proc) (pid : ℕ) (proc : Proc) → AllByRecursion P (directories_in procs) → proc_of procs pid ≡ Some proc → proc.status ≡ None → P proc.cwd
works_among P [] pid proc all found up = cc
works_among P (first ∷ procs) pid proc all found up = by_pid (first.pid == pid) found (λ later. works_among P procs pid proc (those (is_none first.status) all) later up)
  where
    those : (b : Bool) → AllByRecursion P (cond b (first.cwd ∷ directories_in procs) (directories_in procs)) → AllByRecursion P (directories_in procs)
    those true all = all.1
    those false all = all

    it : first ≡ proc → P proc.cwd
    it same =
        let runs : is_none first.status ≡ true = ap (λ (p : Proc). is_none p.status) same ∙ ap is_none up in
        let here : AllByRecursion P (first.cwd ∷ directories_in procs) = subst (λ b. AllByRecursion P (cond b (first.cwd ∷ directories_in procs) (directories_in procs))) runs all in
        subst P (ap (λ (p : Proc). p.cwd) same) here.0

    by_pid : (b : Bool) → cond b (Some first) (proc_of procs pid) ≡ Some proc → (proc_of procs pid ≡ Some proc → P proc.cwd) → P proc.cwd
    by_pid true found later = it (some_same (Some first) first proc refl found)
    by_pid false found later = later found

-- ---- they work where they worked

-- in the machine where they do in the heap
pub same_work : (old new : Objects) (before after : Table) → IsTable old.heap old.procs before → IsTable new.heap new.procs after
    → directories_in (procs_of new) ≡ directories_in (procs_of old) → directories_of after ≡ directories_of before
same_work old new before after was is same = directories_from is.present ∙ same ∙ sym (directories_from was.present)

-- whatever one has in memory
pub works_remembered : (table : Table) (pid : ℕ) (memory : Memory) → directories_of (with_memory table pid memory) ≡ directories_of table
works_remembered table zero memory = refl
works_remembered table (suc place) memory = at table place
  where
    at : (table : Table) (place : ℕ) → directories_of (slice_set table place (remembering memory (unwrap_or (slice_get table place) None))) ≡ directories_of table
    at [] place = refl
    at (None ∷ table) zero = refl
    at (Some process ∷ table) zero = refl
    at (None ∷ table) (suc place) = at table place
    at (Some process ∷ table) (suc place) = ap (λ nodes. cond (runs process.status) (process.directory ∷ nodes) nodes) (at table place)

-- without who has ended
pub reaped_work : (procs : List Proc) (before pid : ℕ) → AreRising before procs → HasEnded procs pid → directories_in (filter (is_other pid) procs) ≡ directories_in procs
reaped_work procs before pid rising over = without procs before rising over.there
  where
    without : (procs : List Proc) (before : ℕ) → AreRising before procs → proc_of procs pid ≡ Some over.proc → directories_in (filter (is_other pid) procs) ≡ directories_in procs
    without [] before rising is = refl
    without (first ∷ procs) before rising is = elim (eqb_tells first.pid pid) [
      | inl same ↦
          let it : first ≡ over.proc = some_same (proc_of (first ∷ procs) pid) first over.proc (ap (λ b. cond b (Some first) (proc_of procs pid)) same.0) is in
          ap (λ b. directories_in (cond (not b) (first ∷ filter (is_other pid) procs) (filter (is_other pid) procs))) same.0
          ∙ ap directories_in (others_above procs first.pid pid rising.1 (let e = same.1 in omega arith))
          ∙ sym (ap (λ o. cond (is_none o) (first.cwd ∷ directories_in procs) (directories_in procs)) (ap (λ p. p.status) it ∙ over.over))
      | inr other ↦
          ap (λ b. directories_in (cond (not b) (first ∷ filter (is_other pid) procs) (filter (is_other pid) procs))) other.0
          ∙ ap (behind first) (without procs first.pid rising.1 (sym (ap (λ b. cond b (Some first) (proc_of procs pid)) other.0) ∙ is))
    ]

-- ---- one more works behind them

pub all_and : (P : ℕ → Type 0) (procs : List Proc) (child : Proc) → P child.cwd → AllByRecursion P (directories_in procs) → AllByRecursion P (directories_in (procs ++ child ∷ []))
all_and P [] child it all = alone (is_none child.status)
  where
    alone : (b : Bool) → AllByRecursion P (cond b (child.cwd ∷ []) [])
    alone true = (it, tt)
    alone false = tt
all_and P (proc ∷ procs) child it all = by_status (is_none proc.status) all (all_and P procs child it)
  where
    by_status : (b : Bool) → AllByRecursion P (cond b (proc.cwd ∷ directories_in procs) (directories_in procs))
        → (AllByRecursion P (directories_in procs) → AllByRecursion P (directories_in (procs ++ child ∷ [])))
        → AllByRecursion P (cond b (proc.cwd ∷ directories_in (procs ++ child ∷ [])) (directories_in (procs ++ child ∷ [])))
    by_status true all rest = (all.0, rest all.1)
    by_status false all rest = rest all

with_one : (n : ℕ) (procs : List Proc) (child : Proc) → child.status ≡ None → count n (but_root (directories_in (procs ++ child ∷ []))) ≡ count n (but_root (directories_in procs)) + away child.cwd n
with_one n [] child up =
    proc_cons n child [] ∙ ap (λ o. cond (is_none o) (away child.cwd n) 0 + count n (but_root [])) up ∙ swap (away child.cwd n) (count n (but_root []))
  where
    swap : (a b : ℕ) → a + b ≡ b + a
    swap a b = omega arith
with_one n (proc ∷ procs) child up =
    proc_cons n proc (directories_in (procs ++ child ∷ [])) ∙ ap (λ k. of_proc proc n + k) (with_one n procs child up)
    ∙ group (of_proc proc n) (count n (but_root (directories_in procs))) (away child.cwd n)
    ∙ ap (λ k. k + away child.cwd n) (sym (proc_cons n proc (directories_in procs)))
  where
    group : (a b c : ℕ) → a + (b + c) ≡ a + b + c
    group a b c = omega arith

-- and holds the directory that it works in
pub entered_by_one : (procs : List Proc) (child : Proc) → child.status ≡ None → (n : ℕ) → entered_pins (others_by procs) child.cwd n ≡ others_by (procs ++ child ∷ []) n
entered_by_one procs child up n = by_root (child.cwd == root) refl
  where
    all : others_by (procs ++ child ∷ []) n ≡ one_if (root == n) + (count n (but_root (directories_in procs)) + away child.cwd n)
    all = whole n root (but_root (directories_in (procs ++ child ∷ []))) ∙ ap (λ k. one_if (root == n) + k) (with_one n procs child up)

    were : others_by procs n ≡ one_if (root == n) + count n (but_root (directories_in procs))
    were = whole n root (but_root (directories_in procs))

    as_many : (was is here rest : ℕ) → was ≡ here + rest → is ≡ here + (rest + 0) → was ≡ is
    as_many was is here rest e f = omega arith

    one : (was is here rest : ℕ) → was ≡ here + rest → is ≡ here + (rest + 1) → was + 1 ≡ is
    one was is here rest e f = omega arith

    by_node : (b : Bool) → (child.cwd == n) ≡ b → (child.cwd == root) ≡ false → cond b (others_by procs n + 1) (others_by procs n) ≡ others_by (procs ++ child ∷ []) n
    by_node true same other = one (others_by procs n) (others_by (procs ++ child ∷ []) n) (one_if (root == n)) (count n (but_root (directories_in procs))) were
        (all ∙ ap (λ b. one_if (root == n) + (count n (but_root (directories_in procs)) + cond b 0 (one_if (child.cwd == n)))) other
        ∙ ap (λ b. one_if (root == n) + (count n (but_root (directories_in procs)) + one_if b)) same)
    by_node false same other = as_many (others_by procs n) (others_by (procs ++ child ∷ []) n) (one_if (root == n)) (count n (but_root (directories_in procs))) were
        (all ∙ ap (λ b. one_if (root == n) + (count n (but_root (directories_in procs)) + cond b 0 (one_if (child.cwd == n)))) other
        ∙ ap (λ b. one_if (root == n) + (count n (but_root (directories_in procs)) + one_if b)) same)

    by_root : (b : Bool) → (child.cwd == root) ≡ b → cond b (others_by procs) (one_more (others_by procs) child.cwd) n ≡ others_by (procs ++ child ∷ []) n
    by_root true at = as_many (others_by procs n) (others_by (procs ++ child ∷ []) n) (one_if (root == n)) (count n (but_root (directories_in procs))) were
        (all ∙ ap (λ b. one_if (root == n) + (count n (but_root (directories_in procs)) + cond b 0 (one_if (child.cwd == n)))) at)
    by_root false at = by_node (child.cwd == n) refl at

-- ---- no more hold a node than there are

pub few_hold : (procs : List Proc) (n : ℕ) → others_by procs n ≤ length procs + 1
few_hold procs n = omega (arith, whole n root (but_root (directories_in procs)), at_most (root == n), each procs)
  where
    at_most : (b : Bool) → one_if b ≤ 1
    at_most true = omega arith
    at_most false = omega arith

    once : (directory : ℕ) → away directory n ≤ 1
    once directory = by_root (directory == root)
      where
        by_root : (b : Bool) → cond b 0 (one_if (directory == n)) ≤ 1
        by_root true = omega arith
        by_root false = at_most (directory == n)

    of_one : (proc : Proc) → of_proc proc n ≤ 1
    of_one proc = by_status (is_none proc.status)
      where
        by_status : (b : Bool) → cond b (away proc.cwd n) 0 ≤ 1
        by_status true = once proc.cwd
        by_status false = omega arith

    each : (procs : List Proc) → count n (but_root (directories_in procs)) ≤ length procs
    each [] = omega arith
    each (proc ∷ procs) = let rest = each procs in let one = of_one proc in let all = proc_cons n proc (directories_in procs) in omega (arith, rest, one, all)
