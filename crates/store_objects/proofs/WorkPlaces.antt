-- Where the processes of a heap work, and who holds these directories, also once one has ended.
use Rattle.std.proofs.Common.{◌≡◌, ◌≢◌, ℕ, ◌+◌, ◌-◌, ◌<◌, ◌==◌, not, Bool, true, false, cond, List, [], ◌∷◌, filter, Option, None, Some, is_none, refl, ap, sym, ◌∙◌, subst, inl, inr, arith}
use Rattle.std.specs.Prelude.{count_by}
use Rattle.std.specs.List.{AllByRecursion, cons_option}
use Rattle.std.proofs.lemmas.Bool.Decides.{eqb_tells}
use Rattle.kheap_slabs.specs.declared.objects.Proc.{Proc}
use Rattle.kheap_slabs.specs.Heap.{Heap}
use Rattle.memfs_ops.specs.Closing.{one_less}
use Rattle.memfs_ops.specs.FileTree.{one_more}
use Rattle.posix_defs.specs.Files.State.{Files}
use Rattle.posix_defs.specs.Plain.{root}
use Rattle.posix_defs.specs.Process.{Table, runs}
use Rattle.posix_defs.specs.World.{directories_of}
use Rattle.proc_files.specs.Holders.{holders, openings}
use Rattle.proc_table.specs.Changes.{ended, is_alone, is_other, left_behind, left_by, left_child}
use Rattle.proc_table.specs.Procs.{no_nodes, proc_of, status_of}
use Rattle.proc_table.specs.Standing.{AreFrom, gone, nobody, there}
use Rattle.proc_table.proofs.OwnLemmas.{AreRising, others_above}
use Rattle.proc_table.proofs.PlaceLemmas.{eqb_other, eqb_same, some_same}
use Rattle.store_objects.specs.Trees.{but_root}
use Rattle.store_objects.specs.Working.{directories_in, entered_pins, left_pins}
use Rattle.store_objects.proofs.HeldNodes.{one_if, whole}

-- they are those of the machine
pub directories_from : {h : Heap} {first : ℕ} {table : Table} {procs : List Proc} → AreFrom h first table procs → directories_of table ≡ directories_in procs
directories_from (nobody h first) = refl
directories_from (gone h first table procs rest) = directories_from rest
directories_from (there h first proc table procs e rest) =
    ap (λ b. cond b (proc.cwd ∷ directories_of table) (directories_of table)) (same proc.status)
    ∙ ap (λ all. cond (is_none proc.status) (proc.cwd ∷ all) all) (directories_from rest)
  where
    same : (o : Option ℕ) → runs (status_of o) ≡ is_none o
    same None = refl
    same (Some status) = refl

-- ---- one has ended

-- who works where in a list that begins with one of these
abbrev pub behind : Proc → List ℕ → List ℕ
behind proc rest = cond (is_none proc.status) (proc.cwd ∷ rest) rest

-- all others work where they worked
left_work : (pid status : ℕ) (procs : List Proc) → directories_in (left_by pid status procs) ≡ directories_in (filter (is_other pid) procs)
left_work pid status [] = refl
left_work pid status (proc ∷ procs) = by_pid (proc.pid == pid) refl (left_work pid status procs)
  where
    rest : List Proc
    rest = left_by pid status procs

    others : List Proc
    others = filter (is_other pid) procs

    child : (told : Option ℕ) → proc.status ≡ told → directories_in rest ≡ directories_in others → directories_in (cons_option (left_child told proc) rest) ≡ behind proc (directories_in others)
    child None e same = ap (behind proc) same
    child (Some over) e same = same ∙ sym (ap (λ o. cond (is_none o) (proc.cwd ∷ directories_in others) (directories_in others)) e)

    by_parent : (b : Bool) → directories_in rest ≡ directories_in others → directories_in (cons_option (cond b (left_child proc.status proc) (Some proc)) rest) ≡ behind proc (directories_in others)
    by_parent true same = child proc.status refl same
    by_parent false same = ap (behind proc) same

    by_pid : (b : Bool) → (proc.pid == pid) ≡ b → directories_in rest ≡ directories_in others
        → directories_in (cons_option (left_behind pid status (cond b (record proc { nodes = no_nodes }) proc)) rest) ≡ directories_in (cond (not b) (proc ∷ others) others)
    by_pid true e same =
        ap (λ b. directories_in (cons_option (cond b (Some (record proc { nodes = no_nodes; status = Some status }))
        (cond (proc.parent == pid) (left_child proc.status (record proc { nodes = no_nodes })) (Some (record proc { nodes = no_nodes })))) rest)) e ∙ same
    by_pid false e same =
        ap (λ b. directories_in (cons_option (cond b (Some (record proc { status = Some status }))
        (cond (proc.parent == pid) (left_child proc.status proc) (Some proc))) rest)) e ∙ by_parent (proc.parent == pid) same

-- and who has ended may be gone
left_without : (pid status : ℕ) (procs : List Proc) → directories_in (filter (is_other pid) (left_by pid status procs)) ≡ directories_in (filter (is_other pid) procs)
left_without pid status [] = refl
left_without pid status (proc ∷ procs) = by_pid (proc.pid == pid) refl (left_without pid status procs)
  where
    rest : List Proc
    rest = left_by pid status procs

    stay : List Proc
    stay = filter (is_other pid) rest

    others : List Proc
    others = filter (is_other pid) procs

    first : (now : Proc) → now.pid ≡ proc.pid → now.status ≡ proc.status → now.cwd ≡ proc.cwd → (proc.pid == pid) ≡ false → directories_in stay ≡ directories_in others
        → directories_in (filter (is_other pid) (now ∷ rest)) ≡ behind proc (directories_in others)
    first now own same at e rests =
        ap (λ b. directories_in (cond (not b) (now ∷ stay) stay)) (ap (λ n. n == pid) own ∙ e)
        ∙ ap (λ o. cond (is_none o) (now.cwd ∷ directories_in stay) (directories_in stay)) same
        ∙ ap (λ n. cond (is_none proc.status) (n ∷ directories_in stay) (directories_in stay)) at
        ∙ ap (behind proc) rests

    child : (told : Option ℕ) → proc.status ≡ told → (proc.pid == pid) ≡ false → directories_in stay ≡ directories_in others
        → directories_in (filter (is_other pid) (cons_option (left_child told proc) rest)) ≡ behind proc (directories_in others)
    child None e other same = first (record proc { parent = 1 }) refl refl refl other same
    child (Some over) e other same = same ∙ sym (ap (λ o. cond (is_none o) (proc.cwd ∷ directories_in others) (directories_in others)) e)

    by_parent : (b : Bool) → (proc.pid == pid) ≡ false → directories_in stay ≡ directories_in others
        → directories_in (filter (is_other pid) (cons_option (cond b (left_child proc.status proc) (Some proc)) rest)) ≡ behind proc (directories_in others)
    by_parent true other same = child proc.status refl other same
    by_parent false other same = first proc refl refl refl other same

    by_pid : (b : Bool) → (proc.pid == pid) ≡ b → directories_in stay ≡ directories_in others
        → directories_in (filter (is_other pid) (cons_option (left_behind pid status (cond b (record proc { nodes = no_nodes }) proc)) rest)) ≡ directories_in (cond (not b) (proc ∷ others) others)
    by_pid true e same =
        ap (λ b. directories_in (filter (is_other pid) (cons_option (cond b (Some (record proc { nodes = no_nodes; status = Some status }))
        (cond (proc.parent == pid) (left_child proc.status (record proc { nodes = no_nodes })) (Some (record proc { nodes = no_nodes })))) rest))) e
        ∙ ap (λ b. directories_in (cond (not b) (record proc { nodes = no_nodes; status = Some status } ∷ stay) stay)) e ∙ same
    by_pid false e same =
        ap (λ b. directories_in (filter (is_other pid) (cons_option (cond b (Some (record proc { status = Some status }))
        (cond (proc.parent == pid) (left_child proc.status proc) (Some proc))) rest))) e ∙ by_parent (proc.parent == pid) e same

-- so once one has ended all others work where they worked
pub ended_work : (pid status : ℕ) (procs : List Proc) → directories_in (ended pid status procs) ≡ directories_in (filter (is_other pid) procs)
ended_work pid status procs = by_alone (is_alone pid procs)
  where
    by_alone : (b : Bool) → directories_in (cond b (filter (is_other pid) (left_by pid status procs)) (left_by pid status procs)) ≡ directories_in (filter (is_other pid) procs)
    by_alone true = left_without pid status procs
    by_alone false = left_work pid status procs

-- what holds of all of these holds of all others
pub all_others : (P : ℕ → Type 0) (pid : ℕ) (procs : List Proc) → AllByRecursion P (directories_in procs) → AllByRecursion P (directories_in (filter (is_other pid) procs))
all_others P pid [] all = tt
all_others P pid (proc ∷ procs) all = by_pid (not (proc.pid == pid)) (all_others P pid procs)
  where
    others : List Proc
    others = filter (is_other pid) procs

    those : (b : Bool) → AllByRecursion P (cond b (proc.cwd ∷ directories_in procs) (directories_in procs)) → AllByRecursion P (directories_in procs)
    those true all = all.1
    those false all = all

    with_it : (b : Bool) → AllByRecursion P (cond b (proc.cwd ∷ directories_in procs) (directories_in procs)) → AllByRecursion P (directories_in others)
        → AllByRecursion P (cond b (proc.cwd ∷ directories_in others) (directories_in others))
    with_it true all rest = (all.0, rest)
    with_it false all rest = rest

    by_pid : (b : Bool) → (AllByRecursion P (directories_in procs) → AllByRecursion P (directories_in others)) → AllByRecursion P (directories_in (cond b (proc ∷ others) others))
    by_pid true rest = with_it (is_none proc.status) all (rest (those (is_none proc.status) all))
    by_pid false rest = rest (those (is_none proc.status) all)

-- ---- who holds them

abbrev pub count : ℕ → List ℕ → ℕ
count n nodes = count_by (λ node. node == n) nodes

none : (k : ℕ) → k ≡ 0 + k
none k = omega arith

-- how many hold a node beside descriptions: the root by itself, and who works in another directory
abbrev pub others_by : List Proc → ℕ → ℕ
others_by procs number = count number (root ∷ but_root (directories_in procs))

-- how often a node is held by who works in a directory
abbrev pub away : ℕ → ℕ → ℕ
away directory n = cond (directory == root) 0 (one_if (directory == n))

pub away_cons : (n directory : ℕ) (nodes : List ℕ) → count n (but_root (directory ∷ nodes)) ≡ away directory n + count n (but_root nodes)
away_cons n directory nodes = by_root (directory == root)
  where
    by_root : (b : Bool) → count n (cond b (but_root nodes) (directory ∷ but_root nodes)) ≡ cond b 0 (one_if (directory == n)) + count n (but_root nodes)
    by_root true = none (count n (but_root nodes))
    by_root false = whole n directory (but_root nodes)

-- the same of a process
abbrev pub of_proc : Proc → ℕ → ℕ
of_proc proc n = cond (is_none proc.status) (away proc.cwd n) 0

pub proc_cons : (n : ℕ) (proc : Proc) (nodes : List ℕ) → count n (but_root (behind proc nodes)) ≡ of_proc proc n + count n (but_root nodes)
proc_cons n proc nodes = by_status (is_none proc.status)
  where
    by_status : (b : Bool) → count n (but_root (cond b (proc.cwd ∷ nodes) nodes)) ≡ cond b (away proc.cwd n) 0 + count n (but_root nodes)
    by_status true = away_cons n proc.cwd nodes
    by_status false = none (count n (but_root nodes))

-- who is found holds a node as often as all others less than all
without_one : (n pid : ℕ) (procs : List Proc) (before : ℕ) (proc : Proc) → AreRising before procs → proc_of procs pid ≡ Some proc
    → count n (but_root (directories_in procs)) ≡ of_proc proc n + count n (but_root (directories_in (filter (is_other pid) procs)))
without_one n pid [] before proc rising is = cc
without_one n pid (first ∷ procs) before proc rising is = elim (eqb_tells first.pid pid) [
  | inl same ↦
      let it : first ≡ proc = some_same (proc_of (first ∷ procs) pid) first proc (ap (λ b. cond b (Some first) (proc_of procs pid)) same.0) is in
      let others : filter (is_other pid) (first ∷ procs) ≡ procs =
      ap (λ b. cond (not b) (first ∷ filter (is_other pid) procs) (filter (is_other pid) procs)) same.0 ∙ others_above procs first.pid pid rising.1 (let e = same.1 in omega arith) in
      proc_cons n first (directories_in procs) ∙ ap (λ p. of_proc p n + count n (but_root (directories_in procs))) it
      ∙ ap (λ ps. of_proc proc n + count n (but_root (directories_in ps))) (sym others)
  | inr other ↦
      let rest = without_one n pid procs first.pid proc rising.1 (sym (ap (λ b. cond b (Some first) (proc_of procs pid)) other.0) ∙ is) in
      let others : filter (is_other pid) (first ∷ procs) ≡ first ∷ filter (is_other pid) procs =
      ap (λ b. cond (not b) (first ∷ filter (is_other pid) procs) (filter (is_other pid) procs)) other.0 in
      proc_cons n first (directories_in procs) ∙ ap (λ k. of_proc first n + k) rest
      ∙ swap (of_proc first n) (of_proc proc n) (count n (but_root (directories_in (filter (is_other pid) procs))))
      ∙ ap (λ k. of_proc proc n + k) (sym (proc_cons n first (directories_in (filter (is_other pid) procs))))
      ∙ ap (λ ps. of_proc proc n + count n (but_root (directories_in ps))) (sym others)
]
  where
    swap : (a b c : ℕ) → a + (b + c) ≡ b + (a + c)
    swap a b c = omega arith

module _ (pid : ℕ) (procs : List Proc) (before : ℕ) (proc : Proc) (rising : AreRising before procs) (is : proc_of procs pid ≡ Some proc) (up : proc.status ≡ None) where
  pub others_hold : (n : ℕ) → others_by procs n ≡ one_if (root == n) + (away proc.cwd n + count n (but_root (directories_in (filter (is_other pid) procs))))
  others_hold n =
      whole n root (but_root (directories_in procs))
      ∙ ap (λ k. one_if (root == n) + k) (without_one n pid procs before proc rising is
      ∙ ap (λ o. cond (is_none o) (away proc.cwd n) 0 + count n (but_root (directories_in (filter (is_other pid) procs)))) up)

  -- all others hold it once less
  pub left_by_one : (n : ℕ) → left_pins (others_by procs) proc.cwd n ≡ others_by (filter (is_other pid) procs) n
  left_by_one n = by_root (proc.cwd == root) refl ∙ sym (whole n root (but_root (directories_in (filter (is_other pid) procs))))
    where
      others : ℕ
      others = count n (but_root (directories_in (filter (is_other pid) procs)))

      nowhere : (here all rest : ℕ) → all ≡ here + (0 + rest) → all ≡ here + rest
      nowhere here all rest e = omega arith

      one : (here all rest : ℕ) → all ≡ here + (1 + rest) → all - 1 ≡ here + rest
      one here all rest e = omega arith

      by_node : (b : Bool) → (proc.cwd == n) ≡ b → (proc.cwd == root) ≡ false → cond b (others_by procs n - 1) (others_by procs n) ≡ one_if (root == n) + others
      by_node true same other = one (one_if (root == n)) (others_by procs n) others
          (others_hold n ∙ ap (λ b. one_if (root == n) + (cond b 0 (one_if (proc.cwd == n)) + others)) other ∙ ap (λ b. one_if (root == n) + (one_if b + others)) same)
      by_node false same other = nowhere (one_if (root == n)) (others_by procs n) others
          (others_hold n ∙ ap (λ b. one_if (root == n) + (cond b 0 (one_if (proc.cwd == n)) + others)) other ∙ ap (λ b. one_if (root == n) + (one_if b + others)) same)

      by_root : (b : Bool) → (proc.cwd == root) ≡ b → cond b (others_by procs) (one_less (others_by procs) proc.cwd) n ≡ one_if (root == n) + others
      by_root true at = nowhere (one_if (root == n)) (others_by procs n) others (others_hold n ∙ ap (λ b. one_if (root == n) + (cond b 0 (one_if (proc.cwd == n)) + others)) at)
      by_root false at = by_node (proc.cwd == n) refl at

  -- who works elsewhere than in the root holds that
  pub holds_it : proc.cwd ≢ root → 0 < others_by procs proc.cwd
  holds_it other = some (others_by procs proc.cwd) (one_if (root == proc.cwd)) (count proc.cwd (but_root (directories_in (filter (is_other pid) procs))))
      (others_hold proc.cwd
      ∙ ap (λ b. one_if (root == proc.cwd) + (cond b 0 (one_if (proc.cwd == proc.cwd)) + count proc.cwd (but_root (directories_in (filter (is_other pid) procs))))) (eqb_other proc.cwd root other)
      ∙ ap (λ b. one_if (root == proc.cwd) + (one_if b + count proc.cwd (but_root (directories_in (filter (is_other pid) procs))))) (eqb_same proc.cwd proc.cwd refl))
    where
      some : (all here rest : ℕ) → all ≡ here + (1 + rest) → 0 < all
      some all here rest e = omega arith

-- the root is held by itself
pub root_stays : (procs : List Proc) (directory : ℕ) → directory ≢ root → 0 < one_less (others_by procs) directory root
root_stays procs directory other =
    subst (λ b. 0 < cond b (others_by procs root - 1) (others_by procs root)) (sym (eqb_other directory root other))
    (some (others_by procs root) (count root (but_root (directories_in procs))) (whole root root (but_root (directories_in procs))))
  where
    some : (all rest : ℕ) → all ≡ 1 + rest → 0 < all
    some all rest e = omega arith

-- ---- who enters and who leaves

-- who enters a directory holds it once more than before, but for the root
pub entered_more : (pins : ℕ → ℕ) (directory n : ℕ) → entered_pins pins directory n ≡ pins n + away directory n
entered_more pins directory n = by_root (directory == root)
  where
    nothing : (k : ℕ) → k ≡ k + 0
    nothing k = omega arith

    by_node : (b : Bool) → cond b (pins n + 1) (pins n) ≡ pins n + one_if b
    by_node true = refl
    by_node false = nothing (pins n)

    by_root : (b : Bool) → cond b pins (one_more pins directory) n ≡ pins n + cond b 0 (one_if (directory == n))
    by_root true = nothing (pins n)
    by_root false = by_node (directory == n)

-- and who leaves one holds it once less
pub left_less : (pins : ℕ → ℕ) (directory n rest : ℕ) → pins n ≡ away directory n + rest → left_pins pins directory n ≡ rest
left_less pins directory n rest e = by_root (directory == root) e
  where
    none : (all rest : ℕ) → all ≡ 0 + rest → all ≡ rest
    none all rest e = omega arith

    one : (all rest : ℕ) → all ≡ 1 + rest → all - 1 ≡ rest
    one all rest e = omega arith

    by_node : (b : Bool) → pins n ≡ one_if b + rest → cond b (pins n - 1) (pins n) ≡ rest
    by_node true e = one (pins n) rest e
    by_node false e = none (pins n) rest e

    by_root : (b : Bool) → pins n ≡ cond b 0 (one_if (directory == n)) + rest → cond b pins (one_less pins directory) n ≡ rest
    by_root true e = none (pins n) rest e
    by_root false e = by_node (directory == n) e

-- whoever else holds nodes
pub entered_others : (others : ℕ → ℕ) (files : Files) (directory n : ℕ) → entered_pins (holders others files) directory n ≡ holders (entered_pins others directory) files n
entered_others others files directory n =
    let all = entered_more (holders others files) directory n in let these = entered_more others directory n in omega (arith, all, these)

pub left_others : (others : ℕ → ℕ) (files : Files) (directory n rest : ℕ) → others n ≡ away directory n + rest → left_pins (holders others files) directory n ≡ rest + openings files n
left_others others files directory n rest e = left_less (holders others files) directory n (rest + openings files n) (omega (arith, e))
