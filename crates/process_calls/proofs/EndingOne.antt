-- One process that runs closes what it has open, ends, and lets the directory go that it worked in.
use Rattle.std.proofs.Common.{◌≡◌, ◌≢◌, ℕ, ◌+◌, ◌-◌, ◌<◌, ◌==◌, not, Bool, true, false, cond, List, [], ◌∷◌, None, Some, filter, map, refl, ap, sym, ◌∙◌, subst, arith}
use Rattle.kabi_types.specs.declared.scripts.Script.{Script}
use Rattle.kheap_slabs.specs.declared.objects.Proc.{Proc}
use Rattle.kheap_slabs.specs.Heap.{Heap}
use Rattle.memfs_ops.specs.Closing.{one_less}
use Rattle.memfs_ops.specs.FileTree.{Stands}
use Rattle.open_laws.proofs.GoingLemmas.{open_on}
use Rattle.open_laws.specs.Placed.{Numbers}
use Rattle.posix_defs.specs.Files.State.{Files}
use Rattle.posix_defs.specs.Plain.{root}
use Rattle.posix_defs.specs.Tree.{Tree}
use Rattle.proc_numbers.specs.Having.{HaveOpen}
use Rattle.proc_files.specs.Holders.{holders}
use Rattle.proc_table.specs.Changes.{ended, is_other}
use Rattle.proc_table.specs.Moves.{TableMoves}
use Rattle.proc_table.specs.Opening.{HaveOpen as TableOpen}
use Rattle.proc_table.specs.Procs.{HasClosed, numbers_in, proc_of}
use Rattle.proc_table.proofs.OpenLemmas.{have_ended}
use Rattle.proc_table.proofs.PlaceLemmas.{eqb_other}
use Rattle.store_objects.specs.declared.objects.Objects.{Objects}
use Rattle.store_objects.specs.Objects.{AreKept, procs_of}
use Rattle.store_objects.specs.Trees.{but_root}
use Rattle.store_objects.specs.Working.{OnlyPins, directories_in, left_pins}
use Rattle.store_objects.proofs.GoingOn.{rising_in}
use Rattle.store_objects.proofs.HeldNodes.{one_if, whole}
use Rattle.store_objects.proofs.Opening.{by_pids, by_procs, leaves_on}
use Rattle.store_objects.proofs.Pinning.{pinned_procs}
use Rattle.store_objects.proofs.WorkPlaces.{away, behind, count, ended_work, holds_it, others_hold}
use Rattle.process_calls.specs.Endings.{HoldBeside, HoldFilesOf, shut, silent, workers_at}
use Rattle.process_calls.proofs.Holding.{held_left}

-- what is open goes on where a process ends that has nothing open
pub opens_ended : (script : Script) (mid new : Objects) (pid status : ℕ) (numbers : Numbers) (files : Files) → AreKept script mid → HasClosed (procs_of mid) pid
    → TableMoves mid.heap mid.procs new.heap new.procs → procs_of new ≡ ended pid status (procs_of mid) → new.procs.last ≡ mid.procs.last
    → HaveOpen numbers mid.heap mid.procs files → HaveOpen numbers new.heap new.procs files
opens_ended script mid new pid status numbers files kept closed moves is last have = record {
  list = have.list;
  opened = open_on numbers mid.heap new.heap have.list files files (ap (λ (h : Heap). h.descs) moves.kept) (ap (λ (h : Heap). h.pipes) moves.kept)
      (ap (λ (h : Heap). h.socks) moves.kept) (ap (λ (h : Heap). h.chunks) moves.kept) refl refl refl have.opened;
  descriptors = by_pids new.heap numbers.descs (procs_of new) new.procs.last files
      (subst (λ procs. TableOpen (numbers_in new.heap) procs new.procs.last numbers.descs files) (sym is)
      (leaves_on mid.heap new.heap numbers.descs (ended pid status (procs_of mid)) new.procs.last files (ap (λ (h : Heap). h.leaves) moves.kept)
      (subst (λ n. TableOpen (numbers_in mid.heap) (ended pid status (procs_of mid)) n numbers.descs files) (sym last)
      (have_ended mid.heap mid.procs pid status numbers.descs files kept.holds closed
      (by_procs mid.heap numbers.descs (procs_of mid) mid.procs.last files (rising_in script mid kept) have.descriptors)))));
}

-- ---- where it worked

-- who has closed what it had open works where it worked
shut_work : (pid : ℕ) (procs : List Proc) → directories_in (filter (is_other pid) (map (shut pid) procs)) ≡ directories_in (filter (is_other pid) procs)
shut_work pid [] = refl
shut_work pid (proc ∷ procs) = by_pid (proc.pid == pid) refl (shut_work pid procs)
  where
    rest : List Proc
    rest = filter (is_other pid) (map (shut pid) procs)

    others : List Proc
    others = filter (is_other pid) procs

    by_pid : (b : Bool) → (proc.pid == pid) ≡ b → directories_in rest ≡ directories_in others
        → directories_in (cond (is_other pid (cond b (silent proc) proc)) (cond b (silent proc) proc ∷ rest) rest)
        ≡ directories_in (cond (not b) (proc ∷ others) others)
    by_pid true e same = ap (λ b. directories_in (cond (not b) (silent proc ∷ rest) rest)) e ∙ same
    by_pid false e same = ap (λ b. directories_in (cond (not b) (proc ∷ rest) rest)) e ∙ ap (behind proc) same

-- so all others hold what they held, and it holds its directory no more
pub works_no_more : (script : Script) (old new : Objects) (pid status : ℕ) (proc : Proc) → AreKept script old → proc_of (procs_of old) pid ≡ Some proc → proc.status ≡ None
    → procs_of new ≡ ended pid status (map (shut pid) (procs_of old)) → (n : ℕ) → workers_at (procs_of old) n ≡ away proc.cwd n + workers_at (procs_of new) n
works_no_more script old new pid status proc kept is up ends n =
    let all = others_hold pid (procs_of old) 0 proc (rising_in script old kept) is up n in
    let rest = whole n root (but_root (directories_in (filter (is_other pid) (procs_of old)))) in
    let now : workers_at (procs_of new) n ≡ workers_at (filter (is_other pid) (procs_of old)) n =
    ap (λ nodes. count n (root ∷ but_root nodes)) (ap directories_in ends ∙ ended_work pid status (map (shut pid) (procs_of old)) ∙ shut_work pid (procs_of old)) in
    omega (arith, all, rest, now)

-- the root is held by itself
pub root_held : (procs : List Proc) → 0 < workers_at procs root
root_held procs = let all = whole root root (but_root (directories_in procs)) in let one : one_if (root == root) ≡ 1 = refl in omega (arith, all, one)

-- The objects hold the same files, once it has let its directory go.
pub held_ended : (script : Script) (old mid new : Objects) (pid status directory : ℕ) (proc : Proc) (numbers : Numbers) (files : Files) → AreKept script old → proc_of (procs_of old) pid ≡ Some proc
    → proc.status ≡ None → directory ≡ proc.cwd → procs_of mid ≡ ended pid status (map (shut pid) (procs_of old)) → OnlyPins mid new
    → ((tree : Tree) (pins : ℕ → ℕ) → Stands mid.heap mid.tree tree pins → Stands new.heap new.tree tree (left_pins pins directory))
    → HoldBeside numbers (workers_at (procs_of old)) mid files → HoldFilesOf numbers new files
held_ended script old mid new pid status directory proc numbers files kept is up at ends only lets hold =
    held_left numbers (workers_at (procs_of old)) (workers_at (procs_of new)) mid new directory files only lets
    (λ n. works_no_more script old new pid status proc kept is up (pinned_procs mid new only ∙ ends) n ∙ ap (λ k. away k n + workers_at (procs_of new) n) (sym at))
    (root_held (procs_of new)) hold

-- ---- it may be let go

pub may_let_go : (script : Script) (old mid : Objects) (pid directory : ℕ) (proc : Proc) (numbers : Numbers) (files : Files) → AreKept script old → proc_of (procs_of old) pid ≡ Some proc → proc.status ≡ None
    → directory ≡ proc.cwd → directory ≢ root → HoldBeside numbers (workers_at (procs_of old)) mid files
    → (tree : Tree) × (pins : ℕ → ℕ) × Stands mid.heap mid.tree tree pins × (0 < pins directory) × (0 < one_less pins directory root)
may_let_go script old mid pid directory proc numbers files kept is up at other hold = (
  files.tree,
  holders (workers_at (procs_of old)) files,
  hold.held.tree,
  (let held = subst (λ n. 0 < workers_at (procs_of old) n) (sym at) (holds_it pid (procs_of old) 0 proc (rising_in script old kept) is up (λ same. other (at ∙ same))) in omega (arith, held)),
  subst (λ b. 0 < cond b (holders (workers_at (procs_of old)) files root - 1) (holders (workers_at (procs_of old)) files root)) (sym (eqb_other directory root other))
      (let held = root_held (procs_of old) in omega (arith, held)),
)
