-- A child is made, which goes on behind its parent's call.
use Rattle.std.proofs.Common.{◌≡◌, ◌≢◌, ◌⊎◌, ℕ, zero, suc, ◌+◌, ◌<◌, ◌≤◌, ◌==◌, Bool, true, false, cond, List, [], ◌∷◌, ◌++◌, length, None, Some, is_some, unwrap_or, pos, refl, ap, sym, ◌∙◌, subst, inl, inr, arith, length-append}
use Rattle.std.specs.Prelude.{Ok, Err, slice_index}
use Rattle.std.specs.List.{AllByRecursion}
use Rattle.std.specs.Option.{option_map}
use Rattle.std.proofs.lemmas.Bool.Decides.{eqb_tells}
use Rattle.kabi_types.specs.declared.calls.Call.TheVariants as call
use Rattle.kabi_types.specs.declared.errnos.Errno.{Errno}
use Rattle.kabi_types.specs.declared.errnos.Errno.TheVariants.{EAGAIN}
use Rattle.kabi_types.specs.declared.replies.Reply.TheVariants.{Fail, Val}
use Rattle.kabi_types.specs.declared.scripts.Control.{Control}
use Rattle.kabi_types.specs.declared.scripts.Script.{Script}
use Rattle.kheap_slabs.specs.Objects.{object}
use Rattle.kheap_slabs.specs.declared.objects.Proc.{Proc}
use Rattle.kheap_slabs.specs.Heap.{Heap, IsWellFormed}
use Rattle.kern_laws.proofs.EnabledEvents.{get_behind}
use Rattle.kern_laws.proofs.TablePlaces.{get_front}
use Rattle.posix_defs.specs.Account.{Account, with_frames}
use Rattle.posix_defs.specs.Answer.{replied}
use Rattle.posix_defs.specs.ByPid.{at_pid}
use Rattle.posix_defs.specs.Control.{after, settled}
use Rattle.posix_defs.specs.Files.State.{Files, with_heir}
use Rattle.posix_defs.specs.Forking.{fork, with_child}
use Rattle.posix_defs.specs.Memory.{Frames, after_fork}
use Rattle.posix_defs.specs.Plain.{Plain, at_start, control_of, root}
use Rattle.posix_defs.specs.Process.{Table, is_alive}
use Rattle.posix_defs.specs.Tree.{Tree, is_directory}
use Rattle.posix_defs.specs.World.{World}
use Rattle.posix_defs.specs.declared.turner.Turned.{Turned}
use Rattle.posix_defs.specs.declared.turner.Turned.TheVariants.{Done}
use Rattle.prog_ctl.specs.Runnable.{Rests, Stands}
use Rattle.memfs_ops.specs.FileTree.{Stands as TreeStands}
use Rattle.proc_files.specs.Holders.{holders, openings, times}
use Rattle.proc_files.proofs.Openings.{all_same, same_nodes}
use Rattle.proc_table.specs.Accounting.{HasAccount}
use Rattle.proc_table.specs.Changes.{child_proc, forked_as, is_full_at, replaced}
use Rattle.open_laws.specs.Sharing.{after_shares, share_all}
use Rattle.open_laws.proofs.CloseLemmas.{described}
use Rattle.open_laws.proofs.GoingLemmas.{open_on}
use Rattle.open_laws.proofs.ShareLemmas.{opened_all}
use Rattle.proc_table.specs.Moves.{HasCopies, IsForked, TableMoves, sharing}
use Rattle.proc_table.specs.Procs.{numbers_in, proc_of}
use Rattle.kheap_slabs.specs.Leaves.{HoldLeaves}
use Rattle.proc_table.proofs.LeafTurns.{forked_all}
use Rattle.proc_table.proofs.OpenLemmas.{have_forked}
use Rattle.proc_table.specs.Standing.{IsTable, answered_fork, forked_in}
use Rattle.proc_table.specs.Table.{TableView}
use Rattle.proc_table.proofs.AccountLemmas.{pids_within}
use Rattle.proc_table.proofs.FamilyLemmas.{proc_has_pid}
use Rattle.proc_table.proofs.LawLemmas.{fork_is, on-account, on-table}
use Rattle.proc_table.proofs.OwnLemmas.{all_append, all_weaker, has_it}
use Rattle.proc_table.proofs.PlaceLemmas.{eqb_other, eqb_same}
use Rattle.store_objects.proofs.LockedOn.{holds_on, stay_moved}
use Rattle.store_objects.specs.declared.objects.Objects.{Objects}
use Rattle.store_objects.specs.Files.{HaveFiles}
use Rattle.store_objects.specs.Objects.{AreAtCalls, AreKept, IsAtCall, MovesOn, Runs, procs_of}
use Rattle.store_objects.specs.Standing.{AreProcesses, Performs, StandsFor, WorldAfter}
use Rattle.store_objects.proofs.FewPins.{few_pins}
use Rattle.store_objects.proofs.GoingOn.{descriptors_moved, kept_moved, led_to, mapped_from, moves_then, proc_made, procs_then, replaced_at, rising_in, some_same}
use Rattle.store_objects.proofs.Keeping.{kept_with, moved_caches}
use Rattle.store_objects.proofs.Pinning.{kept_then, kept_where, pinned_account, pinned_files, pinned_kept, pinned_locks, pinned_procs, pinned_stays, pinned_table, stands_where}
use Rattle.store_objects.proofs.TreesOn.{caches_then, held_by_procs, same_pins, works_in, works_worked}
use Rattle.store_objects.proofs.WorkPlaces.{count, directories_from, entered_others, holds_it, others_by}
use Rattle.store_objects.proofs.WorkingOn.{all_and, entered_by_one, works_among}
use Rattle.store_objects.specs.Trees.{TreeStays, but_root, pins_in}
use Rattle.store_objects.specs.Working.{AreDirectories, OnlyPins, directories_in, entered_pins}
use Rattle.store_objects.proofs.Opening.{by_pids, by_procs, files_moved, settled_on}
use Rattle.store_objects.proofs.Leading.{led_on}
use Rattle.store_objects.proofs.Replies.{GoesOn, does_fail}
use Rattle.process_calls.proofs.Sharing.{HasShared, keeps_shared, owners_shared}
use Rattle.process_calls.proofs.Waits.{kept_by}

-- who is found where one more stands behind the others
found_behind : (procs : List Proc) (child : Proc) (q : ℕ) (found : Proc) → proc_of (procs ++ child ∷ []) q ≡ Some found
    → (proc_of procs q ≡ Some found) ⊎ (child.pid ≡ q)
found_behind [] child q found is = elim (eqb_tells child.pid q) [
  | inl same ↦ inr same.1
  | inr other ↦ inl (sym (ap (λ b. cond b (Some child) None) other.0) ∙ is)
]
found_behind (first ∷ procs) child q found is = go (first.pid == q) is (found_behind procs child q found)
  where
    go : (b : Bool) → cond b (Some first) (proc_of (procs ++ child ∷ []) q) ≡ Some found
        → (proc_of (procs ++ child ∷ []) q ≡ Some found → (proc_of procs q ≡ Some found) ⊎ (child.pid ≡ q))
        → (cond b (Some first) (proc_of procs q) ≡ Some found) ⊎ (child.pid ≡ q)
    go true e rest = inl e
    go false e rest = rest e

-- who was found is found still
found_still : (procs : List Proc) (child : Proc) (q : ℕ) (found : Proc) → proc_of procs q ≡ Some found → proc_of (procs ++ child ∷ []) q ≡ Some found
found_still [] child q found is = cc
found_still (first ∷ procs) child q found is = go (first.pid == q) is (found_still procs child q found)
  where
    go : (b : Bool) → cond b (Some first) (proc_of procs q) ≡ Some found
        → (proc_of procs q ≡ Some found → proc_of (procs ++ child ∷ []) q ≡ Some found)
        → cond b (Some first) (proc_of (procs ++ child ∷ []) q) ≡ Some found
    go true e rest = e
    go false e rest = rest e

-- somebody has the pid of the last
somebody : (procs : List Proc) (child : Proc) (q : ℕ) → child.pid ≡ q → is_some (proc_of (procs ++ child ∷ []) q) ≡ true
somebody [] child q own = elim (eqb_tells child.pid q) [
  | inl same ↦ ap (λ b. is_some (cond b (Some child) None)) same.0
  | inr other ↦ absurd (other.1 own)
]
somebody (first ∷ procs) child q own = go (first.pid == q) (somebody procs child q own)
  where
    go : (b : Bool) → is_some (proc_of (procs ++ child ∷ []) q) ≡ true → is_some (cond b (Some first) (proc_of (procs ++ child ∷ []) q)) ≡ true
    go true rest = refl
    go false rest = rest

-- the last one has its pid alone
found_last : (procs : List Proc) (child : Proc) → AllByRecursion (λ p. p.pid ≢ child.pid) procs → proc_of (procs ++ child ∷ []) child.pid ≡ Some child
found_last [] child all = ap (λ b. cond b (Some child) None) (eqb_same child.pid child.pid refl)
found_last (first ∷ procs) child all =
    ap (λ b. cond b (Some first) (proc_of (procs ++ child ∷ []) child.pid)) (eqb_other first.pid child.pid all.0) ∙ found_last procs child all.1

-- so what is said of the child of that pid is said of the one that was made
pub copied : (script : Script) (old mid : Objects) (pid child : ℕ) → AreKept script old → (forked : IsForked old.heap old.procs mid.heap mid.procs pid child) → child ≡ old.procs.last + 1
    → ((parent its : Proc) → proc_of (procs_of old) pid ≡ Some parent → proc_of (procs_of mid) child ≡ Some its → HasCopies old.heap mid.heap parent its)
    → HasCopies old.heap mid.heap forked.parent (child_proc forked.parent child forked.nodes forked.leaves)
copied script old mid pid child kept forked number each =
    each forked.parent (child_proc forked.parent child forked.nodes forked.leaves) forked.parent_is
    (ap (λ procs. proc_of procs child) forked.processes_are
    ∙ found_last (procs_of old) (child_proc forked.parent child forked.nodes forked.leaves)
    (all_weaker (λ (p : Proc). (0 < p.pid) × (p.pid ≤ old.procs.last)) (λ p. p.pid ≢ child) (procs_of old) (λ p both same. (let l : p.pid ≤ old.procs.last = both.1 in omega (arith, l, same, number)))
    (pids_within old.heap.procs old.procs.listed 0 old.procs.last kept.holds.stored kept.holds.rising)))

-- the controls of those made before, and the last one's
at_front : (controls : List Control) (last d : Control) (pid : ℕ) → pid ≤ length controls → unwrap_or (at_pid (controls ++ last ∷ []) pid) d ≡ unwrap_or (at_pid controls pid) d
at_front controls last d zero h = refl
at_front controls last d (suc i) h = ap (λ found. unwrap_or found d) (get_front controls (last ∷ []) i (omega arith))

at_last : (controls : List Control) (last d : Control) (pid : ℕ) → pid ≡ length controls + 1 → unwrap_or (at_pid (controls ++ last ∷ []) pid) d ≡ last
at_last controls last d zero h = absurd (omega arith)
at_last controls last d (suc i) h =
    ap (λ n. unwrap_or (at_pid (controls ++ last ∷ []) (suc n)) d) (let e : i ≡ length controls = omega arith in e)
    ∙ ap (λ found. unwrap_or found d) (get_behind controls last [])

-- where neither has changed the objects are the same
pub same_objects : (old : Objects) (heap : Heap) (procs : TableView) → heap ≡ old.heap → procs ≡ old.procs → record { heap = heap; procs = procs; tree = old.tree; names = old.names; fifos = old.fifos; locks = old.locks } ≡ old
same_objects old heap procs same_heap same_procs =
    ap (λ (h : Heap). record { heap = h; procs = procs; tree = old.tree; names = old.names; fifos = old.fifos; locks = old.locks }) same_heap
    ∙ ap (λ (t : TableView). record { heap = old.heap; procs = t; tree = old.tree; names = old.names; fifos = old.fifos; locks = old.locks }) same_procs

-- the child's pid is the one behind the last
pub number_of : (there last child : ℕ) → Ok child ≡ forked_as there last → child ≡ last + 1
number_of there last child is = go (is_full_at there last) is
  where
    go : (b : Bool) → Ok child ≡ cond b (Err EAGAIN) (Ok (last + 1)) → child ≡ last + 1
    go true e = cc
    go false e = cc

-- the world with a child of a process
abbrev pub forked_world : Script → World → ℕ → World
forked_world script world pid = record world { plain = with_child script world.plain pid; account = with_frames world.account (after_fork world.account.frames pid) }

-- The table has made a child.
module _ (script : Script) (old mid : Objects) (pid child : ℕ) (control : Control) (kept : AreKept script old) (runs : Runs old pid control)
    (moves : TableMoves (sharing old.heap mid.heap) old.procs mid.heap mid.procs) (tree : mid.tree ≡ old.tree) (names : mid.names ≡ old.names) (fifos : mid.fifos ≡ old.fifos) (locks : mid.locks ≡ old.locks) (shared : HasShared old mid runs.proc)
    (forked : IsForked old.heap old.procs mid.heap mid.procs pid child) (copies : HasCopies old.heap mid.heap forked.parent (child_proc forked.parent child forked.nodes forked.leaves)) where
  same_parent : forked.parent ≡ runs.proc
  same_parent = some_same (proc_of (procs_of old) pid) forked.parent runs.proc forked.parent_is runs.found

  -- the child is at its parent's call
  at_call : IsAtCall script forked.parent
  at_call = has_it (λ proc. proc.status ≡ None → IsAtCall script proc) (procs_of old) pid forked.parent kept.calls forked.parent_is (ap (λ p. p.status) same_parent ∙ runs.up)

  leaves_forked : HoldLeaves mid.heap.leaves (procs_of mid)
  leaves_forked = forked_all old.heap mid.heap old.procs mid.procs pid child kept.leaves forked copies

  pub kept_forked : AreKept script mid
  kept_forked =
      kept_with script (sharing old.heap mid.heap) old.procs old.tree old.names old.fifos old.locks mid (keeps_shared script old mid kept) tree names fifos locks moves leaves_forked
      (owners_shared script old mid runs.proc (child_proc forked.parent child forked.nodes forked.leaves) kept shared
      (subst (λ (p : Proc). HasCopies old.heap mid.heap p (child_proc forked.parent child forked.nodes forked.leaves)) same_parent copies) leaves_forked moves)
      (subst (AllByRecursion (λ proc. length proc.nodes ≡ 4)) (sym forked.processes_are)
      (all_append (λ proc. length proc.nodes ≡ 4) (procs_of old) (child_proc forked.parent child forked.nodes forked.leaves ∷ []) kept.groups (forked.groups, tt)))
      (subst (AreAtCalls script) (sym forked.processes_are)
      (all_append (λ proc. proc.status ≡ None → IsAtCall script proc) (procs_of old) (child_proc forked.parent child forked.nodes forked.leaves ∷ []) kept.calls
      ((λ up. record { stands = at_call.stands; rests = at_call.rests }), tt)))

  pub child_there : is_some (proc_of (procs_of mid) child) ≡ true
  child_there =
      ap (λ procs. is_some (proc_of procs child)) forked.processes_are
      ∙ somebody (procs_of old) (child_proc forked.parent child forked.nodes forked.leaves) child refl

  -- who made it was made before
  pub made_before : child ≡ old.procs.last + 1 → pid ≢ child
  made_before number same =
      let own : runs.proc.pid ≡ pid = proc_has_pid (procs_of old) pid runs.proc runs.found in
      let within : (0 < runs.proc.pid) × (runs.proc.pid ≤ old.procs.last) = has_it (λ p. (0 < p.pid) × (p.pid ≤ old.procs.last)) (procs_of old) pid runs.proc
      (pids_within old.heap.procs old.procs.listed 0 old.procs.last kept.holds.stored kept.holds.rising) runs.found in
      (let l : runs.proc.pid ≤ old.procs.last = within.1 in omega arith)

-- The child goes on at another control.
module _ (script : Script) (old mid moved : Objects) (pid child : ℕ) (control next : Control) (kept : AreKept script old) (runs : Runs old pid control)
    (moves : TableMoves (sharing old.heap mid.heap) old.procs mid.heap mid.procs) (tree : mid.tree ≡ old.tree) (names : mid.names ≡ old.names) (fifos : mid.fifos ≡ old.fifos) (locks : mid.locks ≡ old.locks) (shared : HasShared old mid runs.proc)
    (forked : IsForked old.heap old.procs mid.heap mid.procs pid child) (copies : HasCopies old.heap mid.heap forked.parent (child_proc forked.parent child forked.nodes forked.leaves))
    (number : child ≡ old.procs.last + 1) (turned : MovesOn mid child next moved) where
  pub between : AreKept script mid
  between = kept_forked script old mid pid child control kept runs moves tree names fifos locks shared forked copies

  abbrev pub now : Proc
  now = record turned.proc { control = next }

  abbrev pub made : Proc
  made = child_proc forked.parent child forked.nodes forked.leaves

  own : now.pid ≡ child
  own = proc_has_pid (procs_of mid) child turned.proc turned.found

  apart : pid ≢ child
  apart = made_before script old mid pid child control kept runs moves tree names fifos locks shared forked copies number

  pub kept_child : Stands script next → Rests script next → AreKept script moved
  kept_child stands rests = kept_moved script mid moved child next between turned stands rests

  -- who is found then
  found_then : (q : ℕ) → proc_of (procs_of moved) q ≡ option_map (replaced child now) (proc_of (procs_of old ++ made ∷ []) q)
  found_then q =
      ap (λ procs. proc_of procs q) (procs_then script mid moved child next between turned)
      ∙ replaced_at (procs_of mid) child now q own
      ∙ ap (λ procs. option_map (replaced child now) (proc_of procs q)) forked.processes_are

  -- the parent runs still
  pub runs_still : Runs moved pid control
  runs_still = record {
    proc = runs.proc;
    found = found_then pid
        ∙ ap (option_map (replaced child now)) (found_still (procs_of old) made pid runs.proc runs.found)
        ∙ ap (λ b. Some (cond b now runs.proc)) (eqb_other runs.proc.pid child (λ same. apart (sym (proc_has_pid (procs_of old) pid runs.proc runs.found) ∙ same)));
    up = runs.up;
    at_call = runs.at_call;
  }

  pub controls_then : (plain : Plain) → AreProcesses script old plain → settled script (after script (control_of plain pid) (Val (pos 0))) ≡ next
      → (q : ℕ) (it : Proc) → proc_of (procs_of moved) q ≡ Some it → it.status ≡ None → settled script (control_of (with_child script plain pid) q) ≡ it.control
  controls_then plain are leads q it found up =
      let was = mapped_from (replaced child now) (proc_of (procs_of old ++ made ∷ []) q) it (sym (found_then q) ∙ found) in
      let old_pid : was.0.pid ≡ q = proc_has_pid (procs_of old ++ made ∷ []) q was.0 was.1 in
      elim (eqb_tells q child) [
        | inl same ↦
            let last : q ≡ length plain.controls + 1 = (let n : child ≡ old.procs.last + 1 = number in let l : old.procs.last ≡ length plain.controls = are.last in let e : q ≡ child = same.1 in omega arith) in
            ap (settled script) (at_last plain.controls (after script (control_of plain pid) (Val (pos 0))) (at_start 0) q last)
            ∙ leads ∙ sym (ap (λ p. p.control) (was.2 ∙ ap (λ b. cond b now was.0) (eqb_same was.0.pid child (old_pid ∙ same.1))))
        | inr other ↦
            let same : it ≡ was.0 = was.2 ∙ ap (λ b. cond b now was.0) (eqb_other was.0.pid child (λ e. other.1 (sym old_pid ∙ e))) in
            elim (found_behind (procs_of old) made q was.0 was.1) [
              | inl there ↦
                  let before = proc_made script old plain q was.0 kept are there in
                  ap (settled script) (at_front plain.controls (after script (control_of plain pid) (Val (pos 0))) (at_start 0) q before.1)
                  ∙ are.controls q was.0 there (sym (ap (λ p. p.status) same) ∙ up) ∙ sym (ap (λ p. p.control) same)
              | inr last ↦ absurd (other.1 (sym last))
            ]
      ]

  -- the child has open what its parent has, and the machine's says so
  pub opens_forked : (files : Files) (account next : Account) → next.pipes ≡ account.pipes → next.sockets ≡ account.sockets → HaveFiles old files account → HaveFiles mid (with_heir files pid) next
  opens_forked files account next pipes sockets have =
      let opened = have.opened in
      record {
        numbers = have.numbers;
        opened = record {
          list = after_shares have.numbers.descs opened.list (numbers_in old.heap runs.proc);
          opened = open_on have.numbers (described old.heap (share_all old.heap.descs (numbers_in old.heap runs.proc))) mid.heap (after_shares have.numbers.descs opened.list (numbers_in old.heap runs.proc)) files (with_heir files pid)
              shared.descs (ap (λ (h : Heap). h.pipes) moves.kept) (ap (λ (h : Heap). h.socks) moves.kept) (ap (λ (h : Heap). h.chunks) moves.kept) refl refl refl
              (opened_all have.numbers old.heap opened.list files (numbers_in old.heap runs.proc) shared.can opened.opened);
          descriptors = by_pids mid.heap have.numbers.descs (procs_of mid) mid.procs.last (with_heir files pid)
              (have_forked old.heap mid.heap old.procs mid.procs pid child have.numbers.descs files kept.holds kept.leaves number forked copies
              (by_procs old.heap have.numbers.descs (procs_of old) old.procs.last files (rising_in script old kept) opened.descriptors));
        };
        fronts = record {
          pipes = λ key pipe is. ap (λ fronts. slice_index fronts (have.numbers.pipes key)) pipes
              ∙ have.fronts.pipes key pipe (sym (ap (λ (h : Heap). object h.pipes key) moves.kept) ∙ is);
          socks = λ key sock is. ap (λ fronts. slice_index fronts (have.numbers.socks key)) sockets
              ∙ have.fronts.socks key sock (sym (ap (λ (h : Heap). object h.socks key) moves.kept) ∙ is);
        };
        settled = settled_on files (with_heir files pid) account next refl refl pipes sockets have.settled;
      }

  -- the tree of files is the same
  pub tree_stays : TreeStays old moved
  tree_stays =
      let first = moved_caches (sharing old.heap mid.heap) mid.heap old.procs mid.procs moves in
      let then = moved_caches mid.heap moved.heap mid.procs moved.procs (moves_then script mid moved child next between turned) in
      record {
        tree = turned.tree ∙ tree;
        names = turned.names ∙ names;
        caches = caches_then old.heap mid.heap moved.heap (record { vnodes = first.vnodes; names = first.names; blocks = first.blocks; size = first.size }) then;
      }

  -- one more may hold the directory in which the parent works
  pub may_hold : (directory : ℕ) → directory ≡ runs.proc.cwd → directory ≢ root → (world : World) → StandsFor script old world → IsWellFormed old.heap
      → (tree : Tree) × (pins : ℕ → ℕ) × TreeStands moved.heap moved.tree tree pins × (0 < pins directory) × (pins directory < 4294967295)
  may_hold directory at other world stands whole = (
    world.plain.files.tree,
    pins_in world.plain,
    stands_where old moved world.plain.files.tree (pins_in world.plain) tree_stays stands.tree.stands,
    held,
    few_pins script old world stands whole directory,
  )
    where
      held : 0 < pins_in world.plain directory
      held =
          let all = held_by_procs old world.plain stands.processes.table directory in
          let works : 0 < others_by (procs_of old) directory =
          subst (λ n. 0 < others_by (procs_of old) n) (sym at) (holds_it pid (procs_of old) 0 runs.proc (rising_in script old kept) runs.found runs.up (λ same. other (at ∙ same))) in
          omega (arith, all, works)

-- The child holds the directory that it works in.
module _ (script : Script) (old mid moved pinned : Objects) (pid child directory : ℕ) (control next : Control) (kept : AreKept script old) (runs : Runs old pid control)
    (moves : TableMoves (sharing old.heap mid.heap) old.procs mid.heap mid.procs) (same_tree : mid.tree ≡ old.tree) (same_names : mid.names ≡ old.names) (same_fifos : mid.fifos ≡ old.fifos) (same_locks : mid.locks ≡ old.locks) (shared : HasShared old mid runs.proc)
    (forked : IsForked old.heap old.procs mid.heap mid.procs pid child) (copies : HasCopies old.heap mid.heap forked.parent (child_proc forked.parent child forked.nodes forked.leaves))
    (number : child ≡ old.procs.last + 1) (turned : MovesOn mid child next moved) (at : directory ≡ runs.proc.cwd) (only : OnlyPins moved pinned)
    (lets : (tree : Tree) (pins : ℕ → ℕ) → TreeStands moved.heap moved.tree tree pins → TreeStands pinned.heap pinned.tree tree (entered_pins pins directory)) where
  mid_kept : AreKept script mid
  mid_kept = between script old mid moved pid child control next kept runs moves same_tree same_names same_fifos same_locks shared forked copies number turned

  stays : TreeStays old moved
  stays = tree_stays script old mid moved pid child control next kept runs moves same_tree same_names same_fifos same_locks shared forked copies number turned

  abbrev heir : Proc
  heir = child_proc forked.parent child forked.nodes forked.leaves

  abbrev further : Proc
  further = record turned.proc { control = next }

  works_there : heir.cwd ≡ directory
  works_there = ap (λ (p : Proc). p.cwd) (same_parent script old mid pid child control kept runs moves same_tree same_names same_fifos same_locks shared forked copies) ∙ sym at

  runs_there : heir.status ≡ None
  runs_there = ap (λ (p : Proc). p.status) (same_parent script old mid pid child control kept runs moves same_tree same_names same_fifos same_locks shared forked copies) ∙ runs.up

  pub kept_pinned : Stands script next → Rests script next → AreKept script pinned
  kept_pinned stands rests =
      pinned_kept moved pinned only script (kept_child script old mid moved pid child control next kept runs moves same_tree same_names same_fifos same_locks shared forked copies number turned stands rests)
      (kept.caches.0, entered_pins kept.caches.1 directory, lets kept.caches.0 kept.caches.1 (stands_where old moved kept.caches.0 kept.caches.1 stays kept.caches.2))

  pub runs_pinned : Runs pinned pid control
  runs_pinned =
      let still = runs_still script old mid moved pid child control next kept runs moves same_tree same_names same_fifos same_locks shared forked copies number turned in
      record { proc = still.proc; found = ap (λ procs. proc_of procs pid) (pinned_procs moved pinned only) ∙ still.found; up = still.up; at_call = still.at_call }

  -- one more works in the tree
  module _ (world : World) (stands : StandsFor script old world) (table : Table) (before : IsTable mid.heap mid.procs table) (after : IsTable moved.heap moved.procs table) where
    abbrev tree : Tree
    tree = world.plain.files.tree

    abbrev files : Files
    files = world.plain.files

    directories : directories_in (procs_of pinned) ≡ directories_in (procs_of old ++ heir ∷ [])
    directories = ap directories_in (pinned_procs moved pinned only) ∙ sym (directories_from after.present) ∙ directories_from before.present ∙ ap directories_in forked.processes_are

    works_forked : AreDirectories tree (directories_in (procs_of pinned))
    works_forked =
        let works = works_in old tree world.plain.table stands.processes.table stands.works in
        subst (AreDirectories tree) (sym directories)
        (all_and (λ node. is_directory tree node ≡ true) (procs_of old) heir
        (subst (λ node. is_directory tree node ≡ true) (sym (works_there ∙ at)) (works_among (λ node. is_directory tree node ≡ true) (procs_of old) pid runs.proc works runs.found runs.up)) works)

    -- who holds what
    held_forked : (n : ℕ) → entered_pins (holders (others_by (procs_of old)) files) directory n ≡ holders (others_by (procs_of pinned)) (with_heir files pid) n
    held_forked n =
        let all = entered_others (others_by (procs_of old)) files directory n in
        let more : entered_pins (others_by (procs_of old)) directory n ≡ others_by (procs_of pinned) n =
        ap (λ d. entered_pins (others_by (procs_of old)) d n) (sym works_there) ∙ entered_by_one (procs_of old) heir runs_there n
        ∙ ap (λ nodes. count n (root ∷ but_root nodes)) (sym directories) in
        let opened : openings (with_heir files pid) n ≡ openings files n = ap (times n) (same_nodes (with_heir files pid) files files.descriptions (all_same (with_heir files pid) files files.descriptions refl)) in
        omega (arith, all, more, opened)

    tree_forked : (next : Plain) → next.files ≡ with_heir files pid → IsTable pinned.heap pinned.procs next.table → TreeStands pinned.heap pinned.tree tree (pins_in next)
    tree_forked next same is =
        same_pins pinned.heap pinned.tree tree (entered_pins (holders (others_by (procs_of old)) files) directory) (pins_in next)
        (λ n. held_forked n ∙ ap (λ (f : Files). holders (others_by (procs_of pinned)) f n) (sym same) ∙ sym (held_by_procs pinned next is n))
        (lets tree (holders (others_by (procs_of old)) files)
        (stands_where old moved tree (holders (others_by (procs_of old)) files) stays
        (same_pins old.heap old.tree tree (pins_in world.plain) (holders (others_by (procs_of old)) files) (held_by_procs old world.plain stands.processes.table) stands.tree.stands)))

  -- the objects stand for the world with the child
  pub stands_forked : (world : World) → StandsFor script old world → is_alive world.plain.table pid ≡ true
      → fork script world.plain pid ≡ replied script (with_child script world.plain pid) pid (Val (pos child))
      → Stands script next × Rests script next
      → IsTable mid.heap mid.procs (with_child script world.plain pid).table → HasAccount mid.heap mid.procs (after_fork world.account.frames pid)
      → settled script (after script (control_of world.plain pid) (Val (pos 0))) ≡ next
      → StandsFor script pinned (forked_world script world pid)
  stands_forked world stands alive answers at_call table has leads =
      let plain = world.plain in
      let family = kept_by script old world (with_child script plain pid) pid call.Fork (Val (pos child)) stands alive answers in
      let on : IsTable moved.heap moved.procs (with_child script plain pid).table =
      subst (λ k. IsTable moved.heap k (with_child script plain pid).table) (sym turned.same)
      (on-table mid.heap moved.heap mid.procs child turned.key turned.proc further mid_kept.holds turned.turns (with_child script plain pid).table refl refl table) in
      let is = pinned_table moved pinned only (with_child script plain pid).table on in
      let files = pinned_files moved pinned only (with_heir plain.files pid) (forked_world script world pid).account
      (files_moved mid moved (with_heir plain.files pid) (with_heir plain.files pid) (forked_world script world pid).account (forked_world script world pid).account
      (moves_then script mid moved child next mid_kept turned) refl refl refl refl refl
      (descriptors_moved script mid moved child next (with_heir plain.files pid) mid_kept turned at_call.0 at_call.1)
      (opens_forked script old mid moved pid child control next kept runs moves same_tree same_names same_fifos same_locks shared forked copies number turned plain.files world.account (forked_world script world pid).account refl refl stands.files)) in
      let caches = kept_then old.tree moved.tree pinned.tree (kept_where old moved stays) (pinned_stays moved pinned only) in
      record {
        valid = stands.valid;
        kept = kept_pinned at_call.0 at_call.1;
        processes = record {
          table = is;
          last = ap (λ k. k.last) only.procs ∙ ap (λ k. k.last) turned.same ∙ forked.last ∙ number ∙ ap (λ n. n + 1) stands.processes.last
              ∙ sym (length-append plain.controls (after script (control_of plain pid) (Val (pos 0)) ∷ []));
          controls = λ q it found up.
              controls_then script old mid moved pid child control next kept runs moves same_tree same_names same_fifos same_locks shared forked copies number turned plain stands.processes leads q it
              (ap (λ procs. proc_of procs q) (sym (pinned_procs moved pinned only)) ∙ found) up;
        };
        memory = pinned_account moved pinned only (after_fork world.account.frames pid)
            (subst (λ k. HasAccount moved.heap k (after_fork world.account.frames pid)) (sym turned.same)
            (on-account mid.heap moved.heap mid.procs child turned.key turned.proc further mid_kept.holds turned.turns (after_fork world.account.frames pid) has));
        files = files;
        locks = holds_on moved pinned (pinned_locks moved pinned only) plain.files.locks
            (holds_on mid moved (stay_moved mid moved (moves_then script mid moved child next mid_kept turned) turned.locks) plain.files.locks
            (holds_on old mid (record { shelf = ap (λ (h : Heap). h.locks) moves.kept; first = same_locks }) plain.files.locks stands.locks));
        tree = record {
          stands = tree_forked world stands (with_child script plain pid).table table on (with_child script plain pid) refl is;
          kept = stands.tree.kept ∙ sym caches.kept;
          reads = stands.tree.reads ∙ sym caches.reads;
        };
        family = family;
        works = works_worked pinned plain.files.tree (with_child script plain pid).table is (works_forked world stands (with_child script plain pid).table table on);
      }

  -- from each world to the one with the child, in which its parent is told the child's pid
  pub does_fork : (new : Objects) (told : Turned) → Stands script next → Rests script next → Ok child ≡ forked_as (length old.procs.listed) old.procs.last
      → ((table : Table) → IsTable old.heap old.procs table → IsTable mid.heap mid.procs (forked_in table pid (Ok child)))
      → ((frames : Frames) → HasAccount old.heap old.procs frames → HasAccount mid.heap mid.procs (after_fork frames pid))
      → ((before : Control) → settled script before ≡ control → settled script (after script before (Val (pos 0))) ≡ next)
      → told ≡ Done (Val (pos child)) → GoesOn script pinned pid (Val (pos child)) new
      → Performs script old pid call.Fork (λ plain. fork script plain pid) told new
  does_fork new told at_call rests answer table has leads tells goes = λ world stands alive.
      let plain = world.plain in
      let answers : fork script plain pid ≡ replied script (with_child script plain pid) pid (Val (pos child)) =
      fork_is script plain old.heap old.procs pid kept.holds stands.processes.table (sym stands.processes.last) ∙ ap (answered_fork script plain pid) (sym answer) in
      let with_it = stands_forked world stands alive answers (at_call, rests) (table plain.table stands.processes.table) (has world.account.frames stands.memory)
      (leads (control_of plain pid) (led_to script old plain pid control runs stands.processes)) in
      subst (λ answer. WorldAfter script new world pid call.Fork answer told) (sym answers)
      (led_on script pinned new world (forked_world script world pid) pid call.Fork (Val (pos child)) told with_it tells (goes (forked_world script world pid) with_it)
      refl refl refl refl refl)

-- From each world to itself, where nobody more can be made.
pub does_full : (script : Script) (old new : Objects) (pid : ℕ) (errno : Errno) (told : Turned)
    → Err errno ≡ forked_as (length old.procs.listed) old.procs.last → told ≡ Done (Fail errno) → GoesOn script old pid (Fail errno) new
    → Performs script old pid call.Fork (λ plain. fork script plain pid) told new
does_full script old new pid errno told answer tells goes =
    does_fail script old new pid call.Fork errno told (λ plain. fork script plain pid) tells goes
    (λ world stands.
    fork_is script world.plain old.heap old.procs pid stands.kept.holds stands.processes.table (sym stands.processes.last) ∙ ap (answered_fork script world.plain pid) (sym answer))
