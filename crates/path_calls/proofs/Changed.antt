-- The objects of a store once a call has changed the tree of files: the caches and the disk are others, and the rest is as it was.
use Rattle.std.proofs.Common.{◌≡◌, ℕ, ◌==◌, ◌&&◌, ◌||◌, not, Bool, true, false, List, [], ◌∷◌, ◌++◌, length, Option, None, Some, is_none, slice_index_or, refl, ap, sym, ◌∙◌, subst}
use Rattle.std.specs.Prelude.{count_by}
use Rattle.std.specs.List.{list_any}
use Rattle.std.specs.Option.{option_and_then, option_map_or}
use Rattle.kabi_types.specs.Arguments.{argument_fault}
use Rattle.kabi_types.specs.PathParts.{components}
use Rattle.kabi_types.specs.declared.calls.Call.{Call}
use Rattle.kabi_types.specs.declared.scripts.Control.{Control}
use Rattle.kabi_types.specs.declared.scripts.Script.{Script}
use Rattle.kabi_types.specs.declared.errnos.Errno.{Errno}
use Rattle.kabi_types.specs.declared.replies.Reply.{Reply}
use Rattle.kheap_slabs.specs.Purse.{Purse}
use Rattle.kheap_slabs.specs.Heap.{Heap}
use Rattle.kheap_slabs.specs.Paid.{IsPaid, TakesNothing}
use Rattle.kheap_laws.proofs.PaidLemmas.{IsPaid-nothing, IsPaid-trans}
use Rattle.memfs_ops.specs.FileTree.{Pays, Stands, TreeView}
use Rattle.posix_defs.specs.Account.{account_on, with_frames}
use Rattle.posix_defs.specs.Answer.{Answer, replied}
use Rattle.posix_defs.specs.Calls.OnNames.{renamed}
use Rattle.posix_defs.specs.Calls.Opened.{opened_at}
use Rattle.posix_defs.specs.Files.Descriptions.{Descriptions, Target, OnNode, OnPipe, OnSocket}
use Rattle.posix_defs.specs.Files.State.{Files, beside, nodes_among, node_of, with_tree}
use Rattle.posix_defs.specs.Memory.{Frames}
use Rattle.posix_defs.specs.MemoryCalls.{frames_after}
use Rattle.posix_defs.specs.Needs.{need_of}
use Rattle.posix_defs.specs.Paths.{begins_at, resolve}
use Rattle.posix_defs.specs.Pipe.{Pipe, fifo_of}
use Rattle.posix_defs.specs.Plain.{Plain, root, with_files}
use Rattle.posix_defs.specs.Process.{directory_of}
use Rattle.posix_defs.specs.Reaching.{IsLeft, descriptors_in, ends_node, is_on_node, knows, last_of, path_to_leave, path_to_walk, paths_of, reaches_node}
use Rattle.posix_defs.specs.Tree.{Tree}
use Rattle.posix_defs.specs.World.{World, directories_of}
use Rattle.posix_defs.specs.declared.turner.Turned.{Turned}
use Rattle.posix_defs.specs.declared.turner.Turned.TheVariants as turned
use Rattle.proc_files.specs.Holders.{AreOpenNodes, HaveNamesBut}
use Rattle.store_objects.specs.declared.objects.Objects.{Objects}
use Rattle.store_objects.specs.Objects.{AreKept, Runs}
use Rattle.store_objects.specs.Standing.{StandsFor, answered_in}
use Rattle.store_objects.specs.Trees.{HasTree, KeepsTree, but_root, held_nodes, kept_by, pins_in}
use Rattle.store_objects.specs.Working.{AreDirectories}
use Rattle.store_objects.proofs.Beside.{stands_beside, treed_in}
use Rattle.store_objects.proofs.Leading.{settled_account}
use Rattle.store_objects.proofs.Replies.{GoesOn}
use Rattle.store_objects.proofs.TreesOn.{same_pins}
use Rattle.store_objects.specs.Walking.{KeepsOn, Reaches, WorldReached}
use Rattle.path_calls.proofs.Walked.{KeepsFew, keeps_few, kept_mid as kept_looked, runs_mid as runs_looked}

-- ---- what the calls on names have in common

-- A call names a path, leaves no name of it in the caches, walks none that it knows, and leaves memory.
pub record ChangesNames (which : Call) : Type 0 where
  pub named : not (length (paths_of which) == 0) ≡ true
  pub leaves : (plain : Plain) (pid : ℕ) → path_to_leave plain pid which ≡ None
  pub walks : path_to_walk which ≡ None
  pub frames : (frames : Frames) (pid : ℕ) (said : Reply) → frames_after frames pid which said ≡ frames

-- ---- another tree opens the same nodes

-- the machine with another tree
abbrev pub retreed_as : Plain → Tree → Plain
retreed_as plain tree = with_files plain (with_tree plain.files tree)

same_node : (files now : Files) → now.pipes ≡ files.pipes → (target : Target) → node_of now target ≡ node_of files target
same_node files now pipes (OnNode number) = refl
same_node files now pipes (OnPipe place) = ap (λ (list : List (Option Pipe)). option_and_then fifo_of (slice_index_or list place None)) pipes
same_node files now pipes (OnSocket place) = refl

pub same_opened : (files now : Files) → now.pipes ≡ files.pipes → (descriptions : Descriptions) → nodes_among now descriptions ≡ nodes_among files descriptions
same_opened files now pipes [] = refl
same_opened files now pipes (None ∷ descriptions) = same_opened files now pipes descriptions
same_opened files now pipes (Some description ∷ descriptions) =
    ap (λ o. beside o (nodes_among now descriptions)) (same_node files now pipes description.target)
    ∙ ap (beside (node_of files description.target)) (same_opened files now pipes descriptions)

held_still : (plain : Plain) (tree : Tree) → held_nodes (retreed_as plain tree) ≡ held_nodes plain
held_still plain tree =
    ap (λ opened. root ∷ opened ++ but_root (directories_of plain.table)) (same_opened plain.files (with_tree plain.files tree) refl plain.files.descriptions)

pub stands_still : (h : Heap) (fs : TreeView) (plain : Plain) (tree : Tree) → Stands h fs tree (pins_in plain) → Stands h fs tree (pins_in (retreed_as plain tree))
stands_still h fs plain tree =
    same_pins h fs tree (pins_in plain) (pins_in (retreed_as plain tree)) (λ number. ap (counted number) (sym (held_still plain tree)))
  where
    counted : ℕ → List ℕ → ℕ
    counted number nodes = count_by (λ node. node == number) nodes

-- ---- once the tree has changed

-- With this heap and this tree of files the store stands for a tree, by which a call of a process is answered so.
pub record Led (script : Script) (h : Heap) (fs : TreeView) (plain : Plain) (pid : ℕ) (said : Reply) (answer : Answer) : Type 0 where
  pub tree : Tree
  pub stands : Stands h fs tree (pins_in plain)
  pub works : AreDirectories tree (directories_of plain.table)
  pub answers : answer ≡ replied script (retreed_as plain tree) pid said

-- The same of a call that may have freed a socket's name: whoever was bound to that keeps none. What is open is open as it may be,
-- and all others that are bound are bound to a name.
pub record Freed (script : Script) (h : Heap) (fs : TreeView) (plain : Plain) (pid : ℕ) (said : Reply) (freed : Option ℕ) (answer : Answer) : Type 0 where
  pub tree : Tree
  pub stands : Stands h fs tree (pins_in plain)
  pub works : AreDirectories tree (directories_of plain.table)
  pub nodes : AreOpenNodes (with_tree plain.files tree)
  pub names : HaveNamesBut freed (with_tree plain.files tree)
  pub answers : answer ≡ replied script (with_files plain (renamed plain.files freed tree)) pid said

never : {X : Type 0} → true ≡ false → X
never e = cc

-- a call without a fault that names a path reaches a node
reached : (fault : Option Errno) (paths more ends : Bool) → fault ≡ None → paths ≡ true → ((is_none fault && (paths || more)) || ends) ≡ true
reached fault paths more ends right named = ap (λ f. (is_none f && (paths || more)) || ends) right ∙ ap (λ p. (p || more) || ends) named

module _ (script : Script) (old : Objects) (heap : Heap) (fs : TreeView) (before after : Purse) (pays : Pays old.heap heap before after old.tree fs) where
  abbrev pub mid : Objects
  mid = record { heap = heap; procs = old.procs; tree = fs; names = old.names; fifos = old.fifos; locks = old.locks }

  pub kept_mid : KeepsTree heap fs → AreKept script old → AreKept script mid
  kept_mid keeps kept = kept_looked script old heap fs pays.only keeps kept

  pub runs_mid : (pid : ℕ) (control : Control) → Runs old pid control → Runs mid pid control
  runs_mid pid control runs = runs_looked script old heap fs pays.only pid control runs

  -- the world with that tree, what is kept now, and the reads
  abbrev pub changed : World → Tree → World
  changed world tree = treed_in world tree (kept_by fs) fs.disk.reads

  pub stands_mid : (world : World) (tree : Tree) → StandsFor script old world → Stands heap fs tree (pins_in world.plain)
      → AreDirectories tree (directories_of world.plain.table) → StandsFor script mid (changed world tree)
  stands_mid world tree was stands works =
      let has : HasTree mid (changed world tree) =
      record { stands = stands_still heap fs world.plain tree stands; kept = refl; reads = refl } in
      subst (λ (h : Heap). StandsFor script (record { heap = h; procs = old.procs; tree = fs; names = old.names; fifos = old.fifos; locks = old.locks }) (changed world tree)) (sym pays.only)
      (stands_beside script old heap.vnodes heap.names heap.blocks heap.high old.heap.marks old.heap.last_high fs world tree (kept_by fs) fs.disk.reads was works
      (subst (λ (h : Heap). HasTree (record { heap = h; procs = old.procs; tree = fs; names = old.names; fifos = old.fifos; locks = old.locks }) (changed world tree)) pays.only has))

  -- it is paid for, and the step behind the call takes nothing more
  pub paid_on : (new : Heap) → TakesNothing heap new → IsPaid old.heap before new after
  paid_on new takes = IsPaid-trans old.heap before heap after new after pays.paid (IsPaid-nothing heap new after after takes refl refl)

  module _ (pid : ℕ) (which : Call) (changes : ChangesNames which) (right : argument_fault which ≡ None) (needed : before.left ≡ need_of which) where
    -- what is kept and read goes on as it may, whatever the machine becomes
    pub keeps_on : (world : World) (tree : Tree) (next : Plain) (told : Turned) → StandsFor script old world → Stands heap fs tree (pins_in world.plain)
        → KeepsOn world pid which told (record (changed world tree) { plain = next })
    keeps_on world tree next told was stands = record {
      names = kept.names;
      blocks = kept.blocks;
      vnodes = kept.vnodes;
      reads = kept.reads;
      untouched = λ none. never (sym reaches ∙ none);
      left = λ ok.
          subst (λ path. IsLeft next.files.tree (kept_by fs) (option_and_then (λ p. last_of (resolve world.plain.files.tree (directory_of world.plain.table pid) p)) path)) (sym (changes.leaves world.plain pid)) tt;
      known = λ known.
          never (sym known
          ∙ ap (λ o. option_map_or (λ path. knows world.plain.files.tree world.kept (begins_at (directory_of world.plain.table pid) path) (components path)) o false) changes.walks);
    }
      where
        kept : KeepsFew fs world which
        kept = keeps_few script old heap fs before after world which tree (pins_in world.plain) was stands pays.paid pays.reads needed

        reaches : reaches_node world.plain pid which next ≡ true
        reaches =
            reached (argument_fault which) (not (length (paths_of which) == 0)) (list_any (λ fd. is_on_node world.plain.files (opened_at world.plain.files pid fd)) (descriptors_in which))
            (ends_node world.plain.files next.files) right changes.named

    -- so the world is reached to which the answer leads
    pub leads : (said : Reply) (told : Turned) (new : Objects) (answer : Plain → Answer) → told ≡ turned.Done said → GoesOn script mid pid said new
        → ((world : World) → StandsFor script old world → Led script heap fs world.plain pid said (answer world.plain)) → Reaches script old pid which answer told new
    leads said told new answer tells goes led = λ world was alive.
        let at = led world was in
        let next = changed world at.tree in
        subst (λ a. WorldReached script new world pid which a told) (sym at.answers)
        (record {
          next = answered_in script next pid said;
          stands = goes next (stands_mid world at.tree was at.stands at.works);
          tells = (tells, refl);
          account = sym (settled_account script old world was)
              ∙ ap (λ frames. account_on world.plain world.plain (with_frames world.account frames)) (sym (changes.frames world.account.frames pid said));
          keeps = keeps_on world at.tree (answered_in script next pid said).plain told was at.stands;
        })
