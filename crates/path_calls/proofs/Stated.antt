-- A call that has looked along a path and tells what it saw leads to the world that its answer reaches.
use Rattle.std.proofs.Common.{◌≡◌, ℕ, ◌<◌, ◌&&◌, ◌||◌, Bool, true, false, cond, List, Option, None, Some, is_none, is_some, IsSome, Ok, Err, Result, refl, ap, sym, ◌∙◌, subst}
use Rattle.std.specs.Prelude.{IsOk}
use Rattle.std.specs.Option.{option_map}
use Rattle.kabi_types.specs.Arguments.{path_fault}
use Rattle.kabi_types.specs.PathParts.{components}
use Rattle.kabi_types.specs.declared.calls.Call.TheVariants as call
use Rattle.kabi_types.specs.declared.scripts.Script.{Script}
use Rattle.kabi_types.specs.declared.errnos.Errno.{Errno}
use Rattle.kabi_types.specs.declared.replies.Reply.{Reply}
use Rattle.kabi_types.specs.declared.replies.Reply.TheVariants.{Fail, Stat}
use Rattle.kabi_types.specs.declared.replies.StatInfo.{StatInfo}
use Rattle.kheap_slabs.specs.Purse.{Purse}
use Rattle.kheap_slabs.specs.declared.objects.Proc.{Proc}
use Rattle.kheap_slabs.specs.declared.objects.Vnode.{Vnode}
use Rattle.kheap_slabs.specs.Heap.{Heap}
use Rattle.cached_disk.specs.TreeLent.{AreReordered}
use Rattle.vnode_cache.specs.Nodes.{node_slot}
use Rattle.memfs_ops.specs.FileTree.{KeepsLed, KnowsWay, Looks, Stands, TreeView, in_call}
use Rattle.posix_defs.specs.Account.{account_on, with_frames}
use Rattle.posix_defs.specs.Answer.{replied}
use Rattle.posix_defs.specs.Calls.OnNames.{stat, told_of}
use Rattle.posix_defs.specs.Memory.{Frames}
use Rattle.posix_defs.specs.MemoryCalls.{frames_after}
use Rattle.posix_defs.specs.Needs.{need_of}
use Rattle.posix_defs.specs.PathCalls.{node_led, stat_found, stat_path}
use Rattle.posix_defs.specs.Paths.{IsLed, begins_at, ends_in_slash, is_absolute, resolve}
use Rattle.posix_defs.specs.Plain.{Plain, root}
use Rattle.posix_defs.specs.Process.{directory_of}
use Rattle.posix_defs.specs.Reaching.{IsLeft, ends_node, has_succeeded, is_reply, knows, last_of}
use Rattle.posix_defs.specs.Tree.{Tree, is_directory}
use Rattle.posix_defs.specs.World.{Kept, World}
use Rattle.posix_defs.specs.declared.turner.Turned.{Turned}
use Rattle.posix_defs.specs.declared.turner.Turned.TheVariants as turned
use Rattle.tree_laws.proofs.PathLeads.{path_led}
use Rattle.proc_table.specs.Procs.{proc_of}
use Rattle.store_objects.specs.declared.objects.Objects.{Objects}
use Rattle.store_objects.specs.Objects.{procs_of}
use Rattle.store_objects.specs.Standing.{StandsFor, answered_in}
use Rattle.store_objects.specs.Trees.{kept_by, pins_in}
use Rattle.store_objects.specs.Walking.{KeepsOn, Reaches, WorldReached}
use Rattle.store_objects.proofs.KeptNow.{named}
use Rattle.store_objects.proofs.Leading.{settled_account}
use Rattle.store_objects.proofs.Replies.{GoesOn}
use Rattle.store_objects.proofs.HoldsFiles.{works_in_directory}
use Rattle.path_calls.proofs.NamesKept.{walk_left}
use Rattle.path_calls.proofs.Walked.{KeepsFew, holds_directory, keeps_few, looked, mid, stands_mid, works_there}
use Rattle.path_calls.proofs.WaysKnown.{way}

never : {X : Type 0} → true ≡ false → X
never e = cc

-- ---- who is held is cached

held_slot : (h : Heap) (fs : TreeView) (tree : Tree) (pins : ℕ → ℕ) (number : ℕ) → Stands h fs tree pins → 0 < pins number → IsSome (node_slot fs.vnodes number)
held_slot h fs tree pins number stands some =
    let at = stands.held.held number some in
    ap is_some (stands.nodes.kept.only number at.0 (ap (option_map (λ (v : Vnode). v.number)) at.2 ∙ ap Some at.3))

-- a path begins at the root, or where its caller works
begins_held : (pins : ℕ → ℕ) (cwd : ℕ) (path : List ℕ) → 0 < pins root → 0 < pins cwd → 0 < pins (begins_at cwd path)
begins_held pins cwd path at_root here = go (is_absolute path)
  where
    go : (b : Bool) → 0 < pins (cond b root cwd)
    go true = at_root
    go false = here

-- all that a path asks for is cached where the world knows its way
pub knows_it : (h : Heap) (before : Purse) (fs : TreeView) (plain : Plain) (cwd : ℕ) (path : List ℕ) → Stands h fs plain.files.tree (pins_in plain) → 0 < pins_in plain cwd
    → knows plain.files.tree (kept_by fs) (begins_at cwd path) (components path) ≡ true → KnowsWay (in_call h before fs) plain.files.tree cwd path
knows_it h before fs plain cwd path stands here known =
    let it = way (in_call h before fs) plain.files.tree (kept_by fs).blocks (named h fs plain stands) (ends_in_slash path) (begins_at cwd path) (components path)
    (held_slot h fs plain.files.tree (pins_in plain) (begins_at cwd path) stands (begins_held (pins_in plain) cwd path stands.root here)) known in
    (it.questions, it.ends)

-- ---- the answer

-- a stat that is told has found a node
found_node : (tree : Tree) (led : Result ℕ Errno) (info : StatInfo) → Ok info ≡ stat_found tree led → IsOk led
found_node tree (Ok number) info e = refl
found_node tree (Err errno) info e = cc

-- the answer is a reply
unfoldable pub stat_reply : Result StatInfo Errno → Reply
stat_reply (Ok info) = Stat info
stat_reply (Err errno) = Fail errno

stat_told : (script : Script) (plain : Plain) (pid : ℕ) (o : Result StatInfo Errno) → told_of script plain pid o ≡ replied script plain pid (stat_reply o)
unfolding stat_reply
stat_told script plain pid (Ok info) = refl
stat_told script plain pid (Err errno) = refl

stat_frames : (frames : Frames) (pid : ℕ) (path : List ℕ) (o : Result StatInfo Errno) → frames_after frames pid (call.Stat path) (stat_reply o) ≡ frames
unfolding stat_reply
stat_frames frames pid path (Ok info) = refl
stat_frames frames pid path (Err errno) = refl

stat_is : (script : Script) (plain : Plain) (pid cwd : ℕ) (path : List ℕ) (o : Result StatInfo Errno) → directory_of plain.table pid ≡ cwd → o ≡ stat_path plain.files.tree cwd path
    → stat script plain pid path ≡ replied script plain pid (stat_reply o)
unfolding stat
stat_is script plain pid cwd path o works value =
    ap (λ dir. told_of script plain pid (stat_path plain.files.tree dir path)) works ∙ ap (told_of script plain pid) (sym value) ∙ stat_told script plain pid o

-- a name is left where it is no failure
stat_left : (tree : Tree) (fs : TreeView) (cwd : ℕ) (path : List ℕ) (o : Result StatInfo Errno) → o ≡ stat_path tree cwd path → IsLed tree (resolve tree cwd path)
    → KeepsLed fs (resolve tree cwd path) → is_reply (stat_reply o) ≡ true → IsLeft tree (kept_by fs) (last_of (resolve tree cwd path))
unfolding stat_reply
stat_left tree fs cwd path (Ok info) value led kept ok = walk_left tree fs (resolve tree cwd path) led kept (found_node tree (node_led (resolve tree cwd path)) info value)
stat_left tree fs cwd path (Err errno) value led kept ok = cc

module _ (script : Script) (old : Objects) (heap : Heap) (fs : TreeView) (before after : Purse) (looks : Looks old.heap heap before after old.tree fs)
    (pid cwd : ℕ) (path : List ℕ) (proc : Proc) (found : proc_of (procs_of old) pid ≡ Some proc) (up : proc.status ≡ None) (home : cwd ≡ proc.cwd)
    (right : path_fault path ≡ None) (needed : before.left ≡ need_of (call.Stat path)) (o : Result StatInfo Errno)
    (value : (tree : Tree) (pins : ℕ → ℕ) → Stands old.heap old.tree tree pins → o ≡ stat_path tree cwd path)
    (saved : (tree : Tree) (pins : ℕ → ℕ) → Stands old.heap old.tree tree pins → KnowsWay (in_call old.heap before old.tree) tree cwd path
    → AreReordered (in_call old.heap before old.tree) (in_call heap after fs))
    (left : (tree : Tree) (pins : ℕ → ℕ) → Stands old.heap old.tree tree pins → KeepsLed fs (resolve tree cwd path)) where
  keeps : (world : World) (told : Turned) → StandsFor script old world → told ≡ turned.Done (stat_reply o)
      → KeepsOn world pid (call.Stat path) told (answered_in script (looked script old heap fs looks.on.heap world) pid (stat_reply o))
  keeps world told stands tells = record {
    names = few.names;
    blocks = few.blocks;
    vnodes = few.vnodes;
    reads = few.reads;
    untouched = λ none.
        never (sym (ap (λ (fault : Option Errno). (is_none fault && true) || ends_node world.plain.files (answered_in script (looked script old heap fs looks.on.heap world) pid (stat_reply o)).plain.files) right) ∙ none);
    left = λ ok.
        subst (λ dir. IsLeft world.plain.files.tree (kept_by fs) (last_of (resolve world.plain.files.tree dir path))) (sym works)
        (stat_left world.plain.files.tree fs cwd path o (value world.plain.files.tree (pins_in world.plain) stands.tree.stands)
        (path_led world.plain.files.tree cwd path stands.tree.stands.is_tree (subst (λ dir. is_directory world.plain.files.tree dir ≡ true) (sym home) (works_in_directory script old world pid proc stands found up)))
        (left world.plain.files.tree (pins_in world.plain) stands.tree.stands) (sym (ap has_succeeded tells) ∙ ok));
    known = λ known.
        let knows_way = knows_it old.heap before old.tree world.plain cwd path stands.tree.stands (subst (λ n. 0 < pins_in world.plain n) (sym home) (holds_directory script old world pid proc stands found up))
        (subst (λ dir. knows world.plain.files.tree (kept_by old.tree) (begins_at dir path) (components path) ≡ true) works
        (subst (λ (kept : Kept). knows world.plain.files.tree kept (begins_at (directory_of world.plain.table pid) path) (components path) ≡ true) stands.tree.kept known)) in
        let same = saved world.plain.files.tree (pins_in world.plain) stands.tree.stands knows_way in
        ap (λ disk. disk.reads) same.disk ∙ sym stands.tree.reads;
  }
    where
      few : KeepsFew fs world (call.Stat path)
      few = keeps_few script old heap fs before after world (call.Stat path) world.plain.files.tree (pins_in world.plain) stands
          (looks.stands world.plain.files.tree (pins_in world.plain) stands.tree.stands) looks.on.paid looks.on.reads needed

      works : directory_of world.plain.table pid ≡ cwd
      works = works_there script old world pid proc stands found ∙ sym home

  pub does_stat : (new : Objects) (told : Turned) → told ≡ turned.Done (stat_reply o) → GoesOn script (mid script old heap fs looks.on.heap) pid (stat_reply o) new
      → Reaches script old pid (call.Stat path) (λ plain. stat script plain pid path) told new
  does_stat new told tells goes = λ world stands alive.
      let works : directory_of world.plain.table pid ≡ cwd = works_there script old world pid proc stands found ∙ sym home in
      let after_it = looked script old heap fs looks.on.heap world in
      subst (λ a. WorldReached script new world pid (call.Stat path) a told)
      (sym (stat_is script world.plain pid cwd path o works (value world.plain.files.tree (pins_in world.plain) stands.tree.stands)))
      (record {
        next = answered_in script after_it pid (stat_reply o);
        stands = goes after_it (stands_mid script old heap fs looks.on.heap world stands (looks.stands world.plain.files.tree (pins_in world.plain) stands.tree.stands));
        tells = (tells, refl);
        account = sym (settled_account script old world stands)
            ∙ ap (λ frames. account_on world.plain world.plain (with_frames world.account frames)) (sym (stat_frames world.account.frames pid path o));
        keeps = keeps world told stands tells;
      })
