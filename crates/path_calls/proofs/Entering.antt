-- A call that has its caller work elsewhere leads to the world that its answer reaches.
use Rattle.std.proofs.Common.{◌≡◌, ℕ, ◌<◌, ◌&&◌, ◌||◌, not, Bool, true, false, cond, List, Option, None, Some, is_none, Ok, Err, Result, pos, refl, ap, sym, ◌∙◌, subst}
use Rattle.std.specs.Prelude.{IsOk}
use Rattle.kabi_types.specs.Arguments.{path_fault}
use Rattle.kabi_types.specs.PathParts.{components}
use Rattle.kabi_types.specs.declared.calls.Call.TheVariants as call
use Rattle.kabi_types.specs.declared.scripts.Script.{Script}
use Rattle.kabi_types.specs.declared.errnos.Errno.{Errno}
use Rattle.kabi_types.specs.declared.errnos.Errno.TheVariants.{ENOTDIR}
use Rattle.kabi_types.specs.declared.replies.Reply.{Reply}
use Rattle.kabi_types.specs.declared.replies.Reply.TheVariants.{Fail, Val}
use Rattle.kheap_slabs.specs.Purse.{Purse}
use Rattle.kheap_slabs.specs.declared.objects.Proc.{Proc}
use Rattle.kheap_slabs.specs.Heap.{Heap}
use Rattle.memfs_ops.specs.FileTree.{KeepsLed, KnowsWay, Pays, Stands, TreeView, in_call, one_more}
use Rattle.disk_layout.specs.Disk.{Disk}
use Rattle.posix_defs.specs.Calls.OnNames.{chdir, works_from}
use Rattle.posix_defs.specs.Needs.{need_of}
use Rattle.posix_defs.specs.PathCalls.{enter_path, entered, node_led}
use Rattle.posix_defs.specs.Paths.{begins_at, resolve}
use Rattle.posix_defs.specs.Plain.{with_table}
use Rattle.posix_defs.specs.Process.{Table, directory_of, with_directory}
use Rattle.posix_defs.specs.Reaching.{IsLeft, ends_node, has_succeeded, is_reply, knows, last_of}
use Rattle.posix_defs.specs.Tree.{Tree, is_directory}
use Rattle.posix_defs.specs.World.{Kept, World}
use Rattle.posix_defs.specs.declared.turner.Turned.{Turned}
use Rattle.posix_defs.specs.declared.turner.Turned.TheVariants as turned
use Rattle.proc_table.specs.Procs.{proc_of}
use Rattle.tree_laws.proofs.PathLeads.{path_led}
use Rattle.store_objects.specs.declared.objects.Objects.{Objects}
use Rattle.store_objects.specs.Objects.{procs_of}
use Rattle.store_objects.specs.Standing.{HasEntered, StandsFor, answered_in, working_in}
use Rattle.store_objects.specs.Trees.{kept_by, pins_in}
use Rattle.store_objects.proofs.Leading.{settled_account}
use Rattle.store_objects.proofs.Replies.{GoesOn}
use Rattle.store_objects.specs.Walking.{KeepsOn, Reaches, WorldReached}
use Rattle.store_objects.proofs.HoldsFiles.{works_in_directory}
use Rattle.path_calls.proofs.NamesKept.{walk_left}
use Rattle.path_calls.proofs.Stated.{knows_it}
use Rattle.path_calls.proofs.Walked.{KeepsFew, entered_mid, holds_directory, keeps_few, looked, mid, stands_mid, works_there}

never : {X : Type 0} → true ≡ false → X
never e = cc

-- what was entered is a directory
is_entered : (tree : Tree) (led : Result ℕ Errno) (number : ℕ) → Ok number ≡ entered tree led → is_directory tree number ≡ true
is_entered tree (Err errno) number e = cc
is_entered tree (Ok at) number e = go (is_directory tree at) refl e
  where
    same : (o : Result ℕ Errno) → o ≡ Ok number → o ≡ Ok at → at ≡ number
    same o e f = cc

    go : (b : Bool) → is_directory tree at ≡ b → Ok number ≡ cond (not b) (Err ENOTDIR) (Ok at) → is_directory tree number ≡ true
    go true is e = subst (λ n. is_directory tree n ≡ true) (same (Ok number) refl e) is
    go false is e = cc

-- to which the walk has led
has_led : (tree : Tree) (led : Result ℕ Errno) (number : ℕ) → Ok number ≡ entered tree led → IsOk led
has_led tree (Ok at) number e = refl
has_led tree (Err errno) number e = cc

-- the caller works in a directory
pub works_in_one : (script : Script) (old : Objects) (pid cwd : ℕ) (proc : Proc) → proc_of (procs_of old) pid ≡ Some proc → proc.status ≡ None → cwd ≡ proc.cwd
    → (world : World) → StandsFor script old world → is_directory world.plain.files.tree cwd ≡ true
works_in_one script old pid cwd proc found up home world stands =
    subst (λ dir. is_directory world.plain.files.tree dir ≡ true) (sym home) (works_in_directory script old world pid proc stands found up)

-- The caches have gone on by a call of this caller that looked along a path and may have entered a directory.
module _ (script : Script) (old : Objects) (heap : Heap) (fs : TreeView) (before after : Purse) (pays : Pays old.heap heap before after old.tree fs)
    (pid cwd : ℕ) (path : List ℕ) (proc : Proc) (found : proc_of (procs_of old) pid ≡ Some proc) (up : proc.status ≡ None) (home : cwd ≡ proc.cwd)
    (right : path_fault path ≡ None) (needed : before.left ≡ need_of (call.Chdir path))
    (saved : (tree : Tree) (pins : ℕ → ℕ) → Stands old.heap old.tree tree pins → KnowsWay (in_call old.heap before old.tree) tree cwd path → fs.disk ≡ old.tree.disk)
    (left : (tree : Tree) (pins : ℕ → ℕ) → Stands old.heap old.tree tree pins → KeepsLed fs (resolve tree cwd path)) where
  works : (world : World) → StandsFor script old world → directory_of world.plain.table pid ≡ cwd
  works world stands = works_there script old world pid proc stands found ∙ sym home

  -- the world with what is kept now, the reads, and this table
  abbrev gone_on : World → Table → World
  gone_on world table = record world { plain = with_table world.plain table; kept = kept_by fs; reads = fs.disk.reads }

  keeps : (world : World) (table : Table) (said : Reply) (told : Turned) (pins : ℕ → ℕ) → StandsFor script old world → Stands heap fs world.plain.files.tree pins → told ≡ turned.Done said
      → (is_reply said ≡ true → IsOk (node_led (resolve world.plain.files.tree cwd path))) → KeepsOn world pid (call.Chdir path) told (answered_in script (gone_on world table) pid said)
  keeps world table said told pins stands now tells led = record {
    names = few.names;
    blocks = few.blocks;
    vnodes = few.vnodes;
    reads = few.reads;
    untouched = λ none.
        never (sym (ap (λ (fault : Option Errno). (is_none fault && true) || ends_node world.plain.files (answered_in script (gone_on world table) pid said).plain.files) right) ∙ none);
    left = λ ok.
        subst (λ dir. IsLeft tree (kept_by fs) (last_of (resolve tree dir path))) (sym (works world stands))
        (walk_left tree fs (resolve tree cwd path) (path_led tree cwd path stands.tree.stands.is_tree (works_in_one script old pid cwd proc found up home world stands)) (left tree (pins_in world.plain) stands.tree.stands)
        (led (sym (ap has_succeeded tells) ∙ ok)));
    known = λ known.
        let knows_way = knows_it old.heap before old.tree world.plain cwd path stands.tree.stands (subst (λ n. 0 < pins_in world.plain n) (sym home) (holds_directory script old world pid proc stands found up))
        (subst (λ dir. knows tree (kept_by old.tree) (begins_at dir path) (components path) ≡ true) (works world stands)
        (subst (λ (kept : Kept). knows tree kept (begins_at (directory_of world.plain.table pid) path) (components path) ≡ true) stands.tree.kept known)) in
        ap (λ (disk : Disk). disk.reads) (saved tree (pins_in world.plain) stands.tree.stands knows_way) ∙ sym stands.tree.reads;
  }
    where
      tree : Tree
      tree = world.plain.files.tree

      few : KeepsFew fs world (call.Chdir path)
      few = keeps_few script old heap fs before after world (call.Chdir path) tree pins stands now pays.paid pays.reads needed

  -- ---- where it is entered

  module _ (directory : ℕ) (value : (tree : Tree) (pins : ℕ → ℕ) → Stands old.heap old.tree tree pins → Ok directory ≡ enter_path tree cwd path)
      (held : (tree : Tree) (pins : ℕ → ℕ) → Stands old.heap old.tree tree pins → Stands heap fs tree (one_more pins directory)) where
    now : (world : World) → StandsFor script old world → Stands heap fs world.plain.files.tree (one_more (pins_in world.plain) directory)
    now world stands = held world.plain.files.tree (pins_in world.plain) stands.tree.stands

    pub has_entered : (world : World) → StandsFor script old world → HasEntered script (mid script old heap fs pays.only) (looked script old heap fs pays.only world) directory
    has_entered world stands =
        entered_mid script old heap fs pays.only world directory stands (now world stands)
        (is_entered world.plain.files.tree (node_led (resolve world.plain.files.tree cwd path)) directory (value world.plain.files.tree (pins_in world.plain) stands.tree.stands))

    pub does_enter : (moved new : Objects) (told : Turned)
        → ((world : World) → HasEntered script (mid script old heap fs pays.only) world directory → StandsFor script moved (working_in world pid directory))
        → told ≡ turned.Done (Val (pos 0)) → GoesOn script moved pid (Val (pos 0)) new
        → Reaches script old pid (call.Chdir path) (λ plain. chdir script plain pid path) told new
    unfolding chdir
    does_enter moved new told moves tells goes = λ world stands alive.
        let it = value world.plain.files.tree (pins_in world.plain) stands.tree.stands in
        let next = gone_on world (with_directory world.plain.table pid directory) in
        let between : StandsFor script moved next = moves (looked script old heap fs pays.only world) (has_entered world stands) in
        subst (λ dir. WorldReached script new world pid (call.Chdir path) (works_from script world.plain pid (enter_path world.plain.files.tree dir path)) told) (sym (works world stands))
        (subst (λ o. WorldReached script new world pid (call.Chdir path) (works_from script world.plain pid o) told) it
        (record {
          next = answered_in script next pid (Val (pos 0));
          stands = goes next between;
          tells = (tells, refl);
          account = sym (settled_account script moved next between);
          keeps = keeps world (with_directory world.plain.table pid directory) (Val (pos 0)) told (one_more (pins_in world.plain) directory) stands (now world stands) tells
              (λ ok. has_led world.plain.files.tree (node_led (resolve world.plain.files.tree cwd path)) directory it);
        }))

  -- ---- where the path has a fault

  pub does_refuse : (errno : Errno) (new : Objects) (told : Turned)
      → ((tree : Tree) (pins : ℕ → ℕ) → Stands old.heap old.tree tree pins → Err errno ≡ enter_path tree cwd path)
      → ((tree : Tree) (pins : ℕ → ℕ) → Stands old.heap old.tree tree pins → Stands heap fs tree pins)
      → told ≡ turned.Done (Fail errno) → GoesOn script (mid script old heap fs pays.only) pid (Fail errno) new
      → Reaches script old pid (call.Chdir path) (λ plain. chdir script plain pid path) told new
  unfolding chdir
  does_refuse errno new told value still tells goes = λ world stands alive.
      let it = value world.plain.files.tree (pins_in world.plain) stands.tree.stands in
      let at = still world.plain.files.tree (pins_in world.plain) stands.tree.stands in
      let next = gone_on world world.plain.table in
      subst (λ dir. WorldReached script new world pid (call.Chdir path) (works_from script world.plain pid (enter_path world.plain.files.tree dir path)) told) (sym (works world stands))
      (subst (λ o. WorldReached script new world pid (call.Chdir path) (works_from script world.plain pid o) told) it
      (record {
        next = answered_in script next pid (Fail errno);
        stands = goes next (stands_mid script old heap fs pays.only world stands at);
        tells = (tells, refl);
        account = sym (settled_account script old world stands);
        keeps = keeps world world.plain.table (Fail errno) told (pins_in world.plain) stands at tells (λ ok. never (sym ok));
      }))
