-- What each call on names is answered, by what the tree of files answered.
use Rattle.std.proofs.Common.{◌≡◌, ℕ, Bool, true, List, Option, None, Some, Result, Ok, Err, refl, ap, sym, ◌∙◌, subst}
use Rattle.kabi_types.specs.declared.calls.Call.TheVariants as call
use Rattle.kabi_types.specs.declared.scripts.Script.{Script}
use Rattle.kabi_types.specs.declared.errnos.Errno.{Errno}
use Rattle.kabi_types.specs.declared.replies.Reply.{Reply}
use Rattle.kabi_types.specs.declared.replies.Reply.TheVariants as reply
use Rattle.kheap_slabs.specs.Heap.{Heap}
use Rattle.machine_laws.proofs.NodesAfter.{Turns, link_path_turns, mkdir_turns, mkfifo_turns, rename_path_turns, rmdir_turns, unlink_path_turns}
use Rattle.memfs_ops.specs.Changing.{ChangedTo, DoneAs}
use Rattle.memfs_ops.specs.FileTree.{Stands, TreeView}
use Rattle.memfs_ops.specs.Removing.{TellsHeld, TellsOpened, ToldTo}
use Rattle.posix_defs.specs.Answer.{Answer, failed, replied}
use Rattle.posix_defs.specs.Calls.OnNames.{freed_in, is_busy, link, made_node, mkdir, mkfifo, rename, renamed, retreed, rmdir, unlink}
use Rattle.posix_defs.specs.Files.State.{opens}
use Rattle.posix_defs.specs.IsTree.{IsTree}
use Rattle.posix_defs.specs.Memory.{Frames}
use Rattle.posix_defs.specs.MemoryCalls.{frames_after}
use Rattle.posix_defs.specs.PathCalls.{link_path, mkdir_path, mkfifo_path, rename_path, rmdir_path, unlink_path}
use Rattle.posix_defs.specs.Plain.{Plain, with_files}
use Rattle.posix_defs.specs.Process.{directory_of}
use Rattle.posix_defs.specs.Tree.{Tree, is_directory}
use Rattle.posix_defs.specs.World.{World, directories_of}
use Rattle.proc_table.specs.Procs.{proc_of}
use Rattle.kheap_slabs.specs.declared.objects.Proc.{Proc}
use Rattle.store_objects.specs.declared.objects.Objects.{Objects}
use Rattle.store_objects.specs.Objects.{procs_of}
use Rattle.store_objects.specs.Standing.{IsSound, StandsFor}
use Rattle.store_objects.specs.Trees.{KeepsTree, pins_in}
use Rattle.store_objects.specs.Working.{AreDirectories}
use Rattle.store_objects.proofs.HoldsFiles.{works_in_directory}
use Rattle.path_calls.proofs.Walked.{works_there}
use Rattle.path_calls.specs.Replies.{done_reply, freed_node, freed_reply}
use Rattle.path_calls.proofs.Busy.{tells_held, tells_opened}
use Rattle.path_calls.proofs.WorkedOn.{works_after}
use Rattle.path_calls.proofs.Changed.{ChangesNames, Freed, Led, retreed_as}
use Rattle.path_calls.proofs.OpenAfter.{names_after, nodes_after}

-- ---- they leave memory

pub mkdir_changes : (path : List ℕ) → ChangesNames (call.Mkdir path)
mkdir_changes path = record { named = refl; leaves = λ plain pid. refl; walks = refl; frames = same }
  where
    same : (frames : Frames) (pid : ℕ) (said : Reply) → frames_after frames pid (call.Mkdir path) said ≡ frames
    same frames pid (reply.Val value) = refl
    same frames pid _ = refl

pub mkfifo_changes : (path : List ℕ) → ChangesNames (call.Mkfifo path)
mkfifo_changes path = record { named = refl; leaves = λ plain pid. refl; walks = refl; frames = same }
  where
    same : (frames : Frames) (pid : ℕ) (said : Reply) → frames_after frames pid (call.Mkfifo path) said ≡ frames
    same frames pid (reply.Val value) = refl
    same frames pid _ = refl

pub rmdir_changes : (path : List ℕ) → ChangesNames (call.Rmdir path)
rmdir_changes path = record { named = refl; leaves = λ plain pid. refl; walks = refl; frames = same }
  where
    same : (frames : Frames) (pid : ℕ) (said : Reply) → frames_after frames pid (call.Rmdir path) said ≡ frames
    same frames pid (reply.Val value) = refl
    same frames pid _ = refl

pub unlink_changes : (path : List ℕ) → ChangesNames (call.Unlink path)
unlink_changes path = record { named = refl; leaves = λ plain pid. refl; walks = refl; frames = same }
  where
    same : (frames : Frames) (pid : ℕ) (said : Reply) → frames_after frames pid (call.Unlink path) said ≡ frames
    same frames pid (reply.Val value) = refl
    same frames pid _ = refl

pub link_changes : (old new : List ℕ) → ChangesNames (call.Link old new)
link_changes old new = record { named = refl; leaves = λ plain pid. refl; walks = refl; frames = same }
  where
    same : (frames : Frames) (pid : ℕ) (said : Reply) → frames_after frames pid (call.Link old new) said ≡ frames
    same frames pid (reply.Val value) = refl
    same frames pid _ = refl

pub rename_changes : (old new : List ℕ) → ChangesNames (call.Rename old new)
rename_changes old new = record { named = refl; leaves = λ plain pid. refl; walks = refl; frames = same }
  where
    same : (frames : Frames) (pid : ℕ) (said : Reply) → frames_after frames pid (call.Rename old new) said ≡ frames
    same frames pid (reply.Val value) = refl
    same frames pid _ = refl

-- ---- the answers

module _ (script : Script) (h : Heap) (fs : TreeView) (plain : Plain) (pid : ℕ) (said : Reply) where
  -- everybody works in a directory of this tree
  abbrev Worked : Tree → Type 0
  Worked tree = AreDirectories tree (directories_of plain.table)

  -- where a node is made
  made_led : (led : Result (ℕ × Tree) Errno) (done : Result (Unit {0}) Errno) → said ≡ done_reply done
      → Worked plain.files.tree → ((made : ℕ) (next : Tree) → led ≡ Ok (made, next) → Worked next) → DoneAs h fs plain.files.tree led (pins_in plain) done → Led script h fs plain pid said (made_node script plain pid led)
  made_led (Ok (made, next)) done is works still at = record {
    tree = next;
    stands = at.1;
    works = still made next refl;
    answers = ap (replied script (retreed_as plain next) pid) (sym (is ∙ ap done_reply at.0));
  }
  made_led (Err errno) done is works still at = record {
    tree = plain.files.tree;
    stands = at.1;
    works = works;
    answers = ap (replied script plain pid) (sym (is ∙ ap done_reply at.0));
  }

  -- where the tree alone is other
  left_led : (led : Result Tree Errno) (done : Result (Unit {0}) Errno) → said ≡ done_reply done
      → Worked plain.files.tree → ((next : Tree) → led ≡ Ok next → Worked next) → ChangedTo h fs plain.files.tree led (pins_in plain) done → Led script h fs plain pid said (retreed script plain pid led)
  left_led (Ok next) done is works still at = record {
    tree = next;
    stands = at.1;
    works = still next refl;
    answers = ap (replied script (retreed_as plain next) pid) (sym (is ∙ ap done_reply at.0));
  }
  left_led (Err errno) done is works still at = record {
    tree = plain.files.tree;
    stands = at.1;
    works = works;
    answers = ap (replied script plain pid) (sym (is ∙ ap done_reply at.0));
  }

  -- where a name of a socket may have gone
  freed_led : IsSound plain → (led : Result (Option ℕ × Tree) Errno) (done : Result (Option ℕ) Errno) (told : Option ℕ) → said ≡ freed_reply done → told ≡ freed_node done
      → Worked plain.files.tree → ((freed : Option ℕ) (next : Tree) → led ≡ Ok (freed, next) → Turns plain.files.tree next (opens plain.files) (is_busy plain) freed)
      → ToldTo h fs plain.files.tree led (pins_in plain) done → Freed script h fs plain pid said told (freed_in script plain pid led)
  freed_led sound (Ok (freed, next)) done told is named works still at =
      subst (λ (o : Option ℕ). Freed script h fs plain pid said o (freed_in script plain pid (Ok (freed, next)))) (sym (named ∙ ap freed_node at.0))
      (record {
        tree = next;
        stands = at.1;
        works = works_after plain next (opens plain.files) freed (still freed next refl) works;
        nodes = nodes_after plain sound next freed (still freed next refl);
        names = names_after plain sound next freed (still freed next refl);
        answers = ap (replied script (with_files plain (renamed plain.files freed next)) pid) (sym (is ∙ ap freed_reply at.0));
      })
  freed_led sound (Err errno) done told is named works still at =
      subst (λ (o : Option ℕ). Freed script h fs plain pid said o (failed script plain pid errno)) (sym (named ∙ ap freed_node at.0))
      (record {
        tree = plain.files.tree;
        stands = at.1;
        works = works;
        nodes = sound.nodes;
        names = sound.names;
        answers = ap (replied script plain pid) (sym (is ∙ ap freed_reply at.0));
      })

  module _ (cwd : ℕ) (works : directory_of plain.table pid ≡ cwd)
      (is_tree : IsTree plain.files.tree) (here : is_directory plain.files.tree cwd ≡ true) (worked : AreDirectories plain.files.tree (directories_of plain.table)) where
    abbrev tree : Tree
    tree = plain.files.tree

    pub mkdir_led : (path : List ℕ) (done : Result (Unit {0}) Errno) → said ≡ done_reply done → DoneAs h fs tree (mkdir_path tree cwd path) (pins_in plain) done
        → Led script h fs plain pid said (mkdir script plain pid path)
    unfolding mkdir
    mkdir_led path done is at =
        subst (λ dir. Led script h fs plain pid said (made_node script plain pid (mkdir_path tree dir path))) (sym works)
        (made_led (mkdir_path tree cwd path) done is worked
        (λ made next told. works_after plain next (opens plain.files) None (mkdir_turns tree cwd path made next (opens plain.files) (is_busy plain) told) worked) at)

    pub mkfifo_led : (path : List ℕ) (done : Result (Unit {0}) Errno) → said ≡ done_reply done → DoneAs h fs tree (mkfifo_path tree cwd path) (pins_in plain) done
        → Led script h fs plain pid said (mkfifo script plain pid path)
    unfolding mkfifo
    mkfifo_led path done is at =
        subst (λ dir. Led script h fs plain pid said (made_node script plain pid (mkfifo_path tree dir path))) (sym works)
        (made_led (mkfifo_path tree cwd path) done is worked
        (λ made next told. works_after plain next (opens plain.files) None (mkfifo_turns tree cwd path made next (opens plain.files) (is_busy plain) told) worked) at)

    pub rmdir_led : (path : List ℕ) (done : Result (Unit {0}) Errno) → said ≡ done_reply done
        → ChangedTo h fs tree (rmdir_path tree cwd path (is_busy plain)) (pins_in plain) done → Led script h fs plain pid said (rmdir script plain pid path)
    unfolding rmdir
    rmdir_led path done is at =
        subst (λ dir. Led script h fs plain pid said (retreed script plain pid (rmdir_path tree dir path (is_busy plain)))) (sym works)
        (left_led (rmdir_path tree cwd path (is_busy plain)) done is worked
        (λ next told. works_after plain next (opens plain.files) None (rmdir_turns tree cwd path (is_busy plain) (opens plain.files) next is_tree here told) worked) at)

    pub link_led : (old new : List ℕ) (done : Result (Unit {0}) Errno) → said ≡ done_reply done → ChangedTo h fs tree (link_path tree cwd old new) (pins_in plain) done
        → Led script h fs plain pid said (link script plain pid old new)
    unfolding link
    link_led old new done is at =
        subst (λ dir. Led script h fs plain pid said (retreed script plain pid (link_path tree dir old new))) (sym works)
        (left_led (link_path tree cwd old new) done is worked
        (λ next told. works_after plain next (opens plain.files) None (link_path_turns tree cwd old new next (opens plain.files) (is_busy plain) told) worked) at)

    pub unlink_led : IsSound plain → (path : List ℕ) (done : Result (Option ℕ) Errno) (freed : Option ℕ) → said ≡ freed_reply done → freed ≡ freed_node done
        → ToldTo h fs tree (unlink_path tree cwd path (opens plain.files)) (pins_in plain) done → Freed script h fs plain pid said freed (unlink script plain pid path)
    unfolding unlink
    unlink_led sound path done freed is named at =
        subst (λ dir. Freed script h fs plain pid said freed (freed_in script plain pid (unlink_path tree dir path (opens plain.files)))) (sym works)
        (freed_led sound (unlink_path tree cwd path (opens plain.files)) done freed is named worked
        (λ gone next told. unlink_path_turns tree cwd path (opens plain.files) (is_busy plain) gone next is_tree here told) at)

    pub rename_led : IsSound plain → (old new : List ℕ) (done : Result (Option ℕ) Errno) (freed : Option ℕ) → said ≡ freed_reply done → freed ≡ freed_node done
        → ToldTo h fs tree (rename_path tree cwd old new (opens plain.files) (is_busy plain)) (pins_in plain) done
        → Freed script h fs plain pid said freed (rename script plain pid old new)
    unfolding rename
    rename_led sound old new done freed is named at =
        subst (λ dir. Freed script h fs plain pid said freed (freed_in script plain pid (rename_path tree dir old new (opens plain.files) (is_busy plain)))) (sym works)
        (freed_led sound (rename_path tree cwd old new (opens plain.files) (is_busy plain)) done freed is named worked
        (λ gone next told. rename_path_turns tree cwd old new (opens plain.files) (is_busy plain) gone next is_tree here told) at)

-- ---- in each world

-- so the store stands for some tree
pub freed_keeps : {script : Script} {h : Heap} {fs : TreeView} {plain : Plain} {pid : ℕ} {said : Reply} {freed : Option ℕ} {answer : Answer}
    → Freed script h fs plain pid said freed answer → KeepsTree h fs
freed_keeps {plain = plain} led = (led.tree, pins_in plain, led.stands)

pub led_keeps : {script : Script} {h : Heap} {fs : TreeView} {plain : Plain} {pid : ℕ} {said : Reply} {answer : Answer} → Led script h fs plain pid said answer → KeepsTree h fs
led_keeps {plain = plain} led = (led.tree, pins_in plain, led.stands)

-- The caller works in a directory.
module _ (script : Script) (old : Objects) (pid cwd : ℕ) (proc : Proc) (found : proc_of (procs_of old) pid ≡ Some proc) (up : proc.status ≡ None) (home : cwd ≡ proc.cwd) where
  works : (world : World) → StandsFor script old world → directory_of world.plain.table pid ≡ cwd
  works world stands = works_there script old world pid proc stands found ∙ sym home

  pub at_directory : (world : World) → StandsFor script old world → is_directory world.plain.files.tree cwd ≡ true
  at_directory world stands = subst (λ dir. is_directory world.plain.files.tree dir ≡ true) (sym home) (works_in_directory script old world pid proc stands found up)

  module _ (heap : Heap) (fs : TreeView) (said : Reply) where
    pub mkdir_leads : (path : List ℕ) (done : Result (Unit {0}) Errno) → said ≡ done_reply done
        → ((tree : Tree) (pins : ℕ → ℕ) → Stands old.heap old.tree tree pins → DoneAs heap fs tree (mkdir_path tree cwd path) pins done)
        → (world : World) → StandsFor script old world → Led script heap fs world.plain pid said (mkdir script world.plain pid path)
    mkdir_leads path done is answer world stands =
        mkdir_led script heap fs world.plain pid said cwd (works world stands) stands.tree.stands.is_tree (at_directory world stands) stands.works path done is
        (answer world.plain.files.tree (pins_in world.plain) stands.tree.stands)

    pub mkfifo_leads : (path : List ℕ) (done : Result (Unit {0}) Errno) → said ≡ done_reply done
        → ((tree : Tree) (pins : ℕ → ℕ) → Stands old.heap old.tree tree pins → DoneAs heap fs tree (mkfifo_path tree cwd path) pins done)
        → (world : World) → StandsFor script old world → Led script heap fs world.plain pid said (mkfifo script world.plain pid path)
    mkfifo_leads path done is answer world stands =
        mkfifo_led script heap fs world.plain pid said cwd (works world stands) stands.tree.stands.is_tree (at_directory world stands) stands.works path done is
        (answer world.plain.files.tree (pins_in world.plain) stands.tree.stands)

    pub rmdir_leads : (path : List ℕ) (done : Result (Unit {0}) Errno) → said ≡ done_reply done
        → ((tree : Tree) (pins : ℕ → ℕ) (held : ℕ → Bool) → Stands old.heap old.tree tree pins → TellsHeld pins held
        → ChangedTo heap fs tree (rmdir_path tree cwd path held) pins done)
        → (world : World) → StandsFor script old world → Led script heap fs world.plain pid said (rmdir script world.plain pid path)
    rmdir_leads path done is answer world stands =
        rmdir_led script heap fs world.plain pid said cwd (works world stands) stands.tree.stands.is_tree (at_directory world stands) stands.works path done is
        (answer world.plain.files.tree (pins_in world.plain) (is_busy world.plain) stands.tree.stands (tells_held world.plain))

    pub link_leads : (from to : List ℕ) (done : Result (Unit {0}) Errno) → said ≡ done_reply done
        → ((tree : Tree) (pins : ℕ → ℕ) → Stands old.heap old.tree tree pins → ChangedTo heap fs tree (link_path tree cwd from to) pins done)
        → (world : World) → StandsFor script old world → Led script heap fs world.plain pid said (link script world.plain pid from to)
    link_leads from to done is answer world stands =
        link_led script heap fs world.plain pid said cwd (works world stands) stands.tree.stands.is_tree (at_directory world stands) stands.works from to done is
        (answer world.plain.files.tree (pins_in world.plain) stands.tree.stands)

    pub unlink_leads : (path : List ℕ) (done : Result (Option ℕ) Errno) (freed : Option ℕ) → said ≡ freed_reply done → freed ≡ freed_node done
        → ((tree : Tree) (pins : ℕ → ℕ) (opened : ℕ → Bool) → Stands old.heap old.tree tree pins → TellsOpened tree pins opened
        → ToldTo heap fs tree (unlink_path tree cwd path opened) pins done)
        → (world : World) → StandsFor script old world → IsSound world.plain → Freed script heap fs world.plain pid said freed (unlink script world.plain pid path)
    unlink_leads path done freed is named answer world stands sound =
        unlink_led script heap fs world.plain pid said cwd (works world stands) stands.tree.stands.is_tree (at_directory world stands) stands.works sound path done freed is named
        (answer world.plain.files.tree (pins_in world.plain) (opens world.plain.files) stands.tree.stands (tells_opened world.plain stands.tree.stands.is_tree stands.works))

    pub rename_leads : (from to : List ℕ) (done : Result (Option ℕ) Errno) (freed : Option ℕ) → said ≡ freed_reply done → freed ≡ freed_node done
        → ((tree : Tree) (pins : ℕ → ℕ) (opened held : ℕ → Bool) → Stands old.heap old.tree tree pins → TellsOpened tree pins opened → TellsHeld pins held
        → ToldTo heap fs tree (rename_path tree cwd from to opened held) pins done)
        → (world : World) → StandsFor script old world → IsSound world.plain → Freed script heap fs world.plain pid said freed (rename script world.plain pid from to)
    rename_leads from to done freed is named answer world stands sound =
        rename_led script heap fs world.plain pid said cwd (works world stands) stands.tree.stands.is_tree (at_directory world stands) stands.works sound from to done freed is named
        (answer world.plain.files.tree (pins_in world.plain) (opens world.plain.files) (is_busy world.plain) stands.tree.stands
        (tells_opened world.plain stands.tree.stands.is_tree stands.works) (tells_held world.plain))
