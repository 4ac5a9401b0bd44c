-- A call on names of sockets has changed the objects of a store, and its caller goes on.
use Rattle.std.proofs.Common.{◌≡◌, ℕ, ◌<◌, ◌≤◌, ◌&&◌, ◌||◌, ℤ, true, false, List, [], length, Option, None, Result, Ok, Err, OnOk, cond, is_none, is_some, refl, ap, sym, ◌∙◌, subst, arith}
use Rattle.std.specs.Option.{option_map}
use Rattle.std.specs.Prelude.{IsOk, IsSome}
use Rattle.store_objects.proofs.LockedOn.{locked_on, locks_follow}
use Rattle.store_objects.specs.OpenMoves.{LocksStay}
use Rattle.answer_laws.specs.KeptLocks.{LeavesLocks}
use Rattle.fifo_nodes.proofs.ChainLemmas.{chain_kept}
use Rattle.pipe_ends.proofs.LinkLemmas.{links_same}
use Rattle.kabi_types.specs.Arguments.{argument_fault}
use Rattle.kabi_types.specs.PathParts.{components}
use Rattle.kabi_types.specs.declared.calls.Call.{Call}
use Rattle.kabi_types.specs.declared.calls.Call.TheVariants as call
use Rattle.kabi_types.specs.declared.scripts.Control.{Control}
use Rattle.kabi_types.specs.declared.scripts.Script.{Script}
use Rattle.kabi_types.specs.declared.classes.Need.{Need}
use Rattle.kabi_types.specs.declared.errnos.Errno.{Errno}
use Rattle.kabi_types.specs.declared.replies.Reply.{Reply}
use Rattle.kheap_slabs.specs.Purse.{Purse}
use Rattle.kheap_slabs.specs.Heap.{Heap, IsWellFormed}
use Rattle.kheap_slabs.specs.Paid.{IsPaid}
use Rattle.disk_layout.specs.Disk.{Disk}
use Rattle.disk_laws.proofs.DiskNodes.{one_tree}
use Rattle.memfs_ops.specs.FileTree.{KeepsLed, KnowsWay, Stands, TreeView, in_call}
use Rattle.open_laws.specs.Owned.{HasItsOwners}
use Rattle.open_laws.specs.Placed.{Numbers}
use Rattle.path_calls.proofs.NamesKept.{walk_left}
use Rattle.path_calls.proofs.Stated.{knows_it}
use Rattle.path_calls.proofs.Walked.{holds_directory, works_there}
use Rattle.posix_defs.specs.Answer.{Answer}
use Rattle.posix_defs.specs.DiskTree.{StandsFor as DiskStands}
use Rattle.posix_defs.specs.Files.State.{Files}
use Rattle.posix_defs.specs.Memory.{Frames}
use Rattle.posix_defs.specs.MemoryCalls.{frames_after}
use Rattle.posix_defs.specs.Needs.{need_of, objects_of}
use Rattle.posix_defs.specs.PathCalls.{node_led}
use Rattle.posix_defs.specs.Paths.{begins_at, resolve}
use Rattle.posix_defs.specs.Plain.{Plain, with_files}
use Rattle.posix_defs.specs.Process.{directory_in, directory_of}
use Rattle.posix_defs.specs.Reaching.{IsLeft, ends_node, is_reply, knows, last_of}
use Rattle.posix_defs.specs.Sizes.{no_need}
use Rattle.posix_defs.specs.Tree.{Tree, is_directory}
use Rattle.posix_defs.specs.World.{Kept, World}
use Rattle.posix_defs.specs.declared.turner.Turned.{Turned}
use Rattle.posix_defs.specs.declared.turner.Turned.TheVariants as turned
use Rattle.proc_numbers.specs.Having.{AreListed}
use Rattle.proc_numbers.specs.Queues.{QueuesStand}
use Rattle.proc_files.specs.Holders.{holders}
use Rattle.proc_files.specs.NameAnswering.{AnswersConnecting, AnswersNaming, NamesChange}
use Rattle.proc_files.specs.NameHolding.{HoldNames, WorksAt}
use Rattle.proc_numbers.specs.Answering.{zero_of}
use Rattle.proc_numbers.proofs.Told.{keeps_same}
use Rattle.proc_table.specs.Procs.{IsAlive, process_of}
use Rattle.proc_table.specs.Table.{key_of}
use Rattle.proc_table.proofs.FamilyLemmas.{process_is}
use Rattle.store_objects.specs.declared.objects.Objects.{Objects}
use Rattle.store_objects.specs.Objects.{AreKept, Runs, procs_of}
use Rattle.store_objects.specs.Standing.{IsSound, StandsFor}
use Rattle.store_objects.specs.Trees.{kept_by, others_in, pins_in}
use Rattle.store_objects.specs.Walking.{Serves}
use Rattle.store_objects.proofs.StoreFiles.{holds_names}
use Rattle.store_objects.proofs.HoldsFiles.{works_in_directory}
use Rattle.store_objects.proofs.Replies.{GoesOn}
use Rattle.tree_laws.proofs.PathLeads.{path_led}
use Rattle.store_objects.proofs.RunningProcs.{has_key}
use Rattle.store_objects.specs.FileMoves.{FileMoves}
use Rattle.store_objects.specs.FileWorlds.{LeavesCached}
use Rattle.store_objects.proofs.Answered.{answered_holding}
use Rattle.store_objects.proofs.FileMoving.{kept_turned, runs_turned}
use Rattle.store_objects.proofs.Serving.{serves}
use Rattle.store_objects.proofs.Staying.{holds_elsewhere, memory_elsewhere, moves_elsewhere}
use Rattle.store_objects.proofs.Within.{within_paid}

-- ---- what calls ask

-- who runs is alive, and has a key
pub alive_who_runs : (objects : Objects) (pid : ℕ) (control : Control) → Runs objects pid control → IsAlive (procs_of objects) pid
alive_who_runs objects pid control runs = record { proc = runs.proc; there = runs.found; runs = runs.up }

pub key_who_runs : (script : Script) (objects : Objects) (pid : ℕ) (control : Control) → AreKept script objects → Runs objects pid control → IsSome (key_of objects.procs.listed pid)
key_who_runs script objects pid control kept runs = has_key script objects pid kept (alive_who_runs objects pid control runs)

-- a process works where the machine says
works_at : (script : Script) (objects : Objects) (world : World) (pid : ℕ) → StandsFor script objects world → WorksAt objects.heap objects.procs pid (directory_of world.plain.table pid)
works_at script objects world pid stands = λ proc found.
    sym (ap directory_in (process_is objects.heap world.plain.table (procs_of objects) pid stands.processes.table.present ∙ ap (option_map (process_of objects.heap)) found))

-- a purse of the need of a connect has a socket
pub left_sock : (had : ℕ) (which : Call) → argument_fault which ≡ None → had ≡ (need_of which).sock → (objects_of which).sock ≡ 1 → 0 < had
unfolding need_of
left_sock had which right needed one =
    let all : (need_of which).sock ≡ (objects_of which).sock = ap (λ (fault : Option Errno). (cond (is_some fault) no_need (objects_of which)).sock) right in omega (arith, needed, all, one)

-- ---- what they leave of the caches

never : {X : Type 0} → true ≡ false → X
never e = cc

-- where a path is walked, and no more than walked
pub bind_cached : (old mid : Objects) (world : World) (pid : ℕ) (fd : ℤ) (path : List ℕ) (said : Reply) (next : Plain) → argument_fault (call.Bind fd path) ≡ None
    → LeavesCached old mid world pid (call.Bind fd path) said next
bind_cached old mid world pid fd path said next right = record {
  untouched = λ none. never (sym (ap (λ (fault : Option Errno). (is_none fault && true) || ends_node world.plain.files next.files) right) ∙ none);
  left = λ ok. tt;
  known = λ known. never (sym known);
}

-- a connect that is told has led to a node
told_done : (P : Type 0) (done : Result (Unit {0}) Errno) → is_reply (zero_of done) ≡ true → OnOk done P → P
told_done P (Ok it) ok fact = fact
told_done P (Err errno) ok fact = cc

-- What a path led to is cached where the call is told, and nothing is read where all that it asks for was: the tree is the one that
-- it was.
module _ (script : Script) (old mid : Objects) (pid : ℕ) (control : Control) (runs : Runs old pid control) (fd : ℤ) (path : List ℕ) (before : Purse) (done : Result (Unit {0}) Errno)
    (right : argument_fault (call.Connect fd path) ≡ None) (bytes : mid.tree.disk.blocks ≡ old.tree.disk.blocks)
    (saved : (tree : Tree) (pins : ℕ → ℕ) (directory : ℕ) → Stands old.heap old.tree tree pins → WorksAt old.heap old.procs pid directory → KnowsWay (in_call old.heap before old.tree) tree directory path
    → mid.tree.disk ≡ old.tree.disk)
    (kept : (tree : Tree) (pins : ℕ → ℕ) (directory : ℕ) → Stands old.heap old.tree tree pins → WorksAt old.heap old.procs pid directory → OnOk done (KeepsLed mid.tree (resolve tree directory path)))
    (found : (tree : Tree) (pins : ℕ → ℕ) (directory : ℕ) → Stands old.heap old.tree tree pins → WorksAt old.heap old.procs pid directory → OnOk done (IsOk (node_led (resolve tree directory path)))) where
  pub connect_cached : (world : World) (stands : StandsFor script old world) (files : Files) → Stands mid.heap mid.tree files.tree (holders (others_in world.plain) files)
      → LeavesCached old mid world pid (call.Connect fd path) (zero_of done) (with_files world.plain files)
  connect_cached world stands files then =
      let tree : Tree = world.plain.files.tree in
      let pins = pins_in world.plain in
      let directory : ℕ = directory_of world.plain.table pid in
      let works = works_at script old world pid stands in
      let is = works_there script old world pid runs.proc stands runs.found in
      let behind : DiskStands old.tree.disk.blocks files.tree = subst (λ disk. DiskStands disk files.tree) bytes then.behind in
      let same : tree ≡ files.tree = one_tree old.tree.disk.blocks tree files.tree stands.tree.stands.behind behind in
      let is_dir : is_directory tree directory ≡ true = ap (is_directory tree) is ∙ works_in_directory script old world pid runs.proc stands runs.found runs.up in
      let led = path_led tree directory path stands.tree.stands.is_tree is_dir in
      record {
        untouched = λ none. never (sym (ap (λ (fault : Option Errno). (is_none fault && true) || ends_node world.plain.files files) right) ∙ none);
        left = λ ok.
            subst (λ t. IsLeft t (kept_by mid.tree) (last_of (resolve tree directory path))) same
            (walk_left tree mid.tree (resolve tree directory path) led
            (told_done (KeepsLed mid.tree (resolve tree directory path)) done ok (kept tree pins directory stands.tree.stands works))
            (told_done (IsOk (node_led (resolve tree directory path))) done ok (found tree pins directory stands.tree.stands works)));
        known = λ known.
            let held : 0 < pins directory = subst (λ n. 0 < pins n) (sym is) (holds_directory script old world pid runs.proc stands runs.found runs.up) in
            let way = knows_it old.heap before old.tree world.plain directory path stands.tree.stands held
            (subst (λ (cached : Kept). knows tree cached (begins_at directory path) (components path) ≡ true) stands.tree.kept known) in
            ap (λ (disk : Disk). disk.reads) (saved tree pins directory stands.tree.stands works way);
      }

-- ---- what they leave of the store

-- the objects with that heap, that tree, and these names
abbrev pub mid_of : Objects → Heap → TreeView → List (Option ℕ) → Objects
mid_of old heap fs names = record { heap = heap; procs = old.procs; tree = fs; names = names; fifos = old.fifos; locks = old.locks }

-- Whatever files they hold, the call is answered so, and they hold those that it leads to, where what is new has numbers.
abbrev pub AnswersSo : Objects → Heap → TreeView → List (Option ℕ) → Script → ℕ → (Plain → Answer) → Reply → Type 0
AnswersSo old heap fs names script pid answer said =
    (numbers : Numbers) (others : ℕ → ℕ) (plain : Plain) → HoldNames numbers others old.heap old.procs old.tree old.names plain.files → WorksAt old.heap old.procs pid (directory_of plain.table pid)
    → AnswersConnecting numbers others old.heap heap old.procs fs names script plain pid (answer plain) said

-- so it is where nothing is new
pub anew : (old : Heap) (numbers : Numbers) (others : ℕ → ℕ) (objects : Objects) (heap : Heap) (fs : TreeView) (names : List (Option ℕ)) (script : Script) (plain : Plain) (pid : ℕ) (answer : Answer) (said : Reply)
    → AnswersNaming numbers others heap objects.procs fs names script plain pid answer said → AnswersConnecting numbers others old heap objects.procs fs names script plain pid answer said
anew old numbers others objects heap fs names script plain pid answer said it = record { now = numbers; keeps = keeps_same old numbers; answers = it }

-- A call has changed names, sockets or the tree of a store that stood for a sound world, and is told so.
pub record HasNamed (script : Script) (old : Objects) (heap : Heap) (fs : TreeView) (names : List (Option ℕ)) (pid : ℕ) (answer : Plain → Answer) (said : Reply) : Type 0 where
  pub world : (world : World) × StandsFor script old world × IsSound world.plain
  pub well : IsWellFormed old.heap
  pub changes : NamesChange old.heap heap
  pub listed : AreListed heap old.procs
  pub owners : HasItsOwners heap []
  pub queues : QueuesStand old.heap heap
  pub places : length names ≡ length old.names
  pub answers : AnswersSo old heap fs names script pid answer said

module _ (script : Script) (old : Objects) (heap : Heap) (fs : TreeView) (names : List (Option ℕ)) (pid : ℕ) (answer : Plain → Answer) (said : Reply)
    (named : HasNamed script old heap fs names pid answer said) where
  abbrev mid : Objects
  mid = mid_of old heap fs names

  told : (world : World) → (stands : StandsFor script old world) → IsSound world.plain
      → AnswersConnecting stands.files.numbers (others_in world.plain) old.heap heap old.procs fs names script world.plain pid (answer world.plain) said
  told world stands sound =
      let holds : HoldNames stands.files.numbers (others_in world.plain) old.heap old.procs old.tree old.names world.plain.files = holds_names script old world stands named.well sound in
      named.answers stands.files.numbers (others_in world.plain) world.plain holds (works_at script old world pid stands)

  same_procs : heap.procs ≡ old.heap.procs
  same_procs = ap (λ (h : Heap). h.procs) named.changes

  locks_stay : LocksStay old mid
  locks_stay = record { shelf = ap (λ (h : Heap). h.locks) named.changes; first = refl }

  moves : FileMoves old mid
  moves =
      let world = named.world.0 in
      let kept : AreKept script old = named.world.1.kept in
      let it = (told world named.world.1 named.world.2).answers in
      moves_elsewhere old mid refl same_procs
      (record { holds = holds_elsewhere old mid refl same_procs kept.holds named.listed named.owners; listed = named.listed; owners = named.owners })
      it.holds.bound named.places (it.files.tree, holders (others_in world.plain) it.files, it.holds.held.tree) (ap (λ (h : Heap). h.heap) named.changes)
      (chain_kept old.heap heap old.fifos (links_same old.heap heap (ap (λ (h : Heap). h.pipes) named.changes)) kept.chain) (locked_on old mid locks_stay kept.locked)

  pub kept_named : AreKept script mid
  kept_named = kept_turned script old mid named.world.1.kept moves

  pub runs_named : (control : Control) → Runs old pid control → Runs mid pid control
  runs_named control runs = runs_turned old mid pid control moves runs

  -- behind it its caller goes on
  pub serves_named : (which : Call) (before after : Purse) (is : Turned) (new : Objects) → IsPaid old.heap before heap after → before.left ≡ need_of which → old.tree.disk.reads ≤ fs.disk.reads
      → is ≡ turned.Done said → GoesOn script mid pid said new → ((frames : Frames) → frames_after frames pid which said ≡ frames)
      → ((world : World) (stands : StandsFor script old world) (files : Files) → Stands heap fs files.tree (holders (others_in world.plain) files)
      → LeavesCached old mid world pid which said (with_files world.plain files)) → ((plain : Plain) → LeavesLocks plain (answer plain)) → Serves script old pid which answer is new
  serves_named which before after is new paid needed reads tells goes none cached leaves =
      serves script old mid new pid which said is
      (within_paid old mid before after which paid (ap (λ (need : Need). need.name) needed) (ap (λ (need : Need). need.block) needed) (ap (λ (need : Need). need.vnode) needed) reads) tells answer moves goes
      (λ world stands sound alive.
      let it = told world stands sound in
      answered_holding script old mid world stands pid which said (answer world.plain) it.now
      (memory_elsewhere old mid refl same_procs (ap (λ (h : Heap). h.nodes) named.changes) (ap (λ (h : Heap). h.pages) named.changes)) named.queues it.keeps.pipes it.keeps.socks (none world.account.frames)
      (record { files = it.answers.files; replies = it.answers.replies; holds = it.answers.holds.held })
      (cached world stands it.answers.files it.answers.holds.held.tree))
      (locks_follow script old mid pid answer said locks_stay leaves)
