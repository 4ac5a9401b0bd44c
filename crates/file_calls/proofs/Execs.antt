-- An exec leads to the worlds that its answers reach.
use Rattle.std.proofs.Common.{◌≡◌, ℕ, ◌+◌, ◌≤◌, ◌&&◌, ◌||◌, true, false, List, length, max, Option, None, Some, is_none, IsSome, Result, Ok, Err, pos, refl, ap, sym, subst, ◌∙◌, arith}
use Rattle.std.specs.Prelude.{IsOk}
use Rattle.std.proofs.lemmas.Bool.{false≢true}
use Rattle.kabi_types.specs.Arguments.{path_fault}
use Rattle.kabi_types.specs.declared.calls.Call.TheVariants as call
use Rattle.kabi_types.specs.declared.scripts.Program.{Program}
use Rattle.kabi_types.specs.declared.scripts.Script.{Script}
use Rattle.kabi_types.specs.declared.classes.Need.{Need}
use Rattle.kabi_types.specs.declared.errnos.Errno.{Errno}
use Rattle.kabi_types.specs.declared.replies.Reply.TheVariants.{Fail, Val}
use Rattle.kabi_types.specs.Counts.{need_bytes}
use Rattle.kheap_slabs.specs.Objects.{count}
use Rattle.kheap_slabs.specs.Purse.{Purse, left_bytes}
use Rattle.kheap_slabs.specs.declared.objects.Proc.{Proc}
use Rattle.kheap_slabs.specs.Heap.{Heap, IsWellFormed, live_bytes}
use Rattle.kheap_slabs.specs.Paid.{IsPaid}
use Rattle.kheap_laws.proofs.PaidLemmas.{IsPaid-bytes}
use Rattle.lru_index.specs.NameKeys.{name_key}
use Rattle.lru_index.specs.Order.{Order}
use Rattle.lru_index.specs.declared.keys.NameKey.{NameKey}
use Rattle.memfs_ops.specs.Closing.{KeepsCached}
use Rattle.memfs_ops.specs.FileTree.{KeepsLed, Pays, Stands, TreeView}
use Rattle.memfs_ops.proofs.CachedLemmas.{on_disk_of}
use Rattle.name_cache.specs.Names.{name_slot}
use Rattle.vnode_cache.specs.Nodes.{node_slot}
use Rattle.open_laws.specs.Placed.{Numbers}
use Rattle.posix_defs.specs.Calls.Starting.{exec, starts}
use Rattle.posix_defs.specs.Files.State.{Files}
use Rattle.posix_defs.specs.Memory.{Frames}
use Rattle.posix_defs.specs.Needs.{bound, need_of, objects_of}
use Rattle.posix_defs.proofs.PriceLemmas.{right_needs}
use Rattle.posix_defs.specs.PathCalls.{exec_found, exec_path, node_led}
use Rattle.posix_defs.specs.Paths.{IsLed, resolve}
use Rattle.posix_defs.specs.Plain.{Plain}
use Rattle.posix_defs.specs.Process.{directory_of}
use Rattle.posix_defs.specs.Reaching.{IsLeft, ends_node, has_succeeded, last_of}
use Rattle.posix_defs.specs.Tree.{Tree, found}
use Rattle.posix_defs.specs.World.{World}
use Rattle.posix_defs.specs.declared.turner.Turned.{Turned}
use Rattle.posix_defs.specs.declared.turner.Turned.TheVariants as turned
use Rattle.posix_defs.specs.declared.walked.Walked.{Walked}
use Rattle.posix_defs.specs.declared.walked.Walked.TheVariants as walked
use Rattle.tree_laws.proofs.PathLeads.{path_led}
use Rattle.tree_laws.proofs.TreeFacts.{found_in_use}
use Rattle.proc_files.specs.Holding.{HoldFiles}
use Rattle.proc_files.specs.Holders.{holders}
use Rattle.proc_table.specs.Procs.{proc_of}
use Rattle.proc_table.specs.Standing.{IsTable}
use Rattle.store_objects.specs.declared.objects.Objects.{Objects}
use Rattle.store_objects.specs.declared.purses.Target.TheVariants.{File}
use Rattle.store_objects.specs.Objects.{procs_of}
use Rattle.store_objects.specs.Purses.{need_for}
use Rattle.store_objects.specs.Standing.{IsSound, StandsFor, answered_in}
use Rattle.store_objects.specs.Trees.{kept_by, others_in, pins_in}
use Rattle.store_objects.specs.Uses.{UsesAtMost}
use Rattle.store_objects.specs.Walking.{WorldReached}
use Rattle.store_objects.proofs.Forgetting.{forgotten}
use Rattle.store_objects.proofs.HeldNodes.{pins_split}
use Rattle.store_objects.proofs.HoldsFiles.{works_in_directory}
use Rattle.store_objects.proofs.StoreFiles.{holds_files}
use Rattle.store_objects.proofs.KeptNow.{as_many_blocks, as_many_names, as_many_vnodes}
use Rattle.store_objects.proofs.Leading.{settled_account}
use Rattle.store_objects.proofs.Paying.{purse_fits}
use Rattle.store_objects.proofs.Replies.{GoesOn}
use Rattle.store_objects.proofs.TreesOn.{same_pins}
use Rattle.path_calls.proofs.NamesKept.{node_kept, slot_kept}
use Rattle.path_calls.proofs.Walked.{KeepsFew, keeps_few, looked, mid, stands_mid, works_there}
use Rattle.file_calls.specs.Starting.{CachesShed, started_in}
use Rattle.file_calls.proofs.Closed.{exec_stays}

-- ---- what it uses

-- an exec may make what a walk asks for
pub exec_fits : (path : List ℕ) (purse : Purse) → path_fault path ≡ None → purse.left ≡ need_of (call.Exec path) → left_bytes purse ≤ bound (call.Exec path)
exec_fits path purse right needed =
    let needs : need_of (call.Exec path) ≡ objects_of (call.Exec path) = right_needs (call.Exec path) right in
    subst (λ n. n ≤ bound (call.Exec path)) (ap (λ (n : Need). need_bytes (need_for File n)) needs ∙ sym (ap need_bytes (needed ∙ needs))) (purse_fits File (call.Exec path))

-- the heap has room for what is closed behind a walk
pub room_behind : (old new : Heap) (before after : Purse) (bytes more : ℕ) → IsPaid old before new after → left_bytes before ≤ bytes → live_bytes old + bytes + more ≤ old.heap → live_bytes new + more ≤ new.heap
room_behind old new before after bytes more paid had room =
    fits (live_bytes new) (left_bytes after) (live_bytes old) (left_bytes before) bytes more old.heap new.heap (IsPaid-bytes old new before after paid) had room paid.heap
  where
    fits : (new left old had bytes more was is : ℕ) → new + left ≤ old + had → had ≤ bytes → old + bytes + more ≤ was → is ≡ was → new + more ≤ is
    fits new left old had bytes more was is paid within room same = omega arith

-- what is given back adds nothing but meanwhile
pub uses_behind : (old mid new : Heap) (bytes more : ℕ) → UsesAtMost old mid bytes more → UsesAtMost mid new 0 more → UsesAtMost old new bytes more
uses_behind old mid new bytes more first second = record {
  live = no_more (live_bytes old) (live_bytes mid) (live_bytes new) bytes first.live second.live;
  high = no_higher old.high mid.high new.high (live_bytes old) (live_bytes mid) bytes more first.live first.high second.high;
  rises = rising old.high mid.high new.high first.rises second.rises;
  heap = second.heap ∙ first.heap;
  marks = second.marks ∙ first.marks;
}
  where
    no_more : (a b c n : ℕ) → b ≤ a + n → c ≤ b + 0 → c ≤ a + n
    no_more a b c n first second = omega arith

    no_higher : (a b c live then n more : ℕ) → then ≤ live + n → b ≤ max a (live + n + more) → c ≤ max b (then + 0 + more) → c ≤ max a (live + n + more)
    no_higher a b c live then n more less first second = omega arith

    rising : (a b c : ℕ) → a ≤ b → b ≤ c → a ≤ c
    rising a b c first second = omega arith

-- ---- what it leaves cached

some_is : {X : Type 0} (o : Option X) → IsSome o → (x : X) × (o ≡ Some x)
some_is None some = cc
some_is (Some x) some = (x, refl)

same_some : {X : Type 0} (x y : X) → Some x ≡ Some y → x ≡ y
same_some x y e = cc

-- the name by which a walk led to a node is kept behind all closings, and so is the node
pub exec_left : (h : Heap) (fs is : TreeView) (tree next : Tree) (pins : ℕ → ℕ) (led : Walked) → IsLed tree led → KeepsLed fs led → IsOk (node_led led) → KeepsCached fs is → Stands h is next pins
    → ((dir : ℕ) (name : List ℕ) → found next dir name ≡ found tree dir name) → IsLeft next (kept_by is) (last_of led)
exec_left h fs is tree next pins (walked.Node number) at kept ok cached stands names = tt
exec_left h fs is tree next pins (walked.Named dir name number slashed) at kept ok cached stands names =
    let slot = some_is (name_slot is.names (name_key dir name)) (subst (λ (order : Order NameKey). IsSome (name_slot order (name_key dir name))) (sym cached.names) kept.0) in (
      slot_kept is.names.pairs dir name slot.0 slot.1,
      λ other there.
          let same = same_some number other (sym at.1 ∙ sym (names dir name) ∙ there) in
          node_kept is other
          (cached.nodes other (on_disk_of h is next pins other stands (found_in_use next dir name other stands.is_tree there)) (subst (λ n. IsSome (node_slot fs.vnodes n)) same kept.1)),
    )
exec_left h fs is tree next pins (walked.Free dir name slashed) at kept ok cached stands names = cc
exec_left h fs is tree next pins (walked.Fail errno) at kept ok cached stands names = cc

-- what starts has been led to
led_ok : (tree : Tree) (led : Result ℕ Errno) (programs : List Program) (place : ℕ) → Ok place ≡ exec_found tree programs led → IsOk led
led_ok tree (Ok number) programs place is = refl
led_ok tree (Err errno) programs place is = cc

-- what was found is what the machine finds
pub found_of : (script : Script) (old : Objects) (world : World) → (stands : StandsFor script old world) → IsSound world.plain → IsWellFormed old.heap → (pid : ℕ) (path : List ℕ) (led : Result ℕ Errno)
    → ((numbers : Numbers) (others : ℕ → ℕ) (plain : Plain) → IsTable old.heap old.procs plain.table → HoldFiles numbers others old.heap old.procs old.tree plain.files
    → led ≡ exec_path plain.files.tree (directory_of plain.table pid) path script.programs)
    → led ≡ exec_path world.plain.files.tree (directory_of world.plain.table pid) path script.programs
found_of script old world stands sound well pid path led value =
    value stands.files.numbers (others_in world.plain) world.plain stands.processes.table (holds_files script old world stands well sound)

-- ---- its answers

module _ (script : Script) (old : Objects) (heap : Heap) (fs : TreeView) (before after : Purse) (pays : Pays old.heap heap before after old.tree fs) (pid : ℕ) (path : List ℕ) (proc : Proc)
    (found_it : proc_of (procs_of old) pid ≡ Some proc) (up : proc.status ≡ None) (right : path_fault path ≡ None) (needed : before.left ≡ need_of (call.Exec path)) (well : IsWellFormed old.heap)
    (led : Result ℕ Errno)
    (value : (numbers : Numbers) (others : ℕ → ℕ) (plain : Plain) → IsTable old.heap old.procs plain.table → HoldFiles numbers others old.heap old.procs old.tree plain.files
    → led ≡ exec_path plain.files.tree (directory_of plain.table pid) path script.programs)
    (holds : (numbers : Numbers) (others : ℕ → ℕ) (files : Files) → HoldFiles numbers others old.heap old.procs old.tree files → HoldFiles numbers others heap old.procs fs files)
    (left : (proc : Proc) (plain : Tree) (pins : ℕ → ℕ) → proc_of (procs_of old) pid ≡ Some proc → Stands old.heap old.tree plain pins → KeepsLed fs (resolve plain proc.cwd path)) where
  -- the objects once the path was walked
  abbrev pub then : Objects
  then = mid script old heap fs pays.only

  module _ (world : World) (stands : StandsFor script old world) (sound : IsSound world.plain) where
    abbrev tree : Tree
    tree = world.plain.files.tree

    held : HoldFiles stands.files.numbers (others_in world.plain) old.heap old.procs old.tree world.plain.files
    held = holds_files script old world stands well sound

    pub stands_then : Stands heap fs tree (pins_in world.plain)
    stands_then = same_pins heap fs tree (holders (others_in world.plain) world.plain.files) (pins_in world.plain) (λ n. sym (pins_split world.plain n))
        (holds stands.files.numbers (others_in world.plain) world.plain.files held).tree

    pub walked_in : StandsFor script then (looked script old heap fs pays.only world)
    walked_in = stands_mid script old heap fs pays.only world stands stands_then

    found_so : led ≡ exec_path tree (directory_of world.plain.table pid) path script.programs
    found_so = value stands.files.numbers (others_in world.plain) world.plain stands.processes.table held

    few : KeepsFew fs world (call.Exec path)
    few = keeps_few script old heap fs before after world (call.Exec path) tree (pins_in world.plain) stands stands_then pays.paid pays.reads needed

    -- it names a path
    reaches : {X : Type 0} (next : Plain) → ((is_none (path_fault path) && true) || ends_node world.plain.files next.files) ≡ false → X
    reaches next none = absurd (false≢true (sym none ∙ ap (λ (fault : Option Errno). (is_none fault && true) || ends_node world.plain.files next.files) right))

    -- the path has a fault, or the file names no program
    pub failed_in : (errno : Errno) (new : Objects) (told : Turned) → led ≡ Err errno → told ≡ turned.Done (Fail errno) → GoesOn script then pid (Fail errno) new
        → WorldReached script new world pid (call.Exec path) (exec script world.plain pid path) told
    unfolding exec
    failed_in errno new told is tells goes =
        subst (λ o. WorldReached script new world pid (call.Exec path) (starts script world.plain pid o) told) (sym is ∙ found_so)
        (record {
          next = answered_in script (looked script old heap fs pays.only world) pid (Fail errno);
          stands = goes (looked script old heap fs pays.only world) walked_in;
          tells = (tells, refl);
          account = sym (settled_account script old world stands);
          keeps = record {
            names = few.names;
            blocks = few.blocks;
            vnodes = few.vnodes;
            reads = few.reads;
            untouched = λ none. reaches (answered_in script (looked script old heap fs pays.only world) pid (Fail errno)).plain none;
            left = λ ok. absurd (false≢true (sym (ap has_succeeded tells) ∙ ok));
            known = λ known. absurd (false≢true known);
          };
        })

    fewer : (new mid kept then need : ℕ) → new ≤ mid → new ≡ kept → mid ≡ then → then ≤ need → kept ≤ need
    fewer new mid kept then need less is was few = omega arith

    later : (a b c : ℕ) → a ≤ b → b ≤ c → a ≤ c
    later a b c first second = omega arith

    -- the program starts
    pub started_from : (place : ℕ) (new : Objects) (told : Turned) → led ≡ Ok place → told ≡ turned.Done (Val (pos 0)) → CachesShed then new
        → ((w : World) → StandsFor script then w → IsSound w.plain → StandsFor script new (started_in script new.tree w pid place))
        → WorldReached script new world pid (call.Exec path) (exec script world.plain pid path) told
    unfolding exec
    started_from place new told is tells shed starting =
        let now = looked script old heap fs pays.only world in
        let next = started_in script new.tree now pid place in
        let last : StandsFor script new next = starting now walked_in sound in
        let works : directory_of world.plain.table pid ≡ proc.cwd = works_there script old world pid proc stands found_it in
        let at = path_led tree proc.cwd path stands.tree.stands.is_tree (works_in_directory script old world pid proc stands found_it up) in
        let ok = led_ok tree (node_led (resolve tree proc.cwd path)) script.programs place (sym is ∙ found_so ∙ ap (λ dir. exec_path tree dir path script.programs) works) in
        let stay = exec_stays world.plain.files pid stands.tree.stands.is_tree in
        subst (λ o. WorldReached script new world pid (call.Exec path) (starts script world.plain pid o) told) (sym is ∙ found_so)
        (record {
          next = next;
          stands = last;
          tells = (tells, refl);
          account = ap (λ (frames : Frames). record next.account { frames = frames }) (sym (forgotten script new next.plain next.account.frames last.kept last.processes last.memory));
          keeps = record {
            names = fewer (count new.heap.names) (count heap.names) (length (kept_by new.tree).names) (length (kept_by fs).names) _ shed.names
                (as_many_names new.heap new.tree next.plain.files.tree (pins_in next.plain) last.tree.stands) (as_many_names heap fs tree (pins_in world.plain) stands_then) few.names;
            blocks = fewer (count new.heap.blocks) (count heap.blocks) (length (kept_by new.tree).blocks) (length (kept_by fs).blocks) _ shed.blocks
                (as_many_blocks new.heap new.tree next.plain.files.tree (pins_in next.plain) last.tree.stands) (as_many_blocks heap fs tree (pins_in world.plain) stands_then) few.blocks;
            vnodes = fewer (count new.heap.vnodes) (count heap.vnodes) (length (kept_by new.tree).vnodes) (length (kept_by fs).vnodes) _ shed.vnodes
                (as_many_vnodes new.heap new.tree next.plain.files.tree (pins_in next.plain) last.tree.stands) (as_many_vnodes heap fs tree (pins_in world.plain) stands_then) few.vnodes;
            reads = later world.reads fs.disk.reads new.tree.disk.reads few.reads shed.reads;
            untouched = λ none. reaches next.plain none;
            left = λ done.
                subst (λ dir. IsLeft next.plain.files.tree (kept_by new.tree) (last_of (resolve tree dir path))) (sym works)
                (exec_left new.heap fs new.tree tree next.plain.files.tree (pins_in next.plain) (resolve tree proc.cwd path) at (left proc tree (pins_in world.plain) found_it stands.tree.stands) ok shed.cached
                last.tree.stands stay.found);
            known = λ known. absurd (false≢true known);
          };
        })
