-- A store goes on where a name of a socket has gone from its tree: whoever was bound to it has no name any more.
use Rattle.std.proofs.Common.{◌≡◌, ℕ, ◌<◌, ◌≤◌, Bool, true, false, cond, List, [], ◌∷◌, ◌++◌, length, map, Option, None, Some, refl, ap, sym, ◌∙◌, subst, arith}
use Rattle.std.specs.Prelude.{◌==◌, count_by}
use Rattle.std.specs.Option.{option_map}
use Rattle.kabi_types.specs.Arguments.{argument_fault}
use Rattle.kabi_types.specs.declared.calls.Call.{Call}
use Rattle.kabi_types.specs.declared.scripts.Control.{Control}
use Rattle.kabi_types.specs.declared.scripts.Script.{Script}
use Rattle.kabi_types.specs.declared.replies.Reply.{Reply}
use Rattle.kheap_slabs.specs.Purse.{Purse}
use Rattle.kheap_slabs.specs.declared.objects.Chunk.{Chunk}
use Rattle.kheap_slabs.specs.declared.objects.Sock.{Sock}
use Rattle.kheap_slabs.proofs.ObjectLemmas.{length-without}
use Rattle.kheap_slabs.specs.Heap.{Heap, IsWellFormed}
use Rattle.memfs_ops.specs.FileTree.{Pays, Stands, TreeView}
use Rattle.fifo_nodes.proofs.ChainLemmas.{chain_kept}
use Rattle.open_laws.specs.Open.{HaveFronts}
use Rattle.open_laws.specs.Owned.{HasItsOwners}
use Rattle.open_laws.specs.Placed.{Numbers}
use Rattle.posix_defs.specs.Account.{Account, account_on, forget_dead, fronts_after, pipe_lengths, socket_lengths, unread_in_socket, with_frames}
use Rattle.posix_defs.specs.Answer.{Answer}
use Rattle.posix_defs.specs.DiskFormat.{table_nodes}
use Rattle.posix_defs.specs.Files.SocketNames.{after_freeing, none_bound_to, unnamed}
use Rattle.posix_defs.specs.Files.State.{Files, is_number, with_sockets}
use Rattle.posix_defs.specs.Needs.{need_of}
use Rattle.posix_defs.specs.Plain.{Plain, root, with_files}
use Rattle.posix_defs.specs.Socket.{Socket}
use Rattle.posix_defs.specs.Sockets.{Sockets}
use Rattle.posix_defs.specs.World.{World, directories_of}
use Rattle.posix_defs.specs.declared.turner.Turned.{Turned}
use Rattle.posix_defs.specs.declared.turner.Turned.TheVariants as turned
use Rattle.lock_table.specs.Chain.{HoldsLocks}
use Rattle.pipe_ends.proofs.LinkLemmas.{links_same}
use Rattle.proc_numbers.specs.Queues.{QueuesStand, fronts_on}
use Rattle.proc_numbers.proofs.Fronts.{fronts_follow}
use Rattle.proc_files.specs.Holding.{HoldFiles}
use Rattle.proc_files.specs.Holders.{AreOpenNodes, HaveNamesBut, holders}
use Rattle.proc_files.specs.Names.{AreBound, freed_from, name_of}
use Rattle.proc_files.specs.NameHolding.{HoldNames}
use Rattle.proc_table.specs.Table.{TableView}
use Rattle.store_objects.specs.declared.objects.Objects.{Objects}
use Rattle.store_objects.specs.Files.{AreSettled}
use Rattle.store_objects.specs.Objects.{AreKept, Runs, most_nodes}
use Rattle.store_objects.specs.Standing.{IsSound, StandsFor, answered_in}
use Rattle.store_objects.specs.Trees.{CachesStay, KeepsTree, but_root, others_in, pins_in}
use Rattle.store_objects.specs.Walking.{Serves, WorldReached}
use Rattle.store_objects.proofs.Families.{SameMemory, memory_on, processes_on}
use Rattle.store_objects.proofs.HeldNodes.{pins_split}
use Rattle.store_objects.proofs.HoldsFiles.{hold_directories}
use Rattle.store_objects.proofs.Leading.{settled_account}
use Rattle.store_objects.proofs.Replies.{GoesOn}
use Rattle.store_objects.proofs.TreesOn.{same_pins, stands_on}
use Rattle.path_calls.proofs.Changed.{ChangesNames, Freed, changed, keeps_on, mid, runs_mid, same_opened, stands_mid}

-- ---- a socket that loses its name keeps its bytes

as_long : (number : ℕ) (sockets : Sockets) → map unread_in_socket (none_bound_to sockets number) ≡ map unread_in_socket sockets
as_long number [] = refl
as_long number (first ∷ rest) = ap (λ n. n ∷ map unread_in_socket (none_bound_to rest number)) (one first) ∙ ap (λ ns. unread_in_socket first ∷ ns) (as_long number rest)
  where
    one : (o : Option Socket) → unread_in_socket (option_map (unnamed number) o) ≡ unread_in_socket o
    one None = refl
    one (Some socket) = go (is_number number socket.node)
      where
        go : (b : Bool) → length (cond b (record socket { node = None }) socket).bytes ≡ length socket.bytes
        go true = refl
        go false = refl

-- the files without that name
abbrev pub without_name : Files → Option ℕ → Files
without_name files freed = with_sockets files (after_freeing files.sockets freed)

same_lengths : (files : Files) (freed : Option ℕ) → socket_lengths (without_name files freed) ≡ socket_lengths files
same_lengths files None = refl
same_lengths files (Some number) = as_long number files.sockets

-- so the account stays
same_fronts : (files : Files) (freed : Option ℕ) (account : Account) → AreSettled files account → fronts_on files (without_name files freed) account ≡ account
same_fronts files freed account settled =
    ap (λ lengths. record account {
      pipes = fronts_after (pipe_lengths files) (pipe_lengths files) account.pipes;
      sockets = fronts_after (socket_lengths files) lengths account.sockets;
    }) (same_lengths files freed)
    ∙ ap (λ pipes. record account { pipes = pipes; sockets = fronts_after (socket_lengths files) (socket_lengths files) account.sockets }) settled.pipes
    ∙ ap (λ sockets. record account { sockets = sockets }) settled.sockets

settled_still : (files : Files) (freed : Option ℕ) (account : Account) → AreSettled files account → AreSettled (without_name files freed) account
settled_still files freed account settled = record {
  pipes = settled.pipes;
  sockets = ap (λ lengths. fronts_after lengths lengths account.sockets) (same_lengths files freed) ∙ settled.sockets;
}

pub same_account : (plain : Plain) (freed : Option ℕ) (account : Account) → account_on plain (with_files plain (without_name plain.files freed)) account ≡ account_on plain plain account
same_account plain freed account =
    ap (λ lengths. record {
      frames = forget_dead plain account.frames;
      pipes = fronts_after (pipe_lengths plain.files) (pipe_lengths plain.files) account.pipes;
      sockets = fronts_after (socket_lengths plain.files) lengths account.sockets;
    }) (same_lengths plain.files freed)

-- ---- the objects

-- a name more or less leaves the table as long as it is
as_many_places : (names : List (Option ℕ)) (freed : Option ℕ) → length (freed_from names freed) ≡ length names
as_many_places names None = refl
as_many_places names (Some node) = length-without names node

-- the heap with other chunks and sockets
abbrev socks_in : Heap → List (Option Chunk) → List (Option Sock) → ℕ → Heap
socks_in h chunks socks high = record h { chunks = chunks; socks = socks; high = high }

-- the objects with that heap, and another table of names
abbrev pub freed_as : Objects → Heap → List (Option ℕ) → Objects
freed_as objects heap names = record { heap = heap; procs = objects.procs; tree = objects.tree; names = names; fifos = objects.fifos; locks = objects.locks }

kept_so : (script : Script) (old : Objects) (chunks : List (Option Chunk)) (socks : List (Option Sock)) (high : ℕ) (names : List (Option ℕ)) → AreKept script old
    → HasItsOwners (socks_in old.heap chunks socks high) [] → AreBound (name_of socks) names → length names ≡ length old.names
    → KeepsTree (socks_in old.heap chunks socks high) old.tree → AreKept script (freed_as old (socks_in old.heap chunks socks high) names)
kept_so script old chunks socks high names kept owners bound long keeps = record {
  holds = record {
    stored = kept.holds.stored;
    rising = kept.holds.rising;
    light = kept.holds.light;
    owned = (
      record { spaces = kept.holds.owned.0.spaces; queues = owners.objects.0.queues },
      record {
        nodes = kept.holds.owned.1.nodes;
        mapped = kept.holds.owned.1.mapped;
        pages = kept.holds.owned.1.pages;
        chunks = owners.objects.2.chunks;
        queues = owners.objects.2.queues;
      },
    );
  };
  all = kept.all;
  leaves = kept.leaves;
  owners = owners;
  groups = kept.groups;
  calls = kept.calls;
  bound = bound;
  places = subst (λ n. most_nodes < n) (sym long) kept.places;
  caches = keeps;
  size = kept.size;
  chain = chain_kept old.heap (socks_in old.heap chunks socks high) old.fifos (links_same old.heap (socks_in old.heap chunks socks high) refl) kept.chain;
  locked = kept.locked;
}

-- A socket's name is taken from these objects, if one was freed.
module _ (script : Script) (old : Objects) (heap : Heap) (names : List (Option ℕ)) (freed : Option ℕ) (beside : heap ≡ record old.heap { chunks = heap.chunks; socks = heap.socks; high = heap.high }) where
  abbrev pub new : Objects
  new = freed_as old heap names

  caches_stay : CachesStay old.heap heap
  caches_stay = record {
    vnodes = ap (λ (h : Heap). h.vnodes) beside;
    names = ap (λ (h : Heap). h.names) beside;
    blocks = ap (λ (h : Heap). h.blocks) beside;
    size = ap (λ (h : Heap). h.heap) beside;
  }

  same_memory : SameMemory old.heap heap
  same_memory = record { procs = ap (λ (h : Heap). h.procs) beside; nodes = ap (λ (h : Heap). h.nodes) beside; pages = ap (λ (h : Heap). h.pages) beside }

  pub runs_freed : (pid : ℕ) (control : Control) → Runs old pid control → Runs new pid control
  runs_freed pid control runs =
      subst (λ (h : Heap). Runs (freed_as old h names) pid control) (sym beside)
      (record { proc = runs.proc; found = runs.found; up = runs.up; at_call = runs.at_call })

  -- the machine and the world without that name
  abbrev pub unnamed_in : World → World
  unnamed_in world = record world { plain = with_files world.plain (without_name world.plain.files freed) }

  module _ (well : IsWellFormed old.heap) (owners : HasItsOwners heap []) (names_are : names ≡ freed_from old.names freed) (queues : QueuesStand old.heap heap)
      (hold : (numbers : Numbers) (others : ℕ → ℕ) (kept : TableView) (fs : TreeView) (files : Files) → HoldFiles numbers others old.heap kept fs files → HaveNamesBut freed files
      → table_nodes files.tree.blocks < length old.names → HoldNames numbers others heap kept fs names (without_name files freed))
      (world : World) (stands : StandsFor script old world) (nodes : AreOpenNodes world.plain.files) (named : HaveNamesBut freed world.plain.files) where
    held : HoldNames stands.files.numbers (others_in world.plain) heap old.procs old.tree names (without_name world.plain.files freed)
    held =
        hold stands.files.numbers (others_in world.plain) old.procs old.tree world.plain.files
        (record {
          opened = stands.files.opened;
          tree = same_pins old.heap old.tree world.plain.files.tree (pins_in world.plain) (holders (others_in world.plain) world.plain.files) (pins_split world.plain) stands.tree.stands;
          nodes = nodes;
          beside = hold_directories script old world stands well;
        })
        named (few world.plain.files.tree.blocks (length old.names) stands.tree.stands.is_tree.most stands.kept.places)
      where
        few : (blocks places : ℕ) → blocks ≤ 4096 → most_nodes < places → table_nodes blocks < places
        few blocks places most many = omega arith

    tree_stands : Stands heap old.tree world.plain.files.tree (pins_in world.plain)
    tree_stands = stands_on old.heap heap old.tree world.plain.files.tree (pins_in world.plain) caches_stay stands.tree.stands

    pub kept_freed : AreKept script new
    kept_freed =
        subst (λ (h : Heap). HasItsOwners h [] → AreBound (name_of h.socks) names → KeepsTree h old.tree → AreKept script (freed_as old h names)) (sym beside)
        (λ own bound keeps. kept_so script old heap.chunks heap.socks heap.high names stands.kept own bound (ap length names_are ∙ as_many_places old.names freed) keeps)
        owners held.bound (world.plain.files.tree, pins_in world.plain, tree_stands)

    pub stands_freed : StandsFor script new (unnamed_in world)
    stands_freed = record {
      valid = stands.valid;
      kept = kept_freed;
      processes = processes_on script old new world.plain (unnamed_in world).plain refl same_memory refl refl stands.processes;
      memory = memory_on old new world.account.frames world.account.frames refl same_memory refl stands.memory;
      files = record {
        numbers = stands.files.numbers;
        opened = held.held.opened;
        fronts = subst (λ (account : Account). HaveFronts stands.files.numbers heap account) (same_fronts world.plain.files freed world.account stands.files.settled)
            (fronts_follow stands.files.numbers stands.files.numbers old.heap heap stands.files.opened.list held.held.opened.list world.plain.files (without_name world.plain.files freed) world.account
            stands.files.opened.opened held.held.opened.opened queues (λ key used. refl) (λ key used. refl) stands.files.fronts);
        settled = settled_still world.plain.files freed world.account stands.files.settled;
      };
      locks = subst (λ (h : Heap). HoldsLocks h.locks old.locks world.plain.files.locks) (sym beside) stands.locks;
      tree = record {
        stands = same_pins heap old.tree world.plain.files.tree (pins_in world.plain) (pins_in (unnamed_in world).plain) still tree_stands;
        kept = stands.tree.kept;
        reads = stands.tree.reads;
      };
      family = stands.family;
      works = stands.works;
    }
      where
        still : (number : ℕ) → pins_in world.plain number ≡ pins_in (unnamed_in world).plain number
        still number =
            ap (λ opened. count_by (λ node. node == number) (root ∷ opened ++ but_root (directories_of world.plain.table)))
            (sym (same_opened world.plain.files (without_name world.plain.files freed) refl world.plain.files.descriptions))

-- ---- a call that may free a name

module _ (script : Script) (old : Objects) (heap : Heap) (fs : TreeView) (before after : Purse) (pays : Pays old.heap heap before after old.tree fs)
    (then : Heap) (names : List (Option ℕ)) (freed : Option ℕ) (beside : then ≡ record heap { chunks = then.chunks; socks = then.socks; high = then.high })
    (well : IsWellFormed heap) (owners : HasItsOwners then []) (names_are : names ≡ freed_from old.names freed) (queues : QueuesStand heap then)
    (hold : (numbers : Numbers) (others : ℕ → ℕ) (kept : TableView) (fs : TreeView) (files : Files) → HoldFiles numbers others heap kept fs files → HaveNamesBut freed files
    → table_nodes files.tree.blocks < length old.names → HoldNames numbers others then kept fs names (without_name files freed)) where
  abbrev between : Objects
  between = mid script old heap fs before after pays

  pub kept_gone : (world : World) (pid : ℕ) (said : Reply) (answer : Answer) → StandsFor script old world → Freed script heap fs world.plain pid said freed answer
      → AreKept script (freed_as between then names)
  kept_gone world pid said answer was at =
      kept_freed script between then names freed beside well owners names_are queues hold (changed script old heap fs before after pays world at.tree)
      (stands_mid script old heap fs before after pays world at.tree was at.stands at.works) at.nodes at.names

  pub runs_gone : (pid : ℕ) (control : Control) → Runs old pid control → Runs (freed_as between then names) pid control
  runs_gone pid control runs = runs_freed script between then names freed beside pid control (runs_mid script old heap fs before after pays pid control runs)

  module _ (pid : ℕ) (which : Call) (changes : ChangesNames which) (right : argument_fault which ≡ None) (needed : before.left ≡ need_of which) where
    pub serves : (said : Reply) (told : Turned) (new : Objects) (answer : Plain → Answer) → told ≡ turned.Done said → GoesOn script (freed_as between then names) pid said new
        → ((world : World) → StandsFor script old world → IsSound world.plain → Freed script heap fs world.plain pid said freed (answer world.plain)) → Serves script old pid which answer told new
    serves said told new answer tells goes led = λ world was sound alive.
        let at = led world was sound in
        let base = changed script old heap fs before after pays world at.tree in
        let next = unnamed_in script between then names freed beside base in
        let stood : StandsFor script (freed_as between then names) next =
        stands_freed script between then names freed beside well owners names_are queues hold base
        (stands_mid script old heap fs before after pays world at.tree was at.stands at.works) at.nodes at.names in
        subst (λ a. WorldReached script new world pid which a told) (sym at.answers)
        (record {
          next = answered_in script next pid said;
          stands = goes next stood;
          tells = (tells, refl);
          account = sym (settled_account script old world was)
              ∙ sym (same_account world.plain freed world.account)
              ∙ ap (λ frames. account_on world.plain next.plain (with_frames world.account frames)) (sym (changes.frames world.account.frames pid said));
          keeps = keeps_on script old heap fs before after pays pid which changes right needed world at.tree (answered_in script next pid said).plain told was at.stands;
        })
