-- What a store's heap has in use.
use Rattle.std.proofs.Common.{◌≡◌, ◌≢◌, ◌⊎◌, ℕ, ◌+◌, ◌*◌, ◌/◌, ◌<◌, ◌≤◌, ◌==◌, true, false, cond, List, [], ◌∷◌, suc, map, length, is_some, Option, None, Some, refl, ap, sym, ◌∙◌, subst, inl, inr, arith}
use Rattle.std.specs.Prelude.{slice_index, sum_by}
use Rattle.std.specs.List.{Contains, count_by, range_with_len, sum}
use Rattle.std.specs.Option.{option_map}
use Rattle.std.proofs.lemmas.Bool.Decides.{eqb_tells}
use Rattle.std.proofs.lemmas.List.{length-append, length-map}
use Rattle.std.proofs.lemmas.List.Sums.{sum_by-append, sum_by-cons}
use Rattle.kabi_types.specs.Counts.{need_bytes}
use Rattle.kabi_types.specs.declared.classes.Need.{Need}
use Rattle.kabi_types.specs.declared.scripts.Script.{Script}
use Rattle.kheap_slabs.specs.Objects.{count, object}
use Rattle.lock_table.proofs.Tables.{each_counts}
use Rattle.kheap_slabs.specs.declared.objects.Chunk.{Chunk}
use Rattle.kheap_slabs.specs.declared.objects.Desc.{Desc}
use Rattle.kheap_slabs.specs.declared.objects.Pipe.{Pipe as HeldPipe}
use Rattle.kheap_slabs.specs.declared.objects.Proc.{Proc}
use Rattle.kheap_slabs.specs.declared.objects.QueueParts.{QueueParts}
use Rattle.kheap_slabs.specs.declared.objects.Sock.{Sock}
use Rattle.kheap_slabs.specs.Heap.{Heap, IsWellFormed, counts_of, live_bytes}
use Rattle.kheap_slabs.specs.Owners.{AreOwnersOf, IsOwned, OwnsItsObjects, chunk_keys, each_of, pipe_queues, sock_queues}
use Rattle.kheap_slabs.specs.Queues.{OwnedQueue, OwnsChunks}
use Rattle.kheap_slabs.specs.Spaces.{OwnsNodes, keys_in}
use Rattle.kheap_laws.proofs.OwnerLemmas.{IsOwned-space}
use Rattle.chunk_queue.specs.Chained.{place_of}
use Rattle.pipe_ends.specs.Standing.{StandsFor as PipeStandsFor}
use Rattle.open_laws.specs.Described.{Counted, CountedList, counted_in, uncounted}
use Rattle.open_laws.specs.Open.{AreOpen, HaveFronts}
use Rattle.open_laws.specs.Piped.{ArePiped}
use Rattle.open_laws.specs.Socketed.{AreSocketed}
use Rattle.open_laws.specs.Placed.{Numbers}
use Rattle.page_space.proofs.FrameCounts.{frames_are_pages}
use Rattle.page_space.proofs.NodeCounts.{count_of_keys, nodes_by_places}
use Rattle.posix_defs.specs.Memory.{Frames, frames_named, no_places, nodes_in, nodes_named, places_of}
use Rattle.posix_defs.specs.Process.{how_many}
use Rattle.posix_defs.specs.Account.{Account, chunks_taken, leaves_open, pipe_lengths, socket_lengths, unread_in_pipe, unread_in_socket}
use Rattle.posix_defs.specs.Files.Descriptions.{Description}
use Rattle.posix_defs.specs.Files.State.{Files}
use Rattle.posix_defs.specs.Pipe.{Pipe}
use Rattle.posix_defs.specs.QueuePlace.{chunks_of}
use Rattle.posix_defs.specs.Socket.{Socket}
use Rattle.posix_defs.specs.World.{Kept, World, live_of}
use Rattle.proc_table.specs.Accounting.{HasAccount, IsPlaced}
use Rattle.proc_table.specs.Procs.{proc_of}
use Rattle.proc_table.specs.Table.{keys_of}
use Rattle.proc_table.proofs.AccountLemmas.{pids_within}
use Rattle.proc_table.proofs.FamilyLemmas.{as_many, proc_has_pid}
use Rattle.proc_table.proofs.LawLemmas.{length-procs_at}
use Rattle.proc_table.proofs.OwnLemmas.{all_weaker, has_it, rising_procs}
use Rattle.proc_table.proofs.PlaceLemmas.{Contains-behind, some_same}
use Rattle.proc_table.proofs.SpaceLemmas.{owned_proc}
use Rattle.store_objects.specs.declared.objects.Objects.{Objects}
use Rattle.store_objects.specs.Objects.{AreKept, procs_of}
use Rattle.store_objects.specs.Standing.{StandsFor}
use Rattle.store_objects.specs.Trees.{pins_in}
use Rattle.store_objects.proofs.Keeping.{listed_in}
use Rattle.store_objects.proofs.KeptNow.{as_many_blocks, as_many_names, as_many_vnodes}
use Rattle.store_objects.proofs.Peeling.{by_pid}
use Rattle.store_objects.proofs.LeafCounts.{leaves_are}
use Rattle.store_objects.proofs.PidSums.{length-node_keys, sum_by_pids, value}
use Rattle.store_objects.proofs.PlacedSums.{sum_from, sum_placed, sum_ranged, sum_there}
use Rattle.store_objects.proofs.SocketPlaces.{sock_there, socks_placed}

no_nodes_in : nodes_in no_places ≡ 0
unfolding no_places
no_nodes_in = refl

-- the nodes of a pid
nodes_of_pid : (script : Script) (objects : Objects) (frames : Frames) → AreKept script objects → IsWellFormed objects.heap
    → HasAccount objects.heap objects.procs frames → (pid : ℕ) (o : Option Proc) → proc_of (procs_of objects) pid ≡ o
    → nodes_in (places_of frames pid) ≡ value (λ proc. length (keys_in proc.nodes)) o
nodes_of_pid script objects frames kept whole has pid None is = ap nodes_in (has.gone pid is) ∙ no_nodes_in
nodes_of_pid script objects frames kept whole has pid (Some proc) is =
    let placed : IsPlaced has.number objects.heap.nodes frames proc = has_it (IsPlaced has.number objects.heap.nodes frames) (procs_of objects) pid proc has.placed is in
    let four : length proc.nodes ≡ 4 = has_it (λ p. length p.nodes ≡ 4) (procs_of objects) pid proc kept.groups is in
    let owned = owned_proc objects.heap objects.procs kept.holds pid proc is in
    let owns : OwnsNodes objects.heap.nodes proc.nodes = IsOwned-space objects.heap owned.0 proc.nodes owned.1 in
    ap (λ p. nodes_in (places_of frames p)) (sym (proc_has_pid (procs_of objects) pid proc is))
    ∙ nodes_by_places objects.heap proc.nodes has.number (places_of frames proc.pid) whole owns four placed.places placed.whole

-- all nodes
nodes_all : (script : Script) (objects : Objects) (frames : Frames) → AreKept script objects → IsWellFormed objects.heap
    → HasAccount objects.heap objects.procs frames → count objects.heap.nodes ≡ nodes_named frames
nodes_all script objects frames kept whole has =
    let procs = procs_of objects in
    let made : length frames.places ≡ objects.procs.last = has.made in
    let within = all_weaker (λ (p : Proc). (0 < p.pid) × (p.pid ≤ objects.procs.last)) (λ p. p.pid ≤ 0 + length frames.places) procs
    (λ p both. let l : p.pid ≤ objects.procs.last = both.1 in omega arith)
    (pids_within objects.heap.procs objects.procs.listed 0 objects.procs.last kept.holds.stored kept.holds.rising) in
    let by = by_pid objects.heap objects.procs (listed_in script objects kept) kept.owners.objects in
    count_of_keys objects.heap.nodes _ by.owned.nodes ∙ length-node_keys procs
    ∙ sym (sum_by_pids nodes_in (λ proc. length (keys_in proc.nodes)) no_places frames.places 0 procs
    (rising_procs objects.heap.procs objects.procs.listed 0 objects.procs.last kept.holds.stored kept.holds.rising) within
    (λ i less. nodes_of_pid script objects frames kept whole has (suc i) (proc_of procs (suc i)) refl
    ∙ ap (λ k. value (λ proc. length (keys_in proc.nodes)) (proc_of procs k)) (let k : suc i ≡ 0 + 1 + i = omega arith in k)))

length-keys_of : (objects : Objects) → length (keys_of objects.procs.listed) ≡ length objects.procs.listed
length-keys_of objects = length-map objects.procs.listed _

-- ---- what is open

-- as many descriptions as Descs, as many pipes as Pipes, as many sockets as Socks
descs_are : (numbers : Numbers) (h : Heap) (list : CountedList) (files : Files) → AreOpen numbers h list files → count h.descs ≡ count_by is_some files.descriptions
descs_are numbers h list files are =
    sum_placed (λ (o : Option Desc). cond (is_some o) 1 0) (λ place (o : Option Counted). cond (is_some o) 1 0) refl (λ place. refl)
    (λ key desc counted. counted ≡ counted_in numbers desc) numbers.descs h.descs list are.described (λ key desc counted is at. refl)
    ∙ sum_there 0 list ∙ sym (as_listed list) ∙ ap (count_by is_some) (sym are.descriptions)
  where
    as_listed : (list : CountedList) → count_by is_some (uncounted list) ≡ count_by is_some list
    as_listed [] = refl
    as_listed (one ∷ list) =
        let now = sum_by-cons (λ (o : Option Description). cond (is_some o) 1 0) (option_map (λ (counted : Counted). counted.is) one) (uncounted list) in
        let was = sum_by-cons (λ (o : Option Counted). cond (is_some o) 1 0) one list in
        let rest = as_listed list in let here = same one in
        omega (arith, now, was, rest, here)
      where
        same : (o : Option Counted) → cond {A = ℕ} (is_some (option_map (λ (counted : Counted). counted.is) o)) 1 0 ≡ cond {A = ℕ} (is_some o) 1 0
        same None = refl
        same (Some counted) = refl

pipes_are : (numbers : Numbers) (h : Heap) (files : Files) → ArePiped numbers h files.pipes → count h.pipes ≡ count_by is_some files.pipes
pipes_are numbers h files are =
    sum_placed (λ (o : Option HeldPipe). cond (is_some o) 1 0) (λ place (o : Option Pipe). cond (is_some o) 1 0) refl (λ place. refl)
    (λ key held pipe. (at : ℕ) × PipeStandsFor h key pipe at) numbers.pipes h.pipes files.pipes are (λ key held pipe is at. refl)
    ∙ sum_there 0 files.pipes

socks_are : (numbers : Numbers) (h : Heap) (files : Files) → AreSocketed numbers h files.sockets → count h.socks ≡ count_by is_some files.sockets
socks_are numbers h files are =
    sum_placed (λ (o : Option Sock). cond (is_some o) 1 0) (λ place (o : Option Socket). cond (is_some o) 1 0) refl (λ place. refl)
    (λ key sock socket. sock.queue.len ≡ length socket.bytes) numbers.socks h.socks files.sockets (socks_placed numbers h files.sockets are) (λ key sock socket is at. refl)
    ∙ sum_there 0 files.sockets

-- ---- chunks

-- a queue has the chunks that its place and its length need
chunks_needed : (chunks : List (Option Chunk)) (queue : OwnedQueue) → OwnsChunks chunks queue → length queue.chunks ≡ chunks_of (place_of queue.parts)
chunks_needed chunks queue owns = by_length (eqb_tells queue.parts.len 0)
  where
    by_length : (((queue.parts.len == 0) ≡ true) × (queue.parts.len ≡ 0)) ⊎ (((queue.parts.len == 0) ≡ false) × (queue.parts.len ≢ 0)) → length queue.chunks ≡ chunks_of (place_of queue.parts)
    by_length (inl none) =
        let place = owns.empty none.1 in let needed = owns.needed in let len = none.1 in
        (let no : length queue.chunks ≡ 0 = omega (arith, place, needed, len) in no)
        ∙ sym (ap (λ b. cond b 0 ((queue.parts.place + queue.parts.len + 511) / 512)) none.0)
    by_length (inr some) =
        let enough = owns.enough in let needed = owns.needed in let isnt = some.1 in
        (let as_many : length queue.chunks ≡ (queue.parts.place + queue.parts.len + 511) / 512 = omega (arith, enough, needed, isnt) in as_many)
        ∙ sym (ap (λ b. cond b 0 ((queue.parts.place + queue.parts.len + 511) / 512)) some.0)

-- all of them have as many as they have together
length-chunk_keys : (chunks : List (Option Chunk)) (queues : List OwnedQueue) → ((queue : OwnedQueue) → Contains queues queue → OwnsChunks chunks queue)
    → length (chunk_keys queues) ≡ sum_by (λ parts. chunks_of (place_of parts)) (map (λ queue. queue.parts) queues)
length-chunk_keys chunks [] own = refl
length-chunk_keys chunks (queue ∷ queues) own =
    let here = chunks_needed chunks queue (own queue (0, omega arith, refl)) in
    let rest = length-chunk_keys chunks queues (λ other there. own other (Contains-behind queue other queues there)) in
    let both = length-append queue.chunks (chunk_keys queues) in
    let whole = sum_by-cons (λ (parts : QueueParts). chunks_of (place_of parts)) queue.parts (map (λ (q : OwnedQueue). q.parts) queues) in
    omega (arith, here, rest, both, whole)

-- what an object of a class takes, by its queue
chunks_in : {X : Type 0} → (X → QueueParts) → Option X → ℕ
chunks_in f None = 0
chunks_in f (Some x) = chunks_of (place_of (f x))

sum_of_each : {X : Type 0} (f : X → QueueParts) (objects : List (Option X)) → sum_by (λ parts. chunks_of (place_of parts)) (each_of f objects) ≡ sum_by (chunks_in f) objects
unfolding chunks_in
sum_of_each f [] = refl
sum_of_each f (None ∷ objects) = let rest = sum_of_each f objects in let whole = sum_by-cons (chunks_in f) None objects in omega (arith, rest, whole)
sum_of_each f (Some x ∷ objects) =
    let rest = sum_of_each f objects in
    let whole = sum_by-cons (chunks_in f) (Some x) objects in
    let parts = sum_by-cons (λ (p : QueueParts). chunks_of (place_of p)) (f x) (each_of f objects) in
    omega (arith, rest, whole, parts)

-- what a queue takes at a place, by its bytes and its front
taken_at : {Y : Type 0} → List ℕ → (Option Y → ℕ) → ℕ → Option Y → ℕ
taken_at fronts unread place thing = chunks_of (record { place = slice_index fronts place; len = unread thing })

chunks_taken_are : {Y : Type 0} (fronts : List ℕ) (unread : Option Y → ℕ) (things : List (Option Y)) → chunks_taken (map unread things) fronts ≡ sum_from (taken_at fronts unread) 0 things
unfolding taken_at
chunks_taken_are fronts unread things =
    ap (λ n. sum (map (λ place. chunks_of (record { place = slice_index fronts place; len = slice_index (map unread things) place })) (range_with_len 0 n))) (length-map things unread)
    ∙ sum_ranged (λ place len. chunks_of (record { place = slice_index fronts place; len = len })) unread (map unread things) 0 things
    (λ i. ap (slice_index (map unread things)) (let e : 0 + i ≡ i = omega arith in e))

pipe_chunks : (numbers : Numbers) (h : Heap) (files : Files) (account : Account) → ArePiped numbers h files.pipes → HaveFronts numbers h account
    → sum_by (λ parts. chunks_of (place_of parts)) (pipe_queues h.pipes) ≡ chunks_taken (pipe_lengths files) account.pipes
unfolding chunks_in taken_at
pipe_chunks numbers h files account are fronts =
    sum_of_each (λ (p : HeldPipe). p.queue) h.pipes
    ∙ sum_placed (chunks_in (λ (p : HeldPipe). p.queue)) (taken_at account.pipes unread_in_pipe) refl (λ place. refl)
    (λ key held pipe. (at : ℕ) × PipeStandsFor h key pipe at) numbers.pipes h.pipes files.pipes are
    (λ key held pipe is at.
    let stands = (are.means key held pipe is at).1 in
    let same : stands.held ≡ held = some_same (object h.pipes key) stands.held held stands.there is in
    ap (λ n. chunks_of (record { place = n; len = held.queue.len })) (sym (fronts.pipes key held is))
    ∙ ap (λ n. chunks_of (record { place = slice_index account.pipes (numbers.pipes key); len = n })) (sym (ap (λ (p : HeldPipe). p.queue.len) same) ∙ stands.len))
    ∙ sym (chunks_taken_are account.pipes unread_in_pipe files.pipes)

sock_chunks : (numbers : Numbers) (h : Heap) (files : Files) (account : Account) → AreSocketed numbers h files.sockets → HaveFronts numbers h account
    → sum_by (λ parts. chunks_of (place_of parts)) (sock_queues h.socks) ≡ chunks_taken (socket_lengths files) account.sockets
unfolding chunks_in taken_at
sock_chunks numbers h files account are fronts =
    sum_of_each (λ (s : Sock). s.queue) h.socks
    ∙ sum_placed (chunks_in (λ (s : Sock). s.queue)) (taken_at account.sockets unread_in_socket) refl (λ place. refl)
    (λ key sock socket. sock.queue.len ≡ length socket.bytes) numbers.socks h.socks files.sockets (socks_placed numbers h files.sockets are)
    (λ key sock socket is at.
    let it = sock_there numbers h files.sockets are key sock is in
    ap (λ n. chunks_of (record { place = n; len = sock.queue.len })) (sym (fronts.socks key sock is))
    ∙ ap (λ n. chunks_of (record { place = slice_index account.sockets (numbers.socks key); len = n }))
    (it.len ∙ ap (λ (s : Socket). length s.bytes) (some_same (object files.sockets (numbers.socks key)) it.socket socket it.there at)))
    ∙ sym (chunks_taken_are account.sockets unread_in_socket files.sockets)

-- as many chunks as the queues of the machine take
chunks_are : (numbers : Numbers) (h : Heap) (list : CountedList) (files : Files) (account : Account) → OwnsItsObjects h → AreOpen numbers h list files → HaveFronts numbers h account
    → count h.chunks ≡ chunks_taken (pipe_lengths files) account.pipes + chunks_taken (socket_lengths files) account.sockets
chunks_are numbers h list files account owns are fronts =
    let owned : IsOwned h owns.0 = owns.2 in
    let queues : AreOwnersOf h owns.0 = owns.1 in
    let counted = count_of_keys h.chunks _ owned.chunks in
    let together = length-chunk_keys h.chunks owns.0.queues owned.queues in
    let parts = ap (sum_by (λ (p : QueueParts). chunks_of (place_of p))) queues.queues in
    let both = sum_by-append (λ (p : QueueParts). chunks_of (place_of p)) (pipe_queues h.pipes) (sock_queues h.socks) in
    let in_pipes = pipe_chunks numbers h files account are.piped fronts in
    let in_socks = sock_chunks numbers h files account are.socketed fronts in
    counted ∙ together ∙ parts ∙ both ∙ ap (λ n. n + sum_by (λ (p : QueueParts). chunks_of (place_of p)) (sock_queues h.socks)) in_pipes
    ∙ ap (λ n. chunks_taken (pipe_lengths files) account.pipes + n) in_socks

-- What the heap has in use is what the world takes.
pub live_is : (script : Script) (objects : Objects) (world : World) → StandsFor script objects world → IsWellFormed objects.heap
    → live_bytes objects.heap ≡ live_of world
live_is script objects world stands whole =
    let kept = stands.kept in
    let has = stands.memory in
    let by = by_pid objects.heap objects.procs (listed_in script objects kept) kept.owners.objects in
    let opened = stands.files.opened.opened in
    let files = world.plain.files in
    let procs : count objects.heap.procs ≡ how_many world.plain.table =
    count_of_keys objects.heap.procs _ kept.all ∙ length-keys_of objects
    ∙ sym (length-procs_at objects.heap.procs objects.procs.listed kept.holds.stored) ∙ as_many stands.processes.table.present in
    let nodes : count objects.heap.nodes ≡ nodes_named world.account.frames = nodes_all script objects world.account.frames kept whole has in
    let pages : count objects.heap.pages ≡ frames_named world.account.frames = frames_are_pages has.number objects.heap.pages world.account.frames has.numbers
    (λ key used. subst (λ n. 0 < n) (sym (has.numbers.counts key used)) (by.owned.pages.named key used)) in
    let vnodes : count objects.heap.vnodes ≡ length world.kept.vnodes = as_many_vnodes objects.heap objects.tree world.plain.files.tree (pins_in world.plain) stands.tree.stands ∙ ap (λ (k : Kept). length k.vnodes) (sym stands.tree.kept) in
    let descs : count objects.heap.descs ≡ count_by is_some files.descriptions = descs_are stands.files.numbers objects.heap stands.files.opened.list files opened in
    let names : count objects.heap.names ≡ length world.kept.names = as_many_names objects.heap objects.tree world.plain.files.tree (pins_in world.plain) stands.tree.stands ∙ ap (λ (k : Kept). length k.names) (sym stands.tree.kept) in
    let blocks : count objects.heap.blocks ≡ length world.kept.blocks = as_many_blocks objects.heap objects.tree world.plain.files.tree (pins_in world.plain) stands.tree.stands ∙ ap (λ (k : Kept). length k.blocks) (sym stands.tree.kept) in
    let pipes : count objects.heap.pipes ≡ count_by is_some files.pipes = pipes_are stands.files.numbers objects.heap files opened.piped in
    let chunks = chunks_are stands.files.numbers objects.heap stands.files.opened.list files world.account kept.owners.objects opened stands.files.fronts in
    let socks : count objects.heap.socks ≡ count_by is_some files.sockets = socks_are stands.files.numbers objects.heap files opened.socketed in
    let locks : count objects.heap.locks ≡ length files.locks = each_counts objects.heap.locks objects.locks files.locks stands.locks in
    let leaves : count objects.heap.leaves ≡ leaves_open files = leaves_are stands.files.numbers objects.heap objects.procs files whole (listed_in script objects kept) stands.files.opened.descriptors in
    sum_is (counts_of objects.heap)
    (how_many world.plain.table) (nodes_named world.account.frames) (frames_named world.account.frames) (count_by is_some files.descriptions) (count_by is_some files.pipes) (count_by is_some files.sockets) (leaves_open files) (length files.locks)
    (chunks_taken (pipe_lengths files) world.account.pipes) (chunks_taken (socket_lengths files) world.account.sockets) (length world.kept.vnodes) (length world.kept.names) (length world.kept.blocks)
    procs nodes pages descs vnodes names blocks pipes chunks socks leaves locks
  where
    sum_is : (n : Need) (procs nodes pages descs pipes socks leaves locks in_pipes in_socks vnodes names blocks : ℕ) → n.proc ≡ procs → n.node ≡ nodes → n.page ≡ pages → n.desc ≡ descs → n.vnode ≡ vnodes → n.name ≡ names
        → n.block ≡ blocks → n.pipe ≡ pipes → n.chunk ≡ in_pipes + in_socks → n.sock ≡ socks → n.leaf ≡ leaves → n.lock ≡ locks
        → need_bytes n ≡ procs * 512 + nodes * 512 + pages * 4096 + (leaves * 256 + locks * 64 + descs * 64 + pipes * 128 + socks * 128 + (in_pipes + in_socks) * 576) + (names * 64 + blocks * 1088 + vnodes * 128)
    sum_is n procs nodes pages descs pipes socks leaves locks in_pipes in_socks vnodes names blocks e1 e2 e3 e4 e5 e6 e7 e8 e9 e10 e11 e12 = omega arith
