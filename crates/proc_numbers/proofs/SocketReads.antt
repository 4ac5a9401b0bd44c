-- What a read of a socket leads to.
use Rattle.std.proofs.Common.{◌≡◌, ◌⊎◌, ℕ, zero, suc, ◌+◌, ◌-◌, ◌%◌, ◌<◌, ◌≤◌, ◌++◌, Bool, true, false, cond, min, leb, ltb, ℤ, pos, List, [], ◌∷◌, take, drop, length, length-append, Option, None, Some, IsSome, refl, ap, sym, subst, ◌∙◌, arith, inl, inr}
use Rattle.std.proofs.lemmas.Bool.{cases_eq, ltb-true, ltb-false}
use Rattle.std.proofs.lemmas.Bool.Decides.{leb_tells}
use Rattle.std.proofs.lemmas.List.{length-take-le}
use Rattle.std.specs.Option.{option_map}
use Rattle.kabi_types.specs.Arguments.{count_of}
use Rattle.kabi_types.specs.declared.calls.Call.{Call}
use Rattle.kabi_types.specs.declared.calls.Call.TheVariants as call
use Rattle.kabi_types.specs.declared.replies.Reply.TheVariants.{Fail, Val}
use Rattle.kabi_types.specs.declared.scripts.Script.{Script}
use Rattle.kheap_slabs.specs.Purse.{Purse}
use Rattle.kheap_slabs.specs.Objects.{object}
use Rattle.kheap_slabs.specs.declared.objects.Chunk.{Chunk}
use Rattle.kheap_slabs.specs.declared.objects.Sock.{Sock}
use Rattle.kheap_slabs.proofs.ObjectLemmas.{object_of}
use Rattle.kheap_slabs.specs.Heap.{Heap}
use Rattle.kheap_slabs.specs.Owners.{with_space}
use Rattle.kheap_slabs.specs.Paid.{TakesNothing}
use Rattle.open_laws.specs.Socketed.{AreRenamed, stage_by}
use Rattle.open_laws.proofs.SocketLemmas.{placed_at}
use Rattle.page_space.specs.Contents.{IsOwnedWith, SpaceMoves}
use Rattle.page_space.specs.Putting.{Puts}
use Rattle.open_laws.specs.Placed.{Numbers}
use Rattle.posix_defs.specs.Account.{Account, front_after}
use Rattle.posix_defs.specs.Answer.{Blocked, failed, replied}
use Rattle.posix_defs.specs.Calls.Reading.{put, read_from_socket}
use Rattle.posix_defs.specs.Files.State.{with_sockets}
use Rattle.posix_defs.specs.Memory.{after_put, stored}
use Rattle.posix_defs.specs.MemoryCalls.{remembered}
use Rattle.posix_defs.specs.Pipe.{Moving, Moves, Blocks, Fails, not_now}
use Rattle.posix_defs.specs.Plain.{Plain, with_files}
use Rattle.posix_defs.specs.Process.{memory_of, with_memory}
use Rattle.posix_defs.specs.QueuePlace.{QueuePlace, after_take, at_front}
use Rattle.posix_defs.specs.Socket.{Connected, Idle, Listening, Socket, Stage, is_shut_write, peer_of}
use Rattle.posix_defs.specs.SocketLinks.{AreLinked, room_of}
use Rattle.posix_defs.specs.Sockets.{Sockets, after_read, read_in_stage, sock_at, sock_read, socket_at, stage_at, writes_no_more}
use Rattle.posix_defs.specs.declared.turner.Turned.TheVariants as turned
use Rattle.socket_laws.proofs.SocketLaws.{peer_there}
use Rattle.socket_laws.proofs.SocketTable.{sock_at-with_other, there_within}
use Rattle.proc_table.specs.Accounting.{HasAccount}
use Rattle.proc_table.specs.Standing.{IsTable}
use Rattle.proc_table.specs.Table.{TableView}
use Rattle.proc_table.proofs.LawLemmas.{elsewhere_account, elsewhere_table}
use Rattle.usock_core.specs.Standing.{LeavesOthers, OtherQueuesStay, StandsFor as SocketsStandFor, queue_at, queue_in}
use Rattle.usock_core.proofs.StandingLemmas.{found, used_from}
use Rattle.proc_numbers.specs.PipeMoving.{UnlessMoves, told_read}
use Rattle.proc_numbers.specs.Spaces.{HasSpace}
use Rattle.proc_numbers.specs.Standing.{IsKept, Leads, StandsFor}
use Rattle.proc_numbers.proofs.FrontsMoved.{front_moves, front_stays}
use Rattle.proc_numbers.proofs.Leading.{leads_nowhere, leads_to_sleep}
use Rattle.proc_numbers.proofs.Remembering.{account_put, fronts_put, kept_put, open_put, space_on, table_put}
use Rattle.proc_numbers.proofs.Settled.{forgotten}
use Rattle.proc_numbers.specs.SocketMoving.{ReadsSocket}
use Rattle.proc_numbers.specs.Owning.{SocketsChange}
use Rattle.proc_numbers.proofs.Moved.{fronts_changed, kept_changed, open_changed, same_nodes, same_pages, same_procs, spaces_own}
use Rattle.proc_numbers.proofs.Renaming.{renamed_by}

-- ---- by key and by place

-- its first bytes are taken
pub read_renamed : (number : ℕ → ℕ) (keyed sockets : Sockets) (key k : ℕ) → IsSome (sock_at keyed key) → AreRenamed number keyed sockets → AreRenamed number (after_read keyed key k) (after_read sockets (number key) k)
read_renamed number keyed sockets key k used are =
    renamed_by number keyed sockets key (λ (socket : Socket). record socket { bytes = drop k socket.bytes }) (λ (socket : Socket). refl) used are

is_shut_write-by : (number : ℕ → ℕ) (stage : Stage) → is_shut_write (stage_by number stage) ≡ is_shut_write stage
is_shut_write-by number Idle = refl
is_shut_write-by number (Listening waiting) = refl
is_shut_write-by number (Connected peer shut_read shut_write) = refl

-- and a read is told the same
pub read_told : (number : ℕ → ℕ) (keyed sockets : Sockets) (key : ℕ) (nonblock : Bool) (n : ℕ) → AreLinked keyed → AreRenamed number keyed sockets → IsSome (sock_at keyed key)
    → sock_read sockets (number key) nonblock n ≡ sock_read keyed key nonblock n
read_told number keyed sockets key nonblock n linked are used =
    ap (λ (s : Socket). read_in_stage sockets s.stage s.bytes nonblock n) (placed_at number keyed sockets key are used) ∙ by_stage (stage_at keyed key) refl
  where
    bytes : List ℕ
    bytes = (socket_at keyed key).bytes

    ends : (peer : Option ℕ) → peer_of (stage_at keyed key) ≡ peer → writes_no_more sockets (option_map number peer) ≡ writes_no_more keyed peer
    ends None is = refl
    ends (Some peer) is =
        ap (λ (s : Socket). is_shut_write s.stage) (placed_at number keyed sockets peer are (peer_there keyed key peer linked is)) ∙ is_shut_write-by number (stage_at keyed peer)

    by_stage : (stage : Stage) → stage_at keyed key ≡ stage → read_in_stage sockets (stage_by number stage) bytes nonblock n ≡ read_in_stage keyed stage bytes nonblock n
    by_stage Idle is = refl
    by_stage (Listening waiting) is = refl
    by_stage (Connected peer shut_read shut_write) is =
        ap (λ b. cond shut_read (Moves 0) (cond (ltb 0 (length bytes)) (Moves (min n (length bytes))) (cond b (Moves 0) (not_now nonblock)))) (ends peer (ap peer_of is))

-- ---- what moves

not_moves : (nonblock : Bool) (k : ℕ) → not_now nonblock ≡ Moves k → ⊥
not_moves true k e = cc
not_moves false k e = cc

moves_so : (a b : ℕ) → Moves a ≡ Moves b → a ≡ b
moves_so a b e = cc

-- who was shut for reading has no bytes, and nobody has more than 4096
room_few : (stage : Stage) → room_of stage ≤ 4096
room_few Idle = omega arith
room_few (Listening waiting) = omega arith
room_few (Connected peer true shut_write) = omega arith
room_few (Connected peer false shut_write) = omega arith

pub few_bytes : (sockets : Sockets) (key : ℕ) → AreLinked sockets → length (socket_at sockets key).bytes ≤ 4096
few_bytes sockets key linked = let room = linked.room key in let few = room_few (stage_at sockets key) in omega (arith, room, few)

-- what a read moves is there, and nothing only where no byte is
pub read_moves : (sockets : Sockets) (key : ℕ) (nonblock : Bool) (n k : ℕ) → AreLinked sockets → 0 < n → sock_read sockets key nonblock n ≡ Moves k
    → (k ≤ length (socket_at sockets key).bytes) × (k ≡ 0 → length (socket_at sockets key).bytes ≡ 0) × (k ≤ n)
read_moves sockets key nonblock n k linked some is = by_stage (stage_at sockets key) (linked.room key) is
  where
    bytes : List ℕ
    bytes = (socket_at sockets key).bytes

    ended : (peer : Option ℕ) (b : Bool) → length bytes ≡ 0 → cond b (Moves 0) (not_now nonblock) ≡ Moves k → (k ≤ length bytes) × (k ≡ 0 → length bytes ≡ 0) × (k ≤ n)
    ended peer true none e = let zero_so = moves_so 0 k e in (omega (arith, zero_so), λ z. none, omega (arith, zero_so))
    ended peer false none e = absurd (not_moves nonblock k e)

    by_bytes : (peer : Option ℕ) (b : Bool) → ltb 0 (length bytes) ≡ b → cond b (Moves (min n (length bytes))) (cond (writes_no_more sockets peer) (Moves 0) (not_now nonblock)) ≡ Moves k
        → (k ≤ length bytes) × (k ≡ 0 → length bytes ≡ 0) × (k ≤ n)
    by_bytes peer true there e =
        let taken = moves_so (min n (length bytes)) k e in
        let full = ltb-true 0 (length bytes) there in
        (omega (arith, taken), λ none. absurd (omega (arith, taken, full, some, none)), omega (arith, taken))
    by_bytes peer false there e = let none = ltb-false 0 (length bytes) there in ended peer (writes_no_more sockets peer) (omega (arith, none)) e

    by_stage : (stage : Stage) → length bytes ≤ room_of stage → read_in_stage sockets stage bytes nonblock n ≡ Moves k → (k ≤ length bytes) × (k ≡ 0 → length bytes ≡ 0) × (k ≤ n)
    by_stage Idle room e = cc
    by_stage (Listening waiting) room e = cc
    by_stage (Connected peer true shut_write) room e = let zero_so = moves_so 0 k e in let r : length bytes ≤ 0 = room in (omega (arith, zero_so), λ z. omega (arith, r), omega (arith, zero_so))
    by_stage (Connected peer false shut_write) room e = by_bytes peer (ltb 0 (length bytes)) refl e

-- 4096 bytes are all that can come
pub read_capped : (sockets : Sockets) (key : ℕ) (nonblock : Bool) (n : ℕ) → AreLinked sockets → sock_read sockets key nonblock (min n 4096) ≡ sock_read sockets key nonblock n
read_capped sockets key nonblock n linked = by_stage (stage_at sockets key)
  where
    bytes : List ℕ
    bytes = (socket_at sockets key).bytes

    by_stage : (stage : Stage) → read_in_stage sockets stage bytes nonblock (min n 4096) ≡ read_in_stage sockets stage bytes nonblock n
    by_stage Idle = refl
    by_stage (Listening waiting) = refl
    by_stage (Connected peer shut_read shut_write) =
        let few = few_bytes sockets key linked in
        ap (λ m. cond shut_read (Moves 0) (cond (ltb 0 (length bytes)) (Moves m) (cond (writes_no_more sockets peer) (Moves 0) (not_now nonblock))))
        (let e : min (min n 4096) (length bytes) ≡ min n (length bytes) = omega (arith, few) in e)

-- who is there after it was there before
read_there : (keyed : Sockets) (key k other : ℕ) → IsSome (sock_at keyed key) → IsSome (sock_at (after_read keyed key k) other) → IsSome (sock_at keyed other)
read_there keyed key k other used there = elim (cases_eq other key) [
  | inl same ↦ subst (λ o. IsSome (sock_at keyed o)) (sym same) used
  | inr apart ↦ subst IsSome (sock_at-with_other keyed key other (Some (record (socket_at keyed key) { bytes = drop k (socket_at keyed key).bytes }))
      (let within = there_within keyed key used in omega (arith, within)) apart) there
]

-- ---- what it leads to

-- where the queue of one socket has turned, those of all others stand
turned_front : (old new : Heap) (key k : ℕ) → queue_at new key ≡ after_take (queue_at old key) k → OtherQueuesStay old new key → k ≤ (queue_at old key).len → (k ≡ 0 → (queue_at old key).len ≡ 0)
    → ((other : ℕ) → (queue_at new other).len ≡ 0 → (queue_at new other).place ≡ 0)
    → (other : ℕ) → front_after (queue_at old other).len (queue_at new other).len (queue_at old other).place ≡ (queue_at new other).place
turned_front old new key k place others within some empty other = elim (cases_eq other key) [
  | inl same ↦ subst (λ o. front_after (queue_at old o).len (queue_at new o).len (queue_at old o).place ≡ (queue_at new o).place) (sym same)
      (subst (λ (q : QueuePlace). front_after (queue_at old key).len q.len (queue_at old key).place ≡ q.place) (sym place) taken)
  | inr apart ↦
      ap (λ (q : QueuePlace). front_after q.len (queue_at new other).len q.place) (sym (others other apart))
      ∙ front_stays (queue_at new other).len (queue_at new other).len (queue_at new other).place (queue_at new other).place (omega arith) refl (empty other)
]
  where
    was : QueuePlace
    was = queue_at old key

    len_after : (after_take was k).len ≡ was.len - k
    len_after = by_all (leb_tells was.len k)
      where
        by_all : (((leb was.len k) ≡ true) × (was.len ≤ k)) ⊎ (((leb was.len k) ≡ false) × (k < was.len)) → (after_take was k).len ≡ was.len - k
        by_all (inl all) = ap (λ b. (cond b at_front (record { place = (was.place + k) % 512; len = was.len - k })).len) all.0 ∙ (let a = all.1 in let e : 0 ≡ was.len - k = omega (arith, a) in e)
        by_all (inr part) = ap (λ b. (cond b at_front (record { place = (was.place + k) % 512; len = was.len - k })).len) part.0

    taken : front_after was.len (after_take was k).len was.place ≡ (after_take was k).place
    taken = ap (λ n. front_after was.len n was.place) len_after ∙ front_moves was.len k was.place was.place within some refl

-- a queue without bytes has its place at the front
pub empty_place : (h : Heap) (keyed : Sockets) → SocketsStandFor h keyed → (key : ℕ) → (queue_at h key).len ≡ 0 → (queue_at h key).place ≡ 0
empty_place h keyed stands key = by_sock (object h.socks key) refl
  where
    by_sock : (o : Option Sock) → object h.socks key ≡ o → (queue_in o).len ≡ 0 → (queue_in o).place ≡ 0
    by_sock None is none = refl
    by_sock (Some sock) is none = let it = found h keyed key sock stands.table is in it.kept.bytes.owns.empty none

module _ (old : Heap) (before : Purse) (new : Heap) (after : Purse) (kept : TableView) (pid : ℕ) (space : List (Option ℕ)) (key start k : ℕ)
    (is : IsKept old kept) (has : HasSpace old kept pid space) (keyed : Sockets) (was : SocketsStandFor old keyed) (used : IsSome (sock_at keyed key))
    (reads : ReadsSocket old before new after space key start keyed k) where
  mid_kept : IsKept reads.mid kept
  mid_kept = kept_changed old reads.mid reads.change kept is

  mid_space : HasSpace reads.mid kept pid space
  mid_space =
      space_on old reads.mid kept pid space (same_procs old reads.mid reads.change)
      (λ others owned. (record others { queues = reads.change.objects.0.queues }, spaces_own old reads.mid reads.change (with_space space others) owned reads.change.objects)) has

  abbrev unread : List ℕ
  unread = (socket_at keyed key).bytes

  pub kept_read : IsKept new kept
  kept_read = kept_put reads.mid before new after kept pid space start (take k unread) mid_kept mid_space reads.puts

  module _ (script : Script) (numbers : Numbers) (plain : Plain) (account : Account) (stands : StandsFor numbers old kept plain account) (same : stands.opened.opened.socketed.keyed ≡ keyed) (fd addr count : ℤ)
      (begins : start ≡ count_of addr) (within : k ≤ length unread) (some : k ≡ 0 → length unread ≡ 0) where
    abbrev place : ℕ
    place = numbers.socks key

    abbrev which : Call
    which = call.Read fd addr count

    abbrev fewer : Sockets
    fewer = after_read plain.files.sockets place k

    abbrev shorter : Plain
    shorter = with_files plain (with_sockets plain.files fewer)

    abbrev next : Plain
    next = remembered shorter pid (stored (memory_of plain.table pid) (count_of addr) (take k unread))

    took : length (take k unread) ≡ k
    took = length-take-le k unread within

    renamed : AreRenamed numbers.socks keyed plain.files.sockets
    renamed = subst (λ t. AreRenamed numbers.socks t plain.files.sockets) same stands.opened.opened.socketed.renamed

    renamed_then : AreRenamed numbers.socks (after_read keyed key k) fewer
    renamed_then = read_renamed numbers.socks keyed plain.files.sockets key k used renamed

    its_len : (queue_at old key).len ≡ length unread
    its_len =
        let u = used_from old keyed key was.table used in let o = object_of old.socks key u in
        ap (λ (q : QueuePlace). q.len) (ap queue_in o.1) ∙ (found old keyed key o.0 was.table o.1).kept.len

    pub moved : Leads script numbers new kept plain account pid which (put script shorter pid addr (take k unread)) (told_read (Moves k))
    moved =
        let mid = reads.mid in
        let change = reads.change in
        let mid_table = elsewhere_table old mid kept plain.table (same_procs old mid change) (same_nodes old mid change) (same_pages old mid change) stands.table in
        let mid_frames = elsewhere_account old mid kept account.frames (same_procs old mid change) (same_nodes old mid change) (same_pages old mid change) stands.frames in
        let mid_fronts = fronts_changed old mid change numbers kept is plain.files stands.opened (after_read keyed key k) fewer reads.stands renamed_then account stands.fronts
        (λ other there. subst (λ t. IsSome (sock_at t other)) (sym same) (read_there keyed key k other used there))
        (turned_front old mid key k reads.place reads.others (subst (λ n. k ≤ n) (sym its_len) within) (λ none. its_len ∙ some none) (empty_place mid (after_read keyed key k) reads.stands)) in
        let table = subst (λ a. IsTable new kept (with_memory plain.table pid (stored (memory_of plain.table pid) a (take k unread)))) begins
        (table_put mid before new after kept pid space start (take k unread) mid_kept mid_space reads.puts plain.table mid_table) in
        let frames = subst (λ a. HasAccount new kept (after_put account.frames pid a (length (take k unread)))) begins
        (account_put mid before new after kept pid space start (take k unread) mid_kept mid_space reads.puts account.frames mid_frames) in
        record {
          next = next;
          told_so = ap (λ n. replied script next pid (Val (pos n))) took;
          stands = record {
            table = table;
            opened = open_put mid before new after kept pid space start (take k unread) mid_kept mid_space reads.puts numbers next.files
                (open_changed old mid change numbers kept is plain.files stands.opened (after_read keyed key k) fewer reads.stands renamed_then);
            frames = subst (HasAccount new kept) (sym (forgotten new kept next (after_put account.frames pid (count_of addr) (length (take k unread))) kept_read.holds table frames)) frames;
            fronts = fronts_put mid before new after kept pid space start (take k unread) mid_kept mid_space reads.puts numbers _ _ refl refl mid_fronts;
          };
          controls = refl;
        }

module _ (old : Heap) (before : Purse) (new : Heap) (after : Purse) (kept : TableView) (pid : ℕ) (space : List (Option ℕ)) (key start n : ℕ) (nonblock : Bool)
    (is : IsKept old kept) (has : HasSpace old kept pid space) (keyed : Sockets) (was : SocketsStandFor old keyed) (used : IsSome (sock_at keyed key)) where
  pub kept_taken : (moving : Moving) → ((k : ℕ) → moving ≡ Moves k → ReadsSocket old before new after space key start keyed k) → UnlessMoves moving (new ≡ old) → IsKept new kept
  kept_taken (Moves k) reads refused = kept_read old before new after kept pid space key start k is has keyed was used (reads k refl)
  kept_taken Blocks reads refused = subst (λ (h : Heap). IsKept h kept) (sym refused) is
  kept_taken (Fails errno) reads refused = subst (λ (h : Heap). IsKept h kept) (sym refused) is

  module _ (script : Script) (numbers : Numbers) (plain : Plain) (account : Account) (stands : StandsFor numbers old kept plain account) (same : stands.opened.opened.socketed.keyed ≡ keyed) (fd addr count : ℤ)
      (begins : start ≡ count_of addr) (some : 0 < n) where
    its_bytes : (socket_at plain.files.sockets (numbers.socks key)).bytes ≡ (socket_at keyed key).bytes
    its_bytes =
        ap (λ (s : Socket). s.bytes)
        (placed_at numbers.socks keyed plain.files.sockets key (subst (λ t. AreRenamed numbers.socks t plain.files.sockets) same stands.opened.opened.socketed.renamed) used)

    -- What a read leads to, by what moves.
    pub leads_taken : (moving : Moving) → sock_read keyed key nonblock n ≡ moving → ((k : ℕ) → moving ≡ Moves k → ReadsSocket old before new after space key start keyed k)
        → UnlessMoves moving (new ≡ old)
        → Leads script numbers new kept plain account pid (call.Read fd addr count) (read_from_socket script plain pid (numbers.socks key) addr moving) (told_read moving)
    leads_taken (Moves k) answer reads refused =
        let within = read_moves keyed key nonblock n k was.linked some answer in
        subst (λ (b : List ℕ). Leads script numbers new kept plain account pid (call.Read fd addr count)
        (put script (with_files plain (with_sockets plain.files (after_read plain.files.sockets (numbers.socks key) k))) pid addr (take k b)) (told_read (Moves k)))
        (sym its_bytes)
        (moved old before new after kept pid space key start k is has keyed was used (reads k refl) script numbers plain account stands same fd addr count begins within.0 within.1)
    leads_taken Blocks answer reads refused =
        subst (λ (h : Heap). Leads script numbers h kept plain account pid (call.Read fd addr count) Blocked turned.Sleep) (sym refused)
        (leads_to_sleep script numbers old kept plain account pid (call.Read fd addr count) is stands)
    leads_taken (Fails errno) answer reads refused =
        subst (λ (h : Heap). Leads script numbers h kept plain account pid (call.Read fd addr count) (failed script plain pid errno) (turned.Done (Fail errno))) (sym refused)
        (leads_nowhere script numbers old kept plain account pid (call.Read fd addr count) is stands (Fail errno) refl)

-- ---- taken out, and put in memory

-- the first k are those that were read
taken_back : (k : ℕ) (xs ys : List ℕ) → k ≤ length xs → take k (take k xs ++ ys) ≡ take k xs
taken_back zero xs ys within = refl
taken_back (suc k) [] ys within = absurd (omega (arith, within))
taken_back (suc k) (x ∷ xs) ys within = ap (λ rest. x ∷ rest) (taken_back k xs ys (omega (arith, within)))

-- the space is owned still
pub owned_mid : (old mid : Heap) (space : List (Option ℕ)) → SocketsChange old mid [] → IsOwnedWith old space → IsOwnedWith mid space
owned_mid old mid space change is = (record is.0 { queues = change.objects.0.queues }, spaces_own old mid change (with_space space is.0) is.1 change.objects)

pub beside_both : (old mid new : Heap) (space now : List (Option ℕ)) → LeavesOthers old mid → SpaceMoves mid new space now
    → new ≡ record old { nodes = new.nodes; pages = new.pages; chunks = new.chunks; socks = new.socks; high = new.high }
beside_both old mid new space now others moves =
    moves.kept
    ∙ ap (λ (h : Heap). record h { nodes = new.nodes; pages = new.pages; high = new.high }) others.kept
    ∙ ap (λ (c : List (Option Chunk)). record old { nodes = new.nodes; pages = new.pages; chunks = c; socks = mid.socks; high = new.high }) (sym (ap (λ (h : Heap). h.chunks) moves.kept))
    ∙ ap (λ (s : List (Option Sock)). record old { nodes = new.nodes; pages = new.pages; chunks = new.chunks; socks = s; high = new.high }) (sym (ap (λ (h : Heap). h.socks) moves.kept))

pub beside_none : (old new : Heap) → new ≡ old → new ≡ record old { nodes = new.nodes; pages = new.pages; chunks = new.chunks; socks = new.socks; high = new.high }
beside_none old new is = subst (λ (h : Heap). h ≡ record old { nodes = h.nodes; pages = h.pages; chunks = h.chunks; socks = h.socks; high = h.high }) (sym is) refl

-- how a read that was answered so many bytes is answered by a socket, whose 4096 bytes are all that can come
module _ (sockets : Sockets) (key : ℕ) (nonblock : Bool) (n count : ℕ) (linked : AreLinked sockets) (answer : Moves count ≡ sock_read sockets key nonblock (min n 4096)) where
  pub answer_is : Moves count ≡ sock_read sockets key nonblock n
  answer_is = answer ∙ read_capped sockets key nonblock n linked

  -- the bytes that came stand in the room for them
  pub out_long : (was out : List ℕ) → 0 < n → out ≡ take count (socket_at sockets key).bytes ++ drop count was → count ≤ length out
  out_long was out some is =
      let there = (read_moves sockets key nonblock n count linked some (sym answer_is)).0 in
      let all = ap length is ∙ length-append (take count (socket_at sockets key).bytes) (drop count was) in
      let taken = length-take-le count (socket_at sockets key).bytes there in
      omega (arith, all, taken)

  -- what was put in memory
  module _ (some : 0 < n) (old : Heap) (before : Purse) (mid new : Heap) (after : Purse) (space : List (Option ℕ)) (start : ℕ) (was out : List ℕ) (change : SocketsChange old mid [])
      (takes : TakesNothing old mid) (stands : SocketsStandFor mid (after_read sockets key count)) (place : queue_at mid key ≡ after_take (queue_at old key) count) (others : OtherQueuesStay old mid key)
      (out_is : out ≡ take count (socket_at sockets key).bytes ++ drop count was)
      (puts : Puts mid before new after space start (take count out)) where
    pub reads_so : (k : ℕ) → sock_read sockets key nonblock n ≡ Moves k → ReadsSocket old before new after space key start sockets k
    reads_so k is =
        subst (ReadsSocket old before new after space key start sockets) (moves_so count k (answer_is ∙ is)) (record {
          mid = mid;
          change = change;
          takes = takes;
          stands = stands;
          place = place;
          others = others;
          puts = subst (Puts mid before new after space start)
              (ap (take count) out_is ∙ taken_back count (socket_at sockets key).bytes (drop count was) (read_moves sockets key nonblock n count linked some (sym answer_is)).0) puts;
        })

pub count_within : (sockets : Sockets) (key : ℕ) (nonblock : Bool) (n count : ℕ) → AreLinked sockets → 0 < n → Moves count ≡ sock_read sockets key nonblock (min n 4096) → count ≤ n
count_within sockets key nonblock n count linked some answer = (read_moves sockets key nonblock n count linked some (sym (answer_is sockets key nonblock n count linked answer))).2
