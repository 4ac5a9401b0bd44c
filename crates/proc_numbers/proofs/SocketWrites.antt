-- What a write to a socket leads to.
use Rattle.std.proofs.Common.{◌≡◌, ◌⊎◌, ℕ, ◌+◌, ◌-◌, ◌<◌, ◌≤◌, ◌==◌, ◌||◌, ◌++◌, Bool, true, false, cond, min, leb, ℤ, pos, List, [], take, length, Option, None, Some, IsSome, refl, ap, sym, subst, ◌∙◌, arith, ne_eqb, inl, inr}
use Rattle.std.specs.Option.{option_map}
use Rattle.std.proofs.lemmas.Bool.{cases_eq}
use Rattle.std.proofs.lemmas.Bool.Decides.{leb_tells}
use Rattle.std.proofs.lemmas.List.FromFn.{length-map-range_with_len}
use Rattle.kabi_types.specs.declared.calls.Call.{Call}
use Rattle.kabi_types.specs.declared.calls.Call.TheVariants as call
use Rattle.kabi_types.specs.declared.errnos.Errno.{Errno}
use Rattle.kabi_types.specs.declared.errnos.Errno.TheVariants.{EPIPE}
use Rattle.kabi_types.specs.declared.replies.Reply.TheVariants.{Fail, Val}
use Rattle.kabi_types.specs.declared.scripts.Script.{Script}
use Rattle.kheap_slabs.specs.Purse.{Purse}
use Rattle.kheap_slabs.specs.Heap.{Heap}
use Rattle.chunk_queue.specs.Moving.{moved_by, moving_of}
use Rattle.chunk_queue.specs.declared.moved.Moved.{Moved}
use Rattle.open_laws.specs.Socketed.{AreRenamed, stage_by}
use Rattle.open_laws.proofs.SocketLemmas.{placed_at, placed_stage}
use Rattle.open_laws.specs.Placed.{Numbers}
use Rattle.posix_defs.specs.Account.{Account, account_on}
use Rattle.posix_defs.specs.Answer.{Blocked, failed, replied}
use Rattle.posix_defs.specs.Calls.Writing.{did_part, is_unread_in, put_in_queue, put_in_socket, stopped, write_queue}
use Rattle.posix_defs.specs.Files.State.{with_sockets}
use Rattle.posix_defs.specs.Memory.{Memory, byte_at, loaded}
use Rattle.posix_defs.specs.Pipe.{Moving, Moves, Blocks, Fails, not_now}
use Rattle.posix_defs.specs.Plain.{Plain, with_files}
use Rattle.posix_defs.specs.QueuePlace.{QueuePlace}
use Rattle.posix_defs.specs.Socket.{Connected, Idle, Listening, Socket, Stage, is_connected, is_shut_read, peer_of}
use Rattle.posix_defs.specs.SocketLinks.{AreLinked}
use Rattle.posix_defs.specs.Sockets.{Sockets, after_write, free_at, reads_no_more, sent_to, sock_at, sock_write, socket_at, stage_at, write_in_stage, write_to, write_within}
use Rattle.posix_defs.specs.Turn.{account_after}
use Rattle.posix_defs.specs.declared.turner.Turned.TheVariants as turned
use Rattle.socket_laws.proofs.SocketLaws.{peer_there}
use Rattle.socket_laws.proofs.SocketTable.{sock_at-with_other, there_within}
use Rattle.proc_table.specs.Accounting.{HasAccount}
use Rattle.proc_table.specs.Table.{TableView}
use Rattle.proc_table.proofs.LawLemmas.{elsewhere_account, elsewhere_table}
use Rattle.usock_core.specs.Standing.{queue_at}
use Rattle.usock_core.specs.Steps.{Sends}
use Rattle.proc_numbers.specs.PipeMoving.{UnlessMoves, moved_in, told_write}
use Rattle.proc_numbers.specs.Standing.{IsKept, IsTold, Leads, StandsFor}
use Rattle.proc_numbers.proofs.Capped.{loaded_taken, moved_same}
use Rattle.proc_numbers.proofs.FrontsMoved.{front_stays}
use Rattle.proc_numbers.proofs.Leading.{leads_nowhere, leads_to_sleep}
use Rattle.proc_numbers.proofs.RightBytes.{loaded_at}
use Rattle.proc_numbers.proofs.Settled.{forgotten}
use Rattle.proc_numbers.specs.SocketMoving.{WritesSocket}
use Rattle.proc_numbers.specs.Owning.{SocketsChange}
use Rattle.proc_numbers.proofs.Moved.{fronts_changed, kept_changed, open_changed, same_nodes, same_pages, same_procs}
use Rattle.proc_numbers.proofs.SocketReads.{empty_place}
use Rattle.proc_numbers.proofs.Renaming.{renamed_by}

-- ---- by key and by place

peer_of-by : (number : ℕ → ℕ) (stage : Stage) → peer_of (stage_by number stage) ≡ option_map number (peer_of stage)
peer_of-by number Idle = refl
peer_of-by number (Listening waiting) = refl
peer_of-by number (Connected peer shut_read shut_write) = refl

is_shut_read-by : (number : ℕ → ℕ) (stage : Stage) → is_shut_read (stage_by number stage) ≡ is_shut_read stage
is_shut_read-by number Idle = refl
is_shut_read-by number (Listening waiting) = refl
is_shut_read-by number (Connected peer shut_read shut_write) = refl

is_connected-by : (number : ℕ → ℕ) (stage : Stage) → is_connected (stage_by number stage) ≡ is_connected stage
is_connected-by number Idle = refl
is_connected-by number (Listening waiting) = refl
is_connected-by number (Connected peer shut_read shut_write) = refl

module _ (number : ℕ → ℕ) (keyed sockets : Sockets) (key : ℕ) (linked : AreLinked keyed) (are : AreRenamed number keyed sockets) (used : IsSome (sock_at keyed key)) where
  -- bytes go to the peer
  pub write_renamed : (bytes : List ℕ) (k : ℕ) → AreRenamed number (after_write keyed key bytes k) (after_write sockets (number key) bytes k)
  write_renamed bytes k =
      subst (λ peer. AreRenamed number (sent_to keyed (peer_of (stage_at keyed key)) (take k bytes)) (sent_to sockets peer (take k bytes)))
      (sym (ap peer_of (placed_stage number keyed sockets key are used) ∙ peer_of-by number (stage_at keyed key)))
      (by_peer (peer_of (stage_at keyed key)) refl)
    where
      by_peer : (peer : Option ℕ) → peer_of (stage_at keyed key) ≡ peer → AreRenamed number (sent_to keyed peer (take k bytes)) (sent_to sockets (option_map number peer) (take k bytes))
      by_peer None is = are
      by_peer (Some peer) is =
          renamed_by number keyed sockets peer (λ (socket : Socket). record socket { bytes = socket.bytes ++ take k bytes }) (λ (socket : Socket). refl) (peer_there keyed key peer linked is) are

  pub connected_told : is_connected (stage_at sockets (number key)) ≡ is_connected (stage_at keyed key)
  connected_told = ap is_connected (placed_stage number keyed sockets key are used) ∙ is_connected-by number (stage_at keyed key)

  -- and a write is told the same
  pub write_told : (nonblock : Bool) (m : ℕ) → sock_write sockets (number key) nonblock m ≡ sock_write keyed key nonblock m
  write_told nonblock m = ap (λ stage. write_in_stage sockets stage nonblock m) (placed_stage number keyed sockets key are used) ∙ by_stage (stage_at keyed key) refl
    where
      takes : (peer : Option ℕ) → peer_of (stage_at keyed key) ≡ peer → write_to sockets (option_map number peer) nonblock m ≡ write_to keyed peer nonblock m
      takes None is = refl
      takes (Some peer) is =
          let there = peer_there keyed key peer linked is in
          ap (λ (s : Socket). cond (is_shut_read s.stage) (Fails EPIPE) (write_within (4096 - length s.bytes) nonblock m)) (placed_at number keyed sockets peer are there)
          ∙ ap (λ b. cond b (Fails EPIPE) (write_within (free_at keyed peer) nonblock m)) (is_shut_read-by number (stage_at keyed peer))

      by_stage : (stage : Stage) → stage_at keyed key ≡ stage → write_in_stage sockets (stage_by number stage) nonblock m ≡ write_in_stage keyed stage nonblock m
      by_stage Idle is = refl
      by_stage (Listening waiting) is = refl
      by_stage (Connected peer shut_read shut_write) is = ap (cond shut_write (Fails EPIPE)) (takes peer (ap peer_of is))

  -- whether anybody reads what is written is the same
  pub unread_told : is_unread_in sockets (stage_at sockets (number key)) ≡ is_unread_in keyed (stage_at keyed key)
  unread_told = ap (is_unread_in sockets) (placed_stage number keyed sockets key are used) ∙ by_stage (stage_at keyed key) refl
    where
      by_peer : (peer : Option ℕ) → peer_of (stage_at keyed key) ≡ peer → reads_no_more sockets (option_map number peer) ≡ reads_no_more keyed peer
      by_peer None is = refl
      by_peer (Some peer) is =
          ap (λ (s : Socket). is_shut_read s.stage) (placed_at number keyed sockets peer are (peer_there keyed key peer linked is))
          ∙ is_shut_read-by number (stage_at keyed peer)

      by_stage : (stage : Stage) → stage_at keyed key ≡ stage → is_unread_in sockets (stage_by number stage) ≡ is_unread_in keyed stage
      by_stage Idle is = refl
      by_stage (Listening waiting) is = refl
      by_stage (Connected peer shut_read shut_write) is = ap (λ b. shut_write || b) (by_peer peer (ap peer_of is))

  -- who is there after it was there before
  pub write_there : (bytes : List ℕ) (k other : ℕ) → IsSome (sock_at (after_write keyed key bytes k) other) → IsSome (sock_at keyed other)
  write_there bytes k other = by_peer (peer_of (stage_at keyed key)) refl
    where
      by_peer : (peer : Option ℕ) → peer_of (stage_at keyed key) ≡ peer → IsSome (sock_at (sent_to keyed peer (take k bytes)) other) → IsSome (sock_at keyed other)
      by_peer None is there = there
      by_peer (Some peer) is there = elim (cases_eq other peer) [
        | inl same ↦ subst (λ o. IsSome (sock_at keyed o)) (sym same) (peer_there keyed key peer linked is)
        | inr apart ↦ subst IsSome (sock_at-with_other keyed peer other (Some (record (socket_at keyed peer) { bytes = (socket_at keyed peer).bytes ++ take k bytes }))
            (let within = there_within keyed peer (peer_there keyed key peer linked is) in omega (arith, within)) apart) there
      ]

-- ---- how many bytes go

not_moved : (nonblock : Bool) (m : ℕ) → moved_in (not_now nonblock) ≤ m
not_moved true m = omega arith
not_moved false m = omega arith

within_few : (free : ℕ) (nonblock : Bool) (m : ℕ) → moved_in (write_within free nonblock m) ≤ m
within_few free nonblock m = by_room (leb_tells m free)
  where
    by_free : (b : Bool) → free < m → moved_in (cond b (not_now nonblock) (Moves free)) ≤ m
    by_free true less = not_moved nonblock m
    by_free false less = omega (arith, less)

    by_room : (((leb m free) ≡ true) × (m ≤ free)) ⊎ (((leb m free) ≡ false) × (free < m)) → moved_in (write_within free nonblock m) ≤ m
    by_room (inl fits) = subst (λ b. moved_in (cond b (Moves m) (cond (free == 0) (not_now nonblock) (Moves free))) ≤ m) (sym fits.0) (omega arith)
    by_room (inr part) = subst (λ b. moved_in (cond b (Moves m) (cond (free == 0) (not_now nonblock) (Moves free))) ≤ m) (sym part.0) (by_free (free == 0) part.1)

-- no more than are left
pub write_few : (sockets : Sockets) (key : ℕ) (nonblock : Bool) (m : ℕ) → moved_in (sock_write sockets key nonblock m) ≤ m
write_few sockets key nonblock m = by_stage (stage_at sockets key)
  where
    by_shut : (peer : ℕ) (b : Bool) → moved_in (cond b (Fails EPIPE) (write_within (free_at sockets peer) nonblock m)) ≤ m
    by_shut peer true = omega arith
    by_shut peer false = within_few (free_at sockets peer) nonblock m

    by_peer : (peer : Option ℕ) → moved_in (write_to sockets peer nonblock m) ≤ m
    by_peer None = omega arith
    by_peer (Some peer) = by_shut peer (is_shut_read (stage_at sockets peer))

    by_stage : (stage : Stage) → moved_in (write_in_stage sockets stage nonblock m) ≤ m
    by_stage Idle = omega arith
    by_stage (Listening waiting) = omega arith
    by_stage (Connected peer shut_read true) = omega arith
    by_stage (Connected peer shut_read false) = by_peer peer

-- a peer takes no more than 4096, however many are left
within_capped : (free : ℕ) (nonblock : Bool) (m : ℕ) → free ≤ 4096 → write_within free nonblock (min m 4096) ≡ write_within free nonblock m
within_capped free nonblock m few = by_size (leb_tells m 4096)
  where
    by_size : (((leb m 4096) ≡ true) × (m ≤ 4096)) ⊎ (((leb m 4096) ≡ false) × (4096 < m)) → write_within free nonblock (min m 4096) ≡ write_within free nonblock m
    by_size (inl less) = ap (write_within free nonblock) (let f : m ≤ 4096 = less.1 in let e : min m 4096 ≡ m = omega (arith, f) in e)
    by_size (inr more) =
        let f : 4096 < m = more.1 in
        ap (write_within free nonblock) (let e : min m 4096 ≡ 4096 = omega (arith, f) in e)
        ∙ by_room (leb_tells 4096 free)
        ∙ sym (ap (λ b. cond b (Moves m) (cond (free == 0) (not_now nonblock) (Moves free))) (too_many (leb_tells m free)))
      where
        too_many : (((leb m free) ≡ true) × (m ≤ free)) ⊎ (((leb m free) ≡ false) × (free < m)) → leb m free ≡ false
        too_many (inl fits) = absurd (let g : m ≤ free = fits.1 in let f : 4096 < m = more.1 in omega (arith, f, g, few))
        too_many (inr none) = none.0

        by_room : (((leb 4096 free) ≡ true) × (4096 ≤ free)) ⊎ (((leb 4096 free) ≡ false) × (free < 4096)) → write_within free nonblock 4096 ≡ cond (free == 0) (not_now nonblock) (Moves free)
        by_room (inl fits) =
            let g : 4096 ≤ free = fits.1 in
            let is : free ≡ 4096 = omega (arith, few, g) in
            ap (λ b. cond b (Moves 4096) (cond (free == 0) (not_now nonblock) (Moves free))) fits.0
            ∙ ap Moves (sym is)
            ∙ sym (ap (λ b. cond b (not_now nonblock) (Moves free)) (ne_eqb free 0 (λ none. omega (arith, none, g))))
        by_room (inr part) = ap (λ b. cond b (Moves 4096) (cond (free == 0) (not_now nonblock) (Moves free))) part.0

pub write_capped : (sockets : Sockets) (key : ℕ) (nonblock : Bool) (m : ℕ) → sock_write sockets key nonblock (min m 4096) ≡ sock_write sockets key nonblock m
write_capped sockets key nonblock m = by_stage (stage_at sockets key)
  where
    by_peer : (peer : Option ℕ) → write_to sockets peer nonblock (min m 4096) ≡ write_to sockets peer nonblock m
    by_peer None = refl
    by_peer (Some peer) = ap (cond (is_shut_read (stage_at sockets peer)) (Fails EPIPE)) (within_capped (free_at sockets peer) nonblock m (omega arith))

    by_stage : (stage : Stage) → write_in_stage sockets stage nonblock (min m 4096) ≡ write_in_stage sockets stage nonblock m
    by_stage Idle = refl
    by_stage (Listening waiting) = refl
    by_stage (Connected peer shut_read shut_write) = ap (cond shut_write (Fails EPIPE)) (by_peer peer)

-- ---- the bytes that go

-- Of the n - done bytes that are left at most 4096 were copied, from where they begin.
module _ (sockets : Sockets) (key : ℕ) (nonblock : Bool) (n done start rest : ℕ) (memory : Memory) (bytes : List ℕ) (len : ℕ) (bytes_are : bytes ≡ loaded memory rest len) (len_is : len ≡ min (n - done) 4096)
    (begins : done < n → rest ≡ start + done) (answer : Moved) (moves : moving_of answer ≡ sock_write sockets key nonblock (length bytes)) where
  long : length bytes ≡ len
  long = ap length bytes_are ∙ length-map-range_with_len (byte_at memory) rest len

  -- as many go as of all that are left
  pub put_answer : moving_of answer ≡ sock_write sockets key nonblock (n - done)
  put_answer = moves ∙ ap (sock_write sockets key nonblock) (long ∙ len_is) ∙ write_capped sockets key nonblock (n - done)

  same_count : moved_by answer ≡ moved_in (sock_write sockets key nonblock (n - done))
  same_count = moved_same answer ∙ ap moved_in put_answer

  few : moved_by answer ≤ len
  few = subst (λ m. m ≤ len) (sym (moved_same answer ∙ ap moved_in moves)) (subst (λ l. moved_in (sock_write sockets key nonblock (length bytes)) ≤ l) long (write_few sockets key nonblock (length bytes)))

  same_bytes : take (moved_by answer) bytes ≡ take (moved_by answer) (loaded memory (start + done) (n - done))
  same_bytes =
      ap (take (moved_by answer)) bytes_are
      ∙ loaded_taken memory rest (moved_by answer) len few
      ∙ loaded_at memory rest (start + done) (moved_by answer) (λ some. begins (let f = few in let l = len_is in omega (arith, f, l, some)))
      ∙ sym (loaded_taken memory (start + done) (moved_by answer) (n - done) (let f = few in let l = len_is in omega (arith, f, l)))

  -- and they are the same ones
  pub put_bytes : after_write sockets key bytes (moved_by answer) ≡ after_write sockets key (loaded memory (start + done) (n - done)) (moved_in (sock_write sockets key nonblock (n - done)))
  put_bytes =
      ap (sent_to sockets (peer_of (stage_at sockets key))) same_bytes
      ∙ ap (λ k. after_write sockets key (loaded memory (start + done) (n - done)) k) same_count

-- no queue has its front elsewhere, nor fewer bytes
pub sent_queues : (old : Heap) (before : Purse) (new : Heap) (after : Purse) (peer : Option ℕ) (count : ℕ) → Sends old before new after peer count
    → (other : ℕ) → ((queue_at new other).place ≡ (queue_at old other).place) × ((queue_at old other).len ≤ (queue_at new other).len)
sent_queues old before new after None count sends other =
    (ap (λ (h : Heap). (queue_at h other).place) sends.0, subst (λ (h : Heap). (queue_at old other).len ≤ (queue_at h other).len) (sym sends.0) (omega arith))
sent_queues old before new after (Some peer) count sends other = elim (cases_eq other peer) [
  | inl same ↦
      subst (λ o. ((queue_at new o).place ≡ (queue_at old o).place) × ((queue_at old o).len ≤ (queue_at new o).len)) (sym same)
      (ap (λ (q : QueuePlace). q.place) sends.0, subst (λ (q : QueuePlace). (queue_at old peer).len ≤ q.len) (sym sends.0) (omega arith))
  | inr apart ↦
      let stays = sends.1 other apart in
      (ap (λ (q : QueuePlace). q.place) stays, subst (λ (q : QueuePlace). (queue_at old other).len ≤ q.len) (sym stays) (omega arith))
]

-- ---- what it leads to

-- bytes moved: what is told is what is answered, and the account goes on with the machine
told_moved : (script : Script) (plain next : Plain) (pid n done k : ℕ) (all nonblock : Bool)
    → IsTold script plain pid
    (cond all (replied script next pid (Val (pos n))) (cond nonblock (replied script next pid (Val (pos (done + k)))) (did_part next pid k)))
    (cond all (turned.Done (Val (pos n))) (cond nonblock (turned.Done (Val (pos (done + k)))) (turned.Part k))) next
told_moved script plain next pid n done k true nonblock = refl
told_moved script plain next pid n done k false true = refl
told_moved script plain next pid n done k false false = refl

account_moved : (script : Script) (account : Account) (plain next : Plain) (pid : ℕ) (fd addr count : ℤ) (before n done k : ℕ) (all nonblock : Bool)
    → account_after account plain pid (call.Write fd addr count before)
    (cond all (replied script next pid (Val (pos n))) (cond nonblock (replied script next pid (Val (pos (done + k)))) (did_part next pid k)))
    ≡ account_on plain next account
account_moved script account plain next pid fd addr count before n done k true nonblock = refl
account_moved script account plain next pid fd addr count before n done k false true = refl
account_moved script account plain next pid fd addr count before n done k false false = refl

module _ (script : Script) (numbers : Numbers) (old new : Heap) (kept : TableView) (plain : Plain) (account : Account) (pid : ℕ) (fd addr count : ℤ) (before key : ℕ)
    (is : IsKept old kept) (stands : StandsFor numbers old kept plain account) (used : IsSome (sock_at stands.opened.opened.socketed.keyed key)) (nonblock : Bool) (n done : ℕ) (bytes : List ℕ)
    (change : SocketsChange old new []) where
  abbrev keyed : Sockets
  keyed = stands.opened.opened.socketed.keyed

  abbrev place : ℕ
  place = numbers.socks key

  abbrev which : Call
  which = call.Write fd addr count before

  -- some bytes went to the peer
  moved : (k : ℕ) → WritesSocket old new key keyed bytes k
      → Leads script numbers new kept plain account pid which
      (put_in_queue script (with_files plain (put_in_socket plain.files place bytes k)) pid nonblock n done k) (told_write nonblock n done (Moves k))
  moved k writes =
      let sockets : Sockets = after_write plain.files.sockets place bytes k in
      let next : Plain = with_files plain (with_sockets plain.files sockets) in
      let linked = stands.opened.opened.socketed.stands.linked in
      let renamed = write_renamed numbers.socks keyed plain.files.sockets key linked stands.opened.opened.socketed.renamed used bytes k in
      let table = elsewhere_table old new kept plain.table (same_procs old new change) (same_nodes old new change) (same_pages old new change) stands.table in
      let frames = elsewhere_account old new kept account.frames (same_procs old new change) (same_nodes old new change) (same_pages old new change) stands.frames in
      let keeps = kept_changed old new change kept is in
      let fronts = fronts_changed old new change numbers kept is plain.files stands.opened (after_write keyed key bytes k) sockets writes.stands renamed account stands.fronts
      (write_there numbers.socks keyed plain.files.sockets key linked stands.opened.opened.socketed.renamed used bytes k)
      (λ other. front_stays (queue_at old other).len (queue_at new other).len (queue_at old other).place (queue_at new other).place (writes.queues other).1 (sym (writes.queues other).0)
      (empty_place new (after_write keyed key bytes k) writes.stands other)) in
      record {
        next = next;
        told_so = told_moved script plain next pid n done k (k == n - done) nonblock;
        stands = subst (StandsFor numbers new kept next) (sym (account_moved script account plain next pid fd addr count before n done k (k == n - done) nonblock)) (record {
          table = table;
          opened = open_changed old new change numbers kept is plain.files stands.opened (after_write keyed key bytes k) sockets writes.stands renamed;
          frames = subst (HasAccount new kept) (sym (forgotten new kept next account.frames keeps.holds table frames)) frames;
          fronts = record { pipes = fronts.pipes; socks = fronts.socks };
        });
        controls = refl;
      }

  -- none did
  stops : (errno : Errno) (b : Bool) → Leads script numbers old kept plain account pid which
      (cond b (failed script plain pid errno) (replied script plain pid (Val (pos done)))) (cond b (turned.Done (Fail errno)) (turned.Done (Val (pos done))))
  stops errno true = leads_nowhere script numbers old kept plain account pid which is stands (Fail errno) refl
  stops errno false = leads_nowhere script numbers old kept plain account pid which is stands (Val (pos done)) refl

  -- What a write leads to, by what moves.
  pub leads_written : (moving : Moving) → WritesSocket old new key keyed bytes (moved_in moving) → UnlessMoves moving (new ≡ old)
      → Leads script numbers new kept plain account pid which
      (write_queue script plain pid nonblock n done (put_in_socket plain.files place bytes) moving) (told_write nonblock n done moving)
  leads_written (Moves k) writes refused = moved k writes
  leads_written Blocks writes refused =
      subst (λ (h : Heap). Leads script numbers h kept plain account pid which Blocked turned.Sleep) (sym refused)
      (leads_to_sleep script numbers old kept plain account pid which is stands)
  leads_written (Fails errno) writes refused =
      subst (λ (h : Heap). Leads script numbers h kept plain account pid which (stopped script plain pid done errno) (told_write nonblock n done (Fails errno))) (sym refused)
      (stops errno (done == 0))
