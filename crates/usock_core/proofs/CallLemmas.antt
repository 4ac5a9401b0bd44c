-- What the sockets of a heap stand for after each call.
use Rattle.std.proofs.Common.{◌≡◌, inl, inr, ℕ, zero, suc, ℤ, ◌≤◌, Bool, true, false, List, [], ◌∷◌, ◌++◌, take, drop, length, Option, None, Some, is_some, IsSome, refl, sym, ap, subst, ◌∙◌, arith}
use Rattle.std.specs.Prelude.{◌||◌, if◌then◌else◌}
use Rattle.kheap_slabs.specs.Objects.{object}
use Rattle.kheap_slabs.specs.declared.objects.Sock.{Sock}
use Rattle.kheap_slabs.specs.declared.objects.SockState.TheVariants as state
use Rattle.kheap_slabs.specs.Heap.{Heap}
use Rattle.kheap_slabs.specs.Owners.{OwnsItsObjects}
use Rattle.std.proofs.lemmas.Bool.{cases_eq}
use Rattle.std.proofs.lemmas.List.{append-nil}
use Rattle.kheap_slabs.proofs.ObjectLemmas.{object_of}
use Rattle.kabi_types.specs.declared.errnos.Errno.TheVariants as errno
use Rattle.posix_defs.specs.Pipe.{Fails}
use Rattle.posix_defs.specs.QueuePlace.{QueuePlace, after_take}
use Rattle.posix_defs.specs.Socket.{Stage, Idle, Listening, Connected, Socket, new_socket, peer_of, waiting_of, listen_fault, listening, behind_first, without_first, shuts_reading, shuts_writing, shut_further, after_shutdown}
use Rattle.posix_defs.specs.Sockets.{Sockets, sock_at, socket_at, stage_at, with_bytes, with_name, with_new, after_listen, after_accept, after_read, sock_read, read_in_stage, sock_write, write_in_stage, write_to, sent_to, after_write, after_shut}
use Rattle.posix_defs.specs.SocketLinks.{AreLinked}
use Rattle.socket_laws.proofs.SocketTable.{sock_at-with, sock_at-with_other, length-with_there, there_within}
use Rattle.socket_laws.proofs.SocketCalls.{new_linked, named_linked, listen_linked, accept_linked, read_linked, shut_linked, write_linked}
use Rattle.socket_laws.proofs.SocketLaws.{peer_there}
use Rattle.chunk_queue.specs.Moving.{moving_of, moved_by}
use Rattle.chunk_queue.specs.declared.moved.Moved.{Moved}
use Rattle.chunk_queue.specs.declared.moved.Moved.TheVariants as moves
use Rattle.chunk_queue.specs.Chained.{place_of, owned, unread, TakesOut}
use Rattle.chunk_queue.proofs.HeldLemmas.{sock_queue_in, HasBytes-one}
use Rattle.chunk_queue.proofs.StepLemmas.{owns, minus_zero, taken_none}
use Rattle.usock_core.specs.Standing.{state_of, in_row, IsShape, IsTable, StandsFor, queue_in, queue_at}
use Rattle.usock_core.specs.Steps.{Becomes, Comes, Turns}
use Rattle.usock_core.proofs.StandingLemmas.{found, free_from, used_from, table_same}

pub made_stands : (old new : Heap) (key : ℕ) (now : Sock) (sockets : Sockets) → Comes old new key now → IsShape now new_socket → StandsFor old sockets → StandsFor new (with_new sockets key)
made_stands old new key now sockets comes shape stands = record {
  table = comes.table sockets new_socket stands.table shape refl;
  linked = new_linked sockets key stands.linked (free_from old sockets key stands.table comes.vacant) (let within = comes.within in omega (arith, within, stands.table.places));
}

-- a socket gets another node, or none
pub named_stands : (old new : Heap) (key : ℕ) (sock : Sock) (bound : Option ℕ) (sockets : Sockets) → object old.socks key ≡ Some sock → Becomes old new key (record sock { node = bound }) (λ bytes. bytes) → StandsFor old sockets → StandsFor new (with_name sockets key bound)
named_stands old new key sock bound sockets there becomes stands =
    let was = found old sockets key sock stands.table there in
    record {
      table = becomes.table sockets (record (socket_at sockets key) { node = bound }) stands.table (record {
        state = was.kept.shape.state;
        peer = was.kept.shape.peer;
        waiting = was.kept.shape.waiting;
        node = refl;
      }) refl;
      linked = named_linked sockets key bound stands.linked was.there;
    }

-- one that isn't connected listens from now on
pub listen_stands : (old new : Heap) (key : ℕ) (sock : Sock) (sockets : Sockets) → object old.socks key ≡ Some sock → ((shut_read shut_write : Bool) → sock.state ≡ state.Connected shut_read shut_write → ⊥) → Becomes old new key (record sock { state = state.Listening }) (λ bytes. bytes) → StandsFor old sockets → StandsFor new (after_listen sockets key)
listen_stands old new key sock sockets there isnt becomes stands =
    let was = found old sockets key sock stands.table there in
    record {
      table = becomes.table sockets (record (socket_at sockets key) { stage = listening (stage_at sockets key) }) stands.table (go (stage_at sockets key) was.kept.shape.state was.kept.shape.peer was.kept.shape.waiting was.kept.shape.node) refl;
      linked = listen_linked sockets key stands.linked was.there;
    }
  where
    go : (stage : Stage) → sock.state ≡ state_of stage → sock.peer ≡ peer_of stage → sock.waiting ≡ in_row 8 (waiting_of stage) → sock.node ≡ (socket_at sockets key).node → IsShape (record sock { state = state.Listening }) (record (socket_at sockets key) { stage = listening stage })
    go Idle is peer waiting bound = record { state = refl; peer = peer; waiting = waiting; node = bound }
    go (Listening places) is peer waiting bound = record { state = refl; peer = peer; waiting = waiting; node = bound }
    go (Connected other shut_read shut_write) is peer waiting bound = absurd (isnt shut_read shut_write is)

pub listen_answers : (h : Heap) (key : ℕ) (sock : Sock) (sockets : Sockets) → object h.socks key ≡ Some sock → ((shut_read shut_write : Bool) → sock.state ≡ state.Connected shut_read shut_write → ⊥) → is_some sock.node ≡ true → StandsFor h sockets → listen_fault (socket_at sockets key) ≡ None
listen_answers h key sock sockets there isnt named stands =
    let was = found h sockets key sock stands.table there in
    go (stage_at sockets key) (socket_at sockets key).node (socket_at sockets key).bytes was.kept.shape.state (ap is_some (sym was.kept.shape.node) ∙ named)
  where
    go : (stage : Stage) (bound : Option ℕ) (bytes : List ℕ) → sock.state ≡ state_of stage → is_some bound ≡ true → listen_fault (record { stage = stage; bytes = bytes; node = bound }) ≡ None
    go Idle (Some place) bytes is some = refl
    go Idle None bytes is some = absurd (cc)
    go (Listening places) (Some place) bytes is some = refl
    go (Listening places) None bytes is some = absurd (cc)
    go (Connected other shut_read shut_write) bound bytes is some = absurd (isnt shut_read shut_write is)

row_moves : (n : ℕ) (rest : List ℕ) → length rest ≤ n → in_row n rest ++ None ∷ [] ≡ in_row (suc n) rest
row_moves zero [] fits = refl
row_moves zero (first ∷ rest) fits = absurd (omega arith)
row_moves (suc n) [] fits = ap (λ list. None ∷ list) (row_moves n [] (omega arith))
row_moves (suc n) (first ∷ rest) fits = ap (λ list. Some first ∷ list) (row_moves n rest (omega arith))

-- those behind the first move up
pub row_behind : (waiting : List ℕ) → length waiting ≤ 8 → drop 1 (in_row 8 waiting) ++ None ∷ [] ≡ in_row 8 (behind_first waiting)
row_behind [] fits = row_moves 7 [] (omega arith)
row_behind (first ∷ rest) fits = row_moves 7 rest (omega arith)

-- one that listens has its first taken
pub accept_stands : (old new : Heap) (key : ℕ) (sock : Sock) (row : List (Option ℕ)) (sockets : Sockets) → object old.socks key ≡ Some sock → sock.state ≡ state.Listening → row ≡ drop 1 sock.waiting ++ None ∷ [] → Becomes old new key (record sock { waiting = row }) (λ bytes. bytes) → StandsFor old sockets → StandsFor new (after_accept sockets key)
accept_stands old new key sock row sockets there listens moved becomes stands =
    let was = found old sockets key sock stands.table there in
    record {
      table = becomes.table sockets (record (socket_at sockets key) { stage = without_first (stage_at sockets key) }) stands.table (go (stage_at sockets key) was.kept.shape.state was.kept.shape.peer was.kept.shape.waiting was.kept.shape.node (stands.linked.backlog key)) refl;
      linked = accept_linked sockets key stands.linked was.there;
    }
  where
    go : (stage : Stage) → sock.state ≡ state_of stage → sock.peer ≡ peer_of stage → sock.waiting ≡ in_row 8 (waiting_of stage) → sock.node ≡ (socket_at sockets key).node → length (waiting_of stage) ≤ 8 → IsShape (record sock { waiting = row }) (record (socket_at sockets key) { stage = without_first stage })
    go Idle is peer waiting bound few = absurd (let it = sym listens ∙ is in cc)
    go (Listening places) is peer waiting bound few = record {
      state = is;
      peer = peer;
      waiting = moved ∙ ap (λ list. drop 1 list ++ None ∷ []) waiting ∙ row_behind places few;
      node = bound;
    }
    go (Connected other shut_read shut_write) is peer waiting bound few = absurd (let it = sym listens ∙ is in cc)

-- a connected one is shut further, and keeps its bytes or drops them
pub shut_stands : (old new : Heap) (key : ℕ) (sock now : Sock) (how : ℤ) (shut_read shut_write : Bool) (next : List ℕ → List ℕ) (sockets : Sockets) → object old.socks key ≡ Some sock → sock.state ≡ state.Connected shut_read shut_write → now.state ≡ state.Connected (shut_read || shuts_reading how) (shut_write || shuts_writing how) → now.peer ≡ sock.peer → now.waiting ≡ sock.waiting → now.node ≡ sock.node → Becomes old new key now next → ((bytes : List ℕ) → (if shuts_reading how then [] else bytes) ≡ next bytes) → StandsFor old sockets → StandsFor new (after_shut sockets key how)
shut_stands old new key sock now how shut_read shut_write next sockets there is now_is peer_same waiting_same node_same becomes bytes stands =
    let was = found old sockets key sock stands.table there in
    record {
      table = becomes.table sockets (after_shutdown (socket_at sockets key) how) stands.table (go (stage_at sockets key) was.kept.shape.state was.kept.shape.peer was.kept.shape.waiting was.kept.shape.node) (bytes (socket_at sockets key).bytes);
      linked = shut_linked sockets key how stands.linked was.there;
    }
  where
    go : (stage : Stage) → sock.state ≡ state_of stage → sock.peer ≡ peer_of stage → sock.waiting ≡ in_row 8 (waiting_of stage) → sock.node ≡ (socket_at sockets key).node → IsShape now (record (socket_at sockets key) { stage = shut_further (shuts_reading how) (shuts_writing how) stage; bytes = if shuts_reading how then [] else (socket_at sockets key).bytes })
    go Idle state_is peer waiting bound = absurd (let it = sym is ∙ state_is in cc)
    go (Listening places) state_is peer waiting bound = absurd (let it = sym is ∙ state_is in cc)
    go (Connected other read write) state_is peer waiting bound =
        let both : state.Connected shut_read shut_write ≡ state.Connected read write = sym is ∙ state_is in
        let first : shut_read ≡ read = cc in
        let second : shut_write ≡ write = cc in
        record {
          state = now_is ∙ rw (first, second) refl;
          peer = peer_same ∙ peer;
          waiting = waiting_same ∙ waiting;
          node = node_same ∙ bound;
        }

-- a socket with another queue is kept as before else
turned_shape : (old new : Heap) (key : ℕ) (sock : Sock) (next : List ℕ → List ℕ) (place : QueuePlace) (turns : Turns old new key sock next place) (stage : Stage) (bytes later : List ℕ) (bound : Option ℕ) → IsShape sock (record { stage = stage; bytes = bytes; node = bound }) → IsShape turns.now (record { stage = stage; bytes = later; node = bound })
turned_shape old new key sock next place turns stage bytes later bound shape = record {
  state = ap (λ (s : Sock). s.state) turns.same ∙ shape.state;
  peer = ap (λ (s : Sock). s.peer) turns.same ∙ shape.peer;
  waiting = ap (λ (s : Sock). s.waiting) turns.same ∙ shape.waiting;
  node = ap (λ (s : Sock). s.node) turns.same ∙ shape.node;
}

-- what a socket is to read turns
turned_table : (old new : Heap) (key : ℕ) (sock : Sock) (next : List ℕ → List ℕ) (place : QueuePlace) (sockets : Sockets) → object old.socks key ≡ Some sock → Turns old new key sock next place → IsTable old sockets → IsTable new (with_bytes sockets key (next (socket_at sockets key).bytes))
turned_table old new key sock next place sockets there turns table =
    let was = found old sockets key sock table there in
    let at = socket_at sockets key in
    turns.becomes.table sockets (record at { bytes = next at.bytes }) table (turned_shape old new key sock next place turns at.stage at.bytes (next at.bytes) at.node was.kept.shape) refl

pub read_stands : (old new : Heap) (key : ℕ) (sock : Sock) (k : ℕ) (place : QueuePlace) (sockets : Sockets) → object old.socks key ≡ Some sock → Turns old new key sock (drop k) place → StandsFor old sockets → StandsFor new (after_read sockets key k)
read_stands old new key sock k place sockets there turns stands = record {
  table = turned_table old new key sock (drop k) place sockets there turns stands.table;
  linked = read_linked sockets key k stands.linked (found old sockets key sock stands.table there).there;
}

-- bytes that stay as they are
same_bytes : (h : Heap) (key : ℕ) (sock : Sock) (bytes : List ℕ) (sockets : Sockets) → object h.socks key ≡ Some sock → bytes ≡ (socket_at sockets key).bytes → IsTable h sockets → IsTable h (with_bytes sockets key bytes)
same_bytes h key sock bytes sockets there same table =
    let was = found h sockets key sock table there in
    let within = there_within sockets key was.there in
    table_same h sockets (with_bytes sockets key bytes) (length-with_there sockets key (Some (record (socket_at sockets key) { bytes = bytes })) within) (λ place. elim (cases_eq place key) [
      | inl is ↦ ap (sock_at (with_bytes sockets key bytes)) is ∙ sock_at-with sockets key (Some (record (socket_at sockets key) { bytes = bytes })) (omega (arith, within)) ∙ ap (with_these (socket_at sockets key)) same ∙ sym was.at ∙ ap (sock_at sockets) (sym is)
      | inr differs ↦ sock_at-with_other sockets key place (Some (record (socket_at sockets key) { bytes = bytes })) (omega (arith, within)) differs
    ]) table
  where
    with_these : Socket → List ℕ → Option Socket
    with_these socket bytes = Some (record socket { bytes = bytes })

pub read_nothing_stands : (h : Heap) (key : ℕ) (sock : Sock) (sockets : Sockets) → object h.socks key ≡ Some sock → StandsFor h sockets → StandsFor h (after_read sockets key 0)
read_nothing_stands h key sock sockets there stands = record {
  table = same_bytes h key sock (drop 0 (socket_at sockets key).bytes) sockets there refl stands.table;
  linked = read_linked sockets key 0 stands.linked (found h sockets key sock stands.table there).there;
}

-- what was taken out are the first bytes
pub read_out : (h : Heap) (key : ℕ) (sock : Sock) (k : ℕ) (before after : List ℕ) (sockets : Sockets) → OwnsItsObjects h → object h.socks key ≡ Some sock → TakesOut h sock.queue before after 0 k → StandsFor h sockets → after ≡ take k (socket_at sockets key).bytes ++ drop k before
read_out h key sock k before after sockets is there out stands =
    let mine = sock_queue_in h key sock there is in
    let was = found h sockets key sock stands.table there in
    let has = HasBytes-one h sock.queue mine.0 (socket_at sockets key).bytes (owns h mine.0 sock.queue mine.1 mine.2) was.kept.bytes in
    out mine.0 mine.1 mine.2 ∙ ap (λ (n : ℕ). take n (unread h.chunks (owned sock.queue mine.0)) ++ drop k before) (minus_zero k) ∙ ap (λ list. take k list ++ drop k before) has

-- a queue of which nothing is taken
pub taken_nothing : (h : Heap) (key : ℕ) (sock : Sock) → OwnsItsObjects h → object h.socks key ≡ Some sock → queue_at h key ≡ after_take (queue_at h key) 0
taken_nothing h key sock is there =
    let mine = sock_queue_in h key sock there is in
    let named : queue_at h key ≡ place_of sock.queue = ap queue_in there in
    named ∙ taken_none h mine.0 sock.queue mine.1 mine.2 ∙ ap (λ q. after_take q 0) (sym named)

-- a read of one that isn't connected
pub read_refused : (h : Heap) (key : ℕ) (sock : Sock) (nonblock : Bool) (n : ℕ) (sockets : Sockets) → object h.socks key ≡ Some sock → ((shut_read shut_write : Bool) → sock.state ≡ state.Connected shut_read shut_write → ⊥) → StandsFor h sockets → sock_read sockets key nonblock n ≡ Fails errno.ENOTCONN
read_refused h key sock nonblock n sockets there isnt stands =
    go (stage_at sockets key) (found h sockets key sock stands.table there).kept.shape.state
  where
    go : (stage : Stage) → sock.state ≡ state_of stage → read_in_stage sockets stage (socket_at sockets key).bytes nonblock n ≡ Fails errno.ENOTCONN
    go Idle is = refl
    go (Listening places) is = refl
    go (Connected other shut_read shut_write) is = absurd (isnt shut_read shut_write is)

-- a write to a peer
pub written_table : (old new : Heap) (peer : ℕ) (sock : Sock) (bytes : List ℕ) (k : ℕ) (place : QueuePlace) (sockets : Sockets) → object old.socks peer ≡ Some sock → Turns old new peer sock (λ had. had ++ take k bytes) place → IsTable old sockets → IsTable new (sent_to sockets (Some peer) (take k bytes))
written_table old new peer sock bytes k place sockets there turns table = turned_table old new peer sock (λ had. had ++ take k bytes) place sockets there turns table

pub dropped_if : (how : ℤ) → true ≡ shuts_reading how → (bytes : List ℕ) → (if shuts_reading how then [] else bytes) ≡ []
dropped_if how is bytes = rw (← is) refl

pub kept_if : (how : ℤ) → false ≡ shuts_reading how → (bytes : List ℕ) → (if shuts_reading how then [] else bytes) ≡ bytes
kept_if how is bytes = rw (← is) refl

-- a write of nothing leaves the table
pub nothing_table : (h : Heap) (peer : ℕ) (sock : Sock) (bytes : List ℕ) (k : ℕ) (sockets : Sockets) → object h.socks peer ≡ Some sock → k ≡ 0 → IsTable h sockets → IsTable h (with_bytes sockets peer ((socket_at sockets peer).bytes ++ take k bytes))
nothing_table h peer sock bytes k sockets there none table =
    same_bytes h peer sock ((socket_at sockets peer).bytes ++ take k bytes) sockets there (ap (λ (n : ℕ). (socket_at sockets peer).bytes ++ take n bytes) none ∙ append-nil (socket_at sockets peer).bytes) table

sent_linked_none : (sockets : Sockets) (peer : Option ℕ) → AreLinked sockets → ((place : ℕ) → peer ≡ Some place → IsSome (sock_at sockets place)) → AreLinked (sent_to sockets peer [])
sent_linked_none sockets None linked there = linked
sent_linked_none sockets (Some peer) linked there =
    subst (λ bytes. AreLinked (with_bytes sockets peer bytes)) (sym (append-nil (socket_at sockets peer).bytes)) (read_linked sockets peer 0 linked (there peer refl))

pub nothing_linked : (sockets : Sockets) (place : ℕ) (bytes : List ℕ) (k : ℕ) → k ≡ 0 → AreLinked sockets → AreLinked (after_write sockets place bytes k)
nothing_linked sockets place bytes k none linked =
    subst (λ (n : ℕ). AreLinked (sent_to sockets (peer_of (stage_at sockets place)) (take n bytes))) (sym none) (sent_linked_none sockets (peer_of (stage_at sockets place)) linked (λ peer is. peer_there sockets place peer linked is))

-- whatever a write answers, its sockets stay linked
pub written_linked : (sockets : Sockets) (place : ℕ) (nonblock : Bool) (bytes : List ℕ) (moved : Moved) → moving_of moved ≡ sock_write sockets place nonblock (length bytes) → AreLinked sockets → AreLinked (after_write sockets place bytes (moved_by moved))
written_linked sockets place nonblock bytes (moves.Bytes count) is linked = write_linked sockets place bytes count nonblock linked (sym is)
written_linked sockets place nonblock bytes moves.Blocked is linked = nothing_linked sockets place bytes 0 refl linked
written_linked sockets place nonblock bytes (moves.Fault errno) is linked = nothing_linked sockets place bytes 0 refl linked

-- the stage of a connected socket by what is kept of it
pub connected_stage : (h : Heap) (key : ℕ) (sock : Sock) (shut_read shut_write : Bool) (sockets : Sockets) → object h.socks key ≡ Some sock → sock.state ≡ state.Connected shut_read shut_write → IsTable h sockets → stage_at sockets key ≡ Connected sock.peer shut_read shut_write
connected_stage h key sock shut_read shut_write sockets there is table =
    let was = found h sockets key sock table there in
    go (stage_at sockets key) was.kept.shape.state was.kept.shape.peer
  where
    go : (stage : Stage) → sock.state ≡ state_of stage → sock.peer ≡ peer_of stage → stage ≡ Connected sock.peer shut_read shut_write
    go Idle state_is peer = absurd (let it = sym is ∙ state_is in cc)
    go (Listening places) state_is peer = absurd (let it = sym is ∙ state_is in cc)
    go (Connected other read write) state_is peer =
        let both : state.Connected read write ≡ state.Connected shut_read shut_write = sym state_is ∙ is in
        let first : read ≡ shut_read = cc in
        let second : write ≡ shut_write = cc in
        rw (first, second, peer) refl

-- a write that went to the peer
pub written_stands : (old new : Heap) (key peer : ℕ) (sock : Sock) (shut_read : Bool) (nonblock : Bool) (bytes : List ℕ) (moved : Moved) (sockets : Sockets) → object old.socks key ≡ Some sock → sock.state ≡ state.Connected shut_read false → sock.peer ≡ Some peer → StandsFor old sockets → moving_of moved ≡ write_to sockets (Some peer) nonblock (length bytes) → IsTable new (sent_to sockets (Some peer) (take (moved_by moved) bytes)) → StandsFor new (after_write sockets key bytes (moved_by moved))
written_stands old new key peer sock shut_read nonblock bytes moved sockets there is peer_is stands answer table =
    let stage : stage_at sockets key ≡ Connected (Some peer) shut_read false = connected_stage old key sock shut_read false sockets there is stands.table ∙ ap (λ other. Connected other shut_read false) peer_is in
    record {
      table = subst (λ other. IsTable new (sent_to sockets other (take (moved_by moved) bytes))) (sym (ap peer_of stage)) table;
      linked = written_linked sockets key nonblock bytes moved (answer ∙ sym (ap (λ s. write_in_stage sockets s nonblock (length bytes)) stage)) stands.linked;
    }

-- and one that went nowhere
pub unwritten_stands : (h : Heap) (key : ℕ) (bytes : List ℕ) (sockets : Sockets) → StandsFor h sockets → StandsFor h (after_write sockets key bytes 0)
unwritten_stands h key bytes sockets stands = record {
  table = go (peer_of (stage_at sockets key)) refl;
  linked = nothing_linked sockets key bytes 0 refl stands.linked;
}
  where
    go : (peer : Option ℕ) → peer_of (stage_at sockets key) ≡ peer → IsTable h (sent_to sockets peer [])
    go None e = stands.table
    go (Some peer) e =
        let used = used_from h sockets peer stands.table (peer_there sockets key peer stands.linked e) in
        let named = object_of h.socks peer used in
        same_bytes h peer named.0 ((socket_at sockets peer).bytes ++ []) sockets named.1 (append-nil (socket_at sockets peer).bytes) stands.table
