-- The sockets of a heap and the plain ones that they stand for, where one of them is another from now on.
use Rattle.std.proofs.Common.{◌≡◌, ◌≢◌, inl, inr, ℕ, ◌<◌, List, length, Option, None, Some, IsSome, refl, sym, ap, subst, ◌∙◌, arith}
use Rattle.std.proofs.lemmas.Bool.{cases_eq}
use Rattle.kheap_slabs.specs.Objects.{object, InUse}
use Rattle.kheap_slabs.specs.declared.objects.Sock.{Sock}
use Rattle.kheap_slabs.specs.Heap.{Heap}
use Rattle.posix_defs.specs.Socket.{Socket}
use Rattle.posix_defs.specs.Sockets.{Sockets, sock_at, socket_at, with_socket}
use Rattle.socket_laws.proofs.SocketTable.{sock_at-with, sock_at-with_other, length-with_there}
use Rattle.chunk_queue.specs.Held.{HasBytes, SockKeepsBytes}
use Rattle.chunk_queue.proofs.HeldLemmas.{HasBytes-same}
use Rattle.usock_core.specs.Standing.{IsKept, StandsAt, IsTable, StandsFor, IsHeldIn, LeavesOthers}

-- a socket stands for the same where its queue keeps its bytes
stands_moved : (old new : Heap) (held : Option Sock) (socket : Option Socket) → ((sock : Sock) (bytes : List ℕ) → held ≡ Some sock → HasBytes old sock.queue bytes → HasBytes new sock.queue bytes) → StandsAt old held socket → StandsAt new held socket
stands_moved old new None None moves stands = tt
stands_moved old new None (Some socket) moves stands = stands
stands_moved old new (Some sock) None moves stands = stands
stands_moved old new (Some sock) (Some socket) moves stands = record {
  shape = stands.shape;
  bytes = moves sock socket.bytes refl stands.bytes;
  len = stands.len;
}

-- one key names another socket, or none, and all others keep what they had
pub table_update : (old new : Heap) (key : ℕ) (sockets : Sockets) (socket : Option Socket) → IsTable old sockets → key < length old.socks → length new.socks ≡ length old.socks → StandsAt new (object new.socks key) socket → ((other : ℕ) → other ≢ key → object new.socks other ≡ object old.socks other) → ((other : ℕ) → other ≢ key → SockKeepsBytes old new other) → IsTable new (with_socket sockets key socket)
table_update old new key sockets socket table within same here others moves = record {
  places = length-with_there sockets key socket (omega (arith, within, table.places)) ∙ table.places ∙ sym same;
  each = λ other. elim (cases_eq other key) [
    | inl is ↦ rw (is, sock_at-with sockets key socket (omega (arith, within, table.places))) here
    | inr differs ↦ rw (others other differs, sock_at-with_other sockets key other socket (omega (arith, within, table.places)) differs) (stands_moved old new (object old.socks other) (sock_at sockets other) (λ sock bytes named has. moves other differs sock bytes named has) (table.each other))
  ];
}

-- the same sockets stand for the same where all queues keep their bytes
pub table_moved : (old new : Heap) (sockets : Sockets) → new.socks ≡ old.socks → ((key : ℕ) → SockKeepsBytes old new key) → IsTable old sockets → IsTable new sockets
table_moved old new sockets socks moves table = record {
  places = table.places ∙ sym (ap length socks);
  each = λ key. subst (λ (held : Option Sock). StandsAt new held (sock_at sockets key)) (sym (ap (λ (list : List (Option Sock)). object list key) socks)) (stands_moved old new (object old.socks key) (sock_at sockets key) (λ sock bytes named has. moves key sock bytes named has) (table.each key));
}

pub stands_on : (old new : Heap) (sockets : Sockets) → new.socks ≡ old.socks → ((key : ℕ) → SockKeepsBytes old new key) → StandsFor old sockets → StandsFor new sockets
stands_on old new sockets socks moves stands = record { table = table_moved old new sockets socks moves stands.table; linked = stands.linked }

-- as they do where all chunks are the same
pub stands_same : (old new : Heap) (sockets : Sockets) → new.socks ≡ old.socks → new.chunks ≡ old.chunks → StandsFor old sockets → StandsFor new sockets
stands_same old new sockets socks chunks = stands_on old new sockets socks (λ key sock bytes there has. HasBytes-same old new sock.queue bytes chunks has)

pub held_on : (old new : Heap) (named : List ℕ) → new.socks ≡ old.socks → ((key : ℕ) → SockKeepsBytes old new key) → IsHeldIn old named → IsHeldIn new named
held_on old new named socks moves is = record { sockets = is.sockets; stands = stands_on old new is.sockets socks moves is.stands; held = is.held }

-- tables with the same sockets at each place stand for the same
pub table_same : (h : Heap) (one other : Sockets) → length other ≡ length one → ((place : ℕ) → sock_at other place ≡ sock_at one place) → IsTable h one → IsTable h other
table_same h one other longs same table = record {
  places = longs ∙ table.places;
  each = λ key. rw (same key) (table.each key);
}

-- the socket of a key in use stands for one that is there
pub record Found (h : Heap) (sock : Sock) (sockets : Sockets) (key : ℕ) : Type 0 where
  pub there : IsSome (sock_at sockets key)
  pub kept : IsKept h sock (socket_at sockets key)
  pub at : sock_at sockets key ≡ Some (socket_at sockets key)

pub found : (h : Heap) (sockets : Sockets) (key : ℕ) (sock : Sock) → IsTable h sockets → object h.socks key ≡ Some sock → Found h sock sockets key
found h sockets key sock table named = go (sock_at sockets key) refl (rw named at (table.each key))
  where
    go : (socket : Option Socket) → sock_at sockets key ≡ socket → StandsAt h (Some sock) socket → Found h sock sockets key
    go None e stands = absurd stands
    go (Some socket) e stands = record {
      there = rw e refl;
      kept = rw e stands;
      at = rw e refl;
    }

-- where a plain one is there, the key is in use
pub used_from : (h : Heap) (sockets : Sockets) (key : ℕ) → IsTable h sockets → IsSome (sock_at sockets key) → InUse h.socks key
used_from h sockets key table there = go (object h.socks key) (sock_at sockets key) refl refl there (table.each key)
  where
    go : (held : Option Sock) (socket : Option Socket) → object h.socks key ≡ held → sock_at sockets key ≡ socket → IsSome socket → StandsAt h held socket → IsSome held
    go held None e f there stands = cc
    go None (Some socket) e f there stands = absurd stands
    go (Some sock) (Some socket) e f there stands = refl

-- where none is, the key is free
pub free_from : (h : Heap) (sockets : Sockets) (key : ℕ) → IsTable h sockets → object h.socks key ≡ None → sock_at sockets key ≡ None
free_from h sockets key table named = go (sock_at sockets key) refl (rw named at (table.each key))
  where
    go : (socket : Option Socket) → sock_at sockets key ≡ socket → StandsAt h None socket → sock_at sockets key ≡ None
    go None e stands = e
    go (Some socket) e stands = absurd stands

pub LeavesOthers-refl : (h : Heap) → LeavesOthers h h
LeavesOthers-refl h = record { kept = refl; pipes = λ key pipe bytes there has. has }

kept_of : (old new : Heap) (chunks : _) (socks : List (Option Sock)) (high : ℕ) → new ≡ record old { chunks = chunks; socks = socks; high = high } → new ≡ record old { chunks = new.chunks; socks = new.socks; high = new.high }
kept_of old new chunks socks high is = subst (λ (h : Heap). h ≡ record old { chunks = h.chunks; socks = h.socks; high = h.high }) (sym is) refl

pub kept_through : (old mid new : Heap) (chunks : _) (socks : List (Option Sock)) (high : ℕ) (later : List (Option Sock)) → mid ≡ record old { chunks = chunks; socks = socks; high = high } → new ≡ record mid { socks = later } → new ≡ record old { chunks = new.chunks; socks = new.socks; high = new.high }
kept_through old mid new chunks socks high later first second =
    kept_of old new chunks later high (second ∙ ap (λ (h : Heap). record h { socks = later }) first)

pub kept_added : (old new : Heap) (socks : List (Option Sock)) → new ≡ record old { socks = socks; high = new.high } → new ≡ record old { chunks = new.chunks; socks = new.socks; high = new.high }
kept_added old new socks is = kept_of old new old.chunks socks new.high is

pub LeavesOthers-trans : (old mid new : Heap) → LeavesOthers old mid → LeavesOthers mid new → LeavesOthers old new
LeavesOthers-trans old mid new first second = record {
  kept = kept_of old new new.chunks new.socks new.high (second.kept ∙ ap (λ (h : Heap). record h { chunks = new.chunks; socks = new.socks; high = new.high }) first.kept);
  pipes = λ key pipe bytes there has. second.pipes key pipe bytes (ap (λ (h : Heap). object h.pipes key) first.kept ∙ there) (first.pipes key pipe bytes there has);
}
