-- Each socket is open or waits.
use Rattle.std.proofs.Common.{◌≡◌, ℕ, ◌+◌, ◌<◌, ◌⊎◌, [], Option, None, Some, inl, inr, refl, ap, sym, subst, arith, unwrap_or}
use Rattle.std.specs.List.{Contains}
use Rattle.kabi_types.specs.declared.scripts.Script.{Script}
use Rattle.kheap_slabs.specs.Objects.{InUse, object}
use Rattle.kheap_slabs.specs.declared.objects.Desc.{Desc}
use Rattle.kheap_slabs.specs.declared.objects.Sock.{Sock}
use Rattle.kheap_slabs.specs.declared.objects.Target.{Target}
use Rattle.kheap_slabs.specs.declared.objects.Target.TheVariants as target
use Rattle.kheap_slabs.proofs.ObjectLemmas.{object_of}
use Rattle.kheap_slabs.specs.Heap.{Heap}
use Rattle.open_laws.specs.Owned.{HasItsOwners, all_namings, desc_count_at, sock_in, sock_of}
use Rattle.open_laws.proofs.OwnerLemmas.{names}
use Rattle.posix_defs.specs.Socket.{Socket, new_socket, waiting_of}
use Rattle.posix_defs.specs.SocketLinks.{WaitsFor}
use Rattle.posix_defs.specs.Sockets.{Sockets, sock_at}
use Rattle.store_objects.specs.declared.objects.Objects.{Objects}
use Rattle.store_objects.specs.Objects.{AreKept}
use Rattle.usock_core.specs.Standing.{StandsAt, StandsFor}
use Rattle.usock_core.proofs.CloseLemmas.{waiting_named}
use Rattle.usock_core.proofs.StandingLemmas.{found}
use Rattle.queue_calls.specs.Holding.{IsOpenIn, WaitsIn}

-- a Desc that is open on a socket is named
open_in : (h : Heap) (socket key : ℕ) → HasItsOwners h [] → sock_in (object h.descs key) ≡ Some socket → IsOpenIn h socket
open_in h socket key owners on = by_desc (object h.descs key) refl on
  where
    no_more : (a b : ℕ) → a ≡ b + 0 → 0 < a → 0 < b
    no_more a b same some = omega arith

    by_target : (what : Target) → sock_of what ≡ Some socket → what ≡ target.Sock socket
    by_target (target.Inode number) e = cc
    by_target (target.Pipe pipe) e = cc
    by_target (target.Sock other) e = ap target.Sock (let same : other ≡ socket = cc in same)

    by_desc : (o : Option Desc) → object h.descs key ≡ o → sock_in o ≡ Some socket → IsOpenIn h socket
    by_desc None is e = cc
    by_desc (Some desc) is e = record {
      key = key;
      desc = desc;
      there = is;
      on = by_target desc.target e;
      named = no_more (desc_count_at h.descs key) (all_namings h key) (owners.named.counts key)
          (owners.named.named key (let used : InUse h.descs key = rw is refl in used));
    }

-- a socket that waits does so for one that is there
waits_in : (h : Heap) (sockets : Sockets) (listener socket : ℕ) → StandsFor h sockets → WaitsFor sockets listener socket → WaitsIn h socket
waits_in h sockets listener socket stands waits = go (object h.socks listener) refl (sock_at sockets listener) refl (stands.table.each listener)
  where
    nobody : Contains (waiting_of new_socket.stage) socket → ⊥
    nobody there = omega (arith, there.1)

    go : (o : Option Sock) → object h.socks listener ≡ o → (plain : Option Socket) → sock_at sockets listener ≡ plain → StandsAt h (object h.socks listener) (sock_at sockets listener) → WaitsIn h socket
    go (Some sock) is plain at stand = record {
      listener = listener;
      sock = sock;
      there = is;
      waits = subst (λ keys. Contains keys socket) (sym (waiting_named h listener sock sockets is stands)) waits;
    }
    go None is None at stand = absurd (nobody (subst (λ o. Contains (waiting_of (unwrap_or o new_socket).stage) socket) at waits))
    go None is (Some plain) at stand = absurd (subst (λ o. StandsAt h o (Some plain)) is (subst (λ o. StandsAt h (object h.socks listener) o) at stand))

pub held_somewhere : (script : Script) (objects : Objects) (socket : ℕ) → AreKept script objects → InUse objects.heap.socks socket
    → IsOpenIn objects.heap socket ⊎ WaitsIn objects.heap socket
held_somewhere script objects socket kept used =
    let socks = kept.owners.held.socks in
    let there = object_of objects.heap.socks socket used in
    elim (socks.held.held socket (found objects.heap socks.sockets socket there.0 socks.stands.table there.1).there) [
      | inl named ↦ (let key = names objects.heap.descs socket named in inl (open_in objects.heap socket key.0 kept.owners key.1))
      | inr waits ↦ inr (waits_in objects.heap socks.sockets waits.0 socket socks.stands waits.1)
    ]
