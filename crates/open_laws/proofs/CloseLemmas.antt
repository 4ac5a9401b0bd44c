-- What is closed is closed also by the heap in which the Desc was there still.
use Rattle.std.proofs.Common.{◌≡◌, ℕ, List, ◌∷◌, Option, refl, sym, ap, subst, ◌∙◌}
use Rattle.kheap_slabs.specs.declared.objects.Access.{Access}
use Rattle.kheap_slabs.specs.declared.objects.Desc.{Desc}
use Rattle.kheap_slabs.specs.declared.objects.Pipe.{Pipe as HeldPipe}
use Rattle.kheap_slabs.specs.declared.objects.Sock.{Sock}
use Rattle.kheap_slabs.specs.declared.objects.Target.{Target}
use Rattle.kheap_slabs.specs.declared.objects.Target.TheVariants as target
use Rattle.kheap_slabs.specs.Heap.{Heap}
use Rattle.chunk_queue.proofs.HeldLemmas.{HasBytes-same}
use Rattle.pipe_ends.specs.Links.{KeepsLinks, link_at}
use Rattle.pipe_ends.specs.Standing.{LeavesOthers as LeavesOtherPipes}
use Rattle.pipe_ends.proofs.StandingLemmas.{stands_same as pipe_stands_same}
use Rattle.usock_core.specs.Standing.{LeavesOthers as LeavesOtherThanSockets}
use Rattle.usock_core.proofs.StandingLemmas.{stands_same as sockets_stand_same, held_on}
use Rattle.open_laws.specs.Closing.{ClosesLinks, IsClosable, TargetCloses, QueuesChange}

-- the heap with other Descs
abbrev pub described : Heap → List (Option Desc) → Heap
described h descs = record h { descs = descs }

pub closable_without : (h : Heap) (descs : List (Option Desc)) (access : Access) (what : Target) → IsClosable h access what → IsClosable (described h descs) access what
closable_without h descs access (target.Inode number) can = can
closable_without h descs access (target.Pipe key) can = (can.0, can.1, pipe_stands_same h (described h descs) key can.0 can.1 refl refl can.2, can.3)
closable_without h descs access (target.Sock key) can = record {
  sockets = can.sockets;
  stands = sockets_stand_same h (described h descs) can.sockets refl refl can.stands;
  used = can.used;
  nowhere = can.nowhere;
}

pub closes_with : (h new : Heap) (descs : List (Option Desc)) (access : Access) (what : Target) → TargetCloses (described h descs) new access what → TargetCloses h new access what
closes_with h new descs access (target.Inode number) closes = closes
closes_with h new descs access (target.Pipe key) closes = record {
  gone = λ pipe at stands. closes.gone pipe at (pipe_stands_same h (described h descs) key pipe at refl refl stands);
  stands = λ pipe at left stands. closes.stands pipe at left (pipe_stands_same h (described h descs) key pipe at refl refl stands);
  others = closes.others;
}
closes_with h new descs access (target.Sock key) closes = record {
  stands = λ sockets stands. closes.stands sockets (sockets_stand_same h (described h descs) sockets refl refl stands);
  held = λ named is. closes.held named (held_on h (described h descs) (key ∷ named) refl (λ k sock bytes there has. HasBytes-same h (described h descs) sock.queue bytes refl has) is);
  others = closes.others;
  queues = closes.queues;
}

-- a call on an end of a pipe, and one on a socket, leave Descs as they were
pub descs_by_pipe : (old new : Heap) (key : ℕ) → LeavesOtherPipes old new key → new.descs ≡ old.descs
descs_by_pipe old new key others = ap (λ (h : Heap). h.descs) others.kept

pub descs_by_socket : (old new : Heap) → LeavesOtherThanSockets old new → new.descs ≡ old.descs
descs_by_socket old new others = ap (λ (h : Heap). h.descs) others.kept

pub others_by_pipe : (old new : Heap) (key : ℕ) → LeavesOtherPipes old new key → LeavesOtherPipes (described old new.descs) new key
others_by_pipe old new key others = subst (λ (d : List (Option Desc)). LeavesOtherPipes (described old d) new key) (sym (descs_by_pipe old new key others)) others

pub others_by_socket : (old new : Heap) → LeavesOtherThanSockets old new → LeavesOtherThanSockets (described old new.descs) new
others_by_socket old new others = subst (λ (d : List (Option Desc)). LeavesOtherThanSockets (described old d) new) (sym (descs_by_socket old new others)) others

pub change_by_pipe : (old new : Heap) (key : ℕ) → LeavesOtherPipes old new key → new.high ≡ old.high → QueuesChange old new
change_by_pipe old new key others high =
    others.kept
    ∙ (ap (λ (n : ℕ). record old { pipes = new.pipes; chunks = new.chunks; high = n }) high
    ∙ ap (λ (s : List (Option Sock)). record old { pipes = new.pipes; chunks = new.chunks; socks = s }) (sym (ap (λ (h : Heap). h.socks) others.kept)))

pub change_by_socket : (old new : Heap) → LeavesOtherThanSockets old new → new.high ≡ old.high → QueuesChange old new
change_by_socket old new others high =
    others.kept
    ∙ (ap (λ (n : ℕ). record old { chunks = new.chunks; socks = new.socks; high = n }) high
    ∙ ap (λ (p : List (Option HeldPipe)). record old { pipes = p; chunks = new.chunks; socks = new.socks }) (sym (ap (λ (h : Heap). h.pipes) others.kept)))

-- and with Descs of its own before
pub change_with_descs : (old new : Heap) (descs : List (Option Desc)) → QueuesChange (described old descs) new
    → new ≡ record old { descs = new.descs; pipes = new.pipes; chunks = new.chunks; socks = new.socks }
change_with_descs old new descs change =
    change ∙ ap (λ (d : List (Option Desc)). record old { descs = d; pipes = new.pipes; chunks = new.chunks; socks = new.socks }) (sym (ap (λ (h : Heap). h.descs) change))

-- the links of FIFOs' pipes are those of a heap with other Descs
pub links_with : (h new : Heap) (descs : List (Option Desc)) (access : Access) (what : Target) → ClosesLinks (described h descs) new access what → ClosesLinks h new access what
links_with h new descs access (target.Inode number) keeps = keeps
links_with h new descs access (target.Pipe key) closes = record { here = closes.here; others = closes.others }
links_with h new descs access (target.Sock key) keeps = keeps

-- a call on a socket leaves them
pub links_by_socket : (old new : Heap) → LeavesOtherThanSockets old new → KeepsLinks old new
links_by_socket old new others key = ap (λ (h : Heap). link_at h key) others.kept
