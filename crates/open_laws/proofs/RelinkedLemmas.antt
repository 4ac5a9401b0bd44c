-- What is open stands for the same where a FIFO's pipe stands before another one than it did.
use Rattle.std.proofs.Common.{◌≡◌, ℕ, ◌+◌, List, cond, eqb, Option, None, Some, IsSome, refl, sym, ap, subst, ◌∙◌}
use Rattle.std.specs.Option.{option_and_then}
use Rattle.kheap_slabs.specs.Objects.{object, InUse}
use Rattle.kheap_slabs.proofs.ObjectLemmas.{object_of}
use Rattle.kheap_slabs.specs.declared.objects.Access.{Access}
use Rattle.kheap_slabs.specs.declared.objects.Desc.{Desc}
use Rattle.kheap_slabs.specs.declared.objects.Pipe.{Pipe as HeldPipe}
use Rattle.kheap_slabs.specs.declared.objects.Sock.{Sock}
use Rattle.kheap_slabs.specs.declared.objects.Target.{Target}
use Rattle.kheap_slabs.specs.declared.objects.Target.TheVariants as target
use Rattle.kheap_slabs.specs.Heap.{Heap}
use Rattle.posix_defs.specs.Files.State.{Files, node_of}
use Rattle.posix_defs.specs.Files.Descriptions.{OnPipe}
use Rattle.posix_defs.specs.Pipe.{Pipe, fifo_of}
use Rattle.chunk_queue.proofs.HeldLemmas.{HasBytes-same}
use Rattle.pipe_ends.specs.Links.{AreRelinked}
use Rattle.pipe_ends.specs.Standing.{StandsFor}
use Rattle.pipe_ends.proofs.RelinkLemmas.{relinked_back, relinked_chunks, relinked_kept, relinked_owns, relinked_pipe, relinked_stands}
use Rattle.usock_core.specs.Standing.{IsHeldIn}
use Rattle.usock_core.proofs.StandingLemmas.{stands_same as sockets_stand_same, held_on}
use Rattle.open_laws.specs.Closing.{IsClosable, IsDroppable}
use Rattle.open_laws.specs.Described.{CountedList, AreDescribed, fifo_in, node_in, node_left}
use Rattle.open_laws.specs.Open.{AreOpen}
use Rattle.open_laws.specs.Owned.{HasItsEnds, HasItsOwners, IsHeldOpen, IsThereFor, all_namings, sock_in, socks_named}
use Rattle.open_laws.specs.Piped.{ArePiped}
use Rattle.open_laws.specs.Placed.{Numbers}
use Rattle.open_laws.proofs.DropLemmas.{socketed_on}
use Rattle.open_laws.proofs.GoingLemmas.{named_on}

module _ (old new : Heap) (relinked : AreRelinked old new) where
  kept : new ≡ record old { pipes = new.pipes }
  kept = relinked_kept old new relinked

  pub relinked_descs : new.descs ≡ old.descs
  relinked_descs = ap (λ (h : Heap). h.descs) kept

  was_used : (key : ℕ) → InUse new.pipes key → InUse old.pipes key
  was_used key used =
      let it = object_of new.pipes key used in
      let was = relinked_back old new key it.0 relinked it.1 in
      subst IsSome (sym was.1) refl

  still_used : (key : ℕ) → InUse old.pipes key → InUse new.pipes key
  still_used key used =
      let it = object_of old.pipes key used in
      let now = relinked_pipe old new key it.0 relinked it.1 in
      subst IsSome (sym now.1) refl

  pub piped_relinked : (numbers : Numbers) (pipes : List (Option Pipe)) → ArePiped numbers old pipes → ArePiped numbers new pipes
  piped_relinked numbers pipes are = record {
    there = λ key held is. let was = relinked_back old new key held relinked is in are.there key was.0 was.1;
    means = λ key held pipe is said.
        let was = relinked_back old new key held relinked is in
        let means = are.means key was.0 pipe was.1 said in
        (means.0, relinked_stands old new key pipe means.0 relinked means.1);
    once = λ one other used also same. are.once one other (was_used one used) (was_used other also) same;
    found = λ place pipe said. let it = are.found place pipe said in (it.0, still_used it.0 it.1, it.2);
  }

  pub open_relinked : (numbers : Numbers) (list : CountedList) (files : Files) → AreOpen numbers old list files → AreOpen numbers new list files
  open_relinked numbers list files are = record {
    described = subst (λ (d : List (Option Desc)). AreDescribed numbers d list) (sym relinked_descs) are.described;
    descriptions = are.descriptions;
    piped = piped_relinked numbers files.pipes are.piped;
    socketed = socketed_on numbers old new files.sockets (ap (λ (h : Heap). h.socks) kept) (λ key held bytes is has. HasBytes-same old new held.queue bytes (relinked_chunks old new relinked) has) are.socketed;
  }

  ends_relinked : (key : ℕ) (pipe : HeldPipe) → object new.pipes key ≡ Some pipe → IsHeldOpen old → HasItsEnds new.descs key pipe
  ends_relinked key pipe is held =
      let was = relinked_back old new key pipe relinked is in
      let ends = held.pipes key was.0 was.1 in
      subst (λ (d : List (Option Desc)). HasItsEnds d key pipe) (sym relinked_descs)
      (subst (HasItsEnds old.descs key) (sym was.3) (record { readers = ends.readers; writers = ends.writers; some_end = ends.some_end }))

  pub held_relinked : IsHeldOpen old → IsHeldOpen new
  held_relinked held = record {
    targets = λ key desc is. there desc.access desc.target (held.targets key desc (ap (λ (d : List (Option Desc)). object d key) (sym relinked_descs) ∙ is));
    pipes = λ key pipe is. ends_relinked key pipe is held;
    stand = λ key used. let before = held.stand key (was_used key used) in (before.0, before.1, relinked_stands old new key before.0 before.1 relinked before.2);
    socks = subst (λ (d : List (Option Desc)). IsHeldIn new (socks_named d)) (sym relinked_descs)
        (held_on old new (socks_named old.descs) (ap (λ (h : Heap). h.socks) kept) (λ key sock bytes is has. HasBytes-same old new sock.queue bytes (relinked_chunks old new relinked) has) held.socks);
    once = λ one other sock first second. held.once one other sock
        (ap (λ (d : List (Option Desc)). sock_in (object d one)) (sym relinked_descs) ∙ first) (ap (λ (d : List (Option Desc)). sock_in (object d other)) (sym relinked_descs) ∙ second);
  }
    where
      there : (access : Access) (what : Target) → IsThereFor old access what → IsThereFor new access what
      there access (target.Inode number) so = tt
      there access (target.Pipe key) so = (still_used key so.0, so.1)
      there access (target.Sock key) so = subst (λ (s : List (Option Sock)). InUse s key) (sym (ap (λ (h : Heap). h.socks) kept)) so

  pub owners_relinked : (hand : List ℕ) → HasItsOwners old hand → HasItsOwners new hand
  owners_relinked hand owners = record {
    objects = relinked_owns old new relinked owners.objects;
    named = named_on old new hand relinked_descs (λ key. ap (λ (h : Heap). all_namings h key) kept) owners.named;
    held = held_relinked owners.held;
  }

  pub droppable_relinked : (key : ℕ) → IsDroppable old key → IsDroppable new key
  droppable_relinked key can = record {
    desc = can.desc;
    there = ap (λ (d : List (Option Desc)). object d key) relinked_descs ∙ can.there;
    named = can.named;
    closable = closable can.desc.access can.desc.target can.closable;
  }
    where
      closable : (access : Access) (what : Target) → IsClosable old access what → IsClosable new access what
      closable access (target.Inode number) is = is
      closable access (target.Pipe pipe) is = (is.0, is.1, relinked_stands old new pipe is.0 is.1 relinked is.2, is.3)
      closable access (target.Sock sock) is = record {
        sockets = is.sockets;
        stands = sockets_stand_same old new is.sockets (ap (λ (h : Heap). h.socks) kept) (relinked_chunks old new relinked) is.stands;
        used = subst (λ (s : List (Option Sock)). InUse s sock) (sym (ap (λ (h : Heap). h.socks) kept)) is.used;
        nowhere = is.nowhere;
      }

  node_relinked : (what : Target) → node_in new.pipes what ≡ node_in old.pipes what
  node_relinked (target.Inode number) = refl
  node_relinked (target.Sock key) = refl
  node_relinked (target.Pipe key) = go (object old.pipes key) refl
    where
      none : (o : Option HeldPipe) → object new.pipes key ≡ o → object old.pipes key ≡ None → o ≡ None
      none None is gone = refl
      none (Some pipe) is gone = absurd (let was = relinked_back old new key pipe relinked is in let there = was.1 in cc)

      go : (o : Option HeldPipe) → object old.pipes key ≡ o → option_and_then fifo_in (object new.pipes key) ≡ option_and_then fifo_in (object old.pipes key)
      go None is = ap (option_and_then fifo_in) (none (object new.pipes key) refl is ∙ sym is)
      go (Some pipe) is = let now = relinked_pipe old new key pipe relinked is in ap (option_and_then fifo_in) now.1 ∙ sym (ap (option_and_then fifo_in) is)

  pub left_relinked : (desc : Desc) → node_left new.pipes desc ≡ node_left old.pipes desc
  left_relinked desc = ap (λ o. cond (eqb desc.count 1) o None) (node_relinked desc.target)

-- the node of an end is that of the FIFO whose plain pipe it stands for
pub node_stands : (h : Heap) (key : ℕ) (pipe : Pipe) (at : ℕ) → StandsFor h key pipe at → node_in h.pipes (target.Pipe key) ≡ fifo_of pipe
node_stands h key pipe at stands = ap (option_and_then fifo_in) stands.there ∙ ap (λ n. cond (eqb n 0) None (Some n)) stands.node

-- and that of the machine's
pub node_placed : (numbers : Numbers) (h : Heap) (files : Files) (key : ℕ) → InUse h.pipes key → ArePiped numbers h files.pipes → node_of files (OnPipe (numbers.pipes key)) ≡ node_in h.pipes (target.Pipe key)
node_placed numbers h files key used are =
    let it = object_of h.pipes key used in
    let there = are.there key it.0 it.1 in
    let means = are.means key it.0 there.0 it.1 there.1 in
    ap (option_and_then fifo_of) there.1 ∙ sym (node_stands h key there.0 means.0 means.1)
