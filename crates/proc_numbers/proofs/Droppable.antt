-- What is open can be closed, where the heap has its owners.
use Rattle.std.proofs.Common.{◌≡◌, ◌≢◌, ℕ, zero, suc, ◌<◌, ◌&&◌, Bool, true, List, [], ◌∷◌, Option, None, Some, is_some, refl, ap, sym, ◌∙◌, subst, arith}
use Rattle.std.specs.Prelude.{count_by}
use Rattle.std.specs.List.{Contains}
use Rattle.kheap_slabs.specs.Objects.{InUse, object}
use Rattle.kheap_slabs.specs.declared.objects.Access.{Access}
use Rattle.kheap_slabs.specs.declared.objects.Access.TheVariants as mode
use Rattle.kheap_slabs.specs.declared.objects.Desc.{Desc}
use Rattle.kheap_slabs.specs.declared.objects.Target.{Target}
use Rattle.kheap_slabs.specs.declared.objects.Target.TheVariants as target
use Rattle.kheap_slabs.specs.Heap.{Heap}
use Rattle.posix_defs.specs.Files.Descriptions.{may_read, may_write}
use Rattle.posix_defs.specs.Files.State.{beside}
use Rattle.pipe_ends.specs.Standing.{HasEndAt}
use Rattle.open_laws.specs.Closing.{IsClosable, IsDroppable}
use Rattle.open_laws.specs.Described.{access_in}
use Rattle.open_laws.specs.Owned.{HasItsOwners, IsThereFor, desc_count, has_read_end, has_write_end, is_on_pipe, sock_in, sock_of, socks_named}
use Rattle.proc_table.proofs.PlaceLemmas.{Contains-behind, eqb_same}
use Rattle.proc_numbers.proofs.Sums.{one_if, part_of_sum}

-- a socket that a Desc is open on is among those that are named
named_behind : (descs : List (Option Desc)) (o : Option ℕ) (sock : ℕ) → Contains (socks_named descs) sock → Contains (beside o (socks_named descs)) sock
named_behind descs None sock there = there
named_behind descs (Some other) sock there = Contains-behind other sock (socks_named descs) there

named_among : (descs : List (Option Desc)) (key sock : ℕ) → sock_in (object descs key) ≡ Some sock → Contains (socks_named descs) sock
named_among [] zero sock is = absurd (cc)
named_among [] (suc key) sock is = absurd (cc)
named_among (first ∷ descs) zero sock is = subst (λ o. Contains (beside o (socks_named descs)) sock) (sym is) (0, omega arith, refl)
named_among (first ∷ descs) (suc key) sock is = named_behind descs (sock_in first) sock (named_among descs key sock is)

-- the Desc of a key counts as an end of its pipe
counts_end : (p : Option Desc → Bool) (descs : List (Option Desc)) (key : ℕ) (desc : Desc) → object descs key ≡ Some desc → p (Some desc) ≡ true → 0 < count_by p descs
counts_end p descs key desc is passes =
    let part = part_of_sum (λ o. one_if (p o)) descs key desc is in let one = ap one_if passes in omega (arith, part, one)

module _ (h : Heap) (hand : List ℕ) (owners : HasItsOwners h hand) (key : ℕ) (desc : Desc) (is : object h.descs key ≡ Some desc) where
  pub is_named : 0 < desc.count
  is_named = subst (λ o. 0 < desc_count o) is (owners.named.named key (ap is_some is))

  end_there : (pipe : ℕ) (access : Access) → (access ≢ mode.Both) → desc.access ≡ access → desc.target ≡ target.Pipe pipe → InUse h.pipes pipe
      → HasEndAt h pipe (may_write (access_in access))
  end_there pipe mode.Both one same on used = absurd (one refl)
  end_there pipe mode.Read one same on used =
      let stands = owners.held.stand pipe used in
      let held = stands.2.held in
      let ends = owners.held.pipes pipe held stands.2.there in
      let test : has_read_end pipe (Some desc) ≡ true = ap (λ t. is_on_pipe pipe t && may_read (access_in desc.access)) on ∙ ap (λ b. b && may_read (access_in desc.access)) (eqb_same pipe pipe refl) ∙ ap (λ a. may_read (access_in a)) same in
      let some = counts_end (has_read_end pipe) h.descs key desc is test in
      (stands.0, stands.1, stands.2, (let e = ends.readers in let f = stands.2.readers in omega (arith, e, f, some)))
  end_there pipe mode.Write one same on used =
      let stands = owners.held.stand pipe used in
      let held = stands.2.held in
      let ends = owners.held.pipes pipe held stands.2.there in
      let test : has_write_end pipe (Some desc) ≡ true = ap (λ t. is_on_pipe pipe t && may_write (access_in desc.access)) on ∙ ap (λ b. b && may_write (access_in desc.access)) (eqb_same pipe pipe refl) ∙ ap (λ a. may_write (access_in a)) same in
      let some = counts_end (has_write_end pipe) h.descs key desc is test in
      (stands.0, stands.1, stands.2, (let e = ends.writers in let f = stands.2.writers in omega (arith, e, f, some)))

  closes : (what : Target) → desc.target ≡ what → IsThereFor h desc.access what → IsClosable h desc.access what
  closes (target.Inode number) on there = tt
  closes (target.Pipe pipe) on there = end_there pipe desc.access there.1 refl on there.0
  closes (target.Sock sock) on there = record {
    sockets = owners.held.socks.sockets;
    stands = owners.held.socks.stands;
    used = there;
    nowhere = owners.held.socks.held.apart sock (named_among h.descs key sock (ap sock_in is ∙ ap sock_of on));
  }

  pub droppable : IsDroppable h key
  droppable = record { desc = desc; there = is; named = is_named; closable = closes desc.target refl (owners.held.targets key desc is) }
