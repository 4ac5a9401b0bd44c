-- What a parent has open can be shared, and is shared with its child.
use Rattle.std.proofs.Common.{◌≡◌, ℕ, ◌<◌, [], length, Some, is_some, refl, ap, sym, subst, arith}
use Rattle.std.proofs.lemmas.List.Sums.{count_by-le-length}
use Rattle.kabi_types.specs.declared.scripts.Script.{Script}
use Rattle.kheap_slabs.specs.declared.objects.Proc.{Proc}
use Rattle.kheap_slabs.specs.Heap.{IsWellFormed}
use Rattle.kheap_slabs.specs.Leaves.{HoldLeaves}
use Rattle.kheap_slabs.specs.Objects.{InUse}
use Rattle.kheap_laws.proofs.TableLemmas.{OwnsItsObjects-along}
use Rattle.open_laws.specs.Owned.{HasItsOwners, desc_count_at, names_desc}
use Rattle.open_laws.specs.Sharing.{CanShare, hand_with, share_all}
use Rattle.open_laws.proofs.CloseLemmas.{described}
use Rattle.open_laws.proofs.GoingLemmas.{counts_few, held_open_on, named_there}
use Rattle.open_laws.proofs.ShareLemmas.{owners_all}
use Rattle.proc_numbers.proofs.Listing.{found_by_pid}
use Rattle.proc_numbers.proofs.NumberParts.{named_part}
use Rattle.proc_table.specs.Moves.{HasCopies, TableMoves, sharing}
use Rattle.proc_table.specs.Procs.{numbers_in, proc_of}
use Rattle.proc_table.proofs.NumberLemmas.{numbers_all}
use Rattle.store_objects.specs.declared.objects.Objects.{Objects}
use Rattle.store_objects.specs.Objects.{AreKept, procs_of}
use Rattle.store_objects.proofs.Namings.{names_in_hand}
use Rattle.store_objects.proofs.TreesOn.{caches_on}
use Rattle.fifo_nodes.proofs.ChainLemmas.{chain_kept}
use Rattle.store_objects.proofs.Keeping.{KeepsHeap, owners_so}

-- A heap has room to count all that a process has open once more.
pub can_share : (script : Script) (objects : Objects) (pid : ℕ) (parent : Proc) → AreKept script objects → IsWellFormed objects.heap → proc_of (procs_of objects) pid ≡ Some parent
    → CanShare objects.heap.descs (numbers_in objects.heap parent)
can_share script objects pid parent kept whole there =
    let found = found_by_pid objects.heap.procs objects.procs.listed pid parent kept.holds.stored there in
    record {
      there = λ key some.
          let desc = named_there objects.heap [] key kept.owners (named_part key objects.heap found.key parent found.there some) in
          ap is_some desc.1;
      small = λ key some.
          let few = counts_few objects.heap [] key whole kept.owners in
          let most = count_by-le-length (names_desc key) (numbers_in objects.heap parent) in
          let all = numbers_all objects.heap found.key parent whole found.there in
          let nothing : length {A = ℕ} [] ≡ 0 = refl in
          omega (arith, few, most, all, nothing);
    }

-- Each Desc that a process names counts one more in the heap with its child.
pub record HasShared (old mid : Objects) (parent : Proc) : Type 0 where
  pub can : CanShare old.heap.descs (numbers_in old.heap parent)
  pub descs : mid.heap.descs ≡ share_all old.heap.descs (numbers_in old.heap parent)

-- what is kept of the heap in which all is shared, and in which the child's Leaves are
pub keeps_shared : (script : Script) (old mid : Objects) → AreKept script old → KeepsHeap script (sharing old.heap mid.heap) old.procs old.tree old.names old.fifos old.locks
keeps_shared script old mid kept = record {
  without = old.heap.leaves;
  listed = record { stored = kept.holds.stored; rising = kept.holds.rising; all = kept.all; leaves = kept.leaves };
  bound = kept.bound;
  places = kept.places;
  chain = chain_kept old.heap (sharing old.heap mid.heap) old.fifos (λ key. refl) kept.chain;
  locked = kept.locked;
  caches = caches_on old.heap (sharing old.heap mid.heap) old.tree old.tree refl (record { vnodes = refl; names = refl; blocks = refl; size = refl }) kept.caches;
  size = kept.size;
}

-- All has its owner in the heap with the child.
pub owners_shared : (script : Script) (old mid : Objects) (parent its : Proc) → AreKept script old → HasShared old mid parent → HasCopies old.heap mid.heap parent its → HoldLeaves mid.heap.leaves (procs_of mid)
    → TableMoves (sharing old.heap mid.heap) old.procs mid.heap mid.procs → HasItsOwners mid.heap []
unfolding keeps_shared
owners_shared script old mid parent its kept shared copies leaves moves =
    owners_so (sharing old.heap mid.heap) mid.heap old.procs mid.procs old.heap.leaves (keeps_shared script old mid kept).listed leaves moves
    (OwnsItsObjects-along old.heap (sharing old.heap mid.heap) refl refl refl refl refl refl kept.owners.objects)
    (held_open_on (described old.heap (share_all old.heap.descs (numbers_in old.heap parent))) (sharing old.heap mid.heap) shared.descs refl refl refl all.held)
    (record {
      counts = λ key.
          let count = ap (λ descs. desc_count_at descs key) shared.descs in
          let named = all.named.counts key in
          let hand = names_in_hand key (numbers_in old.heap parent) [] in
          let more = copies.namings key in
          omega (arith, count, named, hand, more);
      named = λ key used. subst (λ descs. 0 < desc_count_at descs key) (sym shared.descs) (all.named.named key (subst (λ descs. InUse descs key) shared.descs used));
    })
  where
    all : HasItsOwners (described old.heap (share_all old.heap.descs (numbers_in old.heap parent))) (hand_with (numbers_in old.heap parent) [])
    all = owners_all old.heap [] (numbers_in old.heap parent) shared.can kept.owners
