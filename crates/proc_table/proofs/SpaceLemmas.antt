-- The space of a process of the table is one in hand.
use Rattle.std.proofs.Common.{◌≡◌, ℕ, Some, ap, ◌∙◌}
use Rattle.kheap_slabs.specs.Objects.{object}
use Rattle.kheap_slabs.specs.declared.objects.Proc.{Proc}
use Rattle.kheap_slabs.specs.Heap.{Heap}
use Rattle.kheap_laws.proofs.OwnerLemmas.{IsOwned-space_to_front}
use Rattle.page_space.specs.Contents.{IsOwnedWith}
use Rattle.proc_table.specs.Procs.{proc_of}
use Rattle.proc_table.specs.Table.{Holds, TableView, key_of, processes, with_procs}
use Rattle.proc_table.proofs.OwnLemmas.{HasOut, has_out, rising_procs}
use Rattle.proc_table.proofs.PlaceLemmas.{key_of-proc, some_same}

-- one that is there by its pid
pub owned_proc : (h : Heap) (kept : TableView) → Holds h kept → (pid : ℕ) (proc : Proc) → proc_of (processes h kept) pid ≡ Some proc → IsOwnedWith h proc.nodes
owned_proc h kept holds pid proc is =
    let out : HasOut (processes h kept) pid proc.nodes holds.owned.0.spaces =
    has_out (processes h kept) 0 pid proc holds.owned.0.spaces (rising_procs h.procs kept.listed 0 kept.last holds.stored holds.rising) is in (
      record holds.owned.0 { spaces = out.spaces },
      IsOwned-space_to_front h (with_procs (processes h kept) holds.owned.0) proc.nodes out.spaces out.out holds.owned.1,
    )

-- and one by its key
pub owned_with : (h : Heap) (kept : TableView) → Holds h kept → (pid key : ℕ) (proc : Proc) → key_of kept.listed pid ≡ Some key → object h.procs key ≡ Some proc → IsOwnedWith h proc.nodes
owned_with h kept holds pid key proc found there =
    let named = key_of-proc h.procs kept.listed pid key holds.stored found in
    owned_proc h kept holds pid proc (named.3 ∙ ap Some (some_same (object h.procs key) named.0 proc named.1 there))
