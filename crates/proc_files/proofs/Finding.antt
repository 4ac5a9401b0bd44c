-- A process that is there.
use Rattle.std.proofs.Common.{◌≡◌, ℕ, IsSome, Option, None, Some, refl, ap}
use Rattle.kheap_slabs.specs.Objects.{object}
use Rattle.kheap_slabs.specs.declared.objects.Proc.{Proc}
use Rattle.kheap_slabs.specs.Heap.{Heap}
use Rattle.proc_table.specs.Procs.{numbers_in, proc_of}
use Rattle.proc_table.specs.Table.{TableView, key_of, processes}
use Rattle.proc_numbers.specs.Having.{AreListed, places_in}
use Rattle.proc_numbers.specs.Naming.{places_of}
use Rattle.proc_numbers.proofs.Listing.{found_before}
use Rattle.proc_table.proofs.PlaceLemmas.{key_of-proc}

-- ---- a process that is there

-- it is in its Proc
pub record IsAt (h : Heap) (kept : TableView) (pid : ℕ) : Type 0 where
  pub key : ℕ
  pub proc : Proc
  pub named : key_of kept.listed pid ≡ Some key
  pub there : object h.procs key ≡ Some proc
  pub found : proc_of (processes h kept) pid ≡ Some proc
  pub places : places_of h kept pid ≡ (numbers_in h proc)

pub is_at : (h : Heap) (kept : TableView) (pid : ℕ) → AreListed h kept → IsSome (key_of kept.listed pid) → IsAt h kept pid
is_at h kept pid listed there = by_key (key_of kept.listed pid) refl there
  where
    by_key : (o : Option ℕ) → key_of kept.listed pid ≡ o → IsSome o → IsAt h kept pid
    by_key None named some = cc
    by_key (Some key) named some =
        let it = key_of-proc h.procs kept.listed pid key listed.stored named in
        record {
          key = key;
          proc = it.0;
          named = named;
          there = it.1;
          found = found_before h.procs key it.0 it.0 it.1 refl kept.listed pid listed.stored named;
          places = ap (places_in (numbers_in h)) (found_before h.procs key it.0 it.0 it.1 refl kept.listed pid listed.stored named);
        }
