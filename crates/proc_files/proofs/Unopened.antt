-- A number that was found, by itself; and one that isn't open, of which a close changes nothing.
use Rattle.std.proofs.Common.{◌≡◌, ℕ, None, Some, pos, refl}
use Rattle.kheap_slabs.specs.Heap.{Heap}
use Rattle.proc_table.specs.Table.{TableView, key_of}
use Rattle.proc_numbers.specs.declared.lookups.Found.{Found}
use Rattle.proc_numbers.specs.declared.lookups.Named.{Named}
use Rattle.proc_numbers.specs.Found.{IsOpened}
use Rattle.proc_numbers.specs.Having.{AreListed}
use Rattle.proc_numbers.specs.Naming.{named_at}
use Rattle.proc_numbers.proofs.NumberCloses.{closes_nothing as nothing_closed}
use Rattle.proc_numbers.proofs.OpenedBy.{is_held_at, is_number, is_there}
use Rattle.proc_files.specs.Closing.{ClosesHolding}

-- what a call's number names is what the number that was found names
pub opened_found : (h : Heap) (kept : TableView) (pid : ℕ) (on : Named) → IsOpened h kept pid on → (found : Found) → on.found ≡ Some found
    → IsOpened h kept pid (record { fd = pos found.number; found = Some found })
opened_found h kept pid on opened found is = record {
  names = is_held_at h kept pid on opened found is;
  there = is_there h kept pid on opened found is;
  number = (refl, (is_number h kept pid on opened found is).1);
}

-- ---- it isn't open

pub closes_nothing : (h : Heap) (kept : TableView) (pid fd key : ℕ) → AreListed h kept → key_of kept.listed pid ≡ Some key → named_at h kept pid fd ≡ None → ClosesHolding h h kept pid fd
closes_nothing h kept pid fd key listed named none = record { mid = h; closes = nothing_closed h kept pid fd key listed named none; caches = refl }
