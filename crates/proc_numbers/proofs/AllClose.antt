-- An end closes nothing where nothing is open.
use Rattle.std.proofs.Common.{◌≡◌, ℕ, List, [], ◌∷◌, None, refl, ap, ◌∙◌}
use Rattle.kheap_slabs.specs.Heap.{Heap}
use Rattle.open_laws.specs.Placed.{Numbers}
use Rattle.posix_defs.specs.Files.Closing.{after_close, after_closes, all_numbers}
use Rattle.posix_defs.specs.Files.State.{Files}
use Rattle.proc_table.specs.Table.{TableView}
use Rattle.proc_numbers.specs.Having.{HaveOpen}
use Rattle.proc_numbers.specs.Naming.{named_at}
use Rattle.proc_numbers.proofs.NumberCloses.{unopened}

closes_none : (files : Files) (pid : ℕ) → ((fd : ℕ) → after_close files pid fd ≡ files) → (fds : List ℕ) → after_closes files pid fds ≡ files
closes_none files pid same [] = refl
closes_none files pid same (fd ∷ fds) = ap (λ f. after_closes f pid fds) (same fd) ∙ closes_none files pid same fds

pub end_of_none : (numbers : Numbers) (old : Heap) (kept : TableView) (files : Files) (pid : ℕ) → ((fd : ℕ) → named_at old kept pid fd ≡ None) → HaveOpen numbers old kept files → after_closes files pid all_numbers ≡ files
end_of_none numbers old kept files pid none have = closes_none files pid (λ fd. unopened numbers old kept files pid fd (none fd) have) all_numbers
