-- The first process is put in the heap.
use Rattle.std.proofs.Common.{◌≡◌, ℕ, [], ◌∷◌, None, Some, refl, sym, ap, subst, lit<, lit≤}
use Rattle.kheap_slabs.specs.Objects.{object, put}
use Rattle.kheap_slabs.specs.Heap.{Heap}
use Rattle.kheap_slabs.specs.Owners.{Owners, IsOwned}
use Rattle.kheap_laws.proofs.OwnerLemmas.{IsOwned-space_joins}
use Rattle.posix_defs.specs.Memory.{boot_frames}
use Rattle.posix_defs.specs.Plain.{first_process}
use Rattle.proc_table.specs.Accounting.{HasAccount}
use Rattle.proc_table.specs.Moves.{TableMoves}
use Rattle.proc_table.specs.Procs.{first_proc, no_nodes}
use Rattle.proc_table.specs.Standing.{AreFrom, IsTable, nobody, there}
use Rattle.proc_table.specs.Table.{TableView, no_table, processes, with_procs}
use Rattle.proc_table.proofs.AddLemmas.{added-keys, added-light, added-owned, added-procs, added-rising, added-stored}
use Rattle.proc_table.proofs.ChangedAccounts.{booted_account}
use Rattle.proc_table.proofs.HoldLemmas.{content_kept, procs_on}
use Rattle.proc_table.proofs.MemoryLemmas.{no_memory_at}

module _ (old new : Heap) (now : TableView) (key : ℕ) (vacant : object old.procs key ≡ None) (stored : object new.procs key ≡ Some first_proc)
    (kept : new ≡ record old { procs = put old.procs key first_proc; high = new.high })
    (now_is : now ≡ record { listed = record { pid = 1; key = key } ∷ []; last = 1 }) where
  listed : now.listed ≡ record { pid = 1; key = key } ∷ []
  listed = ap (λ (t : TableView). t.listed) now_is

  last : now.last ≡ 1
  last = ap (λ (t : TableView). t.last) now_is

  first_procs : processes new now ≡ first_proc ∷ []
  first_procs = added-procs old new no_table now first_proc key vacant stored listed last kept tt

  owned_on : (others : Owners) → IsOwned old others → IsOwned new (with_procs (processes new now) others)
  owned_on others owned =
      added-owned old new no_table now first_proc key vacant stored listed last kept tt others (IsOwned-space_joins old others no_nodes refl owned)

  pub booted-moves : (others : Owners) → IsOwned old others → TableMoves old no_table new now
  booted-moves others owned = record {
    holds = record {
      stored = added-stored old new no_table now first_proc key vacant stored listed last kept tt;
      rising = added-rising old new no_table now first_proc key vacant stored listed last kept tt (lit≤ tt) (lit< tt);
      light = added-light old new no_table now first_proc key vacant stored listed last kept tt tt (record { memory = tt; descriptors = tt; awake = tt });
      owned = (others, owned_on others owned);
    };
    owners = owned_on;
    others = λ them other its there page. content_kept old new other page (ap (λ (h : Heap). h.nodes) kept) (ap (λ (h : Heap). h.pages) kept);
    keys = added-keys old new no_table now first_proc key vacant stored listed last kept tt;
    kept = procs_on old new (put old.procs key first_proc) kept;
  }

  pub booted-account : ((k : ℕ) → object old.pages k ≡ None) → HasAccount new now boot_frames
  booted-account none = booted_account old new now first_procs last (ap (λ (h : Heap). h.pages) kept) none

  pub booted-table : IsTable new now (Some first_process ∷ [])
  booted-table = record {
    present = subst (AreFrom new 1 (Some first_process ∷ [])) (sym first_procs)
        (subst (λ memory. AreFrom new 1 (Some (record first_process { memory = memory }) ∷ []) (first_proc ∷ [])) (no_memory_at new no_nodes refl)
        (there new 1 first_proc [] [] refl (nobody new 2)));
    made = sym last;
  }
