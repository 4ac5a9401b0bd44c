-- A live process loses its memory.
use Rattle.std.proofs.Common.{◌≡◌, ℕ, List, Option, None, Some, filter, map, refl, sym, ap, ◌∙◌, subst}
use Rattle.kheap_slabs.specs.Objects.{object, put}
use Rattle.kheap_slabs.specs.declared.objects.Proc.{Proc}
use Rattle.kheap_slabs.specs.Heap.{Heap}
use Rattle.kheap_slabs.specs.Owners.{Owners, with_space, IsOwned}
use Rattle.kheap_laws.proofs.OwnerLemmas.{IsOwned-space_joins}
use Rattle.page_space.specs.Contents.{SpaceLeaves}
use Rattle.posix_defs.specs.Memory.{Frames, after_clear, no_memory}
use Rattle.posix_defs.specs.Process.{Table}
use Rattle.proc_table.specs.Accounting.{HasAccount}
use Rattle.proc_table.specs.Changes.{cleared, is_other}
use Rattle.proc_table.specs.Moves.{MemoryStays, TableMoves}
use Rattle.proc_table.specs.Procs.{IsAlive, no_nodes, proc_of}
use Rattle.proc_table.specs.Standing.{AreFrom, IsTable, cleared_in}
use Rattle.proc_table.specs.Table.{Holds, TableView, key_of, processes}
use Rattle.proc_table.proofs.ChangedAccounts.{cleared_account}
use Rattle.proc_table.proofs.FamilyLemmas.{length-with_memory, remembers_is}
use Rattle.proc_table.proofs.MemoryLemmas.{no_memory_at, others_same}
use Rattle.proc_table.proofs.PlaceLemmas.{key_of-proc, some_same}
use Rattle.proc_table.proofs.TurnLemmas.{listed_proc, turned-memory, turned-moves, turned-procs}

-- the process at the key of a live one runs
pub alive_at : (h : Heap) (kept : TableView) (pid key : ℕ) (proc : Proc) → Holds h kept → IsAlive (processes h kept) pid → key_of kept.listed pid ≡ Some key
    → object h.procs key ≡ Some proc → proc.status ≡ None
alive_at h kept pid key proc holds alive found there =
    let named = key_of-proc h.procs kept.listed pid key holds.stored found in
    let same : alive.proc ≡ proc = some_same (proc_of (processes h kept) pid) alive.proc proc alive.there (named.3 ∙ ap Some (some_same (object h.procs key) named.0 proc named.1 there)) in
    ap (λ p. p.status) (sym same) ∙ alive.runs

module _ (old mid new : Heap) (kept : TableView) (holds : Holds old kept) (pid key : ℕ) (proc : Proc) (alive : IsAlive (processes old kept) pid)
    (found : key_of kept.listed pid ≡ Some key) (there : object old.procs key ≡ Some proc) (space : List (Option ℕ)) (space_is : space ≡ proc.nodes)
    (leaves : SpaceLeaves old mid space)
    (after : new ≡ record mid { procs = put mid.procs key (record proc { nodes = no_nodes }) }) where
  runs : proc.status ≡ None
  runs = alive_at old kept pid key proc holds alive found there

  left : SpaceLeaves old mid proc.nodes
  left = subst (SpaceLeaves old mid) space_is leaves

  turn : (others : Owners) → IsOwned old (with_space proc.nodes others) → IsOwned mid (with_space no_nodes others)
  turn others owned = IsOwned-space_joins mid others no_nodes refl (left.owners others owned)

  pub cleared-procs : processes new kept ≡ map (cleared pid) (processes old kept)
  cleared-procs = turned-procs old mid new kept holds pid key proc no_nodes found there runs turn left.others left.kept after

  pub cleared-moves : TableMoves old kept new kept
  cleared-moves = turned-moves old mid new kept holds pid key proc no_nodes found there runs turn left.others left.kept after

  pub cleared-memory : MemoryStays old new (filter (is_other pid) (processes old kept))
  cleared-memory = turned-memory old mid new kept holds pid key proc no_nodes found there runs turn left.others left.kept after

  pub cleared-account : (frames : Frames) → HasAccount old kept frames → HasAccount new kept (after_clear frames pid)
  cleared-account frames has =
      cleared_account old mid new kept frames pid proc space holds
      (listed_proc old mid new kept holds pid key proc no_nodes found there runs turn left.others left.kept after)
      space_is leaves cleared-procs (ap (λ (h : Heap). h.nodes) after) (ap (λ (h : Heap). h.pages) after) has

  pub cleared-table : (table : Table) → IsTable old kept table → IsTable new kept (cleared_in table pid)
  cleared-table table is = record {
    present = subst (AreFrom new 1 (cleared_in table pid)) (sym cleared-procs)
        (remembers_is old new table (processes old kept) pid no_nodes no_memory is.present (no_memory_at new no_nodes refl) (others_same old new (processes old kept) pid cleared-memory));
    made = length-with_memory table pid no_memory ∙ is.made;
  }
