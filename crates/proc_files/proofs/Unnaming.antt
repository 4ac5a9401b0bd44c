-- A number is closed whose socket, where one goes with it, has lost its name before: what is other is what any close changes.
use Rattle.std.proofs.Common.{◌≡◌, ◌+◌, ℕ, List, Option, None, ap, subst, sym, ◌∙◌}
use Rattle.std.specs.Prelude.{slice_index_or, slice_set}
use Rattle.kheap_slabs.specs.Objects.{object, put}
use Rattle.kheap_slabs.specs.declared.objects.Leaf.{Leaf}
use Rattle.kheap_slabs.specs.declared.objects.Proc.{Proc}
use Rattle.kheap_slabs.specs.Heap.{Heap}
use Rattle.kheap_slabs.specs.Leaves.{LeavesChange, numbers_by}
use Rattle.desc_table.specs.Numbered.{names_one}
use Rattle.open_laws.specs.Owned.{all_namings}
use Rattle.proc_table.specs.Table.{TableView}
use Rattle.proc_files.specs.Closing.{ClosesHolding}

pub closes_before : (old mid new : Heap) (kept : TableView) (pid fd : ℕ) → mid ≡ record old { chunks = mid.chunks; socks = mid.socks; high = mid.high } → mid.high ≡ old.high
    → ClosesHolding mid new kept pid fd → ClosesHolding old new kept pid fd
closes_before old mid new kept pid fd beside high closes =
    let it = closes.closes in
    let last = closes.mid in
    let same : mid.procs ≡ old.procs = ap (λ (h : Heap). h.procs) beside in
    let leaves : mid.leaves ≡ old.leaves = ap (λ (h : Heap). h.leaves) beside in
    let whole : mid ≡ record old { chunks = mid.chunks; socks = mid.socks } = beside ∙ ap (λ n. record old { chunks = mid.chunks; socks = mid.socks; high = n }) high in
    record {
      mid = last;
      closes = record {
        key = it.key;
        proc = it.proc;
        now = it.now;
        turns = record {
          found = it.turns.found;
          there = ap (λ (p : List (Option Proc)). object p it.key) (sym same) ∙ it.turns.there;
          same = it.turns.same;
          procs = it.turns.procs ∙ ap (λ (p : List (Option Proc)). put p it.key it.now) same;
          leaves = subst (λ (l : List (Option Leaf)). LeavesChange l last.leaves it.proc.leaves it.now.leaves) leaves it.turns.leaves;
        };
        numbers = it.numbers ∙ ap (λ (l : List (Option Leaf)). slice_set (numbers_by l it.proc.descriptors it.proc.leaves) fd None) leaves;
        namings = λ at.
            ap (λ (l : List (Option Leaf)). all_namings last at + names_one at (slice_index_or (numbers_by l it.proc.descriptors it.proc.leaves) fd None)) (sym leaves)
            ∙ it.namings at
            ∙ ap (λ (h : Heap). all_namings h at) beside;
        beside = it.beside ∙ ap (λ (h : Heap). record h { procs = last.procs; leaves = last.leaves; descs = last.descs; pipes = last.pipes; chunks = last.chunks; socks = last.socks }) whole;
      };
      caches = closes.caches;
    }
