-- What the processes have in memory.
use Rattle.std.proofs.Common.{◌≡◌, ◌≢◌, ◌⊎◌, ℕ, zero, suc, ◌+◌, ◌/◌, ◌%◌, ◌<◌, ◌==◌, true, false, cond, not, List, [], ◌∷◌, filter, length, map, replicate, Option, None, Some, refl, sym, ap, ◌∙◌, subst, inl, inr, arith, slice_index_or}
use Rattle.std.specs.List.{AllByRecursion, range_with_len}
use Rattle.std.proofs.lemmas.Bool.Decides.{eqb_tells}
use Rattle.std.proofs.lemmas.List.{get_or-replicate, length-replicate}
use Rattle.std.proofs.lemmas.List.FromFn.{fill_by_all, get_or-map-range_with_len, length-map-range_with_len}
use Rattle.kheap_slabs.specs.declared.objects.Proc.{Proc}
use Rattle.kheap_slabs.specs.Heap.{Heap}
use Rattle.kheap_slabs.specs.Spaces.{keys_in}
use Rattle.page_space.specs.Contents.{StandsFor, content_at, content_of}
use Rattle.page_space.specs.Entries.{entry_under}
use Rattle.posix_defs.specs.Memory.{Memory, no_memory}
use Rattle.proc_table.specs.Changes.{is_other}
use Rattle.proc_table.specs.Moves.{MemoryStays}
use Rattle.proc_table.specs.Procs.{memory_at, process_of}

same_range : (f g : ℕ → Option (List ℕ)) (n first end : ℕ) → first + n ≡ end → ((page : ℕ) → page < end → f page ≡ g page) → map f (range_with_len first n) ≡ map g (range_with_len first n)
same_range f g zero first end e same = refl
same_range f g (suc n) first end e same =
    ap (λ rest. f first ∷ rest) (same_range f g n (first + 1) end (omega arith) same)
    ∙ ap (λ o. o ∷ map g (range_with_len (first + 1) n)) (same first (omega arith))

-- spaces with the same bytes in each page are the same memory
pub memory_at-same : (old new : Heap) (space now : List (Option ℕ)) → ((page : ℕ) → page < 256 → content_at new now page ≡ content_at old space page) → memory_at new now ≡ memory_at old space
unfolding memory_at
memory_at-same old new space now same = same_range (content_at new now) (content_at old space) 256 0 256 (omega arith) same

-- a space stands for its memory, and for no other
pub memory_at-stands : (h : Heap) (space : List (Option ℕ)) → StandsFor h space (memory_at h space)
unfolding memory_at
memory_at-stands h space page below = sym (get_or-map-range_with_len (content_at h space) 0 256 page page None below (omega arith))

pub length-memory_at : (h : Heap) (space : List (Option ℕ)) → length (memory_at h space) ≡ 256
unfolding memory_at
length-memory_at h space = length-map-range_with_len (content_at h space) 0 256

pub memory_at-is : (h : Heap) (space : List (Option ℕ)) (memory : Memory) → length memory ≡ 256 → StandsFor h space memory → memory ≡ memory_at h space
unfolding memory_at
memory_at-is h space memory len stands = fill_by_all (content_at h space) memory 256 None len (λ page below. sym (stands page below))

-- without nodes there is no memory
pub none_under : (space : List (Option ℕ)) (i : ℕ) → keys_in space ≡ [] → slice_index_or space i None ≡ None
none_under [] i none = refl
none_under (None ∷ space) zero none = refl
none_under (None ∷ space) (suc i) none = none_under space i none
none_under (Some key ∷ space) i none = cc

pub content_at-empty : (h : Heap) (space : List (Option ℕ)) (page : ℕ) → keys_in space ≡ [] → content_at h space page ≡ None
content_at-empty h space page none = ap (λ key. content_of h.pages (entry_under h.nodes key (page % 64))) (none_under space (page / 64) none)

pub no_memory_at : (h : Heap) (space : List (Option ℕ)) → keys_in space ≡ [] → memory_at h space ≡ no_memory
unfolding no_memory
no_memory_at h space none =
    sym (memory_at-is h space (replicate 256 None) (length-replicate {A = Option (List ℕ)} 256 None)
    (λ page below. content_at-empty h space page none ∙ sym (get_or-replicate 256 page None None below)))

-- a process is what it was where its pages have what they had
pub process_of-same : (old new : Heap) (proc : Proc) → ((page : ℕ) → content_at new proc.nodes page ≡ content_at old proc.nodes page) → process_of new proc ≡ process_of old proc
process_of-same old new proc same = ap (λ memory. record (process_of old proc) { memory = memory }) (memory_at-same old new proc.nodes proc.nodes (λ page below. same page))

pub processes_same : (old new : Heap) (procs : List Proc) → MemoryStays old new procs → AllByRecursion (λ proc. process_of new proc ≡ process_of old proc) procs
processes_same old new [] stays = tt
processes_same old new (proc ∷ procs) stays = (process_of-same old new proc stays.0, processes_same old new procs stays.1)

pub others_same : (old new : Heap) (procs : List Proc) (pid : ℕ) → MemoryStays old new (filter (is_other pid) procs)
    → AllByRecursion (λ proc. proc.pid ≢ pid → process_of new proc ≡ process_of old proc) procs
others_same old new [] pid stays = tt
others_same old new (proc ∷ procs) pid stays = by_pid (eqb_tells proc.pid pid) (others_same old new procs pid)
  where
    by_pid : (((proc.pid == pid) ≡ true) × (proc.pid ≡ pid)) ⊎ (((proc.pid == pid) ≡ false) × (proc.pid ≢ pid))
        → (MemoryStays old new (filter (is_other pid) procs) → AllByRecursion (λ proc. proc.pid ≢ pid → process_of new proc ≡ process_of old proc) procs)
        → AllByRecursion (λ proc. proc.pid ≢ pid → process_of new proc ≡ process_of old proc) (proc ∷ procs)
    by_pid (inl own) rest = (
      (λ other. absurd (other own.1)),
      rest (subst (MemoryStays old new) (ap (λ b. cond (not b) (proc ∷ filter (is_other pid) procs) (filter (is_other pid) procs)) own.0) stays),
    )
    by_pid (inr other) rest =
        let all : MemoryStays old new (proc ∷ filter (is_other pid) procs) =
        subst (MemoryStays old new) (ap (λ b. cond (not b) (proc ∷ filter (is_other pid) procs) (filter (is_other pid) procs)) other.0) stays in
        ((λ apart. process_of-same old new proc all.0), rest all.1)
