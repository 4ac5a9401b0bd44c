-- What a process has open changes, step by step, and what the caches keep with it.
use Rattle.std.proofs.Common.{◌≡◌, ℕ, zero, suc, List, [], ◌∷◌, set, Option, Some, refl, ap, sym, ◌∙◌}
use Rattle.kheap_slabs.specs.Objects.{object, put}
use Rattle.kheap_slabs.specs.declared.objects.Proc.{Proc}
use Rattle.kheap_slabs.specs.Heap.{Heap}
use Rattle.proc_table.specs.Procs.{with_numbers}
use Rattle.proc_table.specs.Table.{TableView, key_of}
use Rattle.proc_table.proofs.PlaceLemmas.{some_same}
use Rattle.proc_numbers.specs.Naming.{ChangesNumbers}
use Rattle.proc_numbers.proofs.Listing.{put_same}
use Rattle.proc_files.specs.Closing.{CachesChange, ChangesHolding, ClosesHolding, with_locks_of}

-- the heap with what is open, what is cached and what is locked in another
abbrev pub holding : Heap → Heap → Heap
holding old new = record old {
  procs = new.procs;
  leaves = new.leaves;
  descs = new.descs;
  pipes = new.pipes;
  chunks = new.chunks;
  socks = new.socks;
  vnodes = new.vnodes;
  names = new.names;
  blocks = new.blocks;
  locks = new.locks;
  high = new.high;
}

-- the caches may stay
pub holding_of : (old new : Heap) (kept : TableView) (pid : ℕ) → ChangesNumbers old new kept pid → ChangesHolding old new kept pid
holding_of old new kept pid it = record {
  key = it.key;
  proc = it.proc;
  now = it.now;
  named = it.named;
  there = it.there;
  same = it.same;
  procs = it.procs;
  beside = ap (λ (h : Heap). holding h new) it.beside;
}

-- they change first
pub caches_before : (old mid new : Heap) (kept : TableView) (pid : ℕ) → CachesChange old mid → ChangesHolding mid new kept pid → ChangesHolding old new kept pid
caches_before old mid new kept pid e it =
    let same : mid.procs ≡ old.procs = ap (λ (h : Heap). h.procs) e in
    record {
      key = it.key;
      proc = it.proc;
      now = it.now;
      named = it.named;
      there = ap (λ (p : List (Option Proc)). object p it.key) (sym same) ∙ it.there;
      same = it.same;
      procs = it.procs ∙ ap (λ (p : List (Option Proc)). put p it.key it.now) same;
      beside = it.beside ∙ ap (λ (h : Heap). holding h new) e;
    }

-- or last
pub caches_after : (old mid new : Heap) (kept : TableView) (pid : ℕ) → ChangesHolding old mid kept pid → CachesChange mid new → ChangesHolding old new kept pid
caches_after old mid new kept pid it e = record {
  key = it.key;
  proc = it.proc;
  now = it.now;
  named = it.named;
  there = it.there;
  same = it.same;
  procs = ap (λ (h : Heap). h.procs) e ∙ it.procs;
  beside = ap (λ (h : Heap). holding h new) e ∙ ap (λ (h : Heap). holding h new) it.beside;
}

-- and where pipes and chunks have changed before
pub pipes_before : (old mid new : Heap) (kept : TableView) (pid : ℕ) → mid ≡ record old { pipes = mid.pipes; chunks = mid.chunks; high = mid.high } → ChangesHolding mid new kept pid
    → ChangesHolding old new kept pid
pipes_before old mid new kept pid e it =
    let same : mid.procs ≡ old.procs = ap (λ (h : Heap). h.procs) e in
    record {
      key = it.key;
      proc = it.proc;
      now = it.now;
      named = it.named;
      there = ap (λ (p : List (Option Proc)). object p it.key) (sym same) ∙ it.there;
      same = it.same;
      procs = it.procs ∙ ap (λ (p : List (Option Proc)). put p it.key it.now) same;
      beside = it.beside ∙ ap (λ (h : Heap). holding h new) e;
    }

pub set_again : {X : Type 0} (xs : List X) (i : ℕ) (a b : X) → set (set xs i a) i b ≡ set xs i b
set_again [] i a b = refl
set_again (x ∷ xs) zero a b = refl
set_again (x ∷ xs) (suc i) a b = ap (λ rest. x ∷ rest) (set_again xs i a b)

-- one change after another
abbrev pub holding_then : (old mid new : Heap) (kept : TableView) (pid : ℕ) → ChangesHolding old mid kept pid → ChangesHolding mid new kept pid → ChangesHolding old new kept pid
holding_then old mid new kept pid first second =
    let same_key : second.key ≡ first.key = some_same (key_of kept.listed pid) second.key first.key second.named first.named in
    let at : object mid.procs first.key ≡ Some first.now = ap (λ objects. object objects first.key) first.procs ∙ put_same old.procs first.key first.proc first.now first.there (ap (λ (p : Proc). p.pid) first.same) in
    let same_proc : second.proc ≡ first.now = some_same (object mid.procs first.key) second.proc first.now (ap (object mid.procs) (sym same_key) ∙ second.there) at in
    record {
      key = first.key;
      proc = first.proc;
      now = second.now;
      named = first.named;
      there = first.there;
      same = second.same ∙ ap (λ (p : Proc). with_numbers p second.now) (same_proc ∙ first.same);
      procs =
          second.procs
          ∙ ap (λ key. put mid.procs key second.now) same_key
          ∙ ap (λ objects. put objects first.key second.now) first.procs
          ∙ set_again old.procs first.key (Some first.now) (Some second.now);
      beside = second.beside ∙ ap (λ (h : Heap). holding h new) first.beside;
    }

-- a number is closed
unfoldable pub holding_closed : (old new : Heap) (kept : TableView) (pid fd : ℕ) → ClosesHolding (with_locks_of old new) new kept pid fd → ChangesHolding old new kept pid
holding_closed old new kept pid fd closes =
    let one = closes.closes in
    record {
      key = one.key;
      proc = one.proc;
      now = one.now;
      named = one.turns.found;
      there = one.turns.there;
      same = one.turns.same;
      procs = ap (λ (h : Heap). h.procs) closes.caches ∙ one.turns.procs;
      beside = ap (λ (h : Heap). holding h new) closes.caches ∙ ap (λ (h : Heap). holding h new) one.beside;
    }
