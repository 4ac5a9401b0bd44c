-- A pipe, and then a Desc for each of its ends, one after another.
use Rattle.std.proofs.Common.{◌≡◌, ℕ, ◌-◌, ◌<◌, List, Option, None, Some, length, sym, ap, subst, ◌∙◌, arith}
use Rattle.kabi_types.specs.declared.classes.Class.TheVariants as class
use Rattle.std.proofs.lemmas.List.{length-set}
use Rattle.kheap_laws.proofs.OnceLemmas.{Contains-single}
use Rattle.kheap_laws.proofs.TableLemmas.{OwnsItsObjects-along}
use Rattle.kabi_types.specs.Counts.{with_count}
use Rattle.kheap_slabs.specs.Objects.{object, put}
use Rattle.kheap_slabs.specs.Purse.{Purse}
use Rattle.kheap_slabs.specs.declared.objects.Access.TheVariants as mode
use Rattle.kheap_slabs.specs.declared.objects.Desc.{Desc}
use Rattle.kheap_slabs.specs.Heap.{Heap}
use Rattle.kheap_slabs.specs.Owners.{OwnsItsObjects, pipe_queues, sock_queues, spaces_of}
use Rattle.pipe_ends.specs.Standing.{LeavesOthers, StandsFor}
use Rattle.pipe_ends.proofs.StandingLemmas.{stands_same}
use Rattle.posix_defs.specs.Pipe.{new_pipe}
use Rattle.proc_numbers.specs.PipeOpening.{PipeOpens, end_of}

module _ (old made mid new : Heap) (pipe reading writing : ℕ) (vacant : object old.pipes pipe ≡ None) (stands : StandsFor made pipe new_pipe 0) (others : LeavesOthers old made pipe)
    (chunks : made.chunks ≡ old.chunks) (objects : OwnsItsObjects made)
    (free : object made.descs reading ≡ None) (within : reading < length made.descs) (first : mid ≡ record made { descs = put made.descs reading (end_of pipe mode.Read); high = mid.high })
    (also_free : object mid.descs writing ≡ None) (also_within : writing < length mid.descs) (second : new ≡ record mid { descs = put mid.descs writing (end_of pipe mode.Write); high = new.high }) where
  same_descs : made.descs ≡ old.descs
  same_descs = ap (λ (h : Heap). h.descs) others.kept

  descs_mid : mid.descs ≡ put old.descs reading (end_of pipe mode.Read)
  descs_mid = ap (λ (h : Heap). h.descs) first ∙ ap (λ (d : List (Option Desc)). put d reading (end_of pipe mode.Read)) same_descs

  made_so : made ≡ record old { pipes = made.pipes; high = made.high }
  made_so = others.kept ∙ ap (λ c. record old { pipes = made.pipes; chunks = c; high = made.high }) chunks

  -- the heap with what the two leave of it
  abbrev so : Heap → Heap
  so h = record h { descs = new.descs; pipes = new.pipes; high = new.high }

  pub pipe_opens : PipeOpens old new pipe reading writing
  pipe_opens = record {
    vacant = vacant;
    stands = stands_same made new pipe new_pipe 0 (ap (λ (h : Heap). object h.pipes pipe) second ∙ ap (λ (h : Heap). object h.pipes pipe) first)
        (ap (λ (h : Heap). h.chunks) second ∙ ap (λ (h : Heap). h.chunks) first) stands;
    pipes = λ other apart.
        ap (λ (h : Heap). object h.pipes other) second ∙ ap (λ (h : Heap). object h.pipes other) first
        ∙ others.objects other (λ among. apart (sym (Contains-single pipe other among)));
    free = ap (λ (d : List (Option Desc)). object d reading) (sym same_descs) ∙ free;
    also_free = ap (λ (d : List (Option Desc)). object d writing) (sym descs_mid) ∙ also_free;
    within = subst (λ (d : List (Option Desc)). reading < length d) same_descs within;
    also_within = subst (λ n. writing < n) (ap length descs_mid ∙ length-set old.descs reading (Some (end_of pipe mode.Read))) also_within;
    descs = ap (λ (h : Heap). h.descs) second ∙ ap (λ (d : List (Option Desc)). put d writing (end_of pipe mode.Write)) descs_mid;
    objects = OwnsItsObjects-along made new
        (ap (λ (h : Heap). spaces_of h.procs) second ∙ ap (λ (h : Heap). spaces_of h.procs) first)
        (ap (λ (h : Heap). pipe_queues h.pipes) second ∙ ap (λ (h : Heap). pipe_queues h.pipes) first)
        (ap (λ (h : Heap). sock_queues h.socks) second ∙ ap (λ (h : Heap). sock_queues h.socks) first)
        (ap (λ (h : Heap). h.nodes) second ∙ ap (λ (h : Heap). h.nodes) first)
        (ap (λ (h : Heap). h.pages) second ∙ ap (λ (h : Heap). h.pages) first)
        (ap (λ (h : Heap). h.chunks) second ∙ ap (λ (h : Heap). h.chunks) first) objects;
    beside = ap so second ∙ ap so first ∙ ap so made_so;
  }

-- ---- the purse

-- a purse that has spent a Desc
abbrev spent_one : Purse → Purse
spent_one purse = record purse { left = with_count purse.left class.Desc (purse.left.desc - 1) }

twice_less : (n : ℕ) → n - 1 - 1 ≡ n - 2
twice_less n = omega arith

pub spent_so : (before piped mid after : Purse) → piped ≡ record before { left = with_count before.left class.Pipe (before.left.pipe - 1) }
    → mid ≡ record piped { left = with_count piped.left class.Desc (piped.left.desc - 1) } → after ≡ record mid { left = with_count mid.left class.Desc (mid.left.desc - 1) }
    → after ≡ record before { left = with_count (with_count before.left class.Pipe (before.left.pipe - 1)) class.Desc (before.left.desc - 2) }
spent_so before piped mid after one two three =
    three ∙ ap spent_one two ∙ ap (λ purse. spent_one (spent_one purse)) one
    ∙ ap (λ n. record before { left = with_count (with_count before.left class.Pipe (before.left.pipe - 1)) class.Desc n }) (twice_less before.left.desc)
