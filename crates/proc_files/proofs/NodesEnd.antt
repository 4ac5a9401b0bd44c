-- Descriptions go, and no node is opened less often where none of a node has gone.
use Rattle.std.proofs.Common.{◌≡◌, ℕ, zero, suc, ◌+◌, ◌<◌, Bool, true, false, ◌&&◌, ◌||◌, [], ◌∷◌, length, Option, None, Some, is_none, is_some, refl, ap, sym, ◌∙◌, arith}
use Rattle.std.specs.List.{list_any, range_with_len}
use Rattle.kheap_slabs.proofs.ObjectLemmas.{InUse-within}
use Rattle.kheap_slabs.specs.Heap.{Heap}
use Rattle.open_laws.specs.Owned.{HasItsOwners}
use Rattle.open_laws.specs.Placed.{Numbers}
use Rattle.posix_defs.specs.Files.Closing.{after_close}
use Rattle.posix_defs.specs.Files.Descriptions.{Description, Descriptions, description_at}
use Rattle.posix_defs.specs.Files.State.{Files, beside, node_of, nodes_among, opened_node}
use Rattle.posix_defs.specs.Reaching.{ends_at, ends_node}
use Rattle.proc_table.specs.Table.{TableView}
use Rattle.proc_table.proofs.PlaceLemmas.{some_same}
use Rattle.proc_numbers.specs.Closed.{without_number}
use Rattle.proc_numbers.specs.Having.{AreListed, HaveOpen, node_closed}
use Rattle.proc_numbers.specs.Naming.{named_at}
use Rattle.proc_files.specs.Closing.{CachesChange, ClosesHolding, with_locks_of}
use Rattle.proc_files.specs.Holders.{openings, times}
use Rattle.proc_files.proofs.Beside.{have_beside, listed_beside, owners_beside}
use Rattle.proc_files.proofs.Closings.{Goes, goes_with}
use Rattle.proc_files.proofs.Openings.{times_here}
use Rattle.proc_files.proofs.Unlocking.{goes_closed, heap_locked, listed_locked, open_left, owners_locked}
use Rattle.proc_files.specs.Ending.{OnlyGoes}

-- ---- steps

pub goes_still : (files : Files) → OnlyGoes files files
goes_still files = record { fewer = λ n. omega arith; left = λ place d there. there; nodes = λ place d there. refl }

pub goes_then : (files mid next : Files) → OnlyGoes files mid → OnlyGoes mid next → OnlyGoes files next
goes_then files mid next first second = record {
  fewer = λ n. (let one = first.fewer n in let two = second.fewer n in omega (arith, one, two));
  left = λ place d there. first.left place d (second.left place d there);
  nodes = λ place d there. second.nodes place d there ∙ first.nodes place d (second.left place d there);
}

pub only_goes : (files next : Files) (went : Option ℕ) → Goes files next went → OnlyGoes files next
only_goes files next went goes = record { fewer = λ n. (let same = goes.opened n in omega (arith, same)); left = goes.left; nodes = goes.nodes }

-- what goes with a number, also where the caches change with it and locks have gone before
pub closing_goes : (old new : Heap) (kept : TableView) (pid fd : ℕ) (numbers : Numbers) (files : Files) → AreListed old kept → HasItsOwners old [] → AreListed new kept → HasItsOwners new []
    → ClosesHolding (with_locks_of old new) new kept pid fd → HaveOpen numbers old kept files → HaveOpen numbers new kept (after_close files pid fd)
    → Goes files (after_close files pid fd) (node_closed old (named_at old kept pid fd))
closing_goes old new kept pid fd numbers files listed owners listed_new owners_new closes have then =
    let back : CachesChange new closes.mid =
    sym (ap (λ (h : Heap). record h { vnodes = closes.mid.vnodes; names = closes.mid.names; blocks = closes.mid.blocks; high = closes.mid.high }) closes.caches) in
    let next = without_number files pid fd in
    goes_closed files pid fd (node_closed old (named_at old kept pid fd))
    (goes_with (with_locks_of old new) closes.mid kept pid fd (listed_locked old new.locks kept listed) (owners_locked old new.locks [] owners) closes.closes (listed_beside new closes.mid back kept listed_new)
    (owners_beside new closes.mid back [] owners_new) numbers files (heap_locked old new.locks numbers kept files have)
    (have_beside new closes.mid back numbers kept next next refl refl refl refl refl (open_left numbers new kept files pid fd then)) (node_closed old (named_at old kept pid fd)) refl)

-- where each node is opened as often as before none went with it
pub none_goes : (files next : Files) (went : Option ℕ) → Goes files next went → ((n : ℕ) → openings next n ≡ openings files n) → went ≡ None
none_goes files next None goes same = refl
none_goes files next (Some number) goes same = absurd (
    let less = goes.opened number in let as_many = same number in let one = times_here number [] in let none : times number [] ≡ 0 = refl in omega (arith, less, as_many, one, none))

-- ---- the machine's test

any_none : (test : ℕ → Bool) (a n : ℕ) → list_any test (range_with_len a n) ≡ false → (k : ℕ) → k < n → test (a + k) ≡ false
any_none test a zero none k below = absurd (omega (arith, below))
any_none test a (suc n) none zero below = ap test (let e : a + 0 ≡ a = omega arith in e) ∙ first (test a) (list_any test (range_with_len (a + 1) n)) none
  where
    first : (one rest : Bool) → one || rest ≡ false → one ≡ false
    first true rest is = is
    first false rest is = refl
any_none test a (suc n) none (suc k) below =
    ap test (let e : a + suc k ≡ a + 1 + k = omega arith in e) ∙ any_none test (a + 1) n (later (test a) (list_any test (range_with_len (a + 1) n)) none) k (omega (arith, below))
  where
    later : (one rest : Bool) → one || rest ≡ false → rest ≡ false
    later true rest is = absurd (let both : true ≡ false = is in cc)
    later false rest is = is

-- descriptions that open the same, place by place, open the same nodes
same_openings : (one other : Files) (xs ys : Descriptions) → ((place : ℕ) → opened_node one (description_at xs place) ≡ opened_node other (description_at ys place)) → nodes_among one xs ≡ nodes_among other ys
same_openings one other [] [] same = refl
same_openings one other [] (y ∷ ys) same =
    same_openings one other [] ys (λ place. same (suc place)) ∙ ap (λ o. beside o (nodes_among other ys)) (same 0)
same_openings one other (x ∷ xs) [] same =
    ap (λ o. beside o (nodes_among one xs)) (same 0) ∙ same_openings one other xs [] (λ place. same (suc place))
same_openings one other (x ∷ xs) (y ∷ ys) same =
    ap (λ o. beside o (nodes_among one xs)) (same 0) ∙ ap (beside (opened_node other y)) (same_openings one other xs ys (λ place. same (suc place)))

-- where no description of a node has gone each node is opened as often as before
pub ends_none : (files next : Files) → ends_node files next ≡ false → OnlyGoes files next → (n : ℕ) → openings next n ≡ openings files n
ends_none files next none goes n = ap (times n) (same_openings next files next.descriptions files.descriptions each)
  where
    ends_so : (place : ℕ) (d : Description) → description_at files.descriptions place ≡ Some d → ends_at files next place ≡ false
    ends_so place d there =
        ap (ends_at files next) (let e : place ≡ 0 + place = omega arith in e)
        ∙ any_none (ends_at files next) 0 (length files.descriptions) none place (InUse-within files.descriptions place (ap is_some there))

    none_left : (place : ℕ) (o : Option Description) → description_at files.descriptions place ≡ None → description_at next.descriptions place ≡ o → opened_node next o ≡ None
    none_left place None gone is = refl
    none_left place (Some d) gone is = absurd (let both : None ≡ Some d = sym gone ∙ goes.left place d is in cc)

    by_node : (o : Option ℕ) → (is_some o && true) ≡ false → None ≡ o
    by_node None off = refl
    by_node (Some number) off = absurd (let both : true ≡ false = off in cc)

    some_left : (place : ℕ) (d : Description) (o : Option Description) → description_at files.descriptions place ≡ Some d → description_at next.descriptions place ≡ o → opened_node next o ≡ node_of files d.target
    some_left place d None there is =
        by_node (node_of files d.target)
        (sym (ap (λ (a : Option Description). is_some (opened_node files a) && is_none (description_at next.descriptions place)) there ∙ ap (λ (b : Option Description). is_some (node_of files d.target) && is_none b) is)
        ∙ ends_so place d there)
    some_left place d (Some still) there is =
        goes.nodes place still is ∙ ap (λ (e : Description). node_of files e.target) (some_same (description_at files.descriptions place) still d (goes.left place still is) there)

    each_of : (place : ℕ) (o : Option Description) → description_at files.descriptions place ≡ o → opened_node next (description_at next.descriptions place) ≡ opened_node files o
    each_of place None gone = none_left place (description_at next.descriptions place) gone refl
    each_of place (Some d) there = some_left place d (description_at next.descriptions place) there refl

    each : (place : ℕ) → opened_node next (description_at next.descriptions place) ≡ opened_node files (description_at files.descriptions place)
    each place = each_of place (description_at files.descriptions place) refl
