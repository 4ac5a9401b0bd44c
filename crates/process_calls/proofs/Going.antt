-- Which descriptions go while processes close what they have open: none comes back, so where none of a node has gone at last none
-- had gone before.
use Rattle.std.proofs.Common.{◌≡◌, ℕ, zero, suc, ◌+◌, ◌<◌, ◌&&◌, ◌||◌, Bool, true, false, cond, List, [], ◌∷◌, set, get_or, length, Option, None, Some, is_none, is_some, refl, ap, sym, ◌∙◌, arith, inl, inr}
use Rattle.std.specs.Prelude.{slice_index_or, slice_set}
use Rattle.std.specs.List.{list_any, range_with_len}
use Rattle.std.specs.Option.{option_and_then}
use Rattle.std.proofs.lemmas.Bool.{cases_eq}
use Rattle.std.proofs.lemmas.List.{get_or-set_other}
use Rattle.kheap_slabs.proofs.ObjectLemmas.{InUse-within}
use Rattle.posix_defs.specs.Files.Closing.{after_close, after_closes, after_end_of, after_ends_of, all_numbers, close_in, description_gone, gone_in, left_fifo, left_node, released, target_closed}
use Rattle.posix_defs.specs.Files.Descriptions.{Access, Description, Descriptions, OnNode, OnPipe, OnSocket, Target, description_at, may_write, with_description}
use Rattle.posix_defs.specs.Files.Descriptors.{Descriptor, descriptor_at, is_named}
use Rattle.posix_defs.specs.Files.State.{Files, descriptors_of, node_of, opened_node, opens, pipe_at, with_descriptions, with_open, with_opening, with_pipe, with_tree}
use Rattle.posix_defs.specs.Pipe.{Pipe, after_close as pipe_after_close, fifo_of}
use Rattle.posix_defs.specs.Reaching.{ends_at, ends_node}
use Rattle.posix_defs.specs.TreeChanges.{closed}
use Rattle.proc_files.proofs.FifoTargets.{end_closed_node}
use Rattle.proc_files.proofs.Openings.{same_node}

-- ---- what is there was there

-- each description that is there was there before, and what has a node had one
pub record Remain (was is : Files) : Type 0 where
  pub there : (place : ℕ) (d : Description) → description_at is.descriptions place ≡ Some d → description_at was.descriptions place ≡ Some d
  pub nodes : (what : Target) → is_some (node_of is what) ≡ true → is_some (node_of was what) ≡ true

pub remain_then : (was mid is : Files) → Remain was mid → Remain mid is → Remain was is
remain_then was mid is first second = record {
  there = λ place d there. first.there place d (second.there place d there);
  nodes = λ what some. first.nodes what (second.nodes what some);
}

-- where pipes and descriptions are the same
pub remain_same : (was is : Files) → is.descriptions ≡ was.descriptions → is.pipes ≡ was.pipes → Remain was is
remain_same was is descriptions pipes = record {
  there = λ place d there. ap (λ (list : Descriptions). description_at list place) (sym descriptions) ∙ there;
  nodes = λ what some. ap is_some (sym (same_node is was pipes what)) ∙ some;
}

emptied : {X : Type 0} (xs : List (Option X)) (i : ℕ) → get_or (set xs i None) i None ≡ None
emptied [] i = refl
emptied (x ∷ xs) zero = refl
emptied (x ∷ xs) (suc i) = emptied xs i

-- where a description has gone
remain_without : (files : Files) (place : ℕ) → Remain files (with_descriptions files (with_description files.descriptions place None))
remain_without files place = record {
  there = λ at d there. elim (cases_eq at place) [
    | inl here ↦ absurd (let none : None ≡ Some d = sym (emptied files.descriptions place) ∙ ap (description_at (set files.descriptions place None)) (sym here) ∙ there in cc)
    | inr apart ↦ sym (get_or-set_other files.descriptions place at None None apart) ∙ there
  ];
  nodes = λ what some. some_of what some;
}
  where
    some_of : (what : Target) → is_some (node_of (with_descriptions files (with_description files.descriptions place None)) what) ≡ true → is_some (node_of files what) ≡ true
    some_of (OnNode number) some = some
    some_of (OnPipe pipe) some = some
    some_of (OnSocket sock) some = some

-- a node that is left
remain_left : (files : Files) (number : ℕ) → Remain files (left_node files number)
remain_left files number = by_opens (opens files number)
  where
    by_opens : (b : Bool) → Remain files (cond b files (with_tree files (closed files.tree number)))
    by_opens true = remain_same files files refl refl
    by_opens false = remain_same files (with_tree files (closed files.tree number)) refl refl

remain_fifo : (files : Files) (o : Option ℕ) → Remain files (left_fifo files o)
remain_fifo files None = remain_same files files refl refl
remain_fifo files (Some number) = remain_left files number

-- an end of a pipe that is closed
remain_end_closed : (files : Files) (place : ℕ) (writing : Bool) → Remain files (with_pipe files place (pipe_after_close (pipe_at files place) writing))
remain_end_closed files place writing = record { there = λ at d there. there; nodes = nodes }
  where
    after : List (Option Pipe)
    after = slice_set files.pipes place (pipe_after_close (pipe_at files place) writing)

    by_pipe : (p : ℕ) (o : Option Pipe) → slice_index_or after p None ≡ o → is_some (option_and_then fifo_of (slice_index_or after p None)) ≡ true → is_some (node_of files (OnPipe p)) ≡ true
    by_pipe p None is some = absurd (let both : false ≡ true = sym (ap (λ o. is_some (option_and_then fifo_of o)) is) ∙ some in cc)
    by_pipe p (Some left) is some = ap is_some (sym (end_closed_node files.pipes place writing p left is)) ∙ some

    nodes : (what : Target) → is_some (node_of (with_pipe files place (pipe_after_close (pipe_at files place) writing)) what) ≡ true → is_some (node_of files what) ≡ true
    nodes (OnNode number) some = some
    nodes (OnPipe p) some = by_pipe p (slice_index_or after p None) refl some
    nodes (OnSocket sock) some = some

remain_target : (files : Files) (access : Access) (what : Target) → Remain files (target_closed files access what)
remain_target files access (OnNode number) = remain_left files number
remain_target files access (OnPipe place) =
    let after = with_pipe files place (pipe_after_close (pipe_at files place) (may_write access)) in
    remain_then files after (target_closed files access (OnPipe place)) (remain_end_closed files place (may_write access)) (remain_fifo after (node_of files (OnPipe place)))
remain_target files access (OnSocket place) = remain_same files (target_closed files access (OnSocket place)) refl refl

remain_gone : (files : Files) (place : ℕ) (o : Option Description) → Remain files (gone_in files place o)
remain_gone files place None = remain_same files files refl refl
remain_gone files place (Some description) =
    let without = with_descriptions files (with_description files.descriptions place None) in
    remain_then files without (target_closed without description.access description.target) (remain_without files place) (remain_target without description.access description.target)

remain_released : (files : Files) (place : ℕ) → Remain files (released files place)
remain_released files place = by_named (is_named files.descriptors place)
  where
    by_named : (b : Bool) → Remain files (cond b files (description_gone files place))
    by_named true = remain_same files files refl refl
    by_named false = remain_gone files place (description_at files.descriptions place)

remain_close : (files : Files) (pid fd : ℕ) → Remain files (after_close files pid fd)
remain_close files pid fd = by_number (descriptor_at (descriptors_of files pid) fd)
  where
    by_number : (o : Option Descriptor) → Remain files (close_in files pid fd o)
    by_number None = remain_same files files refl refl
    by_number (Some descriptor) =
        let without = with_open files pid fd None in
        let closed = released without descriptor.description in
        remain_then files closed (close_in files pid fd (Some descriptor))
        (remain_then files without closed (remain_same files without refl refl) (remain_released without descriptor.description)) (remain_same closed (close_in files pid fd (Some descriptor)) refl refl)

remain_closes : (files : Files) (pid : ℕ) (fds : List ℕ) → Remain files (after_closes files pid fds)
remain_closes files pid [] = remain_same files files refl refl
remain_closes files pid (fd ∷ fds) =
    remain_then files (after_close files pid fd) (after_closes (after_close files pid fd) pid fds) (remain_close files pid fd) (remain_closes (after_close files pid fd) pid fds)

pub remain_end : (files : Files) (pid : ℕ) → Remain files (after_end_of files pid)
unfolding after_end_of
remain_end files pid =
    let closes = after_closes files pid all_numbers in
    remain_then files closes (with_opening closes pid None) (remain_closes files pid all_numbers) (remain_same closes (with_opening closes pid None) refl refl)

pub remain_ends : (files : Files) (pids : List ℕ) → Remain files (after_ends_of files pids)
remain_ends files [] = remain_same files files refl refl
remain_ends files (pid ∷ pids) =
    remain_then files (after_end_of files pid) (after_ends_of (after_end_of files pid) pids) (remain_end files pid) (remain_ends (after_end_of files pid) pids)

-- ---- the machine's test

any_none : (test : ℕ → Bool) (a n : ℕ) → list_any test (range_with_len a n) ≡ false → (k : ℕ) → k < n → test (a + k) ≡ false
any_none test a zero none k below = absurd (omega (arith, below))
any_none test a (suc n) none zero below = ap test (let e : a + 0 ≡ a = omega arith in e) ∙ first (test a) (list_any test (range_with_len (a + 1) n)) none
  where
    first : (one rest : Bool) → one || rest ≡ false → one ≡ false
    first true rest is = is
    first false rest is = refl
any_none test a (suc n) none (suc k) below =
    ap test (let e : a + suc k ≡ a + 1 + k = omega arith in e) ∙ any_none test (a + 1) n (later (test a) (list_any test (range_with_len (a + 1) n)) none) k (omega (arith, below))
  where
    later : (one rest : Bool) → one || rest ≡ false → rest ≡ false
    later true rest is = absurd (let both : true ≡ false = is in cc)
    later false rest is = is

none_any : (test : ℕ → Bool) (a n : ℕ) → ((place : ℕ) → test place ≡ false) → list_any test (range_with_len a n) ≡ false
none_any test a zero none = refl
none_any test a (suc n) none = ap (λ b. b || list_any test (range_with_len (a + 1) n)) (none a) ∙ none_any test (a + 1) n none

abbrev goes_so : Files → Option Description → Option Description → Bool
goes_so files was is = is_some (opened_node files was) && is_none is

module _ (files mid next : Files) (first : Remain files mid) (second : Remain mid next) (none : ends_node files next ≡ false) where
  -- of the node of a place none has gone at last
  stays_so : (place : ℕ) (d : Description) → description_at files.descriptions place ≡ Some d → goes_so files (Some d) (description_at next.descriptions place) ≡ false
  stays_so place d there =
      ap (λ (was : Option Description). goes_so files was (description_at next.descriptions place)) (sym there)
      ∙ ap (ends_at files next) (let e : place ≡ 0 + place = omega arith in e)
      ∙ any_none (ends_at files next) 0 (length files.descriptions) none place (InUse-within files.descriptions place (ap is_some there))

  never : {X : Type 0} (d : Description) (o : Option Description) → o ≡ None → o ≡ Some d → X
  never d o gone there = absurd (let both : None ≡ Some d = sym gone ∙ there in cc)

  kept_so : (b : Bool) → (b && false) ≡ false
  kept_so true = refl
  kept_so false = refl

  -- so none had before
  pub none_before : ends_node files mid ≡ false
  none_before = none_any (ends_at files mid) 0 (length files.descriptions) (λ place. at place (description_at files.descriptions place) refl)
    where
      with_mid : (place : ℕ) (d : Description) → description_at files.descriptions place ≡ Some d → (o : Option Description) → description_at mid.descriptions place ≡ o
          → (n : Option Description) → description_at next.descriptions place ≡ n → goes_so files (Some d) o ≡ false
      with_mid place d there (Some e) is n then = kept_so (is_some (opened_node files (Some d)))
      with_mid place d there None is None then = ap (goes_so files (Some d)) (sym then) ∙ stays_so place d there
      with_mid place d there None is (Some e) then = never e (description_at mid.descriptions place) is (second.there place e then)

      at : (place : ℕ) (o : Option Description) → description_at files.descriptions place ≡ o → ends_at files mid place ≡ false
      at place None is = ap (λ (was : Option Description). goes_so files was (description_at mid.descriptions place)) is
      at place (Some d) is =
          ap (λ (was : Option Description). goes_so files was (description_at mid.descriptions place)) is
          ∙ with_mid place d is (description_at mid.descriptions place) refl (description_at next.descriptions place) refl

  -- and none does then
  pub none_then : ends_node mid next ≡ false
  none_then = none_any (ends_at mid next) 0 (length mid.descriptions) (λ place. at place (description_at mid.descriptions place) refl)
    where
      at : (place : ℕ) (o : Option Description) → description_at mid.descriptions place ≡ o → ends_at mid next place ≡ false
      at place None is = ap (λ (was : Option Description). goes_so mid was (description_at next.descriptions place)) is
      at place (Some d) is =
          ap (λ (was : Option Description). goes_so mid was (description_at next.descriptions place)) is
          ∙ by_open place d is (is_some (node_of mid d.target)) refl
        where
          by_open : (place : ℕ) (d : Description) → description_at mid.descriptions place ≡ Some d → (b : Bool) → is_some (node_of mid d.target) ≡ b
              → (is_some (node_of mid d.target) && is_none (description_at next.descriptions place)) ≡ false
          by_open place d is false off = ap (λ b. b && is_none (description_at next.descriptions place)) off
          by_open place d is true on =
              ap (λ b. b && is_none (description_at next.descriptions place)) (on ∙ sym (first.nodes d.target on))
              ∙ stays_so place d (first.there place d is)
