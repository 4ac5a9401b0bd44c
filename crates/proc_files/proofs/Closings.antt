-- A number is closed in the machine: which description goes, and which node with it.
use Rattle.std.proofs.Common.{◌≡◌, ◌≢◌, ◌⊎◌, ℕ, zero, suc, ◌+◌, ◌<◌, ◌==◌, ◌||◌, Bool, true, false, cond, List, [], ◌∷◌, set, Option, None, Some, is_some, refl, ap, sym, ◌∙◌, subst, arith, inl, inr}
use Rattle.std.specs.Prelude.{count_by, slice_index_or, slice_set}
use Rattle.std.specs.List.{list_any}
use Rattle.std.specs.Option.{option_and_then, option_map}
use Rattle.std.proofs.lemmas.Bool.{cases_eq}
use Rattle.std.proofs.lemmas.Bool.Decides.{eqb_tells}
use Rattle.std.proofs.lemmas.List.{get_or-set_other, get_or-set_same}
use Rattle.kheap_slabs.specs.Objects.{InUse, object}
use Rattle.kheap_slabs.specs.declared.objects.Desc.{Desc}
use Rattle.kheap_slabs.specs.declared.objects.Descriptor.{Descriptor as HeldDescriptor}
use Rattle.kheap_slabs.specs.declared.objects.Proc.{Proc}
use Rattle.kheap_slabs.proofs.ObjectLemmas.{InUse-within}
use Rattle.kheap_slabs.specs.Heap.{Heap}
use Rattle.open_laws.specs.Described.{counted_in, node_in}
use Rattle.open_laws.specs.Open.{descriptor_by}
use Rattle.open_laws.specs.Owned.{HasItsOwners, all_namings, desc_count}
use Rattle.open_laws.specs.Placed.{Numbers}
use Rattle.desc_table.specs.Numbered.{names_one}
use Rattle.posix_defs.specs.Files.Closing.{description_gone, gone_in, left_fifo, left_node, released, target_closed}
use Rattle.posix_defs.specs.Files.Descriptions.{Access, Description, Descriptions, OnNode, OnPipe, OnSocket, Target, description_at, may_write, with_description}
use Rattle.posix_defs.specs.Files.Descriptors.{Descriptors, is_named}
use Rattle.posix_defs.specs.Files.State.{Files, beside, is_number, node_of, nodes_among, opened_node, opens, pipe_at, pipe_there, with_descriptions, with_open, with_pipe, with_tree}
use Rattle.posix_defs.specs.Pipe.{Pipe, after_close as pipe_after_close, fifo_of}
use Rattle.posix_defs.specs.Tree.{Tree}
use Rattle.posix_defs.specs.TreeChanges.{closed}
use Rattle.proc_table.specs.Procs.{numbers_in, proc_of}
use Rattle.proc_table.specs.Table.{TableView, processes}
use Rattle.proc_table.proofs.PlaceLemmas.{eqb_same}
use Rattle.proc_numbers.specs.Closed.{without_in, without_number}
use Rattle.proc_numbers.specs.Having.{AreListed, ClosesNumber, HaveOpen, node_closed, node_dropped, places_in}
use Rattle.proc_numbers.specs.Naming.{named_at}
use Rattle.proc_numbers.proofs.Listing.{found_before}
use Rattle.proc_numbers.proofs.NamedPlaces.{named_by_none, named_by_some}
use Rattle.proc_numbers.proofs.NumberNames.{desc_named, descriptor_at_is}
use Rattle.proc_numbers.proofs.Sums.{one_if}
use Rattle.proc_numbers.proofs.NamedOpen.{described_so}
use Rattle.proc_files.specs.Holders.{openings, times}
use Rattle.proc_files.proofs.FifoTargets.{end_closed_node, node_same, pipe_is_there}
use Rattle.proc_files.proofs.Openings.{OpenTheSame, all_same, nodes_gone, same_node, same_nodes, times_apart, times_cons}

-- ---- who opens a node

-- whether a description opens a node, and how often it is opened
abbrev pub OpensSo : Files → ℕ → Descriptions → Type 0
OpensSo files number list =
    ((list_any (λ d. is_number number (opened_node files d)) list ≡ true) × (0 < times number (nodes_among files list)))
    ⊎ ((list_any (λ d. is_number number (opened_node files d)) list ≡ false) × (times number (nodes_among files list) ≡ 0))

pub opens_so : (files : Files) (number : ℕ) (list : Descriptions) → OpensSo files number list
opens_so files number [] = inr (refl, refl)
opens_so files number (None ∷ list) = opens_so files number list
opens_so files number (Some d ∷ list) = by_node (node_of files d.target) refl (list_any (λ o. is_number number (opened_node files o)) list) (opens_so files number list)
  where
    by_number : (m : ℕ) → (((m == number) ≡ true) × (m ≡ number)) ⊎ (((m == number) ≡ false) × (m ≢ number)) → (among : Bool)
        → ((among ≡ true) × (0 < times number (nodes_among files list))) ⊎ ((among ≡ false) × (times number (nodes_among files list) ≡ 0))
        → ((((m == number) || among) ≡ true) × (0 < times number (m ∷ nodes_among files list)))
        ⊎ ((((m == number) || among) ≡ false) × (times number (m ∷ nodes_among files list) ≡ 0))
    by_number m (inl same) among later =
        inl (ap (λ b. b || among) same.0, let all = times_cons number m (nodes_among files list) in let one : one_if (m == number) ≡ 1 = ap one_if same.0 in omega (arith, all, one))
    by_number m (inr apart) among (inl later) =
        inl (ap (λ b. b || among) apart.0 ∙ later.0, let all = times_apart number m (nodes_among files list) apart.1 in let some = later.1 in omega (arith, all, some))
    by_number m (inr apart) among (inr later) =
        inr (ap (λ b. b || among) apart.0 ∙ later.0, times_apart number m (nodes_among files list) apart.1 ∙ later.1)

    by_node : (o : Option ℕ) → node_of files d.target ≡ o → (among : Bool)
        → ((among ≡ true) × (0 < times number (nodes_among files list))) ⊎ ((among ≡ false) × (times number (nodes_among files list) ≡ 0))
        → (((is_number number (node_of files d.target) || among) ≡ true) × (0 < times number (beside (node_of files d.target) (nodes_among files list))))
        ⊎ (((is_number number (node_of files d.target) || among) ≡ false) × (times number (beside (node_of files d.target) (nodes_among files list)) ≡ 0))
    by_node None is among later =
        subst (λ o. (((is_number number o || among) ≡ true) × (0 < times number (beside o (nodes_among files list)))) ⊎ (((is_number number o || among) ≡ false) × (times number (beside o (nodes_among files list)) ≡ 0))) (sym is) later
    by_node (Some m) is among later =
        subst (λ o. (((is_number number o || among) ≡ true) × (0 < times number (beside o (nodes_among files list)))) ⊎ (((is_number number o || among) ≡ false) × (times number (beside o (nodes_among files list)) ≡ 0))) (sym is)
        (by_number m (eqb_tells m number) among later)

-- ---- the machine after a close

-- the tree once a description of a node has gone, by whether another opens it
abbrev pub tree_left : Tree → Option ℕ → (ℕ → Bool) → Tree
tree_left tree None opened = tree
tree_left tree (Some number) opened = cond (opened number) tree (closed tree number)

-- Nothing of nodes has changed but for a description that went, which opened this node, if any did.
pub record Goes (files next : Files) (gone : Option ℕ) : Type 0 where
  pub opened : (number : ℕ) → openings next number + times number (beside gone []) ≡ openings files number
  pub tree : next.tree ≡ tree_left files.tree gone (opens next)
  pub left : (place : ℕ) (description : Description) → description_at next.descriptions place ≡ Some description → description_at files.descriptions place ≡ Some description
  pub nodes : OpenTheSame next files next.descriptions

-- nothing goes
pub goes_none : (files next : Files) → next.tree ≡ files.tree → next.descriptions ≡ files.descriptions → next.pipes ≡ files.pipes → Goes files next None
goes_none files next tree descriptions pipes = record {
  opened = λ number.
      let none : times number [] ≡ 0 = refl in
      let same : openings next number ≡ openings files number =
      ap (λ (d : Descriptions). times number (nodes_among next d)) descriptions ∙ ap (times number) (same_nodes next files files.descriptions (all_same next files files.descriptions pipes)) in
      omega (arith, none, same);
  tree = tree;
  left = λ place d is. ap (λ (ds : Descriptions). description_at ds place) (sym descriptions) ∙ is;
  nodes = all_same next files next.descriptions pipes;
}

module _ (files : Files) (descriptors : List Descriptors) (place : ℕ) (was : Description) (is : description_at files.descriptions place ≡ Some was) where
  abbrev rest : Files
  rest = with_descriptions (record files { descriptors = descriptors }) (with_description files.descriptions place None)

  left_there : (at : ℕ) (d : Description) → description_at (set files.descriptions place None) at ≡ Some d → description_at files.descriptions at ≡ Some d
  left_there at d there = elim (cases_eq at place) [
    | inl here ↦ absurd (
        let none : None ≡ Some d = sym (get_or-set_same files.descriptions place None None (InUse-within files.descriptions place (ap is_some is)))
        ∙ ap (description_at (set files.descriptions place None)) (sym here) ∙ there in cc)
    | inr apart ↦ sym (get_or-set_other files.descriptions place at None None apart) ∙ there
  ]

  gone_so : (next : Files) → next.descriptions ≡ set files.descriptions place None → OpenTheSame next files (set files.descriptions place None) → (number : ℕ)
      → openings next number + times number (beside (node_of files was.target) []) ≡ openings files number
  gone_so next same each number =
      ap (λ (d : Descriptions). times number (nodes_among next d) + times number (beside (node_of files was.target) [])) same ∙ nodes_gone next files files.descriptions place was number each is

  -- the node that it opened is left by it
  left_goes : (after : Files) (what : Target) → was.target ≡ what → after.descriptions ≡ set files.descriptions place None → after.tree ≡ files.tree → OpenTheSame after files (set files.descriptions place None)
      → (number : ℕ) → node_of files what ≡ Some number → Goes files (left_node after number) (Some number)
  left_goes after what on descriptions tree each number node = by_opens (opens after number) refl
    where
      closes : Files
      closes = with_tree after (closed after.tree number)

      opened_in : (next : Files) → next.descriptions ≡ set files.descriptions place None → OpenTheSame next files (set files.descriptions place None) → (n : ℕ)
          → openings next n + times n (beside (Some number) []) ≡ openings files n
      opened_in next same still n =
          ap (λ o. openings next n + times n (beside o [])) (sym (ap (node_of files) on ∙ node)) ∙ gone_so next same still n

      same_tests : (n : ℕ) (list : Descriptions) → list_any (λ d. is_number n (opened_node closes d)) list ≡ list_any (λ d. is_number n (opened_node after d)) list
      same_tests n [] = refl
      same_tests n (None ∷ list) = same_tests n list
      same_tests n (Some d ∷ list) =
          ap (λ o. is_number n o || list_any (λ e. is_number n (opened_node closes e)) list) (same_node closes after refl d.target)
          ∙ ap (λ b. is_number n (node_of after d.target) || b) (same_tests n list)

      left_in : (next : Files) → next.descriptions ≡ set files.descriptions place None → (at : ℕ) (d : Description) → description_at next.descriptions at ≡ Some d → description_at files.descriptions at ≡ Some d
      left_in next same at d there = left_there at d (ap (λ (ds : Descriptions). description_at ds at) (sym same) ∙ there)

      nodes_in : (next : Files) → next.descriptions ≡ set files.descriptions place None → OpenTheSame next files (set files.descriptions place None) → OpenTheSame next files next.descriptions
      nodes_in next same still at d there = still at d (ap (λ (ds : Descriptions). description_at ds at) (sym same) ∙ there)

      closes_each : OpenTheSame closes files (set files.descriptions place None)
      closes_each at d there = same_node closes after refl d.target ∙ each at d there

      by_opens : (b : Bool) → opens after number ≡ b → Goes files (cond b after closes) (Some number)
      by_opens true opened = record {
        opened = opened_in after descriptions each;
        tree = tree ∙ sym (ap (λ b. cond b files.tree (closed files.tree number)) opened);
        left = left_in after descriptions;
        nodes = nodes_in after descriptions each;
      }
      by_opens false opened = record {
        opened = opened_in closes descriptions closes_each;
        tree = ap (λ t. closed t number) tree ∙ sym (ap (λ b. cond b files.tree (closed files.tree number)) (same_tests number after.descriptions ∙ opened));
        left = left_in closes descriptions;
        nodes = nodes_in closes descriptions closes_each;
      }

  -- or it opened none
  none_goes : (after : Files) (what : Target) → was.target ≡ what → after.descriptions ≡ set files.descriptions place None → after.tree ≡ files.tree → OpenTheSame after files (set files.descriptions place None)
      → node_of files what ≡ None → Goes files after None
  none_goes after what on descriptions tree each node = record {
    opened = λ n. ap (λ o. openings after n + times n (beside o [])) (sym (ap (node_of files) on ∙ node)) ∙ gone_so after descriptions each n;
    tree = tree;
    left = λ at d there. left_there at d (ap (λ (ds : Descriptions). description_at ds at) (sym descriptions) ∙ there);
    nodes = λ at d there. each at d (ap (λ (ds : Descriptions). description_at ds at) (sym descriptions) ∙ there);
  }

  -- the description of the place goes, and each that stays opens what it opened
  pub goes_target : (access : Access) (what : Target) → was.target ≡ what → OpenTheSame (target_closed rest access what) files (set files.descriptions place None)
      → Goes files (target_closed rest access what) (node_of files what)
  goes_target access (OnNode number) on each = left_goes rest (OnNode number) on refl refl (all_same rest files (set files.descriptions place None) refl) number refl
  goes_target access (OnPipe pipe) on each = by_node (node_of files (OnPipe pipe)) refl
    where
      after : Files
      after = with_pipe rest pipe (pipe_after_close (pipe_at rest pipe) (may_write access))

      opens_or : (b : Bool) (one : Files) (other : Files) → one.pipes ≡ after.pipes → other.pipes ≡ after.pipes → (cond b one other).pipes ≡ after.pipes
      opens_or true one other first second = first
      opens_or false one other first second = second

      fifo_pipes : (o : Option ℕ) → (left_fifo after o).pipes ≡ after.pipes
      fifo_pipes None = refl
      fifo_pipes (Some number) = opens_or (opens after number) after (with_tree after (closed after.tree number)) refl refl

      still : OpenTheSame after files (set files.descriptions place None)
      still at d there = same_node after (target_closed rest access (OnPipe pipe)) (sym (fifo_pipes (node_of rest (OnPipe pipe)))) d.target ∙ each at d there

      by_node : (o : Option ℕ) → node_of files (OnPipe pipe) ≡ o → Goes files (left_fifo after (node_of files (OnPipe pipe))) (node_of files (OnPipe pipe))
      by_node None node = subst (λ o. Goes files (left_fifo after o) o) (sym node) (none_goes after (OnPipe pipe) on refl refl still node)
      by_node (Some number) node = subst (λ o. Goes files (left_fifo after o) o) (sym node) (left_goes after (OnPipe pipe) on refl refl still number node)
  goes_target access (OnSocket sock) on each =
      none_goes (target_closed rest access (OnSocket sock)) (OnSocket sock) on refl refl (all_same (target_closed rest access (OnSocket sock)) files (set files.descriptions place None) refl) refl

  pub goes_at : OpenTheSame (description_gone (record files { descriptors = descriptors }) place) files (set files.descriptions place None)
      → Goes files (description_gone (record files { descriptors = descriptors }) place) (node_of files was.target)
  goes_at each =
      subst (λ o. Goes files (gone_in (record files { descriptors = descriptors }) place o) (node_of files was.target)) (sym is)
      (goes_target was.access was.target refl (subst (λ o. OpenTheSame (gone_in (record files { descriptors = descriptors }) place o) files (set files.descriptions place None)) is each))

  -- each that stays opens what it opened, where each pipe that such a one has an end of is there still
  pub stays_open : ((at p : ℕ) (d : Description) → description_at (set files.descriptions place None) at ≡ Some d → d.target ≡ OnPipe p
      → (pipe : Pipe) × (pipe_there (description_gone (record files { descriptors = descriptors }) place) p ≡ Some pipe))
      → OpenTheSame (description_gone (record files { descriptors = descriptors }) place) files (set files.descriptions place None)
  stays_open there at d is_there = by_target d.target refl
    where
      gone : Files
      gone = description_gone (record files { descriptors = descriptors }) place

      tree_or : (b : Bool) (one other : Files) → (cond b one other).pipes ≡ cond b one.pipes other.pipes
      tree_or true one other = refl
      tree_or false one other = refl

      same_or : (b : Bool) (pipes : List (Option Pipe)) → cond b pipes pipes ≡ pipes
      same_or true pipes = refl
      same_or false pipes = refl

      left_pipes : (from : Files) (number : ℕ) → (left_node from number).pipes ≡ from.pipes
      left_pipes from number = tree_or (opens from number) from (with_tree from (closed from.tree number)) ∙ same_or (opens from number) from.pipes

      fifo_pipes : (from : Files) (o : Option ℕ) → (left_fifo from o).pipes ≡ from.pipes
      fifo_pipes from None = refl
      fifo_pipes from (Some number) = left_pipes from number

      gone_pipes : (access : Access) (what : Target) → ((target_closed rest access what).pipes ≡ files.pipes)
          ⊎ ((pipe : ℕ) × (writing : Bool) × ((target_closed rest access what).pipes ≡ slice_set files.pipes pipe (pipe_after_close (pipe_at files pipe) writing)))
      gone_pipes access (OnNode number) = inl (left_pipes rest number)
      gone_pipes access (OnPipe pipe) = inr (pipe, may_write access, fifo_pipes (with_pipe rest pipe (pipe_after_close (pipe_at rest pipe) (may_write access))) (node_of rest (OnPipe pipe)))
      gone_pipes access (OnSocket sock) = inl refl

      gone_is : gone.pipes ≡ (target_closed rest was.access was.target).pipes
      gone_is = ap (λ o. (gone_in (record files { descriptors = descriptors }) place o).pipes) is

      by_pipes : (p : ℕ) (pipe : Pipe) → pipe_there gone p ≡ Some pipe
          → (((target_closed rest was.access was.target).pipes ≡ files.pipes) ⊎ ((at : ℕ) × (writing : Bool) × ((target_closed rest was.access was.target).pipes ≡ slice_set files.pipes at (pipe_after_close (pipe_at files at) writing))))
          → node_of gone (OnPipe p) ≡ node_of files (OnPipe p)
      by_pipes p pipe left (inl same) = same_node gone files (gone_is ∙ same) (OnPipe p)
      by_pipes p pipe left (inr (at, writing, changed)) =
          let all : gone.pipes ≡ slice_set files.pipes at (pipe_after_close (pipe_at files at) writing) = gone_is ∙ changed in
          ap (λ (pipes : List (Option Pipe)). option_and_then fifo_of (slice_index_or pipes p None)) all
          ∙ end_closed_node files.pipes at writing p pipe (ap (λ (pipes : List (Option Pipe)). slice_index_or pipes p None) (sym all) ∙ left)

      by_target : (what : Target) → d.target ≡ what → node_of gone what ≡ node_of files what
      by_target (OnNode number) on = refl
      by_target (OnPipe p) on =
          let left = there at p d is_there on in
          by_pipes p left.0 left.1 (gone_pipes was.access was.target)
      by_target (OnSocket sock) on = refl

-- a description that goes leaves descriptors
gone_leaves : (files : Files) (place : ℕ) → (description_gone files place).descriptors ≡ files.descriptors
gone_leaves files place = by_description (description_at files.descriptions place)
  where
    by_opens : (b : Bool) (one other : Files) → one.descriptors ≡ files.descriptors → other.descriptors ≡ files.descriptors → (cond b one other).descriptors ≡ files.descriptors
    by_opens true one other first second = first
    by_opens false one other first second = second

    by_fifo : (from : Files) (node : Option ℕ) → from.descriptors ≡ files.descriptors → (left_fifo from node).descriptors ≡ files.descriptors
    by_fifo from None same = same
    by_fifo from (Some number) same = by_opens (opens from number) from (with_tree from (closed from.tree number)) same same

    by_target : (from : Files) (access : Access) (what : Target) → from.descriptors ≡ files.descriptors → (target_closed from access what).descriptors ≡ files.descriptors
    by_target from access (OnNode number) same = by_opens (opens from number) from (with_tree from (closed from.tree number)) same same
    by_target from access (OnPipe place) same = by_fifo (with_pipe from place (pipe_after_close (pipe_at from place) (may_write access))) (node_of from (OnPipe place)) same
    by_target from access (OnSocket place) same = same

    by_description : (o : Option Description) → (gone_in files place o).descriptors ≡ files.descriptors
    by_description None = refl
    by_description (Some description) =
        by_target (with_descriptions files (with_description files.descriptions place None)) description.access description.target refl

-- and goes from its place
gone_descriptions : (files : Files) (place : ℕ) (was : Description) → description_at files.descriptions place ≡ Some was → (description_gone files place).descriptions ≡ set files.descriptions place None
gone_descriptions files place was is = ap (λ o. (gone_in files place o).descriptions) is ∙ by_target was.access was.target
  where
    from : Files
    from = with_descriptions files (with_description files.descriptions place None)

    by_opens : (b : Bool) (one other : Files) → one.descriptions ≡ from.descriptions → other.descriptions ≡ from.descriptions → (cond b one other).descriptions ≡ from.descriptions
    by_opens true one other first second = first
    by_opens false one other first second = second

    by_node : (mid : Files) (number : ℕ) → mid.descriptions ≡ from.descriptions → (left_node mid number).descriptions ≡ from.descriptions
    by_node mid number same = by_opens (opens mid number) mid (with_tree mid (closed mid.tree number)) same same

    by_fifo : (mid : Files) (node : Option ℕ) → mid.descriptions ≡ from.descriptions → (left_fifo mid node).descriptions ≡ from.descriptions
    by_fifo mid None same = same
    by_fifo mid (Some number) same = by_node mid number same

    by_target : (access : Access) (what : Target) → (target_closed from access what).descriptions ≡ from.descriptions
    by_target access (OnNode number) = by_node from number refl
    by_target access (OnPipe pipe) = by_fifo (with_pipe from pipe (pipe_after_close (pipe_at from pipe) (may_write access))) (node_of from (OnPipe pipe)) refl
    by_target access (OnSocket sock) = refl

-- ---- by the heap

module _ (old mid : Heap) (kept : TableView) (pid fd : ℕ) (listed : AreListed old kept) (owners : HasItsOwners old []) (closes : ClosesNumber old mid kept pid fd) (listed_then : AreListed mid kept) (owners_then : HasItsOwners mid [])
    (numbers : Numbers) (files : Files) (have : HaveOpen numbers old kept files) (then : HaveOpen numbers mid kept (without_number files pid fd)) where
  abbrev its : Proc
  its = closes.proc

  proc_is : proc_of (processes old kept) pid ≡ Some its
  proc_is = found_before old.procs closes.key its its closes.turns.there refl kept.listed pid listed.stored closes.turns.found

  named_is : named_at old kept pid fd ≡ slice_index_or (numbers_in old its) fd None
  named_is = ap (λ o. slice_index_or (places_in (numbers_in old) o) fd None) proc_is

  -- a number that isn't open
  pub closes_nothing : named_at old kept pid fd ≡ None → without_number files pid fd ≡ files
  closes_nothing none = ap (without_in files pid fd) (descriptor_at_is numbers old kept files pid have fd ∙ ap (option_map (descriptor_by numbers.descs)) none)

  module _ (held : HeldDescriptor) (desc : Desc) (is : named_at old kept pid fd ≡ Some held) (found : object old.descs held.desc ≡ Some desc) where
    abbrev place : ℕ
    place = numbers.descs held.desc

    abbrev without_it : Files
    without_it = with_open files pid fd None

    pub closes_so : without_number files pid fd ≡ released without_it place
    closes_so = ap (without_in files pid fd) (descriptor_at_is numbers old kept files pid have fd ∙ ap (option_map (descriptor_by numbers.descs)) is)

    described : description_at files.descriptions place ≡ Some (counted_in numbers desc).is
    described = described_so numbers old have.list files held.desc desc have.opened found

    namings_less : (other : ℕ) → all_namings mid other + one_if (held.desc == other) ≡ all_namings old other
    namings_less other =
        let at : slice_index_or (numbers_in old its) fd None ≡ Some held = sym named_is ∙ is in
        let moved = closes.namings other in
        let here : names_one other (slice_index_or (numbers_in old its) fd None) ≡ one_if (held.desc == other) = ap (names_one other) at in
        omega (arith, moved, here)

    counts_left : all_namings mid held.desc + 1 ≡ desc.count
    counts_left =
        let before = owners.named.counts held.desc in let less = namings_less held.desc in
        let one = ap one_if (eqb_same held.desc held.desc refl) in let it = ap desc_count found in
        let none : count_by (λ k. k == held.desc) [] ≡ 0 = refl in omega (arith, before, less, one, it, none)

    apart : (other : ℕ) → 0 < all_namings mid other → numbers.descs other ≡ place → other ≡ held.desc
    apart other some same = have.opened.described.once other held.desc (used (object old.descs other) refl) (ap is_some found) same
      where
        used : (o : Option Desc) → object old.descs other ≡ o → InUse old.descs other
        used (Some d) there = ap is_some there
        used None none = absurd (
            let before = owners.named.counts other in let less = namings_less other in let zero = ap desc_count none in omega (arith, before, less, zero, some))

    same_descriptors : (without_number files pid fd).descriptors ≡ without_it.descriptors
    same_descriptors = ap (λ (f : Files). f.descriptors) closes_so ∙ by_named (is_named without_it.descriptors place)
      where
        by_named : (b : Bool) → (cond b without_it (description_gone without_it place)).descriptors ≡ without_it.descriptors
        by_named true = refl
        by_named false = gone_leaves without_it place

    named_same : (b : Bool) → is_named (without_number files pid fd).descriptors place ≡ b → is_named without_it.descriptors place ≡ b
    named_same b named = ap (λ (d : List Descriptors). is_named d place) (sym same_descriptors) ∙ named

    -- another descriptor names the description
    pub still_named : desc.count ≢ 1 → is_named without_it.descriptors place ≡ true
    still_named more =
        named_same true
        (named_by_some numbers.descs mid kept (without_number files pid fd) held.desc then.descriptors listed_then
        (positive (all_namings mid held.desc) (λ none. more (let left = counts_left in omega (arith, left, none)))))
      where
        positive : (n : ℕ) → (n ≡ 0 → ⊥) → 0 < n
        positive zero some = absurd (some refl)
        positive (suc n) some = omega arith

    pub closes_one : desc.count ≢ 1 → Goes files (without_number files pid fd) None
    closes_one more =
        let so : without_number files pid fd ≡ without_it = closes_so ∙ ap (λ b. cond b without_it (description_gone without_it place)) (still_named more) in
        goes_none files (without_number files pid fd) (ap (λ (f : Files). f.tree) so) (ap (λ (f : Files). f.descriptions) so) (ap (λ (f : Files). f.pipes) so)

    -- or it was the last
    pub none_names : desc.count ≡ 1 → is_named without_it.descriptors place ≡ false
    none_names last =
        named_same false (named_by_none numbers.descs mid kept (without_number files pid fd) held.desc then.descriptors listed_then apart (let left = counts_left in omega (arith, left, last)))

    pub closes_last : desc.count ≡ 1 → Goes files (without_number files pid fd) (node_of files (counted_in numbers desc).is.target)
    closes_last last =
        let so : without_number files pid fd ≡ description_gone without_it place = closes_so ∙ ap (λ b. cond b without_it (description_gone without_it place)) (none_names last) in
        subst (λ next. Goes files next (node_of files (counted_in numbers desc).is.target)) (sym so)
        (goes_at files without_it.descriptors place (counted_in numbers desc).is described
        (stays_open files without_it.descriptors place (counted_in numbers desc).is described
        (λ at p d there on. pipe_is_there numbers mid kept [] (description_gone without_it place) (subst (HaveOpen numbers mid kept) so then) owners_then at p d
        (ap (λ (ds : Descriptions). description_at ds at) (gone_descriptions without_it place (counted_in numbers desc).is described) ∙ there) on)))

-- ---- whatever the number names

module _ (old mid : Heap) (kept : TableView) (pid fd : ℕ) (listed : AreListed old kept) (owners : HasItsOwners old []) (closes : ClosesNumber old mid kept pid fd) (listed_then : AreListed mid kept) (owners_then : HasItsOwners mid [])
    (numbers : Numbers) (files : Files) (have : HaveOpen numbers old kept files) (then : HaveOpen numbers mid kept (without_number files pid fd)) where
  -- The node that is to be let go is that of the description that went.
  pub goes_with : (gone : Option ℕ) → gone ≡ node_closed old (named_at old kept pid fd) → Goes files (without_number files pid fd) gone
  goes_with gone is = by_name (named_at old kept pid fd) refl
    where
      by_count : (held : HeldDescriptor) (desc : Desc) → named_at old kept pid fd ≡ Some held → object old.descs held.desc ≡ Some desc
          → (((desc.count == 1) ≡ true) × (desc.count ≡ 1)) ⊎ (((desc.count == 1) ≡ false) × (desc.count ≢ 1))
          → gone ≡ cond (desc.count == 1) (node_in old.pipes desc.target) None → Goes files (without_number files pid fd) gone
      by_count held desc name found (inl last) so =
          subst (Goes files (without_number files pid fd))
          (node_same numbers old files have.opened.piped desc.access desc.target (owners.held.targets held.desc desc found) ∙ sym (so ∙ ap (λ b. cond b (node_in old.pipes desc.target) None) last.0))
          (closes_last old mid kept pid fd listed owners closes listed_then owners_then numbers files have then held desc name found last.1)
      by_count held desc name found (inr more) so =
          subst (Goes files (without_number files pid fd)) (sym (so ∙ ap (λ b. cond b (node_in old.pipes desc.target) None) more.0))
          (closes_one old mid kept pid fd listed owners closes listed_then owners_then numbers files have then held desc name found more.1)

      by_name : (o : Option HeldDescriptor) → named_at old kept pid fd ≡ o → Goes files (without_number files pid fd) gone
      by_name None none =
          let so = closes_nothing old mid kept pid fd listed owners closes listed_then owners_then numbers files have then none in
          subst (Goes files (without_number files pid fd)) (sym (is ∙ ap (node_closed old) none))
          (goes_none files (without_number files pid fd) (ap (λ (f : Files). f.tree) so) (ap (λ (f : Files). f.descriptions) so) (ap (λ (f : Files). f.pipes) so))
      by_name (Some held) name =
          let it = desc_named old kept [] listed owners pid fd held name in
          by_count held it.0 name it.1 (eqb_tells it.0.count 1) (is ∙ ap (node_closed old) name ∙ ap (node_dropped old.pipes) it.1)
