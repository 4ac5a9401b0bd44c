-- A number of a process is closed in the heap as in the machine.
use Rattle.std.proofs.Common.{◌≡◌, ◌≢◌, ◌⊎◌, ℕ, zero, suc, ◌+◌, ◌-◌, ◌<◌, ◌==◌, Bool, true, false, cond, List, [], ◌∷◌, length, Option, None, Some, IsSome, is_some, unwrap_or, refl, ap, sym, ◌∙◌, subst, arith, inl, inr}
use Rattle.std.specs.Prelude.{count_by, slice_get, slice_index_or, slice_set}
use Rattle.std.specs.Option.{option_map}
use Rattle.std.proofs.lemmas.Bool.Decides.{eqb_tells}
use Rattle.std.proofs.lemmas.List.{get_or-set_other, get_or-set_same, set-get_or}
use Rattle.std.proofs.Math.ListN.{get_or-map}
use Rattle.kheap_slabs.specs.Objects.{InUse, object}
use Rattle.kheap_slabs.specs.declared.objects.Desc.{Desc}
use Rattle.kheap_slabs.specs.declared.objects.Descriptor.{Descriptor as HeldDescriptor}
use Rattle.kheap_slabs.specs.declared.objects.Leaf.{Leaf}
use Rattle.kheap_slabs.specs.declared.objects.Proc.{Proc}
use Rattle.kheap_slabs.specs.declared.objects.Target.TheVariants as target
use Rattle.kheap_slabs.proofs.ObjectLemmas.{InUse-within}
use Rattle.kheap_slabs.specs.Heap.{Heap}
use Rattle.kheap_slabs.specs.Keys.{AreKeysOf}
use Rattle.kheap_slabs.specs.Leaves.{HoldLeaves, numbers_by}
use Rattle.kheap_laws.proofs.LeafKeys.{LeavesChange-refl}
use Rattle.open_laws.specs.Closing.{IsDroppable}
use Rattle.open_laws.specs.Described.{Counted, after_drop, counting, descs_left, inode_in}
use Rattle.open_laws.specs.Open.{AreOpen, descriptor_by, descriptors_by, dropped_in, files_dropped}
use Rattle.open_laws.specs.Owned.{HasItsOwners, all_namings, desc_count}
use Rattle.open_laws.specs.Placed.{Numbers}
use Rattle.posix_defs.specs.Files.Closing.{after_close, close_in, description_gone, gone_in, left_fifo, released, target_closed}
use Rattle.posix_defs.specs.Files.Descriptions.{Target as PlainTarget, OnNode, OnPipe, OnSocket, Access as PlainAccess, Description, description_at, may_write, with_description}
use Rattle.posix_defs.specs.Files.Descriptors.{Descriptors, descriptor_at, none_open}
use Rattle.posix_defs.specs.Files.State.{Files, descriptors_of, node_of, opens, pipe_at, with_descriptions, with_open, with_pipe, with_tree}
use Rattle.posix_defs.specs.Pipe.{after_close as pipe_after_close}
use Rattle.posix_defs.specs.TreeChanges.{closed}
use Rattle.proc_table.specs.Opening.{HaveOpenings}
use Rattle.proc_table.specs.Procs.{numbers_in, proc_of}
use Rattle.proc_table.specs.Table.{AreStored, TableView, key_of, keys_of, processes, procs_at}
use Rattle.proc_table.proofs.PlaceLemmas.{eqb_same, key_of-proc, some_same}
use Rattle.desc_table.specs.Numbered.{names_one}
use Rattle.proc_numbers.specs.Closed.{without_in, without_number}
use Rattle.proc_numbers.specs.Having.{AreListed, ClosesNumber, HaveDescriptors, HaveOpen, OpensNoNode, places_in}
use Rattle.proc_numbers.specs.Naming.{TurnsNumber, named_at}
use Rattle.proc_numbers.proofs.Droppable.{droppable}
use Rattle.proc_numbers.proofs.Listing.{found_before, openings_on}
use Rattle.proc_numbers.proofs.NamedPlaces.{named_by_none, named_by_some}
use Rattle.proc_numbers.proofs.NumberOpens.{turned_listed, turned_open, turned_owners}
use Rattle.proc_numbers.proofs.PlacedLeaves.{owns_placed}
use Rattle.proc_numbers.proofs.NumberTurns.{descriptors_here, descriptors_turned}
use Rattle.proc_numbers.proofs.Sums.{one_if, count_cons}

-- the same descriptors are open, and the same opens sleep
abbrev HasSame : Files → Files → Type 0
HasSame files now = (now.descriptors ≡ files.descriptors) × (now.openings ≡ files.openings)

-- a description that goes leaves them
gone_both : (files : Files) (place : ℕ) → HasSame files (description_gone files place)
gone_both files place = by_description (description_at files.descriptions place)
  where
    by_opens : (b : Bool) (one other : Files) → HasSame files one → HasSame files other → HasSame files (cond b one other)
    by_opens true one other first second = first
    by_opens false one other first second = second

    by_fifo : (from : Files) (node : Option ℕ) → HasSame files from → HasSame files (left_fifo from node)
    by_fifo from None same = same
    by_fifo from (Some number) same = by_opens (opens from number) from (with_tree from (closed from.tree number)) same same

    by_target : (from : Files) (access : PlainAccess) (what : PlainTarget) → HasSame files from → HasSame files (target_closed from access what)
    by_target from access (OnNode number) same = by_opens (opens from number) from (with_tree from (closed from.tree number)) same same
    by_target from access (OnPipe place) same = by_fifo (with_pipe from place (pipe_after_close (pipe_at from place) (may_write access))) (node_of from (OnPipe place)) same
    by_target from access (OnSocket place) same = same

    by_description : (o : Option Description) → HasSame files (gone_in files place o)
    by_description None = (refl, refl)
    by_description (Some description) =
        by_target (with_descriptions files (with_description files.descriptions place None)) description.access description.target (refl, refl)

-- ---- a number of a process is open no more in its Proc or its Leaf

module _ (old mid : Heap) (kept : TableView) (pid fd : ℕ) (held : HeldDescriptor) (listed : AreListed old kept) (turns : TurnsNumber old mid kept pid fd None)
    (is : slice_index_or (numbers_in old turns.proc) fd None ≡ Some held) where
  pub listed_mid : AreListed mid kept
  listed_mid = turned_listed old mid kept pid fd None listed turns

  namings_less : (other : ℕ) → all_namings mid other + one_if (held.desc == other) ≡ all_namings old other
  namings_less other =
      let moved = turns.namings other in
      let here : names_one other (slice_index_or (numbers_in old turns.proc) fd None) ≡ one_if (held.desc == other) = ap (names_one other) is in
      let none : names_one other None ≡ 0 = refl in
      omega (arith, moved, here, none)

  -- the Desc is in hand
  pub owners_mid : HasItsOwners old [] → HasItsOwners mid (held.desc ∷ [])
  owners_mid =
      turned_owners old mid kept pid fd None listed turns [] (held.desc ∷ []) (λ other.
      let here : names_one other (slice_index_or (numbers_in old turns.proc) fd None) ≡ one_if (held.desc == other) = ap (names_one other) is in
      let hand = count_cons (λ k. k == other) held.desc [] in
      let none : names_one other None ≡ 0 = refl in
      omega (arith, here, hand, none))

  same_descs : mid.descs ≡ old.descs
  same_descs = ap (λ (h : Heap). h.descs) turns.after

  -- it is there
  pub desc_there : HasItsOwners old [] → (desc : Desc) × (object old.descs held.desc ≡ Some desc)
  desc_there owners = by_desc (object old.descs held.desc) refl
    where
      by_desc : (o : Option Desc) → object old.descs held.desc ≡ o → (desc : Desc) × (object old.descs held.desc ≡ Some desc)
      by_desc (Some desc) found = (desc, found)
      by_desc None none = absurd (
          let before = owners.named.counts held.desc in let less = namings_less held.desc in
          let one = ap one_if (eqb_same held.desc held.desc refl) in let zero = ap desc_count none in omega (arith, before, less, one, zero))

  pub desc_between : (owners : HasItsOwners old []) → (desc : Desc) × (object mid.descs held.desc ≡ Some desc)
  desc_between owners = let found = desc_there owners in (found.0, ap (λ descs. object descs held.desc) same_descs ∙ found.1)

  pub droppable_between : HasItsOwners old [] → IsDroppable mid held.desc
  droppable_between owners =
      let found = desc_between owners in droppable mid (held.desc ∷ []) (owners_mid owners) held.desc found.0 found.1

  module _ (numbers : Numbers) (files : Files) (have : HaveOpen numbers old kept files) (owners : HasItsOwners old []) where
    abbrev place : ℕ
    place = numbers.descs held.desc

    -- the machine without the descriptor
    abbrev without_it : Files
    without_it = with_open files pid fd None

    at_number : descriptor_at (descriptors_of files pid) fd ≡ Some (descriptor_by numbers.descs held)
    at_number =
        ap (λ descriptors. descriptor_at descriptors fd) (descriptors_here old mid kept pid fd turns.key turns.proc turns.now None listed turns.turns turns.numbers numbers files have.descriptors)
        ∙ get_or-map (option_map (descriptor_by numbers.descs)) (numbers_in old turns.proc) fd None ∙ ap (option_map (descriptor_by numbers.descs)) is

    closes_so : without_number files pid fd ≡ released without_it place
    closes_so = ap (without_in files pid fd) at_number

    descriptors_mid : HaveDescriptors (numbers_in mid) numbers.descs (processes mid kept) kept.last without_it
    descriptors_mid = descriptors_turned old mid kept pid fd turns.key turns.proc turns.now None listed turns.turns turns.numbers numbers files have.descriptors

    -- what is open is there still
    pub opened_mid : AreOpen numbers mid have.list without_it
    opened_mid = turned_open old mid kept pid fd None listed turns numbers files have

    -- the description that it named has as many names as are counted
    record Entry : Type 0 where
      desc : Desc
      found : object old.descs held.desc ≡ Some desc
      counted : Counted
      listed_so : object have.list place ≡ Some counted
      same : counted.count ≡ desc.count

    entry : Entry
    entry =
        let found = desc_there owners in
        let described = have.opened.described in
        let there_so = described.there held.desc found.0 found.1 in
        let means = described.means held.desc found.0 there_so.0 found.1 there_so.1 in
        record { desc = found.0; found = found.1; counted = there_so.0; listed_so = there_so.1; same = ap (λ (c : Counted). c.count) means }

    counts_left : all_namings mid held.desc + 1 ≡ entry.desc.count
    counts_left =
        let before = owners.named.counts held.desc in let less = namings_less held.desc in
        let one = ap one_if (eqb_same held.desc held.desc refl) in let it = ap desc_count entry.found in
        let none : count_by (λ k. k == held.desc) [] ≡ 0 = refl in omega (arith, before, less, one, it, none)

    -- two Descs that are named have places of their own
    apart : (other : ℕ) → 0 < all_namings mid other → numbers.descs other ≡ place → other ≡ held.desc
    apart other some same = have.opened.described.once other held.desc (used other some) (ap is_some entry.found) same
      where
        used : (other : ℕ) → 0 < all_namings mid other → InUse old.descs other
        used other some = by_desc (object old.descs other) refl
          where
            by_desc : (o : Option Desc) → object old.descs other ≡ o → InUse old.descs other
            by_desc (Some desc) found = ap is_some found
            by_desc None none = absurd (
                let before = owners.named.counts other in let less = namings_less other in let zero = ap desc_count none in omega (arith, before, less, zero, some))

    released_so : released without_it place ≡ files_dropped without_it have.list place
    released_so =
        by_count (eqb_tells entry.counted.count 1)
        ∙ sym (ap (dropped_in without_it place) entry.listed_so)
      where
        by_count : (((entry.counted.count == 1) ≡ true) × (entry.counted.count ≡ 1)) ⊎ (((entry.counted.count == 1) ≡ false) × (entry.counted.count ≢ 1))
            → released without_it place ≡ cond (entry.counted.count == 1) (description_gone without_it place) without_it
        by_count (inl last) =
            ap (λ b. cond b without_it (description_gone without_it place))
            (named_by_none numbers.descs mid kept without_it held.desc descriptors_mid listed_mid apart
            (let left = counts_left in let same = entry.same in let one = last.1 in omega (arith, left, same, one)))
            ∙ sym (ap (λ b. cond b (description_gone without_it place) without_it) last.0)
        by_count (inr more) =
            ap (λ b. cond b without_it (description_gone without_it place))
            (named_by_some numbers.descs mid kept without_it held.desc descriptors_mid listed_mid
            (positive (all_namings mid held.desc) (λ none. more.1 (let left = counts_left in let same = entry.same in omega (arith, left, same, none)))))
            ∙ sym (ap (λ b. cond b (description_gone without_it place) without_it) more.0)
          where
            positive : (n : ℕ) → (n ≡ 0 → ⊥) → 0 < n
            positive zero some = absurd (some refl)
            positive (suc n) some = omega arith

    dropped_both : HasSame without_it (files_dropped without_it have.list place)
    dropped_both = by_entry (object have.list place)
      where
        by_entry : (o : Option Counted) → HasSame without_it (dropped_in without_it place o)
        by_entry None = (refl, refl)
        by_entry (Some counted) = by_test (counted.count == 1)
          where
            by_test : (b : Bool) → HasSame without_it (cond b (description_gone without_it place) without_it)
            by_test true = gone_both without_it place
            by_test false = (refl, refl)

    -- Where the Desc is dropped the processes have open what the machine says after the close.
    pub have_closed : (new : Heap) → new.procs ≡ mid.procs → new.leaves ≡ mid.leaves
        → AreOpen numbers new (after_drop have.list place) (files_dropped without_it have.list place) → HaveOpen numbers new kept (without_number files pid fd)
    have_closed new procs leaves opened =
        subst (HaveOpen numbers new kept) (sym (closes_so ∙ released_so)) (record {
          list = after_drop have.list place;
          opened = opened;
          descriptors = record {
            each = λ q.
                ap (λ descriptors. unwrap_or (at_of descriptors q) none_open) dropped_both.0
                ∙ descriptors_mid.each q
                ∙ (ap (λ (objects : List (Option Proc)). descriptors_by numbers.descs (places_in (numbers_in mid) (proc_of (procs_at objects kept.listed) q))) (sym procs)
                ∙ ap (λ (found : List (Option Leaf)). descriptors_by numbers.descs (places_in (λ p. numbers_by found p.descriptors p.leaves) (proc_of (procs_at new.procs kept.listed) q))) (sym leaves));
            made = ap length dropped_both.0 ∙ descriptors_mid.made;
            openings = subst (HaveOpenings (processes new kept) kept.last) (sym dropped_both.1) (openings_on mid new kept files.openings procs descriptors_mid.openings);
          };
        })
      where
        at_of : List Descriptors → ℕ → Option Descriptors
        at_of descriptors zero = None
        at_of descriptors (suc i) = slice_get descriptors i

-- ---- what the heap has besides

-- each process is in the table still where the Procs and the Leaves are the same
pub listed_on : (old new : Heap) (kept : TableView) → new.procs ≡ old.procs → new.leaves ≡ old.leaves → AreListed old kept → AreListed new kept
listed_on old new kept same leaves listed = record {
  stored = subst (λ (objects : List (Option Proc)). AreStored objects kept.listed) (sym same) listed.stored;
  rising = listed.rising;
  all = subst (λ (objects : List (Option Proc)). AreKeysOf objects (keys_of kept.listed)) (sym same) listed.all;
  leaves = subst (λ (objects : List (Option Proc)). HoldLeaves new.leaves (procs_at objects kept.listed)) (sym same)
      (subst (λ (found : List (Option Leaf)). HoldLeaves found (processes old kept)) (sym leaves) listed.leaves);
}

-- no description opens a node where one counts one name less, or is gone
pub left_opens : (old new : List (Option Desc)) (key : ℕ) (desc : Desc) → object old key ≡ Some desc → new ≡ descs_left old key desc → OpensNoNode old → OpensNoNode new
left_opens old new key desc is left none = λ other found at. by_key other found (eqb_tells other key) (ap (λ objects. object objects other) (sym left) ∙ at)
  where
    counted_less : (b : Bool) (found : Desc) → cond b None (Some (counting desc (desc.count - 1))) ≡ Some found → inode_in found.target ≡ None
    counted_less true found e = cc
    counted_less false found e = subst (λ (d : Desc). inode_in d.target ≡ None) (some_same (Some found) (counting desc (desc.count - 1)) found (sym e) refl) (none key desc is)

    by_key : (other : ℕ) (found : Desc) → (((other == key) ≡ true) × (other ≡ key)) ⊎ (((other == key) ≡ false) × (other ≢ key))
        → object (descs_left old key desc) other ≡ Some found → inode_in found.target ≡ None
    by_key other found (inl same) at =
        counted_less (desc.count == 1) found
        (sym (ap (object (descs_left old key desc)) same.1 ∙ get_or-set_same old key _ None (InUse-within old key (ap is_some is))) ∙ at)
    by_key other found (inr apart) at = none other found (sym (get_or-set_other old key other _ None apart.1) ∙ at)

-- ---- a number that isn't open

pub no_some : {X : Type 0} (o : Option X) → ((x : X) → o ≡ Some x → ⊥) → o ≡ None
no_some None none = refl
no_some (Some x) none = absurd (none x refl)

pub unopened : (numbers : Numbers) (old : Heap) (kept : TableView) (files : Files) (pid fd : ℕ) → named_at old kept pid fd ≡ None → HaveOpen numbers old kept files → after_close files pid fd ≡ files
unopened numbers old kept files pid fd none have =
    ap (close_in files pid fd)
    (ap (λ descriptors. descriptor_at descriptors fd) (have.descriptors.each pid)
    ∙ get_or-map (option_map (descriptor_by numbers.descs)) (places_in (numbers_in old) (proc_of (processes old kept) pid)) fd None ∙ ap (option_map (descriptor_by numbers.descs)) none)

-- nothing is closed then
pub closes_nothing : (old : Heap) (kept : TableView) (pid fd key : ℕ) → AreListed old kept → key_of kept.listed pid ≡ Some key → named_at old kept pid fd ≡ None → ClosesNumber old old kept pid fd
closes_nothing old kept pid fd key listed named none =
    let at = key_of-proc old.procs kept.listed pid key listed.stored named in
    let found = found_before old.procs key at.0 at.0 at.1 refl kept.listed pid listed.stored named in
    let here : slice_index_or (numbers_in old at.0) fd None ≡ None = sym (ap (λ o. slice_index_or (places_in (numbers_in old) o) fd None) found) ∙ none in
    record {
      key = key;
      proc = at.0;
      now = at.0;
      turns = record {
        found = named;
        there = at.1;
        same = refl;
        procs = sym (ap (slice_set old.procs key) (sym at.1) ∙ set-get_or old.procs key None);
        leaves = LeavesChange-refl old.leaves at.0.leaves (owns_placed old kept pid key at.0 listed named at.1);
      };
      numbers = sym (ap (slice_set (numbers_in old at.0) fd) (sym here) ∙ set-get_or (numbers_in old at.0) fd None);
      namings = λ other. let none : names_one other (slice_index_or (numbers_in old at.0) fd None) ≡ 0 = ap (names_one other) here in omega (arith, none);
      beside = refl;
    }

-- some number is open
pub some_held : {X : Type 0} (o : Option X) → IsSome o → (x : X) × (o ≡ Some x)
some_held None some = absurd (cc)
some_held (Some x) some = (x, refl)
