-- Which nodes the processes of a heap have open are those that the machine's descriptions open.
use Rattle.std.proofs.Common.{◌≡◌, ℕ, zero, suc, ◌+◌, ◌<◌, ◌≤◌, ◌==◌, ◌||◌, Bool, true, false, cond, List, [], ◌∷◌, get_or, length, Option, None, Some, refl, ap, sym, subst, ◌∙◌, inl, inr, arith}
use Rattle.std.specs.Prelude.{count_by}
use Rattle.std.specs.List.{list_any}
use Rattle.std.specs.Option.{option_map}
use Rattle.std.proofs.lemmas.Bool.Decides.{eqb_tells}
use Rattle.std.proofs.lemmas.List.Sums.{get_or-le-sum_by}
use Rattle.kheap_slabs.specs.Objects.{InUse, object}
use Rattle.kheap_slabs.proofs.ObjectLemmas.{object_of}
use Rattle.kheap_slabs.specs.declared.objects.Access.{Access}
use Rattle.kheap_slabs.specs.declared.objects.Desc.{Desc}
use Rattle.kheap_slabs.specs.declared.objects.Descriptor.{Descriptor}
use Rattle.kheap_slabs.specs.declared.objects.Proc.{Proc}
use Rattle.kheap_slabs.specs.declared.objects.Target.{Target as HeldTarget}
use Rattle.kheap_slabs.specs.declared.objects.Target.TheVariants as target
use Rattle.kheap_slabs.specs.Heap.{Heap}
use Rattle.kheap_slabs.specs.Leaves.{row_at}
use Rattle.kheap_laws.proofs.LeafLemmas.{numbers_by-count}
use Rattle.machine_laws.proofs.Openers.{Opener, by_opener, node_in as plain_node, node_is, opens_by}
use Rattle.open_laws.specs.Described.{Counted, CountedList, counted_in, node_in, target_in, uncounted}
use Rattle.open_laws.specs.Owned.{HasItsOwners, IsThereFor, all_namings, desc_count_at, names_desc}
use Rattle.open_laws.proofs.DropLemmas.{description_in}
use Rattle.open_laws.proofs.GoingLemmas.{named_there}
use Rattle.open_laws.proofs.RelinkedLemmas.{node_placed}
use Rattle.open_laws.specs.Piped.{ArePiped}
use Rattle.open_laws.specs.Placed.{Numbers}
use Rattle.open_laws.specs.Polled.{IsTargetIn}
use Rattle.posix_defs.specs.Files.Descriptions.{Description, Descriptions, OnPipe, Target, description_at}
use Rattle.posix_defs.specs.Files.State.{Files, is_number, opens}
use Rattle.proc_numbers.specs.Having.{AreListed, HaveOpen}
use Rattle.proc_numbers.proofs.NumberParts.{named_part, named_whole}
use Rattle.proc_numbers.proofs.Sums.{one_if, part_of_sum, some_adds}
use Rattle.proc_numbers.proofs.NamedOpen.{described_so}
use Rattle.proc_table.specs.Procs.{numbers_in, proc_of}
use Rattle.proc_table.specs.Table.{TableView, processes}
use Rattle.proc_table.proofs.PlaceLemmas.{eqb_same, some_same}
use Rattle.path_calls.specs.Nodes.{node_of, opens_at, some_opens}
use Rattle.path_calls.proofs.Adding.{alike}

never : {X : Type 0} → true ≡ false → X
never e = cc

-- ---- what a descriptor names is there

names_some : (places : List (Option Descriptor)) (fd : ℕ) (held : Descriptor) → object places fd ≡ Some held → 0 < count_by (names_desc held.desc) places
names_some places fd held is =
    let part = part_of_sum (λ o. one_if (names_desc held.desc o)) places fd held is in
    let one = ap one_if (eqb_same held.desc held.desc refl) in
    omega (arith, part, one)

-- in a part of a process's numbers, of which some name it as often as the whole does
pub desc_named : (h : Heap) (key : ℕ) (proc : Proc) (row : List (Option Descriptor)) (fd : ℕ) (held : Descriptor) → HasItsOwners h [] → object h.procs key ≡ Some proc
    → count_by (names_desc held.desc) row ≤ count_by (names_desc held.desc) (numbers_in h proc) → object row fd ≡ Some held → InUse h.descs held.desc
desc_named h key proc row fd held owners there part is =
    let some = names_some row fd held is in
    let it = named_there h [] held.desc owners (named_part held.desc h key proc there (omega (arith, some, part))) in
    let used : InUse h.descs held.desc = rw it.1 refl in used

-- what it is open on is there
pub target_held : (h : Heap) (key : ℕ) (desc : Desc) → HasItsOwners h [] → object h.descs key ≡ Some desc → IsTargetIn h desc.target
target_held h key desc owners is =
    let used : InUse h.descs key = rw is refl in
    let it = named_there h [] key owners (more (desc_count_at h.descs key) (all_namings h key) (owners.named.counts key) (owners.named.named key used)) in
    subst (λ (d : Desc). IsTargetIn h d.target) (some_same (object h.descs key) it.0 desc it.1 is) it.2
  where
    more : (count names : ℕ) → count ≡ names + 0 → 0 < count → 0 < names
    more count names same some = omega (arith, same, some)

-- the parts are the row of the Proc and those of its Leaves
module _ (h : Heap) (proc : Proc) (key : ℕ) where
  abbrev leaf_names : Option ℕ → ℕ
  leaf_names leaf = count_by (names_desc key) (row_at h.leaves leaf)

  pub first_part : count_by (names_desc key) proc.descriptors ≤ count_by (names_desc key) (numbers_in h proc)
  first_part = let all = numbers_by-count (names_desc key) h.leaves proc.descriptors proc.leaves in omega (arith, all)

  pub leaf_part : (at : ℕ) → at < length proc.leaves → leaf_names (get_or proc.leaves at None) ≤ count_by (names_desc key) (numbers_in h proc)
  leaf_part at within =
      let all = numbers_by-count (names_desc key) h.leaves proc.descriptors proc.leaves in
      let least = get_or-le-sum_by leaf_names proc.leaves at None within in
      omega (arith, all, least)

-- ---- from the heap to the machine

-- the node that a Desc is open on, a FIFO's too, is the machine's
node_same : (numbers : Numbers) (h : Heap) (files : Files) (access : Access) (on : HeldTarget) → ArePiped numbers h files.pipes → IsThereFor h access on
    → plain_node files.pipes (target_in numbers on) ≡ node_in h.pipes on
node_same numbers h files access (target.Inode number) piped there = refl
node_same numbers h files access (target.Pipe key) piped there = sym (node_is files (OnPipe (numbers.pipes key))) ∙ node_placed numbers h files key there.0 piped
node_same numbers h files access (target.Sock key) piped there = refl

-- it is this one
numbered : (n : ℕ) (o : Option ℕ) → is_number n o ≡ true → o ≡ Some n
numbered n None e = cc
numbered n (Some number) e = elim (eqb_tells number n) [ inl same ↦ ap Some same.1 | inr apart ↦ never (sym e ∙ apart.0) ]

module _ (numbers : Numbers) (h : Heap) (kept : TableView) (files : Files) (have : HaveOpen numbers h kept files) (owners : HasItsOwners h []) where
  node_so : (key : ℕ) (desc : Desc) → object h.descs key ≡ Some desc → plain_node files.pipes (target_in numbers desc.target) ≡ node_in h.pipes desc.target
  node_so key desc is = node_same numbers h files desc.access desc.target have.opened.piped (owners.held.targets key desc is)

  opened_key : (key n : ℕ) (o : Option Desc) → object h.descs key ≡ o → is_number n (node_of h.pipes o) ≡ true → opens files n ≡ true
  opened_key key n None is e = cc
  opened_key key n (Some desc) is e =
      by_opener files n (record {
        place = numbers.descs key;
        description = (counted_in numbers desc).is;
        is = described_so numbers h have.list files key desc have.opened is;
        on = node_so key desc is ∙ numbered n (node_in h.pipes desc.target) e;
      })

  opened_place : (n : ℕ) (place : Option Descriptor) → opens_at h n place ≡ true → opens files n ≡ true
  opened_place n None e = cc
  opened_place n (Some held) e = opened_key held.desc n (object h.descs held.desc) refl e

  opened_places : (n : ℕ) (places : List (Option Descriptor)) → some_opens h places n ≡ true → opens files n ≡ true
  opened_places n [] e = cc
  opened_places n (place ∷ places) e = go (opens_at h n place) refl e (opened_places n places)
    where
      go : (b : Bool) → opens_at h n place ≡ b → (b || some_opens h places n) ≡ true → (some_opens h places n ≡ true → opens files n ≡ true) → opens files n ≡ true
      go true is some rest = opened_place n place is
      go false is some rest = rest some

  opened_procs : (n : ℕ) (procs : List Proc) → list_any (λ proc. some_opens h (numbers_in h proc) n) procs ≡ true → opens files n ≡ true
  opened_procs n [] e = cc
  opened_procs n (proc ∷ procs) e = go (some_opens h (numbers_in h proc) n) refl e (opened_procs n procs)
    where
      go : (b : Bool) → some_opens h (numbers_in h proc) n ≡ b → (b || list_any (λ p. some_opens h (numbers_in h p) n) procs) ≡ true
          → (list_any (λ p. some_opens h (numbers_in h p) n) procs ≡ true → opens files n ≡ true) → opens files n ≡ true
      go true is some rest = opened_places n (numbers_in h proc) is
      go false is some rest = rest some

-- ---- from the machine to the heap

later : (b c : Bool) → c ≡ true → (b || c) ≡ true
later true c e = refl
later false c e = e

-- one that passes among some
any_here : {X : Type 0} (test : Option X → Bool) (xs : List (Option X)) (at : ℕ) (x : X) → object xs at ≡ Some x → test (Some x) ≡ true → list_any test xs ≡ true
any_here test [] at x is passes = cc
any_here test (first ∷ xs) zero x is passes = ap (λ o. test o || list_any test xs) is ∙ ap (λ b. b || list_any test xs) passes
any_here test (first ∷ xs) (suc at) x is passes = later (test first) (list_any test xs) (any_here test xs at x is passes)

-- a process of a pid is among them
any_found : (test : Proc → Bool) (procs : List Proc) (pid : ℕ) (proc : Proc) → proc_of procs pid ≡ Some proc → test proc ≡ true → list_any test procs ≡ true
any_found test [] pid proc found passes = cc
any_found test (first ∷ procs) pid proc found passes = by_pid (first.pid == pid) found (any_found test procs pid proc)
  where
    by_pid : (b : Bool) → cond b (Some first) (proc_of procs pid) ≡ Some proc → (proc_of procs pid ≡ Some proc → test proc ≡ true → list_any test procs ≡ true) → list_any test (first ∷ procs) ≡ true
    by_pid true is rest = ap (λ b. b || list_any test procs) (ap test (some_same (Some first) first proc refl is) ∙ passes)
    by_pid false is rest = later (test first) (list_any test procs) (rest is passes)

-- a descriptor that names a key
names_key : (key : ℕ) (held : Descriptor) → 0 < one_if (names_desc key (Some held)) → held.desc ≡ key
names_key key held some = elim (eqb_tells held.desc key) [
  | inl same ↦ same.1
  | inr apart ↦ absurd (let none : one_if (held.desc == key) ≡ 0 = ap one_if apart.0 in omega (arith, some, none))
]

module _ (numbers : Numbers) (h : Heap) (kept : TableView) (files : Files) (have : HaveOpen numbers h kept files) (listed : AreListed h kept) (owners : HasItsOwners h []) where
  -- the Desc of each description that opens a node
  desc_of : (n : ℕ) (opener : Opener files.descriptions files.pipes n) → (key : ℕ) × (desc : Desc) × (object h.descs key ≡ Some desc) × (is_number n (node_in h.pipes desc.target) ≡ true)
  desc_of n opener =
      let all = have.opened.described in
      let counted = counted_at have.list opener.place opener.description (sym (ap (λ (d : Descriptions). description_at d opener.place) have.opened.descriptions) ∙ opener.is) in
      let found = all.found opener.place counted.0 counted.1 in
      let desc = object_of h.descs found.0 found.1 in
      let means = all.means found.0 desc.0 counted.0 desc.1 (ap (object have.list) found.2 ∙ counted.1) in
      let on : node_in h.pipes desc.0.target ≡ Some n =
      sym (node_so numbers h kept files have owners found.0 desc.0 desc.1)
      ∙ ap (plain_node files.pipes) (same_target counted.0 (counted_in numbers desc.0) opener.description means counted.2) ∙ opener.on in
      (found.0, desc.0, desc.1, ap (is_number n) on ∙ eqb_same n n refl)
    where
      same_target : (one other : Counted) (d : Description) → one ≡ other → one.is ≡ d → other.is.target ≡ d.target
      same_target one other d e f = sym (ap (λ (c : Counted). c.is.target) e) ∙ ap (λ (t : Description). t.target) f

      counted_in_place : (o : Option Counted) (d : Description) → option_map (λ (c : Counted). c.is) o ≡ Some d → (c : Counted) × (o ≡ Some c) × (c.is ≡ d)
      counted_in_place None d e = cc
      counted_in_place (Some c) d e = (c, refl, same (Some c.is) refl e)
        where
          same : (o : Option Description) → o ≡ Some c.is → o ≡ Some d → c.is ≡ d
          same o f g = cc

      counted_at : (list : CountedList) (place : ℕ) (d : Description) → description_at (uncounted list) place ≡ Some d → (c : Counted) × (object list place ≡ Some c) × (c.is ≡ d)
      counted_at list place d e = counted_in_place (object list place) d (sym (description_in list place) ∙ e)

  -- some process of the table names it
  named_so : (test : Proc → Bool) (key : ℕ) → InUse h.descs key → ((proc : Proc) (fd : ℕ) (held : Descriptor) → object (numbers_in h proc) fd ≡ Some held → held.desc ≡ key → test proc ≡ true)
      → list_any test (processes h kept) ≡ true
  named_so test key used passes =
      let at = named_whole key h kept listed (more (desc_count_at h.descs key) (all_namings h key) (owners.named.counts key) (owners.named.named key used)) in
      let by = some_adds (λ o. one_if (names_desc key o)) (numbers_in h at.proc) refl at.names in
      any_found test (processes h kept) at.pid at.proc at.found (passes at.proc by.key by.value by.is (names_key key by.value by.adds))
    where
      more : (count names : ℕ) → count ≡ names + 0 → 0 < count → 0 < names
      more count names same some = omega (arith, same, some)

  opens_procs : (n : ℕ) → opens files n ≡ true → list_any (λ proc. some_opens h (numbers_in h proc) n) (processes h kept) ≡ true
  opens_procs n some =
      let at = desc_of n (opens_by files n some) in
      named_so (λ proc. some_opens h (numbers_in h proc) n) at.0 (let used : InUse h.descs at.0 = rw at.2 refl in used)
      (λ proc fd held is names.
      any_here (opens_at h n) (numbers_in h proc) fd held is
      (ap (λ key. is_number n (node_of h.pipes (object h.descs key))) names ∙ ap (λ o. is_number n (node_of h.pipes o)) at.2 ∙ at.3))

  -- the same are open
  pub opens_same : (n : ℕ) → list_any (λ proc. some_opens h (numbers_in h proc) n) (processes h kept) ≡ opens files n
  opens_same n = alike (list_any (λ proc. some_opens h (numbers_in h proc) n) (processes h kept)) (opens files n) (opened_procs numbers h kept files have owners n (processes h kept)) (opens_procs n)
