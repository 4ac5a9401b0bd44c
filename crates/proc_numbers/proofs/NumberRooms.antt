-- A number of a process gets another descriptor or none in its Proc or its Leaf, and which numbers have a place.
use Rattle.std.proofs.Common.{◌≡◌, ◌⊎◌, ℕ, zero, suc, ◌+◌, ◌-◌, ◌%◌, ◌<◌, ◌≤◌, ◌||◌, Bool, true, false, cond, is_some, List, length, Option, None, Some, IsSome, refl, ap, sym, subst, ◌∙◌, inl, inr, arith, le-ltb}
use Rattle.std.specs.Prelude.{slice_index_or, slice_set}
use Rattle.std.proofs.lemmas.Bool.{cases_lt}
use Rattle.std.proofs.lemmas.List.{get_or-replicate}
use Rattle.std.proofs.lemmas.List.Sums.{sum_by-set}
use Rattle.kheap_slabs.specs.Objects.{object, put}
use Rattle.kheap_slabs.specs.declared.objects.Descriptor.{Descriptor as Held}
use Rattle.kheap_slabs.specs.declared.objects.Proc.{Proc}
use Rattle.kheap_slabs.specs.Heap.{Heap, IsWellFormed}
use Rattle.kheap_slabs.specs.Leaves.{LeavesChange, group_of, has_place, numbers_by, place_of, row_at}
use Rattle.kheap_slabs.specs.Purse.{Purse}
use Rattle.kheap_slabs.proofs.ObjectLemmas.{InUse-within}
use Rattle.kheap_laws.proofs.LeafLemmas.{numbers_by-leaf}
use Rattle.open_laws.specs.Owned.{leaf_namings_of, namings_in, namings_of}
use Rattle.desc_table.specs.Copying.{spends_leaves}
use Rattle.desc_table.specs.Numbered.{InHand, Renames, leaf_spent, names_one, numbers}
use Rattle.desc_table.proofs.NumberLemmas.{first_place, leaf_place, none_some}
use Rattle.proc_table.specs.Procs.{numbers_in, proc_of}
use Rattle.proc_table.specs.Table.{TableView, key_of, processes}
use Rattle.proc_table.proofs.NumberLemmas.{numbers_all}
use Rattle.proc_table.proofs.PlaceLemmas.{key_of-proc}
use Rattle.proc_numbers.specs.Having.{AreListed, places_in}
use Rattle.proc_numbers.specs.Naming.{AreOpenBelow, TurnsNumber, has_room, has_room_in, named_at}
use Rattle.proc_numbers.proofs.Listing.{found_before}
use Rattle.proc_numbers.proofs.NumberTurns.{proc_before, proc_then}

-- the descriptors of a Proc in hand
abbrev pub taken : Proc → InHand
taken proc = record { places = proc.descriptors; leaves = proc.leaves }

-- ---- what is put back in the Proc

module _ (old mid new : Heap) (kept : TableView) (pid key : ℕ) (proc : Proc) (was hand : InHand) (places : List (Option Held)) (keys : List (Option ℕ)) (fd : ℕ) (x : Option Held)
    (named : key_of kept.listed pid ≡ Some key) (there : object old.procs key ≡ Some proc) (seen : was ≡ taken proc) (within : fd < length (numbers_in old proc)) where
  abbrev now : Proc
  now = record proc { descriptors = places; leaves = keys }

  abbrev pub number_set : numbers mid hand ≡ slice_set (numbers old was) fd x → LeavesChange old.leaves mid.leaves was.leaves hand.leaves → Renames old was mid hand fd x
      → mid ≡ record old { leaves = mid.leaves; high = mid.high } → places ≡ hand.places → keys ≡ hand.leaves
      → new ≡ record mid { procs = put mid.procs key (record proc { descriptors = places; leaves = keys }) } → TurnsNumber old new kept pid fd x
  number_set numbers_are leaves namings mid_is same_places same_keys after = record {
    key = key;
    proc = proc;
    now = now;
    turns = record {
      found = named;
      there = there;
      same = refl;
      procs = procs_now;
      leaves = subst (λ l. LeavesChange old.leaves l proc.leaves keys) (sym leaves_now)
          (subst (λ k. LeavesChange old.leaves mid.leaves proc.leaves k) (sym same_keys) (subst (λ (d : InHand). LeavesChange old.leaves mid.leaves d.leaves hand.leaves) seen leaves));
    };
    within = within;
    numbers =
        ap (λ l. numbers_by l places keys) leaves_now
        ∙ (ap (λ p. numbers_by mid.leaves p keys) same_places ∙ (ap (λ k. numbers_by mid.leaves hand.places k) same_keys
        ∙ (numbers_are ∙ ap (λ (d : InHand). slice_set (numbers old d) fd x) seen)));
    namings = λ at.
        let moved = sum_by-set (namings_in at) old.procs key (Some now) None (InUse-within old.procs key (rw there refl)) in
        let before : namings_in at (object old.procs key) ≡ namings_in at (Some proc) = ap (namings_in at) there in
        let in_procs = ap (λ p. namings_of p at) procs_now in
        let in_leaves = ap (λ l. leaf_namings_of l at) leaves_now in
        let in_hand : namings_in at (Some now) ≡ namings_in at (Some (record proc { descriptors = hand.places; leaves = keys })) = ap (λ p. namings_in at (Some (record proc { descriptors = p; leaves = keys }))) same_places in
        let turned = namings at in
        let had : namings_in at (Some (record proc { descriptors = was.places; leaves = keys })) ≡ namings_in at (Some proc) = ap (λ (d : InHand). namings_in at (Some (record proc { descriptors = d.places; leaves = keys }))) seen in
        let stood : names_one at (slice_index_or (numbers old was) fd None) ≡ names_one at (slice_index_or (numbers_in old proc) fd None) = ap (λ (d : InHand). names_one at (slice_index_or (numbers old d) fd None)) seen in
        omega (arith, moved, before, in_procs, in_leaves, in_hand, turned, had, stood);
    after = subst (λ (h : Heap). h ≡ record old { procs = put old.procs key now; leaves = h.leaves; high = h.high }) (sym both) refl;
  }
    where
      both : new ≡ record old { procs = put old.procs key now; leaves = mid.leaves; high = mid.high }
      both = after ∙ ap (λ (h : Heap). record h { procs = put h.procs key now }) mid_is

      procs_now : new.procs ≡ put old.procs key now
      procs_now = ap (λ (h : Heap). h.procs) both

      leaves_now : new.leaves ≡ mid.leaves
      leaves_now = ap (λ (h : Heap). h.leaves) both

-- ---- which numbers have a place

module _ (old new : Heap) (kept : TableView) (pid fd : ℕ) (x : Option Held) (listed : AreListed old kept) (turns : TurnsNumber old new kept pid fd x) (other : ℕ) where
  pub room_before : has_room old kept pid other ≡ has_place turns.proc.leaves other
  room_before = ap (λ o. has_room_in o other) (proc_before old new kept pid fd turns.key turns.proc turns.now x listed turns.turns turns.numbers)

  pub room_then : has_room new kept pid other ≡ has_place turns.now.leaves other
  room_then = ap (λ o. has_room_in o other) (proc_then old new kept pid fd turns.key turns.proc turns.now x listed turns.turns turns.numbers)

-- a number that is open has one
pub room_open : (h : Heap) (kept : TableView) (pid key fd : ℕ) → IsWellFormed h → AreListed h kept → key_of kept.listed pid ≡ Some key → IsSome (named_at h kept pid fd) → has_room h kept pid fd ≡ true
room_open h kept pid key fd whole listed named opened =
    ap (λ o. has_room_in o fd) found ∙ by_row (cases_lt fd 32)
  where
    at : (proc : Proc) × (object h.procs key ≡ Some proc)
    at = let it = key_of-proc h.procs kept.listed pid key listed.stored named in (it.0, it.1)

    found : proc_of (processes h kept) pid ≡ Some at.0
    found = found_before h.procs key at.0 at.0 at.1 refl kept.listed pid listed.stored named

    opened_here : IsSome (slice_index_or (numbers_in h at.0) fd None)
    opened_here = subst (λ o. IsSome (slice_index_or (places_in (numbers_in h) o) fd None)) found opened

    most : fd < 128
    most =
        let within = InUse-within (numbers_in h at.0) fd opened_here in
        let many = numbers_all h key at.0 whole at.1 in
        omega (arith, within, many)

    by_row : (fd < 32) ⊎ (32 ≤ fd) → has_place at.0.leaves fd ≡ true
    by_row (inl below) = first_place at.0.leaves fd below
    by_row (inr least) = by_key (slice_index_or at.0.leaves (group_of fd) None) refl
      where
        stands : slice_index_or (numbers_in h at.0) fd None ≡ slice_index_or (row_at h.leaves (slice_index_or at.0.leaves (group_of fd) None)) (place_of fd) None
        stands = numbers_by-leaf h.leaves at.0.descriptors at.0.leaves fd whole.leaf_rows (whole.descriptors key at.0 at.1) (whole.leaves key at.0 at.1) least most

        by_key : (o : Option ℕ) → slice_index_or at.0.leaves (group_of fd) None ≡ o → has_place at.0.leaves fd ≡ true
        by_key (Some leaf) is = leaf_place at.0.leaves fd leaf is
        by_key None none = absurd (
            none_some (slice_index_or (numbers_in h at.0) fd None)
            (stands ∙ (ap (λ k. slice_index_or (row_at h.leaves k) (place_of fd) None) none ∙ get_or-replicate 32 (place_of fd) None None (omega arith)))
            opened_here)

-- ---- the second of two numbers

-- where the lowest free number has none, the next one has the place that it gets
module _ (h new : Heap) (kept : TableView) (pid key first second : ℕ) (x : Option Held) (whole : IsWellFormed h) (listed : AreListed h kept) (named : key_of kept.listed pid ≡ Some key)
    (below : AreOpenBelow h kept pid 0 first) (between : AreOpenBelow h kept pid (first + 1) second) (above : first + 1 ≤ second) (roomless : has_room h kept pid first ≡ false) where
  nothing_there : (fd : ℕ) → has_room h kept pid fd ≡ false → IsSome (named_at h kept pid fd) → ⊥
  nothing_there fd none opened = let both : true ≡ false = sym (room_open h kept pid key fd whole listed named opened) ∙ none in cc

  -- numbers of one group behind the first 32 have a place or none together
  together : (keys : List (Option ℕ)) (one other : ℕ) → 32 ≤ one → 32 ≤ other → group_of one ≡ group_of other → has_place keys other ≡ has_place keys one
  together keys one other least most same =
      ap (λ b. b || is_some (slice_index_or keys (group_of other) None)) (le-ltb other 32 most)
      ∙ (ap (λ g. false || is_some (slice_index_or keys g None)) (sym same)
      ∙ sym (ap (λ b. b || is_some (slice_index_or keys (group_of one) None)) (le-ltb one 32 least)))

  at : (proc : Proc) × (object h.procs key ≡ Some proc)
  at = let it = key_of-proc h.procs kept.listed pid key listed.stored named in (it.0, it.1)

  room_is : (fd : ℕ) → has_room h kept pid fd ≡ has_place at.0.leaves fd
  room_is fd = ap (λ o. has_room_in o fd) (found_before h.procs key at.0 at.0 at.1 refl kept.listed pid listed.stored named)

  behind : 32 ≤ first
  behind = elim (cases_lt first 32) [
    | inl less ↦ absurd (let both : true ≡ false = sym (room_is first ∙ first_place at.0.leaves first less) ∙ roomless in cc)
    | inr least ↦ least
  ]

  -- it begins its group, since the number before it is open
  begins : first % 32 ≡ 0
  begins = by_rest (first % 32) refl
    where
      by_rest : (n : ℕ) → first % 32 ≡ n → first % 32 ≡ 0
      by_rest zero is = is
      by_rest (suc n) is = absurd (
          let most = behind in
          nothing_there (first - 1)
          (room_is (first - 1) ∙ together at.0.leaves first (first - 1) most (omega (arith, is, most)) (omega (arith, is, most)) ∙ sym (room_is first) ∙ roomless)
          (below (first - 1) (omega arith) (omega (arith, most))))

  next_is : second ≡ first + 1
  next_is = elim (cases_lt (first + 1) second) [
    | inl less ↦ absurd (
        let most = behind in let start = begins in
        nothing_there (first + 1)
        (room_is (first + 1) ∙ together at.0.leaves first (first + 1) most (omega (arith, most)) (omega (arith, start, most)) ∙ sym (room_is first) ∙ roomless)
        (between (first + 1) (omega arith) less))
    | inr least ↦ omega (arith, least, above)
  ]

  pub second_room : TurnsNumber h new kept pid first x → has_room new kept pid first ≡ true → has_room new kept pid second ≡ true
  second_room turns room =
      let most = behind in let start = begins in let next = next_is in
      room_then h new kept pid first x listed turns second
      ∙ together turns.now.leaves first second most (omega (arith, most, next)) (omega (arith, start, most, next))
      ∙ sym (room_then h new kept pid first x listed turns first) ∙ room

-- so a Leaf is enough for two
pub leaf_left : (b : Bool) (purse after : Purse) → after ≡ cond b purse (leaf_spent purse) → b ≡ true → 0 < purse.left.leaf → 0 < after.left.leaf
leaf_left b purse after spent is some = subst (λ (p : Purse). 0 < p.left.leaf) (sym (spent ∙ ap (λ c. cond c purse (leaf_spent purse)) is)) some

pub leaf_for_second : (h new : Heap) (kept : TableView) (pid key first second : ℕ) (x : Option Held) (purse after : Purse) → IsWellFormed h → AreListed h kept → key_of kept.listed pid ≡ Some key
    → AreOpenBelow h kept pid 0 first → AreOpenBelow h kept pid (first + 1) second → first + 1 ≤ second → TurnsNumber h new kept pid first x → has_room new kept pid first ≡ true
    → after ≡ cond (has_room h kept pid first) purse (leaf_spent purse) → 0 < purse.left.leaf → has_room new kept pid second ≡ false → 0 < after.left.leaf
leaf_for_second h new kept pid key first second x purse after whole listed named below between above turns room spent some none = by_room (has_room h kept pid first) refl
  where
    by_room : (b : Bool) → has_room h kept pid first ≡ b → 0 < after.left.leaf
    by_room true is = leaf_left (has_room h kept pid first) purse after spent is some
    by_room false is = absurd (
        let both : true ≡ false = sym (second_room h new kept pid key first second x whole listed named below between above is turns room) ∙ none in cc)

-- ---- what opening a number spends, as Leaves alone

pub spends_so : (b : Bool) (before after : Purse) → after ≡ cond b before (leaf_spent before) → after ≡ spends_leaves before after
spends_so true before after is = is ∙ (keeps before ∙ ap (λ (p : Purse). spends_leaves before p) (sym is))
  where
    keeps : (p : Purse) → p ≡ spends_leaves p p
    keeps p = refl
spends_so false before after is = is ∙ ap (λ (p : Purse). spends_leaves before p) (sym is)
