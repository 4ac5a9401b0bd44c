-- A number of a process names a Desc from now on, or nothing, in the heap as in the machine.
use Rattle.std.proofs.Common.{◌≡◌, ℕ, ◌+◌, ◌==◌, List, ◌∷◌, Option, None, Some, refl, ap, sym, ◌∙◌, subst, arith}
use Rattle.std.specs.Prelude.{count_by, slice_index_or}
use Rattle.std.specs.Option.{option_map}
use Rattle.kheap_laws.proofs.TableLemmas.{OwnsItsObjects-along, OwnsItsObjects-proc_set}
use Rattle.kheap_slabs.specs.Objects.{InUse, put}
use Rattle.kheap_slabs.specs.declared.objects.Desc.{Desc}
use Rattle.kheap_slabs.specs.declared.objects.Descriptor.{Descriptor as HeldDescriptor}
use Rattle.kheap_slabs.specs.declared.objects.Proc.{Proc}
use Rattle.kheap_slabs.specs.Heap.{Heap}
use Rattle.kheap_slabs.specs.Owners.{OwnsItsObjects}
use Rattle.desc_table.specs.Numbered.{names_one}
use Rattle.open_laws.specs.Open.{AreOpen, descriptor_by}
use Rattle.open_laws.specs.Owned.{HasItsOwners, IsHeldOpen, desc_count_at}
use Rattle.open_laws.specs.Placed.{Numbers}
use Rattle.posix_defs.specs.Files.State.{Files, with_open}
use Rattle.proc_table.specs.Procs.{numbers_in}
use Rattle.proc_table.specs.Table.{TableView}
use Rattle.pipe_ends.proofs.LinkLemmas.{links_same}
use Rattle.proc_numbers.specs.Having.{AreListed, HaveOpen}
use Rattle.proc_numbers.specs.Naming.{ChangesNumbers, NamesNumber, TurnsNumber, named_at}
use Rattle.proc_numbers.proofs.NumberTurns.{beside_numbers, descriptors_turned, held_beside, listed_turned, numbers_before, open_beside}
use Rattle.proc_numbers.proofs.Sums.{one_if, count_cons}

-- ---- once a number has turned

module _ (old new : Heap) (kept : TableView) (pid fd : ℕ) (held : Option HeldDescriptor) (listed : AreListed old kept) (names : TurnsNumber old new kept pid fd held) where
  pub turned_listed : AreListed new kept
  turned_listed = listed_turned old new kept pid fd names.key names.proc names.now held listed names.turns names.numbers

  -- what the number named
  pub was_at : named_at old kept pid fd ≡ slice_index_or (numbers_in old names.proc) fd None
  was_at = ap (λ places. slice_index_or places fd None) (numbers_before old new kept pid fd names.key names.proc names.now held listed names.turns names.numbers)

  -- its Procs and its Leaves alone are others
  abbrev turned_heap : Heap
  turned_heap = beside_numbers old (put old.procs names.key names.now) new.leaves new.high

  abbrev set_heap : Heap
  set_heap = record old { procs = put old.procs names.key names.now }

  turned_objects : OwnsItsObjects old → OwnsItsObjects new
  turned_objects owns =
      subst (λ (h : Heap). OwnsItsObjects h) (sym names.after)
      (OwnsItsObjects-along set_heap turned_heap refl refl refl refl refl refl
      (OwnsItsObjects-proc_set old set_heap names.key names.proc names.now names.turns.there (ap (λ (p : Proc). p.nodes) names.turns.same) refl owns))

  turned_held : IsHeldOpen old → IsHeldOpen new
  turned_held still = subst (λ (h : Heap). IsHeldOpen h) (sym names.after) (held_beside old (put old.procs names.key names.now) new.leaves new.high still)

  same_descs : new.descs ≡ old.descs
  same_descs = ap (λ (h : Heap). h.descs) names.after

  -- the counts go on, where what is in hand is other by what the number named and names
  pub turned_owners : (had hand : List ℕ)
      → ((other : ℕ) → count_by (λ k. k == other) hand + names_one other held ≡ count_by (λ k. k == other) had + names_one other (slice_index_or (numbers_in old names.proc) fd None))
      → HasItsOwners old had → HasItsOwners new hand
  turned_owners had hand moved owners = record {
    objects = turned_objects owners.objects;
    named = record {
      counts = λ other.
          let before = owners.named.counts other in
          let turned = names.namings other in
          let shifted = moved other in
          let same = ap (λ (d : List (Option Desc)). desc_count_at d other) same_descs in
          omega (arith, before, turned, shifted, same);
      named = λ key used.
          let some = owners.named.named key (subst (λ (d : List (Option Desc)). InUse d key) same_descs used) in
          let same = ap (λ (d : List (Option Desc)). desc_count_at d key) same_descs in
          omega (arith, some, same);
    };
    held = turned_held owners.held;
  }

  -- what is open behind the numbers is there still
  pub turned_open : (numbers : Numbers) (files : Files) (have : HaveOpen numbers old kept files)
      → AreOpen numbers new have.list (with_open files pid fd (option_map (descriptor_by numbers.descs) held))
  turned_open numbers files have =
      subst (λ (h : Heap). AreOpen numbers h have.list (with_open files pid fd (option_map (descriptor_by numbers.descs) held))) (sym names.after)
      (open_beside numbers old (put old.procs names.key names.now) new.leaves new.high have.list files (with_open files pid fd (option_map (descriptor_by numbers.descs) held)).descriptors have.opened)

  pub turned_have : (numbers : Numbers) (files : Files) → HaveOpen numbers old kept files → HaveOpen numbers new kept (with_open files pid fd (option_map (descriptor_by numbers.descs) held))
  turned_have numbers files have = record {
    list = have.list;
    opened = turned_open numbers files have;
    descriptors = descriptors_turned old new kept pid fd names.key names.proc names.now held listed names.turns names.numbers numbers files have.descriptors;
  }

  pub turned_changes : ChangesNumbers old new kept pid
  turned_changes = record {
    key = names.key;
    proc = names.proc;
    now = names.now;
    named = names.turns.found;
    there = names.turns.there;
    same = names.turns.same;
    procs = names.turns.procs;
    beside = subst
        (λ (h : Heap). h ≡ record old { procs = h.procs; leaves = h.leaves; descs = h.descs; pipes = h.pipes; chunks = h.chunks; socks = h.socks; high = h.high })
        (sym names.after) refl;
    links = links_same old new (ap (λ (h : Heap). h.pipes) names.after);
  }

  pub turned_beside : new ≡ record old { procs = new.procs; leaves = new.leaves; high = new.high }
  turned_beside = names.after ∙ ap (λ procs. record old { procs = procs; leaves = new.leaves; high = new.high }) (sym names.turns.procs)

-- ---- once the number names a Desc

module _ (old new : Heap) (kept : TableView) (pid fd : ℕ) (held : HeldDescriptor) (listed : AreListed old kept) (names : NamesNumber old new kept pid fd held) where
  pub listed_named : AreListed new kept
  listed_named = turned_listed old new kept pid fd (Some held) listed names

  pub opened_named : (numbers : Numbers) (files : Files) → HaveOpen numbers old kept files → HaveOpen numbers new kept (with_open files pid fd (Some (descriptor_by numbers.descs held)))
  opened_named = turned_have old new kept pid fd (Some held) listed names

  at_it : named_at old kept pid fd ≡ slice_index_or (numbers_in old names.proc) fd None
  at_it = was_at old new kept pid fd (Some held) listed names

  -- a Desc that was in hand is a descriptor's
  pub owners_named : (hand : List ℕ) → named_at old kept pid fd ≡ None → HasItsOwners old (held.desc ∷ hand) → HasItsOwners new hand
  owners_named hand free =
      turned_owners old new kept pid fd (Some held) listed names (held.desc ∷ hand) hand (λ other.
      let none : names_one other (slice_index_or (numbers_in old names.proc) fd None) ≡ 0 = ap (names_one other) (sym at_it ∙ free) in
      let more = count_cons (λ k. k == other) held.desc hand in
      omega (arith, none, more))

  -- the descriptor names the Desc that it named
  pub owners_same : (hand : List ℕ) (was : HeldDescriptor) → named_at old kept pid fd ≡ Some was → was.desc ≡ held.desc → HasItsOwners old hand → HasItsOwners new hand
  owners_same hand was is same =
      turned_owners old new kept pid fd (Some held) listed names hand hand (λ other.
      let it : names_one other (slice_index_or (numbers_in old names.proc) fd None) ≡ one_if (held.desc == other) =
      ap (names_one other) (sym at_it ∙ is) ∙ ap (λ k. one_if (k == other)) same in
      omega (arith, it))

  pub beside_named : new ≡ record old { procs = new.procs; leaves = new.leaves; high = new.high }
  beside_named = turned_beside old new kept pid fd (Some held) listed names

  pub changes_named : ChangesNumbers old new kept pid
  changes_named = turned_changes old new kept pid fd (Some held) listed names
