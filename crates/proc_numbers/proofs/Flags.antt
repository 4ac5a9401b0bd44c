-- A Desc has other flags: its owners, and what heap and table stand for.
use Rattle.std.proofs.Common.{◌≡◌, ℕ, ◌<◌, Bool, List, set, Some, IsSome, is_some, refl, sym, ap, subst, ◌∙◌, inl, inr}
use Rattle.std.specs.Option.{option_map}
use Rattle.std.proofs.lemmas.Bool.{cases_eq}
use Rattle.std.proofs.lemmas.List.{map-set}
use Rattle.kheap_laws.proofs.TableLemmas.{OwnsItsObjects-along}
use Rattle.kheap_slabs.specs.Objects.{InUse, object, put}
use Rattle.kheap_slabs.specs.declared.objects.Desc.{Desc}
use Rattle.kheap_slabs.specs.Heap.{Heap}
use Rattle.open_laws.specs.Described.{Counted, CountedList, counted_in}
use Rattle.open_laws.specs.Open.{AreOpen}
use Rattle.open_laws.specs.Owned.{CountsItsNames, HasItsOwners, IsThereFor, desc_count, desc_count_at}
use Rattle.open_laws.proofs.CloseLemmas.{described}
use Rattle.open_laws.proofs.DropLemmas.{piped_beside, socketed_beside}
use Rattle.open_laws.proofs.OwnerLemmas.{held_beside, set_here, set_other}
use Rattle.open_laws.specs.Placed.{Numbers}
use Rattle.open_laws.proofs.PlaceLemmas.{law_changes}
use Rattle.posix_defs.specs.Files.Descriptions.{Descriptions, with_description}
use Rattle.posix_defs.specs.Files.State.{Files, described_as}
use Rattle.proc_table.specs.Table.{TableView}
use Rattle.proc_numbers.specs.Having.{HaveOpen}

module _ (old : Heap) (key : ℕ) (desc : Desc) (append nonblock : Bool) (is : object old.descs key ≡ Some desc) where
  abbrev pub flagged : Desc
  flagged = record desc { flags = record { append = append; nonblock = nonblock } }

  abbrev pub with_it : Heap
  with_it = described old (put old.descs key flagged)

  same_count : (other : ℕ) → desc_count_at (put old.descs key flagged) other ≡ desc_count_at old.descs other
  same_count other = elim (cases_eq other key) [
    | inl here ↦
        ap (desc_count_at (put old.descs key flagged)) here ∙ ap desc_count (set_here old.descs key desc (Some flagged) is)
        ∙ sym (ap desc_count is) ∙ sym (ap (desc_count_at old.descs) here)
    | inr apart ↦ ap desc_count (set_other old.descs key other (Some flagged) apart)
  ]

  same_use : (other : ℕ) → InUse (put old.descs key flagged) other → InUse old.descs other
  same_use other used = elim (cases_eq other key) [
    | inl here ↦ ap is_some (ap (object old.descs) here ∙ is)
    | inr apart ↦ subst IsSome (set_other old.descs key other (Some flagged) apart) used
  ]

  named_flagged : (hand : List ℕ) → CountsItsNames old hand → CountsItsNames with_it hand
  named_flagged hand named = record {
    counts = λ other. same_count other ∙ named.counts other;
    named = λ other used. subst (λ n. 0 < n) (sym (same_count other)) (named.named other (same_use other used));
  }

  pub owners_flagged : (hand : List ℕ) → HasItsOwners old hand → HasItsOwners with_it hand
  owners_flagged hand owners = record {
    objects = OwnsItsObjects-along old with_it refl refl refl refl refl refl owners.objects;
    named = named_flagged hand owners.named;
    held = held_beside old key desc (Some flagged) is (λ pipe. refl) (λ pipe. refl) refl
        (λ other same. let e : flagged ≡ other = cc in subst (λ (d : Desc). IsThereFor old d.access d.target) e (owners.held.targets key desc is)) owners.held;
  }

  pub open_flagged : (numbers : Numbers) (list : CountedList) (files : Files) → AreOpen numbers old list files
      → AreOpen numbers with_it (set list (numbers.descs key) (Some (counted_in numbers flagged))) (described_as files (numbers.descs key) (counted_in numbers flagged).is)
  open_flagged numbers list files are = record {
    described = law_changes (λ k d. counted_in numbers d) numbers.descs old.descs list key flagged (ap is_some is) are.described;
    descriptions =
        ap (λ (d : Descriptions). with_description d (numbers.descs key) (Some (counted_in numbers flagged).is)) are.descriptions
        ∙ sym (map-set (option_map (λ (c : Counted). c.is)) list (numbers.descs key) (Some (counted_in numbers flagged)));
    piped = piped_beside numbers old (put old.descs key flagged) files.pipes are.piped;
    socketed = socketed_beside numbers old (put old.descs key flagged) files.sockets are.socketed;
  }

  pub have_flagged : (numbers : Numbers) (kept : TableView) (files : Files) → HaveOpen numbers old kept files
      → HaveOpen numbers with_it kept (described_as files (numbers.descs key) (counted_in numbers flagged).is)
  have_flagged numbers kept files have = record {
    list = set have.list (numbers.descs key) (Some (counted_in numbers flagged));
    opened = open_flagged numbers have.list files have.opened;
    descriptors = record { each = have.descriptors.each; made = have.descriptors.made; openings = have.descriptors.openings };
  }
