-- A Desc is at another offset: its owners, and what heap and table stand for.
use Rattle.std.proofs.Common.{◌≡◌, ℕ, ◌<◌, List, [], set, Some, IsSome, is_some, refl, sym, ap, subst, ◌∙◌, inl, inr}
use Rattle.std.specs.Option.{option_map}
use Rattle.std.proofs.lemmas.Bool.{cases_eq}
use Rattle.std.proofs.lemmas.List.{map-set}
use Rattle.kheap_laws.proofs.OwnerLemmas.{IsOwned-same}
use Rattle.kheap_laws.proofs.TableLemmas.{OwnsItsObjects-along}
use Rattle.kheap_slabs.specs.Objects.{InUse, object, put}
use Rattle.kheap_slabs.specs.declared.objects.Desc.{Desc}
use Rattle.kheap_slabs.specs.Heap.{Heap}
use Rattle.open_laws.specs.Described.{Counted, CountedList, counted_in}
use Rattle.open_laws.specs.Open.{AreOpen, HaveFronts}
use Rattle.open_laws.specs.Owned.{CountsItsNames, HasItsOwners, IsThereFor, desc_count, desc_count_at}
use Rattle.open_laws.proofs.CloseLemmas.{described}
use Rattle.open_laws.proofs.DropLemmas.{piped_beside, socketed_beside}
use Rattle.open_laws.proofs.OwnerLemmas.{held_beside, set_here, set_other}
use Rattle.open_laws.specs.Placed.{Numbers}
use Rattle.open_laws.proofs.PlaceLemmas.{law_changes}
use Rattle.posix_defs.specs.Account.{Account}
use Rattle.posix_defs.specs.Files.Descriptions.{Descriptions, with_description}
use Rattle.posix_defs.specs.Files.State.{Files, described_as}
use Rattle.posix_defs.specs.Memory.{Frames}
use Rattle.posix_defs.specs.Process.{Table}
use Rattle.proc_table.specs.Accounting.{HasAccount}
use Rattle.proc_table.specs.Standing.{IsTable}
use Rattle.proc_table.specs.Table.{TableView, processes, with_procs}
use Rattle.proc_table.proofs.LawLemmas.{elsewhere_account, elsewhere_holds, elsewhere_table}
use Rattle.proc_numbers.specs.Having.{AreListed, HaveOpen}
use Rattle.proc_numbers.proofs.Listing.{openings_on}
use Rattle.proc_numbers.proofs.NumberCloses.{listed_on}
use Rattle.proc_numbers.specs.Standing.{IsKept}
use Rattle.proc_files.specs.Seeking.{MovesDesc, moved}

module _ (old : Heap) (key : ℕ) (desc : Desc) (offset : ℕ) (is : object old.descs key ≡ Some desc) where
  abbrev pub now : Desc
  now = moved desc offset

  abbrev pub with_it : Heap
  with_it = described old (put old.descs key now)

  same_count : (other : ℕ) → desc_count_at (put old.descs key now) other ≡ desc_count_at old.descs other
  same_count other = elim (cases_eq other key) [
    | inl here ↦
        ap (desc_count_at (put old.descs key now)) here ∙ ap desc_count (set_here old.descs key desc (Some now) is)
        ∙ sym (ap desc_count is) ∙ sym (ap (desc_count_at old.descs) here)
    | inr apart ↦ ap desc_count (set_other old.descs key other (Some now) apart)
  ]

  same_use : (other : ℕ) → InUse (put old.descs key now) other → InUse old.descs other
  same_use other used = elim (cases_eq other key) [
    | inl here ↦ ap is_some (ap (object old.descs) here ∙ is)
    | inr apart ↦ subst IsSome (set_other old.descs key other (Some now) apart) used
  ]

  named_moved : (hand : List ℕ) → CountsItsNames old hand → CountsItsNames with_it hand
  named_moved hand named = record {
    counts = λ other. same_count other ∙ named.counts other;
    named = λ other used. subst (λ n. 0 < n) (sym (same_count other)) (named.named other (same_use other used));
  }

  pub owners_moved : (hand : List ℕ) → HasItsOwners old hand → HasItsOwners with_it hand
  owners_moved hand owners = record {
    objects = OwnsItsObjects-along old with_it refl refl refl refl refl refl owners.objects;
    named = named_moved hand owners.named;
    held = held_beside old key desc (Some now) is (λ pipe. refl) (λ pipe. refl) refl
        (λ other same. let e : now ≡ other = cc in subst (λ (d : Desc). IsThereFor old d.access d.target) e (owners.held.targets key desc is)) owners.held;
  }

  open_moved : (numbers : Numbers) (list : CountedList) (files : Files) → AreOpen numbers old list files
      → AreOpen numbers with_it (set list (numbers.descs key) (Some (counted_in numbers now))) (described_as files (numbers.descs key) (counted_in numbers now).is)
  open_moved numbers list files are = record {
    described = law_changes (λ k d. counted_in numbers d) numbers.descs old.descs list key now (ap is_some is) are.described;
    descriptions =
        ap (λ (d : Descriptions). with_description d (numbers.descs key) (Some (counted_in numbers now).is)) are.descriptions
        ∙ sym (map-set (option_map (λ (c : Counted). c.is)) list (numbers.descs key) (Some (counted_in numbers now)));
    piped = piped_beside numbers old (put old.descs key now) files.pipes are.piped;
    socketed = socketed_beside numbers old (put old.descs key now) files.sockets are.socketed;
  }

  pub have_moved : (numbers : Numbers) (kept : TableView) (files : Files) → HaveOpen numbers old kept files
      → HaveOpen numbers with_it kept (described_as files (numbers.descs key) (counted_in numbers now).is)
  have_moved numbers kept files have = record {
    list = set have.list (numbers.descs key) (Some (counted_in numbers now));
    opened = open_moved numbers have.list files have.opened;
    descriptors = record { each = have.descriptors.each; made = have.descriptors.made; openings = openings_on old with_it kept files.openings refl have.descriptors.openings };
  }

module _ (old new : Heap) (key : ℕ) (desc : Desc) (offset : ℕ) (is : object old.descs key ≡ Some desc) (e : MovesDesc old new key desc offset) where
  pub moved_owners : (hand : List ℕ) → HasItsOwners old hand → HasItsOwners new hand
  moved_owners hand owners = subst (λ (h : Heap). HasItsOwners h hand) (sym e) (owners_moved old key desc offset is hand owners)

  pub moved_listed : (kept : TableView) → AreListed old kept → AreListed new kept
  moved_listed kept listed = listed_on old new kept (ap (λ (h : Heap). h.procs) e) (ap (λ (h : Heap). h.leaves) e) listed

  pub moved_kept : (kept : TableView) → IsKept old kept → IsKept new kept
  moved_kept kept was = record {
    holds = elsewhere_holds old new kept was.holds.owned.0 (ap (λ (h : Heap). h.procs) e)
        (IsOwned-same old new (with_procs (processes old kept) was.holds.owned.0) (ap (λ (h : Heap). h.nodes) e) (ap (λ (h : Heap). h.pages) e) (ap (λ (h : Heap). h.chunks) e) was.holds.owned.1) was.holds;
    listed = moved_listed kept was.listed;
    owners = moved_owners [] was.owners;
  }

  pub moved_table : (kept : TableView) (table : Table) → IsTable old kept table → IsTable new kept table
  moved_table kept table was = elsewhere_table old new kept table (ap (λ (h : Heap). h.procs) e) (ap (λ (h : Heap). h.nodes) e) (ap (λ (h : Heap). h.pages) e) was

  pub moved_account : (kept : TableView) (frames : Frames) → HasAccount old kept frames → HasAccount new kept frames
  moved_account kept frames has = elsewhere_account old new kept frames (ap (λ (h : Heap). h.procs) e) (ap (λ (h : Heap). h.nodes) e) (ap (λ (h : Heap). h.pages) e) has

  pub moved_fronts : (numbers : Numbers) (account : Account) → HaveFronts numbers old account → HaveFronts numbers new account
  moved_fronts numbers account fronts = record {
    pipes = λ at held is_there. fronts.pipes at held (ap (λ (h : Heap). object h.pipes at) (sym e) ∙ is_there);
    socks = λ at sock is_there. fronts.socks at sock (ap (λ (h : Heap). object h.socks at) (sym e) ∙ is_there);
  }
