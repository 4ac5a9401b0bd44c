-- A Desc is made: who owns what then, where it is open on a node, and what heap and table have open.
use Rattle.std.proofs.Common.{◌≡◌, ◌≢◌, ℕ, zero, suc, ◌+◌, ◌-◌, ◌<◌, ◌==◌, ◌++◌, ℤ, Bool, true, false, cond, List, [], ◌∷◌, length, count_by, Option, None, Some, IsSome, is_some, refl, sym, ap, subst, ◌∙◌, arith, eq-eqb, ne_eqb, inl, inr}
use Rattle.std.specs.Prelude.{slice_index_or}
use Rattle.std.proofs.lemmas.Bool.{cases_eq}
use Rattle.chunk_queue.proofs.HeldLemmas.{HasBytes-same}
use Rattle.kheap_laws.proofs.TableLemmas.{OwnsItsObjects-along}
use Rattle.kheap_slabs.specs.Objects.{InUse, object, put}
use Rattle.kheap_slabs.specs.declared.objects.Access.{Access as HeldAccess}
use Rattle.kheap_slabs.specs.declared.objects.Access.TheVariants as mode
use Rattle.kheap_slabs.specs.declared.objects.Desc.{Desc}
use Rattle.kheap_slabs.specs.declared.objects.Descriptor.{Descriptor as HeldDescriptor}
use Rattle.kheap_slabs.specs.declared.objects.Target.{Target}
use Rattle.kheap_slabs.specs.declared.objects.Target.TheVariants as target
use Rattle.kabi_types.specs.declared.classes.Class.TheVariants as class
use Rattle.kabi_types.specs.Counts.{with_count}
use Rattle.kheap_slabs.specs.Purse.{Purse}
use Rattle.kheap_slabs.specs.declared.objects.Block.{Block}
use Rattle.kheap_slabs.specs.declared.objects.Name.{Name}
use Rattle.kheap_slabs.specs.declared.objects.Vnode.{Vnode}
use Rattle.kheap_slabs.specs.Heap.{Heap}
use Rattle.kheap_slabs.specs.Paid.{AreFills, HasFills}
use Rattle.kheap_slabs.specs.Owners.{OwnsItsObjects, pipe_queues, sock_queues, spaces_of}
use Rattle.open_laws.specs.Described.{AreDescribed, CountedList, access_in, counted_in, target_in, uncounted}
use Rattle.open_laws.specs.Open.{AreOpen, descriptor_by, descriptors_by}
use Rattle.open_laws.specs.Owned.{CountsItsNames, HasItsOwners, IsHeldOpen, IsThereFor, all_namings, desc_count, desc_count_at, has_read_end, has_write_end, sock_in, socks_named}
use Rattle.open_laws.proofs.DropLemmas.{piped_on, socketed_on}
use Rattle.open_laws.proofs.OwnerLemmas.{named_by, names}
use Rattle.pipe_ends.proofs.StandingLemmas.{stands_same as pipe_stands_same}
use Rattle.open_laws.specs.Placed.{Numbers, numbered}
use Rattle.posix_defs.specs.Calls.OnFiles.{description_on}
use Rattle.posix_defs.specs.Files.Descriptions.{Description, Descriptions, ReadOnly, ReadWrite, WriteOnly, access_of, has_flag}
use Rattle.posix_defs.specs.Files.Descriptors.{Descriptors}
use Rattle.posix_defs.specs.Files.State.{Files}
use Rattle.proc_table.specs.Table.{TableView}
use Rattle.proc_table.proofs.PlaceLemmas.{some_same}
use Rattle.proc_numbers.specs.Having.{AreListed, HaveOpen}
use Rattle.proc_numbers.specs.Naming.{named_at, places_of}
use Rattle.proc_numbers.proofs.Listing.{openings_on}
use Rattle.proc_numbers.proofs.NumberCloses.{listed_on}
use Rattle.proc_numbers.proofs.NumberNames.{desc_named}
use Rattle.proc_numbers.proofs.Sums.{count_cons, one_if}
use Rattle.proc_numbers.proofs.Made.{length_uncounted, made_count, made_described, made_here, made_named, made_others, made_sock, uncounted_more, used_apart}
use Rattle.usock_core.proofs.HeldLemmas.{held_moved}
use Rattle.usock_core.proofs.StandingLemmas.{held_on}
use Rattle.proc_files.specs.Opening.{HaveWanting, MakesDesc, WantsDesc, described_more, desc_on, mode_of, with_desc}

-- what the flags ask is what the machine reads of them
pub mode_is : (flags : ℤ) → access_in (mode_of flags) ≡ access_of flags
mode_is flags = by_both (has_flag flags 2) (has_flag flags 1)
  where
    by_write : (b : Bool) → access_in (cond b mode.Write mode.Read) ≡ cond b WriteOnly ReadOnly
    by_write true = refl
    by_write false = refl

    by_both : (both one : Bool) → access_in (cond both mode.Both (cond one mode.Write mode.Read)) ≡ cond both ReadWrite (cond one WriteOnly ReadOnly)
    by_both true one = refl
    by_both false one = by_write one

-- a number that was given, and those that stay
pub given : (number : ℕ → ℕ) (key place : ℕ) → numbered number key place key ≡ place
given number key place = ap (λ b. cond b place (number key)) (eq-eqb key key refl)

pub stays : (number : ℕ → ℕ) (key place other : ℕ) → other ≢ key → numbered number key place other ≡ number other
stays number key place other apart = ap (λ b. cond b place (number other)) (ne_eqb other key apart)

module _ (old new : Heap) (key : ℕ) (what : Target) (flags : ℤ) (makes : MakesDesc old new key what flags) where
  abbrev desc : Desc
  desc = desc_on what flags

  descs_are : new.descs ≡ put old.descs key desc
  descs_are = ap (λ (h : Heap). h.descs) makes.kept

  pub here_now : object new.descs key ≡ Some desc
  here_now = ap (λ (d : List (Option Desc)). object d key) descs_are ∙ made_here old.descs key desc makes.vacant makes.within

  pub others_now : (other : ℕ) → other ≢ key → object new.descs other ≡ object old.descs other
  others_now other apart = ap (λ (d : List (Option Desc)). object d other) descs_are ∙ made_others old.descs key desc makes.vacant makes.within other apart

  pub is_it : (other : ℕ) (found : Desc) → other ≡ key → object new.descs other ≡ Some found → found ≡ desc
  is_it other found same at = some_same (object new.descs key) found desc (ap (object new.descs) (sym same) ∙ at) here_now

  pub made_listed : (kept : TableView) → AreListed old kept → AreListed new kept
  made_listed kept listed = listed_on old new kept (ap (λ (h : Heap). h.procs) makes.kept) (ap (λ (h : Heap). h.leaves) makes.kept) listed

  pub named_now : (hand : List ℕ) → CountsItsNames old hand → CountsItsNames new (key ∷ hand)
  named_now hand named = record {
    counts = λ other.
        let one = made_named old.descs key desc makes.vacant makes.within other in
        let in_new : desc_count_at new.descs other ≡ desc_count_at (put old.descs key desc) other = ap (λ d. desc_count_at d other) descs_are in
        let before = named.counts other in
        let in_procs : all_namings new other ≡ all_namings old other = ap (λ (h : Heap). all_namings h other) makes.kept in
        let more = count_cons (λ k. k == other) key hand in
        omega (arith, one, in_new, before, in_procs, more);
    named = λ other used. elim (cases_eq other key) [
      | inl same ↦ subst (λ o. 0 < desc_count o) (sym (ap (object new.descs) same ∙ here_now)) (omega arith)
      | inr apart ↦ subst (λ o. 0 < desc_count o) (sym (others_now other apart)) (named.named other (subst IsSome (others_now other apart) used))
    ];
  }

  -- how many Descs a test counts
  pub count_now : (test : Option Desc → Bool) → test None ≡ false → count_by test new.descs ≡ count_by test old.descs + one_if (test (Some desc))
  count_now test none =
      let one = made_count old.descs key desc makes.vacant makes.within test none in
      let in_new : count_by test new.descs ≡ count_by test (put old.descs key desc) = ap (count_by test) descs_are in
      omega (arith, one, in_new)

  -- one that is open on no socket
  pub sock_now : sock_in (Some desc) ≡ None → (other : ℕ) → sock_in (object new.descs other) ≡ sock_in (object old.descs other)
  sock_now none other = ap (λ (d : List (Option Desc)). sock_in (object d other)) descs_are ∙ made_sock old.descs key desc makes.vacant makes.within none other

  pub made_objects : OwnsItsObjects old → OwnsItsObjects new
  made_objects =
      OwnsItsObjects-along old new (ap (λ (h : Heap). spaces_of h.procs) makes.kept) (ap (λ (h : Heap). pipe_queues h.pipes) makes.kept) (ap (λ (h : Heap). sock_queues h.socks) makes.kept)
      (ap (λ (h : Heap). h.nodes) makes.kept) (ap (λ (h : Heap). h.pages) makes.kept) (ap (λ (h : Heap). h.chunks) makes.kept)

  pub target_then : (access : HeldAccess) (on : Target) → IsThereFor old access on → IsThereFor new access on
  target_then access on = subst (λ (h : Heap). IsThereFor old access on → IsThereFor h access on) (sym makes.kept) (by_target on)
    where
      by_target : (w : Target) → IsThereFor old access w → IsThereFor (record old { descs = put old.descs key desc; high = new.high }) access w
      by_target (target.Inode number) there = there
      by_target (target.Pipe pipe) there = there
      by_target (target.Sock other) there = there

  -- ---- what is open

  module _ (numbers : Numbers) (files : Files) where
    abbrev then : Numbers
    then = with_desc numbers files key

    same_chunks : new.chunks ≡ old.chunks
    same_chunks = ap (λ (h : Heap). h.chunks) makes.kept

    abbrev made : Description
    made = description_on (target_in numbers what) flags

    open_made : (list : CountedList) → AreOpen numbers old list files → AreOpen then new (list ++ Some (counted_in numbers desc) ∷ []) (described_more files made)
    open_made list are = record {
      described =
          subst (λ (d : List (Option Desc)). AreDescribed then d (list ++ Some (counted_in numbers desc) ∷ [])) (sym descs_are)
          (subst (λ n. AreDescribed (record numbers { descs = numbered numbers.descs key n }) (put old.descs key desc) (list ++ Some (counted_in numbers desc) ∷ []))
          (sym (ap length are.descriptions ∙ length_uncounted list))
          (made_described old.descs key desc makes.vacant makes.within numbers list are.described));
      descriptions =
          ap (λ (d : Descriptions). d ++ Some made ∷ []) are.descriptions
          ∙ ap (λ access. uncounted list ++ Some (record made { access = access }) ∷ []) (sym (mode_is flags))
          ∙ sym (uncounted_more list (counted_in numbers desc));
      piped = piped_on then old new files.pipes (ap (λ (h : Heap). h.pipes) makes.kept) (λ k held bytes is has. HasBytes-same old new held.queue bytes same_chunks has) are.piped;
      socketed =
          let still = socketed_on numbers old new files.sockets (ap (λ (h : Heap). h.socks) makes.kept) (λ k held bytes is has. HasBytes-same old new held.queue bytes same_chunks has) are.socketed in
          record { keyed = still.keyed; stands = still.stands; renamed = still.renamed };
    }

    same_by : (places : List (Option HeldDescriptor)) → ((fd : ℕ) (held : HeldDescriptor) → slice_index_or places fd None ≡ Some held → then.descs held.desc ≡ numbers.descs held.desc)
        → descriptors_by numbers.descs places ≡ descriptors_by then.descs places
    same_by [] each = refl
    same_by (None ∷ places) each = ap (λ (rest : Descriptors). None ∷ rest) (same_by places (λ fd held is. each (suc fd) held is))
    same_by (Some held ∷ places) each =
        ap (λ place. Some (record { description = place; cloexec = held.close_on_exec }) ∷ descriptors_by numbers.descs places) (sym (each zero held refl))
        ∙ ap (λ (rest : Descriptors). Some (descriptor_by then.descs held) ∷ rest) (same_by places (λ fd one is. each (suc fd) one is))

    -- where each descriptor names a Desc that was there
    pub have_made : (kept : TableView) → ((pid fd : ℕ) (held : HeldDescriptor) → named_at old kept pid fd ≡ Some held → InUse old.descs held.desc) → HaveOpen numbers old kept files
        → HaveOpen then new kept (described_more files made)
    have_made kept named have = record {
      list = have.list ++ Some (counted_in numbers desc) ∷ [];
      opened = open_made have.list have.opened;
      descriptors = record {
        each = λ pid.
            have.descriptors.each pid
            ∙ same_by (places_of old kept pid)
            (λ fd held is. stays numbers.descs key (length files.descriptions) held.desc (used_apart old.descs key desc makes.vacant makes.within held.desc (named pid fd held is)))
            ∙ ap (λ (h : Heap). descriptors_by then.descs (places_of h kept pid)) (sym makes.kept);
        made = have.descriptors.made;
        openings = openings_on old new kept files.openings (ap (λ (h : Heap). h.procs) makes.kept) have.descriptors.openings;
      };
    }

-- ---- on a node

module _ (old new : Heap) (key node : ℕ) (flags : ℤ) (makes : MakesDesc old new key (target.Inode node) flags) where
  held_now : IsHeldOpen old → IsHeldOpen new
  held_now held = record {
    targets = λ other found at. elim (cases_eq other key) [
      | inl same ↦ subst (λ (d : Desc). IsThereFor new d.access d.target) (sym (is_it old new key (target.Inode node) flags makes other found same at)) tt
      | inr apart ↦
          target_then old new key (target.Inode node) flags makes found.access found.target
          (held.targets other found (sym (others_now old new key (target.Inode node) flags makes other apart) ∙ at))
    ];
    pipes = λ pipe found at.
        let ends = held.pipes pipe found (ap (λ (h : Heap). object h.pipes pipe) (sym makes.kept) ∙ at) in
        let readers = count_now old new key (target.Inode node) flags makes (has_read_end pipe) refl in
        let writers = count_now old new key (target.Inode node) flags makes (has_write_end pipe) refl in
        let no_reader : one_if (has_read_end pipe (Some (desc_on (target.Inode node) flags))) ≡ 0 = refl in
        let no_writer : one_if (has_write_end pipe (Some (desc_on (target.Inode node) flags))) ≡ 0 = refl in
        let r = ends.readers in
        let w = ends.writers in
        record { readers = omega (arith, readers, r, no_reader); writers = omega (arith, writers, w, no_writer); some_end = ends.some_end };
    stand = λ pipe used.
        let stands = held.stand pipe (subst IsSome (ap (λ (h : Heap). object h.pipes pipe) makes.kept) used) in
        (stands.0, stands.1, pipe_stands_same old new pipe stands.0 stands.1 (ap (λ (h : Heap). object h.pipes pipe) makes.kept) (ap (λ (h : Heap). h.chunks) makes.kept) stands.2);
    socks =
        held_moved new (socks_named old.descs) (socks_named new.descs)
        (λ s among. let by = names old.descs s among in named_by new.descs by.0 s (same_sock by.0 ∙ by.1))
        (λ s among. let by = names new.descs s among in named_by old.descs by.0 s (sym (same_sock by.0) ∙ by.1))
        (held_on old new (socks_named old.descs) (ap (λ (h : Heap). h.socks) makes.kept)
        (λ k s bytes at has. HasBytes-same old new s.queue bytes (ap (λ (h : Heap). h.chunks) makes.kept) has) held.socks);
    once = λ one other s first second. held.once one other s (sym (same_sock one) ∙ first) (sym (same_sock other) ∙ second);
  }
    where
      same_sock : (other : ℕ) → sock_in (object new.descs other) ≡ sock_in (object old.descs other)
      same_sock other = sock_now old new key (target.Inode node) flags makes refl other

  pub made_owners : (hand : List ℕ) → HasItsOwners old hand → HasItsOwners new (key ∷ hand)
  made_owners hand owners = record {
    objects = made_objects old new key (target.Inode node) flags makes owners.objects;
    named = named_now old new key (target.Inode node) flags makes hand owners.named;
    held = held_now owners.held;
  }

-- a Desc of a node is wanting where all have their owners
pub wants_node : (h : Heap) (node : ℕ) (flags : ℤ) → HasItsOwners h [] → WantsDesc h (target.Inode node) flags
wants_node h node flags owners next key makes = made_owners h next key node flags makes [] owners

pub has_node : (numbers : Numbers) (h : Heap) (kept : TableView) (files : Files) (node : ℕ) (flags : ℤ) → AreListed h kept → HasItsOwners h [] → HaveOpen numbers h kept files
    → HaveWanting numbers h kept files (target.Inode node) flags
has_node numbers h kept files node flags listed owners have next key makes =
    have_made h next key (target.Inode node) flags makes numbers files kept (λ pid fd held is. ap is_some (desc_named h kept [] listed owners pid fd held is).1) have

-- ---- the purse

-- a purse that spends a Desc keeps what it has filled
pub spent_fills : (old new : Heap) (before after : Purse) → new.vnodes ≡ old.vnodes → new.names ≡ old.names → new.blocks ≡ old.blocks
    → after ≡ record before { left = with_count (with_count before.left class.Desc (before.left.desc - 1)) class.Leaf after.left.leaf } → HasFills old before → HasFills new after
spent_fills old new before after vnodes names blocks spent fills =
    subst (HasFills new) (sym spent)
    (record {
      vnodes = subst (λ (v : List (Option Vnode)). AreFills v before.vnodes before.left.vnode before.need.vnode) (sym vnodes) fills.vnodes;
      names = subst (λ (v : List (Option Name)). AreFills v before.names before.left.name before.need.name) (sym names) fills.names;
      blocks = subst (λ (v : List (Option Block)). AreFills v before.blocks before.left.block before.need.block) (sym blocks) fills.blocks;
    })
