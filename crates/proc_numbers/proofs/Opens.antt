-- What heap and table have open, once sockets change and once a Desc is open on one.
use Rattle.std.proofs.Common.{◌≡◌, ℕ, zero, suc, ◌<◌, ◌++◌, false, List, [], ◌∷◌, length, Option, None, Some, IsSome, refl, sym, ap, subst, ◌∙◌, arith}
use Rattle.std.specs.Prelude.{replicate, slice_index_or}
use Rattle.chunk_queue.proofs.HeldLemmas.{HasBytes-same}
use Rattle.kheap_slabs.specs.Objects.{InUse, object, put}
use Rattle.kheap_slabs.specs.declared.objects.Access.{Access}
use Rattle.kheap_slabs.specs.declared.objects.Desc.{Desc}
use Rattle.kheap_slabs.specs.declared.objects.Descriptor.{Descriptor as HeldDescriptor}
use Rattle.kheap_slabs.specs.declared.objects.Proc.{Proc}
use Rattle.kheap_slabs.specs.declared.objects.Target.{Target}
use Rattle.kheap_slabs.specs.declared.objects.Target.TheVariants as target
use Rattle.kheap_slabs.specs.Heap.{Heap}
use Rattle.open_laws.specs.Described.{AreDescribed, CountedList, counted_in, target_in}
use Rattle.open_laws.specs.Open.{AreOpen, descriptor_by, descriptors_by}
use Rattle.open_laws.specs.Owned.{CountsItsNames, IsThereFor, desc_count, names_desc}
use Rattle.open_laws.specs.Socketed.{AreSocketed}
use Rattle.open_laws.proofs.DropLemmas.{piped_on, socketed_on}
use Rattle.open_laws.specs.Placed.{Numbers, numbered}
use Rattle.open_laws.proofs.PlaceLemmas.{placed_unchanged}
use Rattle.posix_defs.specs.Calls.OnSockets.{description_of}
use Rattle.posix_defs.specs.Files.Descriptions.{Descriptions, OnSocket}
use Rattle.posix_defs.specs.Files.Descriptors.{Descriptors}
use Rattle.posix_defs.specs.Files.State.{Files, opened_as, with_open, with_sockets}
use Rattle.posix_defs.specs.Sockets.{Sockets}
use Rattle.kabi_types.specs.Arguments.{most_descriptors}
use Rattle.proc_table.specs.Procs.{numbers_in, proc_of}
use Rattle.proc_table.specs.Table.{TableView, processes}
use Rattle.proc_table.proofs.PlaceLemmas.{eqb_same}
use Rattle.proc_numbers.specs.Having.{AreListed, HaveOpen, places_in}
use Rattle.proc_numbers.specs.Naming.{named_at, places_of}
use Rattle.proc_numbers.proofs.NumberParts.{named_part}
use Rattle.proc_numbers.proofs.Listing.{found_by_pid, openings_on}
use Rattle.proc_numbers.proofs.Sums.{one_if, part_of_sum}
use Rattle.proc_numbers.proofs.Made.{counted_on, length_uncounted, made_described, uncounted_more, used_apart}
use Rattle.usock_core.specs.Standing.{LeavesOthers}
use Rattle.proc_numbers.specs.SocketOpening.{described_more, with_desc}
use Rattle.proc_numbers.specs.Owning.{desc_on}
use Rattle.proc_numbers.proofs.Renaming.{given, stays}

-- ---- sockets change

module _ (old new : Heap) (others : LeavesOthers old new) (numbers : Numbers) (socks : ℕ → ℕ) (same : (key : ℕ) → InUse old.socks key → socks key ≡ numbers.socks key)
    (targets : (key : ℕ) (desc : Desc) → object old.descs key ≡ Some desc → IsThereFor old desc.access desc.target) (sockets : Sockets)
    (now : AreSocketed (record numbers { socks = socks }) new sockets) where
  pub open_changed : (list : CountedList) (files : Files) → AreOpen numbers old list files → AreOpen (record numbers { socks = socks }) new list (with_sockets files sockets)
  open_changed list files are = record {
    described =
        placed_unchanged (λ k d c. c ≡ counted_in numbers d) (λ k d c. c ≡ counted_in (record numbers { socks = socks }) d) numbers.descs numbers.descs old.descs new.descs (object list) (object list)
        (λ k. ap (λ (h : Heap). object h.descs k) others.kept) (λ place. refl) (λ k used. refl) (λ k d c at said it. it ∙ ap (counted_on d) (same_target d.access d.target (targets k d at))) are.described;
    descriptions = are.descriptions;
    piped = piped_on (record numbers { socks = socks }) old new files.pipes (ap (λ (h : Heap). h.pipes) others.kept) others.pipes are.piped;
    socketed = now;
  }
    where
      same_target : (access : Access) (what : Target) → IsThereFor old access what → target_in numbers what ≡ target_in (record numbers { socks = socks }) what
      same_target access (target.Inode number) there = refl
      same_target access (target.Pipe pipe) there = refl
      same_target access (target.Sock sock) there = ap OnSocket (sym (same sock there))

  pub have_changed : (kept : TableView) (files : Files) → HaveOpen numbers old kept files → HaveOpen (record numbers { socks = socks }) new kept (with_sockets files sockets)
  have_changed kept files have = record {
    list = have.list;
    opened = open_changed have.list files have.opened;
    descriptors = record {
      each = λ pid. have.descriptors.each pid ∙ ap (λ (h : Heap). descriptors_by numbers.descs (places_of h kept pid)) (sym others.kept);
      made = have.descriptors.made;
      openings = openings_on old new kept files.openings (ap (λ (h : Heap). h.procs) others.kept) have.descriptors.openings;
    };
  }

-- ---- a Desc is open on one

nothing_open : (n fd : ℕ) → slice_index_or (replicate {A = Option HeldDescriptor} n None) fd None ≡ None
nothing_open zero fd = refl
nothing_open (suc n) zero = refl
nothing_open (suc n) (suc fd) = nothing_open n fd

-- what a number names is there
named_used : (h : Heap) (kept : TableView) (hand : List ℕ) → AreListed h kept → CountsItsNames h hand → (pid fd : ℕ) (held : HeldDescriptor) → named_at h kept pid fd ≡ Some held → InUse h.descs held.desc
named_used h kept hand listed named pid fd held is = by_proc (proc_of (processes h kept) pid) refl
  where
    by_desc : (o : Option Desc) → 0 < desc_count o → IsSome o
    by_desc None some = absurd (omega (arith, some))
    by_desc (Some desc) some = refl

    by_proc : (o : Option Proc) → proc_of (processes h kept) pid ≡ o → InUse h.descs held.desc
    by_proc None none = absurd (
        let nothing : None ≡ Some held = sym (nothing_open most_descriptors fd) ∙ (sym (ap (λ o. slice_index_or (places_in (numbers_in h) o) fd None) none) ∙ is) in cc)
    by_proc (Some proc) found =
        let at = found_by_pid h.procs kept.listed pid proc listed.stored found in
        let slot : slice_index_or (numbers_in h proc) fd None ≡ Some held = sym (ap (λ o. slice_index_or (places_in (numbers_in h) o) fd None) found) ∙ is in
        let one = part_of_sum (λ o. one_if (names_desc held.desc o)) (numbers_in h proc) fd held slot in
        let it = ap one_if (eqb_same held.desc held.desc refl) in
        let all = named_part held.desc h at.key proc at.there (omega (arith, one, it)) in
        let counts = named.counts held.desc in
        by_desc (object h.descs held.desc) (omega (arith, all, counts))

module _ (old new : Heap) (sock key : ℕ) (vacant : object old.descs key ≡ None) (within : key < length old.descs)
    (kept_so : new ≡ record old { descs = put old.descs key (desc_on sock); high = new.high }) (numbers : Numbers) (files : Files) where
  abbrev then : Numbers
  then = with_desc numbers files key

  abbrev now : Files
  now = described_more files (numbers.socks sock)

  same_chunks : new.chunks ≡ old.chunks
  same_chunks = ap (λ (h : Heap). h.chunks) kept_so

  pub open_described : (list : CountedList) → AreOpen numbers old list files → AreOpen then new (list ++ Some (counted_in numbers (desc_on sock)) ∷ []) now
  open_described list are = record {
    described =
        subst (λ (d : List (Option Desc)). AreDescribed then d (list ++ Some (counted_in numbers (desc_on sock)) ∷ [])) (sym (ap (λ (h : Heap). h.descs) kept_so))
        (subst (λ n. AreDescribed (record numbers { descs = numbered numbers.descs key n }) (put old.descs key (desc_on sock)) (list ++ Some (counted_in numbers (desc_on sock)) ∷ []))
        (sym (ap length are.descriptions ∙ length_uncounted list))
        (made_described old.descs key (desc_on sock) vacant within numbers list are.described));
    descriptions =
        ap (λ (d : Descriptions). d ++ Some (description_of (numbers.socks sock)) ∷ []) are.descriptions
        ∙ sym (uncounted_more list (counted_in numbers (desc_on sock)));
    piped = piped_on then old new files.pipes (ap (λ (h : Heap). h.pipes) kept_so) (λ k held bytes is has. HasBytes-same old new held.queue bytes same_chunks has) are.piped;
    socketed =
        let still = socketed_on numbers old new files.sockets (ap (λ (h : Heap). h.socks) kept_so) (λ k held bytes is has. HasBytes-same old new held.queue bytes same_chunks has) are.socketed in
        record { keyed = still.keyed; stands = still.stands; renamed = still.renamed };
  }

  same_by : (places : List (Option HeldDescriptor)) → ((fd : ℕ) (held : HeldDescriptor) → slice_index_or places fd None ≡ Some held → then.descs held.desc ≡ numbers.descs held.desc)
      → descriptors_by numbers.descs places ≡ descriptors_by then.descs places
  same_by [] each = refl
  same_by (None ∷ places) each = ap (λ (rest : Descriptors). None ∷ rest) (same_by places (λ fd held is. each (suc fd) held is))
  same_by (Some held ∷ places) each =
      ap (λ place. Some (record { description = place; cloexec = held.close_on_exec }) ∷ descriptors_by numbers.descs places) (sym (each zero held refl))
      ∙ ap (λ (rest : Descriptors). Some (descriptor_by then.descs held) ∷ rest) (same_by places (λ fd one is. each (suc fd) one is))

  pub have_described : (kept : TableView) (hand : List ℕ) → AreListed old kept → CountsItsNames old hand → HaveOpen numbers old kept files → HaveOpen then new kept now
  have_described kept hand listed named have = record {
    list = have.list ++ Some (counted_in numbers (desc_on sock)) ∷ [];
    opened = open_described have.list have.opened;
    descriptors = record {
      each = λ pid.
          have.descriptors.each pid
          ∙ same_by (places_of old kept pid)
          (λ fd held is. stays numbers.descs key (length files.descriptions) held.desc (used_apart old.descs key (desc_on sock) vacant within held.desc (named_used old kept hand listed named pid fd held is)))
          ∙ ap (λ (h : Heap). descriptors_by then.descs (places_of h kept pid)) (sym kept_so);
      made = have.descriptors.made;
      openings = openings_on old new kept files.openings (ap (λ (h : Heap). h.procs) kept_so) have.descriptors.openings;
    };
  }

-- a number that names it is the machine's
pub opened_then : (numbers : Numbers) (files : Files) (sock key pid fd : ℕ) → with_open (described_more files (numbers.socks sock)) pid fd (Some (descriptor_by (with_desc numbers files key).descs (record { desc = key; close_on_exec = false })))
    ≡ opened_as files pid fd false (description_of (numbers.socks sock))
opened_then numbers files sock key pid fd =
    ap (λ place. with_open (described_more files (numbers.socks sock)) pid fd (Some (record { description = place; cloexec = false }))) (given numbers.descs key (length files.descriptions))
