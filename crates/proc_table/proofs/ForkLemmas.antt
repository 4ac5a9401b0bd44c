-- A process is forked.
use Rattle.std.proofs.Common.{◌≡◌, ℕ, ◌+◌, ◌<◌, List, [], ◌∷◌, ◌++◌, length, Option, None, Some, refl, sym, ap, ◌∙◌, subst, arith, Contains, length-append}
use Rattle.std.specs.List.{AllByRecursion}
use Rattle.std.specs.Option.{option_map}
use Rattle.kabi_types.specs.declared.classes.Class.TheVariants as class
use Rattle.kheap_slabs.specs.Objects.{count, put}
use Rattle.kheap_slabs.specs.Purse.{Purse}
use Rattle.kheap_slabs.specs.declared.objects.Desc.{Desc}
use Rattle.kheap_slabs.specs.declared.objects.Leaf.{Leaf}
use Rattle.kheap_slabs.specs.declared.objects.Node.{Node}
use Rattle.kheap_slabs.specs.declared.objects.Page.{Page}
use Rattle.kheap_slabs.specs.declared.objects.Proc.{Proc}
use Rattle.kheap_slabs.specs.Heap.{Heap}
use Rattle.kheap_slabs.specs.Keys.{ChangesKeys, Splits}
use Rattle.kheap_slabs.specs.Owners.{Owners, with_space, IsOwned}
use Rattle.kheap_slabs.specs.Paid.{IsPaid, PaysExactly}
use Rattle.kheap_laws.proofs.OwnerLemmas.{IsOwned-same, IsOwned-space_from_front, IsOwned-space_to_front}
use Rattle.kheap_laws.proofs.PaidLemmas.{IsPaid-trans}
use Rattle.page_space.specs.Accounts.{AccountForks, IsAccounted}
use Rattle.page_space.specs.Contents.{content_at}
use Rattle.page_space.specs.Contents as space
use Rattle.posix_defs.specs.Forking.{child_of}
use Rattle.posix_defs.specs.Memory.{Frames, after_fork}
use Rattle.posix_defs.specs.Process.{Table, process_at}
use Rattle.proc_table.specs.Accounting.{HasAccount}
use Rattle.proc_table.specs.Changes.{child_proc}
use Rattle.proc_table.specs.Moves.{IsAdded, IsForked, MemoryStays, TableMoves, sharing}
use Rattle.proc_table.specs.Procs.{HasNoMemoryOnce, HasNoneOpenOnce, IsAlive, IsAwakeOnce, IsLight, proc_of, process_of}
use Rattle.proc_table.specs.Standing.{AreFrom, IsTable}
use Rattle.proc_table.specs.Table.{AreStored, Holds, TableView, keys_of, processes, procs_at, with_procs}
use Rattle.proc_table.proofs.AccountLemmas.{accounted_of, forked_has_account}
use Rattle.proc_table.proofs.AddLemmas.{added-keys, added-light, added-owned, added-procs, added-rising, added-stored}
use Rattle.proc_table.proofs.FamilyLemmas.{one_more, proc_has_pid, process_is, same_table}
use Rattle.proc_table.proofs.HoldLemmas.{content_kept}
use Rattle.proc_table.proofs.LawLemmas.{elsewhere_account, elsewhere_holds, elsewhere_table}
use Rattle.proc_table.proofs.MemoryLemmas.{memory_at-same, processes_same}
use Rattle.proc_table.proofs.OwnLemmas.{HasOut, all_weaker, has_out, rising_procs, spaces_in}
use Rattle.proc_table.proofs.PlaceLemmas.{Contains-behind, some_same}

module _ (old mid new : Heap) (before between after : Purse) (was now : TableView) (pid : ℕ) (parent : Proc) (of nodes leaves : List (Option ℕ))
    (holds : Holds old was) (there : proc_of (processes old was) pid ≡ Some parent) (runs : parent.status ≡ None) (of_is : of ≡ parent.nodes)
    (split : space.IsForked old before mid between of nodes 256)
    (added : IsAdded mid between was new after now (child_proc parent (was.last + 1) nodes leaves)) where
  forked : space.IsForked old before mid between parent.nodes nodes 256
  forked = subst (λ of. space.IsForked old before mid between of nodes 256) of_is split

  abbrev child : Proc
  child = child_proc parent (was.last + 1) nodes leaves

  same_procs : mid.procs ≡ old.procs
  same_procs = ap (λ (h : Heap). h.procs) forked.kept

  stored_mid : AreStored mid.procs was.listed
  stored_mid = subst (λ procs. AreStored procs was.listed) (sym same_procs) holds.stored

  procs_mid : processes mid was ≡ processes old was
  procs_mid = ap (λ procs. procs_at procs was.listed) same_procs

  pub forked-procs : processes new now ≡ processes old was ++ child_proc parent (was.last + 1) nodes leaves ∷ []
  forked-procs =
      added-procs mid new was now (child_proc parent (was.last + 1) nodes leaves) added.key added.vacant added.stored added.listed added.last added.kept stored_mid
      ∙ ap (λ procs. procs ++ child_proc parent (was.last + 1) nodes leaves ∷ []) procs_mid

  out : (others : Owners) → HasOut (processes old was) pid parent.nodes others.spaces
  out others = has_out (processes old was) 0 pid parent others.spaces (rising_procs old.procs was.listed 0 was.last holds.stored holds.rising) there

  in_hand : (others : Owners) → IsOwned old (with_procs (processes old was) others) → IsOwned old (with_space parent.nodes (record others { spaces = (out others).spaces }))
  in_hand others owned = IsOwned-space_to_front old (with_procs (processes old was) others) parent.nodes (out others).spaces (out others).out owned

  behind : (others : Owners) → Splits (nodes ∷ (spaces_in (processes old was) ++ others.spaces)) parent.nodes (nodes ∷ (out others).spaces)
  behind others = record {
    before = nodes ∷ (out others).out.before;
    after = (out others).out.after;
    whole_is = ap (λ spaces. nodes ∷ spaces) (out others).out.whole_is;
    rest_is = ap (λ spaces. nodes ∷ spaces) (out others).out.rest_is;
  }

  swapped : (others : Owners) → Splits (nodes ∷ parent.nodes ∷ (out others).spaces) parent.nodes (nodes ∷ (out others).spaces)
  swapped others = record { before = nodes ∷ []; after = (out others).spaces; whole_is = refl; rest_is = refl }

  owned_mid : (others : Owners) → IsOwned old (with_procs (processes old was) others) → IsOwned mid (with_space nodes (with_procs (processes old was) others))
  owned_mid others owned =
      IsOwned-space_from_front mid (with_space nodes (with_procs (processes old was) others)) parent.nodes (nodes ∷ (out others).spaces) (behind others)
      (IsOwned-space_to_front mid (with_space nodes (with_space parent.nodes (record others { spaces = (out others).spaces }))) parent.nodes (nodes ∷ (out others).spaces) (swapped others)
      (forked.owners (record others { spaces = (out others).spaces }) (in_hand others owned)))

  owned_on : (others : Owners) → IsOwned old (with_procs (processes old was) others) → IsOwned new (with_procs (processes new now) others)
  owned_on others owned =
      added-owned mid new was now (child_proc parent (was.last + 1) nodes leaves) added.key added.vacant added.stored added.listed added.last added.kept stored_mid others
      (subst (λ procs. IsOwned mid (with_space nodes (with_procs procs others))) (sym procs_mid) (owned_mid others owned))

  after_mid : (one : List (Option ℕ)) (page : ℕ) → content_at new one page ≡ content_at mid one page
  after_mid one page = content_kept mid new one page (ap (λ (h : Heap). h.nodes) added.kept) (ap (λ (h : Heap). h.pages) added.kept)

  others_stay : (others : Owners) (other : List (Option ℕ)) → IsOwned old (with_procs (processes old was) others) → Contains (parent.nodes ∷ (out others).spaces) other
      → (page : ℕ) → content_at new other page ≡ content_at old other page
  others_stay others other owned its page =
      after_mid other page ∙ forked.others (record others { spaces = (out others).spaces }) other (in_hand others owned) its page

  same : (page : ℕ) → page < 256 → content_at new nodes page ≡ content_at old parent.nodes page
  same page within = after_mid nodes page ∙ forked.same page within

  stays : MemoryStays old new (processes old was)
  stays =
      all_weaker (λ p. Contains (parent.nodes ∷ (out holds.owned.0).spaces) p.nodes) (λ p. (page : ℕ) → content_at new p.nodes page ≡ content_at old p.nodes page) (processes old was)
      (λ p here page. others_stay holds.owned.0 p.nodes holds.owned.1 here page) (out holds.owned.0).all_in

  pub forked-child : length nodes ≡ 4 → length leaves ≡ 3 → IsForked old was new now pid (was.last + 1)
  forked-child groups rows = record {
    parent = parent;
    nodes = nodes;
    groups = groups;
    leaves = leaves;
    rows = rows;
    parent_is = there;
    processes_are = forked-procs;
    last = added.last;
    same = same;
    stays = stays;
  }

  light_child : IsLight (child_proc parent (was.last + 1) nodes leaves)
  light_child = record {
    memory = subst (λ status. HasNoMemoryOnce status nodes) (sym runs) tt;
    descriptors = subst (λ status. HasNoneOpenOnce status parent.descriptors leaves) (sym runs) tt;
    awake = subst (λ status. IsAwakeOnce status None) (sym runs) tt;
  }

  pub forked-moves : TableMoves old was new now
  forked-moves = record {
    holds = record {
      stored = added-stored mid new was now (child_proc parent (was.last + 1) nodes leaves) added.key added.vacant added.stored added.listed added.last added.kept stored_mid;
      rising = added-rising mid new was now (child_proc parent (was.last + 1) nodes leaves) added.key added.vacant added.stored added.listed added.last added.kept stored_mid holds.rising (omega arith);
      light = added-light mid new was now (child_proc parent (was.last + 1) nodes leaves) added.key added.vacant added.stored added.listed added.last added.kept stored_mid
          (subst (AllByRecursion IsLight) (sym procs_mid) holds.light) light_child;
      owned = (holds.owned.0, owned_on holds.owned.0 holds.owned.1);
    };
    owners = owned_on;
    others = λ others other owned its page. others_stay others other owned (Contains-behind parent.nodes other (out others).spaces ((out others).rest_in other its)) page;
    keys = subst (λ procs. ChangesKeys procs new.procs (keys_of was.listed) (keys_of now.listed)) same_procs
        (added-keys mid new was now (child_proc parent (was.last + 1) nodes leaves) added.key added.vacant added.stored added.listed added.last added.kept stored_mid);
    kept = added.kept ∙ ap (λ (h : Heap). record h { procs = put mid.procs added.key (child_proc parent (was.last + 1) nodes leaves); high = new.high }) forked.kept
        ∙ ap (λ (procs : List (Option Proc)). record old { procs = procs; nodes = mid.nodes; pages = mid.pages; high = new.high }) (sym (ap (λ (h : Heap). h.procs) added.kept))
        ∙ ap (λ (nodes : List (Option Node)). record old { procs = new.procs; nodes = nodes; pages = mid.pages; high = new.high }) (sym (ap (λ (h : Heap). h.nodes) added.kept))
        ∙ ap (λ (pages : List (Option Page)). record old { procs = new.procs; nodes = new.nodes; pages = pages; high = new.high }) (sym (ap (λ (h : Heap). h.pages) added.kept));
  }

  pub forked-account : ((number : ℕ → ℕ) (frames : Frames) (of_pid : ℕ) → IsAccounted old number frames of_pid of → AccountForks old mid of nodes number frames (after_fork frames of_pid) of_pid)
      → (frames : Frames) → HasAccount old was frames → HasAccount new now (after_fork frames pid)
  forked-account account frames has =
      forked_has_account old mid new was now frames pid parent (child_proc parent (was.last + 1) nodes leaves) nodes holds has there
      (subst (λ space. AccountForks old mid space nodes has.number frames (after_fork frames pid) pid) of_is
      (account has.number frames pid (subst (IsAccounted old has.number frames pid) (sym of_is) (accounted_of old was frames pid parent holds has there))))
      refl refl added.last forked-procs (ap (λ (h : Heap). h.nodes) added.kept) (ap (λ (h : Heap). h.pages) added.kept)

  pub forked-paid : IsPaid old before new after
  forked-paid = IsPaid-trans old before mid between new after forked.paid added.paid

  -- the Proc changes no node
  pub forked-exact : PaysExactly class.Node old before new after
  forked-exact =
      ap (λ (h : Heap). count h.nodes + after.left.node) added.kept ∙ ap (λ (purse : Purse). count mid.nodes + purse.left.node) added.spent ∙ forked.exact

  pub forked-table : (table : Table) → IsTable old was table → IsTable new now (table ++ child_of pid (process_at table pid) ∷ [])
  forked-table table is =
      let own : parent.pid ≡ pid = proc_has_pid (processes old was) pid parent there in
      let made : length table ≡ was.last = is.made in
      record {
        present = subst (AreFrom new 1 (table ++ child_of pid (process_at table pid) ∷ [])) (sym forked-procs)
            (subst (λ o. AreFrom new 1 (table ++ o ∷ []) (processes old was ++ child_proc parent (was.last + 1) nodes leaves ∷ []))
            (sym (ap (child_of pid) (process_is old table (processes old was) pid is.present ∙ ap (option_map (process_of old)) there)
            ∙ ap (λ (p : ℕ). Some (record (process_of old parent) { parent = p })) (sym own)
            ∙ ap (λ memory. Some (record (process_of old parent) { parent = parent.pid; memory = memory })) (sym (memory_at-same old new parent.nodes nodes same))))
            (one_more (same_table is.present new (processes_same old new (processes old was) stays)) (child_proc parent (was.last + 1) nodes leaves) (omega arith)));
        made = length-append table (child_of pid (process_at table pid) ∷ []) ∙ ap (λ n. n + 1) made ∙ sym added.last;
      }

-- who is alive runs
pub runs_of : (procs : List Proc) (pid : ℕ) (proc : Proc) → IsAlive procs pid → proc_of procs pid ≡ Some proc → proc.status ≡ None
runs_of procs pid proc alive there = ap (λ p. p.status) (some_same (proc_of procs pid) proc alive.proc there alive.there) ∙ alive.runs

-- ---- where the Descs have other counts, and there are more Leaves

module _ (old shared : Heap) (was : TableView) (descs : List (Option Desc)) (leaves : List (Option Leaf)) (high : ℕ)
    (is : shared ≡ record old { descs = descs; leaves = leaves; high = high }) where
  abbrev beside_it : Heap
  beside_it = record old { descs = descs; leaves = leaves; high = high }

  pub shared-holds : Holds old was → Holds shared was
  shared-holds holds =
      elsewhere_holds old shared was holds.owned.0 (ap (λ (h : Heap). h.procs) is)
      (IsOwned-same old shared (with_procs (processes old was) holds.owned.0) (ap (λ (h : Heap). h.nodes) is) (ap (λ (h : Heap). h.pages) is) (ap (λ (h : Heap). h.chunks) is) holds.owned.1) holds

  pub shared-there : (pid : ℕ) (parent : Proc) → proc_of (processes old was) pid ≡ Some parent → proc_of (processes shared was) pid ≡ Some parent
  shared-there pid parent there = ap (λ (h : Heap). proc_of (processes h was) pid) is ∙ there

  pub shared-table : (table : Table) → IsTable old was table → IsTable shared was table
  shared-table table = elsewhere_table old shared was table (ap (λ (h : Heap). h.procs) is) (ap (λ (h : Heap). h.nodes) is) (ap (λ (h : Heap). h.pages) is)

  pub shared-account : (frames : Frames) → HasAccount old was frames → HasAccount shared was frames
  shared-account frames = elsewhere_account old shared was frames (ap (λ (h : Heap). h.procs) is) (ap (λ (h : Heap). h.nodes) is) (ap (λ (h : Heap). h.pages) is)

  pub shared-forked : (new : Heap) (now : TableView) (pid child : ℕ) → IsForked shared was new now pid child → IsForked old was new now pid child
  shared-forked new now pid child forked = as_old (subst (λ (h : Heap). IsForked h was new now pid child) is forked)
    where
      as_old : IsForked beside_it was new now pid child → IsForked old was new now pid child
      as_old f = record {
        parent = f.parent;
        nodes = f.nodes;
        groups = f.groups;
        leaves = f.leaves;
        rows = f.rows;
        parent_is = f.parent_is;
        processes_are = f.processes_are;
        last = f.last;
        same = f.same;
        stays = f.stays;
      }

  pub shared-descs : (new : Heap) (now : TableView) → TableMoves shared was new now → new.descs ≡ descs
  shared-descs new now moves = ap (λ (h : Heap). h.descs) moves.kept ∙ ap (λ (h : Heap). h.descs) is

  pub shared-leaves : (new : Heap) (now : TableView) → TableMoves shared was new now → new.leaves ≡ leaves
  shared-leaves new now moves = ap (λ (h : Heap). h.leaves) moves.kept ∙ ap (λ (h : Heap). h.leaves) is

  -- the heap that shares them, but for what it took at most
  abbrev sharing_it : Heap
  sharing_it = record old { descs = descs; leaves = leaves }

  moves_beside : (new : Heap) (now : TableView) → TableMoves beside_it was new now → TableMoves sharing_it was new now
  moves_beside new now moves = record {
    holds = moves.holds;
    owners = λ others owned. moves.owners others (IsOwned-same sharing_it beside_it (with_procs (processes old was) others) refl refl refl owned);
    others = λ others other owned its page.
        moves.others others other (IsOwned-same sharing_it beside_it (with_procs (processes old was) others) refl refl refl owned) its page
        ∙ content_kept sharing_it beside_it other page refl refl;
    keys = moves.keys;
    kept = moves.kept;
  }

  pub shared-moves : (new : Heap) (now : TableView) → TableMoves shared was new now → TableMoves (sharing old new) was new now
  shared-moves new now moves =
      subst (λ (l : List (Option Leaf)). TableMoves (record old { descs = new.descs; leaves = l }) was new now) (sym (shared-leaves new now moves))
      (subst (λ (d : List (Option Desc)). TableMoves (record old { descs = d; leaves = leaves }) was new now) (sym (shared-descs new now moves))
      (moves_beside new now (subst (λ (h : Heap). TableMoves h was new now) is moves)))

  pub shared-exact : (new : Heap) (before after : Purse) → PaysExactly class.Node shared before new after → PaysExactly class.Node old before new after
  shared-exact new before after exact = exact ∙ ap (λ (h : Heap). count h.nodes + before.left.node) is
