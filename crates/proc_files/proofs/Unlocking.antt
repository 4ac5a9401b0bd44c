-- Locks are beside all else in the heap: whichever there are, it stands for the same; and which of them go with a number.
use Rattle.std.proofs.Common.{◌≡◌, ℕ, ◌+◌, ◌||◌, true, cond, List, [], ◌∷◌, Option, None, Some, is_none, refl, ap, sym, ◌∙◌, subst}
use Rattle.std.specs.List.{list_any}
use Rattle.std.specs.Option.{option_map}
use Rattle.fifo_nodes.proofs.ChainLemmas.{chain_kept}
use Rattle.fifo_nodes.specs.Chain.{IsChain}
use Rattle.kheap_laws.proofs.TableLemmas.{OwnsItsObjects-along}
use Rattle.kheap_slabs.specs.Objects.{object}
use Rattle.kheap_slabs.specs.declared.objects.Desc.{Desc}
use Rattle.kheap_slabs.specs.declared.objects.Descriptor.{Descriptor as HeldDescriptor}
use Rattle.kheap_slabs.specs.declared.objects.Lock.{Lock as HeldLock}
use Rattle.kheap_slabs.specs.declared.objects.Target.{Target as HeldTarget}
use Rattle.kheap_slabs.specs.declared.objects.Target.TheVariants as target
use Rattle.kheap_slabs.specs.Heap.{Heap}
use Rattle.memfs_ops.specs.FileTree.{TreeView}
use Rattle.open_laws.specs.Described.{inode_in, target_in}
use Rattle.open_laws.specs.Open.{descriptor_by}
use Rattle.open_laws.specs.Owned.{HasItsOwners}
use Rattle.open_laws.specs.Placed.{Numbers}
use Rattle.open_laws.proofs.GoingLemmas.{held_open_on, named_on, open_on}
use Rattle.pipe_ends.proofs.LinkLemmas.{links_same}
use Rattle.posix_defs.specs.Files.Closing.{after_close}
use Rattle.posix_defs.specs.Files.Descriptions.{Description, Descriptions}
use Rattle.posix_defs.specs.Files.State.{Files, beside, file_of_target, is_number, let_go, node_of, opened_file, opened_node, opens, with_locks}
use Rattle.posix_defs.specs.Locks.{Locks}
use Rattle.posix_defs.specs.TreeChanges.{closed}
use Rattle.proc_numbers.specs.Closed.{locks_left, locks_without, without_number}
use Rattle.proc_numbers.specs.Found.{IsOpened}
use Rattle.proc_numbers.specs.Having.{AreListed, HaveOpen}
use Rattle.proc_numbers.specs.Naming.{named_at}
use Rattle.proc_numbers.specs.declared.lookups.Named.{Named}
use Rattle.proc_numbers.proofs.NamedOpen.{described_so}
use Rattle.proc_numbers.proofs.NumberNames.{descriptor_at_is}
use Rattle.proc_numbers.proofs.WithLocks.{close_is, have_locked}
use Rattle.proc_table.specs.Table.{TableView}
use Rattle.proc_files.specs.Closing.{ClosesHolding}
use Rattle.proc_files.specs.Holders.{holders, times}
use Rattle.proc_files.specs.NameHolding.{HoldNames, HoldSomeNames}
use Rattle.proc_files.proofs.Closings.{Goes, tree_left}
use Rattle.proc_files.proofs.Holding.{same_pins, stands_on}
use Rattle.proc_files.proofs.Openings.{all_same, same_node, same_nodes}

-- ---- the heap

module _ (h : Heap) (locks : List (Option HeldLock)) where
  abbrev locked : Heap
  locked = record h { locks = locks }

  pub listed_locked : (kept : TableView) → AreListed h kept → AreListed locked kept
  listed_locked kept listed = record { stored = listed.stored; rising = listed.rising; all = listed.all; leaves = listed.leaves }

  pub owners_locked : (hand : List ℕ) → HasItsOwners h hand → HasItsOwners locked hand
  owners_locked hand owners = record {
    objects = OwnsItsObjects-along h locked refl refl refl refl refl refl owners.objects;
    named = named_on h locked hand refl (λ key. refl) owners.named;
    held = held_open_on h locked refl refl refl refl owners.held;
  }

  pub chain_locked : (first : Option ℕ) → IsChain h first → IsChain locked first
  chain_locked first chain = chain_kept h locked first (links_same h locked refl) chain

  pub opened_locked : (kept : TableView) (pid : ℕ) (on : Named) → IsOpened h kept pid on → IsOpened locked kept pid on
  opened_locked kept pid on opened = record { names = opened.names; there = opened.there; number = opened.number }

  pub heap_locked : (numbers : Numbers) (kept : TableView) (files : Files) → HaveOpen numbers h kept files → HaveOpen numbers locked kept files
  heap_locked numbers kept files have = record {
    list = have.list;
    opened = open_on numbers h locked have.list files files refl refl refl refl refl refl refl have.opened;
    descriptors = record { each = have.descriptors.each; made = have.descriptors.made; openings = have.descriptors.openings };
  }

  pub hold_locked : (numbers : Numbers) (others : ℕ → ℕ) (kept : TableView) (fs : TreeView) (names : List (Option ℕ)) (files : Files)
      → HoldNames numbers others h kept fs names files → HoldNames numbers others locked kept fs names files
  hold_locked numbers others kept fs names files hold = record {
    held = record {
      opened = heap_locked numbers kept files hold.held.opened;
      tree = stands_on h locked fs files.tree (holders others files) (record { vnodes = refl; names = refl; blocks = refl; size = refl }) hold.held.tree;
      nodes = hold.held.nodes;
      beside = hold.held.beside;
    };
    bound = hold.bound;
    named = hold.named;
    places = hold.places;
  }

  pub some_locked : (kept : TableView) (fs : TreeView) (names : List (Option ℕ)) → HoldSomeNames h kept fs names → HoldSomeNames locked kept fs names
  some_locked kept fs names some = record {
    numbers = some.numbers;
    others = some.others;
    files = some.files;
    hold = hold_locked some.numbers some.others kept fs names some.files some.hold;
  }

-- ---- the machine

module _ (numbers : Numbers) (others : ℕ → ℕ) (h : Heap) (kept : TableView) (fs : TreeView) (names : List (Option ℕ)) (files : Files) where
  -- what stands for files stands for them with whichever locks
  pub names_locked : (locks : Locks) → HoldNames numbers others h kept fs names files → HoldNames numbers others h kept fs names (with_locks files locks)
  names_locked locks hold = record {
    held = record {
      opened = have_locked numbers h kept files locks hold.held.opened;
      tree = same_pins h fs files.tree (holders others files) (holders others then)
          (λ n. ap (λ nodes. others n + times n nodes) (same_nodes files then files.descriptions (all_same files then files.descriptions refl))) hold.held.tree;
      nodes = λ place number d there on. hold.held.nodes place number d there (same_node files then refl d.target ∙ on);
      beside = hold.held.beside;
    };
    bound = hold.bound;
    named = record { bound = hold.named.bound; waiting = hold.named.waiting };
    places = hold.places;
  }
    where
      then : Files
      then = with_locks files locks

-- so what a close leaves of what is open is what it leaves
pub names_closed : (numbers : Numbers) (others : ℕ → ℕ) (h : Heap) (kept : TableView) (fs : TreeView) (names : List (Option ℕ)) (files : Files) (pid fd : ℕ)
    → HoldNames numbers others h kept fs names (without_number files pid fd) → HoldNames numbers others h kept fs names (after_close files pid fd)
names_closed numbers others h kept fs names files pid fd hold =
    subst (HoldNames numbers others h kept fs names) (sym (close_is files pid fd)) (names_locked numbers others h kept fs names (without_number files pid fd) (locks_left files pid fd) hold)

-- and the other way round
pub open_left : (numbers : Numbers) (h : Heap) (kept : TableView) (files : Files) (pid fd : ℕ) → HaveOpen numbers h kept (after_close files pid fd) → HaveOpen numbers h kept (without_number files pid fd)
open_left numbers h kept files pid fd have =
    have_locked numbers h kept (with_locks (without_number files pid fd) (locks_left files pid fd)) (without_number files pid fd).locks (subst (HaveOpen numbers h kept) (close_is files pid fd) have)

-- the same goes, whichever locks there are
pub goes_locked : (files next : Files) (gone : Option ℕ) (locks : Locks) → Goes files next gone → Goes files (with_locks next locks) gone
goes_locked files next gone locks goes = record {
  opened = λ n. ap (λ nodes. times n nodes + times n (beside gone [])) (same_nodes then next next.descriptions (all_same then next next.descriptions refl)) ∙ goes.opened n;
  tree = goes.tree ∙ same_tree gone;
  left = goes.left;
  nodes = λ place d there. same_node then next refl d.target ∙ goes.nodes place d there;
}
  where
    then : Files
    then = with_locks next locks

    same_tests : (n : ℕ) (list : Descriptions) → list_any (λ d. is_number n (opened_node next d)) list ≡ list_any (λ d. is_number n (opened_node then d)) list
    same_tests n [] = refl
    same_tests n (None ∷ list) = same_tests n list
    same_tests n (Some d ∷ list) =
        ap (λ o. is_number n o || list_any (λ e. is_number n (opened_node next e)) list) (same_node next then refl d.target)
        ∙ ap (λ b. is_number n (node_of then d.target) || b) (same_tests n list)

    same_tree : (which : Option ℕ) → tree_left files.tree which (opens next) ≡ tree_left files.tree which (opens then)
    same_tree None = refl
    same_tree (Some number) = ap (λ b. cond b files.tree (closed files.tree number)) (same_tests number next.descriptions)

pub goes_closed : (files : Files) (pid fd : ℕ) (gone : Option ℕ) → Goes files (without_number files pid fd) gone → Goes files (after_close files pid fd) gone
goes_closed files pid fd gone goes =
    subst (λ next. Goes files next gone) (sym (close_is files pid fd)) (goes_locked files (without_number files pid fd) gone (locks_left files pid fd) goes)

-- ---- which locks go

-- those of the file that the number names
pub locks_closed : (numbers : Numbers) (h : Heap) (kept : TableView) (files : Files) (pid fd : ℕ) (held : HeldDescriptor) (desc : Desc) → named_at h kept pid fd ≡ Some held → object h.descs held.desc ≡ Some desc
    → HaveOpen numbers h kept files → (after_close files pid fd).locks ≡ let_go files.locks pid (inode_in desc.target)
locks_closed numbers h kept files pid fd held desc is there have =
    ap (λ (f : Files). f.locks) (close_is files pid fd)
    ∙ ap (locks_without files pid) (descriptor_at_is numbers h kept files pid have fd ∙ ap (option_map (descriptor_by numbers.descs)) is)
    ∙ ap (λ (o : Option Description). let_go files.locks pid (opened_file o)) (described_so numbers h have.list files held.desc desc have.opened there)
    ∙ ap (let_go files.locks pid) (by_target desc.target)
  where
    by_target : (what : HeldTarget) → file_of_target (target_in numbers what) ≡ inode_in what
    by_target (target.Inode number) = refl
    by_target (target.Pipe key) = refl
    by_target (target.Sock key) = refl

-- nothing that isn't a file's is locked
pub lets_nothing_go : (locks : Locks) (pid : ℕ) (what : HeldTarget) → ((number : ℕ) → what ≡ target.Inode number → ⊥) → let_go locks pid (inode_in what) ≡ locks
lets_nothing_go locks pid (target.Inode number) none = absurd (none number refl)
lets_nothing_go locks pid (target.Pipe key) none = refl
lets_nothing_go locks pid (target.Sock key) none = refl

-- where there are none, none go
pub none_let_go : (locks : Locks) (pid : ℕ) (node : Option ℕ) → locks ≡ [] → let_go locks pid node ≡ locks
none_let_go locks pid None none = refl
none_let_go locks pid (Some number) none = ap (λ (l : Locks). let_go l pid (Some number)) none ∙ sym none

-- ---- a chain of none

pub is_empty : (first : Option ℕ) → is_none first ≡ true → first ≡ None
is_empty None none = refl
is_empty (Some key) none = absurd (cc)

-- ---- the shelf

-- a number that is closed once locks have gone leaves them
pub locks_stay : (old new : Heap) (kept : TableView) (pid fd : ℕ) → ClosesHolding old new kept pid fd → new.locks ≡ old.locks
locks_stay old new kept pid fd closes = ap (λ (h : Heap). h.locks) closes.caches ∙ ap (λ (h : Heap). h.locks) closes.closes.beside
