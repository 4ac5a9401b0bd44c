-- What a call that names numbers leaves of the caches: where none of these is open on a node, all.
use Rattle.std.proofs.Common.{◌≡◌, ℕ, ◌==◌, ◌||◌, ◌&&◌, not, ℤ, pos, negsuc, Bool, true, false, cond, List, [], length, Option, None, Some, is_none, is_some, Result, Ok, Err, refl, ap, sym, ◌∙◌, subst}
use Rattle.std.specs.Prelude.{OnErr}
use Rattle.std.specs.List.{list_any}
use Rattle.std.specs.Option.{option_and_then, option_map_or}
use Rattle.std.proofs.lemmas.Bool.{false≢true}
use Rattle.kabi_types.specs.Arguments.{argument_fault, count_of, may_be_descriptor}
use Rattle.kabi_types.specs.PathParts.{components}
use Rattle.kabi_types.specs.declared.calls.Call.{Call}
use Rattle.kabi_types.specs.declared.scripts.Script.{Script}
use Rattle.kabi_types.specs.declared.errnos.Errno.{Errno}
use Rattle.kabi_types.specs.declared.errnos.Errno.TheVariants.{EBADF}
use Rattle.kabi_types.specs.declared.replies.Reply.{Reply}
use Rattle.kabi_types.specs.declared.replies.Reply.TheVariants.{Fail, Val}
use Rattle.kheap_slabs.specs.declared.objects.Access.{Access}
use Rattle.kheap_slabs.specs.declared.objects.Desc.{Desc}
use Rattle.kheap_slabs.specs.declared.objects.Descriptor.{Descriptor as HeldDescriptor}
use Rattle.kheap_slabs.specs.declared.objects.Target.{Target}
use Rattle.kheap_slabs.specs.declared.objects.Target.TheVariants as target
use Rattle.kheap_slabs.specs.Heap.{Heap}
use Rattle.memfs_ops.specs.FileTree.{TreeView}
use Rattle.open_laws.specs.Described.{node_in, node_left, target_in}
use Rattle.open_laws.specs.Owned.{HasItsOwners, IsThereFor}
use Rattle.open_laws.proofs.RelinkedLemmas.{node_placed}
use Rattle.open_laws.specs.Placed.{Numbers}
use Rattle.posix_defs.specs.Answer.{Answer, Done, failed, replied}
use Rattle.posix_defs.specs.Calls.OnDescriptors.{dup2, duplicated_to}
use Rattle.posix_defs.specs.Calls.Opened.{Opened, answer_on, opened_at}
use Rattle.posix_defs.specs.Files.State.{Files, node_of}
use Rattle.posix_defs.specs.Paths.{begins_at, resolve}
use Rattle.posix_defs.specs.Plain.{Plain, with_files}
use Rattle.posix_defs.specs.Process.{directory_of}
use Rattle.posix_defs.specs.Reaching.{IsLeft, descriptors_in, ends_node, is_on_node, knows, last_of, names_node, path_to_leave, path_to_walk, paths_of, reaches_node}
use Rattle.posix_defs.specs.World.{World}
use Rattle.proc_table.specs.Table.{TableView}
use Rattle.proc_numbers.specs.Having.{AreListed, HaveOpen, node_closed, node_dropped}
use Rattle.proc_numbers.specs.Naming.{named_at, named_by}
use Rattle.proc_numbers.proofs.NumberNames.{desc_named_by, opened_so}
use Rattle.proc_numbers.specs.Answering.{node_replaced, value_of}
use Rattle.store_objects.specs.declared.objects.Objects.{Objects}
use Rattle.store_objects.specs.Trees.{kept_by}
use Rattle.store_objects.specs.FileWorlds.{LeavesCached}

-- A call names numbers and no path.
pub record NamesNumbers (which : Call) : Type 0 where
  pub right : argument_fault which ≡ None
  pub paths : paths_of which ≡ []
  pub leaves : (plain : Plain) (pid : ℕ) → path_to_leave plain pid which ≡ None
  pub walks : path_to_walk which ≡ None

left_false : (a b : Bool) → (a || b) ≡ false → a ≡ false
left_false true b e = absurd (false≢true (sym e))
left_false false b e = refl

right_false : (a b : Bool) → (a || b) ≡ false → b ≡ false
right_false true b e = absurd (false≢true (sym e))
right_false false b e = e

none_so : {X : Type 0} (o : Option X) → is_some o ≡ false → o ≡ None
none_so None is = refl
none_so (Some x) is = absurd (false≢true (sym is))

-- ---- which numbers are open on nodes

-- some number that a call names is
abbrev pub some_on : Plain → ℕ → Call → Bool
some_on plain pid which = list_any (λ fd. is_on_node plain.files (opened_at plain.files pid fd)) (descriptors_in which)

-- none is where no node is reached
pub none_on : (plain : Plain) (pid : ℕ) (which : Call) (next : Plain) → NamesNumbers which → reaches_node plain pid which next ≡ false → some_on plain pid which ≡ false
none_on plain pid which next names none =
    sym
    (ap (λ (fault : Option Errno). is_none fault && names_node plain.files pid which) names.right
    ∙ ap (λ (paths : List (List ℕ)). not (length paths == 0) || some_on plain pid which) names.paths)
    ∙ left_false (is_none (argument_fault which) && names_node plain.files pid which) (ends_node plain.files next.files) none

pub first_off : (a b : Bool) → (a || b) ≡ false → a ≡ false
first_off = left_false

pub second_off : (a b : Bool) → (a || (b || false)) ≡ false → b ≡ false
second_off a b none = left_false b false (right_false a (b || false) none)

module _ (numbers : Numbers) (h : Heap) (kept : TableView) (files : Files) (pid : ℕ) (have : HaveOpen numbers h kept files) (listed : AreListed h kept) (owners : HasItsOwners h []) where
  dropped : (desc : Desc) → node_in h.pipes desc.target ≡ None → node_left h.pipes desc ≡ None
  dropped desc none = go (desc.count == 1)
    where
      go : (b : Bool) → cond b (node_in h.pipes desc.target) None ≡ None
      go true = none
      go false = refl

  -- the node of a FIFO is that of each of its ends
  node_same : (access : Access) (on : Target) → IsThereFor h access on → node_of files (target_in numbers on) ≡ node_in h.pipes on
  node_same access (target.Inode number) there = refl
  node_same access (target.Pipe key) there = node_placed numbers h files key there.0 have.opened.piped
  node_same access (target.Sock key) there = refl

  -- no node goes with a number that isn't open on one
  pub closed_off : (fd : ℤ) → is_on_node files (opened_at files pid fd) ≡ false → node_closed h (named_by h kept pid fd) ≡ None
  closed_off fd off = by_named (named_by h kept pid fd) refl
    where
      by_named : (o : Option HeldDescriptor) → named_by h kept pid fd ≡ o → node_closed h o ≡ None
      by_named None is = refl
      by_named (Some held) is =
          let desc = desc_named_by h kept [] listed owners pid fd held is in
          ap (node_dropped h.pipes) desc.1
          ∙ dropped desc.0
          (none_so (node_in h.pipes desc.0.target)
          (ap is_some (sym (node_same desc.0.access desc.0.target (owners.held.targets held.desc desc.0 desc.1)))
          ∙ sym (ap (is_on_node files) (opened_so numbers h kept files pid have fd held desc.0 is desc.1)) ∙ off))

  -- nor with what names the description of another, where it is a number that a descriptor may have
  pub replaced_off : (fd : ℤ) (to : ℕ) → is_on_node files (opened_at files pid (pos to)) ≡ false → node_replaced h kept pid fd (pos to) ≡ None
  replaced_off fd to off = go (count_of fd == to)
    where
      go : (b : Bool) → cond b None (node_closed h (named_at h kept pid to)) ≡ None
      go true = refl
      go false = closed_off (pos to) off

-- ---- what a call leaves of the caches

module _ (old new : Objects) (world : World) (pid : ℕ) (which : Call) (names : NamesNumbers which) where
  pub leaves_numbers : (said : Reply) (next : Plain) → (some_on world.plain pid which ≡ false → new.tree ≡ old.tree) → LeavesCached old new world pid which said next
  leaves_numbers said next stays = record {
    untouched = λ none.
        let same : new.tree ≡ old.tree = stays (none_on world.plain pid which next names none) in
        (ap kept_by same, ap (λ (fs : TreeView). fs.disk.reads) same);
    left = λ ok.
        subst (λ path. IsLeft next.files.tree (kept_by new.tree) (option_and_then (λ p. last_of (resolve world.plain.files.tree (directory_of world.plain.table pid) p)) path)) (sym (names.leaves world.plain pid)) tt;
    known = λ known. absurd (false≢true (sym
        (ap (λ o. option_map_or (λ path. knows world.plain.files.tree world.kept (begins_at (directory_of world.plain.table pid) path) (components path)) o false) names.walks)
        ∙ known));
  }

-- ---- dup2

-- what a call said, if it is over
abbrev said_by : Answer → Option Reply
said_by (Done reply next) = Some reply
said_by _ = None

-- no descriptor has a number below 0
pub dup2_below : (script : Script) (plain : Plain) (pid : ℕ) (fd : ℤ) (k : ℕ) → dup2 script plain pid fd (negsuc k) ≡ failed script plain pid EBADF
unfolding dup2
dup2_below script plain pid fd k = go (opened_at plain.files pid fd)
  where
    go : (o : Option Opened)
        → answer_on script plain pid
        (λ opened. cond (may_be_descriptor (negsuc k)) (duplicated_to script plain pid opened (count_of fd) (count_of (negsuc k))) (failed script plain pid EBADF)) o
        ≡ failed script plain pid EBADF
    go None = refl
    go (Some opened) = refl

-- so it was refused, and changed nothing
pub below_refused : (script : Script) (plain : Plain) (pid : ℕ) (fd : ℤ) (k : ℕ) (files : Files) (made : Result ℕ Errno) (P : Type 0)
    → dup2 script plain pid fd (negsuc k) ≡ replied script (with_files plain files) pid (value_of made) → OnErr made P → P
below_refused script plain pid fd k files (Ok number) P is unchanged =
    absurd (let both : Some (Fail EBADF) ≡ Some (Val (pos number)) = ap said_by (sym (dup2_below script plain pid fd k) ∙ is) in cc)
below_refused script plain pid fd k files (Err errno) P is unchanged = unchanged

-- where the number that would name another description isn't open on a node, the tree is as it was
pub stays_replaced : (numbers : Numbers) (h : Heap) (kept : TableView) (files : Files) (script : Script) (plain : Plain) (then : Files) (pid : ℕ) (fd to : ℤ) (made : Result ℕ Errno) (was is : TreeView) (P : Type 0)
    → dup2 script plain pid fd to ≡ replied script (with_files plain then) pid (value_of made) → OnErr made P → (P → is ≡ was) → (node_replaced h kept pid fd to ≡ None → is ≡ was)
    → HaveOpen numbers h kept files → AreListed h kept → HasItsOwners h [] → is_on_node files (opened_at files pid to) ≡ false → is ≡ was
stays_replaced numbers h kept files script plain then pid fd (pos to) made was is P answer unchanged same stays have listed owners off =
    stays (replaced_off numbers h kept files pid have listed owners fd to off)
stays_replaced numbers h kept files script plain then pid fd (negsuc k) made was is P answer unchanged same stays have listed owners off =
    same (below_refused script plain pid fd k then made P answer unchanged)
