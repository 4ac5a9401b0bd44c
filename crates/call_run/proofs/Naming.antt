-- The purse of a call on files or on names of the tree, and what such a call needs of its operands.
use Rattle.std.proofs.Common.{◌≡◌, ℕ, ℤ, ◌+◌, ◌<◌, ◌≤◌, None, Some, ap, negsuc, pos, sym, ◌∙◌, subst, arith}
use Rattle.kabi_types.specs.Arguments.{argument_fault, count_of}
use Rattle.kabi_types.specs.declared.calls.Call.{Call}
use Rattle.kabi_types.specs.declared.calls.Call.TheVariants as call
use Rattle.kabi_types.specs.declared.errnos.Errno.TheVariants.{EINVAL}
use Rattle.kabi_types.specs.declared.classes.Need.{Need}
use Rattle.kabi_types.specs.Counts.{need_bytes}
use Rattle.kheap_slabs.specs.Paid.{CanPay}
use Rattle.kheap_slabs.specs.Purse.{Purse, left_bytes}
use Rattle.kheap_slabs.specs.Heap.{Heap, live_bytes}
use Rattle.kheap_laws.proofs.FillLemmas.{AreFills-none}
use Rattle.memfs_ops.specs.Fetching.{MayFetch}
use Rattle.memfs_ops.specs.FileTree.{MayWalk}
use Rattle.memfs_ops.proofs.PurseLemmas.{may_walk}
use Rattle.posix_defs.specs.Needs.{bound, need_of, objects_of, two_walks_need, walk_need}
use Rattle.posix_defs.specs.Sizes.{reserve}
use Rattle.posix_defs.proofs.PriceLemmas.{right_needs}
use Rattle.store_objects.specs.Purses.{need_for, unspent}
use Rattle.store_objects.specs.declared.purses.Target.{Target}
use Rattle.store_objects.specs.declared.purses.Target.TheVariants.{File}
use Rattle.store_objects.proofs.Paying.{can_pay, left_is, purse_fits}
use Rattle.call_run.specs.Families.{HasPaths}

-- the paths of a call are bytes
pub paths_of_it : {which that : Call} → which ≡ that → HasPaths which → HasPaths that
paths_of_it is paths = subst HasPaths is paths

-- its operands are right
pub right_that : {which that : Call} → argument_fault which ≡ None → which ≡ that → argument_fault that ≡ None
right_that right is = subst (λ w. argument_fault w ≡ None) is right

-- ---- room

-- what is kept back isn't asked for
room_less : (heap : Heap) (which : Call) → live_bytes heap + bound which + reserve ≤ heap.heap → live_bytes heap + bound which ≤ heap.heap
room_less heap which room = less (live_bytes heap) (bound which) heap.heap room
  where
    less : (live bytes size : ℕ) → live + bytes + reserve ≤ size → live + bytes ≤ size
    less live bytes size fits = omega (arith, fits)

pub room_kept : (heap : Heap) (which : Call) → live_bytes heap + bound which + reserve ≤ heap.heap → live_bytes heap + reserve ≤ heap.heap
room_kept heap which room = less (live_bytes heap) (bound which) heap.heap room
  where
    less : (live bytes size : ℕ) → live + bytes + reserve ≤ size → live + reserve ≤ size
    less live bytes size fits = omega (arith, fits)

-- a purse within the bound of its call pays
pub pays : (heap : Heap) (purse : Purse) (which : Call) → left_bytes purse ≤ bound which → live_bytes heap + bound which + reserve ≤ heap.heap → CanPay heap purse
pays heap purse which within room = can_pay heap purse which within (room_less heap which room)

-- F_DUPFD has a Leaf: a command below 0 isn't right
pub leaf_where : (fd cmd arg : ℤ) → argument_fault (call.Fcntl fd cmd arg) ≡ None → count_of cmd ≡ 0 → 0 < (objects_of (call.Fcntl fd cmd arg)).leaf
leaf_where fd (pos n) arg right is = subst (λ m. 0 < (objects_of (call.Fcntl fd (pos m) arg)).leaf) (sym is) (omega arith)
leaf_where fd (negsuc n) arg right is = absurd (let none : Some EINVAL ≡ None = right in cc)

-- ---- its purse, of which nothing is spent

module _ {purse : Purse} {target : Target} {need : Need} {which that : Call} (value : purse ≡ unspent (need_for target need)) where
  -- it has what the call needs for its target
  pub has_left : {goes : Target} → target ≡ goes → need ≡ need_of which → argument_fault which ≡ None → which ≡ that → purse.left ≡ need_for goes (objects_of that)
  has_left {goes} same needed right is = left_is purse goes need which that (value ∙ ap (λ t. unspent (need_for t need)) same) needed right is

module _ {purse : Purse} {target : Target} {need : Need} {which that : Call} (value : purse ≡ unspent (need_for target need)) (file : target ≡ File) (needed : need ≡ need_of which)
    (right : argument_fault which ≡ None) (is : which ≡ that) where
  -- where that is a file, all but chunks
  pub has_file_need : purse.left ≡ need_for File (need_of that)
  has_file_need = has_left value file needed right is ∙ ap (need_for File) (sym (right_needs that (right_that right is)))

  -- and that is all where the call needs no chunks
  pub has_need : need_for File (objects_of that) ≡ objects_of that → purse.left ≡ need_of that
  has_need same = has_left value file needed right is ∙ same ∙ sym (right_needs that (right_that right is))

  unused : purse ≡ unspent (need_for File need)
  unused = value ∙ ap (λ t. unspent (need_for t need)) file

  need_is : need_for File need ≡ need_for File (objects_of that)
  need_is = ap (need_for File) (needed ∙ right_needs which right ∙ ap objects_of is)

  has_room : (heap : Heap) → live_bytes heap + bound which + reserve ≤ heap.heap → live_bytes heap + need_bytes (need_for File need) ≤ heap.heap
  has_room heap room = fits (live_bytes heap) (bound which) (need_bytes (need_for File need)) heap.heap (room_less heap which room)
      (subst (λ n. need_bytes (need_for File n) ≤ bound which) (sym needed) (purse_fits File which))
    where
      fits : (live bytes less size : ℕ) → live + bytes ≤ size → less ≤ bytes → live + less ≤ size
      fits live bytes less size room few = omega arith

  -- with it the call may walk
  walks : (heap : Heap) (n : Need) → objects_of that ≡ n → (0 < n.name) × (0 < n.vnode) × (0 < n.block) → (n.name ≤ 4) × (n.vnode ≤ 4) × (n.block ≤ 4) → live_bytes heap + bound which + reserve ≤ heap.heap
      → MayWalk heap purse
  walks heap n one some few room =
      let same : need_for File need ≡ need_for File n = need_is ∙ ap (need_for File) one in
      may_walk heap purse (need_for File need) unused (has_room heap room) (subst (λ (m : Need). (0 < m.name) × (0 < m.vnode) × (0 < m.block)) (sym same) some)
      (subst (λ (m : Need). (m.name ≤ 4) × (m.vnode ≤ 4) × (m.block ≤ 4)) (sym same) few)

  pub walks_one : {heap : Heap} → objects_of that ≡ walk_need → live_bytes heap + bound which + reserve ≤ heap.heap → MayWalk heap purse
  walks_one {heap} one room = walks heap walk_need one (omega arith, omega arith, omega arith) (omega arith, omega arith, omega arith) room

  pub walks_two : {heap : Heap} → objects_of that ≡ two_walks_need → live_bytes heap + bound which + reserve ≤ heap.heap → MayWalk heap purse
  walks_two {heap} two room = walks heap two_walks_need two (omega arith, omega arith, omega arith) (omega arith, omega arith, omega arith) room

  -- also where it makes a description or a socket
  pub walks_opening : {heap : Heap} → objects_of that ≡ record walk_need { desc = 1; leaf = 1; pipe = 1 } → live_bytes heap + bound which + reserve ≤ heap.heap → MayWalk heap purse
  walks_opening {heap} one room = walks heap (record walk_need { desc = 1; leaf = 1; pipe = 1 }) one (omega arith, omega arith, omega arith) (omega arith, omega arith, omega arith) room

  pub walks_connecting : {heap : Heap} → objects_of that ≡ record walk_need { sock = 1 } → live_bytes heap + bound which + reserve ≤ heap.heap → MayWalk heap purse
  walks_connecting {heap} one room = walks heap (record walk_need { sock = 1 }) one (omega arith, omega arith, omega arith) (omega arith, omega arith, omega arith) room

  -- and ask for the two blocks that it needs
  pub may_fetch : {heap : Heap} → (objects_of that).block ≡ 2 → live_bytes heap + bound which + reserve ≤ heap.heap → MayFetch heap purse
  may_fetch {heap} two room = subst (MayFetch heap) (sym unused) (record {
    pays = has_room heap room;
    fills = record { vnodes = AreFills-none heap.vnodes need.vnode; names = AreFills-none heap.names need.name; blocks = AreFills-none heap.blocks need.block };
    few = few need.block blocks;
    some = some need.block blocks;
  })
    where
      blocks : need.block ≡ 2
      blocks = ap (λ (n : Need). n.block) (needed ∙ right_needs which right ∙ ap objects_of is) ∙ two

      few : (n : ℕ) → n ≡ 2 → n ≤ 4
      few n same = omega (arith, same)

      some : (n : ℕ) → n ≡ 2 → 0 < n + 0
      some n same = omega (arith, same)
