use Rattle.std.proofs.Common.{◌≡◌, ◌+◌, ap, refl, arith}
use Rattle.kheap_slabs.specs.Heap.{live_bytes}
use Rattle.kheap_slabs.specs.Owners.{IsOwned}
use Rattle.memfs_ops.specs.FileTree.{KeepsRoot, root_alone}
use Rattle.posix_defs.specs.DiskContents.{new_root}
use Rattle.posix_defs.specs.Tree.{new_tree}
use Rattle.store_objects.specs.Objects.{no_owners}
use Rattle.store_objects.proofs.Booting.{has_booted, no_files, no_pages, no_procs, rooted_bare, rooted_kept, rooted_live, rooted_owned, rooted_owners, rooted_size}
use Rattle.store_objects.proofs.boot.booted.Goals as goal

pub boot-requires-3-clause-empty : goal.boot-requires-3-clause-empty
boot-requires-3-clause-empty c = no_files c.args.heap c.in_ok-heap.heap c.in_ok-heap.ensures.empty

pub boot-requires-3-clause-room : goal.boot-requires-3-clause-room
boot-requires-3-clause-room c =
    let none : live_bytes c.in_ok-heap.heap ≡ 0 = c.in_ok-heap.ensures.live in
    let bytes : c.in_ok-heap.heap.heap ≡ c.args.heap = ap (λ h. h.heap) c.in_ok-heap.ensures.empty in
    omega arith

pub boot-procs-requires : goal.boot-procs-requires
boot-procs-requires c =
    let empty = c.in_ok-heap.heap in
    let rooted = c.boot-3.new.heap in
    let root : KeepsRoot (new_root c.args.blocks) empty rooted = c.in-Ok.ensures.root in
    let none : live_bytes empty ≡ 0 = c.in_ok-heap.ensures.live in
    let live : live_bytes rooted ≡ live_bytes empty + 128 = rooted_live c.args.heap (new_root c.args.blocks) empty rooted c.in_ok-heap.ensures.empty root in
    let bytes : rooted.heap ≡ c.args.heap = rooted_size c.args.heap (new_root c.args.blocks) empty rooted c.in_ok-heap.ensures.empty root in
    omega arith

pub key_there-key-requires-clause-stored : goal.key_there-key-requires-clause-stored
key_there-key-requires-clause-stored c =
    let owned : IsOwned c.boot-3.new.heap no_owners =
    rooted_owned c.args.heap (new_root c.args.blocks) c.in_ok-heap.heap c.boot-3.new.heap c.in_ok-heap.ensures.empty c.in-Ok.ensures.root in
    (c.boot-procs.ensures.moves no_owners owned).holds.stored

pub move_on-requires-clause-stored : goal.move_on-requires-clause-stored
move_on-requires-clause-stored c =
    let owned : IsOwned c.boot-3.new.heap no_owners =
    rooted_owned c.args.heap (new_root c.args.blocks) c.in_ok-heap.heap c.boot-3.new.heap c.in_ok-heap.ensures.empty c.in-Ok.ensures.root in
    (c.boot-procs.ensures.moves no_owners owned).holds.stored

pub returns : goal.returns
returns c =
    let heap = c.args.heap in
    let inode = new_root c.args.blocks in
    let empty = c.in_ok-heap.heap in
    let rooted = c.boot-3.new.heap in
    let is_empty = c.in_ok-heap.ensures.empty in
    let root : KeepsRoot (new_root c.args.blocks) c.in_ok-heap.heap c.boot-3.new.heap = c.in-Ok.ensures.root in
    let fs = c.in-Ok.tree in
    has_booted heap c.args.blocks c.args.control rooted fs (record { heap = c.boot-procs.new.heap; procs = c.boot-procs.result; tree = fs; names = c.in_ok-names.names; fifos = c.new.result; locks = c.new-2.result }) c.move_on.new.self
    (no_pages heap inode empty rooted is_empty root) (no_procs heap inode empty rooted is_empty root) (rooted_owned heap inode empty rooted is_empty root)
    (rooted_bare heap inode empty rooted is_empty root) (rooted_owners heap inode empty rooted is_empty root) c.in-Ok.ensures.stands
    (rooted_kept heap inode empty rooted is_empty root fs (new_tree c.args.blocks) root_alone c.in-Ok.ensures.stands) c.in-Ok.ensures.unread refl c.in_ok-names.ensures c.new.ensures c.new-2.ensures
    (rooted_size heap inode empty rooted is_empty root)
    c.boot-procs.ensures.processes c.boot-procs.ensures.last c.boot-procs.ensures.moves c.boot-procs.ensures.table c.boot-procs.ensures.account c.move_on.ensures
