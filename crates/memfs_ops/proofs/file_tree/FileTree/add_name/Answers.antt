use Rattle.std.proofs.Common.{◌≡◌, ℕ, true, false, None, List, Result, Ok, Err, refl, sym, ◌∙◌, subst}
use Rattle.kabi_types.specs.declared.errnos.Errno.{Errno}
use Rattle.kabi_types.specs.declared.errnos.Errno.TheVariants.{EMLINK, ENOSPC}
use Rattle.posix_defs.specs.DiskFormat.{IsName}
use Rattle.posix_defs.specs.SoundDisk.{HasNode}
use Rattle.posix_defs.specs.Tree.{Tree, found, is_directory, is_in_use}
use Rattle.posix_defs.specs.TreeChanges.{link_added, with_entries, entry_put}
use Rattle.posix_defs.proofs.TreeNodes.{directory_in_use}
use Rattle.disk_laws.proofs.DiskNodes.{one_tree}
use Rattle.tree_laws.proofs.OtherNodes.{added_directories}
use Rattle.blk_map.proofs.Taken.{lowest_then, none_then_lowest, unchanged_is_lowest}
use Rattle.memfs_dir.specs.Listed.{IsFull}
use Rattle.memfs_ops.specs.Changing.{MidWay, ChangedTo}
use Rattle.memfs_ops.proofs.LookLemmas.{looks_trans, pays_of, pays_trans}
use Rattle.memfs_ops.proofs.PaysLemmas.{pays_on}
use Rattle.memfs_ops.proofs.StepLemmas.{mid_of}
use Rattle.memfs_ops.proofs.RemoveLemmas.{free_of}
use Rattle.memfs_ops.proofs.LinkLemmas.{file_apart, room_still, takes_or_not, too_many, no_space, linked, linked_stands, below_most}
use Rattle.memfs_ops.proofs.file_tree.FileTree.add_name.Goals as goal

pub inode-inode-requires-clause-stands : goal.inode-inode-requires-clause-stands
inode-inode-requires-clause-stands c =
    let r = c.requires.stands in
    (r.0, r.1, r.2, r.5)

pub inode-dir-requires-clause-stands : goal.inode-dir-requires-clause-stands
inode-dir-requires-clause-stands c =
    let r = c.requires.stands in
    (r.0, r.1, c.inode-inode.ensures.looks.stands r.0 r.1 r.2, directory_in_use r.0 c.args.parent r.3)

pub inode-dir-requires-clause-may : goal.inode-dir-requires-clause-may
inode-dir-requires-clause-may c = c.inode-inode.ensures.looks.may

pub has_room-requires-clause-stands : goal.has_room-requires-clause-stands
has_room-requires-clause-stands c =
    let r = c.requires.stands in
    (r.0, r.1, c.inode-dir.ensures.looks.stands r.0 r.1 (c.inode-inode.ensures.looks.stands r.0 r.1 r.2))

pub has_room-requires-clause-node : goal.has_room-requires-clause-node
has_room-requires-clause-node c = (c.args.parent, subst (λ disk. HasNode disk c.args.parent c.inode-dir.result) (sym c.inode-dir.ensures.looks.on.bytes) c.inode-dir.ensures.has)

pub has_room-requires-clause-may : goal.has_room-requires-clause-may
has_room-requires-clause-may c = free_of c.inode-dir.new.heap c.inode-dir.new.purse c.inode-dir.ensures.looks.may

pub link_node-requires-clause-mid : goal.link_node-requires-clause-mid
link_node-requires-clause-mid c =
    let r = c.requires.stands in
    let s = c.has_room.ensures.stands r.0 r.1 (c.inode-dir.ensures.looks.stands r.0 r.1 (c.inode-inode.ensures.looks.stands r.0 r.1 r.2)) in
    (r.0, r.0, r.1, mid_of c.has_room.new.heap c.has_room.new.self r.0 r.1 s)

pub link_node-requires-clause-node : goal.link_node-requires-clause-node
link_node-requires-clause-node c =
    let i = c.inode-inode in
    subst (λ disk. HasNode disk c.args.number i.result) (sym (c.has_room.ensures.bytes ∙ c.inode-dir.ensures.looks.on.bytes ∙ i.ensures.looks.on.bytes)) i.ensures.has

pub link_node-requires-clause-most : goal.link_node-requires-clause-most
link_node-requires-clause-most c = below_most c.args.self.now.disk.blocks c.args.number c.inode-inode.result c.inode-inode.ensures.has c.if-inode-eq-MOST_LINKS.false

pub edit_dir-requires-clause-mid : goal.edit_dir-requires-clause-mid
edit_dir-requires-clause-mid c =
    let r = c.requires.stands in
    let s = c.has_room.ensures.stands r.0 r.1 (c.inode-dir.ensures.looks.stands r.0 r.1 (c.inode-inode.ensures.looks.stands r.0 r.1 r.2)) in
    let room : ¬ (IsFull c.inode-dir.new.self.disk.blocks c.inode-dir.result) = c.has_room.ensures.value.0 c.if-not-has_room.false in
    let here = subst (λ disk. ¬ (IsFull disk c.inode-dir.result)) (sym c.has_room.ensures.bytes) room in (
      r.0,
      link_added r.0 c.args.number,
      r.1,
      c.link_node.ensures.mid r.0 r.0 r.1 (mid_of c.has_room.new.heap c.has_room.new.self r.0 r.1 s),
      added_directories r.0 c.args.number c.args.parent ∙ r.3,
      (subst (λ (n : List ℕ). IsName n) (sym c.copy.ensures) c.requires.name.valid, c.inode-inode.ensures.has.0.number.0, room_still c.has_room.new.self.disk.blocks c.link_node.new.self.disk.blocks c.inode-dir.result c.link_node.ensures.free here),
    )

pub edit_dir-requires-clause-node : goal.edit_dir-requires-clause-node
edit_dir-requires-clause-node c =
    let r = c.requires.stands in
    let d = c.inode-dir in
    c.link_node.ensures.others.nodes c.args.parent d.result (file_apart r.0 c.args.number c.args.parent r.6 r.3) (subst (λ disk. HasNode disk c.args.parent d.result) (sym (c.has_room.ensures.bytes ∙ d.ensures.looks.on.bytes)) d.ensures.has)

pub edit_dir-requires-clause-may : goal.edit_dir-requires-clause-may
edit_dir-requires-clause-may c = c.link_node.ensures.may

pub returns-then-inode-eq-MOST_LINKS-clause-answer : goal.returns-then-inode-eq-MOST_LINKS-clause-answer
returns-then-inode-eq-MOST_LINKS-clause-answer c = λ tree pins stands.
    let d = c.inode-dir in
    let s = d.ensures.looks.stands tree pins (c.inode-inode.ensures.looks.stands tree pins stands) in
    subst (λ (led : Result Tree Errno). ChangedTo d.new.heap d.new.self tree led pins (Err EMLINK)) (sym (too_many tree c.args.parent c.args.name.now c.args.number c.inode-inode.result (c.inode-inode.ensures.value tree pins stands) c.if-inode-eq-MOST_LINKS.true)) (refl, s)

pub returns-then-inode-eq-MOST_LINKS-clause-pays : goal.returns-then-inode-eq-MOST_LINKS-clause-pays
returns-then-inode-eq-MOST_LINKS-clause-pays c =
    let i = c.inode-inode in
    let d = c.inode-dir in
    pays_of c.args.heap.now d.new.heap c.args.purse.now d.new.purse c.args.self.now d.new.self
    (looks_trans c.args.heap.now i.new.heap d.new.heap c.args.purse.now i.new.purse d.new.purse c.args.self.now i.new.self d.new.self i.ensures.looks d.ensures.looks)

pub returns-then-not-has_room-clause-answer : goal.returns-then-not-has_room-clause-answer
returns-then-not-has_room-clause-answer c = λ tree pins stands.
    let d = c.inode-dir in
    let h = c.has_room in
    let s1 = c.inode-inode.ensures.looks.stands tree pins stands in
    let s2 = d.ensures.looks.stands tree pins s1 in
    let has = subst (λ disk. HasNode disk c.args.parent d.result) (sym d.ensures.looks.on.bytes) d.ensures.has in
    let full = takes_or_not d.new.self.disk.blocks tree c.args.parent d.result h.result s2.behind has h.ensures.value ∙ c.if-not-has_room.true in
    subst (λ (led : Result Tree Errno). ChangedTo h.new.heap h.new.self tree led pins (Err ENOSPC))
    (sym (no_space tree c.args.parent c.args.name.now c.args.number c.inode-inode.result (c.inode-inode.ensures.value tree pins stands) c.if-inode-eq-MOST_LINKS.false full)) (refl, h.ensures.stands tree pins s2)

pub returns-then-not-has_room-clause-pays : goal.returns-then-not-has_room-clause-pays
returns-then-not-has_room-clause-pays c =
    let i = c.inode-inode in
    let d = c.inode-dir in
    let h = c.has_room in
    pays_trans c.args.heap.now d.new.heap h.new.heap c.args.purse.now d.new.purse h.new.purse c.args.self.now d.new.self h.new.self
    (looks_trans c.args.heap.now i.new.heap d.new.heap c.args.purse.now i.new.purse d.new.purse c.args.self.now i.new.self d.new.self i.ensures.looks d.ensures.looks) h.ensures.pays

pub returns-clause-answer : goal.returns-clause-answer
returns-clause-answer c = λ tree pins stands.
    let r = c.requires.stands in
    let d = c.inode-dir in
    let h = c.has_room in
    let e = c.edit_dir in
    let shows = c.inode-inode.ensures.value tree pins stands in
    let s2 = d.ensures.looks.stands tree pins (c.inode-inode.ensures.looks.stands tree pins stands) in
    let has = subst (λ disk. HasNode disk c.args.parent d.result) (sym d.ensures.looks.on.bytes) d.ensures.has in
    let room = takes_or_not d.new.self.disk.blocks tree c.args.parent d.result h.result s2.behind has h.ensures.value ∙ c.if-not-has_room.false in
    let led = linked tree c.args.parent c.args.name.now c.args.number c.inode-inode.result shows c.if-inode-eq-MOST_LINKS.false room in
    let same = one_tree c.args.self.now.disk.blocks r.0 tree r.2.behind stands.behind in
    let is_dir = subst (λ (t : Tree). is_directory t c.args.parent ≡ true) same r.3 in
    let free = subst (λ (t : Tree). found t c.args.parent c.args.name.now ≡ None) same r.4 in
    let used = subst (λ (t : Tree). is_in_use t c.args.number ≡ true) same r.5 in
    let file = subst (λ (t : Tree). is_directory t c.args.number ≡ false) same r.6 in
    let first = c.link_node.ensures.mid tree tree pins (mid_of h.new.heap h.new.self tree pins (h.ensures.stands tree pins s2)) in
    let last = e.ensures.mid tree (link_added tree c.args.number) pins first in
    let named = subst (λ (n : List ℕ). MidWay e.new.heap e.new.self tree (with_entries (link_added tree c.args.number) c.args.parent (entry_put n c.args.number)) pins) c.copy.ensures last in
    subst (λ (l : Result Tree Errno). ChangedTo e.new.heap e.new.self tree l pins (Ok tt)) (sym led)
    (refl, linked_stands e.new.heap e.new.self tree pins c.args.parent c.args.name.now c.args.number stands.is_tree is_dir used file c.requires.name free led named)

pub returns-clause-pays : goal.returns-clause-pays
returns-clause-pays c =
    let i = c.inode-inode in
    let d = c.inode-dir in
    let h = c.has_room in
    let l = c.link_node in
    let e = c.edit_dir in
    pays_trans c.args.heap.now d.new.heap e.new.heap c.args.purse.now d.new.purse e.new.purse c.args.self.now d.new.self e.new.self
    (looks_trans c.args.heap.now i.new.heap d.new.heap c.args.purse.now i.new.purse d.new.purse c.args.self.now i.new.self d.new.self i.ensures.looks d.ensures.looks)
    (pays_on d.new.heap h.new.heap e.new.heap d.new.purse h.new.purse e.new.purse d.new.self h.new.self e.new.self h.ensures.pays
    (pays_on h.new.heap l.new.heap e.new.heap h.new.purse l.new.purse e.new.purse h.new.self l.new.self e.new.self l.ensures.pays e.ensures.pays))

pub returns-then-inode-eq-MOST_LINKS-clause-lowest : goal.returns-then-inode-eq-MOST_LINKS-clause-lowest
returns-then-inode-eq-MOST_LINKS-clause-lowest c =
    let d = c.inode-dir in
    unchanged_is_lowest c.args.self.now.disk.blocks d.new.self.disk.blocks (d.ensures.looks.on.bytes ∙ c.inode-inode.ensures.looks.on.bytes)

pub returns-then-not-has_room-clause-lowest : goal.returns-then-not-has_room-clause-lowest
returns-then-not-has_room-clause-lowest c =
    let h = c.has_room in
    unchanged_is_lowest c.args.self.now.disk.blocks h.new.self.disk.blocks (h.ensures.bytes ∙ c.inode-dir.ensures.looks.on.bytes ∙ c.inode-inode.ensures.looks.on.bytes)

pub returns-clause-lowest : goal.returns-clause-lowest
returns-clause-lowest c =
    let h = c.has_room in
    let l = c.link_node in
    let e = c.edit_dir in
    lowest_then c.args.self.now.disk.blocks h.new.self.disk.blocks e.new.self.disk.blocks (h.ensures.bytes ∙ c.inode-dir.ensures.looks.on.bytes ∙ c.inode-inode.ensures.looks.on.bytes)
    (none_then_lowest h.new.self.disk.blocks l.new.self.disk.blocks e.new.self.disk.blocks l.ensures.others.blocks l.ensures.takes_none e.ensures.takes)
