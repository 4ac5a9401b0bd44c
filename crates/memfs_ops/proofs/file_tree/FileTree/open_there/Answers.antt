use Rattle.std.proofs.Common.{◌≡◌, ℕ, IsSome, Result, Ok, Err, refl, sym, ◌∙◌, subst}
use Rattle.kabi_types.specs.declared.errnos.Errno.{Errno}
use Rattle.posix_defs.specs.SoundDisk.{HasNode}
use Rattle.posix_defs.specs.Tree.{Tree}
use Rattle.tree_laws.proofs.TreeKeeps.{same_Ok}
use Rattle.vnode_cache.specs.Nodes.{node_slot}
use Rattle.memfs_ops.specs.Opening.{OpenedAs}
use Rattle.memfs_ops.proofs.ChangeLemmas.{fetch_of}
use Rattle.memfs_ops.proofs.LookLemmas.{pays_of, pays_trans}
use Rattle.blk_map.proofs.Taken.{lowest_then, unchanged_is_lowest}
use Rattle.memfs_ops.proofs.file_tree.FileTree.open_there.Goals as goal

pub inode-inode-requires-clause-stands : goal.inode-inode-requires-clause-stands
inode-inode-requires-clause-stands c =
    let r = c.requires.stands in
    (r.0, r.1, r.2, r.3)

pub hold_cut-requires-clause-stands : goal.hold_cut-requires-clause-stands
hold_cut-requires-clause-stands c =
    let r = c.requires.stands in
    let i = c.inode-inode in
    (r.0, r.1, i.ensures.looks.stands r.0 r.1 r.2, c.in-None.ensures.named refl r.0 c.args.node (i.ensures.value r.0 r.1 r.2), r.4)

pub hold_cut-requires-clause-node : goal.hold_cut-requires-clause-node
hold_cut-requires-clause-node c =
    let i = c.inode-inode in
    subst (λ d. HasNode d c.args.node i.result) (sym i.ensures.looks.on.bytes) i.ensures.has

pub hold_cut-requires-clause-there : goal.hold_cut-requires-clause-there
hold_cut-requires-clause-there c = c.inode-inode.ensures.kept

pub hold_cut-requires-clause-may : goal.hold_cut-requires-clause-may
hold_cut-requires-clause-may c = fetch_of c.inode-inode.new.heap c.inode-inode.new.purse c.inode-inode.ensures.looks.may

pub returns-in-None-clause-answer : goal.returns-in-None-clause-answer
returns-in-None-clause-answer c = λ tree pins stands.
    let i = c.inode-inode in
    let h = c.hold_cut in
    let e = c.in-None.ensures.value tree c.args.node (i.ensures.value tree pins stands) in
    subst (λ (led : Result (ℕ × Tree) Errno). OpenedAs h.new.heap h.new.self tree led pins (Ok c.args.node)) (sym e) (refl, h.ensures.stands tree pins (i.ensures.looks.stands tree pins stands))

pub returns-in-None-clause-pays : goal.returns-in-None-clause-pays
returns-in-None-clause-pays c =
    let i = c.inode-inode in
    let h = c.hold_cut in
    pays_trans c.args.heap.now i.new.heap h.new.heap c.args.purse.now i.new.purse h.new.purse c.args.self.now i.new.self h.new.self i.ensures.looks h.ensures.pays

pub returns-in-Some-clause-answer : goal.returns-in-Some-clause-answer
returns-in-Some-clause-answer c = λ tree pins stands.
    let i = c.inode-inode in
    let e = c.in-Some.ensures.value tree c.args.node (i.ensures.value tree pins stands) in
    subst (λ (led : Result (ℕ × Tree) Errno). OpenedAs i.new.heap i.new.self tree led pins (Err c.in-Some.errno)) (sym e) (refl, i.ensures.looks.stands tree pins stands)

pub returns-in-Some-clause-pays : goal.returns-in-Some-clause-pays
returns-in-Some-clause-pays c =
    let i = c.inode-inode in
    pays_of c.args.heap.now i.new.heap c.args.purse.now i.new.purse c.args.self.now i.new.self i.ensures.looks

pub returns-in-None-clause-saved : goal.returns-in-None-clause-saved
returns-in-None-clause-saved c = λ some none. c.hold_cut.ensures.saved none ∙ (c.inode-inode.ensures.saved some).disk

pub returns-in-None-clause-kept : goal.returns-in-None-clause-kept
returns-in-None-clause-kept c = λ number is.
    subst (λ (n : ℕ). IsSome (node_slot c.hold_cut.new.self.vnodes n)) (same_Ok c.args.node number is) c.hold_cut.ensures.kept

pub returns-in-None-clause-names : goal.returns-in-None-clause-names
returns-in-None-clause-names c = c.hold_cut.ensures.names ∙ c.inode-inode.ensures.names

pub returns-in-Some-clause-saved : goal.returns-in-Some-clause-saved
returns-in-Some-clause-saved c = λ some none. (c.inode-inode.ensures.saved some).disk

pub returns-in-Some-clause-kept : goal.returns-in-Some-clause-kept
returns-in-Some-clause-kept c = λ number is. let both : ◌≡◌ {A = Result ℕ Errno} (Err c.in-Some.errno) (Ok number) = is in absurd (cc)

pub returns-in-None-clause-lowest : goal.returns-in-None-clause-lowest
returns-in-None-clause-lowest c = lowest_then c.args.self.now.disk.blocks c.inode-inode.new.self.disk.blocks c.hold_cut.new.self.disk.blocks c.inode-inode.ensures.looks.on.bytes c.hold_cut.ensures.lowest

pub returns-in-Some-clause-lowest : goal.returns-in-Some-clause-lowest
returns-in-Some-clause-lowest c = unchanged_is_lowest c.args.self.now.disk.blocks c.inode-inode.new.self.disk.blocks c.inode-inode.ensures.looks.on.bytes
