use Rattle.std.proofs.Common.{refl, sym, ap, ◌∙◌, subst}
use Rattle.kheap_laws.proofs.PaidLemmas.{IsPaid-nothing}
use Rattle.posix_defs.specs.SoundDisk.{HasNode}
use Rattle.posix_defs.specs.Tree.{Tree}
use Rattle.memfs_ops.specs.FileTree.{TreeView, Stands}
use Rattle.memfs_ops.specs.Closing.{one_less}
use Rattle.memfs_ops.proofs.PaysLemmas.{pays_on, pays_used}
use Rattle.memfs_ops.proofs.StepLemmas.{free_kept}
use Rattle.memfs_ops.proofs.CloseLemmas.{pays_vnodes, none_left, left_gone, left_held, left_linked, goes_then, links_of, used_of}
use Rattle.memfs_ops.proofs.CachedLemmas.{cached_freed, cached_then, still_cached}
use Rattle.memfs_ops.proofs.file_tree.FileTree.close_node.Goals as goal

pub held_inode-inode-requires : goal.held_inode-inode-requires
held_inode-inode-requires c =
    let r = c.requires.stands in
    (r.tree, r.pins, r.stands, r.held)

pub release-last-requires : goal.release-last-requires
release-last-requires c =
    let r = c.requires.stands in
    record { stands = (r.tree, r.pins, c.held_inode-inode.ensures.stands r.tree r.pins r.stands, r.held, r.root_stays) }

pub returns-then-not-last-clause-stands : goal.returns-then-not-last-clause-stands
returns-then-not-last-clause-stands c = λ tree pins stands.
    let r = c.release-last in
    let s = c.held_inode-inode.ensures.stands tree pins stands in
    subst (λ (t : Tree). Stands r.new.heap r.new.self t (one_less pins c.args.node)) (sym (left_held tree pins c.args.node (sym (c.release-last.ensures.last tree pins s) ∙ c.if-not-last.true))) (r.ensures.stands tree pins s)

pub returns-then-not-last-clause-pays : goal.returns-then-not-last-clause-pays
returns-then-not-last-clause-pays c =
    let h = c.held_inode-inode in
    let r = c.release-last in
    pays_used c.args.heap.now r.new.heap c.args.purse.now c.args.purse.now c.args.self.now h.new.self r.new.self h.ensures.used
    (pays_vnodes c.args.heap.now r.new.heap c.args.purse.now h.new.self r.new.self c.requires.fills r.ensures.only r.ensures.used r.ensures.takes (ap (λ (v : TreeView). v.disk.reads) r.ensures.rest))

pub returns-then-not-last-clause-stays : goal.returns-then-not-last-clause-stays
returns-then-not-last-clause-stays c = λ tree pins stands not. (refl, ap (λ (v : TreeView). v.disk) (c.release-last.ensures.rest) ∙ ap (λ (v : TreeView). v.disk) c.held_inode-inode.ensures.used.same, ap (λ (v : TreeView). v.blocks) (c.release-last.ensures.rest) ∙ ap (λ (v : TreeView). v.blocks) c.held_inode-inode.ensures.used.same)

pub returns-then-inode-ne0-clause-stands : goal.returns-then-inode-ne0-clause-stands
returns-then-inode-ne0-clause-stands c = λ tree pins stands.
    let r = c.release-last in
    let s = c.held_inode-inode.ensures.stands tree pins stands in
    subst (λ (t : Tree). Stands r.new.heap r.new.self t (one_less pins c.args.node)) (sym (left_linked c.args.self.now.disk.blocks tree pins c.args.node c.held_inode-inode.result stands.behind c.held_inode-inode.ensures.has c.if-inode-ne0.true)) (r.ensures.stands tree pins s)

pub returns-then-inode-ne0-clause-pays : goal.returns-then-inode-ne0-clause-pays
returns-then-inode-ne0-clause-pays c =
    let h = c.held_inode-inode in
    let r = c.release-last in
    pays_used c.args.heap.now r.new.heap c.args.purse.now c.args.purse.now c.args.self.now h.new.self r.new.self h.ensures.used
    (pays_vnodes c.args.heap.now r.new.heap c.args.purse.now h.new.self r.new.self c.requires.fills r.ensures.only r.ensures.used r.ensures.takes (ap (λ (v : TreeView). v.disk.reads) r.ensures.rest))

pub returns-then-inode-ne0-clause-stays : goal.returns-then-inode-ne0-clause-stays
returns-then-inode-ne0-clause-stays c = λ tree pins stands not. (refl, ap (λ (v : TreeView). v.disk) (c.release-last.ensures.rest) ∙ ap (λ (v : TreeView). v.disk) c.held_inode-inode.ensures.used.same, ap (λ (v : TreeView). v.blocks) (c.release-last.ensures.rest) ∙ ap (λ (v : TreeView). v.blocks) c.held_inode-inode.ensures.used.same)

pub free_closed-requires-clause-stands : goal.free_closed-requires-clause-stands
free_closed-requires-clause-stands c =
    let r = c.requires.stands in
    let s = c.held_inode-inode.ensures.stands r.tree r.pins r.stands in
    let last = sym (c.release-last.ensures.last r.tree r.pins s) ∙ c.if-not-last.false in
    (r.tree, one_less r.pins c.args.node, c.release-last.ensures.stands r.tree r.pins s, none_left r.pins c.args.node last)

pub free_closed-requires-clause-node : goal.free_closed-requires-clause-node
free_closed-requires-clause-node c =
    let h = c.held_inode-inode in
    subst (λ disk. HasNode disk c.args.node h.result) (sym (ap (λ (v : TreeView). v.disk.blocks) c.release-last.ensures.rest ∙ ap (λ (v : TreeView). v.disk.blocks) h.ensures.used.same)) h.ensures.has

pub free_closed-requires-clause-may : goal.free_closed-requires-clause-may
free_closed-requires-clause-may c =
    let r = c.requires.stands in
    let h = c.held_inode-inode in
    let l = c.release-last in
    let s = h.ensures.stands r.tree r.pins r.stands in
    let last = sym (l.ensures.last r.tree r.pins s) ∙ c.if-not-last.false in
    let may = r.may (goes_then r.tree r.pins c.args.node h.result last c.if-inode-ne0.false (h.ensures.value r.tree r.pins r.stands)) in
    let pays = pays_vnodes c.args.heap.now l.new.heap c.args.purse.now h.new.self l.new.self c.requires.fills l.ensures.only l.ensures.used l.ensures.takes (ap (λ (v : TreeView). v.disk.reads) l.ensures.rest) in
    free_kept c.args.heap.now l.new.heap c.args.purse.now c.args.purse.now may (IsPaid-nothing c.args.heap.now l.new.heap c.args.purse.now c.args.purse.now l.ensures.takes refl refl) pays.fills refl refl

pub returns-clause-stands : goal.returns-clause-stands
returns-clause-stands c = λ tree pins stands.
    let s = c.held_inode-inode.ensures.stands tree pins stands in
    let f = c.free_closed in
    let last = sym (c.release-last.ensures.last tree pins s) ∙ c.if-not-last.false in
    subst (λ (t : Tree). Stands f.new.heap f.new.self t (one_less pins c.args.node)) (sym (left_gone tree pins c.args.node last)) (f.ensures.stands tree (one_less pins c.args.node) (c.release-last.ensures.stands tree pins s))

pub returns-clause-pays : goal.returns-clause-pays
returns-clause-pays c =
    let h = c.held_inode-inode in
    let r = c.release-last in
    let f = c.free_closed in
    pays_used c.args.heap.now f.new.heap c.args.purse.now f.new.purse c.args.self.now h.new.self f.new.self h.ensures.used
    (pays_on c.args.heap.now r.new.heap f.new.heap c.args.purse.now c.args.purse.now f.new.purse h.new.self r.new.self f.new.self
    (pays_vnodes c.args.heap.now r.new.heap c.args.purse.now h.new.self r.new.self c.requires.fills r.ensures.only r.ensures.used r.ensures.takes (ap (λ (v : TreeView). v.disk.reads) r.ensures.rest)) f.ensures.pays)

pub returns-clause-dropped : goal.returns-clause-dropped
returns-clause-dropped c = λ no_nodes no_blocks. c.free_closed.ensures.dropped no_nodes no_blocks

pub returns-clause-stays : goal.returns-clause-stays
returns-clause-stays c = λ tree pins stands not.
    let h = c.held_inode-inode in
    let s = h.ensures.stands tree pins stands in
    let last = sym (c.release-last.ensures.last tree pins s) ∙ c.if-not-last.false in
    absurd (not (goes_then tree pins c.args.node h.result last c.if-inode-ne0.false (h.ensures.value tree pins stands)))

-- ---- what stays cached

pub returns-then-not-last-clause-cached : goal.returns-then-not-last-clause-cached
returns-then-not-last-clause-cached c = still_cached c.args.self.now c.held_inode-inode.new.self c.release-last.new.self c.held_inode-inode.ensures.used c.release-last.ensures.rest c.release-last.ensures.same

pub returns-then-inode-ne0-clause-cached : goal.returns-then-inode-ne0-clause-cached
returns-then-inode-ne0-clause-cached c = still_cached c.args.self.now c.held_inode-inode.new.self c.release-last.new.self c.held_inode-inode.ensures.used c.release-last.ensures.rest c.release-last.ensures.same

pub returns-clause-cached : goal.returns-clause-cached
returns-clause-cached c =
    let r = c.requires.stands in
    let h = c.held_inode-inode in
    let l = c.release-last in
    let f = c.free_closed in
    let s = h.ensures.stands r.tree r.pins r.stands in
    let now = l.ensures.stands r.tree r.pins s in
    let is = h.ensures.value r.tree r.pins r.stands in
    cached_then c.args.self.now l.new.self f.new.self (still_cached c.args.self.now h.new.self l.new.self h.ensures.used l.ensures.rest l.ensures.same)
    (cached_freed l.new.heap f.new.heap l.new.self f.new.self r.tree (one_less r.pins c.args.node) (one_less r.pins c.args.node) c.args.node now (f.ensures.stands r.tree (one_less r.pins c.args.node) now)
    (sym (links_of r.tree c.args.node h.result is) ∙ c.if-inode-ne0.false) (used_of r.tree c.args.node h.result is) f.ensures.names f.ensures.others)
