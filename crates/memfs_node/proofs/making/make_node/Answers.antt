use Rattle.std.proofs.Common.{◌≡◌, ℕ, List, sym, subst, ◌∙◌, arith, ap}
use Rattle.posix_defs.specs.Tree.{kind_of}
use Rattle.memfs_node.specs.declared.making.NewNode.{NewNode}
use Rattle.memfs_node.specs.NodeOnDisk.{Makes, Retags, content_of}
use Rattle.memfs_node.proofs.Lowest.{none_taken}
use Rattle.memfs_node.proofs.Made.{Tagging, new_kind, free_inode, tag_empty, size_is, made_plain, made_node}
use Rattle.memfs_node.proofs.making.make_node.Goals as goal

pub retag-requires-clause-kind : goal.retag-requires-clause-kind
retag-requires-clause-kind g c =
    let inode = c.inode_at-inode.result in
    let has = c.inode_at-inode.ensures.has in
    let free = free_inode (g.B.Blocks.blocks c.args.b.now) c.args.number inode has c.requires.free in
    let kinds = new_kind c.args.new in
    let is : c.kind.result ≡ kind_of (content_of c.args.new) = c.kind.ensures in
    tag_empty inode c.kind.result 1 has.valid.kind free.1 (omega (arith, is, kinds.1)) (omega arith) (λ none. absurd (omega (arith, none, is, kinds.0)))

pub returns-in_default-clause-makes : goal.returns-in_default-clause-makes
returns-in_default-clause-makes g c =
    let before : List (List ℕ) = g.B.Blocks.blocks c.args.b.now in
    let between : List (List ℕ) = g.B.Blocks.blocks c.retag.new.b in
    let old = c.inode_at-inode.result in
    let retags : Retags c.args.number before old c.kind.result 1 between c.retag.new.inode =
    subst (λ (d : List (List ℕ)). Retags c.args.number d old c.kind.result 1 between c.retag.new.inode) c.inode_at-inode.ensures.kept c.retag.ensures.retags in
    let t : Tagging c.args.number before old c.kind.result between c.retag.new.inode = record { has = c.inode_at-inode.ensures.has; free = c.requires.free; retags = retags } in
    made_plain c.args.number before old c.kind.result between c.retag.new.inode t c.args.new c.kind.ensures (λ parent is. c.in_default.not-Directory parent is)

pub returns-in_default-clause-lowest : goal.returns-in_default-clause-lowest
returns-in_default-clause-lowest g c =
    let r = c.retag.ensures.retags in
    let kept = c.inode_at-inode.ensures.kept in
    let before : List (List ℕ) = g.B.Blocks.blocks c.args.b.now in
    let between : List (List ℕ) = g.B.Blocks.blocks c.retag.new.b in
    let retags : Retags c.args.number before c.inode_at-inode.result c.kind.result 1 between c.retag.new.inode =
    subst (λ (d : List (List ℕ)). Retags c.args.number d c.inode_at-inode.result c.kind.result 1 between c.retag.new.inode) kept r in
    none_taken before between (record { count = retags.changes.blocks; map = retags.map })

pub put_dots-requires-clause-empty : goal.put_dots-requires-clause-empty
put_dots-requires-clause-empty g c =
    let before : List (List ℕ) = g.B.Blocks.blocks c.args.b.now in
    let between : List (List ℕ) = g.B.Blocks.blocks c.retag.new.b in
    let old = c.inode_at-inode.result in
    let retags : Retags c.args.number before old c.kind.result 1 between c.retag.new.inode =
    subst (λ (d : List (List ℕ)). Retags c.args.number d old c.kind.result 1 between c.retag.new.inode) c.inode_at-inode.ensures.kept c.retag.ensures.retags in
    size_is c.args.number before old c.kind.result between c.retag.new.inode (record { has = c.inode_at-inode.ensures.has; free = c.requires.free; retags = retags })

pub returns-clause-makes : goal.returns-clause-makes
returns-clause-makes g c =
    let before : List (List ℕ) = g.B.Blocks.blocks c.args.b.now in
    let between : List (List ℕ) = g.B.Blocks.blocks c.retag.new.b in
    let after : List (List ℕ) = g.B.Blocks.blocks c.put_dots.new.b in
    let old = c.inode_at-inode.result in
    let retags : Retags c.args.number before old c.kind.result 1 between c.retag.new.inode =
    subst (λ (d : List (List ℕ)). Retags c.args.number d old c.kind.result 1 between c.retag.new.inode) c.inode_at-inode.ensures.kept c.retag.ensures.retags in
    let t : Tagging c.args.number before old c.kind.result between c.retag.new.inode = record { has = c.inode_at-inode.ensures.has; free = c.requires.free; retags = retags } in
    let is : c.kind.result ≡ 2 = c.kind.ensures ∙ ap (λ (new : NewNode). kind_of (content_of new)) c.in-Directory.is in
    subst (λ (new : NewNode). Makes c.args.number before (content_of new) after c.put_dots.new.inode) (sym c.in-Directory.is)
    (made_node c.args.number before old c.kind.result between c.retag.new.inode t c.in-Directory.parent after c.put_dots.new.inode is c.put_dots.ensures.puts)
