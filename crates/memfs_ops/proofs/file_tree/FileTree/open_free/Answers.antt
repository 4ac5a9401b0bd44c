use Rattle.std.proofs.Common.{ℕ, Bool, false, ◌||◌, IsSome, List, [], Result, Ok, Err, refl, sym, ap, ◌∙◌, subst}
use Rattle.kabi_types.specs.declared.errnos.Errno.{Errno}
use Rattle.kabi_types.specs.declared.errnos.Errno.TheVariants.{ENOENT}
use Rattle.posix_defs.specs.PathCalls as calls
use Rattle.posix_defs.specs.Tree.{File, Tree}
use Rattle.posix_defs.specs.TreeChanges.{make}
use Rattle.memfs_node.proofs.Looking.{same_directory}
use Rattle.disk_laws.proofs.DiskNodes.{one_tree}
use Rattle.posix_defs.specs.Tree.{found}
use Rattle.lru_index.specs.NameKeys.{name_key}
use Rattle.name_cache.specs.Names.{name_slot}
use Rattle.memfs_ops.specs.Opening.{OpenedAs}
use Rattle.memfs_ops.proofs.OpenLemmas.{is_made, not_made}
use Rattle.memfs_ops.proofs.PaysLemmas.{pays_nothing, pays_on}
use Rattle.blk_map.proofs.Taken.{lowest_until, unchanged_is_lowest}
use Rattle.memfs_ops.proofs.file_tree.FileTree.open_free.Goals as goal

-- what is asked where the name is free
abbrev asked : Tree → ℕ → List ℕ → Bool → Bool → Result (ℕ × Tree) Errno
asked tree parent name refused slash = calls.unless (refused || slash) ENOENT (make tree parent name (File []))

pub returns-then-not-how-clause-answer : goal.returns-then-not-how-clause-answer
returns-then-not-how-clause-answer c = λ tree pins stands.
    subst (λ (b : Bool). OpenedAs c.args.heap.now c.args.self.now tree (asked tree c.args.parent c.args.name b c.args.slash) pins (Err ENOENT)) (sym c.if-not-how.true) (refl, stands)

pub returns-then-not-how-clause-pays : goal.returns-then-not-how-clause-pays
returns-then-not-how-clause-pays c = pays_nothing c.args.heap.now c.args.purse.now c.args.self.now c.requires.may.fills

pub returns-then-slash-clause-answer : goal.returns-then-slash-clause-answer
returns-then-slash-clause-answer c = λ tree pins stands.
    subst (λ (b : Bool). OpenedAs c.args.heap.now c.args.self.now tree (asked tree c.args.parent c.args.name b c.args.slash) pins (Err ENOENT)) (sym c.if-not-how.false)
    (subst (λ (s : Bool). OpenedAs c.args.heap.now c.args.self.now tree (asked tree c.args.parent c.args.name false s) pins (Err ENOENT)) (sym c.if-slash.true) (refl, stands))

pub returns-then-slash-clause-pays : goal.returns-then-slash-clause-pays
returns-then-slash-clause-pays c = pays_nothing c.args.heap.now c.args.purse.now c.args.self.now c.requires.may.fills

pub make_new-requires-clause-stands : goal.make_new-requires-clause-stands
make_new-requires-clause-stands c =
    let r = c.requires.stands in
    (r.0, r.1, r.2, r.3, r.4)

pub hold_named-requires-clause-stands : goal.hold_named-requires-clause-stands
hold_named-requires-clause-stands c =
    let r = c.requires.stands in
    let m = c.make_new in
    let made = is_made m.new.heap m.new.self r.0 c.args.parent c.args.name (File []) r.1 c.in-Ok.node r.3 r.4 refl (c.in-Ok.ensures.answer r.0 r.1 r.2) in
    (made.next, r.1, made.stands, made.directory, ap (found made.next c.args.parent) c.copy-called.ensures ∙ made.named, r.5 c.in-Ok.node)

pub returns-in-Ok-clause-answer : goal.returns-in-Ok-clause-answer
returns-in-Ok-clause-answer c = λ tree pins stands.
    let r = c.requires.stands in
    let m = c.make_new in
    let h = c.hold_named in
    let disk = c.args.self.now.disk.blocks in
    let is_dir = same_directory disk r.0 tree c.args.parent r.2.behind stands.behind r.3 in
    let free = ap (λ (t : Tree). found t c.args.parent c.args.name) (sym (one_tree disk r.0 tree r.2.behind stands.behind)) ∙ r.4 in
    let made = is_made m.new.heap m.new.self tree c.args.parent c.args.name (File []) pins c.in-Ok.node is_dir free refl (c.in-Ok.ensures.answer tree pins stands) in
    subst (λ (b : Bool). OpenedAs h.new.heap h.new.self tree (asked tree c.args.parent c.args.name b c.args.slash) pins (Ok c.in-Ok.node)) (sym c.if-not-how.false)
    (subst (λ (s : Bool). OpenedAs h.new.heap h.new.self tree (asked tree c.args.parent c.args.name false s) pins (Ok c.in-Ok.node)) (sym c.if-slash.false)
    (subst (λ (led : Result (ℕ × Tree) Errno). OpenedAs h.new.heap h.new.self tree led pins (Ok c.in-Ok.node)) (sym made.is) (refl, h.ensures.stands made.next pins made.stands)))

pub returns-in-Ok-clause-pays : goal.returns-in-Ok-clause-pays
returns-in-Ok-clause-pays c =
    let m = c.make_new in
    let h = c.hold_named in
    pays_on c.args.heap.now m.new.heap h.new.heap c.args.purse.now m.new.purse h.new.purse c.args.self.now m.new.self h.new.self m.ensures.pays h.ensures.pays

pub returns-in-Err-clause-answer : goal.returns-in-Err-clause-answer
returns-in-Err-clause-answer c = λ tree pins stands.
    let m = c.make_new in
    subst (λ (b : Bool). OpenedAs m.new.heap m.new.self tree (asked tree c.args.parent c.args.name b c.args.slash) pins (Err c.in-Err.errno)) (sym c.if-not-how.false)
    (subst (λ (s : Bool). OpenedAs m.new.heap m.new.self tree (asked tree c.args.parent c.args.name false s) pins (Err c.in-Err.errno)) (sym c.if-slash.false)
    (not_made m.new.heap m.new.self tree (make tree c.args.parent c.args.name (File [])) pins c.in-Err.errno (c.in-Err.ensures.answer tree pins stands)))

pub returns-in-Ok-clause-kept : goal.returns-in-Ok-clause-kept
returns-in-Ok-clause-kept c =
    let h = c.hold_named in
    (subst (λ (n : List ℕ). IsSome (name_slot h.new.self.names (name_key c.args.parent n))) c.copy-called.ensures h.ensures.named, h.ensures.kept)

pub returns-then-not-how-clause-lowest : goal.returns-then-not-how-clause-lowest
returns-then-not-how-clause-lowest c = unchanged_is_lowest c.args.self.now.disk.blocks c.args.self.now.disk.blocks refl

pub returns-then-slash-clause-lowest : goal.returns-then-slash-clause-lowest
returns-then-slash-clause-lowest c = unchanged_is_lowest c.args.self.now.disk.blocks c.args.self.now.disk.blocks refl

pub returns-in-Ok-clause-lowest : goal.returns-in-Ok-clause-lowest
returns-in-Ok-clause-lowest c = lowest_until c.args.self.now.disk.blocks c.make_new.new.self.disk.blocks c.hold_named.new.self.disk.blocks c.hold_named.ensures.bytes c.make_new.ensures.lowest
