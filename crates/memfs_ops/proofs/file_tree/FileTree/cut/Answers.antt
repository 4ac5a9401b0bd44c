use Rattle.std.proofs.Common.{◌≡◌, Bool, true, false, sym, ap, ◌∙◌, subst, refl}
use Rattle.posix_defs.specs.PathCalls as calls
use Rattle.posix_defs.specs.Tree.{Tree, is_directory}
use Rattle.posix_defs.specs.TreeChanges.{resize}
use Rattle.memfs_node.proofs.Looking.{shown}
use Rattle.memfs_ops.specs.FileTree.{TreeView, Stands}
use Rattle.memfs_ops.specs.Opening.{cut_tree}
use Rattle.memfs_ops.proofs.ChangeLemmas.{pays_changed}
use Rattle.memfs_ops.proofs.OpenLemmas.{is_file, no_bytes_stay, cut_stands}
use Rattle.memfs_ops.proofs.ProgramLemmas.{file_tests}
use Rattle.memfs_ops.proofs.PaysLemmas.{pays_nothing}
use Rattle.memfs_ops.proofs.WriteLemmas.{lags_to, some_to}
use Rattle.blk_map.proofs.Taken.{lowest_until, unchanged_is_lowest}
use Rattle.memfs_ops.proofs.file_tree.FileTree.cut.Goals as goal

pub returns-then-not-asked-clause-stands : goal.returns-then-not-asked-clause-stands
returns-then-not-asked-clause-stands c = λ tree pins stands.
    subst (λ (b : Bool). Stands c.args.heap.now c.args.self.now (cut_tree tree c.args.node b) pins) (sym c.if-not-asked.true) stands

pub returns-then-not-asked-clause-pays : goal.returns-then-not-asked-clause-pays
returns-then-not-asked-clause-pays c = pays_nothing c.args.heap.now c.args.purse.now c.args.self.now c.requires.may.fills

pub returns-then-not-is_file-clause-stands : goal.returns-then-not-is_file-clause-stands
returns-then-not-is_file-clause-stands c = λ tree pins stands.
    let is = shown c.args.self.now.disk.blocks tree c.args.node c.args.inode.now stands.behind c.requires.node in
    let other = sym (c.is_file.ensures.value tree c.args.node is) ∙ c.if-not-is_file.true in
    subst (λ (b : Bool). Stands c.args.heap.now c.args.self.now (cut_tree tree c.args.node b) pins) (sym c.if-not-asked.false) (subst (λ (t : Tree). Stands c.args.heap.now c.args.self.now t pins) (sym (no_bytes_stay tree c.args.node other)) stands)

pub returns-then-not-is_file-clause-pays : goal.returns-then-not-is_file-clause-pays
returns-then-not-is_file-clause-pays c = pays_nothing c.args.heap.now c.args.purse.now c.args.self.now c.requires.may.fills

pub size_in-done-requires-clause-stands : goal.size_in-done-requires-clause-stands
size_in-done-requires-clause-stands c =
    let r = c.requires.stands in
    let is = shown c.args.self.now.disk.blocks r.0 c.args.node c.args.inode.now r.2.behind c.requires.node in
    let tests = file_tests (is_directory r.0 c.args.node) (calls.is_socket r.0 c.args.node) (calls.is_fifo r.0 c.args.node) (sym (c.is_file.ensures.value r.0 c.args.node is) ∙ c.if-not-is_file.false) in
    (r.0, r.1, r.2, is_file r.0 c.args.node c.args.inode.now is tests.0 tests.1 tests.2)

pub renew-requires-clause-lags : goal.renew-requires-clause-lags
renew-requires-clause-lags c =
    let r = c.requires.stands in
    let m = c.size_in-done in
    some_to c.args.node m.new.heap m.new.self r.0 (resize r.0 c.args.node 0) r.1 m.result (m.ensures.answer r.0 r.1 r.2)

pub returns-clause-stands : goal.returns-clause-stands
returns-clause-stands c = λ tree pins stands.
    let m = c.size_in-done in
    subst (λ (b : Bool). Stands c.renew.new.heap c.renew.new.self (cut_tree tree c.args.node b) pins) (sym c.if-not-asked.false)
    (cut_stands c.renew.new.heap c.renew.new.self tree c.args.node pins m.result (lags_to c.args.node m.new.heap c.renew.new.heap m.new.self c.renew.new.self tree (resize tree c.args.node 0) pins m.result (m.ensures.answer tree pins stands) (λ t lags. c.renew.ensures.stands t t pins lags)))

pub returns-clause-pays : goal.returns-clause-pays
returns-clause-pays c =
    let m = c.size_in-done in
    pays_changed c.args.heap.now m.new.heap c.renew.new.heap c.args.purse.now m.new.purse c.args.self.now m.new.self c.renew.new.self m.ensures.goes_on m.ensures.may c.renew.ensures.only c.renew.ensures.used c.renew.ensures.takes c.renew.ensures.same

pub returns-clause-nodes : goal.returns-clause-nodes
returns-clause-nodes c = ap (λ (v : TreeView). v.vnodes) c.renew.ensures.same ∙ c.size_in-done.ensures.nodes

pub returns-clause-saved : goal.returns-clause-saved
returns-clause-saved c = λ none. let both : true ≡ false = sym c.if-not-asked.false ∙ none in absurd (cc)

pub returns-clause-names : goal.returns-clause-names
returns-clause-names c = ap (λ (v : TreeView). v.names) c.renew.ensures.same ∙ c.size_in-done.ensures.names

pub returns-then-not-asked-clause-lowest : goal.returns-then-not-asked-clause-lowest
returns-then-not-asked-clause-lowest c = unchanged_is_lowest c.args.self.now.disk.blocks c.args.self.now.disk.blocks refl

pub returns-then-not-is_file-clause-lowest : goal.returns-then-not-is_file-clause-lowest
returns-then-not-is_file-clause-lowest c = unchanged_is_lowest c.args.self.now.disk.blocks c.args.self.now.disk.blocks refl

pub returns-clause-lowest : goal.returns-clause-lowest
returns-clause-lowest c = lowest_until c.args.self.now.disk.blocks c.size_in-done.new.self.disk.blocks c.renew.new.self.disk.blocks (ap (λ (v : TreeView). v.disk.blocks) c.renew.ensures.same) c.size_in-done.ensures.lowest
