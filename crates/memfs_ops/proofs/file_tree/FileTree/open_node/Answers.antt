use Rattle.std.proofs.Common.{◌≡◌, IsSome, Ok, Err, refl, sym, ap, ◌∙◌, subst}
use Rattle.posix_defs.specs.PathCalls as calls
use Rattle.posix_defs.specs.Paths.{IsLed, last_name, resolve}
use Rattle.posix_defs.specs.declared.walked.Walked.{Walked}
use Rattle.posix_defs.specs.declared.walked.Walked.TheVariants as walked
use Rattle.posix_defs.proofs.TreeNodes.{directory_in_use}
use Rattle.tree_laws.proofs.PathLeads.{path_led, last_is_entry_name}
use Rattle.tree_laws.proofs.TreeFacts.{found_in_use}
use Rattle.lru_index.specs.NameKeys.{name_key}
use Rattle.name_cache.specs.Names.{name_slot}
use Rattle.memfs_ops.specs.FileTree.{TreeView, in_call}
use Rattle.memfs_ops.specs.Opening.{asks_of, OpenedAs, KeepsOpened}
use Rattle.memfs_ops.proofs.KnownLemmas.{known_not_free}
use Rattle.memfs_ops.proofs.LookLemmas.{lent_of, stands_of, keeps_last, pays_of, pays_trans}
use Rattle.memfs_ops.proofs.OpenLemmas.{keeps_opened}
use Rattle.blk_map.proofs.Taken.{lowest_then, unchanged_is_lowest}
use Rattle.memfs_ops.proofs.file_tree.FileTree.open_node.Goals as goal

pub open_there-requires-clause-stands : goal.open_there-requires-clause-stands
open_there-requires-clause-stands c =
    let r = c.requires.stands in
    let w : Walked = walked.Node c.in-Node.node in
    let led : IsLed r.0 w = subst (λ (x : Walked). IsLed r.0 x) (sym (c.in-Node.ensures.resolved r.0 r.1 r.2)) (path_led r.0 c.args.cwd c.args.path.now r.2.is_tree r.3) in
    (r.0, r.1, c.walk.ensures.looks.stands r.0 r.1 r.2, directory_in_use r.0 c.in-Node.node led, r.4 c.in-Node.node)

pub returns-in-Node-clause-answer : goal.returns-in-Node-clause-answer
returns-in-Node-clause-answer c = λ tree pins stands.
    let m = c.open_there in
    subst (λ (x : Walked). OpenedAs m.new.heap m.new.self tree (calls.open_led tree (asks_of c.args.how) x) pins m.result) (c.in-Node.ensures.resolved tree pins stands)
    (m.ensures.answer tree pins (c.walk.ensures.looks.stands tree pins stands))

pub returns-in-Node-clause-pays : goal.returns-in-Node-clause-pays
returns-in-Node-clause-pays c =
    let w = c.walk in
    let m = c.open_there in
    pays_trans c.args.heap.now w.new.heap m.new.heap c.args.purse.now w.new.purse m.new.purse c.args.self.now w.new.self m.new.self w.ensures.looks m.ensures.pays

pub open_there-requires-in-Named-clause-stands : goal.open_there-requires-in-Named-clause-stands
open_there-requires-in-Named-clause-stands c =
    let r = c.requires.stands in
    let led = subst (λ (x : Walked). IsLed r.0 x) (sym (c.in-Named.ensures.resolved r.0 r.1 r.2)) (path_led r.0 c.args.cwd c.args.path.now r.2.is_tree r.3) in
    (r.0, r.1, c.walk.ensures.looks.stands r.0 r.1 r.2, found_in_use r.0 _ _ c.in-Named.node r.2.is_tree led.1, r.4 c.in-Named.node)

pub returns-in-Named-clause-answer : goal.returns-in-Named-clause-answer
returns-in-Named-clause-answer c = λ tree pins stands.
    let m = c.open_there-in-Named in
    subst (λ (x : Walked). OpenedAs m.new.heap m.new.self tree (calls.open_led tree (asks_of c.args.how) x) pins m.result) (c.in-Named.ensures.resolved tree pins stands)
    (m.ensures.answer tree pins (c.walk.ensures.looks.stands tree pins stands))

pub returns-in-Named-clause-pays : goal.returns-in-Named-clause-pays
returns-in-Named-clause-pays c =
    let w = c.walk in
    let m = c.open_there-in-Named in
    pays_trans c.args.heap.now w.new.heap m.new.heap c.args.purse.now w.new.purse m.new.purse c.args.self.now w.new.self m.new.self w.ensures.looks m.ensures.pays

pub open_free-requires-clause-stands : goal.open_free-requires-clause-stands
open_free-requires-clause-stands c =
    let r = c.requires.stands in
    let w : Walked = walked.Free c.in-Free.parent c.in-Free.name c.in-Free.slash in
    let led : IsLed r.0 w = subst (λ (x : Walked). IsLed r.0 x) (sym (c.in-Free.ensures.resolved r.0 r.1 r.2)) (path_led r.0 c.args.cwd c.args.path.now r.2.is_tree r.3) in
    (r.0, r.1, c.walk.ensures.looks.stands r.0 r.1 r.2, led.0, led.1, r.4)

pub open_free-requires-clause-name : goal.open_free-requires-clause-name
open_free-requires-clause-name c =
    let r = c.requires.stands in
    last_is_entry_name r.0 c.args.cwd c.args.path.now c.in-Free.name c.requires.path c.requires.bytes (ap last_name (sym (c.in-Free.ensures.resolved r.0 r.1 r.2)))

pub returns-in-Free-clause-answer : goal.returns-in-Free-clause-answer
returns-in-Free-clause-answer c = λ tree pins stands.
    let m = c.open_free in
    subst (λ (x : Walked). OpenedAs m.new.heap m.new.self tree (calls.open_led tree (asks_of c.args.how) x) pins m.result) (c.in-Free.ensures.resolved tree pins stands)
    (m.ensures.answer tree pins (c.walk.ensures.looks.stands tree pins stands))

pub returns-in-Free-clause-pays : goal.returns-in-Free-clause-pays
returns-in-Free-clause-pays c =
    let w = c.walk in
    let m = c.open_free in
    pays_trans c.args.heap.now w.new.heap m.new.heap c.args.purse.now w.new.purse m.new.purse c.args.self.now w.new.self m.new.self w.ensures.looks m.ensures.pays

pub returns-in-Fail-clause-answer : goal.returns-in-Fail-clause-answer
returns-in-Fail-clause-answer c = λ tree pins stands.
    subst (λ (x : Walked). OpenedAs c.walk.new.heap c.walk.new.self tree (calls.open_led tree (asks_of c.args.how) x) pins (Err c.in-Fail.errno)) (c.in-Fail.ensures.resolved tree pins stands) (refl, c.walk.ensures.looks.stands tree pins stands)

pub returns-in-Fail-clause-pays : goal.returns-in-Fail-clause-pays
returns-in-Fail-clause-pays c = pays_of c.args.heap.now c.walk.new.heap c.args.purse.now c.walk.new.purse c.args.self.now c.walk.new.self c.walk.ensures.looks

pub returns-in-Node-clause-saved : goal.returns-in-Node-clause-saved
returns-in-Node-clause-saved c = λ tree pins stands known none.
    let led : calls.node_led (resolve tree c.args.cwd c.args.path.now) ≡ Ok c.in-Node.node = ap calls.node_led (sym (c.in-Node.ensures.resolved tree pins stands)) in
    let walked = c.walk.ensures.saved tree pins stands known.0 in
    c.open_there.ensures.saved (subst (λ o. IsSome o) (sym (walked.nodes c.in-Node.node)) (known.1 c.in-Node.node led)) none ∙ walked.disk

pub returns-in-Node-clause-kept : goal.returns-in-Node-clause-kept
returns-in-Node-clause-kept c = λ tree pins stands.
    let m = c.open_there in
    let led : calls.node_led (resolve tree c.args.cwd c.args.path.now) ≡ Ok c.in-Node.node = ap calls.node_led (sym (c.in-Node.ensures.resolved tree pins stands)) in
    keeps_opened m.new.self (resolve tree c.args.cwd c.args.path.now) m.result
    (keeps_last m.new.self (resolve tree c.args.cwd c.args.path.now) c.in-Node.node (λ parent name node slashed is. subst (λ o. IsSome (name_slot o (name_key parent name))) (sym m.ensures.names) (c.walk.ensures.kept tree pins parent name node slashed stands is)) led)
    m.ensures.kept

pub returns-in-Named-clause-saved : goal.returns-in-Named-clause-saved
returns-in-Named-clause-saved c = λ tree pins stands known none.
    let led : calls.node_led (resolve tree c.args.cwd c.args.path.now) ≡ Ok c.in-Named.node = ap calls.node_led (sym (c.in-Named.ensures.resolved tree pins stands)) in
    let walked = c.walk.ensures.saved tree pins stands known.0 in
    c.open_there-in-Named.ensures.saved (subst (λ o. IsSome o) (sym (walked.nodes c.in-Named.node)) (known.1 c.in-Named.node led)) none ∙ walked.disk

pub returns-in-Named-clause-kept : goal.returns-in-Named-clause-kept
returns-in-Named-clause-kept c = λ tree pins stands.
    let m = c.open_there-in-Named in
    let led : calls.node_led (resolve tree c.args.cwd c.args.path.now) ≡ Ok c.in-Named.node = ap calls.node_led (sym (c.in-Named.ensures.resolved tree pins stands)) in
    keeps_opened m.new.self (resolve tree c.args.cwd c.args.path.now) m.result
    (keeps_last m.new.self (resolve tree c.args.cwd c.args.path.now) c.in-Named.node (λ parent name node slashed is. subst (λ o. IsSome (name_slot o (name_key parent name))) (sym m.ensures.names) (c.walk.ensures.kept tree pins parent name node slashed stands is)) led)
    m.ensures.kept

pub returns-in-Free-clause-saved : goal.returns-in-Free-clause-saved
returns-in-Free-clause-saved c = λ tree pins stands known none.
    let heap = c.args.heap.now in
    let purse = c.args.purse.now in
    let fs : TreeView = c.args.self.now in
    let through = stands_of heap purse fs tree pins stands in
    let lent = lent_of heap purse fs tree pins stands c.requires.may in
    absurd (known_not_free (in_call heap purse fs) tree through lent.of_names c.args.cwd c.args.path.now c.in-Free.parent c.in-Free.name c.in-Free.slash known.0 (sym (c.in-Free.ensures.resolved tree pins stands)))

pub returns-in-Free-clause-kept : goal.returns-in-Free-clause-kept
returns-in-Free-clause-kept c = λ tree pins stands.
    let m = c.open_free in
    subst (λ (x : Walked). KeepsOpened m.new.self x m.result) (c.in-Free.ensures.resolved tree pins stands) m.ensures.kept

pub returns-in-Fail-clause-saved : goal.returns-in-Fail-clause-saved
returns-in-Fail-clause-saved c = λ tree pins stands known none. (c.walk.ensures.saved tree pins stands known.0).disk

pub returns-in-Node-clause-lowest : goal.returns-in-Node-clause-lowest
returns-in-Node-clause-lowest c = lowest_then c.args.self.now.disk.blocks c.walk.new.self.disk.blocks c.open_there.new.self.disk.blocks c.walk.ensures.looks.on.bytes c.open_there.ensures.lowest

pub returns-in-Named-clause-lowest : goal.returns-in-Named-clause-lowest
returns-in-Named-clause-lowest c = lowest_then c.args.self.now.disk.blocks c.walk.new.self.disk.blocks c.open_there-in-Named.new.self.disk.blocks c.walk.ensures.looks.on.bytes c.open_there-in-Named.ensures.lowest

pub returns-in-Free-clause-lowest : goal.returns-in-Free-clause-lowest
returns-in-Free-clause-lowest c = lowest_then c.args.self.now.disk.blocks c.walk.new.self.disk.blocks c.open_free.new.self.disk.blocks c.walk.ensures.looks.on.bytes c.open_free.ensures.lowest

pub returns-in-Fail-clause-lowest : goal.returns-in-Fail-clause-lowest
returns-in-Fail-clause-lowest c = unchanged_is_lowest c.args.self.now.disk.blocks c.walk.new.self.disk.blocks c.walk.ensures.looks.on.bytes
