use Rattle.std.proofs.Common.{Err, refl, sym, ap, subst}
use Rattle.kabi_types.specs.declared.errnos.Errno.TheVariants.{EADDRINUSE}
use Rattle.posix_defs.specs.PathCalls as calls
use Rattle.posix_defs.specs.Paths.{IsLed, last_name}
use Rattle.posix_defs.specs.declared.walked.Walked.{Walked}
use Rattle.posix_defs.specs.declared.walked.Walked.TheVariants as walked
use Rattle.tree_laws.proofs.PathLeads.{path_led, last_is_entry_name}
use Rattle.memfs_ops.specs.Changing.{LedTo}
use Rattle.memfs_ops.proofs.LookLemmas.{pays_of, pays_trans}
use Rattle.blk_map.proofs.Taken.{lowest_then, unchanged_is_lowest}
use Rattle.memfs_ops.proofs.file_tree.FileTree.bind_name.Goals as goal

pub make_named-requires-clause-stands : goal.make_named-requires-clause-stands
make_named-requires-clause-stands c =
    let r = c.requires.stands in
    let w : Walked = walked.Free c.in-Free.parent c.in-Free.name c.in-Free.slash in
    let led : IsLed r.0 w = subst (λ (x : Walked). IsLed r.0 x) (sym (c.in-Free.ensures.resolved r.0 r.1 r.2)) (path_led r.0 c.args.cwd c.args.path.now r.2.is_tree r.3) in
    (r.0, r.1, c.walk.ensures.looks.stands r.0 r.1 r.2, led.0, led.1)

pub make_named-requires-clause-name : goal.make_named-requires-clause-name
make_named-requires-clause-name c =
    let r = c.requires.stands in
    last_is_entry_name r.0 c.args.cwd c.args.path.now c.in-Free.name c.requires.path c.requires.bytes (ap last_name (sym (c.in-Free.ensures.resolved r.0 r.1 r.2)))

pub returns-in-Free-clause-answer : goal.returns-in-Free-clause-answer
returns-in-Free-clause-answer c = λ tree pins stands.
    let m = c.make_named in
    subst (λ (x : Walked). LedTo m.new.heap m.new.self tree (calls.bind_led tree x) pins m.result) (c.in-Free.ensures.resolved tree pins stands)
    (m.ensures.answer tree pins (c.walk.ensures.looks.stands tree pins stands))

pub returns-in-Free-clause-pays : goal.returns-in-Free-clause-pays
returns-in-Free-clause-pays c =
    let w = c.walk in
    let m = c.make_named in
    pays_trans c.args.heap.now w.new.heap m.new.heap c.args.purse.now w.new.purse m.new.purse c.args.self.now w.new.self m.new.self w.ensures.looks m.ensures.pays

pub returns-in-Node-clause-answer : goal.returns-in-Node-clause-answer
returns-in-Node-clause-answer c = λ tree pins stands.
    subst (λ (x : Walked). LedTo c.walk.new.heap c.walk.new.self tree (calls.bind_led tree x) pins (Err EADDRINUSE)) (c.in-Node.ensures.resolved tree pins stands) (refl, c.walk.ensures.looks.stands tree pins stands)

pub returns-in-Named-clause-answer : goal.returns-in-Named-clause-answer
returns-in-Named-clause-answer c = λ tree pins stands.
    subst (λ (x : Walked). LedTo c.walk.new.heap c.walk.new.self tree (calls.bind_led tree x) pins (Err EADDRINUSE)) (c.in-Named.ensures.resolved tree pins stands) (refl, c.walk.ensures.looks.stands tree pins stands)

pub returns-in-Fail-clause-answer : goal.returns-in-Fail-clause-answer
returns-in-Fail-clause-answer c = λ tree pins stands.
    subst (λ (x : Walked). LedTo c.walk.new.heap c.walk.new.self tree (calls.bind_led tree x) pins (Err c.in-Fail.errno)) (c.in-Fail.ensures.resolved tree pins stands) (refl, c.walk.ensures.looks.stands tree pins stands)

pub returns-in-Node-clause-pays : goal.returns-in-Node-clause-pays
returns-in-Node-clause-pays c = pays_of c.args.heap.now c.walk.new.heap c.args.purse.now c.walk.new.purse c.args.self.now c.walk.new.self c.walk.ensures.looks

pub returns-in-Named-clause-pays : goal.returns-in-Named-clause-pays
returns-in-Named-clause-pays c = pays_of c.args.heap.now c.walk.new.heap c.args.purse.now c.walk.new.purse c.args.self.now c.walk.new.self c.walk.ensures.looks

pub returns-in-Fail-clause-pays : goal.returns-in-Fail-clause-pays
returns-in-Fail-clause-pays c = pays_of c.args.heap.now c.walk.new.heap c.args.purse.now c.walk.new.purse c.args.self.now c.walk.new.self c.walk.ensures.looks

pub returns-in-Free-clause-lowest : goal.returns-in-Free-clause-lowest
returns-in-Free-clause-lowest c = lowest_then c.args.self.now.disk.blocks c.walk.new.self.disk.blocks c.make_named.new.self.disk.blocks c.walk.ensures.looks.on.bytes c.make_named.ensures.lowest

pub returns-in-Node-clause-lowest : goal.returns-in-Node-clause-lowest
returns-in-Node-clause-lowest c = unchanged_is_lowest c.args.self.now.disk.blocks c.walk.new.self.disk.blocks c.walk.ensures.looks.on.bytes

pub returns-in-Named-clause-lowest : goal.returns-in-Named-clause-lowest
returns-in-Named-clause-lowest c = unchanged_is_lowest c.args.self.now.disk.blocks c.walk.new.self.disk.blocks c.walk.ensures.looks.on.bytes

pub returns-in-Fail-clause-lowest : goal.returns-in-Fail-clause-lowest
returns-in-Fail-clause-lowest c = unchanged_is_lowest c.args.self.now.disk.blocks c.walk.new.self.disk.blocks c.walk.ensures.looks.on.bytes
