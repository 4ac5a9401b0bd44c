use Rattle.std.proofs.Common.{Err, refl, sym, ap, subst}
use Rattle.kabi_types.specs.declared.errnos.Errno.TheVariants.{EBUSY}
use Rattle.posix_defs.specs.PathCalls as calls
use Rattle.posix_defs.specs.Paths.{IsLed, last_name}
use Rattle.posix_defs.specs.declared.walked.Walked.{Walked}
use Rattle.posix_defs.specs.declared.walked.Walked.TheVariants as walked
use Rattle.tree_laws.proofs.PathLeads.{path_led, last_is_entry_name}
use Rattle.blk_map.proofs.Taken.{preferred_then, unchanged_preferred}
use Rattle.memfs_ops.specs.Removing.{ToldTo, is_held}
use Rattle.memfs_ops.proofs.LookLemmas.{pays_of, pays_trans}
use Rattle.memfs_ops.proofs.file_tree.FileTree.rename_from.Goals as goal

pub rename_onto-requires-clause-stands : goal.rename_onto-requires-clause-stands
rename_onto-requires-clause-stands g c =
    let r = c.requires.stands in
    let w : Walked = walked.Named c.in-Named.to c.in-Named.target c.in-Named.node c.in-Named.slash in
    let led : IsLed r.0 w = subst (λ (x : Walked). IsLed r.0 x) (sym (c.in-Named.ensures.resolved r.0 r.1 r.2)) (path_led r.0 c.args.cwd c.args.new.now r.2.is_tree r.3) in
    (r.0, r.1, c.walk.ensures.looks.stands r.0 r.1 r.2, r.4, led.1, r.5, r.6)

pub rename_away-requires-clause-stands : goal.rename_away-requires-clause-stands
rename_away-requires-clause-stands g c =
    let r = c.requires.stands in
    let w : Walked = walked.Free c.in-Free.to c.in-Free.target c.in-Free.slash in
    let led : IsLed r.0 w = subst (λ (x : Walked). IsLed r.0 x) (sym (c.in-Free.ensures.resolved r.0 r.1 r.2)) (path_led r.0 c.args.cwd c.args.new.now r.2.is_tree r.3) in
    (r.0, r.1, c.walk.ensures.looks.stands r.0 r.1 r.2, r.4, led.0, led.1)

pub rename_away-requires-clause-name : goal.rename_away-requires-clause-name
rename_away-requires-clause-name g c =
    let r = c.requires.stands in
    last_is_entry_name r.0 c.args.cwd c.args.new.now c.in-Free.target c.requires.new c.requires.bytes (ap last_name (sym (c.in-Free.ensures.resolved r.0 r.1 r.2)))

pub rename_onto-requires-clause-may : goal.rename_onto-requires-clause-may
rename_onto-requires-clause-may g c = c.walk.ensures.looks.may

pub returns-in-Named-clause-answer : goal.returns-in-Named-clause-answer
returns-in-Named-clause-answer g c = λ tree pins stands.
    let m = c.rename_onto in
    subst (λ (x : Walked). ToldTo m.new.heap m.new.self tree (calls.rename_named tree (is_held pins) (is_held pins) c.args.dir c.args.name.now c.args.number x) pins m.result) (c.in-Named.ensures.resolved tree pins stands)
    (m.ensures.answer tree pins (c.walk.ensures.looks.stands tree pins stands))

pub returns-in-Named-clause-pays : goal.returns-in-Named-clause-pays
returns-in-Named-clause-pays g c =
    let w = c.walk in
    let m = c.rename_onto in
    pays_trans c.args.heap.now w.new.heap m.new.heap c.args.purse.now w.new.purse m.new.purse c.args.self.now w.new.self m.new.self w.ensures.looks m.ensures.pays

pub rename_away-requires-clause-may : goal.rename_away-requires-clause-may
rename_away-requires-clause-may g c = c.walk.ensures.looks.may

pub returns-in-Free-clause-answer : goal.returns-in-Free-clause-answer
returns-in-Free-clause-answer g c = λ tree pins stands.
    let m = c.rename_away in
    subst (λ (x : Walked). ToldTo m.new.heap m.new.self tree (calls.rename_named tree (is_held pins) (is_held pins) c.args.dir c.args.name.now c.args.number x) pins m.result) (c.in-Free.ensures.resolved tree pins stands)
    (m.ensures.answer tree pins (c.walk.ensures.looks.stands tree pins stands))

pub returns-in-Free-clause-pays : goal.returns-in-Free-clause-pays
returns-in-Free-clause-pays g c =
    let w = c.walk in
    let m = c.rename_away in
    pays_trans c.args.heap.now w.new.heap m.new.heap c.args.purse.now w.new.purse m.new.purse c.args.self.now w.new.self m.new.self w.ensures.looks m.ensures.pays

pub returns-in-Node-clause-answer : goal.returns-in-Node-clause-answer
returns-in-Node-clause-answer g c = λ tree pins stands.
    subst (λ (x : Walked). ToldTo c.walk.new.heap c.walk.new.self tree (calls.rename_named tree (is_held pins) (is_held pins) c.args.dir c.args.name.now c.args.number x) pins (Err EBUSY)) (c.in-Node.ensures.resolved tree pins stands) (refl, c.walk.ensures.looks.stands tree pins stands)

pub returns-in-Node-clause-pays : goal.returns-in-Node-clause-pays
returns-in-Node-clause-pays g c = pays_of c.args.heap.now c.walk.new.heap c.args.purse.now c.walk.new.purse c.args.self.now c.walk.new.self c.walk.ensures.looks

pub returns-in-Fail-clause-answer : goal.returns-in-Fail-clause-answer
returns-in-Fail-clause-answer g c = λ tree pins stands.
    subst (λ (x : Walked). ToldTo c.walk.new.heap c.walk.new.self tree (calls.rename_named tree (is_held pins) (is_held pins) c.args.dir c.args.name.now c.args.number x) pins (Err c.in-Fail.errno)) (c.in-Fail.ensures.resolved tree pins stands) (refl, c.walk.ensures.looks.stands tree pins stands)

pub returns-in-Fail-clause-pays : goal.returns-in-Fail-clause-pays
returns-in-Fail-clause-pays g c = pays_of c.args.heap.now c.walk.new.heap c.args.purse.now c.walk.new.purse c.args.self.now c.walk.new.self c.walk.ensures.looks

pub returns-in-Named-clause-lowest : goal.returns-in-Named-clause-lowest
returns-in-Named-clause-lowest g c = preferred_then c.args.self.now.disk.blocks c.walk.new.self.disk.blocks c.rename_onto.new.self.disk.blocks (c.walk.ensures.looks.on.bytes) c.rename_onto.ensures.lowest

pub returns-in-Free-clause-lowest : goal.returns-in-Free-clause-lowest
returns-in-Free-clause-lowest g c = preferred_then c.args.self.now.disk.blocks c.walk.new.self.disk.blocks c.rename_away.new.self.disk.blocks (c.walk.ensures.looks.on.bytes) c.rename_away.ensures.lowest

pub returns-in-Node-clause-lowest : goal.returns-in-Node-clause-lowest
returns-in-Node-clause-lowest g c = unchanged_preferred c.args.self.now.disk.blocks c.walk.new.self.disk.blocks (c.walk.ensures.looks.on.bytes)

pub returns-in-Fail-clause-lowest : goal.returns-in-Fail-clause-lowest
returns-in-Fail-clause-lowest g c = unchanged_preferred c.args.self.now.disk.blocks c.walk.new.self.disk.blocks (c.walk.ensures.looks.on.bytes)
