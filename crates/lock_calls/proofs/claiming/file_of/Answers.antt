use Rattle.std.proofs.Common.{None, Some, ap, sym, true, false, ◌∙◌}
use Rattle.proc_files.proofs.Holding.{as_found, held_some, hold_on, on_node, some_on}
use Rattle.proc_files.specs.Holders.{holders}
use Rattle.proc_numbers.proofs.OpenedBy.{is_there}
use Rattle.lock_calls.specs.Claiming.{file_by}
use Rattle.lock_calls.proofs.Claims.{file_at, is_node, no_file_at}
use Rattle.lock_calls.proofs.claiming.file_of.Goals as goal

-- ---- nothing is open, or no node

pub returns-in_default-clause-file : goal.returns-in_default-clause-file
returns-in_default-clause-file c = λ numbers others files hold.
    ap (file_by files) (sym (as_found c.args.heap.now c.args.procs.now c.args.place.pid c.args.on.now c.requires.opened numbers files hold.opened None c.in_default.is))

pub returns-in_default-node_of-clause-file : goal.returns-in_default-node_of-clause-file
returns-in_default-node_of-clause-file c = λ numbers others files hold.
    no_file_at numbers files c.in-Some.found (sym c.node_of.ensures ∙ c.in_default-node_of.is)
    ∙ ap (file_by files) (sym (as_found c.args.heap.now c.args.procs.now c.args.place.pid c.args.on.now c.requires.opened numbers files hold.opened (Some c.in-Some.found) c.in-Some.is))

-- ---- a node

pub stat_node-info-requires : goal.stat_node-info-requires
stat_node-info-requires c =
    held_some c.args.heap.now c.args.procs.now c.args.tree.now c.requires.hold c.in-Some.found.key c.in-Some-node_of.node c.in-Some.found.desc
    (is_there c.args.heap.now c.args.procs.now c.args.place.pid c.args.on.now c.requires.opened c.in-Some.found c.in-Some.is)
    (is_node c.in-Some.found.desc.target c.in-Some-node_of.node (sym c.node_of.ensures ∙ c.in-Some-node_of.is))

pub returns-then-is_directory-clause-file : goal.returns-then-is_directory-clause-file
returns-then-is_directory-clause-file c = λ numbers others files hold.
    file_at numbers files c.in-Some.found c.in-Some-node_of.node true (sym c.node_of.ensures ∙ c.in-Some-node_of.is)
    (sym (c.is_directory.ensures files.tree c.in-Some-node_of.node (c.stat_node-info.ensures.value files.tree (holders others files) hold.tree)) ∙ c.if-is_directory.true)
    ∙ ap (file_by files) (sym (as_found c.args.heap.now c.args.procs.now c.args.place.pid c.args.on.now c.requires.opened numbers files hold.opened (Some c.in-Some.found) c.in-Some.is))

pub returns-then-is_directory-clause-holds : goal.returns-then-is_directory-clause-holds
returns-then-is_directory-clause-holds c = λ numbers others files hold.
    hold_on numbers others c.args.heap.now c.args.procs.now c.args.tree.now c.stat_node-info.new.self files c.stat_node-info.ensures.stands hold

pub returns-then-is_directory-clause-hold : goal.returns-then-is_directory-clause-hold
returns-then-is_directory-clause-hold c = some_on c.args.heap.now c.args.procs.now c.args.tree.now c.stat_node-info.new.self c.stat_node-info.ensures.stands c.requires.hold

pub returns-then-is_directory-clause-stays : goal.returns-then-is_directory-clause-stays
returns-then-is_directory-clause-stays c = λ numbers files have off.
    absurd (on_node numbers files c.args.place.pid c.args.on.now.fd c.in-Some.found c.in-Some-node_of.node
    (as_found c.args.heap.now c.args.procs.now c.args.place.pid c.args.on.now c.requires.opened numbers files have (Some c.in-Some.found) c.in-Some.is)
    (is_node c.in-Some.found.desc.target c.in-Some-node_of.node (sym c.node_of.ensures ∙ c.in-Some-node_of.is)) off)

pub returns-clause-file : goal.returns-clause-file
returns-clause-file c = λ numbers others files hold.
    file_at numbers files c.in-Some.found c.in-Some-node_of.node false (sym c.node_of.ensures ∙ c.in-Some-node_of.is)
    (sym (c.is_directory.ensures files.tree c.in-Some-node_of.node (c.stat_node-info.ensures.value files.tree (holders others files) hold.tree)) ∙ c.if-is_directory.false)
    ∙ ap (file_by files) (sym (as_found c.args.heap.now c.args.procs.now c.args.place.pid c.args.on.now c.requires.opened numbers files hold.opened (Some c.in-Some.found) c.in-Some.is))

pub returns-clause-holds : goal.returns-clause-holds
returns-clause-holds c = λ numbers others files hold.
    hold_on numbers others c.args.heap.now c.args.procs.now c.args.tree.now c.stat_node-info.new.self files c.stat_node-info.ensures.stands hold

pub returns-clause-hold : goal.returns-clause-hold
returns-clause-hold c = some_on c.args.heap.now c.args.procs.now c.args.tree.now c.stat_node-info.new.self c.stat_node-info.ensures.stands c.requires.hold

pub returns-clause-stays : goal.returns-clause-stays
returns-clause-stays c = λ numbers files have off.
    absurd (on_node numbers files c.args.place.pid c.args.on.now.fd c.in-Some.found c.in-Some-node_of.node
    (as_found c.args.heap.now c.args.procs.now c.args.place.pid c.args.on.now c.requires.opened numbers files have (Some c.in-Some.found) c.in-Some.is)
    (is_node c.in-Some.found.desc.target c.in-Some-node_of.node (sym c.node_of.ensures ∙ c.in-Some-node_of.is)) off)
