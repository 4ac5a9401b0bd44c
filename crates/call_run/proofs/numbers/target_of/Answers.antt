use Rattle.std.proofs.Common.{◌≡◌, ◌∙◌, false, refl, sym, true}
use Rattle.call_run.proofs.OnFiles.{fresh_on, off_files, on_file, other_fresh, other_on}
use Rattle.call_run.proofs.numbers.target_of.Goals as goal

pub returns-then-not-moves-clause-other : goal.returns-then-not-moves-clause-other
returns-then-not-moves-clause-other c = λ still. refl

pub returns-then-not-moves-clause-on : goal.returns-then-not-moves-clause-on
returns-then-not-moves-clause-on c = λ h kept pid opened numbered file. other_on h kept pid c.args.call.now (sym c.moves.ensures ∙ c.if-not-moves.true)

pub returns-then-not-moves-clause-off : goal.returns-then-not-moves-clause-off
returns-then-not-moves-clause-off c = λ h kept pid opened numbered queue. cc

pub returns-then-not-moves-clause-fresh : goal.returns-then-not-moves-clause-fresh
returns-then-not-moves-clause-fresh c = λ script objects world pid moved opened numbered file stands half. other_fresh c.args.call.now (sym c.moves.ensures ∙ c.if-not-moves.true)

pub returns-then-is_on_node-clause-other : goal.returns-then-is_on_node-clause-other
returns-then-is_on_node-clause-other c = λ still. refl

pub returns-then-is_on_node-clause-on : goal.returns-then-is_on_node-clause-on
returns-then-is_on_node-clause-on c = λ h kept pid opened numbered file.
    on_file h kept pid c.args.call.now c.args.on.now.fd numbered (c.is_on_node.ensures.on h kept pid opened c.if-is_on_node.true)

pub returns-then-is_on_node-clause-off : goal.returns-then-is_on_node-clause-off
returns-then-is_on_node-clause-off c = λ h kept pid opened numbered queue. cc

pub returns-then-is_on_node-clause-fresh : goal.returns-then-is_on_node-clause-fresh
returns-then-is_on_node-clause-fresh c = λ script objects world pid moved opened numbered file stands half.
    fresh_on world.plain.files pid c.args.call.now c.args.on.now.fd moved numbered
    (sym (c.is_on_node.ensures.tells objects.heap objects.procs pid stands.files.numbers world.plain.files opened stands.files.opened) ∙ c.if-is_on_node.true) half

pub returns-else-is_on_node-clause-other : goal.returns-else-is_on_node-clause-other
returns-else-is_on_node-clause-other c = λ still. absurd (let both : true ≡ false = sym c.if-not-moves.false ∙ c.moves.ensures ∙ still in cc)

pub returns-else-is_on_node-clause-on : goal.returns-else-is_on_node-clause-on
returns-else-is_on_node-clause-on c = λ h kept pid opened numbered file. cc

pub returns-else-is_on_node-clause-off : goal.returns-else-is_on_node-clause-off
returns-else-is_on_node-clause-off c = λ h kept pid opened numbered queue.
    off_files h kept pid c.args.call.now c.args.on.now.fd numbered (c.is_on_node.ensures.off h kept pid opened c.if-is_on_node.false)

pub returns-else-is_on_node-clause-fresh : goal.returns-else-is_on_node-clause-fresh
returns-else-is_on_node-clause-fresh c = λ script objects world pid moved opened numbered file stands half. cc
