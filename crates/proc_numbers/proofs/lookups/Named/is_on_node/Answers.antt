use Rattle.std.proofs.Common.{◌∙◌, ap, sym}
use Rattle.std.specs.Option.{option_map}
use Rattle.proc_numbers.specs.Found.{held_in, is_in_tree, opened_in}
use Rattle.proc_numbers.proofs.OnNodes.{off_named_node, off_unnamed, on_named_node, tells_target}
use Rattle.proc_numbers.proofs.OpenedBy.{is_held, is_none, is_there, opened_is}
use Rattle.proc_numbers.proofs.lookups.Named.is_on_node.Goals as goal

pub returns-in-Some-clause-tells : goal.returns-in-Some-clause-tells
returns-in-Some-clause-tells c = λ h kept pid numbers files opened have.
    c.is_node.ensures ∙ tells_target numbers c.in-Some.found.desc.target
    ∙ sym (ap is_in_tree (opened_is h kept pid c.args.self.now opened numbers files have ∙ ap (option_map (opened_in numbers)) c.in-Some.is))

pub returns-in-None-clause-tells : goal.returns-in-None-clause-tells
returns-in-None-clause-tells c = λ h kept pid numbers files opened have.
    sym (ap is_in_tree (opened_is h kept pid c.args.self.now opened numbers files have ∙ ap (option_map (opened_in numbers)) c.in-None.is))

pub returns-in-Some-clause-on : goal.returns-in-Some-clause-on
returns-in-Some-clause-on c = λ h kept pid opened tells.
    on_named_node h kept pid c.args.self.now.fd (held_in c.in-Some.found) c.in-Some.found.desc (is_held h kept pid c.args.self.now opened c.in-Some.found c.in-Some.is)
    (is_there h kept pid c.args.self.now opened c.in-Some.found c.in-Some.is) (sym c.is_node.ensures ∙ tells)

pub returns-in-Some-clause-off : goal.returns-in-Some-clause-off
returns-in-Some-clause-off c = λ h kept pid opened tells.
    off_named_node h kept pid c.args.self.now.fd (held_in c.in-Some.found) c.in-Some.found.desc (is_held h kept pid c.args.self.now opened c.in-Some.found c.in-Some.is)
    (is_there h kept pid c.args.self.now opened c.in-Some.found c.in-Some.is) (sym c.is_node.ensures ∙ tells)

pub returns-in-None-clause-off : goal.returns-in-None-clause-off
returns-in-None-clause-off c = λ h kept pid opened tells. off_unnamed h kept pid c.args.self.now.fd (is_none h kept pid c.args.self.now opened c.in-None.is)
