use Rattle.std.proofs.Common.{ap, sym, subst, ◌∙◌}
use Rattle.posix_defs.specs.Files.State.{is_number}
use Rattle.path_calls.specs.Nodes.{Adds}
use Rattle.path_calls.proofs.Adding.{added_none}
use Rattle.path_calls.proofs.held.add_opened.Goals as goal

pub returns-in-Some : goal.returns-in-Some
returns-in-Some c =
    subst (λ o. Adds c.args.nodes.now c.add.new.self (λ number. is_number number o)) (sym c.in-Some.is ∙ c.node_of.ensures) c.add.ensures

pub returns-in_default : goal.returns-in_default
returns-in_default c =
    subst (λ o. Adds c.args.nodes.now c.args.nodes.now (λ number. is_number number o)) (sym c.in_default.is ∙ c.node_of.ensures) (added_none c.args.nodes.now)
