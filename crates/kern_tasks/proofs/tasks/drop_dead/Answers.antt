use Rattle.std.proofs.Common.{not, rules, tests}
use Rattle.std.proofs.lemmas.List.Elements.{filter_from_retain}
use Rattle.posix_defs.specs.CoreEvent.{is_dead}
use Rattle.kern_tasks.proofs.tasks.drop_dead.Goals as goal

pub returns-clause-items : goal.returns-clause-items
returns-clause-items c =
    filter_from_retain _ (λ task. not (is_dead task.phase)) (λ p x b q k. search (rules, tests)) _ c.args.tasks.now.items c.retain.new.self.items c.retain.ensures.filtered
