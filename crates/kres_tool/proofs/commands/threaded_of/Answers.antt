use Rattle.std.proofs.Common.{sym, subst}
use Rattle.std.specs.Prelude.{MatchOption}
use Rattle.kres_tool.specs.declared.commands.Command.TheVariants.{OnScript, Groups}
use Rattle.kres_tool.specs.declared.commands.Task.TheVariants.{Threads}
use Rattle.kres_tool.specs.Words.{Asks, AsksNoThread, command_by}
use Rattle.kres_tool.proofs.Asking.{threads_or_none}
use Rattle.kres_tool.proofs.commands.threaded_of.Goals as goal

pub returns-in-Some : goal.returns-in-Some
returns-in-Some c =
    subst (λ found. MatchOption found (AsksNoThread c.args.words.now) (λ threaded. Asks c.args.words.now (command_by threaded))) (sym c.threaded_by.ensures)
    (threads_or_none c.args.words.now c.in-Some.command c.in-Some.ensures)

pub returns-in-None : goal.returns-in-None
returns-in-None c = record {
  script = λ workers. c.in-None.ensures (OnScript (Threads workers));
  groups = λ workers. c.in-None.ensures (Groups workers);
}
