use Rattle.posix_defs.specs.ScriptValues.{path}
use Rattle.script_words.proofs.operands.two_texts.Goals as goal

pub returns : goal.returns
returns c = c.both.ensures.said (path c.args.first.now) (path c.args.second.now) c.path.ensures c.path-2.ensures
