use Rattle.std.proofs.Common.{rules}
use Rattle.turn_words.proofs.Ends.{opens}
use Rattle.turn_words.proofs.turns.Turns.boot.Goals as goal

pub new-requires : goal.new-requires
new-requires g c = opens g.T.Chronicle.stands c.args.value c.push.new.self.items (search rules) c.requires
