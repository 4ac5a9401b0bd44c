use Rattle.group_heap.proofs.Telling.{keeps_groups}
use Rattle.group_heap.proofs.laws.groups_keep_the_headline.Goals as goal

pub returns : goal.returns
returns g c = λ whole sections text valid is. keeps_groups g.T.Turner.stands g.T.Turner.marks g.T.Turner.high whole sections text valid is
