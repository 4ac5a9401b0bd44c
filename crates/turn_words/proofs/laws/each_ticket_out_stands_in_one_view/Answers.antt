use Rattle.turn_words.proofs.Tickets.{each_ticket}
use Rattle.turn_words.proofs.laws.each_ticket_out_stands_in_one_view.Goals as goal

pub returns : goal.returns
returns g c = each_ticket g.T.Chronicle.stands
