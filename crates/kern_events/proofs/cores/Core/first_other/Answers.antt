use Rattle.std.proofs.Common.{sym, ap, ◌∙◌, slice_get}
use Rattle.posix_defs.specs.Choice.{evicts_in, kills_in}
use Rattle.kern_events.proofs.FirstOther.{first_stays, first_behind, only_first}
use Rattle.kern_events.proofs.cores.Core.first_other.Goals as goal

pub returns-in-Some : goal.returns-in-Some
returns-in-Some g c = λ s at.
    sym (first_stays c.in-Some.event (evicts_in s) (kills_in (g.T.Turner.script c.args.self.now.store) s) (sym (c.in-Some.ensures s at)))

pub returns-in-None : goal.returns-in-None
returns-in-None g c = λ s at.
    let kills = kills_in (g.T.Turner.script c.args.self.now.store) s in
    sym (only_first c.kill_event.result) ∙ ap (λ events. slice_get events 0) (c.kill_event.ensures s at) ∙ sym (first_behind (evicts_in s) kills (sym (c.in-None.ensures s at)))
