use Rattle.std.proofs.Common.{sym, ◌∙◌, subst}
use Rattle.turn_words.specs.Items.{heard}
use Rattle.turn_words.specs.Seats.{SeatState}
use Rattle.kern_shared.specs.Attends.{HoldsCall}
use Rattle.work_crew.specs.Working.{answered, given_back, served_on}
use Rattle.work_crew.proofs.Working.{any_attend, any_relief, any_release, by_attend, by_release, by_relief, goes_further, held_still, short_stays}
use Rattle.work_crew.proofs.workers.serve.Goals as goal

pub returns-then-not-is_short-clause-goes_on : goal.returns-then-not-is_short-clause-goes_on
returns-then-not-is_short-clause-goes_on g c =
    goes_further _ _ _ c.loop.invariant.goes_on (by_attend _ g.L.RunName.script g.L.RunName.steps _ _ _ _ c.args.pid c.args.call.now c.attend.result c.attend.ensures.attends)

pub returns-then-not-is_short-clause-serves : goal.returns-then-not-is_short-clause-serves
returns-then-not-is_short-clause-serves g c =
    c.loop.invariant.serves _ _ (answered _ _ _ _ c.attend.result (any_attend _ g.L.RunName.script g.L.RunName.steps _ _ _ _ c.args.pid c.args.call.now c.attend.result c.attend.ensures.attends) (sym c.is_short.ensures ∙ c.if-not-is_short.true))

pub returns-then-not-may_help-clause-serves : goal.returns-then-not-may_help-clause-serves
returns-then-not-may_help-clause-serves g c =
    let short = sym c.is_short.ensures ∙ c.if-not-is_short.false in
    let given = c.relieve.ensures.given ∙ c.attend.ensures.given ∙ held_still c.loop.pass.given c.attend.result short ∙ c.loop.invariant.given in
    c.loop.invariant.serves _ _
    (given_back _ c.attend.new.pass.turn c.relieve.new.pass.turn _ _ _ _ c.attend.result c.relieve.result (any_attend _ g.L.RunName.script g.L.RunName.steps _ _ _ _ c.args.pid c.args.call.now c.attend.result c.attend.ensures.attends) short
    (any_relief _ g.L.RunName.script g.L.RunName.steps _ _ _ c.relieve.result c.relieve.ensures.relieves) (sym c.may_help.ensures ∙ c.if-not-may_help.true)
    (any_release _ g.L.RunName.script g.L.RunName.steps _ _ c.relieve.new.pass.given c.args.pid given c.release.ensures.returns))

pub returns-then-not-may_help-clause-goes_on : goal.returns-then-not-may_help-clause-goes_on
returns-then-not-may_help-clause-goes_on g c =
    let short = sym c.is_short.ensures ∙ c.if-not-is_short.false in
    let given = c.relieve.ensures.given ∙ c.attend.ensures.given ∙ held_still c.loop.pass.given c.attend.result short ∙ c.loop.invariant.given in
    goes_further _ _ _ c.loop.invariant.goes_on
    (goes_further _ _ _ (by_attend _ g.L.RunName.script g.L.RunName.steps _ _ _ _ c.args.pid c.args.call.now c.attend.result c.attend.ensures.attends)
    (goes_further _ _ _ (by_relief _ g.L.RunName.script g.L.RunName.steps _ _ _ c.relieve.result c.relieve.ensures.relieves)
    (by_release _ g.L.RunName.script g.L.RunName.steps _ _ c.relieve.new.pass.given c.args.pid given c.release.ensures.returns)))

pub loop-preserved : goal.loop-preserved
loop-preserved g c =
    let short = sym c.is_short.ensures ∙ c.if-not-is_short.false in
    let given = c.attend.ensures.given ∙ held_still c.loop.pass.given c.attend.result short ∙ c.loop.invariant.given in
    record {
      pass = c.relieve.ensures.pass;
      given = c.relieve.ensures.given ∙ given;
      holds = c.relieve.ensures.holds c.args.pid c.args.call.now given
          (subst (λ (s : SeatState _). HoldsCall g.L.RunName.script g.L.RunName.steps (heard s.known.seen) c.args.pid c.args.call.now)
          (sym (short_stays _ g.L.RunName.script g.L.RunName.steps _ _ _ _ c.args.pid c.args.call.now c.attend.result short c.attend.ensures.attends)) c.loop.invariant.holds);
      goes_on = goes_further _ _ _ c.loop.invariant.goes_on
          (goes_further _ _ _ (by_attend _ g.L.RunName.script g.L.RunName.steps _ _ _ _ c.args.pid c.args.call.now c.attend.result c.attend.ensures.attends)
          (by_relief _ g.L.RunName.script g.L.RunName.steps _ _ _ c.relieve.result c.relieve.ensures.relieves));
      serves = λ after is_answered on.
          c.loop.invariant.serves after is_answered
          (served_on _ _ _ _ _ _ _ _ c.attend.result c.relieve.result is_answered (any_attend _ g.L.RunName.script g.L.RunName.steps _ _ _ _ c.args.pid c.args.call.now c.attend.result c.attend.ensures.attends) short
          (any_relief _ g.L.RunName.script g.L.RunName.steps _ _ _ c.relieve.result c.relieve.ensures.relieves) (sym c.may_help.ensures ∙ c.if-not-may_help.false) on);
    }
