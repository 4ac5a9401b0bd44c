use Rattle.std.proofs.Common.{◌≡◌, true, sym, subst, rules, w64}
use Rattle.std.proofs.lemmas.Int.{to_z-of_z}
use mir.Val.{of_z, to_z}
use Rattle.waking_laws.specs.Waking.{is_apart}
use Rattle.call_run.specs.declared.sleepers.Sleeper.{Sleeper}
use Rattle.call_run.specs.Sleepers.{IsNear, is_known, is_learned, is_near}
use Rattle.call_run.proofs.Channels.{told_false, told_true}
use Rattle.call_run.proofs.sleepers.look_near.Goals as goal

pub returns-then-sleeper-channel-clause-near : goal.returns-then-sleeper-channel-clause-near
returns-then-sleeper-channel-clause-near c = is_known c.args.sleeper.now (told_true c.args.sleeper.now.apart c.args.channel c.if-sleeper-channel.true)

pub returns-then-is_apart-clause-near : goal.returns-then-is_apart-clause-near
returns-then-is_apart-clause-near c =
    let fd : to_z w64 (of_z w64 c.args.fd) ≡ c.args.fd = search (rules, to_z-of_z) in
    subst (λ (one : Sleeper). IsNear c.args.script.now c.args.objects.now c.args.pid c.args.fd c.args.channel c.args.sleeper.now one _) (sym c.tell_apart.ensures)
    (is_learned c.args.sleeper.now (λ world stands alive.
    subst (λ n. is_apart c.args.script.now world.plain c.args.sleeper.now.pid c.args.pid n ≡ true) fd (c.is_apart.ensures world stands alive c.if-is_apart.true)))

pub returns-clause-near : goal.returns-clause-near
returns-clause-near c =
    subst (λ (one : Sleeper). IsNear c.args.script.now c.args.objects.now c.args.pid c.args.fd c.args.channel c.args.sleeper.now one true) (sym c.ask.ensures.same)
    (is_near c.args.sleeper.now c.ask.new.sleeper.blocks (told_false c.args.sleeper.now.apart c.args.channel c.if-sleeper-channel.false) c.ask.ensures.blocks)
