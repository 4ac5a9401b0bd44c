use Rattle.std.proofs.Common.{◌≡◌, sym, ap, rules, subst, w64, ◌∙◌}
use Rattle.std.proofs.lemmas.Int.{to_z-of_z}
use mir.Val.{of_z, to_z}
use Rattle.call_run.specs.declared.sleepers.Stirs.TheVariants.{Through}
use Rattle.call_run.specs.Sleepers.{AreMinded, came_of, stirs_of}
use Rattle.call_run.proofs.NoFifo.{empty_is}
use Rattle.call_run.proofs.NoLock.{free_behind, none_is}
use Rattle.call_run.proofs.Minding.{nobody_forgotten, nobody_stirred, through_so}
use Rattle.call_run.proofs.sleepers.Sleepers.stir.Goals as goal

pub touch-requires-clause-behind : goal.touch-requires-clause-behind
touch-requires-clause-behind c =
    let b = c.requires.behind in
    let fd : to_z w64 (of_z w64 c.in-Through.fd) ≡ c.in-Through.fd = search (rules, to_z-of_z) in
    (b.0, b.1, c.args.call.now, b.2, b.3, through_so c.is_empty-2.result c.args.call.now (came_of b.2) (to_z w64 (of_z w64 c.in-Through.fd)) (ap (stirs_of c.is_empty-2.result c.args.call.now) (sym b.4) ∙ sym c.stirs_of.ensures ∙ c.in-Through.is ∙ ap Through (sym fd)))

pub returns-in-Through-clause-minded : goal.returns-in-Through-clause-minded
returns-in-Through-clause-minded c = λ old new told behind came.
    let fd : to_z w64 (of_z w64 c.in-Through.fd) ≡ c.in-Through.fd = search (rules, to_z-of_z) in
    c.touch.ensures.minded old new c.args.call.now told behind
    (through_so c.is_empty-2.result c.args.call.now (came_of told) (to_z w64 (of_z w64 c.in-Through.fd))
    (ap (stirs_of c.is_empty-2.result c.args.call.now) (sym came) ∙ sym c.stirs_of.ensures ∙ c.in-Through.is ∙ ap Through (sym fd)))

pub touch-requires-clause-free : goal.touch-requires-clause-free
touch-requires-clause-free c = none_is c.args.objects.now.locks c.is_empty.result c.is_empty.ensures c.if-not-is_empty.false

pub ask_all-requires-clause-stands : goal.ask_all-requires-clause-stands
ask_all-requires-clause-stands c = let b = c.requires.behind in (b.1, let behind = b.3 in behind.stands)

pub ask_all-requires-in-Everybody-clause-stands : goal.ask_all-requires-in-Everybody-clause-stands
ask_all-requires-in-Everybody-clause-stands c = let b = c.requires.behind in (b.1, let behind = b.3 in behind.stands)

-- where a lock is held all are asked
pub returns-then-not-is_empty-clause-minded : goal.returns-then-not-is_empty-clause-minded
returns-then-not-is_empty-clause-minded c = λ old new told behind came. c.ask_all.ensures.minded new behind.stands behind.reaches

pub returns-then-not-is_empty-clause-up : goal.returns-then-not-is_empty-clause-up
returns-then-not-is_empty-clause-up c = c.ask_all.ensures.fewer c.args.pid c.requires.up

pub returns-in-Everybody-clause-minded : goal.returns-in-Everybody-clause-minded
returns-in-Everybody-clause-minded c = λ old new told behind came. c.ask_all-in-Everybody.ensures.minded new behind.stands behind.reaches

pub returns-in-Everybody-clause-up : goal.returns-in-Everybody-clause-up
returns-in-Everybody-clause-up c = c.ask_all-in-Everybody.ensures.fewer c.args.pid c.requires.up

pub returns-else-gives_number-clause-minded : goal.returns-else-gives_number-clause-minded
returns-else-gives_number-clause-minded c = λ old new told behind came.
    nobody_stirred c.args.script.now c.args.objects.now old new c.args.pid c.args.call.now told _ _ behind c.requires.up
    (free_behind c.args.script.now c.args.objects.now new behind.stands (none_is c.args.objects.now.locks c.is_empty.result c.is_empty.ensures c.if-not-is_empty.false))
    (ap (λ no. stirs_of no c.args.call.now (came_of told)) (sym (c.is_empty-2.ensures ∙ empty_is c.args.script.now c.args.objects.now new behind.stands))
    ∙ ap (stirs_of c.is_empty-2.result c.args.call.now) (sym came) ∙ sym c.stirs_of.ensures ∙ c.in-Nobody.is) (sym c.gives_number.ensures ∙ c.if-gives_number.false)

pub returns-then-gives_number-clause-minded : goal.returns-then-gives_number-clause-minded
returns-then-gives_number-clause-minded c = λ old new told behind came.
    subst (λ ts. AreMinded c.args.script.now new.plain ts c.forget_channels.new.self.channels) (sym c.forget_channels.ensures.told)
    (nobody_forgotten c.args.script.now c.args.objects.now old new c.args.pid c.args.call.now told _ _ behind c.requires.up c.forget_channels.new.self.channels c.forget_channels.ensures.channels
    (free_behind c.args.script.now c.args.objects.now new behind.stands (none_is c.args.objects.now.locks c.is_empty.result c.is_empty.ensures c.if-not-is_empty.false))
    (ap (λ no. stirs_of no c.args.call.now (came_of told)) (sym (c.is_empty-2.ensures ∙ empty_is c.args.script.now c.args.objects.now new behind.stands))
    ∙ ap (stirs_of c.is_empty-2.result c.args.call.now) (sym came) ∙ sym c.stirs_of.ensures ∙ c.in-Nobody.is))
