use Rattle.std.proofs.Common.{◌≡◌, None, [], sym, subst}
use Rattle.call_run.specs.Sleepers.{told_of}
use Rattle.call_run.proofs.Minding.{up_behind}
use Rattle.call_run.proofs.Telling.{names_then, none_without}
use Rattle.call_run.proofs.sleepers.Sleepers.go_on.Goals as goal

pub get_up-requires : goal.get_up-requires
get_up-requires c = c.requires.none

pub stir-requires-clause-behind : goal.stir-requires-clause-behind
stir-requires-clause-behind c =
    let b = c.requires.behind in
    (b.0, b.1, b.2, up_behind c.args.script.now c.args.objects.now b.0 b.1 c.args.pid c.args.call.now b.2 _ _ b.3 _ _ c.get_up.ensures.told c.get_up.ensures.channels, b.4)

pub stir-requires-clause-up : goal.stir-requires-clause-up
stir-requires-clause-up c = subst (λ ts. told_of ts c.args.pid ≡ None) (sym c.get_up.ensures.told) (none_without c.args.self.now.told c.args.pid)

pub returns-clause-minded : goal.returns-clause-minded
returns-clause-minded c = λ old new told behind came.
    c.stir.ensures.minded old new told
    (up_behind c.args.script.now c.args.objects.now old new c.args.pid c.args.call.now told _ _ behind _ _ c.get_up.ensures.told c.get_up.ensures.channels) came

pub returns-clause-named : goal.returns-clause-named
returns-clause-named c = names_then _ _ _ [] _ _ c.get_up.ensures.named c.stir.ensures.named
