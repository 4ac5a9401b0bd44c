use Rattle.std.proofs.Common.{ap, sym, ◌∙◌}
use Rattle.lock_calls.specs.Claiming.{all_wanted}
use Rattle.lock_calls.specs.Waiting.{is_held_up}
use Rattle.lock_calls.proofs.Holders.{held_so}
use Rattle.lock_calls.proofs.waits.is_held_up.Goals as goal

pub is_stopped-requires : goal.is_stopped-requires
is_stopped-requires c = c.requires.kept.1.locked

pub returns-in-Some : goal.returns-in-Some
returns-in-Some c = λ script world stands sound.
    c.is_stopped.ensures world.plain.files.locks stands.locks ∙ sym (held_so world.plain.files sound.locks c.args.place.pid c.in-Some.wanted)
    ∙ ap (is_held_up world.plain.files.locks c.args.place.pid) (ap (all_wanted world.plain.files.tree) (sym c.in-Some.is)
    ∙ c.wanted_on.ensures c.args.objects.now.heap c.args.objects.now.procs c.args.place.pid stands.files.numbers world.plain.files c.requires.opened stands.files.opened)

pub returns-in-None : goal.returns-in-None
returns-in-None c = λ script world stands sound.
    ap (is_held_up world.plain.files.locks c.args.place.pid) (ap (all_wanted world.plain.files.tree) (sym c.in-None.is)
    ∙ c.wanted_on.ensures c.args.objects.now.heap c.args.objects.now.procs c.args.place.pid stands.files.numbers world.plain.files c.requires.opened stands.files.opened)
