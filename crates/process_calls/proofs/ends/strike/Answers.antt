use Rattle.std.proofs.Common.{ap, is_some, refl, sym}
use Rattle.posix_defs.specs.Sizes.{reserve}
use Rattle.store_objects.proofs.Paying.{uses_nothing, uses_then}
use Rattle.process_calls.proofs.Striking.{does_another, does_itself}
use Rattle.process_calls.proofs.ends.strike.Goals as goal

pub key_there-key-requires-clause-stored : goal.key_there-key-requires-clause-stored
key_there-key-requires-clause-stored c = c.requires.stands.1.kept.holds.stored

pub key_there-key-requires-clause-there : goal.key_there-key-requires-clause-there
key_there-key-requires-clause-there c = ap is_some c.requires.there.there

pub end-requires-clause-stands : goal.end-requires-clause-stands
end-requires-clause-stands c = let some = c.requires.stands in (c.args.script.now, some.0, some.1, some.2)

pub returns-then-target-caller-clause-kept : goal.returns-then-target-caller-clause-kept
returns-then-target-caller-clause-kept c = c.end.ensures.kept c.args.script.now c.requires.stands.1.kept

pub returns-then-target-caller-clause-does : goal.returns-then-target-caller-clause-does
returns-then-target-caller-clause-does c = λ named sent.
    does_itself c.args.script.now c.args.objects.now c.end.new.objects c.args.caller.now.place.pid c.args.target c.args.signal named sent _ c.if-target-caller.true (c.end.ensures.dies c.args.script.now) refl

pub go_on_anew-requires-clause-kept : goal.go_on_anew-requires-clause-kept
go_on_anew-requires-clause-kept c = c.end.ensures.kept c.args.script.now c.requires.stands.1.kept

pub go_on_anew-requires-clause-runs : goal.go_on_anew-requires-clause-runs
go_on_anew-requires-clause-runs c = c.end.ensures.others c.requires.other c.args.caller.now.place.pid c.args.caller.now.control (λ same. c.if-target-caller.false (sym same)) c.requires.runs

pub returns-clause-does : goal.returns-clause-does
returns-clause-does c = λ named sent.
    does_another c.args.script.now c.args.objects.now c.end.new.objects c.go_on_anew.new.objects c.args.caller.now.place.pid c.args.target c.args.signal named sent c.go_on_anew.result c.if-target-caller.false
    (c.end.ensures.dies c.args.script.now) c.go_on_anew.ensures.told c.go_on_anew.ensures.goes

pub returns-clause-uses : goal.returns-clause-uses
returns-clause-uses c =
    uses_then c.args.objects.now.heap c.end.new.objects.heap c.go_on_anew.new.objects.heap reserve c.end.ensures.uses
    (uses_nothing c.end.new.objects.heap c.go_on_anew.new.objects.heap 0 reserve c.go_on_anew.ensures.takes)
