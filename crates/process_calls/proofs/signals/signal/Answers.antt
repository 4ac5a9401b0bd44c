use Rattle.std.proofs.Common.{◌≡◌, ◌∙◌, ap, subst, w64}
use Rattle.std.proofs.lemmas.Int.{to_z-of_z}
use mir.Val.{of_z, to_z}
use Rattle.kabi_types.specs.Arguments.{count_of}
use Rattle.posix_defs.specs.Process.{ignores_of}
use Rattle.posix_defs.specs.Signals.{is_ignored, sig_ign}
use Rattle.store_objects.specs.Standing.{StandsFor, disposed_in}
use Rattle.process_calls.proofs.Signalling.{does_signal, told_whole}
use Rattle.process_calls.proofs.signals.signal.Goals as goal

pub go_on-requires-clause-kept : goal.go_on-requires-clause-kept
go_on-requires-clause-kept c = c.dispose-before.ensures.kept c.args.script.now c.requires.kept

pub returns-clause-does : goal.returns-clause-does
returns-clause-does c =
    let script = c.args.script.now in
    let old = c.args.objects.now in
    let mid = c.dispose-before.new.objects in
    let pid = c.args.caller.now.place.pid in
    let which = to_z-of_z w64 c.args.which c.ranges.which in
    does_signal script old mid c.go_on.new.objects pid c.args.which c.args.disposition c.is_ignoring.result c.dispose-before.result (to_z w64 (of_z w64 c.disposition_of.result)) c.go_on.result
    (λ world stands. subst (λ z. c.dispose-before.result ≡ is_ignored (ignores_of world.plain.table pid) (count_of z)) which (c.dispose-before.ensures.before script world stands))
    (λ world stands. subst (λ z. StandsFor script mid (disposed_in world pid (count_of z) c.is_ignoring.result)) which (c.dispose-before.ensures.stands script world stands))
    (c.is_ignoring.ensures ∙ ap sig_ign (to_z-of_z w64 c.args.disposition c.ranges.disposition))
    (ap (λ z. to_z w64 (of_z w64 z)) c.disposition_of.ensures ∙ told_whole c.dispose-before.result) c.go_on.ensures.told c.go_on.ensures.goes
