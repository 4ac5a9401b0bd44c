use Rattle.std.proofs.Common.{◌≡◌, ◌∙◌, ◌<◌, ◌≤◌, pos, refl, Ok, sym, ap, subst, w64, arith}
use Rattle.std.specs.Int.{cast_unsigned}
use Rattle.std.proofs.lemmas.Int.{to_z-of_z}
use Rattle.kabi_types.specs.Arguments.{count_of}
use Rattle.kabi_types.specs.declared.calls.Call.TheVariants as call
use Rattle.kabi_types.specs.declared.replies.Reply.TheVariants.{Fail, Val}
use Rattle.posix_defs.specs.Killing.{kill, struck}
use Rattle.posix_defs.specs.Plain.{Plain}
use Rattle.posix_defs.specs.Sizes.{reserve}
use Rattle.proc_table.specs.Procs.{IsAlive}
use Rattle.proc_table.specs.Standing.{IsTable, answered_by, pid_of}
use Rattle.store_objects.specs.Objects.{procs_of}
use Rattle.store_objects.specs.Walking.{Serves}
use Rattle.process_calls.proofs.EndingOthers.{alive_made}
use Rattle.store_objects.proofs.Paying.{uses_nothing}
use Rattle.process_calls.proofs.Striking.{IsStruck, answered_as, does_strike, does_tell, few_signals, number_of, struck_by}
use Rattle.process_calls.proofs.ends.signal_process.Goals as goal

pub overflow_cast-number : goal.overflow_cast-number
overflow_cast-number c =
    let objects = c.args.objects.now in
    let it : IsStruck (procs_of objects) c.args.target =
    struck_by (procs_of objects) c.args.target c.args.signal _ _ c.may_kill.result c.in-Ok-true.field-0 (to_z-of_z w64 c.args.target c.ranges.target) (to_z-of_z w64 c.args.signal c.ranges.signal)
    c.may_kill.ensures.verdict c.in-Ok-true.is c.in-Ok-true.field-0-test in
    let number : c.cast_unsigned.result ≡ pid_of c.args.target =
    number_of c.args.target c.cast_unsigned.result (c.cast_unsigned.ensures ∙ ap (cast_unsigned w64) (to_z-of_z w64 c.args.target c.ranges.target)) it.same in
    let made : pid_of c.args.target ≤ objects.procs.last = alive_made objects (pid_of c.args.target) c.requires.stands.1.kept.holds it.alive in
    let most : objects.procs.last < 4294967296 = c.pids_have_32_bits.ensures in
    record { fits = omega arith }

pub strike-requires-clause-other : goal.strike-requires-clause-other
strike-requires-clause-other c =
    let objects = c.args.objects.now in
    let it : IsStruck (procs_of objects) c.args.target =
    struck_by (procs_of objects) c.args.target c.args.signal _ _ c.may_kill.result c.in-Ok-true.field-0 (to_z-of_z w64 c.args.target c.ranges.target) (to_z-of_z w64 c.args.signal c.ranges.signal)
    c.may_kill.ensures.verdict c.in-Ok-true.is c.in-Ok-true.field-0-test in
    let number : c.cast_unsigned.result ≡ pid_of c.args.target =
    number_of c.args.target c.cast_unsigned.result (c.cast_unsigned.ensures ∙ ap (cast_unsigned w64) (to_z-of_z w64 c.args.target c.ranges.target)) it.same in
    λ same. it.other (sym number ∙ same)

pub strike-requires-clause-there : goal.strike-requires-clause-there
strike-requires-clause-there c =
    let objects = c.args.objects.now in
    let it : IsStruck (procs_of objects) c.args.target =
    struck_by (procs_of objects) c.args.target c.args.signal _ _ c.may_kill.result c.in-Ok-true.field-0 (to_z-of_z w64 c.args.target c.ranges.target) (to_z-of_z w64 c.args.signal c.ranges.signal)
    c.may_kill.ensures.verdict c.in-Ok-true.is c.in-Ok-true.field-0-test in
    let number : c.cast_unsigned.result ≡ pid_of c.args.target =
    number_of c.args.target c.cast_unsigned.result (c.cast_unsigned.ensures ∙ ap (cast_unsigned w64) (to_z-of_z w64 c.args.target c.ranges.target)) it.same in
    subst (IsAlive (procs_of objects)) (sym number) it.alive

pub signalled-status-requires : goal.signalled-status-requires
signalled-status-requires c = subst (λ z. count_of z < 65536) (sym (to_z-of_z w64 c.args.signal c.ranges.signal)) (few_signals c.args.target c.args.signal c.requires.right)

pub returns-in-Err-clause-does : goal.returns-in-Err-clause-does
returns-in-Err-clause-does c =
    let script = c.args.script.now in
    let objects = c.args.objects.now in
    let pid = c.args.caller.now.place.pid in
    let answers : (plain : Plain) → IsTable objects.heap objects.procs plain.table → kill script plain pid c.args.target c.args.signal ≡ answered_by script plain pid c.args.target c.args.signal c.may_kill.result = λ plain is.
    answered_as script plain pid c.args.target c.args.signal _ _ c.may_kill.result (to_z-of_z w64 c.args.target c.ranges.target) (to_z-of_z w64 c.args.signal c.ranges.signal)
    (c.may_kill.ensures.kill script plain is) in
    does_tell script objects c.go_on.new.objects pid c.args.target c.args.signal (Fail c.in-Err.errno) c.go_on.result
    (λ plain is. answers plain is ∙ ap (answered_by script plain pid c.args.target c.args.signal) c.in-Err.is) c.go_on.ensures.told (λ frames. refl) c.go_on.ensures.goes

pub returns-in-Ok-false-clause-does : goal.returns-in-Ok-false-clause-does
returns-in-Ok-false-clause-does c =
    let script = c.args.script.now in
    let objects = c.args.objects.now in
    let pid = c.args.caller.now.place.pid in
    let answers : (plain : Plain) → IsTable objects.heap objects.procs plain.table → kill script plain pid c.args.target c.args.signal ≡ answered_by script plain pid c.args.target c.args.signal c.may_kill.result = λ plain is.
    answered_as script plain pid c.args.target c.args.signal _ _ c.may_kill.result (to_z-of_z w64 c.args.target c.ranges.target) (to_z-of_z w64 c.args.signal c.ranges.signal)
    (c.may_kill.ensures.kill script plain is) in
    does_tell script objects c.go_on-in-Ok-false.new.objects pid c.args.target c.args.signal (Val (pos 0)) c.go_on-in-Ok-false.result
    (λ plain is. answers plain is ∙ ap (answered_by script plain pid c.args.target c.args.signal) (c.in-Ok-false.is ∙ ap Ok c.in-Ok-false.field-0-test)) c.go_on-in-Ok-false.ensures.told (λ frames. refl) c.go_on-in-Ok-false.ensures.goes

pub returns-in-Ok-true-clause-does : goal.returns-in-Ok-true-clause-does
returns-in-Ok-true-clause-does c =
    let script = c.args.script.now in
    let objects = c.args.objects.now in
    let pid = c.args.caller.now.place.pid in
    let it : IsStruck (procs_of objects) c.args.target =
    struck_by (procs_of objects) c.args.target c.args.signal _ _ c.may_kill.result c.in-Ok-true.field-0 (to_z-of_z w64 c.args.target c.ranges.target) (to_z-of_z w64 c.args.signal c.ranges.signal)
    c.may_kill.ensures.verdict c.in-Ok-true.is c.in-Ok-true.field-0-test in
    let number : c.cast_unsigned.result ≡ pid_of c.args.target =
    number_of c.args.target c.cast_unsigned.result (c.cast_unsigned.ensures ∙ ap (cast_unsigned w64) (to_z-of_z w64 c.args.target c.ranges.target)) it.same in
    let answers : (plain : Plain) → IsTable objects.heap objects.procs plain.table → kill script plain pid c.args.target c.args.signal ≡ answered_by script plain pid c.args.target c.args.signal c.may_kill.result = λ plain is.
    answered_as script plain pid c.args.target c.args.signal _ _ c.may_kill.result (to_z-of_z w64 c.args.target c.ranges.target) (to_z-of_z w64 c.args.signal c.ranges.signal)
    (c.may_kill.ensures.kill script plain is) in
    does_strike script objects c.strike.new.objects pid c.args.target c.args.signal c.strike.result
    (λ plain is. answers plain is ∙ ap (answered_by script plain pid c.args.target c.args.signal) (c.in-Ok-true.is ∙ ap Ok c.in-Ok-true.field-0-test))
    (subst (λ n. Serves script objects pid (call.Kill c.args.target c.args.signal) (λ plain. struck script plain pid n (count_of c.args.signal)) c.strike.result c.strike.new.objects) number
    (subst (λ n. Serves script objects pid (call.Kill c.args.target c.args.signal) (λ plain. struck script plain pid c.cast_unsigned.result n) c.strike.result c.strike.new.objects) (c.signalled-status.ensures ∙ ap count_of (to_z-of_z w64 c.args.signal c.ranges.signal))
    (c.strike.ensures.does c.args.target c.args.signal)))

pub returns-in-Err-clause-uses : goal.returns-in-Err-clause-uses
returns-in-Err-clause-uses c = uses_nothing c.args.objects.now.heap c.go_on.new.objects.heap 0 reserve c.go_on.ensures.takes

pub returns-in-Ok-false-clause-uses : goal.returns-in-Ok-false-clause-uses
returns-in-Ok-false-clause-uses c = uses_nothing c.args.objects.now.heap c.go_on-in-Ok-false.new.objects.heap 0 reserve c.go_on-in-Ok-false.ensures.takes
