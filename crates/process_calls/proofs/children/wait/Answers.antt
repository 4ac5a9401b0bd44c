use Rattle.std.proofs.Common.{◌≡◌, ◌∙◌, ap, pos, cond, refl, subst, sym, w64}
use Rattle.std.proofs.lemmas.Int.{to_z-of_z}
use Rattle.kabi_types.specs.declared.errnos.Errno.TheVariants.{ECHILD}
use Rattle.kabi_types.specs.declared.replies.Reply.TheVariants.{Fail, Val, Waited}
use Rattle.posix_defs.specs.Answer.{Blocked, replied}
use Rattle.posix_defs.specs.Plain.{with_table}
use Rattle.posix_defs.specs.Waiting.{is_nohang}
use Rattle.proc_table.specs.Changes.{reaped_of}
use Rattle.proc_table.specs.Standing.{answered_wait, waited_in}
use Rattle.store_objects.specs.Objects.{procs_of}
use Rattle.process_calls.proofs.Waits.{does_sleep, does_waited, kept_waited, runs_waited}
use Rattle.process_calls.proofs.children.wait.Goals as goal

pub go_on_anew-requires-clause-kept : goal.go_on_anew-requires-clause-kept
go_on_anew-requires-clause-kept c =
    let told : c.wait.result ≡ reaped_of c.args.caller.now.place.pid c.args.which (procs_of c.args.objects.now) =
    subst (λ z. c.wait.result ≡ reaped_of c.args.caller.now.place.pid z (procs_of c.args.objects.now)) (to_z-of_z w64 c.args.which c.ranges.which) c.wait.ensures.answer in
    kept_waited c.args.script.now c.args.objects.now _ c.args.caller.now.place.pid c.args.which c.wait.result c.requires.kept c.wait.ensures.moves refl refl refl refl told c.wait.ensures.gone

pub go_on_anew-requires-in-Nobody-clause-kept : goal.go_on_anew-requires-in-Nobody-clause-kept
go_on_anew-requires-in-Nobody-clause-kept c =
    let told : c.wait.result ≡ reaped_of c.args.caller.now.place.pid c.args.which (procs_of c.args.objects.now) =
    subst (λ z. c.wait.result ≡ reaped_of c.args.caller.now.place.pid z (procs_of c.args.objects.now)) (to_z-of_z w64 c.args.which c.ranges.which) c.wait.ensures.answer in
    kept_waited c.args.script.now c.args.objects.now _ c.args.caller.now.place.pid c.args.which c.wait.result c.requires.kept c.wait.ensures.moves refl refl refl refl told c.wait.ensures.gone

pub go_on_anew-requires-in-NoChild-clause-kept : goal.go_on_anew-requires-in-NoChild-clause-kept
go_on_anew-requires-in-NoChild-clause-kept c =
    let told : c.wait.result ≡ reaped_of c.args.caller.now.place.pid c.args.which (procs_of c.args.objects.now) =
    subst (λ z. c.wait.result ≡ reaped_of c.args.caller.now.place.pid z (procs_of c.args.objects.now)) (to_z-of_z w64 c.args.which c.ranges.which) c.wait.ensures.answer in
    kept_waited c.args.script.now c.args.objects.now _ c.args.caller.now.place.pid c.args.which c.wait.result c.requires.kept c.wait.ensures.moves refl refl refl refl told c.wait.ensures.gone

pub returns-in-Nobody-2-clause-kept : goal.returns-in-Nobody-2-clause-kept
returns-in-Nobody-2-clause-kept c =
    let told : c.wait.result ≡ reaped_of c.args.caller.now.place.pid c.args.which (procs_of c.args.objects.now) =
    subst (λ z. c.wait.result ≡ reaped_of c.args.caller.now.place.pid z (procs_of c.args.objects.now)) (to_z-of_z w64 c.args.which c.ranges.which) c.wait.ensures.answer in
    kept_waited c.args.script.now c.args.objects.now _ c.args.caller.now.place.pid c.args.which c.wait.result c.requires.kept c.wait.ensures.moves refl refl refl refl told c.wait.ensures.gone

pub go_on_anew-requires-clause-runs : goal.go_on_anew-requires-clause-runs
go_on_anew-requires-clause-runs c =
    let told : c.wait.result ≡ reaped_of c.args.caller.now.place.pid c.args.which (procs_of c.args.objects.now) =
    subst (λ z. c.wait.result ≡ reaped_of c.args.caller.now.place.pid z (procs_of c.args.objects.now)) (to_z-of_z w64 c.args.which c.ranges.which) c.wait.ensures.answer in
    runs_waited c.args.script.now c.args.objects.now _ c.args.caller.now.place.pid c.args.caller.now.place.pid c.args.caller.now.control c.args.which c.wait.result c.requires.kept c.requires.runs told c.wait.ensures.gone

pub go_on_anew-requires-in-Nobody-clause-runs : goal.go_on_anew-requires-in-Nobody-clause-runs
go_on_anew-requires-in-Nobody-clause-runs c =
    let told : c.wait.result ≡ reaped_of c.args.caller.now.place.pid c.args.which (procs_of c.args.objects.now) =
    subst (λ z. c.wait.result ≡ reaped_of c.args.caller.now.place.pid z (procs_of c.args.objects.now)) (to_z-of_z w64 c.args.which c.ranges.which) c.wait.ensures.answer in
    runs_waited c.args.script.now c.args.objects.now _ c.args.caller.now.place.pid c.args.caller.now.place.pid c.args.caller.now.control c.args.which c.wait.result c.requires.kept c.requires.runs told c.wait.ensures.gone

pub go_on_anew-requires-in-NoChild-clause-runs : goal.go_on_anew-requires-in-NoChild-clause-runs
go_on_anew-requires-in-NoChild-clause-runs c =
    let told : c.wait.result ≡ reaped_of c.args.caller.now.place.pid c.args.which (procs_of c.args.objects.now) =
    subst (λ z. c.wait.result ≡ reaped_of c.args.caller.now.place.pid z (procs_of c.args.objects.now)) (to_z-of_z w64 c.args.which c.ranges.which) c.wait.ensures.answer in
    runs_waited c.args.script.now c.args.objects.now _ c.args.caller.now.place.pid c.args.caller.now.place.pid c.args.caller.now.control c.args.which c.wait.result c.requires.kept c.requires.runs told c.wait.ensures.gone

pub returns-in-Took-clause-does : goal.returns-in-Took-clause-does
returns-in-Took-clause-does c =
    let told : c.wait.result ≡ reaped_of c.args.caller.now.place.pid c.args.which (procs_of c.args.objects.now) =
    subst (λ z. c.wait.result ≡ reaped_of c.args.caller.now.place.pid z (procs_of c.args.objects.now)) (to_z-of_z w64 c.args.which c.ranges.which) c.wait.ensures.answer in
    does_waited c.args.script.now c.args.objects.now (record { heap = c.wait.new.heap; procs = c.wait.new.self; tree = c.args.objects.now.tree; names = c.args.objects.now.names; fifos = c.args.objects.now.fifos; locks = c.args.objects.now.locks }) c.args.caller.now.place.pid c.args.which c.args.options c.wait.result
    c.wait.ensures.moves refl refl refl refl c.requires.right told c.wait.ensures.gone c.wait.ensures.last c.wait.ensures.table c.wait.ensures.account
    c.go_on_anew.new.objects (Waited c.in-Took.child c.in-Took.status) c.go_on_anew.result c.go_on_anew.ensures.told c.go_on_anew.ensures.goes
    (λ plain. subst (λ t. answered_wait c.args.script.now plain c.args.caller.now.place.pid c.args.options t ≡ replied c.args.script.now (with_table plain (waited_in plain.table t)) c.args.caller.now.place.pid (Waited c.in-Took.child c.in-Took.status)) (sym c.in-Took.is) refl)

pub returns-in-Nobody-clause-does : goal.returns-in-Nobody-clause-does
returns-in-Nobody-clause-does c =
    let told : c.wait.result ≡ reaped_of c.args.caller.now.place.pid c.args.which (procs_of c.args.objects.now) =
    subst (λ z. c.wait.result ≡ reaped_of c.args.caller.now.place.pid z (procs_of c.args.objects.now)) (to_z-of_z w64 c.args.which c.ranges.which) c.wait.ensures.answer in
    let hang : c.is_nohang.result ≡ is_nohang c.args.options =
    subst (λ z. c.is_nohang.result ≡ is_nohang z) (to_z-of_z w64 c.args.options c.ranges.options) c.is_nohang.ensures in
    does_waited c.args.script.now c.args.objects.now (record { heap = c.wait.new.heap; procs = c.wait.new.self; tree = c.args.objects.now.tree; names = c.args.objects.now.names; fifos = c.args.objects.now.fifos; locks = c.args.objects.now.locks }) c.args.caller.now.place.pid c.args.which c.args.options c.wait.result
    c.wait.ensures.moves refl refl refl refl c.requires.right told c.wait.ensures.gone c.wait.ensures.last c.wait.ensures.table c.wait.ensures.account
    c.go_on_anew-in-Nobody.new.objects (Val (pos 0)) c.go_on_anew-in-Nobody.result c.go_on_anew-in-Nobody.ensures.told c.go_on_anew-in-Nobody.ensures.goes
    (λ plain. subst (λ t. answered_wait c.args.script.now plain c.args.caller.now.place.pid c.args.options t ≡ replied c.args.script.now (with_table plain (waited_in plain.table t)) c.args.caller.now.place.pid (Val (pos 0))) (sym c.in-Nobody.is) (ap (λ b. cond b (replied c.args.script.now plain c.args.caller.now.place.pid (Val (pos 0))) Blocked) (sym hang ∙ c.if-is_nohang.true)))

pub returns-in-NoChild-clause-does : goal.returns-in-NoChild-clause-does
returns-in-NoChild-clause-does c =
    let told : c.wait.result ≡ reaped_of c.args.caller.now.place.pid c.args.which (procs_of c.args.objects.now) =
    subst (λ z. c.wait.result ≡ reaped_of c.args.caller.now.place.pid z (procs_of c.args.objects.now)) (to_z-of_z w64 c.args.which c.ranges.which) c.wait.ensures.answer in
    does_waited c.args.script.now c.args.objects.now (record { heap = c.wait.new.heap; procs = c.wait.new.self; tree = c.args.objects.now.tree; names = c.args.objects.now.names; fifos = c.args.objects.now.fifos; locks = c.args.objects.now.locks }) c.args.caller.now.place.pid c.args.which c.args.options c.wait.result
    c.wait.ensures.moves refl refl refl refl c.requires.right told c.wait.ensures.gone c.wait.ensures.last c.wait.ensures.table c.wait.ensures.account
    c.go_on_anew-in-NoChild.new.objects (Fail ECHILD) c.go_on_anew-in-NoChild.result c.go_on_anew-in-NoChild.ensures.told c.go_on_anew-in-NoChild.ensures.goes
    (λ plain. subst (λ t. answered_wait c.args.script.now plain c.args.caller.now.place.pid c.args.options t ≡ replied c.args.script.now (with_table plain (waited_in plain.table t)) c.args.caller.now.place.pid (Fail ECHILD)) (sym c.in-NoChild.is) refl)

pub returns-in-Nobody-2-clause-does : goal.returns-in-Nobody-2-clause-does
returns-in-Nobody-2-clause-does c =
    let told : c.wait.result ≡ reaped_of c.args.caller.now.place.pid c.args.which (procs_of c.args.objects.now) =
    subst (λ z. c.wait.result ≡ reaped_of c.args.caller.now.place.pid z (procs_of c.args.objects.now)) (to_z-of_z w64 c.args.which c.ranges.which) c.wait.ensures.answer in
    let hang : c.is_nohang.result ≡ is_nohang c.args.options =
    subst (λ z. c.is_nohang.result ≡ is_nohang z) (to_z-of_z w64 c.args.options c.ranges.options) c.is_nohang.ensures in
    does_sleep c.args.script.now c.args.objects.now (record { heap = c.wait.new.heap; procs = c.wait.new.self; tree = c.args.objects.now.tree; names = c.args.objects.now.names; fifos = c.args.objects.now.fifos; locks = c.args.objects.now.locks }) c.args.caller.now.place.pid c.args.which c.args.options c.wait.result
    c.wait.ensures.moves refl refl refl refl c.requires.right told c.wait.ensures.gone c.wait.ensures.last c.wait.ensures.table c.wait.ensures.account
    c.in-Nobody.is (sym hang ∙ c.if-is_nohang.false)
