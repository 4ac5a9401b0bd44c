use Rattle.std.proofs.Common.{ℕ, refl, subst, sym}
use Rattle.kabi_types.specs.declared.calls.Call.TheVariants as call
use Rattle.posix_defs.specs.Calls.OnDescriptors.{close}
use Rattle.open_laws.specs.Placed.{Numbers}
use Rattle.posix_defs.specs.Plain.{Plain}
use Rattle.proc_files.specs.Holding.{HoldSome}
use Rattle.proc_files.specs.NameHolding.{HoldNames}
use Rattle.proc_files.specs.NameAnswering.{AnswersClosing}
use Rattle.store_objects.proofs.Replying.{no_frames}
use Rattle.store_objects.proofs.Keeping.{listed_in}
use Rattle.store_objects.proofs.Paying.{uses_nothing, uses_then}
use Rattle.store_objects.proofs.Within.{within_same}
use Rattle.store_objects.proofs.CallingOpens.{closes_follow, holds_some_names, kept_mid, mid, runs_mid, serves_naming}
use Rattle.file_calls.proofs.Purses.{can_pay, may_close, uses_back}
use Rattle.store_objects.proofs.Reached.{closed_off, first_off, leaves_numbers}
use Rattle.call_run.proofs.closing.close.Goals as goal

pub close_number-closed-requires-clause-listed : goal.close_number-closed-requires-clause-listed
close_number-closed-requires-clause-listed c = listed_in c.args.script.now c.args.objects.now c.requires.stands.1.kept

pub close_number-closed-requires-clause-owners : goal.close_number-closed-requires-clause-owners
close_number-closed-requires-clause-owners c = c.requires.stands.1.kept.owners

pub close_number-closed-requires-clause-chain : goal.close_number-closed-requires-clause-chain
close_number-closed-requires-clause-chain c = c.requires.stands.1.kept.chain

pub close_number-closed-requires-clause-locked : goal.close_number-closed-requires-clause-locked
close_number-closed-requires-clause-locked c = c.requires.stands.1.kept.locked

pub close_number-closed-requires-clause-hold : goal.close_number-closed-requires-clause-hold
close_number-closed-requires-clause-hold c =
    holds_some_names c.args.script.now c.args.objects.now c.requires.stands.0 c.requires.stands.1 c.requires.stands.2 c.heap_is_well_formed.ensures

pub close_number-closed-requires-clause-may : goal.close_number-closed-requires-clause-may
close_number-closed-requires-clause-may c =
    let purse = c.kept_back-purse in
    may_close c.args.objects.now.heap purse.result purse.ensures.value (can_pay c.args.objects.now.heap purse.result purse.ensures.bytes c.requires.room)

pub go_on-requires-clause-kept : goal.go_on-requires-clause-kept
go_on-requires-clause-kept c =
    let n = c.close_number-closed in
    let some = n.ensures.hold in
    kept_mid c.args.script.now c.args.objects.now n.new.heap n.new.tree n.new.names n.new.fifos n.new.locks c.args.caller.now.place.pid c.args.caller.now.control c.requires.stands.1.kept c.requires.runs n.ensures.changes n.ensures.listed n.ensures.owners
    n.ensures.chain n.ensures.locked some.hold.bound n.ensures.places (record { numbers = some.numbers; others = some.others; files = some.files; hold = some.hold.held })

pub go_on-requires-clause-runs : goal.go_on-requires-clause-runs
go_on-requires-clause-runs c =
    let n = c.close_number-closed in
    let some = n.ensures.hold in
    runs_mid c.args.script.now c.args.objects.now n.new.heap n.new.tree n.new.names n.new.fifos n.new.locks c.args.caller.now.place.pid c.args.caller.now.control c.requires.stands.1.kept c.requires.runs n.ensures.changes n.ensures.listed n.ensures.owners
    n.ensures.chain n.ensures.locked some.hold.bound n.ensures.places (record { numbers = some.numbers; others = some.others; files = some.files; hold = some.hold.held })

pub returns-clause-uses : goal.returns-clause-uses
returns-clause-uses c =
    let n = c.close_number-closed in
    let purse = c.kept_back-purse in
    uses_then c.args.objects.now.heap n.new.heap c.go_on.new.objects.heap _
    (uses_back c.args.objects.now.heap n.new.heap purse.result n.new.purse n.ensures.same purse.ensures.bytes n.ensures.paid)
    (uses_nothing n.new.heap c.go_on.new.objects.heap 0 _ c.go_on.ensures.takes)

pub returns-clause-does : goal.returns-clause-does
returns-clause-does c =
    let script = c.args.script.now in
    let old = c.args.objects.now in
    let pid = c.args.caller.now.place.pid in
    let n = c.close_number-closed in
    let some = n.ensures.hold in
    let kept = c.requires.stands.1.kept in
    let which = call.Close c.args.on.now.fd in
    let said = c.zero.result in
    let one : HoldSome n.new.heap old.procs n.new.tree = record { numbers = some.numbers; others = some.others; files = some.files; hold = some.hold.held } in
    let answers : (numbers : Numbers) (others : ℕ → ℕ) (plain : Plain) → HoldNames numbers others old.heap old.procs old.tree old.names plain.files
    → AnswersClosing numbers others old.heap n.new.heap old.locks n.new.locks old.procs n.new.tree n.new.names script plain pid (close script plain pid c.args.on.now.fd) said =
    λ numbers others plain hold.
    subst (AnswersClosing numbers others old.heap n.new.heap old.locks n.new.locks old.procs n.new.tree n.new.names script plain pid (close script plain pid c.args.on.now.fd)) (sym c.zero.ensures)
    (n.ensures.answers numbers others script plain hold) in
    serves_naming script old n.new.heap n.new.tree n.new.names n.new.fifos n.new.locks pid c.args.caller.now.control kept c.requires.runs n.ensures.changes n.ensures.listed n.ensures.owners n.ensures.chain n.ensures.locked some.hold.bound n.ensures.places one
    which said c.go_on.result c.go_on.new.objects (λ plain. close script plain pid c.args.on.now.fd) c.heap_is_well_formed.ensures
    (within_same old (mid script old n.new.heap n.new.tree n.new.names n.new.fifos n.new.locks pid c.args.caller.now.control kept c.requires.runs n.ensures.changes n.ensures.listed n.ensures.owners n.ensures.chain n.ensures.locked some.hold.bound n.ensures.places one)
    c.kept_back-purse.result n.new.purse which n.ensures.paid n.ensures.same n.ensures.reads)
    n.ensures.queues c.go_on.ensures.told c.go_on.ensures.goes (no_frames which (λ frames pid value. refl) pid said)
    (λ numbers others plain hold. (answers numbers others plain hold).answers)
    (λ world next stands.
    leaves_numbers old (mid script old n.new.heap n.new.tree n.new.names n.new.fifos n.new.locks pid c.args.caller.now.control kept c.requires.runs n.ensures.changes n.ensures.listed n.ensures.owners n.ensures.chain n.ensures.locked some.hold.bound n.ensures.places one)
    world pid which (record { right = refl; paths = refl; leaves = λ plain pid. refl; walks = refl }) said next
    (λ off.
    n.ensures.stays
    (closed_off stands.files.numbers old.heap old.procs world.plain.files pid stands.files.opened (listed_in script old kept) kept.owners c.args.on.now.fd (first_off _ _ off))))
    (closes_follow script old n.new.heap n.new.tree n.new.names n.new.fifos n.new.locks pid (λ plain. close script plain pid c.args.on.now.fd) said c.heap_is_well_formed.ensures answers)
