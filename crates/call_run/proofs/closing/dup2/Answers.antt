use Rattle.std.proofs.Common.{◌≡◌, ℕ, None, arith, refl, subst, sym, w64}
use Rattle.std.proofs.lemmas.Int.{to_z-of_z}
use Rattle.kabi_types.specs.declared.calls.Call.TheVariants as call
use Rattle.posix_defs.specs.Calls.OnDescriptors.{dup2}
use Rattle.posix_defs.specs.Answer.{replied}
use Rattle.posix_defs.specs.Calls.Opened.{opened_at}
use Rattle.posix_defs.specs.Needs.{bound}
use Rattle.open_laws.specs.Placed.{Numbers}
use Rattle.posix_defs.specs.Plain.{Plain, with_files}
use Rattle.posix_defs.specs.Reaching.{is_on_node}
use Rattle.posix_defs.specs.Sizes.{reserve}
use Rattle.proc_files.specs.Holding.{HoldSome}
use Rattle.proc_files.specs.NameHolding.{HoldNames}
use Rattle.proc_files.specs.NameAnswering.{AnswersClosing}
use Rattle.proc_numbers.specs.Answering.{node_replaced, value_of}
use Rattle.store_objects.proofs.Replying.{no_frames}
use Rattle.store_objects.specs.Trees.{others_in}
use Rattle.store_objects.proofs.StoreFiles.{holds_names}
use Rattle.store_objects.proofs.Keeping.{listed_in}
use Rattle.store_objects.proofs.Paying.{uses_both, uses_nothing, uses_paid}
use Rattle.store_objects.proofs.Within.{within_turns}
use Rattle.store_objects.proofs.CallingOpens.{closes_follow, holds_some_names, kept_mid, mid, runs_mid, serves_naming}
use Rattle.file_calls.proofs.Purses.{can_pay, may_close, uses_back, room_kept}
use Rattle.store_objects.proofs.Reached.{leaves_numbers, second_off, stays_replaced}
use Rattle.call_run.proofs.closing.dup2.Goals as goal

pub dup_number-made-requires-clause-listed : goal.dup_number-made-requires-clause-listed
dup_number-made-requires-clause-listed c = listed_in c.args.script.now c.args.objects.now c.requires.stands.1.kept

pub dup_number-made-requires-clause-owners : goal.dup_number-made-requires-clause-owners
dup_number-made-requires-clause-owners c = c.requires.stands.1.kept.owners

pub dup_number-made-requires-clause-chain : goal.dup_number-made-requires-clause-chain
dup_number-made-requires-clause-chain c = c.requires.stands.1.kept.chain

pub dup_number-made-requires-clause-locked : goal.dup_number-made-requires-clause-locked
dup_number-made-requires-clause-locked c = c.requires.stands.1.kept.locked

pub dup_number-made-requires-clause-hold : goal.dup_number-made-requires-clause-hold
dup_number-made-requires-clause-hold c =
    holds_some_names c.args.script.now c.args.objects.now c.requires.stands.0 c.requires.stands.1 c.requires.stands.2 c.heap_is_well_formed.ensures

pub dup_number-made-requires-clause-may : goal.dup_number-made-requires-clause-may
dup_number-made-requires-clause-may c =
    let purse = c.kept_back-back in
    may_close c.args.objects.now.heap purse.result purse.ensures.value (can_pay c.args.objects.now.heap purse.result purse.ensures.bytes (room_kept c.args.objects.now.heap _ c.requires.room))

pub go_on-requires-clause-kept : goal.go_on-requires-clause-kept
go_on-requires-clause-kept c =
    let n = c.dup_number-made in
    let some = n.ensures.hold in
    kept_mid c.args.script.now c.args.objects.now n.new.heap n.new.tree n.new.names n.new.fifos n.new.locks c.args.caller.now.place.pid c.args.caller.now.control c.requires.stands.1.kept c.requires.runs n.ensures.changes n.ensures.listed n.ensures.owners
    n.ensures.chain n.ensures.locked some.hold.bound n.ensures.places (record { numbers = some.numbers; others = some.others; files = some.files; hold = some.hold.held })

pub go_on-requires-clause-runs : goal.go_on-requires-clause-runs
go_on-requires-clause-runs c =
    let n = c.dup_number-made in
    let some = n.ensures.hold in
    runs_mid c.args.script.now c.args.objects.now n.new.heap n.new.tree n.new.names n.new.fifos n.new.locks c.args.caller.now.place.pid c.args.caller.now.control c.requires.stands.1.kept c.requires.runs n.ensures.changes n.ensures.listed n.ensures.owners
    n.ensures.chain n.ensures.locked some.hold.bound n.ensures.places (record { numbers = some.numbers; others = some.others; files = some.files; hold = some.hold.held })

pub returns-clause-uses : goal.returns-clause-uses
returns-clause-uses c =
    let n = c.dup_number-made in
    let purse = c.kept_back-back in
    let old = c.args.objects.now.heap in
    let pays = n.ensures.paid in
    let bytes = bound (call.Dup2 c.args.on.now.fd c.args.to) in
    let closes = uses_back old pays.mid purse.result purse.result refl purse.ensures.bytes pays.closes in
    let opens = uses_paid pays.mid n.new.heap c.args.purse.now n.new.purse bytes reserve pays.opens c.requires.paid_by in
    let ends = uses_nothing n.new.heap c.go_on.new.objects.heap 0 reserve c.go_on.ensures.takes in
    uses_both old n.new.heap c.go_on.new.objects.heap bytes 0 bytes reserve (uses_both old pays.mid n.new.heap 0 bytes bytes reserve closes opens (omega arith)) ends (omega arith)

pub returns-clause-does : goal.returns-clause-does
returns-clause-does c =
    let script = c.args.script.now in
    let old = c.args.objects.now in
    let pid = c.args.caller.now.place.pid in
    let n = c.dup_number-made in
    let some = n.ensures.hold in
    let kept = c.requires.stands.1.kept in
    let which = call.Dup2 c.args.on.now.fd c.args.to in
    let said = c.value.result in
    let to = to_z-of_z w64 c.args.to c.ranges.to in
    let one : HoldSome n.new.heap old.procs n.new.tree = record { numbers = some.numbers; others = some.others; files = some.files; hold = some.hold.held } in
    let answers : (numbers : Numbers) (others : ℕ → ℕ) (plain : Plain) → HoldNames numbers others old.heap old.procs old.tree old.names plain.files
    → AnswersClosing numbers others old.heap n.new.heap old.locks n.new.locks old.procs n.new.tree n.new.names script plain pid (dup2 script plain pid c.args.on.now.fd c.args.to) said =
    λ numbers others plain hold.
    subst (AnswersClosing numbers others old.heap n.new.heap old.locks n.new.locks old.procs n.new.tree n.new.names script plain pid (dup2 script plain pid c.args.on.now.fd c.args.to)) (sym c.value.ensures)
    (subst (λ z. AnswersClosing numbers others old.heap n.new.heap old.locks n.new.locks old.procs n.new.tree n.new.names script plain pid (dup2 script plain pid c.args.on.now.fd z) (value_of n.result)) to
    (n.ensures.answers numbers others script plain hold)) in
    serves_naming script old n.new.heap n.new.tree n.new.names n.new.fifos n.new.locks pid c.args.caller.now.control kept c.requires.runs n.ensures.changes n.ensures.listed n.ensures.owners n.ensures.chain n.ensures.locked some.hold.bound n.ensures.places one
    which said c.go_on.result c.go_on.new.objects (λ plain. dup2 script plain pid c.args.on.now.fd c.args.to) c.heap_is_well_formed.ensures
    (within_turns old (mid script old n.new.heap n.new.tree n.new.names n.new.fifos n.new.locks pid c.args.caller.now.control kept c.requires.runs n.ensures.changes n.ensures.listed n.ensures.owners n.ensures.chain n.ensures.locked some.hold.bound n.ensures.places one)
    n.ensures.paid.mid c.kept_back-back.result c.args.purse.now n.new.purse which n.ensures.paid.closes n.ensures.paid.opens n.ensures.spent n.ensures.reads)
    n.ensures.queues c.go_on.ensures.told c.go_on.ensures.goes (no_frames which (λ frames pid value. refl) pid said)
    (λ numbers others plain hold. (answers numbers others plain hold).answers)
    (λ world next stands.
    leaves_numbers old (mid script old n.new.heap n.new.tree n.new.names n.new.fifos n.new.locks pid c.args.caller.now.control kept c.requires.runs n.ensures.changes n.ensures.listed n.ensures.owners n.ensures.chain n.ensures.locked some.hold.bound n.ensures.places one)
    world pid which (record { right = refl; paths = refl; leaves = λ plain pid. refl; walks = refl }) said next
    (λ off.
    let first = c.requires.stands in
    let it = (n.ensures.answers first.1.files.numbers (others_in first.0.plain) script first.0.plain (holds_names script old first.0 first.1 c.heap_is_well_formed.ensures first.2)).answers in
    stays_replaced stands.files.numbers old.heap old.procs world.plain.files script first.0.plain it.files pid c.args.on.now.fd c.args.to n.result old.tree n.new.tree _
    (subst (λ z. dup2 script first.0.plain pid c.args.on.now.fd z ≡ replied script (with_files first.0.plain it.files) pid (value_of n.result)) to
    it.replies)
    n.ensures.unchanged (λ same. same.1)
    (subst (λ z. node_replaced old.heap old.procs pid c.args.on.now.fd z ≡ None → n.new.tree ≡ old.tree) to
    n.ensures.stays)
    stands.files.opened (listed_in script old kept) kept.owners (second_off (is_on_node world.plain.files (opened_at world.plain.files pid c.args.on.now.fd)) _ off)))
    (closes_follow script old n.new.heap n.new.tree n.new.names n.new.fifos n.new.locks pid (λ plain. dup2 script plain pid c.args.on.now.fd c.args.to) said c.heap_is_well_formed.ensures answers)
