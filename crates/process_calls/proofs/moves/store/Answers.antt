use Rattle.std.proofs.Common.{◌≡◌, ◌<◌, ◌≤◌, ◌∙◌, ℕ, List, arith, length, pos, refl, subst, sym, w64}
use Rattle.std.proofs.lemmas.Int.{to_z-of_z, to_z_pos}
use mir.Val.{to_z}
use Rattle.kabi_types.specs.Arguments.{count_of}
use Rattle.kabi_types.specs.declared.calls.Call.TheVariants as call
use Rattle.kabi_types.specs.declared.replies.Reply.TheVariants.{Fail, Val}
use Rattle.kheap_laws.proofs.PaidLemmas.{IsPaid-nothing, IsPaid-trans}
use Rattle.posix_defs.specs.Answer.{replied}
use Rattle.posix_defs.specs.Memory.{stored}
use Rattle.posix_defs.specs.MemoryCalls.{remembered, store}
use Rattle.posix_defs.specs.Process.{memory_of}
use Rattle.store_objects.specs.Standing.{Performs}
use Rattle.store_objects.proofs.Replies.{GoesOn}
use Rattle.process_calls.proofs.MemoryMoves.{does_fault, does_store}
use Rattle.store_objects.proofs.Callers.{placed_on}
use Rattle.process_calls.proofs.moves.store.Goals as goal

number : (n : ℕ) → n ≤ 64 → to_z w64 n ≡ pos n
number n few = to_z_pos w64 n (omega arith)

pub go_on-requires-clause-kept : goal.go_on-requires-clause-kept
go_on-requires-clause-kept c = c.put.ensures.kept c.args.script.now c.requires.kept

pub go_on-requires-clause-runs : goal.go_on-requires-clause-runs
go_on-requires-clause-runs c = c.put.ensures.runs c.args.caller.now.control c.requires.runs

pub go_on-requires-in-Err-clause-kept : goal.go_on-requires-in-Err-clause-kept
go_on-requires-in-Err-clause-kept c = c.put.ensures.kept c.args.script.now c.requires.kept

pub go_on-requires-in-Err-clause-runs : goal.go_on-requires-in-Err-clause-runs
go_on-requires-in-Err-clause-runs c = c.put.ensures.runs c.args.caller.now.control c.requires.runs

pub returns-in-Ok-clause-paid : goal.returns-in-Ok-clause-paid
returns-in-Ok-clause-paid c =
    IsPaid-trans c.args.objects.now.heap c.args.purse.now c.put.new.objects.heap c.put.new.purse c.go_on.new.objects.heap c.put.new.purse c.put.ensures.paid
    (IsPaid-nothing c.put.new.objects.heap c.go_on.new.objects.heap c.put.new.purse c.put.new.purse c.go_on.ensures.takes refl refl)

pub returns-in-Err-clause-paid : goal.returns-in-Err-clause-paid
returns-in-Err-clause-paid c =
    IsPaid-trans c.args.objects.now.heap c.args.purse.now c.put.new.objects.heap c.put.new.purse c.go_on-in-Err.new.objects.heap c.put.new.purse c.put.ensures.paid
    (IsPaid-nothing c.put.new.objects.heap c.go_on-in-Err.new.objects.heap c.put.new.purse c.put.new.purse c.go_on-in-Err.ensures.takes refl refl)

pub returns-in-Ok-clause-does : goal.returns-in-Ok-clause-does
returns-in-Ok-clause-does c =
    let same : c.items-bytes.result.now ≡ c.args.bytes.now = c.items-bytes.ensures.same in
    let begins : 0 < length c.items-bytes.result.now → c.start_of-start.result ≡ count_of c.args.addr =
    subst (λ z. 0 < length c.items-bytes.result.now → c.start_of-start.result ≡ count_of z) (to_z-of_z w64 c.args.addr c.ranges.addr) c.start_of-start.ensures.start in
    subst (λ (list : List ℕ). Performs c.args.script.now c.args.objects.now c.args.caller.now.place.pid (call.Store c.args.addr list) (λ plain. store c.args.script.now plain c.args.caller.now.place.pid c.args.addr list) c.go_on.result c.go_on.new.objects) same
    (does_store c.args.script.now c.args.objects.now c.put.new.objects c.go_on.new.objects c.args.caller.now.place.pid c.args.addr c.items-bytes.result.now c.start_of-start.result _ c.go_on.result
    begins (number (length c.items-bytes.result.now) (let few : length c.args.bytes.now ≤ 64 = c.items-bytes.ensures.fits in rw same few)) c.go_on.ensures.told
    (λ world stands. sym c.in-Ok.is ∙ c.put.ensures.mapped c.args.script.now world stands)
    (c.in-Ok.ensures.stored c.args.script.now) c.go_on.ensures.goes)

pub returns-in-Err-clause-does : goal.returns-in-Err-clause-does
returns-in-Err-clause-does c =
    let same : c.items-bytes.result.now ≡ c.args.bytes.now = c.items-bytes.ensures.same in
    let begins : 0 < length c.items-bytes.result.now → c.start_of-start.result ≡ count_of c.args.addr =
    subst (λ z. 0 < length c.items-bytes.result.now → c.start_of-start.result ≡ count_of z) (to_z-of_z w64 c.args.addr c.ranges.addr) c.start_of-start.ensures.start in
    let script = c.args.script.now in
    let pid = c.args.caller.now.place.pid in
    subst (λ (list : List ℕ). Performs script c.args.objects.now pid (call.Store c.args.addr list) (λ plain. store script plain pid c.args.addr list) c.go_on-in-Err.result c.go_on-in-Err.new.objects) same
    (does_fault {X = Unit {0}} script c.args.objects.now c.go_on-in-Err.new.objects pid (call.Store c.args.addr c.items-bytes.result.now) c.args.addr c.start_of-start.result (length c.items-bytes.result.now) c.in-Err.errno c.go_on-in-Err.result
    (λ plain. replied script (remembered plain pid (stored (memory_of plain.table pid) (count_of c.args.addr) c.items-bytes.result.now)) pid (Val (pos (length c.items-bytes.result.now))))
    (λ plain. tt) begins c.go_on-in-Err.ensures.told
    (λ world stands. sym c.in-Err.is ∙ c.put.ensures.mapped script world stands)
    (subst (λ o. GoesOn script o pid (Fail c.in-Err.errno) c.go_on-in-Err.new.objects) c.in-Err.ensures.unchanged c.go_on-in-Err.ensures.goes))

pub go_on-requires-clause-placed : goal.go_on-requires-clause-placed
go_on-requires-clause-placed c = placed_on c.args.objects.now c.put.new.objects c.args.caller.now.place c.put.ensures.procs c.requires.placed

pub go_on-requires-in-Err-clause-placed : goal.go_on-requires-in-Err-clause-placed
go_on-requires-in-Err-clause-placed c = placed_on c.args.objects.now c.put.new.objects c.args.caller.now.place c.put.ensures.procs c.requires.placed
