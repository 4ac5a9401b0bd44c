use Rattle.std.proofs.Common.{◌≡◌, ◌≤◌, ◌<◌, ◌∙◌, subst, sym, w64}
use Rattle.std.specs.Prelude.{None}
use Rattle.std.specs.Int.{cast_unsigned}
use Rattle.std.proofs.lemmas.Int.{to_z-of_z}
use Rattle.kabi_types.specs.Arguments.{count_of, range_fault}
use Rattle.kabi_types.specs.declared.calls.Call.TheVariants as call
use Rattle.kabi_types.specs.declared.replies.Reply.TheVariants.{Bytes}
use Rattle.posix_defs.specs.Answer.{replied}
use Rattle.posix_defs.specs.Memory.{loaded}
use Rattle.posix_defs.specs.MemoryCalls.{in_range}
use Rattle.posix_defs.specs.Process.{memory_of}
use Rattle.store_objects.specs.Standing.{Performs}
use Rattle.process_calls.proofs.MemoryMoves.{does_fault, does_load}
use Rattle.process_calls.proofs.RightNumbers.{load_bytes}
use Rattle.process_calls.proofs.moves.load.Goals as goal

count_is : (c : goal.After-cast_unsigned-count)
    → (c.cast_unsigned-count.result ≡ count_of c.args.count) × (count_of c.args.count ≤ 64) × (range_fault c.args.addr (count_of c.args.count) ≡ None)
count_is c =
    load_bytes c.args.addr c.args.count c.cast_unsigned-count.result c.requires.right
    (subst (λ z. c.cast_unsigned-count.result ≡ cast_unsigned w64 z) (to_z-of_z w64 c.args.count c.ranges.count) c.cast_unsigned-count.ensures)

pub start_of-start-requires : goal.start_of-start-requires
start_of-start-requires c =
    let right = count_is c in
    subst (λ z. range_fault z c.cast_unsigned-count.result ≡ None) (sym (to_z-of_z w64 c.args.addr c.ranges.addr))
    (subst (λ n. range_fault c.args.addr n ≡ None) (sym right.0) right.2)

pub take-requires-clause-few : goal.take-requires-clause-few
take-requires-clause-few c =
    let right = load_bytes c.args.addr c.args.count c.cast_unsigned-count.result c.requires.right
    (subst (λ z. c.cast_unsigned-count.result ≡ cast_unsigned w64 z) (to_z-of_z w64 c.args.count c.ranges.count) c.cast_unsigned-count.ensures) in
    subst (λ n. n ≤ 64) (sym right.0) right.1

pub returns-in-Ok-clause-does : goal.returns-in-Ok-clause-does
returns-in-Ok-clause-does c =
    let right = load_bytes c.args.addr c.args.count c.cast_unsigned-count.result c.requires.right
    (subst (λ z. c.cast_unsigned-count.result ≡ cast_unsigned w64 z) (to_z-of_z w64 c.args.count c.ranges.count) c.cast_unsigned-count.ensures) in
    let script = c.args.script.now in
    does_load script c.args.objects.now c.go_on.new.objects c.args.caller.now.place.pid c.args.addr c.args.count c.start_of-start.result c.cast_unsigned-count.result c.in-Ok.bytes c.go_on.result
    right.0
    (subst (λ z. 0 < c.cast_unsigned-count.result → c.start_of-start.result ≡ count_of z) (to_z-of_z w64 c.args.addr c.ranges.addr) c.start_of-start.ensures.start)
    c.go_on.ensures.told
    (λ world stands. sym c.in-Ok.is ∙ c.take.ensures script world stands)
    c.go_on.ensures.goes

pub returns-in-Err-clause-does : goal.returns-in-Err-clause-does
returns-in-Err-clause-does c =
    let right = load_bytes c.args.addr c.args.count c.cast_unsigned-count.result c.requires.right
    (subst (λ z. c.cast_unsigned-count.result ≡ cast_unsigned w64 z) (to_z-of_z w64 c.args.count c.ranges.count) c.cast_unsigned-count.ensures) in
    let script = c.args.script.now in
    let pid = c.args.caller.now.place.pid in
    let addr = c.args.addr in
    let start = c.start_of-start.result in
    let n = c.cast_unsigned-count.result in
    subst (λ n. Performs script c.args.objects.now pid (call.Load addr c.args.count)
    (λ plain. in_range script plain pid addr n (replied script plain pid (Bytes (loaded (memory_of plain.table pid) (count_of addr) n)))) c.go_on-in-Err.result c.go_on-in-Err.new.objects) right.0
    (does_fault script c.args.objects.now c.go_on-in-Err.new.objects pid (call.Load addr c.args.count) addr start n c.in-Err.errno c.go_on-in-Err.result
    (λ plain. replied script plain pid (Bytes (loaded (memory_of plain.table pid) (count_of addr) n))) (λ plain. loaded (memory_of plain.table pid) start n)
    (subst (λ z. 0 < n → start ≡ count_of z) (to_z-of_z w64 addr c.ranges.addr) c.start_of-start.ensures.start)
    c.go_on-in-Err.ensures.told
    (λ world stands. sym c.in-Err.is ∙ c.take.ensures script world stands)
    c.go_on-in-Err.ensures.goes)
