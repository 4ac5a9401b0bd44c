use Rattle.std.proofs.Common.{◌≡◌, ◌-◌, ◌+◌, ◌/◌, pos, refl, subst, w64}
use Rattle.std.specs.Int.{cast_unsigned}
use Rattle.std.proofs.lemmas.Int.{to_z-of_z}
use Rattle.kabi_types.specs.Arguments.{count_of, page_size}
use Rattle.kabi_types.specs.declared.calls.Call.TheVariants as call
use Rattle.kabi_types.specs.declared.replies.Reply.TheVariants.{Val}
use Rattle.posix_defs.specs.Memory.{after_unmap, without_pages}
use Rattle.posix_defs.specs.Needs.{pages_touched}
use Rattle.posix_defs.specs.Process.{memory_of}
use Rattle.store_objects.specs.Standing.{StandsFor, remembered_in}
use Rattle.store_objects.proofs.Leading.{led_on}
use Rattle.process_calls.proofs.RightNumbers.{munmap_pages}
use Rattle.store_objects.proofs.Callers.{placed_on}
use Rattle.process_calls.proofs.maps.munmap.Goals as goal

pub go_on-requires-clause-kept : goal.go_on-requires-clause-kept
go_on-requires-clause-kept c = c.unmap.ensures.kept c.args.script.now c.requires.kept

pub go_on-requires-clause-runs : goal.go_on-requires-clause-runs
go_on-requires-clause-runs c = c.unmap.ensures.runs c.args.caller.now.control c.requires.runs

pub returns-clause-does : goal.returns-clause-does
returns-clause-does c = λ world stands alive.
    let script = c.args.script.now in
    let pid = c.args.caller.now.place.pid in
    let u : c.cast_unsigned.result ≡ cast_unsigned w64 c.args.addr =
    subst (λ z. c.cast_unsigned.result ≡ cast_unsigned w64 z) (to_z-of_z w64 c.args.addr c.ranges.addr) c.cast_unsigned.ensures in
    let v : c.cast_unsigned-2.result ≡ cast_unsigned w64 c.args.length =
    subst (λ z. c.cast_unsigned-2.result ≡ cast_unsigned w64 z) (to_z-of_z w64 c.args.length c.ranges.length) c.cast_unsigned-2.ensures in
    let pages = munmap_pages c.args.addr c.args.length c.cast_unsigned.result c.cast_unsigned-2.result c.requires.right u v in
    let first = count_of c.args.addr / page_size in
    let count = pages_touched (count_of c.args.addr) (count_of c.args.length) in
    let memory = memory_of world.plain.table pid in
    let base = remembered_in world pid (without_pages memory first count) (after_unmap world.account.frames pid first count) in
    let between : StandsFor script c.unmap.new.objects base =
    subst (λ n. StandsFor script c.unmap.new.objects (remembered_in world pid (without_pages memory first n) (after_unmap world.account.frames pid first n))) pages.1
    (subst (λ n. StandsFor script c.unmap.new.objects (remembered_in world pid (without_pages memory n ((c.cast_unsigned-2.result + 4096 - 1) / 4096)) (after_unmap world.account.frames pid n ((c.cast_unsigned-2.result + 4096 - 1) / 4096)))) pages.0
    (c.unmap.ensures.unmapped script world stands)) in
    led_on script c.unmap.new.objects c.go_on.new.objects world base pid (call.Munmap c.args.addr c.args.length) (Val (pos 0)) c.go_on.result
    between c.go_on.ensures.told (c.go_on.ensures.goes base between) refl refl refl refl refl

pub go_on-requires-clause-placed : goal.go_on-requires-clause-placed
go_on-requires-clause-placed c = placed_on c.args.objects.now c.unmap.new.objects c.args.caller.now.place c.unmap.ensures.procs c.requires.placed
