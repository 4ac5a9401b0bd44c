use Rattle.std.proofs.Common.{◌≡◌, ◌*◌, ◌/◌, ◌∙◌, ℕ, ap, arith, pos, refl, subst, sym, w64}
use Rattle.std.specs.Prelude.{Option, None, Some, Ok, Err, ok_or, option_map}
use Rattle.std.specs.Int.{cast_unsigned}
use Rattle.std.proofs.lemmas.Int.{to_z-of_z}
use Rattle.kabi_types.specs.Arguments.{count_of, page_size}
use Rattle.kabi_types.specs.declared.calls.Call.TheVariants as call
use Rattle.kabi_types.specs.declared.errnos.Errno.{Errno}
use Rattle.kabi_types.specs.declared.errnos.Errno.TheVariants.{EMFILE}
use Rattle.kabi_types.specs.declared.replies.Reply.TheVariants.{Fail, Val}
use Rattle.kheap_laws.proofs.PaidLemmas.{IsPaid-nothing, IsPaid-trans}
use Rattle.posix_defs.specs.declared.turner.Turned.TheVariants.{Done}
use Rattle.posix_defs.specs.Account.{with_frames}
use Rattle.posix_defs.specs.Answer.{failed}
use Rattle.posix_defs.specs.Memory.{after_map, lowest_run, with_pages}
use Rattle.posix_defs.specs.MemoryCalls.{mapped_from, mmap}
use Rattle.posix_defs.specs.Needs.{pages_in}
use Rattle.posix_defs.specs.Process.{memory_of}
use Rattle.store_objects.specs.Standing.{StandsFor, WorldAfter, answered_in, remembered_in}
use Rattle.store_objects.proofs.Leading.{led_on}
use Rattle.store_objects.proofs.Replies.{GoesOn, does_fail}
use Rattle.process_calls.proofs.RightNumbers.{mmap_bytes}
use Rattle.store_objects.proofs.Callers.{placed_on}
use Rattle.process_calls.proofs.maps.mmap.Goals as goal

record Mapped (o : Option ℕ) (addr : ℕ) : Type 0 where
  first : ℕ
  is : o ≡ Some first
  at : addr ≡ page_size * first

ok_means : (o : Option ℕ) (addr : ℕ) → Ok addr ≡ ok_or (option_map (λ first. page_size * first) o) EMFILE → Mapped o addr
ok_means None addr e = cc
ok_means (Some first) addr e = record { first = first; is = refl; at = (cc) }

pub go_on-requires-clause-kept : goal.go_on-requires-clause-kept
go_on-requires-clause-kept c = c.map.ensures.kept c.args.script.now c.requires.kept

pub go_on-requires-clause-runs : goal.go_on-requires-clause-runs
go_on-requires-clause-runs c = c.map.ensures.runs c.args.caller.now.control c.requires.runs

pub go_on-requires-in-Err-clause-kept : goal.go_on-requires-in-Err-clause-kept
go_on-requires-in-Err-clause-kept c = c.map.ensures.kept c.args.script.now c.requires.kept

pub go_on-requires-in-Err-clause-runs : goal.go_on-requires-in-Err-clause-runs
go_on-requires-in-Err-clause-runs c = c.map.ensures.runs c.args.caller.now.control c.requires.runs

place_of : (first : ℕ) → (page_size * first) / 4096 ≡ first
place_of first = let e : (4096 * first) / 4096 ≡ first = omega arith in e

pub returns-in-Ok-clause-does : goal.returns-in-Ok-clause-does
returns-in-Ok-clause-does c = λ world stands alive.
    let script = c.args.script.now in
    let pid = c.args.caller.now.place.pid in
    let memory = memory_of world.plain.table pid in
    let u : c.cast_unsigned.result ≡ cast_unsigned w64 c.args.length =
    subst (λ z. c.cast_unsigned.result ≡ cast_unsigned w64 z) (to_z-of_z w64 c.args.length c.ranges.length) c.cast_unsigned.ensures in
    let bytes : c.cast_unsigned.result ≡ count_of c.args.length = mmap_bytes c.args.length c.cast_unsigned.result c.requires.right u in
    let means : Mapped (lowest_run memory (pages_in c.cast_unsigned.result)) c.in-Ok.addr =
    ok_means (lowest_run memory (pages_in c.cast_unsigned.result)) c.in-Ok.addr (sym c.in-Ok.is ∙ c.map.ensures.found script world stands) in
    let first = means.first in
    let count = pages_in (count_of c.args.length) in
    let base = remembered_in world pid (with_pages memory first count) (after_map world.account.frames pid first count) in
    let between : StandsFor script c.map.new.objects base =
    subst (λ n. StandsFor script c.map.new.objects (remembered_in world pid (with_pages memory first (pages_in n)) (after_map world.account.frames pid first (pages_in n)))) bytes
    (c.map.ensures.mapped script world first stands (c.in-Ok.is ∙ ap Ok means.at)) in
    let number : _ ≡ pos (page_size * first) = to_z-of_z w64 c.from.result (record { sfits = c.from.type_inv }) ∙ c.from.ensures ∙ ap pos means.at in
    subst (λ answer. WorldAfter script c.go_on.new.objects world pid (call.Mmap c.args.length) answer c.go_on.result)
    (sym (ap (mapped_from script world.plain pid count) (sym (ap (λ n. lowest_run memory (pages_in n)) bytes) ∙ means.is)))
    (led_on script c.map.new.objects c.go_on.new.objects world base pid (call.Mmap c.args.length) (Val (pos (page_size * first))) c.go_on.result between
    (c.go_on.ensures.told ∙ ap (λ z. Done (Val z)) number)
    (subst (λ z. StandsFor script c.go_on.new.objects (answered_in script base pid (Val z))) number (c.go_on.ensures.goes base between))
    refl refl (ap (λ f. with_frames world.account (after_map world.account.frames pid f count)) (sym (place_of first))) refl refl)

record Full (o : Option ℕ) (errno : Errno) : Type 0 where
  is : o ≡ None
  at : errno ≡ EMFILE

err_means : (o : Option ℕ) (errno : Errno) → Err errno ≡ ok_or (option_map (λ first. page_size * first) o) EMFILE → Full o errno
err_means None errno e = record { is = refl; at = (cc) }
err_means (Some first) errno e = cc

pub returns-in-Err-clause-does : goal.returns-in-Err-clause-does
returns-in-Err-clause-does c =
    let script = c.args.script.now in
    let pid = c.args.caller.now.place.pid in
    let goes : GoesOn script c.args.objects.now pid (Fail c.in-Err.errno) c.go_on-in-Err.new.objects =
    subst (λ o. GoesOn script o pid (Fail c.in-Err.errno) c.go_on-in-Err.new.objects) c.in-Err.ensures.unchanged c.go_on-in-Err.ensures.goes in
    does_fail script c.args.objects.now c.go_on-in-Err.new.objects pid (call.Mmap c.args.length) c.in-Err.errno c.go_on-in-Err.result (λ plain. mmap script plain pid c.args.length)
    c.go_on-in-Err.ensures.told goes
    (λ world stands.
    let memory = memory_of world.plain.table pid in
    let u : c.cast_unsigned.result ≡ cast_unsigned w64 c.args.length =
    subst (λ z. c.cast_unsigned.result ≡ cast_unsigned w64 z) (to_z-of_z w64 c.args.length c.ranges.length) c.cast_unsigned.ensures in
    let bytes : c.cast_unsigned.result ≡ count_of c.args.length = mmap_bytes c.args.length c.cast_unsigned.result c.requires.right u in
    let means : Full (lowest_run memory (pages_in c.cast_unsigned.result)) c.in-Err.errno =
    err_means (lowest_run memory (pages_in c.cast_unsigned.result)) c.in-Err.errno (sym c.in-Err.is ∙ c.map.ensures.found script world stands) in
    ap (mapped_from script world.plain pid (pages_in (count_of c.args.length))) (sym (ap (λ n. lowest_run memory (pages_in n)) bytes) ∙ means.is)
    ∙ ap (failed script world.plain pid) (sym means.at))

pub returns-in-Ok-clause-paid : goal.returns-in-Ok-clause-paid
returns-in-Ok-clause-paid c =
    IsPaid-trans c.args.objects.now.heap c.args.purse.now c.map.new.objects.heap c.map.new.purse c.go_on.new.objects.heap c.map.new.purse c.map.ensures.paid
    (IsPaid-nothing c.map.new.objects.heap c.go_on.new.objects.heap c.map.new.purse c.map.new.purse c.go_on.ensures.takes refl refl)

pub returns-in-Err-clause-paid : goal.returns-in-Err-clause-paid
returns-in-Err-clause-paid c =
    IsPaid-trans c.args.objects.now.heap c.args.purse.now c.map.new.objects.heap c.map.new.purse c.go_on-in-Err.new.objects.heap c.map.new.purse c.map.ensures.paid
    (IsPaid-nothing c.map.new.objects.heap c.go_on-in-Err.new.objects.heap c.map.new.purse c.map.new.purse c.go_on-in-Err.ensures.takes refl refl)

pub go_on-requires-clause-placed : goal.go_on-requires-clause-placed
go_on-requires-clause-placed c = placed_on c.args.objects.now c.map.new.objects c.args.caller.now.place c.map.ensures.procs c.requires.placed

pub go_on-requires-in-Err-clause-placed : goal.go_on-requires-in-Err-clause-placed
go_on-requires-in-Err-clause-placed c = placed_on c.args.objects.now c.map.new.objects c.args.caller.now.place c.map.ensures.procs c.requires.placed
