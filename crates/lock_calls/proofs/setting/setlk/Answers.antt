use Rattle.std.proofs.Common.{◌≡◌, ◌∙◌, ap, refl, sym, w64}
use Rattle.std.proofs.lemmas.Int.{to_z-of_z}
use Rattle.kabi_types.specs.Arguments.{locked_fault}
use Rattle.kabi_types.specs.declared.calls.Call.TheVariants as call
use Rattle.kabi_types.specs.declared.errnos.Errno.TheVariants.{EAGAIN}
use Rattle.kheap_laws.proofs.PaidLemmas.{IsPaid-nothing, IsPaid-trans}
use Rattle.lock_table.specs.Holding.{asked_by}
use Rattle.posix_defs.specs.Answer.{failed}
use Rattle.posix_defs.specs.Calls.OnLocks.{granted_or, request_of, setlk}
use Rattle.posix_defs.specs.Calls.Opened.{opened_at}
use Rattle.store_objects.proofs.Replying.{no_frames}
use Rattle.store_objects.proofs.Needed.{of_three}
use Rattle.store_objects.proofs.Reached.{first_off}
use Rattle.lock_calls.specs.Claiming.{claimed_by}
use Rattle.lock_calls.proofs.Granting.{setlk_is}
use Rattle.lock_calls.proofs.Trying.{kept_tried, runs_tried, serves_tried}
use Rattle.lock_calls.proofs.setting.setlk.Goals as goal

pub range_of-range-requires : goal.range_of-range-requires
range_of-range-requires c = (
  2,
  of_three (λ kind start length. locked_fault 2 kind start length ≡ _) c.args.kind c.args.start c.args.length _ _ _
      (sym (to_z-of_z w64 c.args.kind c.ranges.kind)) (sym (to_z-of_z w64 c.args.start c.ranges.start)) (sym (to_z-of_z w64 c.args.length c.ranges.length)) c.requires.right,
)

pub set_claimed-requires-clause-stands : goal.set_claimed-requires-clause-stands
set_claimed-requires-clause-stands c = (c.args.script.now, c.requires.stands.0, c.requires.stands.1, c.requires.stands.2)

pub go_on-requires-clause-kept : goal.go_on-requires-clause-kept
go_on-requires-clause-kept c =
    kept_tried c.args.script.now c.args.objects.now c.set_claimed.new.objects c.args.caller.now.place.pid c.args.caller.now.control c.requires.runs c.requires.stands c.heap_is_well_formed.ensures c.args.on.now.fd (asked_by c.range_of-range.result) c.set_claimed.result c.set_claimed.ensures.tries c.set_claimed.ensures.holds c.set_claimed.ensures.stays c.set_claimed.ensures.used c.set_claimed.ensures.beside

pub go_on-requires-clause-runs : goal.go_on-requires-clause-runs
go_on-requires-clause-runs c =
    runs_tried c.args.script.now c.args.objects.now c.set_claimed.new.objects c.args.caller.now.place.pid c.args.caller.now.control c.requires.runs c.requires.stands c.heap_is_well_formed.ensures c.args.on.now.fd (asked_by c.range_of-range.result) c.set_claimed.result c.set_claimed.ensures.tries c.set_claimed.ensures.holds c.set_claimed.ensures.stays c.set_claimed.ensures.used c.set_claimed.ensures.beside

pub returns-clause-paid : goal.returns-clause-paid
returns-clause-paid c =
    IsPaid-trans c.args.objects.now.heap c.args.purse.now c.set_claimed.new.objects.heap c.set_claimed.new.purse c.go_on.new.objects.heap c.set_claimed.new.purse c.set_claimed.ensures.paid
    (IsPaid-nothing c.set_claimed.new.objects.heap c.go_on.new.objects.heap c.set_claimed.new.purse c.set_claimed.new.purse c.go_on.ensures.takes refl refl)

pub returns-clause-does : goal.returns-clause-does
returns-clause-does c =
    let script = c.args.script.now in
    let pid = c.args.caller.now.place.pid in
    let fd = c.args.on.now.fd in
    let which = call.Setlk fd c.args.kind c.args.start c.args.length in
    let asked : asked_by c.range_of-range.result ≡ request_of c.args.kind c.args.start c.args.length =
    of_three (λ kind start length. (asked_by c.range_of-range.result ≡ request_of kind start length)) _ _ _ c.args.kind c.args.start c.args.length
    (to_z-of_z w64 c.args.kind c.ranges.kind) (to_z-of_z w64 c.args.start c.ranges.start) (to_z-of_z w64 c.args.length c.ranges.length) c.range_of-range.ensures.request in
    serves_tried c.args.script.now c.args.objects.now c.set_claimed.new.objects c.args.caller.now.place.pid c.args.caller.now.control c.requires.runs c.requires.stands c.heap_is_well_formed.ensures c.args.on.now.fd (asked_by c.range_of-range.result) c.set_claimed.result c.set_claimed.ensures.tries c.set_claimed.ensures.holds c.set_claimed.ensures.stays c.set_claimed.ensures.used c.set_claimed.ensures.beside
    which c.told-reply.result c.go_on.result c.go_on.new.objects (λ plain. setlk script plain pid fd c.args.kind c.args.start c.args.length) (λ plain. failed script plain pid EAGAIN)
    (record { right = c.requires.right; paths = refl; leaves = λ plain pid. refl; walks = refl })
    (λ plain none. first_off _ _ none) c.go_on.ensures.told c.told-reply.ensures c.go_on.ensures.goes (no_frames which (λ frames pid value. refl) pid c.told-reply.result)
    (λ plain. setlk_is script plain pid fd c.args.kind c.args.start c.args.length
    ∙ ap (λ it. granted_or script plain pid it (failed script plain pid EAGAIN) (claimed_by plain.files it.kind (opened_at plain.files pid fd))) (sym asked))
    (λ world stands sound e. refl)
