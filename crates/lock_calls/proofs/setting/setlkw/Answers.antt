use Rattle.std.proofs.Common.{◌≡◌, ◌∙◌, ap, cond, refl, sym, w64}
use Rattle.std.proofs.lemmas.Int.{to_z-of_z}
use Rattle.kabi_types.specs.Arguments.{locked_fault}
use Rattle.kabi_types.specs.declared.calls.Call.TheVariants as call
use Rattle.kabi_types.specs.declared.errnos.Errno.TheVariants.{EDEADLK}
use Rattle.kheap_laws.proofs.PaidLemmas.{IsPaid-nothing, IsPaid-trans}
use Rattle.lock_table.specs.Holding.{asked_by}
use Rattle.posix_defs.specs.Answer.{Blocked, failed}
use Rattle.posix_defs.specs.Calls.OnLocks.{circles, granted_or, request_of, setlkw}
use Rattle.posix_defs.specs.Calls.Opened.{opened_at}
use Rattle.store_objects.proofs.Replying.{no_frames}
use Rattle.store_objects.proofs.Needed.{of_three}
use Rattle.store_objects.proofs.Reached.{first_off}
use Rattle.lock_calls.specs.Claiming.{claimed_by}
use Rattle.lock_calls.specs.Waiting.{is_held_up}
use Rattle.lock_calls.proofs.Blocking.{held_answer, wanted_claim}
use Rattle.lock_calls.proofs.Granting.{setlkw_is}
use Rattle.lock_calls.proofs.Trying.{kept_tried, never_stopped, runs_tried, serves_stopped, serves_tried}
use Rattle.lock_calls.proofs.setting.setlkw.Goals as goal

pub range_of-range-requires : goal.range_of-range-requires
range_of-range-requires c = (
  2,
  of_three (λ kind start length. locked_fault 2 kind start length ≡ _) c.args.kind c.args.start c.args.length _ _ _
      (sym (to_z-of_z w64 c.args.kind c.ranges.kind)) (sym (to_z-of_z w64 c.args.start c.ranges.start)) (sym (to_z-of_z w64 c.args.length c.ranges.length)) c.requires.right,
)

pub is_held_up-requires-clause-kept : goal.is_held_up-requires-clause-kept
is_held_up-requires-clause-kept c = (c.args.script.now, c.requires.stands.1.kept)

-- ---- who is held up

pub wait-requires-clause-kept : goal.wait-requires-clause-kept
wait-requires-clause-kept c = c.requires.stands.1.kept

pub returns-then-is_held_up-clause-paid : goal.returns-then-is_held_up-clause-paid
returns-then-is_held_up-clause-paid c = IsPaid-nothing c.args.objects.now.heap c.wait.new.objects.heap c.args.purse.now c.args.purse.now c.wait.ensures.takes refl refl

pub returns-then-is_held_up-clause-does : goal.returns-then-is_held_up-clause-does
returns-then-is_held_up-clause-does c =
    let script = c.args.script.now in
    let pid = c.args.caller.now.place.pid in
    let fd = c.args.on.now.fd in
    let which = call.Setlkw fd c.args.kind c.args.start c.args.length in
    let asked : asked_by c.range_of-range.result ≡ request_of c.args.kind c.args.start c.args.length =
    of_three (λ kind start length. (asked_by c.range_of-range.result ≡ request_of kind start length)) _ _ _ c.args.kind c.args.start c.args.length
    (to_z-of_z w64 c.args.kind c.ranges.kind) (to_z-of_z w64 c.args.start c.ranges.start) (to_z-of_z w64 c.args.length c.ranges.length) c.range_of-range.ensures.request in
    serves_stopped script c.args.objects.now c.wait.new.objects pid c.args.caller.now.control c.requires.runs c.requires.stands c.heap_is_well_formed.ensures which c.wait.result
    (record { right = c.requires.right; paths = refl; leaves = λ plain pid. refl; walks = refl }) (λ plain. setlkw script plain pid fd c.args.kind c.args.start c.args.length) c.wait.ensures.told c.wait.ensures.asleep c.wait.ensures.goes
    (λ world stands sound.
    setlkw_is script world.plain pid fd c.args.kind c.args.start c.args.length
    ∙ ap (λ it. granted_or script world.plain pid it (cond (circles script world.plain pid) (failed script world.plain pid EDEADLK) Blocked) (claimed_by world.plain.files it.kind (opened_at world.plain.files pid fd))) (sym asked)
    ∙ held_answer script world.plain pid (asked_by c.range_of-range.result) (cond (circles script world.plain pid) (failed script world.plain pid EDEADLK) Blocked) _
    (sym (ap (is_held_up world.plain.files.locks pid) (wanted_claim world.plain.files (asked_by c.range_of-range.result) (opened_at world.plain.files pid fd)))
    ∙ sym (c.is_held_up.ensures script world stands sound) ∙ c.if-is_held_up.true))

-- ---- who isn't

pub set_claimed-requires-clause-stands : goal.set_claimed-requires-clause-stands
set_claimed-requires-clause-stands c = (c.args.script.now, c.requires.stands.0, c.requires.stands.1, c.requires.stands.2)

pub go_on-requires-clause-kept : goal.go_on-requires-clause-kept
go_on-requires-clause-kept c =
    kept_tried c.args.script.now c.args.objects.now c.set_claimed.new.objects c.args.caller.now.place.pid c.args.caller.now.control c.requires.runs c.requires.stands c.heap_is_well_formed.ensures c.args.on.now.fd (asked_by c.range_of-range.result) c.set_claimed.result c.set_claimed.ensures.tries c.set_claimed.ensures.holds c.set_claimed.ensures.stays c.set_claimed.ensures.used c.set_claimed.ensures.beside

pub go_on-requires-clause-runs : goal.go_on-requires-clause-runs
go_on-requires-clause-runs c =
    runs_tried c.args.script.now c.args.objects.now c.set_claimed.new.objects c.args.caller.now.place.pid c.args.caller.now.control c.requires.runs c.requires.stands c.heap_is_well_formed.ensures c.args.on.now.fd (asked_by c.range_of-range.result) c.set_claimed.result c.set_claimed.ensures.tries c.set_claimed.ensures.holds c.set_claimed.ensures.stays c.set_claimed.ensures.used c.set_claimed.ensures.beside

pub returns-clause-paid : goal.returns-clause-paid
returns-clause-paid c =
    IsPaid-trans c.args.objects.now.heap c.args.purse.now c.set_claimed.new.objects.heap c.set_claimed.new.purse c.go_on.new.objects.heap c.set_claimed.new.purse c.set_claimed.ensures.paid
    (IsPaid-nothing c.set_claimed.new.objects.heap c.go_on.new.objects.heap c.set_claimed.new.purse c.set_claimed.new.purse c.go_on.ensures.takes refl refl)

pub returns-clause-does : goal.returns-clause-does
returns-clause-does c =
    let script = c.args.script.now in
    let pid = c.args.caller.now.place.pid in
    let fd = c.args.on.now.fd in
    let which = call.Setlkw fd c.args.kind c.args.start c.args.length in
    let asked : asked_by c.range_of-range.result ≡ request_of c.args.kind c.args.start c.args.length =
    of_three (λ kind start length. (asked_by c.range_of-range.result ≡ request_of kind start length)) _ _ _ c.args.kind c.args.start c.args.length
    (to_z-of_z w64 c.args.kind c.ranges.kind) (to_z-of_z w64 c.args.start c.ranges.start) (to_z-of_z w64 c.args.length c.ranges.length) c.range_of-range.ensures.request in
    serves_tried c.args.script.now c.args.objects.now c.set_claimed.new.objects c.args.caller.now.place.pid c.args.caller.now.control c.requires.runs c.requires.stands c.heap_is_well_formed.ensures c.args.on.now.fd (asked_by c.range_of-range.result) c.set_claimed.result c.set_claimed.ensures.tries c.set_claimed.ensures.holds c.set_claimed.ensures.stays c.set_claimed.ensures.used c.set_claimed.ensures.beside
    which c.told-reply.result c.go_on.result c.go_on.new.objects (λ plain. setlkw script plain pid fd c.args.kind c.args.start c.args.length)
    (λ plain. cond (circles script plain pid) (failed script plain pid EDEADLK) Blocked)
    (record { right = c.requires.right; paths = refl; leaves = λ plain pid. refl; walks = refl })
    (λ plain none. first_off _ _ none) c.go_on.ensures.told c.told-reply.ensures c.go_on.ensures.goes (no_frames which (λ frames pid value. refl) pid c.told-reply.result)
    (λ plain. setlkw_is script plain pid fd c.args.kind c.args.start c.args.length
    ∙ ap (λ it. granted_or script plain pid it (cond (circles script plain pid) (failed script plain pid EDEADLK) Blocked) (claimed_by plain.files it.kind (opened_at plain.files pid fd))) (sym asked))
    (λ world stands sound e.
    never_stopped script c.args.objects.now c.set_claimed.new.objects world.plain pid fd (asked_by c.range_of-range.result) c.set_claimed.result (c.set_claimed.ensures.tries script world stands sound) e
    (sym (ap (is_held_up world.plain.files.locks pid) (wanted_claim world.plain.files (asked_by c.range_of-range.result) (opened_at world.plain.files pid fd)))
    ∙ sym (c.is_held_up.ensures script world stands sound) ∙ c.if-is_held_up.false))
