use Rattle.std.proofs.Common.{◌≡◌, ◌∙◌, ap, refl, sym, w64}
use Rattle.std.proofs.lemmas.Int.{to_z-of_z}
use Rattle.kabi_types.specs.Arguments.{locked_fault}
use Rattle.kabi_types.specs.declared.calls.Call.TheVariants as call
use Rattle.lock_table.specs.Holding.{asked_by}
use Rattle.posix_defs.specs.Answer.{replied}
use Rattle.posix_defs.specs.Calls.OnLocks.{getlk, request_of}
use Rattle.posix_defs.specs.Calls.Opened.{opened_at}
use Rattle.store_objects.proofs.Keeping.{listed_in}
use Rattle.store_objects.proofs.Replying.{no_frames}
use Rattle.store_objects.proofs.StoreFiles.{holds_files}
use Rattle.store_objects.specs.Trees.{others_in}
use Rattle.store_objects.proofs.CallingOpens.{holds_some}
use Rattle.store_objects.proofs.Needed.{of_three}
use Rattle.store_objects.proofs.Reached.{first_off}
use Rattle.lock_calls.specs.Claiming.{file_by}
use Rattle.lock_calls.specs.Setting.{first_told}
use Rattle.lock_calls.proofs.Granting.{getlk_is}
use Rattle.lock_calls.proofs.Trying.{kept_looked, runs_looked, serves_looked}
use Rattle.lock_calls.proofs.telling.getlk.Goals as goal

pub range_of-range-requires : goal.range_of-range-requires
range_of-range-requires c = (
  1,
  of_three (λ kind start length. locked_fault 1 kind start length ≡ _) c.args.kind c.args.start c.args.length _ _ _
      (sym (to_z-of_z w64 c.args.kind c.ranges.kind)) (sym (to_z-of_z w64 c.args.start c.ranges.start)) (sym (to_z-of_z w64 c.args.length c.ranges.length)) c.requires.right,
)

pub file_of-file-requires-clause-listed : goal.file_of-file-requires-clause-listed
file_of-file-requires-clause-listed c = listed_in c.args.script.now c.args.objects.now c.requires.stands.1.kept

pub file_of-file-requires-clause-owners : goal.file_of-file-requires-clause-owners
file_of-file-requires-clause-owners c = c.requires.stands.1.kept.owners

pub file_of-file-requires-clause-hold : goal.file_of-file-requires-clause-hold
file_of-file-requires-clause-hold c = holds_some c.args.script.now c.args.objects.now c.requires.stands.0 c.requires.stands.1 c.requires.stands.2 c.heap_is_well_formed.ensures

pub told_on-reply-requires : goal.told_on-reply-requires
told_on-reply-requires c = c.requires.stands.1.kept.locked

pub go_on-requires-clause-kept : goal.go_on-requires-clause-kept
go_on-requires-clause-kept c =
    kept_looked c.args.script.now c.args.objects.now c.file_of-file.new.tree c.args.caller.now.place.pid c.args.caller.now.control c.requires.runs c.requires.stands c.heap_is_well_formed.ensures c.args.on.now.fd c.file_of-file.ensures.holds c.file_of-file.ensures.stays c.file_of-file.ensures.used

pub go_on-requires-clause-runs : goal.go_on-requires-clause-runs
go_on-requires-clause-runs c =
    runs_looked c.args.script.now c.args.objects.now c.file_of-file.new.tree c.args.caller.now.place.pid c.args.caller.now.control c.requires.runs c.requires.stands c.heap_is_well_formed.ensures c.args.on.now.fd c.file_of-file.ensures.holds c.file_of-file.ensures.stays c.file_of-file.ensures.used

pub returns-clause-does : goal.returns-clause-does
returns-clause-does c =
    let script = c.args.script.now in
    let pid = c.args.caller.now.place.pid in
    let fd = c.args.on.now.fd in
    let which = call.Getlk fd c.args.kind c.args.start c.args.length in
    let asked : asked_by c.range_of-range.result ≡ request_of c.args.kind c.args.start c.args.length =
    of_three (λ kind start length. (asked_by c.range_of-range.result ≡ request_of kind start length)) _ _ _ c.args.kind c.args.start c.args.length
    (to_z-of_z w64 c.args.kind c.ranges.kind) (to_z-of_z w64 c.args.start c.ranges.start) (to_z-of_z w64 c.args.length c.ranges.length) c.range_of-range.ensures.request in
    serves_looked c.args.script.now c.args.objects.now c.file_of-file.new.tree c.args.caller.now.place.pid c.args.caller.now.control c.requires.runs c.requires.stands c.heap_is_well_formed.ensures c.args.on.now.fd c.file_of-file.ensures.holds c.file_of-file.ensures.stays c.file_of-file.ensures.used
    which c.told_on-reply.result c.go_on.result c.go_on.new.objects (λ plain. getlk script plain pid fd c.args.kind c.args.start c.args.length)
    (record { right = c.requires.right; paths = refl; leaves = λ plain pid. refl; walks = refl }) (λ plain none. first_off _ _ none) c.go_on.ensures.told c.go_on.ensures.goes (no_frames which (λ frames pid value. refl) pid c.told_on-reply.result)
    (λ world stands sound.
    let file = c.file_of-file.ensures.file stands.files.numbers (others_in world.plain) world.plain.files (holds_files script c.args.objects.now world stands c.heap_is_well_formed.ensures sound) in
    getlk_is script world.plain pid fd c.args.kind c.args.start c.args.length
    ∙ ap (λ it. replied script world.plain pid (first_told world.plain.files.locks pid it (file_by world.plain.files (opened_at world.plain.files pid fd)))) (sym asked)
    ∙ ap (λ r. replied script world.plain pid (first_told world.plain.files.locks pid (asked_by c.range_of-range.result) r)) (sym file)
    ∙ sym (ap (replied script world.plain pid) (c.told_on-reply.ensures world.plain.files.locks stands.locks)))
