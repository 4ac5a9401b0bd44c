use Rattle.std.proofs.Common.{◌≡◌, ℤ, None, ap, sym, ◌∙◌, w64}
use mir.Val.{of_z, to_z}
use Rattle.std.specs.Option.{option_map}
use Rattle.std.proofs.lemmas.Int.{to_z-of_z}
use Rattle.kabi_types.specs.declared.calls.Call.TheVariants as call
use Rattle.lock_table.specs.Holding.{asked_by}
use Rattle.posix_defs.specs.Calls.OnLocks.{wanted_by}
use Rattle.store_objects.proofs.Keeping.{listed_in}
use Rattle.lock_calls.specs.Claiming.{all_wanted}
use Rattle.lock_calls.proofs.Operands.{of_four, right_wanted, wrong_wanted}
use Rattle.lock_calls.proofs.waits.asked.Goals as goal

pub opened-on-requires-clause-listed : goal.opened-on-requires-clause-listed
opened-on-requires-clause-listed c = listed_in c.requires.kept.0 c.args.objects.now c.requires.kept.1

pub opened-on-requires-clause-owners : goal.opened-on-requires-clause-owners
opened-on-requires-clause-owners c = c.requires.kept.1.owners

pub returns-in_default : goal.returns-in_default
returns-in_default c = λ script world stands.
    let fd : ℤ = to_z w64 (of_z w64 c.args.fd) in
    let kind : ℤ = to_z w64 (of_z w64 c.args.kind) in
    let start : ℤ = to_z w64 (of_z w64 c.args.start) in
    let length : ℤ = to_z w64 (of_z w64 c.args.length) in
    of_four (λ fd kind start length. all_wanted world.plain.files.tree None ≡ wanted_by world.plain.files c.args.place.pid (call.Setlkw fd kind start length)) fd kind start length
    c.args.fd c.args.kind c.args.start c.args.length (to_z-of_z w64 c.args.fd c.ranges.fd) (to_z-of_z w64 c.args.kind c.ranges.kind) (to_z-of_z w64 c.args.start c.ranges.start) (to_z-of_z w64 c.args.length c.ranges.length)
    (wrong_wanted fd kind start length world.plain.files c.args.place.pid (ap (option_map asked_by) (sym c.in_default.is) ∙ c.right_range.ensures.request))

pub returns : goal.returns
returns c = λ script world stands.
    let fd : ℤ = to_z w64 (of_z w64 c.args.fd) in
    let kind : ℤ = to_z w64 (of_z w64 c.args.kind) in
    let start : ℤ = to_z w64 (of_z w64 c.args.start) in
    let length : ℤ = to_z w64 (of_z w64 c.args.length) in
    of_four (λ fd kind start length. all_wanted world.plain.files.tree c.wanted_on.result ≡ wanted_by world.plain.files c.args.place.pid (call.Setlkw fd kind start length)) fd kind start length
    c.args.fd c.args.kind c.args.start c.args.length (to_z-of_z w64 c.args.fd c.ranges.fd) (to_z-of_z w64 c.args.kind c.ranges.kind) (to_z-of_z w64 c.args.start c.ranges.start) (to_z-of_z w64 c.args.length c.ranges.length)
    (c.wanted_on.ensures c.args.objects.now.heap c.args.objects.now.procs c.args.place.pid stands.files.numbers world.plain.files c.opened-on.ensures.opened stands.files.opened
    ∙ right_wanted fd kind start length world.plain.files c.args.place.pid (asked_by c.in-Some.range) c.opened-on.result.fd c.opened-on.ensures.number (ap (option_map asked_by) (sym c.in-Some.is) ∙ c.right_range.ensures.request))
