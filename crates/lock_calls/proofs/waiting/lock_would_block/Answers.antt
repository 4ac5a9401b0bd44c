use Rattle.std.proofs.Common.{◌≡◌, ℤ, not, false, ap, sym, ◌∙◌, w64}
use mir.Val.{of_z, to_z}
use Rattle.std.specs.Option.{option_map}
use Rattle.std.proofs.lemmas.Int.{to_z-of_z}
use Rattle.kabi_types.specs.declared.calls.Call.TheVariants as call
use Rattle.lock_table.specs.Holding.{asked_by}
use Rattle.posix_defs.specs.Calls.OnLocks.{wanted_on}
use Rattle.posix_defs.specs.Calls.Opened.{opened_at}
use Rattle.posix_defs.specs.Machine.{blocks, machine}
use Rattle.store_objects.proofs.Keeping.{listed_in}
use Rattle.lock_calls.specs.Waiting.{is_held_up}
use Rattle.lock_calls.proofs.Blocking.{free_goes, held_blocks, wrong_goes}
use Rattle.lock_calls.proofs.Operands.{of_four, right_so, wrong_so}
use Rattle.lock_calls.proofs.waiting.lock_would_block.Goals as goal

pub opened-on-requires-clause-listed : goal.opened-on-requires-clause-listed
opened-on-requires-clause-listed c = listed_in c.args.script.now c.args.objects.now c.requires.kept

pub opened-on-requires-clause-owners : goal.opened-on-requires-clause-owners
opened-on-requires-clause-owners c = c.requires.kept.owners

pub is_held_up-requires-clause-kept : goal.is_held_up-requires-clause-kept
is_held_up-requires-clause-kept c = (c.args.script.now, c.requires.kept)

pub returns-in_default-clause-blocks : goal.returns-in_default-clause-blocks
returns-in_default-clause-blocks c = λ world stands sound.
    let fd : ℤ = to_z w64 (of_z w64 c.args.fd) in
    let kind : ℤ = to_z w64 (of_z w64 c.args.kind) in
    let start : ℤ = to_z w64 (of_z w64 c.args.start) in
    let length : ℤ = to_z w64 (of_z w64 c.args.length) in
    of_four (λ fd kind start length. false ≡ blocks (machine c.args.script.now world.plain c.args.place.pid (call.Setlkw fd kind start length))) fd kind start length
    c.args.fd c.args.kind c.args.start c.args.length (to_z-of_z w64 c.args.fd c.ranges.fd) (to_z-of_z w64 c.args.kind c.ranges.kind) (to_z-of_z w64 c.args.start c.ranges.start) (to_z-of_z w64 c.args.length c.ranges.length)
    (sym (wrong_goes c.args.script.now world.plain c.args.place.pid fd kind start length (wrong_so fd kind start length (ap (option_map asked_by) (sym c.in_default.is) ∙ c.right_range.ensures.request))))

pub returns-then-is_held_up-clause-blocks : goal.returns-then-is_held_up-clause-blocks
returns-then-is_held_up-clause-blocks c = λ world stands sound.
    let fd : ℤ = to_z w64 (of_z w64 c.args.fd) in
    let kind : ℤ = to_z w64 (of_z w64 c.args.kind) in
    let start : ℤ = to_z w64 (of_z w64 c.args.start) in
    let length : ℤ = to_z w64 (of_z w64 c.args.length) in
    let right = right_so fd kind start length (asked_by c.in-Some.range) (ap (option_map asked_by) (sym c.in-Some.is) ∙ c.right_range.ensures.request) in
    of_four (λ fd kind start length. not c.circles.result ≡ blocks (machine c.args.script.now world.plain c.args.place.pid (call.Setlkw fd kind start length))) fd kind start length
    c.args.fd c.args.kind c.args.start c.args.length (to_z-of_z w64 c.args.fd c.ranges.fd) (to_z-of_z w64 c.args.kind c.ranges.kind) (to_z-of_z w64 c.args.start c.ranges.start) (to_z-of_z w64 c.args.length c.ranges.length)
    (ap not (c.circles.ensures.circles world stands sound)
    ∙ sym (held_blocks c.args.script.now world.plain c.args.place.pid fd kind start length right.0
    (sym (ap (λ n. is_held_up world.plain.files.locks c.args.place.pid (wanted_on world.plain.files (asked_by c.in-Some.range) (opened_at world.plain.files c.args.place.pid n))) c.opened-on.ensures.number
    ∙ ap (λ asked. is_held_up world.plain.files.locks c.args.place.pid (wanted_on world.plain.files asked (opened_at world.plain.files c.args.place.pid fd))) right.1)
    ∙ sym (c.is_held_up.ensures c.args.script.now world stands sound) ∙ c.if-is_held_up.true)))

pub returns-else-is_held_up-clause-blocks : goal.returns-else-is_held_up-clause-blocks
returns-else-is_held_up-clause-blocks c = λ world stands sound.
    let fd : ℤ = to_z w64 (of_z w64 c.args.fd) in
    let kind : ℤ = to_z w64 (of_z w64 c.args.kind) in
    let start : ℤ = to_z w64 (of_z w64 c.args.start) in
    let length : ℤ = to_z w64 (of_z w64 c.args.length) in
    let right = right_so fd kind start length (asked_by c.in-Some.range) (ap (option_map asked_by) (sym c.in-Some.is) ∙ c.right_range.ensures.request) in
    of_four (λ fd kind start length. false ≡ blocks (machine c.args.script.now world.plain c.args.place.pid (call.Setlkw fd kind start length))) fd kind start length
    c.args.fd c.args.kind c.args.start c.args.length (to_z-of_z w64 c.args.fd c.ranges.fd) (to_z-of_z w64 c.args.kind c.ranges.kind) (to_z-of_z w64 c.args.start c.ranges.start) (to_z-of_z w64 c.args.length c.ranges.length)
    (sym (free_goes c.args.script.now world.plain c.args.place.pid fd kind start length right.0
    (sym (ap (λ n. is_held_up world.plain.files.locks c.args.place.pid (wanted_on world.plain.files (asked_by c.in-Some.range) (opened_at world.plain.files c.args.place.pid n))) c.opened-on.ensures.number
    ∙ ap (λ asked. is_held_up world.plain.files.locks c.args.place.pid (wanted_on world.plain.files asked (opened_at world.plain.files c.args.place.pid fd))) right.1)
    ∙ sym (c.is_held_up.ensures c.args.script.now world stands sound) ∙ c.if-is_held_up.false)))
