use Rattle.std.proofs.Common.{◌≡◌, None, ap, pos, subst, sym, ◌∙◌, w64}
use Rattle.std.proofs.lemmas.Int.{to_z-of_z}
use mir.Val.{of_z, to_z}
use Rattle.kabi_types.specs.declared.replies.Reply.TheVariants.{Val}
use Rattle.posix_defs.specs.declared.turner.Turned.TheVariants as turned
use Rattle.proc_table.specs.Opening.{half_in}
use Rattle.store_objects.proofs.Callers.{placed_on}
use Rattle.store_objects.proofs.Keeping.{listed_in}
use Rattle.store_objects.proofs.Replies.{GoesOn}
use Rattle.store_objects.proofs.Sleeping.{kept_sleeping, runs_sleeping, stands_sleeping}
use Rattle.file_calls.proofs.Waiting.{serves_asleep, serves_awake}
use Rattle.file_calls.proofs.opening.open_again.Goals as goal

pub is_met-requires-clause-listed : goal.is_met-requires-clause-listed
is_met-requires-clause-listed c = listed_in c.args.script.now c.args.objects.now c.requires.stands.1.kept

pub is_met-requires-clause-owners : goal.is_met-requires-clause-owners
is_met-requires-clause-owners c = c.requires.stands.1.kept.owners

-- ---- it sleeps on

pub returns-then-not-is_met-clause-kept : goal.returns-then-not-is_met-clause-kept
returns-then-not-is_met-clause-kept c = c.requires.stands.1.kept

pub returns-then-not-is_met-clause-does : goal.returns-then-not-is_met-clause-does
returns-then-not-is_met-clause-does c = λ path flags.
    serves_asleep c.args.script.now c.args.objects.now c.args.caller.now.place.pid path flags (half_in c.args.opening) c.requires.sleeps
    (λ world stands. sym (c.is_met.ensures stands.files.numbers world.plain.files stands.files.opened) ∙ c.if-not-is_met.true)

-- ---- it is over

pub wait_in-requires-clause-stored : goal.wait_in-requires-clause-stored
wait_in-requires-clause-stored c = c.requires.stands.1.kept.holds.stored

pub go_on-requires-clause-kept : goal.go_on-requires-clause-kept
go_on-requires-clause-kept c =
    kept_sleeping c.args.script.now c.args.objects.now c.wait_in.new.self c.args.caller.now.place.pid None c.requires.stands.1.kept c.wait_in.ensures

pub go_on-requires-clause-runs : goal.go_on-requires-clause-runs
go_on-requires-clause-runs c =
    runs_sleeping c.args.script.now c.args.objects.now c.wait_in.new.self c.args.caller.now.place.pid None c.requires.stands.1.kept c.wait_in.ensures c.args.caller.now.control c.requires.runs

pub go_on-requires-clause-placed : goal.go_on-requires-clause-placed
go_on-requires-clause-placed c = placed_on c.args.objects.now c.wait_in.new.self c.args.caller.now.place c.wait_in.ensures.same c.requires.placed

pub returns-clause-does : goal.returns-clause-does
returns-clause-does c = λ path flags.
    let number : to_z w64 (of_z w64 c.from.result) ≡ pos c.args.opening.fd = to_z-of_z w64 c.from.result (record { sfits = c.from.type_inv }) ∙ c.from.ensures in
    serves_awake c.args.script.now c.args.objects.now c.args.caller.now.place.pid path flags (half_in c.args.opening) c.requires.sleeps c.wait_in.new.self c.go_on.new.objects c.go_on.result
    (λ world stands. sym (c.is_met.ensures stands.files.numbers world.plain.files stands.files.opened) ∙ c.if-not-is_met.false)
    (λ world stands. stands_sleeping c.args.script.now c.args.objects.now c.wait_in.new.self c.args.caller.now.place.pid None stands.kept c.wait_in.ensures world stands)
    (c.go_on.ensures.told ∙ ap (λ z. turned.Done (Val z)) number)
    (subst (λ z. GoesOn c.args.script.now c.wait_in.new.self c.args.caller.now.place.pid (Val z) c.go_on.new.objects) number c.go_on.ensures.goes)
