use Rattle.std.proofs.Common.{refl, subst, sym, w64}
use Rattle.std.proofs.lemmas.Int.{to_z-of_z}
use Rattle.kabi_types.specs.declared.calls.Call.TheVariants as call
use Rattle.posix_defs.specs.Calls.Polling.{poll}
use Rattle.proc_numbers.specs.Standing.{Leads}
use Rattle.store_objects.specs.Standing.{Performs}
use Rattle.queue_calls.proofs.Queueing.{is_kept, leaves_rest}
use Rattle.queue_calls.proofs.Remaining.{poll_leaves}
use Rattle.queue_calls.proofs.Telling.{follows_done, performs}
use Rattle.queue_calls.proofs.polling.poll.Goals as goal

pub poll-told-requires-clause-kept : goal.poll-told-requires-clause-kept
poll-told-requires-clause-kept c = is_kept c.args.script.now c.args.objects.now c.requires.kept

pub returns-clause-does : goal.returns-clause-does
returns-clause-does c =
    let script = c.args.script.now in
    let old = c.args.objects.now in
    let new = c.go_on_done.new.objects in
    let pid = c.args.caller.now.place.pid in
    let entries = c.args.entries.now in
    let told = c.poll-told.result in
    subst (λ t. Performs script old pid (call.Poll c.args.timeout entries) (λ plain. poll script plain pid c.args.timeout entries) t new) (sym c.go_on_done.ensures.told)
    (performs script old old.heap (is_kept script old c.requires.kept) (leaves_rest old.heap old.heap refl (λ key. refl)) (λ key. refl) pid (call.Poll c.args.timeout entries) (λ moved. ⊥) new
    (λ plain. poll script plain pid c.args.timeout entries) told
    (λ numbers plain account stands.
    subst (λ z. Leads script numbers old.heap old.procs plain account pid (call.Poll z entries) (poll script plain pid z entries) told) (to_z-of_z w64 c.args.timeout c.ranges.timeout)
    (c.poll-told.ensures script numbers plain account stands))
    (λ world stands. poll_leaves (λ moved. ⊥) script world.plain pid c.args.timeout entries)
    (follows_done script old pid (λ moved. ⊥) told new c.go_on_done.ensures.goes (λ moved is never. never)))
