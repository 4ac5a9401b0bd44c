use Rattle.std.proofs.Common.{◌≡◌, Some, ap, rules, sym, ◌∙◌, w64}
use Rattle.std.proofs.lemmas.Int.{to_z-of_z}
use mir.Val.{of_z, to_z}
use Rattle.prog_ctl.specs.declared.waits.Awaited.TheVariants.{Lock}
use Rattle.lock_calls.proofs.NextWaits.{lock_wanted, other_wanted}
use Rattle.lock_calls.proofs.waits.asked_with.Goals as goal

pub returns-in-Lock : goal.returns-in-Lock
returns-in-Lock c = λ script world stands which e.
    let fd : to_z w64 (of_z w64 c.in-Lock.fd) ≡ c.in-Lock.fd = search (rules, to_z-of_z) in
    let kind : to_z w64 (of_z w64 c.in-Lock.kind) ≡ c.in-Lock.kind = search (rules, to_z-of_z) in
    let start : to_z w64 (of_z w64 c.in-Lock.start) ≡ c.in-Lock.start = search (rules, to_z-of_z) in
    let length : to_z w64 (of_z w64 c.in-Lock.length) ≡ c.in-Lock.length = search (rules, to_z-of_z) in
    let seen : c.args.wait ≡ Lock c.in-Lock.fd c.in-Lock.kind c.in-Lock.start c.in-Lock.length = search rules in
    c.asked.ensures script world stands
    ∙ lock_wanted world.plain.files c.args.place.pid which _ _ _ _ c.in-Lock.fd c.in-Lock.kind c.in-Lock.start c.in-Lock.length fd kind start length (ap Some (sym seen) ∙ e)

pub returns-in_default : goal.returns-in_default
returns-in_default c = λ script world stands which e. other_wanted world.plain.files c.args.place.pid which c.args.wait e c.in_default.not-Lock
