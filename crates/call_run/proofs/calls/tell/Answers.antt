use Rattle.std.proofs.Common.{◌≡◌, ◌∙◌, ap, pos, subst, w64}
use Rattle.std.proofs.lemmas.Int.{to_z-of_z}
use mir.Val.{of_z, to_z}
use Rattle.kabi_types.specs.declared.replies.Reply.TheVariants.{Val}
use Rattle.posix_defs.specs.declared.turner.Turned.TheVariants as turned
use Rattle.store_objects.specs.Standing.{StandsFor, answered_in}
use Rattle.call_run.proofs.calls.tell.Goals as goal

pub returns-clause-told : goal.returns-clause-told
returns-clause-told c =
    let number : to_z w64 (of_z w64 c.from.result) ≡ pos c.args.value = to_z-of_z w64 c.from.result (record { sfits = c.from.type_inv }) ∙ c.from.ensures in
    c.go_on.ensures.told ∙ ap (λ z. turned.Done (Val z)) number

pub returns-clause-goes : goal.returns-clause-goes
returns-clause-goes c = λ world stands.
    let number : to_z w64 (of_z w64 c.from.result) ≡ pos c.args.value = to_z-of_z w64 c.from.result (record { sfits = c.from.type_inv }) ∙ c.from.ensures in
    subst (λ z. StandsFor c.args.script.now c.go_on.new.objects (answered_in c.args.script.now world c.args.caller.now.place.pid (Val z))) number (c.go_on.ensures.goes world stands)
