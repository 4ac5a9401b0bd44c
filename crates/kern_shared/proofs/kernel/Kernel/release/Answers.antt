use Rattle.std.proofs.Common.{◌≡◌, ℕ, List, Option, Some, refl, sym, subst}
use Rattle.std.specs.Prelude.{IfSome}
use Rattle.kabi_types.specs.declared.scripts.Script.{Script}
use Rattle.turn_words.specs.declared.items.Item.{Item}
use Rattle.turn_words.specs.declared.rule.TurnView.{TurnView}
use Rattle.kern_shared.specs.Passes.{ReturnsInTurn}
use Rattle.turn_words.specs.Items.{heard}
use Rattle.turn_words.specs.declared.items.Item.TheVariants.{Back}
use Rattle.kern_shared.proofs.Passing.{back_may_return, given_at_take, holds_back, just_one, passes, rests, returns_as}
use Rattle.kern_shared.proofs.kernel.Kernel.release.Goals as goal

pub end-requires-clause-stands : goal.end-requires-clause-stands
end-requires-clause-stands g c =
    c.release_held.ensures.stands (heard c.begin-state.new.seat.known.seen) c.begin-state.ensures.value (given_at_take _ _ _ _ c.begin-state.ensures g.L.RunName.script g.L.RunName.steps g.L.RunName.charge _ _ c.args.pass.now.given c.in-Some.pid c.requires.pass c.in-Some.is)

pub end-requires-clause-returns : goal.end-requires-clause-returns
end-requires-clause-returns g c =
    returns_as c.args.pass.now.turn.known.mine _ _ (Back c.in-Some.pid) c.begin-state.ensures.mine refl (back_may_return c.args.pass.now.turn.known.mine c.in-Some.pid (just_one c.args.pass.now.given c.args.pass.now.turn.known.mine c.in-Some.pid c.requires.pass.holds c.in-Some.is))

pub returns-clause-pass : goal.returns-clause-pass
returns-clause-pass g c =
    let s = c.release_held.ensures.stands (heard c.begin-state.new.seat.known.seen) c.begin-state.ensures.value (given_at_take _ _ _ _ c.begin-state.ensures g.L.RunName.script g.L.RunName.steps g.L.RunName.charge _ _ c.args.pass.now.given c.in-Some.pid c.requires.pass c.in-Some.is) in
    rests _ _ _ _ _ _ _ c.begin-state.ensures c.end.ensures g.L.RunName.script g.L.RunName.steps g.L.RunName.charge _ c.args.pass.now.own c.args.pass.now.own c.args.pass.now.given _ (Back c.in-Some.pid) refl
    c.requires.pass c.requires.pass.of_charge c.requires.pass.empty c.requires.pass.unused (s.value.past, s.value.shared) (holds_back c.args.pass.now.turn.known.mine _ c.in-Some.pid (just_one c.args.pass.now.given c.args.pass.now.turn.known.mine c.in-Some.pid c.requires.pass.holds c.in-Some.is))

-- what holds of the process that was given holds where one was
returned : {T : Type 0} (stands : T → List Item → Type 0) (script : Script) (steps : ℕ) (before after : TurnView T) (given : Option ℕ) (pid : ℕ) → given ≡ Some pid
    → ReturnsInTurn stands script steps before after pid → IfSome given (ReturnsInTurn stands script steps before after)
returned stands script steps before after given pid given_is back = subst (λ o. IfSome o (ReturnsInTurn stands script steps before after)) (sym given_is) back

pub returns-clause-returns : goal.returns-clause-returns
returns-clause-returns g c =
    let s = c.release_held.ensures.stands (heard c.begin-state.new.seat.known.seen) c.begin-state.ensures.value (given_at_take _ _ _ _ c.begin-state.ensures g.L.RunName.script g.L.RunName.steps g.L.RunName.charge _ _ c.args.pass.now.given c.in-Some.pid c.requires.pass c.in-Some.is) in
    returned _ g.L.RunName.script g.L.RunName.steps _ _ _ c.in-Some.pid c.in-Some.is
    (c.begin-state.new.seat.known.seen, passes _ _ _ _ _ _ _ c.begin-state.ensures c.end.ensures (Back c.in-Some.pid) refl s)
