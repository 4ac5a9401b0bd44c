use Rattle.std.proofs.Common.{[], ap, refl, ◌∙◌}
use Rattle.kern_shared.proofs.Boxing.{boxed_at_boot}
use Rattle.kern_shared.proofs.boxed.BoxedState.new.Goals as goal

pub returns-in-Ok : goal.returns-in-Ok
returns-in-Ok g c =
    boxed_at_boot _ g.L.RunName.script g.L.RunName.steps _ [] _ _ refl (ap (λ v. v.seat.known.reserves) c.in-Ok.ensures.ok ∙ c.requires.unused) (rw c.in-Ok.ensures.ok c.requires.stands)
