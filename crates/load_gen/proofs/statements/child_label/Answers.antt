use Rattle.std.proofs.Common.{◌≡◌, ◌≤◌, ◌∷◌, length, decimal, ◌∙◌, sym, subst}
use Rattle.load_gen.proofs.Labels.{label_fits}
use Rattle.load_gen.proofs.statements.child_label.Goals as goal

pub unwrap-requires : goal.unwrap-requires
unwrap-requires c =
    let told : c.as_bytes.result.now ≡ 107 ∷ decimal c.args.i = c.as_bytes.ensures.value ∙ c.in_ok-label.ensures.ok in
    c.of.ensures.fits.1 (subst (λ bytes. length bytes ≤ 27) (sym told) (label_fits 107 c.args.i c.ranges.i.fits))
