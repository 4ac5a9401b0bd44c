use Rattle.std.proofs.Common.{map, ap, sym, ◌∙◌}
use Rattle.posix_defs.specs.Control.{value_of}
use Rattle.posix_defs.specs.Made.{made}
use Rattle.posix_defs.specs.PriceList.{price_of}
use Rattle.posix_defs.specs.declared.prices.Price.TheVariants.{Always}
use Rattle.prog_ctl.proofs.Asking.{bound_free, copied_is, kind_made}
use Rattle.prog_ctl.proofs.asked.bound_of.Goals as goal

pub returns-in-Always-eq0 : goal.returns-in-Always-eq0
returns-in-Always-eq0 c =
    let numbers = map (value_of c.args.control.now) c.args.operands.now in
    sym (bound_free (made c.args.kind numbers c.args.texts.now c.args.control.now.done)
    (ap price_of (kind_made c.args.kind numbers c.args.texts.now c.args.control.now.done) ∙ sym c.price.ensures ∙ c.in-Always-eq0.is ∙ ap Always c.in-Always-eq0.field-0-test))

pub bound_copied-requires-clause-copies : goal.bound_copied-requires-clause-copies
bound_copied-requires-clause-copies c = copied_is c.args.kind (sym c.price.ensures ∙ c.in-Copied.is)
