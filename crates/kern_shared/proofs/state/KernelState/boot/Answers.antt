use Rattle.std.proofs.Common.{ap, ◌∙◌, [], ◌∷◌, ◌++◌, arith}
use Rattle.kern_shared.proofs.Keeping.{named_at_boot}
use Rattle.kern_shared.proofs.state.KernelState.boot.Goals as goal

pub returns-clause-stands : goal.returns-clause-stands
returns-clause-stands g c =
    named_at_boot g.T.Turner.stands g.T.Turner.script g.T.Turner.beside _ _ c.args.steps _ _ _ _ _ _ _ _ _ _ _ _ c.requires.script c.requires.steps c.requires.charge
    c.in_ok-history.ensures.items c.in_ok-held.ensures.items (c.push_reserved.ensures.items ∙ ap (λ l. l ++ 1 ∷ []) c.in_ok-awake.ensures.items) c.in_ok-dozing.ensures.items
    c.requires.booted c.requires.boot c.requires.holds c.requires.word c.requires.heap
    (record {
      entries = c.in_ok-history.ensures.capacity;
      held = c.in_ok-held.ensures.capacity;
      awake = (let most = c.in_ok-awake.ensures.capacity in let same = c.push_reserved.ensures.capacity in omega (arith, most, same));
      dozing = c.in_ok-dozing.ensures.capacity;
    })
