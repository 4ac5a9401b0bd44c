use Rattle.std.proofs.Common.{◌≡◌, rules}
use Rattle.std.proofs.lemmas.Fn.{filter_same}
use Rattle.kern_shared.specs.Shares.{without}
use Rattle.kern_shared.proofs.Keeping.{released}
use Rattle.kern_shared.proofs.state.KernelState.release_held.Goals as goal

pub returns-clause-stands : goal.returns-clause-stands
returns-clause-stands g c =
    let left : c.retain.new.self.items ≡ without c.args.pid c.args.self.now.held.items = filter_same _ _ _ (λ x b f' k. search rules) _ _ c.retain.ensures.filtered in
    released g.T.Turner.stands g.T.Turner.script g.T.Turner.beside _ _ _ _ c.args.pid _ _ left c.retain.ensures.capacity
