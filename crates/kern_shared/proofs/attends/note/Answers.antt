use Rattle.std.proofs.Common.{◌≡◌, rules}
use Rattle.std.proofs.lemmas.Fn.{filter_same}
use Rattle.kern_shared.specs.Shares.{without}
use Rattle.kern_shared.proofs.attends.note.Goals as goal

pub returns-clause-held : goal.returns-clause-held
returns-clause-held c =
    let left : c.retain.new.self.items ≡ without c.args.pid c.args.held.now.items = filter_same _ _ _ (λ x b f' k. search rules) _ _ c.retain.ensures.filtered in
    left
