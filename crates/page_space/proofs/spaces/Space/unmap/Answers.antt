use Rattle.std.proofs.Common.{◌≡◌, ◌+◌, ◌-◌, ℕ, subst, arith}
use Rattle.page_space.specs.Accounts.{AccountMoves}
use Rattle.posix_defs.specs.Memory.{after_unmap}
use Rattle.page_space.proofs.ClearLemmas.{StandsFor-cleared}
use Rattle.page_space.proofs.spaces.Space.unmap.Goals as goal

pub returns-clause-memory : goal.returns-clause-memory
returns-clause-memory c =
    λ memory len. StandsFor-cleared c.args.heap.now c.unmap_run.new.heap c.args.self.now c.unmap_run.new.self c.args.page c.args.count memory c.requires.within len c.unmap_run.ensures

pub returns-clause-owned : goal.returns-clause-owned
returns-clause-owned c =
    let moves = c.unmap_run.ensures.moves in (c.requires.owned.0, moves.owners c.requires.owned.0 c.requires.owned.1)

pub returns-clause-account : goal.returns-clause-account
returns-clause-account c = λ number before pid accounted.
    let count : c.args.page + c.args.count - c.args.page ≡ c.args.count = omega arith in
    subst (λ (n : ℕ). AccountMoves c.args.heap.now c.unmap_run.new.heap c.args.self.now c.unmap_run.new.self number before (after_unmap before pid c.args.page n) pid) count
    (c.unmap_run.ensures.account number before pid accounted)
