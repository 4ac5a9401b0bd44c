use Rattle.std.proofs.Common.{◌≡◌, ◌+◌, ◌-◌, ℕ, Some, None, refl, sym, ◌∙◌, subst, arith}
use Rattle.page_space.specs.Accounts.{AccountMoves}
use Rattle.posix_defs.specs.Memory.{lowest_run, after_map}
use Rattle.page_space.proofs.MapLemmas.{run_same, StandsFor-filled}
use Rattle.page_space.proofs.spaces.Space.map.Goals as goal

pub returns-in-Some-clause-found : goal.returns-in-Some-clause-found
returns-in-Some-clause-found c = λ memory stands.
    let found : lowest_run memory c.args.pages ≡ Some c.in-Some.first =
    run_same c.args.heap.now c.args.self.now memory c.args.pages c.requires.owned.1.pages stands ∙ sym c.in-Some.ensures.found in
    rw found refl

pub returns-in-None-clause-found : goal.returns-in-None-clause-found
returns-in-None-clause-found c = λ memory stands.
    let found : lowest_run memory c.args.pages ≡ None =
    run_same c.args.heap.now c.args.self.now memory c.args.pages c.requires.owned.1.pages stands ∙ sym c.in-None.ensures.found in
    rw found refl

pub returns-in-Some-clause-memory : goal.returns-in-Some-clause-memory
returns-in-Some-clause-memory c = λ memory len stands.
    StandsFor-filled c.args.heap.now c.args.purse.now c.map_run.new.heap c.map_run.new.purse c.args.self.now c.map_run.new.self c.in-Some.first c.args.pages memory
    c.in-Some.ensures.free.within len c.map_run.ensures stands

pub returns-in-Some-clause-owned : goal.returns-in-Some-clause-owned
returns-in-Some-clause-owned c =
    let moves = c.map_run.ensures.moves in (c.requires.owned.0, moves.owners c.requires.owned.0 c.requires.owned.1)

pub returns-in-Some-clause-account : goal.returns-in-Some-clause-account
returns-in-Some-clause-account c = λ number before pid accounted.
    let count : c.in-Some.first + c.args.pages - c.in-Some.first ≡ c.args.pages = omega arith in
    subst (λ (n : ℕ). AccountMoves c.args.heap.now c.map_run.new.heap c.args.self.now c.map_run.new.self number before (after_map before pid c.in-Some.first n) pid) count
    (c.map_run.ensures.account number before pid accounted)
