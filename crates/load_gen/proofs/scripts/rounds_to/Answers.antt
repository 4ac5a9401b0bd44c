use Rattle.std.proofs.Common.{◌≡◌, ◌+◌, ◌*◌, ◌≤◌, length, arith}
use Rattle.posix_defs.specs.Generator.{state_after}
use Rattle.load_gen.proofs.NextRound.{rounds_further, short_further, state_further}
use Rattle.load_gen.proofs.scripts.rounds_to.Goals as goal

pub round-requires : goal.round-requires
round-requires c =
    let short : length c.loop-i.body.items ≤ 1 + 8 * c.loop-i.i = c.loop-i.invariant.short in
    omega (arith, c.loop-i-test.true, c.requires)

pub loop-i-preserved : goal.loop-i-preserved
loop-i-preserved c =
    let state : c.next_state-state.result ≡ state_after c.args.n (c.loop-i.i + 1) =
    state_further c.args.n c.loop-i.i _ _ c.loop-i.invariant.state c.next_state-state.ensures in
    record {
      rounds = rounds_further c.args.n c.loop-i.i _ _ _ c.loop-i.invariant.rounds state c.in_ok-round.ensures;
      state = state;
      short = short_further c.loop-i.i c.next_state-state.result _ _ c.loop-i.invariant.short c.in_ok-round.ensures;
    }
