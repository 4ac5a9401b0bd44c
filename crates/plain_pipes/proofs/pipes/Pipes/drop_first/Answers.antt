use Rattle.std.proofs.Common.{ap, sym, ◌∙◌, arith}
use Rattle.plain_bytes.proofs.KeptLemmas.{has_chunks, kept_turned}
use Rattle.posix_defs.specs.Pipe.{after_read}
use Rattle.plain_pipes.specs.Held.{pipes_in, queue_of}
use Rattle.plain_pipes.proofs.TurnLemmas.{fronts_turned, pipes_turned}
use Rattle.plain_pipes.proofs.pipes.Pipes.drop_first.Goals as goal

pub overflow_sub-self : goal.overflow_sub-self
overflow_sub-self c =
    let has = has_chunks queue_of c.self.inside.places c.args.place c.get_mut-pipe.result.now c.get_mut-pipe.ensures.value c.self.inside.chunks c.self.invariant in
    omega (arith, has, c.chunks-before.ensures.value)

pub invariant_of-self : goal.invariant_of-self
invariant_of-self c =
    kept_turned queue_of c.self.inside.places c.args.place c.get_mut-pipe.result.now c.get_mut-pipe.ensures.value c.drop_first.new.self c.self.inside.chunks c.chunks-before.result
    c.chunks.result c.self.invariant c.drop_first.ensures.held.queue c.chunks-before.ensures.value c.chunks.ensures.value

pub returns-clause-pipes : goal.returns-clause-pipes
returns-clause-pipes c files same =
    pipes_turned c.self.inside.places c.args.place c.get_mut-pipe.result.now c.get_mut-pipe.ensures.value files (λ pipe. after_read pipe c.args.count) c.drop_first.new.self c.drop_first.ensures.read
    (same ∙ ap pipes_in (sym c.self.view_is))

pub returns-clause-fronts : goal.returns-clause-fronts
returns-clause-fronts c =
    rw (← c.self.view_is) (fronts_turned c.self.inside.places c.args.place c.get_mut-pipe.result.now c.get_mut-pipe.ensures.value (after_read c.get_mut-pipe.result.now.pipe c.args.count) c.drop_first.new.self c.self.inside.chunks c.drop_first.ensures.read c.self.invariant)
