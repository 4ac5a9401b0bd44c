use Rattle.std.proofs.Common.{ap, sym, ◌∙◌, arith}
use Rattle.plain_bytes.proofs.KeptLemmas.{chunks_fit, has_chunks, kept_turned}
use Rattle.posix_defs.specs.Pipe.{after_write}
use Rattle.plain_pipes.specs.Held.{pipes_in, queue_of}
use Rattle.plain_pipes.proofs.TurnLemmas.{fronts_turned, pipes_turned}
use Rattle.plain_pipes.proofs.pipes.Pipes.put.Goals as goal

pub overflow_sub-self : goal.overflow_sub-self
overflow_sub-self c =
    let has = has_chunks queue_of c.self.inside.places c.args.place c.get_mut-pipe.result.now c.get_mut-pipe.ensures.value c.self.inside.chunks c.self.invariant in
    omega (arith, has, c.chunks-before.ensures.value)

pub overflow_add-self : goal.overflow_add-self
overflow_add-self c =
    let room = chunks_fit queue_of c.self.inside.places c.self.inside.chunks c.self.invariant in
    record { fits = omega (arith, room, c.chunks.ensures.few) }

pub invariant_of-self-2 : goal.invariant_of-self-2
invariant_of-self-2 c =
    kept_turned queue_of c.self.inside.places c.args.place c.get_mut-pipe.result.now c.get_mut-pipe.ensures.value c.put.new.self c.self.inside.chunks c.chunks-before.result
    c.chunks.result c.self.invariant c.put.ensures.held.queue c.chunks-before.ensures.value c.chunks.ensures.value

pub returns-clause-pipes : goal.returns-clause-pipes
returns-clause-pipes c files same =
    pipes_turned c.self.inside.places c.args.place c.get_mut-pipe.result.now c.get_mut-pipe.ensures.value files (λ pipe. after_write pipe c.args.bytes.now c.args.count) c.put.new.self c.in_ok-put.ensures.written
    (same ∙ ap pipes_in (sym c.self.view_is))

pub returns-clause-fronts : goal.returns-clause-fronts
returns-clause-fronts c =
    rw (← c.self.view_is) (fronts_turned c.self.inside.places c.args.place c.get_mut-pipe.result.now c.get_mut-pipe.ensures.value (after_write c.get_mut-pipe.result.now.pipe c.args.bytes.now c.args.count) c.put.new.self c.self.inside.chunks c.in_ok-put.ensures.written c.self.invariant)
