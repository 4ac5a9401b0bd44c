use Rattle.std.proofs.Common.{◌-◌, ap, sym, ◌∙◌, subst, arith}
use Rattle.plain_bytes.specs.Many.{AreKept}
use Rattle.plain_bytes.proofs.KeptLemmas.{has_chunks, kept_turned}
use Rattle.plain_pipes.specs.Held.{FrontsFollow, pipes_in, queue_of}
use Rattle.plain_pipes.proofs.TurnLemmas.{closed_of, fronts_gone, fronts_turned, kept_left, pipes_closed, pipes_ended, put_gone}
use Rattle.plain_pipes.proofs.pipes.Pipes.close.Goals as goal

pub overflow_sub-self : goal.overflow_sub-self
overflow_sub-self c =
    let has = has_chunks queue_of c.self.inside.places c.args.place c.get_mut-pipe.result.now c.get_mut-pipe.ensures.value c.self.inside.chunks c.self.invariant in
    omega (arith, has, c.chunks-before.ensures.value)

pub invariant_of-self : goal.invariant_of-self
invariant_of-self c =
    kept_turned queue_of c.self.inside.places c.args.place c.get_mut-pipe.result.now c.get_mut-pipe.ensures.value c.close_end.new.self c.self.inside.chunks c.chunks-before.result
    c.chunks.result c.self.invariant c.close_end.ensures.held.queue c.chunks-before.ensures.value c.chunks.ensures.value

pub returns-then-has_end-clause-pipes : goal.returns-then-has_end-clause-pipes
returns-then-has_end-clause-pipes c files same =
    pipes_closed c.self.inside.places c.args.place c.get_mut-pipe.result.now c.get_mut-pipe.ensures.value files c.args.writing c.close_end.new.self c.close_end.ensures.closed
    (same ∙ ap pipes_in (sym c.self.view_is)) (sym c.has_end.ensures ∙ c.if-has_end.true)

pub returns-then-has_end-clause-fronts : goal.returns-then-has_end-clause-fronts
returns-then-has_end-clause-fronts c =
    rw (← c.self.view_is) (fronts_turned c.self.inside.places c.args.place c.get_mut-pipe.result.now c.get_mut-pipe.ensures.value (closed_of c.args.writing c.get_mut-pipe.result.now.pipe) c.close_end.new.self c.self.inside.chunks c.close_end.ensures.closed c.self.invariant)

pub overflow_sub-self-2 : goal.overflow_sub-self-2
overflow_sub-self-2 c =
    let has = has_chunks queue_of c.self.inside.places c.args.place c.get_mut-pipe.result.now c.get_mut-pipe.ensures.value c.self.inside.chunks c.self.invariant in
    omega (arith, has, c.chunks-before.ensures.value)

pub invariant_of-self-2 : goal.invariant_of-self-2
invariant_of-self-2 c =
    let left = c.remove.ensures.left ∙ put_gone c.self.inside.places c.args.place c.get_mut-pipe.result.now c.get_mut-pipe.ensures.value c.close_end.new.self in
    subst (λ l. AreKept queue_of l (c.self.inside.chunks - c.chunks-before.result)) (sym left)
    (kept_left c.self.inside.places c.args.place c.get_mut-pipe.result.now c.get_mut-pipe.ensures.value c.self.inside.chunks c.chunks-before.result c.self.invariant c.chunks-before.ensures.value)

pub returns-clause-pipes : goal.returns-clause-pipes
returns-clause-pipes c files same =
    ap pipes_in (c.remove.ensures.left ∙ put_gone c.self.inside.places c.args.place c.get_mut-pipe.result.now c.get_mut-pipe.ensures.value c.close_end.new.self)
    ∙ pipes_ended c.self.inside.places c.args.place c.get_mut-pipe.result.now c.get_mut-pipe.ensures.value files c.args.writing c.close_end.new.self c.close_end.ensures.closed
    (same ∙ ap pipes_in (sym c.self.view_is)) (sym c.has_end.ensures ∙ c.if-has_end.false)

pub returns-clause-fronts : goal.returns-clause-fronts
returns-clause-fronts c =
    let left = c.remove.ensures.left ∙ put_gone c.self.inside.places c.args.place c.get_mut-pipe.result.now c.get_mut-pipe.ensures.value c.close_end.new.self in
    rw (← c.self.view_is)
    (subst (FrontsFollow c.self.inside.places) (sym left)
    (fronts_gone c.self.inside.places c.args.place c.get_mut-pipe.result.now c.get_mut-pipe.ensures.value c.self.inside.chunks c.self.invariant))
