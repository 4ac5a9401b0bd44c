use Rattle.std.proofs.Common.{◌<◌, ap, sym, ◌∙◌, subst, arith}
use Rattle.plain_bytes.proofs.KeptLemmas.{has_chunks, kept_turned}
use Rattle.posix_defs.specs.Calls.OnFiles.{most_opens}
use Rattle.posix_defs.specs.Pipe.{Pipe, opens_of, with_end}
use Rattle.plain_pipes.specs.Held.{pipe_in, queue_of}
use Rattle.plain_pipes.proofs.PlaceLemmas.{pipe_is_in}
use Rattle.plain_pipes.proofs.TurnLemmas.{fronts_turned, list_turned}
use Rattle.plain_pipes.proofs.pipes.Pipes.open_more.Goals as goal

pub open_end-requires : goal.open_end-requires
open_end-requires c =
    subst (λ (pipe : Pipe). opens_of pipe c.args.writing < most_opens)
    (ap (λ held. pipe_in held c.args.place) (sym c.self.view_is)
    ∙ pipe_is_in c.self.inside.places c.args.place c.get_mut-pipe.result.now c.get_mut-pipe.ensures.value) c.requires.few

pub overflow_sub-self : goal.overflow_sub-self
overflow_sub-self c =
    let has = has_chunks queue_of c.self.inside.places c.args.place c.get_mut-pipe.result.now c.get_mut-pipe.ensures.value c.self.inside.chunks c.self.invariant in
    omega (arith, has, c.chunks-before.ensures.value)

pub invariant_of-self : goal.invariant_of-self
invariant_of-self c =
    kept_turned queue_of c.self.inside.places c.args.place c.get_mut-pipe.result.now c.get_mut-pipe.ensures.value c.open_end.new.self c.self.inside.chunks c.chunks-before.result
    c.chunks.result c.self.invariant c.open_end.ensures.held.queue c.chunks-before.ensures.value c.chunks.ensures.value

pub returns-clause-pipes : goal.returns-clause-pipes
returns-clause-pipes c =
    rw (← c.self.view_is) (list_turned c.self.inside.places c.args.place c.get_mut-pipe.result.now c.get_mut-pipe.ensures.value (λ pipe. with_end pipe c.args.writing) c.open_end.new.self c.open_end.ensures.opened)

pub returns-clause-fronts : goal.returns-clause-fronts
returns-clause-fronts c =
    rw (← c.self.view_is) (fronts_turned c.self.inside.places c.args.place c.get_mut-pipe.result.now c.get_mut-pipe.ensures.value (with_end c.get_mut-pipe.result.now.pipe c.args.writing) c.open_end.new.self c.self.inside.chunks c.open_end.ensures.opened c.self.invariant)
