use Rattle.std.proofs.Common.{◌≡◌, ◌<◌, ◌++◌, ◌∷◌, [], Some, ap, sym, ◌∙◌, subst}
use Rattle.std.proofs.lemmas.Result.{on_ok_weaker}
use Rattle.posix_defs.specs.Pipe.{opens_of, with_end}
use Rattle.posix_defs.specs.Calls.OnFiles.{most_opens}
use Rattle.plain_bytes.specs.Unread.{nothing}
use Rattle.plain_pipes.specs.Held.{FrontsFollow, Held, becomes, queue_of}
use Rattle.plain_pipes.proofs.FifoLemmas.{few_opens, no_byte}
use Rattle.plain_pipes.proofs.TurnLemmas.{fronts_added}
use Rattle.plain_pipes.proofs.pipes.Pipes.open_first.Goals as goal

pub open_end-requires : goal.open_end-requires
open_end-requires c =
    subst (λ (held : Held). opens_of held.pipe c.args.writing < most_opens) (sym c.unopened-pipe.ensures) (few_opens c.args.number c.args.writing)

pub returns-clause-fronts : goal.returns-clause-fronts
returns-clause-fronts c =
    let empty : queue_of c.open_end.new.self ≡ nothing =
    ap queue_of c.open_end.ensures.opened ∙ ap (λ (held : Held). queue_of (becomes held (with_end held.pipe c.args.writing))) c.unopened-pipe.ensures ∙ no_byte c.args.number c.args.writing in
    rw (← c.self.view_is)
    (on_ok_weaker c.push.result (λ (is : c.push.new.self ≡ c.self.inside.places ++ Some c.open_end.new.self ∷ []).
    subst (FrontsFollow c.self.inside.places) (sym is)
    (fronts_added c.self.inside.places c.open_end.new.self c.self.inside.chunks empty c.self.invariant)) c.push.ensures.pushed)
