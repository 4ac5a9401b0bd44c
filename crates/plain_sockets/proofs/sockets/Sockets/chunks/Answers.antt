use Rattle.std.proofs.Common.{ap, sym, ◌∙◌}
use Rattle.posix_defs.specs.Account.{chunks_taken}
use Rattle.plain_bytes.specs.Many.{queues_of}
use Rattle.plain_bytes.proofs.ManyLemmas.{taken_all}
use Rattle.plain_sockets.specs.Held.{fronts_in, queue_of}
use Rattle.plain_sockets.proofs.PlaceLemmas.{lengths_same}
use Rattle.plain_sockets.proofs.sockets.Sockets.chunks.Goals as goal

pub returns : goal.returns
returns c =
    rw (← c.self.view_is)
    (c.self.invariant.sum ∙ taken_all (queues_of queue_of c.self.inside.places)
    ∙ ap (λ n. chunks_taken n (fronts_in c.self.inside.places)) (sym (lengths_same c.self.inside.places)))
