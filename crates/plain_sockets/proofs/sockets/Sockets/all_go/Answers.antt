use Rattle.std.proofs.Common.{◌+◌, drop, refl, ap, sym, ◌∙◌, subst, arith}
use Rattle.posix_defs.specs.SocketLinks.{AreLinked, AreLoose}
use Rattle.posix_defs.specs.Sockets.{all_gone}
use Rattle.plain_bytes.specs.Many.{queues_of}
use Rattle.plain_bytes.proofs.ManyLemmas.{fade_further, fade_same}
use Rattle.plain_sockets.specs.Held.{queue_of, sockets_in}
use Rattle.plain_sockets.proofs.StepLemmas.{next_gone, next_linked, next_loose, next_there}
use Rattle.plain_sockets.proofs.sockets.Sockets.all_go.Goals as goal

pub go-requires-clause-there : goal.go-requires-clause-there
go-requires-clause-there c = next_there (sockets_in c.loop-place.self) c.args.places.now c.loop-place.place-index (omega arith) c.loop-place.invariant.loose

pub loop-place-init : goal.loop-place-init
loop-place-init c = record { linked = c.requires.linked; loose = c.requires.loose; rest = refl; fade = fade_same (queues_of queue_of c.args.self.now) }

pub loop-place-preserved : goal.loop-place-preserved
loop-place-preserved c =
    let now = sockets_in c.loop-place.self in
    let places = c.args.places.now in
    let i = c.loop-place.place-index in
    record {
      linked = subst AreLinked (sym c.go.ensures.sockets) (next_linked now places i (omega arith) c.loop-place.invariant.linked c.loop-place.invariant.loose);
      loose = subst (λ s. AreLoose s (drop (i + 1) places)) (sym c.go.ensures.sockets) (next_loose now places i (omega arith) c.loop-place.invariant.linked c.loop-place.invariant.loose);
      rest = ap (λ s. all_gone s (drop (i + 1) places)) c.go.ensures.sockets ∙ next_gone now (all_gone (sockets_in c.args.self.now) places) places i (omega arith) c.loop-place.invariant.rest;
      fade = fade_further (queues_of queue_of c.args.self.now) (queues_of queue_of c.loop-place.self) (queues_of queue_of c.go.new.self) c.loop-place.invariant.fade c.go.ensures.fades.fade;
    }
