use Rattle.std.proofs.Common.{◌≡◌, drop}
use Rattle.posix_defs.specs.SocketLinks.{AreLinked, AreLoose}
use Rattle.posix_defs.specs.Sockets.{all_gone}
use Rattle.plain_bytes.specs.Many.{Fade, queues_of}
use Rattle.plain_sockets.specs.Held.{queue_of, sockets_in}
use Rattle.plain_sockets.proofs.sockets.Sockets.all_go.Given as goal

-- those that are left can go, and once they have all have
abbrev pub invariant-loop-place : goal.invariant-loop-place
invariant-loop-place l = record {
  linked : AreLinked (sockets_in l.self);
  loose : AreLoose (sockets_in l.self) (drop l.place-index l.places);
  rest : all_gone (sockets_in l.self) (drop l.place-index l.places) ≡ all_gone (sockets_in l.fn.self) l.places;
  fade : Fade (queues_of queue_of l.fn.self) (queues_of queue_of l.self);
}
