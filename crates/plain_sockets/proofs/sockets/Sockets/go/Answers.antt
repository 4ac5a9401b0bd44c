use Rattle.std.proofs.Common.{◌≡◌, IsSome, ap, sym, ◌∙◌, subst}
use Rattle.std.specs.Prelude.{IfSome}
use Rattle.posix_defs.specs.Socket.{Socket, peer_of}
use Rattle.posix_defs.specs.Sockets.{sock_at, stage_at}
use Rattle.plain_sockets.specs.Held.{sockets_in}
use Rattle.plain_sockets.proofs.StepLemmas.{peers_still}
use Rattle.plain_sockets.proofs.sockets.Sockets.go.Goals as goal

pub part-requires : goal.part-requires
part-requires c =
    let is : peer_of (stage_at (sockets_in c.args.self.now) c.args.place) ≡ c.peer.result =
    ap (λ (s : Socket). peer_of s.stage) (sym c.remove-socket.ensures.socket) ∙ sym c.peer.ensures in
    subst (λ s. IfSome c.peer.result (λ other. IsSome (sock_at s other))) (sym c.remove-socket.ensures.sockets)
    (peers_still (sockets_in c.args.self.now) c.args.place c.peer.result c.requires.linked c.requires.there is)
