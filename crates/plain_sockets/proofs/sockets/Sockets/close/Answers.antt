use Rattle.std.proofs.Common.{◌≡◌, ap, sym, ◌∙◌, subst}
use Rattle.posix_defs.specs.Socket.{Socket, waiting_of}
use Rattle.posix_defs.specs.SocketLinks.{AreLinked, AreLoose}
use Rattle.posix_defs.specs.Sockets.{all_gone, gone, stage_at}
use Rattle.socket_laws.proofs.SocketCalls.{gone_linked, waiting_loose}
use Rattle.plain_sockets.specs.Held.{sockets_in}
use Rattle.plain_sockets.proofs.TurnLemmas.{fades_follow, fades_then}
use Rattle.plain_sockets.proofs.sockets.Sockets.close.Goals as goal

pub all_go-requires-clause-linked : goal.all_go-requires-clause-linked
all_go-requires-clause-linked c =
    subst AreLinked (sym c.go-socket.ensures.sockets) (gone_linked (sockets_in c.args.self.now) c.args.place c.requires.linked c.requires.there c.requires.alone)

pub all_go-requires-clause-loose : goal.all_go-requires-clause-loose
all_go-requires-clause-loose c =
    let waiting : waiting_of (stage_at (sockets_in c.args.self.now) c.args.place) ≡ c.waiting.result.now =
    ap (λ (s : Socket). waiting_of s.stage) (sym c.go-socket.ensures.socket) ∙ sym c.waiting.ensures in
    subst (λ s. AreLoose s c.waiting.result.now) (sym c.go-socket.ensures.sockets)
    (subst (AreLoose (gone (sockets_in c.args.self.now) c.args.place)) waiting
    (waiting_loose (sockets_in c.args.self.now) c.args.place c.requires.linked c.requires.there c.requires.alone))

pub returns-clause-sockets : goal.returns-clause-sockets
returns-clause-sockets c =
    let waiting : waiting_of (stage_at (sockets_in c.args.self.now) c.args.place) ≡ c.waiting.result.now =
    ap (λ (s : Socket). waiting_of s.stage) (sym c.go-socket.ensures.socket) ∙ sym c.waiting.ensures in
    c.all_go.ensures.sockets ∙ ap (λ s. all_gone s c.waiting.result.now) c.go-socket.ensures.sockets
    ∙ ap (all_gone (gone (sockets_in c.args.self.now) c.args.place)) (sym waiting)

pub returns-clause-fronts : goal.returns-clause-fronts
returns-clause-fronts c =
    fades_follow c.args.self.now c.all_go.new.self
    (fades_then c.args.self.now c.go-socket.new.self c.all_go.new.self c.go-socket.ensures.fades c.all_go.ensures.fade)
