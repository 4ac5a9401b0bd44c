use Rattle.std.proofs.Common.{◌≡◌, false, ◌++◌, ◌∷◌, [], length, Some, IsSome, refl, ap, sym, ◌∙◌, subst}
use Rattle.std.proofs.lemmas.Result.{on_ok_weaker}
use Rattle.posix_defs.specs.Socket.{Connected, Listening, connected_to, waiting_of}
use Rattle.posix_defs.specs.Sockets.{sock_at, stage_at, with_socket, with_stage}
use Rattle.plain_sockets.specs.Held.{Held, sockets_in}
use Rattle.plain_sockets.proofs.StepLemmas.{client_still, connected, listener_still}
use Rattle.plain_sockets.proofs.TurnLemmas.{fades_follow, fades_further}
use Rattle.plain_sockets.proofs.sockets.Sockets.connect.Goals as goal

pub connect_to-requires : goal.connect_to-requires
connect_to-requires c =
    let joined : sockets_in c.add.new.self ≡ with_socket (sockets_in c.args.self.now) (length (sockets_in c.args.self.now)) (Some (connected_to c.args.client)) =
    c.in_ok-made.ensures.sockets
    ∙ ap (λ (held : Held). with_socket (sockets_in c.args.self.now) (length (sockets_in c.args.self.now)) (Some held.socket)) c.connected_to.ensures in
    subst (λ s. IsSome (sock_at s c.args.client)) (sym joined) (client_still (sockets_in c.args.self.now) c.args.client c.args.listener c.requires.client c.requires.listener c.requires.apart)

pub wait_at-requires : goal.wait_at-requires
wait_at-requires c =
    let joined : sockets_in c.add.new.self ≡ with_socket (sockets_in c.args.self.now) (length (sockets_in c.args.self.now)) (Some (connected_to c.args.client)) =
    c.in_ok-made.ensures.sockets
    ∙ ap (λ (held : Held). with_socket (sockets_in c.args.self.now) (length (sockets_in c.args.self.now)) (Some held.socket)) c.connected_to.ensures in
    let turned : sockets_in c.connect_to.new.self ≡ with_stage (with_socket (sockets_in c.args.self.now) (length (sockets_in c.args.self.now)) (Some (connected_to c.args.client))) c.args.client (Connected (Some (length (sockets_in c.args.self.now))) false false) =
    c.connect_to.ensures.sockets ∙ ap (λ s. with_stage s c.args.client (Connected (Some c.in_ok-made.made) false false)) joined
    ∙ ap (λ made. with_stage (with_socket (sockets_in c.args.self.now) (length (sockets_in c.args.self.now)) (Some (connected_to c.args.client))) c.args.client (Connected (Some made) false false)) c.in_ok-made.ensures.place in
    subst (λ s. IsSome (sock_at s c.args.listener)) (sym turned) (listener_still (sockets_in c.args.self.now) c.args.client c.args.listener c.requires.client c.requires.listener c.requires.apart (length (sockets_in c.args.self.now)) refl)

pub returns-clause-sockets : goal.returns-clause-sockets
returns-clause-sockets c =
    let joined : sockets_in c.add.new.self ≡ with_socket (sockets_in c.args.self.now) (length (sockets_in c.args.self.now)) (Some (connected_to c.args.client)) =
    c.in_ok-made.ensures.sockets
    ∙ ap (λ (held : Held). with_socket (sockets_in c.args.self.now) (length (sockets_in c.args.self.now)) (Some held.socket)) c.connected_to.ensures in
    let turned : sockets_in c.connect_to.new.self ≡ with_stage (with_socket (sockets_in c.args.self.now) (length (sockets_in c.args.self.now)) (Some (connected_to c.args.client))) c.args.client (Connected (Some (length (sockets_in c.args.self.now))) false false) =
    c.connect_to.ensures.sockets ∙ ap (λ s. with_stage s c.args.client (Connected (Some c.in_ok-made.made) false false)) joined
    ∙ ap (λ made. with_stage (with_socket (sockets_in c.args.self.now) (length (sockets_in c.args.self.now)) (Some (connected_to c.args.client))) c.args.client (Connected (Some made) false false)) c.in_ok-made.ensures.place in
    on_ok_weaker c.wait_at.result
    (λ (is : sockets_in c.wait_at.new.self ≡ with_stage (sockets_in c.connect_to.new.self) c.args.listener (Listening (waiting_of (stage_at (sockets_in c.connect_to.new.self) c.args.listener) ++ c.in_ok-made.made ∷ []))).
    is ∙ ap (λ s. with_stage s c.args.listener (Listening (waiting_of (stage_at s c.args.listener) ++ c.in_ok-made.made ∷ []))) turned
    ∙ ap (λ made. with_stage (with_stage (with_socket (sockets_in c.args.self.now) (length (sockets_in c.args.self.now)) (Some (connected_to c.args.client))) c.args.client (Connected (Some (length (sockets_in c.args.self.now))) false false)) c.args.listener
    (Listening (waiting_of (stage_at (with_stage (with_socket (sockets_in c.args.self.now) (length (sockets_in c.args.self.now)) (Some (connected_to c.args.client))) c.args.client (Connected (Some (length (sockets_in c.args.self.now))) false false)) c.args.listener) ++ made ∷ []))) c.in_ok-made.ensures.place
    ∙ connected (sockets_in c.args.self.now) c.args.client c.args.listener c.requires.client c.requires.listener c.requires.apart) c.wait_at.ensures.sockets

pub returns-clause-fronts : goal.returns-clause-fronts
returns-clause-fronts c =
    let first = fades_further c.args.self.now c.add.new.self c.connect_to.new.self c.in_ok-made.ensures.fades c.connect_to.ensures.fades in
    on_ok_weaker c.wait_at.result
    (λ (is : sockets_in c.wait_at.new.self ≡ with_stage (sockets_in c.connect_to.new.self) c.args.listener (Listening (waiting_of (stage_at (sockets_in c.connect_to.new.self) c.args.listener) ++ c.in_ok-made.made ∷ []))).
    fades_follow c.args.self.now c.wait_at.new.self (fades_further c.args.self.now c.connect_to.new.self c.wait_at.new.self first c.wait_at.ensures.fades))
    c.wait_at.ensures.sockets
