use Rattle.std.proofs.Common.{◌≡◌, ◌∙◌, inl, inr, subst, sym}
use Rattle.kheap_slabs.specs.declared.objects.SockState.TheVariants as state
use Rattle.usock_core.specs.Standing.{IsListeningIn}
use Rattle.proc_files.proofs.Listening.{listener_there, no_listener, nobody_there, same_number, stage_there}
use Rattle.proc_files.proofs.Tables.{named_used}
use Rattle.proc_files.proofs.connecting.listener_at.Goals as goal

pub returns-in_err-key-clause-listener : goal.returns-in_err-key-clause-listener
returns-in_err-key-clause-listener c = λ sockets stands.
    c.from_residual.ensures
    ∙ nobody_there c.args.heap.now c.args.names.now c.requires.bound sockets stands c.args.node (sym c.bound_at.ensures ∙ c.in_err-key.was)

pub get_sock-requires : goal.get_sock-requires
get_sock-requires c =
    named_used c.args.heap.now c.in_ok-key.key c.args.node (c.requires.bound.bound c.args.node c.in_ok-key.key (sym c.bound_at.ensures ∙ c.in_ok-key.was))

pub returns-in-Listening-clause-listener : goal.returns-in-Listening-clause-listener
returns-in-Listening-clause-listener c = λ sockets stands.
    listener_there c.args.heap.now c.args.names.now c.requires.bound sockets stands c.args.node c.in_ok-key.key (sym c.bound_at.ensures ∙ c.in_ok-key.was) c.get_sock.result.now c.get_sock.ensures
    c.in-Listening.is

pub returns-in-Listening-clause-listens : goal.returns-in-Listening-clause-listens
returns-in-Listening-clause-listens c = λ key is.
    let there = c.requires.stands in
    let stage =
    stage_there c.args.heap.now c.args.names.now c.requires.bound there.0 there.1 c.args.node c.in_ok-key.key (sym c.bound_at.ensures ∙ c.in_ok-key.was) c.get_sock.result.now c.get_sock.ensures
    c.in-Listening.is in
    subst (IsListeningIn c.args.heap.now) (same_number is) (record { sockets = there.0; stands = there.1; waiting = stage.0; listens = stage.1 })

pub returns-in-Idle : goal.returns-in-Idle
returns-in-Idle c = record {
  listener = λ sockets stands.
      no_listener c.args.heap.now c.args.names.now c.requires.bound sockets stands c.args.node c.in_ok-key.key (sym c.bound_at.ensures ∙ c.in_ok-key.was) c.get_sock.result.now c.get_sock.ensures
      (λ listens. elim c.in-Idle.is [
        | inl idle ↦ (let both : state.Idle ≡ state.Listening = sym idle ∙ listens in cc)
        | inr connected ↦ (let both : state.Connected connected.0 connected.1 ≡ state.Listening = sym connected.2 ∙ listens in cc)
      ]);
  listens = λ key is. absurd (cc);
}
