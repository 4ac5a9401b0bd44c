use Rattle.std.proofs.Common.{sym, ◌∙◌}
use Rattle.plain_sockets.specs.Held.{sockets_in}
use Rattle.socket_laws.proofs.ListenerLemmas.{freed_name, no_name_to_free}
use Rattle.plain_sockets.proofs.StepLemmas.{is_bound, nobody_bound}
use Rattle.plain_sockets.proofs.sockets.Sockets.forget_name.Goals as goal

pub set_name-requires : goal.set_name-requires
set_name-requires c = (is_bound c.args.number (sockets_in c.args.self.now) c.in-Some.place (sym c.in-Some.ensures)).0

pub returns-in-Some-clause-sockets : goal.returns-in-Some-clause-sockets
returns-in-Some-clause-sockets c =
    let bound = is_bound c.args.number (sockets_in c.args.self.now) c.in-Some.place (sym c.in-Some.ensures) in
    c.set_name.ensures.sockets ∙ sym (freed_name (sockets_in c.args.self.now) c.in-Some.place c.args.number c.requires bound.1)

pub returns-in-None-clause-sockets : goal.returns-in-None-clause-sockets
returns-in-None-clause-sockets c =
    sym (no_name_to_free (sockets_in c.args.self.now) c.args.number (nobody_bound c.args.number (sockets_in c.args.self.now) (sym c.in-None.ensures)))
