use Rattle.std.proofs.Common.{refl}
use Rattle.proc_numbers.specs.Found.{held_in}
use Rattle.proc_numbers.proofs.NumberCloses.{no_some}
use Rattle.proc_numbers.proofs.OpenedBy.{is_held, is_none, is_there}
use Rattle.proc_numbers.proofs.Told.{finds_nothing, finds_other, finds_socket, on_named}
use Rattle.proc_numbers.proofs.lookups.Named.socket.Goals as goal

pub returns-in_default-clause-found : goal.returns-in_default-clause-found
returns-in_default-clause-found c = λ h kept pid numbers script plain answer opened have.
    finds_nothing numbers h kept script plain pid have c.args.self.now.fd answer (is_none h kept pid c.args.self.now opened (no_some c.args.self.now.found c.in_default.not-Some))

pub returns-clause-found : goal.returns-clause-found
returns-clause-found c = λ h kept pid numbers script plain answer opened have.
    finds_socket numbers h kept script plain pid have c.args.self.now.fd answer (held_in c.in-Some.found) c.in-Some.found.desc
    (is_held h kept pid c.args.self.now opened c.in-Some.found c.in-Some.is) (is_there h kept pid c.args.self.now opened c.in-Some.found c.in-Some.is)
    c.in-Sock.key c.in-Some.found.desc.flags.nonblock c.in-Sock.is refl

pub returns-clause-there : goal.returns-clause-there
returns-clause-there c = λ h kept pid opened.
    on_named h c.in-Some.found.key c.in-Sock.key c.in-Some.found.desc (is_there h kept pid c.args.self.now opened c.in-Some.found c.in-Some.is) c.in-Sock.is

pub returns-in_default-target-clause-found : goal.returns-in_default-target-clause-found
returns-in_default-target-clause-found c = λ h kept pid numbers script plain answer opened have.
    finds_other numbers h kept script plain pid have c.args.self.now.fd answer (held_in c.in-Some.found) c.in-Some.found.desc
    (is_held h kept pid c.args.self.now opened c.in-Some.found c.in-Some.is) (is_there h kept pid c.args.self.now opened c.in-Some.found c.in-Some.is) c.in_default-target.not-Sock
