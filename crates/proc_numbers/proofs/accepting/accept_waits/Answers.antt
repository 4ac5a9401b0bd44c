use Rattle.std.proofs.Common.{◌∙◌, [], ap, subst}
use Rattle.posix_defs.specs.Socket.{accept as accept_in}
use Rattle.posix_defs.specs.Sockets.{stage_at}
use Rattle.usock_core.specs.Answers.{accept_would_wait}
use Rattle.proc_numbers.specs.Finding.{FindsSocket}
use Rattle.proc_numbers.proofs.Told.{accept_as, accept_sleeps, socket_there, wont_wait}
use Rattle.proc_numbers.proofs.accepting.accept_waits.Goals as goal

pub returns-in_default : goal.returns-in_default
returns-in_default c = λ numbers script plain have.
    wont_wait numbers script plain c.args.place.pid c.args.on.now.fd c.socket.result c.in_default.not-Ok
    (c.socket.ensures.found c.args.heap.now c.args.procs.now c.args.place.pid numbers script plain (accept_as script plain c.args.place.pid) c.requires.opened have)

pub accept_waits-requires : goal.accept_waits-requires
accept_waits-requires c = socket_there c.args.heap.now [] c.in-Ok.found.key c.requires.owners (c.in-Ok.ensures.there c.args.heap.now c.args.procs.now c.args.place.pid c.requires.opened)

pub returns : goal.returns
returns c = λ numbers script plain have.
    accept_sleeps numbers c.args.heap.now c.args.procs.now script plain c.args.place.pid c.args.on.now.fd c.in-Ok.found c.requires.owners (c.in-Ok.ensures.there c.args.heap.now c.args.procs.now c.args.place.pid c.requires.opened) have
    (λ answer. subst (FindsSocket numbers script plain c.args.place.pid c.args.on.now.fd answer) c.in-Ok.is (c.socket.ensures.found c.args.heap.now c.args.procs.now c.args.place.pid numbers script plain answer c.requires.opened have))
    c.lowest_from-lowest.result (c.lowest_from-lowest.ensures.lowest numbers plain.files have) c.accept_waits.result
    (λ sockets stands. c.accept_waits.ensures sockets stands ∙ ap (λ b. accept_would_wait (accept_in (stage_at sockets c.in-Ok.found.key) b c.in-Ok.found.nonblock)) c.is_some.ensures)
