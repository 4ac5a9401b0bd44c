use Rattle.std.proofs.Common.{refl, arith}
use Rattle.kheap_laws.proofs.PaidLemmas.{IsPaid-trans, IsPaid-nothing, CanPay-kept}
use Rattle.usock_core.proofs.ConnectLemmas.{listener_used, listens_still, room_at, in_words, taken_at, backlog_of, idle_now, connected_stands, made_used}
use Rattle.posix_defs.specs.Sockets.{Sockets, after_connect}
use Rattle.usock_core.specs.Standing.{StandsFor}
use Rattle.usock_core.proofs.HeldLemmas.{held_connected}
use Rattle.usock_core.proofs.connecting.connect.Goals as goal

pub get_sock-requires : goal.get_sock-requires
get_sock-requires c = listener_used c.args.heap.now c.in-Some.listener (c.requires.listens c.in-Some.listener c.in-Some.is)

pub offset_bounds-listening-place : goal.offset_bounds-listening-place
offset_bounds-listening-place c =
    let listens = c.requires.listens c.in-Some.listener c.in-Some.is in
    let at = room_at c.args.heap.now c.in-Some.listener c.get_sock.result.now c.first_free.result c.in-Some-first_free.place listens.sockets c.get_sock.ensures listens listens.stands c.first_free.ensures c.in-Some-first_free.is in
    in_words c.in-Some-first_free.place (omega (arith, at.0, at.1))

pub bounds-listening-place : goal.bounds-listening-place
bounds-listening-place c =
    let listens = c.requires.listens c.in-Some.listener c.in-Some.is in
    let at = room_at c.args.heap.now c.in-Some.listener c.get_sock.result.now c.first_free.result c.in-Some-first_free.place listens.sockets c.get_sock.ensures listens listens.stands c.first_free.ensures c.in-Some-first_free.is in
    omega (arith, at.0, at.1)

pub returns-clause-answer : goal.returns-clause-answer
returns-clause-answer c sockets stands =
    let listens = c.requires.listens c.in-Some.listener c.in-Some.is in
    let at = room_at c.args.heap.now c.in-Some.listener c.get_sock.result.now c.first_free.result c.in-Some-first_free.place sockets c.get_sock.ensures listens stands c.first_free.ensures c.in-Some-first_free.is in
    taken_at sockets c.args.listener c.in-Some.listener c.in-Some.is at.1

-- what stands after the connection
stands_after : (c : goal.After-replace-2) (sockets : Sockets) → StandsFor c.args.heap.now sockets → StandsFor c.replace-2.new.heap (after_connect sockets c.args.key c.in-Some.listener c.add-made.result)
stands_after c sockets stands =
    let listens = c.requires.listens c.in-Some.listener c.in-Some.is in
    let state_is = listens_still c.args.heap.now c.in-Some.listener c.get_sock.result.now c.get_sock.ensures listens in
    let at = room_at c.args.heap.now c.in-Some.listener c.get_sock.result.now c.first_free.result c.in-Some-first_free.place sockets c.get_sock.ensures listens stands c.first_free.ensures c.in-Some-first_free.is in
    let behind = backlog_of c.args.heap.now c.in-Some.listener c.get_sock.result.now sockets c.get_sock.ensures state_is stands in
    connected_stands c.args.heap.now c.add-made.new.heap c.replace.new.heap c.replace-2.new.heap c.args.key c.in-Some.listener c.add-made.result c.in-Some-first_free.place c.connected_to.result c.connected_to-2.result c.get_sock-client.result.now c.get_sock-2.result.now sockets
    c.add-made.ensures.comes c.connected_to.ensures.shape c.get_sock-client.ensures c.connected_to-2.ensures.shape c.replace.ensures.becomes c.get_sock-2.ensures c.replace-2.ensures.becomes c.requires.idle.used
    (idle_now c.args.heap.now c.args.key sockets c.requires.idle stands) behind.stage at.0 at.1 stands

pub returns-clause-connected : goal.returns-clause-connected
returns-clause-connected c =
    rw c.in-Some.is (record {
      made = c.add-made.result;
      vacant = c.add-made.ensures.comes.vacant;
      used = made_used c.args.heap.now c.add-made.new.heap c.replace.new.heap c.replace-2.new.heap c.args.key c.in-Some.listener c.add-made.result c.connected_to.result c.add-made.ensures.comes.vacant c.requires.idle.used
          (listener_used c.args.heap.now c.in-Some.listener (c.requires.listens c.in-Some.listener c.in-Some.is)) c.add-made.ensures.comes.stored c.replace.ensures.becomes.kept c.replace-2.ensures.becomes.kept;
      stands = stands_after c;
    })

pub returns-clause-held : goal.returns-clause-held
returns-clause-held c =
    held_connected c.args.heap.now c.replace-2.new.heap c.args.key c.in-Some.listener c.add-made.result c.get_sock.result.now c.add-made.ensures.comes.within c.add-made.ensures.comes.vacant c.requires.idle c.get_sock.ensures (c.requires.listens c.in-Some.listener c.in-Some.is) (stands_after c)

pub returns-clause-paid : goal.returns-clause-paid
returns-clause-paid c =
    let h1 = c.add-made.new.heap in
    let h2 = c.replace.new.heap in
    let h3 = c.replace-2.new.heap in
    let p1 = c.add-made.new.purse in
    IsPaid-trans c.args.heap.now c.args.purse.now h2 p1 h3 p1 (IsPaid-trans c.args.heap.now c.args.purse.now h1 p1 h2 p1 c.add-made.ensures.paid (IsPaid-nothing h1 h2 p1 p1 c.replace.ensures.takes refl refl)) (IsPaid-nothing h2 h3 p1 p1 c.replace-2.ensures.takes refl refl)

pub returns-clause-pays : goal.returns-clause-pays
returns-clause-pays c =
    let h1 = c.add-made.new.heap in
    let h2 = c.replace.new.heap in
    let h3 = c.replace-2.new.heap in
    let p1 = c.add-made.new.purse in
    CanPay-kept h2 h3 p1 p1 (IsPaid-nothing h2 h3 p1 p1 c.replace-2.ensures.takes refl refl) (CanPay-kept h1 h2 p1 p1 (IsPaid-nothing h1 h2 p1 p1 c.replace.ensures.takes refl refl) c.add-made.ensures.pays)
