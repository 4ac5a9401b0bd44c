use Rattle.std.proofs.Common.{None, [], refl}
use Rattle.kheap_slabs.specs.declared.objects.SockState.TheVariants as state
use Rattle.kheap_slabs.specs.Queues.{empty_queue}
use Rattle.kheap_laws.proofs.PaidLemmas.{IsPaid-trans, IsPaid-nothing, CanPay-kept}
use Rattle.usock_core.specs.Standing.{in_row}
use Rattle.usock_core.proofs.ConnectLemmas.{pair_stands}
use Rattle.usock_core.proofs.HeldLemmas.{held_pair}
use Rattle.usock_core.proofs.making.sock_pair.Goals as goal

pub returns-clause-stands : goal.returns-clause-stands
returns-clause-stands c sockets stands =
    pair_stands c.args.heap.now c.add-one.new.heap c.add-other.new.heap c.replace.new.heap c.add-one.result c.add-other.result (record { state = state.Idle; queue = empty_queue; peer = None; node = None; waiting = in_row 8 [] }) c.connected_to.result c.connected_to-2.result sockets
    c.add-one.ensures.comes (record { state = refl; peer = refl; waiting = refl; node = refl }) c.add-other.ensures.comes c.connected_to.ensures.shape c.replace.ensures.becomes c.connected_to-2.ensures.shape stands

pub returns-clause-paid : goal.returns-clause-paid
returns-clause-paid c =
    let h0 = c.args.heap.now in
    let h1 = c.add-one.new.heap in
    let h2 = c.add-other.new.heap in
    let h3 = c.replace.new.heap in
    let p0 = c.args.purse.now in
    let p1 = c.add-one.new.purse in
    let p2 = c.add-other.new.purse in
    IsPaid-trans h0 p0 h2 p2 h3 p2 (IsPaid-trans h0 p0 h1 p1 h2 p2 c.add-one.ensures.paid c.add-other.ensures.paid) (IsPaid-nothing h2 h3 p2 p2 c.replace.ensures.takes refl refl)

pub returns-clause-pays : goal.returns-clause-pays
returns-clause-pays c =
    let h0 = c.args.heap.now in
    let h1 = c.add-one.new.heap in
    let h2 = c.add-other.new.heap in
    let h3 = c.replace.new.heap in
    let p0 = c.args.purse.now in
    let p1 = c.add-one.new.purse in
    let p2 = c.add-other.new.purse in
    CanPay-kept h2 h3 p2 p2 (IsPaid-nothing h2 h3 p2 p2 c.replace.ensures.takes refl refl) c.add-other.ensures.pays

pub returns-clause-held : goal.returns-clause-held
returns-clause-held c =
    held_pair c.args.heap.now c.add-one.new.heap c.add-other.new.heap c.replace.new.heap c.add-one.result c.add-other.result (record { state = state.Idle; queue = empty_queue; peer = None; node = None; waiting = in_row 8 [] }) c.connected_to.result
    c.add-one.ensures.comes (record { state = refl; peer = refl; waiting = refl; node = refl }) c.add-other.ensures.comes (returns-clause-stands c)
