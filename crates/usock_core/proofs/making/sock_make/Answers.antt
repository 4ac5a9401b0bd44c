use Rattle.std.proofs.Common.{None, [], refl}
use Rattle.kheap_slabs.specs.declared.objects.SockState.TheVariants as state
use Rattle.kheap_slabs.specs.Queues.{empty_queue}
use Rattle.usock_core.specs.Standing.{in_row}
use Rattle.usock_core.proofs.CallLemmas.{made_stands}
use Rattle.usock_core.proofs.HeldLemmas.{held_made}
use Rattle.usock_core.proofs.making.sock_make.Goals as goal

pub returns-clause-stands : goal.returns-clause-stands
returns-clause-stands c sockets stands =
    made_stands c.args.heap.now c.add.new.heap c.add.result (record { state = state.Idle; queue = empty_queue; peer = None; node = None; waiting = in_row 8 [] }) sockets c.add.ensures.comes (record { state = refl; peer = refl; waiting = refl; node = refl }) stands

pub returns-clause-held : goal.returns-clause-held
returns-clause-held c = held_made c.args.heap.now c.add.new.heap c.add.result _ c.add.ensures.comes (returns-clause-stands c)
