use Rattle.std.proofs.Common.{◌≡◌, ◌∙◌, ap, is_some, sym, w64, rules, Some}
use Rattle.std.proofs.lemmas.Int.{to_z-of_z}
use mir.Val.{of_z, to_z}
use Rattle.kabi_types.specs.declared.calls.Call.TheVariants.{Accept, Poll, Read, Setlkw, Waitpid, Write}
use Rattle.posix_defs.specs.Machine.{blocks, machine}
use Rattle.prog_ctl.specs.declared.waits.Awaited.TheVariants.{Bytes, Child, Events, Lock, OtherSide, Peer, Room}
use Rattle.store_objects.proofs.RunningProcs.{alive_runs}
use Rattle.call_run.proofs.Sleeping.{blocks_as, goes_on, is_waiting, no_fault, opens_as, told_four, told_one, told_three, told_two, wrong_goes_on}
use Rattle.call_run.proofs.calls.would_block.Goals as goal

pub key_there-key-requires-clause-stored : goal.key_there-key-requires-clause-stored
key_there-key-requires-clause-stored c = let some = c.requires.stands in some.1.kept.holds.stored

pub key_there-key-requires-clause-there : goal.key_there-key-requires-clause-there
key_there-key-requires-clause-there c =
    let some = c.requires.stands in
    ap is_some (alive_runs c.args.script.now c.args.objects.now some.0.plain c.args.pid some.1.processes some.2).there

pub would_sleep-requires : goal.would_sleep-requires
would_sleep-requires c = let some = c.requires.stands in some.1.kept.holds

pub returns-then-may_wait-clause-blocks : goal.returns-then-may_wait-clause-blocks
returns-then-may_wait-clause-blocks c = λ world stands sound call e.
    let script = c.args.script.now in
    let child : to_z w64 (of_z w64 c.in-Child.child) ≡ c.in-Child.child = search (rules, to_z-of_z) in
    let options : to_z w64 (of_z w64 c.in-Child.options) ≡ c.in-Child.options = search (rules, to_z-of_z) in
    let seen : c.args.wait ≡ Some (Child c.in-Child.child c.in-Child.options) = search rules in
    let it = is_waiting call (Child c.in-Child.child c.in-Child.options) (sym seen ∙ e) in
    let none = no_fault _ (sym c.may_wait.ensures.checked ∙ c.if-may_wait.true) in
    told_two script world.plain c.args.pid call c.would_sleep.result Waitpid _ _ c.in-Child.child c.in-Child.options child options it
    (c.would_sleep.ensures script world stands ∙ sym (blocks_as script world.plain c.args.pid (to_z w64 (of_z w64 c.in-Child.child)) (to_z w64 (of_z w64 c.in-Child.options)) none))

pub returns-else-may_wait-clause-blocks : goal.returns-else-may_wait-clause-blocks
returns-else-may_wait-clause-blocks c = λ world stands sound call e.
    let script = c.args.script.now in
    let child : to_z w64 (of_z w64 c.in-Child.child) ≡ c.in-Child.child = search (rules, to_z-of_z) in
    let options : to_z w64 (of_z w64 c.in-Child.options) ≡ c.in-Child.options = search (rules, to_z-of_z) in
    let seen : c.args.wait ≡ Some (Child c.in-Child.child c.in-Child.options) = search rules in
    told_two script world.plain c.args.pid call c.may_wait.result Waitpid _ _ c.in-Child.child c.in-Child.options child options
    (is_waiting call (Child c.in-Child.child c.in-Child.options) (sym seen ∙ e))
    (c.if-may_wait.false
    ∙ sym (wrong_goes_on script world.plain c.args.pid (to_z w64 (of_z w64 c.in-Child.child)) (to_z w64 (of_z w64 c.in-Child.options))
    (sym c.may_wait.ensures.checked ∙ c.if-may_wait.false)))

pub returns-in-Bytes-clause-blocks : goal.returns-in-Bytes-clause-blocks
returns-in-Bytes-clause-blocks c = λ world stands sound call e.
    let script = c.args.script.now in
    let fd : to_z w64 (of_z w64 c.in-Bytes.fd) ≡ c.in-Bytes.fd = search (rules, to_z-of_z) in
    let addr : to_z w64 (of_z w64 c.in-Bytes.addr) ≡ c.in-Bytes.addr = search (rules, to_z-of_z) in
    let n : to_z w64 (of_z w64 c.in-Bytes.n) ≡ c.in-Bytes.n = search (rules, to_z-of_z) in
    let seen : c.args.wait ≡ Some (Bytes c.in-Bytes.fd c.in-Bytes.addr c.in-Bytes.n) = search rules in
    told_three script world.plain c.args.pid call c.read_would_block.result Read _ _ _ c.in-Bytes.fd c.in-Bytes.addr c.in-Bytes.n fd addr n
    (is_waiting call (Bytes c.in-Bytes.fd c.in-Bytes.addr c.in-Bytes.n) (sym seen ∙ e)) (c.read_would_block.ensures script world stands)

pub returns-in-Room-clause-blocks : goal.returns-in-Room-clause-blocks
returns-in-Room-clause-blocks c = λ world stands sound call e.
    let script = c.args.script.now in
    let fd : to_z w64 (of_z w64 c.in-Room.fd) ≡ c.in-Room.fd = search (rules, to_z-of_z) in
    let addr : to_z w64 (of_z w64 c.in-Room.addr) ≡ c.in-Room.addr = search (rules, to_z-of_z) in
    let n : to_z w64 (of_z w64 c.in-Room.n) ≡ c.in-Room.n = search (rules, to_z-of_z) in
    let seen : c.args.wait ≡ Some (Room c.in-Room.fd c.in-Room.addr c.in-Room.n c.in-Room.done) = search rules in
    told_three script world.plain c.args.pid call c.write_would_block.result (λ x y z. Write x y z c.in-Room.done) _ _ _ c.in-Room.fd c.in-Room.addr c.in-Room.n fd addr n
    (is_waiting call (Room c.in-Room.fd c.in-Room.addr c.in-Room.n c.in-Room.done) (sym seen ∙ e)) (c.write_would_block.ensures script world stands)

pub returns-in-Peer-clause-blocks : goal.returns-in-Peer-clause-blocks
returns-in-Peer-clause-blocks c = λ world stands sound call e.
    let script = c.args.script.now in
    let fd : to_z w64 (of_z w64 c.in-Peer.fd) ≡ c.in-Peer.fd = search (rules, to_z-of_z) in
    let seen : c.args.wait ≡ Some (Peer c.in-Peer.fd) = search rules in
    told_one script world.plain c.args.pid call c.accept_would_block.result Accept _ c.in-Peer.fd fd
    (is_waiting call (Peer c.in-Peer.fd) (sym seen ∙ e)) (c.accept_would_block.ensures script world stands)

pub returns-in-Events-clause-blocks : goal.returns-in-Events-clause-blocks
returns-in-Events-clause-blocks c = λ world stands sound call e.
    let script = c.args.script.now in
    let timeout : to_z w64 (of_z w64 c.in-Events.timeout) ≡ c.in-Events.timeout = search (rules, to_z-of_z) in
    let seen : c.args.wait ≡ Some (Events c.in-Events.timeout c.in-Events.entries) = search rules in
    told_one script world.plain c.args.pid call c.poll_would_block.result (λ x. Poll x c.in-Events.entries) _ c.in-Events.timeout timeout
    (is_waiting call (Events c.in-Events.timeout c.in-Events.entries) (sym seen ∙ e)) (c.poll_would_block.ensures script world stands)

pub returns-in-OtherSide-clause-blocks : goal.returns-in-OtherSide-clause-blocks
returns-in-OtherSide-clause-blocks c = λ world stands sound call e.
    let script = c.args.script.now in
    let seen : c.args.wait ≡ Some OtherSide = search rules in
    let it = is_waiting call OtherSide (sym seen ∙ e) in
    c.open_would_block.ensures script world stands it.0 it.1 ∙ sym (opens_as script world.plain c.args.pid it.0 it.1 it.3) ∙ ap (λ w. blocks (machine script world.plain c.args.pid w)) it.2

pub returns-in-Lock-clause-blocks : goal.returns-in-Lock-clause-blocks
returns-in-Lock-clause-blocks c = λ world stands sound call e.
    let script = c.args.script.now in
    let fd : to_z w64 (of_z w64 c.in-Lock.fd) ≡ c.in-Lock.fd = search (rules, to_z-of_z) in
    let kind : to_z w64 (of_z w64 c.in-Lock.kind) ≡ c.in-Lock.kind = search (rules, to_z-of_z) in
    let start : to_z w64 (of_z w64 c.in-Lock.start) ≡ c.in-Lock.start = search (rules, to_z-of_z) in
    let length : to_z w64 (of_z w64 c.in-Lock.length) ≡ c.in-Lock.length = search (rules, to_z-of_z) in
    let seen : c.args.wait ≡ Some (Lock c.in-Lock.fd c.in-Lock.kind c.in-Lock.start c.in-Lock.length) = search rules in
    told_four script world.plain c.args.pid call c.lock_would_block.result Setlkw _ _ _ _ c.in-Lock.fd c.in-Lock.kind c.in-Lock.start c.in-Lock.length fd kind start length
    (is_waiting call (Lock c.in-Lock.fd c.in-Lock.kind c.in-Lock.start c.in-Lock.length) (sym seen ∙ e)) (c.lock_would_block.ensures.blocks world stands sound)

pub returns-in_default-clause-blocks : goal.returns-in_default-clause-blocks
returns-in_default-clause-blocks c = λ world stands sound call e.
    let script = c.args.script.now in
    sym (goes_on script world.plain c.args.pid call (sym c.in_default.is ∙ e))
