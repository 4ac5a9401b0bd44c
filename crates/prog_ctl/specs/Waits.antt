-- What a call waits for, and what is asked for with it.
use Rattle.std.specs.Prelude.{Bool, Option, None, Some, is_none, if◌then◌else◌}
use Rattle.kabi_types.specs.Arguments.{argument_fault}
use Rattle.kabi_types.specs.declared.calls.Call.{Call}
use Rattle.kabi_types.specs.declared.calls.Call.TheVariants as call
use Rattle.kabi_types.specs.Call.{kind_of}
use Rattle.posix_defs.specs.Needs.{bound}
use Rattle.posix_defs.specs.declared.phases.Asked.{Asked}
use Rattle.prog_ctl.specs.declared.waits.Awaited.{Awaited}
use Rattle.prog_ctl.specs.declared.waits.Awaited.TheVariants.{Child, Bytes, Room, Peer, Events, OtherSide, Lock}

-- the other side of a FIFO, or nothing
abbrev pub other_side_if : Bool → Option Awaited
other_side_if waits = if waits then Some OtherSide else None

-- seven calls may block: `waitpid` for a child, `read` for bytes, `write` for room, `accept` for a peer, `poll` for events, `setlkw` for a
-- lock of a range, and `open` for the other side of a FIFO, where its operands are right; None for any other call, which never does
abbrev pub wait_of : Call → Option Awaited
wait_of (call.Waitpid pid options) = Some (Child pid options)
wait_of (call.Read fd addr n) = Some (Bytes fd addr n)
wait_of (call.Write fd addr n done) = Some (Room fd addr n done)
wait_of (call.Accept fd) = Some (Peer fd)
wait_of (call.Poll timeout entries) = Some (Events timeout entries)
wait_of (call.Setlkw fd kind start length) = Some (Lock fd kind start length)
wait_of (call.OpenFile path flags) = if is_none (argument_fault (call.OpenFile path flags)) then Some OtherSide else None
wait_of _ = None

-- who makes a call asks for its bound
abbrev pub asked_for : Call → Asked
asked_for call = record { kind = kind_of call; bound = bound call }
