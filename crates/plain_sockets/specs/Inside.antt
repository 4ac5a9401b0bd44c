-- The socket that the fields of one stand for.
use Rattle.plain_sockets.specs.declared.socket.Socket.TheInside.{Inside}
use Rattle.plain_sockets.specs.Held.{Held}
use Rattle.plain_sockets.specs.Stages.{stage_of}

abbrev pub held_in : Inside → Held
held_in socket = record {
  socket = record { stage = stage_of socket.stage; bytes = socket.queue.bytes; node = socket.node };
  front = socket.queue.front;
}
