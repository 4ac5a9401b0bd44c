-- The pipe that the fields of one stand for.
use Rattle.plain_pipes.specs.declared.pipe.Pipe.TheInside.{Inside}
use Rattle.plain_pipes.specs.Held.{Held}

abbrev pub held_in : Inside → Held
held_in pipe = record {
  pipe = record {
    bytes = pipe.queue.bytes;
    readers = pipe.readers;
    writers = pipe.writers;
    node = pipe.node;
    read_opens = pipe.read_opens;
    write_opens = pipe.write_opens;
  };
  front = pipe.queue.front;
}
