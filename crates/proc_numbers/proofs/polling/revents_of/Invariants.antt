use Rattle.std.proofs.Common.{◌≡◌, length, map, take}
use Rattle.open_laws.specs.Placed.{Numbers}
use Rattle.posix_defs.specs.Calls.Polling.{polled_at}
use Rattle.posix_defs.specs.Files.State.{Files}
use Rattle.proc_numbers.specs.Having.{HaveOpen}
use Rattle.proc_numbers.proofs.polling.revents_of.Given as goal

-- the entries before this one have been told
abbrev pub invariant-loop-index : goal.invariant-loop-index
invariant-loop-index l = record {
  long : length l.events ≡ 8;
  told : (numbers : Numbers) (files : Files) → HaveOpen numbers l.heap l.procs files
      → take l.index l.events ≡ map (λ entry. polled_at files l.fn.place.pid entry.fd entry.events) (take l.index l.entries);
}
