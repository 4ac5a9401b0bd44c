use Rattle.std.proofs.Common.{◌≡◌, ◌≤◌, take}
use Rattle.posix_defs.specs.Calls.Polling.{hits_of}
use Rattle.proc_numbers.proofs.polling.hits_of.Given as goal

-- the entries before this one are counted
abbrev pub invariant-loop-events : goal.invariant-loop-events
invariant-loop-events l = record {
  count : l.hits ≡ hits_of (take l.events-index l.revents);
  few : l.hits ≤ l.events-index;
}
