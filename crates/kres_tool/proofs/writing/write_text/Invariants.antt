use Rattle.std.proofs.Common.{◌≡◌, ℕ, ◌≤◌, Bool, length, take, drop}
use Rattle.std.specs.Io.KnownBytes.{Appends}
use Rattle.kio_ports.specs.Offers.{PutsAll}
use Rattle.kres_tool.proofs.writing.write_text.Given as goal

-- so many bytes were put, and no put failed
abbrev pub invariant-loop-left : goal.invariant-loop-left
invariant-loop-left g l = record {
  put : ℕ;
  within : put ≤ length l.text;
  rest : l.left ≡ drop put l.text;
  held : Appends (g.K.Sink.held l.initial.sink) (g.K.Sink.held l.sink) (take put l.text);
  faults : g.K.Sink.faults l.sink ≡ g.K.Sink.faults l.initial.sink;
  offers : (whole : Bool) (after : _) → PutsAll g.K.Sink.put_gives l.sink l.left whole after
      → PutsAll g.K.Sink.put_gives l.initial.sink l.text whole after;
}

abbrev pub decreases-loop-left : goal.decreases-loop-left
decreases-loop-left g l = length l.left
