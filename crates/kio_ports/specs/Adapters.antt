-- What contracts see of a source over a reader, and of a sink over a writer.
use Rattle.std.specs.Prelude.{ℕ}

-- the reader or writer, and how many of its calls have failed
pub record Adapted (S : Type 0) : Type 0 where
  pub stream : S
  pub faults : ℕ
