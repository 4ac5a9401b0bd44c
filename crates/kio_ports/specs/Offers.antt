-- How a text is put: each put offers all that is left of it.
use Rattle.std.specs.Prelude.{ℕ, Bool, true, false, List, [], drop, Result, Ok, Err}
use Rattle.kio_ports.specs.declared.failed.Failed.{Failed}

-- A text was put, whole or to a put that failed: each put was offered all that was left, and the next what it left.
pub data PutsAll {K : Type 0} (put_gives : K → List ℕ → Result ℕ Failed → K → Type 0) : K → List ℕ → Bool → K → Type 0 where
  nothing_left : (sink : K) → PutsAll put_gives sink [] true sink
  took : (old mid new : K) (text : List ℕ) (count : ℕ) (whole : Bool) → put_gives old text (Ok count) mid
      → PutsAll put_gives mid (drop count text) whole new → PutsAll put_gives old text whole new
  broke : (old new : K) (text : List ℕ) (failed : Failed) → put_gives old text (Err failed) new → PutsAll put_gives old text false new
