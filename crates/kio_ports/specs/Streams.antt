-- Streams in memory.
use Rattle.std.specs.Prelude.{◌≡◌, ℕ, ◌-◌, ◌<◌, ◌⊎◌, min, List, length}
use Rattle.kio_ports.specs.Calls.{CallState, IsNextListed}

-- a source: the bytes that are left, the most bytes of one call, and its calls
pub record SourceState : Type 0 where
  pub left : List ℕ
  pub most : ℕ
  pub calls : CallState

-- a sink: the bytes that it holds, how many it can hold, the most bytes of one call, and its calls
pub record SinkState : Type 0 where
  pub held : List ℕ
  pub room : ℕ
  pub most : ℕ
  pub calls : CallState

-- how many bytes a source gives to a buffer of this length
abbrev pub given_count : SourceState → ℕ → ℕ
given_count source len = min source.most (min len (length source.left))

-- how many bytes of a piece of this length a sink has room for
abbrev pub taken_count : SinkState → ℕ → ℕ
taken_count sink len = min sink.most (min len (sink.room - length sink.held))

-- a put of a piece of this length fails: its number is listed, or no byte of a piece that has some is taken
abbrev pub PutFails : SinkState → ℕ → Type 0
PutFails sink len = IsNextListed sink.calls ⊎ ((taken_count sink len ≡ 0) × (0 < len))
