use Rattle.std.proofs.Common.{sym, ap, ◌∙◌, arith}
use Rattle.std.specs.Int.{w32, from_be_bytes}
use Rattle.std.proofs.lemmas.Nat.{from_be_bytes-to_be_bytes_4}
use Rattle.disk_layout.proofs.pointers.pointer_in.Goals as goal

pub returns : goal.returns
returns c = sym (from_be_bytes-to_be_bytes_4 c.word_at.result (omega arith)) ∙ ap (from_be_bytes w32) c.word_at.ensures
