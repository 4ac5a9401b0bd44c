use Rattle.std.proofs.Common.{◌≡◌, ◌++◌, string_bytes, take}
use Rattle.std.specs.List.{flat_map}
use Rattle.posix_defs.specs.PriceText.{price_line}
use Rattle.need_table.proofs.tables.push_lines.Given as goal

-- the lines so far
abbrev pub invariant-loop-kind : goal.invariant-loop-kind
invariant-loop-kind l = string_bytes l.out ≡ string_bytes l.fn.out ++ flat_map price_line (take l.kind-index l.kinds)
