use Rattle.std.proofs.Common.{◌≡◌, ◌++◌, string_bytes, take}
use Rattle.std.specs.List.{flat_map}
use Rattle.posix_defs.specs.PriceText.{class_line}
use Rattle.need_table.proofs.tables.push_classes.Given as goal

-- the lines so far
abbrev pub invariant-loop-class : goal.invariant-loop-class
invariant-loop-class l = string_bytes l.out ≡ string_bytes l.fn.out ++ flat_map class_line (take l.class-index l.classes)
