use Rattle.std.proofs.Common.{◌≡◌, ◌-◌, None, length}
use Rattle.posix_defs.specs.Memory.{with_range}
use Rattle.plain_memory.proofs.spaces.Space.unmap.Given as goal

abbrev pub invariant-loop-page : goal.invariant-loop-page
invariant-loop-page l = record {
  whole : length l.self-inside.pages.items ≡ 256;
  written : l.self-inside.pages.items ≡ with_range l.initial.self-inside.pages.items l.first (l.page - l.first) None;
}
