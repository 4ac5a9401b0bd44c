use Rattle.std.proofs.Common.{◌≡◌, ◌++◌, string_bytes, take, codes, decimal}
use Rattle.std.specs.List.{flat_map}
use Rattle.posix_defs.specs.Lines.{blank}
use Rattle.report_text.proofs.words.push_polled.Given as goal

abbrev pub invariant-loop-events : goal.invariant-loop-events
invariant-loop-events l =
    string_bytes l.out ≡ string_bytes l.fn.out ++ (decimal l.hits ++ codes " revents")
    ++ flat_map (λ events. blank ++ decimal events) (take l.events-index l.events-items)
