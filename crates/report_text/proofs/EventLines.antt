-- The lines of a run that is one event longer.
use Rattle.std.proofs.Common.{◌≡◌, ℕ, ◌+◌, ◌<◌, List, [], ◌∷◌, ◌++◌, length, take, get_or, ap, sym, ◌∙◌, append_assoc, append-nil, arith}
use Rattle.std.proofs.lemmas.List.{take_more, length-take-le}
use Rattle.kabi_types.specs.declared.entries.Noted.{Noted}
use Rattle.posix_defs.specs.Lines.{event_line, event_lines}

-- one more event adds its line at the end, with the number after those before it
event_lines_push : (j : ℕ) (run : List Noted) (noted : Noted)
    → event_lines j (run ++ noted ∷ []) ≡ event_lines j run ++ event_line (j + length run) noted
event_lines_push j [] noted = grind (arith, append-nil)
event_lines_push j (first ∷ run) noted = grind (arith, append_assoc, event_lines_push (j + 1) run noted)

-- the same at the first events of a longer run
pub event_lines_take_more : (run : List Noted) (index : ℕ) (noted : Noted) → index < length run → noted ≡ get_or run index noted
    → event_lines 1 (take (index + 1) run) ≡ event_lines 1 (take index run) ++ event_line (index + 1) noted
event_lines_take_more run index noted below is =
    let grown : take (index + 1) run ≡ take index run ++ noted ∷ []
    = take_more run index noted below ∙ ap (λ n. take index run ++ n ∷ []) (sym is) in
    let counted : 1 + length (take index run) ≡ index + 1 = omega (arith, length-take-le index run) in
    rw (grown, event_lines_push 1 (take index run) noted, counted)
