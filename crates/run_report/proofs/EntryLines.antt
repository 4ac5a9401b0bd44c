-- The lines of a history that is one entry longer.
use Rattle.std.proofs.Common.{◌≡◌, ℕ, ◌+◌, ◌<◌, List, [], ◌∷◌, ◌++◌, length, take, get_or, ap, sym, ◌∙◌, append_assoc, append-nil, arith}
use Rattle.std.proofs.lemmas.List.{take_more, length-take-le}
use Rattle.kabi_types.specs.declared.entries.Entry.{Entry}
use Rattle.posix_defs.specs.Lines.{entry_line}
use Rattle.run_report.specs.Histories.{entry_lines}

-- one more entry adds its line at the end, with the number after those before it
entry_lines_push : (j : ℕ) (entries : List Entry) (entry : Entry)
    → entry_lines j (entries ++ entry ∷ []) ≡ entry_lines j entries ++ entry_line (j + length entries) entry
entry_lines_push j [] entry = grind (arith, append-nil)
entry_lines_push j (first ∷ entries) entry = grind (arith, append_assoc, entry_lines_push (j + 1) entries entry)

-- the same at the first entries of a longer history
pub entry_lines_take_more : (entries : List Entry) (index : ℕ) (entry : Entry) → index < length entries → entry ≡ get_or entries index entry
    → entry_lines 1 (take (index + 1) entries) ≡ entry_lines 1 (take index entries) ++ entry_line (index + 1) entry
entry_lines_take_more entries index entry below is =
    let grown : take (index + 1) entries ≡ take index entries ++ entry ∷ []
    = take_more entries index entry below ∙ ap (λ e. take index entries ++ e ∷ []) (sym is) in
    let counted : 1 + length (take index entries) ≡ index + 1 = omega (arith, length-take-le index entries) in
    rw (grown, entry_lines_push 1 (take index entries) entry, counted)
