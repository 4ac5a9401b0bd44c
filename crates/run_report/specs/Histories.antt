-- The report of a history of threads.
use Rattle.std.specs.Prelude.{ℕ, ◌+◌, List, [], ◌∷◌, ◌++◌, length}
use Rattle.kabi_types.specs.declared.entries.End.{End}
use Rattle.kabi_types.specs.declared.entries.Entry.{Entry}
use Rattle.posix_defs.specs.Lines.{end_line_threads, entry_line}

-- the lines of a history, whose first entry has this number
abbrev pub entry_lines : ℕ → List Entry → List ℕ
entry_lines j [] = []
entry_lines j (entry ∷ entries) = entry_line j entry ++ entry_lines (j + 1) entries

-- the report of a history that ended so
abbrev pub report_threads : List Entry → End → ℕ → ℕ → List ℕ
report_threads entries end charged reads = entry_lines 1 entries ++ end_line_threads end (length entries) charged reads
