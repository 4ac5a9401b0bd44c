-- Worked reports, line by line.
use Rattle.std.specs.Prelude.{ℕ, suc, ◌+◌, List, [], ◌∷◌, ◌++◌, option_map, unwrap_or, codes}
use Rattle.kabi_types.specs.declared.scripts.Script.{Script}
use Rattle.posix_defs.specs.History.{Past, boot_past}
use Rattle.posix_defs.specs.Lines.{newline}
use Rattle.claim_lines.specs.Good.{line_leads}

-- how many of these lines, of which the first has this number, lead on from a past, before the first that doesn't
abbrev pub lines_from : Script → Past → ℕ → List (List ℕ) → ℕ
lines_from script past j [] = 0
lines_from script past j (line ∷ lines) = unwrap_or (option_map (λ next. suc (lines_from script next (j + 1) lines)) (line_leads script past j line)) 0

-- the same from boot and the first line on
abbrev pub good_lines : Script → List (List ℕ) → ℕ
good_lines script lines = lines_from script (boot_past script) 1 lines

-- a process asks for its pid, and ends
abbrev pub first_lines : List (List ℕ)
first_lines = codes "1 p1 done getpid = 1\n" ∷ codes "2 p1 ended exit 0\n" ∷ []

-- the first line with another pid told, and the second where nothing was refused
abbrev pub other_pid : List (List ℕ)
other_pid = codes "1 p1 done getpid = 2\n" ∷ []

abbrev pub not_refused : List (List ℕ)
not_refused = codes "1 p1 done getpid = 1\n" ∷ codes "2 p1 refused exit bound 0 = ENOMEM\n" ∷ []

-- what is told in the first line, with another number, with more behind it, with a zero before the pid, and cut short
abbrev pub misnumbered : List (List ℕ)
misnumbered = codes "2 p1 done getpid = 1\n" ∷ []

abbrev pub longer : List (List ℕ)
longer = codes "1 p1 done getpid = 1 \n" ∷ []

abbrev pub padded : List (List ℕ)
padded = codes "1 p01 done getpid = 1\n" ∷ []

abbrev pub cut_short : List (List ℕ)
cut_short = codes "1 p1 done getpid = 1" ∷ []

-- children that sleep for ever are killed by their parent, one of them before its call had a turn
abbrev pub killed_lines : List (List ℕ)
killed_lines =
    codes "1 p1 done fork = 2\n" ∷ codes "2 p2 sleep poll\n" ∷ codes "3 p1 done fork = 3\n" ∷ codes "4 p1 done fork = 4\n"
    ∷ codes "5 p3 sleep poll\n" ∷ codes "6 p1 done kill = 0\n" ∷ codes "7 p1 done waitpid = 3 signal 9\n" ∷ codes "8 p1 done kill = 0\n"
    ∷ codes "9 p1 done kill = ESRCH\n" ∷ codes "10 p1 done kill = 0\n" ∷ codes "11 p1 done kill = 0\n" ∷ codes "12 p4 gone poll\n"
    ∷ codes "13 p1 done kill = 0\n" ∷ codes "14 p1 done waitpid = 2 signal 9\n" ∷ codes "15 p1 done waitpid = 4 signal 9\n"
    ∷ codes "16 p1 done waitpid = ECHILD\n" ∷ codes "17 p1 ended exit 0\n" ∷ []

-- children are killed, so that the fork of one of them may fit
abbrev pub crowded_lines : List (List ℕ)
crowded_lines =
    codes "1 p1 done fork = 2\n" ∷ codes "2 p1 done fork = 3\n" ∷ codes "3 p1 done fork = 4\n" ∷ codes "4 p1 done fork = 5\n"
    ∷ codes "5 p1 sleep waitpid\n" ∷ codes "6 p2 done fork = 6\n"
    ∷ codes "7 p6 killed for p2 need 3328 live 3200\n" ∷ codes "8 p5 killed for p2 need 3328 live 3200\n"
    ∷ codes "9 p4 killed for p2 need 3328 live 3200\n" ∷ codes "10 p3 killed for p2 need 3328 live 3200\n"
    ∷ codes "11 p2 killed for p2 need 3328 live 3200\n"
    ∷ codes "12 p1 done waitpid = 2 signal 9\n" ∷ codes "13 p1 ended exit 0\n" ∷ []
