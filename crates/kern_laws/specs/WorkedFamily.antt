-- A worked family: the first process, a child of it, and what that child has made.
use Rattle.std.specs.Prelude.{ℕ, List, [], ◌∷◌, Option, None, Some}
use Rattle.kabi_types.specs.declared.classes.Weight.{Weight}
use Rattle.posix_defs.specs.Memory.{no_memory}
use Rattle.posix_defs.specs.Process.{Table, Process, Status, Alive, Ended, ignores_both}
use Rattle.posix_defs.specs.Plain.{Plain}
use Rattle.posix_defs.specs.Files.State.{boot_files}

-- a process with this parent, in this directory, without memory
abbrev pub member : ℕ → ℕ → Status → Option Process
member parent directory status = Some (record { parent = parent; directory = directory; status = status; memory = no_memory; ignores = ignores_both })

-- process 2 has a child that runs, 3, and one that has ended, 4; process 5 is a child of process 3, and 6 was waited for
abbrev pub family : Table
family = member 0 1 Alive ∷ member 1 5 Alive ∷ member 2 5 Alive ∷ member 2 7 (Ended 256) ∷ member 3 1 Alive ∷ None ∷ []

-- the same with nobody but the first alive
abbrev pub alone : Table
alone = member 0 1 Alive ∷ member 1 5 (Ended 0) ∷ []

abbrev pub as_plain : Table → Plain
as_plain table = record { table = table; controls = []; files = boot_files 16 }

-- what the process of this pid holds
abbrev pub weight : ℕ → ℕ → ℕ → ℕ → Weight
weight pid frames nodes descs = record { pid = pid; frames = frames; nodes = nodes; descs = descs }

-- two that hold two frames, and one that holds less and has the highest pid
abbrev pub weights : List Weight
weights = weight 2 2 1 3 ∷ weight 3 2 1 3 ∷ weight 4 1 1 3 ∷ []
