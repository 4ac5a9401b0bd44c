-- How a process ends, in its own call or in another's.
use Rattle.std.specs.Prelude.{ℕ, zero, suc, ◌==◌, ◌*◌, ◌%◌, ℤ, if◌then◌else◌, map, Option, None, Some}
use Rattle.std.specs.Int.{w64, cast_unsigned}
use Rattle.posix_defs.specs.ByPid.{with_pid}
use Rattle.posix_defs.specs.Memory.{no_memory}
use Rattle.posix_defs.specs.Process.{Table, Process, Status, Alive, Ended, process_at}
use Rattle.posix_defs.specs.Plain.{Plain, with_files, with_table}
use Rattle.posix_defs.specs.Files.State.{Files}
use Rattle.posix_defs.specs.Files.Closing.{after_all_end, after_end_of}

-- what becomes of a child whose parent ends: one that ended is reaped, one that runs gets the first process as parent
abbrev pub left_child : Status → Process → Option Process
left_child Alive child = Some (record child { parent = 1 })
left_child (Ended _) child = None

-- what becomes of a process when another ends: a child of that one is left or reaped, any other stays as it is
abbrev pub left_behind : ℕ → Option Process → Option Process
left_behind pid None = None
left_behind pid (Some process) = if process.parent == pid then left_child process.status process else Some process

-- the process keeps its place with this wait status, and has no memory any more
abbrev pub ended_as : ℕ → Option Process → Option Process
ended_as status None = None
ended_as status (Some process) = Some (record process { status = Ended status; memory = no_memory })

-- a process that ends leaves its children, and stays without its memory until its parent waits for it
abbrev pub leaves : Table → ℕ → ℕ → Table
leaves table pid status = with_pid (map (left_behind pid) table) pid (ended_as status (process_at table pid))

-- with the first process all others end, and none is left to wait for
abbrev pub die_in : Table → ℕ → ℕ → Table
die_in table (suc zero) status = map (λ _. None) table
die_in table pid status = leaves table pid status

-- what an ended process had open is closed; with the first process all close what they have
abbrev pub closed_by : Files → ℕ → Files
closed_by files (suc zero) = after_all_end files
closed_by files pid = after_end_of files pid

-- the plain machine after a process has ended
abbrev pub die : Plain → ℕ → ℕ → Plain
die plain pid status = with_files (with_table plain (die_in plain.table pid status)) (closed_by plain.files pid)

-- the wait status of a process that ends by `exit`: only the lowest eight bits of its operand are told
abbrev pub exit_status : ℤ → ℕ
exit_status status = 256 * (cast_unsigned w64 status % 256)
