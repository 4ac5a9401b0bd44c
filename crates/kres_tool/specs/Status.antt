-- How the program ends.
use Rattle.std.specs.Prelude.{ℕ}
use Rattle.kabi_types.specs.declared.entries.End.{End}
use Rattle.kabi_types.specs.declared.entries.End.TheVariants as end
use Rattle.kres_tool.specs.declared.statuses.Status.{Status}
use Rattle.kres_tool.specs.declared.statuses.Status.TheVariants as status

-- the number that the program ends with
abbrev pub number_of : Status → ℕ
number_of status.Finished = 0
number_of status.BadScript = 1
number_of status.Usage = 2
number_of status.Starved = 3
number_of status.AllAsleep = 4
number_of status.Spent = 5
number_of status.ReadFault = 6
number_of status.WriteFault = 7
number_of status.Memory = 8

-- the status of a run that ended so
abbrev pub status_of : End → Status
status_of end.Finished = status.Finished
status_of (end.Starved _ _) = status.Starved
status_of end.AllAsleep = status.AllAsleep
status_of end.Spent = status.Spent
