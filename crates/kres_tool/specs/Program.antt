-- What the program ends with.
use Rattle.std.specs.Prelude.{ℕ, ◌≡◌, ◌⊎◌, List, Option, String}
use Rattle.call_run.specs.Stores.{StoreView}
use Rattle.kres_tool.specs.declared.statuses.Status.{Status}
use Rattle.kres_tool.specs.declared.statuses.Status.TheVariants.{Memory}
use Rattle.kres_tool.specs.Status.{number_of}
use Rattle.kres_tool.specs.Headline.{ObeysAndKeeps}
use Rattle.kres_tool.specs.Tool.{Input, Output, OthersEnd}

-- nothing was read, and nothing was written
abbrev pub NothingDone : Input → Output → Type 0
NothingDone i o = i.untouched × o.untouched

-- The program ends with the number of what the tool does on these words, where a report that was written keeps the headline; or the
-- host had no memory for them.
pub record EndsOn {A : Type 0} (words : List (String A)) (i : Input) (o : Output) (code : ℕ) : Type 0 where
  pub status : Status
  pub code_is : code ≡ number_of status
  pub ends : ((handed : Option StoreView) × ObeysAndKeeps words i o handed status) ⊎ ((status ≡ Memory) × NothingDone i o)

-- The program ends with the number of what the tool does where the words aren't the program's.
pub record EndsOnNoText (i : Input) (o : Output) (code : ℕ) : Type 0 where
  pub status : Status
  pub code_is : code ≡ number_of status
  pub ends : OthersEnd o status
  pub untouched : i.untouched
