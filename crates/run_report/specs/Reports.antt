-- The report of a run of the core.
use Rattle.std.specs.Prelude.{ℕ, ◌≡◌, List, length, Some}
use Rattle.kabi_types.specs.declared.entries.End.{End}
use Rattle.kabi_types.specs.declared.entries.Noted.{Noted}
use Rattle.kabi_types.specs.declared.scripts.Script.{Script}
use Rattle.posix_defs.specs.CoreState.{CoreState, charged_in}
use Rattle.posix_defs.specs.Ends.{end_of}
use Rattle.posix_defs.specs.Lines.{report}
use Rattle.posix_defs.specs.World.{World}
use Rattle.kern_core.specs.RunOver.{IsRunOver}

-- The text is the report of a run of the script by the rule of choice, from boot to this end. The store went through this run
-- event by event, each of which stayed within the heap, and is left as it was then: it stands for the world in which the run
-- ended, whose reads are those that are told.
pub record IsReport {T : Type 0} (stands_for : T → World → Type 0) (marks high : T → ℕ) (script : Script) (store : T) (end : End) (text : List ℕ) : Type 0 where
  pub run : List Noted
  pub state : CoreState
  pub runs : IsRunOver stands_for marks high script script.steps run state store
  pub ends : end_of script script.steps (length run) state ≡ Some end
  pub text_is : text ≡ report run end (charged_in state) state.world.reads
