-- Which machines the heap and the table of its processes stand for, and what a call leaves of it.
use Rattle.std.specs.Prelude.{◌≡◌, ℕ, []}
use Rattle.kabi_types.specs.declared.calls.Call.{Call}
use Rattle.kabi_types.specs.declared.scripts.Script.{Script}
use Rattle.kheap_slabs.specs.Heap.{Heap}
use Rattle.open_laws.specs.Open.{HaveFronts}
use Rattle.open_laws.specs.Owned.{HasItsOwners}
use Rattle.open_laws.specs.Placed.{Numbers}
use Rattle.posix_defs.specs.Account.{Account}
use Rattle.posix_defs.specs.Answer.{Answer, Blocked, Part, replied}
use Rattle.posix_defs.specs.Control.{after_part}
use Rattle.posix_defs.specs.Plain.{Plain, control_of, with_control}
use Rattle.posix_defs.specs.Turn.{account_after}
use Rattle.posix_defs.specs.declared.turner.Turned.{Turned}
use Rattle.posix_defs.specs.declared.turner.Turned.TheVariants as turned
use Rattle.proc_numbers.specs.Having.{AreListed, HaveOpen}
use Rattle.proc_table.specs.Accounting.{HasAccount}
use Rattle.proc_table.specs.Standing.{IsTable}
use Rattle.proc_table.specs.Table.{Holds, TableView}

-- What the heap keeps whatever it stands for: all its processes are in the table, and all objects have their owners.
pub record IsKept (h : Heap) (kept : TableView) : Type 0 where
  pub holds : Holds h kept
  pub listed : AreListed h kept
  pub owners : HasItsOwners h []

-- The heap and its table stand for a machine: for its processes with what they have in memory, and for what they have open. The
-- account says what that takes. Where a process stands in its program is no part of it.
pub record StandsFor (numbers : Numbers) (h : Heap) (kept : TableView) (plain : Plain) (account : Account) : Type 0 where
  pub table : IsTable h kept plain.table
  pub opened : HaveOpen numbers h kept plain.files
  pub frames : HasAccount h kept account.frames
  pub fronts : HaveFronts numbers h account

-- What a call was told is what this answer says, where the machine is this one before the caller goes on.
abbrev pub IsTold : Script → Plain → ℕ → Answer → Turned → Plain → Type 0
IsTold script plain pid answer (turned.Done reply) next = answer ≡ replied script next pid reply
IsTold script plain pid answer (turned.Part moved) next = answer ≡ Part moved (with_control next pid (after_part (control_of next pid) moved))
IsTold script plain pid answer turned.Sleep next = (answer ≡ Blocked) × (next ≡ plain)
IsTold script plain pid answer (turned.Ended status) next = ⊥
IsTold script plain pid answer turned.Gone next = ⊥

-- A process's call with this answer was told so, and the heap stands for the machine that the answer leads to, but for where the
-- caller stands in its program.
pub record Leads (script : Script) (numbers : Numbers) (h : Heap) (kept : TableView) (plain : Plain) (account : Account) (pid : ℕ) (call : Call)
    (answer : Answer) (told : Turned) : Type 0 where
  pub next : Plain
  pub told_so : IsTold script plain pid answer told next
  pub stands : StandsFor numbers h kept next (account_after account plain pid call answer)
  pub controls : next.controls ≡ plain.controls
