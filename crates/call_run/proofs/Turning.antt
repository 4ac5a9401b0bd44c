-- What a process does next.
use Rattle.std.proofs.Common.{◌≡◌, ℕ, suc, ℤ, true, List, [], ◌∷◌, Option, None, Some, map, refl, sym, ◌∙◌, subst, arith, Contains}
use Rattle.std.specs.List.{AllByRecursion}
use Rattle.kabi_types.specs.declared.calls.Call.{Call}
use Rattle.kabi_types.specs.declared.calls.CallKind.{CallKind}
use Rattle.kabi_types.specs.declared.calls.CallKind.TheVariants as kind
use Rattle.kabi_types.specs.declared.scripts.Control.{Control}
use Rattle.kabi_types.specs.declared.scripts.Script.{Script}
use Rattle.kabi_types.specs.declared.scripts.Statement.{Statement}
use Rattle.kabi_types.specs.declared.scripts.Statement.TheVariants as statement
use Rattle.kheap_slabs.specs.declared.objects.Proc.{Proc}
use Rattle.posix_defs.specs.Control as program
use Rattle.posix_defs.specs.Control.{call_at, settled, statement_of, value_of}
use Rattle.posix_defs.specs.Made.{made}
use Rattle.machine_laws.specs.Texts.{ArePathBytes}
use Rattle.machine_laws.proofs.Texting.{valid_texts}
use Rattle.posix_defs.specs.Plain.{Plain, call_of, control_of}
use Rattle.posix_defs.specs.Reaching.{paths_of}
use Rattle.posix_defs.specs.ValidScript.{IsValid}
use Rattle.posix_defs.specs.Process.{is_alive}
use Rattle.posix_defs.specs.World.{World}
use Rattle.prog_ctl.proofs.Settling.{rests_settled}
use Rattle.proc_table.specs.Procs.{proc_of}
use Rattle.store_objects.specs.declared.objects.Objects.{Objects}
use Rattle.store_objects.specs.Objects.{procs_of}
use Rattle.store_objects.specs.Standing.{StandsFor}
use Rattle.store_objects.proofs.NextCalls.{next_is, up_at_call}
use Rattle.call_run.specs.Families.{HasDone, HasPaths}

-- who is found isn't missing
pub missing : (o : Option Proc) (proc : Proc) → o ≡ None → o ≡ Some proc → ⊥
missing o proc e f = cc

-- ---- what is done of it

made_done : (which : CallKind) (numbers : List ℤ) (texts : List (List ℕ)) (done : ℕ) → HasDone (made which numbers texts done) done
made_done kind.Write numbers texts done = refl
made_done _ numbers texts done = tt

-- of a write as much as its control says
pub at_done : (control : Control) (here : Option Statement) → HasDone (call_at control here) control.done
at_done control None = tt
at_done control (Some (statement.Invoke which operands texts first second)) = made_done which (map (value_of control) operands) texts control.done
at_done control (Some _) = tt

-- and so of the next call of a process that stands at it
pub next_done : (script : Script) (objects : Objects) (world : World) (pid : ℕ) (proc : Proc) (which : Call) → StandsFor script objects world
    → is_alive world.plain.table pid ≡ true → proc_of (procs_of objects) pid ≡ Some proc → which ≡ call_of script world.plain pid → HasDone which proc.control.done
next_done script objects world pid proc which stands alive found is =
    subst (λ w. HasDone w proc.control.done) (next_is script objects world pid proc stands alive found ∙ sym is)
    (subst (λ (c : Control). HasDone (program.call_of script proc.control) c.done) (rests_settled script proc.control (up_at_call script objects world pid proc stands alive found).rests)
    (at_done (settled script proc.control) (statement_of script (settled script proc.control))))

-- ---- what it names

all_among : {X : Type 0} (P : X → Type 0) (xs : List X) → ((x : X) → Contains xs x → P x) → AllByRecursion P xs
all_among P [] all = tt
all_among P (x ∷ xs) all = (all x (0, omega arith, refl), all_among P xs (λ y there. all y (suc there.0, omega (arith, there.1), there.2)))

-- the next call of a script that is valid names no path with a zero byte
pub next_paths : (script : Script) (plain : Plain) (pid : ℕ) → IsValid script → HasPaths (call_of script plain pid)
next_paths script plain pid valid = all_among ArePathBytes (paths_of (call_of script plain pid)) ((valid_texts script valid).paths (control_of plain pid))
