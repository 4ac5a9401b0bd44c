-- A child begins with what its parent has.
use Rattle.std.proofs.Common.{◌≡◌, ℕ, suc, ◌+◌, pos, Bool, true, false, cond, [], ◌∷◌, ◌++◌, length, Option, None, Some, refl, ap, ◌∙◌, arith}
use Rattle.kabi_types.specs.declared.calls.Call.TheVariants as calls
use Rattle.kabi_types.specs.declared.errnos.Errno.TheVariants.{EAGAIN}
use Rattle.kabi_types.specs.declared.replies.Reply.TheVariants.{Val}
use Rattle.kabi_types.specs.declared.scripts.Script.{Script}
use Rattle.posix_defs.specs.Answer.{failed, replied}
use Rattle.posix_defs.specs.Forking.{child_of, is_full, with_child}
use Rattle.posix_defs.specs.Machine.{machine}
use Rattle.posix_defs.specs.Plain.{Plain, answered, last_pid}
use Rattle.posix_defs.specs.Process.{Process, directory_in, directory_of, ignores_in, ignores_of, is_alive_in, memory_in, memory_of, process_at}
use Rattle.kern_laws.proofs.TablePlaces.{at_end, past_last}
use Rattle.machine_laws.specs.Described.{AreDescribed}
use Rattle.machine_laws.specs.Placed.{IsPlaced}
use Rattle.machine_laws.specs.Reached.{IsReached}
use Rattle.machine_laws.proofs.Reaches.{reached_keeps}
use Rattle.machine_laws.proofs.SharedOffsets.{heirs_open}
use Rattle.machine_laws.specs.Own.{Inherits, InheritsWhere}

module _ (script : Script) (plain : Plain) (pid : ℕ) (kept : IsPlaced plain × AreDescribed plain.files) where
  abbrev next : Plain
  next = answered script (with_child script plain pid) pid (Val (pos (last_pid plain + 1)))

  last : last_pid plain + 1 ≡ suc (length plain.table)
  last = let placed = kept.0 in let counted = placed.counted in omega (arith, counted)

  abbrev made : Option Process
  made = child_of pid (process_at plain.table pid)

  begins : Inherits pid (last_pid plain + 1) plain next
  begins = record {
    new_one = ap is_alive_in (past_last plain.table (last_pid plain + 1) (omega (arith, last)));
    memory = ap (memory_of (plain.table ++ made ∷ [])) last ∙ ap memory_in (at_end plain.table made) ∙ same_memory (process_at plain.table pid);
    directory = ap (directory_of (plain.table ++ made ∷ [])) last ∙ ap directory_in (at_end plain.table made) ∙ same_directory (process_at plain.table pid);
    ignores = ap (ignores_of (plain.table ++ made ∷ [])) last ∙ ap ignores_in (at_end plain.table made) ∙ same_ignores (process_at plain.table pid);
    numbers = heirs_open plain.files pid (last_pid plain + 1) (let placed = kept.0 in let places = placed.places in let numbers = places.counted in omega (arith, numbers));
  }
    where
      same_memory : (o : Option Process) → memory_in (child_of pid o) ≡ memory_in o
      same_memory None = refl
      same_memory (Some process) = refl

      same_directory : (o : Option Process) → directory_in (child_of pid o) ≡ directory_in o
      same_directory None = refl
      same_directory (Some process) = refl

      same_ignores : (o : Option Process) → ignores_in (child_of pid o) ≡ ignores_in o
      same_ignores None = refl
      same_ignores (Some process) = refl

  told : InheritsWhere plain pid (machine script plain pid calls.Fork)
  told = go (is_full plain)
    where
      go : (b : Bool) → InheritsWhere plain pid (cond b (failed script plain pid EAGAIN) (replied script (with_child script plain pid) pid (Val (pos (last_pid plain + 1)))))
      go true = tt
      go false = begins

pub inherits : (script : Script) (plain : Plain) → IsReached script plain → (pid : ℕ) → InheritsWhere plain pid (machine script plain pid calls.Fork)
inherits script plain reached pid = told script plain pid (reached_keeps reached)
