-- What holds of every machine that is reached: what holds at the beginning, and is kept.
use Rattle.std.proofs.Common.{◌≡◌, ℕ, Bool, true, subst}
use Rattle.kabi_types.specs.declared.calls.Call.{Call}
use Rattle.kabi_types.specs.declared.errnos.Errno.TheVariants.{ENOMEM}
use Rattle.kabi_types.specs.declared.replies.Reply.TheVariants.{Fail}
use Rattle.kabi_types.specs.declared.scripts.Script.{Script}
use Rattle.posix_defs.specs.Ending.{die}
use Rattle.posix_defs.specs.Plain.{Plain, answered, boot_plain, call_of}
use Rattle.posix_defs.specs.Machine.{machine}
use Rattle.posix_defs.specs.Process.{is_alive}
use Rattle.posix_defs.specs.Files.State.{Files}
use Rattle.machine_laws.specs.FileSteps.{IsStep, LeadsTo}
use Rattle.machine_laws.specs.Reached.{IsReached}
use Rattle.machine_laws.specs.Reached as reached
use Rattle.machine_laws.proofs.Leading.{steps_lead}
use Rattle.machine_laws.proofs.Stepping.{step_of}

-- It holds at the beginning, and where it holds in a machine that is reached it is kept by the answers to the calls that live
-- processes make, by refusals and by kills.
pub record IsInductive (script : Script) (Holds : Plain → Type 0) : Type 0 where
  pub boot : Holds (boot_plain script)
  pub answer : (plain : Plain) (pid : ℕ) → IsReached script plain → Holds plain → is_alive plain.table pid ≡ true → LeadsTo Holds (machine script plain pid (call_of script plain pid))
  pub refuse : (plain : Plain) (pid : ℕ) → IsReached script plain → Holds plain → Holds (answered script plain pid (Fail ENOMEM))
  pub kill : (plain : Plain) (pid status : ℕ) → IsReached script plain → Holds plain → Holds (die plain pid status)

pub by_induction : (script : Script) (Holds : Plain → Type 0) → IsInductive script Holds → {plain : Plain} → IsReached script plain → Holds plain
by_induction script Holds inductive reached.boots = inductive.boot
by_induction script Holds inductive (reached.replies plain pid reply next before alive is) =
    subst (LeadsTo Holds) is (inductive.answer plain pid before (by_induction script Holds inductive before) alive)
by_induction script Holds inductive (reached.moves plain pid moved next before alive is) =
    subst (LeadsTo Holds) is (inductive.answer plain pid before (by_induction script Holds inductive before) alive)
by_induction script Holds inductive (reached.ends plain pid status next before alive is) =
    subst (LeadsTo Holds) is (inductive.answer plain pid before (by_induction script Holds inductive before) alive)
by_induction script Holds inductive (reached.refuses plain pid before) = inductive.refuse plain pid before (by_induction script Holds inductive before)
by_induction script Holds inductive (reached.kills plain pid status before) = inductive.kill plain pid status before (by_induction script Holds inductive before)

-- what each step of files keeps each answer keeps
pub answers_keep : (Holds : Files → Type 0) (script : Script) (plain : Plain) (pid : ℕ) (call : Call)
    → ((goes_on : Bool) (next : Files) → IsStep plain pid call goes_on next → Holds next) → LeadsTo (λ next. Holds next.files) (machine script plain pid call)
answers_keep Holds script plain pid call kept = steps_lead plain pid call (λ next. Holds next.files) (λ goes_on next stepped. kept goes_on next.files stepped)
    (machine script plain pid call) (step_of script plain pid call)
