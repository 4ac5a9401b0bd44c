-- What holds of the machine that an answer leads to.
use Rattle.std.proofs.Common.{ℕ, Bool, true, false}
use Rattle.kabi_types.specs.declared.calls.Call.{Call}
use Rattle.posix_defs.specs.Answer as answer
use Rattle.posix_defs.specs.Answer.{Answer}
use Rattle.posix_defs.specs.Plain.{Plain}
use Rattle.machine_laws.specs.FileSteps.{IsStep, LeadsTo, Steps}

-- what follows from it holds too
pub leads_on : (One Two : Plain → Type 0) → ((next : Plain) → One next → Two next) → (given : Answer) → LeadsTo One given → LeadsTo Two given
leads_on One Two follows answer.Blocked holds = tt
leads_on One Two follows (answer.Done reply next) holds = follows next holds
leads_on One Two follows (answer.Part moved next) holds = follows next holds
leads_on One Two follows (answer.Ended status next) holds = follows next holds

-- what every step leads to holds of what each answer leads to
pub steps_lead : (plain : Plain) (pid : ℕ) (call : Call) (Holds : Plain → Type 0) → ((goes_on : Bool) (next : Plain) → IsStep plain pid call goes_on next.files → Holds next)
    → (given : Answer) → Steps plain pid call given → LeadsTo Holds given
steps_lead plain pid call Holds follows answer.Blocked stepped = tt
steps_lead plain pid call Holds follows (answer.Done reply next) stepped = follows true next stepped
steps_lead plain pid call Holds follows (answer.Part moved next) stepped = follows true next stepped
steps_lead plain pid call Holds follows (answer.Ended status next) stepped = follows false next stepped
