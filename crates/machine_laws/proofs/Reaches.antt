-- Every machine that is reached keeps what is kept of descriptors and descriptions.
use Rattle.std.proofs.Common.{◌≡◌, ℕ, true, subst}
use Rattle.kabi_types.specs.declared.errnos.Errno.TheVariants.{ENOMEM}
use Rattle.kabi_types.specs.declared.replies.Reply.TheVariants.{Fail}
use Rattle.kabi_types.specs.declared.scripts.Script.{Script}
use Rattle.posix_defs.specs.Answer.{Answer}
use Rattle.posix_defs.specs.Plain.{Plain, call_of}
use Rattle.posix_defs.specs.Machine.{machine}
use Rattle.posix_defs.specs.Process.{is_alive}
use Rattle.machine_laws.specs.Described.{AreDescribed}
use Rattle.machine_laws.specs.FileSteps.{LeadsTo}
use Rattle.machine_laws.specs.Placed.{IsPlaced}
use Rattle.machine_laws.specs.Reached.{IsReached}
use Rattle.machine_laws.specs.Reached as reached
use Rattle.machine_laws.proofs.Naming.{answers_described, boot_described, die_described}
use Rattle.machine_laws.proofs.Placing.{answered_placed, answers_placed, boot_placed, die_placed}

-- what an answer leads to keeps it
answer_keeps : (script : Script) (plain : Plain) (pid : ℕ) (given : Answer) → IsPlaced plain × AreDescribed plain.files → is_alive plain.table pid ≡ true
    → machine script plain pid (call_of script plain pid) ≡ given → LeadsTo IsPlaced given × LeadsTo (λ next. AreDescribed next.files) given
answer_keeps script plain pid given kept alive is = (
  subst (LeadsTo IsPlaced) is (answers_placed script plain pid kept.0 alive (call_of script plain pid)),
  subst (LeadsTo (λ next. AreDescribed next.files)) is (answers_described script plain pid (call_of script plain pid) kept.0 kept.1 alive),
)

pub reached_keeps : {script : Script} {plain : Plain} → IsReached script plain → IsPlaced plain × AreDescribed plain.files
reached_keeps {script} reached.boots = (boot_placed script, boot_described script)
reached_keeps {script} (reached.replies plain pid reply next before alive is) = answer_keeps script plain pid _ (reached_keeps before) alive is
reached_keeps {script} (reached.moves plain pid moved next before alive is) = answer_keeps script plain pid _ (reached_keeps before) alive is
reached_keeps {script} (reached.ends plain pid status next before alive is) = answer_keeps script plain pid _ (reached_keeps before) alive is
reached_keeps {script} (reached.refuses plain pid before) = let kept = reached_keeps before in (answered_placed script plain pid (Fail ENOMEM) kept.0, kept.1)
reached_keeps {script} (reached.kills plain pid status before) = let kept = reached_keeps before in (die_placed plain pid status kept.0, die_described plain pid status kept.1)
