-- A call that fails changes its caller's control alone.
use Rattle.std.proofs.Common.{◌≡◌, ◌≢◌, ℕ}
use Rattle.kabi_types.specs.declared.calls.Call.{Call}
use Rattle.kabi_types.specs.declared.errnos.Errno.{Errno}
use Rattle.kabi_types.specs.declared.errnos.Errno.TheVariants.{ENOMEM}
use Rattle.kabi_types.specs.declared.replies.Reply.{Reply}
use Rattle.kabi_types.specs.declared.replies.Reply.TheVariants.{Fail}
use Rattle.kabi_types.specs.declared.scripts.Script.{Script}
use Rattle.posix_defs.specs.Plain.{Plain, answered}
use Rattle.posix_defs.specs.Answer.{Done}
use Rattle.posix_defs.specs.Machine.{machine}
use Rattle.answer_laws.proofs.Shapes.{machine_shape}
use Rattle.answer_laws.proofs.Failing.{fails_so, wants_not}

pub fails_alone : (script : Script) (plain : Plain) (pid : ℕ) (which : Call) (errno : Errno) (next : Plain)
    → machine script plain pid which ≡ Done (Fail errno) next → next ≡ answered script plain pid (Fail errno)
fails_alone script plain pid which errno next is = (fails_so script plain pid which (machine script plain pid which) errno next (machine_shape script plain pid which) is).0

-- and no errno is ENOMEM
pub wants_no_memory : (script : Script) (plain : Plain) (pid : ℕ) (which : Call) (errno : Errno) (next : Plain)
    → machine script plain pid which ≡ Done (Fail errno) next → errno ≢ ENOMEM
wants_no_memory script plain pid which errno next is = (fails_so script plain pid which (machine script plain pid which) errno next (machine_shape script plain pid which) is).1

-- no answer of the machine is ENOMEM
pub never_wants : (script : Script) (plain next : Plain) (pid : ℕ) (which : Call) (reply : Reply)
    → machine script plain pid which ≡ Done reply next → reply ≢ Fail ENOMEM
never_wants script plain next pid which reply is = wants_not script plain pid which (machine script plain pid which) reply next (machine_shape script plain pid which) is
