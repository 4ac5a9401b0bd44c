use Rattle.std.proofs.Common.{◌≡◌, ℕ, ◌+◌, pos, Bool, true, false, cond}
use Rattle.kabi_types.specs.declared.errnos.Errno.TheVariants.{EAGAIN}
use Rattle.kabi_types.specs.declared.replies.Reply.TheVariants.{Val}
use Rattle.kabi_types.specs.declared.scripts.Script.{Script}
use Rattle.posix_defs.specs.Plain.{Plain, last_pid}
use Rattle.posix_defs.specs.Answer.{Done, failed, replied}
use Rattle.posix_defs.specs.Forking.{is_full, with_child}
use Rattle.kern_laws.proofs.Families.{follows_on, reached_kept}
use Rattle.kern_laws.proofs.processes.a_pid_is_never_used_again.Goals as goal

pub returns-clause-stays : goal.returns-clause-stays
returns-clause-stays c = λ script history past added next run follows. let leads = follows_on script past added next (reached_kept run) follows in leads.goes_on

told : (script : Script) (plain : Plain) (pid child : ℕ) (next : Plain) (b : Bool)
    → cond b (failed script plain pid EAGAIN) (replied script (with_child script plain pid) pid (Val (pos (last_pid plain + 1)))) ≡ Done (Val (pos child)) next
    → child ≡ last_pid plain + 1
told script plain pid child next true e = cc
told script plain pid child next false e = cc

pub returns-clause-forked : goal.returns-clause-forked
returns-clause-forked c = λ script plain pid child next e. told script plain pid child next (is_full plain) e
