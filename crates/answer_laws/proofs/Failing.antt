-- A call that fails changes its caller's control alone, by its shape.
use Rattle.std.proofs.Common.{◌≡◌, ◌≢◌, ℕ, true, false, refl, ap, sym, ◌∙◌, subst}
use Rattle.kabi_types.specs.declared.calls.Call.{Call}
use Rattle.kabi_types.specs.declared.errnos.Errno.{Errno}
use Rattle.kabi_types.specs.declared.errnos.Errno.TheVariants.{ENOMEM}
use Rattle.kabi_types.specs.declared.replies.Reply.{Reply}
use Rattle.kabi_types.specs.declared.replies.Reply.TheVariants.{Fail}
use Rattle.kabi_types.specs.declared.scripts.Script.{Script}
use Rattle.posix_defs.specs.Answer.{Answer, Done}
use Rattle.posix_defs.specs.Plain.{Plain, answered}
use Rattle.posix_defs.specs.Machine.{machine}
use Rattle.posix_defs.specs.Reaching.{is_reply}
use Rattle.answer_laws.specs.Shapes as shape
use Rattle.answer_laws.specs.Shapes.{HasShape}
use Rattle.answer_laws.proofs.Shapes.{machine_shape}

-- an answer that is an errno leaves the machine as it was but for that, and isn't ENOMEM
abbrev FailsAlone : Script → Plain → ℕ → Answer → Type 0
FailsAlone script plain pid (Done (Fail errno) next) = (next ≡ answered script plain pid (Fail errno)) × (errno ≢ ENOMEM)
FailsAlone script plain pid _ = Unit {0}

-- a reply that is none leaves nothing to show
told : (script : Script) (plain next : Plain) (pid : ℕ) (said : Reply) → is_reply said ≡ true → FailsAlone script plain pid (Done said next)
told script plain next pid (Fail errno) is = absurd (no is)
  where
    no : false ≡ true → ⊥
    no e = cc
told script plain next pid _ is = tt

by_shape : (script : Script) (plain : Plain) (pid : ℕ) (which : Call) (given : Answer) → HasShape script plain pid which given → FailsAlone script plain pid given
by_shape script plain pid which given (shape.blocks may is) = subst (FailsAlone script plain pid) (sym is) tt
by_shape script plain pid which given (shape.fails errno other is) = subst (FailsAlone script plain pid) (sym is) (refl, other)
by_shape script plain pid which given (shape.tells files said is_said is) = subst (FailsAlone script plain pid) (sym is) (told script plain _ pid said is_said)
by_shape script plain pid which given (shape.puts files memory said is_said put is) = subst (FailsAlone script plain pid) (sym is) (told script plain _ pid said is_said)
by_shape script plain pid which given (shape.moves path directory of entered is) = subst (FailsAlone script plain pid) (sym is) tt
by_shape script plain pid which given (shape.disposes signal disposition ignores before of is) = subst (FailsAlone script plain pid) (sym is) tt
by_shape script plain pid which given (shape.parts files moved part is) = subst (FailsAlone script plain pid) (sym is) tt
by_shape script plain pid which given (shape.awaits files begun is) = subst (FailsAlone script plain pid) (sym is) tt
by_shape script plain pid which given (shape.starts place is) = subst (FailsAlone script plain pid) (sym is) tt
by_shape script plain pid which given (shape.forks is) = subst (FailsAlone script plain pid) (sym is) tt
by_shape script plain pid which given (shape.reaps child status ended is) = subst (FailsAlone script plain pid) (sym is) tt
by_shape script plain pid which given (shape.ends status is) = subst (FailsAlone script plain pid) (sym is) tt
by_shape script plain pid which given (shape.ends_another target signal of first own alive is) = subst (FailsAlone script plain pid) (sym is) tt

-- an answer that is an errno leaves the machine but for that, by its shape, and isn't ENOMEM
pub fails_so : (script : Script) (plain : Plain) (pid : ℕ) (which : Call) (given : Answer) (errno : Errno) (next : Plain) → HasShape script plain pid which given
    → given ≡ Done (Fail errno) next → (next ≡ answered script plain pid (Fail errno)) × (errno ≢ ENOMEM)
fails_so script plain pid which given errno next has is = subst (FailsAlone script plain pid) is (by_shape script plain pid which given has)

pub wants_not : (script : Script) (plain : Plain) (pid : ℕ) (which : Call) (given : Answer) (said : Reply) (next : Plain) → HasShape script plain pid which given
    → given ≡ Done said next → said ≢ Fail ENOMEM
wants_not script plain pid which given said next has is wants = (fails_so script plain pid which given ENOMEM next has (is ∙ ap (λ s. Done s next) wants)).1 refl

pub fails_alone : (script : Script) (plain : Plain) (pid : ℕ) (which : Call) (errno : Errno) (next : Plain)
    → machine script plain pid which ≡ Done (Fail errno) next → (next ≡ answered script plain pid (Fail errno)) × (errno ≢ ENOMEM)
fails_alone script plain pid which errno next is = fails_so script plain pid which (machine script plain pid which) errno next (machine_shape script plain pid which) is

pub never_wants : (script : Script) (plain : Plain) (pid : ℕ) (which : Call) (said : Reply) (next : Plain)
    → machine script plain pid which ≡ Done said next → said ≢ Fail ENOMEM
never_wants script plain pid which said next is = wants_not script plain pid which (machine script plain pid which) said next (machine_shape script plain pid which) is
