-- Of all calls seven may block.
use Rattle.std.proofs.Common.{◌≡◌, ℕ, true, sym, ◌∙◌}
use Rattle.kabi_types.specs.declared.calls.Call.{Call}
use Rattle.kabi_types.specs.declared.replies.Reply.{Reply}
use Rattle.kabi_types.specs.declared.scripts.Script.{Script}
use Rattle.posix_defs.specs.Answer.{Answer, Blocked, Done, Ended, Part}
use Rattle.posix_defs.specs.Plain.{Plain}
use Rattle.posix_defs.specs.Machine.{machine}
use Rattle.answer_laws.specs.Shapes as shape
use Rattle.answer_laws.specs.Shapes.{HasShape, may_block}
use Rattle.answer_laws.proofs.Shapes.{machine_shape}

not_done : (reply : Reply) (next : Plain) → Done reply next ≡ Blocked → ⊥
not_done reply next e = cc

not_part : (moved : ℕ) (next : Plain) → Part moved next ≡ Blocked → ⊥
not_part moved next e = cc

not_ended : (status : ℕ) (next : Plain) → Ended status next ≡ Blocked → ⊥
not_ended status next e = cc

by_shape : (script : Script) (plain : Plain) (pid : ℕ) (which : Call) (given : Answer) → HasShape script plain pid which given → given ≡ Blocked → may_block which ≡ true
by_shape script plain pid which given (shape.blocks may is) e = may
by_shape script plain pid which given (shape.fails errno other is) e = absurd (not_done _ _ (sym is ∙ e))
by_shape script plain pid which given (shape.tells files said is_said is) e = absurd (not_done _ _ (sym is ∙ e))
by_shape script plain pid which given (shape.puts files memory said is_said what is) e = absurd (not_done _ _ (sym is ∙ e))
by_shape script plain pid which given (shape.moves path directory called led is) e = absurd (not_done _ _ (sym is ∙ e))
by_shape script plain pid which given (shape.disposes signal disposition ignores before called is) e = absurd (not_done _ _ (sym is ∙ e))
by_shape script plain pid which given (shape.parts files moved part is) e = absurd (not_part _ _ (sym is ∙ e))
by_shape script plain pid which given (shape.awaits files begun is) e = absurd (not_part _ _ (sym is ∙ e))
by_shape script plain pid which given (shape.starts place is) e = absurd (not_done _ _ (sym is ∙ e))
by_shape script plain pid which given (shape.forks is) e = absurd (not_done _ _ (sym is ∙ e))
by_shape script plain pid which given (shape.reaps child status ended is) e = absurd (not_done _ _ (sym is ∙ e))
by_shape script plain pid which given (shape.ends status is) e = absurd (not_ended _ _ (sym is ∙ e))
by_shape script plain pid which given (shape.ends_another target signal called first own lives is) e = absurd (not_done _ _ (sym is ∙ e))

pub blocked_may : (script : Script) (plain : Plain) (pid : ℕ) (which : Call) → machine script plain pid which ≡ Blocked → may_block which ≡ true
blocked_may script plain pid which is = by_shape script plain pid which (machine script plain pid which) (machine_shape script plain pid which) is
