use Rattle.std.proofs.Common.{◌≡◌, ◌∙◌, ap, sym}
use Rattle.kabi_types.specs.declared.errnos.Errno.TheVariants.{EDEADLK}
use Rattle.kabi_types.specs.declared.replies.Reply.TheVariants.{Fail}
use Rattle.posix_defs.specs.declared.turner.Turned.{Turned}
use Rattle.posix_defs.specs.declared.turner.Turned.TheVariants as turned
use Rattle.lock_calls.specs.Setting.{wait_told}
use Rattle.lock_calls.proofs.setting.wait.Goals as goal

told_two : {X : Type 0} (told : Turned) → told ≡ turned.Done (Fail EDEADLK) → told ≡ turned.Sleep → X
told_two told done slept = cc

pub returns-then-circles-clause-told : goal.returns-then-circles-clause-told
returns-then-circles-clause-told c = λ world stands sound. c.go_on.ensures.told ∙ ap wait_told (sym (sym (c.circles.ensures world stands sound) ∙ c.if-circles.true))

pub returns-then-circles-clause-asleep : goal.returns-then-circles-clause-asleep
returns-then-circles-clause-asleep c = λ slept. told_two c.go_on.result c.go_on.ensures.told slept

pub returns-then-circles-clause-goes : goal.returns-then-circles-clause-goes
returns-then-circles-clause-goes c = λ done. c.go_on.ensures.goes

pub returns-else-circles-clause-told : goal.returns-else-circles-clause-told
returns-else-circles-clause-told c = λ world stands sound. ap wait_told (sym (sym (c.circles.ensures world stands sound) ∙ c.if-circles.false))
