use Rattle.std.proofs.Common.{◌≡◌, ◌+◌, ◌%◌, ◌≤◌, ◌<◌, length, slice_get, ap, ◌∙◌, arith}
use Rattle.posix_defs.specs.Choice.{enabled_in, others_in}
use Rattle.kern_laws.proofs.Sounds.{is_sound}
use Rattle.kern_tasks.proofs.Defaults.{has_some}
use Rattle.kern_tasks.proofs.TaskLoops.{may_be_named}
use Rattle.kern_events.proofs.cores.Core.named.Goals as goal

pub overflow_add-count : goal.overflow_add-count
overflow_add-count g c =
    let few : c.task_events.result ≤ 100001 = c.task_events.ensures.few in
    let others : c.count_present.result ≤ 4 = c.count_present.ensures.few in
    omega arith

pub nonzero_rem-number : goal.nonzero_rem-number
nonzero_rem-number g c =
    let script = g.T.Turner.script c.args.self.now.store in
    let here = c.requires in
    let counted : c.task_events.result + length (others_in script here.state) ≡ length (enabled_in script here.state) =
    c.task_events.ensures.counted here.state here.is_at (is_sound here.runs) in
    let others : c.count_present.result ≡ length (others_in script here.state) = c.count_present.ensures.value ∙ ap length (c.others-others.ensures here.state here.is_at) in
    let some : 0 < length (enabled_in script here.state) = has_some script here.state here.some in
    omega arith

pub returns-in-Ok-clause-named : goal.returns-in-Ok-clause-named
returns-in-Ok-clause-named g c = λ s at sound.
    let script = g.T.Turner.script c.args.self.now.store in
    let others = c.count_present.ensures.value ∙ ap length (c.others-others.ensures s at) in
    let many : c.task_events.result + c.count_present.result ≡ length (enabled_in script s) = ap (λ n. c.task_events.result + n) others ∙ c.task_events.ensures.counted s at sound in
    c.in-Ok.ensures.found s at sound ∙ ap (λ n. slice_get (enabled_in script s) (c.args.number % n)) many

pub returns-in-Ok-clause-may : goal.returns-in-Ok-clause-may
returns-in-Ok-clause-may g c =
    may_be_named g.T.Turner.stands (g.T.Turner.script c.args.self.now.store) c.args.self.now c.args.number _ c.requires (returns-in-Ok-clause-named g c)

pub returns-in-Err-clause-named : goal.returns-in-Err-clause-named
returns-in-Err-clause-named g c = λ s at sound.
    let script = g.T.Turner.script c.args.self.now.store in
    let others = c.count_present.ensures.value ∙ ap length (c.others-others.ensures s at) in
    let many : c.task_events.result + c.count_present.result ≡ length (enabled_in script s) = ap (λ n. c.task_events.result + n) others ∙ c.task_events.ensures.counted s at sound in
    c.present_at.ensures ∙ ap (λ events. slice_get events c.in-Err.left) (c.others-others.ensures s at) ∙ c.in-Err.ensures.found s at sound
    ∙ ap (λ n. slice_get (enabled_in script s) (c.args.number % n)) many

pub returns-in-Err-clause-may : goal.returns-in-Err-clause-may
returns-in-Err-clause-may g c =
    may_be_named g.T.Turner.stands (g.T.Turner.script c.args.self.now.store) c.args.self.now c.args.number c.present_at.result c.requires (returns-in-Err-clause-named g c)
