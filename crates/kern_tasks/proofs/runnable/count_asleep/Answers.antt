use Rattle.std.proofs.Common.{◌≡◌, ◌≤◌, ◌+◌, drop, sym, ap, ◌∙◌, arith}
use Rattle.std.specs.List.{count_by}
use Rattle.std.proofs.lemmas.List.{drop_all}
use Rattle.kern_tasks.specs.Room.{is_asleep}
use Rattle.kern_tasks.proofs.Picked.{counted_more, counted_past}
use Rattle.kern_tasks.proofs.runnable.count_asleep.Goals as goal
use Rattle.kern_tasks.proofs.runnable.count_asleep.Goals.{then-is_asleep, else-is_asleep}

pub loop-task-preserved : goal.loop-task-preserved
loop-task-preserved c =
    let behind = count_by (λ task. is_asleep task.phase) (drop (c.loop-task.task-index + 1) c.args.tasks.now) in
    let few : c.loop-task.count ≤ c.loop-task.task-index = c.loop-task.invariant.few in
    elim c.if-is_asleep.branch [
      | then-is_asleep w ↦ record {
        few = omega (arith, w.count-is);
        rest = ap (λ n. n + behind) w.count-is
            ∙ counted_more (λ task. is_asleep task.phase) c.args.tasks.now c.loop-task.task-index c.loop-task.count _ _ c.loop-task-test.true (sym c.is_asleep.ensures ∙ w.if-is_asleep.true)
            c.loop-task.invariant.rest;
      }
      | else-is_asleep w ↦ record {
        few = omega (arith, w.count-is);
        rest = ap (λ n. n + behind) w.count-is
            ∙ counted_past (λ task. is_asleep task.phase) c.args.tasks.now c.loop-task.task-index c.loop-task.count _ _ c.loop-task-test.true (sym c.is_asleep.ensures ∙ w.if-is_asleep.false)
            c.loop-task.invariant.rest;
      }
    ]

pub returns : goal.returns
returns c =
    let over = ap (count_by (λ task. is_asleep task.phase)) (drop_all c.loop-task.task-index c.args.tasks.now c.loop-task-test.false) in
    let none : count_by (λ task. is_asleep task.phase) (drop c.loop-task.task-index c.args.tasks.now) ≡ 0 = over in
    let all : c.loop-task.count + count_by (λ task. is_asleep task.phase) (drop c.loop-task.task-index c.args.tasks.now) ≡ count_by (λ task. is_asleep task.phase) c.args.tasks.now = c.loop-task.invariant.rest in
    omega arith
