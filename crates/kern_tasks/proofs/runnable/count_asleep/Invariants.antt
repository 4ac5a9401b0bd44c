use Rattle.std.proofs.Common.{◌≡◌, ◌≤◌, ◌+◌, drop}
use Rattle.std.specs.List.{count_by}
use Rattle.kern_tasks.specs.Room.{is_asleep}
use Rattle.kern_tasks.proofs.runnable.count_asleep.Given as goal

-- so many are counted, and these are left
abbrev pub invariant-loop-task : goal.invariant-loop-task
invariant-loop-task l = record {
  few : l.count ≤ l.task-index;
  rest : l.count + count_by (λ task. is_asleep task.phase) (drop l.task-index l.tasks) ≡ count_by (λ task. is_asleep task.phase) l.tasks;
}
