use Rattle.std.proofs.Common.{◌≡◌, ◌≤◌, ◌+◌, ◌++◌, ◌∷◌, [], length, vec_capacity, refl, sym, ap, ◌∙◌, subst, arith}
use Rattle.posix_defs.specs.declared.phases.Phase.TheVariants.{User}
use Rattle.posix_defs.specs.declared.phases.Task.{Task}
use Rattle.posix_defs.specs.CoreState.{boot_state}
use Rattle.posix_defs.specs.Files.Descriptors.{none_open}
use Rattle.posix_defs.specs.Memory.{no_places}
use Rattle.posix_defs.specs.CoreRun.{IsCoreRun, boots, peak_of}
use Rattle.std.specs.List.{AllByRecursion, count_by}
use Rattle.kern_tasks.specs.Room.{is_asleep}
use Rattle.kern_tasks.specs.Runnable.{runnable_in}
use Rattle.kern_events.specs.Sleepers.{WaitsForAtMost}
use Rattle.kern_events.proofs.cores.Core.boot.Goals as goal

pub invariant_of-result : goal.invariant_of-result
unfolding no_places none_open
invariant_of-result g c =
    let script = g.T.Turner.script c.args.store in
    let first : Task = record { pid = 1; phase = User } in
    let tasks : c.push_reserved.new.self.items ≡ first ∷ [] = c.push_reserved.ensures.items ∙ ap (λ before. before ++ first ∷ []) c.in_ok-tasks.ensures.items in
    let none : length c.in_ok-run.run'.items ≡ 0 = ap length c.in_ok-run.ensures.items in
    let one : length c.push_reserved.new.self.items ≡ 1 = ap length tasks in
    record {
      kept = record {
        has_run = record {
          state = boot_state script;
          is_at = record { stands = c.requires.booted; tasks = sym tasks; reserved = refl; charged = refl };
          runs = subst (λ run. IsCoreRun script c.args.steps run (boot_state script)) (sym c.in_ok-run.ensures.items) boots;
          peak = sym (ap peak_of c.in_ok-run.ensures.items);
          within = omega arith;
        };
        same_heap = c.requires.heap;
        least_heap = omega arith;
        most_heap = c.requires.most_heap;
        room = c.in_ok-run.ensures.capacity;
        most_steps = c.requires.most_steps;
        few = omega arith;
        tasks_fit =
            let enough : c.args.steps + 1 ≤ vec_capacity c.in_ok-tasks.tasks = c.in_ok-tasks.ensures.capacity in
            let same : vec_capacity c.push_reserved.new.self ≡ vec_capacity c.in_ok-tasks.tasks = c.push_reserved.ensures.capacity in
            omega arith;
      };
      placed =
          c.push_reserved-2.ensures.items ∙ ap (λ before. before ++ 0 ∷ []) c.in_ok-runnable.ensures.items
          ∙ ap (runnable_in (g.T.Turner.settled c.args.store)) (sym tasks);
      places =
          let enough : c.args.steps + 2 ≤ vec_capacity c.in_ok-runnable.runnable = c.in_ok-runnable.ensures.capacity in
          let same : vec_capacity c.push_reserved-2.new.self ≡ vec_capacity c.in_ok-runnable.runnable = c.push_reserved-2.ensures.capacity in
          omega arith;
      counted = ap (count_by (λ task. is_asleep task.phase)) (sym tasks);
      waiting = subst (AllByRecursion (λ task. WaitsForAtMost 0 task.phase)) (sym tasks) (tt, tt);
      caches = c.evictables_of-evictables.ensures;
    }

pub returns-clause-booted : goal.returns-clause-booted
unfolding no_places none_open
returns-clause-booted g c =
    let first : Task = record { pid = 1; phase = User } in
    let tasks : c.push_reserved.new.self.items ≡ first ∷ [] = c.push_reserved.ensures.items ∙ ap (λ before. before ++ first ∷ []) c.in_ok-tasks.ensures.items in
    record {
      is_at = record { stands = c.requires.booted; tasks = sym tasks; reserved = refl; charged = refl };
      run = c.in_ok-run.ensures.items;
    }
