use Rattle.std.proofs.Common.{◌≡◌, sym, ap, ◌∙◌}
use Rattle.std.specs.List.{list_all}
use Rattle.std.proofs.lemmas.List.{drop_all}
use Rattle.posix_defs.specs.Ends.{sleeps_on}
use Rattle.kern_tasks.specs.Runnable.{runnable_in}
use Rattle.kern_tasks.proofs.Picked.{nobody}
use Rattle.kern_tasks.proofs.Settled.{sleep_runnable}
use Rattle.kern_tasks.proofs.TaskLoops.{all_behind, not_all_here}
use Rattle.kern_events.proofs.Places.{all_found, found_there}
use Rattle.kern_events.proofs.cores.Core.all_block.Goals as goal

pub loop-place-init : goal.loop-place-init
loop-place-init g c =
    let settled = g.T.Turner.settled in
    let same : c.deref-place-items.result.now ≡ runnable_in (settled c.args.self.now.store) c.args.self.now.tasks =
    c.deref-place-items.ensures.value ∙ c.self.invariant.placed ∙ ap (λ core. runnable_in (settled core.store) core.tasks) c.self.view_is in
    record {
      items = same;
      rest = λ s at sound. sleep_runnable (g.T.Turner.script c.args.self.now.store) s (settled c.args.self.now.store)
          (λ pid e alive. g.met.T.Turner.settled_block c.args.self.now.store s.world pid at.stands e alive) sound c.args.self.now.tasks at.tasks;
    }

pub sleeps_at-requires : goal.sleeps_at-requires
sleeps_at-requires g c =
    let here = found_there (g.T.Turner.settled c.args.self.now.store) c.args.self.now.tasks _ c.loop-place.place-index 0 c.loop-place.invariant.items c.loop-place-test.true in
    here.within

pub loop-place-preserved : goal.loop-place-preserved
loop-place-preserved g c =
    let here = found_there (g.T.Turner.settled c.args.self.now.store) c.args.self.now.tasks _ c.loop-place.place-index 0 c.loop-place.invariant.items c.loop-place-test.true in
    record {
      items = c.loop-place.invariant.items;
      rest = λ s at sound.
          all_behind _ _ _ nobody _ here.within_picked (sym (c.sleeps_at.ensures s _ at sound here.there) ∙ c.if-not-sleeps_at.false) (c.loop-place.invariant.rest s at sound);
    }

pub returns-then-not-sleeps_at : goal.returns-then-not-sleeps_at
returns-then-not-sleeps_at g c = λ s at sound.
    let here = found_there (g.T.Turner.settled c.args.self.now.store) c.args.self.now.tasks _ c.loop-place.place-index 0 c.loop-place.invariant.items c.loop-place-test.true in
    not_all_here _ _ _ nobody _ here.within_picked (sym (c.sleeps_at.ensures s _ at sound here.there) ∙ c.if-not-sleeps_at.true) (c.loop-place.invariant.rest s at sound)

pub returns : goal.returns
returns g c = λ s at sound.
    let behind = all_found (g.T.Turner.settled c.args.self.now.store) c.args.self.now.tasks _ _ c.loop-place.invariant.items c.loop-place-test.false in
    sym (ap (list_all (λ task. sleeps_on (g.T.Turner.script c.args.self.now.store) s task.pid task.phase)) (drop_all _ _ behind)) ∙ c.loop-place.invariant.rest s at sound
