use Rattle.std.proofs.Common.{◌≤◌, ◌++◌, ◌∷◌, [], get_or, take, take_all, sym, ap, ◌∙◌, arith}
use Rattle.std.specs.Prelude.{vec_capacity}
use Rattle.std.proofs.lemmas.List.{take_more}
use Rattle.kern_tasks.specs.Runnable.{ArePlaces, but_for, but_for_each, is_runnable, places_from}
use Rattle.kern_tasks.proofs.Runnables.{each_and_one, same_places}
use Rattle.kern_tasks.proofs.runnable.sort_stirred.Goals as goal

pub loop-pid-init : goal.loop-pid-init
loop-pid-init g c = record { named = c.stirred-pid-items.ensures; room = omega arith; looked = λ passes same. same }

pub place_anew-requires-clause-places : goal.place_anew-requires-clause-places
place_anew-requires-clause-places g c =
    let are = c.requires.places in
    record {
      passes = but_for_each are.passes (take c.loop-pid.pid-index c.stirred-pid-items.result.now) (is_runnable (g.T.Turner.settled c.args.store.now));
      same = c.loop-pid.invariant.looked are.passes are.same;
    }

pub place_anew-requires-clause-room : goal.place_anew-requires-clause-room
place_anew-requires-clause-room g c =
    let room : vec_capacity c.args.runnable.now ≤ vec_capacity c.loop-pid.runnable = c.loop-pid.invariant.room in
    omega (arith, c.requires.room)

pub loop-pid-preserved : goal.loop-pid-preserved
loop-pid-preserved g c =
    let anew = is_runnable (g.T.Turner.settled c.args.store.now) in
    let room : vec_capacity c.args.runnable.now ≤ vec_capacity c.loop-pid.runnable = c.loop-pid.invariant.room in
    record {
      named = c.loop-pid.invariant.named;
      room = omega (arith, c.place_anew.ensures.room);
      looked = λ passes same.
          let named = c.stirred-pid-items.result.now in
          let before = take c.loop-pid.pid-index named in
          c.place_anew.ensures.items (but_for_each passes before anew) (c.loop-pid.invariant.looked passes same)
          ∙ same_places (but_for (but_for_each passes before anew) (get_or named c.loop-pid.pid-index 0) anew) (but_for_each passes (before ++ get_or named c.loop-pid.pid-index 0 ∷ []) anew) 0 c.args.tasks.now
          (each_and_one passes anew before (get_or named c.loop-pid.pid-index 0))
          ∙ ap (λ pids. places_from (but_for_each passes pids anew) 0 c.args.tasks.now) (sym (take_more named c.loop-pid.pid-index 0 c.loop-pid-test.true));
    }

pub returns-clause-items : goal.returns-clause-items
returns-clause-items g c = λ passes same.
    let anew = is_runnable (g.T.Turner.settled c.args.store.now) in
    c.loop-pid.invariant.looked passes same
    ∙ ap (λ pids. places_from (but_for_each passes pids anew) 0 c.args.tasks.now) (take_all c.loop-pid.pid-index c.stirred-pid-items.result.now c.loop-pid-test.false ∙ c.loop-pid.invariant.named)
