use Rattle.std.proofs.Common.{◌≡◌, ◌∙◌, ap, subst, sym, refl, length, suc, ◌+◌, None, Some, arith}
use Rattle.posix_defs.specs.Choice.{chosen, named_by}
use Rattle.posix_defs.specs.SoundTasks.{IsSound}
use Rattle.posix_defs.specs.Ends.{end_of}
use Rattle.kern_tasks.specs.View.{StaysInside, Takes, Took}
use Rattle.kern_tasks.specs.View.{begins, goes_on}
use Rattle.kern_core.proofs.PickedRuns.{chooses_more, chooses_next, has_ended, over_boot, over_more}
use Rattle.kern_core.proofs.picks.run_to_end.Goals as goal

pub loop-end-init : goal.loop-end-init
loop-end-init g c = record {
  script = refl;
  steps = refl;
  ran = over_boot g.T.Turner.stands g.T.Turner.marks g.T.Turner.high _ _ c.requires.booted;
  chooses = λ i.
      let none : length c.args.core.now.run ≡ 0 = ap length c.requires.booted.run in
      let same : suc i ≡ suc (length c.args.core.now.run + i) = omega (arith, none) in
      c.of-choosing.ensures i ∙ ap (λ chooser. chosen chooser (suc i)) c.requires.chooser
      ∙ ap (chosen (g.T.Turner.script c.args.core.now.store).chooser) same;
  inside = begins;
}

pub loop-end-preserved : goal.loop-end-preserved
loop-end-preserved g c =
    let script = g.T.Turner.script in
    let stands = g.T.Turner.stands in
    let chooser = (script c.args.core.now.store).chooser in
    let same = c.loop-end.invariant.script in
    let old = c.loop-end.core in
    record {
      script = c.take.ensures.script ∙ same;
      steps = c.take.ensures.took.1.steps ∙ c.loop-end.invariant.steps;
      ran = over_more stands g.T.Turner.marks g.T.Turner.high (script c.args.core.now.store) old c.take.new.self c.picked-event.result c.take.ensures.took.0 c.next-number.result.0
          c.loop-end.invariant.ran
          (c.next-number.ensures.number ∙ chooses_next c.loop-end.choosing chooser (length old.run) c.loop-end.invariant.chooses)
          (λ s at sound. subst (λ sc. end_of sc old.steps (length old.run) s ≡ None) same (sym (c.in_default.ensures.end s at (subst (λ sc. IsSound sc s) (sym same) sound))))
          (λ s at sound. subst (λ sc. named_by c.next-number.result.0 sc s ≡ Some c.picked-event.result) same
          (c.picked-event.ensures.named s at (subst (λ sc. IsSound sc s) (sym same) sound)))
          (subst (λ sc. Took stands sc old c.picked-event.result c.take.ensures.took.0 c.take.new.self) same c.take.ensures.took.1)
          (subst (λ sc. StaysInside g.T.Turner.marks g.T.Turner.high sc.heap old c.take.new.self) same c.take.ensures.inside);
      chooses = chooses_more c.loop-end.choosing c.next-number.result.1 chooser old.run c.take.new.self.run c.take.ensures.took.0
          c.loop-end.invariant.chooses c.next-number.ensures.rest c.take.ensures.took.1.run;
      inside = goes_on old c.take.new.self c.picked-event.result c.loop-end.invariant.inside
          (subst (λ sc. Takes stands sc old c.picked-event.result c.take.new.self) same c.take.ensures.took)
          (subst (λ sc. StaysInside g.T.Turner.marks g.T.Turner.high sc.heap old c.take.new.self) same c.take.ensures.inside);
    }

pub returns-in-Some-clause-ended : goal.returns-in-Some-clause-ended
returns-in-Some-clause-ended g c =
    let script = g.T.Turner.script in
    let same = c.loop-end.invariant.script in
    let core = c.loop-end.core in
    has_ended g.T.Turner.stands g.T.Turner.marks g.T.Turner.high (script c.args.core.now.store) core c.in-Some.end c.loop-end.invariant.ran
    (λ s at sound. subst (λ sc. Some c.in-Some.end ≡ end_of sc core.steps (length core.run) s) same
    (c.in-Some.ensures.end s at (subst (λ sc. IsSound sc s) (sym same) sound)))
