use Rattle.std.proofs.Common.{◌∙◌, List, slice_index_or, ap, sym, subst}
use Rattle.store_objects.specs.Objects.{is_running, procs_of}
use Rattle.store_objects.proofs.RunningProcs.{alive_is}
use Rattle.call_run.specs.declared.sleepers.Sleeper.{Sleeper}
use Rattle.call_run.specs.Sleepers.{IsLookedAt, is_gone}
use Rattle.call_run.proofs.Asking.{asked_looked, asked_named, blank}
use Rattle.call_run.proofs.sleepers.look_at.Goals as goal

pub runs-requires : goal.runs-requires
runs-requires c = let some = c.requires.stands in some.1.kept.holds.stored

-- who runs is alive
pub ask-requires-clause-alive : goal.ask-requires-clause-alive
ask-requires-clause-alive c =
    let some = c.requires.stands in (
      some.0,
      some.1,
      alive_is c.args.script.now c.args.objects.now some.0.plain (slice_index_or c.deref_mut.result.now c.args.place blank).pid some.1.processes
          ∙ ap (λ (list : List Sleeper). is_running (procs_of c.args.objects.now) (slice_index_or list c.args.place blank).pid) (c.deref_mut.ensures.value ∙ sym c.deref.ensures.0)
          ∙ sym c.runs.ensures ∙ c.if-runs.true,
    )

pub returns-then-runs-clause-looked : goal.returns-then-runs-clause-looked
returns-then-runs-clause-looked c =
    asked_looked c.args.told.now.items c.deref_mut.result.now c.args.place c.ask.new.sleeper c.deref_mut.ensures.value c.requires.within c.args.script.now c.args.objects.now
    (ap (λ (s : Sleeper). s.pid) c.ask.ensures.same) (λ world stands reached.
    let alive =
    alive_is c.args.script.now c.args.objects.now world.plain (slice_index_or c.deref_mut.result.now c.args.place blank).pid stands.processes
    ∙ ap (λ (list : List Sleeper). is_running (procs_of c.args.objects.now) (slice_index_or list c.args.place blank).pid) (c.deref_mut.ensures.value ∙ sym c.deref.ensures.0)
    ∙ sym c.runs.ensures ∙ c.if-runs.true in
    (alive, c.ask.ensures.blocks world stands reached alive))

pub returns-then-runs-clause-named : goal.returns-then-runs-clause-named
returns-then-runs-clause-named c =
    asked_named c.args.told.now.items c.deref_mut.result.now c.args.place c.ask.new.sleeper c.deref_mut.ensures.value c.requires.within c.args.stirred.now.items c.ask.new.stirred.items
    c.requires.rising (ap (λ (s : Sleeper). s.pid) c.ask.ensures.same) c.ask.ensures.named

pub returns-else-runs-clause-looked : goal.returns-else-runs-clause-looked
returns-else-runs-clause-looked c =
    subst (IsLookedAt c.args.script.now c.args.objects.now c.args.told.now.items c.args.place) (sym c.forget_at.ensures.items) is_gone
