use Rattle.std.proofs.Common.{◌≡◌, ◌<◌, ◌≤◌, ◌+◌, length, vec_capacity, refl, sym, subst, ap, ◌∙◌, arith}
use Rattle.kabi_types.specs.declared.entries.Event.TheVariants.{Evict}
use Rattle.posix_defs.specs.SoundTasks.{AreRising}
use Rattle.kern_tasks.specs.Runnable.{is_runnable, runnable_in}
use Rattle.kern_tasks.specs.View.{MayTake}
use Rattle.kern_tasks.proofs.HeapBounds.{inside}
use Rattle.kern_tasks.proofs.NextRun.{evicted_charged, evicts, few_tasks, has_room, kept_next, places_fit, rising_now, takes_all}
use Rattle.kern_tasks.proofs.Sorting.{stirred_is}
use Rattle.kern_events.proofs.cores.Core.evict.Goals as goal

pub evict-requires : goal.evict-requires
evict-requires g c =
    let may = subst (λ core. MayTake g.T.Turner.stands (g.T.Turner.script core.store) core (Evict c.args.what)) (sym c.self.view_is) c.requires in
    (may.state.world, may.is_at.stands)

pub note-requires : goal.note-requires
note-requires g c =
    let may = subst (λ core. MayTake g.T.Turner.stands (g.T.Turner.script core.store) core (Evict c.args.what)) (sym c.self.view_is) c.requires in
    let room : length c.self.inside.run.items < vec_capacity c.self.inside.run = has_room g.T.Turner.stands _ _ _ _ _ may.state c.self.invariant.kept may.no_end in
    omega (arith, c.self.inside.run.ok.0)

pub overflow_add-self : goal.overflow_add-self
overflow_add-self g c =
    let may = subst (λ core. MayTake g.T.Turner.stands (g.T.Turner.script core.store) core (Evict c.args.what)) (sym c.self.view_is) c.requires in
    let after = c.evict.ensures.evicted may.state.world may.is_at.stands may.enabled.unpinned in
    let fits : c.live.result + 2176 + c.self.inside.reserved ≤ (g.T.Turner.script c.self.inside.store).heap =
    evicted_charged g.T.Turner.stands _ _ _ _ _ may.state c.args.what c.live.result after.0 c.self.invariant.kept may.is_at after.2 (c.live.ensures.bytes after.0 after.1) in
    let same : c.self.inside.heap ≡ (g.T.Turner.script c.self.inside.store).heap = c.self.invariant.kept.same_heap in
    let most : c.self.inside.heap ≤ 8388608 = c.self.invariant.kept.most_heap in
    omega arith

pub overflow_add-self-2 : goal.overflow_add-self-2
overflow_add-self-2 g c =
    let may = subst (λ core. MayTake g.T.Turner.stands (g.T.Turner.script core.store) core (Evict c.args.what)) (sym c.self.view_is) c.requires in
    let after = c.evict.ensures.evicted may.state.world may.is_at.stands may.enabled.unpinned in
    let fits : c.live.result + 2176 + c.self.inside.reserved ≤ (g.T.Turner.script c.self.inside.store).heap =
    evicted_charged g.T.Turner.stands _ _ _ _ _ may.state c.args.what c.live.result after.0 c.self.invariant.kept may.is_at after.2 (c.live.ensures.bytes after.0 after.1) in
    let same : c.self.inside.heap ≡ (g.T.Turner.script c.self.inside.store).heap = c.self.invariant.kept.same_heap in
    let most : c.self.inside.heap ≤ 8388608 = c.self.invariant.kept.most_heap in
    omega arith

pub invariant_of-self : goal.invariant_of-self
invariant_of-self g c =
    record {
      kept =
          let may = subst (λ core. MayTake g.T.Turner.stands (g.T.Turner.script core.store) core (Evict c.args.what)) (sym c.self.view_is) c.requires in
          let after = c.evict.ensures.evicted may.state.world may.is_at.stands may.enabled.unpinned in
          kept_next g.T.Turner.stands _ _ _ _ (Evict c.args.what) _ _ _ _ _ _ c.self.invariant.kept may
          (evicts g.T.Turner.stands _ _ may.state c.args.what _ after.0 c.live.result _ _ may.is_at may.enabled after.1 after.2 (c.live.ensures.bytes after.0 after.1))
          c.note.ensures.run refl c.note.ensures.peak c.note.ensures.room refl (omega arith) c.evict.ensures.script;
      placed =
          c.sort_stirred.ensures.items (is_runnable (g.T.Turner.settled c.self.inside.store))
          (c.self.invariant.placed ∙ ap (runnable_in (g.T.Turner.settled c.self.inside.store)) (sym c.as_slice.ensures.value))
          ∙ stirred_is _ _ _ c.as_slice.result.now c.evict.ensures.named
          ∙ ap (runnable_in (g.T.Turner.settled c.evict.new.self)) c.as_slice.ensures.value;
      places = let before : c.self.inside.steps + 2 ≤ vec_capacity c.self.inside.runnable = c.self.invariant.places in omega (arith, c.sort_stirred.ensures.room);
      counted = c.self.invariant.counted;
      waiting = c.self.invariant.waiting;
      caches = c.evictables_of-self-inside.ensures;
    }

pub sort_stirred-requires-clause-rising : goal.sort_stirred-requires-clause-rising
sort_stirred-requires-clause-rising g c =
    subst (AreRising 0) (sym c.as_slice.ensures.value) (rising_now g.T.Turner.stands _ _ c.self.invariant.kept.has_run)

pub sort_stirred-requires-clause-few : goal.sort_stirred-requires-clause-few
sort_stirred-requires-clause-few g c =
    let few : length c.self.inside.tasks.items ≤ 100001 = few_tasks g.T.Turner.stands _ _ _ _ _ c.self.invariant.kept in
    subst (λ tasks. length tasks ≤ 100001) (sym c.as_slice.ensures.value) few

pub sort_stirred-requires-clause-places : goal.sort_stirred-requires-clause-places
sort_stirred-requires-clause-places g c = record {
  passes = is_runnable (g.T.Turner.settled c.self.inside.store);
  same = c.self.invariant.placed ∙ ap (runnable_in (g.T.Turner.settled c.self.inside.store)) (sym c.as_slice.ensures.value);
}

pub sort_stirred-requires-clause-room : goal.sort_stirred-requires-clause-room
sort_stirred-requires-clause-room g c =
    let may = subst (λ core. MayTake g.T.Turner.stands (g.T.Turner.script core.store) core (Evict c.args.what)) (sym c.self.view_is) c.requires in
    let many : length c.as_slice.result.now ≡ length c.self.inside.tasks.items = ap length c.as_slice.ensures.value in
    let fit = places_fit g.T.Turner.stands _ _ _ _ _ _ may.state (length c.as_slice.result.now) c.self.invariant.kept may.no_end c.self.invariant.places (omega arith) in
    fit.room

pub returns-clause-took : goal.returns-clause-took
returns-clause-took g c =
    takes_all g.T.Turner.stands g.T.Turner.script _ _ _ (Evict c.args.what) _ c.self.view_is refl c.note.ensures.run refl
    (λ s at enabled sound.
    let after = c.evict.ensures.evicted s.world at.stands enabled.unpinned in
    evicts g.T.Turner.stands _ _ s c.args.what _ after.0 c.live.result _ _ at enabled after.1 after.2 (c.live.ensures.bytes after.0 after.1))

pub returns-clause-inside : goal.returns-clause-inside
returns-clause-inside g c =
    let may = subst (λ core. MayTake g.T.Turner.stands (g.T.Turner.script core.store) core (Evict c.args.what)) (sym c.self.view_is) c.requires in
    let fits = inside g.T.Turner.stands _ _ _ _ _ may.state c.self.invariant.kept may.is_at in
    let high = c.evict.ensures.high may.state.world may.is_at.stands in
    rw (← c.self.view_is) (record { marked = c.evict.ensures.marked; within = omega arith })
