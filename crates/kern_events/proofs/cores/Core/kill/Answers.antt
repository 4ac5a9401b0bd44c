use Rattle.std.proofs.Common.{◌≡◌, ◌<◌, ◌≤◌, ◌+◌, length, Some, slice_get, vec_capacity, refl, sym, subst, ap, ◌∙◌, arith}
use Rattle.kabi_types.specs.declared.entries.Event.TheVariants.{Kill}
use Rattle.posix_defs.specs.declared.phases.Phase.TheVariants.{Waiting}
use Rattle.posix_defs.specs.CoreState.{waiting_in}
use Rattle.kern_laws.proofs.BuriedTasks.{length-buried}
use Rattle.std.specs.List.{count_by}
use Rattle.kern_tasks.specs.Room.{is_asleep}
use Rattle.kern_tasks.specs.Runnable.{runnable_in}
use Rattle.kern_tasks.specs.View.{MayTake}
use Rattle.kern_tasks.proofs.HeapBounds.{inside}
use Rattle.kern_tasks.proofs.NextRun.{few_tasks, has_room, kept_next, kills, places_fit, takes_all}
use Rattle.kern_tasks.proofs.Victims.{is_victim, less_charged, same_some, some_waiter}
use Rattle.kern_events.proofs.cores.Core.kill.Goals as goal
use Rattle.kern_events.proofs.Known.{waits_buried}

pub unreachable-requires : goal.unreachable-requires
unreachable-requires g c =
    let may = subst (λ core. MayTake g.T.Turner.stands (g.T.Turner.script core.store) core (Kill c.args.pid)) (sym c.self.view_is) c.requires in
    let waiter = some_waiter _ may.state _ c.args.pid (may.is_at.tasks ∙ sym c.as_slice.ensures.value) may.enabled in
    let first = c.first_waiting.ensures ∙ waiter.2 in
    c.in_default.not-Some _ first

pub unreachable-requires-in_default-phase : goal.unreachable-requires-in_default-phase
unreachable-requires-in_default-phase g c =
    let may = subst (λ core. MayTake g.T.Turner.stands (g.T.Turner.script core.store) core (Kill c.args.pid)) (sym c.self.view_is) c.requires in
    let waiter = some_waiter _ may.state _ c.args.pid (may.is_at.tasks ∙ sym c.as_slice.ensures.value) may.enabled in
    let first = same_some _ _ (sym c.in-Some.is ∙ c.first_waiting.ensures ∙ waiter.2) in
    c.in_default-phase.not-Waiting waiter.1 (ap (λ task. task.phase) first)

pub kill-requires : goal.kill-requires
kill-requires g c =
    let may = subst (λ core. MayTake g.T.Turner.stands (g.T.Turner.script core.store) core (Kill c.args.pid)) (sym c.self.view_is) c.requires in
    (may.state.world, may.is_at.stands)

pub note-requires : goal.note-requires
note-requires g c =
    let may = subst (λ core. MayTake g.T.Turner.stands (g.T.Turner.script core.store) core (Kill c.args.pid)) (sym c.self.view_is) c.requires in
    let room : length c.self.inside.run.items < vec_capacity c.self.inside.run = has_room g.T.Turner.stands _ _ _ _ _ may.state c.self.invariant.kept may.no_end in
    omega (arith, c.self.inside.run.ok.0)

pub overflow_add-self : goal.overflow_add-self
overflow_add-self g c =
    let may = subst (λ core. MayTake g.T.Turner.stands (g.T.Turner.script core.store) core (Kill c.args.pid)) (sym c.self.view_is) c.requires in
    let victim = is_victim _ may.state c.args.pid may.enabled in
    let after = c.kill.ensures.killed may.state.world may.is_at.stands victim.0 victim.1 in
    let fits : c.live.result + 2176 + c.self.inside.reserved ≤ (g.T.Turner.script c.self.inside.store).heap =
    less_charged g.T.Turner.stands _ _ _ _ _ may.state c.args.pid c.live.result after.0 c.self.invariant.kept may.is_at after.2 (c.live.ensures.bytes after.0 after.1) in
    let same : c.self.inside.heap ≡ (g.T.Turner.script c.self.inside.store).heap = c.self.invariant.kept.same_heap in
    let most : c.self.inside.heap ≤ 8388608 = c.self.invariant.kept.most_heap in
    omega arith

pub overflow_add-self-2 : goal.overflow_add-self-2
overflow_add-self-2 g c =
    let may = subst (λ core. MayTake g.T.Turner.stands (g.T.Turner.script core.store) core (Kill c.args.pid)) (sym c.self.view_is) c.requires in
    let victim = is_victim _ may.state c.args.pid may.enabled in
    let after = c.kill.ensures.killed may.state.world may.is_at.stands victim.0 victim.1 in
    let fits : c.live.result + 2176 + c.self.inside.reserved ≤ (g.T.Turner.script c.self.inside.store).heap =
    less_charged g.T.Turner.stands _ _ _ _ _ may.state c.args.pid c.live.result after.0 c.self.invariant.kept may.is_at after.2 (c.live.ensures.bytes after.0 after.1) in
    let same : c.self.inside.heap ≡ (g.T.Turner.script c.self.inside.store).heap = c.self.invariant.kept.same_heap in
    let most : c.self.inside.heap ≤ 8388608 = c.self.invariant.kept.most_heap in
    omega arith

pub invariant_of-self : goal.invariant_of-self
invariant_of-self g c =
    let may = subst (λ core. MayTake g.T.Turner.stands (g.T.Turner.script core.store) core (Kill c.args.pid)) (sym c.self.view_is) c.requires in
    let victim = is_victim _ may.state c.args.pid may.enabled in
    let after = c.kill.ensures.killed may.state.world may.is_at.stands victim.0 victim.1 in
    let lowest : slice_get (waiting_in c.self.inside.tasks.items) 0 ≡ Some (record { pid = c.in-Some.first.pid; phase = Waiting c.in-Waiting.asked }) =
    ap (λ ts. slice_get (waiting_in ts) 0) (sym c.as_slice.ensures.value) ∙ sym c.first_waiting.ensures ∙ c.in-Some.is
    ∙ ap (λ p. Some (record { pid = c.in-Some.first.pid; phase = p })) c.in-Waiting.is in
    record {
      kept = kept_next g.T.Turner.stands _ _ _ _ (Kill c.args.pid) _ _ _ _ _ _ c.self.invariant.kept may
          (kills g.T.Turner.stands _ _ may.state c.args.pid c.in-Some.first.pid c.in-Waiting.asked _ after.0 _ c.live-live.result c.live.result _ _
          may.is_at may.enabled lowest after.1 after.2 (c.bury.ensures.items after.0 after.1) (c.live-live.ensures.bytes may.state.world may.is_at.stands) (c.live.ensures.bytes after.0 after.1))
          c.note.ensures.run refl c.note.ensures.peak c.note.ensures.room c.bury.ensures.room
          (let less : length c.bury.new.tasks.items ≤ length c.self.inside.tasks.items =
          subst (λ ts. length ts ≤ length c.self.inside.tasks.items) (sym (c.bury.ensures.items after.0 after.1)) (length-buried after.0.plain c.self.inside.tasks.items) in omega arith)
          c.kill.ensures.script;
      placed = c.sort_anew.ensures.items ∙ ap (runnable_in (g.T.Turner.settled c.kill.new.self)) c.as_slice-2.ensures.value;
      places = let before : c.self.inside.steps + 2 ≤ vec_capacity c.self.inside.runnable = c.self.invariant.places in omega (arith, c.sort_anew.ensures.room);
      counted = c.sort_anew.ensures.asleep ∙ ap (count_by (λ task. is_asleep task.phase)) c.as_slice-2.ensures.value;
      waiting = waits_buried _ after.0.plain _ _ (c.bury.ensures.items after.0 after.1) c.self.invariant.waiting;
      caches = c.evictables_of-self-inside.ensures;
    }

pub sort_anew-requires-clause-few : goal.sort_anew-requires-clause-few
sort_anew-requires-clause-few g c =
    let may = subst (λ core. MayTake g.T.Turner.stands (g.T.Turner.script core.store) core (Kill c.args.pid)) (sym c.self.view_is) c.requires in
    let victim = is_victim _ may.state c.args.pid may.enabled in
    let after = c.kill.ensures.killed may.state.world may.is_at.stands victim.0 victim.1 in
    let less : length c.as_slice-2.result.now ≤ length c.self.inside.tasks.items =
    subst (λ ts. length ts ≤ length c.self.inside.tasks.items) (sym (c.as_slice-2.ensures.value ∙ c.bury.ensures.items after.0 after.1)) (length-buried after.0.plain c.self.inside.tasks.items) in
    let few : length c.self.inside.tasks.items ≤ 100001 = few_tasks g.T.Turner.stands _ _ _ _ _ c.self.invariant.kept in
    omega arith

pub sort_anew-requires-clause-room : goal.sort_anew-requires-clause-room
sort_anew-requires-clause-room g c =
    let may = subst (λ core. MayTake g.T.Turner.stands (g.T.Turner.script core.store) core (Kill c.args.pid)) (sym c.self.view_is) c.requires in
    let victim = is_victim _ may.state c.args.pid may.enabled in
    let after = c.kill.ensures.killed may.state.world may.is_at.stands victim.0 victim.1 in
    let less : length c.as_slice-2.result.now ≤ length c.self.inside.tasks.items =
    subst (λ ts. length ts ≤ length c.self.inside.tasks.items) (sym (c.as_slice-2.ensures.value ∙ c.bury.ensures.items after.0 after.1)) (length-buried after.0.plain c.self.inside.tasks.items) in
    let fit = places_fit g.T.Turner.stands _ _ _ _ _ _ may.state (length c.as_slice-2.result.now) c.self.invariant.kept may.no_end c.self.invariant.places (omega arith) in
    let room = fit.room in omega arith

pub returns-clause-took : goal.returns-clause-took
returns-clause-took g c =
    let lowest : slice_get (waiting_in c.self.inside.tasks.items) 0 ≡ Some (record { pid = c.in-Some.first.pid; phase = Waiting c.in-Waiting.asked }) =
    ap (λ ts. slice_get (waiting_in ts) 0) (sym c.as_slice.ensures.value) ∙ sym c.first_waiting.ensures ∙ c.in-Some.is
    ∙ ap (λ p. Some (record { pid = c.in-Some.first.pid; phase = p })) c.in-Waiting.is in
    takes_all g.T.Turner.stands g.T.Turner.script _ _ _ (Kill c.args.pid) _ c.self.view_is refl c.note.ensures.run refl
    (λ s at enabled sound.
    let victim = is_victim _ s c.args.pid enabled in
    let after = c.kill.ensures.killed s.world at.stands victim.0 victim.1 in
    kills g.T.Turner.stands _ _ s c.args.pid c.in-Some.first.pid c.in-Waiting.asked _ after.0 _ c.live-live.result c.live.result _ _
    at enabled lowest after.1 after.2 (c.bury.ensures.items after.0 after.1) (c.live-live.ensures.bytes s.world at.stands) (c.live.ensures.bytes after.0 after.1))

pub returns-clause-inside : goal.returns-clause-inside
returns-clause-inside g c =
    let may = subst (λ core. MayTake g.T.Turner.stands (g.T.Turner.script core.store) core (Kill c.args.pid)) (sym c.self.view_is) c.requires in
    let fits = inside g.T.Turner.stands _ _ _ _ _ may.state c.self.invariant.kept may.is_at in
    let high = c.kill.ensures.high may.state.world may.is_at.stands in
    rw (← c.self.view_is) (record { marked = c.kill.ensures.marked; within = omega arith })
