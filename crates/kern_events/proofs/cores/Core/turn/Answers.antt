use Rattle.std.proofs.Common.{Bool, true, false, Some, nat_lt, ◌≡◌, ◌<◌, ◌≤◌, ◌+◌, ◌-◌, ◌++◌, ◌∷◌, [], max, length, vec_capacity, refl, sym, subst, ap, ◌∙◌, arith}
use Rattle.kabi_types.specs.declared.entries.Event.TheVariants.{Turn}
use Rattle.std.specs.List.{count_by}
use borrow.Author.Tests.{ltb-false, ltb-true}
use Rattle.posix_defs.specs.declared.phases.Asked.{Asked}
use Rattle.posix_defs.specs.declared.phases.Phase.TheVariants.{Admitted, Dead}
use Rattle.posix_defs.specs.Needs.{bound}
use Rattle.posix_defs.specs.Plain.{last_pid}
use Rattle.posix_defs.specs.World.{live_of}
use Rattle.posix_defs.specs.CoreState.{next_call, phase_in}
use Rattle.posix_defs.specs.CoreEvent.{born, entry_of}
use Rattle.kern_laws.proofs.Sounds.{is_sound}
use Rattle.kern_laws.proofs.Tasks.{found_fits}
use Rattle.kern_tasks.specs.Room.{is_asleep}
use Rattle.kern_tasks.specs.Runnable.{runnable_in}
use Rattle.kern_tasks.specs.View.{MayTake}
use Rattle.kern_tasks.proofs.HeapBounds.{little_slack}
use Rattle.kern_tasks.proofs.NextRun.{few_tasks, has_room, has_task_room, held_back, kept_next, places_fit, reserved_charged, said, same_asked, takes_all, turns, rising_now, within_heap}
use Rattle.kern_tasks.proofs.Picked.{no_more}
use Rattle.kern_tasks.proofs.Sorting.{WasBorn, are_places, asleep_after, some_born, turned_asleep, turned_runnable}
use Rattle.kern_tasks.proofs.TurnLeads.{asked_still, few_kept, few_then, is_paid, is_there, led, rising_then, tasks_then}
use Rattle.kern_events.proofs.cores.Core.turn.Goals as goal
use Rattle.kern_tasks.proofs.CalmTurns.{calm}
use Rattle.posix_defs.specs.SoundTasks.{AreRising}
use Rattle.kern_events.proofs.Known.{turned_tasks, waits_after}

dead_not : (asked : Asked) → Dead ≡ Admitted asked → ⊥
dead_not asked e = cc

either_way : {X : Type 0} (b : Bool) → (b ≡ true → X) → (b ≡ false → X) → X
either_way true one other = one refl
either_way false one other = other refl

pub note-requires : goal.note-requires
note-requires g c =
    let may = subst (λ core. MayTake g.T.Turner.stands (g.T.Turner.script core.store) core (Turn c.args.pid)) (sym c.self.view_is) c.requires in
    let room : length c.self.inside.run.items < vec_capacity c.self.inside.run = has_room g.T.Turner.stands _ _ _ _ _ may.state c.self.invariant.kept may.no_end in
    omega (arith, c.self.inside.run.ok.0)

pub overflow_sub-self : goal.overflow_sub-self
overflow_sub-self g c =
    let found : phase_in c.self.inside.tasks.items c.args.pid ≡ Admitted c.in-Admitted.asked =
    ap (λ ts. phase_in ts c.args.pid) (sym c.as_slice.ensures.value) ∙ sym c.phase_of.ensures ∙ c.in-Admitted.is in
    let held : c.in-Admitted.asked.bound ≤ c.self.inside.reserved = held_back g.T.Turner.stands _ _ _ _ _ c.args.pid (Admitted c.in-Admitted.asked) c.self.invariant.kept found (λ e. (cc)) in
    omega arith

pub phase_after-phase-requires : goal.phase_after-phase-requires
phase_after-phase-requires g c =
    let may = subst (λ core. MayTake g.T.Turner.stands (g.T.Turner.script core.store) core (Turn c.args.pid)) (sym c.self.view_is) c.requires in
    let sound = is_sound may.runs in
    let alive = is_there _ may.state c.args.pid sound may.enabled in
    let call = next_call (g.T.Turner.script c.self.inside.store) may.state c.args.pid in
    let here = led g.T.Turner.stands _ may.state c.args.pid call _ _ sound may.enabled refl (c.turn_next-turned.ensures.turned may.state.world may.is_at.stands alive) in
    λ sleeps. (here.world, here.stands, here.lives sleeps)

pub turn_next-turned-requires : goal.turn_next-turned-requires
turn_next-turned-requires g c =
    let may = subst (λ core. MayTake g.T.Turner.stands (g.T.Turner.script core.store) core (Turn c.args.pid)) (sym c.self.view_is) c.requires in
    let sound = is_sound may.runs in
    let alive = is_there _ may.state c.args.pid sound may.enabled in
    let call = next_call (g.T.Turner.script c.self.inside.store) may.state c.args.pid in
    let found : phase_in c.self.inside.tasks.items c.args.pid ≡ Admitted c.in-Admitted.asked =
    ap (λ ts. phase_in ts c.args.pid) (sym c.as_slice.ensures.value) ∙ sym c.phase_of.ensures ∙ c.in-Admitted.is in
    let asked = same_asked _ _ c.args.pid may.enabled.asked c.in-Admitted.asked Admitted (λ x y e. (cc)) may.is_at.tasks may.enabled.is found in
    let paid = is_paid g.T.Turner.stands _ _ _ _ _ may.state c.args.pid 0 call c.in-Admitted.asked c.self.invariant.kept may.is_at sound may.enabled asked refl (omega arith) in
    (may.state.world, may.is_at.stands, alive, paid.before)

pub add_born-requires-clause-one : goal.add_born-requires-clause-one
add_born-requires-clause-one g c =
    let may = subst (λ core. MayTake g.T.Turner.stands (g.T.Turner.script core.store) core (Turn c.args.pid)) (sym c.self.view_is) c.requires in
    let sound = is_sound may.runs in
    let alive = is_there _ may.state c.args.pid sound may.enabled in
    let call = next_call (g.T.Turner.script c.self.inside.store) may.state c.args.pid in
    let here = led g.T.Turner.stands _ may.state c.args.pid call _ _ sound may.enabled refl (c.turn_next-turned.ensures.turned may.state.world may.is_at.stands alive) in
    let one : last_pid here.world.plain ≤ last_pid may.state.world.plain + 1 = here.one in
    let before : c.last_pid-before.result ≡ last_pid may.state.world.plain = c.last_pid-before.ensures may.state.world may.is_at.stands in
    let after : c.last_pid-last.result ≡ last_pid here.world.plain = c.last_pid-last.ensures here.world here.stands in
    omega arith

pub add_born-requires-clause-room : goal.add_born-requires-clause-room
add_born-requires-clause-room g c =
    let may = subst (λ core. MayTake g.T.Turner.stands (g.T.Turner.script core.store) core (Turn c.args.pid)) (sym c.self.view_is) c.requires in
    let sound = is_sound may.runs in
    let alive = is_there _ may.state c.args.pid sound may.enabled in
    let call = next_call (g.T.Turner.script c.self.inside.store) may.state c.args.pid in
    let here = led g.T.Turner.stands _ may.state c.args.pid call _ _ sound may.enabled refl (c.turn_next-turned.ensures.turned may.state.world may.is_at.stands alive) in
    let found : phase_in c.self.inside.tasks.items c.args.pid ≡ Admitted c.in-Admitted.asked =
    ap (λ ts. phase_in ts c.args.pid) (sym c.as_slice.ensures.value) ∙ sym c.phase_of.ensures ∙ c.in-Admitted.is in
    let asked = same_asked _ _ c.args.pid may.enabled.asked c.in-Admitted.asked Admitted (λ x y e. (cc)) may.is_at.tasks may.enabled.is found in
    let still = asked_still _ _ may.state c.args.pid c.in-Admitted.asked c.turn_next-turned.result here.world sound may.enabled asked c.turn_next-turned.ensures.script here.leaves in
    let less : length c.bury_ended.new.tasks.items ≤ length c.self.inside.tasks.items =
    few_kept here.world.plain c.args.pid c.phase_after-phase.result c.self.inside.tasks.items _ _ c.set_phase.ensures.items (c.bury_ended.ensures.items here.world here.stands (calm _ _ may.state c.args.pid _ _ here.world c.in-Admitted.asked _ _ _ _ sound may.enabled asked refl here.turned may.is_at.tasks c.turn_next-turned.ensures.script (c.phase_after-phase.ensures.phase here.world here.stands here.lives still) c.set_phase.ensures.items c.may_end-ends.ensures)) in
    let room : length c.self.inside.tasks.items < vec_capacity c.self.inside.tasks = has_task_room g.T.Turner.stands _ _ _ _ _ may.state c.self.invariant.kept may.no_end in
    let same : vec_capacity c.bury_ended.new.tasks ≡ vec_capacity c.self.inside.tasks = c.bury_ended.ensures.room ∙ c.set_phase.ensures.room in
    omega (arith, c.bury_ended.new.tasks.ok.0)

pub overflow_add-self : goal.overflow_add-self
overflow_add-self g c =
    let may = subst (λ core. MayTake g.T.Turner.stands (g.T.Turner.script core.store) core (Turn c.args.pid)) (sym c.self.view_is) c.requires in
    let sound = is_sound may.runs in
    let alive = is_there _ may.state c.args.pid sound may.enabled in
    let call = next_call (g.T.Turner.script c.self.inside.store) may.state c.args.pid in
    let here = led g.T.Turner.stands _ may.state c.args.pid call _ _ sound may.enabled refl (c.turn_next-turned.ensures.turned may.state.world may.is_at.stands alive) in
    let found : phase_in c.self.inside.tasks.items c.args.pid ≡ Admitted c.in-Admitted.asked =
    ap (λ ts. phase_in ts c.args.pid) (sym c.as_slice.ensures.value) ∙ sym c.phase_of.ensures ∙ c.in-Admitted.is in
    let asked = same_asked _ _ c.args.pid may.enabled.asked c.in-Admitted.asked Admitted (λ x y e. (cc)) may.is_at.tasks may.enabled.is found in
    let live : c.live.result ≡ live_of here.world = c.live.ensures.bytes here.world here.stands in
    let paid = is_paid g.T.Turner.stands _ _ _ _ _ may.state c.args.pid c.live.result call c.in-Admitted.asked c.self.invariant.kept may.is_at sound may.enabled asked refl
    (subst (λ n. n ≤ live_of may.state.world + bound call) (sym live) here.live) in
    let fits : c.live.result + 2176 + (c.self.inside.reserved - c.in-Admitted.asked.bound) ≤ (g.T.Turner.script c.self.inside.store).heap = paid.after in
    let same : c.self.inside.heap ≡ (g.T.Turner.script c.self.inside.store).heap = c.self.invariant.kept.same_heap in
    let most : c.self.inside.heap ≤ 8388608 = c.self.invariant.kept.most_heap in
    omega arith

pub overflow_add-self-2 : goal.overflow_add-self-2
overflow_add-self-2 g c =
    let may = subst (λ core. MayTake g.T.Turner.stands (g.T.Turner.script core.store) core (Turn c.args.pid)) (sym c.self.view_is) c.requires in
    let sound = is_sound may.runs in
    let alive = is_there _ may.state c.args.pid sound may.enabled in
    let call = next_call (g.T.Turner.script c.self.inside.store) may.state c.args.pid in
    let here = led g.T.Turner.stands _ may.state c.args.pid call _ _ sound may.enabled refl (c.turn_next-turned.ensures.turned may.state.world may.is_at.stands alive) in
    let found : phase_in c.self.inside.tasks.items c.args.pid ≡ Admitted c.in-Admitted.asked =
    ap (λ ts. phase_in ts c.args.pid) (sym c.as_slice.ensures.value) ∙ sym c.phase_of.ensures ∙ c.in-Admitted.is in
    let asked = same_asked _ _ c.args.pid may.enabled.asked c.in-Admitted.asked Admitted (λ x y e. (cc)) may.is_at.tasks may.enabled.is found in
    let live : c.live.result ≡ live_of here.world = c.live.ensures.bytes here.world here.stands in
    let paid = is_paid g.T.Turner.stands _ _ _ _ _ may.state c.args.pid c.live.result call c.in-Admitted.asked c.self.invariant.kept may.is_at sound may.enabled asked refl
    (subst (λ n. n ≤ live_of may.state.world + bound call) (sym live) here.live) in
    let fits : c.live.result + 2176 + (c.self.inside.reserved - c.in-Admitted.asked.bound) ≤ (g.T.Turner.script c.self.inside.store).heap = paid.after in
    let same : c.self.inside.heap ≡ (g.T.Turner.script c.self.inside.store).heap = c.self.invariant.kept.same_heap in
    let most : c.self.inside.heap ≤ 8388608 = c.self.invariant.kept.most_heap in
    let less : c.self.inside.reserved ≤ c.self.inside.charged = reserved_charged g.T.Turner.stands _ _ _ _ _ c.self.invariant.kept in
    let within : c.self.inside.charged ≤ (g.T.Turner.script c.self.inside.store).heap = within_heap g.T.Turner.stands _ _ _ _ _ c.self.invariant.kept in
    omega arith

pub returns-clause-inside : goal.returns-clause-inside
returns-clause-inside g c =
    let may = subst (λ core. MayTake g.T.Turner.stands (g.T.Turner.script core.store) core (Turn c.args.pid)) (sym c.self.view_is) c.requires in
    let sound = is_sound may.runs in
    let alive = is_there _ may.state c.args.pid sound may.enabled in
    let call = next_call (g.T.Turner.script c.self.inside.store) may.state c.args.pid in
    let found : phase_in c.self.inside.tasks.items c.args.pid ≡ Admitted c.in-Admitted.asked =
    ap (λ ts. phase_in ts c.args.pid) (sym c.as_slice.ensures.value) ∙ sym c.phase_of.ensures ∙ c.in-Admitted.is in
    let asked = same_asked _ _ c.args.pid may.enabled.asked c.in-Admitted.asked Admitted (λ x y e. (cc)) may.is_at.tasks may.enabled.is found in
    let paid = is_paid g.T.Turner.stands _ _ _ _ _ may.state c.args.pid (live_of may.state.world + bound call) call c.in-Admitted.asked c.self.invariant.kept may.is_at sound may.enabled asked refl (omega arith) in
    let fits : live_of may.state.world + bound call + 2176 + (c.self.inside.reserved - c.in-Admitted.asked.bound) ≤ (g.T.Turner.script c.self.inside.store).heap = paid.after in
    let high = c.turn_next-turned.ensures.high may.state.world may.is_at.stands alive in
    let little = little_slack call in
    rw (← c.self.view_is) (record { marked = c.turn_next-turned.ensures.marked; within = omega arith })

pub sort_turned-requires-clause-rising : goal.sort_turned-requires-clause-rising
sort_turned-requires-clause-rising g c =
    let stands = g.T.Turner.stands in
    let script = g.T.Turner.script c.self.inside.store in
    let may = subst (λ core. MayTake g.T.Turner.stands (g.T.Turner.script core.store) core (Turn c.args.pid)) (sym c.self.view_is) c.requires in
    let sound = is_sound may.runs in
    let alive = is_there _ may.state c.args.pid sound may.enabled in
    let call = next_call script may.state c.args.pid in
    let here = led g.T.Turner.stands _ may.state c.args.pid call _ _ sound may.enabled refl (c.turn_next-turned.ensures.turned may.state.world may.is_at.stands alive) in
    let found : phase_in c.self.inside.tasks.items c.args.pid ≡ Admitted c.in-Admitted.asked =
    ap (λ ts. phase_in ts c.args.pid) (sym c.as_slice.ensures.value) ∙ sym c.phase_of.ensures ∙ c.in-Admitted.is in
    let asked = same_asked _ _ c.args.pid may.enabled.asked c.in-Admitted.asked Admitted (λ x y e. (cc)) may.is_at.tasks may.enabled.is found in
    let still = asked_still _ _ may.state c.args.pid c.in-Admitted.asked c.turn_next-turned.result here.world sound may.enabled asked c.turn_next-turned.ensures.script here.leaves in
    let phased = c.phase_after-phase.ensures.phase here.world here.stands here.lives still in
    let calm_so = calm _ _ may.state c.args.pid _ _ here.world c.in-Admitted.asked _ _ _ _ sound may.enabled asked refl here.turned may.is_at.tasks c.turn_next-turned.ensures.script phased c.set_phase.ensures.items c.may_end-ends.ensures in
    let buried_so = c.bury_ended.ensures.items here.world here.stands calm_so in
    let one : last_pid here.world.plain ≤ last_pid may.state.world.plain + 1 = here.one in
    let before : c.last_pid-before.result ≡ last_pid may.state.world.plain = c.last_pid-before.ensures may.state.world may.is_at.stands in
    let after : c.last_pid-last.result ≡ last_pid here.world.plain = c.last_pid-last.ensures here.world here.stands in
    let made : c.last_pid-last.result ≤ c.last_pid-before.result + 1 = omega arith in
    let then_so = tasks_then _ _ may.state.world.plain here.world.plain c.args.pid _ _ _ _ _ _ _ _ c.turn_next-turned.ensures.script phased c.set_phase.ensures.items buried_so before after c.add_born.ensures.items in
    let noted = said (Turn c.args.pid) c.in-Admitted.asked (Some (entry_of c.args.pid c.in-Admitted.asked.kind c.turn_next-turned.result))
    (live_of here.world + 2176 + (c.self.inside.reserved - c.in-Admitted.asked.bound)) in
    let rises = rising_then stands script _ _ (Turn c.args.pid) noted may
    (turns stands script _ may.state c.args.pid c.in-Admitted.asked call _ here.world c.turn_next-turned.result (entry_of c.args.pid c.in-Admitted.asked.kind c.turn_next-turned.result) _ (live_of here.world) [] 0
    may.is_at sound may.enabled asked refl refl here.stands here.turned then_so refl) in
    subst (AreRising 0) (sym c.as_slice-tasks.ensures.value) rises

pub sort_turned-requires-clause-few : goal.sort_turned-requires-clause-few
sort_turned-requires-clause-few g c =
    let stands = g.T.Turner.stands in
    let script = g.T.Turner.script c.self.inside.store in
    let may = subst (λ core. MayTake g.T.Turner.stands (g.T.Turner.script core.store) core (Turn c.args.pid)) (sym c.self.view_is) c.requires in
    let sound = is_sound may.runs in
    let alive = is_there _ may.state c.args.pid sound may.enabled in
    let call = next_call script may.state c.args.pid in
    let here = led g.T.Turner.stands _ may.state c.args.pid call _ _ sound may.enabled refl (c.turn_next-turned.ensures.turned may.state.world may.is_at.stands alive) in
    let found : phase_in c.self.inside.tasks.items c.args.pid ≡ Admitted c.in-Admitted.asked =
    ap (λ ts. phase_in ts c.args.pid) (sym c.as_slice.ensures.value) ∙ sym c.phase_of.ensures ∙ c.in-Admitted.is in
    let asked = same_asked _ _ c.args.pid may.enabled.asked c.in-Admitted.asked Admitted (λ x y e. (cc)) may.is_at.tasks may.enabled.is found in
    let still = asked_still _ _ may.state c.args.pid c.in-Admitted.asked c.turn_next-turned.result here.world sound may.enabled asked c.turn_next-turned.ensures.script here.leaves in
    let phased = c.phase_after-phase.ensures.phase here.world here.stands here.lives still in
    let calm_so = calm _ _ may.state c.args.pid _ _ here.world c.in-Admitted.asked _ _ _ _ sound may.enabled asked refl here.turned may.is_at.tasks c.turn_next-turned.ensures.script phased c.set_phase.ensures.items c.may_end-ends.ensures in
    let buried_so = c.bury_ended.ensures.items here.world here.stands calm_so in
    let one : last_pid here.world.plain ≤ last_pid may.state.world.plain + 1 = here.one in
    let before : c.last_pid-before.result ≡ last_pid may.state.world.plain = c.last_pid-before.ensures may.state.world may.is_at.stands in
    let after : c.last_pid-last.result ≡ last_pid here.world.plain = c.last_pid-last.ensures here.world here.stands in
    let made : c.last_pid-last.result ≤ c.last_pid-before.result + 1 = omega arith in
    let less : length c.bury_ended.new.tasks.items ≤ length c.self.inside.tasks.items =
    few_kept here.world.plain c.args.pid c.phase_after-phase.result c.self.inside.tasks.items _ _ c.set_phase.ensures.items buried_so in
    let many : length c.as_slice-tasks.result.now ≡ length c.add_born.new.tasks.items = ap length c.as_slice-tasks.ensures.value in
    let few : length c.add_born.new.tasks.items ≤ length c.self.inside.tasks.items + 1 = few_then _ _ _ _ _ c.add_born.ensures.items made less in
    let fit = places_fit stands script _ _ _ _ _ may.state (length c.as_slice-tasks.result.now) c.self.invariant.kept may.no_end c.self.invariant.places (omega arith) in
    fit.few

pub sort_turned-requires-clause-room : goal.sort_turned-requires-clause-room
sort_turned-requires-clause-room g c =
    let stands = g.T.Turner.stands in
    let script = g.T.Turner.script c.self.inside.store in
    let may = subst (λ core. MayTake g.T.Turner.stands (g.T.Turner.script core.store) core (Turn c.args.pid)) (sym c.self.view_is) c.requires in
    let sound = is_sound may.runs in
    let alive = is_there _ may.state c.args.pid sound may.enabled in
    let call = next_call script may.state c.args.pid in
    let here = led g.T.Turner.stands _ may.state c.args.pid call _ _ sound may.enabled refl (c.turn_next-turned.ensures.turned may.state.world may.is_at.stands alive) in
    let found : phase_in c.self.inside.tasks.items c.args.pid ≡ Admitted c.in-Admitted.asked =
    ap (λ ts. phase_in ts c.args.pid) (sym c.as_slice.ensures.value) ∙ sym c.phase_of.ensures ∙ c.in-Admitted.is in
    let asked = same_asked _ _ c.args.pid may.enabled.asked c.in-Admitted.asked Admitted (λ x y e. (cc)) may.is_at.tasks may.enabled.is found in
    let still = asked_still _ _ may.state c.args.pid c.in-Admitted.asked c.turn_next-turned.result here.world sound may.enabled asked c.turn_next-turned.ensures.script here.leaves in
    let phased = c.phase_after-phase.ensures.phase here.world here.stands here.lives still in
    let calm_so = calm _ _ may.state c.args.pid _ _ here.world c.in-Admitted.asked _ _ _ _ sound may.enabled asked refl here.turned may.is_at.tasks c.turn_next-turned.ensures.script phased c.set_phase.ensures.items c.may_end-ends.ensures in
    let buried_so = c.bury_ended.ensures.items here.world here.stands calm_so in
    let one : last_pid here.world.plain ≤ last_pid may.state.world.plain + 1 = here.one in
    let before : c.last_pid-before.result ≡ last_pid may.state.world.plain = c.last_pid-before.ensures may.state.world may.is_at.stands in
    let after : c.last_pid-last.result ≡ last_pid here.world.plain = c.last_pid-last.ensures here.world here.stands in
    let made : c.last_pid-last.result ≤ c.last_pid-before.result + 1 = omega arith in
    let less : length c.bury_ended.new.tasks.items ≤ length c.self.inside.tasks.items =
    few_kept here.world.plain c.args.pid c.phase_after-phase.result c.self.inside.tasks.items _ _ c.set_phase.ensures.items buried_so in
    let many : length c.as_slice-tasks.result.now ≡ length c.add_born.new.tasks.items = ap length c.as_slice-tasks.ensures.value in
    let few : length c.add_born.new.tasks.items ≤ length c.self.inside.tasks.items + 1 = few_then _ _ _ _ _ c.add_born.ensures.items made less in
    let fit = places_fit stands script _ _ _ _ _ may.state (length c.as_slice-tasks.result.now) c.self.invariant.kept may.no_end c.self.invariant.places (omega arith) in
    fit.room

pub sort_turned-requires-clause-born : goal.sort_turned-requires-clause-born
sort_turned-requires-clause-born g c = λ e.
    subst (λ tasks. 0 < length tasks) (sym c.as_slice-tasks.ensures.value) (some_born _ _ _ _ c.add_born.ensures.items (ltb-true _ _ e))

pub sort_turned-requires-clause-places : goal.sort_turned-requires-clause-places
sort_turned-requires-clause-places g c =
    let stands = g.T.Turner.stands in
    let script = g.T.Turner.script c.self.inside.store in
    let may = subst (λ core. MayTake g.T.Turner.stands (g.T.Turner.script core.store) core (Turn c.args.pid)) (sym c.self.view_is) c.requires in
    let sound = is_sound may.runs in
    let alive = is_there _ may.state c.args.pid sound may.enabled in
    let call = next_call script may.state c.args.pid in
    let here = led g.T.Turner.stands _ may.state c.args.pid call _ _ sound may.enabled refl (c.turn_next-turned.ensures.turned may.state.world may.is_at.stands alive) in
    let found : phase_in c.self.inside.tasks.items c.args.pid ≡ Admitted c.in-Admitted.asked =
    ap (λ ts. phase_in ts c.args.pid) (sym c.as_slice.ensures.value) ∙ sym c.phase_of.ensures ∙ c.in-Admitted.is in
    let asked = same_asked _ _ c.args.pid may.enabled.asked c.in-Admitted.asked Admitted (λ x y e. (cc)) may.is_at.tasks may.enabled.is found in
    let still = asked_still _ _ may.state c.args.pid c.in-Admitted.asked c.turn_next-turned.result here.world sound may.enabled asked c.turn_next-turned.ensures.script here.leaves in
    let phased = c.phase_after-phase.ensures.phase here.world here.stands here.lives still in
    let calm_so = calm _ _ may.state c.args.pid _ _ here.world c.in-Admitted.asked _ _ _ _ sound may.enabled asked refl here.turned may.is_at.tasks c.turn_next-turned.ensures.script phased c.set_phase.ensures.items c.may_end-ends.ensures in
    let buried_so = c.bury_ended.ensures.items here.world here.stands calm_so in
    let one : last_pid here.world.plain ≤ last_pid may.state.world.plain + 1 = here.one in
    let before : c.last_pid-before.result ≡ last_pid may.state.world.plain = c.last_pid-before.ensures may.state.world may.is_at.stands in
    let after : c.last_pid-last.result ≡ last_pid here.world.plain = c.last_pid-last.ensures here.world here.stands in
    let made : c.last_pid-last.result ≤ c.last_pid-before.result + 1 = omega arith in
    let was_born : WasBorn c.last_pid-before.result c.last_pid-last.result (nat_lt c.last_pid-before.result c.last_pid-last.result) =
    record { some = λ e. (let more : c.last_pid-before.result < c.last_pid-last.result = ltb-true _ _ e in omega arith); none = λ e. ltb-false _ _ e } in
    let fits = found_fits script may.state.world.plain may.state.tasks c.args.pid (Admitted may.enabled.asked) sound.each may.enabled.is (λ e. (cc)) in
    let own : c.args.pid ≤ c.last_pid-before.result = (let h : c.args.pid ≤ last_pid may.state.world.plain = fits.made in omega arith) in
    let rising = rising_now stands script _ c.self.invariant.kept.has_run in
    let awake : is_asleep (phase_in c.self.inside.tasks.items c.args.pid) ≡ false = ap is_asleep found in
    let all_so = λ (e : c.may_end-ends.result ≡ false). c.as_slice-tasks.ensures.value ∙ c.add_born.ensures.items
    ∙ ap (λ kept. kept ++ born (c.last_pid-before.result + 1) (c.last_pid-last.result - c.last_pid-before.result)) (buried_so ∙ calm_so e) in
    λ e. are_places (g.T.Turner.settled c.self.inside.store) c.args.pid c.last_pid-before.result c.last_pid-last.result _ c.phase_after-phase.result c.self.inside.tasks.items c.set_phase.new.tasks.items
    c.as_slice-tasks.result.now c.self.inside.runnable.items rising own awake c.set_phase.ensures.items (all_so e) was_born c.self.invariant.placed

pub sort_turned-requires-clause-asleep : goal.sort_turned-requires-clause-asleep
sort_turned-requires-clause-asleep g c =
    let few : length c.self.inside.tasks.items ≤ 100001 = few_tasks g.T.Turner.stands _ _ _ _ _ c.self.invariant.kept in
    let less : count_by (λ task. is_asleep task.phase) c.self.inside.tasks.items ≤ length c.self.inside.tasks.items = no_more (λ task. is_asleep task.phase) c.self.inside.tasks.items in
    let is : c.self.inside.asleep ≡ count_by (λ task. is_asleep task.phase) c.self.inside.tasks.items = c.self.invariant.counted in
    omega arith

pub invariant_of-self : goal.invariant_of-self
invariant_of-self g c =
    let stands = g.T.Turner.stands in
    let script = g.T.Turner.script c.self.inside.store in
    let may = subst (λ core. MayTake g.T.Turner.stands (g.T.Turner.script core.store) core (Turn c.args.pid)) (sym c.self.view_is) c.requires in
    let sound = is_sound may.runs in
    let alive = is_there _ may.state c.args.pid sound may.enabled in
    let call = next_call script may.state c.args.pid in
    let here = led g.T.Turner.stands _ may.state c.args.pid call _ _ sound may.enabled refl (c.turn_next-turned.ensures.turned may.state.world may.is_at.stands alive) in
    let found : phase_in c.self.inside.tasks.items c.args.pid ≡ Admitted c.in-Admitted.asked =
    ap (λ ts. phase_in ts c.args.pid) (sym c.as_slice.ensures.value) ∙ sym c.phase_of.ensures ∙ c.in-Admitted.is in
    let asked = same_asked _ _ c.args.pid may.enabled.asked c.in-Admitted.asked Admitted (λ x y e. (cc)) may.is_at.tasks may.enabled.is found in
    let still = asked_still _ _ may.state c.args.pid c.in-Admitted.asked c.turn_next-turned.result here.world sound may.enabled asked c.turn_next-turned.ensures.script here.leaves in
    let phased = c.phase_after-phase.ensures.phase here.world here.stands here.lives still in
    let calm_so = calm _ _ may.state c.args.pid _ _ here.world c.in-Admitted.asked _ _ _ _ sound may.enabled asked refl here.turned may.is_at.tasks c.turn_next-turned.ensures.script phased c.set_phase.ensures.items c.may_end-ends.ensures in
    let buried_so = c.bury_ended.ensures.items here.world here.stands calm_so in
    let one : last_pid here.world.plain ≤ last_pid may.state.world.plain + 1 = here.one in
    let before : c.last_pid-before.result ≡ last_pid may.state.world.plain = c.last_pid-before.ensures may.state.world may.is_at.stands in
    let after : c.last_pid-last.result ≡ last_pid here.world.plain = c.last_pid-last.ensures here.world here.stands in
    let made : c.last_pid-last.result ≤ c.last_pid-before.result + 1 = omega arith in
    let less : length c.bury_ended.new.tasks.items ≤ length c.self.inside.tasks.items =
    few_kept here.world.plain c.args.pid c.phase_after-phase.result c.self.inside.tasks.items _ _ c.set_phase.ensures.items buried_so in
    let was_born : WasBorn c.last_pid-before.result c.last_pid-last.result (nat_lt c.last_pid-before.result c.last_pid-last.result) =
    record { some = λ e. (let more : c.last_pid-before.result < c.last_pid-last.result = ltb-true _ _ e in omega arith); none = λ e. ltb-false _ _ e } in
    let fits = found_fits script may.state.world.plain may.state.tasks c.args.pid (Admitted may.enabled.asked) sound.each may.enabled.is (λ e. (cc)) in
    let own : c.args.pid ≤ c.last_pid-before.result = (let h : c.args.pid ≤ last_pid may.state.world.plain = fits.made in omega arith) in
    let rising = rising_now stands script _ c.self.invariant.kept.has_run in
    let awake : is_asleep (phase_in c.self.inside.tasks.items c.args.pid) ≡ false = ap is_asleep found in
    let all_so = λ (e : c.may_end-ends.result ≡ false). c.as_slice-tasks.ensures.value ∙ c.add_born.ensures.items
    ∙ ap (λ kept. kept ++ born (c.last_pid-before.result + 1) (c.last_pid-last.result - c.last_pid-before.result)) (buried_so ∙ calm_so e) in
    let sleeps_so : is_asleep c.phase_after-phase.result ≡ c.leaves_asleep-sleeps.result =
    ap is_asleep phased ∙ asleep_after _ c.turn_next-turned.result ∙ sym c.leaves_asleep-sleeps.ensures in
    let turned_so = turned_tasks may.state.world.plain here.world.plain c.args.pid _ _ _ _ _ _ _ c.set_phase.ensures.items buried_so before after c.add_born.ensures.items in
    let then_so = tasks_then _ _ may.state.world.plain here.world.plain c.args.pid _ _ _ _ _ _ _ _ c.turn_next-turned.ensures.script phased c.set_phase.ensures.items buried_so before after c.add_born.ensures.items in
    record {
      kept = kept_next g.T.Turner.stands _ _ _ _ (Turn c.args.pid) _ _ _ _ _ _ c.self.invariant.kept may
          (turns g.T.Turner.stands _ _ may.state c.args.pid c.in-Admitted.asked _ _ here.world c.turn_next-turned.result _ _ _ _ _ may.is_at sound may.enabled asked
          c.entry_of-entry.ensures refl here.stands here.turned
          then_so
          (c.live.ensures.bytes here.world here.stands))
          (c.note.ensures.run ∙ ap (λ n. c.self.inside.run.items ++ n ∷ []) c.noted_of-noted.ensures) refl
          (c.note.ensures.peak ∙ ap (λ n. max c.self.inside.peak n.charged) c.noted_of-noted.ensures) c.note.ensures.room
          (c.add_born.ensures.room ∙ c.bury_ended.ensures.room ∙ c.set_phase.ensures.room)
          (few_then _ _ _ _ _ c.add_born.ensures.items made less) c.turn_next-turned.ensures.script;
      placed =
          either_way c.may_end-ends.result
          (λ e. (c.sort_turned.ensures.anew e).0 ∙ ap (runnable_in (g.T.Turner.settled c.turn_next-turned.new.store)) c.as_slice-tasks.ensures.value)
          (λ e. turned_runnable (g.T.Turner.settled c.self.inside.store) c.args.pid c.last_pid-before.result c.last_pid-last.result _ c.phase_after-phase.result c.self.inside.tasks.items c.set_phase.new.tasks.items
          c.as_slice-tasks.result.now c.self.inside.runnable.items rising own awake c.set_phase.ensures.items (all_so e) was_born c.self.invariant.placed
          (g.T.Turner.settled c.turn_next-turned.new.store) (g.T.Turner.stirred c.turn_next-turned.new.store) c.leaves_asleep-sleeps.result _ c.turn_next-turned.ensures.named sleeps_so (c.sort_turned.ensures.items e)
          ∙ ap (runnable_in (g.T.Turner.settled c.turn_next-turned.new.store)) c.as_slice-tasks.ensures.value);
      places = let room : c.self.inside.steps + 2 ≤ vec_capacity c.self.inside.runnable = c.self.invariant.places in omega (arith, c.sort_turned.ensures.room);
      counted =
          either_way c.may_end-ends.result
          (λ e. (c.sort_turned.ensures.anew e).1 ∙ ap (count_by (λ task. is_asleep task.phase)) c.as_slice-tasks.ensures.value)
          (λ e. c.sort_turned.ensures.asleep e
          ∙ turned_asleep (g.T.Turner.settled c.self.inside.store) c.args.pid c.last_pid-before.result c.last_pid-last.result _ c.phase_after-phase.result c.self.inside.tasks.items c.set_phase.new.tasks.items
          c.as_slice-tasks.result.now c.self.inside.runnable.items rising own awake c.set_phase.ensures.items (all_so e) was_born c.self.invariant.placed
          c.leaves_asleep-sleeps.result _ sleeps_so (λ d. dead_not _ (d ∙ found)) c.self.invariant.counted
          ∙ ap (count_by (λ task. is_asleep task.phase)) c.as_slice-tasks.ensures.value);
      waiting =
          waits_after _ may.state.world.plain here.world.plain _ _ c.args.pid c.phase_after-phase.result (c.phase_after-phase.ensures.waits _)
          turned_so c.self.invariant.waiting;
      caches = c.evictables_of-self-inside.ensures;
    }

pub returns-clause-took : goal.returns-clause-took
returns-clause-took g c =
    let found : phase_in c.self.inside.tasks.items c.args.pid ≡ Admitted c.in-Admitted.asked =
    ap (λ ts. phase_in ts c.args.pid) (sym c.as_slice.ensures.value) ∙ sym c.phase_of.ensures ∙ c.in-Admitted.is in
    takes_all g.T.Turner.stands g.T.Turner.script _ _ _ (Turn c.args.pid) _ c.self.view_is refl
    (c.note.ensures.run ∙ ap (λ n. c.self.inside.run.items ++ n ∷ []) c.noted_of-noted.ensures) refl
    (λ s at enabled sound.
    let alive = is_there _ s c.args.pid sound enabled in
    let call = next_call (g.T.Turner.script c.self.inside.store) s c.args.pid in
    let here = led g.T.Turner.stands _ s c.args.pid call _ _ sound enabled refl (c.turn_next-turned.ensures.turned s.world at.stands alive) in
    let asked = same_asked _ _ c.args.pid enabled.asked c.in-Admitted.asked Admitted (λ x y e. (cc)) at.tasks enabled.is found in
    let still = asked_still _ _ s c.args.pid c.in-Admitted.asked c.turn_next-turned.result here.world sound enabled asked c.turn_next-turned.ensures.script here.leaves in
    turns g.T.Turner.stands _ _ s c.args.pid c.in-Admitted.asked _ _ here.world c.turn_next-turned.result _ _ _ _ _ at sound enabled asked
    c.entry_of-entry.ensures refl here.stands here.turned
    (tasks_then _ _ s.world.plain here.world.plain c.args.pid _ _ _ _ _ _ _ _ c.turn_next-turned.ensures.script
    (c.phase_after-phase.ensures.phase here.world here.stands here.lives still) c.set_phase.ensures.items (c.bury_ended.ensures.items here.world here.stands (calm _ _ s c.args.pid _ _ here.world c.in-Admitted.asked _ _ _ _ sound enabled asked refl here.turned at.tasks c.turn_next-turned.ensures.script (c.phase_after-phase.ensures.phase here.world here.stands here.lives still) c.set_phase.ensures.items c.may_end-ends.ensures))
    (c.last_pid-before.ensures s.world at.stands) (c.last_pid-last.ensures here.world here.stands) c.add_born.ensures.items)
    (c.live.ensures.bytes here.world here.stands))

pub phase_of-requires : goal.phase_of-requires
phase_of-requires g c = subst (AreRising 0) (sym c.as_slice.ensures.value) (rising_now g.T.Turner.stands _ _ c.self.invariant.kept.has_run)

pub set_phase-requires : goal.set_phase-requires
set_phase-requires g c = rising_now g.T.Turner.stands _ _ c.self.invariant.kept.has_run
