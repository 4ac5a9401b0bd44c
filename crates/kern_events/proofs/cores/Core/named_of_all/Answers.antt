use Rattle.std.proofs.Common.{◌≡◌, ◌+◌, ◌%◌, ◌≤◌, ◌<◌, length, filter, slice_get, Some, None, sym, ap, ◌∙◌, subst, arith}
use Rattle.std.proofs.lemmas.Option.{slice_get-get_or}
use Rattle.kern_tasks.specs.Runnable.{is_runnable, runnable_in}
use Rattle.kern_tasks.proofs.AllEvents.{all_go_counted, named_behind, named_there, none_there}
use Rattle.kern_tasks.proofs.Defaults.{has_some}
use Rattle.kern_tasks.proofs.NextRun.{few_tasks}
use Rattle.kern_tasks.proofs.Picked.{as_many_places, is_there, nobody, none_picked}
use Rattle.kern_tasks.proofs.Settled.{events_runnable}
use Rattle.kern_tasks.proofs.TaskLoops.{may_be_named}
use Rattle.kern_laws.proofs.Sounds.{is_sound}
use Rattle.kern_events.proofs.Known.{all_go_in}
use Rattle.kern_events.proofs.Places.{few_places}
use Rattle.kern_events.proofs.cores.Core.named_of_all.Goals as goal

pub overflow_cast-count : goal.overflow_cast-count
overflow_cast-count g c =
    let few : length c.self.inside.tasks.items ≤ 100001 = few_tasks g.T.Turner.stands _ _ _ _ _ c.self.invariant.kept in
    let places : length c.self.inside.runnable.items ≤ length c.self.inside.tasks.items = few_places _ _ _ c.self.invariant.placed in
    omega (arith, c.len-count.ensures)

pub overflow_add-chosen : goal.overflow_add-chosen
overflow_add-chosen g c =
    let few : length c.self.inside.tasks.items ≤ 100001 = few_tasks g.T.Turner.stands _ _ _ _ _ c.self.invariant.kept in
    let places : length c.self.inside.runnable.items ≤ length c.self.inside.tasks.items = few_places _ _ _ c.self.invariant.placed in
    let others : c.count_present.result ≤ 4 = c.count_present.ensures.few in
    omega (arith, c.len-count.ensures)

pub nonzero_rem-chosen : goal.nonzero_rem-chosen
nonzero_rem-chosen g c =
    let script = g.T.Turner.script c.args.self.now.store in
    let settled = g.T.Turner.settled c.args.self.now.store in
    let here = c.requires.goes_on in
    let same : c.self.inside.runnable.items ≡ runnable_in settled c.args.self.now.tasks =
    c.self.invariant.placed ∙ ap (λ core. runnable_in (g.T.Turner.settled core.store) core.tasks) c.self.view_is in
    let go = all_go_in script here.state settled _ c.args.self.now.tasks here.is_at.charged c.requires.all in
    let are = events_runnable script here.state settled (λ pid e alive. g.met.T.Turner.settled_block c.args.self.now.store here.state.world pid here.is_at.stands e alive)
    (is_sound here.runs) c.args.self.now.tasks here.is_at.tasks in
    let others = c.count_present.ensures.value ∙ ap length (c.requires.others here.state here.is_at) in
    let picked : length c.self.inside.runnable.items ≡ length (filter (is_runnable settled) c.args.self.now.tasks) =
    ap length same ∙ as_many_places (is_runnable settled) 0 c.args.self.now.tasks in
    let many : c.len-count.result ≡ length (filter (is_runnable settled) c.args.self.now.tasks) = omega (arith, c.len-count.ensures, c.self.inside.runnable.ok.0) in
    let some : 0 < c.len-count.result + c.count_present.result =
    subst (λ n. 0 < n) (sym (ap (λ n. n + c.count_present.result) many ∙ all_go_counted script here.state _ _ _ are go others)) (has_some script here.state here.some) in
    omega (arith, some)

pub event_at-requires : goal.event_at-requires
event_at-requires g c =
    let settled = g.T.Turner.settled c.args.self.now.store in
    let same : c.as_slice.result.now ≡ runnable_in settled c.args.self.now.tasks =
    c.as_slice.ensures.value ∙ c.self.invariant.placed ∙ ap (λ core. runnable_in (g.T.Turner.settled core.store) core.tasks) c.self.view_is in
    let here = is_there (is_runnable settled) c.args.self.now.tasks _ _ c.in-Some.place same (sym c.place_at.ensures ∙ c.in-Some.is) in
    here.within

pub returns-in-Some-clause-named : goal.returns-in-Some-clause-named
returns-in-Some-clause-named g c = λ s at sound.
    let script = g.T.Turner.script c.args.self.now.store in
    let settled = g.T.Turner.settled c.args.self.now.store in
    let same : c.as_slice.result.now ≡ runnable_in settled c.args.self.now.tasks =
    c.as_slice.ensures.value ∙ c.self.invariant.placed ∙ ap (λ core. runnable_in (g.T.Turner.settled core.store) core.tasks) c.self.view_is in
    let here = is_there (is_runnable settled) c.args.self.now.tasks _ _ c.in-Some.place same (sym c.place_at.ensures ∙ c.in-Some.is) in
    let go = all_go_in script s settled _ c.args.self.now.tasks at.charged c.requires.all in
    let are = events_runnable script s settled (λ pid e alive. g.met.T.Turner.settled_block c.args.self.now.store s.world pid at.stands e alive) sound c.args.self.now.tasks at.tasks in
    let many : c.len-count.result ≡ length (filter (is_runnable settled) c.args.self.now.tasks) =
    c.len-count.ensures ∙ sym c.as_slice.ensures.len ∙ ap length same ∙ as_many_places (is_runnable settled) 0 c.args.self.now.tasks in
    let others = c.count_present.ensures.value ∙ ap length (c.requires.others s at) in
    named_there script s _ _ _ _ _ _ _ are go many others (slice_get-get_or _ _ nobody here.within_picked) (c.event_at.ensures s _ at sound here.there)

pub returns-in-Some-clause-may : goal.returns-in-Some-clause-may
returns-in-Some-clause-may g c =
    may_be_named g.T.Turner.stands (g.T.Turner.script c.args.self.now.store) c.args.self.now c.args.number c.event_at.result c.requires.goes_on (returns-in-Some-clause-named g c)

pub returns-in-None-clause-named : goal.returns-in-None-clause-named
returns-in-None-clause-named g c = λ s at sound.
    let script = g.T.Turner.script c.args.self.now.store in
    let settled = g.T.Turner.settled c.args.self.now.store in
    let same : c.as_slice.result.now ≡ runnable_in settled c.args.self.now.tasks =
    c.as_slice.ensures.value ∙ c.self.invariant.placed ∙ ap (λ core. runnable_in (g.T.Turner.settled core.store) core.tasks) c.self.view_is in
    let none = none_picked (is_runnable settled) 0 c.args.self.now.tasks _ (ap (λ ps. slice_get ps (c.args.number % (c.len-count.result + c.count_present.result))) (sym same) ∙ sym c.place_at.ensures ∙ c.in-None.is) in
    let go = all_go_in script s settled _ c.args.self.now.tasks at.charged c.requires.all in
    let are = events_runnable script s settled (λ pid e alive. g.met.T.Turner.settled_block c.args.self.now.store s.world pid at.stands e alive) sound c.args.self.now.tasks at.tasks in
    let many : c.len-count.result ≡ length (filter (is_runnable settled) c.args.self.now.tasks) =
    c.len-count.ensures ∙ sym c.as_slice.ensures.len ∙ ap length same ∙ as_many_places (is_runnable settled) 0 c.args.self.now.tasks in
    let others = c.count_present.ensures.value ∙ ap length (c.requires.others s at) in
    named_behind script s _ _ _ _ _ _ are go many others none _ (c.requires.others s at) c.present_at.ensures

pub returns-in-None-clause-may : goal.returns-in-None-clause-may
returns-in-None-clause-may g c =
    may_be_named g.T.Turner.stands (g.T.Turner.script c.args.self.now.store) c.args.self.now c.args.number c.present_at.result c.requires.goes_on (returns-in-None-clause-named g c)

pub overflow_sub-chosen : goal.overflow_sub-chosen
overflow_sub-chosen g c =
    let settled = g.T.Turner.settled c.args.self.now.store in
    let same : c.as_slice.result.now ≡ runnable_in settled c.args.self.now.tasks =
    c.as_slice.ensures.value ∙ c.self.invariant.placed ∙ ap (λ core. runnable_in (g.T.Turner.settled core.store) core.tasks) c.self.view_is in
    let none = none_picked (is_runnable settled) 0 c.args.self.now.tasks _ (ap (λ ps. slice_get ps (c.args.number % (c.len-count.result + c.count_present.result))) (sym same) ∙ sym c.place_at.ensures ∙ c.in-None.is) in
    let many : c.len-count.result ≡ length (filter (is_runnable settled) c.args.self.now.tasks) =
    c.len-count.ensures ∙ sym c.as_slice.ensures.len ∙ ap length same ∙ as_many_places (is_runnable settled) 0 c.args.self.now.tasks in
    subst (λ n. n ≤ c.args.number % (c.len-count.result + c.count_present.result)) (sym many) (none_there _ _ none)
