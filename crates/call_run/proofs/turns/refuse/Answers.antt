use Rattle.std.proofs.Common.{◌≡◌, ◌∙◌, false, le_refl, subst, sym, true}
use Rattle.posix_defs.specs.Relief.{refused_in}
use Rattle.machine_laws.proofs.Turning.{refused_reached}
use Rattle.store_objects.specs.Objects.{IsCaller}
use Rattle.store_objects.proofs.RunningProcs.{alive_is}
use Rattle.call_run.specs.Stores.{IsStoreOf}
use Rattle.call_run.proofs.Resting.{with_heap, mark_counts, mark_goes_on, mark_keeps, mark_rests, mark_since, mark_still}
use Rattle.call_run.proofs.turns.refuse.Goals as goal

never : true ≡ false → ⊥
never e = cc

pub caller-requires : goal.caller-requires
caller-requires c = let alive = c.requires.alive in alive.1.stands.kept.holds.stored

pub go_on-requires-clause-kept : goal.go_on-requires-clause-kept
go_on-requires-clause-kept c = let alive = c.requires.alive in alive.1.stands.kept

pub go_on-requires-clause-placed : goal.go_on-requires-clause-placed
go_on-requires-clause-placed c = c.in-Some.ensures.some.placed

pub unreachable-requires : goal.unreachable-requires
unreachable-requires c =
    let alive = c.requires.alive in
    never (sym alive.2 ∙ alive_is c.args.script.now c.args.objects.now alive.0.plain c.args.pid alive.1.stands.processes ∙ c.caller.ensures.none c.in_default.is)

pub returns-clause-kept : goal.returns-clause-kept
returns-clause-kept c = mark_keeps c.go_on.new.objects c.mark.new.self c.mark.ensures c.args.script.now c.go_on.ensures.kept

pub returns-clause-refused : goal.returns-clause-refused
returns-clause-refused c = λ world at _.
    let caller : IsCaller c.args.objects.now c.args.pid c.in-Some.caller = c.in-Some.ensures.some in
    subst (λ pid. IsStoreOf c.args.script.now (with_heap c.go_on.new.objects c.mark.new.self) (refused_in c.args.script.now world pid)) caller.same
    (mark_goes_on c.go_on.new.objects c.mark.new.self c.mark.ensures c.args.script.now (refused_in c.args.script.now world c.in-Some.caller.place.pid) (record {
      stands = c.go_on.ensures.goes world at.stands;
      reached = refused_reached c.args.script.now world c.in-Some.caller.place.pid at.reached;
      spare = at.spare;
    }))

pub returns-clause-marked : goal.returns-clause-marked
returns-clause-marked c = mark_counts c.args.objects.now.heap c.go_on.new.objects.heap c.mark.new.self c.mark.ensures c.go_on.ensures.takes.marks

pub returns-clause-since : goal.returns-clause-since
returns-clause-since c = λ world at.
    mark_since c.args.script.now c.args.objects.now world c.go_on.new.objects.heap c.mark.new.self c.mark.ensures c.requires.rests at.stands c.heap_is_well_formed.ensures (rw c.go_on.ensures.takes.high (le_refl _))

pub returns-clause-high : goal.returns-clause-high
returns-clause-high c = λ world at.
    mark_still c.args.script.now c.args.objects.now world c.go_on.new.objects.heap c.mark.new.self c.mark.ensures c.requires.rests at.stands c.heap_is_well_formed.ensures c.go_on.ensures.takes.high

pub returns-clause-rests : goal.returns-clause-rests
returns-clause-rests c = mark_rests c.go_on.new.objects c.mark.new.self c.mark.ensures
