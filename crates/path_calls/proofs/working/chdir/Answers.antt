use Rattle.std.proofs.Common.{◌∙◌, refl, subst, sym}
use Rattle.std.specs.Prelude.{MatchResult}
use Rattle.kheap_laws.proofs.PaidLemmas.{IsPaid-nothing, IsPaid-trans, TakesNothing-trans}
use Rattle.memfs_ops.specs.FileTree.{Stands, one_more}
use Rattle.store_objects.specs.Trees.{pins_in}
use Rattle.store_objects.proofs.FewPins.{few_pins}
use Rattle.path_calls.proofs.Entering.{does_enter, does_refuse, has_entered, works_in_one}
use Rattle.path_calls.proofs.Walked.{keeps_looked, kept_mid, looked, runs_mid}
use Rattle.store_objects.proofs.Callers.{placed_on}
use Rattle.path_calls.proofs.working.chdir.Goals as goal

pub directory_of-cwd-requires-clause-stored : goal.directory_of-cwd-requires-clause-stored
directory_of-cwd-requires-clause-stored c = c.requires.stands.1.kept.holds.stored

pub enter-requires-clause-stands : goal.enter-requires-clause-stands
enter-requires-clause-stands c =
    let some = c.requires.stands in (
      some.0.plain.files.tree,
      pins_in some.0.plain,
      some.1.tree.stands,
      works_in_one c.args.script.now c.args.objects.now c.args.caller.now.place.pid c.directory_of-cwd.result c.requires.runs.proc c.requires.runs.found c.requires.runs.up
          (c.directory_of-cwd.ensures c.requires.runs.proc c.requires.runs.found) some.0 some.1,
      few_pins c.args.script.now c.args.objects.now some.0 some.1 c.heap_is_well_formed.ensures,
    )

-- ---- it is entered

pub work_in-requires-clause-alive : goal.work_in-requires-clause-alive
work_in-requires-clause-alive c =
    let runs = runs_mid c.args.script.now c.args.objects.now c.enter.new.heap c.enter.new.self c.enter.ensures.pays.only c.args.caller.now.place.pid c.args.caller.now.control c.requires.runs in
    record { proc = runs.proc; there = runs.found; runs = runs.up }

pub work_in-requires-clause-entered : goal.work_in-requires-clause-entered
work_in-requires-clause-entered c =
    let some = c.requires.stands in (
      c.args.script.now,
      looked c.args.script.now c.args.objects.now c.enter.new.heap c.enter.new.self c.enter.ensures.pays.only some.0,
      has_entered c.args.script.now c.args.objects.now c.enter.new.heap c.enter.new.self c.args.purse.now c.enter.new.purse c.enter.ensures.pays c.args.caller.now.place.pid c.directory_of-cwd.result c.args.path.now c.requires.runs.proc c.requires.runs.found c.requires.runs.up
          (c.directory_of-cwd.ensures c.requires.runs.proc c.requires.runs.found) c.requires.right c.requires.needed c.enter.ensures.saved c.enter.ensures.kept
          c.in-Ok.directory (λ tree pins stands. sym c.in-Ok.is ∙ c.enter.ensures.value tree pins stands)
          (λ tree pins stands. subst (λ o. MatchResult o (λ number. Stands c.enter.new.heap c.enter.new.self tree (one_more pins number)) (λ _. Stands c.enter.new.heap c.enter.new.self tree pins)) c.in-Ok.is (c.enter.ensures.stands tree pins stands)) some.0 some.1,
    )

pub go_on-requires-clause-kept : goal.go_on-requires-clause-kept
go_on-requires-clause-kept c =
    let some = c.requires.stands in
    (c.work_in.ensures.stands c.args.script.now (looked c.args.script.now c.args.objects.now c.enter.new.heap c.enter.new.self c.enter.ensures.pays.only some.0)
    (has_entered c.args.script.now c.args.objects.now c.enter.new.heap c.enter.new.self c.args.purse.now c.enter.new.purse c.enter.ensures.pays c.args.caller.now.place.pid c.directory_of-cwd.result c.args.path.now c.requires.runs.proc c.requires.runs.found c.requires.runs.up
    (c.directory_of-cwd.ensures c.requires.runs.proc c.requires.runs.found) c.requires.right c.requires.needed c.enter.ensures.saved c.enter.ensures.kept
    c.in-Ok.directory (λ tree pins stands. sym c.in-Ok.is ∙ c.enter.ensures.value tree pins stands)
    (λ tree pins stands. subst (λ o. MatchResult o (λ number. Stands c.enter.new.heap c.enter.new.self tree (one_more pins number)) (λ _. Stands c.enter.new.heap c.enter.new.self tree pins)) c.in-Ok.is (c.enter.ensures.stands tree pins stands)) some.0 some.1)).kept

pub go_on-requires-clause-runs : goal.go_on-requires-clause-runs
go_on-requires-clause-runs c = c.work_in.ensures.runs c.args.caller.now.control (runs_mid c.args.script.now c.args.objects.now c.enter.new.heap c.enter.new.self c.enter.ensures.pays.only c.args.caller.now.place.pid c.args.caller.now.control c.requires.runs)

pub returns-in-Ok-clause-paid : goal.returns-in-Ok-clause-paid
returns-in-Ok-clause-paid c =
    IsPaid-trans c.args.objects.now.heap c.args.purse.now c.enter.new.heap c.enter.new.purse c.go_on.new.objects.heap c.enter.new.purse c.enter.ensures.pays.paid
    (IsPaid-nothing c.enter.new.heap c.go_on.new.objects.heap c.enter.new.purse c.enter.new.purse
    (TakesNothing-trans c.enter.new.heap c.work_in.new.objects.heap c.go_on.new.objects.heap c.work_in.ensures.takes c.go_on.ensures.takes) refl refl)

pub returns-in-Ok-clause-does : goal.returns-in-Ok-clause-does
returns-in-Ok-clause-does c =
    does_enter c.args.script.now c.args.objects.now c.enter.new.heap c.enter.new.self c.args.purse.now c.enter.new.purse c.enter.ensures.pays c.args.caller.now.place.pid c.directory_of-cwd.result c.args.path.now c.requires.runs.proc c.requires.runs.found c.requires.runs.up
    (c.directory_of-cwd.ensures c.requires.runs.proc c.requires.runs.found) c.requires.right c.requires.needed c.enter.ensures.saved c.enter.ensures.kept
    c.in-Ok.directory (λ tree pins stands. sym c.in-Ok.is ∙ c.enter.ensures.value tree pins stands)
    (λ tree pins stands. subst (λ o. MatchResult o (λ number. Stands c.enter.new.heap c.enter.new.self tree (one_more pins number)) (λ _. Stands c.enter.new.heap c.enter.new.self tree pins)) c.in-Ok.is (c.enter.ensures.stands tree pins stands))
    c.work_in.new.objects c.go_on.new.objects c.go_on.result (λ world has. c.work_in.ensures.stands c.args.script.now world has) c.go_on.ensures.told c.go_on.ensures.goes

-- ---- it has a fault

pub go_on-requires-in-Err-clause-kept : goal.go_on-requires-in-Err-clause-kept
go_on-requires-in-Err-clause-kept c =
    let some = c.requires.stands in
    kept_mid c.args.script.now c.args.objects.now c.enter.new.heap c.enter.new.self c.enter.ensures.pays.only
    (keeps_looked c.args.script.now c.args.objects.now c.enter.new.heap c.enter.new.self some.0 some.1 (λ tree pins stands. subst (λ o. MatchResult o (λ number. Stands c.enter.new.heap c.enter.new.self tree (one_more pins number)) (λ _. Stands c.enter.new.heap c.enter.new.self tree pins)) c.in-Err.is (c.enter.ensures.stands tree pins stands))) some.1.kept

pub go_on-requires-in-Err-clause-runs : goal.go_on-requires-in-Err-clause-runs
go_on-requires-in-Err-clause-runs c = runs_mid c.args.script.now c.args.objects.now c.enter.new.heap c.enter.new.self c.enter.ensures.pays.only c.args.caller.now.place.pid c.args.caller.now.control c.requires.runs

pub returns-in-Err-clause-paid : goal.returns-in-Err-clause-paid
returns-in-Err-clause-paid c =
    IsPaid-trans c.args.objects.now.heap c.args.purse.now c.enter.new.heap c.enter.new.purse c.go_on-in-Err.new.objects.heap c.enter.new.purse c.enter.ensures.pays.paid
    (IsPaid-nothing c.enter.new.heap c.go_on-in-Err.new.objects.heap c.enter.new.purse c.enter.new.purse c.go_on-in-Err.ensures.takes refl refl)

pub returns-in-Err-clause-does : goal.returns-in-Err-clause-does
returns-in-Err-clause-does c =
    does_refuse c.args.script.now c.args.objects.now c.enter.new.heap c.enter.new.self c.args.purse.now c.enter.new.purse c.enter.ensures.pays c.args.caller.now.place.pid c.directory_of-cwd.result c.args.path.now c.requires.runs.proc c.requires.runs.found c.requires.runs.up
    (c.directory_of-cwd.ensures c.requires.runs.proc c.requires.runs.found) c.requires.right c.requires.needed c.enter.ensures.saved c.enter.ensures.kept
    c.in-Err.errno c.go_on-in-Err.new.objects c.go_on-in-Err.result (λ tree pins stands. sym c.in-Err.is ∙ c.enter.ensures.value tree pins stands)
    (λ tree pins stands. subst (λ o. MatchResult o (λ number. Stands c.enter.new.heap c.enter.new.self tree (one_more pins number)) (λ _. Stands c.enter.new.heap c.enter.new.self tree pins)) c.in-Err.is (c.enter.ensures.stands tree pins stands))
    c.go_on-in-Err.ensures.told c.go_on-in-Err.ensures.goes

pub go_on-requires-clause-placed : goal.go_on-requires-clause-placed
go_on-requires-clause-placed c =
    placed_on (record { heap = c.enter.new.heap; procs = c.args.objects.now.procs; tree = c.enter.new.self; names = c.args.objects.now.names; fifos = c.args.objects.now.fifos; locks = c.args.objects.now.locks }) c.work_in.new.objects
    c.args.caller.now.place c.work_in.ensures.procs c.requires.placed
