use Rattle.std.proofs.Common.{◌≡◌, ◌∙◌, ap, refl, subst, sym}
use Rattle.posix_defs.specs.declared.turner.Turned.TheVariants.{Done}
use Rattle.kheap_laws.proofs.PaidLemmas.{IsPaid-nothing, IsPaid-trans}
use Rattle.posix_defs.specs.Tree.{is_directory}
use Rattle.store_objects.proofs.Replies.{GoesOn}
use Rattle.store_objects.proofs.HoldsFiles.{works_in_directory}
use Rattle.path_calls.proofs.Stated.{does_stat, stat_reply}
use Rattle.path_calls.proofs.Walked.{keeps_looked, kept_mid, mid, runs_mid}
use Rattle.path_calls.proofs.telling.stat.Goals as goal

pub directory_of-cwd-requires-clause-stored : goal.directory_of-cwd-requires-clause-stored
directory_of-cwd-requires-clause-stored c = c.requires.stands.1.kept.holds.stored

pub stat_path-requires-clause-stands : goal.stat_path-requires-clause-stands
stat_path-requires-clause-stands c =
    let some = c.requires.stands in
    let stands = some.1.tree.stands in (
      some.0.plain.files.tree,
      _,
      stands,
      subst (λ dir. is_directory some.0.plain.files.tree dir ≡ _) (sym (c.directory_of-cwd.ensures c.requires.runs.proc c.requires.runs.found))
          (works_in_directory c.args.script.now c.args.objects.now some.0 c.args.caller.now.place.pid c.requires.runs.proc some.1 c.requires.runs.found c.requires.runs.up),
    )

pub go_on-requires-clause-kept : goal.go_on-requires-clause-kept
go_on-requires-clause-kept c =
    kept_mid c.args.script.now c.args.objects.now c.stat_path.new.heap c.stat_path.new.self c.stat_path.ensures.looks.on.heap (keeps_looked c.args.script.now c.args.objects.now c.stat_path.new.heap c.stat_path.new.self c.requires.stands.0 c.requires.stands.1 c.stat_path.ensures.looks.stands) c.requires.stands.1.kept

pub go_on-requires-clause-runs : goal.go_on-requires-clause-runs
go_on-requires-clause-runs c =
    runs_mid c.args.script.now c.args.objects.now c.stat_path.new.heap c.stat_path.new.self c.stat_path.ensures.looks.on.heap c.args.caller.now.place.pid c.args.caller.now.control c.requires.runs

pub go_on-requires-in-Err-clause-kept : goal.go_on-requires-in-Err-clause-kept
go_on-requires-in-Err-clause-kept c =
    kept_mid c.args.script.now c.args.objects.now c.stat_path.new.heap c.stat_path.new.self c.stat_path.ensures.looks.on.heap (keeps_looked c.args.script.now c.args.objects.now c.stat_path.new.heap c.stat_path.new.self c.requires.stands.0 c.requires.stands.1 c.stat_path.ensures.looks.stands) c.requires.stands.1.kept

pub go_on-requires-in-Err-clause-runs : goal.go_on-requires-in-Err-clause-runs
go_on-requires-in-Err-clause-runs c =
    runs_mid c.args.script.now c.args.objects.now c.stat_path.new.heap c.stat_path.new.self c.stat_path.ensures.looks.on.heap c.args.caller.now.place.pid c.args.caller.now.control c.requires.runs

pub returns-in-Ok-clause-paid : goal.returns-in-Ok-clause-paid
returns-in-Ok-clause-paid c =
    IsPaid-trans c.args.objects.now.heap c.args.purse.now c.stat_path.new.heap c.stat_path.new.purse c.go_on.new.objects.heap c.stat_path.new.purse c.stat_path.ensures.looks.on.paid
    (IsPaid-nothing c.stat_path.new.heap c.go_on.new.objects.heap c.stat_path.new.purse c.stat_path.new.purse c.go_on.ensures.takes refl refl)

pub returns-in-Err-clause-paid : goal.returns-in-Err-clause-paid
returns-in-Err-clause-paid c =
    IsPaid-trans c.args.objects.now.heap c.args.purse.now c.stat_path.new.heap c.stat_path.new.purse c.go_on-in-Err.new.objects.heap c.stat_path.new.purse c.stat_path.ensures.looks.on.paid
    (IsPaid-nothing c.stat_path.new.heap c.go_on-in-Err.new.objects.heap c.stat_path.new.purse c.stat_path.new.purse c.go_on-in-Err.ensures.takes refl refl)

pub returns-in-Ok-clause-does : goal.returns-in-Ok-clause-does
unfolding stat_reply
returns-in-Ok-clause-does c =
    does_stat c.args.script.now c.args.objects.now c.stat_path.new.heap c.stat_path.new.self c.args.purse.now c.stat_path.new.purse c.stat_path.ensures.looks
    c.args.caller.now.place.pid c.directory_of-cwd.result c.args.path.now c.requires.runs.proc c.requires.runs.found c.requires.runs.up (c.directory_of-cwd.ensures c.requires.runs.proc c.requires.runs.found)
    c.requires.right c.requires.needed c.stat_path.result c.stat_path.ensures.value c.stat_path.ensures.saved c.stat_path.ensures.kept
    c.go_on.new.objects c.go_on.result (c.go_on.ensures.told ∙ ap (λ o. Done (stat_reply o)) (sym c.in-Ok.is))
    (subst (λ o. GoesOn c.args.script.now (mid c.args.script.now c.args.objects.now c.stat_path.new.heap c.stat_path.new.self c.stat_path.ensures.looks.on.heap)
    c.args.caller.now.place.pid (stat_reply o) c.go_on.new.objects) (sym c.in-Ok.is) c.go_on.ensures.goes)

pub returns-in-Err-clause-does : goal.returns-in-Err-clause-does
unfolding stat_reply
returns-in-Err-clause-does c =
    does_stat c.args.script.now c.args.objects.now c.stat_path.new.heap c.stat_path.new.self c.args.purse.now c.stat_path.new.purse c.stat_path.ensures.looks
    c.args.caller.now.place.pid c.directory_of-cwd.result c.args.path.now c.requires.runs.proc c.requires.runs.found c.requires.runs.up (c.directory_of-cwd.ensures c.requires.runs.proc c.requires.runs.found)
    c.requires.right c.requires.needed c.stat_path.result c.stat_path.ensures.value c.stat_path.ensures.saved c.stat_path.ensures.kept
    c.go_on-in-Err.new.objects c.go_on-in-Err.result (c.go_on-in-Err.ensures.told ∙ ap (λ o. Done (stat_reply o)) (sym c.in-Err.is))
    (subst (λ o. GoesOn c.args.script.now (mid c.args.script.now c.args.objects.now c.stat_path.new.heap c.stat_path.new.self c.stat_path.ensures.looks.on.heap)
    c.args.caller.now.place.pid (stat_reply o) c.go_on-in-Err.new.objects) (sym c.in-Err.is) c.go_on-in-Err.ensures.goes)
