use Rattle.std.proofs.Common.{IfOk, string_bytes, subst, sym}
use Rattle.posix_defs.specs.ValidScript.{IsValid}
use Rattle.priced_store.specs.declared.store.Maps.{Maps}
use Rattle.priced_store.specs.Standing.{Stands, high_of, marks_of}
use Rattle.priced_store.proofs.MapsSteps.{maps_valid}
use Rattle.priced_store.proofs.Telling.{run_told}
use Rattle.run_report.specs.Reports.{IsReport}
use Rattle.priced_store.proofs.runs.run_maps.Goals as goal

pub run_core-reported-requires-clause-valid : goal.run_core-reported-requires-clause-valid
run_core-reported-requires-clause-valid c = subst IsValid (sym c.in_ok-script.ensures) (maps_valid c.args.heap c.requires.least c.requires.most)

pub returns : goal.returns
returns c = subst (λ script. IfOk c.run_core-reported.result (λ it. (kept : Maps) × IsReport Stands marks_of high_of script kept it.end (string_bytes it.text))) c.in_ok-script.ensures
    (run_told c.in_ok-script.script c.run_core-reported.new.core.store c.run_core-reported.result c.run_core-reported.ensures.reported)
