-- What is handed out of a run.
use Rattle.std.proofs.Common.{IfOk, Ok, Err, Result, string_bytes}
use Rattle.kabi_types.specs.declared.scripts.Script.{Script}
use Rattle.priced_store.specs.declared.store.Maps.{Maps}
use Rattle.priced_store.specs.Standing.{Stands, high_of, marks_of}
use Rattle.run_report.specs.declared.runs.Reported.{Reported}
use Rattle.run_report.specs.Reports.{IsReport}

-- a report is one of the store that made it
pub run_told : {E : Type 0} (script : Script) (store : Maps) (made : Result Reported E) → IfOk made (λ it. IsReport Stands marks_of high_of script store it.end (string_bytes it.text))
    → IfOk made (λ it. (kept : Maps) × IsReport Stands marks_of high_of script kept it.end (string_bytes it.text))
run_told script store (Ok it) report = (store, report)
run_told script store (Err _) report = tt
