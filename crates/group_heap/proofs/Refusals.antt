-- Why a line is refused, with its number.
use Rattle.std.proofs.Common.{◌≡◌, ℕ, List, Result, Err, refl, sym, subst}
use Rattle.kabi_types.specs.declared.scripts.FaultKind.{FaultKind}
use Rattle.posix_defs.specs.declared.said.Word.{Word}
use Rattle.script_words.specs.Telling.{Tells}
use Rattle.script_words.specs.declared.refused.Refused.{Refused}
use Rattle.script_words.specs.declared.refused.Refused.TheVariants as refused
use Rattle.group_heap.specs.declared.faults.GroupFault.{GroupFault}
use Rattle.group_heap.specs.Lines.{refusal_at}
use Rattle.group_heap.specs.Outcomes.{Outcome, SaysAt, SaysBy}

pub refused_at : {A : Type 0} (reads : List Word → Result A FaultKind) (line : ℕ) (text : List ℕ) (why : Refused) (error : GroupFault) → error ≡ refusal_at line why
    → Tells (λ (a : A). a) (Err why) (SaysBy reads text) → Outcome (λ (a : A). a) (Err error) (SaysAt reads line text)
refused_at {A} reads line text (refused.Fault kind) error is told = subst (λ e. Outcome (λ (a : A). a) (Err e) (SaysAt reads line text)) (sym is) (Err kind, told, refl)
refused_at {A} reads line text refused.Memory error is told = subst (λ e. Outcome (λ (a : A). a) (Err e) (SaysAt reads line text)) (sym is) tt
