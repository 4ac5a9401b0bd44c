use Rattle.std.proofs.Common.{◌≡◌, ℕ, ◌<◌, ◌++◌, List, length, zero, Some, ap, sym, ◌∙◌, subst, drop, take}
use Rattle.std.specs.List.{AllByRecursion}
use Rattle.std.proofs.Math.Seq.{take-append_seam}
use mathlib.Core.List.{IsPrefix}
use Rattle.kabi_types.specs.declared.entries.End.{End}
use Rattle.kabi_types.specs.declared.scripts.Script.{Script}
use Rattle.kern_shared.specs.declared.passes.Pass.{Pass}
use Rattle.kern_shared.specs.Closing.{HasLast, IsFirst}
use Rattle.kern_shared.proofs.Crew.{some_last}
use Rattle.kern_shared.proofs.Runs.{a_run}
use Rattle.work_crew.specs.Whole.{IsWhole}
use Rattle.work_crew.specs.Working.{HasWorked}
use Rattle.work_crew.proofs.Ending.{over_by_all, whole}
use Rattle.work_crew.proofs.Places.{last_stays, place_of_all}
use Rattle.work_crew.proofs.Working.{first_stays}
use Rattle.work_crew.proofs.runs.run_workers.Goals as goal

pub close-requires-clause-last : goal.close-requires-clause-last
close-requires-clause-last g c =
    let P : List (Pass g.row.T.Denot g.row.L.Denot) → Type 0 = λ all. HasLast (λ others last. IsFirst (length others) last.turn) all in
    let long : length c.crew.new.passes ≡ c.in_ok-kernel.passes.len = c.crew.ensures.count ∙ c.as_mut_slice.ensures.len in
    let same = ap (λ n. take n (c.crew.new.passes ++ drop (length c.crew.new.passes) c.in_ok-kernel.passes.items)) (sym long) ∙ take-append_seam c.crew.new.passes (drop (length c.crew.new.passes) c.in_ok-kernel.passes.items) in
    subst P (sym same)
    (last_stays (λ p q. HasWorked g.L.RunName.script g.L.RunName.steps p.turn.known q.turn.known) (λ n p. IsFirst n p.turn) c.as_mut_slice.result.now c.crew.new.passes
    (λ n p q worked first. first_stays g.L.RunName.script g.L.RunName.steps n p.turn q.turn worked first) c.crew.ensures.count c.crew.ensures.worked
    (subst P (sym c.as_mut_slice.ensures.value) c.in_ok-kernel.ensures.last))

pub returns : goal.returns
returns g c =
    let P : List (Pass g.row.T.Denot g.row.L.Denot) → Type 0 = λ all. HasLast (λ others last. IsFirst (length others) last.turn) all in
    let long : length c.crew.new.passes ≡ c.in_ok-kernel.passes.len = c.crew.ensures.count ∙ c.as_mut_slice.ensures.len in
    let same = ap (λ n. take n (c.crew.new.passes ++ drop (length c.crew.new.passes) c.in_ok-kernel.passes.items)) (sym long) ∙ take-append_seam c.crew.new.passes (drop (length c.crew.new.passes) c.in_ok-kernel.passes.items) in
    let last = subst P (sym c.as_mut_slice.ensures.value) c.in_ok-kernel.ensures.last in
    let some = some_last _ _ last in
    let Q : Pass g.row.T.Denot g.row.L.Denot → Type 0 = λ p. IsPrefix p.turn.known.seen c.close.ensures.0 in
    let begins = place_of_all Q c.crew.new.passes zero last.1 (subst (λ n. zero < n) (sym c.crew.ensures.count) some) (subst (AllByRecursion Q) same c.close.ensures.2) in
    let over = over_by_all g.L.RunName.script g.L.RunName.steps _ c.close.ensures.0 c.close.ensures.1 begins (c.crew.ensures.worked zero last.1 some).saw c.close.ensures.3 in
    let R : Script → ℕ → Type 0 = λ script steps.
    (which : End) × (c.close.result.end ≡ Some which) × IsWhole g.T.Turner.stands g.T.Turner.script g.T.Turner.beside script steps c.close.result.history which c.close.result.charged c.close.result.store in
    subst (λ script. R script c.args.steps) c.requires.script
    (subst (λ steps. R g.L.RunName.script steps) c.requires.steps
    (whole g.T.Turner.stands g.T.Turner.script g.T.Turner.beside g.L.RunName.script g.L.RunName.steps _ c.close.ensures.1 c.close.result.history c.close.result.end c.close.result.charged c.close.result.store a_run
    c.close.ensures.3 over c.close.ensures.4))
