use Rattle.std.proofs.Common.{◌≡◌, ℕ, ◌+◌, List, [], ◌∷◌, ◌++◌, length, Option, Ok, ap, sym, ◌∙◌, arith}
use Rattle.std.specs.Prelude.{reverse}
use Rattle.std.proofs.lemmas.List.{append_assoc, length-append}
use Rattle.indexmap.specs.IndexMap.{get}
use Rattle.kabi_types.specs.contracts.short_lists.Name27PartialEq.TheImpl.{eq-value}
use Rattle.script_read.specs.LabelPlaces.{before, body_from, placed_in}
use Rattle.script_read.proofs.Placing.{told, told_before, turned}
use Rattle.script_read.proofs.places.statements_of.Goals as goal

pub loop-stated-preserved-in-Continue-1 : goal.loop-stated-preserved-in-Continue-1
loop-stated-preserved-in-Continue-1 c =
    let inv = c.loop-stated.invariant in
    let done = inv.0 in
    let stated = c.in-Some.stated in
    let new = c.pop.new.self.items in
    let at : List ℕ → Option ℕ = (λ name. get eq-value.it c.args.places.now name) in
    let items : c.loop-stated.lines.items ≡ new ++ (stated ∷ []) = c.in-Some.ensures.items in
    let count : length c.loop-stated.lines.items ≡ length new + 1 = ap length items ∙ length-append new (stated ∷ []) in
    let here : length new ≡ c.len.result = omega (arith, c.len.ensures, c.pop.new.self.ok.0) in
    let said : placed_in at (length new) stated.said ≡ Ok c.in-Ok.statement =
    ap (λ place. placed_in at place stated.said) here ∙ sym c.in-Ok.ensures in (
      (stated ∷ done),
      (inv.1 ∙ ap (λ r. r ++ done) items ∙ append_assoc new (stated ∷ []) done),
      (ap (λ s. before stated.line s (body_from at (length new + 1) done)) said
          ∙ ap (λ place. before stated.line (Ok c.in-Ok.statement) (body_from at place done)) (sym count)
          ∙ ap (before stated.line (Ok c.in-Ok.statement)) inv.2
          ∙ told_before stated.line c.in-Ok.statement c.loop-stated.fault (reverse c.loop-stated.body.items)
          ∙ ap (told c.loop-stated.fault) (turned c.in-Ok.statement c.loop-stated.body.items ∙ ap reverse (sym c.in_ok-push-in-Ok.ensures.items))),
      (omega (arith, count, inv.3)),
    )
