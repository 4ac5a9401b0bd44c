use Rattle.std.proofs.Common.{◌≡◌, ◌+◌, ◌∷◌, ◌++◌, [], Ok, Err, ap, sym, subst, arith, length}
use Rattle.std.proofs.lemmas.List.{length-append}
use Rattle.std.proofs.lemmas.Result.{err_from_is_err_and}
use Rattle.group_heap.specs.Lines.{bytes_left, lines_left}
use Rattle.group_heap.specs.Outcomes.{Outcome, ReadsBehind, SaysAt}
use Rattle.group_heap.specs.Texts.{ReadsSections, lines_of, section_said}
use Rattle.group_heap.proofs.Reading.{name_fault, section_more, sections_end, sections_failed, text_fault}
use Rattle.group_heap.proofs.splits.read_sections.Goals as goal

pub returns-in_err-name-clause-reads : goal.returns-in_err-name-clause-reads
returns-in_err-name-clause-reads c =
    let here = c.loop-name in
    let first = c.cut_line.result.0.now in
    let p = err_from_is_err_and c.from_residual.result c.from_residual.ensures.1 in
    rw (p.1, p.2) (sections_failed (λ name. name) (SaysAt (section_said here.sections.items) here.number first) (λ (u : Unit {0}). here.sections.items) c.args.sections.now.items c.args.line c.args.text.now
    c.in_err-name.field-0.0
    (subst (λ all. Outcome (λ name. name) (Err c.in_err-name.field-0.0) (SaysAt (section_said all) here.number first)) c.as_slice.ensures.value c.in_err-name.ensures.says)
    (λ what. name_fault c.args.sections.now.items c.args.line c.args.text.now here.sections.items here.number here.rest.now first _ what here.invariant.0 c.cut_line.ensures.lines))

pub returns-in_err-script-clause-reads : goal.returns-in_err-script-clause-reads
returns-in_err-script-clause-reads c =
    let here = c.loop-name in
    let first = c.cut_line.result.0.now in
    let body = c.section_behind-lines.result.0.now in
    let says = subst (λ all. SaysAt (section_said all) here.number first (Ok c.in_ok-name.name)) c.as_slice.ensures.value c.in_ok-name.ensures.says in
    let p = err_from_is_err_and c.from_residual-in_err-script.result c.from_residual-in_err-script.ensures.1 in
    rw (p.1, p.2) (sections_failed (λ script. script) (ReadsBehind here.number body) (λ (u : Unit {0}). here.sections.items) c.args.sections.now.items c.args.line c.args.text.now
    c.in_err-script.field-0.0 c.in_err-script.ensures
    (λ what. text_fault c.args.sections.now.items c.args.line c.args.text.now here.sections.items here.number here.rest.now first c.in_ok-name.name body c.section_behind-lines.result.1 _ _ what
    here.invariant.0 c.cut_line.ensures.lines says c.section_behind-lines.ensures.cut))

pub returns-in_default-clause-reads : goal.returns-in_default-clause-reads
returns-in_default-clause-reads c =
    let here = c.loop-name in
    let first = c.cut_line.result.0.now in
    let says = subst (λ all. SaysAt (section_said all) here.number first (Ok c.in_ok-name.name)) c.as_slice.ensures.value c.in_ok-name.ensures.says in
    subst (λ all. ReadsSections c.args.sections.now.items c.args.line (lines_of c.args.text.now) (Ok all)) (sym c.in_ok-push.ensures.items)
    (sections_end c.args.sections.now.items c.args.line c.args.text.now here.sections.items here.number here.rest.now first c.in_ok-name.name c.section_behind-lines.result.0.now
    c.section_behind-lines.result.1 _ _ c.in_ok-script.script here.invariant.0 c.cut_line.ensures.lines says c.section_behind-lines.ensures.cut (ap lines_left c.in_default.is) c.in_ok-script.ensures)

pub loop-name-preserved : goal.loop-name-preserved
loop-name-preserved c =
    let here = c.loop-name in
    let first = c.cut_line.result.0.now in
    let count = c.section_behind-lines.result.1 in
    let after = lines_of c.in-Some.after.now in
    let all = here.sections.items ++ record { name = c.in_ok-name.name; script = c.in_ok-script.script } ∷ [] in
    let says = subst (λ all. SaysAt (section_said all) here.number first (Ok c.in_ok-name.name)) c.as_slice.ensures.value c.in_ok-name.ensures.says in
    let items = c.in_ok-push.ensures.items in
    let line : here.number + (1 + count) ≡ here.number + 1 + count = omega arith in
    let left = ap bytes_left c.in-Some.is in
    let size = c.cut_line.ensures.size in
    let cut = c.section_behind-lines.ensures.size in
    let few = here.invariant.1 in
    let before = c.in_ok-name.ensures.few in
    let same = ap length c.as_slice.ensures.value in (
      (λ outcome found. section_more c.args.sections.now.items c.args.line c.args.text.now here.sections.items here.number here.rest.now first c.in_ok-name.name
          c.section_behind-lines.result.0.now count _ _ c.in_ok-script.script outcome here.invariant.0 c.cut_line.ensures.lines says c.section_behind-lines.ensures.cut c.in_ok-script.ensures
          (subst (λ ls. ReadsSections all (here.number + 1 + count) ls outcome) (sym (ap lines_left c.in-Some.is))
          (subst (λ n. ReadsSections all n after outcome) line
          (subst (λ xs. ReadsSections xs (here.number + (1 + count)) after outcome) items found)))),
      omega (arith, left, size, cut, few),
      omega (arith, before, same, ap length items, length-append here.sections.items (record { name = c.in_ok-name.name; script = c.in_ok-script.script } ∷ [])),
    )
