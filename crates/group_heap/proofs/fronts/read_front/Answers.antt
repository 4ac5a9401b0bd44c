use Rattle.std.proofs.Common.{◌∷◌, ap, ◌∙◌, arith}
use Rattle.std.proofs.lemmas.Result.{err_from_is_err_and}
use Rattle.group_heap.specs.Lines.{bytes_left, lines_left}
use Rattle.group_heap.specs.Outcomes.{SaysAt}
use Rattle.group_heap.specs.Texts.{front_said}
use Rattle.group_heap.proofs.Reading.{front_ends, front_failed, front_fault, front_is, front_more}
use Rattle.group_heap.proofs.fronts.read_front.Goals as goal

pub returns-in-Some : goal.returns-in-Some
returns-in-Some c =
    let here = c.loop-bytes in
    record {
      reads = λ outcome found. front_is c.args.text.now here.rest.now c.cut_line.result.0.now _ here.whole c.in-Some.bytes here.line outcome here.invariant.0 c.cut_line.ensures.lines c.in-Some.ensures found;
      few = here.invariant.1;
    }

pub returns-in_err-whole : goal.returns-in_err-whole
returns-in_err-whole c =
    let here = c.loop-bytes in
    let first = c.cut_line.result.0.now in
    let p = err_from_is_err_and c.from_residual.result c.from_residual.ensures.1 in
    rw (p.1, p.2) (front_failed (λ next. next) (SaysAt (front_said here.whole) here.line first) c.args.text.now c.in_err-whole.field-0.0 c.in_err-whole.ensures
    (λ what. front_fault c.args.text.now here.rest.now first _ here.whole here.line what here.invariant.0 c.cut_line.ensures.lines c.in_default.ensures))

pub returns-in_default-next : goal.returns-in_default-next
returns-in_default-next c =
    let here = c.loop-bytes in
    let first = c.cut_line.result.0.now in
    front_ends c.args.text.now here.rest.now first here.whole c.in_ok-whole.whole here.line here.invariant.0
    (c.cut_line.ensures.lines ∙ ap (λ o. first ∷ lines_left o) c.in_default-next.is) c.in_default.ensures c.in_ok-whole.ensures

pub loop-bytes-preserved : goal.loop-bytes-preserved
loop-bytes-preserved c =
    let here = c.loop-bytes in
    let first = c.cut_line.result.0.now in
    let left = ap bytes_left c.in-Some-next.is in
    let size = c.cut_line.ensures.size in
    let few = here.invariant.1 in (
      (λ outcome found. front_more c.args.text.now here.rest.now first _ here.whole c.in_ok-whole.whole here.line outcome here.invariant.0
          (c.cut_line.ensures.lines ∙ ap (λ o. first ∷ lines_left o) c.in-Some-next.is) c.in_default.ensures c.in_ok-whole.ensures found),
      omega (arith, left, size, few),
    )
