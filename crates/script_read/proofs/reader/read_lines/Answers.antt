use Rattle.std.proofs.Common.{ap, arith, length, ◌∷◌}
use Rattle.std.proofs.lemmas.List.{length-append}
use Rattle.std.proofs.lemmas.Result.{err_from_is_err_and}
use Rattle.script_read.proofs.Lines.{read_more, read_fault, read_last, read_last_fault, one_line, failed, finished}
use Rattle.script_read.specs.Drafting.{drafted_script}
use Rattle.script_read.proofs.reader.read_lines.Goals as goal

pub loop-first-preserved : goal.loop-first-preserved
loop-first-preserved c =
    let here = c.loop-first in
    let front = c.in-Some.first.now in
    let next = c.in-Some.next.now in
    let state' = c.take_line.new.self in (
      (read_more c.args.text.now here.rest.now front next here.state state' here.line here.invariant.0 c.in-Some.ensures.0 c.in-Some.ensures.1 c.in_ok-take_line.ensures),
      (omega (arith, here.invariant.1, one_line here.state state' here.line front c.in_ok-take_line.ensures)),
      (omega (arith, here.invariant.2, ap length c.in-Some.ensures.0, length-append front (10 ∷ next))),
    )

pub returns-in_err-take_line : goal.returns-in_err-take_line
returns-in_err-take_line c =
    let here = c.loop-first in
    let p = err_from_is_err_and c.from_residual.result c.from_residual.ensures.1 in
    rw (p.1, p.2) (failed (λ (x : Unit {0}). here.state) (λ (x : Unit {0}). drafted_script here.state.draft) c.args.text.now here.state here.line c.in-Some.first.now c.in_err-take_line.field-0.0 c.in_err-take_line.ensures
    (λ fault. read_fault c.args.text.now here.rest.now c.in-Some.first.now c.in-Some.next.now here.state here.line fault here.invariant.0 c.in-Some.ensures.0 c.in-Some.ensures.1))

pub returns-in_err-take_line-2 : goal.returns-in_err-take_line-2
returns-in_err-take_line-2 c =
    let here = c.loop-first in
    let p = err_from_is_err_and c.from_residual-in_err-take_line-2.result c.from_residual-in_err-take_line-2.ensures.1 in
    rw (p.1, p.2) (failed (λ (x : Unit {0}). here.state) (λ (x : Unit {0}). drafted_script here.state.draft) c.args.text.now here.state here.line here.rest.now c.in_err-take_line-2.field-0.0 c.in_err-take_line-2.ensures
    (λ fault. read_last_fault c.args.text.now here.rest.now here.state here.line fault here.invariant.0 c.in_default.ensures))

pub returns : goal.returns
returns c =
    let here = c.loop-first in
    finished c.args.text.now c.take_line-2.new.self c.may_end.result c.map_err.result c.may_end.ensures c.map_err.ensures.cases
    (read_last c.args.text.now here.rest.now here.state c.take_line-2.new.self here.line here.invariant.0 c.in_default.ensures c.in_ok-take_line-2.ensures)
