use Rattle.std.proofs.Common.{◌≡◌, [], None, Some, sym, subst, arith}
use Rattle.std.proofs.lemmas.List.{append-nil}
use Rattle.posix_defs.specs.ScriptWords.{SaysText, closed, holds, broken, with_byte, piece}
use Rattle.script_words.proofs.Fronts.{before_text, next_byte}
use Rattle.script_words.proofs.words.text_of.Goals as goal

pub loop-byte-preserved : goal.loop-byte-preserved
loop-byte-preserved c =
    let step = c.in-Some-Some-default in
    let there = step.ensures.first in
    let is = step.field-0-0-is in
    let begins : piece c.loop-byte.rest.now ≡ Some (Some step.byte, step.next.now) = cc in (
      (λ said says. subst (λ items. SaysText c.args.bytes.now (before_text items said)) (sym c.in_ok-push-in-Some-Some-default.ensures.items)
          (subst (SaysText c.args.bytes.now) (next_byte c.loop-byte.text.items step.byte said)
          (c.loop-byte.invariant.0 (with_byte step.byte said) (holds c.loop-byte.rest.now step.next.now step.byte said begins says)))),
      (omega (arith, c.loop-byte.invariant.1, step.ensures.shorter)),
    )

pub returns-in-Some-None-default-clause-says : goal.returns-in-Some-None-default-clause-says
returns-in-Some-None-default-clause-says c =
    let step = c.in-Some-None-default in
    let there = step.ensures.first in
    let is = step.field-0-0-is in
    let ends : piece c.loop-byte.rest.now ≡ Some (None, step.next.now) = cc in
    subst (λ text. SaysText c.args.bytes.now (Some (text, step.next.now))) (append-nil c.loop-byte.text.items)
    (c.loop-byte.invariant.0 (Some ([], step.next.now)) (closed c.loop-byte.rest.now step.next.now ends))

pub returns-in-None-clause-says : goal.returns-in-None-clause-says
returns-in-None-clause-says c = c.loop-byte.invariant.0 None (broken c.loop-byte.rest.now (sym c.in-None.ensures.first))
