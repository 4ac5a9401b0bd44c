use Rattle.std.proofs.Common.{[], Some, sym, subst}
use Rattle.std.proofs.lemmas.List.{append-nil}
use Rattle.posix_defs.specs.ScriptWords.{Words, blank, nothing}
use Rattle.script_words.proofs.Fronts.{no_bytes}
use Rattle.script_words.proofs.words.words_of.Goals as goal

pub loop-first-preserved-then-is_blank : goal.loop-first-preserved-then-is_blank
loop-first-preserved-then-is_blank c = λ said words.
    c.loop-first.invariant said
    (subst (λ line. Words line said) (sym c.in-Some.ensures.cases.0) (blank c.in-Some.first.now c.in-Some.next.now said (sym c.if-is_blank.ensures) words))

pub returns : goal.returns
returns c =
    subst (λ words. Words c.args.line.now (Some words)) (append-nil c.loop-first.words.items)
    (c.loop-first.invariant (Some []) (subst (λ line. Words line (Some [])) (no_bytes c.loop-first.rest.now c.in_default.ensures.cases) nothing))
