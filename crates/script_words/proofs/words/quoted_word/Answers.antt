use Rattle.std.proofs.Common.{◌∷◌, ◌≤◌, Some, IfSome, option_map, sym, subst, arith, length}
use Rattle.posix_defs.specs.ScriptWords.{SaysText, Words, with_word, quoted, joined, unclosed}
use Rattle.posix_defs.specs.declared.said.Word.TheVariants.{Quoted}
use Rattle.script_words.proofs.words.quoted_word.Goals as goal

pub returns-then-ends_word : goal.returns-then-ends_word
returns-then-ends_word c =
    let text = c.in-Some.text.items in
    let rest = c.in-Some.rest.now in
    let says : SaysText c.args.bytes.now (Some (text, rest)) =
    subst (λ said. SaysText c.args.bytes.now (option_map (λ p. (p.0.items, p.1.now)) said)) c.in-Some.is c.in_ok-text.ensures.says in
    let shorter : length rest ≤ length c.args.bytes.now =
    subst (λ said. IfSome said (λ p. length p.1.now ≤ length c.args.bytes.now)) c.in-Some.is c.in_ok-text.ensures.shorter in (
      (omega (arith, shorter)),
      (λ said words. subst (λ t. Words (34 ∷ c.args.bytes.now) (with_word (Quoted t) said)) (sym c.from_vec.ensures)
          (quoted c.args.bytes.now text rest said says (sym c.if-ends_word.ensures) words)),
    )

pub returns-else-ends_word : goal.returns-else-ends_word
returns-else-ends_word c =
    let text = c.in-Some.text.items in
    let rest = c.in-Some.rest.now in
    let says : SaysText c.args.bytes.now (Some (text, rest)) =
    subst (λ said. SaysText c.args.bytes.now (option_map (λ p. (p.0.items, p.1.now)) said)) c.in-Some.is c.in_ok-text.ensures.says in
    joined c.args.bytes.now text rest says (sym c.if-ends_word.ensures)

pub returns-in-None : goal.returns-in-None
returns-in-None c =
    unclosed c.args.bytes.now (subst (λ said. SaysText c.args.bytes.now (option_map (λ p. (p.0.items, p.1.now)) said)) c.in-None.is c.in_ok-text.ensures.says)
