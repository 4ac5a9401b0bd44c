use Rattle.std.proofs.Common.{[], ◌≡◌, ◌≢◌, ◌∷◌, ◌++◌, false, sym, ap, subst, ◌∙◌, arith}
use Rattle.std.proofs.lemmas.List.Elements.{All-cons}
use Rattle.posix_defs.specs.ScriptWords.{Words, with_word, bare, is_blank}
use Rattle.posix_defs.specs.declared.said.Word.TheVariants.{Bare}
use Rattle.script_words.proofs.Fronts.{rest_shorter}
use Rattle.script_words.proofs.words.first_word.Goals as goal

pub returns : goal.returns
returns c =
    let first = c.args.first in
    let word = c.cut_word.result.0.now in
    let rest = c.cut_word.result.1.now in
    let unquoted : first ≢ 34 = (λ same. grind (arith, c.if-first-eq34.false, same)) in
    let letters : c.from_vec.result ≡ first ∷ word =
    c.from_vec.ensures ∙ c.in_ok-extend_from_slice.ensures.items
    ∙ ap (λ l. l ++ word) (c.in_ok-push.ensures.items ∙ ap (λ l. l ++ (first ∷ [])) c.new-letters.ensures.items) in (
      (omega (arith, rest_shorter c.args.next.now word rest c.cut_word.ensures.whole)),
      (λ said words. subst (λ t. Words (first ∷ c.args.next.now) (with_word (Bare t) said)) (sym letters)
          (subst (λ line. Words (first ∷ line) (with_word (Bare (first ∷ word)) said)) (sym c.cut_word.ensures.whole)
          (bare first word rest said unquoted (All-cons (λ byte. is_blank byte ≡ false) first word c.requires c.cut_word.ensures.plain) c.cut_word.ensures.ends words))),
    )
