use Rattle.std.proofs.Common.{Ok, option_map, sym, subst}
use Rattle.posix_defs.specs.ScriptWords.{Words, LineWords, not_utf8, comment, spelled, misspelled}
use Rattle.script_words.proofs.words.line_words.Goals as goal

pub returns-then-not-is_utf8 : goal.returns-then-not-is_utf8
returns-then-not-is_utf8 c = not_utf8 c.args.line.now c.if-not-is_utf8.ensures

pub returns-then-is_comment : goal.returns-then-is_comment
returns-then-is_comment c =
    subst (λ words. LineWords c.args.line.now (Ok words)) (sym c.new.ensures.items) (comment c.args.line.now c.if-not-is_utf8.ensures (sym c.if-is_comment.ensures))

pub returns-in-Some : goal.returns-in-Some
returns-in-Some c =
    spelled c.args.line.now c.in-Some.words.items c.if-not-is_utf8.ensures (sym c.if-is_comment.ensures)
    (subst (λ said. Words c.args.line.now (option_map (λ words. words.items) said)) c.in-Some.is c.in_ok-words.ensures)

pub returns-in-None : goal.returns-in-None
returns-in-None c =
    misspelled c.args.line.now c.if-not-is_utf8.ensures (sym c.if-is_comment.ensures)
    (subst (λ said. Words c.args.line.now (option_map (λ words. words.items) said)) c.in-None.is c.in_ok-words.ensures)
