use Rattle.std.proofs.Common.{◌≡◌, ◌-◌, ◌++◌, ◌∷◌, [], ap, sym, ◌∙◌, take, arith, append_assoc}
use Rattle.std.proofs.lemmas.List.{append-nil}
use Rattle.group_heap.specs.Lines.{bytes_left, lines_left}
use Rattle.group_heap.specs.Texts.{lines_of, text_of}
use Rattle.group_heap.proofs.Cutting.{bytes_more, bytes_of, front_of, joined, length_more, no_more, one_more, starts}
use Rattle.group_heap.proofs.lines.cut_section.Goals as goal

pub returns-then-begins_section-clause-cut : goal.returns-then-begins_section-clause-cut
returns-then-begins_section-clause-cut c =
    let here = c.loop-first.invariant in
    let end = here.4 in
    let less = c.saturating_sub.ensures in
    let taken : c.saturating_sub.result ≡ bytes_of here.0 - 1 = omega (arith, end, less) in
    record {
      body = here.0;
      lines_are = here.1;
      within = here.2;
      starts = starts c.cut_line.result.0.now _ _ c.cut_line.ensures.lines c.if-begins_section.ensures;
      text_is = ap (λ n. take n c.args.text.now) taken ∙ front_of c.args.text.now here.0 c.cut_line.result.0.now _ (here.1 ∙ ap (λ ls. here.0 ++ ls) c.cut_line.ensures.lines);
      count_is = here.3;
    }

pub returns-then-begins_section-clause-size : goal.returns-then-begins_section-clause-size
returns-then-begins_section-clause-size c =
    let here = c.loop-first.invariant in
    let few = no_more here.0 in
    let count = here.3 in let end = here.4 in let size = here.5 in
    omega (arith, few, count, end, size)

pub overflow_add-lines : goal.overflow_add-lines
overflow_add-lines c =
    let here = c.loop-first.invariant in
    let few = no_more here.0 in
    let count = here.3 in let end = here.4 in let size = here.5 in
    let short = c.requires in
    omega (arith, few, count, end, size, short)

pub returns-in_default-clause-cut : goal.returns-in_default-clause-cut
returns-in_default-clause-cut c =
    let here = c.loop-first.invariant in
    let first = c.cut_line.result.0.now in
    let all = here.1 ∙ ap (λ ls. here.0 ++ ls) (c.cut_line.ensures.lines ∙ ap (λ o. first ∷ lines_left o) c.in_default.is) in
    record {
      body = here.0 ++ first ∷ [];
      lines_are = all ∙ sym (append-nil (here.0 ++ first ∷ []));
      within = one_more here.0 first here.2 c.if-begins_section.ensures;
      starts = tt;
      text_is = sym (joined c.args.text.now) ∙ ap text_of all;
      count_is = let count = here.3 in omega (arith, count, length_more here.0 first);
    }

pub returns-in_default-clause-size : goal.returns-in_default-clause-size
returns-in_default-clause-size c =
    let here = c.loop-first.invariant in
    let few = no_more here.0 in
    let count = here.3 in let end = here.4 in let size = here.5 in
    omega (arith, few, count, end, size)

pub loop-first-preserved : goal.loop-first-preserved
loop-first-preserved c =
    let here = c.loop-first.invariant in
    let first = c.cut_line.result.0.now in
    let next = c.in-Some.next.now in
    let left = ap bytes_left c.in-Some.is in
    let size = c.cut_line.ensures.size in
    let count = here.3 in let end = here.4 in let all = here.5 in (
      here.0 ++ first ∷ [],
      here.1 ∙ ap (λ ls. here.0 ++ ls) (c.cut_line.ensures.lines ∙ ap (λ o. first ∷ lines_left o) c.in-Some.is) ∙ sym (append_assoc here.0 (first ∷ []) (lines_of next)),
      one_more here.0 first here.2 c.if-begins_section.ensures,
      omega (arith, count, length_more here.0 first),
      omega (arith, end, bytes_more here.0 first),
      omega (arith, all, left, size),
    )
