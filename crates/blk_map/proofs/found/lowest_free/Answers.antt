use Rattle.std.proofs.Common.{◌<◌, ℕ, inl, inr, subst, ◌∙◌, arith}
use Rattle.std.proofs.lemmas.Bool.{cases_lt}
use Rattle.std.proofs.lemmas.List.{length-set}
use Rattle.blk_map.proofs.Finding.{Searched, searched_one, searched_to, free_grow}
use Rattle.blk_map.proofs.found.lowest_free.Goals as goal

pub returns-then-free-blocks-clause-many : goal.returns-then-free-blocks-clause-many
returns-then-free-blocks-clause-many c =
    let past = searched_to c.args.map.now c.loop-count.found c.loop-count.count c.loop-count.number c.next_free-free.result c.next_free-free.ensures.within.0 c.next_free-free.ensures.passed c.loop-count.invariant.searched in
    let all : Searched c.args.map.now c.loop-count.found c.loop-count.count c.args.blocks = subst (λ (n : ℕ). Searched c.args.map.now c.loop-count.found c.loop-count.count n) c.if-free-blocks.true past in
    omega (arith, all.many, c.loop-count-test.true)

pub returns-then-free-blocks-clause-lowest : goal.returns-then-free-blocks-clause-lowest
returns-then-free-blocks-clause-lowest c = λ block lt free.
    let past = searched_to c.args.map.now c.loop-count.found c.loop-count.count c.loop-count.number c.next_free-free.result c.next_free-free.ensures.within.0 c.next_free-free.ensures.passed c.loop-count.invariant.searched in
    inl (past.all block (omega (arith, lt, c.if-free-blocks.true)) free)

pub loop-count-preserved : goal.loop-count-preserved
loop-count-preserved c =
    let lt : c.next_free-free.result < c.args.blocks = omega (arith, c.next_free-free.ensures.within.1, c.if-free-blocks.false) in
    let past = searched_to c.args.map.now c.loop-count.found c.loop-count.count c.loop-count.number c.next_free-free.result c.next_free-free.ensures.within.0 c.next_free-free.ensures.passed c.loop-count.invariant.searched in
    record {
      within = omega (arith, c.loop-count-test.true);
      below = omega (arith, lt);
      len = length-set c.loop-count.found c.loop-count.count c.next_free-free.result ∙ c.loop-count.invariant.len;
      searched = searched_one c.args.map.now c.loop-count.found c.loop-count.count c.next_free-free.result (c.next_free-free.ensures.free lt) (omega (arith, c.loop-count.invariant.len, c.loop-count-test.true, c.requires.room)) past;
    }

pub returns-clause-many : goal.returns-clause-many
returns-clause-many c =
    omega (arith, c.loop-count.invariant.searched.many, c.loop-count.invariant.within, c.loop-count-test.false, free_grow c.args.map.now c.loop-count.number c.args.blocks c.loop-count.invariant.below)

pub returns-clause-lowest : goal.returns-clause-lowest
returns-clause-lowest c = λ block lt free.
    let s = c.loop-count.invariant.searched in
    elim (cases_lt block c.loop-count.number) [
      | inl below ↦ inl (s.all block below free)
      | inr past ↦ inr (λ k within. omega (arith, (s.each k within).0, past))
    ]
