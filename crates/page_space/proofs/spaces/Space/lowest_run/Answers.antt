use Rattle.std.proofs.Common.{◌≡◌, ℕ, Bool, sym, ◌∙◌, subst, arith}
use Rattle.page_space.specs.Entries.{is_mapped_at}
use Rattle.page_space.proofs.RunLemmas.{IsSearched, IsSearched-mapped, IsSearched-unmapped, run_found, run_missing}
use Rattle.page_space.proofs.spaces.Space.lowest_run.Goals as goal
use Rattle.page_space.proofs.spaces.Space.lowest_run.Goals.{then-is_mapped, else-is_mapped}

pub loop-page-preserved : goal.loop-page-preserved
loop-page-preserved c =
    let test : ℕ → Bool = is_mapped_at c.args.heap.now.nodes c.args.self.now in
    elim c.if-is_mapped.branch [
      | then-is_mapped w ↦ rw w.unmapped-is
          (IsSearched-mapped test c.args.pages c.loop-page.unmapped c.loop-page.page c.loop-page.invariant (sym c.is_mapped.ensures ∙ w.if-is_mapped.true))
      | else-is_mapped w ↦ rw w.unmapped-is
          (IsSearched-unmapped test c.args.pages c.loop-page.unmapped c.loop-page.page c.loop-page.invariant (sym c.is_mapped.ensures ∙ w.if-is_mapped.false)
          (λ same. c.if-unmapped-pages.false (w.unmapped-is ∙ same)))
    ]

pub returns-then-unmapped-pages-clause-found : goal.returns-then-unmapped-pages-clause-found
returns-then-unmapped-pages-clause-found c =
    let test : ℕ → Bool = is_mapped_at c.args.heap.now.nodes c.args.self.now in
    elim c.if-is_mapped.branch [
      | then-is_mapped w ↦ absurd (omega (arith, w.unmapped-is, c.if-unmapped-pages.true, c.requires.some))
      | else-is_mapped w ↦ sym (run_found test c.args.pages c.loop-page.unmapped c.loop-page.page c.loop-page.invariant (sym c.is_mapped.ensures ∙ w.if-is_mapped.false)
          (sym w.unmapped-is ∙ c.if-unmapped-pages.true) c.loop-page-test.true)
    ]

pub returns-clause-found : goal.returns-clause-found
returns-clause-found c =
    let test : ℕ → Bool = is_mapped_at c.args.heap.now.nodes c.args.self.now in
    let last : c.loop-page.page ≡ 256 = omega arith in
    sym (run_missing test c.args.pages c.loop-page.unmapped (subst (λ page. IsSearched test c.args.pages c.loop-page.unmapped page) last c.loop-page.invariant))
