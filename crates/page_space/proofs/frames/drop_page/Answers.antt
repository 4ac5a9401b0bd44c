use Rattle.std.proofs.Common.{◌-◌, sym, ap, subst, refl, arith}
use Rattle.kheap_slabs.specs.Spaces.{CountFalls}
use Rattle.kheap_laws.proofs.SpaceLemmas.{CountFalls-set, KeepsBytes-count}
use Rattle.page_space.specs.Frames.{FramesStay}
use Rattle.page_space.proofs.FrameLemmas.{kept_pages, FramesStay-all, count_known}
use Rattle.page_space.proofs.frames.drop_page.Goals as goal

pub returns-else-count-eq1-clause-falls : goal.returns-else-count-eq1-clause-falls
returns-else-count-eq1-clause-falls c =
    let old = c.args.heap.now.pages in
    let page = c.get_page.result.now in
    let kept = c.set_page_count.ensures.kept page c.get_page.ensures in
    let some = count_known old c.args.key page c.get_page.ensures c.requires in
    subst (λ pages. CountFalls old pages c.args.key) (sym (ap (λ h. h.pages) kept))
    (CountFalls-set old c.args.key page (record page { count = page.count - 1 }) c.get_page.ensures (omega arith) (omega arith))

pub returns-else-count-eq1-clause-bytes : goal.returns-else-count-eq1-clause-bytes
returns-else-count-eq1-clause-bytes c =
    let old = c.args.heap.now.pages in
    let page = c.get_page.result.now in
    let kept = c.set_page_count.ensures.kept page c.get_page.ensures in
    subst (λ pages. FramesStay old pages) (sym (ap (λ h. h.pages) kept))
    (FramesStay-all old _ (KeepsBytes-count old c.args.key page (record page { count = page.count - 1 }) c.get_page.ensures refl))

pub returns-else-count-eq1-clause-kept : goal.returns-else-count-eq1-clause-kept
returns-else-count-eq1-clause-kept c =
    kept_pages c.args.heap.now c.set_page_count.new.self _ (c.set_page_count.ensures.kept c.get_page.result.now c.get_page.ensures)
