use Rattle.std.proofs.Common.{◌+◌, sym, ap, subst, refl}
use Rattle.kheap_slabs.specs.Spaces.{CountRises}
use Rattle.kheap_laws.proofs.SpaceLemmas.{CountRises-set, KeepsBytes-count}
use Rattle.page_space.specs.Frames.{FramesStay}
use Rattle.page_space.proofs.FrameLemmas.{kept_pages, FramesStay-all}
use Rattle.page_space.proofs.frames.share_page.Goals as goal

pub returns-clause-rises : goal.returns-clause-rises
returns-clause-rises c =
    let old = c.args.heap.now.pages in
    let page = c.get_page.result.now in
    let kept = c.set_page_count.ensures.kept page c.get_page.ensures in
    subst (λ pages. CountRises old pages c.args.key) (sym (ap (λ h. h.pages) kept))
    (CountRises-set old c.args.key page (record page { count = page.count + 1 }) c.get_page.ensures refl)

pub returns-clause-bytes : goal.returns-clause-bytes
returns-clause-bytes c =
    let old = c.args.heap.now.pages in
    let page = c.get_page.result.now in
    let kept = c.set_page_count.ensures.kept page c.get_page.ensures in
    subst (λ pages. FramesStay old pages) (sym (ap (λ h. h.pages) kept))
    (FramesStay-all old _ (KeepsBytes-count old c.args.key page (record page { count = page.count + 1 }) c.get_page.ensures refl))

pub returns-clause-kept : goal.returns-clause-kept
returns-clause-kept c =
    kept_pages c.args.heap.now c.set_page_count.new.self _ (c.set_page_count.ensures.kept c.get_page.result.now c.get_page.ensures)
