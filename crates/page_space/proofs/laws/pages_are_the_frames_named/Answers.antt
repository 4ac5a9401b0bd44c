use Rattle.std.proofs.Common.{◌<◌, sym, subst}
use Rattle.page_space.proofs.FrameCounts.{frames_are_pages}
use Rattle.page_space.proofs.laws.pages_are_the_frames_named.Goals as goal

pub returns : goal.returns
returns c = λ h number frames owners owned are.
    frames_are_pages number h.pages frames are (λ key used. subst (λ n. 0 < n) (sym (are.counts key used)) (owned.pages.named key used))
