use Rattle.page_space.proofs.StandLemmas.{one_frame, one_page}
use Rattle.page_space.proofs.laws.pages_are_shared_as_frames_are.Goals as goal

pub returns : goal.returns
returns c = λ h number frames owners pid its one other memory memory2 page at owned holds holds2 below below2. (
  one_frame h number frames owners pid its one other memory memory2 page at owned holds holds2 below below2,
  one_page h number frames owners pid its one other memory memory2 page at owned holds holds2 below below2,
)
