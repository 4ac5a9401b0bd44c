use Rattle.std.proofs.Common.{◌≡◌, ◌/◌, get_or, None, Some, subst}
use Rattle.kheap_laws.proofs.KeyPlaces.{key_there}
use Rattle.page_space.proofs.spaces.Space.skip_unmapped.Goals as goal

pub get_node-requires : goal.get_node-requires
get_node-requires c =
    c.requires.owns.used c.in-Some.key (key_there c.args.self.now (c.args.page / 64) c.in-Some.key
    (subst (λ space. get_or space (c.args.page / 64) None ≡ Some c.in-Some.key) c.self.view_is c.in-Some.is))
