use Rattle.std.proofs.Common.{sym, ◌∙◌}
use Rattle.tree_laws.proofs.TreeFacts.{found_in_use}
use Rattle.path_walk.proofs.walks.enter.Goals as goal

pub is_dir-requires : goal.is_dir-requires
is_dir-requires g c =
    let tree = c.requires.0 in
    let stands = c.requires.1 in
    (tree, c.look.ensures.stands tree stands, found_in_use tree c.args.dir c.args.name.now c.in-Some.number (g.met.D.Dirs.stands_tree c.args.d.now tree stands) (sym (c.look.ensures.value tree stands) ∙ c.in-Some.is))
