-- Where the rest of the path leads from the directory reached is where the whole path leads, and what is still asked comes
-- after what was.
use Rattle.std.proofs.Common.{◌≡◌, ◌∷◌, length, true, false}
use Rattle.std.specs.List.{list_any}
use Rattle.posix_defs.specs.Asking.{AskedInTurn}
use Rattle.posix_defs.specs.Tree.{Tree, is_directory}
use Rattle.kabi_types.specs.PathParts.{components, is_long}
use Rattle.posix_defs.specs.Paths.{leads}
use Rattle.posix_defs.specs.Queries.{asks}
use Rattle.path_walk.proofs.walks.walk_names.Given as goal

abbrev pub invariant-loop-next : goal.invariant-loop-next
invariant-loop-next g l =
    let d = g.D.Dirs in
    record {
      at : (tree : Tree) × d.stands l.d tree × (is_directory tree l.dir ≡ true);
      names : list_any is_long (l.name ∷ components l.rest) ≡ false;
      stands : (tree : Tree) → d.stands l.fn.d tree → d.stands l.d tree;
      follows : d.follows l.fn.d l.d;
      leads : (tree : Tree) → d.stands l.fn.d tree → leads tree l.slash l.dir (l.name ∷ components l.rest) ≡ leads tree l.slash l.fn.start (l.fn.first ∷ components l.fn.behind);
      asked : (tree : Tree) → d.stands l.fn.d tree → (after : _) → AskedInTurn d.asked l.d (asks tree l.slash l.dir (l.name ∷ components l.rest)) after
          → AskedInTurn d.asked l.fn.d (asks tree l.slash l.fn.start (l.fn.first ∷ components l.fn.behind)) after;
    }

abbrev pub decreases-loop-next : goal.decreases-loop-next
decreases-loop-next g l = length l.rest
