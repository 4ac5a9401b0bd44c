use Rattle.std.proofs.Common.{◌≡◌, ℕ, Bool, List, IsSome, sym, subst, rules}
use Rattle.lru_index.specs.Order.{Order}
use Rattle.lru_index.specs.declared.keys.NameKey.{NameKey}
use Rattle.std.specs.List.{AllByRecursion}
use Rattle.lru_index.specs.NameKeys.{name_key}
use Rattle.posix_defs.specs.Asking.{AskedInTurn}
use Rattle.posix_defs.specs.Paths.{resolve}
use Rattle.posix_defs.specs.Queries.{Query, queries_of}
use Rattle.posix_defs.specs.Tree.{Tree}
use Rattle.posix_defs.specs.declared.walked.Walked.TheVariants as walked
use Rattle.name_cache.specs.Names.{name_slot}
use Rattle.cached_disk.specs.TreeLent.{TreeParts, tree_parts, StandsThrough, HasName, AreReordered, Answered, IsKnown}
use Rattle.cached_disk.specs.declared.dirs.CachedDirs.{CachedDirs}
use Rattle.memfs_dir.proofs.Found.{asked_through}
use Rattle.cached_disk.proofs.QueriesInTurn.{all_known, path_cached}
use Rattle.cached_disk.proofs.walking.walk_through.Goals as goal

abbrev of : CachedDirs → TreeParts
of d = tree_parts d.heap.now d.purse.now d.names.now d.vnodes.now d.blocks.now d.disk.now

pub returns-clause-stands : goal.returns-clause-stands
returns-clause-stands c = λ tree s.
    let stands : StandsThrough (of c.walk.new.d) tree = c.walk.ensures.stands tree s in
    search rules

pub returns-clause-saved : goal.returns-clause-saved
returns-clause-saved c = λ tree s all.
    let before = tree_parts c.args.heap.now c.args.purse.now c.args.names.now c.args.vnodes.now c.args.blocks.now c.args.disk.now in
    let asked : AskedInTurn Answered before (queries_of tree c.args.start c.args.path.now) (of c.walk.new.d) = asked_through of Answered _ (queries_of tree c.args.start c.args.path.now) c.walk.new.d (c.walk.ensures.asked tree s) in
    let saved : AreReordered before (of c.walk.new.d) = all_known (queries_of tree c.args.start c.args.path.now) before (of c.walk.new.d) all asked in
    search rules

pub returns-clause-kept : goal.returns-clause-kept
returns-clause-kept c =
    let e : c.names-1.given.0 ≡ c.walk.new.d.names.now = search rules in
    λ tree parent name node slashed s is.
    let before = tree_parts c.args.heap.now c.args.purse.now c.args.names.now c.args.vnodes.now c.args.blocks.now c.args.disk.now in
    let asked : AskedInTurn Answered before (queries_of tree c.args.start c.args.path.now) (of c.walk.new.d) = asked_through of Answered _ (queries_of tree c.args.start c.args.path.now) c.walk.new.d (c.walk.ensures.asked tree s) in
    record { there = subst (λ (n : Order NameKey). IsSome (name_slot n (name_key parent name))) (sym e) (path_cached tree c.args.start c.args.path.now parent name node slashed before (of c.walk.new.d) s is asked) }
