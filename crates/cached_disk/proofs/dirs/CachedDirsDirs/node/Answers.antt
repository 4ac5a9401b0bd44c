use Rattle.std.proofs.Common.{refl}
use Rattle.memfs_node.proofs.Looking.{shown}
use Rattle.cached_disk.proofs.dirs.CachedDirsDirs.node.Goals as goal

pub returns-clause-value : goal.returns-clause-value
returns-clause-value c = λ tree stands. shown c.args.self.now.disk.now.blocks tree c.args.number c.find_inode.result stands.behind c.find_inode.ensures.has

pub returns-clause-stands : goal.returns-clause-stands
returns-clause-stands c = λ tree stands. c.find_inode.ensures.stands c.args.self.now.names.now tree stands

pub returns-clause-follows : goal.returns-clause-follows
returns-clause-follows c = (refl, refl, refl, refl, refl, refl, c.find_inode.ensures.goes_on c.args.self.now.names.now)

pub returns-clause-asked : goal.returns-clause-asked
returns-clause-asked c = record { stands = λ tree stands. c.find_inode.ensures.stands c.args.self.now.names.now tree stands; told = c.find_inode.ensures.asked c.args.self.now.names.now }
