use Rattle.std.proofs.Common.{None, subst, ◌<◌}
use Rattle.lru_index.proofs.Filed.{set_of}
use Rattle.lru_index.proofs.buckets.Buckets.set_node.Goals as goal

pub returns-clause-nodes : goal.returns-clause-nodes
returns-clause-nodes g c other = set_of c.args.self.now.nodes.items c.args.place c.args.node None (subst (λ n. c.args.place < n) c.args.self.now.nodes.ok.0 c.requires) other
