use Rattle.std.proofs.Common.{sym, ◌∙◌}
use Rattle.lru_index.specs.Buckets.{node_at}
use Rattle.lru_index.proofs.Filed.{changed_node, unchanged_node}
use Rattle.lru_index.proofs.buckets.Buckets.set_next.Goals as goal

pub returns-in-Some-clause-nodes : goal.returns-in-Some-clause-nodes
returns-in-Some-clause-nodes g c other = changed_node (node_at c.args.self.now.nodes.items) (node_at c.set_node.new.self.nodes.items) c.args.place c.in-Some.node c.args.next (sym c.node.ensures.value ∙ c.in-Some.is) c.set_node.ensures.nodes other

pub returns-in_default-clause-nodes : goal.returns-in_default-clause-nodes
returns-in_default-clause-nodes g c other = unchanged_node (node_at c.args.self.now.nodes.items) c.args.place c.args.next (sym c.node.ensures.value ∙ c.in_default.is) other
