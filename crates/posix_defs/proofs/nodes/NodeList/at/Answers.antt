use Rattle.std.proofs.Common.{is_some, sym, ap, ◌∙◌}
use Rattle.std.specs.Option.{option_map}
use Rattle.std.proofs.lemmas.Bool.{false≢true}
use Rattle.posix_defs.specs.NodeLists.{node_listed}
use Rattle.posix_defs.proofs.ListedNodes.{listed_at}
use Rattle.posix_defs.proofs.nodes.NodeList.at.Goals as goal

pub unreachable-requires : goal.unreachable-requires
unreachable-requires c =
    false≢true (sym (ap is_some (listed_at c.args.self.now c.args.number c.index.result.now c.index.ensures c.requires ∙ ap (option_map node_listed) c.in-None.is)) ∙ c.requires)

pub returns : goal.returns
returns c = listed_at c.args.self.now c.args.number c.index.result.now c.index.ensures c.requires ∙ ap (option_map node_listed) c.in-Some.is
