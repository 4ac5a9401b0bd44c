-- A tree in memory, as the tree that it is.
use Rattle.std.specs.Prelude.{map}
use Rattle.std.specs.Option.{option_map}
use Rattle.posix_defs.specs.declared.nodes.Listed.{Listed}
use Rattle.posix_defs.specs.declared.nodes.Listed.TheVariants as listed
use Rattle.posix_defs.specs.declared.nodes.ListedNode.{ListedNode}
use Rattle.posix_defs.specs.declared.nodes.NodeList.{NodeList}
use Rattle.posix_defs.specs.Tree.{Content, File, Directory, SocketName, Fifo, Node, Tree}

-- what a node in memory holds, as a node of a tree holds it
abbrev pub content_listed : Listed → Content
content_listed (listed.File bytes) = File bytes.items
content_listed (listed.Directory parent entries) = Directory parent entries.items
content_listed listed.SocketName = SocketName
content_listed listed.Fifo = Fifo

-- a node in memory, as the node that it is
abbrev pub node_listed : ListedNode → Node
node_listed node = record { links = node.links; content = content_listed node.content }

-- the nodes in memory, as the tree that they are
abbrev pub tree_listed : NodeList → Tree
tree_listed list = record { blocks = list.blocks; nodes = map (option_map node_listed) list.nodes.items }
