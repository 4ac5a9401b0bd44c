-- What a list of nodes has under a number.
use Rattle.std.proofs.Common.{◌≡◌, ℕ, zero, suc, ◌-◌, ◌<◌, true, length, get_or, Option, None, sym, ap, ◌∙◌, arith}
use Rattle.std.specs.Option.{option_map}
use Rattle.std.proofs.lemmas.Bool.{false≢true}
use Rattle.std.proofs.lemmas.List.{get_or-map, length-map}
use Rattle.posix_defs.specs.declared.nodes.ListedNode.{ListedNode}
use Rattle.posix_defs.specs.declared.nodes.NodeList.{NodeList}
use Rattle.posix_defs.specs.Tree.{node_at, is_in_use}
use Rattle.posix_defs.specs.NodeLists.{node_listed, tree_listed}
use Rattle.posix_defs.proofs.TreeNodes.{is_number}

pub listed_at : (list : NodeList) (number : ℕ) (item : Option ListedNode) → item ≡ get_or list.nodes.items (number - 1) item → is_in_use (tree_listed list) number ≡ true
    → node_at (tree_listed list) number ≡ option_map node_listed item
listed_at list zero item is used = absurd (false≢true used)
listed_at list (suc before) item is used =
    let lt : before < length list.nodes.items = omega (arith, (is_number (tree_listed list) (suc before) used).within, length-map list.nodes.items (option_map node_listed)) in
    let same : suc before - 1 ≡ before = omega arith in
    get_or-map (option_map node_listed) list.nodes.items before item None lt ∙ ap (option_map node_listed) (ap (λ (k : ℕ). get_or list.nodes.items k item) (sym same) ∙ sym is)
