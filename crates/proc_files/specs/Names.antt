-- Which socket of the heap is bound to which node of the tree, and the table that has it by nodes.
use Rattle.std.specs.Prelude.{ℕ, ◌≡◌, List, Option, None, Some}
use Rattle.kheap_slabs.specs.Objects.{object, without}
use Rattle.kheap_slabs.specs.declared.objects.Sock.{Sock}

-- the node that a socket is bound to, if it is bound to one
abbrev pub name_in : Option Sock → Option ℕ
name_in None = None
name_in (Some sock) = sock.node

-- the same of the socket of a key; None where there is none
abbrev pub name_of : List (Option Sock) → ℕ → Option ℕ
name_of socks key = name_in (object socks key)

-- The table has at each node the key that is bound to it, and no other: so each node is one key's at most.
pub record AreBound (name : ℕ → Option ℕ) (names : List (Option ℕ)) : Type 0 where
  pub bound : (node key : ℕ) → object names node ≡ Some key → name key ≡ Some node
  pub named : (key node : ℕ) → name key ≡ Some node → object names node ≡ Some key

-- the table once nobody is bound to a node any more, if there is one
abbrev pub freed_from : List (Option ℕ) → Option ℕ → List (Option ℕ)
freed_from names None = names
freed_from names (Some node) = without names node
