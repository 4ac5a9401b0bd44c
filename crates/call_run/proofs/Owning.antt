-- Each process of the table owns its nodes.
use Rattle.std.proofs.Common.{◌≡◌, ℕ, ◌<◌, List, [], ◌∷◌, ◌++◌, Option, Some}
use Rattle.std.specs.List.{AllByRecursion, Contains}
use Rattle.std.proofs.lemmas.List.Elements.{Contains-append_left, Contains-append_right}
use Rattle.kheap_slabs.specs.Objects.{InUse, object}
use Rattle.kheap_slabs.specs.declared.objects.Node.{Node}
use Rattle.kheap_slabs.specs.declared.objects.Proc.{Proc}
use Rattle.kheap_slabs.specs.Heap.{Heap}
use Rattle.kheap_slabs.specs.Keys.{IsOnce}
use Rattle.kheap_slabs.specs.Owners.{IsOwned, node_keys}
use Rattle.kheap_slabs.specs.Spaces.{OwnsNodes, keys_in, mapped_count}
use Rattle.kheap_laws.proofs.OnceLemmas.{IsOnce-left, IsOnce-right}
use Rattle.proc_table.specs.Table.{Holds, TableView, processes, with_procs}
use Rattle.proc_table.proofs.OwnLemmas.{spaces_in}

-- the process owns its nodes
abbrev pub Owns : List (Option Node) → Proc → Type 0
Owns nodes proc = OwnsNodes nodes proc.nodes

each_owns : (nodes : List (Option Node)) (procs : List Proc) (rest : List (List (Option ℕ))) → ((key : ℕ) (node : Node) → object nodes key ≡ Some node → 0 < mapped_count node)
    → ((key : ℕ) → Contains (node_keys (spaces_in procs ++ rest)) key → InUse nodes key) → IsOnce (node_keys (spaces_in procs ++ rest))
    → AllByRecursion (Owns nodes) procs
each_owns nodes [] rest mapped used once = tt
each_owns nodes (proc ∷ procs) rest mapped used once =
    let others = node_keys (spaces_in procs ++ rest) in (
      record {
        used = λ key there. used key (Contains-append_left (keys_in proc.nodes) others key there);
        mapped = λ key node there is. mapped key node is;
        once = IsOnce-left (keys_in proc.nodes) others once;
      },
      each_owns nodes procs rest mapped (λ key there. used key (Contains-append_right (keys_in proc.nodes) others key there)) (IsOnce-right (keys_in proc.nodes) others once),
    )

pub all_own : (h : Heap) (kept : TableView) → Holds h kept → AllByRecursion (Owns h.nodes) (processes h kept)
all_own h kept holds =
    let owned : IsOwned h (with_procs (processes h kept) holds.owned.0) = holds.owned.1 in
    each_owns h.nodes (processes h kept) holds.owned.0.spaces owned.mapped owned.nodes.used owned.nodes.once
