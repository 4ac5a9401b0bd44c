-- Nodes come into a set: the one that a process works in, and those that it has open.
use Rattle.std.proofs.Common.{◌≡◌, ℕ, ◌==◌, ◌&&◌, ◌||◌, not, Bool, true, false, List, ◌++◌, get_or, length, Option, None, Some, is_none, is_some, nat_lt, refl, ap, sym, ◌∙◌}
use Rattle.std.proofs.lemmas.List.Folds.{list_any-append}
use Rattle.kheap_slabs.specs.declared.objects.Descriptor.{Descriptor}
use Rattle.kheap_slabs.specs.declared.objects.Proc.{Proc}
use Rattle.path_calls.specs.Nodes.{Adds, has_node, holds_node, most_nodes, opens_at, some_opens, works_at}
use Rattle.path_calls.specs.declared.node_set.NodeSet.{NodeSet}
use Rattle.kheap_slabs.specs.Heap.{Heap}
use Rattle.kheap_slabs.specs.Leaves.{row_at}
use Rattle.kheap_laws.proofs.LeafLemmas.{numbers_by-three}
use Rattle.proc_table.specs.Procs.{numbers_in}

-- a test holds where another does, and the other way round
pub alike : (a b : Bool) → (a ≡ true → b ≡ true) → (b ≡ true → a ≡ true) → a ≡ b
alike true b to from = sym (to refl)
alike false true to from = from refl
alike false false to from = refl

-- a test that is told the other way round
pub none_told : (o : Option ℕ) (told : Bool) → is_some o ≡ not told → is_none o ≡ told
none_told None true e = refl
none_told None false e = cc
none_told (Some status) true e = cc
none_told (Some status) false e = refl

-- what comes in at once and what comes in one after the other
pub both_more : (was one other may : Bool) → ((was || (may && one)) || (may && other)) ≡ (was || (may && (one || other)))
both_more true one other may = refl
both_more false one other true = refl
both_more false one other false = refl

-- who runs has the node in that he works in
pub works_added : (old new : NodeSet) (proc : Proc) → is_none proc.status ≡ true → Adds old new (λ number. proc.cwd == number) → Adds old new (λ number. works_at number proc)
works_added old new proc runs adds = λ number.
    adds number ∙ ap (λ b. has_node old number || (nat_lt number most_nodes && (b && proc.cwd == number))) (sym runs)

-- and who has ended works nowhere
pub works_nowhere : (set : NodeSet) (proc : Proc) → is_none proc.status ≡ false → Adds set set (λ number. works_at number proc)
works_nowhere set proc ended = λ number.
    sym (ap (λ b. has_node set number || (nat_lt number most_nodes && (b && proc.cwd == number))) ended ∙ either (has_node set number) (nat_lt number most_nodes))
  where
    either : (was may : Bool) → (was || (may && false)) ≡ was
    either true may = refl
    either false true = refl
    either false false = refl

-- what two add
pub both_added : (old mid new : NodeSet) (one other : ℕ → Bool) → Adds old mid one → Adds mid new other → Adds old new (λ number. one number || other number)
both_added old mid new one other first second = λ number.
    second number
    ∙ ap (λ b. b || (nat_lt number most_nodes && other number)) (first number)
    ∙ both_more (has_node old number) (one number) (other number) (nat_lt number most_nodes)

-- so all are in that a process holds: the node that it works in, and those of its own row and of its Leaves'
pub held_added : (old mid own one two new : NodeSet) (h : Heap) (proc : Proc) → length proc.leaves ≡ 3 → Adds old mid (λ number. works_at number proc)
    → Adds mid own (some_opens h proc.descriptors) → Adds own one (some_opens h (row_at h.leaves (get_or proc.leaves 0 None)))
    → Adds one two (some_opens h (row_at h.leaves (get_or proc.leaves 1 None))) → Adds two new (some_opens h (row_at h.leaves (get_or proc.leaves 2 None)))
    → Adds old new (λ number. holds_node h number proc)
held_added old mid own one two new h proc three works row first second last = λ number.
    both_added old mid new (λ n. works_at n proc) opened works
    (both_added mid own new (some_opens h proc.descriptors) later row (both_added own one new (leaf_opens 0) (λ n. leaf_opens 1 n || leaf_opens 2 n) first (both_added one two new (leaf_opens 1) (leaf_opens 2) second last)))
    number
    ∙ ap (λ b. has_node old number || (nat_lt number most_nodes && (works_at number proc || b))) (sym (all_opened number))
  where
    leaf_row : ℕ → List (Option Descriptor)
    leaf_row at = row_at h.leaves (get_or proc.leaves at None)

    leaf_opens : ℕ → ℕ → Bool
    leaf_opens at number = some_opens h (leaf_row at) number

    later : ℕ → Bool
    later n = leaf_opens 0 n || (leaf_opens 1 n || leaf_opens 2 n)

    opened : ℕ → Bool
    opened n = some_opens h proc.descriptors n || later n

    all_opened : (n : ℕ) → some_opens h (numbers_in h proc) n ≡ opened n
    all_opened n =
        ap (λ places. some_opens h places n) (numbers_by-three h.leaves proc.descriptors proc.leaves three)
        ∙ list_any-append (opens_at h n) proc.descriptors (leaf_row 0 ++ (leaf_row 1 ++ leaf_row 2))
        ∙ ap (λ b. some_opens h proc.descriptors n || b)
        (list_any-append (opens_at h n) (leaf_row 0) (leaf_row 1 ++ leaf_row 2) ∙ ap (λ b. leaf_opens 0 n || b) (list_any-append (opens_at h n) (leaf_row 1) (leaf_row 2)))

-- nothing comes in where there is no node
pub added_none : (set : NodeSet) → Adds set set (λ number. false)
added_none set = λ number. sym (either (has_node set number) (nat_lt number most_nodes))
  where
    either : (was may : Bool) → (was || (may && false)) ≡ was
    either true may = refl
    either false true = refl
    either false false = refl
