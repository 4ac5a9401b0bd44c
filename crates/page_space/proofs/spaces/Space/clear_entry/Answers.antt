use Rattle.std.proofs.Common.{◌≡◌, ◌/◌, ◌%◌, ◌<◌, ℕ, List, Option, get_or, set, length, None, Some, refl, sym, ap, subst, ◌∙◌, arith}
use Rattle.std.proofs.lemmas.Bool.{MatchBool-at_true, MatchBool-at_false}
use Rattle.std.proofs.lemmas.List.{length-set}
use Rattle.kabi_types.specs.declared.classes.Class.TheVariants as class
use Rattle.kheap_slabs.specs.Objects.{object, put, without}
use Rattle.kheap_slabs.specs.declared.objects.Node.{Node}
use Rattle.kheap_slabs.specs.declared.objects.PageEntry.TheVariants as entry
use Rattle.kheap_slabs.specs.Heap.{Heap}
use Rattle.kheap_slabs.specs.Spaces.{mapped_count, OwnsNodes}
use Rattle.kheap_slabs.proofs.ObjectLemmas.{InUse-within, object_of, object-put}
use Rattle.kheap_laws.proofs.PaidLemmas.{TakesNothing-trans, TakesNothing-freed}
use Rattle.kheap_laws.proofs.TableLemmas.{without-put}
use Rattle.page_space.specs.Entries.{entry_at, PageTurns}
use Rattle.kheap_laws.proofs.KeyPlaces.{key_there}
use Rattle.page_space.proofs.TurnLemmas.{turn-set, turn-clear}
use Rattle.page_space.proofs.spaces.Space.clear_entry.Goals as goal

-- the node of the key
node_of : (nodes : List (Option Node)) (space : List (Option ℕ)) (page key : ℕ) → OwnsNodes nodes space → get_or space (page / 64) None ≡ Some key
    → (node : Node) × (object nodes key ≡ Some node)
node_of nodes space page key owns named = object_of nodes key (owns.used key (key_there space (page / 64) key named))

-- what is read where an object was put is that object
read_back : (nodes now : List (Option Node)) (key : ℕ) (node value read : Node) → object nodes key ≡ Some node → now ≡ put nodes key value → object now key ≡ Some read → read ≡ value
read_back nodes now key node value read there put_is got =
    let stored : object (put nodes key value) key ≡ Some value = object-put nodes key value (InUse-within nodes key (rw there refl)) in
    some_is (sym got ∙ (ap (λ l. object l key) put_is ∙ stored))
  where
    some_is : {a b : Node} → Some a ≡ Some b → a ≡ b
    some_is same = cc

pub set_node_entry-requires-clause-used : goal.set_node_entry-requires-clause-used
set_node_entry-requires-clause-used c =
    c.requires.owns.used c.in-Some.key (key_there c.args.self.now (c.args.page / 64) c.in-Some.key
    (subst (λ (space : List (Option ℕ)). get_or space (c.args.page / 64) None ≡ Some c.in-Some.key) c.self.view_is c.in-Some.is))

pub returns-then-not-has_mapped-clause-turns : goal.returns-then-not-has_mapped-clause-turns
returns-then-not-has_mapped-clause-turns c =
    let nodes = c.args.heap.now.nodes in
    let space = c.args.self.now in
    let inside : List (Option ℕ) = c.self.inside.nodes in
    let page = c.args.page in
    let key = c.in-Some.key in
    let owns : OwnsNodes nodes inside = subst (λ (s : List (Option ℕ)). OwnsNodes nodes s) (sym c.self.view_is) c.requires.owns in
    let there = node_of nodes inside page key owns c.in-Some.is in
    let changed : Node = record { entries = set there.0.entries (page % 64) entry.Unmapped } in
    let put_is = ap (λ (h : Heap). h.nodes) (c.set_node_entry.ensures.kept there.0 there.1) in
    let same = read_back nodes c.set_node_entry.new.self.nodes key there.0 changed c.get_node.result.now there.1 put_is c.get_node.ensures in
    let long : length there.0.entries ≡ 64 = sym (length-set there.0.entries (page % 64) entry.Unmapped) ∙ (ap (λ (n : Node). length n.entries) (sym same) ∙ c.heap_is_well_formed.ensures.entries key c.get_node.result.now c.get_node.ensures) in
    let now : List (Option ℕ) = set inside (page / 64) None in
    let turned : PageTurns nodes c.free_node.new.self.nodes inside now page (entry_at nodes inside page) entry.Unmapped =
    subst (λ after. PageTurns nodes after inside now page (entry_at nodes inside page) entry.Unmapped)
    (sym (ap (λ (h : Heap). h.nodes) c.free_node.ensures.kept ∙ (ap (λ (l : List (Option Node)). without l key) put_is ∙ without-put nodes key changed)))
    (turn-clear nodes inside page key owns c.in-Some.is there.0 changed there.1 (omega (arith, long)) (omega (arith, c.self.invariant)) refl
    (subst (λ n. mapped_count n ≡ 0) same (MatchBool-at_false (0 < mapped_count c.get_node.result.now) (mapped_count c.get_node.result.now ≡ 0) c.if-not-has_mapped.true c.has_mapped.ensures))) in
    subst (λ (s : List (Option ℕ)). PageTurns nodes c.free_node.new.self.nodes s now page (entry_at nodes s page) entry.Unmapped) c.self.view_is turned

pub returns-then-not-has_mapped-clause-kept : goal.returns-then-not-has_mapped-clause-kept
returns-then-not-has_mapped-clause-kept c =
    let named : get_or c.args.self.now (c.args.page / 64) None ≡ Some c.in-Some.key = subst (λ (s : List (Option ℕ)). get_or s (c.args.page / 64) None ≡ Some c.in-Some.key) c.self.view_is c.in-Some.is in
    let there = node_of c.args.heap.now.nodes c.args.self.now c.args.page c.in-Some.key c.requires.owns named in
    rw (c.free_node.ensures.kept, c.set_node_entry.ensures.kept there.0 there.1) refl

pub returns-then-not-has_mapped-clause-takes : goal.returns-then-not-has_mapped-clause-takes
returns-then-not-has_mapped-clause-takes c =
    TakesNothing-trans c.args.heap.now c.set_node_entry.new.self c.free_node.new.self c.set_node_entry.ensures.takes
    (TakesNothing-freed class.Node c.set_node_entry.new.self c.free_node.new.self c.free_node.ensures.frees)

pub returns-else-not-has_mapped-clause-turns : goal.returns-else-not-has_mapped-clause-turns
returns-else-not-has_mapped-clause-turns c =
    let nodes = c.args.heap.now.nodes in
    let space = c.args.self.now in
    let page = c.args.page in
    let key = c.in-Some.key in
    let named : get_or space (page / 64) None ≡ Some key = subst (λ (s : List (Option ℕ)). get_or s (page / 64) None ≡ Some key) c.self.view_is c.in-Some.is in
    let there = node_of nodes space page key c.requires.owns named in
    let changed : Node = record { entries = set there.0.entries (page % 64) entry.Unmapped } in
    let put_is = ap (λ (h : Heap). h.nodes) (c.set_node_entry.ensures.kept there.0 there.1) in
    let same = read_back nodes c.set_node_entry.new.self.nodes key there.0 changed c.get_node.result.now there.1 put_is c.get_node.ensures in
    let long : length there.0.entries ≡ 64 = sym (length-set there.0.entries (page % 64) entry.Unmapped) ∙ (ap (λ (n : Node). length n.entries) (sym same) ∙ c.heap_is_well_formed.ensures.entries key c.get_node.result.now c.get_node.ensures) in
    subst (λ after. PageTurns nodes after space space page (entry_at nodes space page) entry.Unmapped) (sym put_is)
    (turn-set nodes space page key c.requires.owns named there.0 changed entry.Unmapped there.1 (omega (arith, long)) refl
    (subst (λ n. 0 < mapped_count n) same (MatchBool-at_true (0 < mapped_count c.get_node.result.now) (mapped_count c.get_node.result.now ≡ 0) c.if-not-has_mapped.false c.has_mapped.ensures)))

pub returns-else-not-has_mapped-clause-kept : goal.returns-else-not-has_mapped-clause-kept
returns-else-not-has_mapped-clause-kept c =
    let named : get_or c.args.self.now (c.args.page / 64) None ≡ Some c.in-Some.key = subst (λ (s : List (Option ℕ)). get_or s (c.args.page / 64) None ≡ Some c.in-Some.key) c.self.view_is c.in-Some.is in
    let there = node_of c.args.heap.now.nodes c.args.self.now c.args.page c.in-Some.key c.requires.owns named in
    rw (c.set_node_entry.ensures.kept there.0 there.1) refl
