use Rattle.std.proofs.Common.{◌≡◌, ◌/◌, ◌%◌, ℕ, List, Option, get_or, set, None, Some, refl, sym, ap, ◌∙◌, subst, arith}
use Rattle.kheap_slabs.specs.Objects.{count}
use Rattle.kheap_slabs.proofs.ObjectLemmas.{count-put_used, object_of}
use Rattle.page_space.specs.Entries.{entry_at, PageTurns}
use Rattle.kheap_laws.proofs.KeyPlaces.{key_there}
use Rattle.page_space.proofs.TurnLemmas.{turn-set, mapped_set}
use Rattle.page_space.proofs.spaces.Space.set_entry.Goals as goal

pub set_node_entry-requires-clause-used : goal.set_node_entry-requires-clause-used
set_node_entry-requires-clause-used c =
    c.requires.owns.used c.in-Some.key (key_there c.args.self.now (c.args.page / 64) c.in-Some.key
    (subst (λ (space : List (Option ℕ)). get_or space (c.args.page / 64) None ≡ Some c.in-Some.key) c.self.view_is c.in-Some.is))

pub returns-clause-turns : goal.returns-clause-turns
returns-clause-turns c =
    let nodes = c.args.heap.now.nodes in
    let space = c.args.self.now in
    let page = c.args.page in
    let named : get_or space (page / 64) None ≡ Some c.in-Some.key = subst (λ (s : List (Option ℕ)). get_or s (page / 64) None ≡ Some c.in-Some.key) c.self.view_is c.in-Some.is in
    let there = object_of nodes c.in-Some.key (c.requires.owns.used c.in-Some.key (key_there space (page / 64) c.in-Some.key named)) in
    let node = there.0 in
    let was = entry_at nodes space page in
    let long = c.heap_is_well_formed.ensures.entries c.in-Some.key node there.1 in
    subst (λ after. PageTurns nodes after space space page was c.args.entry) (sym (ap (λ h. h.nodes) (c.set_node_entry.ensures.kept node there.1)))
    (turn-set nodes space page c.in-Some.key c.requires.owns named
    node (record { entries = set node.entries (page % 64) c.args.entry }) c.args.entry there.1 (omega (arith, long)) refl
    (mapped_set node.entries (page % 64) c.args.entry (omega (arith, long)) c.requires.mapped))

pub returns-clause-kept : goal.returns-clause-kept
returns-clause-kept c =
    let space = c.args.self.now in
    let named : get_or space (c.args.page / 64) None ≡ Some c.in-Some.key = subst (λ (s : List (Option ℕ)). get_or s (c.args.page / 64) None ≡ Some c.in-Some.key) c.self.view_is c.in-Some.is in
    let there = object_of c.args.heap.now.nodes c.in-Some.key (c.requires.owns.used c.in-Some.key (key_there space (c.args.page / 64) c.in-Some.key named)) in
    rw (c.set_node_entry.ensures.kept there.0 there.1) refl

pub returns-clause-count : goal.returns-clause-count
returns-clause-count c =
    let space = c.args.self.now in
    let named : get_or space (c.args.page / 64) None ≡ Some c.in-Some.key = subst (λ (s : List (Option ℕ)). get_or s (c.args.page / 64) None ≡ Some c.in-Some.key) c.self.view_is c.in-Some.is in
    let used = c.requires.owns.used c.in-Some.key (key_there space (c.args.page / 64) c.in-Some.key named) in
    let there = object_of c.args.heap.now.nodes c.in-Some.key used in
    ap (λ h. count h.nodes) (c.set_node_entry.ensures.kept there.0 there.1) ∙ count-put_used c.args.heap.now.nodes c.in-Some.key _ used
