use Rattle.std.proofs.Common.{◌≡◌, ℕ, Option, Some, None, IsSome, refl, sym, ◌∙◌, subst}
use Rattle.kheap_slabs.specs.declared.objects.Name.{Name}
use Rattle.lru_index.specs.NameKeys.{name_key}
use Rattle.lru_index.specs.declared.keys.NameKey.{NameKey}
use Rattle.name_cache.specs.Names.{same_key, name_slot, cached_node}
use Rattle.cached_disk.specs.TreeLent.{tree_parts}
use Rattle.cached_disk.proofs.Absent.{some_slot_of}
use Rattle.cached_disk.proofs.NamesStep.{name_absent}
use Rattle.cached_disk.proofs.Asking.{no_entry_name, cached_is_found, stands_same, if_some}
use Rattle.cached_disk.proofs.QueriesInTurn.{tree_reordered_refl}
use Rattle.cached_disk.proofs.dirs.find_name.Goals as goal

pub returns-in_default-clause-value : goal.returns-in_default-clause-value
returns-in_default-clause-value c = λ tree stands. no_entry_name tree c.args.dir c.args.name.now stands.is_tree c.in_default.ensures.none

pub returns-in_default-clause-asked : goal.returns-in_default-clause-asked
returns-in_default-clause-asked c = record {
  saved = λ some. tree_reordered_refl _ _ refl;
  kept = λ tree node stands at. let none = no_entry_name tree c.args.dir c.args.name.now stands.is_tree c.in_default.ensures.none in absurd (cc);
}

pub find_beyond-requires-clause-absent : goal.find_beyond-requires-clause-absent
find_beyond-requires-clause-absent c =
    subst (λ (k : NameKey). name_slot c.get.new.self k ≡ None) c.in-Some.ensures.some.0 (c.get.ensures.same c.in-Some.key ∙ name_absent c.args.heap.now c.args.purse.now c.args.names.now c.in-Some.key c.requires.lent.of_names (sym c.in-None.ensures.value))

pub returns-in-Some-get-clause-value : goal.returns-in-Some-get-clause-value
returns-in-Some-get-clause-value c = λ tree stands.
    let key = c.in-Some.ensures.some.0 in
    let is = subst (λ (k : NameKey). cached_node c.args.heap.now.names c.args.names.now k ≡ Some c.in-Some-get.node) key (sym c.in-Some-get.ensures.value) in
    cached_is_found tree (tree_parts c.args.heap.now c.args.purse.now c.args.names.now c.args.vnodes.now c.args.blocks.now c.args.disk.now) c.args.dir c.args.name.now c.in-Some-get.node stands c.requires.lent.of_names is

pub returns-in-Some-get-clause-asked : goal.returns-in-Some-get-clause-asked
returns-in-Some-get-clause-asked c =
    let key = c.in-Some.ensures.some.0 in
    let is = subst (λ (k : NameKey). cached_node c.args.heap.now.names c.args.names.now k ≡ Some c.in-Some-get.node) key (sym c.in-Some-get.ensures.value) in
    let there = some_slot_of same_key (λ (n : Name). n.node) c.args.heap.now.names c.args.names.now (name_key c.args.dir c.args.name.now) c.in-Some-get.node is in
    record {
      saved = λ some. record { heap = refl; purse = refl; disk = refl; names = c.get.ensures.same; nodes = λ number. refl; blocks = λ number. refl };
      kept = λ tree node stands at. subst (λ (o : Option ℕ). IsSome o) (sym (c.get.ensures.same (name_key c.args.dir c.args.name.now))) there;
    }

pub returns-in-None-clause-value : goal.returns-in-None-clause-value
returns-in-None-clause-value c = λ tree stands.
    let s = stands_same c.args.heap.now c.args.purse.now c.args.purse.now c.args.names.now c.get.new.self c.args.vnodes.now c.args.vnodes.now c.args.blocks.now c.args.blocks.now c.args.disk.now tree stands in
    c.find_beyond.ensures.value tree s

pub returns-in-None-clause-stands : goal.returns-in-None-clause-stands
returns-in-None-clause-stands c = λ tree stands.
    c.find_beyond.ensures.stands tree (stands_same c.args.heap.now c.args.purse.now c.args.purse.now c.args.names.now c.get.new.self c.args.vnodes.now c.args.vnodes.now c.args.blocks.now c.args.blocks.now c.args.disk.now tree stands)

pub returns-in-None-clause-asked : goal.returns-in-None-clause-asked
returns-in-None-clause-asked c =
    let key = c.in-Some.ensures.some.0 in
    let absent : name_slot c.args.names.now (name_key c.args.dir c.args.name.now) ≡ None = subst (λ (k : NameKey). name_slot c.args.names.now k ≡ None) key (name_absent c.args.heap.now c.args.purse.now c.args.names.now c.in-Some.key c.requires.lent.of_names (sym c.in-None.ensures.value)) in
    record {
      saved = λ some. let none : IsSome {T = ℕ} None = subst (λ (o : Option ℕ). IsSome o) absent some in absurd (cc);
      kept = λ tree node stands at.
          let s = stands_same c.args.heap.now c.args.purse.now c.args.purse.now c.args.names.now c.get.new.self c.args.vnodes.now c.args.vnodes.now c.args.blocks.now c.args.blocks.now c.args.disk.now tree stands in
          let is : c.find_beyond.result ≡ Some node = c.find_beyond.ensures.value tree s ∙ at in
          if_some (IsSome (name_slot c.find_beyond.new.names (name_key c.args.dir c.args.name.now))) c.find_beyond.result node is c.find_beyond.ensures.kept;
    }
