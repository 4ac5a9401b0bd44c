use Rattle.std.proofs.Common.{None, get_or, ◌∙◌, subst, sym, arith}
use Rattle.kheap_slabs.specs.Leaves.{row_at}
use Rattle.kheap_slabs.specs.Objects.{object}
use Rattle.kheap_laws.proofs.KeyPlaces.{key_there}
use Rattle.proc_table.proofs.PlaceLemmas.{some_same}
use Rattle.path_calls.specs.Nodes.{Adds, holds_node, works_at}
use Rattle.path_calls.proofs.Adding.{held_added, none_told, works_added, works_nowhere}
use Rattle.path_calls.proofs.Opened.{desc_named, leaf_part}
use Rattle.path_calls.specs.declared.node_set.NodeSet.{NodeSet}
use Rattle.path_calls.proofs.held.add_held.Goals as goal
use Rattle.path_calls.proofs.held.add_held.Goals.{then-is_none, else-is_none}

-- ---- what the rows of Leaves name is there

pub add_leaf-requires-clause-named : goal.add_leaf-requires-clause-named
add_leaf-requires-clause-named c = λ fd held is.
    let proc = c.get_proc-proc.result.now in
    let there = c.get_proc-proc.ensures in
    let three = c.requires.whole.leaves c.args.key proc there in
    desc_named c.args.heap.now c.args.key proc (row_at c.args.heap.now.leaves (get_or proc.leaves 0 None)) fd held c.requires.owners there
    (leaf_part c.args.heap.now proc held.desc 0 (omega (arith, three))) is

pub add_leaf-requires-2-clause-named : goal.add_leaf-requires-2-clause-named
add_leaf-requires-2-clause-named c = λ fd held is.
    let proc = c.get_proc-proc.result.now in
    let there = c.get_proc-proc.ensures in
    let three = c.requires.whole.leaves c.args.key proc there in
    desc_named c.args.heap.now c.args.key proc (row_at c.args.heap.now.leaves (get_or proc.leaves 1 None)) fd held c.requires.owners there
    (leaf_part c.args.heap.now proc held.desc 1 (omega (arith, three))) is

pub add_leaf-requires-3-clause-named : goal.add_leaf-requires-3-clause-named
add_leaf-requires-3-clause-named c = λ fd held is.
    let proc = c.get_proc-proc.result.now in
    let there = c.get_proc-proc.ensures in
    let three = c.requires.whole.leaves c.args.key proc there in
    desc_named c.args.heap.now c.args.key proc (row_at c.args.heap.now.leaves (get_or proc.leaves 2 None)) fd held c.requires.owners there
    (leaf_part c.args.heap.now proc held.desc 2 (omega (arith, three))) is

-- ---- and so are they

pub add_leaf-requires-2-clause-there : goal.add_leaf-requires-2-clause-there
add_leaf-requires-2-clause-there c = λ key is.
    let proc = c.get_proc-proc.result.now in
    (c.requires.owns proc c.get_proc-proc.ensures).used key (key_there proc.leaves 1 key is)

pub add_leaf-requires-3-clause-there : goal.add_leaf-requires-3-clause-there
add_leaf-requires-3-clause-there c = λ key is.
    let proc = c.get_proc-proc.result.now in
    (c.requires.owns proc c.get_proc-proc.ensures).used key (key_there proc.leaves 2 key is)

pub returns : goal.returns
returns c = λ proc is.
    let held = c.get_proc-proc.result.now in
    let told = none_told held.status c.is_none.result c.is_none.ensures in
    let works : Adds c.args.nodes.now c.if-is_none.nodes (λ number. works_at number held) = elim c.if-is_none.branch [
      | then-is_none w ↦ subst (λ (set : NodeSet). Adds c.args.nodes.now set (λ number. works_at number held)) (sym w.nodes-is)
          (works_added c.args.nodes.now w.add.new.self held (told ∙ w.if-is_none.true) w.add.ensures)
      | else-is_none w ↦ subst (λ (set : NodeSet). Adds c.args.nodes.now set (λ number. works_at number held)) (sym w.nodes-is)
          (works_nowhere c.args.nodes.now held (told ∙ w.if-is_none.false))
    ] in
    subst (λ p. Adds c.args.nodes.now c.add_leaf-3.new.nodes (λ number. holds_node c.args.heap.now number p))
    (some_same (object c.args.heap.now.procs c.args.key) held proc c.get_proc-proc.ensures is)
    (held_added c.args.nodes.now c.if-is_none.nodes c.add_row.new.nodes c.add_leaf.new.nodes c.add_leaf-2.new.nodes c.add_leaf-3.new.nodes c.args.heap.now held
    (c.requires.whole.leaves c.args.key held c.get_proc-proc.ensures) works c.add_row.ensures c.add_leaf.ensures c.add_leaf-2.ensures c.add_leaf-3.ensures)
