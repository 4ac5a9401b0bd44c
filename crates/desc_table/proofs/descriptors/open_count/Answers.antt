use Rattle.std.proofs.Common.{ℕ, List, Option, count_by, is_some, arith}
use Rattle.kheap_slabs.specs.Leaves.{numbers_by, row_at}
use Rattle.kheap_slabs.specs.declared.objects.Leaf.{Leaf}
use Rattle.kheap_laws.proofs.LeafLemmas.{numbers_by-count}
use Rattle.desc_table.proofs.NumberLemmas.{count_seen, leaf_used, sum_three}
use Rattle.desc_table.proofs.descriptors.open_count.Goals as goal

pub open_in-requires : goal.open_in-requires
open_in-requires c = leaf_used c.args.heap.now.leaves c.args.proc.now.leaves 0 c.requires.owns

pub open_in-requires-2 : goal.open_in-requires-2
open_in-requires-2 c = leaf_used c.args.heap.now.leaves c.args.proc.now.leaves 1 c.requires.owns

pub open_in-requires-3 : goal.open_in-requires-3
open_in-requires-3 c = leaf_used c.args.heap.now.leaves c.args.proc.now.leaves 2 c.requires.owns

pub returns-clause-count : goal.returns-clause-count
returns-clause-count c =
    let leaves : List (Option Leaf) = c.args.heap.now.leaves in
    let keys : List (Option ℕ) = c.args.proc.now.leaves in
    let all = numbers_by-count is_some leaves c.args.proc.now.descriptors keys in
    let three = sum_three (λ (k : Option ℕ). count_by is_some (row_at leaves k)) keys c.requires.rows.leaves in
    let first = c.open_among.ensures.count in
    let one = c.open_in.ensures.count in
    let two = c.open_in-2.ensures.count in
    let last = c.open_in-3.ensures.count in
    let seen = count_seen (numbers_by leaves c.args.proc.now.descriptors keys) in
    omega (arith, all, three, first, one, two, last, seen)
