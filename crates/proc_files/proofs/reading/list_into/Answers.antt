use Rattle.std.proofs.Common.{◌≤◌, ◌++◌, ◌∙◌, ap, drop, length, subst, sym, take, arith}
use Rattle.std.proofs.lemmas.List.{length-take-le}
use Rattle.posix_defs.specs.Needs.{pages_touched}
use Rattle.posix_defs.specs.PathCalls.{list_node}
use Rattle.proc_numbers.proofs.Capped.{touched_fewer}
use Rattle.proc_files.proofs.Lengths.{list_few}
use Rattle.proc_files.proofs.Ranges.{fetched_owned, fetched_pages, front_fits, front_taken, reads_node}
use Rattle.proc_files.proofs.reading.list_into.Goals as goal

pub list_node-count-requires-clause-stands : goal.list_node-count-requires-clause-stands
list_node-count-requires-clause-stands c = let it = c.requires.directory in (it.tree, it.pins, it.stands, it.held, it.is_dir)

pub slice_bounds-copy_in-end : goal.slice_bounds-copy_in-end
slice_bounds-copy_in-end c =
    let it = c.requires.directory in
    sym (length-take-le c.list_node-count.result c.list_node-count.new.out
    (front_fits c.list_node-count.result (list_node it.tree c.args.node c.args.at _) _ c.list_node-count.new.out (c.list_node-count.ensures.bytes it.tree it.pins it.stands) (c.list_node-count.ensures.count it.tree it.pins it.stands)))

pub copy_in-requires-clause-within : goal.copy_in-requires-clause-within
copy_in-requires-clause-within c =
    let it = c.requires.directory in
    let room = length-take-le c.args.range.now.count c.args.buffer.now (let few = c.requires.few in omega (arith, few)) in
    let fits = front_fits c.list_node-count.result (list_node it.tree c.args.node c.args.at _) _ c.list_node-count.new.out (c.list_node-count.ensures.bytes it.tree it.pins it.stands) (c.list_node-count.ensures.count it.tree it.pins it.stands) in
    let long = length-take-le c.list_node-count.result c.list_node-count.new.out fits in
    let count = c.list_node-count.ensures.count it.tree it.pins it.stands ∙ ap (λ n. length (list_node it.tree c.args.node c.args.at n)) room in
    let fewer = list_few it.tree c.args.node c.args.at c.args.range.now.count in
    let within = c.requires.within in omega (arith, long, count, fewer, within)

pub copy_in-requires-clause-owned : goal.copy_in-requires-clause-owned
copy_in-requires-clause-owned c =
    fetched_owned c.args.heap.now c.list_node-count.new.heap c.args.purse.now c.list_node-count.new.purse c.args.tree.now c.list_node-count.new.self c.list_node-count.ensures.fetches c.args.range.now.space c.requires.owned

pub copy_in-requires-clause-room : goal.copy_in-requires-clause-room
copy_in-requires-clause-room c = c.list_node-count.ensures.fetches.may.pays

pub copy_in-requires-clause-left : goal.copy_in-requires-clause-left
copy_in-requires-clause-left c =
    let it = c.requires.directory in
    let room = length-take-le c.args.range.now.count c.args.buffer.now (let few = c.requires.few in omega (arith, few)) in
    let fits = front_fits c.list_node-count.result (list_node it.tree c.args.node c.args.at _) _ c.list_node-count.new.out (c.list_node-count.ensures.bytes it.tree it.pins it.stands) (c.list_node-count.ensures.count it.tree it.pins it.stands) in
    let long = length-take-le c.list_node-count.result c.list_node-count.new.out fits in
    let count = c.list_node-count.ensures.count it.tree it.pins it.stands ∙ ap (λ n. length (list_node it.tree c.args.node c.args.at n)) room in
    let few = list_few it.tree c.args.node c.args.at c.args.range.now.count in
    let fewer = touched_fewer c.args.range.now.start c.list_node-count.result c.args.range.now.count (omega (arith, count, few)) in
    let left = c.requires.left in
    let same = fetched_pages c.args.heap.now c.list_node-count.new.heap c.args.purse.now c.list_node-count.new.purse c.args.tree.now c.list_node-count.new.self c.list_node-count.ensures.fetches in
    subst (λ n. pages_touched c.args.range.now.start n ≤ c.list_node-count.new.purse.left.page) (sym long) (omega (arith, fewer, left, same))

pub returns-clause-reads : goal.returns-clause-reads
returns-clause-reads c = λ plain pins stands.
    let room = length-take-le c.args.range.now.count c.args.buffer.now (let few = c.requires.few in omega (arith, few)) in
    reads_node c.args.heap.now c.list_node-count.new.heap c.args.purse.now c.list_node-count.new.purse c.args.tree.now c.list_node-count.new.self c.list_node-count.ensures.fetches c.copy_in.new.heap c.copy_in.new.purse
    c.args.range.now.space c.args.range.now.start c.list_node-count.result (list_node plain c.args.node c.args.at c.args.range.now.count) c.list_node-count.new.out
    (front_taken c.list_node-count.result (list_node plain c.args.node c.args.at c.args.range.now.count) _ c.list_node-count.new.out
    (c.list_node-count.ensures.bytes plain pins stands ∙ ap (λ n. list_node plain c.args.node c.args.at n ++ drop c.list_node-count.result (take c.args.range.now.count c.args.buffer.now)) room)
    (c.list_node-count.ensures.count plain pins stands ∙ ap (λ n. length (list_node plain c.args.node c.args.at n)) room))
    c.copy_in.ensures.puts

pub returns-clause-count : goal.returns-clause-count
returns-clause-count c = λ plain pins stands.
    let room = length-take-le c.args.range.now.count c.args.buffer.now (let few = c.requires.few in omega (arith, few)) in
    c.list_node-count.ensures.count plain pins stands ∙ ap (λ n. length (list_node plain c.args.node c.args.at n)) room

pub returns-clause-saved : goal.returns-clause-saved
returns-clause-saved c = c.list_node-count.ensures.saved

pub returns-clause-last : goal.returns-clause-last
returns-clause-last c = c.list_node-count.ensures.last
