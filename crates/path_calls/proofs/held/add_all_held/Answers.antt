use Rattle.std.proofs.Common.{◌<◌, length, arith}
use Rattle.kheap_slabs.proofs.ObjectLemmas.{object_of}
use Rattle.path_calls.proofs.Walking.{here, is_there, one_added, owns_key}
use Rattle.path_calls.proofs.held.add_all_held.Goals as goal

pub add_held-requires-clause-owns : goal.add_held-requires-clause-owns
add_held-requires-clause-owns c = λ proc is.
    owns_key c.args.heap.now c.args.procs.now (here c.args.heap.now c.args.heap.now.procs c.args.procs.now.listed c.listed-place-items.result.now c.loop-place.place-index (let test = c.loop-place-test.true in omega (arith, test))).key proc c.requires.listed is

pub loop-place-preserved : goal.loop-place-preserved
loop-place-preserved c =
    let within : c.loop-place.place-index < length c.listed-place-items.result.now = (let test = c.loop-place-test.true in omega (arith, test)) in
    let used = is_there c.args.heap.now c.args.heap.now.procs c.args.procs.now.listed c.listed-place-items.result.now c.loop-place.place-index within c.loop-place.nodes c.loop-place.invariant in
    let at = object_of c.args.heap.now.procs (here c.args.heap.now c.args.heap.now.procs c.args.procs.now.listed c.listed-place-items.result.now c.loop-place.place-index within).key used in
    one_added c.args.heap.now c.args.heap.now.procs c.args.procs.now.listed c.listed-place-items.result.now c.loop-place.place-index within c.loop-place.nodes c.add_held.new.nodes c.loop-place.invariant
    at.0 at.1 (c.add_held.ensures at.0 at.1)
