use Rattle.std.proofs.Common.{suc, ◌∷◌, None, Some, drop, subst, add-one}
use Rattle.kheap_slabs.specs.Spaces.{keys_in}
use Rattle.usock_core.proofs.CloseLemmas.{Leaves, leaves_next, closable_first, keys_behind}
use Rattle.usock_core.specs.Standing.{AreLooseIn}
use Rattle.usock_core.proofs.closing.hang_up_all.Goals as goal
use Rattle.usock_core.proofs.closing.hang_up_all.Goals.{in-Some, in_default}

pub hang_up-requires-clause-there : goal.hang_up-requires-clause-there
hang_up-requires-clause-there c =
    let named = keys_behind c.args.keys.now c.loop-key.key-index (Some c.in-Some.key) c.loop-key-test.true c.in-Some.is in
    let rest = keys_in (drop (suc c.loop-key.key-index) c.args.keys.now) in
    closable_first c.loop-key.heap c.in-Some.key rest (subst (AreLooseIn c.loop-key.heap) named c.loop-key.invariant.there)

pub loop-key-preserved : goal.loop-key-preserved
loop-key-preserved c =
    let all = keys_in c.args.keys.now in
    let rest = keys_in (drop (suc c.loop-key.key-index) c.args.keys.now) in
    rw (add-one c.loop-key.key-index) (elim c.match-key.branch [
      | in-Some w ↦
          let named = keys_behind c.args.keys.now c.loop-key.key-index (Some w.in-Some.key) c.loop-key-test.true w.in-Some.is in
          let leaves : Leaves c.args.heap.now c.loop-key.heap all (w.in-Some.key ∷ rest) = subst (Leaves c.args.heap.now c.loop-key.heap all) named c.loop-key.invariant in
          rw w.heap-is (leaves_next c.args.heap.now c.loop-key.heap w.hang_up.new.heap all rest w.in-Some.key leaves w.hang_up.ensures.owned w.hang_up.ensures.others w.hang_up.ensures.queues w.hang_up.ensures.takes w.hang_up.ensures.stands)
      | in_default w ↦
          let named = keys_behind c.args.keys.now c.loop-key.key-index None c.loop-key-test.true w.in_default.is in
          rw w.heap-is (subst (Leaves c.args.heap.now c.loop-key.heap all) named c.loop-key.invariant)
    ])
