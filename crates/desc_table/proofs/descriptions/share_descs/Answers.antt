use Rattle.std.proofs.Common.{None, Some, sym, subst, add-one}
use Rattle.kheap_slabs.specs.Heap.{Heap}
use Rattle.open_laws.specs.Open.{AreOpen}
use Rattle.open_laws.specs.Owned.{HasItsOwners}
use Rattle.open_laws.specs.Sharing.{after_shares, hand_with}
use Rattle.open_laws.proofs.ShareLemmas.{all_shared, behind, opened_all, owners_all, shares_next, shares_none}
use Rattle.desc_table.proofs.descriptions.share_descs.Goals as goal
use Rattle.desc_table.proofs.descriptions.share_descs.Goals.{in-Some, in_default}

pub loop-place-preserved : goal.loop-place-preserved
loop-place-preserved c =
    let all = c.args.places.now in
    let at = c.loop-place.place-index in
    rw (add-one at) (elim c.match-place.branch [
      | in-Some w ↦
          rw w.heap-is (shares_next c.args.heap.now c.loop-place.heap w.share_desc.new.heap all at w.in-Some.descriptor
          (behind all at (Some w.in-Some.descriptor) c.loop-place-test.true w.in-Some.is) w.share_desc.ensures.kept w.share_desc.ensures.takes c.loop-place.invariant)
      | in_default w ↦
          rw w.heap-is (shares_none c.args.heap.now c.loop-place.heap all at (behind all at None c.loop-place-test.true w.in_default.is) c.loop-place.invariant)
    ])

pub returns-clause-opened : goal.returns-clause-opened
returns-clause-opened c = λ numbers list files are.
    subst (λ (h : Heap). AreOpen numbers h (after_shares numbers.descs list c.args.places.now) files)
    (sym (all_shared c.args.heap.now c.loop-place.heap c.args.places.now c.loop-place.place-index c.loop-place-test.false c.loop-place.invariant))
    (opened_all numbers c.args.heap.now list files c.args.places.now c.requires.can are)

pub returns-clause-owners : goal.returns-clause-owners
returns-clause-owners c = λ hand owners.
    subst (λ (h : Heap). HasItsOwners h (hand_with c.args.places.now hand))
    (sym (all_shared c.args.heap.now c.loop-place.heap c.args.places.now c.loop-place.place-index c.loop-place-test.false c.loop-place.invariant))
    (owners_all c.args.heap.now hand c.args.places.now c.requires.can owners)
