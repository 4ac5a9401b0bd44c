use Rattle.std.proofs.Common.{◌≡◌, refl, subst, sym}
use Rattle.kheap_slabs.specs.Objects.{object}
use Rattle.kheap_slabs.specs.declared.objects.Desc.{Desc}
use Rattle.kheap_slabs.specs.Heap.{Heap}
use Rattle.open_laws.specs.Described.{counted_in}
use Rattle.open_laws.specs.Owned.{HasItsOwners}
use Rattle.posix_defs.specs.Files.State.{described_as}
use Rattle.proc_table.proofs.PlaceLemmas.{some_same}
use Rattle.proc_numbers.specs.Having.{HaveOpen, OpensNoNode}
use Rattle.proc_numbers.specs.Answering.{with_flags}
use Rattle.proc_numbers.proofs.Changes.{put_opens}
use Rattle.proc_numbers.proofs.Flags.{have_flagged, owners_flagged}
use Rattle.proc_numbers.proofs.controlling.set_flags.Goals as goal

pub returns-clause-flags : goal.returns-clause-flags
returns-clause-flags c = λ numbers kept files desc is have.
    let here = c.get_desc-desc.result.now in
    let flags = c.args.flags in
    let same : here ≡ desc = some_same (object c.args.heap.now.descs c.args.key) here desc c.get_desc-desc.ensures is in
    subst (λ (d : Desc). HaveOpen numbers c.set_desc.new.self kept (described_as files (numbers.descs c.args.key) (with_flags (counted_in numbers d).is flags.append flags.nonblock))) same
    (subst (λ (h : Heap). HaveOpen numbers h kept (described_as files (numbers.descs c.args.key) (with_flags (counted_in numbers here).is flags.append flags.nonblock)))
    (sym c.set_desc.ensures.kept)
    (have_flagged c.args.heap.now c.args.key here flags.append flags.nonblock c.get_desc-desc.ensures numbers kept files have))

pub returns-clause-nodes : goal.returns-clause-nodes
returns-clause-nodes c = λ none.
    let here = c.get_desc-desc.result.now in
    subst (λ (h : Heap). OpensNoNode h.descs) (sym c.set_desc.ensures.kept)
    (put_opens c.args.heap.now.descs c.args.key here (record here { flags = c.args.flags }) c.get_desc-desc.ensures refl none)

pub returns-clause-owners : goal.returns-clause-owners
returns-clause-owners c = λ hand owners.
    let here = c.get_desc-desc.result.now in
    subst (λ (h : Heap). HasItsOwners h hand) (sym c.set_desc.ensures.kept)
    (owners_flagged c.args.heap.now c.args.key here c.args.flags.append c.args.flags.nonblock c.get_desc-desc.ensures hand owners)
