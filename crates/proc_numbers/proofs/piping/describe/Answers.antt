use Rattle.std.proofs.Common.{◌≡◌, ◌<◌, ◌∙◌, Some, ap, is_some, subst, sym}
use Rattle.std.proofs.lemmas.List.{length-set}
use Rattle.kheap_slabs.specs.Objects.{object, put}
use Rattle.kheap_slabs.proofs.ObjectLemmas.{InUse-within}
use Rattle.kheap_slabs.specs.Heap.{Heap}
use Rattle.proc_numbers.specs.PipeOpening.{end_of}
use Rattle.proc_numbers.proofs.piping.describe.Goals as goal

pub returns-clause-within : goal.returns-clause-within
returns-clause-within c =
    let key = c.insert_desc.result in
    let there : object (put c.args.heap.now.descs key (end_of c.args.pipe c.args.access)) key ≡ Some (end_of c.args.pipe c.args.access) =
    ap (λ (h : Heap). object h.descs key) (sym c.insert_desc.ensures.kept) ∙ c.insert_desc.ensures.stored in
    subst (λ n. key < n) (length-set c.args.heap.now.descs key (Some (end_of c.args.pipe c.args.access)))
    (InUse-within (put c.args.heap.now.descs key (end_of c.args.pipe c.args.access)) key (ap is_some there))
