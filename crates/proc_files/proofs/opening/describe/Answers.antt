use Rattle.std.proofs.Common.{◌≡◌, ◌<◌, ◌∙◌, Some, ap, is_some, subst, sym, w64}
use Rattle.std.proofs.lemmas.Int.{to_z-of_z}
use Rattle.std.proofs.lemmas.List.{length-set}
use Rattle.kheap_slabs.specs.Objects.{object, put}
use Rattle.kheap_slabs.proofs.ObjectLemmas.{InUse-within}
use Rattle.kheap_slabs.specs.Heap.{Heap}
use Rattle.proc_files.specs.Opening.{desc_on}
use Rattle.proc_files.proofs.opening.describe.Goals as goal

pub returns-clause-makes : goal.returns-clause-makes
returns-clause-makes c =
    let key = c.insert_desc.result in
    let made : c.desc_on.result ≡ desc_on c.args.target c.args.flags = subst (λ z. c.desc_on.result ≡ desc_on c.args.target z) (to_z-of_z w64 c.args.flags c.ranges.flags) c.desc_on.ensures in
    let kept = c.insert_desc.ensures.kept ∙ ap (λ d. record c.args.heap.now { descs = put c.args.heap.now.descs key d; high = c.insert_desc.new.self.high }) made in
    let there : object (put c.args.heap.now.descs key (desc_on c.args.target c.args.flags)) key ≡ Some (desc_on c.args.target c.args.flags) =
    ap (λ (h : Heap). object h.descs key) (sym kept) ∙ c.insert_desc.ensures.stored ∙ ap (λ d. Some d) made in
    record {
      vacant = c.insert_desc.ensures.vacant;
      within =
          subst (λ n. key < n) (length-set c.args.heap.now.descs key (Some (desc_on c.args.target c.args.flags)))
          (InUse-within (put c.args.heap.now.descs key (desc_on c.args.target c.args.flags)) key (ap is_some there));
      kept = kept;
    }
