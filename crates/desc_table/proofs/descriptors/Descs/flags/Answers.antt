use Rattle.std.proofs.Common.{get_or, None, ap}
use Rattle.kheap_slabs.specs.declared.objects.Descriptor.{Descriptor as Held}
use Rattle.desc_table.specs.Numbered.{numbers}
use Rattle.desc_table.proofs.NumberLemmas.{same_held}
use Rattle.desc_table.proofs.descriptors.Descs.flags.Goals as goal

pub returns : goal.returns
returns c = λ descriptor is.
    ap (λ (h : Held). h.close_on_exec) (same_held (get_or (numbers c.args.heap.now c.args.self.now) c.args.fd None) c.descriptor.result descriptor c.descriptor.ensures is)
