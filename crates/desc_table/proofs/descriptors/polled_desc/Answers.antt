use Rattle.std.proofs.Common.{sym, subst, w64}
use Rattle.std.proofs.lemmas.Int.{to_z-of_z}
use Rattle.kheap_slabs.specs.declared.objects.Target.{Target}
use Rattle.open_laws.specs.Described.{access_in}
use Rattle.open_laws.specs.Polled.{TellsTarget}
use Rattle.open_laws.proofs.PolledLemmas.{told_end}
use Rattle.desc_table.proofs.descriptors.polled_desc.Goals as goal

pub returns-in-Pipe : goal.returns-in-Pipe
returns-in-Pipe c =
    subst (λ (t : Target). TellsTarget c.args.heap.now (access_in c.args.desc.now.access) c.args.events c.pipe_polled.result t) (sym c.in-Pipe.is)
    (λ pipe at stands. told_end pipe _ _ c.args.events _ c.pipe_polled.result (c.pipe_polled.ensures pipe at stands) c.may_write.ensures (to_z-of_z w64 c.args.events c.ranges.events))
