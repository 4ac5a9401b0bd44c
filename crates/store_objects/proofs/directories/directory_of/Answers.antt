use Rattle.std.proofs.Common.{ap}
use Rattle.kheap_slabs.specs.declared.objects.Proc.{Proc}
use Rattle.proc_table.proofs.PlaceLemmas.{some_same}
use Rattle.proc_table.specs.Procs.{proc_of}
use Rattle.store_objects.specs.Objects.{procs_of}
use Rattle.store_objects.proofs.directories.directory_of.Goals as goal

pub returns : goal.returns
returns c = λ proc found.
    ap (λ (p : Proc). p.cwd) (some_same (proc_of (procs_of c.args.objects.now) c.args.place.pid) c.at.result.now proc c.at.ensures.found found)
