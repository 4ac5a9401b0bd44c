use Rattle.std.proofs.Common.{◌∙◌, ap}
use Rattle.std.specs.Option.{option_map}
use Rattle.kheap_slabs.specs.declared.objects.Proc.{Proc}
use Rattle.posix_defs.specs.Process.{directory_in}
use Rattle.proc_table.specs.Procs.{proc_of, process_of}
use Rattle.proc_table.specs.Table.{processes}
use Rattle.proc_table.proofs.FamilyLemmas.{process_is}
use Rattle.proc_table.proofs.PlaceLemmas.{some_same}
use Rattle.proc_files.proofs.opening.directory_of.Goals as goal

pub at-requires-clause-stored : goal.at-requires-clause-stored
at-requires-clause-stored c = c.requires.listed.stored

pub returns-clause-works : goal.returns-clause-works
returns-clause-works c = λ proc found.
    let here = c.at.result.now in
    let it = c.at.ensures.found in
    ap (λ (p : Proc). p.cwd) (some_same (proc_of (processes c.args.heap.now c.args.procs.now) c.args.place.pid) here proc it found)

pub returns-clause-plain : goal.returns-clause-plain
returns-clause-plain c = λ table is.
    let here = c.at.result.now in
    let it = c.at.ensures.found in
    ap directory_in (process_is c.args.heap.now table (processes c.args.heap.now c.args.procs.now) c.args.place.pid is.present ∙ ap (option_map (process_of c.args.heap.now)) it)
