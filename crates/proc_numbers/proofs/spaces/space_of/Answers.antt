use Rattle.std.proofs.Common.{◌∙◌, ap, subst, sym}
use Rattle.kheap_slabs.specs.declared.objects.Proc.{Proc}
use Rattle.page_space.specs.Contents.{IsOwnedWith}
use Rattle.proc_table.specs.Procs.{proc_of}
use Rattle.proc_table.specs.Table.{processes}
use Rattle.proc_table.proofs.PlaceLemmas.{some_same}
use Rattle.proc_table.proofs.SpaceLemmas.{owned_proc}
use Rattle.proc_numbers.proofs.spaces.space_of.Goals as goal

pub at-requires-clause-stored : goal.at-requires-clause-stored
at-requires-clause-stored c = c.requires.kept.holds.stored

pub returns : goal.returns
returns c =
    let proc = c.at.result.now in
    let found = c.at.ensures.found in
    record {
      key = c.args.place.key;
      proc = proc;
      found = found;
      runs = ap (λ (p : Proc). p.status) (some_same (proc_of (processes c.args.heap.now c.args.procs.now) c.args.place.pid) proc c.requires.alive.proc found c.requires.alive.there) ∙ c.requires.alive.runs;
      named = c.requires.there;
      there = c.at.ensures.kept;
      nodes = sym c.of.ensures;
      owned = subst (IsOwnedWith c.args.heap.now) (sym c.of.ensures)
          (owned_proc c.args.heap.now c.args.procs.now c.requires.kept.holds c.args.place.pid proc found);
    }
