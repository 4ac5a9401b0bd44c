use Rattle.std.proofs.Common.{◌∙◌, ap, subst, sym}
use Rattle.kheap_slabs.specs.declared.objects.Proc.{Proc}
use Rattle.page_space.specs.Contents.{IsOwnedWith}
use Rattle.proc_table.specs.Procs.{proc_of}
use Rattle.proc_table.proofs.SpaceLemmas.{owned_proc}
use Rattle.store_objects.specs.Objects.{procs_of}
use Rattle.store_objects.proofs.GoingOn.{some_same}
use Rattle.process_calls.proofs.spaces.space_of.Goals as goal

pub at-requires-clause-stored : goal.at-requires-clause-stored
at-requires-clause-stored c = c.requires.kept.1.holds.stored

pub returns : goal.returns
returns c =
    let kept = c.requires.kept.1 in
    let proc = c.at.result.now in
    let found = c.at.ensures.found in
    record {
      proc = proc;
      found = found;
      runs = ap (λ (p : Proc). p.status) (some_same (proc_of (procs_of c.args.objects.now) c.args.place.pid) proc c.requires.alive.proc found c.requires.alive.there) ∙ c.requires.alive.runs;
      named = c.requires.there;
      there = c.at.ensures.kept;
      nodes = sym c.of.ensures;
      owned = subst (IsOwnedWith c.args.objects.now.heap) (sym c.of.ensures)
          (owned_proc c.args.objects.now.heap c.args.objects.now.procs kept.holds c.args.place.pid proc found);
    }
