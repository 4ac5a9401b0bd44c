use Rattle.std.proofs.Common.{Option, ap, refl, subst, sym, ◌∙◌}
use Rattle.std.specs.Prelude.{is_some}
use Rattle.kheap_slabs.specs.declared.objects.Proc.{Proc}
use Rattle.proc_table.specs.Procs.{IsAwakeOnce, proc_of}
use Rattle.proc_table.proofs.PlaceLemmas.{key_of-proc, some_same}
use Rattle.store_objects.specs.Objects.{procs_of}
use Rattle.store_objects.proofs.objects.Objects.wait_in.Goals as goal

pub set_proc_opening-requires : goal.set_proc_opening-requires
set_proc_opening-requires c =
    let named = key_of-proc c.args.self.now.heap.procs c.args.self.now.procs.listed c.args.place.pid c.args.place.key c.requires.stored c.requires.there in
    ap is_some named.1

pub returns : goal.returns
returns c =
    let named = key_of-proc c.args.self.now.heap.procs c.args.self.now.procs.listed c.args.place.pid c.args.place.key c.requires.stored c.requires.there in
    let alive = c.requires.alive in
    let up = ap (λ (p : Proc). p.status) (some_same (proc_of (procs_of c.args.self.now) c.args.place.pid) named.0 alive.proc named.3 alive.there) ∙ alive.runs in
    record {
      proc = named.0;
      key = c.args.place.key;
      found = named.3;
      turns = record {
        found = c.requires.there;
        there = named.1;
        same = refl;
        awake = λ still. subst (λ (status : Option _). IsAwakeOnce status c.args.opening) (sym up) tt;
        after = c.set_proc_opening.ensures.kept named.0 named.1;
      };
      same = refl;
      tree = refl;
      names = refl;
      fifos = refl;
      locks = refl;
      takes = c.set_proc_opening.ensures.takes;
    }
