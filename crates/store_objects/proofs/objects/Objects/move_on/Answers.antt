use Rattle.std.proofs.Common.{ap, refl}
use Rattle.std.specs.Prelude.{is_some}
use Rattle.proc_table.proofs.PlaceLemmas.{key_of-proc}
use Rattle.store_objects.proofs.objects.Objects.move_on.Goals as goal

pub set_proc_control-requires : goal.set_proc_control-requires
set_proc_control-requires c =
    let named = key_of-proc c.args.self.now.heap.procs c.args.self.now.procs.listed c.args.place.pid c.args.place.key c.requires.stored c.requires.there in
    ap is_some named.1

pub returns : goal.returns
returns c =
    let named = key_of-proc c.args.self.now.heap.procs c.args.self.now.procs.listed c.args.place.pid c.args.place.key c.requires.stored c.requires.there in
    record {
      proc = named.0;
      key = c.args.place.key;
      found = named.3;
      turns = record { found = c.requires.there; there = named.1; same = refl; awake = λ still. still; after = c.set_proc_control.ensures.kept named.0 named.1 };
      same = refl;
      tree = refl;
      names = refl;
      fifos = refl;
      locks = refl;
      takes = c.set_proc_control.ensures.takes;
    }
