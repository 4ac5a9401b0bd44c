use Rattle.std.proofs.Common.{arith}
use Rattle.kheap_laws.proofs.KeyPlaces.{key_there}
use Rattle.call_run.proofs.victims.weight_of.Goals as goal

pub get_node-requires : goal.get_node-requires
get_node-requires c =
    c.requires.owns.used c.in-Some.key (key_there c.args.proc.now.nodes c.loop-group.group-index c.in-Some.key c.in-Some.is)

pub returns-clause-in_range : goal.returns-clause-in_range
returns-clause-in_range c = record {
  pid = c.pid_of.type_inv;
  frames = omega arith;
  nodes = omega arith;
  descs = omega arith;
}
