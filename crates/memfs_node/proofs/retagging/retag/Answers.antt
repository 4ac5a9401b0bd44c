use Rattle.memfs_node.proofs.Retagged.{retags}
use Rattle.memfs_node.proofs.retagging.retag.Goals as goal

pub returns-clause-retags : goal.returns-clause-retags
returns-clause-retags g c = retags (
    record {
      number = c.args.number;
      before = g.B.Blocks.blocks c.args.b.now;
      old = c.args.inode.now;
      kind = c.args.kind;
      links = c.args.links;
      after = g.B.Blocks.blocks c.put_in_table.new.b;
      sound = c.requires.sound;
      had = c.requires.node;
      valid = c.requires.kind;
      count = c.put_in_table.ensures.count;
      slot = c.put_in_table.ensures.slot;
      slots = c.put_in_table.ensures.slots;
      others = c.put_in_table.ensures.others;
    }
    )
