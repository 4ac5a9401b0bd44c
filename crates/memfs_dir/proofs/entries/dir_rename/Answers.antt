use Rattle.blk_map.proofs.Taken.{same_frees_none, same_takes_none}
use Rattle.memfs_dir.proofs.Written.{renamed}
use Rattle.memfs_dir.proofs.entries.dir_rename.Goals as goal

pub returns-clause-puts : goal.returns-clause-puts
returns-clause-puts g c = λ number node.
    renamed number (g.B.Blocks.blocks c.args.b.now) c.args.dir.now c.args.place c.args.entry.now (g.B.Blocks.blocks c.replace_entry.new.b) (c.replace_entry.ensures.puts number node) c.requires.entry c.requires.within

pub returns-clause-takes_none : goal.returns-clause-takes_none
returns-clause-takes_none g c =
    let put = c.replace_entry.ensures.puts c.requires.node.0 c.requires.node.1 in
    same_takes_none (g.B.Blocks.blocks c.args.b.now) (g.B.Blocks.blocks c.replace_entry.new.b) put.map

pub returns-clause-frees_none : goal.returns-clause-frees_none
returns-clause-frees_none g c =
    let put = c.replace_entry.ensures.puts c.requires.node.0 c.requires.node.1 in
    same_frees_none (g.B.Blocks.blocks c.args.b.now) (g.B.Blocks.blocks c.replace_entry.new.b) put.map
