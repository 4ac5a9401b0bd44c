use Rattle.std.proofs.Common.{refl}
use Rattle.memfs_file.proofs.Parts.{out_here, out_rest}
use Rattle.memfs_file.proofs.ranges.copy_out.Goals as goal

pub returns-clause-here : goal.returns-clause-here
returns-clause-here c =
    let e = c.part_of-part.ensures in
    out_here (record { from_is = e.from; start_is = e.start; count_is = e.count; before = c.requires.before; behind = c.requires.behind }) c.args.block.now c.args.out.now c.copy_from_slice.new.self c.told-block refl c.copy_from_slice.ensures.after

pub returns-clause-others : goal.returns-clause-others
returns-clause-others c =
    let e = c.part_of-part.ensures in
    out_rest (record { from_is = e.from; start_is = e.start; count_is = e.count; before = c.requires.before; behind = c.requires.behind }) c.args.block.now c.args.out.now c.copy_from_slice.new.self c.told-block refl c.copy_from_slice.ensures.after
