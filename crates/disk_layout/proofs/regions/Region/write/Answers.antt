use Rattle.std.proofs.Common.{◌<◌, ◌≤◌, ap, ◌∙◌, arith, length, set}
use Rattle.disk_layout.specs.Disk.{all_blocks}
use Rattle.disk_layout.proofs.RegionBlocks.{write_there, write_next, below_count}
use Rattle.disk_layout.proofs.regions.Region.write.Goals as goal

pub returns-then-place-len : goal.returns-then-place-len
returns-then-place-len c =
    let within = below_count c.self.inside.count c.args.number c.self.inside.written.items c.args.self.now c.self.view_is c.self.invariant.0 c.requires in
    let there : c.args.number < length c.reach.new.written.items = omega (arith, c.if-place-len.true, c.len.ensures) in
    write_there c.self.inside.count c.args.number c.self.inside.written.items c.reach.new.written.items c.args.bytes.now within c.self.invariant.0 c.reach.ensures.blocks there
    ∙ ap (λ x. set x c.args.number c.args.bytes.now) c.self.view_is

pub returns-else-place-len : goal.returns-else-place-len
returns-else-place-len c =
    let within = below_count c.self.inside.count c.args.number c.self.inside.written.items c.args.self.now c.self.view_is c.self.invariant.0 c.requires in
    let behind : length c.reach.new.written.items ≤ c.args.number = omega (arith, c.if-place-len.false, c.len.ensures) in
    ap (all_blocks c.self.inside.count) c.push_reserved.ensures.items
    ∙ write_next c.self.inside.count c.args.number c.self.inside.written.items c.reach.new.written.items c.args.bytes.now within c.self.invariant.0 c.reach.ensures.blocks behind
    ∙ ap (λ x. set x c.args.number c.args.bytes.now) c.self.view_is
