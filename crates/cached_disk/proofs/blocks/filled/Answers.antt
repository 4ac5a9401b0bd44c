use Rattle.std.proofs.Common.{◌≡◌, ℕ, Some, sym}
use Rattle.cached_disk.specs.Lent.{parts, IsFetched}
use Rattle.cached_disk.proofs.Filled.{may_fill, asked_missed, fetched_lent}
use Rattle.cached_disk.proofs.Held.{filled_bytes, filled_slot}
use Rattle.cached_disk.proofs.blocks.filled.Goals as goal

pub fill-requires-clause-may : goal.fill-requires-clause-may
fill-requires-clause-may c = may_fill c.args.heap.now c.args.purse.now c.args.cache.now c.args.disk.now c.args.number c.requires.lent c.requires.number c.requires.absent

pub unreachable-requires : goal.unreachable-requires
unreachable-requires c = filled_slot c.fill.new.heap.blocks c.fill.new.self c.args.number c.read-bytes.result c.fill.ensures.value (sym c.in_default.ensures)

pub returns-clause-value : goal.returns-clause-value
returns-clause-value c = filled_bytes c.args.disk.now.blocks c.fill.new.heap.blocks c.fill.new.self c.args.number c.in-Some.slot c.read-bytes.result c.fill.ensures.value (sym c.in-Some.ensures) c.read-bytes.ensures.value

pub returns-clause-asked : goal.returns-clause-asked
returns-clause-asked c =
    let before = parts c.args.heap.now c.args.purse.now c.args.cache.now c.args.disk.now in
    let after = parts c.fill.new.heap c.fill.new.purse c.fill.new.self c.read-bytes.new.self in
    asked_missed c.args.number before after c.requires.absent (record { bytes = c.read-bytes.result; there = c.read-bytes.ensures.value; read = c.read-bytes.ensures.counted; filled = c.fill.ensures.filled; cached = c.fill.ensures.value })

pub returns-clause-lent : goal.returns-clause-lent
returns-clause-lent c =
    let before = parts c.args.heap.now c.args.purse.now c.args.cache.now c.args.disk.now in
    let after = parts c.fill.new.heap c.fill.new.purse c.fill.new.self c.read-bytes.new.self in
    let fetched : IsFetched c.args.number before after = record { bytes = c.read-bytes.result; there = c.read-bytes.ensures.value; read = c.read-bytes.ensures.counted; filled = c.fill.ensures.filled; cached = c.fill.ensures.value } in
    fetched_lent c.args.number before after fetched c.fill.ensures.paid c.fill.ensures.keeps c.fill.ensures.fills c.requires.lent
