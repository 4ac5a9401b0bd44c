use Rattle.std.proofs.Common.{arith}
use Rattle.disk_layout.proofs.FullBytes.{full_row, full_one}
use Rattle.disk_layout.proofs.maps.used_from.Goals as goal

pub returns-then-is_full_row-clause-used : goal.returns-then-is_full_row-clause-used
returns-then-is_full_row-clause-used c =
    full_row c.args.map.now c.args.number (omega (arith, c.if-number-eq0.true)) (c.is_full_row.ensures c.if-is_full_row.true)

pub returns-then-map-place-clause-used : goal.returns-then-map-place-clause-used
returns-then-map-place-clause-used c = full_one c.args.map.now c.args.number c.if-number-eq0-2.true c.if-map-place.true
