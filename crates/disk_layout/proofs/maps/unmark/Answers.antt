use Rattle.std.proofs.Common.{◌/◌, ◌%◌, ◌∙◌, arith, get_or}
use Rattle.std.specs.Int.{w8}
use Rattle.std.proofs.lemmas.Nat.Bits.{bit_at_clear_same, bit_at_clear_other}
use Rattle.disk_layout.proofs.MapBits.{this_bit, other_bits}
use Rattle.disk_layout.proofs.maps.unmark.Goals as goal

pub returns-clause-this : goal.returns-clause-this
returns-clause-this c =
    this_bit c.args.map.now c.args.number _ (omega (arith, c.requires)) ∙ bit_at_clear_same w8 (get_or c.args.map.now (c.args.number / 8) 0) (c.args.number % 8) (omega arith)

pub returns-clause-others : goal.returns-clause-others
returns-clause-others c =
    other_bits c.args.map.now c.args.number _ (omega (arith, c.requires)) (λ i lt apart. bit_at_clear_other w8 (get_or c.args.map.now (c.args.number / 8) 0) (c.args.number % 8) (omega arith) i lt apart)
