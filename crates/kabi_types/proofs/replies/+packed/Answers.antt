use Rattle.std.proofs.Common.{◌<◌, ◌≤◌, ◌^◌, ◌-◌, length, ℕ, List, lit<, arith, take, drop, length-take, length-drop}
use Rattle.std.proofs.Math.Nat.{pow-le-pow_right}
use Rattle.kabi_types.proofs.replies.+packed.Goals as goal

-- what is left of eight bytes without the lowest is a number below 2 to the 56
below_seven : (n : ℕ) (bytes : List ℕ) → length bytes ≤ 8 → n < 256 ^ length (take (length bytes - 1) (drop 1 bytes)) → n < 72057594037927936
below_seven n bytes few below =
    let left : length (take (length bytes - 1) (drop 1 bytes)) ≤ 7 = omega (arith, length-drop {A = ℕ}, length-take {A = ℕ}) in
    let power : 256 ^ length (take (length bytes - 1) (drop 1 bytes)) ≤ 256 ^ 7 = pow-le-pow_right (lit< tt) left in
    omega arith

pub overflow_mul-result : goal.overflow_mul-result
overflow_mul-result t c =
    let rest : c.packed.result < 72057594037927936 = below_seven _ c.args.bytes.now c.requires c.packed.ensures.bound in
    omega arith

pub overflow_add-result : goal.overflow_add-result
overflow_add-result t c =
    let rest : c.packed.result < 72057594037927936 = below_seven _ c.args.bytes.now c.requires c.packed.ensures.bound in
    omega (arith, c.from.ensures, c.type_inv.bytes 0)
