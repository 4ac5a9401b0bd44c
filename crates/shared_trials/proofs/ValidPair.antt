-- The script of the two processes is one that a text says.
use Rattle.std.proofs.Common.{ℕ, zero, suc, ◌<◌, ◌≤◌, lit≤, refl, arith}
use Rattle.std.specs.Prelude.{IfSome, slice_get}
use Rattle.posix_defs.specs.ValidScript.{AreApart, IsStatement, IsValid}
use Rattle.shared_trials.specs.Pair.{pair, pair_body}

body_is : (at : ℕ) → IfSome (slice_get pair_body at) (IsStatement pair_body at)
body_is zero = (tt, record { values_are = refl; texts_are = refl }, tt)
body_is (suc zero) = (((refl, refl), tt), record { text = _; values_are = refl; texts_are = refl; fits = (refl, (lit≤ tt, (lit≤ tt, tt))) }, tt)
body_is (suc (suc n)) = tt

programs_are_apart : AreApart (pair 0).programs
programs_are_apart zero zero less = absurd (let none : 0 < 0 = less in omega arith)
programs_are_apart zero (suc b) less = tt
programs_are_apart (suc a) b less = tt

pub pair_valid : (heap : ℕ) → 8192 ≤ heap → heap ≤ 8388608 → IsValid (pair heap)
pair_valid heap least most = record {
  least_heap = least;
  most_heap = most;
  least_disk = lit≤ tt;
  most_disk = lit≤ tt;
  least_steps = lit≤ tt;
  most_steps = lit≤ tt;
  chooser = tt;
  most_programs = lit≤ tt;
  programs = (record { name = refl; short = lit≤ tt; body = body_is }, tt);
  apart = programs_are_apart;
  init = record { at = 0; program = _; is_there = refl; is_named = refl };
}
