-- What follows for a call's bound from the price list and from the call's need.
use Rattle.std.proofs.Common.{◌≡◌, ℕ, ◌+◌, ◌-◌, ◌*◌, ◌/◌, ◌≤◌, ◌==◌, max, ℤ, pos, negsuc, Bool, true, false, cond, ◌&&◌, length, Option, None, Some, is_some, refl, ap, ◌∙◌, arith}
use Rattle.std.specs.Option.{option_or}
use Rattle.std.proofs.lemmas.Bool.Decides.{nat_tests}
use Rattle.kabi_types.specs.Arguments.{argument_fault, count_of, invalid_unless, moved_fault, range_fault, is_number, is_within, is_from}
use Rattle.kabi_types.specs.Call.{kind_of}
use Rattle.kabi_types.specs.Class.{size}
use Rattle.kabi_types.specs.Counts.{need_bytes}
use Rattle.kabi_types.specs.declared.calls.Call.{Call}
use Rattle.kabi_types.specs.declared.calls.Call.TheVariants as call
use Rattle.kabi_types.specs.declared.classes.Class.TheVariants as class
use Rattle.kabi_types.specs.declared.classes.Need.{Need}
use Rattle.kabi_types.specs.declared.errnos.Errno.{Errno}
use Rattle.posix_defs.specs.PriceList.{price_of}
use Rattle.posix_defs.specs.Needs.{bound, chunks_for, cost, is_write, leaf_need, need_of, nodes_for, objects_of, pages_in, pages_touched, read_need, stored_bytes}
use Rattle.posix_defs.specs.Sizes.{no_need}
use Rattle.posix_defs.specs.declared.prices.Price.TheVariants.{Always}

-- a wrong operand
pub wrong_needs : (call : Call) (errno : Errno) → argument_fault call ≡ Some errno → need_of call ≡ no_need
unfolding need_of
wrong_needs call errno wrong = ap (λ fault. cond (is_some fault) no_need (objects_of call)) wrong

pub wrong_costs : (call : Call) (errno : Errno) → argument_fault call ≡ Some errno → bound call ≡ 0
unfolding bound
wrong_costs call errno wrong = ap (λ fault. cond (is_some fault) 0 (cost (price_of (kind_of call)) call)) wrong

-- operands that are right
pub right_needs : (call : Call) → argument_fault call ≡ None → need_of call ≡ objects_of call
unfolding need_of
right_needs call right = ap (λ fault. cond (is_some fault) no_need (objects_of call)) right

pub right_costs : (call : Call) → argument_fault call ≡ None → bound call ≡ cost (price_of (kind_of call)) call
unfolding bound
right_costs call right = ap (λ fault. cond (is_some fault) 0 (cost (price_of (kind_of call)) call)) right

pub plain_costs : (call : Call) (bytes : ℕ) → argument_fault call ≡ None → price_of (kind_of call) ≡ Always bytes → bound call ≡ bytes
plain_costs call bytes right plain = right_costs call right ∙ ap (λ price. cost price call) plain

-- nodes alone, pages alone, and pages with two blocks
nodes_sum : (nodes : ℕ) → 512 * nodes ≡ need_bytes (record no_need { node = nodes })
nodes_sum nodes = omega arith

pages_sum : (pages : ℕ) → 4096 * pages + 0 ≡ need_bytes (record no_need { page = pages })
pages_sum pages = omega arith

read_sum : (pages : ℕ) → 4096 * pages + 2176 ≡ need_bytes (read_need pages)
read_sum pages = omega arith

-- a Leaf where a further descriptor is made
copied_sum : (copied : Bool) → cond copied 256 0 ≡ need_bytes (cond copied leaf_need no_need)
copied_sum true = refl
copied_sum false = refl

-- the price of each call but the writes is that of its objects
objects_sum : (call : Call) → is_write (kind_of call) ≡ false → cost (price_of (kind_of call)) call ≡ need_bytes (objects_of call)
objects_sum (call.Mmap length) other = nodes_sum (nodes_for (pages_in (count_of length)))
objects_sum (call.Store addr bytes) other = pages_sum (pages_touched (count_of addr) (length bytes))
objects_sum (call.Read _ addr n) other = read_sum (pages_touched (count_of addr) (count_of n))
objects_sum (call.Pread _ addr n _) other = read_sum (pages_touched (count_of addr) (count_of n))
objects_sum (call.Readdir _ addr n) other = read_sum (pages_touched (count_of addr) (count_of n))
objects_sum (call.Fcntl _ cmd _) other = copied_sum (is_number 0 cmd)
objects_sum (call.Write _ _ _ _) other = cc
objects_sum (call.Pwrite _ _ _ _) other = cc
objects_sum _ other = refl

sum_where : (wrong : Bool) (bytes : ℕ) (objects : Need) → bytes ≡ need_bytes objects → cond wrong 0 bytes ≡ need_bytes (cond wrong no_need objects)
sum_where true bytes objects sums = refl
sum_where false bytes objects sums = sums

pub sums : (call : Call) → is_write (kind_of call) ≡ false → bound call ≡ need_bytes (need_of call)
unfolding bound need_of
sums call other = sum_where (is_some (argument_fault call)) (cost (price_of (kind_of call)) call) (objects_of call) (objects_sum call other)

-- two blocks or the chunks, whichever is more
greater_where : (wrong : Bool) (chunks : ℕ) → cond wrong 0 (max 2176 (576 * chunks))
    ≡ max ((cond wrong no_need (record no_need { block = 2; chunk = chunks })).block * size class.Block) ((cond wrong no_need (record no_need { block = 2; chunk = chunks })).chunk * size class.Chunk)
greater_where true chunks = refl
greater_where false chunks = ap (max 2176) (omega arith)

pub write_is_greater : (fd addr n : ℤ) (done : ℕ)
    → bound (call.Write fd addr n done) ≡ max ((need_of (call.Write fd addr n done)).block * size class.Block) ((need_of (call.Write fd addr n done)).chunk * size class.Chunk)
unfolding bound need_of
write_is_greater fd addr n done = greater_where (is_some (argument_fault (call.Write fd addr n done))) (chunks_for (count_of n - done))

pub pwrite_is_greater : (fd addr n at : ℤ)
    → bound (call.Pwrite fd addr n at) ≡ max ((need_of (call.Pwrite fd addr n at)).block * size class.Block) ((need_of (call.Pwrite fd addr n at)).chunk * size class.Chunk)
unfolding bound need_of
pwrite_is_greater fd addr n at = greater_where (is_some (argument_fault (call.Pwrite fd addr n at))) (chunks_for (count_of n))

pub greater : (call : Call) → is_write (kind_of call) ≡ true → bound call ≡ max ((need_of call).block * size class.Block) ((need_of call).chunk * size class.Chunk)
greater (call.Write fd addr n done) is = write_is_greater fd addr n done
greater (call.Pwrite fd addr n at) is = pwrite_is_greater fd addr n at
greater _ is = cc

-- what is right of two tests is right of each
first_right : (b : Bool) (rest : Option Errno) → option_or (invalid_unless b) rest ≡ None → b ≡ true
first_right true rest right = refl
first_right false rest right = cc

both_left : (a b : Bool) → (a && b) ≡ true → a ≡ true
both_left true b is = refl
both_left false b is = is

few : (least : ℕ) (n : ℤ) → is_within least 32767 n ≡ true → count_of n ≤ 32767
few least (pos n) within = grind (arith, nat_tests)
few least (negsuc n) within = omega arith

-- at most so many bytes lie in at most so many pages
cond_le : (b : Bool) (x y most : ℕ) → x ≤ most → y ≤ most → cond b x y ≤ most
cond_le true x y most here there = here
cond_le false x y most here there = there

pages_le : (addr n : ℕ) → n ≤ 32767 → pages_touched addr n ≤ 9
pages_le addr n most = cond_le (n == 0) 0 ((addr + n - 1) / 4096 - addr / 4096 + 1) 9 (omega arith) (omega arith)

read_le : (addr n : ℕ) → n ≤ 32767 → 4096 * pages_touched addr n + 2176 ≤ 39040
read_le addr n most = let pages : pages_touched addr n ≤ 9 = pages_le addr n most in omega arith

write_le : (left : ℕ) → max 2176 (576 * chunks_for left) ≤ 39040
write_le left = let chunks : chunks_for left ≤ 8 = omega arith in omega arith

mmap_le : (pages : ℕ) → 512 * nodes_for pages ≤ 39040
mmap_le pages = let nodes : nodes_for pages ≤ 4 = omega arith in omega arith

most_where_right : (call : Call) → length (stored_bytes call) ≤ 64 → argument_fault call ≡ None → cost (price_of (kind_of call)) call ≤ 39040
most_where_right (call.Mmap length) stored right = mmap_le (pages_in (count_of length))
most_where_right (call.Store addr bytes) stored right =
    let pages : pages_touched (count_of addr) (length bytes) ≤ 9 = pages_le (count_of addr) (length bytes) (omega arith) in omega arith
most_where_right (call.Read _ addr n) stored right = read_le (count_of addr) (count_of n) (few 0 n (first_right (is_within 0 32767 n) (range_fault addr (count_of n)) right))
most_where_right (call.Readdir _ addr n) stored right = read_le (count_of addr) (count_of n) (few 32 n (first_right (is_within 32 32767 n) (range_fault addr (count_of n)) right))
most_where_right (call.Pread _ addr n at) stored right =
    read_le (count_of addr) (count_of n) (few 0 n (both_left (is_within 0 32767 n) (is_from 0 at) (first_right (is_within 0 32767 n && is_from 0 at) (range_fault addr (count_of n)) right)))
most_where_right (call.Fcntl _ cmd _) stored right = cond_le (is_number 0 cmd) 256 0 39040 (omega arith) (omega arith)
most_where_right (call.Write _ _ n done) stored right = write_le (count_of n - done)
most_where_right (call.Pwrite _ _ n _) stored right = write_le (count_of n)
most_where_right _ stored right = omega arith

most_where : (fault : Option Errno) (bytes : ℕ) → (fault ≡ None → bytes ≤ 39040) → cond (is_some fault) 0 bytes ≤ 39040
most_where None bytes most = most refl
most_where (Some errno) bytes most = omega arith

pub most_of_right : (call : Call) → (argument_fault call ≡ None → length (stored_bytes call) ≤ 64) → bound call ≤ 39040
unfolding bound
most_of_right call stored = most_where (argument_fault call) (cost (price_of (kind_of call)) call) (λ right. most_where_right call (stored right) right)

pub most : (call : Call) → length (stored_bytes call) ≤ 64 → bound call ≤ 39040
most call stored = most_of_right call (λ right. stored)

-- fewer bytes need no more chunks
chunks_le : (less more : ℕ) → less ≤ more → chunks_for less ≤ chunks_for more
chunks_le less more below = omega arith

falls_where : (wrong : Bool) (less more : ℕ) → less ≤ more → cond wrong 0 (max 2176 (576 * less)) ≤ cond wrong 0 (max 2176 (576 * more))
falls_where true less more below = omega arith
falls_where false less more below = omega arith

pub write_falls : (fd addr n : ℤ) (done more : ℕ) → bound (call.Write fd addr n (done + more)) ≤ bound (call.Write fd addr n done)
unfolding bound
write_falls fd addr n done more =
    falls_where (is_some (moved_fault 0 addr n)) (chunks_for (count_of n - (done + more))) (chunks_for (count_of n - done))
    (chunks_le (count_of n - (done + more)) (count_of n - done) (omega arith))

pub write_rests : (fd addr n : ℤ) (done : ℕ) → argument_fault (call.Write fd addr n done) ≡ None → count_of n ≤ done → bound (call.Write fd addr n done) ≡ 2176
write_rests fd addr n done right moved =
    let nothing : count_of n - done ≡ 0 = omega arith in
    right_costs (call.Write fd addr n done) right ∙ ap (λ left. max 2176 (576 * chunks_for left)) nothing
