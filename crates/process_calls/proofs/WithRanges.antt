-- A list with other items at some places in a row is as long as it was.
use Rattle.std.proofs.Common.{◌≡◌, ℕ, ◌+◌, ◌≤◌, List, ◌++◌, take, drop, length, replicate, arith, length-append, length-drop}
use Rattle.std.proofs.lemmas.List.{length-replicate, length-take-le}
use Rattle.posix_defs.specs.Memory.{with_range}

pub length-with_range : {X : Type 0} (xs : List X) (first count : ℕ) (x : X) → first + count ≤ length xs → length (with_range xs first count x) ≡ length xs
length-with_range xs first count x within =
    let front = length-take-le first xs (omega arith) in
    let middle = length-replicate count x in
    let rest = length-drop (first + count) xs in
    let both = length-append (take first xs) (replicate count x) in
    let all = length-append (take first xs ++ replicate count x) (drop (first + count) xs) in
    omega arith
