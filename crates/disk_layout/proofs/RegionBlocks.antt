-- What a region is seen as where more of its blocks are there, and two regions one behind the other.
use Rattle.std.proofs.Common.{◌≡◌, ℕ, zero, suc, ◌+◌, ◌-◌, ◌<◌, ◌≤◌, List, [], ◌∷◌, ◌++◌, length, set, Some, None, replicate, refl, sym, ap, ◌∙◌, arith, length-append}
use Rattle.std.specs.List.{slice_get}
use Rattle.std.proofs.lemmas.Option.{slice_get-get_or}
use Rattle.std.proofs.lemmas.List.{append_assoc, length-replicate, length-set, get_or-replicate, replicate-append-replicate, set-append_left, set-append_right, length_push}
use Rattle.posix_defs.specs.DiskContents.{zeros}
use Rattle.disk_layout.specs.Disk.{all_blocks}

module _ {X : Type 0} where
  pub get_front : (xs ys : List X) (n : ℕ) (x : X) → slice_get xs n ≡ Some x → slice_get (xs ++ ys) n ≡ Some x
  get_front [] ys n x is = cc
  get_front (y ∷ xs) ys zero x is = is
  get_front (y ∷ xs) ys (suc n) x is = get_front xs ys n x is

  pub get_back : (xs ys : List X) (n : ℕ) (x : X) → length xs ≤ n → slice_get ys (n - length xs) ≡ Some x → slice_get (xs ++ ys) n ≡ Some x
  get_back [] ys n x le is = let all : n - 0 ≡ n = omega arith in ap (slice_get ys) (sym all) ∙ is
  get_back (y ∷ xs) ys zero x le is = absurd (omega (arith, le))
  get_back (y ∷ xs) ys (suc n) x le is = let less : suc n - suc (length xs) ≡ n - length xs = omega arith in get_back xs ys n x (omega (arith, le)) (ap (slice_get ys) (sym less) ∙ is)

  past : (xs : List X) (n : ℕ) → slice_get xs n ≡ None → length xs ≤ n
  past [] n is = omega arith
  past (x ∷ xs) zero is = cc
  past (x ∷ xs) (suc n) is = let rest = past xs n is in omega (arith, rest)

pub length-all : (count : ℕ) (blocks : List (List ℕ)) → length blocks ≤ count → length (all_blocks count blocks) ≡ count
length-all count blocks le = length-append blocks (replicate (count - length blocks) (zeros 1024)) ∙ ap (λ n. length blocks + n) (length-replicate (count - length blocks) (zeros 1024)) ∙ omega (arith, le)

-- a number that a region is asked for is below its count
pub below_count : (count number : ℕ) (blocks now : List (List ℕ)) → all_blocks count blocks ≡ now → length blocks ≤ count → number < length now → number < count
below_count count number blocks now is le lt = let all : length now ≡ count = sym (ap length is) ∙ length-all count blocks le in omega (arith, lt, all)

pub read_there : (count : ℕ) (blocks : List (List ℕ)) (number : ℕ) (block : List ℕ) → slice_get blocks number ≡ Some block → slice_get (all_blocks count blocks) number ≡ Some block
read_there count blocks number block is = get_front blocks (replicate (count - length blocks) (zeros 1024)) number block is

pub read_beyond : (count : ℕ) (blocks : List (List ℕ)) (number : ℕ) → number < count → slice_get blocks number ≡ None → slice_get (all_blocks count blocks) number ≡ Some (zeros 1024)
read_beyond count blocks number lt is =
    let le = past blocks number is in
    let within : number - length blocks < count - length blocks = omega (arith, lt, le) in
    let behind : List (List ℕ) = replicate (count - length blocks) (zeros 1024) in
    get_back blocks behind number (zeros 1024) le
    (slice_get-get_or behind (number - length blocks) [] (rw length-replicate within) ∙ ap Some (get_or-replicate (count - length blocks) (number - length blocks) (zeros 1024) [] within))

-- blocks of zeros that come to be there change nothing
pub reached : (count place : ℕ) (old : List (List ℕ)) → place ≤ count → length old ≤ count → all_blocks count (old ++ replicate (place - length old) (zeros 1024)) ≡ all_blocks count old
reached count place old le within =
    let long : length (old ++ replicate (place - length old) (zeros 1024)) ≡ length old + (place - length old) = length-append old (replicate (place - length old) (zeros 1024)) ∙ ap (λ n. length old + n) (length-replicate (place - length old) (zeros 1024)) in
    let sum : place - length old + (count - (length old + (place - length old))) ≡ count - length old = omega (arith, le, within) in
    append_assoc old (replicate (place - length old) (zeros 1024)) (replicate (count - length (old ++ replicate (place - length old) (zeros 1024))) (zeros 1024))
    ∙ ap (λ n. old ++ (replicate (place - length old) (zeros 1024) ++ replicate (count - n) (zeros 1024))) long
    ∙ ap (λ x. old ++ x) (replicate-append-replicate (place - length old) (count - (length old + (place - length old))) (zeros 1024))
    ∙ ap (λ n. old ++ replicate n (zeros 1024)) sum

-- a block that is there is written in its place, and the next one is put behind all
pub written_before : (count place : ℕ) (blocks : List (List ℕ)) (bytes : List ℕ) → place < length blocks → all_blocks count (set blocks place bytes) ≡ set (all_blocks count blocks) place bytes
written_before count place blocks bytes lt =
    ap (λ n. set blocks place bytes ++ replicate (count - n) (zeros 1024)) (length-set blocks place bytes) ∙ sym (set-append_left blocks (replicate (count - length blocks) (zeros 1024)) place bytes lt)

pub written_next : (count place : ℕ) (blocks : List (List ℕ)) (bytes : List ℕ) → length blocks ≡ place → place < count → all_blocks count (blocks ++ bytes ∷ []) ≡ set (all_blocks count blocks) place bytes
written_next count place blocks bytes at lt =
    let long : count - length (blocks ++ bytes ∷ []) ≡ count - (length blocks + 1) = ap (λ n. count - n) (length_push blocks bytes) in
    let one : count - length blocks ≡ suc (count - (length blocks + 1)) = omega (arith, lt, at) in
    let none : place - length blocks ≡ 0 = omega (arith, at) in
    append_assoc blocks (bytes ∷ []) (replicate (count - length (blocks ++ bytes ∷ [])) (zeros 1024))
    ∙ ap (λ n. blocks ++ bytes ∷ replicate n (zeros 1024)) long
    ∙ sym (set-append_right blocks (replicate (count - length blocks) (zeros 1024)) (length blocks) place bytes refl (omega (arith, at))
    ∙ ap (λ n. blocks ++ set (replicate (count - length blocks) (zeros 1024)) n bytes) none
    ∙ ap (λ n. blocks ++ set (replicate n (zeros 1024)) 0 bytes) one)

-- What a write leaves, where the blocks before it came to be there.
module _ (count place : ℕ) (old now : List (List ℕ)) (bytes : List ℕ) (lt : place < count) (within : length old ≤ count) (is : now ≡ old ++ replicate (place - length old) (zeros 1024)) where
  pub reached_length : length now ≡ length old + (place - length old)
  reached_length = ap length is ∙ length-append old (replicate (place - length old) (zeros 1024)) ∙ ap (λ n. length old + n) (length-replicate (place - length old) (zeros 1024))

  same_blocks : all_blocks count now ≡ all_blocks count old
  same_blocks = ap (all_blocks count) is ∙ reached count place old (omega (arith, lt)) within

  pub write_there : place < length now → all_blocks count (set now place bytes) ≡ set (all_blocks count old) place bytes
  write_there there = written_before count place now bytes there ∙ ap (λ x. set x place bytes) same_blocks

  pub write_next : length now ≤ place → all_blocks count (now ++ bytes ∷ []) ≡ set (all_blocks count old) place bytes
  write_next behind = written_next count place now bytes (omega (arith, reached_length, behind)) lt ∙ ap (λ x. set x place bytes) same_blocks

-- the two regions of a new disk are its blocks
pub two_regions : (blocks first : ℕ) (blank map table entries : List ℕ) → 1 < first → first < blocks
    → set (set (replicate first blank) 0 map) 1 table ++ set (replicate (blocks - first) blank) 0 entries ≡ set (set (set (replicate blocks blank) 0 map) 1 table) first entries
two_regions blocks first blank map table entries two lt =
    let front : List (List ℕ) = replicate first blank in
    let back : List (List ℕ) = replicate (blocks - first) blank in
    let sum : first + (blocks - first) ≡ blocks = omega (arith, lt) in
    let all : front ++ back ≡ replicate blocks blank = replicate-append-replicate first (blocks - first) blank ∙ ap (λ n. replicate n blank) sum in
    let len0 : length front ≡ first = length-replicate first blank in
    let len1 : length (set front 0 map) ≡ first = length-set front 0 map ∙ len0 in
    let len2 : length (set (set front 0 map) 1 table) ≡ first = length-set (set front 0 map) 1 table ∙ len1 in
    let none : first - first ≡ 0 = omega arith in
    sym (ap (λ x. set (set (set x 0 map) 1 table) first entries) (sym all)
    ∙ ap (λ x. set (set x 1 table) first entries) (set-append_left front back 0 map (omega (arith, len0, two)))
    ∙ ap (λ x. set x first entries) (set-append_left (set front 0 map) back 1 table (omega (arith, len1, two)))
    ∙ set-append_right (set (set front 0 map) 1 table) back first first entries len2 (omega arith)
    ∙ ap (λ n. set (set front 0 map) 1 table ++ set back n entries) none)
