-- Numbers of four bytes one after the other, and bytes put into a row of bytes.
use Rattle.std.proofs.Common.{◌≡◌, ◌⊎◌, ℕ, zero, suc, ◌+◌, ◌-◌, ◌*◌, ◌<◌, ◌≤◌, inl, inr, List, [], ◌∷◌, ◌++◌, length, get_or, take, drop, set, replicate, refl, sym, ap, ◌∙◌, append_assoc, arith}
use Rattle.std.specs.Int.{w32, to_be_bytes}
use Rattle.std.proofs.lemmas.List.{take_at, drop_at, take-append-drop, take-take, take-append-le, drop-take, drop-drop, length-append, length-take, length-take-le, take_more_set, flat_map_more, take_more, ext_get_or, length-replicate, get_or-replicate}
use Rattle.std.proofs.lemmas.List.Concat.{flat_map-cons}
use Rattle.disk_laws.proofs.DiskSpelling.{words, length-words}

-- what lies from n on is m cells and what lies behind them
pub cut : (n m : ℕ) (xs : List ℕ) → drop n xs ≡ take m (drop n xs) ++ drop (n + m) xs
cut n m xs = sym (take-append-drop m (drop n xs)) ∙ ap (λ (rest : List ℕ). take m (drop n xs) ++ rest) (drop-drop m n xs)

take_on : (n m : ℕ) (xs : List ℕ) → take n xs ++ take m (drop n xs) ≡ take (n + m) xs
take_on n m xs =
    let front : take n (take (n + m) xs) ≡ take n xs = take-take n (n + m) xs (omega arith) in
    let back : drop n (take (n + m) xs) ≡ take m (drop n xs) = drop-take n m xs in
    ap (λ (ys : List ℕ). ys ++ take m (drop n xs)) (sym front) ∙ ap (λ (ys : List ℕ). take n (take (n + m) xs) ++ ys) (sym back) ∙ take-append-drop n (take (n + m) xs)

-- one more number is read
pub more_read : (ps bytes : List ℕ) (k v : ℕ) → k < length ps → words (take k ps) ≡ take (4 * k) bytes → to_be_bytes w32 v ≡ take 4 (drop (4 * k) bytes) → words (take (k + 1) (set ps k v)) ≡ take (4 * (k + 1)) bytes
more_read ps bytes k v lt so_far this =
    let four : 4 * k + 4 ≡ 4 * (k + 1) = omega arith in
    ap words (take_more_set ps k v lt) ∙ sym (flat_map_more (to_be_bytes w32) [] (take k ps) v) ∙ ap (λ (x : List ℕ). x ++ to_be_bytes w32 v) so_far ∙ ap (λ (x : List ℕ). take (4 * k) bytes ++ x) this ∙ take_on (4 * k) 4 bytes ∙ ap (λ (n : ℕ). take n bytes) four

-- bytes are put behind a front that is done
pub put_on : (front old bytes out new : List ℕ) (p m : ℕ) → length front ≡ p → length bytes ≡ m → out ≡ front ++ drop p old → new ≡ take p out ++ (bytes ++ drop (p + m) out) → new ≡ (front ++ bytes) ++ drop (p + m) old
put_on front old bytes out new p m lf lb is_out is_new =
    let before : take p out ≡ front = ap (take p) is_out ∙ take_at front (drop p old) p lf in
    let after : drop p out ≡ drop p old = ap (drop p) is_out ∙ drop_at front (drop p old) p lf in
    let behind : drop (p + m) out ≡ drop (p + m) old = sym (drop-drop m p out) ∙ ap (drop m) after ∙ drop-drop m p old in
    is_new ∙ ap (λ (x : List ℕ). x ++ (bytes ++ drop (p + m) out)) before ∙ ap (λ (x : List ℕ). front ++ (bytes ++ x)) behind ∙ sym (append_assoc front bytes (drop (p + m) old))

-- one more number is put
pub more_put : (old ws out new : List ℕ) (at k d : ℕ) → k < length ws → at ≤ length old → out ≡ (take at old ++ words (take k ws)) ++ drop (at + 4 * k) old
    → new ≡ take (at + 4 * k) out ++ (to_be_bytes w32 (get_or ws k d) ++ drop (at + 4 * k + 4) out) → new ≡ (take at old ++ words (take (k + 1) ws)) ++ drop (at + 4 * (k + 1)) old
more_put old ws out new at k d lt le is_out is_new =
    let this = to_be_bytes w32 (get_or ws k d) in
    let four : at + 4 * k + 4 ≡ at + 4 * (k + 1) = omega arith in
    let len : length (take at old ++ words (take k ws)) ≡ at + 4 * k = omega (arith, length-append (take at old) (words (take k ws)), length-words (take k ws), length-take at old, length-take k ws) in
    let put = put_on (take at old ++ words (take k ws)) old this out new (at + 4 * k) 4 len refl is_out is_new in
    let all : words (take k ws) ++ this ≡ words (take (k + 1) ws) = flat_map_more (to_be_bytes w32) [] (take k ws) (get_or ws k d) ∙ ap words (sym (take_more ws k d lt)) in
    put ∙ ap (λ (x : List ℕ). x ++ drop (at + 4 * k + 4) old) (append_assoc (take at old) (words (take k ws)) this ∙ ap (λ (x : List ℕ). take at old ++ x) all)
    ∙ ap (λ (n : ℕ). (take at old ++ words (take (k + 1) ws)) ++ drop n old) four

pub all_zeros : (xs : List ℕ) (n : ℕ) → length xs ≡ n → ((k : ℕ) → k < length xs → get_or xs k 0 ≡ 0) → xs ≡ replicate n 0
all_zeros xs n len h = ext_get_or 0 xs (replicate n 0) (len ∙ sym (length-replicate n 0)) (λ k lt. h k lt ∙ sym (get_or-replicate n k 0 0 (omega (arith, len, lt))))

-- one number among many
pub nth_word : (ns rest : List ℕ) (k : ℕ) → k < length ns → take 4 (drop (4 * k) (words ns ++ rest)) ≡ to_be_bytes w32 (get_or ns k 0)
nth_word [] rest k lt = absurd (omega (arith, lt))
nth_word (n ∷ ns) rest zero lt =
    let first : words (n ∷ ns) ++ rest ≡ to_be_bytes w32 n ++ (words ns ++ rest) = ap (λ (x : List ℕ). x ++ rest) (flat_map-cons (to_be_bytes w32) n ns) ∙ append_assoc (to_be_bytes w32 n) (words ns) rest in
    ap (take 4) first ∙ take_at (to_be_bytes w32 n) (words ns ++ rest) 4 refl
nth_word (n ∷ ns) rest (suc k) lt =
    let first : words (n ∷ ns) ++ rest ≡ to_be_bytes w32 n ++ (words ns ++ rest) = ap (λ (x : List ℕ). x ++ rest) (flat_map-cons (to_be_bytes w32) n ns) ∙ append_assoc (to_be_bytes w32 n) (words ns) rest in
    let behind : drop 4 (words (n ∷ ns) ++ rest) ≡ words ns ++ rest = ap (drop 4) first ∙ drop_at (to_be_bytes w32 n) (words ns ++ rest) 4 refl in
    let four : 4 * suc k ≡ 4 + 4 * k = omega arith in
    ap (λ (m : ℕ). take 4 (drop m (words (n ∷ ns) ++ rest))) four ∙ ap (take 4) (sym (drop-drop (4 * k) 4 (words (n ∷ ns) ++ rest)) ∙ ap (drop (4 * k)) behind) ∙ nth_word ns rest k (omega (arith, lt))

-- of bytes that are put, what lies before them and behind them stays
pub kept_before : (old rest : List ℕ) (at from n : ℕ) → from + n ≤ at → at ≤ length old → take n (drop from (take at old ++ rest)) ≡ take n (drop from old)
kept_before old rest at from n le within =
    let len : length (take at old) ≡ at = length-take-le at old within in
    sym (drop-take from n (take at old ++ rest)) ∙ ap (drop from) (take-append-le (from + n) (take at old) rest (omega (arith, le, len)) ∙ take-take (from + n) at old le) ∙ drop-take from n old

pub kept_behind : (old bytes : List ℕ) (at m from : ℕ) → length bytes ≡ m → at + m ≤ from → at ≤ length old → drop from (take at old ++ (bytes ++ drop (at + m) old)) ≡ drop from old
kept_behind old bytes at m from len le within =
    let new : List ℕ = take at old ++ (bytes ++ drop (at + m) old) in
    let further : ℕ = from - (at + m) in
    let is : from ≡ at + m + further = omega (arith, le) in
    let behind : drop (at + m) new ≡ drop (at + m) old =
    sym (drop-drop m at new) ∙ ap (drop m) (drop_at (take at old) (bytes ++ drop (at + m) old) at (length-take-le at old within)) ∙ drop_at bytes (drop (at + m) old) m len in
    ap (λ (n : ℕ). drop n new) is ∙ sym (drop-drop further (at + m) new) ∙ ap (drop further) behind ∙ drop-drop further (at + m) old ∙ ap (λ (n : ℕ). drop n old) (sym is)

-- what is put is there
pub put_there : (old bytes : List ℕ) (at m : ℕ) → length bytes ≡ m → at ≤ length old → take m (drop at (take at old ++ (bytes ++ drop (at + m) old))) ≡ bytes
put_there old bytes at m len within =
    ap (take m) (drop_at (take at old) (bytes ++ drop (at + m) old) at (length-take-le at old within)) ∙ take_at bytes (drop (at + m) old) m len

-- a piece of bytes that lies before what is put, or behind it, stays
pub other_piece : (old bytes : List ℕ) (at from n : ℕ) → length bytes ≡ n → (from + n ≤ at) ⊎ (at + n ≤ from) → at ≤ length old → take n (drop from (take at old ++ (bytes ++ drop (at + n) old))) ≡ take n (drop from old)
other_piece old bytes at from n len (inl before) within = kept_before old (bytes ++ drop (at + n) old) at from n before within
other_piece old bytes at from n len (inr behind) within = ap (take n) (kept_behind old bytes at n from len behind within)
