-- Where the place of a pid is looked for.
use Rattle.std.proofs.Common.{◌≡◌, ◌≢◌, ℕ, zero, suc, ◌+◌, ◌<◌, ◌≤◌, ◌==◌, cond, List, [], ◌∷◌, length, take, min, None, Some, slice_index_or, refl, ap, sym, ◌∙◌, ⊎_elim, arith}
use Rattle.std.proofs.lemmas.Bool.{cases_lt}
use Rattle.proc_table.specs.Table.{AreBetween, key_of}
use Rattle.proc_table.specs.declared.places.Place.{Place}
use Rattle.proc_table.proofs.PlaceLemmas.{eqb_other, eqb_same}

-- a place whose pid it isn't is passed
key_of-other : (place : Place) (places : List Place) (pid : ℕ) → place.pid ≢ pid → key_of (place ∷ places) pid ≡ key_of places pid
key_of-other place places pid apart = ap (λ b. cond b (Some place.key) (key_of places pid)) (eqb_other place.pid pid apart)

-- no pid is below those that rise from it
key_of-below : (places : List Place) (before last pid : ℕ) → AreBetween before places last → pid ≤ before → key_of places pid ≡ None
key_of-below [] before last pid rising low = refl
key_of-below (place ∷ places) before last pid rising low =
    key_of-other place places pid (let above : before < place.pid = rising.0 in λ same. omega arith)
    ∙ key_of-below places place.pid last pid rising.1 (let above : before < place.pid = rising.0 in omega arith)

-- of places whose pids rise the first ones tell the key
key_in_front : (places : List Place) (before last pid n : ℕ) → AreBetween before places last → pid ≤ before + n → key_of (take n places) pid ≡ key_of places pid
key_in_front [] before last pid zero rising low = refl
key_in_front [] before last pid (suc n) rising low = refl
key_in_front (place ∷ places) before last pid zero rising low = sym (key_of-below (place ∷ places) before last pid rising (omega arith))
key_in_front (place ∷ places) before last pid (suc n) rising low =
    ap (λ rest. cond (place.pid == pid) (Some place.key) rest)
    (key_in_front places place.pid last pid n rising.1 (let above : before < place.pid = rising.0 in omega arith))

key_in_all : (places : List Place) (pid n : ℕ) → length places ≤ n → key_of (take n places) pid ≡ key_of places pid
key_in_all [] pid zero all = refl
key_in_all [] pid (suc n) all = refl
key_in_all (place ∷ places) pid zero all = absurd (omega arith)
key_in_all (place ∷ places) pid (suc n) all = ap (λ rest. cond (place.pid == pid) (Some place.key) rest) (key_in_all places pid n (omega arith))

pub min_within : (a b n : ℕ) → n ≡ min a b → n ≤ a
min_within a b n is = grind arith

-- as many of the first ones as the pid says, or all
pub key_near : (places : List Place) (last pid n : ℕ) → AreBetween 0 places last → n ≡ min (length places) pid → key_of (take n places) pid ≡ key_of places pid
key_near places last pid n rising is = ⊎_elim
    (λ less. key_in_front places 0 last pid n rising (few pid (length places) n (omega arith) is))
    (λ more. key_in_all places pid n (all pid (length places) n (omega arith) is))
    (cases_lt pid (length places))
  where
    few : (pid len n : ℕ) → pid ≤ len → n ≡ min len pid → pid ≤ 0 + n
    few pid len n less is = grind arith

    all : (pid len n : ℕ) → len ≤ pid → n ≡ min len pid → len ≤ n
    all pid len n less is = grind arith

-- a place that is there stands above what is before it
above_here : (places : List Place) (before last n : ℕ) (d : Place) → AreBetween before places last → n < length places → before < (slice_index_or places n d).pid
above_here [] before last n d rising within = absurd (omega arith)
above_here (place ∷ places) before last zero d rising within = rising.0
above_here (place ∷ places) before last (suc n) d rising within =
    let later : place.pid < (slice_index_or places n d).pid = above_here places place.pid last n d rising.1 (omega arith) in
    let h : before < place.pid = rising.0 in omega arith

-- of the first ones the last has the key
pub key_here : (places : List Place) (before last pid n : ℕ) (d : Place) → AreBetween before places last → n < length places → (slice_index_or places n d).pid ≡ pid
    → key_of (take (suc n) places) pid ≡ Some (slice_index_or places n d).key
key_here [] before last pid n d rising within is = absurd (omega arith)
key_here (place ∷ places) before last pid zero d rising within is = ap (λ b. cond b (Some place.key) None) (eqb_same place.pid pid is)
key_here (place ∷ places) before last pid (suc n) d rising within is =
    let later : place.pid < (slice_index_or places n d).pid = above_here places place.pid last n d rising.1 (omega arith) in
    key_of-other place (take (suc n) places) pid (λ same. omega arith)
    ∙ key_here places place.pid last pid n d rising.1 (omega arith) is

-- or it is passed, where its pid is another
pub key_passed : (places : List Place) (pid n : ℕ) (d : Place) → n < length places → (slice_index_or places n d).pid ≢ pid
    → key_of (take (suc n) places) pid ≡ key_of (take n places) pid
key_passed [] pid n d within other = absurd (omega arith)
key_passed (place ∷ places) pid zero d within other = key_of-other place [] pid other
key_passed (place ∷ places) pid (suc n) d within other =
    ap (λ rest. cond (place.pid == pid) (Some place.key) rest) (key_passed places pid n d (omega arith) other)

-- where it has a lower pid none of the first ones has the key
pub key_nowhere : (places : List Place) (before last pid n : ℕ) (d : Place) → AreBetween before places last → n < length places → (slice_index_or places n d).pid < pid
    → key_of (take (suc n) places) pid ≡ None
key_nowhere [] before last pid n d rising within is = absurd (omega arith)
key_nowhere (place ∷ places) before last pid zero d rising within is = key_of-other place [] pid (λ same. omega arith)
key_nowhere (place ∷ places) before last pid (suc n) d rising within is =
    let later : place.pid < (slice_index_or places n d).pid = above_here places place.pid last n d rising.1 (omega arith) in
    key_of-other place (take (suc n) places) pid (λ same. omega arith)
    ∙ key_nowhere places place.pid last pid n d rising.1 (omega arith) is
