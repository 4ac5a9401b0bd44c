-- What the account says of the pages of each process after one process's has changed, or the dead are forgotten.
use Rattle.std.proofs.Common.{◌≡◌, ◌≢◌, ℕ, zero, suc, ◌+◌, ◌<◌, ◌≤◌, Bool, true, false, cond, List, [], ◌∷◌, ◌++◌, length, slice_index_or, refl, ap, sym, ◌∙◌, subst, inl, inr, arith}
use Rattle.std.specs.Prelude.{sum_by}
use Rattle.std.proofs.lemmas.Bool.Decides.{eqb_tells}
use Rattle.std.proofs.lemmas.List.{get_or-set_same, get_or-set_other, get_or_append_left, get_or_at, get_or_past, get_or-replicate, length-replicate}
use Rattle.std.proofs.lemmas.List.Sums.{sum_by-cons}
use Rattle.kern_laws.proofs.TablePlaces.{below_or_not}
use Rattle.posix_defs.specs.ByPid.{with_pid}
use Rattle.posix_defs.specs.Memory.{Frames, Places, Unmapped, Frame, kept_from, names_frame, namings, no_places, place_at, places_of, without_dead}

-- the account with these places of processes
abbrev pub framed : List Places → ℕ → Frames
framed places made = record { places = places; made = made }

pub places_same : (xs : List Places) (made pid : ℕ) (places : Places) → 0 < pid → pid ≤ length xs → places_of (framed (with_pid xs pid places) made) pid ≡ places
places_same xs made zero places there within = absurd (omega arith)
places_same xs made (suc before) places there within = get_or-set_same xs before places no_places (omega arith)

pub places_other : (xs : List Places) (made made' pid other : ℕ) (places : Places) → other ≢ pid → places_of (framed (with_pid xs pid places) made) other ≡ places_of (framed xs made') other
places_other xs made made' pid zero places apart = refl
places_other xs made made' zero (suc other) places apart = refl
places_other xs made made' (suc before) (suc other) places apart = get_or-set_other xs before other places no_places (λ same. apart (ap suc same))

pub places_earlier : (xs : List Places) (made made' pid : ℕ) (places : Places) → pid ≤ length xs → places_of (framed (xs ++ places ∷ []) made) pid ≡ places_of (framed xs made') pid
places_earlier xs made made' zero places within = refl
places_earlier xs made made' (suc before) places within = get_or_append_left xs (places ∷ []) no_places before (omega arith)

pub places_last : (xs : List Places) (made pid : ℕ) (places : Places) → pid ≡ suc (length xs) → places_of (framed (xs ++ places ∷ []) made) pid ≡ places
places_last xs made pid places is = ap (places_of (framed (xs ++ places ∷ []) made)) is ∙ get_or_at xs places [] no_places (length xs) refl

-- ---- the dead are forgotten

kept_at : (alive : ℕ → Bool) (xs : List Places) (from i : ℕ) → alive (from + i) ≡ true → slice_index_or (kept_from alive from xs) i no_places ≡ slice_index_or xs i no_places
kept_at alive [] from i lives = refl
kept_at alive (places ∷ xs) from zero lives = go (alive from) (sym (ap alive (let e : from + 0 ≡ from = omega arith in e)) ∙ lives)
  where
    go : (b : Bool) → b ≡ true → cond b places no_places ≡ places
    go true is = refl
    go false is = absurd (no is)
      where
        no : false ≡ true → ⊥
        no e = cc
kept_at alive (places ∷ xs) from (suc i) lives = kept_at alive xs (from + 1) i (ap alive (let e : from + 1 + i ≡ from + suc i = omega arith in e) ∙ lives)

pub places_kept : (alive : ℕ → Bool) (frames : Frames) (who : ℕ) → alive who ≡ true → places_of (without_dead alive frames) who ≡ places_of frames who
places_kept alive frames zero lives = refl
places_kept alive frames (suc i) lives = kept_at alive frames.places 1 i (ap alive (let e : 1 + i ≡ suc i = omega arith in e) ∙ lives)

pub length_kept : (alive : ℕ → Bool) (from : ℕ) (xs : List Places) → length (kept_from alive from xs) ≡ length xs
length_kept alive from [] = refl
length_kept alive from (places ∷ xs) = ap suc (length_kept alive (from + 1) xs)

pub length_none : length no_places ≡ 256
unfolding no_places
length_none = length-replicate 256 Unmapped

none_below : (page : ℕ) → page < 256 → place_at no_places page ≡ Unmapped
unfolding no_places
none_below page below = get_or-replicate 256 page Unmapped Unmapped below

-- ---- how often a frame is named

one_of : {X : Type 0} (g : X → ℕ) (d : X) (xs : List X) (i : ℕ) → i < length xs → 1 ≤ g (slice_index_or xs i d) → 1 ≤ sum_by g xs
one_of g d [] i less some = absurd (omega arith)
one_of g d (x ∷ xs) zero less some = let all = sum_by-cons g x xs in omega (arith, all, some)
one_of g d (x ∷ xs) (suc i) less some = let rest = one_of g d xs i (omega arith) some in let all = sum_by-cons g x xs in omega (arith, all, rest)

two_of : {X : Type 0} (g : X → ℕ) (d : X) (xs : List X) (i j : ℕ) → i ≢ j → i < length xs → j < length xs → 1 ≤ g (slice_index_or xs i d) → 1 ≤ g (slice_index_or xs j d) → 2 ≤ sum_by g xs
two_of g d [] i j apart less too some also = absurd (omega arith)
two_of g d (x ∷ xs) zero zero apart less too some also = absurd (apart refl)
two_of g d (x ∷ xs) zero (suc j) apart less too some also = let rest = one_of g d xs j (omega arith) also in let all = sum_by-cons g x xs in omega (arith, all, rest, some)
two_of g d (x ∷ xs) (suc i) zero apart less too some also = let rest = one_of g d xs i (omega arith) some in let all = sum_by-cons g x xs in omega (arith, all, rest, also)
two_of g d (x ∷ xs) (suc i) (suc j) apart less too some also = let rest = two_of g d xs i j (λ same. apart (ap suc same)) (omega arith) (omega arith) some also in
    let all = sum_by-cons g x xs in omega (arith, all, rest)

not_frame : (frame : ℕ) → Unmapped ≡ Frame frame → ⊥
not_frame frame e = cc

-- a page that names a frame is one of the list
pub frame_within : (places : Places) (page frame : ℕ) → place_at places page ≡ Frame frame → page < length places
frame_within [] zero frame is = absurd (not_frame frame is)
frame_within [] (suc page) frame is = absurd (not_frame frame is)
frame_within (place ∷ places) zero frame is = omega arith
frame_within (place ∷ places) (suc page) frame is = let rest = frame_within places page frame is in omega (arith, rest)

names_it : (places : Places) (page frame : ℕ) → place_at places page ≡ Frame frame → 1 ≤ sum_by (names_frame frame) places
names_it places page frame is = one_of (names_frame frame) Unmapped places page (frame_within places page frame is) (let one = ap (names_frame frame) is ∙ itself in omega (arith, one))
  where
    itself : names_frame frame (Frame frame) ≡ 1
    itself = elim (eqb_tells frame frame) [ inl alike ↦ ap (λ b. cond b 1 0) alike.0 | inr apart ↦ absurd (apart.1 refl) ]

-- who has no pages names none
pub nobody : (page frame : ℕ) → place_at no_places page ≡ Frame frame → ⊥
nobody page frame is = elim (below_or_not page 256) [
  | inl h ↦ not_frame frame (sym (none_below page h) ∙ is)
  | inr h ↦ not_frame frame (sym (get_or_past no_places page Unmapped (subst (λ n. n ≤ page) (sym length_none) h)) ∙ is)
]

-- a frame that two processes name is named twice
pub named_twice : (frames : Frames) (who page other there frame : ℕ) → who ≢ other → place_at (places_of frames who) page ≡ Frame frame → place_at (places_of frames other) there ≡ Frame frame
    → 2 ≤ namings frames.places frame
named_twice frames zero page other there frame apart is too = absurd (nobody page frame is)
named_twice frames (suc i) page zero there frame apart is too = absurd (nobody there frame too)
named_twice frames (suc i) page (suc j) there frame apart is too =
    two_of (sum_by (names_frame frame)) no_places frames.places i j (λ same. apart (ap suc same)) (made i page is) (made j there too)
    (names_it (places_of frames (suc i)) page frame is) (names_it (places_of frames (suc j)) there frame too)
  where
    made : (i page : ℕ) → place_at (slice_index_or frames.places i no_places) page ≡ Frame frame → i < length frames.places
    made i page is = elim (below_or_not i (length frames.places)) [
      | inl h ↦ h
      | inr h ↦ absurd (nobody page frame (sym (ap (λ places. place_at places page) (get_or_past frames.places i no_places h)) ∙ is))
    ]
