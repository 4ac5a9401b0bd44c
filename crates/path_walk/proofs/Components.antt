-- A path falls into its first name and what stands behind it.
use Rattle.std.proofs.Common.{◌≡◌, ℕ, suc, ◌+◌, ◌-◌, ◌<◌, ◌≤◌, Bool, true, false, cond, not, inl, inr, List, [], ◌∷◌, length, get_or, take, drop, ltb, Option, Some, None, IfNone, unwrap_or, length-drop, refl, sym, ap, subst, ◌∙◌, arith, one-add, take_all}
use Rattle.std.specs.List.{filter, slice_split, position_or_len, position, All}
use Rattle.std.proofs.lemmas.Bool.{cases_Bool, cond-true, cond-false, cases_lt, ne_eqb, not-true, ltb-true, ltb-false, lt-ltb, le-ltb, false_from_ne_true}
use Rattle.std.proofs.lemmas.Option.{none-some, cond_some}
use Rattle.std.proofs.lemmas.List.{drop_all, drop_more, take_rest, length-take-le}
use Rattle.std.proofs.lemmas.List.Sums.{prefix_len-le-length, passes_at_first, fails_before_first}
use Rattle.std.proofs.lemmas.List.Splits.{slice_split-cons_yes, slice_split_first, slice_split_none}
use Rattle.kabi_types.specs.PathParts.{components, is_slash, has_bytes}

-- where the first name begins
abbrev pub begin_of : List ℕ → ℕ
begin_of path = position_or_len (λ byte. not (is_slash byte)) path

-- where it ends, in what begins there
abbrev pub end_of : List ℕ → ℕ
end_of rest = position_or_len is_slash rest

-- a slash at the front says nothing
components-slash : (byte : ℕ) (path : List ℕ) → is_slash byte ≡ true → components (byte ∷ path) ≡ components path
components-slash byte path is = ap (filter has_bytes) (slice_split-cons_yes is_slash byte path is)

-- the slashes at the front
pub components-drop_begin : (path : List ℕ) → components path ≡ components (drop (begin_of path) path)
components-drop_begin [] = refl
components-drop_begin (byte ∷ path) =
    elim (cases_Bool (is_slash byte)) [
      | inl slashed ↦
          let at : begin_of (byte ∷ path) ≡ suc (begin_of path) = ap (λ (b : Bool). cond (not (not b)) (1 + begin_of path) 0) slashed ∙ one-add (begin_of path) in
          components-slash byte path slashed ∙ components-drop_begin path ∙ ap (λ (n : ℕ). components (drop n (byte ∷ path))) (sym at)
      | inr name ↦
          let at : begin_of (byte ∷ path) ≡ 0 = ap (λ (b : Bool). cond (not (not b)) (1 + begin_of path) 0) name in
          ap (λ (n : ℕ). components (drop n (byte ∷ path))) (sym at)
    ]

-- slashes alone
pub components-slashes : (path : List ℕ) → length path ≤ begin_of path → components path ≡ []
components-slashes path past = components-drop_begin path ∙ ap components (drop_all (begin_of path) path past)

-- what begins at the first name has a byte of it first
pub name_first : (path : List ℕ) → begin_of path < length path → 0 < end_of (drop (begin_of path) path)
name_first path within =
    let byte : ℕ = get_or path (begin_of path) 0 in
    let rest : List ℕ = drop (begin_of path + 1) path in
    let is : drop (begin_of path) path ≡ byte ∷ rest = drop_more path (begin_of path) 0 within in
    let name : is_slash byte ≡ false = not-true (is_slash byte) (passes_at_first (λ b. not (is_slash b)) path 0 within) in
    let at : end_of (byte ∷ rest) ≡ 1 + end_of rest = ap (λ (b : Bool). cond (not b) (1 + end_of rest) 0) name in
    omega (arith, ap end_of is, at)

-- the first name ends where the next slash stands
pub components-name : (rest : List ℕ) → 0 < end_of rest → components rest ≡ take (end_of rest) rest ∷ components (drop (end_of rest) rest)
components-name rest pos =
    let le : end_of rest ≤ length rest = prefix_len-le-length (λ b. not (is_slash b)) rest in
    let len : length (take (end_of rest) rest) ≡ end_of rest = length-take-le (end_of rest) rest le in
    let is : has_bytes (take (end_of rest) rest) ≡ true = ap not (ne_eqb (length (take (end_of rest) rest)) 0 (λ none. omega (arith, len, pos, none))) in
    let kept : (parts : List (List ℕ)) → filter has_bytes (take (end_of rest) rest ∷ parts) ≡ take (end_of rest) rest ∷ filter has_bytes parts
    = λ parts. cond-true (has_bytes (take (end_of rest) rest)) _ _ is in
    elim (cases_lt (end_of rest) (length rest)) [
      | inl lt ↦
          let byte : ℕ = get_or rest (end_of rest) 0 in
          let behind : List ℕ = drop (end_of rest + 1) rest in
          let at : drop (end_of rest) rest ≡ byte ∷ behind = drop_more rest (end_of rest) 0 lt in
          let further : components (drop (end_of rest) rest) ≡ components behind = ap components at ∙ components-slash byte behind (passes_at_first is_slash rest 0 lt) in
          ap (filter has_bytes) (slice_split_first is_slash rest 0 lt) ∙ kept (slice_split is_slash behind) ∙ ap (λ (names : List (List ℕ)). take (end_of rest) rest ∷ names) (sym further)
      | inr past ↦
          let whole : take (end_of rest) rest ≡ rest = take_all (end_of rest) rest past in
          let none : drop (end_of rest) rest ≡ [] = drop_all (end_of rest) rest past in
          let all : All (λ b. is_slash b ≡ false) rest = λ k d lt. fails_before_first is_slash rest k d (omega (arith, lt, past)) in
          ap (filter has_bytes) (slice_split_none is_slash rest all ∙ ap (λ (name : List ℕ). name ∷ []) (sym whole)) ∙ kept [] ∙ ap (λ (names : List (List ℕ)). take (end_of rest) rest ∷ names) (sym (ap components none))
    ]

-- where no name begins there are slashes alone
pub no_name : (path : List ℕ) → position (λ byte. not (is_slash byte)) path ≡ None → components path ≡ []
no_name path at =
    components-slashes path (ltb-false (begin_of path) (length path) (false_from_ne_true (ltb (begin_of path) (length path)) (λ lt.
    none-some (begin_of path) (sym at ∙ cond-true (ltb (begin_of path) (length path)) (Some (begin_of path)) None lt))))

-- a place that is found is the first, and within the list
found_place : (p : ℕ → Bool) (xs : List ℕ) (at : ℕ) → position p xs ≡ Some at → (position_or_len p xs ≡ at) × (at < length xs)
found_place p xs at is =
    let parts = cond_some (ltb (position_or_len p xs) (length xs)) (position_or_len p xs) at is in
    (parts.1, subst (λ (n : ℕ). n < length xs) parts.1 (ltb-true (position_or_len p xs) (length xs) parts.0))

-- the first slash, or the end
place_or_end : (rest : List ℕ) → unwrap_or (position is_slash rest) (length rest) ≡ end_of rest
place_or_end rest =
    elim (cases_lt (end_of rest) (length rest)) [
      | inl lt ↦ ap (λ (o : Option ℕ). unwrap_or o (length rest)) (cond-true (ltb (end_of rest) (length rest)) (Some (end_of rest)) None (lt-ltb (end_of rest) (length rest) lt))
      | inr past ↦
          let le : end_of rest ≤ length rest = prefix_len-le-length (λ b. not (is_slash b)) rest in
          ap (λ (o : Option ℕ). unwrap_or o (length rest)) (cond-false (ltb (end_of rest) (length rest)) (Some (end_of rest)) None (le-ltb (end_of rest) (length rest) past)) ∙ (let same : length rest ≡ end_of rest = omega (arith, le, past) in same)
    ]

-- the first name of a path and what stands behind it
pub record FirstName (path name behind : List ℕ) : Type 0 where
  pub parts : components path ≡ name ∷ components behind
  pub shorter : length behind < length path

pub first_name : (path rest : List ℕ) (begin end : ℕ) → position (λ byte. not (is_slash byte)) path ≡ Some begin → rest ≡ take (length path - begin) (drop begin path) → end ≡ unwrap_or (position is_slash rest) (length rest)
    → FirstName path (take end rest) (drop end rest)
first_name path rest begin end at is_rest is_end =
    let found = found_place (λ byte. not (is_slash byte)) path begin at in
    let is_drop : rest ≡ drop begin path = is_rest ∙ take_rest path begin in
    let from : drop (begin_of path) path ≡ rest = ap (λ (n : ℕ). drop n path) found.0 ∙ sym is_drop in
    let ends : end ≡ end_of rest = is_end ∙ place_or_end rest in
    let pos : 0 < end_of rest = subst (λ (xs : List ℕ). 0 < end_of xs) from (name_first path (omega (arith, found.0, found.1))) in
    record {
      parts = components-drop_begin path ∙ ap components from ∙ components-name rest pos ∙ ap (λ (n : ℕ). take n rest ∷ components (drop n rest)) (sym ends);
      shorter = omega (arith, length-drop end rest, ends, pos, ap length is_drop, length-drop begin path, found.1);
    }

pub if_none : {A : Type 0} (answer : Option A) (P : Type 0) → answer ≡ None → P → IfNone answer P
if_none None P is holds = holds
if_none (Some x) P is holds = tt
