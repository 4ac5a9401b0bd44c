-- How many frames a process names, by the account and by its nodes.
use Rattle.std.proofs.Common.{◌≡◌, ℕ, suc, ◌+◌, ◌*◌, ◌/◌, ◌%◌, ◌<◌, Bool, true, false, cond, List, [], ◌∷◌, take, drop, length, get_or, Option, None, Some, is_some, refl, ap, sym, ◌∙◌, arith}
use Rattle.std.specs.Prelude.{count_by, sum_by}
use Rattle.std.proofs.lemmas.List.{drop-drop, drop_all, get_or-drop, get_or-take, length-drop, length-take}
use Rattle.std.proofs.lemmas.List.Sums.{sum_by-cons, sum_by-take-drop}
use Rattle.kheap_slabs.specs.Objects.{object}
use Rattle.kheap_slabs.specs.declared.objects.Node.{Node}
use Rattle.kheap_slabs.specs.declared.objects.PageEntry.{PageEntry}
use Rattle.kheap_slabs.specs.declared.objects.PageEntry.TheVariants as entry
use Rattle.kheap_slabs.specs.Spaces.{OwnsNodes, keys_in}
use Rattle.page_space.specs.Accounts.{HasPlaces, place_of}
use Rattle.page_space.specs.Entries.{entry_at}
use Rattle.kheap_laws.proofs.KeyPlaces.{key_there}
use Rattle.page_space.proofs.TurnLemmas.{entry_known, entry_none}
use Rattle.posix_defs.specs.Memory.{Places, Unmapped, frames_in, names_any}
use Rattle.call_run.specs.Weights.{frames_under, has_frame}

-- lists whose items pass alike have as many that pass
same_count : {X Y : Type 0} (p : X → Bool) (q : Y → Bool) (d : X) (e : Y) (xs : List X) (ys : List Y) → length xs ≡ length ys
    → ((i : ℕ) → i < length xs → p (get_or xs i d) ≡ q (get_or ys i e)) → count_by p xs ≡ count_by q ys
same_count p q d e [] [] long alike = refl
same_count p q d e [] (y ∷ ys) long alike = absurd (omega arith)
same_count p q d e (x ∷ xs) [] long alike = absurd (omega arith)
same_count {X} {Y} p q d e (x ∷ xs) (y ∷ ys) long alike =
    sum_by-cons (λ (z : X). cond {A = ℕ} (p z) 1 0) x xs
    ∙ ap (λ (b : Bool). cond {A = ℕ} b 1 0 + count_by p xs) (alike 0 (omega arith))
    ∙ ap (λ (n : ℕ). cond {A = ℕ} (q y) 1 0 + n) (same_count p q d e xs ys (omega arith) (λ i within. alike (suc i) (omega arith)))
    ∙ sym (sum_by-cons (λ (z : Y). cond {A = ℕ} (q z) 1 0) y ys)

none_counted : {X : Type 0} (p : X → Bool) (d : X) (xs : List X) → ((i : ℕ) → i < length xs → p (get_or xs i d) ≡ false) → count_by p xs ≡ 0
none_counted p d [] none = refl
none_counted {X} p d (x ∷ xs) none =
    sum_by-cons (λ (z : X). cond {A = ℕ} (p z) 1 0) x xs
    ∙ ap (λ (b : Bool). cond {A = ℕ} b 1 0 + count_by p xs) (none 0 (omega arith))
    ∙ ap (λ (n : ℕ). 0 + n) (none_counted p d xs (λ i within. none (suc i) (omega arith)))

-- a list of 256 in four groups
four_parts : {X : Type 0} (p : X → Bool) (xs : List X) → length xs ≡ 256
    → count_by p xs ≡ count_by p (take 64 (drop 0 xs)) + (count_by p (take 64 (drop 64 xs)) + (count_by p (take 64 (drop 128 xs)) + count_by p (take 64 (drop 192 xs))))
four_parts {X} p xs whole =
    let f : X → ℕ = λ z. cond {A = ℕ} (p z) 1 0 in
    let one : sum_by f (take 64 (drop 0 xs)) + sum_by f (drop 64 (drop 0 xs)) ≡ sum_by f xs = sum_by-take-drop f xs 64 in
    let two : sum_by f (take 64 (drop 64 xs)) + sum_by f (drop 64 (drop 64 xs)) ≡ sum_by f (drop 64 xs) = sum_by-take-drop f (drop 64 xs) 64 in
    let three : sum_by f (take 64 (drop 128 xs)) + sum_by f (drop 64 (drop 128 xs)) ≡ sum_by f (drop 128 xs) = sum_by-take-drop f (drop 128 xs) 64 in
    let four : sum_by f (take 64 (drop 192 xs)) + sum_by f (drop 64 (drop 192 xs)) ≡ sum_by f (drop 192 xs) = sum_by-take-drop f (drop 192 xs) 64 in
    let next : sum_by f (drop 64 (drop 64 xs)) ≡ sum_by f (drop 128 xs) = ap (sum_by f) (drop-drop 64 64 xs) in
    let then : sum_by f (drop 64 (drop 128 xs)) ≡ sum_by f (drop 192 xs) = ap (sum_by f) (drop-drop 64 128 xs) in
    let last : sum_by f (drop 64 (drop 192 xs)) ≡ 0 = ap (sum_by f) (drop-drop 64 192 xs ∙ drop_all 256 xs (omega arith)) in
    omega arith

-- what belongs to a key that may be there
under : (ℕ → ℕ) → Option ℕ → ℕ
under f None = 0
under f (Some key) = f key

one_key : (f : ℕ → ℕ) (k : Option ℕ) (rest : List (Option ℕ)) → sum_by f (keys_in (k ∷ rest)) ≡ under f k + sum_by f (keys_in rest)
unfolding under
one_key f None rest = omega arith
one_key f (Some key) rest = sum_by-cons f key (keys_in rest)

four_keys : (f : ℕ → ℕ) (space : List (Option ℕ)) → length space ≡ 4
    → sum_by f (keys_in space) ≡ under f (get_or space 0 None) + (under f (get_or space 1 None) + (under f (get_or space 2 None) + under f (get_or space 3 None)))
four_keys f [] e = absurd (omega arith)
four_keys f (a ∷ []) e = absurd (omega arith)
four_keys f (a ∷ b ∷ []) e = absurd (omega arith)
four_keys f (a ∷ b ∷ c ∷ []) e = absurd (omega arith)
four_keys f (a ∷ b ∷ c ∷ d ∷ []) e =
    let one = one_key f a (b ∷ c ∷ d ∷ []) in
    let two = one_key f b (c ∷ d ∷ []) in
    let three = one_key f c (d ∷ []) in
    let four = one_key f d [] in
    let none : sum_by f [] ≡ 0 = refl in
    omega arith
four_keys f (a ∷ b ∷ c ∷ d ∷ g ∷ rest) e = absurd (omega arith)

place_framed : (number : ℕ → ℕ) (e : PageEntry) → names_any (place_of number e) ≡ has_frame e
place_framed number entry.Unmapped = refl
place_framed number entry.Zero = refl
place_framed number (entry.Frame key) = refl

module _ (number : ℕ → ℕ) (nodes : List (Option Node)) (space : List (Option ℕ)) (places : Places) (whole : length places ≡ 256)
    (has : HasPlaces number nodes space places) (owns : OwnsNodes nodes space)
    (long : (key : ℕ) (node : Node) → object nodes key ≡ Some node → length node.entries ≡ 64) where
  -- the account's places of a group
  part : ℕ → Places
  part group = take 64 (drop (64 * group) places)

  part_long : (group : ℕ) → group < 4 → length (part group) ≡ 64
  unfolding part
  part_long group less = omega (arith, length-take 64 (drop (64 * group) places), length-drop (64 * group) places, whole)

  part_framed : (group i : ℕ) → group < 4 → i < 64 → names_any (get_or (part group) i Unmapped) ≡ has_frame (entry_at nodes space (64 * group + i))
  unfolding part
  part_framed group i less below =
      ap names_any (get_or-take 64 (drop (64 * group) places) i Unmapped below ∙ (get_or-drop (64 * group) places i Unmapped ∙ has (64 * group + i) (omega arith)))
      ∙ place_framed number (entry_at nodes space (64 * group + i))

  -- a group names as many frames as its node
  part_is : (group : ℕ) → group < 4 → count_by names_any (part group) ≡ under (λ key. frames_under (object nodes key)) (get_or space group None)
  unfolding under
  part_is group less = go (get_or space group None) refl
    where
      of_group : (i : ℕ) → i < 64 → (64 * group + i) / 64 ≡ group
      of_group i below = omega arith

      at_place : (i : ℕ) → i < 64 → (64 * group + i) % 64 ≡ i
      at_place i below = omega arith

      small : (i : ℕ) → i < length (part group) → i < 64
      small i within = omega (arith, part_long group less)

      known : (key : ℕ) → get_or space group None ≡ Some key → (o : Option Node) → object nodes key ≡ o → is_some o ≡ true
          → count_by names_any (part group) ≡ frames_under o
      known key is None there used = cc
      known key is (Some node) there used =
          same_count names_any has_frame Unmapped entry.Unmapped (part group) node.entries (part_long group less ∙ sym (long key node there))
          (λ i within. part_framed group i less (small i within)
          ∙ ap has_frame (entry_known nodes space (64 * group + i) key node (ap (λ g. get_or space g None) (of_group i (small i within)) ∙ is) there
          ∙ ap (λ a. get_or node.entries a entry.Unmapped) (at_place i (small i within))))

      go : (k : Option ℕ) → get_or space group None ≡ k → count_by names_any (part group) ≡ under (λ key. frames_under (object nodes key)) k
      go None is =
          none_counted names_any Unmapped (part group)
          (λ i within. part_framed group i less (small i within)
          ∙ ap has_frame (entry_none nodes space (64 * group + i) (ap (λ g. get_or space g None) (of_group i (small i within)) ∙ is)))
      go (Some key) is = known key is (object nodes key) refl (owns.used key (key_there space group key is))

  -- A process names as many frames as the account says of it.
  pub frames_are : length space ≡ 4 → frames_in places ≡ sum_by (λ key. frames_under (object nodes key)) (keys_in space)
  unfolding part
  frames_are four =
      let zeroth = part_is 0 (omega arith) in
      let first = part_is 1 (omega arith) in
      let second = part_is 2 (omega arith) in
      let third = part_is 3 (omega arith) in
      let sum = four_parts names_any places whole in
      let keys = four_keys (λ key. frames_under (object nodes key)) space four in
      omega arith
