-- A Desc is made in a list of them: what counts it, and what it stands for.
use Rattle.std.proofs.Common.{◌≡◌, ◌≢◌, ℕ, zero, suc, ◌+◌, ◌<◌, ◌++◌, Bool, false, List, [], ◌∷◌, length, cond, eqb, count_by, Option, None, Some, IsSome, refl, sym, ap, ◌∙◌, arith, eq-eqb, ne_eqb, inl, inr, length-append}
use Rattle.std.specs.Option.{option_map}
use Rattle.std.proofs.lemmas.Bool.{cases_eq, cases_lt}
use Rattle.std.proofs.lemmas.List.{get_or-set_same, get_or-set_other, get_or_append_left, get_or_past}
use Rattle.std.proofs.lemmas.List.Sums.{sum_by-set}
use Rattle.kheap_slabs.specs.Objects.{InUse, object, put}
use Rattle.kheap_slabs.specs.declared.objects.Desc.{Desc}
use Rattle.kheap_slabs.specs.declared.objects.Target.{Target}
use Rattle.kheap_slabs.specs.declared.objects.Target.TheVariants as target
use Rattle.open_laws.specs.Described.{AreDescribed, Counted, CountedList, access_in, counted_in, target_in, uncounted}
use Rattle.open_laws.specs.Owned.{desc_count, desc_count_at, sock_in}
use Rattle.open_laws.specs.Placed.{Numbers, numbered}
use Rattle.open_laws.proofs.PlaceLemmas.{law_makes, placed_unchanged}
use Rattle.posix_defs.specs.Files.Descriptions.{Descriptions, Target as PlainTarget}
use Rattle.proc_numbers.proofs.Sums.{one_if, some_adds}

-- ---- lists that grow at their end

pub longer : {X : Type 0} (things : List (Option X)) (more : Option X) (place : ℕ) → place ≢ length things → object (things ++ more ∷ []) place ≡ object things place
longer things more place apart = elim (cases_lt place (length things)) [
  | inl below ↦ get_or_append_left things (more ∷ []) None place below
  | inr above ↦ get_or_past (things ++ more ∷ []) place None (rw length-append (omega (arith, above, apart))) ∙ sym (get_or_past things place None above)
]

pub uncounted_more : (list : CountedList) (counted : Counted) → uncounted (list ++ Some counted ∷ []) ≡ uncounted list ++ Some counted.is ∷ []
uncounted_more [] counted = refl
uncounted_more (first ∷ list) counted = ap (λ (rest : Descriptions). option_map (λ (c : Counted). c.is) first ∷ rest) (uncounted_more list counted)

pub length_uncounted : (list : CountedList) → length (uncounted list) ≡ length list
length_uncounted [] = refl
length_uncounted (first ∷ list) = ap (λ n. suc n) (length_uncounted list)

-- what a Desc says, by what its target is in the machine
abbrev pub counted_on : Desc → PlainTarget → Counted
counted_on desc what = record {
  is = record { target = what; offset = desc.offset; access = access_in desc.access; append = desc.flags.append; nonblock = desc.flags.nonblock };
  count = desc.count;
}

-- ---- a Desc under a key that was free

module _ (descs : List (Option Desc)) (key : ℕ) (desc : Desc) (free : object descs key ≡ None) (within : key < length descs) where
  pub made_here : object (put descs key desc) key ≡ Some desc
  made_here = get_or-set_same descs key (Some desc) None within

  pub made_others : (other : ℕ) → other ≢ key → object (put descs key desc) other ≡ object descs other
  made_others other apart = get_or-set_other descs key other (Some desc) None apart

  -- who is in use is another
  pub used_apart : (other : ℕ) → InUse descs other → other ≢ key
  used_apart other used same = none_used (object descs other) (ap (object descs) same ∙ free) used
    where
      none_used : (o : Option Desc) → o ≡ None → IsSome o → ⊥
      none_used None is some = cc
      none_used (Some other) is some = cc

  -- what counts it
  pub made_count : (test : Option Desc → Bool) → test None ≡ false → count_by test (put descs key desc) ≡ count_by test descs + one_if (test (Some desc))
  made_count test none =
      let moved = sum_by-set (λ o. one_if (test o)) descs key (Some desc) None within in
      let was : one_if (test (object descs key)) ≡ 0 = ap (λ o. one_if (test o)) free ∙ ap one_if none in
      omega (arith, moved, was)

  pub made_named : (other : ℕ) → desc_count_at (put descs key desc) other ≡ desc_count_at descs other + cond (eqb key other) desc.count 0
  made_named other = elim (cases_eq other key) [
    | inl same ↦
        let now : desc_count_at (put descs key desc) other ≡ desc.count = ap desc_count (ap (object (put descs key desc)) same ∙ made_here) in
        let was : desc_count_at descs other ≡ 0 = ap desc_count (ap (object descs) same ∙ free) in
        let one : cond (eqb key other) desc.count 0 ≡ desc.count = ap (λ b. cond b desc.count 0) (eq-eqb key other (sym same)) in
        omega (arith, now, was, one)
    | inr apart ↦
        let same = ap desc_count (made_others other apart) in
        let none : cond (eqb key other) desc.count 0 ≡ 0 = ap (λ b. cond b desc.count 0) (ne_eqb key other (λ e. apart (sym e))) in
        omega (arith, same, none)
  ]

  -- one that is open on no socket leaves who is on which
  pub made_sock : sock_in (Some desc) ≡ None → (other : ℕ) → sock_in (object (put descs key desc) other) ≡ sock_in (object descs other)
  made_sock none other = elim (cases_eq other key) [
    | inl same ↦ ap sock_in (ap (object (put descs key desc)) same ∙ made_here) ∙ none ∙ sym (ap sock_in (ap (object descs) same ∙ free))
    | inr apart ↦ ap sock_in (made_others other apart)
  ]

  -- the numbers with one for it
  abbrev pub numbers_with : Numbers → CountedList → Numbers
  numbers_with numbers list = record numbers { descs = numbered numbers.descs key (length list) }

  -- its description is the last one that was made
  pub made_described : (numbers : Numbers) (list : CountedList) → AreDescribed numbers descs list
      → AreDescribed (record numbers { descs = numbered numbers.descs key (length list) }) (put descs key desc) (list ++ Some (counted_in numbers desc) ∷ [])
  made_described numbers list are =
      let made = law_makes (λ k d. counted_in numbers d) numbers.descs descs list key desc free within are in
      placed_unchanged (λ k d c. c ≡ counted_in numbers d) (λ k d c. c ≡ counted_in (numbers_with numbers list) d)
      (numbers_with numbers list).descs (numbers_with numbers list).descs (put descs key desc) (put descs key desc)
      (object (list ++ Some (counted_in numbers desc) ∷ [])) (object (list ++ Some (counted_in numbers desc) ∷ []))
      (λ k. refl) (λ place. refl) (λ k used. refl) (λ k d c is said it. it ∙ ap (counted_on d) (same_target d.target)) made
    where
      same_target : (what : Target) → target_in numbers what ≡ target_in (numbers_with numbers list) what
      same_target (target.Inode number) = refl
      same_target (target.Pipe pipe) = refl
      same_target (target.Sock sock) = refl

-- what none counts
pub none_counted : (test : Option Desc → Bool) (descs : List (Option Desc)) → test None ≡ false → ((key : ℕ) (desc : Desc) → object descs key ≡ Some desc → test (Some desc) ≡ false)
    → count_by test descs ≡ 0
none_counted test descs none each = by_count (count_by test descs) refl
  where
    by_count : (n : ℕ) → count_by test descs ≡ n → n ≡ 0
    by_count zero is = refl
    by_count (suc n) is = absurd (
        let adds = some_adds (λ o. one_if (test o)) descs (ap one_if none) (omega (arith, is)) in
        let nothing : one_if (test (Some adds.value)) ≡ 0 = ap one_if (each adds.key adds.value adds.is) in
        let some = adds.adds in omega (arith, nothing, some))
