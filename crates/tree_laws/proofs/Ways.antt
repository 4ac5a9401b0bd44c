-- No way up from a directory is longer than there are nodes, so a test finds each directory on it.
use Rattle.std.proofs.Common.{◌≡◌, ◌≢◌, ℕ, zero, suc, ◌+◌, ◌-◌, ◌*◌, ◌<◌, ◌≤◌, true, false, cond, ◌↔◌, inl, inr, List, [], ◌∷◌, length, eqb, refl, sym, ap, subst, ◌∙◌, arith, zero-add, suc-add, suc-mul, mul-suc}
use Rattle.std.specs.List.{list_any, AllByRecursion, IsDistinct}
use Rattle.std.proofs.lemmas.Bool.{cases_Bool, cases_eq, cases_lt, cond-true, cond-false, false≢true, eqb-true, eq-eqb, ne_eqb, or_cases, or_left, or_right}
use Rattle.std.proofs.lemmas.Bool.Decides.{Decides-eqb}
use Rattle.std.proofs.lemmas.Map.Keys.{IsDistinct-cons}
use Rattle.std.proofs.lemmas.Map.Made.{IsDistinct-from_AllPairs}
use Rattle.std.proofs.lemmas.Map.Steps.{length-le_from_distinct_below}
use Rattle.posix_defs.specs.Tree.{Tree, root, is_directory, parent_at, climbed}
use Rattle.posix_defs.specs.TreeChanges.{IsAtOrAbove, is_above, is_at_or_above}
use Rattle.posix_defs.specs.IsTree.{IsTree}
use Rattle.posix_defs.proofs.TreeNodes.{directory_number}

climbed-add : (tree : Tree) (a b m : ℕ) → climbed tree (a + b) m ≡ climbed tree b (climbed tree a m)
climbed-add tree zero b m = ap (λ (n : ℕ). climbed tree n m) (zero-add b)
climbed-add tree (suc a) b m = ap (λ (n : ℕ). climbed tree n m) (suc-add a b) ∙ climbed-add tree a b (parent_at tree m)

root_stays : (tree : Tree) → IsTree tree → (steps : ℕ) → climbed tree steps root ≡ root
root_stays tree is zero = refl
root_stays tree is (suc steps) = ap (climbed tree steps) is.root_parent ∙ root_stays tree is steps

-- behind the root there is the root
past_root : (tree : Tree) (steps more m : ℕ) → IsTree tree → climbed tree steps m ≡ root → steps ≤ more → climbed tree more m ≡ root
past_root tree steps more m is at le =
    let rest : ℕ = more - steps in
    let same : more ≡ steps + rest = omega arith in
    ap (λ (n : ℕ). climbed tree n m) same ∙ climbed-add tree steps rest m ∙ ap (climbed tree rest) at ∙ root_stays tree is rest

-- round and round
round : (tree : Tree) (period m times : ℕ) → climbed tree period m ≡ m → climbed tree (times * period) m ≡ m
round tree period m zero again = ap (λ (n : ℕ). climbed tree n m) (let none : zero * period ≡ 0 = omega arith in none)
round tree period m (suc times) again =
    let more : suc times * period ≡ period + times * period = suc-mul times period ∙ (let flip : times * period + period ≡ period + times * period = omega arith in flip) in
    ap (λ (n : ℕ). climbed tree n m) more ∙ climbed-add tree period (times * period) m ∙ ap (climbed tree (times * period)) again ∙ round tree period m times again

-- a directory that climbs to the root and leads to itself is the root
no_round : (tree : Tree) (steps period m : ℕ) → IsTree tree → climbed tree steps m ≡ root → climbed tree (suc period) m ≡ m → m ≡ root
no_round tree steps period m is up again =
    let enough : steps ≤ steps * suc period = le-mul_of_pos steps period in
    sym (round tree (suc period) m steps again) ∙ past_root tree steps (steps * suc period) m is up enough
  where
    le-mul_of_pos : (a b : ℕ) → a ≤ a * suc b
    le-mul_of_pos a b = let e : a * suc b ≡ a * b + a = mul-suc a b in omega (arith, e)

-- the directories on a way up, the root left out
trail : Tree → ℕ → ℕ → List ℕ
trail tree zero m = []
trail tree (suc steps) m = cond (eqb m root) [] (m ∷ trail tree steps (parent_at tree m))

trail-root : (tree : Tree) (steps m : ℕ) → m ≡ root → trail tree (suc steps) m ≡ []
unfolding trail
trail-root tree steps m same = cond-true (eqb m root) [] _ (eq-eqb m root same)

trail-below : (tree : Tree) (steps m : ℕ) → m ≢ root → trail tree (suc steps) m ≡ m ∷ trail tree steps (parent_at tree m)
unfolding trail
trail-below tree steps m other = cond-false (eqb m root) [] _ (ne_eqb m root other)

trail-none : (tree : Tree) (m : ℕ) → trail tree zero m ≡ []
unfolding trail
trail-none tree m = refl

trail_climbs : (tree : Tree) (steps m : ℕ) → climbed tree steps m ≡ root → climbed tree (length (trail tree steps m)) m ≡ root
trail_climbs tree zero m at = ap (λ (xs : List ℕ). climbed tree (length xs) m) (trail-none tree m) ∙ at
trail_climbs tree (suc steps) m at =
    elim (cases_eq m root) [
      | inl same ↦ ap (λ (xs : List ℕ). climbed tree (length xs) m) (trail-root tree steps m same) ∙ same
      | inr other ↦ ap (λ (xs : List ℕ). climbed tree (length xs) m) (trail-below tree steps m other) ∙ trail_climbs tree steps (parent_at tree m) at
    ]

-- what stands on the trail is a directory below the root, so many steps up
record OnTrail (tree : Tree) (m q : ℕ) : Type 0 where
  directory : is_directory tree q ≡ true
  below : q ≢ root
  steps : ℕ
  up : climbed tree steps m ≡ q

on_trail : (tree : Tree) (steps m q : ℕ) → IsTree tree → is_directory tree m ≡ true → list_any (eqb q) (trail tree steps m) ≡ true → OnTrail tree m q
on_trail tree zero m q is at found = absurd (false≢true (ap (list_any (eqb q)) (sym (trail-none tree m)) ∙ found))
on_trail tree (suc steps) m q is at found =
    elim (cases_eq m root) [
      | inl same ↦ absurd (false≢true (ap (list_any (eqb q)) (sym (trail-root tree steps m same)) ∙ found))
      | inr other ↦
          elim (or_cases (eqb q m) (list_any (eqb q) (trail tree steps (parent_at tree m))) (sym (ap (list_any (eqb q)) (trail-below tree steps m other)) ∙ found)) [
            | inl here ↦
                let same : q ≡ m = eqb-true q m here in
                record { directory = ap (is_directory tree) same ∙ at; below = λ e. other (sym same ∙ e); steps = 0; up = sym same }
            | inr further ↦
                let rest = on_trail tree steps (parent_at tree m) q is (is.parents m at) further in
                record { directory = rest.directory; below = rest.below; steps = suc rest.steps; up = rest.up }
          ]
    ]

not_among : (q : ℕ) (xs : List ℕ) → (list_any (eqb q) xs ≡ true → ⊥) → AllByRecursion (λ y. eqb q y ≡ false) xs
not_among q [] none = tt
not_among q (x ∷ xs) none = (
  elim (cases_Bool (eqb q x)) [ inl same ↦ absurd (none (or_left (eqb q x) (list_any (eqb q) xs) same)) | inr other ↦ other ],
  not_among q xs (λ some. none (or_right (eqb q x) (list_any (eqb q) xs) some)),
)

IsDistinct-nil : IsDistinct eqb []
IsDistinct-nil = IsDistinct-from_AllPairs Decides-eqb [] (λ i j d lt within. absurd (omega (arith, within)))

trail_distinct : (tree : Tree) (steps m : ℕ) → IsTree tree → is_directory tree m ≡ true → climbed tree steps m ≡ root → IsDistinct eqb (trail tree steps m)
trail_distinct tree zero m is at up = subst (IsDistinct eqb) (sym (trail-none tree m)) IsDistinct-nil
trail_distinct tree (suc steps) m is at up =
    elim (cases_eq m root) [
      | inl same ↦ subst (IsDistinct eqb) (sym (trail-root tree steps m same)) IsDistinct-nil
      | inr other ↦
          let rest : List ℕ = trail tree steps (parent_at tree m) in
          subst (IsDistinct eqb) (sym (trail-below tree steps m other))
          (IsDistinct-cons eqb m rest (not_among m rest (λ found.
          let on = on_trail tree steps (parent_at tree m) m is (is.parents m at) found in
          other (no_round tree (suc steps) on.steps m is up on.up)))
          (trail_distinct tree steps (parent_at tree m) is (is.parents m at) up))
    ]

-- every directory climbs to the root in as many steps as there are nodes
pub climbs_in_time : (tree : Tree) (m : ℕ) → IsTree tree → is_directory tree m ≡ true → climbed tree (length tree.nodes) m ≡ root
climbs_in_time tree m is at =
    let way = is.climbs m at in
    let on : List ℕ = trail tree way.0 m in
    let all : IsDistinct eqb (root ∷ on) = IsDistinct-cons eqb root on (not_among root on (λ found. (on_trail tree way.0 m root is at found).below refl)) (trail_distinct tree way.0 m is at way.1) in
    let within : (q : ℕ) → list_any (eqb q) (root ∷ on) ≡ true → q < length tree.nodes + 1 = λ q found.
    elim (or_cases (eqb q root) (list_any (eqb q) on) found) [
      | inl here ↦ omega (arith, eqb-true q root here, (directory_number tree root is.root_directory).within)
      | inr there ↦ omega (arith, (directory_number tree q (on_trail tree way.0 m q is at there).directory).within)
    ] in
    let few : length (root ∷ on) ≤ length tree.nodes + 1 = length-le_from_distinct_below (root ∷ on) (length tree.nodes + 1) all within in
    past_root tree (length on) (length tree.nodes) m is (trail_climbs tree way.0 m way.1) (omega (arith, few))

-- ---- the test

above_leads : (tree : Tree) (more dir at : ℕ) → is_above tree more dir at ≡ true → IsAtOrAbove tree dir at
above_leads tree zero dir at is = (0, eqb-true at dir is)
above_leads tree (suc more) dir at is =
    elim (or_cases (eqb at dir) (is_above tree more dir (parent_at tree at)) is) [
      | inl here ↦ (0, eqb-true at dir here)
      | inr further ↦ let rest = above_leads tree more dir (parent_at tree at) further in (suc rest.0, rest.1)
    ]

leads_above : (tree : Tree) (more steps dir at : ℕ) → steps ≤ more → climbed tree steps at ≡ dir → is_above tree more dir at ≡ true
leads_above tree zero zero dir at le is = eq-eqb at dir is
leads_above tree zero (suc steps) dir at le is = absurd (omega (arith, le))
leads_above tree (suc more) zero dir at le is = or_left (eqb at dir) (is_above tree more dir (parent_at tree at)) (eq-eqb at dir is)
leads_above tree (suc more) (suc steps) dir at le is = or_right (eqb at dir) (is_above tree more dir (parent_at tree at)) (leads_above tree more steps dir (parent_at tree at) (omega (arith, le)) is)

pub above_decides : (tree : Tree) (dir other : ℕ) → IsTree tree → is_directory tree other ≡ true → (is_at_or_above tree dir other ≡ true) ↔ IsAtOrAbove tree dir other
above_decides tree dir other is at = (
  above_leads tree (length tree.nodes) dir other,
  λ way. elim (cases_lt (length tree.nodes) way.0) [
    | inl long ↦
        let in_time = climbs_in_time tree other is at in
        let is_root : dir ≡ root = sym way.1 ∙ past_root tree (length tree.nodes) way.0 other is in_time (omega (arith, long)) in
        leads_above tree (length tree.nodes) (length tree.nodes) dir other (omega arith) (in_time ∙ sym is_root)
    | inr short ↦ leads_above tree (length tree.nodes) way.0 dir other short way.1
  ],
)
