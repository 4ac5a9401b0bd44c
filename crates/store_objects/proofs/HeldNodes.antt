-- The nodes that are held are those that are pinned; descriptions hold them and others; and where one works in the root and no node
-- is opened, the root alone is held.
use Rattle.std.proofs.Common.{◌≡◌, ℕ, ◌+◌, ◌<◌, ◌==◌, ◌||◌, Bool, true, false, cond, List, [], ◌∷◌, ◌++◌, refl, ap, sym, ◌∙◌, inl, inr, arith}
use Rattle.std.specs.Prelude.{count_by}
use Rattle.std.proofs.lemmas.Bool.Decides.{eqb_tells}
use Rattle.std.proofs.lemmas.List.Folds.{list_any-append}
use Rattle.std.proofs.lemmas.List.Sums.{sum_by-append, sum_by-cons}
use Rattle.memfs_ops.specs.FileTree.{root_alone}
use Rattle.posix_defs.specs.Files.State.{opened_nodes}
use Rattle.posix_defs.specs.Plain.{Plain, root}
use Rattle.posix_defs.specs.World.{directories_of, distinct, is_in, pinned_nodes}
use Rattle.proc_files.specs.Holders.{holders}
use Rattle.store_objects.specs.Trees.{but_root, held_nodes, others_in, pins_in}

-- 1 for what passes
abbrev pub one_if : Bool → ℕ
one_if passes = cond passes 1 0

-- ---- among some numbers

pub whole : (n m : ℕ) (ms : List ℕ) → count_by (λ k. k == n) (m ∷ ms) ≡ one_if (m == n) + count_by (λ k. k == n) ms
whole n m ms = sum_by-cons (λ k. one_if (k == n)) m ms

-- a number that is among some is counted there, and the other way round
pub in_counts : (n : ℕ) (ns : List ℕ) → is_in n ns ≡ true → 0 < count_by (λ k. k == n) ns
in_counts n [] e = cc
in_counts n (m ∷ ms) e = go (m == n) refl e (λ f. in_counts n ms f)
  where
    go : (b : Bool) → (m == n) ≡ b → (b || is_in n ms) ≡ true → (is_in n ms ≡ true → 0 < count_by (λ k. k == n) ms) → 0 < count_by (λ k. k == n) (m ∷ ms)
    go true same some rest = let one : one_if (m == n) ≡ 1 = ap one_if same in let all = whole n m ms in omega (arith, all, one)
    go false apart some rest = let more = rest some in let all = whole n m ms in omega (arith, all, more)

pub counts_in : (n : ℕ) (ns : List ℕ) → 0 < count_by (λ k. k == n) ns → is_in n ns ≡ true
counts_in n [] some = absurd (let nothing : count_by (λ (k : ℕ). k == n) [] ≡ 0 = refl in omega (arith, some, nothing))
counts_in n (m ∷ ms) some = go (m == n) refl (λ more. counts_in n ms more)
  where
    go : (b : Bool) → (m == n) ≡ b → (0 < count_by (λ k. k == n) ms → is_in n ms ≡ true) → (b || is_in n ms) ≡ true
    go true same rest = refl
    go false apart rest = rest (let no : one_if (m == n) ≡ 0 = ap one_if apart in let all = whole n m ms in omega (arith, some, all, no))

-- each once are the same numbers
distinct_same : (n : ℕ) (ns : List ℕ) → is_in n (distinct ns) ≡ is_in n ns
distinct_same n [] = refl
distinct_same n (m ∷ ms) = go (is_in m ms) refl (distinct_same n ms)
  where
    there : (b : Bool) → (m == n) ≡ b → is_in m ms ≡ true → is_in n ms ≡ (b || is_in n ms)
    there true same e = elim (eqb_tells m n) [
      | inl is ↦ ap (λ k. is_in k ms) (sym is.1) ∙ e
      | inr apart ↦ absurd (let both : true ≡ false = sym same ∙ apart.0 in cc)
    ]
    there false apart e = refl

    go : (b : Bool) → is_in m ms ≡ b → is_in n (distinct ms) ≡ is_in n ms → is_in n (cond b (distinct ms) (m ∷ distinct ms)) ≡ is_in n (m ∷ ms)
    go true e rest = rest ∙ there (m == n) refl e
    go false e rest = ap (λ b. (m == n) || b) rest

-- ---- what is held and what is pinned

-- another number than the root is among those that aren't it where it is among all
but_root_same : (n : ℕ) (ns : List ℕ) → (root == n) ≡ false → is_in n (but_root ns) ≡ is_in n ns
but_root_same n [] other = refl
but_root_same n (m ∷ ms) other = go (m == root) refl (but_root_same n ms other)
  where
    go : (b : Bool) → (m == root) ≡ b → is_in n (but_root ms) ≡ is_in n ms → is_in n (cond b (but_root ms) (m ∷ but_root ms)) ≡ is_in n (m ∷ ms)
    go true same rest = elim (eqb_tells m root) [
      | inl is ↦ rest ∙ sym (ap (λ b. b || is_in n ms) (ap (λ k. k == n) is.1 ∙ other))
      | inr apart ↦ absurd (let both : true ≡ false = sym same ∙ apart.0 in cc)
    ]
    go false apart rest = ap (λ b. (m == n) || b) rest

pub held_same : (plain : Plain) (n : ℕ) → is_in n (held_nodes plain) ≡ is_in n (root ∷ opened_nodes plain.files ++ directories_of plain.table)
held_same plain n = go (root == n) refl
  where
    opened : List ℕ
    opened = opened_nodes plain.files

    away : List ℕ
    away = but_root (directories_of plain.table)

    go : (b : Bool) → (root == n) ≡ b → (b || is_in n (opened ++ away)) ≡ (b || is_in n (opened ++ directories_of plain.table))
    go true same = refl
    go false other =
        list_any-append (λ k. k == n) opened away ∙ ap (λ b. is_in n opened || b) (but_root_same n (directories_of plain.table) other)
        ∙ sym (list_any-append (λ k. k == n) opened (directories_of plain.table))

pinned_same : (plain : Plain) (n : ℕ) → is_in n (pinned_nodes plain) ≡ is_in n (held_nodes plain)
pinned_same plain n = distinct_same n (root ∷ opened_nodes plain.files ++ directories_of plain.table) ∙ sym (held_same plain n)

-- a node that is pinned is held, and the other way round
pub pinned_held : (plain : Plain) (n : ℕ) → is_in n (pinned_nodes plain) ≡ true → 0 < pins_in plain n
pinned_held plain n e = in_counts n (held_nodes plain) (sym (pinned_same plain n) ∙ e)

pub held_pinned : (plain : Plain) (n : ℕ) → 0 < pins_in plain n → is_in n (pinned_nodes plain) ≡ true
held_pinned plain n some = pinned_same plain n ∙ counts_in n (held_nodes plain) some

-- ---- who holds them

-- who holds a node is a description, or another
pub pins_split : (plain : Plain) (n : ℕ) → pins_in plain n ≡ holders (others_in plain) plain.files n
pins_split plain n =
    let away = but_root (directories_of plain.table) in
    let all = whole n root (opened_nodes plain.files ++ away) in
    let both = sum_by-append (λ node. one_if (node == n)) (opened_nodes plain.files) away in
    let rest = whole n root away in
    omega (arith, all, both, rest)

-- ---- the root alone

pub held_alone : (plain : Plain) → directories_of plain.table ≡ root ∷ [] → opened_nodes plain.files ≡ [] → held_nodes plain ≡ root ∷ []
held_alone plain home none =
    ap (λ opened. root ∷ opened ++ but_root (directories_of plain.table)) none ∙ ap (λ away. root ∷ but_root away) home

pub alone_pins : (plain : Plain) → held_nodes plain ≡ root ∷ [] → (n : ℕ) → root_alone n ≡ pins_in plain n
alone_pins plain alone n = sym (ap (count_by (λ k. k == n)) alone ∙ whole n root [] ∙ no_more (one_if (root == n)) (count_by (λ k. k == n) []) refl)
  where
    no_more : (one none : ℕ) → none ≡ 0 → one + none ≡ one
    no_more one none e = omega arith
