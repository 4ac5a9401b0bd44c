-- What caches keep, where nothing stands twice and every pinned node is there.
use Rattle.std.proofs.Common.{◌≡◌, ◌≢◌, ℕ, ◌+◌, ◌*◌, ◌<◌, ◌≤◌, ◌==◌, not, ◌||◌, cond, Bool, true, false, List, [], ◌∷◌, ◌++◌, length, refl, ap, sym, ◌∙◌, subst, arith, ◌⊎◌, inl, inr, None}
use Rattle.std.specs.List.{AllByRecursion, list_any}
use borrow.Author.Tests.{eqb-true, eq-eqb}
use Rattle.kabi_types.specs.declared.entries.Cached.{Cached}
use Rattle.kabi_types.specs.declared.entries.Cached.TheVariants.{Name, Block, Vnode}
use Rattle.posix_defs.specs.Plain.{Plain, root}
use Rattle.posix_defs.specs.World.{AreOnce, IsTrueName, Kept, MayKeep, World, base, cached, can_evict, directories_of, distinct, is_in, live_of, pinned_nodes, pins}
use Rattle.posix_defs.specs.Licence.{can_evict_any}
use Rattle.posix_defs.specs.Relief.{Evicts, LosesFrom, LosesOne}
use Rattle.posix_defs.specs.Tree.{is_in_use}
use Rattle.posix_defs.specs.Files.State.{opened_nodes}
use Rattle.std.proofs.lemmas.Bool.Decides.{eqb_tells}

-- the number that is in a list is its first, or is behind it
in_or_behind : (n m : ℕ) (ms : List ℕ) → is_in n (m ∷ ms) ≡ true → (m ≡ n) ⊎ (is_in n ms ≡ true)
in_or_behind n m ms e = go (m == n) refl e
  where
    go : (b : Bool) → (m == n) ≡ b → (b || is_in n ms) ≡ true → (m ≡ n) ⊎ (is_in n ms ≡ true)
    go true same e = inl (eqb-true m n same)
    go false apart e = inr e

in_first : (n m : ℕ) (ms : List ℕ) → m ≡ n → is_in n (m ∷ ms) ≡ true
in_first n m ms same = ap (λ b. b || is_in n ms) (eq-eqb m n same)

in_behind : (n m : ℕ) (ms : List ℕ) → is_in n ms ≡ true → is_in n (m ∷ ms) ≡ true
in_behind n m ms e = go (m == n)
  where
    go : (b : Bool) → (b || is_in n ms) ≡ true
    go true = refl
    go false = e

-- what is apart from each of a list isn't in it, and the other way round
not_in : (n : ℕ) (ms : List ℕ) → AllByRecursion (λ m. n ≢ m) ms → is_in n ms ≡ true → ⊥
not_in n [] apart e = cc
not_in n (m ∷ ms) apart e = elim (in_or_behind n m ms e) [ inl same ↦ apart.0 (sym same) | inr later ↦ not_in n ms apart.1 later ]

all_apart : (n : ℕ) (ms : List ℕ) → (is_in n ms ≡ true → ⊥) → AllByRecursion (λ m. n ≢ m) ms
all_apart n [] out = tt
all_apart n (m ∷ ms) out = (λ same. out (in_first n m ms (sym same)), all_apart n ms (λ e. out (in_behind n m ms e)))

-- the list without the first place of a number
without : ℕ → List ℕ → List ℕ
without n [] = []
without n (m ∷ ms) = cond (m == n) ms (m ∷ without n ms)

length-without : (n : ℕ) (ms : List ℕ) → is_in n ms ≡ true → length (without n ms) + 1 ≡ length ms
unfolding without
length-without n [] e = cc
length-without n (m ∷ ms) e = go (m == n) (λ e. length-without n ms e) e
  where
    go : (b : Bool) → (is_in n ms ≡ true → length (without n ms) + 1 ≡ length ms) → (b || is_in n ms) ≡ true
        → length (cond b ms (m ∷ without n ms)) + 1 ≡ length (m ∷ ms)
    go true rest e = omega arith
    go false rest e = let fewer : length (without n ms) + 1 ≡ length ms = rest e in omega arith

in-without : (n other : ℕ) (ms : List ℕ) → other ≢ n → is_in other ms ≡ true → is_in other (without n ms) ≡ true
unfolding without
in-without n other [] apart e = cc
in-without n other (m ∷ ms) apart e = go (m == n) refl (λ e. in-without n other ms apart e)
  where
    go : (b : Bool) → (m == n) ≡ b → (is_in other ms ≡ true → is_in other (without n ms) ≡ true) → is_in other (cond b ms (m ∷ without n ms)) ≡ true
    go true same rest = elim (in_or_behind other m ms e) [ inl is ↦ absurd (apart (sym is ∙ eqb-true m n same)) | inr later ↦ later ]
    go false f rest = elim (in_or_behind other m ms e) [
      | inl is ↦ in_first other m (without n ms) is
      | inr later ↦ in_behind other m (without n ms) (rest later)
    ]

-- numbers that are all in a list, none twice, are no more than that has
pub no_more : (ns ms : List ℕ) → AreOnce ns → ((n : ℕ) → is_in n ns ≡ true → is_in n ms ≡ true) → length ns ≤ length ms
no_more [] ms once within = omega arith
no_more (n ∷ ns) ms once within =
    let fewer : length (without n ms) + 1 ≡ length ms = length-without n ms (within n (in_first n n ns refl)) in
    let rest : length ns ≤ length (without n ms) =
    no_more ns (without n ms) once.1 (λ other e. in-without n other ms (apart other e) (within other (in_behind other n ns e))) in
    omega arith
  where
    apart : (other : ℕ) → is_in other ns ≡ true → other ≢ n
    apart other e same = not_in n ns once.0 (subst (λ k. is_in k ns ≡ true) same e)

-- what is left of a list once each number is there once
in-distinct : (n : ℕ) (ns : List ℕ) → is_in n (distinct ns) ≡ true → is_in n ns ≡ true
in-distinct n [] e = e
in-distinct n (m ∷ ms) e = go (list_any (λ k. k == m) ms) (λ e. in-distinct n ms e) e
  where
    go : (b : Bool) → (is_in n (distinct ms) ≡ true → is_in n ms ≡ true) → is_in n (cond b (distinct ms) (m ∷ distinct ms)) ≡ true → is_in n (m ∷ ms) ≡ true
    go true rest e = in_behind n m ms (rest e)
    go false rest e = elim (in_or_behind n m (distinct ms) e) [ inl is ↦ in_first n m ms is | inr later ↦ in_behind n m ms (rest later) ]

not_both : (b : Bool) → b ≡ true → b ≡ false → ⊥
not_both b e f = cc

once-distinct : (ns : List ℕ) → AreOnce (distinct ns)
once-distinct [] = tt
once-distinct (m ∷ ms) = go (list_any (λ k. k == m) ms) refl (once-distinct ms)
  where
    go : (b : Bool) → list_any (λ k. k == m) ms ≡ b → AreOnce (distinct ms) → AreOnce (cond b (distinct ms) (m ∷ distinct ms))
    go true e rest = rest
    go false e rest = (all_apart m (distinct ms) (λ found. not_both (is_in m ms) (in-distinct m ms found) e), rest)

pub once_pinned : (plain : Plain) → AreOnce (pinned_nodes plain)
once_pinned plain = once-distinct (root ∷ opened_nodes plain.files ++ directories_of plain.table)

-- the root's node is pinned, so one is
some_distinct : (n : ℕ) (ns : List ℕ) → 0 < length (distinct (n ∷ ns))
some_distinct n [] = omega arith
some_distinct n (m ∷ ms) = go (list_any (λ k. k == n) (m ∷ ms)) (some_distinct m ms)
  where
    go : (b : Bool) → 0 < length (distinct (m ∷ ms)) → 0 < length (cond b (distinct (m ∷ ms)) (n ∷ distinct (m ∷ ms)))
    go true some = some
    go false some = omega arith

pub root_is_pinned : (plain : Plain) → 0 < pins plain
root_is_pinned plain = some_distinct root (opened_nodes plain.files ++ directories_of plain.table)

-- no fewer nodes are kept than are pinned
pub pins_kept : (plain : Plain) (kept : Kept) → MayKeep plain kept → pins plain ≤ length kept.vnodes
pins_kept plain kept may = no_more (pinned_nodes plain) kept.vnodes (once_pinned plain) may.pinned

-- a node that is kept where none is unpinned is pinned
each_pinned : (pinned vnodes : List ℕ) → list_any (λ node. not (is_in node pinned)) vnodes ≡ false → (n : ℕ) → is_in n vnodes ≡ true → is_in n pinned ≡ true
each_pinned pinned [] none n e = cc
each_pinned pinned (v ∷ vnodes) none n e = go (is_in v pinned) refl none (λ rest later. each_pinned pinned vnodes rest n later)
  where
    go : (b : Bool) → is_in v pinned ≡ b → (not b || list_any (λ node. not (is_in node pinned)) vnodes) ≡ false
        → (list_any (λ node. not (is_in node pinned)) vnodes ≡ false → is_in n vnodes ≡ true → is_in n pinned ≡ true) → is_in n pinned ≡ true
    go true there none rest = elim (in_or_behind n v vnodes e) [ inl is ↦ subst (λ k. is_in k pinned ≡ true) is there | inr later ↦ rest none later ]
    go false there none rest = cc

-- the first node that is kept and isn't pinned
some_unpinned : (pinned vnodes : List ℕ) → list_any (λ node. not (is_in node pinned)) vnodes ≡ true
    → (n : ℕ) × (is_in n vnodes ≡ true) × (is_in n pinned ≡ true → ⊥)
some_unpinned pinned [] some = cc
some_unpinned pinned (v ∷ vnodes) some = go (is_in v pinned) refl some (λ e. some_unpinned pinned vnodes e)
  where
    later : ((n : ℕ) × (is_in n vnodes ≡ true) × (is_in n pinned ≡ true → ⊥)) → (n : ℕ) × (is_in n (v ∷ vnodes) ≡ true) × (is_in n pinned ≡ true → ⊥)
    later found = (found.0, in_behind found.0 v vnodes found.1, found.2)

    go : (b : Bool) → is_in v pinned ≡ b → (not b || list_any (λ node. not (is_in node pinned)) vnodes) ≡ true
        → (list_any (λ node. not (is_in node pinned)) vnodes ≡ true → (n : ℕ) × (is_in n vnodes ≡ true) × (is_in n pinned ≡ true → ⊥))
        → (n : ℕ) × (is_in n (v ∷ vnodes) ≡ true) × (is_in n pinned ≡ true → ⊥)
    go true there e rest = later (rest e)
    go false there e rest = (v, in_first v v vnodes refl, λ found. not_both (is_in v pinned) found there)

-- where a node that isn't pinned is kept, more are kept than are pinned
pub more_kept : (plain : Plain) (kept : Kept) → MayKeep plain kept → can_evict plain kept Vnode ≡ true → pins plain < length kept.vnodes
more_kept plain kept may some =
    let found = some_unpinned (pinned_nodes plain) kept.vnodes some in
    let most : length (found.0 ∷ pinned_nodes plain) ≤ length kept.vnodes =
    no_more (found.0 ∷ pinned_nodes plain) kept.vnodes (all_apart found.0 (pinned_nodes plain) found.2, once_pinned plain)
    (λ n e. elim (in_or_behind n found.0 (pinned_nodes plain) e) [
      | inl is ↦ subst (λ k. is_in k kept.vnodes ≡ true) is found.1
      | inr later ↦ may.pinned n later
    ]) in
    omega arith

-- three tests, none of which is passed
record NoneOfThree (a b c : Bool) : Type 0 where
  first : a ≡ false
  second : b ≡ false
  third : c ≡ false

none_of_three : (a b c : Bool) → (a || b || c) ≡ false → NoneOfThree a b c
none_of_three true b c e = cc
none_of_three false true c e = cc
none_of_three false false true e = cc
none_of_three false false false e = record { first = refl; second = refl; third = refl }

-- an empty cache, and one that isn't
none_there : {X : Type 0} (xs : List X) → not (length xs == 0) ≡ false → length xs ≡ 0
none_there xs e = elim (eqb_tells (length xs) 0) [ inl is ↦ is.1 | inr is ↦ (let f = is.0 in cc) ]

some_there : {X : Type 0} (xs : List X) → not (length xs == 0) ≡ true → 0 < length xs
some_there [] e = cc
some_there (x ∷ xs) e = omega arith

-- where nothing can be evicted the pinned nodes alone are kept
pub all_pinned : (world : World) → MayKeep world.plain world.kept → can_evict_any world ≡ false
    → live_of world ≡ base world.plain world.account + 128 * pins world.plain
all_pinned world may none =
    let kept = world.kept in
    let no = none_of_three (can_evict world.plain kept Name) (can_evict world.plain kept Block) (can_evict world.plain kept Vnode) none in
    let names : length kept.names ≡ 0 = none_there kept.names no.first in
    let blocks : length kept.blocks ≡ 0 = none_there kept.blocks no.second in
    let few : length kept.vnodes ≤ pins world.plain =
    no_more kept.vnodes (pinned_nodes world.plain) may.vnodes (each_pinned (pinned_nodes world.plain) kept.vnodes no.third) in
    let many : pins world.plain ≤ length kept.vnodes = pins_kept world.plain kept may in
    let sum : cached kept ≡ 128 * pins world.plain = omega arith in
    ap (λ n. base world.plain world.account + n) sum

-- and where nothing else is live nothing can be evicted
pub nothing_left : (world : World) → MayKeep world.plain world.kept
    → live_of world ≡ base world.plain world.account + 128 * pins world.plain → can_evict_any world ≡ false
nothing_left world may live = go (can_evict world.plain kept Name) refl (can_evict world.plain kept Block) refl (can_evict world.plain kept Vnode) refl
  where
    kept : Kept
    kept = world.kept

    many : pins world.plain ≤ length world.kept.vnodes
    many = pins_kept world.plain world.kept may

    sum : length world.kept.names * 64 + length world.kept.blocks * 1088 + length world.kept.vnodes * 128 ≡ 128 * pins world.plain
    sum = let l = live in omega (arith, live)

    go : (a : Bool) → can_evict world.plain world.kept Name ≡ a → (b : Bool) → can_evict world.plain world.kept Block ≡ b → (c : Bool) → can_evict world.plain world.kept Vnode ≡ c
        → (a || b || c) ≡ false
    go true e b f c g = absurd (let some : 0 < length world.kept.names = some_there world.kept.names e in let m = many in let s = sum in omega (arith, many, sum))
    go false e true f c g = absurd (let some : 0 < length world.kept.blocks = some_there world.kept.blocks f in omega (arith, many, sum))
    go false e false f true g = absurd (let some : pins world.plain < length world.kept.vnodes = more_kept world.plain world.kept may g in omega (arith, sum))
    go false e false f false g = refl

-- what is apart from each of two lists is apart from each of both
apart_both : {X : Type 0} (x : X) (front back : List X) (gone : X) → AllByRecursion (λ y. x ≢ y) (front ++ gone ∷ back) → AllByRecursion (λ y. x ≢ y) (front ++ back)
apart_both x [] back gone all = all.1
apart_both x (y ∷ front) back gone all = (all.0, apart_both x front back gone all.1)

once_fewer : {X : Type 0} (front back : List X) (gone : X) → AreOnce (front ++ gone ∷ back) → AreOnce (front ++ back)
once_fewer [] back gone once = once.1
once_fewer (x ∷ front) back gone once = (apart_both x front back gone once.0, once_fewer front back gone once.1)

pub once_left : {X : Type 0} (old : List X) (gone : X) (new : List X) → LosesOne old gone new → AreOnce old → AreOnce new
once_left old gone new loses once = subst AreOnce (sym loses.is) (once_fewer loses.front loses.back gone (subst AreOnce loses.was once))

pub length_left : {X : Type 0} (old : List X) (gone : X) (new : List X) → LosesOne old gone new → length old ≡ length new + 1
length_left {X} old gone new loses = ap length loses.was ∙ go loses.front ∙ ap (λ xs. length xs + 1) (sym loses.is)
  where
    go : (front : List X) → length (front ++ gone ∷ loses.back) ≡ length (front ++ loses.back) + 1
    go [] = omega arith
    go (x ∷ front) = let rest : length (front ++ gone ∷ loses.back) ≡ length (front ++ loses.back) + 1 = go front in omega arith

in_left : (old : List ℕ) (gone : ℕ) (new : List ℕ) → LosesOne old gone new → (n : ℕ) → n ≢ gone → is_in n old ≡ true → is_in n new ≡ true
in_left old gone new loses n apart e =
    subst (λ ns. is_in n ns ≡ true) (sym loses.is) (go loses.front (subst (λ ns. is_in n ns ≡ true) loses.was e))
  where
    go : (front : List ℕ) → is_in n (front ++ gone ∷ loses.back) ≡ true → is_in n (front ++ loses.back) ≡ true
    go [] e = elim (in_or_behind n gone loses.back e) [ inl is ↦ absurd (apart (sym is)) | inr later ↦ later ]
    go (x ∷ front) e = elim (in_or_behind n x (front ++ gone ∷ loses.back) e) [
      | inl is ↦ in_first n x (front ++ loses.back) is
      | inr later ↦ in_behind n x (front ++ loses.back) (go front later)
    ]

-- how much a cache keeps less
abbrev pub SizesAfter : Kept → Cached → Kept → Type 0
SizesAfter old Name new = (length old.names ≡ length new.names + 1) × (length new.blocks ≡ length old.blocks) × (length new.vnodes ≡ length old.vnodes)
SizesAfter old Block new = (length new.names ≡ length old.names) × (length old.blocks ≡ length new.blocks + 1) × (length new.vnodes ≡ length old.vnodes)
SizesAfter old Vnode new = (length new.names ≡ length old.names) × (length new.blocks ≡ length old.blocks) × (length old.vnodes ≡ length new.vnodes + 1)

pub sizes_left : (plain : Plain) (old : Kept) (what : Cached) (new : Kept) → LosesFrom plain old what new → SizesAfter old what new
sizes_left plain old Name new loses = (length_left old.names loses.0 new.names loses.1, ap (λ k. length k.blocks) loses.2, ap (λ k. length k.vnodes) loses.2)
sizes_left plain old Block new loses = (ap (λ k. length k.names) loses.2, length_left old.blocks loses.0 new.blocks loses.1, ap (λ k. length k.vnodes) loses.2)
sizes_left plain old Vnode new loses = (ap (λ k. length k.names) loses.3, ap (λ k. length k.blocks) loses.3, length_left old.vnodes loses.0 new.vnodes loses.2)

-- what holds of each holds of each that is left
all_fewer : {X : Type 0} (holds : X → Type 0) (front back : List X) (gone : X) → AllByRecursion holds (front ++ gone ∷ back) → AllByRecursion holds (front ++ back)
all_fewer holds [] back gone all = all.1
all_fewer holds (x ∷ front) back gone all = (all.0, all_fewer holds front back gone all.1)

all_left : {X : Type 0} (holds : X → Type 0) (old : List X) (gone : X) (new : List X) → LosesOne old gone new → AllByRecursion holds old → AllByRecursion holds new
all_left holds old gone new loses all =
    subst (AllByRecursion holds) (sym loses.is) (all_fewer holds loses.front loses.back gone (subst (AllByRecursion holds) loses.was all))

-- what is left after an eviction may be kept
pub keeps_left : (plain : Plain) (old : Kept) (what : Cached) (new : Kept) → LosesFrom plain old what new → MayKeep plain old → MayKeep plain new
keeps_left plain old Name new loses may = record {
  names = once_left old.names loses.0 new.names loses.1 may.names;
  blocks = subst AreOnce (sym (ap (λ k. k.blocks) loses.2)) may.blocks;
  vnodes = subst AreOnce (sym (ap (λ k. k.vnodes) loses.2)) may.vnodes;
  pinned = λ n e. ap (λ k. is_in n k.vnodes) loses.2 ∙ may.pinned n e;
  true_names = all_left (IsTrueName plain.files.tree) old.names loses.0 new.names loses.1 may.true_names;
  on_disk = subst (AllByRecursion (λ block. block < plain.files.tree.blocks)) (sym (ap (λ k. k.blocks) loses.2)) may.on_disk;
  in_use = subst (AllByRecursion (λ node. is_in_use plain.files.tree node ≡ true)) (sym (ap (λ k. k.vnodes) loses.2)) may.in_use;
}
keeps_left plain old Block new loses may = record {
  names = subst AreOnce (sym (ap (λ k. k.names) loses.2)) may.names;
  blocks = once_left old.blocks loses.0 new.blocks loses.1 may.blocks;
  vnodes = subst AreOnce (sym (ap (λ k. k.vnodes) loses.2)) may.vnodes;
  pinned = λ n e. ap (λ k. is_in n k.vnodes) loses.2 ∙ may.pinned n e;
  true_names = subst (AllByRecursion (IsTrueName plain.files.tree)) (sym (ap (λ k. k.names) loses.2)) may.true_names;
  on_disk = all_left (λ block. block < plain.files.tree.blocks) old.blocks loses.0 new.blocks loses.1 may.on_disk;
  in_use = subst (AllByRecursion (λ node. is_in_use plain.files.tree node ≡ true)) (sym (ap (λ k. k.vnodes) loses.2)) may.in_use;
}
keeps_left plain old Vnode new loses may = record {
  names = subst AreOnce (sym (ap (λ k. k.names) loses.3)) may.names;
  blocks = subst AreOnce (sym (ap (λ k. k.blocks) loses.3)) may.blocks;
  vnodes = once_left old.vnodes loses.0 new.vnodes loses.2 may.vnodes;
  pinned = λ n e. in_left old.vnodes loses.0 new.vnodes loses.2 n (apart n e) (may.pinned n e);
  true_names = subst (AllByRecursion (IsTrueName plain.files.tree)) (sym (ap (λ k. k.names) loses.3)) may.true_names;
  on_disk = subst (AllByRecursion (λ block. block < plain.files.tree.blocks)) (sym (ap (λ k. k.blocks) loses.3)) may.on_disk;
  in_use = all_left (λ node. is_in_use plain.files.tree node ≡ true) old.vnodes loses.0 new.vnodes loses.2 may.in_use;
}
  where
    apart : (n : ℕ) → is_in n (pinned_nodes plain) ≡ true → n ≢ loses.0
    apart n e same = not_both (is_in loses.0 (pinned_nodes plain)) (subst (λ k. is_in k (pinned_nodes plain) ≡ true) same e) loses.1

-- an eviction makes room
pub less_live : (old : World) (what : Cached) (new : World) → Evicts old what new → live_of new < live_of old
less_live old what new evicts =
    let same : base new.plain new.account ≡ base old.plain old.account = ap (λ p. base p new.account) evicts.plain ∙ ap (base old.plain) evicts.account in
    go what (sizes_left old.plain old.kept what new.kept evicts.kept) same
  where
    go : (what : Cached) → SizesAfter old.kept what new.kept → base new.plain new.account ≡ base old.plain old.account → live_of new < live_of old
    go Name sizes same = omega (arith, sizes.0, sizes.1, sizes.2)
    go Block sizes same = omega (arith, sizes.0, sizes.1, sizes.2)
    go Vnode sizes same = omega (arith, sizes.0, sizes.1, sizes.2)
