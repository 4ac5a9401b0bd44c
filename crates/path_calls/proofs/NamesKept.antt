-- A name, or a node, is kept where a cache has it.
use Rattle.std.proofs.Common.{◌≡◌, ℕ, ◌==◌, ◌&&◌, ◌||◌, Bool, true, false, cond, List, [], ◌∷◌, map, nat_eq, eqb-true, Option, None, Some, is_some, IsSome, refl, ap, sym, ◌∙◌, subst, inl, inr}
use Rattle.std.specs.Prelude.{IsOk}
use Rattle.std.specs.List.{AllByRecursion, list_any}
use Rattle.std.specs.Map.{keys_of, lookup}
use Rattle.std.specs.Str.{bytes_eq}
use Rattle.std.proofs.lemmas.Bool.Decides.{eqb_tells}
use Rattle.std.proofs.lemmas.Slice.Eq.{bytes_eq-Decides}
use Rattle.lru_index.specs.Keys.{same_name}
use Rattle.lru_index.specs.NameKeys.{name_key}
use Rattle.lru_index.specs.declared.keys.NameKey.{NameKey}
use Rattle.name_cache.specs.Names.{IsNameKey, name_slot, same_key}
use Rattle.name_cache.proofs.KeyLemmas.{key_itself, name_read}
use Rattle.vnode_cache.specs.Nodes.{node_slot}
use Rattle.memfs_ops.specs.FileTree.{KeepsLed, TreeView}
use Rattle.posix_defs.specs.PathCalls.{node_led}
use Rattle.posix_defs.specs.Paths.{IsLed}
use Rattle.posix_defs.specs.Reaching.{IsLeft, has_name, last_of}
use Rattle.posix_defs.specs.Tree.{Tree}
use Rattle.posix_defs.specs.World.{is_in}
use Rattle.posix_defs.specs.declared.walked.Walked.{Walked}
use Rattle.posix_defs.specs.declared.walked.Walked.TheVariants as walked
use Rattle.store_objects.specs.Trees.{kept_by, name_in}
use Rattle.store_objects.proofs.KeptNow.{is_kept}

-- what is there is something
some_is : {X : Type 0} (o : Option X) → IsSome o → (x : X) × (o ≡ Some x)
some_is None some = cc
some_is (Some x) some = (x, refl)

-- ---- names

itself : (dir : ℕ) (name : List ℕ) → (dir == dir && bytes_eq name name) ≡ true
itself dir name = elim (eqb_tells dir dir) [
  | inl same ↦ ap (λ b. b && bytes_eq name name) same.0 ∙ (bytes_eq-Decides name name).1 refl
  | inr apart ↦ absurd (apart.1 refl)
]

-- the key of a name says it
said : (dir : ℕ) (name : List ℕ) → name_in (name_key dir name) ≡ (dir, name)
said dir name = ap (λ (bytes : List ℕ). (dir, bytes)) (name_read name)

-- a name that has a slot is among those that are kept
pub slot_kept : (pairs : List (NameKey × ℕ)) (dir : ℕ) (name : List ℕ) (slot : ℕ) → lookup (same_key (name_key dir name)) pairs ≡ Some slot
    → has_name (map name_in (keys_of pairs)) dir name ≡ true
slot_kept [] dir name slot e = cc
slot_kept (p ∷ pairs) dir name slot e = go (same_key (name_key dir name) p.0) refl e (λ rest. slot_kept pairs dir name slot rest)
  where
    hits : ℕ × List ℕ → Bool
    hits said = said.0 == dir && bytes_eq said.1 name

    behind : (b : Bool) → list_any hits (map name_in (keys_of pairs)) ≡ true → (b || list_any hits (map name_in (keys_of pairs))) ≡ true
    behind true is = refl
    behind false is = is

    go : (b : Bool) → same_key (name_key dir name) p.0 ≡ b → cond b (Some p.1) (lookup (same_key (name_key dir name)) pairs) ≡ Some slot
        → (lookup (same_key (name_key dir name)) pairs ≡ Some slot → list_any hits (map name_in (keys_of pairs)) ≡ true)
        → (hits (name_in p.0) || list_any hits (map name_in (keys_of pairs))) ≡ true
    go true is e rest =
        ap (λ b. b || list_any hits (map name_in (keys_of pairs)))
        (ap (λ (key : NameKey). hits (name_in key)) (sym (same_name (name_key dir name) p.0 is)) ∙ ap hits (said dir name) ∙ itself dir name)
    go false is e rest = behind (hits (name_in p.0)) (rest e)

-- and the other way round, where all keys are keys of names
pub kept_slot : (pairs : List (NameKey × ℕ)) (dir : ℕ) (name : List ℕ) → AllByRecursion IsNameKey (keys_of pairs) → has_name (map name_in (keys_of pairs)) dir name ≡ true
    → IsSome (lookup (same_key (name_key dir name)) pairs)
kept_slot [] dir name all e = cc
kept_slot (p ∷ pairs) dir name all e = go (hits (name_in p.0)) refl e (λ rest. kept_slot pairs dir name all.1 rest)
  where
    hits : ℕ × List ℕ → Bool
    hits said = said.0 == dir && bytes_eq said.1 name

    both : (a b : Bool) → a && b ≡ true → (a ≡ true) × (b ≡ true)
    both true b h = (refl, h)
    both false b h = cc

    -- the key is that of the name
    is_key : hits (name_in p.0) ≡ true → p.0 ≡ name_key dir name
    is_key e =
        let parts = both ((name_in p.0).0 == dir) (bytes_eq (name_in p.0).1 name) e in
        let first : (name_in p.0).0 ≡ dir = eqb-true (name_in p.0).0 dir parts.0 in
        let second : (name_in p.0).1 ≡ name = (bytes_eq-Decides (name_in p.0).1 name).0 parts.1 in
        sym all.0 ∙ ap (λ d. name_key d (name_in p.0).1) first ∙ ap (name_key dir) second

    on : (b : Bool) → same_key (name_key dir name) p.0 ≡ b → IsSome (lookup (same_key (name_key dir name)) pairs)
        → IsSome (cond b (Some p.1) (lookup (same_key (name_key dir name)) pairs))
    on true is some = refl
    on false is some = some

    go : (b : Bool) → hits (name_in p.0) ≡ b → (b || list_any hits (map name_in (keys_of pairs))) ≡ true
        → (list_any hits (map name_in (keys_of pairs)) ≡ true → IsSome (lookup (same_key (name_key dir name)) pairs))
        → IsSome (cond (same_key (name_key dir name) p.0) (Some p.1) (lookup (same_key (name_key dir name)) pairs))
    go true is e rest =
        ap (λ b. is_some (cond b (Some p.1) (lookup (same_key (name_key dir name)) pairs)))
        (ap (same_key (name_key dir name)) (is_key is) ∙ key_itself (name_key dir name))
    go false is e rest = on (same_key (name_key dir name) p.0) refl (rest e)

-- ---- nodes

pub node_kept : (fs : TreeView) (number : ℕ) → IsSome (node_slot fs.vnodes number) → is_in number (kept_by fs).vnodes ≡ true
node_kept fs number some = let at = some_is (node_slot fs.vnodes number) some in is_kept number fs.vnodes.order.pairs at.0 at.1

pub kept_node : (pairs : List (ℕ × ℕ)) (number : ℕ) → is_in number (keys_of pairs) ≡ true → IsSome (lookup (nat_eq number) pairs)
kept_node [] number e = cc
kept_node (p ∷ pairs) number e = elim (eqb_tells number p.0) [
  | inl same ↦ ap (λ b. is_some (cond b (Some p.1) (lookup (nat_eq number) pairs))) same.0
  | inr apart ↦
      subst (λ b. IsSome (cond b (Some p.1) (lookup (nat_eq number) pairs))) (sym apart.0)
      (kept_node pairs number (behind (p.0 == number) (λ is. apart.1 (sym (eqb-true p.0 number is))) e))
]
  where
    behind : (b : Bool) → (b ≡ true → ⊥) → (b || is_in number (keys_of pairs)) ≡ true → is_in number (keys_of pairs) ≡ true
    behind true apart e = absurd (apart refl)
    behind false apart e = e

-- ---- what a walk leaves

-- where a walk led to a node, the name by which it did is left
pub walk_left : (tree : Tree) (fs : TreeView) (led : Walked) → IsLed tree led → KeepsLed fs led → IsOk (node_led led) → IsLeft tree (kept_by fs) (last_of led)
walk_left tree fs (walked.Node number) is kept ok = tt
walk_left tree fs (walked.Named dir name number slashed) is kept ok =
    let at = some_is (name_slot fs.names (name_key dir name)) kept.0 in (
      slot_kept fs.names.pairs dir name at.0 at.1,
      λ node there. let same : number ≡ node = same_some (sym is.1 ∙ there) in subst (λ n. is_in n (kept_by fs).vnodes ≡ true) same (node_kept fs number kept.1),
    )
  where
    same_some : {node : ℕ} → Some number ≡ Some node → number ≡ node
    same_some e = cc
walk_left tree fs (walked.Free dir name slashed) is kept ok = cc
walk_left tree fs (walked.Fail errno) is kept ok = cc
