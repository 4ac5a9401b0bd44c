-- Questions to directories, one after another.
use Rattle.std.proofs.Common.{◌≡◌, ℕ, Bool, true, false, cond, not, ◌&&◌, if◌then◌else◌, List, [], ◌∷◌, ◌++◌, Option, Some, None, IsSome, Result, Ok, Err, bytes_eq, refl, sym, ap, ◌∙◌, subst}
use Rattle.std.specs.List.{AllByRecursion}
use Rattle.kabi_types.specs.declared.errnos.Errno.{Errno}
use Rattle.kabi_types.specs.declared.errnos.Errno.TheVariants.{ENOTDIR}
use Rattle.kabi_types.specs.PathParts.{components}
use Rattle.lru_index.specs.NameKeys.{name_key}
use Rattle.lru_index.specs.declared.keys.NameKey.{NameKey}
use Rattle.posix_defs.specs.Asking.{AskedInTurn}
use Rattle.posix_defs.specs.DiskContents.{own_name, parent_name}
use Rattle.posix_defs.specs.Tree.{Tree, found, is_directory, parent_at}
use Rattle.posix_defs.specs.Paths.{ends_in_slash, begins_at, step, name_leads, last_leads, go_on, leads, resolve}
use Rattle.posix_defs.specs.Queries.{Query, AskNode, AskName, AskParent, asks_kind, component_asks, then_asks, asks, queries_of}
use Rattle.posix_defs.specs.declared.walked.Walked.{Walked}
use Rattle.posix_defs.specs.declared.walked.Walked.TheVariants as walked
use Rattle.name_cache.specs.Names.{name_slot}
use Rattle.vnode_cache.specs.Nodes.{node_slot}
use Rattle.block_cache.specs.Blocks.{block_slot}
use Rattle.cached_disk.specs.TreeLent.{TreeParts, StandsThrough, AreReordered, NodeAsked, NameAsked, Answered, IsKnown}

-- ---- where all is known nothing is read

pub tree_reordered_refl : (before after : TreeParts) → after ≡ before → AreReordered before after
tree_reordered_refl before after is = record {
  heap = ap (λ (p : TreeParts). p.heap) is;
  purse = ap (λ (p : TreeParts). p.purse) is;
  disk = ap (λ (p : TreeParts). p.disk) is;
  names = λ key. ap (λ (p : TreeParts). name_slot p.names key) is;
  nodes = λ number. ap (λ (p : TreeParts). node_slot p.vnodes number) is;
  blocks = λ number. ap (λ (p : TreeParts). block_slot p.blocks number) is;
}

pub tree_reordered_trans : (a b c : TreeParts) → AreReordered a b → AreReordered b c → AreReordered a c
tree_reordered_trans a b c one other = record {
  heap = other.heap ∙ one.heap;
  purse = other.purse ∙ one.purse;
  disk = other.disk ∙ one.disk;
  names = λ key. other.names key ∙ one.names key;
  nodes = λ number. other.nodes number ∙ one.nodes number;
  blocks = λ number. other.blocks number ∙ one.blocks number;
}

still_known : (old new : TreeParts) → AreReordered old new → (questions : List Query) → AllByRecursion (IsKnown old) questions → AllByRecursion (IsKnown new) questions
still_known old new same [] all = all
still_known old new same (AskNode number ∷ questions) all = (subst (λ (o : Option ℕ). IsSome o) (sym (same.nodes number)) all.0, still_known old new same questions all.1)
still_known old new same (AskName dir name ∷ questions) all = (subst (λ (o : Option ℕ). IsSome o) (sym (same.names (name_key dir name))) all.0, still_known old new same questions all.1)
still_known old new same (AskParent dir ∷ questions) all = absurd all.0

pub all_known : (questions : List Query) (before after : TreeParts) → AllByRecursion (IsKnown before) questions → AskedInTurn Answered before questions after → AreReordered before after
all_known [] before after all asked = tree_reordered_refl before after asked
all_known (AskNode number ∷ questions) before after all asked =
    let here : AreReordered before asked.0 = asked.1.told.saved all.0 in
    tree_reordered_trans before asked.0 after here (all_known questions asked.0 after (still_known before asked.0 here questions all.1) asked.2)
all_known (AskName dir name ∷ questions) before after all asked =
    let here : AreReordered before asked.0 = asked.1.told.saved all.0 in
    tree_reordered_trans before asked.0 after here (all_known questions asked.0 after (still_known before asked.0 here questions all.1) asked.2)
all_known (AskParent dir ∷ questions) before after all asked = absurd all.0

-- ---- the last name of a path is cached

split_asked : {Thing Question : Type 0} (asked : Thing → Question → Thing → Type 0) (first third : Thing) (xs ys : List Question) → AskedInTurn asked first (xs ++ ys) third → (second : Thing) × AskedInTurn asked first xs second × AskedInTurn asked second ys third
split_asked asked first third [] ys all = (first, refl, all)
split_asked asked first third (x ∷ xs) ys all =
    let rest = split_asked asked all.0 third xs ys all.2 in
    (rest.0, (all.0, all.1, rest.1), rest.2)

still_stands : (tree : Tree) (questions : List Query) (before after : TreeParts) → AskedInTurn Answered before questions after → StandsThrough before tree → StandsThrough after tree
still_stands tree [] before after asked stands = subst (λ (p : TreeParts). StandsThrough p tree) (sym asked) stands
still_stands tree (question ∷ questions) before after asked stands = still_stands tree questions asked.0 after asked.2 (asked.1.stands tree stands)

-- a look at what was found leaves the names
kind_keeps : (there : Option ℕ) (slashed : Bool) (before after : TreeParts) (key : NameKey) → AskedInTurn Answered before (if slashed then asks_kind there else []) after → name_slot after.names key ≡ name_slot before.names key
kind_keeps there false before after key asked = ap (λ (p : TreeParts). name_slot p.names key) asked
kind_keeps None true before after key asked = ap (λ (p : TreeParts). name_slot p.names key) asked
kind_keeps (Some number) true before after key asked = ap (λ (p : TreeParts). name_slot p.names key) asked.2 ∙ asked.1.told.names key

-- the walk led to a name of a directory
record IsNamedAt (led : Walked) (parent : ℕ) (name : List ℕ) : Type 0 where
  node : ℕ
  slashed : Bool
  is : led ≡ walked.Named parent name node slashed

name_cached : (tree : Tree) (dir : ℕ) (name : List ℕ) (slashed : Bool) (there : Option ℕ) (parent : ℕ) (last : List ℕ) (before after : TreeParts) → found tree dir name ≡ there → StandsThrough before tree → IsNamedAt (name_leads tree dir name slashed there) parent last
    → AskedInTurn Answered before (AskName dir name ∷ (if slashed then asks_kind there else [])) after → IsSome (name_slot after.names (name_key parent last))
name_cached tree dir name slashed None parent last before after at stands led asked = let is = led.is in absurd (cc)
name_cached tree dir name slashed (Some number) parent last before after at stands led asked = by_test (slashed && not (is_directory tree number)) led.is
  where
    by_test : (b : Bool) → ◌≡◌ {A = Walked} (if b then walked.Fail ENOTDIR else walked.Named dir name number slashed) (walked.Named parent last led.node led.slashed) → IsSome (name_slot after.names (name_key parent last))
    by_test true is = absurd (cc)
    by_test false is =
        let same_dir : dir ≡ parent = cc in
        let same_name : name ≡ last = cc in
        let here : IsSome (name_slot asked.0.names (name_key dir name)) = asked.1.told.kept tree number stands at in
        let there : IsSome (name_slot after.names (name_key dir name)) = subst (λ (o : Option ℕ). IsSome o) (sym (kind_keeps (Some number) slashed asked.0 after (name_key dir name) asked.2)) here in
        subst (λ (d : ℕ). IsSome (name_slot after.names (name_key d last))) same_dir (subst (λ (n : List ℕ). IsSome (name_slot after.names (name_key dir n))) same_name there)

last_cached : (tree : Tree) (dir : ℕ) (name : List ℕ) (slashed own up : Bool) (parent : ℕ) (last : List ℕ) (before after : TreeParts) → StandsThrough before tree
    → IsNamedAt (if own then walked.Node dir else if up then walked.Node (parent_at tree dir) else name_leads tree dir name slashed (found tree dir name)) parent last
    → AskedInTurn Answered before (if own then [] else if up then AskParent dir ∷ [] else AskName dir name ∷ (if slashed then asks_kind (found tree dir name) else [])) after → IsSome (name_slot after.names (name_key parent last))
last_cached tree dir name slashed true up parent last before after stands led asked = let is = led.is in absurd (cc)
last_cached tree dir name slashed false true parent last before after stands led asked = let is = led.is in absurd (cc)
last_cached tree dir name slashed false false parent last before after stands led asked = name_cached tree dir name slashed (found tree dir name) parent last before after refl stands led asked

names_cached : (tree : Tree) (slashed : Bool) (dir : ℕ) (names : List (List ℕ)) (parent : ℕ) (last : List ℕ) (before after : TreeParts) → StandsThrough before tree → IsNamedAt (leads tree slashed dir names) parent last → AskedInTurn Answered before (asks tree slashed dir names) after
    → IsSome (name_slot after.names (name_key parent last))
names_cached tree slashed dir [] parent last before after stands led asked = let is = led.is in absurd (cc)
names_cached tree slashed dir (name ∷ []) parent last before after stands led asked = last_cached tree dir name slashed (bytes_eq name own_name) (bytes_eq name parent_name) parent last before after stands led asked
names_cached tree slashed dir (name ∷ next ∷ names) parent last before after stands led asked =
    let parts = split_asked Answered before after (component_asks tree dir name true) (then_asks (step tree dir name) (λ to. asks tree slashed to (next ∷ names))) asked in
    let between = still_stands tree (component_asks tree dir name true) before parts.0 parts.1 stands in
    (elim (step tree dir name) as (λ (r : Result ℕ Errno). IsNamedAt (go_on r (λ to. leads tree slashed to (next ∷ names))) parent last → AskedInTurn Answered parts.0 (then_asks r (λ to. asks tree slashed to (next ∷ names))) after → IsSome (name_slot after.names (name_key parent last))) [
      | Ok to ↦ λ on rest. names_cached tree slashed to (next ∷ names) parent last parts.0 after between on rest
      | Err errno ↦ λ on rest. let is = on.is in absurd (cc)
    ]) led parts.2

pub path_cached : (tree : Tree) (start : ℕ) (path : List ℕ) (parent : ℕ) (name : List ℕ) (node : ℕ) (slashed : Bool) (before after : TreeParts) → StandsThrough before tree → resolve tree start path ≡ walked.Named parent name node slashed → AskedInTurn Answered before (queries_of tree start path) after
    → IsSome (name_slot after.names (name_key parent name))
path_cached tree start path parent name node slashed before after stands is asked =
    names_cached tree (ends_in_slash path) (begins_at start path) (components path) parent name before after stands (record { node = node; slashed = slashed; is = is }) asked
