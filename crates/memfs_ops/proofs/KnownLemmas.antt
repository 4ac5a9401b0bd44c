-- Where all is cached that a path asks for.
use Rattle.std.proofs.Common.{◌≡◌, ℕ, ◌&&◌, not, Bool, true, false, cond, List, [], ◌∷◌, ◌++◌, Option, Some, None, IsSome, Result, Ok, Err, bytes_eq, refl, ◌∙◌, subst}
use Rattle.std.specs.List.{AllByRecursion}
use Rattle.kabi_types.specs.PathParts.{components}
use Rattle.kabi_types.specs.declared.errnos.Errno.{Errno}
use Rattle.kabi_types.specs.declared.errnos.Errno.TheVariants.{ENOTDIR}
use Rattle.lru_index.specs.NameKeys.{name_key}
use Rattle.posix_defs.specs.DiskContents.{own_name, parent_name}
use Rattle.posix_defs.specs.Paths.{begins_at, ends_in_slash, go_on, leads, name_leads, resolve, step}
use Rattle.posix_defs.specs.Queries.{Query, AskName, AskParent, asks, asks_kind, component_asks, queries_of, then_asks}
use Rattle.posix_defs.specs.Tree.{Tree, found, is_directory, parent_at}
use Rattle.posix_defs.specs.declared.walked.Walked.{Walked}
use Rattle.posix_defs.specs.declared.walked.Walked.TheVariants as walked
use Rattle.name_cache.specs.Names.{cached_node, name_slot}
use Rattle.cached_disk.specs.TreeLent.{IsKnown, NamesLent, StandsThrough, TreeParts}
use Rattle.cached_disk.proofs.Asking.{cached_is_found}
use Rattle.cached_disk.proofs.NamesStep.{name_absent}

module _ (p : TreeParts) (tree : Tree) (stands : StandsThrough p tree) (lent : NamesLent p.heap p.purse p.names) where
  -- a name that is cached isn't free
  not_free : (dir : ℕ) (name : List ℕ) → IsKnown p (AskName dir name) → found tree dir name ≡ None → ⊥
  not_free dir name known free = by_cached (cached_node p.heap.names p.names (name_key dir name)) refl
    where
      by_cached : (there : Option ℕ) → cached_node p.heap.names p.names (name_key dir name) ≡ there → ⊥
      by_cached None is =
          let absent : name_slot p.names (name_key dir name) ≡ None = name_absent p.heap p.purse p.names (name_key dir name) lent is in
          let none : IsSome {T = ℕ} None = subst (λ (o : Option ℕ). IsSome o) absent known in
          absurd (cc)
      by_cached (Some node) is =
          let both : Some node ≡ None = cached_is_found tree p dir name node stands lent is ∙ free in
          absurd (cc)

  -- what a walk led to is free, which no name is that is cached
  abbrev IsFreeAt : Walked → Type 0
  IsFreeAt led = (parent : ℕ) × (name : List ℕ) × (slashed : Bool) × (led ≡ walked.Free parent name slashed)

  name_not_free : (dir : ℕ) (name : List ℕ) (slashed : Bool) (there : Option ℕ) → found tree dir name ≡ there → IsKnown p (AskName dir name) → IsFreeAt (name_leads tree dir name slashed there) → ⊥
  name_not_free dir name slashed None at known free = not_free dir name known at
  name_not_free dir name slashed (Some number) at known free = by_test (slashed && not (is_directory tree number)) free.3
    where
      by_test : (b : Bool) → ◌≡◌ {A = Walked} (cond b (walked.Fail ENOTDIR) (walked.Named dir name number slashed)) (walked.Free free.0 free.1 free.2) → ⊥
      by_test true is = absurd (cc)
      by_test false is = absurd (cc)

  last_not_free : (dir : ℕ) (name : List ℕ) (slashed own up : Bool) → AllByRecursion (IsKnown p) (cond own [] (cond up (AskParent dir ∷ []) (AskName dir name ∷ cond slashed (asks_kind (found tree dir name)) [])))
      → IsFreeAt (cond own (walked.Node dir) (cond up (walked.Node (parent_at tree dir)) (name_leads tree dir name slashed (found tree dir name)))) → ⊥
  last_not_free dir name slashed true up all free = let is = free.3 in absurd (cc)
  last_not_free dir name slashed false true all free = let is = free.3 in absurd (cc)
  last_not_free dir name slashed false false all free = name_not_free dir name slashed (found tree dir name) refl all.0 free

  all_behind : (first rest : List Query) → AllByRecursion (IsKnown p) (first ++ rest) → AllByRecursion (IsKnown p) rest
  all_behind [] rest all = all
  all_behind (question ∷ questions) rest all = all_behind questions rest all.1

  names_not_free : (slashed : Bool) (dir : ℕ) (names : List (List ℕ)) → AllByRecursion (IsKnown p) (asks tree slashed dir names) → IsFreeAt (leads tree slashed dir names) → ⊥
  names_not_free slashed dir [] all free = let is = free.3 in absurd (cc)
  names_not_free slashed dir (name ∷ []) all free = last_not_free dir name slashed (bytes_eq name own_name) (bytes_eq name parent_name) all free
  names_not_free slashed dir (name ∷ next ∷ names) all free =
      (elim (step tree dir name) as (λ (r : Result ℕ Errno). AllByRecursion (IsKnown p) (then_asks r (λ to. asks tree slashed to (next ∷ names))) → IsFreeAt (go_on r (λ to. leads tree slashed to (next ∷ names))) → ⊥) [
        | Ok to ↦ λ rest led. names_not_free slashed to (next ∷ names) rest led
        | Err errno ↦ λ rest led. let is = led.3 in absurd (cc)
      ]) (all_behind (component_asks tree dir name true) (then_asks (step tree dir name) (λ to. asks tree slashed to (next ∷ names))) all) free

  -- where all that a path asks for is cached it leads to no free name
  pub known_not_free : (start : ℕ) (path : List ℕ) (parent : ℕ) (name : List ℕ) (slashed : Bool) → AllByRecursion (IsKnown p) (queries_of tree start path) → resolve tree start path ≡ walked.Free parent name slashed → ⊥
  known_not_free start path parent name slashed all is = names_not_free (ends_in_slash path) (begins_at start path) (components path) all (parent, name, slashed, is)
