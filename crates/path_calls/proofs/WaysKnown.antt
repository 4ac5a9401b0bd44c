-- Where all that a path asks for is kept, each question is one that the caches can tell.
use Rattle.std.proofs.Common.{◌≡◌, ℕ, ◌&&◌, not, Bool, true, false, cond, List, [], ◌∷◌, ◌++◌, map, Option, None, Some, IsSome, Ok, Err, Result, refl, subst}
use Rattle.std.specs.List.{AllByRecursion}
use Rattle.std.specs.Map.{keys_of}
use Rattle.std.specs.Str.{bytes_eq}
use Rattle.kabi_types.specs.declared.errnos.Errno.{Errno}
use Rattle.cached_disk.specs.TreeLent.{IsKnown, TreeParts}
use Rattle.name_cache.specs.Names.{IsNameKey}
use Rattle.vnode_cache.specs.Nodes.{node_slot}
use Rattle.posix_defs.specs.DiskContents.{own_name, parent_name}
use Rattle.posix_defs.specs.PathCalls.{node_led}
use Rattle.posix_defs.specs.Paths.{go_on, leads, name_leads, on_from}
use Rattle.posix_defs.specs.declared.walked.Walked.{Walked}
use Rattle.posix_defs.specs.declared.walked.Walked.TheVariants as walked
use Rattle.kabi_types.specs.declared.errnos.Errno.TheVariants.{ENOTDIR}
use Rattle.posix_defs.specs.Queries.{Query, AskName, AskNode, AskParent, asks, asks_kind, then_asks}
use Rattle.posix_defs.specs.Reaching.{has_name, knows, knows_on}
use Rattle.posix_defs.specs.Tree.{Tree, found, is_directory, parent_at}
use Rattle.posix_defs.specs.World.{Kept, is_in}
use Rattle.store_objects.specs.Trees.{name_in}
use Rattle.path_calls.proofs.NamesKept.{kept_node, kept_slot}

both : (a b : Bool) → a && b ≡ true → (a ≡ true) × (b ≡ true)
both true b h = (refl, h)
both false b h = cc

module _ (p : TreeParts) (tree : Tree) (blocks : List ℕ) (named : AllByRecursion IsNameKey (keys_of p.names.pairs)) where
  -- what these caches keep
  abbrev kept : Kept
  kept = record { names = map name_in (keys_of p.names.pairs); blocks = blocks; vnodes = keys_of p.vnodes.order.pairs }

  -- the node that a walk leads to is cached
  abbrev Ends : Result ℕ Errno → Type 0
  Ends led = (number : ℕ) → led ≡ Ok number → IsSome (node_slot p.vnodes number)

  -- all is known of a way
  pub record IsWay (asked : List Query) (led : Result ℕ Errno) : Type 0 where
    pub questions : AllByRecursion (IsKnown p) asked
    pub ends : Ends led

  ends_at : (dir : ℕ) → IsSome (node_slot p.vnodes dir) → Ends (Ok dir)
  ends_at dir there number is = subst (λ n. IsSome (node_slot p.vnodes n)) (let same : dir ≡ number = cc in same) there

  ends_nowhere : (errno : Errno) → Ends (Err errno)
  ends_nowhere errno number is = cc

  has_slot : (dir : ℕ) (name : List ℕ) → has_name kept.names dir name ≡ true → IsKnown p (AskName dir name)
  has_slot dir name is = kept_slot p.names.pairs dir name named is

  node_has : (number : ℕ) → is_in number kept.vnodes ≡ true → IsSome (node_slot p.vnodes number)
  node_has number is = kept_node p.vnodes.order.pairs number is

  -- the last component
  last_way : (slashed : Bool) (dir : ℕ) (name : List ℕ) → IsSome (node_slot p.vnodes dir) → (a b : Bool) (o : Option ℕ)
      → cond a true (cond b false (has_name kept.names dir name && knows_on kept (λ number. true) o)) ≡ true
      → IsWay (cond a [] (cond b (AskParent dir ∷ []) (AskName dir name ∷ cond slashed (asks_kind o) [])))
      (node_led (cond a (walked.Node dir) (cond b (walked.Node (parent_at tree dir)) (name_leads tree dir name slashed o))))
  last_way slashed dir name there true b o e = record { questions = tt; ends = ends_at dir there }
  last_way slashed dir name there false true o e = cc
  last_way slashed dir name there false false None e =
      let parts = both (has_name kept.names dir name) false e in let never = parts.1 in cc
  last_way slashed dir name there false false (Some number) e =
      let parts = both (has_name kept.names dir name) (is_in number kept.vnodes && true) e in
      let node = both (is_in number kept.vnodes) true parts.1 in
      record { questions = (has_slot dir name parts.0, kinds slashed (node_has number node.0)); ends = named_ends (slashed && not (is_directory tree number)) (node_has number node.0) }
    where
      kinds : (b : Bool) → IsSome (node_slot p.vnodes number) → AllByRecursion (IsKnown p) (cond b (AskNode number ∷ []) [])
      kinds true is = (is, tt)
      kinds false is = tt

      named_ends : (b : Bool) → IsSome (node_slot p.vnodes number) → Ends (node_led (cond b (walked.Fail ENOTDIR) (walked.Named dir name number slashed)))
      named_ends true is = ends_nowhere ENOTDIR
      named_ends false is = ends_at number is

  -- one with more behind it
  next_way : (dir : ℕ) (name : List ℕ) (knows_rest : ℕ → Bool) (asks_rest : ℕ → List Query) (leads_rest : ℕ → Walked) → IsSome (node_slot p.vnodes dir)
      → ((to : ℕ) → IsSome (node_slot p.vnodes to) → knows_rest to ≡ true → IsWay (asks_rest to) (node_led (leads_rest to))) → (a b : Bool) (o : Option ℕ)
      → cond a (knows_rest dir) (cond b false (has_name kept.names dir name && knows_on kept knows_rest o)) ≡ true
      → IsWay (cond a [] (cond b (AskParent dir ∷ []) (AskName dir name ∷ asks_kind o)) ++ then_asks (cond a (Ok dir) (cond b (Ok (parent_at tree dir)) (on_from tree o))) asks_rest)
      (node_led (go_on (cond a (Ok dir) (cond b (Ok (parent_at tree dir)) (on_from tree o))) leads_rest))
  next_way dir name knows_rest asks_rest leads_rest there rest true b o e = rest dir there e
  next_way dir name knows_rest asks_rest leads_rest there rest false true o e = cc
  next_way dir name knows_rest asks_rest leads_rest there rest false false None e =
      let parts = both (has_name kept.names dir name) false e in let never = parts.1 in cc
  next_way dir name knows_rest asks_rest leads_rest there rest false false (Some number) e =
      let parts = both (has_name kept.names dir name) (is_in number kept.vnodes && knows_rest number) e in
      let node = both (is_in number kept.vnodes) (knows_rest number) parts.1 in
      on (is_directory tree number) (has_slot dir name parts.0) (node_has number node.0) (rest number (node_has number node.0) node.1)
    where
      on : (b : Bool) → IsKnown p (AskName dir name) → IsSome (node_slot p.vnodes number) → IsWay (asks_rest number) (node_led (leads_rest number))
          → IsWay (AskName dir name ∷ AskNode number ∷ then_asks (cond b (Ok number) (Err ENOTDIR)) asks_rest) (node_led (go_on (cond b (Ok number) (Err ENOTDIR)) leads_rest))
      on true asked is way = record { questions = (asked, (is, way.questions)); ends = way.ends }
      on false asked is way = record { questions = (asked, (is, tt)); ends = ends_nowhere ENOTDIR }

  -- a way from a directory that is cached
  pub way : (slashed : Bool) (dir : ℕ) (names : List (List ℕ)) → IsSome (node_slot p.vnodes dir) → knows tree kept dir names ≡ true
      → IsWay (asks tree slashed dir names) (node_led (leads tree slashed dir names))
  way slashed dir [] there e = record { questions = tt; ends = ends_at dir there }
  way slashed dir (name ∷ []) there e = last_way slashed dir name there (bytes_eq name own_name) (bytes_eq name parent_name) (found tree dir name) e
  way slashed dir (name ∷ next ∷ names) there e =
      next_way dir name (λ to. knows tree kept to (next ∷ names)) (λ to. asks tree slashed to (next ∷ names)) (λ to. leads tree slashed to (next ∷ names)) there
      (λ to some known. way slashed to (next ∷ names) some known) (bytes_eq name own_name) (bytes_eq name parent_name) (found tree dir name) e
