-- One process's space among those of all.
use Rattle.std.proofs.Common.{◌≡◌, ◌≢◌, ◌⊎◌, ℕ, zero, suc, ◌<◌, ◌≤◌, ◌==◌, Bool, true, false, cond, not, List, [], ◌∷◌, ◌++◌, filter, map, Option, None, Some, refl, sym, ap, ◌∙◌, subst, inl, inr, arith, Contains}
use Rattle.std.specs.List.{AllByRecursion, filter_map, cons_option}
use Rattle.std.proofs.lemmas.Bool.Decides.{eqb_tells}
use Rattle.std.proofs.lemmas.List.Elements.{Contains-append_right}
use Rattle.kheap_slabs.specs.declared.objects.Proc.{Proc}
use Rattle.kheap_slabs.specs.Heap.{Heap}
use Rattle.kheap_slabs.specs.Keys.{Splits}
use Rattle.kheap_slabs.specs.Owners.{Owners, node_keys, IsOwned}
use Rattle.kheap_slabs.specs.Spaces.{keys_in}
use Rattle.proc_table.specs.Changes.{is_other, with_nodes}
use Rattle.proc_table.specs.Procs.{proc_of}
use Rattle.proc_table.specs.Table.{AreBetween, AreStored, procs_at}
use Rattle.proc_table.specs.declared.places.Place.{Place}
use Rattle.proc_table.proofs.PlaceLemmas.{Contains-behind, IsAt, eqb_other, eqb_same, some_same, stored_is}

-- the processes stand by rising pid, behind this one
abbrev pub AreRising : ℕ → List Proc → Type 0
AreRising before [] = Unit {0}
AreRising before (proc ∷ procs) = (before < proc.pid) × AreRising proc.pid procs

pub AreRising-lower : (procs : List Proc) (before lower : ℕ) → lower ≤ before → AreRising before procs → AreRising lower procs
AreRising-lower [] before lower low rising = tt
AreRising-lower (proc ∷ procs) before lower low rising = (omega (arith, rising.0), rising.1)

pub rising_procs : (objects : List (Option Proc)) (places : List Place) (before last : ℕ) → AreStored objects places → AreBetween before places last
    → AreRising before (procs_at objects places)
rising_procs objects [] before last stored rising = tt
rising_procs objects (place ∷ places) before last stored rising =
    by_case (stored_is objects place stored.0) (rising_procs objects places place.pid last stored.1 rising.1)
  where
    by_case : IsAt objects place → AreRising place.pid (procs_at objects places) → AreRising before (procs_at objects (place ∷ places))
    by_case at rest =
        subst (λ o. AreRising before (cons_option o (procs_at objects places))) (sym at.is)
        (let e : at.proc.pid ≡ place.pid = at.pid in omega (arith, rising.0), subst (λ pid. AreRising pid (procs_at objects places)) (sym at.pid) rest)

-- all of a higher pid are others, and a change of that one leaves them
pub others_above : (procs : List Proc) (before pid : ℕ) → AreRising before procs → pid ≤ before → filter (is_other pid) procs ≡ procs
others_above [] before pid rising low = refl
others_above (proc ∷ procs) before pid rising low =
    ap (λ b. cond (not b) (proc ∷ filter (is_other pid) procs) (filter (is_other pid) procs)) (eqb_other proc.pid pid (λ same. omega (arith, rising.0)))
    ∙ ap (λ rest. proc ∷ rest) (others_above procs proc.pid pid rising.1 (omega (arith, rising.0)))

pub with_nodes-above : (procs : List Proc) (before pid : ℕ) (nodes : List (Option ℕ)) → AreRising before procs → pid ≤ before → map (with_nodes pid nodes) procs ≡ procs
with_nodes-above [] before pid nodes rising low = refl
with_nodes-above (proc ∷ procs) before pid nodes rising low =
    ap (λ b. cond b (record proc { nodes = nodes }) proc ∷ map (with_nodes pid nodes) procs) (eqb_other proc.pid pid (λ same. omega (arith, rising.0)))
    ∙ ap (λ rest. proc ∷ rest) (with_nodes-above procs proc.pid pid nodes rising.1 (omega (arith, rising.0)))

pub all_weaker : {X : Type 0} (P Q : X → Type 0) (xs : List X) → ((x : X) → P x → Q x) → AllByRecursion P xs → AllByRecursion Q xs
all_weaker P Q [] weaker all = tt
all_weaker P Q (x ∷ xs) weaker all = (weaker x all.0, all_weaker P Q xs weaker all.1)

pub all_by : {X : Type 0} (P : X → Type 0) (xs : List X) → ((x : X) → P x) → AllByRecursion P xs
all_by P [] each = tt
all_by P (x ∷ xs) each = (each x, all_by P xs each)

pub all_filter : {X : Type 0} (P : X → Type 0) (test : X → Bool) (xs : List X) → AllByRecursion P xs → AllByRecursion P (filter test xs)
all_filter P test [] all = tt
all_filter P test (x ∷ xs) all = by_case (test x) (all_filter P test xs all.1)
  where
    by_case : (b : Bool) → AllByRecursion P (filter test xs) → AllByRecursion P (cond b (x ∷ filter test xs) (filter test xs))
    by_case true rest = (all.0, rest)
    by_case false rest = rest

pub all_append : {X : Type 0} (P : X → Type 0) (xs ys : List X) → AllByRecursion P xs → AllByRecursion P ys → AllByRecursion P (xs ++ ys)
all_append P [] ys all also = also
all_append P (x ∷ xs) ys all also = (all.0, all_append P xs ys all.1 also)

pub all_filter_map : {X : Type 0} (P Q : X → Type 0) (f : X → Option X) (xs : List X) → ((x y : X) → P x → f x ≡ Some y → Q y) → AllByRecursion P xs → AllByRecursion Q (filter_map f xs)
all_filter_map {X} P Q f [] keeps all = tt
all_filter_map {X} P Q f (x ∷ xs) keeps all = by_case (f x) refl (all_filter_map P Q f xs keeps all.1)
  where
    by_case : (o : Option X) → f x ≡ o → AllByRecursion Q (filter_map f xs) → AllByRecursion Q (cons_option o (filter_map f xs))
    by_case None is rest = rest
    by_case (Some y) is rest = (keeps x y all.0 is, rest)

-- the spaces of these processes
abbrev pub spaces_in : List Proc → List (List (Option ℕ))
spaces_in procs = map (λ proc. proc.nodes) procs

pub spaces_inside : (procs : List Proc) (rest : List (List (Option ℕ))) → AllByRecursion (λ proc. Contains (spaces_in procs ++ rest) proc.nodes) procs
spaces_inside [] rest = tt
spaces_inside (proc ∷ procs) rest = (
  (0, omega arith, refl),
  all_weaker (λ p. Contains (spaces_in procs ++ rest) p.nodes) (λ p. Contains (proc.nodes ∷ spaces_in procs ++ rest) p.nodes) procs
      (λ p there. Contains-behind proc.nodes p.nodes (spaces_in procs ++ rest) there) (spaces_inside procs rest),
)

-- The space of one process is taken out of those of all, the others being these.
pub record HasOut (procs : List Proc) (pid : ℕ) (space : List (Option ℕ)) (rest : List (List (Option ℕ))) : Type 0 where
  pub spaces : List (List (Option ℕ))
  pub out : Splits (spaces_in procs ++ rest) space spaces
  pub back : (nodes : List (Option ℕ)) → Splits (spaces_in (map (with_nodes pid nodes) procs) ++ rest) nodes spaces
  pub rest_in : (other : List (Option ℕ)) → Contains rest other → Contains spaces other
  pub others_in : AllByRecursion (λ proc. Contains spaces proc.nodes) (filter (is_other pid) procs)
  pub all_in : AllByRecursion (λ proc. Contains (space ∷ spaces) proc.nodes) procs

splits_behind : {X : Type 0} (first : X) (whole : List X) (one : X) (rest : List X) → Splits whole one rest → Splits (first ∷ whole) one (first ∷ rest)
splits_behind first whole one rest split = record {
  before = first ∷ split.before;
  after = split.after;
  whole_is = ap (λ items. first ∷ items) split.whole_is;
  rest_is = ap (λ items. first ∷ items) split.rest_is;
}

splits_first : {X : Type 0} (one : X) (rest : List X) → Splits (one ∷ rest) one rest
splits_first one rest = record { before = []; after = rest; whole_is = refl; rest_is = refl }

second_behind : (first space : List (Option ℕ)) (spaces : List (List (Option ℕ))) (other : List (Option ℕ)) → Contains (space ∷ spaces) other → Contains (space ∷ first ∷ spaces) other
second_behind first space spaces other (zero, within, is) = (0, omega arith, is)
second_behind first space spaces other (suc k, within, is) = (suc (suc k), omega arith, is)

pub has_out : (procs : List Proc) (before pid : ℕ) (proc : Proc) (rest : List (List (Option ℕ))) → AreRising before procs → proc_of procs pid ≡ Some proc → HasOut procs pid proc.nodes rest
has_out [] before pid proc rest rising is = cc
has_out (first ∷ procs) before pid proc rest rising is = by_case (eqb_tells first.pid pid) (has_out procs first.pid pid proc rest rising.1)
  where
    here : first.pid ≡ pid → first ≡ proc → HasOut (first ∷ procs) pid first.nodes rest
    here same one = record {
      spaces = spaces_in procs ++ rest;
      out = splits_first first.nodes (spaces_in procs ++ rest);
      back = λ nodes. subst (λ whole. Splits whole nodes (spaces_in procs ++ rest))
          (sym (ap (λ b. (cond b (record first { nodes = nodes }) first).nodes ∷ (spaces_in (map (with_nodes pid nodes) procs) ++ rest)) (eqb_same first.pid pid same)
          ∙ ap (λ others. nodes ∷ (spaces_in others ++ rest)) (with_nodes-above procs first.pid pid nodes rising.1 (omega arith))))
          (splits_first nodes (spaces_in procs ++ rest));
      rest_in = λ other there. Contains-append_right (spaces_in procs) rest other there;
      others_in = subst (AllByRecursion (λ p. Contains (spaces_in procs ++ rest) p.nodes))
          (sym (ap (λ b. cond (not b) (first ∷ filter (is_other pid) procs) (filter (is_other pid) procs)) (eqb_same first.pid pid same) ∙ others_above procs first.pid pid rising.1 (omega arith)))
          (spaces_inside procs rest);
      all_in = spaces_inside (first ∷ procs) rest;
    }

    behind : first.pid ≢ pid → HasOut procs pid proc.nodes rest → HasOut (first ∷ procs) pid proc.nodes rest
    behind other found = record {
      spaces = first.nodes ∷ found.spaces;
      out = splits_behind first.nodes (spaces_in procs ++ rest) proc.nodes found.spaces found.out;
      back = λ nodes. subst (λ whole. Splits whole nodes (first.nodes ∷ found.spaces))
          (sym (ap (λ b. (cond b (record first { nodes = nodes }) first).nodes ∷ (spaces_in (map (with_nodes pid nodes) procs) ++ rest)) (eqb_other first.pid pid other)))
          (splits_behind first.nodes (spaces_in (map (with_nodes pid nodes) procs) ++ rest) nodes found.spaces (found.back nodes));
      rest_in = λ one there. Contains-behind first.nodes one found.spaces (found.rest_in one there);
      others_in = subst (AllByRecursion (λ p. Contains (first.nodes ∷ found.spaces) p.nodes))
          (sym (ap (λ b. cond (not b) (first ∷ filter (is_other pid) procs) (filter (is_other pid) procs)) (eqb_other first.pid pid other))) (
            (0, omega arith, refl),
            all_weaker (λ p. Contains found.spaces p.nodes) (λ p. Contains (first.nodes ∷ found.spaces) p.nodes) (filter (is_other pid) procs)
                (λ p there. Contains-behind first.nodes p.nodes found.spaces there) found.others_in,
          );
      all_in = (
        (1, omega arith, refl),
        all_weaker (λ p. Contains (proc.nodes ∷ found.spaces) p.nodes) (λ p. Contains (proc.nodes ∷ first.nodes ∷ found.spaces) p.nodes) procs
            (λ p there. second_behind first.nodes proc.nodes found.spaces p.nodes there) found.all_in,
      );
    }

    by_case : (((first.pid == pid) ≡ true) × (first.pid ≡ pid)) ⊎ (((first.pid == pid) ≡ false) × (first.pid ≢ pid))
        → (proc_of procs pid ≡ Some proc → HasOut procs pid proc.nodes rest) → HasOut (first ∷ procs) pid proc.nodes rest
    by_case (inl same) found =
        let one : first ≡ proc = some_same (proc_of (first ∷ procs) pid) first proc (ap (λ b. cond b (Some first) (proc_of procs pid)) same.0) is in
        subst (λ space. HasOut (first ∷ procs) pid space rest) (ap (λ p. p.nodes) one) (here same.1 one)
    by_case (inr other) found = behind other.1 (found (sym (ap (λ b. cond b (Some first) (proc_of procs pid)) other.0) ∙ is))

-- owners that name the same nodes own the same
pub same_nodes : (h : Heap) (one other : Owners) → node_keys one.spaces ≡ node_keys other.spaces → one.queues ≡ other.queues → IsOwned h one → IsOwned h other
same_nodes h one other nodes queues owned = record {
  nodes = rw nodes at owned.nodes;
  mapped = owned.mapped;
  pages = owned.pages;
  chunks = rw queues at owned.chunks;
  queues = rw queues at owned.queues;
}

-- the nodes of a process that became another, or went
abbrev pub keys_left : Option Proc → List ℕ
keys_left None = []
keys_left (Some proc) = keys_in proc.nodes

-- where each has the nodes that it had, or went without one, all name what they named
pub nodes_named : (P : Proc → Type 0) (becomes : Proc → Option Proc) (procs : List Proc) (rest : List (List (Option ℕ)))
    → ((proc : Proc) → P proc → keys_left (becomes proc) ≡ keys_in proc.nodes) → AllByRecursion P procs
    → node_keys (spaces_in procs ++ rest) ≡ node_keys (spaces_in (filter_map becomes procs) ++ rest)
nodes_named P becomes [] rest keeps all = refl
nodes_named P becomes (proc ∷ procs) rest keeps all = by_case (becomes proc) (keeps proc all.0) (nodes_named P becomes procs rest keeps all.1)
  where
    by_case : (o : Option Proc) → keys_left o ≡ keys_in proc.nodes → node_keys (spaces_in procs ++ rest) ≡ node_keys (spaces_in (filter_map becomes procs) ++ rest)
        → node_keys (spaces_in (proc ∷ procs) ++ rest) ≡ node_keys (spaces_in (cons_option o (filter_map becomes procs)) ++ rest)
    by_case None same others = ap (λ keys. keys ++ node_keys (spaces_in procs ++ rest)) (sym same) ∙ others
    by_case (Some now) same others = ap (λ keys. keys ++ node_keys (spaces_in procs ++ rest)) (sym same) ∙ ap (λ keys. keys_in now.nodes ++ keys) others

-- what all have, the one of a pid has
pub has_it : (P : Proc → Type 0) (procs : List Proc) (pid : ℕ) (proc : Proc) → AllByRecursion P procs → proc_of procs pid ≡ Some proc → P proc
has_it P [] pid proc all is = cc
has_it P (first ∷ procs) pid proc all is = by_case (eqb_tells first.pid pid) (has_it P procs pid proc all.1)
  where
    by_case : (((first.pid == pid) ≡ true) × (first.pid ≡ pid)) ⊎ (((first.pid == pid) ≡ false) × (first.pid ≢ pid)) → (proc_of procs pid ≡ Some proc → P proc) → P proc
    by_case (inl same) rest = subst P (some_same (proc_of (first ∷ procs) pid) first proc (ap (λ b. cond b (Some first) (proc_of procs pid)) same.0) is) all.0
    by_case (inr other) rest = rest (sym (ap (λ b. cond b (Some first) (proc_of procs pid)) other.0) ∙ is)
