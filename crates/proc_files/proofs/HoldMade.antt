-- A number of a process names a new description of a node: heap, table and tree stand for the files then.
use Rattle.std.proofs.Common.{◌≡◌, ◌≢◌, ℕ, zero, suc, ◌+◌, ◌<◌, ◌≤◌, ◌==◌, ℤ, Bool, true, false, cond, List, [], ◌∷◌, set, length, count_by, Option, None, Some, Result, Ok, Err, is_some, refl, ap, sym, subst, ◌∙◌, arith, eq-eqb, ne_eqb, inl, inr}
use Rattle.std.proofs.lemmas.Bool.{cases_eq, cases_lt}
use Rattle.std.proofs.lemmas.List.{get_or_at, get_or-set_other, set_past}
use Rattle.std.proofs.lemmas.List.Sums.{sum_by-cons, sum_by-set}
use Rattle.kheap_slabs.specs.Objects.{InUse, object}
use Rattle.kheap_slabs.specs.Heap.{Heap, IsWellFormed}
use Rattle.kabi_types.specs.declared.errnos.Errno.{Errno}
use Rattle.memfs_ops.specs.FileTree.{Stands, TreeView, one_more}
use Rattle.memfs_ops.specs.Opening.{OpenedAs}
use Rattle.open_laws.specs.Described.{CountedList, uncounted}
use Rattle.open_laws.specs.Placed.{Numbers}
use Rattle.posix_defs.specs.Calls.OnFiles.{description_on}
use Rattle.posix_defs.specs.Files.Descriptions.{Description, Descriptions, OnNode, Target, access_of, description_at, o_cloexec, has_flag}
use Rattle.posix_defs.specs.Files.State.{Files, beside, node_of, nodes_among, opened_as, opened_nodes}
use Rattle.posix_defs.specs.PathCalls.{is_fifo}
use Rattle.posix_defs.specs.Pipe.{Pipe}
use Rattle.posix_defs.specs.Tree.{Tree}
use Rattle.posix_defs.proofs.TreeNodes.{directory_in_use}
use Rattle.proc_table.specs.Table.{TableView}
use Rattle.proc_table.proofs.PlaceLemmas.{some_same}
use Rattle.proc_numbers.specs.Having.{HaveOpen}
use Rattle.proc_numbers.proofs.Sums.{one_if}
use Rattle.proc_numbers.proofs.Made.{longer}
use Rattle.proc_files.specs.Holding.{HoldFiles}
use Rattle.proc_files.specs.Holders.{AreOpenNodes, HoldDirectories, holders, IsOpenNode, times}
use Rattle.proc_files.specs.Opening.{LeadsTo}
use Rattle.proc_files.proofs.Holding.{same_pins}
use Rattle.proc_files.proofs.Openings.{OpenTheSame, nodes_made, times_beside, times_cons}

-- ---- the answer of the tree

-- a node, and the tree then
pub record OpenedTo (h : Heap) (fs : TreeView) (led : Result (ℕ × Tree) Errno) (pins : ℕ → ℕ) (node : ℕ) : Type 0 where
  pub next : Tree
  pub is : led ≡ Ok (node, next)
  pub stands : Stands h fs next (one_more pins node)

pub opened_to : (h : Heap) (fs : TreeView) (tree : Tree) (led : Result (ℕ × Tree) Errno) (pins : ℕ → ℕ) (node : ℕ) → OpenedAs h fs tree led pins (Ok node) → OpenedTo h fs led pins node
opened_to h fs tree (Ok (made, next)) pins node is =
    let same : node ≡ made = number_of is.0 in
    record { next = next; is = ap (λ n. Ok (n, next)) (sym same); stands = subst (λ n. Stands h fs next (one_more pins n)) (sym same) is.1 }
  where
    number_of : ◌≡◌ {A = Result ℕ Errno} (Ok node) (Ok made) → node ≡ made
    number_of e = cc
opened_to h fs tree (Err errno) pins node is = absurd (cc)

-- a fault
pub opened_not : (h : Heap) (fs : TreeView) (tree : Tree) (led : Result (ℕ × Tree) Errno) (pins : ℕ → ℕ) (errno : Errno) → OpenedAs h fs tree led pins (Err errno)
    → (led ≡ Err errno) × Stands h fs tree pins
opened_not h fs tree (Ok (made, next)) pins errno is = absurd (cc)
opened_not h fs tree (Err fault) pins errno is = (ap (λ e. Err e) (fault_of is.0), is.1)
  where
    fault_of : ◌≡◌ {A = Result ℕ Errno} (Err errno) (Err fault) → fault ≡ errno
    fault_of e = cc

-- ---- a description more

-- a description that opens a node, by its number or by an end of its FIFO, is made where the node is held once more
module _ (others : ℕ → ℕ) (files : Files) (pipes : List (Option Pipe)) (next : Tree) (node : ℕ) (what : Target) (flags : ℤ) (pid fd : ℕ) (leads : LeadsTo files.tree next node (access_of flags))
    (same : OpenTheSame (record files { tree = next; pipes = pipes }) files files.descriptions) (on : node_of (record files { tree = next; pipes = pipes }) what ≡ Some node)
    (no_fifo : (number : ℕ) → what ≡ OnNode number → is_fifo next number ≡ false) where
  abbrev pub base : Files
  base = record files { tree = next; pipes = pipes }

  abbrev pub after_open : Files
  after_open = opened_as base pid fd (has_flag flags o_cloexec) (description_on what flags)

  pins_then : (n : ℕ) → one_more (holders others files) node n ≡ holders others after_open n
  pins_then n =
      let made : times n (opened_nodes after_open) ≡ times n (opened_nodes files) + times n (beside (node_of base what) []) = nodes_made after_open files files.descriptions (description_on what flags) n same in
      let it : times n (beside (node_of base what) []) ≡ times n (node ∷ []) = ap (λ o. times n (beside o [])) on in
      let one = times_cons n node [] in
      let none : times n [] ≡ 0 = refl in
      elim (cases_eq node n) [
        | inl same_node ↦
            let here : one_if (node == n) ≡ 1 = ap one_if (eq-eqb node n same_node) in
            ap (λ b. cond b (holders others files n + 1) (holders others files n)) (eq-eqb node n same_node) ∙ omega (arith, made, it, one, none, here)
        | inr apart ↦
            let off : one_if (node == n) ≡ 0 = ap one_if (ne_eqb node n apart) in
            ap (λ b. cond b (holders others files n + 1) (holders others files n)) (ne_eqb node n apart) ∙ omega (arith, made, it, one, none, off)
      ]

  it_is_open : IsOpenNode next (description_on what flags) node
  it_is_open = record { used = leads.there; unnamed = leads.unnamed; reads = leads.reads; between = λ is. refl; no_fifo = no_fifo node }

  nodes_then : AreOpenNodes files → AreOpenNodes after_open
  nodes_then nodes place number d there named = elim (cases_eq place (length files.descriptions)) [
    | inl last ↦
        let it : d ≡ description_on what flags =
        some_same (description_at after_open.descriptions place) d (description_on what flags) there
        (get_or_at files.descriptions (Some (description_on what flags)) [] None place (sym last)) in
        let number_is : node ≡ number = number_of number (sym on ∙ sym (ap (λ (x : Description). node_of base x.target) it) ∙ named) in
        subst (λ n. IsOpenNode next d n) number_is (subst (λ (x : Description). IsOpenNode next x node) (sym it) it_is_open)
    | inr apart ↦
        let before : description_at files.descriptions place ≡ Some d = sym (longer files.descriptions (Some (description_on what flags)) place apart) ∙ there in
        let was = nodes place number d before (sym (same place d before) ∙ named) in
        record {
          used = leads.used number was.used;
          unnamed = leads.sockets number was.used ∙ was.unnamed;
          reads = λ is. was.reads (sym (leads.directories number was.used) ∙ is);
          between = λ is. was.between (sym (leads.directories number was.used) ∙ is);
          no_fifo = λ target. leads.fifos number was.used ∙ was.no_fifo target;
        }
  ]
    where
      number_of : (n : ℕ) → Some node ≡ Some n → node ≡ n
      number_of n e = cc

  pub hold_made : (now : Numbers) (new : Heap) (kept : TableView) (is : TreeView) → AreOpenNodes files → HoldDirectories others files.tree → HaveOpen now new kept after_open
      → Stands new is next (one_more (holders others files) node) → HoldFiles now others new kept is after_open
  hold_made now new kept is nodes beside have stands = record {
    opened = have;
    tree = same_pins new is next (one_more (holders others files) node) (holders others after_open) pins_then stands;
    nodes = nodes_then nodes;
    beside = record {
      root = beside.root;
      directories = λ n some.
          let was = beside.directories n some in
          leads.directories n (directory_in_use files.tree n was) ∙ was;
      few = beside.few;
    };
  }

-- ---- and room for it

-- one at most is lost where one place is emptied
emptied : {Y : Type 0} (things : List (Option Y)) (place : ℕ) → count_by is_some things ≤ count_by is_some (set things place None) + 1
emptied {Y = Y} things place = elim (cases_lt place (length things)) [
  | inl within ↦
      let moved = sum_by-set (λ o. one_if (is_some o)) things place None None within in
      let few = one_most (is_some (object things place)) in
      let none : one_if (is_some {T = Y} None) ≡ 0 = refl in
      omega (arith, moved, few, none)
  | inr past ↦ let same = ap (count_by is_some) (set_past things place None past) in omega (arith, same)
]
  where
    one_most : (b : Bool) → one_if b ≤ 1
    one_most true = omega arith
    one_most false = omega arith

emptied_there : {Y : Type 0} (things : List (Option Y)) (place : ℕ) → object (set things place None) place ≡ None
emptied_there [] place = refl
emptied_there (first ∷ things) zero = refl
emptied_there (first ∷ things) (suc place) = emptied_there things place

none_counted : {Y : Type 0} (things : List (Option Y)) → ((place : ℕ) (y : Y) → object things place ≡ Some y → ⊥) → count_by is_some things ≡ 0
none_counted [] none = refl
none_counted (None ∷ things) none =
    let rest = none_counted things (λ place y is. none (suc place) y is) in
    let whole = sum_by-cons (λ (o : Option _). one_if (is_some o)) None things in
    omega (arith, rest, whole)
none_counted (Some y ∷ things) none = absurd (none 0 y refl)

-- where each thing has a key of its own there are no more things than objects
few_things : {X Y : Type 0} (objects : List (Option X)) (number : ℕ → ℕ) (things : List (Option Y))
    → ((place : ℕ) (y : Y) → object things place ≡ Some y → (key : ℕ) × InUse objects key × (number key ≡ place))
    → count_by is_some things ≤ count_by is_some objects
few_things {X = X} [] number things found =
    let none = none_counted things (λ place y is. (let key = found place y is in let used : is_some {T = X} None ≡ true = key.1 in cc)) in
    omega (arith, none)
few_things (None ∷ objects) number things found =
    let rest = few_things objects (λ key. number (suc key)) things (λ place y is. later (found place y is)) in
    let whole = sum_by-cons (λ (o : Option _). one_if (is_some o)) None objects in
    omega (arith, rest, whole)
  where
    later : {place : ℕ} → (key : ℕ) × InUse (None ∷ objects) key × (number key ≡ place) → (key : ℕ) × InUse objects key × (number (suc key) ≡ place)
    later (zero, used, is) = absurd (cc)
    later (suc key, used, is) = (key, used, is)
few_things (Some x ∷ objects) number things found =
    let rest = few_things objects (λ key. number (suc key)) (set things (number 0) None) (λ place y is. elim (cases_eq place (number 0)) [
      | inl same ↦ absurd (let gone : Some y ≡ None = sym is ∙ ap (object (set things (number 0) None)) same ∙ emptied_there things (number 0) in cc)
      | inr apart ↦ later place apart (found place y (sym (get_or-set_other things (number 0) place None None apart) ∙ is))
    ]) in
    let lost = emptied things (number 0) in
    let whole = sum_by-cons (λ (o : Option _). one_if (is_some o)) (Some x) objects in
    omega (arith, rest, whole, lost)
  where
    later : (place : ℕ) → place ≢ number 0 → (key : ℕ) × InUse (Some x ∷ objects) key × (number key ≡ place) → (key : ℕ) × InUse objects key × (number (suc key) ≡ place)
    later place apart (zero, used, is) = absurd (apart (sym is))
    later place apart (suc key, used, is) = (key, used, is)

times_few : (files : Files) (list : Descriptions) (number : ℕ) → times number (nodes_among files list) ≤ count_by is_some list
times_few files [] number = omega arith
times_few files (None ∷ list) number =
    let rest = times_few files list number in
    let whole = sum_by-cons (λ (o : Option Description). one_if (is_some o)) None list in
    omega (arith, rest, whole)
times_few files (Some d ∷ list) number =
    let rest = times_few files list number in
    let whole = sum_by-cons (λ (o : Option Description). one_if (is_some o)) (Some d) list in
    let all = times_beside number (node_of files d.target) (nodes_among files list) in
    let one = one_most (node_of files d.target) in
    omega (arith, rest, whole, all, one)
  where
    one_most : (o : Option ℕ) → times number (beside o []) ≤ 1
    one_most None = omega arith
    one_most (Some other) =
        let it = times_cons number other [] in let none : times number [] ≡ 0 = refl in let few = at_most (other == number) in omega (arith, it, none, few)
      where
        at_most : (b : Bool) → one_if b ≤ 1
        at_most true = omega arith
        at_most false = omega arith

counted_as : (list : CountedList) → count_by is_some (uncounted list) ≡ count_by is_some list
counted_as [] = refl
counted_as (None ∷ list) =
    let rest = counted_as list in
    let one = sum_by-cons (λ (o : Option Description). one_if (is_some o)) None (uncounted list) in
    let other = sum_by-cons (λ (o : Option _). one_if (is_some o)) None list in
    omega (arith, rest, one, other)
counted_as (Some c ∷ list) =
    let rest = counted_as list in
    let one = sum_by-cons (λ (o : Option Description). one_if (is_some o)) (Some c.is) (uncounted list) in
    let other = sum_by-cons (λ (o : Option _). one_if (is_some o)) (Some c) list in
    omega (arith, rest, one, other)

-- each node may be held once more: there are no more descriptions than Descs, for which the heap has room
pub may_hold : (numbers : Numbers) (others : ℕ → ℕ) (h : Heap) (kept : TableView) (fs : TreeView) (files : Files) → IsWellFormed h → HoldFiles numbers others h kept fs files
    → (number : ℕ) → holders others files number < 4294967295
may_hold numbers others h kept fs files whole hold number =
    let opened = times_few files files.descriptions number in
    let same : count_by is_some files.descriptions ≡ count_by is_some (uncounted hold.opened.list) = ap (count_by is_some) hold.opened.opened.descriptions in
    let listed = counted_as hold.opened.list in
    let keyed = few_things h.descs numbers.descs hold.opened.list hold.opened.opened.described.found in
    let few = hold.beside.few number in
    let live = whole.live_within in
    let high = whole.high_within in
    let limit = whole.limit in
    omega (arith, opened, same, listed, keyed, few, live, high, limit)
