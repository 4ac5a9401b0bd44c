-- Where a path leads is there, and what its last name is.
use Rattle.std.proofs.Common.{◌≡◌, ℕ, ◌^◌, ◌<◌, Bool, true, false, cond, not, ◌&&◌, ◌⊎◌, inl, inr, List, [], ◌∷◌, length, get_or, eqb, Option, Some, None, Result, Ok, Err, refl, sym, ap, subst, ◌∙◌, arith}
use Rattle.std.specs.Str.{bytes_eq}
use Rattle.std.specs.List.{All, AllByRecursion, filter, list_any, onto_first, slice_split}
use Rattle.std.proofs.lemmas.Bool.{cases_Bool, cond-true, cond-false, cond_both, and_cases, not-false, or_parts, ltb-false, eqb-false, not_from_true, both_ways, eq-eqb, cases_lt}
use Rattle.std.proofs.lemmas.Option.{none-some, same_Some}
use Rattle.std.proofs.lemmas.List.{get_or_past}
use Rattle.std.proofs.lemmas.Slice.Eq.{bytes_eq-Decides}
use Rattle.std.proofs.lemmas.List.Elements.{All-cons, All-head, All-tail}
use Rattle.kabi_types.specs.declared.errnos.Errno.{Errno}
use Rattle.kabi_types.specs.declared.errnos.Errno.TheVariants.{ENOENT, ENAMETOOLONG, ENOTDIR}
use Rattle.posix_defs.specs.declared.walked.Walked.{Walked}
use Rattle.posix_defs.specs.declared.walked.Walked.TheVariants as walked
use Rattle.posix_defs.specs.DiskContents.{own_name, parent_name}
use Rattle.posix_defs.specs.Tree.{Tree, root, is_directory, parent_at, found}
use Rattle.posix_defs.specs.IsTree.{IsEntryName, IsTree}
use Rattle.kabi_types.specs.PathParts.{is_slash, has_bytes, components, is_long}
use Rattle.kabi_types.specs.Arguments.{path_fault}
use Rattle.posix_defs.specs.Paths.{begins_at, is_absolute, on_from, step, name_leads, last_leads, go_on, leads, ends_in_slash, resolve, IsLed, last_name}
use Rattle.tree_laws.proofs.TreeFacts.{step_to_directory}

-- ---- what is there

-- a fault of a component
abbrev IsFault : Result ℕ Errno → Type 0
IsFault answer = (errno : Errno) → answer ≡ Err errno → (errno ≡ ENOENT) ⊎ (errno ≡ ENOTDIR)

no_fault : (number : ℕ) → IsFault (Ok number)
no_fault number errno same = absurd (cc)

from_fault : (tree : Tree) (at : Option ℕ) → IsFault (on_from tree at)
from_fault tree None = λ errno same. inl (cc)
from_fault tree (Some number) = cond_both (is_directory tree number) (Ok number) (Err ENOTDIR) IsFault (λ _. no_fault number) (λ _ errno same. inr (cc))

step_fault : (tree : Tree) (dir : ℕ) (name : List ℕ) → IsFault (step tree dir name)
step_fault tree dir name =
    cond_both (bytes_eq name own_name) (Ok dir) _ IsFault (λ _. no_fault dir) (λ _.
    cond_both (bytes_eq name parent_name) (Ok (parent_at tree dir)) _ IsFault (λ _. no_fault (parent_at tree dir)) (λ _. from_fault tree (found tree dir name)))

name_led : (tree : Tree) (dir : ℕ) (name : List ℕ) (slashed : Bool) (at : Option ℕ) → is_directory tree dir ≡ true → found tree dir name ≡ at → IsLed tree (name_leads tree dir name slashed at)
name_led tree dir name slashed None is at = (is, at)
name_led tree dir name slashed (Some number) is at =
    cond_both (slashed && not (is_directory tree number)) (walked.Fail ENOTDIR) (walked.Named dir name number slashed) (IsLed tree) (λ _. inr refl) (λ passes. (
      is,
      at,
      λ slash. elim (and_cases slashed (not (is_directory tree number)) passes) [
        | inl no_slash ↦ absurd (both_ways slashed no_slash slash)
        | inr dir_there ↦ not-false (is_directory tree number) dir_there
      ],
    ))

last_led : (tree : Tree) (dir : ℕ) (name : List ℕ) (slashed : Bool) → IsTree tree → is_directory tree dir ≡ true → IsLed tree (last_leads tree dir name slashed)
last_led tree dir name slashed is at =
    cond_both (bytes_eq name own_name) (walked.Node dir) _ (IsLed tree) (λ _. at) (λ _.
    cond_both (bytes_eq name parent_name) (walked.Node (parent_at tree dir)) _ (IsLed tree) (λ _. is.parents dir at) (λ _. name_led tree dir name slashed (found tree dir name) at refl))

go_led : (tree : Tree) (answer : Result ℕ Errno) (on : ℕ → Walked) → ((to : ℕ) → answer ≡ Ok to → IsLed tree (on to)) → IsFault answer → IsLed tree (go_on answer on)
go_led tree (Ok to) on led fault = led to refl
go_led tree (Err errno) on led fault = fault errno refl

leads_led : (tree : Tree) (slashed : Bool) (dir : ℕ) (names : List (List ℕ)) → IsTree tree → is_directory tree dir ≡ true → IsLed tree (leads tree slashed dir names)
leads_led tree slashed dir [] is at = at
leads_led tree slashed dir (name ∷ []) is at = last_led tree dir name slashed is at
leads_led tree slashed dir (name ∷ next ∷ names) is at =
    go_led tree (step tree dir name) (λ to. leads tree slashed to (next ∷ names)) (λ to leads_to. leads_led tree slashed to (next ∷ names) is (step_to_directory tree dir name to is at leads_to)) (step_fault tree dir name)

pub path_led : (tree : Tree) (start : ℕ) (path : List ℕ) → IsTree tree → is_directory tree start ≡ true → IsLed tree (resolve tree start path)
path_led tree start path is at =
    leads_led tree (ends_in_slash path) (begins_at start path) (components path) is
    (cond_both (is_absolute path) root start (λ (n : ℕ). is_directory tree n ≡ true) (λ _. is.root_directory) (λ _. at))

pub root_up : (tree : Tree) → IsTree tree → ◌≡◌ {A = Result ℕ Errno} (step tree root parent_name) (Ok root)
root_up tree is = ap (λ (n : ℕ). Ok n) is.root_parent

-- ---- the last name

-- a component of a path: its bytes are the path's, and none is a slash
abbrev IsByte : ℕ → Type 0
IsByte byte = (0 < byte) × (byte < 2 ^ 8)

record IsPart (part : List ℕ) : Type 0 where
  bytes : All IsByte part
  slashes : All (λ byte. is_slash byte ≡ false) part

none_part : IsPart []
none_part = record { bytes = λ k d lt. absurd (omega (arith, lt)); slashes = λ k d lt. absurd (omega (arith, lt)) }

onto_part : (byte : ℕ) (part : List ℕ) → IsByte byte → is_slash byte ≡ false → IsPart part → IsPart (byte ∷ part)
onto_part byte part is plain parts = record { bytes = All-cons IsByte byte part is parts.bytes; slashes = All-cons (λ b. is_slash b ≡ false) byte part plain parts.slashes }

onto_parts : (byte : ℕ) (parts : List (List ℕ)) → IsByte byte → is_slash byte ≡ false → AllByRecursion IsPart parts → AllByRecursion IsPart (onto_first byte parts)
onto_parts byte [] is plain are = (onto_part byte [] is plain none_part, tt)
onto_parts byte (part ∷ parts) is plain are = (onto_part byte part is plain are.0, are.1)

split_parts : (path : List ℕ) → All IsByte path → AllByRecursion IsPart (slice_split is_slash path)
split_parts [] are = (none_part, tt)
split_parts (byte ∷ path) are =
    let rest = split_parts path (All-tail IsByte byte path are) in
    cond_both (is_slash byte) ([] ∷ slice_split is_slash path) (onto_first byte (slice_split is_slash path)) (AllByRecursion IsPart)
    (λ _. (none_part, rest)) (λ plain. onto_parts byte (slice_split is_slash path) (All-head IsByte byte path are) plain rest)

-- a component is such a part, isn't empty, and isn't too long
record IsComponent (name : List ℕ) : Type 0 where
  part : IsPart name
  some : has_bytes name ≡ true
  short : is_long name ≡ false

kept_parts : (parts : List (List ℕ)) → AllByRecursion IsPart parts → list_any is_long (filter has_bytes parts) ≡ false → AllByRecursion IsComponent (filter has_bytes parts)
kept_parts [] are short = tt
kept_parts (part ∷ parts) are short =
    elim (cases_Bool (has_bytes part)) [
      | inl some ↦
          let is : filter has_bytes (part ∷ parts) ≡ part ∷ filter has_bytes parts = cond-true (has_bytes part) (part ∷ filter has_bytes parts) (filter has_bytes parts) some in
          let both = or_parts (is_long part) (list_any is_long (filter has_bytes parts)) (sym (ap (list_any is_long) is) ∙ short) in
          subst (AllByRecursion IsComponent) (sym is) (record { part = are.0; some = some; short = both.0 }, kept_parts parts are.1 both.1)
      | inr none ↦
          let is : filter has_bytes (part ∷ parts) ≡ filter has_bytes parts = cond-false (has_bytes part) (part ∷ filter has_bytes parts) (filter has_bytes parts) none in
          subst (AllByRecursion IsComponent) (sym is) (kept_parts parts are.1 (sym (ap (list_any is_long) is) ∙ short))
    ]

path_parts : (path : List ℕ) → path_fault path ≡ None → All IsByte path → AllByRecursion IsComponent (components path)
path_parts path fine are =
    let long : Bool = list_any is_long (components path) in
    let inner : Option Errno = cond long (Some ENAMETOOLONG) None in
    let short : long ≡ false = elim (cases_Bool long) [
      | inl is ↦ elim (cases_Bool (eqb (length path) 0)) [
        | inl none ↦ absurd (none-some ENOENT (sym fine ∙ cond-true (eqb (length path) 0) (Some ENOENT) inner none))
        | inr some ↦ absurd (none-some ENAMETOOLONG (sym fine ∙ cond-false (eqb (length path) 0) (Some ENOENT) inner some ∙ cond-true long (Some ENAMETOOLONG) None is))
      ]
      | inr no_long ↦ no_long
    ] in
    kept_parts (slice_split is_slash path) (split_parts path are) short

component_name : (name : List ℕ) → IsComponent name → bytes_eq name own_name ≡ false → bytes_eq name parent_name ≡ false → IsEntryName name
component_name name is not_own not_parent = record {
  valid = record {
    len = (omega (arith, λ (none : length name ≡ 0). both_ways (has_bytes name) (not_from_true (eqb (length name) 0) (eq-eqb (length name) 0 none)) is.some), ltb-false 27 (length name) is.short);
    fits = λ k. elim (cases_lt k (length name)) [
      | inl lt ↦ (is.part.bytes k 0 lt).1
      | inr past ↦ let none : ◌≡◌ {A = ℕ} (get_or name k 0) 0 = get_or_past name k 0 past in omega (arith, none)
    ];
    chars = λ k lt. (λ none. omega (arith, (is.part.bytes k 0 lt).0, none), λ slash. eqb-false (get_or name k 0) 47 (is.part.slashes k 0 lt) slash);
  };
  own = λ same. both_ways (bytes_eq name own_name) not_own ((bytes_eq-Decides name own_name).1 same);
  parent = λ same. both_ways (bytes_eq name parent_name) not_parent ((bytes_eq-Decides name parent_name).1 same);
}

-- the last name of what is led to
abbrev pub NamesEntry : Walked → Type 0
NamesEntry led = (name : List ℕ) → last_name led ≡ Some name → IsEntryName name

no_name : (led : Walked) → last_name led ≡ None → NamesEntry led
no_name led none name is = absurd (none-some name (sym none ∙ is))

name_named : (tree : Tree) (dir : ℕ) (name : List ℕ) (slashed : Bool) (at : Option ℕ) → IsEntryName name → NamesEntry (name_leads tree dir name slashed at)
name_named tree dir name slashed None valid = λ last is. subst IsEntryName (same_Some name last is) valid
name_named tree dir name slashed (Some number) valid =
    cond_both (slashed && not (is_directory tree number)) (walked.Fail ENOTDIR) (walked.Named dir name number slashed) NamesEntry (λ _. no_name (walked.Fail ENOTDIR) refl)
    (λ _ last is. subst IsEntryName (same_Some name last is) valid)

last_named : (tree : Tree) (dir : ℕ) (name : List ℕ) (slashed : Bool) → IsComponent name → NamesEntry (last_leads tree dir name slashed)
last_named tree dir name slashed is =
    cond_both (bytes_eq name own_name) (walked.Node dir) _ NamesEntry (λ _. no_name (walked.Node dir) refl) (λ not_own.
    cond_both (bytes_eq name parent_name) (walked.Node (parent_at tree dir)) _ NamesEntry (λ _. no_name (walked.Node (parent_at tree dir)) refl) (λ not_parent.
    name_named tree dir name slashed (found tree dir name) (component_name name is not_own not_parent)))

go_named : (answer : Result ℕ Errno) (on : ℕ → Walked) → ((to : ℕ) → NamesEntry (on to)) → NamesEntry (go_on answer on)
go_named (Ok to) on named = named to
go_named (Err errno) on named = no_name (walked.Fail errno) refl

leads_named : (tree : Tree) (slashed : Bool) (dir : ℕ) (names : List (List ℕ)) → AllByRecursion IsComponent names → NamesEntry (leads tree slashed dir names)
leads_named tree slashed dir [] are = no_name (walked.Node dir) refl
leads_named tree slashed dir (name ∷ []) are = last_named tree dir name slashed are.0
leads_named tree slashed dir (name ∷ next ∷ names) are = go_named (step tree dir name) (λ to. leads tree slashed to (next ∷ names)) (λ to. leads_named tree slashed to (next ∷ names) are.1)

pub last_is_entry_name : (tree : Tree) (start : ℕ) (path name : List ℕ) → path_fault path ≡ None → All IsByte path → last_name (resolve tree start path) ≡ Some name → IsEntryName name
last_is_entry_name tree start path name fine are is = leads_named tree (ends_in_slash path) (begins_at start path) (components path) (path_parts path fine are) name is
