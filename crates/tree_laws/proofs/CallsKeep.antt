-- A call on a path leaves a tree.
use Rattle.std.proofs.Common.{◌≡◌, ◌≢◌, ℕ, zero, suc, ◌^◌, ◌<◌, ◌≤◌, Bool, true, false, cond, not, ◌&&◌, ◌||◌, inl, inr, List, [], length, eqb, Option, Some, None, Result, Ok, Err, refl, sym, ap, subst, ◌∙◌, arith}
use Rattle.std.specs.Option.{option_map}
use Rattle.std.specs.List.{All}
use Rattle.std.proofs.lemmas.Bool.{cases_Bool, cond-true, cond-false, and_right, or_left, or_right, and_cases, not-false, eqb-true, eqb-false, both_ways, not_from_true}
use Rattle.std.proofs.lemmas.List.{nil_from_length, set-get_or}
use Rattle.kabi_types.specs.Arguments.{path_fault}
use Rattle.kabi_types.specs.declared.errnos.Errno.{Errno}
use Rattle.kabi_types.specs.declared.errnos.Errno.TheVariants as errnos
use Rattle.posix_defs.specs.declared.walked.Walked.{Walked}
use Rattle.posix_defs.specs.declared.walked.Walked.TheVariants as walked
use Rattle.posix_defs.specs.DiskFormat.{blocks_of}
use Rattle.posix_defs.specs.DiskContents.{own_name, parent_name}
use Rattle.posix_defs.specs.FileBytes.{resized}
use Rattle.posix_defs.specs.Tree.{Content, File, Directory, SocketName, Fifo, Node, Tree, node_at, with_node, is_in_use, is_directory, entries_at, found, climbed}
use Rattle.posix_defs.specs.TreeChanges.{with_bytes, with_bytes_in, blocks_for, make, link, rename_over, rename_to, takes_entry, is_at_or_above, unlink}
use Rattle.posix_defs.specs.IsTree.{IsEntryName, IsNewContent, IsTree}
use Rattle.posix_defs.specs.Paths.{IsLed, resolve}
use Rattle.posix_defs.specs.PathCalls.{unless, node_led, freed_by, is_socket, Opening, open_there, open_led, open_path, mkdir_led, mkdir_path, mkfifo_led, mkfifo_path, bind_led, bind_path, is_empty, ends_in, rmdir_led, rmdir_path, is_held, unlink_led, unlink_path, link_to, link_from, link_path, rename_onto, rename_away, goes_below, rename_named, rename_root, rename_led, rename_path}
use Rattle.tree_laws.proofs.TreeFacts.{found_in_use}
use Rattle.tree_laws.proofs.TreeKeeps.{make_keeps, unlink_keeps, same_Ok, err-ok}
use Rattle.tree_laws.proofs.TreeRenames.{rename_over_keeps, rename_to_keeps}
use Rattle.tree_laws.proofs.FileKeeps.{bytes_keep, link_keeps}
use Rattle.tree_laws.proofs.FileRoom.{length-resized, bytes_resized}
use Rattle.tree_laws.proofs.PathLeads.{NamesEntry, path_led, last_is_entry_name}
use Rattle.tree_laws.proofs.Ways.{above_decides}

-- what passed a test
unless_ok : {A : Type 0} (bad : Bool) (errno : Errno) (further : Result A Errno) (x : A) → unless bad errno further ≡ Ok x → (bad ≡ false) × (further ≡ Ok x)
unless_ok bad errno further x at =
    elim (cases_Bool bad) [
      | inl is ↦ absurd (err-ok errno x (sym (cond-true bad (Err errno) further is) ∙ at))
      | inr fine ↦ (fine, sym (cond-false bad (Err errno) further fine) ∙ at)
    ]

-- ---- a new node

made_keeps : (tree : Tree) (dir : ℕ) (name : List ℕ) (content : Content) (number : ℕ) (after : Tree) → IsTree tree → (is_directory tree dir ≡ true) × (found tree dir name ≡ None) → IsEntryName name
    → IsNewContent dir content → make tree dir name content ≡ Ok (number, after) → IsTree after
made_keeps tree dir name content number after is led valid new at = make_keeps tree dir name content number after is led.0 valid led.1 new at

mkdir_keeps : (tree : Tree) (led : Walked) (number : ℕ) (after : Tree) → IsTree tree → IsLed tree led → NamesEntry led → mkdir_led tree led ≡ Ok (number, after) → IsTree after
mkdir_keeps tree (walked.Node n) number after is there names at = absurd (err-ok errnos.EEXIST (number, after) at)
mkdir_keeps tree (walked.Named parent name n slashed) number after is there names at = absurd (err-ok errnos.EEXIST (number, after) at)
mkdir_keeps tree (walked.Free dir name slashed) number after is there names at = made_keeps tree dir name (Directory dir []) number after is there (names name refl) (refl, refl) at
mkdir_keeps tree (walked.Fail errno) number after is there names at = absurd (err-ok errno (number, after) at)

bind_keeps : (tree : Tree) (led : Walked) (number : ℕ) (after : Tree) → IsTree tree → IsLed tree led → NamesEntry led → bind_led tree led ≡ Ok (number, after) → IsTree after
bind_keeps tree (walked.Node n) number after is there names at = absurd (err-ok errnos.EADDRINUSE (number, after) at)
bind_keeps tree (walked.Named parent name n slashed) number after is there names at = absurd (err-ok errnos.EADDRINUSE (number, after) at)
bind_keeps tree (walked.Free dir name slashed) number after is there names at =
    made_keeps tree dir name SocketName number after is there (names name refl) tt (unless_ok slashed errnos.ENOENT (make tree dir name SocketName) (number, after) at).1
bind_keeps tree (walked.Fail errno) number after is there names at = absurd (err-ok errno (number, after) at)

mkfifo_keeps : (tree : Tree) (led : Walked) (number : ℕ) (after : Tree) → IsTree tree → IsLed tree led → NamesEntry led → mkfifo_led tree led ≡ Ok (number, after) → IsTree after
mkfifo_keeps tree (walked.Node n) number after is there names at = absurd (err-ok errnos.EEXIST (number, after) at)
mkfifo_keeps tree (walked.Named parent name n slashed) number after is there names at = absurd (err-ok errnos.EEXIST (number, after) at)
mkfifo_keeps tree (walked.Free dir name slashed) number after is there names at =
    made_keeps tree dir name Fifo number after is there (names name refl) tt (unless_ok slashed errnos.ENOENT (make tree dir name Fifo) (number, after) at).1
mkfifo_keeps tree (walked.Fail errno) number after is there names at = absurd (err-ok errno (number, after) at)

-- a node put where it stands
same_node : (tree : Tree) (number : ℕ) → with_node tree number (node_at tree number) ≡ tree
same_node tree zero = refl
same_node tree (suc before) = ap (λ (nodes : List (Option Node)). record tree { nodes = nodes }) (set-get_or tree.nodes before None)

-- no bytes are left of a file, and of nothing else anything changes
cut_keeps : (tree : Tree) (number : ℕ) (there : Option Node) → IsTree tree → node_at tree number ≡ there → IsTree (with_bytes tree number (resized 0))
cut_keeps tree number None is at =
    subst IsTree (sym (same_node tree number) ∙ ap (with_node tree number) at ∙ sym (ap (λ (o : Option Node). with_node tree number (option_map {T = Node} (λ n. record n { content = with_bytes_in (resized 0) n.content }) o)) at)) is
cut_keeps tree number (Some node) is at = by_content node.links node.content at
  where
    by_content : (links : ℕ) (content : Content) → node_at tree number ≡ Some (record { links = links; content = content }) → IsTree (with_bytes tree number (resized 0))
    by_content links (File old) at =
        let none : length (resized 0 old) ≡ 0 = length-resized 0 old in
        bytes_keep tree number links old (resized 0) is at (subst (λ (n : ℕ). blocks_of n ≤ blocks_for tree number) (sym none) (omega arith)) (omega (arith, none)) (bytes_resized 0 old (is.nodes number _ at).content)
    by_content links (Directory parent entries) at =
        subst IsTree (sym (same_node tree number) ∙ ap (with_node tree number) at ∙ sym (ap (λ (o : Option Node). with_node tree number (option_map {T = Node} (λ n. record n { content = with_bytes_in (resized 0) n.content }) o)) at)) is
    by_content links SocketName at =
        subst IsTree (sym (same_node tree number) ∙ ap (with_node tree number) at ∙ sym (ap (λ (o : Option Node). with_node tree number (option_map {T = Node} (λ n. record n { content = with_bytes_in (resized 0) n.content }) o)) at)) is
    by_content links Fifo at =
        subst IsTree (sym (same_node tree number) ∙ ap (with_node tree number) at ∙ sym (ap (λ (o : Option Node). with_node tree number (option_map {T = Node} (λ n. record n { content = with_bytes_in (resized 0) n.content }) o)) at)) is

there_keeps : (tree : Tree) (how : Opening) (node number : ℕ) (after : Tree) → IsTree tree → open_there tree how node ≡ Ok (number, after) → IsTree after
there_keeps tree how node number after is at =
    let cut : Tree = cond how.truncates (with_bytes tree node (resized 0)) tree in
    let done : Result (ℕ × Tree) Errno = Ok (node, cut) in
    let third : Result (ℕ × Tree) Errno = unless (is_socket tree node) errnos.EOPNOTSUPP done in
    let second : Result (ℕ × Tree) Errno = unless (is_directory tree node && (how.writes || how.creates)) errnos.EISDIR third in
    let passed = unless_ok (how.creates && how.excludes) errnos.EEXIST second (number, after) at in
    let passed_dir = unless_ok (is_directory tree node && (how.writes || how.creates)) errnos.EISDIR third (number, after) passed.1 in
    let passed_sock = unless_ok (is_socket tree node) errnos.EOPNOTSUPP done (number, after) passed_dir.1 in
    let same : cut ≡ after = ap (λ (p : ℕ × Tree). p.1) (same_Ok (node, cut) (number, after) passed_sock.1) in
    subst IsTree same (elim (cases_Bool how.truncates) [
      | inl cuts ↦ subst IsTree (sym (cond-true how.truncates (with_bytes tree node (resized 0)) tree cuts)) (cut_keeps tree node (node_at tree node) is refl)
      | inr stays ↦ subst IsTree (sym (cond-false how.truncates (with_bytes tree node (resized 0)) tree stays)) is
    ])

open_keeps : (tree : Tree) (how : Opening) (led : Walked) (number : ℕ) (after : Tree) → IsTree tree → IsLed tree led → NamesEntry led → open_led tree how led ≡ Ok (number, after) → IsTree after
open_keeps tree how (walked.Node n) number after is there names at = there_keeps tree how n number after is at
open_keeps tree how (walked.Named parent name n slashed) number after is there names at = there_keeps tree how n number after is at
open_keeps tree how (walked.Free dir name slashed) number after is there names at =
    made_keeps tree dir name (File []) number after is there (names name refl) refl (unless_ok (not how.creates || slashed) errnos.ENOENT (make tree dir name (File [])) (number, after) at).1
open_keeps tree how (walked.Fail errno) number after is there names at = absurd (err-ok errno (number, after) at)

-- ---- a name that goes

empty_is : (tree : Tree) (number : ℕ) → is_empty tree number ≡ true → entries_at tree number ≡ []
empty_is tree number is = nil_from_length (entries_at tree number) (eqb-true (length (entries_at tree number)) 0 is)

-- a directory that goes isn't held
directory_not_held : (tree : Tree) (opened : ℕ → Bool) (number : ℕ) → is_directory tree number ≡ true → is_held tree opened number ≡ false
directory_not_held tree opened number dir =
    and_right (opened number) (not (is_directory tree number || is_socket tree number)) (not_from_true (is_directory tree number || is_socket tree number) (or_left (is_directory tree number) (is_socket tree number) dir))

-- nor is a socket's name
socket_not_held : (tree : Tree) (opened : ℕ → Bool) (number : ℕ) → is_socket tree number ≡ true → is_held tree opened number ≡ false
socket_not_held tree opened number is =
    and_right (opened number) (not (is_directory tree number || is_socket tree number)) (not_from_true (is_directory tree number || is_socket tree number) (or_right (is_directory tree number) (is_socket tree number) is))

-- the tree of an answer that tells a number too
told : {freed other : Option ℕ} {tree after : Tree} → ◌≡◌ {A = Result (Option ℕ × Tree) Errno} (Ok (freed, tree)) (Ok (other, after)) → tree ≡ after
told {freed} {other} {tree} {after} same = ap (λ (p : Option ℕ × Tree). p.1) (same_Ok (freed, tree) (other, after) same)

unlinks_keep : (tree : Tree) (opened : ℕ → Bool) (led : Walked) (freed : Option ℕ) (after : Tree) → IsTree tree → IsLed tree led → unlink_led tree opened led ≡ Ok (freed, after) → IsTree after
unlinks_keep tree opened (walked.Node n) freed after is there at = absurd (err-ok errnos.EPERM (freed, after) at)
unlinks_keep tree opened (walked.Named dir name number slashed) freed after is there at =
    let gone : Tree = unlink tree dir name number (is_held tree opened number) in
    let passed = unless_ok (is_directory tree number) errnos.EPERM (Ok (freed_by tree number, gone)) (freed, after) at in
    subst IsTree (told passed.1)
    (unlink_keeps tree dir name number (is_held tree opened number) is there.1 (λ d. absurd (both_ways (is_directory tree number) passed.0 d)) (socket_not_held tree opened number))
unlinks_keep tree opened (walked.Free dir name slashed) freed after is there at = absurd (err-ok errnos.ENOENT (freed, after) at)
unlinks_keep tree opened (walked.Fail errno) freed after is there at = absurd (err-ok errno (freed, after) at)

rmdirs_keep : (tree : Tree) (busy : ℕ → Bool) (led : Walked) (after : Tree) → IsTree tree → IsLed tree led → rmdir_led tree busy led ≡ Ok after → IsTree after
rmdirs_keep tree busy (walked.Node n) after is there at = absurd (err-ok errnos.EBUSY after at)
rmdirs_keep tree busy (walked.Named dir name number slashed) after is there at =
    let gone : Tree = unlink tree dir name number false in
    let third : Result Tree Errno = unless (busy number) errnos.EBUSY (Ok gone) in
    let second : Result Tree Errno = unless (not (is_empty tree number)) errnos.ENOTEMPTY third in
    let passed = unless_ok (not (is_directory tree number)) errnos.ENOTDIR second after at in
    let passed_empty = unless_ok (not (is_empty tree number)) errnos.ENOTEMPTY third after passed.1 in
    let passed_busy = unless_ok (busy number) errnos.EBUSY (Ok gone) after passed_empty.1 in
    subst IsTree (same_Ok gone after passed_busy.1) (unlink_keeps tree dir name number false is there.1 (λ _. (empty_is tree number (not-false (is_empty tree number) passed_empty.0), refl)) (λ _. refl))
rmdirs_keep tree busy (walked.Free dir name slashed) after is there at = absurd (err-ok errnos.ENOENT after at)
rmdirs_keep tree busy (walked.Fail errno) after is there at = absurd (err-ok errno after at)

-- ---- a further name

links_to_keep : (tree : Tree) (number : ℕ) (led : Walked) (after : Tree) → IsTree tree → is_in_use tree number ≡ true → is_directory tree number ≡ false → IsLed tree led → NamesEntry led → link_to tree number led ≡ Ok after → IsTree after
links_to_keep tree number (walked.Node n) after is used not_dir there names at = absurd (err-ok errnos.EEXIST after at)
links_to_keep tree number (walked.Named parent name n slashed) after is used not_dir there names at = absurd (err-ok errnos.EEXIST after at)
links_to_keep tree number (walked.Free dir name slashed) after is used not_dir there names at =
    link_keeps tree dir name number after is there.0 used not_dir (names name refl) there.1 (unless_ok slashed errnos.ENOENT (link tree dir name number) after at).1
links_to_keep tree number (walked.Fail errno) after is used not_dir there names at = absurd (err-ok errno after at)

links_keep : (tree : Tree) (old new : Walked) (after : Tree) → IsTree tree → IsLed tree old → IsLed tree new → NamesEntry new → link_from tree (node_led old) new ≡ Ok after → IsTree after
links_keep tree (walked.Node n) new after is there there_new names at =
    absurd (both_ways (is_directory tree n) (unless_ok (is_directory tree n) errnos.EPERM (link_to tree n new) after at).0 there)
links_keep tree (walked.Named dir name n slashed) new after is there there_new names at =
    let passed = unless_ok (is_directory tree n) errnos.EPERM (link_to tree n new) after at in
    links_to_keep tree n new after is (found_in_use tree dir name n is there.1) passed.0 there_new names passed.1
links_keep tree (walked.Free dir name slashed) new after is there there_new names at = absurd (err-ok errnos.ENOENT after at)
links_keep tree (walked.Fail errno) new after is there there_new names at = absurd (err-ok errno after at)

-- ---- renames

-- what doesn't go below itself
not_below : (tree : Tree) (number to : ℕ) → IsTree tree → is_directory tree to ≡ true → goes_below tree number to ≡ false → is_directory tree number ≡ true → (steps : ℕ) → climbed tree steps to ≢ number
not_below tree number to is at fine dir steps way =
    elim (and_cases (is_directory tree number) (is_at_or_above tree number to) fine) [
      | inl not_dir ↦ both_ways (is_directory tree number) not_dir dir
      | inr not_above ↦ both_ways (is_at_or_above tree number to) not_above ((above_decides tree number to is at).1 (steps, way))
    ]

onto_keeps : (tree : Tree) (opened busy : ℕ → Bool) (dir : ℕ) (name : List ℕ) (number to : ℕ) (new : List ℕ) (replaced : ℕ) (freed : Option ℕ) (after : Tree) → IsTree tree → found tree dir name ≡ Some number
    → (is_directory tree to ≡ true) × (found tree to new ≡ Some replaced) → goes_below tree number to ≡ false → rename_onto tree opened busy dir name number to new replaced ≡ Ok (freed, after) → IsTree after
onto_keeps tree opened busy dir name number to new replaced freed after is at there fine answered =
    let done : Tree = rename_over tree dir name number to new replaced (is_held tree opened replaced) in
    let fourth : Result (Option ℕ × Tree) Errno = unless (is_directory tree replaced && busy replaced) errnos.EBUSY (Ok (freed_by tree replaced, done)) in
    let third : Result (Option ℕ × Tree) Errno = unless (is_directory tree replaced && not (is_empty tree replaced)) errnos.ENOTEMPTY fourth in
    let second : Result (Option ℕ × Tree) Errno = unless (is_directory tree number && not (is_directory tree replaced)) errnos.ENOTDIR third in
    let first : Result (Option ℕ × Tree) Errno = unless (is_directory tree replaced && not (is_directory tree number)) errnos.EISDIR second in
    elim (cases_Bool (eqb number replaced)) [
      | inl one ↦ subst IsTree (told (sym (cond-true (eqb number replaced) (Ok (None, tree)) first one) ∙ answered)) is
      | inr two ↦
          let p1 = unless_ok (is_directory tree replaced && not (is_directory tree number)) errnos.EISDIR second (freed, after) (sym (cond-false (eqb number replaced) (Ok (None, tree)) first two) ∙ answered) in
          let p2 = unless_ok (is_directory tree number && not (is_directory tree replaced)) errnos.ENOTDIR third (freed, after) p1.1 in
          let p3 = unless_ok (is_directory tree replaced && not (is_empty tree replaced)) errnos.ENOTEMPTY fourth (freed, after) p2.1 in
          let p4 = unless_ok (is_directory tree replaced && busy replaced) errnos.EBUSY (Ok (freed_by tree replaced, done)) (freed, after) p3.1 in
          let empty : is_directory tree replaced ≡ true → (entries_at tree replaced ≡ []) × (is_held tree opened replaced ≡ false) = λ d. (
            empty_is tree replaced (elim (and_cases (is_directory tree replaced) (not (is_empty tree replaced)) p3.0) [
              | inl not_dir ↦ absurd (both_ways (is_directory tree replaced) not_dir d)
              | inr full ↦ not-false (is_empty tree replaced) full
            ]),
            directory_not_held tree opened replaced d,
          ) in
          subst IsTree (told p4.1)
          (rename_over_keeps tree dir name number to new replaced (is_held tree opened replaced) is at there.1 (eqb-false number replaced two) empty (socket_not_held tree opened replaced) (not_below tree number to is there.0 fine))
    ]

away_keeps : (tree : Tree) (dir : ℕ) (name : List ℕ) (number to : ℕ) (new : List ℕ) (slashed : Bool) (freed : Option ℕ) (after : Tree) → IsTree tree → found tree dir name ≡ Some number
    → (is_directory tree to ≡ true) × (found tree to new ≡ None) → IsEntryName new → goes_below tree number to ≡ false → rename_away tree dir name number to new slashed ≡ Ok (freed, after) → IsTree after
away_keeps tree dir name number to new slashed freed after is at there valid fine answered =
    let done : Tree = rename_to tree dir name number to new in
    let second : Result (Option ℕ × Tree) Errno = unless (not (eqb dir to) && not (takes_entry tree to 0)) errnos.ENOSPC (Ok (None, done)) in
    let p1 = unless_ok (slashed && not (is_directory tree number)) errnos.ENOTDIR second (freed, after) answered in
    let p2 = unless_ok (not (eqb dir to) && not (takes_entry tree to 0)) errnos.ENOSPC (Ok (None, done)) (freed, after) p1.1 in
    let takes : dir ≢ to → takes_entry tree to 0 ≡ true = λ apart.
    elim (and_cases (not (eqb dir to)) (not (takes_entry tree to 0)) p2.0) [
      | inl same ↦ absurd (apart (eqb-true dir to (not-false (eqb dir to) same)))
      | inr room ↦ not-false (takes_entry tree to 0) room
    ] in
    subst IsTree (told p2.1) (rename_to_keeps tree dir name number to new is at there.0 there.1 valid takes (not_below tree number to is there.0 fine))

named_keeps : (tree : Tree) (opened busy : ℕ → Bool) (dir : ℕ) (name : List ℕ) (number : ℕ) (led : Walked) (freed : Option ℕ) (after : Tree) → IsTree tree → found tree dir name ≡ Some number → IsLed tree led → NamesEntry led
    → rename_named tree opened busy dir name number led ≡ Ok (freed, after) → IsTree after
named_keeps tree opened busy dir name number (walked.Node n) freed after is at there names answered = absurd (err-ok errnos.EBUSY (freed, after) answered)
named_keeps tree opened busy dir name number (walked.Named to new replaced slashed) freed after is at there names answered =
    let passed = unless_ok (goes_below tree number to) errnos.EINVAL (rename_onto tree opened busy dir name number to new replaced) (freed, after) answered in
    onto_keeps tree opened busy dir name number to new replaced freed after is at (there.0, there.1) passed.0 passed.1
named_keeps tree opened busy dir name number (walked.Free to new slashed) freed after is at there names answered =
    let passed = unless_ok (goes_below tree number to) errnos.EINVAL (rename_away tree dir name number to new slashed) (freed, after) answered in
    away_keeps tree dir name number to new slashed freed after is at there (names new refl) passed.0 passed.1
named_keeps tree opened busy dir name number (walked.Fail errno) freed after is at there names answered = absurd (err-ok errno (freed, after) answered)

root_stays_there : (led : Walked) (freed : Option ℕ) (after : Tree) → rename_root led ≡ Ok (freed, after) → ⊥
root_stays_there (walked.Node n) freed after at = err-ok errnos.EBUSY (freed, after) at
root_stays_there (walked.Named dir name n slashed) freed after at = err-ok errnos.EBUSY (freed, after) at
root_stays_there (walked.Free dir name slashed) freed after at = err-ok errnos.EBUSY (freed, after) at
root_stays_there (walked.Fail errno) freed after at = err-ok errno (freed, after) at

renames_keep : (tree : Tree) (opened busy : ℕ → Bool) (old new : Walked) (freed : Option ℕ) (after : Tree) → IsTree tree → IsLed tree old → IsLed tree new → NamesEntry new → rename_led tree opened busy old new ≡ Ok (freed, after) → IsTree after
renames_keep tree opened busy (walked.Node n) new freed after is there there_new names at = absurd (root_stays_there new freed after at)
renames_keep tree opened busy (walked.Named dir name number slashed) new freed after is there there_new names at = named_keeps tree opened busy dir name number new freed after is there.1 there_new names at
renames_keep tree opened busy (walked.Free dir name slashed) new freed after is there there_new names at = absurd (err-ok errnos.ENOENT (freed, after) at)
renames_keep tree opened busy (walked.Fail errno) new freed after is there there_new names at = absurd (err-ok errno (freed, after) at)

-- ---- the calls

-- a path that the argument check passes, of bytes that are no zero
abbrev IsFine : List ℕ → Type 0
IsFine path = (path_fault path ≡ None) × All (λ byte. (0 < byte) × (byte < 2 ^ 8)) path

names_of_path : (tree : Tree) (cwd : ℕ) (path : List ℕ) → IsFine path → NamesEntry (resolve tree cwd path)
names_of_path tree cwd path fine name is = last_is_entry_name tree cwd path name fine.0 fine.1 is

pub open_path_keeps : (tree : Tree) (cwd : ℕ) (path : List ℕ) (how : Opening) (number : ℕ) (after : Tree) → IsTree tree → is_directory tree cwd ≡ true → IsFine path
    → open_path tree cwd path how ≡ Ok (number, after) → IsTree after
open_path_keeps tree cwd path how number after is at fine answered = open_keeps tree how (resolve tree cwd path) number after is (path_led tree cwd path is at) (names_of_path tree cwd path fine) answered

pub mkdir_path_keeps : (tree : Tree) (cwd : ℕ) (path : List ℕ) (number : ℕ) (after : Tree) → IsTree tree → is_directory tree cwd ≡ true → IsFine path → mkdir_path tree cwd path ≡ Ok (number, after) → IsTree after
mkdir_path_keeps tree cwd path number after is at fine answered = mkdir_keeps tree (resolve tree cwd path) number after is (path_led tree cwd path is at) (names_of_path tree cwd path fine) answered

pub bind_path_keeps : (tree : Tree) (cwd : ℕ) (path : List ℕ) (number : ℕ) (after : Tree) → IsTree tree → is_directory tree cwd ≡ true → IsFine path → bind_path tree cwd path ≡ Ok (number, after) → IsTree after
bind_path_keeps tree cwd path number after is at fine answered = bind_keeps tree (resolve tree cwd path) number after is (path_led tree cwd path is at) (names_of_path tree cwd path fine) answered

pub mkfifo_path_keeps : (tree : Tree) (cwd : ℕ) (path : List ℕ) (number : ℕ) (after : Tree) → IsTree tree → is_directory tree cwd ≡ true → IsFine path → mkfifo_path tree cwd path ≡ Ok (number, after) → IsTree after
mkfifo_path_keeps tree cwd path number after is at fine answered = mkfifo_keeps tree (resolve tree cwd path) number after is (path_led tree cwd path is at) (names_of_path tree cwd path fine) answered

pub rmdir_path_keeps : (tree : Tree) (cwd : ℕ) (path : List ℕ) (busy : ℕ → Bool) (after : Tree) → IsTree tree → is_directory tree cwd ≡ true → rmdir_path tree cwd path busy ≡ Ok after → IsTree after
rmdir_path_keeps tree cwd path busy after is at answered =
    let led : Walked = resolve tree cwd path in
    let second : Result Tree Errno = unless (ends_in parent_name path) errnos.ENOTEMPTY (rmdir_led tree busy led) in
    let p1 = unless_ok (ends_in own_name path) errnos.EINVAL second after answered in
    let p2 = unless_ok (ends_in parent_name path) errnos.ENOTEMPTY (rmdir_led tree busy led) after p1.1 in
    rmdirs_keep tree busy led after is (path_led tree cwd path is at) p2.1

pub unlink_path_keeps : (tree : Tree) (cwd : ℕ) (path : List ℕ) (opened : ℕ → Bool) (freed : Option ℕ) (after : Tree) → IsTree tree → is_directory tree cwd ≡ true → unlink_path tree cwd path opened ≡ Ok (freed, after) → IsTree after
unlink_path_keeps tree cwd path opened freed after is at answered = unlinks_keep tree opened (resolve tree cwd path) freed after is (path_led tree cwd path is at) answered

pub link_path_keeps : (tree : Tree) (cwd : ℕ) (old new : List ℕ) (after : Tree) → IsTree tree → is_directory tree cwd ≡ true → IsFine new → link_path tree cwd old new ≡ Ok after → IsTree after
link_path_keeps tree cwd old new after is at fine answered =
    links_keep tree (resolve tree cwd old) (resolve tree cwd new) after is (path_led tree cwd old is at) (path_led tree cwd new is at) (names_of_path tree cwd new fine) answered

pub rename_path_keeps : (tree : Tree) (cwd : ℕ) (old new : List ℕ) (opened busy : ℕ → Bool) (freed : Option ℕ) (after : Tree) → IsTree tree → is_directory tree cwd ≡ true → IsFine new
    → rename_path tree cwd old new opened busy ≡ Ok (freed, after) → IsTree after
rename_path_keeps tree cwd old new opened busy freed after is at fine answered =
    renames_keep tree opened busy (resolve tree cwd old) (resolve tree cwd new) freed after is (path_led tree cwd old is at) (path_led tree cwd new is at) (names_of_path tree cwd new fine) answered
