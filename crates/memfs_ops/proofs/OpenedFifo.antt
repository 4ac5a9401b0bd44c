-- A FIFO that an open leads to was there before, has a name, and the tree stays as it was: O_TRUNC takes nothing from it.
use Rattle.std.proofs.Common.{◌≡◌, ℕ, ◌<◌, Bool, true, false, not, ◌&&◌, ◌||◌, cond, inl, inr, List, [], Option, Some, None, Result, Ok, Err, refl, sym, ap, subst, ◌∙◌, arith}
use Rattle.std.specs.Option.{option_map}
use Rattle.std.proofs.lemmas.Bool.{cases_Bool, cond-true, cond-false, false≢true}
use Rattle.kabi_types.specs.declared.errnos.Errno.{Errno}
use Rattle.kabi_types.specs.declared.errnos.Errno.TheVariants as errnos
use Rattle.posix_defs.specs.FileBytes.{resized}
use Rattle.posix_defs.specs.IsTree.{IsTree}
use Rattle.posix_defs.specs.PathCalls.{Opening, is_fifo, is_fifo_kind, is_socket, kind_in, kind_of_content, open_led, open_there, unless}
use Rattle.posix_defs.specs.Paths.{IsLed}
use Rattle.posix_defs.specs.Tree.{Content, File, Directory, SocketName, Fifo, Node, Tree, node_at, is_directory, is_directory_in, is_directory_content, links_at, found}
use Rattle.posix_defs.specs.TreeChanges.{make, with_bytes, with_bytes_in}
use Rattle.posix_defs.specs.declared.walked.Walked.{Walked}
use Rattle.posix_defs.specs.declared.walked.Walked.TheVariants as walked
use Rattle.posix_defs.proofs.TreeNodes.{seen_same}
use Rattle.tree_laws.proofs.FoundAfter.{made_found}
use Rattle.tree_laws.proofs.TreeKeeps.{found_named, same_Ok, err-ok}
use Rattle.memfs_ops.proofs.OpenLemmas.{no_bytes_stay}

-- what passed a test
passed : {A : Type 0} (bad : Bool) (errno : Errno) (further : Result A Errno) (x : A) → unless bad errno further ≡ Ok x → further ≡ Ok x
passed bad errno further x at = elim (cases_Bool bad) [
  | inl is ↦ absurd (err-ok errno x (sym (cond-true bad (Err errno) further is) ∙ at))
  | inr fine ↦ sym (cond-false bad (Err errno) further fine) ∙ at
]

-- a FIFO is no directory
fifo_content : (content : Content) → is_fifo_kind (kind_of_content content) ≡ true → is_directory_content content ≡ false
fifo_content (File bytes) is = absurd (false≢true is)
fifo_content (Directory parent entries) is = absurd (false≢true is)
fifo_content SocketName is = refl
fifo_content Fifo is = refl

fifo_there : (there : Option Node) → is_fifo_kind (kind_in there) ≡ true → is_directory_in there ≡ false
fifo_there None is = refl
fifo_there (Some node) is = fifo_content node.content is

-- the bytes of a node change, and not its kind
same_kind : (content : Content) → is_fifo_kind (kind_of_content (with_bytes_in (resized 0) content)) ≡ is_fifo_kind (kind_of_content content)
same_kind (File bytes) = refl
same_kind (Directory parent entries) = refl
same_kind SocketName = refl
same_kind Fifo = refl

same_there : (there : Option Node) → is_fifo_kind (kind_in (option_map {T = Node} (λ node. record node { content = with_bytes_in (resized 0) node.content }) there)) ≡ is_fifo_kind (kind_in there)
same_there None = refl
same_there (Some node) = same_kind node.content

cut_kind : (tree : Tree) (number : ℕ) → is_fifo (with_bytes tree number (resized 0)) number ≡ is_fifo tree number
cut_kind tree number = seen_same (λ there. is_fifo_kind (kind_in there)) tree number
    (option_map {T = Node} (λ node. record node { content = with_bytes_in (resized 0) node.content }) (node_at tree number))
    (same_there (node_at tree number)) number

-- a test that holds makes the test of all that is no file hold
no_file : (dir socket : Bool) → not (dir || socket || true) ≡ false
no_file true socket = refl
no_file false true = refl
no_file false false = refl

cut_none : (tree : Tree) (number : ℕ) → is_fifo tree number ≡ true → with_bytes tree number (resized 0) ≡ tree
cut_none tree number is = no_bytes_stay tree number
    (ap (λ (fifo : Bool). not (is_directory tree number || is_socket tree number || fifo)) is ∙ no_file (is_directory tree number) (is_socket tree number))

-- where a node that is there is opened and is a FIFO then, it was one, and no byte went
was_fifo : (tree : Tree) (node : ℕ) (cuts : Bool) → is_fifo (cond cuts (with_bytes tree node (resized 0)) tree) node ≡ true
    → (is_fifo tree node ≡ true) × (cond cuts (with_bytes tree node (resized 0)) tree ≡ tree)
was_fifo tree node true is = let before = sym (cut_kind tree node) ∙ is in (before, cut_none tree node before)
was_fifo tree node false is = (is, refl)

there_was : (tree : Tree) (how : Opening) (node number : ℕ) (after : Tree) → open_there tree how node ≡ Ok (number, after) → is_fifo after number ≡ true
    → (number ≡ node) × (is_fifo tree node ≡ true) × (after ≡ tree)
there_was tree how node number after at is =
    let cut : Tree = cond how.truncates (with_bytes tree node (resized 0)) tree in
    let done : Result (ℕ × Tree) Errno = Ok (node, cut) in
    let third : Result (ℕ × Tree) Errno = unless (is_socket tree node) errnos.EOPNOTSUPP done in
    let second : Result (ℕ × Tree) Errno = unless (is_directory tree node && (how.writes || how.creates)) errnos.EISDIR third in
    let past_there = passed (how.creates && how.excludes) errnos.EEXIST second (number, after) at in
    let past_dir = passed (is_directory tree node && (how.writes || how.creates)) errnos.EISDIR third (number, after) past_there in
    let both = same_Ok (node, cut) (number, after) (passed (is_socket tree node) errnos.EOPNOTSUPP done (number, after) past_dir) in
    let one : node ≡ number = ap (λ (p : ℕ × Tree). p.0) both in
    let same : cut ≡ after = ap (λ (p : ℕ × Tree). p.1) both in
    let was = was_fifo tree node how.truncates (ap (λ (n : ℕ). is_fifo cut n) one ∙ ap (λ (t : Tree). is_fifo t number) same ∙ is) in
    (sym one, was.0, sym same ∙ was.1)

-- a node of a name has a link
some_link : (tree : Tree) (dir : ℕ) (name : List ℕ) (number : ℕ) → IsTree tree → found tree dir name ≡ Some number → 0 < links_at tree number
some_link tree dir name number is there = let named = found_named tree dir name number there in omega (arith, named, is.links number)

-- the tree stays, in which it is a FIFO and has a name
abbrev pub WasThere : Tree → ℕ → Tree → Type 0
WasThere tree number after = (after ≡ tree) × (is_fifo tree number ≡ true) × (0 < links_at tree number)

pub fifo_led : (tree : Tree) (how : Opening) (led : Walked) (number : ℕ) (after : Tree) → IsTree tree → IsLed tree led → open_led tree how led ≡ Ok (number, after) → is_fifo after number ≡ true
    → WasThere tree number after
fifo_led tree how (walked.Node node) number after is there at fifo =
    let was = there_was tree how node number after at fifo in
    absurd (false≢true (sym (fifo_there (node_at tree node) was.1) ∙ there))
fifo_led tree how (walked.Named parent name node slashed) number after is there at fifo =
    let was = there_was tree how node number after at fifo in
    subst (λ (n : ℕ). WasThere tree n after) (sym was.0) (was.2, was.1, some_link tree parent name node is there.1)
fifo_led tree how (walked.Free dir name slashed) number after is there at fifo =
    let made = passed (not how.creates || slashed) errnos.ENOENT (make tree dir name (File [])) (number, after) at in
    let node = (made_found tree dir name (File []) number after there.0 there.1 refl made).1 in
    absurd (false≢true (sym (ap (λ (o : Option Node). is_fifo_kind (kind_in o)) node) ∙ fifo))
fifo_led tree how (walked.Fail errno) number after is there at fifo = absurd (err-ok errno (number, after) at)
