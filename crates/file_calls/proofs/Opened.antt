-- An open leaves the last name of its path cached, with the node that it opened.
use Rattle.std.proofs.Common.{◌≡◌, ℕ, ◌+◌, ◌<◌, ◌==◌, ℤ, pos, Bool, true, false, cond, not, ne_eqb, ◌&&◌, ◌||◌, List, [], ◌∷◌, ◌++◌, length, slice_index_or, unwrap_or, Option, None, Some, IsSome, Result, Ok, Err, refl, ap, sym, subst, ◌∙◌, arith, inl, inr}
use Rattle.std.specs.Option.{option_and_then, option_map_or}
use Rattle.std.proofs.lemmas.List.{get_or-set_same}
use Rattle.std.proofs.lemmas.Bool.{cases_Bool, cond-true, cond-false, false≢true}
use Rattle.kabi_types.specs.declared.scripts.Script.{Script}
use Rattle.kabi_types.specs.declared.errnos.Errno.{Errno}
use Rattle.kabi_types.specs.declared.errnos.Errno.TheVariants.{EEXIST, EISDIR, EMFILE, ENOENT, EOPNOTSUPP}
use Rattle.kabi_types.specs.declared.replies.Reply.{Reply}
use Rattle.kabi_types.specs.declared.replies.Reply.TheVariants.{Fail, Val}
use Rattle.lru_index.specs.NameKeys.{name_key}
use Rattle.machine_laws.proofs.FifoPlaces.{fifo_at_is}
use Rattle.machine_laws.proofs.Places.{there_within}
use Rattle.memfs_ops.specs.FileTree.{KeepsLast, TreeView}
use Rattle.memfs_ops.proofs.OpenLemmas.{cut_is}
use Rattle.name_cache.specs.Names.{name_slot}
use Rattle.vnode_cache.specs.Nodes.{node_slot}
use Rattle.posix_defs.specs.Answer.{Answer, Done, replied}
use Rattle.posix_defs.specs.Calls.OnFiles.{description_for, description_on, end_awaits, end_opened, fifo_at, fifo_fault, fifo_pipe, fifo_place, fifo_there, fifo_waits, open_at, open_by, open_end, open_fifo, open_node, opened_node_as, opening_of, with_fifo}
use Rattle.posix_defs.specs.Calls.Writing.{did_part}
use Rattle.posix_defs.specs.FileBytes.{resized}
use Rattle.posix_defs.specs.Files.Descriptions.{Description, Descriptions, OnPipe, access_of, has_flag, may_write, o_cloexec}
use Rattle.posix_defs.specs.Files.Descriptors.{lowest_free}
use Rattle.posix_defs.specs.Files.State.{Files, beside, descriptors_of, node_of, nodes_among, opened_as, pipe_at, with_tree}
use Rattle.posix_defs.specs.Pipe.{Pipe, fifo_of, new_pipe, unopened, with_end}
use Rattle.posix_defs.specs.PathCalls.{Opening, is_fifo, is_socket, open_led, open_path, open_there, unless}
use Rattle.posix_defs.specs.Paths.{IsLed}
use Rattle.posix_defs.specs.Plain.{Plain, with_files}
use Rattle.posix_defs.specs.Process.{directory_of}
use Rattle.posix_defs.specs.Reaching.{IsLeft, last_of}
use Rattle.posix_defs.specs.Tree.{File, Tree, found, is_directory}
use Rattle.posix_defs.specs.TreeChanges.{make, with_bytes}
use Rattle.posix_defs.specs.World.{is_in}
use Rattle.posix_defs.specs.declared.walked.Walked.{Walked}
use Rattle.posix_defs.specs.declared.walked.Walked.TheVariants as walked
use Rattle.tree_laws.proofs.FoundAfter.{made_found}
use Rattle.tree_laws.proofs.OtherNodes.{resize_names}
use Rattle.tree_laws.proofs.TreeKeeps.{err-ok, same_Ok}
use Rattle.proc_files.specs.Holders.{openings, times}
use Rattle.proc_files.specs.Opening.{LeadsTo}
use Rattle.proc_files.proofs.Openings.{times_beside, times_here}
use Rattle.store_objects.specs.Trees.{kept_by}
use Rattle.store_objects.proofs.Leaving.{files_in}
use Rattle.path_calls.proofs.NamesKept.{node_kept, slot_kept}

-- ---- what an open that told a number has opened

-- A tree led to a node, which is that of the files now, and which a description holds.
pub record HasOpened (plain : Plain) (pid : ℕ) (path : List ℕ) (flags : ℤ) (files : Files) : Type 0 where
  pub node : ℕ
  pub next : Tree
  pub led : open_path plain.files.tree (directory_of plain.table pid) path (opening_of flags) ≡ Ok (node, next)
  pub tree : files.tree ≡ next
  pub opens : 0 < openings files node

-- what a call said, if it is over
abbrev said_by : Answer → Option Reply
said_by (Done reply next) = Some reply
said_by _ = None

never : {X : Type 0} (errno : Errno) (number : ℕ) → Some (Fail errno) ≡ Some (Val (pos number)) → X
never errno number e = cc

not_over : {X : Type 0} (number : ℕ) → None ≡ Some (Val (pos number)) → X
not_over number e = cc

-- a description behind all others opens its node
last_opens : (files : Files) (list : Descriptions) (made : Description) (node : ℕ) → node_of files made.target ≡ Some node → 0 < times node (nodes_among files (list ++ Some made ∷ []))
last_opens files [] made node is =
    let one : times node (beside (node_of files made.target) []) ≡ times node [] + 1 = ap (λ o. times node (beside o [])) is ∙ times_here node [] in
    omega (arith, one)
last_opens files (None ∷ list) made node is = last_opens files list made node is
last_opens files (Some first ∷ list) made node is =
    let rest = last_opens files list made node is in
    let all = times_beside node (node_of files first.target) (nodes_among files (list ++ Some made ∷ [])) in
    omega (arith, rest, all)

-- so the node that was opened is held by a description
opens_it : (files : Files) (pid fd node : ℕ) (next : Tree) (flags : ℤ) → 0 < openings (opened_as (with_tree files next) pid fd (has_flag flags o_cloexec) (description_for node flags)) node
opens_it files pid fd node next flags =
    last_opens (opened_as (with_tree files next) pid fd (has_flag flags o_cloexec) (description_for node flags)) files.descriptions (description_for node flags) node refl

-- ---- an end of a FIFO

-- the node of its pipe stays
end_node : (pipe : Pipe) (writing : Bool) → (with_end pipe writing).node ≡ pipe.node
end_node pipe true = refl
end_node pipe false = refl

node_is : (number node : ℕ) → node ≡ number → 0 < number → cond (node == 0) None (Some node) ≡ Some number
node_is number node is some = ap (λ n. cond (n == 0) None (Some n)) is ∙ ap (λ b. cond b None (Some number)) (ne_eqb number 0 (λ none. (omega (arith, none, some))))

at_length : {X : Type 0} (xs : List (Option X)) (x : Option X) → slice_index_or (xs ++ x ∷ []) (length xs) None ≡ x
at_length [] x = refl
at_length (first ∷ xs) x = at_length xs x

-- its files have the tree that they had, and its node is held
pub record OpensFifo (files now : Files) (number : ℕ) : Type 0 where
  pub tree : now.tree ≡ files.tree
  pub opens : 0 < openings now number

end_opens : (files : Files) (pid : ℕ) (flags : ℤ) (fd number : ℕ) → 0 < number → OpensFifo files (end_opened files pid flags fd number) number
end_opens files pid flags fd number some = by_place (fifo_at files number) refl
  where
    writing : Bool
    writing = may_write (access_of flags)

    by_place : (at : Option ℕ) → fifo_at files number ≡ at
        → OpensFifo files (opened_as (with_fifo files at (with_end (fifo_there files number at) writing)) pid fd (has_flag flags o_cloexec) (description_on (OnPipe (fifo_place files at)) flags)) number
    by_place None is =
        let pipe = with_end (unopened number) writing in
        let now = opened_as (with_fifo files None pipe) pid fd (has_flag flags o_cloexec) (description_on (OnPipe (length files.pipes)) flags) in
        record {
          tree = refl;
          opens = last_opens now files.descriptions (description_on (OnPipe (length files.pipes)) flags) number
              (ap (option_and_then fifo_of) (at_length files.pipes (Some pipe)) ∙ node_is number pipe.node (end_node (unopened number) writing) some);
        }
    by_place (Some place) is =
        let fifo = fifo_at_is files number place is in
        let pipe = with_end (pipe_at files place) writing in
        let now = opened_as (with_fifo files (Some place) pipe) pid fd (has_flag flags o_cloexec) (description_on (OnPipe place) flags) in
        record {
          tree = refl;
          opens = last_opens now files.descriptions (description_on (OnPipe place) flags) number
              (ap (option_and_then fifo_of) (get_or-set_same files.pipes place (Some pipe) None (there_within files.pipes place fifo.pipe fifo.is))
              ∙ node_is number pipe.node (end_node (pipe_at files place) writing ∙ ap (λ (o : Option Pipe). (unwrap_or o new_pipe).node) fifo.is ∙ fifo.of) some);
        }

-- ---- what was opened

pub has_opened : (script : Script) (plain : Plain) (pid : ℕ) (path : List ℕ) (flags : ℤ) (number : ℕ) (files : Files)
    → ((node : ℕ) (next : Tree) → open_path plain.files.tree (directory_of plain.table pid) path (opening_of flags) ≡ Ok (node, next) → LeadsTo plain.files.tree next node (access_of flags))
    → open_by script plain pid path flags None ≡ replied script (with_files plain files) pid (Val (pos number)) → HasOpened plain pid path flags files
has_opened script plain pid path flags number files leads is = by_free (lowest_free (descriptors_of plain.files pid)) is
  where
    by_wait : (fd node : ℕ) (next : Tree) → open_path plain.files.tree (directory_of plain.table pid) path (opening_of flags) ≡ Ok (node, next) → is_fifo next node ≡ true → (b : Bool)
        → cond b (did_part (with_files plain (end_awaits plain.files pid flags fd node)) pid 1) (replied script (with_files plain (end_opened plain.files pid flags fd node)) pid (Val (pos fd)))
        ≡ replied script (with_files plain files) pid (Val (pos number)) → HasOpened plain pid path flags files
    by_wait fd node next led fifo true e = not_over number (ap said_by e)
    by_wait fd node next led fifo false e =
        let now : end_opened plain.files pid flags fd node ≡ files = ap (files_in plain.files) e in
        let same = (leads node next led).fifo fifo in
        let opened = end_opens plain.files pid flags fd node same.2 in
        record {
          node = node;
          next = next;
          led = led;
          tree = ap (λ (f : Files). f.tree) (sym now) ∙ opened.tree ∙ sym same.0;
          opens = subst (λ (f : Files). 0 < openings f node) now opened.opens;
        }

    by_fault : (fd node : ℕ) (next : Tree) → open_path plain.files.tree (directory_of plain.table pid) path (opening_of flags) ≡ Ok (node, next) → is_fifo next node ≡ true → (fault : Option Errno) → open_end script plain pid flags fd node fault ≡ replied script (with_files plain files) pid (Val (pos number))
        → HasOpened plain pid path flags files
    by_fault fd node next led fifo (Some errno) e = never errno number (ap said_by e)
    by_fault fd node next led fifo None e = by_wait fd node next led fifo (fifo_waits (fifo_pipe plain.files node) flags) e

    by_kind : (fd node : ℕ) (next : Tree) → open_path plain.files.tree (directory_of plain.table pid) path (opening_of flags) ≡ Ok (node, next) → (b : Bool) → is_fifo next node ≡ b → cond b (open_fifo script plain pid flags fd node) (open_node script plain pid flags fd node next) ≡ replied script (with_files plain files) pid (Val (pos number))
        → HasOpened plain pid path flags files
    by_kind fd node next led true fifo e = by_fault fd node next led fifo (fifo_fault (fifo_pipe plain.files node) flags) e
    by_kind fd node next led false other e =
        let now : opened_as (with_tree plain.files next) pid fd (has_flag flags o_cloexec) (description_for node flags) ≡ files = ap (files_in plain.files) e in
        record {
          node = node;
          next = next;
          led = led;
          tree = ap (λ (f : Files). f.tree) (sym now);
          opens = subst (λ (f : Files). 0 < openings f node) now (opens_it plain.files pid fd node next flags);
        }

    by_led : (fd : ℕ) (o : Result (ℕ × Tree) Errno) → open_path plain.files.tree (directory_of plain.table pid) path (opening_of flags) ≡ o
        → opened_node_as script plain pid flags fd o ≡ replied script (with_files plain files) pid (Val (pos number)) → HasOpened plain pid path flags files
    by_led fd (Ok (node, next)) led e = by_kind fd node next led (is_fifo next node) refl e
    by_led fd (Err errno) led e = never errno number (ap said_by e)

    by_free : (o : Option ℕ) → open_at script plain pid path flags o ≡ replied script (with_files plain files) pid (Val (pos number)) → HasOpened plain pid path flags files
    by_free None e = never EMFILE number (ap said_by e)
    by_free (Some fd) e = by_led fd (open_path plain.files.tree (directory_of plain.table pid) path (opening_of flags)) refl e

-- ---- the last name of its path leads to that node

-- what passed a test
passed : {A : Type 0} (bad : Bool) (errno : Errno) (further : Result A Errno) (x : A) → unless bad errno further ≡ Ok x → further ≡ Ok x
passed bad errno further x at =
    elim (cases_Bool bad) [
      | inl is ↦ absurd (err-ok errno x (sym (cond-true bad (Err errno) further is) ∙ at))
      | inr fine ↦ sym (cond-false bad (Err errno) further fine) ∙ at
    ]

-- a name that leads to a node in the next tree leads to the one that was opened
abbrev LeadsThere : Tree → Option (ℕ × List ℕ) → ℕ → Type 0
LeadsThere next None node = Unit {0}
LeadsThere next (Some there) node = (number : ℕ) → found next there.0 there.1 ≡ Some number → node ≡ number

same_some : {X : Type 0} (x y : X) → Some x ≡ Some y → x ≡ y
same_some x y e = cc

cut_found : (tree : Tree) (number : ℕ) (asked : Bool) (dir : ℕ) (name : List ℕ) → found (cond asked (with_bytes tree number (resized 0)) tree) dir name ≡ found tree dir name
cut_found tree number true dir name = resize_names tree number 0 (with_bytes tree number (resized 0)) (cut_is tree number) dir name
cut_found tree number false dir name = refl

there_leads : (tree : Tree) (how : Opening) (dir : ℕ) (name : List ℕ) (number node : ℕ) (next : Tree) → found tree dir name ≡ Some number → open_there tree how number ≡ Ok (node, next)
    → LeadsThere next (Some (dir, name)) node
there_leads tree how dir name number node next named at =
    let cut : Tree = cond how.truncates (with_bytes tree number (resized 0)) tree in
    let done : Result (ℕ × Tree) Errno = Ok (number, cut) in
    let third : Result (ℕ × Tree) Errno = unless (is_socket tree number) EOPNOTSUPP done in
    let second : Result (ℕ × Tree) Errno = unless (is_directory tree number && (how.writes || how.creates)) EISDIR third in
    let one = passed (how.creates && how.excludes) EEXIST second (node, next) at in
    let two = passed (is_directory tree number && (how.writes || how.creates)) EISDIR third (node, next) one in
    let three = passed (is_socket tree number) EOPNOTSUPP done (node, next) two in
    let same = same_Ok (number, cut) (node, next) three in
    subst (λ (p : ℕ × Tree). LeadsThere p.1 (Some (dir, name)) p.0) same
    (λ other is. same_some number other (sym named ∙ sym (cut_found tree number how.truncates dir name) ∙ is))

pub leads_there : (tree : Tree) (how : Opening) (led : Walked) (node : ℕ) (next : Tree) → IsLed tree led → open_led tree how led ≡ Ok (node, next) → LeadsThere next (last_of led) node
leads_there tree how (walked.Node number) node next is at = tt
leads_there tree how (walked.Named dir name number slashed) node next is at = there_leads tree how dir name number node next is.1 at
leads_there tree how (walked.Free dir name slashed) node next is at = λ other named.
    let makes = passed (not how.creates || slashed) ENOENT (make tree dir name (File [])) (node, next) at in
    same_some node other (sym (made_found tree dir name (File []) node next is.0 is.1 refl makes).0 ∙ named)
leads_there tree how (walked.Fail errno) node next is at = tt

-- ---- what is left

some_is : {X : Type 0} (o : Option X) → IsSome o → (x : X) × (o ≡ Some x)
some_is None some = cc
some_is (Some x) some = (x, refl)

-- the last name is kept with the node
pub open_left : (fs : TreeView) (led : Walked) (node : ℕ) (next : Tree) → KeepsLast fs led → LeadsThere next (last_of led) node → IsSome (node_slot fs.vnodes node) → IsLeft next (kept_by fs) (last_of led)
open_left fs (walked.Node number) node next kept leads there = tt
open_left fs (walked.Named dir name number slashed) node next kept leads there =
    let at = some_is (name_slot fs.names (name_key dir name)) kept in
    (slot_kept fs.names.pairs dir name at.0 at.1, λ other named. subst (λ n. is_in n (kept_by fs).vnodes ≡ true) (leads other named) (node_kept fs node there))
open_left fs (walked.Free dir name slashed) node next kept leads there =
    let at = some_is (name_slot fs.names (name_key dir name)) kept in
    (slot_kept fs.names.pairs dir name at.0 at.1, λ other named. subst (λ n. is_in n (kept_by fs).vnodes ≡ true) (leads other named) (node_kept fs node there))
open_left fs (walked.Fail errno) node next kept leads there = tt

-- ---- a way that is known

-- of an open that neither makes nor empties a file
pub known_open : (creates truncates : Bool) (path : List ℕ) (knows : List ℕ → Bool) → option_map_or knows (cond (creates || truncates) None (Some path)) false ≡ true
    → (truncates ≡ false) × (knows path ≡ true)
known_open true truncates path knows known = absurd (false≢true known)
known_open false true path knows known = absurd (false≢true known)
known_open false false path knows known = (refl, known)
