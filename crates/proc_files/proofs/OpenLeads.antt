-- What an open leads to in the tree: a node that may be open so, beside which each node in use is of the kind that it was.
use Rattle.std.proofs.Common.{◌≡◌, ◌≢◌, ℕ, zero, suc, ◌<◌, ℤ, Bool, true, false, cond, not, ◌&&◌, ◌||◌, List, [], Option, Some, Result, Ok, Err, is_some, refl, ap, sym, subst, ◌∙◌, arith, inl, inr}
use Rattle.std.proofs.lemmas.Bool.{cases_Bool, cases_eq, cond-true, cond-false, false≢true}
use Rattle.kabi_types.specs.declared.errnos.Errno.{Errno}
use Rattle.kabi_types.specs.declared.errnos.Errno.TheVariants.{EEXIST, EISDIR, ENOENT, EOPNOTSUPP}
use Rattle.posix_defs.specs.Calls.OnFiles.{opening_of}
use Rattle.posix_defs.specs.FileBytes.{resized}
use Rattle.posix_defs.specs.Files.Descriptions.{Access, ReadOnly, ReadWrite, WriteOnly, access_of, may_write}
use Rattle.posix_defs.specs.IsTree.{IsTree}
use Rattle.posix_defs.specs.PathCalls.{Opening, is_fifo, is_fifo_kind, is_socket, is_socket_kind, kind_in, open_led, open_there, unless}
use Rattle.posix_defs.specs.Paths.{IsLed}
use Rattle.posix_defs.specs.Tree.{File, Node, Tree, is_directory, is_directory_in, is_in_use, with_node}
use Rattle.posix_defs.specs.TreeChanges.{entry_put, make, with_bytes, with_new}
use Rattle.posix_defs.specs.declared.walked.Walked.{Walked}
use Rattle.posix_defs.specs.declared.walked.Walked.TheVariants as walked
use Rattle.posix_defs.proofs.TreeNodes.{directory_in_use, free_is}
use Rattle.tree_laws.proofs.TreeFacts.{found_in_use}
use Rattle.tree_laws.proofs.TreeKeeps.{err-ok, made_is, same_Ok}
use Rattle.tree_laws.proofs.TreeSteps.{added, relisted}
use Rattle.memfs_ops.proofs.OpenedFifo.{fifo_led}
use Rattle.proc_files.specs.Opening.{LeadsTo}
use Rattle.proc_files.proofs.Made.{relisted_fifos}
use Rattle.proc_files.proofs.Written.{bytes_kinds}

-- the next tree, without what it says of FIFOs
record Leads (tree next : Tree) (node : ℕ) (access : Access) : Type 0 where
  pub used : (number : ℕ) → is_in_use tree number ≡ true → is_in_use next number ≡ true
  pub directories : (number : ℕ) → is_in_use tree number ≡ true → is_directory next number ≡ is_directory tree number
  pub sockets : (number : ℕ) → is_in_use tree number ≡ true → is_socket next number ≡ is_socket tree number
  pub fifos : (number : ℕ) → is_in_use tree number ≡ true → is_fifo next number ≡ is_fifo tree number
  pub there : is_in_use next node ≡ true
  pub unnamed : is_socket next node ≡ false
  pub reads : is_directory next node ≡ true → access ≡ ReadOnly

-- what passed a test
passed : {A : Type 0} (bad : Bool) (errno : Errno) (further : Result A Errno) (x : A) → unless bad errno further ≡ Ok x → (bad ≡ false) × (further ≡ Ok x)
passed bad errno further x at =
    elim (cases_Bool bad) [
      | inl is ↦ absurd (err-ok errno x (sym (cond-true bad (Err errno) further is) ∙ at))
      | inr fine ↦ (fine, sym (cond-false bad (Err errno) further fine) ∙ at)
    ]

-- a directory is open for reading alone
only_reads : (access : Access) (is_dir creates : Bool) → is_dir && (may_write access || creates) ≡ false → is_dir ≡ true → access ≡ ReadOnly
only_reads ReadOnly is_dir creates fine is = refl
only_reads WriteOnly is_dir creates fine is = absurd (false≢true (sym fine ∙ ap (λ b. b && true) is))
only_reads ReadWrite is_dir creates fine is = absurd (false≢true (sym fine ∙ ap (λ b. b && true) is))

-- ---- a node that is there

module _ (tree : Tree) (how : Opening) (access : Access) (writes : how.writes ≡ may_write access) (number : ℕ) (used : is_in_use tree number ≡ true) where
  cut_leads : (truncates : Bool) → is_socket tree number ≡ false → (is_directory tree number ≡ true → access ≡ ReadOnly)
      → Leads tree (cond truncates (with_bytes tree number (resized 0)) tree) number access
  cut_leads true unnamed reads =
      let kinds = bytes_kinds tree number (resized 0) in
      record {
        used = λ n is. kinds.used n ∙ is;
        directories = λ n is. kinds.directories n;
        sockets = λ n is. kinds.sockets n;
        fifos = λ n is. kinds.fifos n;
        there = kinds.used number ∙ used;
        unnamed = kinds.sockets number ∙ unnamed;
        reads = λ is. reads (sym (kinds.directories number) ∙ is);
      }
  cut_leads false unnamed reads =
      record { used = λ n is. is; directories = λ n is. refl; sockets = λ n is. refl; fifos = λ n is. refl; there = used; unnamed = unnamed; reads = reads }

  there_leads : (node : ℕ) (next : Tree) → open_there tree how number ≡ Ok (node, next) → Leads tree next node access
  there_leads node next at =
      let cut : Tree = cond how.truncates (with_bytes tree number (resized 0)) tree in
      let done : Result (ℕ × Tree) Errno = Ok (number, cut) in
      let third : Result (ℕ × Tree) Errno = unless (is_socket tree number) EOPNOTSUPP done in
      let second : Result (ℕ × Tree) Errno = unless (is_directory tree number && (how.writes || how.creates)) EISDIR third in
      let one = passed (how.creates && how.excludes) EEXIST second (node, next) at in
      let two = passed (is_directory tree number && (how.writes || how.creates)) EISDIR third (node, next) one.1 in
      let three = passed (is_socket tree number) EOPNOTSUPP done (node, next) two.1 in
      let same = same_Ok (number, cut) (node, next) three.1 in
      let fine : is_directory tree number && (may_write access || how.creates) ≡ false = subst (λ w. is_directory tree number && (w || how.creates) ≡ false) writes two.0 in
      subst (λ (p : ℕ × Tree). Leads tree p.1 p.0 access) same
      (cut_leads how.truncates three.0 (only_reads access (is_directory tree number) how.creates fine))

-- ---- a node that is made

module _ (tree : Tree) (dir : ℕ) (name : List ℕ) (access : Access) (is_dir : is_directory tree dir ≡ true) (number : ℕ) (next : Tree) (makes : make tree dir name (File []) ≡ Ok (number, next)) where
  abbrev new_file : Node
  new_file = record { links = 1; content = File [] }

  abbrev between : Tree
  between = with_node tree number (Some new_file)

  made_leads : Leads tree next number access
  made_leads =
      let made = made_is tree dir name (File []) number next makes in
      let free = free_is tree number made.0 in
      let add = added tree number (File []) free.0 free.1 refl in
      let apart : dir ≢ number = λ same. false≢true (sym (ap is_directory_in free.1) ∙ ap (is_directory tree) (sym same) ∙ is_dir) in
      let dir_between : is_directory between dir ≡ true = ap is_directory_in (add.others dir apart) ∙ is_dir in
      let listed = relisted between dir (entry_put name number) dir_between in
      let not_it : (n : ℕ) → is_in_use tree n ≡ true → n ≢ number = λ n used same. false≢true (sym (ap is_some free.1) ∙ ap (is_in_use tree) (sym same) ∙ used) in
      let kept : (n : ℕ) → n ≢ dir → is_in_use (with_new tree number dir name (File [])) n ≡ is_in_use between n = λ n off. ap is_some (listed.others n off) in
      let in_use : (n : ℕ) → is_in_use between n ≡ true → is_in_use (with_new tree number dir name (File [])) n ≡ true = λ n used. elim (cases_eq n dir) [
        | inl same ↦ ap (is_in_use (with_new tree number dir name (File []))) same ∙ directory_in_use (with_new tree number dir name (File [])) dir (listed.directories dir ∙ dir_between)
        | inr off ↦ kept n off ∙ used
      ] in
      subst (λ (t : Tree). Leads tree t number access) (sym made.2)
      (record {
        used = λ n used. in_use n (ap is_some (add.others n (not_it n used)) ∙ used);
        directories = λ n used. listed.directories n ∙ ap is_directory_in (add.others n (not_it n used));
        sockets = λ n used. listed.sockets n ∙ ap (λ (o : Option Node). is_socket_kind (kind_in o)) (add.others n (not_it n used));
        fifos = λ n used.
            relisted_fifos between (with_new tree number dir name (File [])) dir _ listed dir_between n
            ∙ ap (λ (o : Option Node). is_fifo_kind (kind_in o)) (add.others n (not_it n used));
        there = in_use number (ap is_some add.here);
        unnamed = listed.sockets number ∙ ap (λ (o : Option Node). is_socket_kind (kind_in o)) add.here;
        reads = λ is. absurd (false≢true (sym (listed.directories number ∙ ap is_directory_in add.here) ∙ is));
      })

-- ---- where a path has led

led_so : (tree : Tree) (flags : ℤ) (led : Walked) (node : ℕ) (next : Tree) → IsTree tree → IsLed tree led → open_led tree (opening_of flags) led ≡ Ok (node, next)
    → Leads tree next node (access_of flags)
led_so tree flags (walked.Node number) node next is there at =
    there_leads tree (opening_of flags) (access_of flags) refl number (directory_in_use tree number there) node next at
led_so tree flags (walked.Named dir name number slashed) node next is there at =
    there_leads tree (opening_of flags) (access_of flags) refl number (found_in_use tree dir name number is there.1) node next at
led_so tree flags (walked.Free dir name slashed) node next is there at =
    made_leads tree dir name (access_of flags) there.0 node next (passed (not (opening_of flags).creates || slashed) ENOENT (make tree dir name (File [])) (node, next) at).1
led_so tree flags (walked.Fail errno) node next is there at = absurd (err-ok errno (node, next) at)

-- no FIFO has the number 0
fifo_positive : (tree : Tree) (number : ℕ) → is_fifo tree number ≡ true → 0 < number
fifo_positive tree zero fifo = absurd (false≢true fifo)
fifo_positive tree (suc number) fifo = omega arith

pub open_leads : (tree : Tree) (flags : ℤ) (led : Walked) (node : ℕ) (next : Tree) → IsTree tree → IsLed tree led → open_led tree (opening_of flags) led ≡ Ok (node, next)
    → LeadsTo tree next node (access_of flags)
open_leads tree flags led node next is there at =
    let so = led_so tree flags led node next is there at in
    record {
      used = so.used;
      directories = so.directories;
      sockets = so.sockets;
      fifos = so.fifos;
      there = so.there;
      unnamed = so.unnamed;
      reads = so.reads;
      fifo = λ fifo. let was = fifo_led tree (opening_of flags) led node next is there at fifo in (was.0, was.2, fifo_positive tree node was.1);
    }
