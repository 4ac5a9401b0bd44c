-- The tree once a socket's name is made: the node is new, and of every other node the tree says what it said.
use Rattle.std.proofs.Common.{◌≡◌, ◌≢◌, ℕ, ◌≤◌, Bool, true, false, cond, List, Option, None, Some, Result, Ok, Err, is_some, refl, sym, ap, subst, ◌∙◌, arith, inl, inr}
use Rattle.std.proofs.lemmas.Bool.{cases_eq, false≢true}
use Rattle.kabi_types.specs.declared.errnos.Errno.{Errno}
use Rattle.kabi_types.specs.declared.inodes.DirEntry.{DirEntry}
use Rattle.kabi_types.specs.declared.errnos.Errno.TheVariants.{ENOENT}
use Rattle.posix_defs.specs.DiskFormat.{table_nodes}
use Rattle.posix_defs.specs.IsTree.{IsTree}
use Rattle.posix_defs.specs.PathCalls.{bind_led, bind_path, is_fifo, is_fifo_kind, is_socket, is_socket_kind, kind_in, kind_of_content}
use Rattle.posix_defs.specs.Paths.{IsLed, resolve}
use Rattle.posix_defs.specs.Tree.{Content, Directory, Fifo, File, Node, SocketName, Tree, is_directory, is_directory_content, is_directory_in, is_in_use, node_at, with_node}
use Rattle.posix_defs.specs.TreeChanges.{entry_put, make, with_new}
use Rattle.posix_defs.specs.declared.walked.Walked.{Walked}
use Rattle.posix_defs.specs.declared.walked.Walked.TheVariants as walked
use Rattle.posix_defs.proofs.TreeNodes.{directory_in_use, free_is}
use Rattle.tree_laws.proofs.PathLeads.{path_led}
use Rattle.tree_laws.proofs.TreeKeeps.{made_is}
use Rattle.tree_laws.proofs.TreeSteps.{Relisted, added, relisted}

-- A node that was free is a socket's name; of every other one nothing is other.
pub record MakesName (old new : Tree) (made : ℕ) : Type 0 where
  pub free : is_in_use old made ≡ false
  pub unnamed : is_socket old made ≡ false
  pub within : made ≤ table_nodes old.blocks
  pub named : is_socket new made ≡ true
  pub blocks : new.blocks ≡ old.blocks
  pub used : (number : ℕ) → is_in_use old number ≡ true → is_in_use new number ≡ true
  pub directories : (number : ℕ) → number ≢ made → is_directory new number ≡ is_directory old number
  pub sockets : (number : ℕ) → number ≢ made → is_socket new number ≡ is_socket old number
  pub fifos : (number : ℕ) → number ≢ made → is_fifo new number ≡ is_fifo old number

-- a directory is no FIFO
pub directory_no_fifo : (o : Option Node) → is_directory_in o ≡ true → is_fifo_kind (kind_in o) ≡ false
directory_no_fifo None e = refl
directory_no_fifo (Some node) e = by_content node.content e
  where
    by_content : (content : Content) → is_directory_content content ≡ true → is_fifo_kind (kind_of_content content) ≡ false
    by_content (File bytes) is = refl
    by_content (Directory parent entries) is = refl
    by_content SocketName is = refl
    by_content Fifo is = absurd (false≢true is)

-- what is listed anew stays a FIFO or none
pub relisted_fifos : (old new : Tree) (dir : ℕ) (entries : List DirEntry) → Relisted old new dir entries → is_directory old dir ≡ true → (number : ℕ) → is_fifo new number ≡ is_fifo old number
relisted_fifos old new dir entries listed is_dir number = elim (cases_eq number dir) [
  | inl same ↦
      ap (is_fifo new) same ∙ directory_no_fifo (node_at new dir) (listed.directories dir ∙ is_dir) ∙ sym (directory_no_fifo (node_at old dir) is_dir) ∙ sym (ap (is_fifo old) same)
  | inr off ↦ ap (λ (o : Option Node). is_fifo_kind (kind_in o)) (listed.others number off)
]

-- what is in use isn't the one that was made
pub used_apart : (old new : Tree) (made : ℕ) → MakesName old new made → (number : ℕ) → is_in_use old number ≡ true → number ≢ made
used_apart old new made makes number used same = false≢true (sym makes.free ∙ ap (is_in_use old) (sym same) ∙ used)

module _ (tree : Tree) (is : IsTree tree) (dir : ℕ) (is_dir : is_directory tree dir ≡ true) (name : List ℕ) (made : ℕ) (next : Tree) (answered : make tree dir name SocketName ≡ Ok (made, next)) where
  makes_it : MakesName tree next made
  makes_it =
      let it = made_is tree dir name SocketName made next answered in
      let free = free_is tree made it.0 in
      let between : Tree = with_node tree made (Some (record { links = 1; content = SocketName })) in
      let add = added tree made SocketName free.0 free.1 refl in
      let apart : dir ≢ made = λ same. false≢true (sym (ap is_directory_in free.1) ∙ ap (is_directory tree) (sym same) ∙ is_dir) in
      let listed = relisted between dir (entry_put name made) (ap is_directory_in (add.others dir apart) ∙ is_dir) in
      subst (λ (t : Tree). MakesName tree t made) (sym it.2)
      (record {
        free = ap is_some free.1;
        unnamed = ap (λ (o : Option Node). is_socket_kind (kind_in o)) free.1;
        within = let above = free.0.within in let count = is.count in omega (arith, above, count);
        named = listed.sockets made ∙ ap (λ (o : Option Node). is_socket_kind (kind_in o)) add.here;
        blocks = listed.blocks ∙ add.blocks;
        used = λ number used. elim (cases_eq number dir) [
          | inl same ↦
              directory_in_use (with_new tree made dir name SocketName) number
              (ap (is_directory (with_new tree made dir name SocketName)) same ∙ listed.directories dir ∙ ap is_directory_in (add.others dir apart) ∙ is_dir)
          | inr off ↦
              let off_made : number ≢ made = λ same. false≢true (sym (ap is_some free.1) ∙ ap (is_in_use tree) (sym same) ∙ used) in
              ap is_some (listed.others number off ∙ add.others number off_made) ∙ used
        ];
        directories = λ number off. listed.directories number ∙ ap is_directory_in (add.others number off);
        sockets = λ number off. listed.sockets number ∙ ap (λ (o : Option Node). is_socket_kind (kind_in o)) (add.others number off);
        fifos = λ number off.
            relisted_fifos between (with_new tree made dir name SocketName) dir _ listed (ap is_directory_in (add.others dir apart) ∙ is_dir) number
            ∙ ap (λ (o : Option Node). is_fifo_kind (kind_in o)) (add.others number off);
      })

same_made : (errno : Errno) (made : ℕ) (next : Tree) → ◌≡◌ {A = Result (ℕ × Tree) Errno} (Err errno) (Ok (made, next)) → ⊥
same_made errno made next e = cc

-- a bind that succeeds makes a name
pub bind_makes : (tree : Tree) (cwd : ℕ) (path : List ℕ) (made : ℕ) (next : Tree) → IsTree tree → is_directory tree cwd ≡ true → bind_path tree cwd path ≡ Ok (made, next) → MakesName tree next made
bind_makes tree cwd path made next is is_dir answered = by_walk (resolve tree cwd path) (path_led tree cwd path is is_dir) answered
  where
    by_slash : (b : Bool) (dir : ℕ) (name : List ℕ) → is_directory tree dir ≡ true → ◌≡◌ {A = Result (ℕ × Tree) Errno} (cond b (Err ENOENT) (make tree dir name SocketName)) (Ok (made, next)) → MakesName tree next made
    by_slash true dir name at e = absurd (same_made ENOENT made next e)
    by_slash false dir name at e = makes_it tree is dir at name made next e

    by_walk : (led : Walked) → IsLed tree led → bind_led tree led ≡ Ok (made, next) → MakesName tree next made
    by_walk (walked.Node number) leads e = absurd (same_made _ made next e)
    by_walk (walked.Named dir name number slashed) leads e = absurd (same_made _ made next e)
    by_walk (walked.Free dir name slashed) leads e = by_slash slashed dir name leads.0 e
    by_walk (walked.Fail errno) leads e = absurd (same_made errno made next e)
