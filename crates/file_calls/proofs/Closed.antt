-- What a process closes frees files without links alone: each name leads where it led.
use Rattle.std.proofs.Common.{◌≡◌, ℕ, zero, suc, ◌==◌, Bool, true, false, cond, List, [], ◌∷◌, Option, None, Some, is_some, refl, ap, sym, ◌∙◌, subst}
use Rattle.std.proofs.lemmas.Bool.{cond-true, eq-eqb, false≢true}
use Rattle.std.proofs.lemmas.List.{set-get_or}
use Rattle.std.specs.List.{filter}
use Rattle.posix_defs.specs.Files.Closing.{after_close, after_closes, after_exec_of, all_numbers, close_in, description_gone, gone_in, left_fifo, left_node, target_closed}
use Rattle.posix_defs.specs.Files.Descriptions.{Access, Description, OnNode, OnPipe, OnSocket, Target, description_at, may_write, with_description}
use Rattle.posix_defs.specs.Files.Descriptors.{Descriptor, descriptor_at, is_cloexec, is_named}
use Rattle.posix_defs.specs.Files.State.{Files, descriptors_of, node_of, opens, pipe_at, with_descriptions, with_open, with_pipe}
use Rattle.posix_defs.specs.Pipe.{after_close as pipe_after_close}
use Rattle.posix_defs.specs.IsTree.{IsTree}
use Rattle.posix_defs.specs.Tree.{Node, Tree, found, is_in_use, links_at, links_in, node_at, with_node}
use Rattle.posix_defs.specs.TreeChanges.{closed}
use Rattle.tree_laws.proofs.OtherNodes.{closed_names}
use Rattle.tree_laws.proofs.TreeKeeps.{closed_keeps}

-- A tree stays one, and each name of it leads where it led.
pub record NamesStay (tree next : Tree) : Type 0 where
  pub is_tree : IsTree next
  pub found : (dir : ℕ) (name : List ℕ) → found next dir name ≡ found tree dir name

-- so it is with the trees of files, if the first is one
abbrev Stay : Files → Files → Type 0
Stay files next = IsTree files.tree → NamesStay files.tree next.tree

same : (files : Files) → Stay files files
same files is = record { is_tree = is; found = λ dir name. refl }

then : (files mid next : Files) → Stay files mid → Stay mid next → Stay files next
then files mid next first second is =
    let one = first is in let two = second one.is_tree in
    record { is_tree = two.is_tree; found = λ dir name. two.found dir name ∙ one.found dir name }

-- ---- one node

-- a node put where it stands
same_node : (tree : Tree) (number : ℕ) → with_node tree number (node_at tree number) ≡ tree
same_node tree zero = refl
same_node tree (suc before) = ap (λ (nodes : List (Option Node)). record tree { nodes = nodes }) (set-get_or tree.nodes before None)

-- nothing goes where there is no node
closed_none : (tree : Tree) (number : ℕ) (there : Option Node) → node_at tree number ≡ there → is_some there ≡ false → closed tree number ≡ tree
closed_none tree number (Some node) at none = absurd (false≢true (sym none))
closed_none tree number None at none =
    let links : links_at tree number ≡ 0 = ap links_in at in
    cond-true (links_at tree number == 0) (with_node tree number None) tree (eq-eqb (links_at tree number) 0 links)
    ∙ ap (with_node tree number) (sym at) ∙ same_node tree number

closed_tree : (tree : Tree) (number : ℕ) → IsTree tree → IsTree (closed tree number)
closed_tree tree number is = by_use (is_in_use tree number) refl
  where
    by_use : (b : Bool) → is_in_use tree number ≡ b → IsTree (closed tree number)
    by_use true used = closed_keeps tree number is used
    by_use false free = subst IsTree (sym (closed_none tree number (node_at tree number) refl free)) is

-- ---- what is closed

left : (files : Files) (number : ℕ) → Stay files (left_node files number)
left files number = by_test (opens files number)
  where
    by_test : (b : Bool) → Stay files (cond b files (record files { tree = closed files.tree number }))
    by_test true = same files
    by_test false = λ is. record { is_tree = closed_tree files.tree number is; found = λ dir name. closed_names files.tree number is dir name }

fifo_left : (files : Files) (o : Option ℕ) → Stay files (left_fifo files o)
fifo_left files None = same files
fifo_left files (Some number) = left files number

target_stays : (files : Files) (access : Access) (what : Target) → Stay files (target_closed files access what)
target_stays files access (OnNode number) = left files number
target_stays files access (OnPipe place) = fifo_left (with_pipe files place (pipe_after_close (pipe_at files place) (may_write access))) (node_of files (OnPipe place))
target_stays files access (OnSocket place) = same files

gone : (files : Files) (place : ℕ) → Stay files (description_gone files place)
gone files place = by_description (description_at files.descriptions place)
  where
    by_description : (o : Option Description) → Stay files (gone_in files place o)
    by_description None = same files
    by_description (Some description) =
        target_stays (with_descriptions files (with_description files.descriptions place None)) description.access description.target

close_stays : (files : Files) (pid fd : ℕ) → Stay files (after_close files pid fd)
close_stays files pid fd = by_descriptor (descriptor_at (descriptors_of files pid) fd)
  where
    by_name : (place : ℕ) (b : Bool) → Stay files (cond b (with_open files pid fd None) (description_gone (with_open files pid fd None) place))
    by_name place true = same files
    by_name place false = gone (with_open files pid fd None) place

    by_descriptor : (o : Option Descriptor) → Stay files (close_in files pid fd o)
    by_descriptor None = same files
    by_descriptor (Some descriptor) = by_name descriptor.description (is_named (with_open files pid fd None).descriptors descriptor.description)

closes_stay : (files : Files) (pid : ℕ) (fds : List ℕ) → Stay files (after_closes files pid fds)
closes_stay files pid [] = same files
closes_stay files pid (fd ∷ fds) = then files (after_close files pid fd) (after_closes (after_close files pid fd) pid fds) (close_stays files pid fd) (closes_stay (after_close files pid fd) pid fds)

-- exec closes what is marked so
pub exec_stays : (files : Files) (pid : ℕ) → IsTree files.tree → NamesStay files.tree (after_exec_of files pid).tree
unfolding after_exec_of
exec_stays files pid = closes_stay files pid (filter (is_cloexec (descriptors_of files pid)) all_numbers)
