-- A node is busy where it is held: a description opens it, or a live process works in it. The root is held always.
use Rattle.std.proofs.Common.{◌≡◌, ◌≢◌, ℕ, zero, suc, ◌==◌, ◌&&◌, ◌||◌, Bool, true, false, cond, List, [], ◌∷◌, ◌++◌, Option, None, Some, refl, ap, sym, ◌∙◌, inl, inr, arith}
use Rattle.std.specs.Prelude.{count_by, nat_lt}
use Rattle.std.specs.List.{list_any}
use Rattle.std.proofs.lemmas.Bool.{lt-ltb, ltb-true}
use Rattle.std.proofs.lemmas.Bool.Decides.{eqb_tells}
use Rattle.std.proofs.lemmas.List.Folds.{list_any-append}
use Rattle.machine_laws.proofs.NodesAfter.{dir_or_sock}
use Rattle.machine_laws.proofs.Openers.{node_is, opens_by}
use Rattle.memfs_ops.specs.Removing.{HoldsNoSocket, TellsHeld, TellsOpened, is_held}
use Rattle.posix_defs.specs.Calls.OnNames.{is_busy, works_in}
use Rattle.posix_defs.specs.Files.Descriptions.{Descriptions}
use Rattle.posix_defs.specs.Files.State.{Files, beside, is_number, nodes_among, opened_node, opened_nodes, opens}
use Rattle.posix_defs.specs.IsTree.{IsTree}
use Rattle.posix_defs.specs.PathCalls.{is_socket}
use Rattle.posix_defs.specs.Plain.{Plain, root}
use Rattle.posix_defs.specs.Process.{Table, runs}
use Rattle.posix_defs.specs.Tree.{Tree, is_directory, node_at}
use Rattle.posix_defs.specs.World.{directories_of, is_in}
use Rattle.proc_files.specs.Holders.{AreOpenNodes}
use Rattle.store_objects.specs.Trees.{held_nodes, pins_in}
use Rattle.store_objects.specs.Working.{AreDirectories}
use Rattle.store_objects.proofs.HeldNodes.{counts_in, held_same, in_counts}
use Rattle.path_calls.proofs.Adding.{alike}

-- some of these numbers are the number where they count it
counted : (n : ℕ) (ns : List ℕ) → nat_lt 0 (count_by (λ k. k == n) ns) ≡ is_in n ns
counted n ns = alike _ _ (λ some. counts_in n ns (ltb-true 0 (count_by (λ k. k == n) ns) some)) (λ there. lt-ltb 0 (count_by (λ k. k == n) ns) (in_counts n ns there))

-- ---- what is open, and who works where

opens_among : (files : Files) (n : ℕ) (descriptions : Descriptions) → list_any (λ description. is_number n (opened_node files description)) descriptions ≡ is_in n (nodes_among files descriptions)
opens_among files n [] = refl
opens_among files n (description ∷ descriptions) = go (opened_node files description) (opens_among files n descriptions)
  where
    go : (o : Option ℕ) → list_any (λ d. is_number n (opened_node files d)) descriptions ≡ is_in n (nodes_among files descriptions)
        → (is_number n o || list_any (λ d. is_number n (opened_node files d)) descriptions) ≡ is_in n (beside o (nodes_among files descriptions))
    go None rest = rest
    go (Some number) rest = ap (λ b. (number == n) || b) rest

opens_is : (files : Files) (n : ℕ) → opens files n ≡ is_in n (opened_nodes files)
opens_is files n = opens_among files n files.descriptions

pub works_is : (n : ℕ) (table : Table) → list_any (works_in n) table ≡ is_in n (directories_of table)
works_is n [] = refl
works_is n (None ∷ table) = works_is n table
works_is n (Some process ∷ table) = go (runs process.status) (works_is n table)
  where
    go : (b : Bool) → list_any (works_in n) table ≡ is_in n (directories_of table)
        → ((b && process.directory == n) || list_any (works_in n) table) ≡ is_in n (cond b (process.directory ∷ directories_of table) (directories_of table))
    go true rest = ap (λ more. (process.directory == n) || more) rest
    go false rest = rest

-- ---- what is held

other_than_root : (n : ℕ) → n ≢ root → (root == n) ≡ false
other_than_root n other = elim (eqb_tells root n) [ inl same ↦ absurd (other (sym same.1)) | inr apart ↦ apart.0 ]

-- each node but the root is held where it is busy
pub held_busy : (plain : Plain) (n : ℕ) → n ≢ root → is_busy plain n ≡ is_held (pins_in plain) n
held_busy plain n other =
    ap (λ b. b || list_any (works_in n) plain.table) (opens_is plain.files n)
    ∙ ap (λ b. is_in n (opened_nodes plain.files) || b) (works_is n plain.table)
    ∙ sym (list_any-append (λ k. k == n) (opened_nodes plain.files) (directories_of plain.table))
    ∙ ap (λ b. b || is_in n (opened_nodes plain.files ++ directories_of plain.table)) (sym (other_than_root n other))
    ∙ sym (held_same plain n)
    ∙ sym (counted n (held_nodes plain))

pub tells_held : (plain : Plain) → TellsHeld (pins_in plain) (is_busy plain)
tells_held plain = λ n other. held_busy plain n other

-- ---- who is told of as held

-- a node that somebody works in is a directory
among_directories : (tree : Tree) (n : ℕ) (nodes : List ℕ) → AreDirectories tree nodes → is_directory tree n ≡ false → is_in n nodes ≡ false
among_directories tree n [] are none = refl
among_directories tree n (m ∷ nodes) are none = elim (eqb_tells m n) [
  | inl same ↦ absurd (let both : true ≡ false = sym are.0 ∙ ap (is_directory tree) same.1 ∙ none in cc)
  | inr apart ↦ ap (λ b. b || is_in n nodes) apart.0 ∙ among_directories tree n nodes are.1 none
]

module _ (plain : Plain) (is_tree : IsTree plain.files.tree) (works : AreDirectories plain.files.tree (directories_of plain.table)) where
  -- what is no directory is held where it is open
  opened_held : (n : ℕ) → is_directory plain.files.tree n ≡ false → opens plain.files n ≡ is_held (pins_in plain) n
  opened_held n file =
      sym (ap (λ b. opens plain.files n || b) (works_is n plain.table ∙ among_directories plain.files.tree n (directories_of plain.table) works file) ∙ either (opens plain.files n))
      ∙ held_busy plain n (λ same. not_root same)
    where
      either : (b : Bool) → (b || false) ≡ b
      either true = refl
      either false = refl

      not_root : n ≡ root → ⊥
      not_root same = let both : true ≡ false = sym is_tree.root_directory ∙ ap (is_directory plain.files.tree) (sym same) ∙ file in cc

  -- of each file it is told whether it is opened
  pub tells_opened : TellsOpened plain.files.tree (pins_in plain) (opens plain.files)
  tells_opened = λ n file named. opened_held n file

  -- nobody holds a socket's name, since what is open is none
  pub holds_no_socket : AreOpenNodes plain.files → HoldsNoSocket plain.files.tree (pins_in plain)
  holds_no_socket nodes = λ n is.
      none_held (pins_in plain n) (sym (opened_held n (no_directory n is (is_directory plain.files.tree n) refl)) ∙ closed n is (opens plain.files n) refl)
    where
      no_directory : (n : ℕ) → is_socket plain.files.tree n ≡ true → (b : Bool) → is_directory plain.files.tree n ≡ b → is_directory plain.files.tree n ≡ false
      no_directory n is false e = e
      no_directory n is true e = absurd (dir_or_sock (node_at plain.files.tree n) e is)

      closed : (n : ℕ) → is_socket plain.files.tree n ≡ true → (b : Bool) → opens plain.files n ≡ b → opens plain.files n ≡ false
      closed n is false e = e
      closed n is true e =
          let by = opens_by plain.files n e in
          absurd (let both : true ≡ false = sym is ∙ (nodes by.place n by.description by.is (node_is plain.files by.description.target ∙ by.on)).unnamed in cc)

      none_held : (pins : ℕ) → nat_lt 0 pins ≡ false → pins ≡ 0
      none_held zero e = refl
      none_held (suc pins) e = absurd (let both : true ≡ false = sym (lt-ltb 0 (suc pins) (omega arith)) ∙ e in cc)
