-- Who works in a directory works in one still once a call on names is over: none of them takes a directory that is worked in.
use Rattle.std.proofs.Common.{◌≡◌, ℕ, ◌==◌, ◌||◌, Bool, true, false, List, [], ◌∷◌, Option, refl, ap, sym, ◌∙◌, inl, inr}
use Rattle.machine_laws.proofs.NodesAfter.{Turns}
use Rattle.machine_laws.proofs.Openers.{works_busy}
use Rattle.posix_defs.proofs.TreeNodes.{directory_in_use}
use Rattle.posix_defs.specs.Calls.OnNames.{is_busy}
use Rattle.posix_defs.specs.Plain.{Plain}
use Rattle.posix_defs.specs.Tree.{Tree, is_directory}
use Rattle.posix_defs.specs.World.{directories_of, is_in}
use Rattle.proc_table.proofs.PlaceLemmas.{eqb_same}
use Rattle.store_objects.specs.Working.{AreDirectories}
use Rattle.path_calls.proofs.Busy.{works_is}

module _ (plain : Plain) (after : Tree) (opened : ℕ → Bool) (freed : Option ℕ) (turns : Turns plain.files.tree after opened (is_busy plain) freed) where
  stays : (n : ℕ) → is_in n (directories_of plain.table) ≡ true → is_directory plain.files.tree n ≡ true → is_directory after n ≡ true
  stays n among is = elim (turns.each n (directory_in_use plain.files.tree n is)) [
    | inl here ↦ here.directory ∙ is
    | inr goes ↦ absurd (let both : true ≡ false = sym (works_busy plain n (works_is n plain.table ∙ among)) ∙ goes.directory is in cc)
  ]

  later : (b : Bool) (n : ℕ) (nodes : List ℕ) → is_in n nodes ≡ true → (b || is_in n nodes) ≡ true
  later true n nodes is = refl
  later false n nodes is = is

  each : (nodes : List ℕ) → ((n : ℕ) → is_in n nodes ≡ true → is_in n (directories_of plain.table) ≡ true) → AreDirectories plain.files.tree nodes → AreDirectories after nodes
  each [] among all = tt
  each (m ∷ nodes) among all = (
    stays m (among m (ap (λ b. b || is_in m nodes) (eqb_same m m refl))) all.0,
    each nodes (λ n is. among n (later (m == n) n nodes is)) all.1,
  )

  pub works_after : AreDirectories plain.files.tree (directories_of plain.table) → AreDirectories after (directories_of plain.table)
  works_after = each (directories_of plain.table) (λ n is. is)
