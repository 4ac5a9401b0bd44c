-- What a call on a number leaves of the caches: where that isn't open on a node, all.
use Rattle.std.proofs.Common.{◌≡◌, ℕ, ◌==◌, ◌||◌, ◌&&◌, not, ℤ, Bool, true, false, List, [], ◌∷◌, length, Option, None, is_none, refl, ap, sym, ◌∙◌, subst}
use Rattle.std.specs.List.{list_any}
use Rattle.std.specs.Option.{option_and_then, option_map_or}
use Rattle.kabi_types.specs.Arguments.{argument_fault}
use Rattle.kabi_types.specs.PathParts.{components}
use Rattle.kabi_types.specs.declared.calls.Call.{Call}
use Rattle.kabi_types.specs.declared.scripts.Script.{Script}
use Rattle.kabi_types.specs.declared.errnos.Errno.{Errno}
use Rattle.kabi_types.specs.declared.replies.Reply.{Reply}
use Rattle.memfs_ops.specs.FileTree.{TreeView}
use Rattle.posix_defs.specs.Calls.Opened.{opened_at}
use Rattle.posix_defs.specs.Paths.{begins_at, resolve}
use Rattle.posix_defs.specs.Plain.{Plain}
use Rattle.posix_defs.specs.Process.{directory_of}
use Rattle.posix_defs.specs.Reaching.{IsLeft, descriptors_in, ends_node, is_on_node, knows, last_of, path_to_leave, path_to_walk, paths_of, reaches_node}
use Rattle.posix_defs.specs.World.{World}
use Rattle.proc_files.specs.Answering.{StaysOffNodes}
use Rattle.store_objects.specs.declared.objects.Objects.{Objects}
use Rattle.store_objects.specs.Standing.{StandsFor}
use Rattle.store_objects.specs.Trees.{kept_by}
use Rattle.store_objects.specs.FileWorlds.{LeavesCached}

-- A call names one number and no path.
pub record NamesNumber (which : Call) (fd : ℤ) : Type 0 where
  pub right : argument_fault which ≡ None
  pub paths : paths_of which ≡ []
  pub numbers : descriptors_in which ≡ fd ∷ []
  pub leaves : (plain : Plain) (pid : ℕ) → path_to_leave plain pid which ≡ None
  pub walks : path_to_walk which ≡ None

never : {X : Type 0} → true ≡ false → X
never e = cc

-- a number that is no node's isn't where no node is reached
isnt : (on ends : Bool) → ((true && (false || (on || false))) || ends) ≡ false → on ≡ false
isnt true ends e = never e
isnt false ends e = refl

module _ (script : Script) (old new : Objects) (world : World) (pid : ℕ) (which : Call) (fd : ℤ) (names : NamesNumber which fd) where
  off_node : (next : Plain) → reaches_node world.plain pid which next ≡ false → is_on_node world.plain.files (opened_at world.plain.files pid fd) ≡ false
  off_node next none =
      isnt (is_on_node world.plain.files (opened_at world.plain.files pid fd)) (ends_node world.plain.files next.files)
      (sym
      (ap (λ (fault : Option Errno). (is_none fault && (not (length (paths_of which) == 0) || list_any (λ n. is_on_node world.plain.files (opened_at world.plain.files pid n)) (descriptors_in which)))
      || ends_node world.plain.files next.files) names.right
      ∙ ap (λ (paths : List (List ℕ)). (not (length paths == 0) || list_any (λ n. is_on_node world.plain.files (opened_at world.plain.files pid n)) (descriptors_in which))
      || ends_node world.plain.files next.files) names.paths
      ∙ ap (λ (fds : List ℤ). list_any (λ n. is_on_node world.plain.files (opened_at world.plain.files pid n)) fds || ends_node world.plain.files next.files) names.numbers)
      ∙ none)

  -- The call leaves no name, and walks no path; where it reaches no node the tree's caches are as they were.
  pub leaves_cached : (said : Reply) (next : Plain) → StandsFor script old world → StaysOffNodes old.heap old.procs pid fd old.tree new.tree
      → LeavesCached old new world pid which said next
  leaves_cached said next stands stays = record {
    untouched = λ none.
        let same : new.tree ≡ old.tree = stays stands.files.numbers world.plain.files stands.files.opened (off_node next none) in
        (ap kept_by same, ap (λ (fs : TreeView). fs.disk.reads) same);
    left = λ ok.
        subst (λ path. IsLeft next.files.tree (kept_by new.tree) (option_and_then (λ p. last_of (resolve world.plain.files.tree (directory_of world.plain.table pid) p)) path)) (sym (names.leaves world.plain pid)) tt;
    known = λ known.
        never (sym known
        ∙ ap (λ o. option_map_or (λ path. knows world.plain.files.tree world.kept (begins_at (directory_of world.plain.table pid) path) (components path)) o false) names.walks);
  }
