-- What it tells of a call that its operands are right and its answer is no errno.
use Rattle.std.proofs.Common.{◌≡◌, ℕ, ◌&&◌, ◌||◌, nat_lt, not, ℤ, Bool, true, false, cond, List, Option, None, Some, is_some, Result, Ok, Err, refl, ap, sym, ◌∙◌}
use Rattle.std.specs.Option.{option_or}
use Rattle.kabi_types.specs.Arguments.{argument_fault, invalid_unless, path_fault, paths_fault, truncates_unwritten}
use Rattle.kabi_types.specs.PathParts.{ends_in_dots}
use Rattle.kabi_types.specs.declared.calls.Call.TheVariants as calls
use Rattle.kabi_types.specs.OpenFlags.{are_open_flags}
use Rattle.kabi_types.specs.declared.errnos.Errno.{Errno}
use Rattle.kabi_types.specs.declared.errnos.Errno.TheVariants.{EFBIG, ENOSPC, ENOTDIR}
use Rattle.posix_defs.specs.DiskFormat.{blocks_of, greatest_size}
use Rattle.posix_defs.specs.FileBytes.{resized}
use Rattle.posix_defs.specs.PathCalls.{entered, is_fifo, is_fifo_kind, is_socket, is_socket_kind, kind_in, unless}
use Rattle.posix_defs.specs.Tree.{Content, File, Directory, SocketName, Fifo, Node, Tree, is_directory, is_directory_in, is_in_use, node_at}
use Rattle.posix_defs.specs.TreeChanges.{blocks_for, resize, with_bytes}
use Rattle.posix_defs.specs.Files.Descriptions.{Access, ReadOnly, WriteOnly, ReadWrite, access_of, has_flag, may_write}
use Rattle.machine_laws.proofs.Places.{not_some}
use Rattle.machine_laws.proofs.Items.{true_false}
use Rattle.machine_laws.proofs.Rooting.{IsOpened}

or_none : (a b : Option Errno) → option_or a b ≡ None → (a ≡ None) × (b ≡ None)
or_none None b e = (refl, e)
or_none (Some x) b e = absurd (not_some e refl)

pub open_path_fault : (path : List ℕ) (flags : ℤ) → argument_fault (calls.OpenFile path flags) ≡ None → path_fault path ≡ None
open_path_fault path flags e = (or_none (invalid_unless (are_open_flags flags && not (truncates_unwritten flags))) (path_fault path) e).1

pub link_path_fault : (old new : List ℕ) → argument_fault (calls.Link old new) ≡ None → path_fault new ≡ None
link_path_fault old new e = (or_none (path_fault old) (path_fault new) e).1

pub rename_path_fault : (old new : List ℕ) → argument_fault (calls.Rename old new) ≡ None → path_fault new ≡ None
rename_path_fault old new e = (or_none (path_fault old) (path_fault new) (or_none (paths_fault old new) (invalid_unless (not (ends_in_dots old || ends_in_dots new))) e).0).1

-- who isn't open for writing is open for reading alone
pub read_only : (flags : ℤ) → may_write (access_of flags) ≡ false → access_of flags ≡ ReadOnly
read_only flags e = go (has_flag flags 2) (has_flag flags 1) e
  where
    go : (both one : Bool) → may_write (cond both ReadWrite (cond one WriteOnly ReadOnly)) ≡ false → cond both ReadWrite (cond one WriteOnly ReadOnly) ≡ ReadOnly
    go true one f = absurd (true_false true refl f)
    go false true f = absurd (true_false true refl f)
    go false false f = refl

-- what is opened for writing is a file
pub file_at : (tree : Tree) (access : Access) (offset number : ℕ) → IsOpened tree access offset number → may_write access ≡ true → (links : ℕ) × (bytes : List ℕ) × (node_at tree number ≡ Some (record { links = links; content = File bytes }))
file_at tree access offset number opened may = go (node_at tree number) refl
  where
    not_dir : is_directory tree number ≡ true → ⊥
    not_dir dir = true_false (may_write access) may (ap may_write (opened.directory dir))

    of_content : (links : ℕ) (content : Content) → node_at tree number ≡ Some (record { links = links; content = content })
        → (more : ℕ) × (bytes : List ℕ) × (node_at tree number ≡ Some (record { links = more; content = File bytes }))
    of_content links (File bytes) is = (links, bytes, is)
    of_content links (Directory parent entries) is = absurd (not_dir (ap is_directory_in is))
    of_content links SocketName is = absurd (true_false (is_socket tree number) (ap (λ o. is_socket_kind (kind_in o)) is) opened.socket)
    of_content links Fifo is = absurd (true_false (is_fifo tree number) (ap (λ o. is_fifo_kind (kind_in o)) is) opened.fifo)

    go : (o : Option Node) → node_at tree number ≡ o → (links : ℕ) × (bytes : List ℕ) × (node_at tree number ≡ Some (record { links = links; content = File bytes }))
    go None is = absurd (true_false (is_in_use tree number) opened.used (ap is_some is))
    go (Some node) is = of_content node.links node.content is

pub resized_is : (tree : Tree) (number size : ℕ) (after : Tree) → resize tree number size ≡ Ok after → with_bytes tree number (resized size) ≡ after
resized_is tree number size after e = go (nat_lt greatest_size size) (nat_lt (blocks_for tree number) (blocks_of size)) e
  where
    refused : (errno : Errno) → ◌≡◌ {A = Result Tree Errno} (Err errno) (Ok after) → ⊥
    refused errno f = cc

    same : ◌≡◌ {A = Result Tree Errno} (Ok (with_bytes tree number (resized size))) (Ok after) → with_bytes tree number (resized size) ≡ after
    same f = cc

    go : (large full : Bool) → ◌≡◌ {A = Result Tree Errno} (cond large (Err EFBIG) (cond full (Err ENOSPC) (Ok (with_bytes tree number (resized size))))) (Ok after) → with_bytes tree number (resized size) ≡ after
    go true full f = absurd (refused EFBIG f)
    go false true f = absurd (refused ENOSPC f)
    go false false f = same f

-- a directory was entered
pub entered_is : (tree : Tree) (led : Result ℕ Errno) (directory : ℕ) → entered tree led ≡ Ok directory → is_directory tree directory ≡ true
entered_is tree (Err errno) directory e = absurd (refused e)
  where
    refused : ◌≡◌ {A = Result ℕ Errno} (Err errno) (Ok directory) → ⊥
    refused f = cc
entered_is tree (Ok number) directory e = go (is_directory tree number) refl e
  where
    refused : ◌≡◌ {A = Result ℕ Errno} (Err ENOTDIR) (Ok directory) → ⊥
    refused f = cc

    same : ◌≡◌ {A = Result ℕ Errno} (Ok number) (Ok directory) → number ≡ directory
    same f = cc

    go : (b : Bool) → is_directory tree number ≡ b → ◌≡◌ {A = Result ℕ Errno} (unless (not b) ENOTDIR (Ok number)) (Ok directory) → is_directory tree directory ≡ true
    go true dir f = ap (is_directory tree) (sym (same f)) ∙ dir
    go false dir f = absurd (refused f)
