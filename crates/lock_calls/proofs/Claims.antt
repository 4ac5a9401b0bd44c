-- The file of a request, by what is open.
use Rattle.std.proofs.Common.{◌≡◌, ℕ, Bool, true, false, cond, Option, None, Some, Ok, Err, refl, ap, sym, ◌∙◌}
use Rattle.std.specs.Option.{option_and_then}
use Rattle.kabi_types.specs.declared.errnos.Errno.{Errno}
use Rattle.kabi_types.specs.declared.errnos.Errno.TheVariants.{EBADF, EINVAL}
use Rattle.kheap_slabs.specs.declared.objects.Target.{Target as HeldTarget}
use Rattle.kheap_slabs.specs.declared.objects.Target.TheVariants as held
use Rattle.kabi_types.specs.declared.ranges.Kind.{Kind}
use Rattle.lock_table.specs.Holding.{asked_by}
use Rattle.open_laws.specs.Described.{access_in, target_in}
use Rattle.open_laws.specs.Placed.{Numbers}
use Rattle.posix_defs.specs.Calls.OnLocks.{claim_of, file_of, may_hold, wanted_of, wanted_on}
use Rattle.posix_defs.specs.Calls.Opened.{Opened}
use Rattle.posix_defs.specs.Files.Descriptions.{Access}
use Rattle.posix_defs.specs.Files.State.{Files}
use Rattle.posix_defs.specs.Locks.{Request}
use Rattle.posix_defs.specs.Tree.{Tree, is_directory}
use Rattle.proc_numbers.specs.Found.{opened_in}
use Rattle.proc_numbers.specs.declared.lookups.Found.{Found}
use Rattle.lock_calls.specs.Claiming.{claimed_by, file_by, file_or_fault, node_in, wanted_in}
use Rattle.lock_calls.specs.declared.waits.Wanted.{Wanted as WantedHere}

-- a node that isn't a directory is a file
abbrev pub unless_directory : Tree → ℕ → Option ℕ
unless_directory tree number = cond (is_directory tree number) None (Some number)

pub file_is : (numbers : Numbers) (tree : Tree) (target : HeldTarget) → file_of tree (target_in numbers target) ≡ option_and_then (unless_directory tree) (node_in target)
file_is numbers tree (held.Inode number) = refl
file_is numbers tree (held.Pipe key) = refl
file_is numbers tree (held.Sock key) = refl

-- the file first, then who may hold it
pub claim_by : (access : Access) (kind : Option Kind) (file : Option ℕ) (number : ℕ) → file_or_fault file ≡ Ok number → claim_of access kind file ≡ cond (may_hold access kind) (Ok number) (Err EBADF)
claim_by access kind None number e = cc
claim_by access kind (Some other) number e = let same : other ≡ number = cc in ap (λ n. cond (may_hold access kind) (Ok n) (Err EBADF)) same

pub claim_none : (access : Access) (kind : Option Kind) (file : Option ℕ) (errno : Errno) → file_or_fault file ≡ Err errno → claim_of access kind file ≡ Err errno
claim_none access kind None errno e = e
claim_none access kind (Some other) errno e = cc

-- what is wanted of a node through what may hold it so
pub wants_so : (tree : Tree) (access : Access) (wanted : WantedHere) (asked : Request) → asked_by wanted.range ≡ asked → may_hold access asked.kind ≡ true
    → wanted_in tree wanted ≡ wanted_of asked (claim_of access asked.kind (unless_directory tree wanted.node))
wants_so tree access wanted asked same may = go (is_directory tree wanted.node)
  where
    go : (directory : Bool)
        → cond directory None (Some (record { node = wanted.node; asked = asked_by wanted.range })) ≡ wanted_of asked (claim_of access asked.kind (cond directory None (Some wanted.node)))
    go true = refl
    go false = ap (λ it. Some (record { node = wanted.node; asked = it })) same ∙ sym (ap (λ b. wanted_of asked (cond b (Ok wanted.node) (Err EBADF))) may)

pub wants_none : (tree : Tree) (access : Access) (node : ℕ) (asked : Request) → may_hold access asked.kind ≡ false
    → None ≡ wanted_of asked (claim_of access asked.kind (unless_directory tree node))
wants_none tree access node asked may = go (is_directory tree node)
  where
    go : (directory : Bool) → None ≡ wanted_of asked (claim_of access asked.kind (cond directory None (Some node)))
    go true = refl
    go false = sym (ap (λ b. wanted_of asked (cond b (Ok node) (Err EBADF))) may)

-- ---- what is claimed

-- where there is no file that is told, whoever asks
pub by_err : (files : Files) (kind : Option Kind) (o : Option Opened) (errno : Errno) → Err errno ≡ file_by files o → Err errno ≡ claimed_by files kind o
by_err files kind None errno e = e
by_err files kind (Some opened) errno e = sym (claim_none opened.is.access kind (file_of files.tree opened.is.target) errno (sym e))

pub by_ok : (numbers : Numbers) (files : Files) (kind : Option Kind) (found : Found) (number : ℕ) (may : Bool) → Ok number ≡ file_by files (Some (opened_in numbers found))
    → may_hold (access_in found.desc.access) kind ≡ may → claimed_by files kind (Some (opened_in numbers found)) ≡ cond may (Ok number) (Err EBADF)
by_ok numbers files kind found number may e is =
    claim_by (access_in found.desc.access) kind (file_of files.tree (target_in numbers found.desc.target)) number (sym e) ∙ ap (λ b. cond b (Ok number) (Err EBADF)) is

-- of a file and a directory, by what is told of it
pub by_node : (tree : Tree) (number : ℕ) (b : Bool) → is_directory tree number ≡ b → file_or_fault (unless_directory tree number) ≡ cond b (Err EINVAL) (Ok number)
by_node tree number true is = ap (λ b. file_or_fault (cond b None (Some number))) is
by_node tree number false is = ap (λ b. file_or_fault (cond b None (Some number))) is

-- ---- what was found

-- only a file or a directory has that number
pub is_node : (target : HeldTarget) (node : ℕ) → node_in target ≡ Some node → target ≡ held.Inode node
is_node (held.Inode number) node e = cc
is_node (held.Pipe key) node e = cc
is_node (held.Sock key) node e = cc

module _ (numbers : Numbers) (files : Files) (found : Found) where
  abbrev what : HeldTarget
  what = found.desc.target

  file_there : (node : ℕ) → node_in what ≡ Some node → file_of files.tree (target_in numbers what) ≡ unless_directory files.tree node
  file_there node on = file_is numbers files.tree what ∙ ap (option_and_then (unless_directory files.tree)) on

  file_none : node_in what ≡ None → file_of files.tree (target_in numbers what) ≡ None
  file_none on = file_is numbers files.tree what ∙ ap (option_and_then (unless_directory files.tree)) on

  pub file_at : (node : ℕ) (b : Bool) → node_in what ≡ Some node → is_directory files.tree node ≡ b → cond b (Err EINVAL) (Ok node) ≡ file_by files (Some (opened_in numbers found))
  file_at node b on is = sym (ap file_or_fault (file_there node on) ∙ by_node files.tree node b is)

  pub no_file_at : node_in what ≡ None → Err EINVAL ≡ file_by files (Some (opened_in numbers found))
  no_file_at on = sym (ap file_or_fault (file_none on))

  abbrev access : Access
  access = access_in found.desc.access

  pub wanted_at : (wanted : WantedHere) → node_in what ≡ Some wanted.node → may_hold access (asked_by wanted.range).kind ≡ true
      → wanted_in files.tree wanted ≡ wanted_on files (asked_by wanted.range) (Some (opened_in numbers found))
  wanted_at wanted on may =
      wants_so files.tree access wanted (asked_by wanted.range) refl may
      ∙ sym (ap (λ file. wanted_of (asked_by wanted.range) (claim_of access (asked_by wanted.range).kind file)) (file_there wanted.node on))

  pub unheld_at : (asked : Request) (node : ℕ) → node_in what ≡ Some node → may_hold access asked.kind ≡ false → None ≡ wanted_on files asked (Some (opened_in numbers found))
  unheld_at asked node on may =
      wants_none files.tree access node asked may ∙ sym (ap (λ file. wanted_of asked (claim_of access asked.kind file)) (file_there node on))

  pub unwanted_at : (asked : Request) → node_in what ≡ None → None ≡ wanted_on files asked (Some (opened_in numbers found))
  unwanted_at asked on = sym (ap (λ file. wanted_of asked (claim_of access asked.kind file)) (file_none on))
