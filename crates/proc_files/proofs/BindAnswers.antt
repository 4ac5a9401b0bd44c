-- What the machine answers to a bind, and what stands once one is done.
use Rattle.std.proofs.Common.{◌≡◌, ℕ, ℤ, pos, ◌<◌, ◌≤◌, Bool, true, false, cond, List, [], length, Option, None, Some, Result, Ok, Err, IsSome, is_some, refl, sym, ap, subst, ◌∙◌, arith, Contains}
use Rattle.std.specs.Prelude.{IsErrAnd}
use Rattle.std.proofs.lemmas.Result.{err_from_is_err_and}
use Rattle.std.proofs.lemmas.Bool.{false≢true}
use Rattle.std.proofs.lemmas.List.{length-set}
use Rattle.kabi_types.specs.declared.errnos.Errno.{Errno}
use Rattle.kabi_types.specs.declared.errnos.Errno.TheVariants.{EINVAL, EISCONN}
use Rattle.kabi_types.specs.declared.replies.Reply.TheVariants.{Fail, Val}
use Rattle.kabi_types.specs.declared.scripts.Script.{Script}
use Rattle.kheap_slabs.specs.Objects.{object, put}
use Rattle.kheap_slabs.specs.Purse.{Purse}
use Rattle.kheap_slabs.specs.declared.objects.Desc.{Desc}
use Rattle.kheap_slabs.specs.declared.objects.Sock.{Sock}
use Rattle.kheap_slabs.specs.Heap.{Heap}
use Rattle.kheap_slabs.specs.Paid.{HasFills}
use Rattle.memfs_ops.specs.Changing.{LedTo}
use Rattle.disk_laws.proofs.DiskNodes.{one_tree}
use Rattle.memfs_ops.specs.FileTree.{Stands, TreeView}
use Rattle.open_laws.specs.Owned.{HasItsOwners, socks_named}
use Rattle.open_laws.specs.Placed.{Numbers}
use Rattle.posix_defs.specs.Answer.{Answer, failed, replied}
use Rattle.posix_defs.specs.Calls.OnSockets.{bind as call_bind, bind_at, bound_to, unless_fault}
use Rattle.posix_defs.specs.Calls.Opened.{Opened}
use Rattle.posix_defs.specs.DiskFormat.{table_nodes}
use Rattle.posix_defs.specs.Files.State.{Files, with_sockets, with_tree}
use Rattle.posix_defs.specs.IsTree.{IsTree}
use Rattle.posix_defs.specs.PathCalls.{bind_path}
use Rattle.posix_defs.specs.Plain.{Plain, with_files}
use Rattle.posix_defs.specs.Process.{directory_of}
use Rattle.posix_defs.specs.Socket.{Socket, bind_fault, is_connected}
use Rattle.posix_defs.specs.SocketLinks.{WaitsFor}
use Rattle.posix_defs.specs.Sockets.{Sockets, sock_at, socket_at, with_name}
use Rattle.posix_defs.specs.Tree.{Tree, is_directory}
use Rattle.usock_core.specs.Answers.{Answers as IsFault}
use Rattle.usock_core.specs.Standing.{LeavesOthers, StandsFor as SocketsStandFor}
use Rattle.proc_table.specs.Table.{TableView}
use Rattle.proc_numbers.specs.Having.{HaveOpen}
use Rattle.proc_files.specs.Closing.{CachesChange}
use Rattle.proc_files.specs.Holders.{holders}
use Rattle.proc_files.proofs.Beside.{owners_beside, same_descs, same_socks}
use Rattle.proc_numbers.specs.Finding.{FindsSocket}
use Rattle.proc_numbers.specs.Owning.{SocketsChange}
use Rattle.proc_numbers.specs.declared.finding.OpenSocket.{OpenSocket}
use Rattle.proc_numbers.proofs.Told.{have_after, keyed_there}
use Rattle.proc_files.specs.NameAnswering.{AnswersNaming, NamesChange}
use Rattle.proc_files.specs.Names.{AreBound, name_of}
use Rattle.proc_files.specs.NameHolding.{HoldNames}
use Rattle.proc_files.proofs.Connected.{name_renamed}
use Rattle.proc_files.proofs.Made.{MakesName, bind_makes}
use Rattle.proc_files.proofs.Named.{bound_names, waiting_connected}
use Rattle.proc_files.proofs.Placed.{bind_told, placed_inside, placed_node}
use Rattle.proc_files.proofs.Steps.{files_named, files_resocketed, files_walked}
use Rattle.proc_files.proofs.Tables.{name_says, node_of, node_there}
use Rattle.proc_files.proofs.Ties.{none_is}

-- ---- faults

-- what was done had no fault
pub no_fault : (done : Unit {0}) (fault : Option Errno) → IsFault {X = Unit {0}} (Ok done) fault → fault ≡ None
no_fault done None told = refl
no_fault done (Some errno) told = cc

-- what wasn't had this one
pub one_fault : (errno : Errno) (fault : Option Errno) → IsFault {X = Unit {0}} (Err errno) fault → fault ≡ Some errno
one_fault errno None told = cc
one_fault errno (Some other) told = cc

-- a fault that is handed on is the same
pub err_is : (errno : Errno) (result : Result (Unit {0}) Errno) → IsErrAnd result (λ e. e ≡ errno) → result ≡ Err errno
err_is errno result and = let p = err_from_is_err_and result and in p.1 ∙ ap Err p.2

-- a socket that may be bound has no name, and isn't connected
pub may_bind : (socket : Socket) → bind_fault socket ≡ None → (socket.node ≡ None) × (is_connected socket.stage ≡ false)
may_bind socket fine = by_parts socket.node (is_connected socket.stage) fine
  where
    by_parts : (o : Option ℕ) (b : Bool) → cond (is_some o) (Some EINVAL) (cond b (Some EISCONN) None) ≡ None → (o ≡ None) × (b ≡ false)
    by_parts (Some node) b e = cc
    by_parts None true e = cc
    by_parts None false e = (refl, refl)

-- the trees that one disk stands for are one
pub directory_there : (h : Heap) (fs : TreeView) (one other : Tree) (pins also : ℕ → ℕ) (number : ℕ) → Stands h fs one pins → Stands h fs other also → is_directory one number ≡ true → is_directory other number ≡ true
directory_there h fs one other pins also number stands beside is = subst (λ t. is_directory t number ≡ true) (one_tree fs.disk.blocks one other stands.behind beside.behind) is

-- ---- what is other in the heap

pub walked_changes : (old mid : Heap) → CachesChange old mid → NamesChange old mid
walked_changes old mid caches =
    subst (λ (h : Heap). h ≡ record old { vnodes = h.vnodes; names = h.names; blocks = h.blocks; chunks = h.chunks; socks = h.socks; high = h.high }) (sym caches) refl

pub both_change : (old mid new : Heap) → CachesChange old mid → LeavesOthers mid new → NamesChange old new
both_change old mid new caches others =
    subst (λ (h : Heap). h ≡ record old { vnodes = h.vnodes; names = h.names; blocks = h.blocks; chunks = h.chunks; socks = h.socks; high = h.high })
    (sym (others.kept ∙ ap (λ (h : Heap). record h { chunks = new.chunks; socks = new.socks; high = new.high }) caches)) refl

pub fills_on : (mid new : Heap) (purse : Purse) → LeavesOthers mid new → HasFills mid purse → HasFills new purse
fills_on mid new purse others fills =
    subst (λ (h : Heap). HasFills h purse) (sym others.kept) (record { vnodes = fills.vnodes; names = fills.names; blocks = fills.blocks })

-- the same sockets have the same names
pub bound_beside : (old mid : Heap) (names : List (Option ℕ)) → CachesChange old mid → AreBound (name_of old.socks) names → AreBound (name_of mid.socks) names
bound_beside old mid names caches are = subst (λ (socks : List (Option Sock)). AreBound (name_of socks) names) (sym (same_socks old mid caches)) are

pub named_beside : (old mid : Heap) (key : ℕ) → CachesChange old mid → Contains (socks_named old.descs) key → Contains (socks_named mid.descs) key
named_beside old mid key caches named = subst (λ (descs : List (Option Desc)). Contains (socks_named descs) key) (sym (same_descs old mid caches)) named

-- ---- no socket

abbrev pub bind_as : Script → Plain → ℕ → List ℕ → Opened → ℕ → Answer
bind_as script plain pid path opened = bind_at script plain pid path

pub bind_lost : (numbers : Numbers) (others : ℕ → ℕ) (old : Heap) (kept : TableView) (fs : TreeView) (names : List (Option ℕ)) (script : Script) (plain : Plain) (pid : ℕ) (fd : ℤ) (path : List ℕ) (errno : Errno)
    → HoldNames numbers others old kept fs names plain.files → FindsSocket numbers script plain pid fd (bind_as script plain pid path) (Err errno)
    → AnswersNaming numbers others old kept fs names script plain pid (call_bind script plain pid fd path) (Fail errno)
unfolding call_bind
bind_lost numbers others old kept fs names script plain pid fd path errno hold finds = record { files = plain.files; replies = finds; holds = hold }

-- ---- a socket that a number is open on

module _ (numbers : Numbers) (others : ℕ → ℕ) (old : Heap) (kept : TableView) (fs : TreeView) (names : List (Option ℕ)) (script : Script) (plain : Plain) (pid : ℕ) (fd : ℤ) (path : List ℕ) (on : OpenSocket)
    (owners : HasItsOwners old []) (named : Contains (socks_named old.descs) on.key) (hold : HoldNames numbers others old kept fs names plain.files)
    (finds : (answer : Opened → ℕ → Answer) → FindsSocket numbers script plain pid fd answer (Ok on)) where
  abbrev keyed : Sockets
  keyed = hold.held.opened.opened.socketed.keyed

  abbrev sockets : Sockets
  sockets = plain.files.sockets

  abbrev place : ℕ
  place = numbers.socks on.key

  there : IsSome (sock_at keyed on.key)
  there = keyed_there old [] on.key owners named keyed hold.held.opened.opened.socketed.stands

  bind_is : call_bind script plain pid fd path ≡ bind_at script plain pid path place
  unfolding call_bind
  bind_is = (finds (λ opened. bind_at script plain pid path)).1

  fault_is : bind_fault (socket_at sockets place) ≡ bind_fault (socket_at keyed on.key)
  fault_is = bind_told numbers.socks keyed sockets hold.held.opened.opened.socketed.renamed on.key there

  -- it is bound, or connected
  pub bind_refused : (errno : Errno) → bind_fault (socket_at keyed on.key) ≡ Some errno → AnswersNaming numbers others old kept fs names script plain pid (call_bind script plain pid fd path) (Fail errno)
  bind_refused errno fault = record {
    files = plain.files;
    replies = bind_is ∙ ap (λ f. unless_fault script plain pid f (bound_to script plain pid place (bind_path plain.files.tree (directory_of plain.table pid) path))) (fault_is ∙ fault);
    holds = hold;
  }

  -- or the path was walked
  module _ (mid : Heap) (now : TreeView) (caches : CachesChange old mid) (cwd : ℕ) (works : directory_of plain.table pid ≡ cwd) (fine : bind_fault (socket_at keyed on.key) ≡ None) where
    bind_walked : call_bind script plain pid fd path ≡ bound_to script plain pid place (bind_path plain.files.tree cwd path)
    bind_walked =
        bind_is
        ∙ ap (λ f. unless_fault script plain pid f (bound_to script plain pid place (bind_path plain.files.tree (directory_of plain.table pid) path))) (fault_is ∙ fine)
        ∙ ap (λ dir. bound_to script plain pid place (bind_path plain.files.tree dir path)) works

    -- to a fault
    pub bind_failed : (errno : Errno) → LedTo mid now plain.files.tree (bind_path plain.files.tree cwd path) (holders others plain.files) (Err errno)
        → AnswersNaming numbers others mid kept now names script plain pid (call_bind script plain pid fd path) (Fail errno)
    bind_failed errno led = by_led (bind_path plain.files.tree cwd path) refl led
      where
        same : (one other : Errno) → ◌≡◌ {A = Result ℕ Errno} (Err one) (Err other) → other ≡ one
        same one other e = cc

        wrong : (made : ℕ) → ◌≡◌ {A = Result ℕ Errno} (Err errno) (Ok made) → ⊥
        wrong made e = cc

        by_led : (o : Result (ℕ × Tree) Errno) → bind_path plain.files.tree cwd path ≡ o → LedTo mid now plain.files.tree o (holders others plain.files) (Err errno)
            → AnswersNaming numbers others mid kept now names script plain pid (call_bind script plain pid fd path) (Fail errno)
        by_led (Ok (made, next)) is at = absurd (wrong made at.0)
        by_led (Err other) is at = record {
          files = plain.files;
          replies = bind_walked ∙ ap (bound_to script plain pid place) is ∙ ap (failed script plain pid) (same errno other at.0);
          holds = record {
            held = files_walked numbers others old mid kept fs now plain.files caches hold.held at.1;
            bound = bound_beside old mid names caches hold.bound;
            named = hold.named;
            places = hold.places;
          };
        }

    -- to a new name
    pub bind_done : (made : ℕ) → LedTo mid now plain.files.tree (bind_path plain.files.tree cwd path) (holders others plain.files) (Ok made) → is_directory plain.files.tree cwd ≡ true
        → (new : Heap) (after : List (Option ℕ)) → SocketsChange mid new [] → ((table : Sockets) → SocketsStandFor mid table → SocketsStandFor new (with_name table on.key (Some made)))
        → AreBound (name_of new.socks) after → after ≡ put names made on.key
        → AnswersNaming numbers others new kept now after script plain pid (call_bind script plain pid fd path) (Val (pos 0))
    bind_done made led is_dir new after change stands bound after_is = by_led (bind_path plain.files.tree cwd path) refl led
      where
        same : (one other : ℕ) → ◌≡◌ {A = Result ℕ Errno} (Ok one) (Ok other) → other ≡ one
        same one other e = cc

        wrong : (errno : Errno) → ◌≡◌ {A = Result ℕ Errno} (Ok made) (Err errno) → ⊥
        wrong errno e = cc

        renamed_there : place ≤ length sockets
        renamed_there = placed_inside numbers.socks keyed sockets hold.held.opened.opened.socketed.renamed on.key there

        -- nobody waits for it, since it isn't connected
        nowhere : (listener : ℕ) → WaitsFor sockets listener place → ⊥
        nowhere listener waits =
            let socketed = hold.held.opened.opened.socketed in
            false≢true (sym (may_bind (socket_at sockets place) (fault_is ∙ fine)).1 ∙ waiting_connected numbers.socks keyed sockets socketed.renamed socketed.stands.linked listener place waits)

        by_led : (o : Result (ℕ × Tree) Errno) → bind_path plain.files.tree cwd path ≡ o → LedTo mid now plain.files.tree o (holders others plain.files) (Ok made)
            → AnswersNaming numbers others new kept now after script plain pid (call_bind script plain pid fd path) (Val (pos 0))
        by_led (Err errno) is at = absurd (wrong errno at.0)
        by_led (Ok (other, next)) is at =
            let makes : MakesName plain.files.tree next made =
            subst (MakesName plain.files.tree next) (same made other at.0) (bind_makes plain.files.tree cwd path other next hold.held.tree.is_tree is_dir is) in
            let named_files = files_named numbers others old mid kept fs now plain.files caches hold.held next made makes at.1 in
            let mid_keyed = named_files.opened.opened.socketed in
            let mid_there = keyed_there mid [] on.key (owners_beside old mid caches [] owners) (named_beside old mid on.key caches named) mid_keyed.keyed mid_keyed.stands in
            let have : HaveOpen numbers new kept (with_sockets (with_tree plain.files next) (with_name sockets place (Some made))) =
            have_after numbers mid new kept [] change (owners_beside old mid caches [] owners) (with_tree plain.files next) named_files.opened
            (with_name mid_keyed.keyed on.key (Some made)) (with_name sockets place (Some made)) (stands mid_keyed.keyed mid_keyed.stands)
            (name_renamed numbers.socks mid_keyed.keyed sockets on.key (Some made) mid_there mid_keyed.renamed) in
            record {
              files = with_sockets (with_tree plain.files next) (with_name sockets place (Some made));
              replies = bind_walked ∙ ap (bound_to script plain pid place) is
                  ∙ ap (λ n. replied script (with_files plain (with_sockets (with_tree plain.files next) (with_name sockets place (Some n)))) pid (Val (pos 0))) (same made other at.0);
              holds = record {
                held = files_resocketed numbers numbers others mid new kept now (with_tree plain.files next) (with_name sockets place (Some made)) change.others have named_files;
                bound = bound;
                named = bound_names plain.files next place made hold.named makes renamed_there nowhere;
                places = subst (λ n. n < length after) (sym (ap table_nodes makes.blocks)) (subst (λ (list : List (Option ℕ)). table_nodes plain.files.tree.blocks < length list) (sym after_is)
                    (let same_length = length-set names made (Some on.key) in let before = hold.places in omega (arith, same_length, before)));
              };
            }

-- ---- the node that is made has a place, and is free

pub led_makes : (mid : Heap) (now : TreeView) (tree : Tree) (cwd : ℕ) (path : List ℕ) (pins : ℕ → ℕ) (made : ℕ) → IsTree tree → is_directory tree cwd ≡ true → LedTo mid now tree (bind_path tree cwd path) pins (Ok made)
    → (next : Tree) × MakesName tree next made
led_makes mid now tree cwd path pins made is is_dir led = by_led (bind_path tree cwd path) refl led
  where
    same : (one other : ℕ) → ◌≡◌ {A = Result ℕ Errno} (Ok one) (Ok other) → other ≡ one
    same one other e = cc

    wrong : (errno : Errno) → ◌≡◌ {A = Result ℕ Errno} (Ok made) (Err errno) → ⊥
    wrong errno e = cc

    by_led : (o : Result (ℕ × Tree) Errno) → bind_path tree cwd path ≡ o → LedTo mid now tree o pins (Ok made) → (next : Tree) × MakesName tree next made
    by_led (Err errno) at leads = absurd (wrong errno leads.0)
    by_led (Ok (other, next)) at leads = (next, subst (MakesName tree next) (same made other leads.0) (bind_makes tree cwd path other next is is_dir at))

module _ (numbers : Numbers) (others : ℕ → ℕ) (old : Heap) (kept : TableView) (fs : TreeView) (names : List (Option ℕ)) (files : Files) (hold : HoldNames numbers others old kept fs names files) (next : Tree) (made : ℕ)
    (makes : MakesName files.tree next made) where
  pub made_place : made < length names
  made_place = let below = makes.within in let places = hold.places in omega (arith, below, places)

  pub made_free : object names made ≡ None
  made_free = by_key (object names made) refl
    where
      by_key : (o : Option ℕ) → object names made ≡ o → o ≡ None
      by_key None is = refl
      by_key (Some key) is = absurd (
          let socketed = hold.held.opened.opened.socketed in
          let has : node_of socketed.keyed key ≡ Some made = sym (name_says old socketed.keyed socketed.stands.table key) ∙ hold.bound.bound made key is in
          let place = placed_node numbers.socks socketed.keyed files.sockets socketed.renamed key (node_there socketed.keyed key made has) in
          false≢true (sym makes.unnamed ∙ hold.named.bound (numbers.socks key) made (place ∙ has) (λ none. none_is none)))
