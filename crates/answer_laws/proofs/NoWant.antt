-- What the tree and the queues refuse is never ENOMEM.
use Rattle.std.proofs.Common.{◌≢◌, ℕ, ◌==◌, ◌&&◌, ◌||◌, not, nat_le, nat_lt, ℤ, Bool, true, false, cond, List, [], ◌∷◌, length, Option, None, Some, is_some, is_none, Result, Ok, Err}
use Rattle.std.specs.Str.{bytes_eq}
use Rattle.std.specs.Option.{ok_or}
use Rattle.kabi_types.specs.PathParts.{components}
use Rattle.kabi_types.specs.declared.scripts.Program.{Program}
use Rattle.kabi_types.specs.declared.errnos.Errno.{Errno}
use Rattle.kabi_types.specs.declared.errnos.Errno.TheVariants as errno
use Rattle.posix_defs.specs.declared.walked.Walked.{Walked}
use Rattle.posix_defs.specs.declared.walked.Walked.TheVariants as walked
use Rattle.posix_defs.specs.DiskContents.{own_name, parent_name}
use Rattle.posix_defs.specs.DiskFormat.{blocks_of, greatest_size}
use Rattle.posix_defs.specs.FileBytes.{fitting}
use Rattle.posix_defs.specs.Tree.{Content, File, Directory, SocketName, Fifo, Tree, found, free_node, is_directory, links_at, parent_at, size_of}
use Rattle.posix_defs.specs.TreeChanges.{blocks_for, link, make, make_at, most_links, resize, takes_entry, write}
use Rattle.posix_defs.specs.Paths.{begins_at, ends_in_slash, go_on, last_leads, leads, name_leads, on_from, resolve, step}
use Rattle.posix_defs.specs.PathCalls.{Opening, bind_led, bind_path, ends_in, enter_path, entered, exec_found, exec_path, find_socket, goes_below, is_empty, is_fifo, is_socket, link_from, link_path, link_to, mkdir_led, mkdir_path, mkfifo_led, mkfifo_path, node_led, open_led, open_path, open_there, rename_away, rename_led, rename_named, rename_onto, rename_path, rename_root, rmdir_led, rmdir_path, socket_found, stat_found, stat_path, unless, unlink_led, unlink_path}
use Rattle.posix_defs.specs.Calls.OnFiles.{fifo_fault, is_for_both, most_opens}
use Rattle.posix_defs.specs.Files.Descriptions.{access_of, has_flag, may_write, o_nonblock}
use Rattle.posix_defs.specs.Pipe.{Fails, Moving, Pipe, free_in, not_now, opens_of, pipe_read, pipe_write, whole}
use Rattle.posix_defs.specs.Socket.{Accepting, Connected, Idle, Listening, Refuses, Socket, Stage, accept, bind_fault, connect_fault, first_waiting, is_connected, is_shut_read, listen_fault, shutdown_fault}
use Rattle.posix_defs.specs.Sockets.{Sockets, free_at, read_in_stage, sock_read, sock_write, socket_at, stage_at, write_in_stage, write_to, write_within, writes_no_more}

-- another errno
abbrev pub IsOther : Errno → Type 0
IsOther e = e ≢ errno.ENOMEM

-- a result that isn't ENOMEM
abbrev pub IsNoWant : {A : Type 0} → Result A Errno → Type 0
IsNoWant (Ok x) = Unit {0}
IsNoWant (Err e) = IsOther e

abbrev IsNoWantWalk : Walked → Type 0
IsNoWantWalk (walked.Fail e) = IsOther e
IsNoWantWalk _ = Unit {0}

abbrev pub IsNoWantMove : Moving → Type 0
IsNoWantMove (Fails e) = IsOther e
IsNoWantMove _ = Unit {0}

abbrev pub IsNoWantFault : Option Errno → Type 0
IsNoWantFault None = Unit {0}
IsNoWantFault (Some e) = IsOther e

abbrev pub IsNoWantAccept : Accepting → Type 0
IsNoWantAccept (Refuses e) = IsOther e
IsNoWantAccept _ = Unit {0}

pub no_unless : {A : Type 0} (bad : Bool) (e : Errno) (further : Result A Errno) → IsOther e → IsNoWant further → IsNoWant (unless bad e further)
no_unless true e further other rest = other
no_unless false e further other rest = rest

no_either : {A : Type 0} (b : Bool) (one two : Result A Errno) → IsNoWant one → IsNoWant two → IsNoWant (cond b one two)
no_either true one two this that = this
no_either false one two this that = that

-- ---- walks

on_from_no : (tree : Tree) (o : Option ℕ) → IsNoWant (on_from tree o)
on_from_no tree None = λ e. cc
on_from_no tree (Some number) = no_either (is_directory tree number) (Ok number) (Err errno.ENOTDIR) tt (λ e. cc)

step_no : (tree : Tree) (dir : ℕ) (name : List ℕ) → IsNoWant (step tree dir name)
step_no tree dir name =
    no_either (bytes_eq name own_name) (Ok dir) (cond (bytes_eq name parent_name) (Ok (parent_at tree dir)) (on_from tree (found tree dir name))) tt
    (no_either (bytes_eq name parent_name) (Ok (parent_at tree dir)) (on_from tree (found tree dir name)) tt (on_from_no tree (found tree dir name)))

either_walk : (b : Bool) (one two : Walked) → IsNoWantWalk one → IsNoWantWalk two → IsNoWantWalk (cond b one two)
either_walk true one two this that = this
either_walk false one two this that = that

name_no : (tree : Tree) (dir : ℕ) (name : List ℕ) (slashed : Bool) (o : Option ℕ) → IsNoWantWalk (name_leads tree dir name slashed o)
name_no tree dir name slashed None = tt
name_no tree dir name slashed (Some number) = either_walk (slashed && not (is_directory tree number)) (walked.Fail errno.ENOTDIR) (walked.Named dir name number slashed) (λ e. cc) tt

last_no : (tree : Tree) (dir : ℕ) (name : List ℕ) (slashed : Bool) → IsNoWantWalk (last_leads tree dir name slashed)
last_no tree dir name slashed =
    either_walk (bytes_eq name own_name) (walked.Node dir) (cond (bytes_eq name parent_name) (walked.Node (parent_at tree dir)) (name_leads tree dir name slashed (found tree dir name))) tt
    (either_walk (bytes_eq name parent_name) (walked.Node (parent_at tree dir)) (name_leads tree dir name slashed (found tree dir name)) tt (name_no tree dir name slashed (found tree dir name)))

go_on_no : (r : Result ℕ Errno) (on : ℕ → Walked) → IsNoWant r → ((to : ℕ) → IsNoWantWalk (on to)) → IsNoWantWalk (go_on r on)
go_on_no (Ok to) on fine rest = rest to
go_on_no (Err e) on fine rest = fine

leads_no : (tree : Tree) (slashed : Bool) (dir : ℕ) (names : List (List ℕ)) → IsNoWantWalk (leads tree slashed dir names)
leads_no tree slashed dir [] = tt
leads_no tree slashed dir (name ∷ []) = last_no tree dir name slashed
leads_no tree slashed dir (name ∷ next ∷ names) =
    go_on_no (step tree dir name) (λ to. leads tree slashed to (next ∷ names)) (step_no tree dir name) (λ to. leads_no tree slashed to (next ∷ names))

walk_no : (tree : Tree) (start : ℕ) (path : List ℕ) → IsNoWantWalk (resolve tree start path)
walk_no tree start path = leads_no tree (ends_in_slash path) (begins_at start path) (components path)

node_no : (led : Walked) → IsNoWantWalk led → IsNoWant (node_led led)
node_no (walked.Node number) fine = tt
node_no (walked.Named dir name number slashed) fine = tt
node_no (walked.Free dir name slashed) fine = λ e. cc
node_no (walked.Fail e) fine = fine

-- ---- files

pub write_no : (tree : Tree) (number at : ℕ) (bytes : List ℕ) → IsNoWant (write tree number at bytes)
write_no tree number at bytes =
    no_either (nat_le greatest_size at) (Err errno.EFBIG) (cond (fitting (blocks_for tree number) at (length bytes) == 0) (Err errno.ENOSPC) _) (λ e. cc)
    (no_either (fitting (blocks_for tree number) at (length bytes) == 0) (Err errno.ENOSPC) _ (λ e. cc) tt)

pub resize_no : (tree : Tree) (number size : ℕ) → IsNoWant (resize tree number size)
resize_no tree number size =
    no_either (nat_lt greatest_size size) (Err errno.EFBIG) (cond (nat_lt (blocks_for tree number) (blocks_of size)) (Err errno.ENOSPC) _) (λ e. cc)
    (no_either (nat_lt (blocks_for tree number) (blocks_of size)) (Err errno.ENOSPC) _ (λ e. cc) tt)

make_no : (tree : Tree) (dir : ℕ) (name : List ℕ) (content : Content) → IsNoWant (make tree dir name content)
make_no tree dir name content = go (free_node tree)
  where
    go : (o : Option ℕ) → IsNoWant (make_at tree dir name content o)
    go None = λ e. cc
    go (Some number) = no_either (takes_entry tree dir (blocks_of (size_of content))) _ (Err errno.ENOSPC) tt (λ e. cc)

link_no : (tree : Tree) (dir : ℕ) (name : List ℕ) (number : ℕ) → IsNoWant (link tree dir name number)
link_no tree dir name number =
    no_either (links_at tree number == most_links) (Err errno.EMLINK) (cond (takes_entry tree dir 0) _ (Err errno.ENOSPC)) (λ e. cc)
    (no_either (takes_entry tree dir 0) _ (Err errno.ENOSPC) tt (λ e. cc))

-- ---- calls on paths

pub stat_no : (tree : Tree) (cwd : ℕ) (path : List ℕ) → IsNoWant (stat_path tree cwd path)
stat_no tree cwd path = go (node_led (resolve tree cwd path)) (node_no (resolve tree cwd path) (walk_no tree cwd path))
  where
    go : (r : Result ℕ Errno) → IsNoWant r → IsNoWant (stat_found tree r)
    go (Ok number) fine = tt
    go (Err e) fine = fine

pub enter_no : (tree : Tree) (cwd : ℕ) (path : List ℕ) → IsNoWant (enter_path tree cwd path)
enter_no tree cwd path = go (node_led (resolve tree cwd path)) (node_no (resolve tree cwd path) (walk_no tree cwd path))
  where
    go : (r : Result ℕ Errno) → IsNoWant r → IsNoWant (entered tree r)
    go (Ok number) fine = no_unless (not (is_directory tree number)) errno.ENOTDIR (Ok number) (λ e. cc) tt
    go (Err e) fine = fine

pub find_no : (tree : Tree) (cwd : ℕ) (path : List ℕ) → IsNoWant (find_socket tree cwd path)
find_no tree cwd path = go (node_led (resolve tree cwd path)) (node_no (resolve tree cwd path) (walk_no tree cwd path))
  where
    go : (r : Result ℕ Errno) → IsNoWant r → IsNoWant (socket_found tree r)
    go (Ok number) fine = tt
    go (Err e) fine = fine

there_no : (tree : Tree) (how : Opening) (number : ℕ) → IsNoWant (open_there tree how number)
there_no tree how number =
    no_unless (how.creates && how.excludes) errno.EEXIST _ (λ e. cc)
    (no_unless (is_directory tree number && (how.writes || how.creates)) errno.EISDIR _ (λ e. cc)
    (no_unless (is_socket tree number) errno.EOPNOTSUPP _ (λ e. cc) tt))

pub open_no : (tree : Tree) (cwd : ℕ) (path : List ℕ) (how : Opening) → IsNoWant (open_path tree cwd path how)
open_no tree cwd path how = go (resolve tree cwd path) (walk_no tree cwd path)
  where
    go : (led : Walked) → IsNoWantWalk led → IsNoWant (open_led tree how led)
    go (walked.Node number) fine = there_no tree how number
    go (walked.Named dir name number slashed) fine = there_no tree how number
    go (walked.Free dir name slashed) fine = no_unless (not how.creates || slashed) errno.ENOENT (make tree dir name (File [])) (λ e. cc) (make_no tree dir name (File []))
    go (walked.Fail e) fine = fine

pub fifo_fault_no : (pipe : Pipe) (flags : ℤ) → IsNoWantFault (fifo_fault pipe flags)
fifo_fault_no pipe flags = go (is_for_both (access_of flags)) (may_write (access_of flags) && has_flag flags o_nonblock && (pipe.readers == 0)) (nat_le most_opens (opens_of pipe (may_write (access_of flags))))
  where
    go : (both nobody often : Bool) → IsNoWantFault (cond both (Some errno.EINVAL) (cond nobody (Some errno.ENXIO) (cond often (Some errno.EAGAIN) None)))
    go true nobody often = λ e. cc
    go false true often = λ e. cc
    go false false true = λ e. cc
    go false false false = tt

pub mkdir_no : (tree : Tree) (cwd : ℕ) (path : List ℕ) → IsNoWant (mkdir_path tree cwd path)
mkdir_no tree cwd path = go (resolve tree cwd path) (walk_no tree cwd path)
  where
    go : (led : Walked) → IsNoWantWalk led → IsNoWant (mkdir_led tree led)
    go (walked.Node number) fine = λ e. cc
    go (walked.Named dir name number slashed) fine = λ e. cc
    go (walked.Free dir name slashed) fine = make_no tree dir name (Directory dir [])
    go (walked.Fail e) fine = fine

pub bind_no : (tree : Tree) (cwd : ℕ) (path : List ℕ) → IsNoWant (bind_path tree cwd path)
bind_no tree cwd path = go (resolve tree cwd path) (walk_no tree cwd path)
  where
    go : (led : Walked) → IsNoWantWalk led → IsNoWant (bind_led tree led)
    go (walked.Node number) fine = λ e. cc
    go (walked.Named dir name number slashed) fine = λ e. cc
    go (walked.Free dir name slashed) fine = no_unless slashed errno.ENOENT (make tree dir name SocketName) (λ e. cc) (make_no tree dir name SocketName)
    go (walked.Fail e) fine = fine

pub mkfifo_no : (tree : Tree) (cwd : ℕ) (path : List ℕ) → IsNoWant (mkfifo_path tree cwd path)
mkfifo_no tree cwd path = go (resolve tree cwd path) (walk_no tree cwd path)
  where
    go : (led : Walked) → IsNoWantWalk led → IsNoWant (mkfifo_led tree led)
    go (walked.Node number) fine = λ e. cc
    go (walked.Named dir name number slashed) fine = λ e. cc
    go (walked.Free dir name slashed) fine = no_unless slashed errno.ENOENT (make tree dir name Fifo) (λ e. cc) (make_no tree dir name Fifo)
    go (walked.Fail e) fine = fine

pub rmdir_no : (tree : Tree) (cwd : ℕ) (path : List ℕ) (busy : ℕ → Bool) → IsNoWant (rmdir_path tree cwd path busy)
rmdir_no tree cwd path busy =
    no_unless (ends_in own_name path) errno.EINVAL _ (λ e. cc) (no_unless (ends_in parent_name path) errno.ENOTEMPTY _ (λ e. cc) (go (resolve tree cwd path) (walk_no tree cwd path)))
  where
    go : (led : Walked) → IsNoWantWalk led → IsNoWant (rmdir_led tree busy led)
    go (walked.Node number) fine = λ e. cc
    go (walked.Named dir name number slashed) fine =
        no_unless (not (is_directory tree number)) errno.ENOTDIR _ (λ e. cc)
        (no_unless (not (is_empty tree number)) errno.ENOTEMPTY _ (λ e. cc) (no_unless (busy number) errno.EBUSY _ (λ e. cc) tt))
    go (walked.Free dir name slashed) fine = λ e. cc
    go (walked.Fail e) fine = fine

pub unlink_no : (tree : Tree) (cwd : ℕ) (path : List ℕ) (opened : ℕ → Bool) → IsNoWant (unlink_path tree cwd path opened)
unlink_no tree cwd path opened = go (resolve tree cwd path) (walk_no tree cwd path)
  where
    go : (led : Walked) → IsNoWantWalk led → IsNoWant (unlink_led tree opened led)
    go (walked.Node number) fine = λ e. cc
    go (walked.Named dir name number slashed) fine = no_unless (is_directory tree number) errno.EPERM _ (λ e. cc) tt
    go (walked.Free dir name slashed) fine = λ e. cc
    go (walked.Fail e) fine = fine

pub links_no : (tree : Tree) (cwd : ℕ) (old new : List ℕ) → IsNoWant (link_path tree cwd old new)
links_no tree cwd old new = go (node_led (resolve tree cwd old)) (node_no (resolve tree cwd old) (walk_no tree cwd old))
  where
    to : (number : ℕ) (led : Walked) → IsNoWantWalk led → IsNoWant (link_to tree number led)
    to number (walked.Node other) fine = λ e. cc
    to number (walked.Named dir name other slashed) fine = λ e. cc
    to number (walked.Free dir name slashed) fine = no_unless slashed errno.ENOENT (link tree dir name number) (λ e. cc) (link_no tree dir name number)
    to number (walked.Fail e) fine = fine

    go : (r : Result ℕ Errno) → IsNoWant r → IsNoWant (link_from tree r (resolve tree cwd new))
    go (Ok number) fine = no_unless (is_directory tree number) errno.EPERM _ (λ e. cc) (to number (resolve tree cwd new) (walk_no tree cwd new))
    go (Err e) fine = fine

module _ (tree : Tree) (opened busy : ℕ → Bool) where
  onto_no : (dir : ℕ) (name : List ℕ) (number to : ℕ) (new : List ℕ) (replaced : ℕ) → IsNoWant (rename_onto tree opened busy dir name number to new replaced)
  onto_no dir name number to new replaced =
      no_either (number == replaced) _ _ tt
      (no_unless (is_directory tree replaced && not (is_directory tree number)) errno.EISDIR _ (λ e. cc)
      (no_unless (is_directory tree number && not (is_directory tree replaced)) errno.ENOTDIR _ (λ e. cc)
      (no_unless (is_directory tree replaced && not (is_empty tree replaced)) errno.ENOTEMPTY _ (λ e. cc)
      (no_unless (is_directory tree replaced && busy replaced) errno.EBUSY _ (λ e. cc) tt))))

  away_no : (dir : ℕ) (name : List ℕ) (number to : ℕ) (new : List ℕ) (slashed : Bool) → IsNoWant (rename_away tree dir name number to new slashed)
  away_no dir name number to new slashed =
      no_unless (slashed && not (is_directory tree number)) errno.ENOTDIR _ (λ e. cc)
      (no_unless (not (dir == to) && not (takes_entry tree to 0)) errno.ENOSPC _ (λ e. cc) tt)

  named_no : (dir : ℕ) (name : List ℕ) (number : ℕ) (led : Walked) → IsNoWantWalk led → IsNoWant (rename_named tree opened busy dir name number led)
  named_no dir name number (walked.Node other) fine = λ e. cc
  named_no dir name number (walked.Named to new replaced slashed) fine = no_unless (goes_below tree number to) errno.EINVAL _ (λ e. cc) (onto_no dir name number to new replaced)
  named_no dir name number (walked.Free to new slashed) fine = no_unless (goes_below tree number to) errno.EINVAL _ (λ e. cc) (away_no dir name number to new slashed)
  named_no dir name number (walked.Fail e) fine = fine

  root_no : (led : Walked) → IsNoWantWalk led → IsNoWant (rename_root led)
  root_no (walked.Node number) fine = λ e. cc
  root_no (walked.Named dir name number slashed) fine = λ e. cc
  root_no (walked.Free dir name slashed) fine = λ e. cc
  root_no (walked.Fail e) fine = fine

  renamed_no : (old new : Walked) → IsNoWantWalk old → IsNoWantWalk new → IsNoWant (rename_led tree opened busy old new)
  renamed_no (walked.Node number) new fine fine_new = root_no new fine_new
  renamed_no (walked.Named dir name number slashed) new fine fine_new = named_no dir name number new fine_new
  renamed_no (walked.Free dir name slashed) new fine fine_new = λ e. cc
  renamed_no (walked.Fail e) new fine fine_new = fine

  pub rename_no : (cwd : ℕ) (old new : List ℕ) → IsNoWant (rename_path tree cwd old new opened busy)
  rename_no cwd old new = renamed_no (resolve tree cwd old) (resolve tree cwd new) (walk_no tree cwd old) (walk_no tree cwd new)

pub exec_no : (tree : Tree) (cwd : ℕ) (path : List ℕ) (programs : List Program) → IsNoWant (exec_path tree cwd path programs)
exec_no tree cwd path programs = go (node_led (resolve tree cwd path)) (node_no (resolve tree cwd path) (walk_no tree cwd path))
  where
    placed : (o : Option ℕ) → IsNoWant (ok_or o errno.ENOEXEC)
    placed None = λ e. cc
    placed (Some place) = tt

    go : (r : Result ℕ Errno) → IsNoWant r → IsNoWant (exec_found tree programs r)
    go (Ok number) fine = no_unless (is_directory tree number || is_socket tree number || is_fifo tree number) errno.EACCES _ (λ e. cc) (placed _)
    go (Err e) fine = fine

-- ---- queues

either_move : (b : Bool) (one two : Moving) → IsNoWantMove one → IsNoWantMove two → IsNoWantMove (cond b one two)
either_move true one two this that = this
either_move false one two this that = that

not_now_no : (nonblock : Bool) → IsNoWantMove (not_now nonblock)
not_now_no true = λ e. cc
not_now_no false = tt

pub pipe_read_no : (pipe : Pipe) (nonblock : Bool) (n : ℕ) → IsNoWantMove (pipe_read pipe nonblock n)
pipe_read_no pipe nonblock n =
    either_move (nat_lt 0 (length pipe.bytes)) _ _ tt (either_move (pipe.writers == 0) _ _ tt (not_now_no nonblock))

pub pipe_write_no : (pipe : Pipe) (nonblock : Bool) (n m : ℕ) → IsNoWantMove (pipe_write pipe nonblock n m)
pipe_write_no pipe nonblock n m =
    either_move (pipe.readers == 0) _ _ (λ e. cc)
    (either_move (nat_le n whole) _ _ (either_move (nat_le n (free_in pipe)) _ _ tt (not_now_no nonblock))
    (either_move (nat_le m (free_in pipe)) _ _ tt (either_move (free_in pipe == 0) _ _ (not_now_no nonblock) tt)))

pub sock_read_no : (sockets : Sockets) (place : ℕ) (nonblock : Bool) (n : ℕ) → IsNoWantMove (sock_read sockets place nonblock n)
sock_read_no sockets place nonblock n = go (stage_at sockets place) (socket_at sockets place).bytes
  where
    go : (stage : Stage) (bytes : List ℕ) → IsNoWantMove (read_in_stage sockets stage bytes nonblock n)
    go Idle bytes = λ e. cc
    go (Listening waiting) bytes = λ e. cc
    go (Connected peer shut_read shut_write) bytes =
        either_move shut_read _ _ tt (either_move (nat_lt 0 (length bytes)) _ _ tt (either_move (writes_no_more sockets peer) _ _ tt (not_now_no nonblock)))

within_no : (free : ℕ) (nonblock : Bool) (m : ℕ) → IsNoWantMove (write_within free nonblock m)
within_no free nonblock m = either_move (nat_le m free) _ _ tt (either_move (free == 0) _ _ (not_now_no nonblock) tt)

pub sock_write_no : (sockets : Sockets) (place : ℕ) (nonblock : Bool) (m : ℕ) → IsNoWantMove (sock_write sockets place nonblock m)
sock_write_no sockets place nonblock m = go (stage_at sockets place)
  where
    to : (peer : Option ℕ) → IsNoWantMove (write_to sockets peer nonblock m)
    to None = λ e. cc
    to (Some peer) = either_move (is_shut_read (stage_at sockets peer)) (Fails errno.EPIPE) (write_within (free_at sockets peer) nonblock m) (λ e. cc) (within_no (free_at sockets peer) nonblock m)

    go : (stage : Stage) → IsNoWantMove (write_in_stage sockets stage nonblock m)
    go Idle = λ e. cc
    go (Listening waiting) = λ e. cc
    go (Connected peer shut_read shut_write) = either_move shut_write _ _ (λ e. cc) (to peer)

-- ---- sockets

either_fault : (b : Bool) (one two : Option Errno) → IsNoWantFault one → IsNoWantFault two → IsNoWantFault (cond b one two)
either_fault true one two this that = this
either_fault false one two this that = that

pub bind_fault_no : (socket : Socket) → IsNoWantFault (bind_fault socket)
bind_fault_no socket = either_fault (is_some socket.node) _ _ (λ e. cc) (either_fault (is_connected socket.stage) _ _ (λ e. cc) tt)

pub listen_fault_no : (socket : Socket) → IsNoWantFault (listen_fault socket)
listen_fault_no socket = either_fault (is_connected socket.stage) _ _ (λ e. cc) (either_fault (is_none socket.node) _ _ (λ e. cc) tt)

pub connect_fault_no : (stage : Stage) → IsNoWantFault (connect_fault stage)
connect_fault_no Idle = tt
connect_fault_no (Listening waiting) = λ e. cc
connect_fault_no (Connected peer shut_read shut_write) = λ e. cc

pub shutdown_fault_no : (stage : Stage) → IsNoWantFault (shutdown_fault stage)
shutdown_fault_no stage = either_fault (is_connected stage) _ _ tt (λ e. cc)

pub accept_no : (stage : Stage) (room nonblock : Bool) → IsNoWantAccept (accept stage room nonblock)
accept_no Idle room nonblock = λ e. cc
accept_no (Connected peer shut_read shut_write) room nonblock = λ e. cc
accept_no (Listening waiting) true nonblock = go waiting nonblock
  where
    go : (waiting : List ℕ) (nonblock : Bool) → IsNoWantAccept (first_waiting waiting nonblock)
    go [] true = λ e. cc
    go [] false = tt
    go (first ∷ rest) nonblock = tt
accept_no (Listening waiting) false nonblock = λ e. cc
