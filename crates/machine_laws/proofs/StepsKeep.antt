-- Whatever step files take, the tree keeps what a tree has to, and what descriptions and sockets name of it is there.
use Rattle.std.proofs.Common.{◌≡◌, ℕ, ◌+◌, ◌-◌, ◌%◌, ◌≤◌, ℤ, Bool, true, false, cond, List, [], ◌∷◌, ◌++◌, length, take, drop, Option, None, Some, IsSome, is_some, slice_set, Ok, refl, ap, sym, ◌∙◌, subst, inl, inr, arith, Contains, length-append}
use Rattle.std.specs.List.{list_any}
use Rattle.std.specs.Option.{option_and_then}
use Rattle.std.proofs.lemmas.List.Elements.{All-append, All-drop, All-nil, All-take}
use Rattle.kabi_types.specs.Arguments.{argument_fault, count_of}
use Rattle.kabi_types.specs.declared.calls.Call.{Call}
use Rattle.kabi_types.specs.declared.calls.Call.TheVariants as calls
use Rattle.posix_defs.specs.Ending.{closed_by}
use Rattle.posix_defs.specs.FileBytes.{overwritten, resized}
use Rattle.posix_defs.specs.IsTree.{IsTree}
use Rattle.posix_defs.specs.PathCalls.{bind_path, is_fifo, is_socket, is_socket_kind, kind_in, open_path}
use Rattle.posix_defs.specs.Pipe.{Pipe, after_read, after_write, fifo_of, new_pipe, unopened, with_end}
use Rattle.posix_defs.specs.Plain.{Plain}
use Rattle.posix_defs.specs.Process.{directory_of, memory_of}
use Rattle.posix_defs.specs.Socket.{Socket, Stage, after_shutdown, connected_to, listening, new_socket, peer_of, shuts_reading, without_first}
use Rattle.posix_defs.specs.SocketLinks.{AreNamedOnce}
use Rattle.posix_defs.specs.Sockets.{Sockets, after_accept, after_connect, after_listen, after_read as sock_after_read, after_shut, after_write as sock_after_write, sent_to, sock_at, socket_at, stage_at, with_name, with_new, with_pair, with_socket}
use Rattle.posix_defs.specs.Tree.{Node, Tree, is_directory, is_in_use, node_at}
use Rattle.posix_defs.specs.TreeChanges.{resize, write}
use Rattle.posix_defs.specs.Files.Descriptions.{OnNode, OnPipe, OnSocket, Description, Descriptions, access_of, may_write, with_description}
use Rattle.posix_defs.specs.Files.SocketNames.{after_freeing, listener_at}
use Rattle.posix_defs.specs.Files.State.{Files, opens, pipe_at, with_sockets, with_tree}
use Rattle.posix_defs.specs.Reaching.{paths_of}
use Rattle.posix_defs.specs.Files.Closing.{after_close as after_close_of, after_exec_of}
use Rattle.posix_defs.specs.Calls.Opened.{Opened, opened_at}
use Rattle.posix_defs.specs.Calls.OnFiles.{description_for, description_on, fifo_at, opening_of}
use Rattle.posix_defs.specs.Calls.OnNames.{is_busy, works_in}
use Rattle.posix_defs.specs.Calls.OnSockets.{description_of}
use Rattle.posix_defs.specs.Calls.Writing.{bytes_left}
use Rattle.posix_defs.proofs.TreeNodes.{directory_in_use}
use Rattle.socket_laws.proofs.ListenerLemmas.{Listens, listener_is}
use Rattle.socket_laws.proofs.SocketCalls.{listening_there}
use Rattle.socket_laws.proofs.SocketLaws.{peer_there}
use Rattle.socket_laws.proofs.SocketNames.{accept_once, connect_once, listen_once, named_once, new_once, pair_once, read_once, shut_once, write_once}
use Rattle.socket_laws.proofs.SocketTable.{there_within as sock_within, with-length}
use Rattle.tree_laws.proofs.CallsKeep.{bind_path_keeps, link_path_keeps, mkdir_path_keeps, mkfifo_path_keeps, open_path_keeps, rename_path_keeps, rmdir_path_keeps, unlink_path_keeps}
use Rattle.tree_laws.proofs.FileKeeps.{resize_keeps, wrote, write_keeps}
use Rattle.machine_laws.specs.FileSteps as step
use Rattle.machine_laws.specs.FileSteps.{IsStep, OpensEnd, WritesNode}
use Rattle.machine_laws.proofs.Places.{naming, not_some, some_same}
use Rattle.machine_laws.specs.Bytes.{AreBytes, HasMemoryBytes}
use Rattle.machine_laws.specs.Texts.{ArePathBytes}
use Rattle.machine_laws.specs.Piped.{ArePiped, pipe_in}
use Rattle.machine_laws.proofs.FifoEnds.{fifo_held}
use Rattle.machine_laws.proofs.FifoPlaces.{end_fifo, fifo_at_none, fifo_in, fifo_node, node_fifo, not_zero, pushed_fifos, same_fifos}
use Rattle.machine_laws.proofs.Closings.{anybody, close_holds, closed_by_holds, exec_holds}
use Rattle.machine_laws.proofs.Items.{pushed_is, true_false}
use Rattle.machine_laws.proofs.Joining.{Joined}
use Rattle.machine_laws.proofs.MovedBytes.{loaded_bytes}
use Rattle.machine_laws.proofs.Named.{on_named}
use Rattle.machine_laws.proofs.NodesAfter.{Binds, Opened as OpenedTree, Opens, Turns, bind_is, bytes_look, link_path_turns, mkdir_turns, mkfifo_turns, open_is, rename_path_turns, rmdir_turns, turns_of, unlink_path_turns}
use Rattle.machine_laws.proofs.Openers.{by_opener, opener_busy, opens_by, works_busy}
use Rattle.machine_laws.proofs.Rooting.{IsOpened, IsWell, Rooted, begun_rooted, connect_each, described_rooted, new_well, pushed_rooted, put_each, repiped_rooted, resocketed_rooted, stage_each, staged_well, turned_rooted}
use Rattle.machine_laws.proofs.PipeBytes.{HasPipeBytes, IsByte, pipe_bytes, piped_bytes, some_bytes}
use Rattle.machine_laws.proofs.ClosingKeeps.{Kept, kept_closed}
use Rattle.machine_laws.proofs.CallFacts.{file_at, link_path_fault, open_path_fault, read_only, rename_path_fault, resized_is}

-- what a step leaves
pub record After (plain : Plain) (next : Files) : Type 0 where
  pub rooted : Rooted next.descriptions next.tree next.sockets next.pipes
  pub pipes : HasPipeBytes next.pipes
  pub directories : (n : ℕ) → is_directory plain.files.tree n ≡ true → list_any (works_in n) plain.table ≡ true → is_directory next.tree n ≡ true
  -- what is opened and is no directory isn't one afterwards
  pub kinds : (n : ℕ) → opens plain.files n ≡ true → is_in_use plain.files.tree n ≡ true → is_socket plain.files.tree n ≡ false → is_directory plain.files.tree n ≡ false → is_directory next.tree n ≡ false

-- the same, of files of which these are the parts
rooted_of : (files : Files) (descriptions : Descriptions) (tree : Tree) (sockets : Sockets) (pipes : List (Option Pipe)) → files.descriptions ≡ descriptions → files.tree ≡ tree → files.sockets ≡ sockets
    → files.pipes ≡ pipes → Rooted descriptions tree sockets pipes → Rooted files.descriptions files.tree files.sockets files.pipes
rooted_of files descriptions tree sockets pipes one two three four rooted =
    subst (λ d. Rooted d files.tree files.sockets files.pipes) (sym one) (subst (λ t. Rooted descriptions t files.sockets files.pipes) (sym two)
    (subst (λ s. Rooted descriptions tree s files.pipes) (sym three) (subst (Rooted descriptions tree sockets) (sym four) rooted)))

module _ (plain : Plain) (rooted : Rooted plain.files.descriptions plain.files.tree plain.files.sockets plain.files.pipes) (pipes : HasPipeBytes plain.files.pipes)
    (joined : Joined plain.files.descriptions plain.files.sockets) (piped : ArePiped plain.files.descriptions plain.files.pipes) where
  now_kept : Kept plain.files.tree plain.files
  now_kept = record { rooted = rooted; pipes = pipes; joined = joined; piped = piped; directories = λ n dir. dir; kinds = λ n none. none }

  kept_after : (files : Files) → Kept plain.files.tree files → After plain files
  kept_after files kept = record { rooted = kept.rooted; pipes = kept.pipes; directories = λ n dir lives. kept.directories n dir; kinds = λ n opened used socket none. kept.kinds n none }

  pub exec_after : (pid : ℕ) → After plain (after_exec_of plain.files pid)
  exec_after pid = kept_after (after_exec_of plain.files pid) (exec_holds anybody (Kept plain.files.tree) (kept_closed plain.files.tree) plain.files pid tt now_kept)

  pub closed_after : (pid : ℕ) → After plain (closed_by plain.files pid)
  closed_after pid = kept_after (closed_by plain.files pid) (closed_by_holds anybody (Kept plain.files.tree) (kept_closed plain.files.tree) plain.files pid (λ other. tt) now_kept)

  close_after : (pid fd : ℕ) → After plain (after_close_of plain.files pid fd)
  close_after pid fd = kept_after (after_close_of plain.files pid fd) (close_holds anybody (Kept plain.files.tree) (kept_closed plain.files.tree) plain.files pid fd tt now_kept)

module _ (plain : Plain) (pid : ℕ) (call : Call) (next : Files) (rooted : Rooted plain.files.descriptions plain.files.tree plain.files.sockets plain.files.pipes) (pipes : HasPipeBytes plain.files.pipes)
    (joined : Joined plain.files.descriptions plain.files.sockets) (piped : ArePiped plain.files.descriptions plain.files.pipes) (memory : HasMemoryBytes (memory_of plain.table pid)) (cwd : is_directory plain.files.tree (directory_of plain.table pid) ≡ true)
    (fault : argument_fault call ≡ None) (paths : (path : List ℕ) → Contains (paths_of call) path → ArePathBytes path) where
  by : (after : Files) → next ≡ after → After plain after → After plain next
  by after is holds = subst (After plain) (sym is) holds

  -- descriptors alone have changed
  same : (after : Files) → next ≡ after → after.descriptions ≡ plain.files.descriptions → after.tree ≡ plain.files.tree → after.sockets ≡ plain.files.sockets → after.pipes ≡ plain.files.pipes → After plain next
  same after is descriptions tree sockets pipes_same = by after is (record {
    rooted = rooted_of after plain.files.descriptions plain.files.tree plain.files.sockets plain.files.pipes descriptions tree sockets pipes_same rooted;
    pipes = subst HasPipeBytes (sym pipes_same) pipes;
    directories = λ n dir lives. ap (λ t. is_directory t n) tree ∙ dir;
    kinds = λ n opened used socket none. ap (λ t. is_directory t n) tree ∙ none;
  })

  -- descriptions, sockets and pipes have changed
  untreed : (after : Files) → next ≡ after → Rooted after.descriptions plain.files.tree after.sockets after.pipes → HasPipeBytes after.pipes → after.tree ≡ plain.files.tree → After plain next
  untreed after is left left_pipes tree = by after is (record {
    rooted = subst (λ t. Rooted after.descriptions t after.sockets after.pipes) (sym tree) left;
    pipes = left_pipes;
    directories = λ n dir lives. ap (λ t. is_directory t n) tree ∙ dir;
    kinds = λ n opened used socket none. ap (λ t. is_directory t n) tree ∙ none;
  })

  -- a description that a descriptor names is open on a node
  opened_node : (fd : ℤ) (opened : Opened) (number : ℕ) → opened_at plain.files pid fd ≡ Some opened → opened.is.target ≡ OnNode number → IsOpened plain.files.tree opened.is.access opened.is.offset number
  opened_node fd opened number named on = let naming_it = naming plain.files pid fd opened named in rooted.nodes opened.place number opened.is naming_it.there on

  described : (tree : Tree) (sockets : Sockets) → Rooted plain.files.descriptions tree sockets plain.files.pipes → (fd : ℤ) (opened : Opened) (now : Description) → opened_at plain.files pid fd ≡ Some opened → now.target ≡ opened.is.target → now.access ≡ opened.is.access
      → ((number : ℕ) → opened.is.target ≡ OnNode number → is_directory tree number ≡ true → opened.is.offset % 32 ≡ 0 → now.offset % 32 ≡ 0)
      → Rooted (with_description plain.files.descriptions opened.place (Some now)) tree sockets plain.files.pipes
  described tree sockets left fd opened now named target access between = let naming_it = naming plain.files pid fd opened named in
      described_rooted plain.files.descriptions tree sockets plain.files.pipes left opened.place opened.is now naming_it.there target access between

  -- ---- another tree

  turned : (after : Tree) (freed : Option ℕ) → IsTree after → Turns plain.files.tree after (opens plain.files) (is_busy plain) freed → Rooted plain.files.descriptions after (after_freeing plain.files.sockets freed) plain.files.pipes
  turned after freed is turns = turned_rooted plain.files.descriptions plain.files.tree after plain.files.sockets plain.files.pipes (opens plain.files) (is_busy plain) freed rooted is turns
      (opens_by plain.files) (by_opener plain.files) (opener_busy plain) (fifo_held plain.files.descriptions plain.files.pipes piped)

  turned_directories : (after : Tree) (freed : Option ℕ) → Turns plain.files.tree after (opens plain.files) (is_busy plain) freed
      → (n : ℕ) → is_directory plain.files.tree n ≡ true → list_any (works_in n) plain.table ≡ true → is_directory after n ≡ true
  turned_directories after freed turns n dir lives = elim (turns.each n (directory_in_use plain.files.tree n dir)) [
    | inl stays ↦ stays.directory ∙ dir
    | inr goes ↦ absurd (true_false (is_busy plain n) (works_busy plain n lives) (goes.directory dir))
  ]

  turned_kinds : (after : Tree) (freed : Option ℕ) → Turns plain.files.tree after (opens plain.files) (is_busy plain) freed
      → (n : ℕ) → opens plain.files n ≡ true → is_in_use plain.files.tree n ≡ true → is_socket plain.files.tree n ≡ false → is_directory plain.files.tree n ≡ false → is_directory after n ≡ false
  turned_kinds after freed turns n opened used socket none = elim (turns.each n used) [
    | inl stays ↦ stays.directory ∙ none
    | inr goes ↦ absurd (true_false (opens plain.files n) opened (goes.file none socket))
  ]

  retreed : (after : Tree) (files : Files) → next ≡ files → IsTree after → Turns plain.files.tree after (opens plain.files) (is_busy plain) None
      → files.descriptions ≡ plain.files.descriptions → files.tree ≡ after → files.sockets ≡ plain.files.sockets → files.pipes ≡ plain.files.pipes → After plain next
  retreed after files is tree_is turns descriptions tree sockets pipes_same = by files is (record {
    rooted = rooted_of files plain.files.descriptions after plain.files.sockets plain.files.pipes descriptions tree sockets pipes_same (turned after None tree_is turns);
    pipes = subst HasPipeBytes (sym pipes_same) pipes;
    directories = λ n dir lives. ap (λ t. is_directory t n) tree ∙ turned_directories after None turns n dir lives;
    kinds = λ n opened used socket none. ap (λ t. is_directory t n) tree ∙ turned_kinds after None turns n opened used socket none;
  })

  freed_some : (left : Option ℕ × Tree) (files : Files) → next ≡ files → IsTree left.1 → Turns plain.files.tree left.1 (opens plain.files) (is_busy plain) left.0
      → files.descriptions ≡ plain.files.descriptions → files.tree ≡ left.1 → files.sockets ≡ after_freeing plain.files.sockets left.0 → files.pipes ≡ plain.files.pipes → After plain next
  freed_some left files is tree_is turns descriptions tree sockets pipes_same = by files is (record {
    rooted = rooted_of files plain.files.descriptions left.1 (after_freeing plain.files.sockets left.0) plain.files.pipes descriptions tree sockets pipes_same (turned left.1 left.0 tree_is turns);
    pipes = subst HasPipeBytes (sym pipes_same) pipes;
    directories = λ n dir lives. ap (λ t. is_directory t n) tree ∙ turned_directories left.1 left.0 turns n dir lives;
    kinds = λ n opened used socket none. ap (λ t. is_directory t n) tree ∙ turned_kinds left.1 left.0 turns n opened used socket none;
  })

  -- a path among the call's operands
  first_path : (which : Call) (path : List ℕ) (rest : List (List ℕ)) → call ≡ which → paths_of which ≡ path ∷ rest → ArePathBytes path
  first_path which path rest is names = paths path (subst (λ list. Contains list path) (sym (ap paths_of is ∙ names)) (0, omega arith, refl))

  second_path : (which : Call) (first path : List ℕ) → call ≡ which → paths_of which ≡ first ∷ path ∷ [] → ArePathBytes path
  second_path which first path is names = paths path (subst (λ list. Contains list path) (sym (ap paths_of is ∙ names)) (1, omega arith, refl))

  no_fault : (which : Call) → call ≡ which → argument_fault which ≡ None
  no_fault which is = ap argument_fault (sym is) ∙ fault

  opened_file : (path : List ℕ) (flags : ℤ) (there : ℕ × Tree) → call ≡ calls.OpenFile path flags → open_path plain.files.tree (directory_of plain.table pid) path (opening_of flags) ≡ Ok there → is_fifo there.1 there.0 ≡ false
      → (files : Files) → next ≡ files → files.descriptions ≡ plain.files.descriptions ++ Some (description_for there.0 flags) ∷ [] → files.tree ≡ there.1 → files.sockets ≡ plain.files.sockets → files.pipes ≡ plain.files.pipes → After plain next
  opened_file path flags there which led no_fifo files is descriptions tree sockets pipes_same = go (open_is plain.files.tree (directory_of plain.table pid) path (opening_of flags) there.0 there.1 (opens plain.files) (is_busy plain) rooted.tree_is cwd led)
    where
      go : OpenedTree plain.files.tree there.1 (opens plain.files) (is_busy plain) (may_write (access_of flags)) there.0 → After plain next
      go done = by files is (record {
        rooted = rooted_of files (plain.files.descriptions ++ Some (description_for there.0 flags) ∷ []) there.1 plain.files.sockets plain.files.pipes descriptions tree sockets pipes_same
            (pushed_rooted plain.files.descriptions there.1 plain.files.sockets plain.files.pipes (turned there.1 None tree_is done.turns) (description_for there.0 flags) is_opened);
        pipes = subst HasPipeBytes (sym pipes_same) pipes;
        directories = λ n dir lives. ap (λ t. is_directory t n) tree ∙ turned_directories there.1 None done.turns n dir lives;
        kinds = λ n opened used socket none. ap (λ t. is_directory t n) tree ∙ turned_kinds there.1 None done.turns n opened used socket none;
      })
        where
          tree_is : IsTree there.1
          tree_is = open_path_keeps plain.files.tree (directory_of plain.table pid) path (opening_of flags) there.0 there.1 rooted.tree_is cwd
              (open_path_fault path flags (no_fault (calls.OpenFile path flags) which), first_path (calls.OpenFile path flags) path [] which refl) led

          is_opened : (number : ℕ) → OnNode there.0 ≡ OnNode number → IsOpened there.1 (access_of flags) 0 number
          is_opened number e = subst (IsOpened there.1 (access_of flags) 0) (same_node e) (record {
            used = opens_it.used;
            socket = opens_it.socket;
            fifo = no_fifo;
            directory = λ dir. read_only flags (opens_it.directory dir);
            between = λ dir. refl;
          })
            where
              opens_it : Opens there.1 (may_write (access_of flags)) there.0
              opens_it = done.opens

              same_node : OnNode there.0 ≡ OnNode number → there.0 ≡ number
              same_node f = cc

  -- a file is written
  written_tree : (fd addr n : ℤ) (done : ℕ) (opened : Opened) (number at : ℕ) (written : ℕ × Tree) → WritesNode plain pid call fd opened number
      → write plain.files.tree number at (bytes_left plain pid addr (count_of n) done) ≡ Ok written → IsTree written.1 × Turns plain.files.tree written.1 (opens plain.files) (is_busy plain) None
  written_tree fd addr n done opened number at written reaches wrote_it =
      let file = file_at plain.files.tree opened.is.access opened.is.offset number (opened_node fd opened number reaches.named reaches.target) reaches.writable in
      let wrote_is = wrote plain.files.tree number at (bytes_left plain pid addr (count_of n) done) written.0 written.1 wrote_it in (
        write_keeps plain.files.tree number file.0 at file.1 (bytes_left plain pid addr (count_of n) done) written.0 written.1 rooted.tree_is file.2
            (loaded_bytes (memory_of plain.table pid) (count_of addr + done) (count_of n - done) memory) wrote_it,
        subst (λ t. Turns plain.files.tree t (opens plain.files) (is_busy plain) None) (sym wrote_is.tree_after)
            (turns_of plain.files.tree _ (opens plain.files) (is_busy plain) None (bytes_look plain.files.tree number (overwritten at (take written.0 (bytes_left plain pid addr (count_of n) done))))),
      )

  resized_tree : (fd : ℤ) (opened : Opened) (number size : ℕ) (tree : Tree) → WritesNode plain pid call fd opened number → resize plain.files.tree number size ≡ Ok tree
      → IsTree tree × Turns plain.files.tree tree (opens plain.files) (is_busy plain) None
  resized_tree fd opened number size tree reaches sized =
      let file = file_at plain.files.tree opened.is.access opened.is.offset number (opened_node fd opened number reaches.named reaches.target) reaches.writable in (
        resize_keeps plain.files.tree number file.0 size file.1 tree rooted.tree_is file.2 sized,
        subst (λ t. Turns plain.files.tree t (opens plain.files) (is_busy plain) None) (resized_is plain.files.tree number size tree sized)
            (turns_of plain.files.tree _ (opens plain.files) (is_busy plain) None (bytes_look plain.files.tree number (resized size))),
      )

  -- ---- sockets

  -- the socket of a descriptor is there
  sock_there : (fd : ℤ) (opened : Opened) (place : ℕ) → opened_at plain.files pid fd ≡ Some opened → opened.is.target ≡ OnSocket place → IsSome (sock_at plain.files.sockets place)
  sock_there fd opened place named on = let naming_it = naming plain.files pid fd opened named in let held = joined.1 in
      held.there place (on_named plain.files.descriptions opened.place opened.is place naming_it.there on)

  sock_le : (place : ℕ) → IsSome (sock_at plain.files.sockets place) → place ≤ length plain.files.sockets
  sock_le place is = let within = sock_within plain.files.sockets place is in omega arith

  abbrev Well : Socket → Type 0
  Well socket = IsWell plain.files.tree socket

  new_one : Well new_socket
  new_one = new_well plain.files.tree

  staged : (socket : Socket) (stage : Stage) → Well socket → Well (record socket { stage = stage })
  staged socket stage well = staged_well plain.files.tree socket stage well

  connected_well : (peer : ℕ) → Well (connected_to peer)
  connected_well peer = record { bound = λ number is. absurd (not_some refl is); bytes = All-nil IsByte }

  -- a description of a socket opens no node
  no_node : (place number : ℕ) → OnSocket place ≡ OnNode number → ⊥
  no_node place number e = cc

  no_pipe_node : (place number : ℕ) → OnPipe place ≡ OnNode number → ⊥
  no_pipe_node place number e = cc

  resocketed : (after : Files) → next ≡ after → (sockets : Sockets) → ((place : ℕ) → Well (socket_at sockets place)) → AreNamedOnce sockets
      → after.descriptions ≡ plain.files.descriptions → after.tree ≡ plain.files.tree → after.sockets ≡ sockets → after.pipes ≡ plain.files.pipes → After plain next
  resocketed after is sockets wells alone descriptions tree sockets_are pipes_same = untreed after is
      (subst (λ d. Rooted d plain.files.tree after.sockets after.pipes) (sym descriptions) (subst (λ s. Rooted plain.files.descriptions plain.files.tree s after.pipes) (sym sockets_are)
      (subst (Rooted plain.files.descriptions plain.files.tree sockets) (sym pipes_same)
      (resocketed_rooted plain.files.descriptions plain.files.tree plain.files.sockets plain.files.pipes rooted sockets wells alone)))) (subst HasPipeBytes (sym pipes_same) pipes) tree

  -- and one more description, of a socket
  sock_opened : (sockets : Sockets) (place : ℕ) → ((at : ℕ) → Well (socket_at sockets at)) → AreNamedOnce sockets → Rooted (plain.files.descriptions ++ Some (description_of place) ∷ []) plain.files.tree sockets plain.files.pipes
  sock_opened sockets place wells alone = pushed_rooted plain.files.descriptions plain.files.tree sockets plain.files.pipes
      (resocketed_rooted plain.files.descriptions plain.files.tree plain.files.sockets plain.files.pipes rooted sockets wells alone) (description_of place) (λ number e. absurd (no_node place number e))

  made : Rooted (plain.files.descriptions ++ Some (description_of (length plain.files.sockets)) ∷ []) plain.files.tree (with_new plain.files.sockets (length plain.files.sockets)) plain.files.pipes
  made = sock_opened (with_new plain.files.sockets (length plain.files.sockets)) (length plain.files.sockets)
      (put_each Well new_one staged plain.files.sockets (length plain.files.sockets) new_socket (omega arith) new_one rooted.wells) (new_once plain.files.sockets (length plain.files.sockets) (omega arith) rooted.alone)

  pair_made : Rooted (plain.files.descriptions ++ Some (description_of (length plain.files.sockets)) ∷ [] ++ Some (description_of (length plain.files.sockets + 1)) ∷ []) plain.files.tree
      (with_pair plain.files.sockets (length plain.files.sockets) (length plain.files.sockets + 1)) plain.files.pipes
  pair_made = pushed_rooted (plain.files.descriptions ++ Some (description_of (length plain.files.sockets)) ∷ []) plain.files.tree
      (with_pair plain.files.sockets (length plain.files.sockets) (length plain.files.sockets + 1)) plain.files.pipes
      (sock_opened (with_pair plain.files.sockets (length plain.files.sockets) (length plain.files.sockets + 1)) (length plain.files.sockets)
      (put_each Well new_one staged first (length plain.files.sockets + 1) (connected_to (length plain.files.sockets)) within (connected_well (length plain.files.sockets))
      (put_each Well new_one staged plain.files.sockets (length plain.files.sockets) (connected_to (length plain.files.sockets + 1)) (omega arith) (connected_well (length plain.files.sockets + 1)) rooted.wells))
      (pair_once plain.files.sockets (length plain.files.sockets) (length plain.files.sockets + 1) (omega arith) within rooted.alone))
      (description_of (length plain.files.sockets + 1)) (λ number e. absurd (no_node (length plain.files.sockets + 1) number e))
    where
      first : Sockets
      first = with_socket plain.files.sockets (length plain.files.sockets) (Some (connected_to (length plain.files.sockets + 1)))

      within : length plain.files.sockets + 1 ≤ length first
      within = let e : length first ≡ length (plain.files.sockets ++ Some (connected_to (length plain.files.sockets + 1)) ∷ []) =
          ap (λ list. length list) (with-length plain.files.sockets (Some (connected_to (length plain.files.sockets + 1)))) in
          let longer : length (plain.files.sockets ++ Some (connected_to (length plain.files.sockets + 1)) ∷ []) ≡ length plain.files.sockets + 1 =
          length-append plain.files.sockets (Some (connected_to (length plain.files.sockets + 1)) ∷ []) in omega arith

  shut_well : (socket : Socket) (how : ℤ) → Well socket → Well (after_shutdown socket how)
  shut_well socket how well = record { bound = well.bound; bytes = go (shuts_reading how) }
    where
      go : (b : Bool) → AreBytes (cond b [] socket.bytes)
      go true = All-nil IsByte
      go false = well.bytes

  read_well : (socket : Socket) (k : ℕ) → Well socket → Well (record socket { bytes = drop k socket.bytes })
  read_well socket k well = record { bound = well.bound; bytes = All-drop IsByte k socket.bytes well.bytes }

  sent_wells : (peer : Option ℕ) (place : ℕ) (bytes : List ℕ) → peer_of (stage_at plain.files.sockets place) ≡ peer → AreBytes bytes → (at : ℕ) → Well (socket_at (sent_to plain.files.sockets peer bytes) at)
  sent_wells None place bytes is are = rooted.wells
  sent_wells (Some peer) place bytes is are = put_each Well new_one staged plain.files.sockets peer (record (socket_at plain.files.sockets peer) { bytes = (socket_at plain.files.sockets peer).bytes ++ bytes })
      (sock_le peer (peer_there plain.files.sockets place peer joined.0 is))
      (let well = rooted.wells peer in record { bound = well.bound; bytes = All-append IsByte (socket_at plain.files.sockets peer).bytes bytes well.bytes are }) rooted.wells

  connected : (after : Files) → next ≡ after → (fd : ℤ) (opened : Opened) (place number listener : ℕ) → opened_at plain.files pid fd ≡ Some opened → opened.is.target ≡ OnSocket place
      → listener_at plain.files.sockets number ≡ Some listener → after.descriptions ≡ plain.files.descriptions → after.tree ≡ plain.files.tree
      → after.sockets ≡ after_connect plain.files.sockets place listener (length plain.files.sockets) → after.pipes ≡ plain.files.pipes → After plain next
  connected after is fd opened place number listener named on listening descriptions tree sockets pipes_same = go (listener_is plain.files.sockets listener number listening)
    where
      go : Listens (socket_at plain.files.sockets listener) number → After plain next
      go listens = resocketed after is (after_connect plain.files.sockets place listener (length plain.files.sockets))
          (connect_each Well new_one staged plain.files.sockets place listener (length plain.files.sockets) (connected_well place) (sock_le place (sock_there fd opened place named on))
          (sock_le listener (listening_there plain.files.sockets listener listens.waiting listens.stage)) (omega arith) rooted.wells)
          (connect_once plain.files.sockets place listener (length plain.files.sockets) listens.waiting (sock_there fd opened place named on) (omega arith) listens.stage rooted.alone)
          descriptions tree sockets pipes_same

  -- a socket is bound to a node that was free
  bound_after : (after : Files) → next ≡ after → (fd : ℤ) (path : List ℕ) (opened : Opened) (place : ℕ) (named_as : ℕ × Tree) → call ≡ calls.Bind fd path → opened_at plain.files pid fd ≡ Some opened
      → opened.is.target ≡ OnSocket place → bind_path plain.files.tree (directory_of plain.table pid) path ≡ Ok named_as
      → after ≡ with_sockets (with_tree plain.files named_as.1) (with_name plain.files.sockets place (Some named_as.0)) → After plain next
  bound_after after is fd path opened place named_as which named on led after_is =
      go (bind_is plain.files.tree (directory_of plain.table pid) path named_as.0 named_as.1 (opens plain.files) (is_busy plain) rooted.tree_is cwd led)
    where
      there : IsSome (sock_at plain.files.sockets place)
      there = sock_there fd opened place named on

      tree_is : IsTree named_as.1
      tree_is = bind_path_keeps plain.files.tree (directory_of plain.table pid) path named_as.0 named_as.1 rooted.tree_is cwd
          (no_fault (calls.Bind fd path) which, first_path (calls.Bind fd path) path [] which refl) led

      sock_used : (o : Option Node) → is_socket_kind (kind_in o) ≡ true → is_some o ≡ true
      sock_used None e = absurd (true_false false e refl)
      sock_used (Some node) e = refl

      go : Binds plain.files.tree named_as.1 (opens plain.files) (is_busy plain) named_as.0 → After plain next
      go binds = by _ (is ∙ after_is) (record {
        rooted = resocketed_rooted plain.files.descriptions named_as.1 plain.files.sockets plain.files.pipes left (with_name plain.files.sockets place (Some named_as.0))
            (put_each (IsWell named_as.1) (new_well named_as.1) (staged_well named_as.1) plain.files.sockets place (record (socket_at plain.files.sockets place) { node = Some named_as.0 }) (sock_le place there)
            (let well = rooted.wells place in record { bound = λ number e. subst (λ n. is_socket named_as.1 n ≡ true) (some_same (Some named_as.0) named_as.0 number refl e) binds.socket; bytes = well.bytes }) left.wells)
            (named_once plain.files.sockets place (Some named_as.0) there (λ number e at bound. true_false (is_in_use plain.files.tree number)
            (sock_used (node_at plain.files.tree number) (let well = rooted.wells at in well.bound number bound))
            (ap (is_in_use plain.files.tree) (sym (some_same (Some named_as.0) named_as.0 number refl e)) ∙ binds.free)) left.alone);
        pipes = pipes;
        directories = turned_directories named_as.1 None binds.turns;
        kinds = turned_kinds named_as.1 None binds.turns;
      })
        where
          left : Rooted plain.files.descriptions named_as.1 plain.files.sockets plain.files.pipes
          left = turned named_as.1 None tree_is binds.turns

  -- ---- pipes

  one_piped : (new : Description) → ((number : ℕ) → new.target ≡ OnNode number → ⊥) → Rooted (plain.files.descriptions ++ Some new ∷ []) plain.files.tree plain.files.sockets plain.files.pipes
  one_piped new no_new = pushed_rooted plain.files.descriptions plain.files.tree plain.files.sockets plain.files.pipes rooted new (λ number on. absurd (no_new number on))

  two_piped : (first second : Description) → ((number : ℕ) → first.target ≡ OnNode number → ⊥) → ((number : ℕ) → second.target ≡ OnNode number → ⊥)
      → Rooted (plain.files.descriptions ++ Some first ∷ [] ++ Some second ∷ []) plain.files.tree plain.files.sockets (plain.files.pipes ++ Some new_pipe ∷ [])
  two_piped first second no_first no_second = repiped_rooted (plain.files.descriptions ++ Some first ∷ [] ++ Some second ∷ []) plain.files.tree plain.files.sockets plain.files.pipes
      (pushed_rooted (plain.files.descriptions ++ Some first ∷ []) plain.files.tree plain.files.sockets plain.files.pipes (one_piped first no_first) second (λ number on. absurd (no_second number on)))
      (plain.files.pipes ++ Some new_pipe ∷ []) (pushed_fifos plain.files.pipes new_pipe refl)

  -- a pipe becomes another of the same FIFO
  repiped : {descriptions : Descriptions} → Rooted descriptions plain.files.tree plain.files.sockets plain.files.pipes → (place : ℕ) (pipe : Pipe) → fifo_of pipe ≡ fifo_of (pipe_at plain.files place)
      → Rooted descriptions plain.files.tree plain.files.sockets (slice_set plain.files.pipes place (Some pipe))
  repiped {descriptions} left place pipe same_node = repiped_rooted descriptions plain.files.tree plain.files.sockets plain.files.pipes left (slice_set plain.files.pipes place (Some pipe))
      (same_fifos plain.files.pipes place pipe same_node)

  -- an end of a FIFO is opened
  with_end_bytes : (pipe : Pipe) (writing : Bool) → AreBytes pipe.bytes → AreBytes (with_end pipe writing).bytes
  with_end_bytes pipe true are = are
  with_end_bytes pipe false are = are

  joined_end : (place : ℕ) (flags : ℤ) → Rooted (plain.files.descriptions ++ Some (description_on (OnPipe place) flags) ∷ []) plain.files.tree plain.files.sockets
      (slice_set plain.files.pipes place (Some (with_end (pipe_at plain.files place) (may_write (access_of flags)))))
  joined_end place flags = repiped (one_piped (description_on (OnPipe place) flags) (λ number e. no_pipe_node place number e)) place (with_end (pipe_at plain.files place) (may_write (access_of flags)))
      (end_fifo (pipe_at plain.files place) (may_write (access_of flags)))

  joined_bytes : (place : ℕ) (writing : Bool) → HasPipeBytes (slice_set plain.files.pipes place (Some (with_end (pipe_at plain.files place) writing)))
  joined_bytes place writing = piped_bytes plain.files.pipes place (Some (with_end (pipe_at plain.files place) writing))
      (some_bytes (with_end (pipe_at plain.files place) writing) (with_end_bytes (pipe_at plain.files place) writing (pipe_bytes plain.files.pipes place pipes))) pipes

  begun_bytes : (number : ℕ) (writing : Bool) → HasPipeBytes (plain.files.pipes ++ Some (with_end (unopened number) writing) ∷ [])
  begun_bytes number writing place pipe is = elim (pushed_is plain.files.pipes (Some (with_end (unopened number) writing)) place pipe is) [
    | inl old ↦ pipes place pipe old
    | inr last ↦ some_bytes (with_end (unopened number) writing) (with_end_bytes (unopened number) writing (All-nil IsByte)) pipe last.1
  ]

  -- the FIFO was there before
  fifo_there : (path : List ℕ) (flags : ℤ) (fd : ℕ) (found : ℕ × Tree) → OpensEnd plain pid call path flags fd found → is_fifo plain.files.tree found.0 ≡ true
  fifo_there path flags fd found opens_it = let done = open_is plain.files.tree (directory_of plain.table pid) path (opening_of flags) found.0 found.1 (opens plain.files) (is_busy plain) rooted.tree_is cwd opens_it.led in
      done.fifo opens_it.fifo

  begun_end : (path : List ℕ) (flags : ℤ) (fd : ℕ) (found : ℕ × Tree) → OpensEnd plain pid call path flags fd found → fifo_at plain.files found.0 ≡ None
      → Rooted (plain.files.descriptions ++ Some (description_on (OnPipe (length plain.files.pipes)) flags) ∷ []) plain.files.tree plain.files.sockets
      (plain.files.pipes ++ Some (with_end (unopened found.0) (may_write (access_of flags))) ∷ [])
  begun_end path flags fd found opens_it at = begun_rooted (plain.files.descriptions ++ Some (description_on (OnPipe (length plain.files.pipes)) flags) ∷ []) plain.files.tree plain.files.sockets plain.files.pipes
      (one_piped (description_on (OnPipe (length plain.files.pipes)) flags) (λ number e. no_pipe_node (length plain.files.pipes) number e)) found.0 (with_end (unopened found.0) (may_write (access_of flags)))
      (end_fifo (unopened found.0) (may_write (access_of flags)) ∙ fifo_node (unopened found.0) found.0 refl (not_zero found.1 found.0 opens_it.fifo))
      (fifo_there path flags fd found opens_it) none_before
    where
      none_before : (q : ℕ) → fifo_in plain.files.pipes q ≡ Some found.0 → ⊥
      none_before q of = by (pipe_in plain.files.pipes q) refl of
        where
          by : (o : Option Pipe) → pipe_in plain.files.pipes q ≡ o → fifo_in plain.files.pipes q ≡ Some found.0 → ⊥
          by None is e = not_some (ap (option_and_then fifo_of) is) e
          by (Some pipe) is e = fifo_at_none plain.files found.0 at q pipe is (node_fifo pipe found.0 (sym (ap (option_and_then fifo_of) is) ∙ e))

  new_pipe_bytes : HasPipeBytes (plain.files.pipes ++ Some new_pipe ∷ [])
  new_pipe_bytes place pipe is = elim (pushed_is plain.files.pipes (Some new_pipe) place pipe is) [ inl old ↦ pipes place pipe old | inr last ↦ some_bytes new_pipe (All-nil IsByte) pipe last.1 ]

  taken_bytes : (place k : ℕ) → HasPipeBytes (slice_set plain.files.pipes place (Some (after_read (pipe_at plain.files place) k)))
  taken_bytes place k = piped_bytes plain.files.pipes place (Some (after_read (pipe_at plain.files place) k))
      (some_bytes (after_read (pipe_at plain.files place) k) (All-drop IsByte k (pipe_at plain.files place).bytes (pipe_bytes plain.files.pipes place pipes))) pipes

  left_bytes : (addr : ℤ) (n done : ℕ) → AreBytes (bytes_left plain pid addr n done)
  left_bytes addr n done = loaded_bytes (memory_of plain.table pid) (count_of addr + done) (n - done) memory

  put_bytes : (place k : ℕ) (bytes : List ℕ) → AreBytes bytes → HasPipeBytes (slice_set plain.files.pipes place (Some (after_write (pipe_at plain.files place) bytes k)))
  put_bytes place k bytes are = piped_bytes plain.files.pipes place (Some (after_write (pipe_at plain.files place) bytes k))
      (some_bytes (after_write (pipe_at plain.files place) bytes k)
      (All-append IsByte (pipe_at plain.files place).bytes (take k bytes) (pipe_bytes plain.files.pipes place pipes) (All-take IsByte k bytes are))) pipes

  -- ---- each step

  pub step_after : {goes_on : Bool} → IsStep plain pid call goes_on next → After plain next
  step_after (step.stays is) = same _ is refl refl refl refl
  step_after (step.shares fd opened from to named free is) = same _ is refl refl refl refl
  step_after (step.shares_over fd to opened named may apart is) = by _ is (let closed_it = close_after plain rooted pipes joined piped pid (count_of to) in
      record { rooted = closed_it.rooted; pipes = closed_it.pipes; directories = closed_it.directories; kinds = closed_it.kinds })
  step_after (step.marks fd opened cloexec named is) = same _ is refl refl refl refl
  step_after (step.closes fd opened named is) = by _ is (close_after plain rooted pipes joined piped pid (count_of fd))
  step_after (step.describes fd opened description named target access between is) = untreed _ is (described plain.files.tree plain.files.sockets rooted fd opened description named target access
      (λ number on dir was. between number on rooted.tree_is dir was)) pipes refl
  step_after (step.opens path flags fd found which free led other is) = opened_file path flags found which led other _ is refl refl refl refl
  step_after (step.writes fd addr n done opened number at offset written reaches wrote_it is) = by _ is (let both = written_tree fd addr n done opened number at written reaches wrote_it in
      let left = turned written.1 None both.0 both.1 in let naming_it = naming plain.files pid fd opened reaches.named in record {
        rooted = described written.1 plain.files.sockets left fd opened _ reaches.named refl refl (λ other on dir was.
            absurd (true_false (may_write opened.is.access) reaches.writable (let it = left.nodes opened.place other opened.is naming_it.there on in ap may_write (it.directory dir))));
        pipes = pipes;
        directories = turned_directories written.1 None both.1;
        kinds = turned_kinds written.1 None both.1;
      })
  step_after (step.writes_at fd addr n opened number at written reaches wrote_it is) = let both = written_tree fd addr n 0 opened number at written reaches wrote_it in
      retreed written.1 _ is both.0 both.1 refl refl refl refl
  step_after (step.resizes fd opened number size tree reaches sized is) = let both = resized_tree fd opened number size tree reaches sized in retreed tree _ is both.0 both.1 refl refl refl refl
  step_after (step.makes path made_it which led is) = retreed made_it.1 _ is
      (mkdir_path_keeps plain.files.tree (directory_of plain.table pid) path made_it.0 made_it.1 rooted.tree_is cwd (no_fault (calls.Mkdir path) which, first_path (calls.Mkdir path) path [] which refl) led)
      (mkdir_turns plain.files.tree (directory_of plain.table pid) path made_it.0 made_it.1 (opens plain.files) (is_busy plain) led) refl refl refl refl
  step_after (step.makes_fifo path made_it which led is) = retreed made_it.1 _ is
      (mkfifo_path_keeps plain.files.tree (directory_of plain.table pid) path made_it.0 made_it.1 rooted.tree_is cwd (no_fault (calls.Mkfifo path) which, first_path (calls.Mkfifo path) path [] which refl) led)
      (mkfifo_turns plain.files.tree (directory_of plain.table pid) path made_it.0 made_it.1 (opens plain.files) (is_busy plain) led) refl refl refl refl
  step_after (step.removes path tree which led is) = retreed tree _ is (rmdir_path_keeps plain.files.tree (directory_of plain.table pid) path (is_busy plain) tree rooted.tree_is cwd led)
      (rmdir_turns plain.files.tree (directory_of plain.table pid) path (is_busy plain) (opens plain.files) tree rooted.tree_is cwd led) refl refl refl refl
  step_after (step.links old new tree which led is) = retreed tree _ is
      (link_path_keeps plain.files.tree (directory_of plain.table pid) old new tree rooted.tree_is cwd
      (link_path_fault old new (no_fault (calls.Link old new) which), second_path (calls.Link old new) old new which refl) led)
      (link_path_turns plain.files.tree (directory_of plain.table pid) old new tree (opens plain.files) (is_busy plain) led) refl refl refl refl
  step_after (step.unlinks path left which led is) = freed_some left _ is (unlink_path_keeps plain.files.tree (directory_of plain.table pid) path (opens plain.files) left.0 left.1 rooted.tree_is cwd led)
      (unlink_path_turns plain.files.tree (directory_of plain.table pid) path (opens plain.files) (is_busy plain) left.0 left.1 rooted.tree_is cwd led) refl refl refl refl
  step_after (step.renames old new left which led is) = freed_some left _ is
      (rename_path_keeps plain.files.tree (directory_of plain.table pid) old new (opens plain.files) (is_busy plain) left.0 left.1 rooted.tree_is cwd
      (rename_path_fault old new (no_fault (calls.Rename old new) which), second_path (calls.Rename old new) old new which refl) led)
      (rename_path_turns plain.files.tree (directory_of plain.table pid) old new (opens plain.files) (is_busy plain) left.0 left.1 rooted.tree_is cwd led) refl refl refl refl
  step_after (step.pipes two free is) = untreed _ is (two_piped _ _ (λ number e. no_pipe_node _ number e) (λ number e. no_pipe_node _ number e)) new_pipe_bytes refl
  step_after (step.takes fd addr n opened place k which named on may moves is) = untreed _ is (repiped rooted place (after_read (pipe_at plain.files place) k) refl) (taken_bytes place k) refl
  step_after (step.puts fd addr n done opened place k which named on may moves is) = untreed _ is (repiped rooted place (after_write (pipe_at plain.files place) (bytes_left plain pid addr (count_of n) done) k) refl) (put_bytes place k (bytes_left plain pid addr (count_of n) done) (left_bytes addr (count_of n) done)) refl
  step_after (step.joins path flags fd place found openings opens_it at may is) = untreed _ is (joined_end place flags) (joined_bytes place (may_write (access_of flags))) refl
  step_after (step.begins path flags fd found openings opens_it at may is) = untreed _ is (begun_end path flags fd found opens_it at) (begun_bytes found.0 (may_write (access_of flags))) refl
  step_after (step.meets path flags opening which begun is) = same _ is refl refl refl refl
  step_after (step.sockets fd free is) = untreed _ is made pipes refl
  step_after (step.pairs two free is) = untreed _ is pair_made pipes refl
  step_after (step.binds fd path opened place named_as which named on fine led is) = bound_after _ is fd path opened place named_as which named on led refl
  step_after (step.listens fd opened place named on fine is) = resocketed _ is (after_listen plain.files.sockets place)
      (stage_each Well new_one staged plain.files.sockets place (listening (stage_at plain.files.sockets place)) (sock_le place (sock_there fd opened place named on)) rooted.wells)
      (listen_once plain.files.sockets place (sock_there fd opened place named on) rooted.alone) refl refl refl refl
  step_after (step.shuts fd how opened place named on fine is) = resocketed _ is (after_shut plain.files.sockets place how)
      (put_each Well new_one staged plain.files.sockets place (after_shutdown (socket_at plain.files.sockets place) how) (sock_le place (sock_there fd opened place named on))
      (shut_well (socket_at plain.files.sockets place) how (rooted.wells place)) rooted.wells)
      (shut_once plain.files.sockets place how (sock_there fd opened place named on) rooted.alone) refl refl refl refl
  step_after (step.connects fd opened place number listener named on fine listening_it room is) = connected _ is fd opened place number listener named on listening_it refl refl refl refl
  step_after (step.accepts fd opened place to taken named on free first is) = untreed _ is
      (sock_opened (after_accept plain.files.sockets place) taken
      (stage_each Well new_one staged plain.files.sockets place (without_first (stage_at plain.files.sockets place)) (sock_le place (sock_there fd opened place named on)) rooted.wells)
      (accept_once plain.files.sockets place (sock_there fd opened place named on) rooted.alone)) pipes refl
  step_after (step.receives fd addr n opened place k which named on moves is) = resocketed _ is (sock_after_read plain.files.sockets place k)
      (put_each Well new_one staged plain.files.sockets place (record (socket_at plain.files.sockets place) { bytes = drop k (socket_at plain.files.sockets place).bytes }) (sock_le place (sock_there fd opened place named on))
      (read_well (socket_at plain.files.sockets place) k (rooted.wells place)) rooted.wells)
      (read_once plain.files.sockets place k (sock_there fd opened place named on) rooted.alone) refl refl refl refl
  step_after (step.sends fd addr n done opened place k which named on moves is) = resocketed _ is (sock_after_write plain.files.sockets place (bytes_left plain pid addr (count_of n) done) k)
      (sent_wells (peer_of (stage_at plain.files.sockets place)) place (take k (bytes_left plain pid addr (count_of n) done)) refl (All-take IsByte k (bytes_left plain pid addr (count_of n) done) (left_bytes addr (count_of n) done)))
      (write_once plain.files.sockets place (bytes_left plain pid addr (count_of n) done) k joined.0 rooted.alone) refl refl refl refl
  step_after (step.locks fd opened number asked sets named_so target is_file places clear is) = same _ is refl refl refl refl
  step_after (step.starts is) = by _ is (exec_after plain rooted pipes joined piped pid)
  step_after (step.forks which is) = same _ is refl refl refl refl
  step_after (step.ends_caller over ending is) = by _ is (closed_after plain rooted pipes joined piped pid)
  step_after (step.ends_other who ending is) = by _ is (closed_after plain rooted pipes joined piped who)
