-- What the machine answers to a connect, and what stands once one is done.
use Rattle.std.proofs.Common.{◌≡◌, ◌≢◌, ℕ, ℤ, pos, ◌<◌, ◌≤◌, Bool, true, false, cond, List, [], ◌∷◌, ◌++◌, length, Option, None, Some, Result, Ok, Err, IsSome, refl, sym, ap, subst, ◌∙◌, arith, zero, suc, Contains}
use Rattle.std.specs.Prelude.{IsOk, OnErr, OnOk, MatchBool, MatchOption, MatchResult}
use Rattle.std.specs.Option.{option_map}
use Rattle.std.proofs.lemmas.List.{get_or_past}
use Rattle.kabi_types.specs.declared.errnos.Errno.{Errno}
use Rattle.kabi_types.specs.declared.errnos.Errno.TheVariants.{ECONNREFUSED}
use Rattle.kabi_types.specs.declared.replies.Reply.TheVariants.{Fail, Val}
use Rattle.kabi_types.specs.declared.scripts.Script.{Script}
use Rattle.kabi_types.specs.declared.classes.Class.TheVariants as class
use Rattle.kabi_types.specs.Counts.{with_count}
use Rattle.kheap_slabs.specs.Objects.{object}
use Rattle.kheap_slabs.specs.Purse.{Purse}
use Rattle.kheap_slabs.specs.declared.objects.Sock.{Sock}
use Rattle.kheap_slabs.proofs.ObjectLemmas.{InUse-within}
use Rattle.kheap_slabs.specs.Heap.{Heap}
use Rattle.kheap_slabs.specs.Paid.{HasFills}
use Rattle.memfs_ops.specs.FileTree.{Stands, TreeView}
use Rattle.open_laws.specs.Owned.{HasItsOwners, socks_named}
use Rattle.open_laws.specs.Socketed.{AreRenamed}
use Rattle.open_laws.specs.Placed.{Numbers}
use Rattle.posix_defs.specs.Answer.{Answer, failed}
use Rattle.posix_defs.specs.Calls.OnSockets.{connect as call_connect, connect_at, connected_by, connected_under, listener_under, resocketed, unless_fault}
use Rattle.posix_defs.specs.Calls.Opened.{Opened}
use Rattle.posix_defs.specs.Files.State.{with_sockets}
use Rattle.posix_defs.specs.PathCalls.{find_socket}
use Rattle.posix_defs.specs.Plain.{Plain}
use Rattle.posix_defs.specs.Process.{directory_of}
use Rattle.posix_defs.specs.Socket.{Stage, Idle, Listening, Connected, Socket, connect_fault, connected_to, new_socket, waiting_of}
use Rattle.posix_defs.specs.SocketLinks.{AreNamedOnce}
use Rattle.posix_defs.specs.Sockets.{Sockets, after_connect, is_refused, sock_at, socket_at, stage_at, with_socket, with_stage}
use Rattle.socket_laws.proofs.SocketCalls.{listening_there}
use Rattle.socket_laws.proofs.SocketTable.{length-with, length-with_there, there_within}
use Rattle.usock_core.specs.Answers.{IsConnectedBy}
use Rattle.usock_core.specs.Standing.{IsListeningIn, LeavesOthers, StandsFor as SocketsStandFor}
use Rattle.usock_core.proofs.OneTable.{one_table}
use Rattle.usock_core.proofs.StandingLemmas.{free_from}
use Rattle.proc_table.specs.Table.{TableView}
use Rattle.proc_numbers.specs.Having.{HaveOpen}
use Rattle.proc_files.specs.Closing.{CachesChange}
use Rattle.proc_files.specs.Holding.{HoldFiles}
use Rattle.proc_files.specs.Holders.{holders}
use Rattle.proc_files.proofs.Beside.{owners_beside, same_socks}
use Rattle.proc_numbers.specs.Answering.{zero_of}
use Rattle.proc_numbers.specs.Finding.{FindsSocket}
use Rattle.proc_numbers.specs.SocketOpening.{with_sock}
use Rattle.proc_numbers.specs.declared.finding.OpenSocket.{OpenSocket}
use Rattle.proc_numbers.proofs.Opens.{have_changed}
use Rattle.proc_numbers.proofs.Renaming.{new_within}
use Rattle.proc_numbers.proofs.Told.{keeps_same, keeps_sock, keyed_there}
use Rattle.proc_files.specs.NameAnswering.{AnswersConnecting}
use Rattle.proc_files.specs.Names.{name_of}
use Rattle.proc_files.specs.NameHolding.{HoldNames}
use Rattle.proc_files.proofs.BindAnswers.{bound_beside, named_beside}
use Rattle.proc_files.proofs.Connected.{connect_renamed, refused_told}
use Rattle.proc_files.proofs.Named.{connect_nodes, connected_names}
use Rattle.proc_files.proofs.Placed.{connect_told, listener_placed, once_by_key, placed_inside}
use Rattle.proc_files.proofs.Steps.{files_resocketed, files_walked}
use Rattle.proc_files.proofs.Tables.{name_says, node_of}
use Rattle.proc_files.proofs.Ties.{bound_on}

-- ---- lists of sockets

length_any : (sockets : Sockets) (place : ℕ) (one other : Option Socket) → length (with_socket sockets place one) ≡ length (with_socket sockets place other)
length_any [] place one other = refl
length_any (first ∷ rest) zero one other = refl
length_any (first ∷ rest) (suc place) one other = ap (λ n. suc n) (length_any rest place one other)

-- the new one's key was in the table, or the next
connect_within : (keyed : Sockets) (client listener made : ℕ) → IsSome (sock_at keyed client) → IsSome (sock_at keyed listener) → made < length (after_connect keyed client listener made) → made ≤ length keyed
connect_within keyed client listener made client_there listener_is below =
    let one = with_socket keyed made (Some (connected_to client)) in
    let longer = length-with keyed made (Some (connected_to client)) in
    let client_below = there_within keyed client client_there in
    let listener_below = there_within keyed listener listener_is in
    let two = with_stage one client (Connected (Some made) false false) in
    let second : length two ≡ length one = length-with_there one client (Some (record (socket_at one client) { stage = Connected (Some made) false false })) (omega (arith, client_below, longer)) in
    let third : length (after_connect keyed client listener made) ≡ length two =
    length-with_there two listener (Some (record (socket_at two listener) { stage = Listening (waiting_of (stage_at keyed listener) ++ made ∷ []) })) (omega (arith, listener_below, longer, second)) in
    let first = length_any keyed made (Some (connected_to client)) (Some new_socket) in
    new_within keyed made (omega (arith, below, first, second, third))

-- one that may be connected is idle
idle : (stage : Stage) → connect_fault stage ≡ None → stage ≡ Idle
idle Idle fine = refl
idle (Listening waiting) fine = cc
idle (Connected peer shut_read shut_write) fine = cc

-- ---- no socket

abbrev pub connect_as : Script → Plain → ℕ → List ℕ → Opened → ℕ → Answer
connect_as script plain pid path opened = connect_at script plain pid path

pub connect_lost : (numbers : Numbers) (others : ℕ → ℕ) (old : Heap) (kept : TableView) (fs : TreeView) (names : List (Option ℕ)) (script : Script) (plain : Plain) (pid : ℕ) (fd : ℤ) (path : List ℕ) (errno : Errno)
    → HoldNames numbers others old kept fs names plain.files → FindsSocket numbers script plain pid fd (connect_as script plain pid path) (Err errno)
    → AnswersConnecting numbers others old old kept fs names script plain pid (call_connect script plain pid fd path) (Fail errno)
unfolding call_connect
connect_lost numbers others old kept fs names script plain pid fd path errno hold finds =
    record { now = numbers; keeps = keeps_same old numbers; answers = record { files = plain.files; replies = finds; holds = hold } }

-- ---- by what a call on sockets answers

wrong_ok : (errno : Errno) → IsOk {T = Unit {0}} (Err errno) → ⊥
wrong_ok errno ok = cc

wrong_err : (errno : Errno) → ◌≡◌ {A = Result (Unit {0}) Errno} (Ok tt) (Err errno) → ⊥
wrong_err errno e = cc

done : (Y Z : Type 0) (result : Result (Unit {0}) Errno) → IsOk result → MatchResult result (λ _. Y) (λ _. Z) → Y
done Y Z (Ok it) ok match = match
done Y Z (Err errno) ok match = absurd (wrong_ok errno ok)

not_done : (Y Z : Type 0) (result : Result (Unit {0}) Errno) (errno : Errno) → result ≡ Err errno → MatchResult result (λ _. Y) (λ _. Z) → Z
not_done Y Z (Ok it) errno is match = absurd (let same : ◌≡◌ {A = Result (Unit {0}) Errno} (Ok it) (Err errno) = is in cc)
not_done Y Z (Err other) errno is match = match

pub on_done : (P : Type 0) (result : Result (Unit {0}) Errno) → P → OnOk result P
on_done P (Ok it) holds = holds
on_done P (Err errno) holds = tt

pub same_socks_unless : (Y : Type 0) (old mid new : Heap) (result : Result (Unit {0}) Errno) → CachesChange old mid → MatchResult result (λ _. Y) (λ _. new ≡ mid) → OnErr result (new.socks ≡ old.socks)
same_socks_unless Y old mid new (Ok it) caches match = tt
same_socks_unless Y old mid new (Err errno) caches match = ap (λ (h : Heap). h.socks) match ∙ same_socks old mid caches

-- a purse that has paid for a socket has filled what it had filled
pub fills_spent : (h : Heap) (before after : Purse) (count : ℕ) (result : Result (Unit {0}) Errno)
    → MatchResult result (λ _. after ≡ record before { left = with_count before.left class.Sock count }) (λ _. after ≡ before) → HasFills h before → HasFills h after
fills_spent h before after count (Ok it) spent fills =
    subst (HasFills h) (sym spent) (record { vnodes = fills.vnodes; names = fills.names; blocks = fills.blocks })
fills_spent h before after count (Err errno) spent fills = subst (HasFills h) (sym spent) fills

-- ---- a socket that a number is open on

module _ (numbers : Numbers) (others : ℕ → ℕ) (old : Heap) (kept : TableView) (fs : TreeView) (names : List (Option ℕ)) (script : Script) (plain : Plain) (pid : ℕ) (fd : ℤ) (path : List ℕ) (on : OpenSocket)
    (owners : HasItsOwners old []) (named : Contains (socks_named old.descs) on.key) (hold : HoldNames numbers others old kept fs names plain.files)
    (finds : (answer : Opened → ℕ → Answer) → FindsSocket numbers script plain pid fd answer (Ok on)) where
  abbrev keyed : Sockets
  keyed = hold.held.opened.opened.socketed.keyed

  abbrev sockets : Sockets
  sockets = plain.files.sockets

  abbrev place : ℕ
  place = numbers.socks on.key

  there : IsSome (sock_at keyed on.key)
  there = keyed_there old [] on.key owners named keyed hold.held.opened.opened.socketed.stands

  connect_is : call_connect script plain pid fd path ≡ connect_at script plain pid path place
  unfolding call_connect
  connect_is = (finds (λ opened. connect_at script plain pid path)).1

  fault_is : connect_fault (stage_at sockets place) ≡ connect_fault (stage_at keyed on.key)
  fault_is = connect_told numbers.socks keyed sockets hold.held.opened.opened.socketed.renamed on.key there

  -- it is connected, or listens
  pub connect_refused : (errno : Errno) → connect_fault (stage_at keyed on.key) ≡ Some errno
      → AnswersConnecting numbers others old old kept fs names script plain pid (call_connect script plain pid fd path) (Fail errno)
  connect_refused errno fault = record {
    now = numbers;
    keeps = keeps_same old numbers;
    answers = record {
      files = plain.files;
      replies = connect_is ∙ ap (λ f. unless_fault script plain pid f (connected_by script plain pid place (find_socket plain.files.tree (directory_of plain.table pid) path))) (fault_is ∙ fault);
      holds = hold;
    };
  }

  -- or the path was walked
  module _ (mid : Heap) (now : TreeView) (caches : CachesChange old mid) (stands_mid : Stands mid now plain.files.tree (holders others plain.files)) (cwd : ℕ) (works : directory_of plain.table pid ≡ cwd)
      (fine : connect_fault (stage_at keyed on.key) ≡ None) where
    connect_walked : call_connect script plain pid fd path ≡ connected_by script plain pid place (find_socket plain.files.tree cwd path)
    connect_walked =
        connect_is
        ∙ ap (λ f. unless_fault script plain pid f (connected_by script plain pid place (find_socket plain.files.tree (directory_of plain.table pid) path))) (fault_is ∙ fine)
        ∙ ap (λ dir. connected_by script plain pid place (find_socket plain.files.tree dir path)) works

    abbrev held_mid : HoldFiles numbers others mid kept now plain.files
    held_mid = files_walked numbers others old mid kept fs now plain.files caches hold.held stands_mid

    abbrev hold_mid : HoldNames numbers others mid kept now names plain.files
    hold_mid = record { held = held_mid; bound = bound_beside old mid names caches hold.bound; named = hold.named; places = hold.places }

    -- to a fault
    pub connect_failed : (errno : Errno) → Err errno ≡ find_socket plain.files.tree cwd path
        → AnswersConnecting numbers others old mid kept now names script plain pid (call_connect script plain pid fd path) (Fail errno)
    connect_failed errno is = record {
      now = numbers;
      keeps = keeps_same old numbers;
      answers = record { files = plain.files; replies = connect_walked ∙ ap (connected_by script plain pid place) (sym is); holds = hold_mid };
    }

    -- to a node
    module _ (node : Option ℕ) (leads : Ok node ≡ find_socket plain.files.tree cwd path) (listener : Option ℕ) (under : (table : Sockets) → SocketsStandFor mid table → listener ≡ listener_under table node) where
      abbrev table : Sockets
      table = hold_mid.held.opened.opened.socketed.keyed

      stands_table : SocketsStandFor mid table
      stands_table = hold_mid.held.opened.opened.socketed.stands

      renamed : AreRenamed numbers.socks table sockets
      renamed = hold_mid.held.opened.opened.socketed.renamed

      owners_mid : HasItsOwners mid []
      owners_mid = owners_beside old mid caches [] owners

      client_there : IsSome (sock_at table on.key)
      client_there = keyed_there mid [] on.key owners_mid (named_beside old mid on.key caches named) table stands_table

      -- by place
      once : AreNamedOnce table
      once = once_by_key table names (bound_on (name_of mid.socks) (node_of table) names hold_mid.bound (λ key. sym (name_says mid table stands_table.table key)))

      under_placed : listener_under sockets node ≡ option_map numbers.socks listener
      under_placed = by_node node ∙ ap (option_map numbers.socks) (sym (under table stands_table))
        where
          by_node : (o : Option ℕ) → listener_under sockets o ≡ option_map numbers.socks (listener_under table o)
          by_node None = refl
          by_node (Some number) = listener_placed numbers.socks table sockets renamed once number

      connect_led : call_connect script plain pid fd path ≡ connected_under script plain pid place (option_map numbers.socks listener)
      connect_led = connect_walked ∙ ap (connected_by script plain pid place) (sym leads) ∙ ap (connected_under script plain pid place) under_placed

      -- refused
      pub nobody_listens : (listener ≡ None) → AnswersConnecting numbers others old mid kept now names script plain pid (call_connect script plain pid fd path) (Fail ECONNREFUSED)
      nobody_listens none = record {
        now = numbers;
        keeps = keeps_same old numbers;
        answers = record { files = plain.files; replies = connect_led ∙ ap (λ o. connected_under script plain pid place (option_map numbers.socks o)) none; holds = hold_mid };
      }

      module _ (key : ℕ) (is : listener ≡ Some key) (waiting : List ℕ) (listens : stage_at table key ≡ Listening waiting) where
        key_there : IsSome (sock_at table key)
        key_there = listening_there table key waiting listens

        told : call_connect script plain pid fd path
            ≡ cond (is_refused table (Some key)) (failed script plain pid ECONNREFUSED) (resocketed script plain pid (after_connect sockets place (numbers.socks key) (length sockets)))
        told =
            connect_led ∙ ap (λ o. connected_under script plain pid place (option_map numbers.socks o)) is
            ∙ ap (λ b. cond b (failed script plain pid ECONNREFUSED) (resocketed script plain pid (after_connect sockets place (numbers.socks key) (length sockets))))
            (refused_told numbers.socks table sockets key key_there renamed)

        pub all_wait : is_refused table (Some key) ≡ true → AnswersConnecting numbers others old mid kept now names script plain pid (call_connect script plain pid fd path) (Fail ECONNREFUSED)
        all_wait full = record {
          now = numbers;
          keeps = keeps_same old numbers;
          answers = record {
            files = plain.files;
            replies = told ∙ ap (λ b. cond b (failed script plain pid ECONNREFUSED) (resocketed script plain pid (after_connect sockets place (numbers.socks key) (length sockets)))) full;
            holds = hold_mid;
          };
        }

        -- connected
        pub one_waits : is_refused table (Some key) ≡ false → (new : Heap) → LeavesOthers mid new → IsConnectedBy mid new on.key key
            → AnswersConnecting numbers others old new kept now names script plain pid (call_connect script plain pid fd path) (Val (pos 0))
        one_waits room new leaves it = record {
          now = (with_sock numbers plain.files it.made);
          keeps = keeps_sock old numbers plain.files it.made (ap (λ (socks : List (Option Sock)). object socks it.made) (sym (same_socks old mid caches)) ∙ it.vacant);
          answers = record {
            files = with_sockets plain.files (after_connect sockets place (numbers.socks key) (length sockets));
            replies = told ∙ ap (λ b. cond b (failed script plain pid ECONNREFUSED) (resocketed script plain pid (after_connect sockets place (numbers.socks key) (length sockets)))) room;
            holds = record {
              held = files_resocketed numbers (with_sock numbers plain.files it.made) others mid new kept now plain.files (after_connect sockets place (numbers.socks key) (length sockets)) leaves have held_mid;
              bound = bound_on (name_of mid.socks) (name_of new.socks) names hold_mid.bound
                  (λ k. name_says new (after_connect table on.key key it.made) stands_new.table k ∙ connect_nodes table on.key key it.made free within client_within key_within k ∙ sym (name_says mid table stands_table.table k));
              named = connected_names plain.files place (numbers.socks key) (length sockets) hold.named (get_or_past sockets (length sockets) None (omega arith)) (omega arith)
                  (placed_inside numbers.socks table sockets renamed on.key client_there) (placed_inside numbers.socks table sockets renamed key key_there);
              places = hold.places;
            };
          };
        }
          where
            stands_new : SocketsStandFor new (after_connect table on.key key it.made)
            stands_new = it.stands table stands_table

            free : sock_at table it.made ≡ None
            free = free_from mid table it.made stands_table.table it.vacant

            within : it.made ≤ length table
            within =
                connect_within table on.key key it.made client_there key_there
                (let below = InUse-within new.socks it.made it.used in let long = stands_new.table.places in omega (arith, below, long))

            client_within : on.key ≤ length table
            client_within = let below = there_within table on.key client_there in omega (arith, below)

            key_within : key ≤ length table
            key_within = let below = there_within table key key_there in omega (arith, below)

            -- who listens isn't idle
            apart : key ≢ on.key
            apart same =
                let idle_there : stage_at table on.key ≡ Idle =
                idle (stage_at table on.key) (sym (connect_told numbers.socks table sockets renamed on.key client_there) ∙ fault_is ∙ fine) in
                let both : Idle ≡ Listening waiting = sym idle_there ∙ ap (stage_at table) (sym same) ∙ listens in cc

            have : HaveOpen (with_sock numbers plain.files it.made) new kept (with_sockets plain.files (after_connect sockets place (numbers.socks key) (length sockets)))
            have =
                have_changed mid new leaves numbers (with_sock numbers plain.files it.made).socks (keeps_sock mid numbers plain.files it.made it.vacant).socks owners_mid.held.targets (after_connect sockets place (numbers.socks key) (length sockets))
                (record {
                  keyed = (after_connect table on.key key it.made);
                  stands = stands_new;
                  renamed = connect_renamed numbers.socks table sockets stands_table.linked renamed on.key key it.made client_there key_there free within apart;
                })
                kept plain.files held_mid.opened

      -- by what the call on sockets answers
      pub connect_done : (new : Heap) (result : Result (Unit {0}) Errno)
          → ((all : Sockets) → SocketsStandFor mid all → MatchBool (is_refused all listener) (result ≡ Err ECONNREFUSED) (IsOk result))
          → MatchResult result (λ _. MatchOption listener ⊥ (IsConnectedBy mid new on.key)) (λ _. new ≡ mid) → LeavesOthers mid new → ((key : ℕ) → listener ≡ Some key → IsListeningIn mid key)
          → AnswersConnecting numbers others old new kept now names script plain pid (call_connect script plain pid fd path) (zero_of result)
      connect_done new result answer connected leaves listening = by_listener listener refl (answer table stands_table) connected
        where
          refused_so : result ≡ Err ECONNREFUSED → new ≡ mid
              → AnswersConnecting numbers others old mid kept now names script plain pid (call_connect script plain pid fd path) (Fail ECONNREFUSED)
              → AnswersConnecting numbers others old new kept now names script plain pid (call_connect script plain pid fd path) (zero_of result)
          refused_so is same answers =
              subst (λ (r : Result (Unit {0}) Errno). AnswersConnecting numbers others old new kept now names script plain pid (call_connect script plain pid fd path) (zero_of r)) (sym is)
              (subst (λ (h : Heap). AnswersConnecting numbers others old h kept now names script plain pid (call_connect script plain pid fd path) (Fail ECONNREFUSED)) (sym same) answers)

          by_room : (key : ℕ) → listener ≡ Some key → (waiting : List ℕ) → stage_at table key ≡ Listening waiting → (b : Bool) → is_refused table (Some key) ≡ b
              → MatchBool b (result ≡ Err ECONNREFUSED) (IsOk result) → MatchResult result (λ _. IsConnectedBy mid new on.key key) (λ _. new ≡ mid)
              → AnswersConnecting numbers others old new kept now names script plain pid (call_connect script plain pid fd path) (zero_of result)
          by_room key is waiting listens true full told match =
              refused_so told (not_done (IsConnectedBy mid new on.key key) (new ≡ mid) result ECONNREFUSED told match) (all_wait key is waiting listens full)
          by_room key is waiting listens false room told match =
              by_result result told (done (IsConnectedBy mid new on.key key) (new ≡ mid) result told match)
            where
              by_result : (r : Result (Unit {0}) Errno) → IsOk r → IsConnectedBy mid new on.key key
                  → AnswersConnecting numbers others old new kept now names script plain pid (call_connect script plain pid fd path) (zero_of r)
              by_result (Ok it) ok by = one_waits key is waiting listens room new leaves by
              by_result (Err errno) ok by = absurd (wrong_ok errno ok)

          by_listener : (o : Option ℕ) → listener ≡ o → MatchBool (is_refused table o) (result ≡ Err ECONNREFUSED) (IsOk result)
              → MatchResult result (λ _. MatchOption o ⊥ (IsConnectedBy mid new on.key)) (λ _. new ≡ mid)
              → AnswersConnecting numbers others old new kept now names script plain pid (call_connect script plain pid fd path) (zero_of result)
          by_listener None is told match = refused_so told (not_done ⊥ (new ≡ mid) result ECONNREFUSED told match) (nobody_listens is)
          by_listener (Some key) is told match =
              let listens = listening key is in
              by_room key is listens.waiting
              (ap (λ (all : Sockets). stage_at all key) (one_table mid table listens.sockets stands_table listens.stands) ∙ listens.listens)
              (is_refused table (Some key)) refl told match
