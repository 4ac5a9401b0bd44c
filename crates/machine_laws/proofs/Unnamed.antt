-- Who has a name of the tree is named by a description, so nobody who waits to be accepted has one.
use Rattle.std.proofs.Common.{◌≡◌, ℕ, zero, suc, ◌+◌, ◌≤◌, ℤ, Bool, true, false, cond, List, [], ◌∷◌, ◌++◌, length, take, drop, Option, None, Some, IsSome, unwrap_or, refl, ap, sym, ◌∙◌, subst, inl, inr, arith, Contains, length-append}
use Rattle.std.specs.Option.{option_map}
use Rattle.std.proofs.lemmas.Bool.Decides.{eqb_tells}
use Rattle.kabi_types.specs.Arguments.{count_of}
use Rattle.kabi_types.specs.declared.calls.Call.{Call}
use Rattle.kabi_types.specs.declared.scripts.Script.{Script}
use Rattle.posix_defs.specs.Ending.{closed_by}
use Rattle.posix_defs.specs.Plain.{Plain, call_of}
use Rattle.posix_defs.specs.Socket.{Connected, Listening, Socket, after_shutdown, connected_to, listening, new_socket, peer_of, waiting_of, without_first}
use Rattle.posix_defs.specs.SocketLinks.{AreHeld, AreLinked, AreLoose, WaitsFor, WaitsNowhere}
use Rattle.posix_defs.specs.Sockets.{Sockets, after_close, after_connect, after_write, all_gone, gone, sent_to, sock_at, socket_at, stage_at, with_name, with_new, with_pair, with_socket, with_stage}
use Rattle.posix_defs.specs.TreeChanges.{closed}
use Rattle.posix_defs.specs.Files.Closing.{target_closed}
use Rattle.posix_defs.specs.Files.Descriptions.{Target, OnNode, OnPipe, OnSocket, Description, Descriptions, description_at, with_description}
use Rattle.posix_defs.specs.Files.SocketNames.{after_freeing, listener_at, none_bound_to, unnamed}
use Rattle.posix_defs.specs.Files.State.{Files, is_number, node_of, opens, with_descriptions, with_tree}
use Rattle.posix_defs.specs.Files.Whole.{named_sockets}
use Rattle.posix_defs.specs.Calls.Opened.{Opened, opened_at}
use Rattle.posix_defs.specs.Calls.Writing.{bytes_left}
use Rattle.socket_laws.proofs.ListenerLemmas.{listener_is}
use Rattle.socket_laws.proofs.SocketCalls.{first_loose, gone_linked, gone_parted, listening_there, rest_loose, waiting_loose}
use Rattle.socket_laws.proofs.SocketLaws.{peer_there}
use Rattle.socket_laws.proofs.SocketLinked.{is_or_not}
use Rattle.socket_laws.proofs.SocketTable.{Changed-with, length-with, there_within as sock_within, with-length}
use Rattle.machine_laws.specs.FileSteps as step
use Rattle.machine_laws.specs.FileSteps.{IsStep}
use Rattle.machine_laws.specs.Reached.{IsReached}
use Rattle.machine_laws.proofs.Places.{naming, not_some}
use Rattle.machine_laws.proofs.FifoPlaces.{left_holds}
use Rattle.machine_laws.proofs.Closings.{IsClosedUnder, anybody, close_holds, closed_by_holds, exec_holds}
use Rattle.machine_laws.proofs.Inductions.{answers_keep, by_induction}
use Rattle.machine_laws.proofs.Joining.{Joined, closes as joined_closes, joined_holds}
use Rattle.machine_laws.proofs.Named.{described_to, gone_to, on_named, pushed_old}

-- ---- nobody gets a name

-- who has a name had it
abbrev Fewer : Sockets → Sockets → Type 0
Fewer old new = (place number : ℕ) → (socket_at new place).node ≡ Some number → (socket_at old place).node ≡ Some number

both : (one two three : Sockets) → Fewer one two → Fewer two three → Fewer one three
both one two three first second place number is = first place number (second place number is)

-- a socket becomes one that has no other name
put : (sockets : Sockets) (place : ℕ) (socket : Socket) → place ≤ length sockets → ((number : ℕ) → socket.node ≡ Some number → (socket_at sockets place).node ≡ Some number)
    → Fewer sockets (with_socket sockets place (Some socket))
put sockets place socket within had other number is = let changed = Changed-with sockets place (Some socket) within in elim (eqb_tells other place) [
  | inl alike ↦
      ap (λ n. (socket_at sockets n).node) alike.1
      ∙ had number (sym (ap (λ (s : Socket). s.node) changed.at) ∙ ap (λ n. (socket_at (with_socket sockets place (Some socket)) n).node) (sym alike.1) ∙ is)
  | inr apart ↦ ap (λ (s : Socket). s.node) (sym (changed.others other apart.1)) ∙ is
]

there_le : (sockets : Sockets) (place : ℕ) → IsSome (sock_at sockets place) → place ≤ length sockets
there_le sockets place is = let within = sock_within sockets place is in omega (arith, within)

gone_none : (sockets : Sockets) (place : ℕ) → AreLinked sockets → IsSome (sock_at sockets place) → (socket_at (gone sockets place) place).node ≡ None
gone_none sockets place linked there = let parted = gone_parted sockets place linked there in ap (λ (s : Socket). s.node) parted.gone

gone_fewer : (sockets : Sockets) (place : ℕ) → AreLinked sockets → IsSome (sock_at sockets place) → Fewer sockets (gone sockets place)
gone_fewer sockets place linked there other number is = let parted = gone_parted sockets place linked there in elim (eqb_tells other place) [
  | inl alike ↦ absurd (not_some (gone_none sockets place linked there) (ap (λ n. (socket_at (gone sockets place) n).node) (sym alike.1) ∙ is))
  | inr apart ↦ elim (is_or_not (peer_of (stage_at sockets place)) other) [
    | inl peer ↦ ap (λ (s : Socket). s.node) (sym (parted.alone other peer)) ∙ is
    | inr isnt ↦ ap (λ (s : Socket). s.node) (sym (parted.others other apart.1 isnt)) ∙ is
  ]
]

all_gone_fewer : (sockets : Sockets) (places : List ℕ) → AreLinked sockets → AreLoose sockets places → Fewer sockets (all_gone sockets places)
all_gone_fewer sockets [] linked loose = λ other number is. is
all_gone_fewer sockets (place ∷ rest) linked loose =
    let there = first_loose sockets place rest loose in
    both sockets (gone sockets place) (all_gone (gone sockets place) rest) (gone_fewer sockets place linked there)
    (all_gone_fewer (gone sockets place) rest (gone_linked sockets place linked there (loose.nowhere place (0, omega arith, refl))) (rest_loose sockets place rest linked loose))

module _ (sockets : Sockets) (place : ℕ) (linked : AreLinked sockets) (there : IsSome (sock_at sockets place)) (nowhere : WaitsNowhere sockets place) where
  behind : Fewer (gone sockets place) (after_close sockets place)
  behind = all_gone_fewer (gone sockets place) (waiting_of (stage_at sockets place)) (gone_linked sockets place linked there nowhere) (waiting_loose sockets place linked there nowhere)

  close_fewer : Fewer sockets (after_close sockets place)
  close_fewer = both sockets (gone sockets place) (after_close sockets place) (gone_fewer sockets place linked there) behind

  close_none : (number : ℕ) → (socket_at (after_close sockets place) place).node ≡ Some number → ⊥
  close_none number is = not_some (gone_none sockets place linked there) (behind place number is)

freed_one : (number : ℕ) (o : Option Socket) (had : ℕ) → (unwrap_or (option_map (unnamed number) o) new_socket).node ≡ Some had → (unwrap_or o new_socket).node ≡ Some had
freed_one number None had is = is
freed_one number (Some socket) had is = by_test (is_number number socket.node) is
  where
    by_test : (b : Bool) → (cond b (record socket { node = None }) socket).node ≡ Some had → socket.node ≡ Some had
    by_test true named = absurd (not_some refl named)
    by_test false named = named

bound_fewer : (sockets : Sockets) (number : ℕ) → Fewer sockets (none_bound_to sockets number)
bound_fewer [] number place had is = is
bound_fewer (o ∷ rest) number zero had is = freed_one number o had is
bound_fewer (o ∷ rest) number (suc place) had is = bound_fewer rest number place had is

freed_fewer : (sockets : Sockets) (freed : Option ℕ) → Fewer sockets (after_freeing sockets freed)
freed_fewer sockets None = λ place number is. is
freed_fewer sockets (Some number) = bound_fewer sockets number

new_fewer : (sockets : Sockets) (made : ℕ) → made ≤ length sockets → Fewer sockets (with_new sockets made)
new_fewer sockets made within = put sockets made new_socket within (λ number is. absurd (not_some refl is))

pair_fewer : (sockets : Sockets) → Fewer sockets (with_pair sockets (length sockets) (length sockets + 1))
pair_fewer sockets =
    let one = with_socket sockets (length sockets) (Some (connected_to (length sockets + 1))) in
    let long : length one ≡ length sockets + 1 =
    ap length (with-length sockets (Some (connected_to (length sockets + 1)))) ∙ length-append sockets (Some (connected_to (length sockets + 1)) ∷ []) in
    both sockets one (with_pair sockets (length sockets) (length sockets + 1)) (put sockets (length sockets) (connected_to (length sockets + 1)) (omega arith) (λ number is. absurd (not_some refl is)))
    (put one (length sockets + 1) (connected_to (length sockets)) (omega (arith, long)) (λ number is. absurd (not_some refl is)))

connect_fewer : (sockets : Sockets) (client listener made : ℕ) → client ≤ length sockets → listener ≤ length sockets → made ≤ length sockets → Fewer sockets (after_connect sockets client listener made)
connect_fewer sockets client listener made client_within listener_within made_within =
    let one = with_socket sockets made (Some (connected_to client)) in
    let longer = length-with sockets made (Some (connected_to client)) in
    let two = with_stage one client (Connected (Some made) false false) in
    let longer_too = length-with one client (Some (record (socket_at one client) { stage = Connected (Some made) false false })) in
    both sockets one (after_connect sockets client listener made) (put sockets made (connected_to client) made_within (λ number is. absurd (not_some refl is)))
    (both one two (after_connect sockets client listener made)
    (put one client (record (socket_at one client) { stage = Connected (Some made) false false }) (omega (arith, client_within, longer)) (λ number is. is))
    (put two listener (record (socket_at two listener) { stage = Listening (waiting_of (stage_at sockets listener) ++ made ∷ []) }) (omega (arith, listener_within, longer, longer_too)) (λ number is. is)))

write_fewer : (sockets : Sockets) (place : ℕ) (bytes : List ℕ) (count : ℕ) → AreLinked sockets → Fewer sockets (after_write sockets place bytes count)
write_fewer sockets place bytes count linked = by_peer (peer_of (stage_at sockets place)) refl
  where
    by_peer : (o : Option ℕ) → peer_of (stage_at sockets place) ≡ o → Fewer sockets (sent_to sockets o (take count bytes))
    by_peer None is = λ other number has. has
    by_peer (Some peer) is =
        put sockets peer (record (socket_at sockets peer) { bytes = (socket_at sockets peer).bytes ++ take count bytes }) (there_le sockets peer (peer_there sockets place peer linked is)) (λ number has. has)

-- ---- who has a name is named

abbrev NamedHave : Descriptions → Sockets → Type 0
NamedHave descriptions sockets = (place number : ℕ) → (socket_at sockets place).node ≡ Some number → Contains (named_sockets descriptions) place

abbrev Holds : Files → Type 0
Holds files = Joined files.descriptions files.sockets × NamedHave files.descriptions files.sockets

closes : IsClosedUnder anybody Holds
closes = record {
  shut = λ files pid fd who holds. holds;
  wakes = λ files pid who holds. holds;
  unlocks = λ files locks holds. holds;
  gone = λ files place description holds is none. (joined_closes.gone files place description holds.0 is none, gone files place description holds is description.target refl);
}
  where
    no_node : (number socket : ℕ) → OnNode number ≡ OnSocket socket → ⊥
    no_node number socket e = cc

    no_pipe : (number socket : ℕ) → OnPipe number ≡ OnSocket socket → ⊥
    no_pipe number socket e = cc

    same_socket : (one other : ℕ) → OnSocket one ≡ OnSocket other → one ≡ other
    same_socket one other e = cc

    -- what was open on no socket goes
    left : (files : Files) (place : ℕ) (description : Description) → Holds files → description_at files.descriptions place ≡ Some description → ((socket : ℕ) → description.target ≡ OnSocket socket → ⊥)
        → NamedHave (with_description files.descriptions place None) files.sockets
    left files place description holds is other socket number named = elim (gone_to files.descriptions place description is socket (holds.1 socket number named)) [
      | inl on ↦ absurd (other socket on)
      | inr rest ↦ rest
    ]

    gone : (files : Files) (place : ℕ) (description : Description) → Holds files → description_at files.descriptions place ≡ Some description → (target : Target) → description.target ≡ target
        → NamedHave (target_closed (with_descriptions files (with_description files.descriptions place None)) description.access target).descriptions
        (target_closed (with_descriptions files (with_description files.descriptions place None)) description.access target).sockets
    gone files place description holds is (OnNode number) on = go (opens (with_descriptions files (with_description files.descriptions place None)) number)
      where
        have : NamedHave (with_description files.descriptions place None) files.sockets
        have = left files place description holds is (λ socket e. no_node number socket (sym on ∙ e))

        go : (b : Bool) → NamedHave (cond b (with_descriptions files (with_description files.descriptions place None)) (with_tree (with_descriptions files (with_description files.descriptions place None)) (closed files.tree number))).descriptions
            (cond b (with_descriptions files (with_description files.descriptions place None)) (with_tree (with_descriptions files (with_description files.descriptions place None)) (closed files.tree number))).sockets
        go true = have
        go false = have
    gone files place description holds is (OnPipe p) on = left_holds (λ after. NamedHave after.descriptions after.sockets) _ (node_of files (OnPipe p)) have (λ tree. have)
      where
        have : NamedHave (with_description files.descriptions place None) files.sockets
        have = left files place description holds is (λ socket e. no_pipe p socket (sym on ∙ e))
    gone files place description holds is (OnSocket socket) on = λ other number named.
        elim (gone_to files.descriptions place description is other (holds.1 other number (close_fewer files.sockets socket linked there nowhere other number named))) [
          | inl was ↦ absurd (close_none files.sockets socket linked there nowhere number
              (ap (λ n. (socket_at (after_close files.sockets socket) n).node) (same_socket socket other (sym on ∙ was)) ∙ named))
          | inr rest ↦ rest
        ]
      where
        linked : AreLinked files.sockets
        linked = holds.0.0

        held : AreHeld files.sockets (named_sockets files.descriptions)
        held = holds.0.1

        here : Contains (named_sockets files.descriptions) socket
        here = on_named files.descriptions place description socket is on

        there : IsSome (sock_at files.sockets socket)
        there = held.there socket here

        nowhere : WaitsNowhere files.sockets socket
        nowhere = held.apart socket here

-- ---- each step

module _ (plain : Plain) (pid : ℕ) (call : Call) (next : Files) (holds : Holds plain.files) where
  abbrev Names : Files → Type 0
  Names files = NamedHave files.descriptions files.sockets

  by : (after : Files) → next ≡ after → Names after → Names next
  by after is names = subst Names (sym is) names

  by_both : (after : Files) → next ≡ after → Holds after → Names next
  by_both after is after_holds = by after is after_holds.1

  -- as many are named, and nobody has another name
  kept : (after : Files) → next ≡ after → ((socket : ℕ) → Contains (named_sockets plain.files.descriptions) socket → Contains (named_sockets after.descriptions) socket)
      → Fewer plain.files.sockets after.sockets → Names next
  kept after is named fewer = by after is (λ place number has. named place (holds.1 place number (fewer place number has)))

  same : (after : Files) → next ≡ after → after.descriptions ≡ plain.files.descriptions → after.sockets ≡ plain.files.sockets → Names next
  same after is descriptions sockets = by after is (subst (λ list. NamedHave list after.sockets) (sym descriptions) (subst (NamedHave plain.files.descriptions) (sym sockets) holds.1))

  named : (fd : ℤ) (opened : Opened) (place : ℕ) → opened_at plain.files pid fd ≡ Some opened → opened.is.target ≡ OnSocket place → Contains (named_sockets plain.files.descriptions) place
  named fd opened place is on = let naming_it = naming plain.files pid fd opened is in on_named plain.files.descriptions opened.place opened.is place naming_it.there on

  there : (fd : ℤ) (opened : Opened) (place : ℕ) → opened_at plain.files pid fd ≡ Some opened → opened.is.target ≡ OnSocket place → place ≤ length plain.files.sockets
  there fd opened place is on = let held : AreHeld plain.files.sockets (named_sockets plain.files.descriptions) = holds.0.1 in there_le plain.files.sockets place (held.there place (named fd opened place is on))

  described : (fd : ℤ) (opened : Opened) (now : Description) → opened_at plain.files pid fd ≡ Some opened → now.target ≡ opened.is.target → now.access ≡ opened.is.access
      → (socket : ℕ) → Contains (named_sockets plain.files.descriptions) socket → Contains (named_sockets (with_description plain.files.descriptions opened.place (Some now))) socket
  described fd opened now is target access = let naming_it = naming plain.files pid fd opened is in described_to plain.files.descriptions opened.place opened.is now naming_it.there target access

  -- a socket that is named gets a name
  bound : (fd : ℤ) (opened : Opened) (place : ℕ) (node : Option ℕ) → opened_at plain.files pid fd ≡ Some opened → opened.is.target ≡ OnSocket place
      → NamedHave plain.files.descriptions (with_name plain.files.sockets place node)
  bound fd opened place node is on other number has = elim (eqb_tells other place) [
    | inl alike ↦ subst (Contains (named_sockets plain.files.descriptions)) (sym alike.1) (named fd opened place is on)
    | inr apart ↦
        let changed = Changed-with plain.files.sockets place (Some (record (socket_at plain.files.sockets place) { node = node })) (there fd opened place is on) in
        holds.1 other number (ap (λ (s : Socket). s.node) (sym (changed.others other apart.1)) ∙ has)
  ]

  connected : (fd : ℤ) (opened : Opened) (place number listener : ℕ) → opened_at plain.files pid fd ≡ Some opened → opened.is.target ≡ OnSocket place → listener_at plain.files.sockets number ≡ Some listener
      → Fewer plain.files.sockets (after_connect plain.files.sockets place listener (length plain.files.sockets))
  connected fd opened place number listener is on listening_it = let listens = listener_is plain.files.sockets listener number listening_it in
      connect_fewer plain.files.sockets place listener (length plain.files.sockets) (there fd opened place is on)
      (there_le plain.files.sockets listener (listening_there plain.files.sockets listener listens.waiting listens.stage)) (omega arith)

  step_names : {goes_on : Bool} → IsStep plain pid call goes_on next → Names next
  step_names (step.stays is) = same _ is refl refl
  step_names (step.shares fd opened from to named_it free is) = same _ is refl refl
  step_names (step.shares_over fd to opened named_it may apart is) = by_both _ is (close_holds anybody Holds closes plain.files pid (count_of to) tt holds)
  step_names (step.marks fd opened cloexec named_it is) = same _ is refl refl
  step_names (step.closes fd opened named_it is) = by_both _ is (close_holds anybody Holds closes plain.files pid (count_of fd) tt holds)
  step_names (step.describes fd opened description named_it target access between is) = kept _ is (described fd opened description named_it target access) (λ place number has. has)
  step_names (step.opens path flags fd found which free led other is) = kept _ is (pushed_old plain.files.descriptions _) (λ place number has. has)
  step_names (step.writes fd addr n done opened number at offset written reaches wrote is) = kept _ is (described fd opened _ reaches.named refl refl) (λ place number has. has)
  step_names (step.writes_at fd addr n opened number at written reaches wrote is) = same _ is refl refl
  step_names (step.resizes fd opened number size tree reaches sized is) = same _ is refl refl
  step_names (step.makes path made_it which led is) = same _ is refl refl
  step_names (step.makes_fifo path made_it which led is) = same _ is refl refl
  step_names (step.removes path tree which led is) = same _ is refl refl
  step_names (step.links old new tree which led is) = same _ is refl refl
  step_names (step.unlinks path left which led is) = kept _ is (λ socket here. here) (freed_fewer plain.files.sockets left.0)
  step_names (step.renames old new left which led is) = kept _ is (λ socket here. here) (freed_fewer plain.files.sockets left.0)
  step_names (step.pipes two free is) = kept _ is (λ socket here. pushed_old (plain.files.descriptions ++ Some _ ∷ []) _ socket (pushed_old plain.files.descriptions _ socket here)) (λ place number has. has)
  step_names (step.takes fd addr n opened place k which named_it on may moves is) = same _ is refl refl
  step_names (step.puts fd addr n done opened place k which named_it on may moves is) = same _ is refl refl
  step_names (step.joins path flags fd place found openings opens at may is) = kept _ is (pushed_old plain.files.descriptions _) (λ place number has. has)
  step_names (step.begins path flags fd found openings opens at may is) = kept _ is (pushed_old plain.files.descriptions _) (λ place number has. has)
  step_names (step.meets path flags opening which begun is) = same _ is refl refl
  step_names (step.sockets fd free is) = kept _ is (pushed_old plain.files.descriptions _) (new_fewer plain.files.sockets (length plain.files.sockets) (omega arith))
  step_names (step.pairs two free is) = kept _ is (λ socket here. pushed_old (plain.files.descriptions ++ Some _ ∷ []) _ socket (pushed_old plain.files.descriptions _ socket here)) (pair_fewer plain.files.sockets)
  step_names (step.binds fd path opened place made_it which named_it on fine led is) = by _ is (bound fd opened place (Some made_it.0) named_it on)
  step_names (step.listens fd opened place named_it on fine is) = kept _ is (λ socket here. here)
      (put plain.files.sockets place (record (socket_at plain.files.sockets place) { stage = listening (stage_at plain.files.sockets place) }) (there fd opened place named_it on) (λ number has. has))
  step_names (step.shuts fd how opened place named_it on fine is) = kept _ is (λ socket here. here)
      (put plain.files.sockets place (after_shutdown (socket_at plain.files.sockets place) how) (there fd opened place named_it on) (λ number has. has))
  step_names (step.connects fd opened place number listener named_it on fine listening_it room is) = kept _ is (λ socket here. here) (connected fd opened place number listener named_it on listening_it)
  step_names (step.accepts fd opened place to taken named_it on free first is) = kept _ is (pushed_old plain.files.descriptions _)
      (put plain.files.sockets place (record (socket_at plain.files.sockets place) { stage = without_first (stage_at plain.files.sockets place) }) (there fd opened place named_it on) (λ number has. has))
  step_names (step.receives fd addr n opened place k which named_it on moves is) = kept _ is (λ socket here. here)
      (put plain.files.sockets place (record (socket_at plain.files.sockets place) { bytes = drop k (socket_at plain.files.sockets place).bytes }) (there fd opened place named_it on) (λ number has. has))
  step_names (step.sends fd addr n done opened place k which named_it on moves is) = kept _ is (λ socket here. here)
      (write_fewer plain.files.sockets place (bytes_left plain pid addr (count_of n) done) k holds.0.0)
  step_names (step.locks fd opened number asked sets named_so target is_file places clear is) = same _ is refl refl
  step_names (step.starts is) = by_both _ is (exec_holds anybody Holds closes plain.files pid tt holds)
  step_names (step.forks which is) = same _ is refl refl
  step_names (step.ends_caller over ending is) = by_both _ is (closed_by_holds anybody Holds closes plain.files pid (λ other. tt) holds)
  step_names (step.ends_other who ending is) = by_both _ is (closed_by_holds anybody Holds closes plain.files who (λ other. tt) holds)

-- ---- every machine

names_hold : (script : Script) (plain : Plain) → IsReached script plain → NamedHave plain.files.descriptions plain.files.sockets
names_hold script plain reached = by_induction script (λ plain. NamedHave plain.files.descriptions plain.files.sockets) (record {
  boot = λ place number has. absurd (not_some refl has);
  answer = λ before pid reached names alive. answers_keep (λ files. NamedHave files.descriptions files.sockets) script before pid (call_of script before pid)
      (λ goes_on next stepped. step_names before pid (call_of script before pid) next (joined_holds script before reached, names) stepped);
  refuse = λ before pid reached names. names;
  kill = λ before pid status reached names. (let it : Holds (closed_by before.files pid) = closed_by_holds anybody Holds closes before.files pid (λ other. tt) (joined_holds script before reached, names) in it.1);
}) reached

-- who waits is named by no description
pub reached_unnamed : (script : Script) (plain : Plain) → IsReached script plain → (listener place : ℕ) → WaitsFor plain.files.sockets listener place → (socket_at plain.files.sockets place).node ≡ None
reached_unnamed script plain reached listener place waits = by_node (socket_at plain.files.sockets place).node refl
  where
    held : AreHeld plain.files.sockets (named_sockets plain.files.descriptions)
    held = (joined_holds script plain reached).1

    by_node : (o : Option ℕ) → (socket_at plain.files.sockets place).node ≡ o → o ≡ None
    by_node None is = refl
    by_node (Some number) is = absurd (held.apart place (names_hold script plain reached place number is) listener waits)
