-- Sockets are linked, and each is named by one description or waits, whatever a call is answered.
use Rattle.std.proofs.Common.{◌≡◌, ◌≢◌, ℕ, zero, suc, ◌+◌, ◌-◌, ◌≤◌, ℤ, Bool, true, false, cond, List, [], ◌∷◌, ◌++◌, length, map, Option, None, Some, IsSome, is_some, unwrap_or, refl, ap, sym, ◌∙◌, subst, ◌⊎◌, inl, inr, arith, Contains, length-append}
use Rattle.std.specs.List.{range_with_len}
use Rattle.std.specs.Option.{option_map}
use Rattle.std.proofs.lemmas.List.{get_or_past, length-map}
use Rattle.std.proofs.lemmas.List.Elements.{Contains-append_right}
use Rattle.std.proofs.lemmas.List.FromFn.{length-range_with_len}
use Rattle.kabi_types.specs.Arguments.{count_of}
use Rattle.kabi_types.specs.declared.calls.Call.{Call}
use Rattle.kabi_types.specs.declared.scripts.Script.{Script}
use Rattle.posix_defs.specs.Memory.{Memory, byte_at, loaded}
use Rattle.posix_defs.specs.Pipe.{Moves}
use Rattle.posix_defs.specs.Plain.{Plain, call_of}
use Rattle.posix_defs.specs.Process.{memory_of}
use Rattle.posix_defs.specs.Socket.{Idle, Listening, Connected, Refuses, Socket, Stage, Takes, accept as accept_in, connect_fault, connected_to, first_waiting, is_connected, new_socket, peer_of, waiting_of}
use Rattle.posix_defs.specs.SocketLinks.{AreHeld, AreLinked, NoneTwice, room_of}
use Rattle.posix_defs.specs.Sockets.{Sockets, after_accept, after_close, after_connect, after_write, backlog, is_refused, sock_at, sock_write, socket_at, stage_at, with_new, with_pair, with_socket}
use Rattle.posix_defs.specs.TreeChanges.{closed}
use Rattle.posix_defs.specs.Files.Descriptions.{Target, OnNode, OnPipe, OnSocket, ReadWrite, Description, Descriptions, description_at, with_description}
use Rattle.posix_defs.specs.Files.SocketNames.{after_freeing, listener_at, none_bound_to, unnamed}
use Rattle.posix_defs.specs.Files.State.{Files, is_number, node_of, opens, with_descriptions, with_tree}
use Rattle.posix_defs.specs.Files.Closing.{target_closed}
use Rattle.posix_defs.specs.Files.Whole.{named_sockets}
use Rattle.posix_defs.specs.Calls.Opened.{Opened, opened_at}
use Rattle.posix_defs.specs.Calls.OnSockets.{description_of}
use Rattle.posix_defs.specs.Calls.Writing.{bytes_left}
use Rattle.socket_laws.proofs.ListenerLemmas.{Listens, listener_is}
use Rattle.socket_laws.proofs.SocketCalls.{accept_linked, close_linked, connect_linked, listen_linked, named_linked, new_linked, pair_linked, read_linked, shut_linked, write_linked}
use Rattle.socket_laws.proofs.SocketHeld.{accept_held, close_held, connect_held, listen_held, named_held, new_held, pair_held, read_held, shut_held, write_held}
use Rattle.socket_laws.proofs.SocketTable.{with-length}
use Rattle.machine_laws.specs.FileSteps as step
use Rattle.machine_laws.specs.FileSteps.{IsStep}
use Rattle.machine_laws.specs.Reached.{IsReached}
use Rattle.machine_laws.proofs.Places.{not_some, naming}
use Rattle.machine_laws.specs.Joined.{AreJoined}
use Rattle.machine_laws.proofs.FifoPlaces.{left_holds}
use Rattle.machine_laws.proofs.Closings.{IsClosedUnder, anybody, close_holds, closed_by_holds, exec_holds}
use Rattle.machine_laws.proofs.Inductions.{answers_keep, by_induction}
use Rattle.machine_laws.proofs.Items.{true_false}
use Rattle.machine_laws.proofs.Named.{AreOwn, described_from, described_own, described_to, gone_alone, gone_from, gone_own, gone_to, none_twice, on_named, pushed_from, pushed_new, pushed_old, pushed_own}

-- ---- what is kept where the same sockets are there, in the same stages

linked_same : (old new : Sockets) → ((place : ℕ) → stage_at new place ≡ stage_at old place) → ((place : ℕ) → (socket_at new place).bytes ≡ (socket_at old place).bytes) → AreLinked old → AreLinked new
linked_same old new stages bytes linked = record {
  paired = λ place peer is. ap peer_of (stages peer) ∙ linked.paired place peer (sym (ap peer_of (stages place)) ∙ is);
  apart = λ place is. linked.apart place (sym (ap peer_of (stages place)) ∙ is);
  waiting = λ listener place waits. ap is_connected (stages place) ∙ linked.waiting listener place (subst (λ stage. Contains (waiting_of stage) place) (stages listener) waits);
  once = λ listener. subst (λ stage. NoneTwice (waiting_of stage)) (sym (stages listener)) (linked.once listener);
  one_place = λ one other place here there. linked.one_place one other place (subst (λ stage. Contains (waiting_of stage) place) (stages one) here) (subst (λ stage. Contains (waiting_of stage) place) (stages other) there);
  backlog = λ place. subst (λ stage. length (waiting_of stage) ≤ backlog) (sym (stages place)) (linked.backlog place);
  room = λ place. subst (λ list. length list ≤ room_of (stage_at new place)) (sym (bytes place)) (subst (λ stage. length (socket_at old place).bytes ≤ room_of stage) (sym (stages place)) (linked.room place));
}

-- the same are there and wait, and the same are named
held_same : (old new : Sockets) (named named_now : List ℕ) → ((place : ℕ) → is_some (sock_at new place) ≡ is_some (sock_at old place)) → ((place : ℕ) → stage_at new place ≡ stage_at old place)
    → ((place : ℕ) → Contains named place → Contains named_now place) → ((place : ℕ) → Contains named_now place → Contains named place) → AreHeld old named → AreHeld new named_now
held_same old new named named_now there stages to from held = record {
  held = λ place is. elim (held.held place (sym (there place) ∙ is)) [
    | inl here ↦ inl (to place here)
    | inr (listener, waits) ↦ inr (listener, subst (λ stage. Contains (waiting_of stage) place) (sym (stages listener)) waits)
  ];
  there = λ place here. there place ∙ held.there place (from place here);
  apart = λ place here listener waits. held.apart place (from place here) listener (subst (λ stage. Contains (waiting_of stage) place) (stages listener) waits);
}

-- the same sockets, which others name
held_by : (sockets : Sockets) (named named_now : List ℕ) → ((place : ℕ) → Contains named place → Contains named_now place) → ((place : ℕ) → Contains named_now place → Contains named place)
    → AreHeld sockets named → AreHeld sockets named_now
held_by sockets named named_now to from held = held_same sockets sockets named named_now (λ place. refl) (λ place. refl) to from held

-- who isn't there isn't named
none_named : (sockets : Sockets) (named : List ℕ) (place : ℕ) → AreHeld sockets named → sock_at sockets place ≡ None → Contains named place → ⊥
none_named sockets named place held none here = true_false (is_some (sock_at sockets place)) (held.there place here) (ap is_some none)

-- one of a list is the first, or one of the rest
among : (first : ℕ) (rest : List ℕ) (x : ℕ) → Contains (first ∷ rest) x → (first ≡ x) ⊎ Contains rest x
among first rest x (zero, h, e) = inl e
among first rest x (suc k, h, e) = inr (k, omega arith, e)

-- ---- a name that goes

map_at : (f : Option Socket → Option Socket) (sockets : Sockets) (place : ℕ) → f None ≡ None → sock_at (map f sockets) place ≡ f (sock_at sockets place)
map_at f [] place none = sym none
map_at f (first ∷ rest) zero none = refl
map_at f (first ∷ rest) (suc place) none = map_at f rest place none

module _ (sockets : Sockets) (number : ℕ) where
  unbound_at : (place : ℕ) → sock_at (none_bound_to sockets number) place ≡ option_map (unnamed number) (sock_at sockets place)
  unbound_at place = map_at (option_map (unnamed number)) sockets place refl

  pub unbound_there : (place : ℕ) → is_some (sock_at (none_bound_to sockets number) place) ≡ is_some (sock_at sockets place)
  unbound_there place = ap is_some (unbound_at place) ∙ go (sock_at sockets place)
    where
      go : (o : Option Socket) → is_some (option_map (unnamed number) o) ≡ is_some o
      go None = refl
      go (Some socket) = refl

  pub unbound_stage : (place : ℕ) → stage_at (none_bound_to sockets number) place ≡ stage_at sockets place
  unbound_stage place = ap (λ o. (unwrap_or o new_socket).stage) (unbound_at place) ∙ go (sock_at sockets place)
    where
      either : (b : Bool) (socket : Socket) → (cond b (record socket { node = None }) socket).stage ≡ socket.stage
      either true socket = refl
      either false socket = refl

      go : (o : Option Socket) → (unwrap_or (option_map (unnamed number) o) new_socket).stage ≡ (unwrap_or o new_socket).stage
      go None = refl
      go (Some socket) = either (is_number number socket.node) socket

  pub unbound_bytes : (place : ℕ) → (socket_at (none_bound_to sockets number) place).bytes ≡ (socket_at sockets place).bytes
  unbound_bytes place = ap (λ o. (unwrap_or o new_socket).bytes) (unbound_at place) ∙ go (sock_at sockets place)
    where
      either : (b : Bool) (socket : Socket) → (cond b (record socket { node = None }) socket).bytes ≡ socket.bytes
      either true socket = refl
      either false socket = refl

      go : (o : Option Socket) → (unwrap_or (option_map (unnamed number) o) new_socket).bytes ≡ (unwrap_or o new_socket).bytes
      go None = refl
      go (Some socket) = either (is_number number socket.node) socket

-- ---- sockets and descriptions

abbrev pub Joined : Descriptions → Sockets → Type 0
Joined descriptions sockets = AreLinked sockets × AreHeld sockets (named_sockets descriptions) × AreOwn descriptions

module _ (descriptions : Descriptions) (sockets : Sockets) (joined : Joined descriptions sockets) where
  linked : AreLinked sockets
  linked = joined.0

  held : AreHeld sockets (named_sockets descriptions)
  held = joined.1

  owned : AreOwn descriptions
  owned = joined.2

  described_joined : (place : ℕ) (was now : Description) → description_at descriptions place ≡ Some was → now.target ≡ was.target → now.access ≡ was.access → Joined (with_description descriptions place (Some now)) sockets
  described_joined place was now there target access = (
    linked,
    held_by sockets (named_sockets descriptions) (named_sockets (with_description descriptions place (Some now)))
        (described_to descriptions place was now there target access) (described_from descriptions place was now there target access) held,
    described_own descriptions place was now there target access owned,
  )

  -- what is no socket is opened
  opened_joined : (new : Description) → ((socket : ℕ) → new.target ≡ OnSocket socket → ⊥) → Joined (descriptions ++ Some new ∷ []) sockets
  opened_joined new other = (
    linked,
    held_by sockets (named_sockets descriptions) (named_sockets (descriptions ++ Some new ∷ [])) (pushed_old descriptions new)
        (λ place here. elim (pushed_from descriptions new place here) [ inl old ↦ old | inr on ↦ absurd (other place on) ]) held,
    pushed_own descriptions new owned (λ socket on. absurd (other socket on)),
  )

  -- a description of one more socket, which nobody named
  named_joined : (new : Sockets) (place : ℕ) → AreLinked new → AreHeld new (place ∷ named_sockets descriptions) → (Contains (named_sockets descriptions) place → ⊥)
      → Joined (descriptions ++ Some (description_of place) ∷ []) new
  named_joined new place links holds fresh = (
    links,
    held_by new (place ∷ named_sockets descriptions) (named_sockets (descriptions ++ Some (description_of place) ∷ [])) to from holds,
    pushed_own descriptions (description_of place) owned (λ socket on. (subst (λ n. Contains (named_sockets descriptions) n → ⊥) (same_socket socket on) fresh, refl)),
  )
    where
      same_socket : (socket : ℕ) → OnSocket place ≡ OnSocket socket → place ≡ socket
      same_socket socket e = cc

      to : (other : ℕ) → Contains (place ∷ named_sockets descriptions) other → Contains (named_sockets (descriptions ++ Some (description_of place) ∷ [])) other
      to other here = elim (among place (named_sockets descriptions) other here) [
        | inl same ↦ pushed_new descriptions (description_of place) other (ap OnSocket same)
        | inr rest ↦ pushed_old descriptions (description_of place) other rest
      ]

      from : (other : ℕ) → Contains (named_sockets (descriptions ++ Some (description_of place) ∷ [])) other → Contains (place ∷ named_sockets descriptions) other
      from other here = elim (pushed_from descriptions (description_of place) other here) [
        | inl old ↦ Contains-append_right (place ∷ []) (named_sockets descriptions) other old
        | inr on ↦ subst (λ n. Contains (place ∷ named_sockets descriptions) n) (same_socket other on) (0, omega arith, refl)
      ]

  -- what isn't a socket is closed
  pub gone_joined : (place : ℕ) (was : Description) → description_at descriptions place ≡ Some was → ((socket : ℕ) → was.target ≡ OnSocket socket → ⊥) → Joined (with_description descriptions place None) sockets
  gone_joined place was there other = (
    linked,
    held_by sockets (named_sockets descriptions) (named_sockets (with_description descriptions place None))
        (λ socket here. elim (gone_to descriptions place was there socket here) [ inl on ↦ absurd (other socket on) | inr rest ↦ rest ]) (gone_from descriptions place was there) held,
    gone_own descriptions place was there owned,
  )

  -- a socket is closed
  closed_joined : (place : ℕ) (was : Description) (socket : ℕ) → description_at descriptions place ≡ Some was → was.target ≡ OnSocket socket
      → Joined (with_description descriptions place None) (after_close sockets socket)
  closed_joined place was socket there on = (
    close_linked sockets socket linked (held.there socket named) (held.apart socket named),
    close_held sockets (named_sockets (with_description descriptions place None)) socket linked (gone_alone descriptions place was there owned socket on)
        (held_by sockets (named_sockets descriptions) (socket ∷ named_sockets (with_description descriptions place None)) to from held),
    gone_own descriptions place was there owned,
  )
    where
      named : Contains (named_sockets descriptions) socket
      named = on_named descriptions place was socket there on

      same_socket : (other : ℕ) → was.target ≡ OnSocket other → socket ≡ other
      same_socket other e = let both : OnSocket socket ≡ OnSocket other = sym on ∙ e in cc

      to : (other : ℕ) → Contains (named_sockets descriptions) other → Contains (socket ∷ named_sockets (with_description descriptions place None)) other
      to other here = elim (gone_to descriptions place was there other here) [
        | inl was_on ↦ subst (λ n. Contains (socket ∷ named_sockets (with_description descriptions place None)) n) (same_socket other was_on) (0, omega arith, refl)
        | inr rest ↦ Contains-append_right (socket ∷ []) (named_sockets (with_description descriptions place None)) other rest
      ]

      from : (other : ℕ) → Contains (socket ∷ named_sockets (with_description descriptions place None)) other → Contains (named_sockets descriptions) other
      from other here = elim (among socket (named_sockets (with_description descriptions place None)) other here) [
        | inl same ↦ subst (Contains (named_sockets descriptions)) same named
        | inr rest ↦ gone_from descriptions place was there other rest
      ]

  -- the same sockets in the same stages
  renamed_joined : (freed : Option ℕ) → Joined descriptions (after_freeing sockets freed)
  renamed_joined None = joined
  renamed_joined (Some number) = (
    linked_same sockets (none_bound_to sockets number) (unbound_stage sockets number) (unbound_bytes sockets number) linked,
    held_same sockets (none_bound_to sockets number) (named_sockets descriptions) (named_sockets descriptions) (unbound_there sockets number) (unbound_stage sockets number)
        (λ place here. here) (λ place here. here) held,
    owned,
  )

  -- two are made, and named
  pair_joined : Joined (descriptions ++ Some (description_of (length sockets)) ∷ [] ++ Some (description_of (length sockets + 1)) ∷ []) (with_pair sockets (length sockets) (length sockets + 1))
  pair_joined = (
    pair_linked sockets (length sockets) (length sockets + 1) linked apart first_none second_none (omega arith) within,
    held_by (with_pair sockets (length sockets) (length sockets + 1)) ((length sockets + 1) ∷ length sockets ∷ named_sockets descriptions) (named_sockets two) to from
        (pair_held sockets (named_sockets descriptions) (length sockets) (length sockets + 1) linked apart first_none second_none (omega arith) within held),
    pushed_own one (description_of (length sockets + 1)) (pushed_own descriptions (description_of (length sockets)) owned first_fresh) second_fresh,
  )
    where
      apart : length sockets ≢ length sockets + 1
      apart e = absurd (omega arith)

      first_none : sock_at sockets (length sockets) ≡ None
      first_none = get_or_past sockets (length sockets) None (omega arith)

      second_none : sock_at sockets (length sockets + 1) ≡ None
      second_none = get_or_past sockets (length sockets + 1) None (omega arith)

      within : length sockets + 1 ≤ length (with_socket sockets (length sockets) (Some (connected_to (length sockets + 1))))
      within = let e : length (with_socket sockets (length sockets) (Some (connected_to (length sockets + 1)))) ≡ length (sockets ++ Some (connected_to (length sockets + 1)) ∷ []) =
          ap (λ list. length list) (with-length sockets (Some (connected_to (length sockets + 1)))) in
          let longer : length (sockets ++ Some (connected_to (length sockets + 1)) ∷ []) ≡ length sockets + 1 = length-append sockets (Some (connected_to (length sockets + 1)) ∷ []) in omega arith

      one : Descriptions
      one = descriptions ++ Some (description_of (length sockets)) ∷ []

      two : Descriptions
      two = one ++ Some (description_of (length sockets + 1)) ∷ []

      same_socket : (place socket : ℕ) → OnSocket place ≡ OnSocket socket → place ≡ socket
      same_socket place socket e = cc

      first_fresh : (socket : ℕ) → OnSocket (length sockets) ≡ OnSocket socket → (Contains (named_sockets descriptions) socket → ⊥) × (ReadWrite ≡ ReadWrite)
      first_fresh socket on = (subst (λ n. Contains (named_sockets descriptions) n → ⊥) (same_socket (length sockets) socket on) (none_named sockets (named_sockets descriptions) (length sockets) held first_none), refl)

      second_fresh : (socket : ℕ) → OnSocket (length sockets + 1) ≡ OnSocket socket → (Contains (named_sockets one) socket → ⊥) × (ReadWrite ≡ ReadWrite)
      second_fresh socket on = (subst (λ n. Contains (named_sockets one) n → ⊥) (same_socket (length sockets + 1) socket on) fresh, refl)
        where
          fresh : Contains (named_sockets one) (length sockets + 1) → ⊥
          fresh here = elim (pushed_from descriptions (description_of (length sockets)) (length sockets + 1) here) [
            | inl old ↦ none_named sockets (named_sockets descriptions) (length sockets + 1) held second_none old
            | inr is ↦ apart (same_socket (length sockets) (length sockets + 1) is)
          ]

      to : (other : ℕ) → Contains ((length sockets + 1) ∷ length sockets ∷ named_sockets descriptions) other → Contains (named_sockets two) other
      to other here = elim (among (length sockets + 1) (length sockets ∷ named_sockets descriptions) other here) [
        | inl same ↦ pushed_new one (description_of (length sockets + 1)) other (ap OnSocket same)
        | inr rest ↦ pushed_old one (description_of (length sockets + 1)) other (elim (among (length sockets) (named_sockets descriptions) other rest) [
          | inl same ↦ pushed_new descriptions (description_of (length sockets)) other (ap OnSocket same)
          | inr old ↦ pushed_old descriptions (description_of (length sockets)) other old
        ])
      ]

      from : (other : ℕ) → Contains (named_sockets two) other → Contains ((length sockets + 1) ∷ length sockets ∷ named_sockets descriptions) other
      from other here = elim (pushed_from one (description_of (length sockets + 1)) other here) [
        | inr on ↦ subst (λ n. Contains ((length sockets + 1) ∷ length sockets ∷ named_sockets descriptions) n) (same_socket (length sockets + 1) other on) (0, omega arith, refl)
        | inl old ↦ Contains-append_right ((length sockets + 1) ∷ []) (length sockets ∷ named_sockets descriptions) other (elim (pushed_from descriptions (description_of (length sockets)) other old) [
          | inr on ↦ subst (λ n. Contains (length sockets ∷ named_sockets descriptions) n) (same_socket (length sockets) other on) (0, omega arith, refl)
          | inl older ↦ Contains-append_right (length sockets ∷ []) (named_sockets descriptions) other older
        ])
      ]

-- ---- steps

abbrev Holds : Files → Type 0
Holds files = Joined files.descriptions files.sockets

pub closes : IsClosedUnder anybody Holds
closes = record {
  shut = λ files pid fd who joined. joined;
  wakes = λ files pid who joined. joined;
  gone = λ files place description joined is none. gone files place description joined is description.target refl;
  unlocks = λ files locks joined. joined;
}
  where
    no_node : (number socket : ℕ) → OnNode number ≡ OnSocket socket → ⊥
    no_node number socket e = cc

    no_pipe : (number socket : ℕ) → OnPipe number ≡ OnSocket socket → ⊥
    no_pipe number socket e = cc

    gone : (files : Files) (place : ℕ) (description : Description) → Holds files → description_at files.descriptions place ≡ Some description → (target : Target) → description.target ≡ target
        → Holds (target_closed (with_descriptions files (with_description files.descriptions place None)) description.access target)
    gone files place description joined is (OnNode number) on = go (opens (with_descriptions files (with_description files.descriptions place None)) number)
      where
        left : Joined (with_description files.descriptions place None) files.sockets
        left = gone_joined files.descriptions files.sockets joined place description is (λ socket e. no_node number socket (sym on ∙ e))

        go : (b : Bool) → Holds (cond b (with_descriptions files (with_description files.descriptions place None))
            (with_tree (with_descriptions files (with_description files.descriptions place None)) (closed files.tree number)))
        go true = left
        go false = left
    gone files place description joined is (OnPipe p) on = left_holds Holds _ (node_of files (OnPipe p)) left (λ tree. left)
      where
        left : Joined (with_description files.descriptions place None) files.sockets
        left = gone_joined files.descriptions files.sockets joined place description is (λ socket e. no_pipe p socket (sym on ∙ e))
    gone files place description joined is (OnSocket socket) on = closed_joined files.descriptions files.sockets joined place description socket is on

-- as many bytes are read of memory as are asked for
loaded_length : (memory : Memory) (addr n : ℕ) → length (loaded memory addr n) ≡ n
loaded_length memory addr n = length-map (range_with_len addr n) (byte_at memory) ∙ length-range_with_len addr n

no_node : (number socket : ℕ) → OnNode number ≡ OnSocket socket → ⊥
no_node number socket e = cc

no_pipe : (number socket : ℕ) → OnPipe number ≡ OnSocket socket → ⊥
no_pipe number socket e = cc

pub idle_of : (stage : Stage) → connect_fault stage ≡ None → stage ≡ Idle
idle_of Idle is = refl
idle_of (Listening waiting) is = absurd (not_some is refl)
idle_of (Connected peer shut_read shut_write) is = absurd (not_some is refl)

-- one who accepts somebody listens, and that one waits first
pub accepts_first : (stage : Stage) (nonblock : Bool) (taken : ℕ) → accept_in stage true nonblock ≡ Takes taken → (rest : List ℕ) × (stage ≡ Listening (taken ∷ rest))
accepts_first Idle nonblock taken is = absurd (refused is)
  where
    refused : {e : _} → Refuses e ≡ Takes taken → ⊥
    refused is = cc
accepts_first (Connected peer shut_read shut_write) nonblock taken is = absurd (refused is)
  where
    refused : {e : _} → Refuses e ≡ Takes taken → ⊥
    refused is = cc
accepts_first (Listening []) nonblock taken is = absurd (nobody nonblock is)
  where
    nobody : (nonblock : Bool) → first_waiting [] nonblock ≡ Takes taken → ⊥
    nobody true is = cc
    nobody false is = cc
accepts_first (Listening (first ∷ rest)) nonblock taken is = (rest, ap (λ n. Listening (n ∷ rest)) (same is))
  where
    same : Takes first ≡ Takes taken → first ≡ taken
    same is = cc

module _ (plain : Plain) (pid : ℕ) (call : Call) (next : Files) (joined : Holds plain.files) where
  by : (after : Files) → next ≡ after → Holds after → Holds next
  by after is holds = subst Holds (sym is) holds

  same : (after : Files) → next ≡ after → after.descriptions ≡ plain.files.descriptions → after.sockets ≡ plain.files.sockets → Holds next
  same after is descriptions sockets = by after is (subst (λ list. Joined list after.sockets) (sym descriptions) (subst (Joined plain.files.descriptions) (sym sockets) joined))

  -- other sockets, which the same descriptions name
  resocketed : (after : Files) → next ≡ after → after.descriptions ≡ plain.files.descriptions → AreLinked after.sockets → AreHeld after.sockets (named_sockets plain.files.descriptions) → Holds next
  resocketed after is descriptions links holds = by after is (subst (λ list. Joined list after.sockets) (sym descriptions) (links, holds, joined.2))

  described : (fd : ℤ) (opened : Opened) (now : Description) → opened_at plain.files pid fd ≡ Some opened → now.target ≡ opened.is.target → now.access ≡ opened.is.access
      → Joined (with_description plain.files.descriptions opened.place (Some now)) plain.files.sockets
  described fd opened now named target access = let naming_it = naming plain.files pid fd opened named in
      described_joined plain.files.descriptions plain.files.sockets joined opened.place opened.is now naming_it.there target access

  -- the socket of a descriptor is there
  named : (fd : ℤ) (opened : Opened) (place : ℕ) → opened_at plain.files pid fd ≡ Some opened → opened.is.target ≡ OnSocket place → Contains (named_sockets plain.files.descriptions) place
  named fd opened place is on = let naming_it = naming plain.files pid fd opened is in on_named plain.files.descriptions opened.place opened.is place naming_it.there on

  there : (fd : ℤ) (opened : Opened) (place : ℕ) → opened_at plain.files pid fd ≡ Some opened → opened.is.target ≡ OnSocket place → IsSome (sock_at plain.files.sockets place)
  there fd opened place is on = (held plain.files.descriptions plain.files.sockets joined).there place (named fd opened place is on)

  one : (description : Description) → ((socket : ℕ) → description.target ≡ OnSocket socket → ⊥) → Joined (plain.files.descriptions ++ Some description ∷ []) plain.files.sockets
  one description other = opened_joined plain.files.descriptions plain.files.sockets joined description other

  two : (first second : Description) → ((socket : ℕ) → first.target ≡ OnSocket socket → ⊥) → ((socket : ℕ) → second.target ≡ OnSocket socket → ⊥)
      → Joined (plain.files.descriptions ++ Some first ∷ [] ++ Some second ∷ []) plain.files.sockets
  two first second no_first no_second = opened_joined (plain.files.descriptions ++ Some first ∷ []) plain.files.sockets (one first no_first) second no_second

  none_last : sock_at plain.files.sockets (length plain.files.sockets) ≡ None
  none_last = get_or_past plain.files.sockets (length plain.files.sockets) None (omega arith)

  made : Joined (plain.files.descriptions ++ Some (description_of (length plain.files.sockets)) ∷ []) (with_new plain.files.sockets (length plain.files.sockets))
  made = named_joined plain.files.descriptions plain.files.sockets joined (with_new plain.files.sockets (length plain.files.sockets)) (length plain.files.sockets)
      (new_linked plain.files.sockets (length plain.files.sockets) joined.0 none_last (omega arith))
      (new_held plain.files.sockets (named_sockets plain.files.descriptions) (length plain.files.sockets) joined.0 none_last (omega arith) joined.1)
      (none_named plain.files.sockets (named_sockets plain.files.descriptions) (length plain.files.sockets) joined.1 none_last)

  connected : (after : Files) → next ≡ after → (fd : ℤ) (opened : Opened) (place number listener : ℕ) → opened_at plain.files pid fd ≡ Some opened → opened.is.target ≡ OnSocket place
      → connect_fault (stage_at plain.files.sockets place) ≡ None → listener_at plain.files.sockets number ≡ Some listener → is_refused plain.files.sockets (Some listener) ≡ false
      → after.descriptions ≡ plain.files.descriptions → after.sockets ≡ after_connect plain.files.sockets place listener (length plain.files.sockets) → Holds next
  connected after is fd opened place number listener named_it on fine listening room descriptions sockets = go (listener_is plain.files.sockets listener number listening)
    where
      idle : stage_at plain.files.sockets place ≡ Idle
      idle = idle_of (stage_at plain.files.sockets place) fine

      go : Listens (socket_at plain.files.sockets listener) number → Holds next
      go listens = resocketed after is descriptions
          (subst AreLinked (sym sockets)
          (connect_linked plain.files.sockets place listener (length plain.files.sockets) joined.0 idle (there fd opened place named_it on) none_last (omega arith) room listens.waiting listens.stage))
          (subst (λ list. AreHeld list (named_sockets plain.files.descriptions)) (sym sockets)
          (connect_held plain.files.sockets (named_sockets plain.files.descriptions) place listener (length plain.files.sockets) listens.waiting joined.0 idle (there fd opened place named_it on) none_last (omega arith) listens.stage joined.1))

  accepted : (place taken : ℕ) (rest : List ℕ) → IsSome (sock_at plain.files.sockets place) → stage_at plain.files.sockets place ≡ Listening (taken ∷ rest)
      → Joined (plain.files.descriptions ++ Some (description_of taken) ∷ []) (after_accept plain.files.sockets place)
  accepted place taken rest is_there listens = named_joined plain.files.descriptions plain.files.sockets joined (after_accept plain.files.sockets place) taken
      (accept_linked plain.files.sockets place joined.0 is_there)
      (accept_held plain.files.sockets (named_sockets plain.files.descriptions) place taken rest joined.0 listens joined.1)
      (λ here. (held plain.files.descriptions plain.files.sockets joined).apart taken here place (subst (λ stage. Contains (waiting_of stage) taken) (sym listens) (0, omega arith, refl)))

  sent : (place n done k : ℕ) (addr : ℤ) (nonblock : Bool) → sock_write plain.files.sockets place nonblock (n - done) ≡ Moves k → AreLinked (after_write plain.files.sockets place (bytes_left plain pid addr n done) k)
  sent place n done k addr nonblock moves = write_linked plain.files.sockets place (bytes_left plain pid addr n done) k nonblock joined.0
      (ap (sock_write plain.files.sockets place nonblock) (loaded_length (memory_of plain.table pid) (count_of addr + done) (n - done)) ∙ moves)

  step_joined : {goes_on : Bool} → IsStep plain pid call goes_on next → Holds next
  step_joined (step.stays is) = same _ is refl refl
  step_joined (step.shares fd opened from to named_it free is) = same _ is refl refl
  step_joined (step.shares_over fd to opened named_it may apart is) = by _ is (close_holds anybody Holds closes plain.files pid (count_of to) tt joined)
  step_joined (step.marks fd opened cloexec named_it is) = same _ is refl refl
  step_joined (step.closes fd opened named_it is) = by _ is (close_holds anybody Holds closes plain.files pid (count_of fd) tt joined)
  step_joined (step.describes fd opened description named_it target access between is) = by _ is (described fd opened description named_it target access)
  step_joined (step.opens path flags fd found which free led other is) = by _ is (one _ (λ socket e. no_node _ socket e))
  step_joined (step.writes fd addr n done opened number at offset written reaches wrote is) = by _ is (described fd opened _ reaches.named refl refl)
  step_joined (step.writes_at fd addr n opened number at written reaches wrote is) = same _ is refl refl
  step_joined (step.resizes fd opened number size tree reaches sized is) = same _ is refl refl
  step_joined (step.makes path made_it which led is) = same _ is refl refl
  step_joined (step.makes_fifo path made_it which led is) = same _ is refl refl
  step_joined (step.removes path tree which led is) = same _ is refl refl
  step_joined (step.links old new tree which led is) = same _ is refl refl
  step_joined (step.unlinks path left which led is) = by _ is (renamed_joined plain.files.descriptions plain.files.sockets joined left.0)
  step_joined (step.renames old new left which led is) = by _ is (renamed_joined plain.files.descriptions plain.files.sockets joined left.0)
  step_joined (step.pipes free_two free is) = by _ is (two _ _ (λ socket e. no_pipe _ socket e) (λ socket e. no_pipe _ socket e))
  step_joined (step.takes fd addr n opened place k which named_it on may moves is) = same _ is refl refl
  step_joined (step.puts fd addr n done opened place k which named_it on may moves is) = same _ is refl refl
  step_joined (step.joins path flags fd place found openings opens at may is) = by _ is (one _ (λ socket e. no_pipe _ socket e))
  step_joined (step.begins path flags fd found openings opens at may is) = by _ is (one _ (λ socket e. no_pipe _ socket e))
  step_joined (step.meets path flags opening which begun is) = same _ is refl refl
  step_joined (step.sockets fd free is) = by _ is made
  step_joined (step.pairs free_two free is) = by _ is (pair_joined plain.files.descriptions plain.files.sockets joined)
  step_joined (step.binds fd path opened place made_it which named_it on fine led is) = resocketed _ is refl (named_linked plain.files.sockets place (Some made_it.0) joined.0 (there fd opened place named_it on))
      (named_held plain.files.sockets (named_sockets plain.files.descriptions) place (Some made_it.0) (there fd opened place named_it on) joined.1)
  step_joined (step.listens fd opened place named_it on fine is) = resocketed _ is refl (listen_linked plain.files.sockets place joined.0 (there fd opened place named_it on))
      (listen_held plain.files.sockets (named_sockets plain.files.descriptions) place (there fd opened place named_it on) joined.1)
  step_joined (step.shuts fd how opened place named_it on fine is) = resocketed _ is refl (shut_linked plain.files.sockets place how joined.0 (there fd opened place named_it on))
      (shut_held plain.files.sockets (named_sockets plain.files.descriptions) place how (there fd opened place named_it on) joined.1)
  step_joined (step.connects fd opened place number listener named_it on fine listening room is) = connected _ is fd opened place number listener named_it on fine listening room refl refl
  step_joined (step.accepts fd opened place to taken named_it on free first is) = by _ is (let listens = accepts_first (stage_at plain.files.sockets place) opened.is.nonblock taken first in
      accepted place taken listens.0 (there fd opened place named_it on) listens.1)
  step_joined (step.receives fd addr n opened place k which named_it on moves is) = resocketed _ is refl (read_linked plain.files.sockets place k joined.0 (there fd opened place named_it on))
      (read_held plain.files.sockets (named_sockets plain.files.descriptions) place k (there fd opened place named_it on) joined.1)
  step_joined (step.sends fd addr n done opened place k which named_it on moves is) = resocketed _ is refl (sent place (count_of n) done k addr opened.is.nonblock moves)
      (write_held plain.files.sockets (named_sockets plain.files.descriptions) place (bytes_left plain pid addr (count_of n) done) k joined.0 joined.1)
  step_joined (step.locks fd opened number asked sets named_so target is_file places clear is) = same _ is refl refl
  step_joined (step.starts is) = by _ is (exec_holds anybody Holds closes plain.files pid tt joined)
  step_joined (step.forks which is) = same _ is refl refl
  step_joined (step.ends_caller over ending is) = by _ is (closed_by_holds anybody Holds closes plain.files pid (λ other. tt) joined)
  step_joined (step.ends_other who ending is) = by _ is (closed_by_holds anybody Holds closes plain.files who (λ other. tt) joined)

-- ---- every machine

boot_linked : AreLinked []
boot_linked = record {
  paired = λ place peer is. absurd (not_some refl is);
  apart = λ place is. not_some refl is;
  waiting = λ listener place waits. absurd (omega (arith, waits.1));
  once = λ listener. tt;
  one_place = λ one other place here there. absurd (omega (arith, here.1));
  backlog = λ place. omega arith;
  room = λ place. omega arith;
}

boot_joined : Joined [] []
boot_joined = (
  boot_linked,
  record { held = λ place is. absurd (true_false false is refl); there = λ place here. absurd (omega (arith, here.1)); apart = λ place here. absurd (omega (arith, here.1)) },
  record { own = λ one other socket this that is_one is_other on_one on_other. absurd (not_some refl is_one); both_ways = λ place socket description is on. absurd (not_some refl is) },
)

pub joined_holds : (script : Script) (plain : Plain) → IsReached script plain → Holds plain.files
joined_holds script plain reached = by_induction script (λ plain. Holds plain.files) (record {
  boot = boot_joined;
  answer = λ before pid reached joined alive. answers_keep Holds script before pid (call_of script before pid) (λ goes_on next stepped. step_joined before pid (call_of script before pid) next joined stepped);
  refuse = λ before pid reached joined. joined;
  kill = λ before pid status reached joined. closed_by_holds anybody Holds closes before.files pid (λ other. tt) joined;
}) reached

pub reached_joined : (script : Script) (plain : Plain) → IsReached script plain → AreJoined plain.files.descriptions plain.files.sockets
reached_joined script plain reached = let joined = joined_holds script plain reached in let own = joined.2 in
    record { linked = joined.0; held = joined.1; once = none_twice plain.files.descriptions joined.2; both_ways = own.both_ways }
