-- Who is bound and who listens, in a table of sockets by key and in the same one by place.
use Rattle.std.proofs.Common.{◌≡◌, ℕ, ◌≤◌, Bool, cond, List, map, length, Option, None, Some, IsSome, is_some, refl, sym, ap, ◌∙◌, arith}
use Rattle.std.specs.Option.{option_map}
use Rattle.kabi_types.specs.declared.errnos.Errno.TheVariants.{EINVAL, EISCONN}
use Rattle.open_laws.specs.Socketed.{AreRenamed, stage_by}
use Rattle.open_laws.proofs.SocketLemmas.{placed_at, placed_stage, placed_there}
use Rattle.posix_defs.specs.Files.SocketNames.{listener_at}
use Rattle.posix_defs.specs.Socket.{Stage, Idle, Listening, Connected, Socket, bind_fault, connect_fault, is_connected, waiting_of}
use Rattle.posix_defs.specs.SocketLinks.{AreNamedOnce}
use Rattle.posix_defs.specs.Sockets.{Sockets, sock_at, socket_at, stage_at}
use Rattle.socket_laws.proofs.ListenerLemmas.{listener_found, listener_is}
use Rattle.socket_laws.proofs.SocketCalls.{listening_there}
use Rattle.socket_laws.proofs.SocketTable.{there_within}
use Rattle.proc_files.specs.Names.{AreBound}
use Rattle.proc_files.proofs.Tables.{node_of, node_there}
use Rattle.proc_files.proofs.Ties.{none_is}

same_number : {a b : ℕ} → Some a ≡ Some b → a ≡ b
same_number e = cc

-- a node that a table of names has is one socket's alone
pub once_by_key : (keyed : Sockets) (names : List (Option ℕ)) → AreBound (node_of keyed) names → AreNamedOnce keyed
once_by_key keyed names are = record { one_socket = λ one other number here there. same_number (sym (are.named one number here) ∙ are.named other number there) }

-- a socket of the machine that is bound, and its key
pub record KeyAt (number : ℕ → ℕ) (keyed : Sockets) (place node : ℕ) : Type 0 where
  pub key : ℕ
  pub there : IsSome (sock_at keyed key)
  pub at : number key ≡ place
  pub named : node_of keyed key ≡ Some node

-- those that wait have the places of their keys
pub waiting_by : (number : ℕ → ℕ) (stage : Stage) → waiting_of (stage_by number stage) ≡ map number (waiting_of stage)
waiting_by number Idle = refl
waiting_by number (Listening waiting) = refl
waiting_by number (Connected peer shut_read shut_write) = refl

module _ (number : ℕ → ℕ) (keyed sockets : Sockets) (are : AreRenamed number keyed sockets) where
  pub placed_node : (key : ℕ) → IsSome (sock_at keyed key) → node_of sockets (number key) ≡ node_of keyed key
  placed_node key there = ap (λ (s : Socket). s.node) (placed_at number keyed sockets key are there)

  pub placed_inside : (key : ℕ) → IsSome (sock_at keyed key) → number key ≤ length sockets
  placed_inside key there = let within = there_within sockets (number key) (ap is_some (placed_there number keyed sockets key are there)) in omega (arith, within)

  some_there : (o : Option Socket) → IsSome o → (socket : Socket) × (o ≡ Some socket)
  some_there None some = cc
  some_there (Some socket) some = (socket, refl)

  pub key_at : (place node : ℕ) → node_of sockets place ≡ Some node → KeyAt number keyed place node
  key_at place node is =
      let there = some_there (sock_at sockets place) (node_there sockets place node is) in
      let key = are.found place there.0 there.1 in
      record { key = key.0; there = key.1; at = key.2; named = sym (placed_node key.0 key.1) ∙ ap (node_of sockets) key.2 ∙ is }

  pub once_by_place : AreNamedOnce keyed → AreNamedOnce sockets
  once_by_place once = record {
    one_socket = λ one other node here there.
        let first = key_at one node here in
        let second = key_at other node there in
        sym first.at ∙ ap number (once.one_socket first.key second.key node first.named second.named) ∙ second.at;
  }

  listening_by : (stage : Stage) (waiting : List ℕ) → stage_by number stage ≡ Listening waiting → (keys : List ℕ) × (stage ≡ Listening keys)
  listening_by Idle waiting is = cc
  listening_by (Listening keys) waiting is = (keys, refl)
  listening_by (Connected peer shut_read shut_write) waiting is = cc

  -- who listens under a name
  pub listener_placed : AreNamedOnce keyed → (node : ℕ) → listener_at sockets node ≡ option_map number (listener_at keyed node)
  listener_placed once node = by_key (listener_at keyed node) refl
    where
      by_place : (o : Option ℕ) → listener_at sockets node ≡ o → listener_at keyed node ≡ None → o ≡ None
      by_place None is none = refl
      by_place (Some place) is none =
          let listens = listener_is sockets place node is in
          let at = key_at place node listens.bound in
          let stage = listening_by (stage_at keyed at.key) listens.waiting
          (sym (placed_stage number keyed sockets at.key are at.there) ∙ ap (stage_at sockets) at.at ∙ listens.stage) in
          absurd (none_is (sym none ∙ listener_found keyed at.key node stage.0 once at.named stage.1))

      by_key : (o : Option ℕ) → listener_at keyed node ≡ o → listener_at sockets node ≡ option_map number o
      by_key None is = by_place (listener_at sockets node) refl is
      by_key (Some key) is =
          let listens = listener_is keyed key node is in
          let there = listening_there keyed key listens.waiting listens.stage in
          listener_found sockets (number key) node (map number listens.waiting) (once_by_place once)
          (placed_node key there ∙ listens.bound)
          (placed_stage number keyed sockets key are there ∙ ap (stage_by number) listens.stage)

  -- ---- what calls refuse

  module _ (key : ℕ) (there : IsSome (sock_at keyed key)) where
    connected_by : (stage : Stage) → is_connected (stage_by number stage) ≡ is_connected stage
    connected_by Idle = refl
    connected_by (Listening waiting) = refl
    connected_by (Connected peer shut_read shut_write) = refl

    pub bind_told : bind_fault (socket_at sockets (number key)) ≡ bind_fault (socket_at keyed key)
    bind_told =
        ap bind_fault (placed_at number keyed sockets key are there)
        ∙ ap (λ (b : Bool). cond (is_some (socket_at keyed key).node) (Some EINVAL) (cond b (Some EISCONN) None)) (connected_by (stage_at keyed key))

    pub connect_told : connect_fault (stage_at sockets (number key)) ≡ connect_fault (stage_at keyed key)
    connect_told = ap connect_fault (placed_stage number keyed sockets key are there) ∙ by_stage (stage_at keyed key)
      where
        by_stage : (stage : Stage) → connect_fault (stage_by number stage) ≡ connect_fault stage
        by_stage Idle = refl
        by_stage (Listening waiting) = refl
        by_stage (Connected peer shut_read shut_write) = refl
