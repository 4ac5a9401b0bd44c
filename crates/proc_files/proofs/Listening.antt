-- Who listens under the name of a node, by the table of names.
use Rattle.std.proofs.Common.{◌≡◌, ℕ, List, Option, None, Some, refl, sym, ap, ◌∙◌}
use Rattle.kheap_slabs.specs.Objects.{object}
use Rattle.kheap_slabs.specs.declared.objects.Sock.{Sock}
use Rattle.kheap_slabs.specs.declared.objects.SockState.TheVariants as state
use Rattle.kheap_slabs.specs.Heap.{Heap}
use Rattle.posix_defs.specs.Files.SocketNames.{listener_at}
use Rattle.posix_defs.specs.Socket.{Stage, Idle, Listening, Connected}
use Rattle.posix_defs.specs.Sockets.{Sockets, stage_at}
use Rattle.socket_laws.proofs.ListenerLemmas.{listener_found, listener_is, nobody_listens}
use Rattle.usock_core.specs.Standing.{StandsFor, state_of}
use Rattle.usock_core.proofs.StandingLemmas.{found}
use Rattle.proc_files.specs.Names.{AreBound, name_of}
use Rattle.proc_files.proofs.Placed.{once_by_key}
use Rattle.proc_files.proofs.Tables.{name_says, node_of}
use Rattle.proc_files.proofs.Ties.{bound_on, none_is}

pub same_number : {a b : ℕ} → Some a ≡ Some b → a ≡ b
same_number e = cc

-- a socket that is kept as one that listens does
listening : (stage : Stage) → state_of stage ≡ state.Listening → (waiting : List ℕ) × (stage ≡ Listening waiting)
listening Idle e = cc
listening (Listening waiting) e = (waiting, refl)
listening (Connected peer shut_read shut_write) e = cc

module _ (h : Heap) (names : List (Option ℕ)) (bound : AreBound (name_of h.socks) names) (sockets : Sockets) (stands : StandsFor h sockets) (node : ℕ) where
  bound_in : AreBound (node_of sockets) names
  bound_in = bound_on (name_of h.socks) (node_of sockets) names bound (λ key. sym (name_says h sockets stands.table key))

  -- nobody is bound to the node
  pub nobody_there : object names node ≡ None → None ≡ listener_at sockets node
  nobody_there none = sym (nobody_listens sockets node (λ place is. none_is (sym none ∙ bound_in.named place node is)))

  module _ (key : ℕ) (at : object names node ≡ Some key) (sock : Sock) (there : object h.socks key ≡ Some sock) where
    -- the one that is listens
    pub stage_there : sock.state ≡ state.Listening → (waiting : List ℕ) × (stage_at sockets key ≡ Listening waiting)
    stage_there is = listening (stage_at sockets key) (sym (found h sockets key sock stands.table there).kept.shape.state ∙ is)

    pub listener_there : sock.state ≡ state.Listening → Some key ≡ listener_at sockets node
    listener_there is =
        let stage = stage_there is in
        sym (listener_found sockets key node stage.0 (once_by_key sockets names bound_in) (bound_in.bound node key at) stage.1)

    -- or it doesn't
    pub no_listener : (sock.state ≡ state.Listening → ⊥) → None ≡ listener_at sockets node
    no_listener isnt = by_place (listener_at sockets node) refl
      where
        by_place : (o : Option ℕ) → listener_at sockets node ≡ o → None ≡ o
        by_place None is = refl
        by_place (Some place) is =
            let listens = listener_is sockets place node is in
            let same : place ≡ key = same_number (sym (bound_in.named place node listens.bound) ∙ at) in
            absurd (isnt ((found h sockets key sock stands.table there).kept.shape.state ∙ ap state_of (ap (stage_at sockets) (sym same) ∙ listens.stage)))
