-- A socket without a name goes, with those that wait for it: everyone else has the name that it had.
use Rattle.std.proofs.Common.{◌≡◌, ℕ, ◌≤◌, List, [], ◌∷◌, length, Option, None, Some, IsSome, refl, sym, ap, subst, ◌∙◌, arith, inl, inr, Contains}
use Rattle.std.proofs.lemmas.Bool.{cases_eq}
use Rattle.std.proofs.lemmas.List.Elements.{Contains-append_right}
use Rattle.open_laws.specs.Socketed.{AreRenamed}
use Rattle.posix_defs.specs.Socket.{Socket, peer_of, waiting_of}
use Rattle.posix_defs.specs.SocketLinks.{AreLinked, AreLoose, WaitsFor, WaitsNowhere}
use Rattle.posix_defs.specs.Sockets.{Sockets, after_close, all_gone, gone, left_alone, sock_at, socket_at, stage_at, with_name, with_socket}
use Rattle.socket_laws.proofs.SocketCalls.{first_loose, gone_linked, gone_parted, rest_loose, waiting_loose}
use Rattle.socket_laws.proofs.SocketLinked.{is_or_not, parted_waits}
use Rattle.proc_files.proofs.Connected.{with_again}
use Rattle.proc_files.proofs.Named.{same_stages, waits_by_key, waits_by_place}
use Rattle.proc_files.proofs.Placed.{key_at, placed_node}
use Rattle.proc_files.proofs.Tables.{node_of, node_there}
use Rattle.proc_files.proofs.Ties.{none_is}

-- ---- nobody is named otherwise, and nobody waits anew

module _ (sockets : Sockets) (place : ℕ) (linked : AreLinked sockets) (there : IsSome (sock_at sockets place)) where
  pub gone_nodes : node_of sockets place ≡ None → (other : ℕ) → node_of (gone sockets place) other ≡ node_of sockets other
  gone_nodes none other =
      let parted = gone_parted sockets place linked there in
      elim (cases_eq other place) [
        | inl same ↦
            ap (node_of (gone sockets place)) same ∙ ap (λ (s : Socket). s.node) parted.gone ∙ sym none ∙ ap (node_of sockets) (sym same)
        | inr apart ↦ elim (is_or_not (peer_of (stage_at sockets place)) other) [
          | inl is ↦ ap (λ (s : Socket). s.node) (parted.alone other is)
          | inr isnt ↦ ap (λ (s : Socket). s.node) (parted.others other apart isnt)
        ]
      ]

  pub gone_waits : WaitsNowhere sockets place → (listener other : ℕ) → WaitsFor (gone sockets place) listener other → WaitsFor sockets listener other
  gone_waits nowhere = parted_waits sockets (gone sockets place) place (gone_parted sockets place linked there) linked nowhere

all_gone_nodes : (sockets : Sockets) (places : List ℕ) → AreLinked sockets → AreLoose sockets places → ((place : ℕ) → Contains places place → node_of sockets place ≡ None)
    → (other : ℕ) → node_of (all_gone sockets places) other ≡ node_of sockets other
all_gone_nodes sockets [] linked loose none other = refl
all_gone_nodes sockets (place ∷ rest) linked loose none other =
    let there = first_loose sockets place rest loose in
    let nowhere = loose.nowhere place (0, omega arith, refl) in
    let same = gone_nodes sockets place linked there (none place (0, omega arith, refl)) in
    all_gone_nodes (gone sockets place) rest (gone_linked sockets place linked there nowhere) (rest_loose sockets place rest linked loose)
    (λ at among. same at ∙ none at (Contains-append_right (place ∷ []) rest at among)) other
    ∙ same other

all_gone_waits : (sockets : Sockets) (places : List ℕ) → AreLinked sockets → AreLoose sockets places → (listener other : ℕ) → WaitsFor (all_gone sockets places) listener other → WaitsFor sockets listener other
all_gone_waits sockets [] linked loose listener other waits = waits
all_gone_waits sockets (place ∷ rest) linked loose listener other waits =
    let there = first_loose sockets place rest loose in
    let nowhere = loose.nowhere place (0, omega arith, refl) in
    gone_waits sockets place linked there nowhere listener other
    (all_gone_waits (gone sockets place) rest (gone_linked sockets place linked there nowhere) (rest_loose sockets place rest linked loose) listener other waits)

module _ (sockets : Sockets) (place : ℕ) (linked : AreLinked sockets) (there : IsSome (sock_at sockets place)) (nowhere : WaitsNowhere sockets place) where
  pub close_nodes : node_of sockets place ≡ None → ((other : ℕ) → WaitsFor sockets place other → node_of sockets other ≡ None) → (other : ℕ) → node_of (after_close sockets place) other ≡ node_of sockets other
  close_nodes none waiting other =
      let same = gone_nodes sockets place linked there none in
      all_gone_nodes (gone sockets place) (waiting_of (stage_at sockets place)) (gone_linked sockets place linked there nowhere) (waiting_loose sockets place linked there nowhere)
      (λ at among. same at ∙ waiting at among) other
      ∙ same other

  pub close_waits : (listener other : ℕ) → WaitsFor (after_close sockets place) listener other → WaitsFor sockets listener other
  close_waits listener other waits =
      gone_waits sockets place linked there nowhere listener other
      (all_gone_waits (gone sockets place) (waiting_of (stage_at sockets place)) (gone_linked sockets place linked there nowhere) (waiting_loose sockets place linked there nowhere) listener other waits)

-- ---- a socket that goes takes its name with it

pub unnamed_goes : (sockets : Sockets) (place : ℕ) → place ≤ length sockets → after_close (with_name sockets place None) place ≡ after_close sockets place
unnamed_goes sockets place within =
    ap (λ stage. all_gone (left_alone (with_socket (with_name sockets place None) place None) (peer_of stage)) (waiting_of stage)) (same_stages sockets place None within place)
    ∙ ap (λ (list : Sockets). all_gone (left_alone list (peer_of (stage_at sockets place))) (waiting_of (stage_at sockets place)))
    (with_again sockets place (Some (record (socket_at sockets place) { node = None })) None within)

-- ---- the same by place

module _ (number : ℕ → ℕ) (keyed next sockets after : Sockets) (are : AreRenamed number keyed sockets) (now : AreRenamed number next after) where
  pub nodes_placed : ((key : ℕ) → node_of next key ≡ node_of keyed key) → (place : ℕ) → node_of after place ≡ node_of sockets place
  nodes_placed same place = by_nodes (node_of after place) (node_of sockets place) refl refl
    where
      was : (node : ℕ) → node_of after place ≡ Some node → node_of sockets place ≡ Some node
      was node is =
          let at = key_at number next after now place node is in
          let had = sym (same at.key) ∙ at.named in
          ap (node_of sockets) (sym at.at) ∙ placed_node number keyed sockets are at.key (node_there keyed at.key node had) ∙ had

      is_still : (node : ℕ) → node_of sockets place ≡ Some node → node_of after place ≡ Some node
      is_still node is =
          let at = key_at number keyed sockets are place node is in
          let has = same at.key ∙ at.named in
          ap (node_of after) (sym at.at) ∙ placed_node number next after now at.key (node_there next at.key node has) ∙ has

      by_nodes : (one other : Option ℕ) → node_of after place ≡ one → node_of sockets place ≡ other → node_of after place ≡ node_of sockets place
      by_nodes (Some node) other is had = is ∙ sym (was node is)
      by_nodes None None is had = is ∙ sym had
      by_nodes None (Some node) is had = absurd (none_is (sym is ∙ is_still node had))

  pub waits_placed : ((listener key : ℕ) → WaitsFor next listener key → WaitsFor keyed listener key) → (listener place : ℕ) → WaitsFor after listener place → WaitsFor sockets listener place
  waits_placed same listener place waits =
      let at = waits_by_key number next after now listener place waits in
      let was = same at.by at.key at.waits in
      subst (λ l. WaitsFor sockets l place) at.listens (subst (WaitsFor sockets (number at.by)) at.is (waits_by_place number keyed sockets are at.by at.key was))
