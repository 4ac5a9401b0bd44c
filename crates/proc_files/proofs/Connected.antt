-- A table of sockets by key and the same one by place, once a socket is connected to a new one.
use Rattle.std.proofs.Common.{◌≡◌, ◌≢◌, ℕ, zero, suc, ◌≤◌, ◌++◌, List, [], ◌∷◌, map, length, nat_le, Option, None, Some, IsSome, is_some, false, refl, sym, ap, subst, ◌∙◌, arith, Contains}
use Rattle.std.proofs.lemmas.List.{length-map}
use Rattle.chunk_queue.proofs.JoinedLemmas.{Contains-cons}
use Rattle.open_laws.specs.Socketed.{AreRenamed, stage_by}
use Rattle.open_laws.proofs.SocketLemmas.{placed_at, placed_stage, renamed_changed}
use Rattle.open_laws.specs.Placed.{numbered}
use Rattle.posix_defs.specs.Socket.{Stage, Listening, Connected, Socket, connected_to, new_socket, waiting_of}
use Rattle.posix_defs.specs.SocketLinks.{AreLinked}
use Rattle.posix_defs.specs.Sockets.{Sockets, after_connect, backlog, is_refused, sock_at, socket_at, stage_at, with_name, with_new, with_socket, with_stage}
use Rattle.socket_laws.proofs.SocketCalls.{connected_there}
use Rattle.socket_laws.proofs.SocketTable.{sock_at-with, sock_at-with_other, there_within}
use Rattle.proc_files.proofs.Placed.{waiting_by}
use Rattle.proc_numbers.proofs.Renaming.{given, new_renamed, renamed_by, stays, there_apart}

map_same : (one other : ℕ → ℕ) (keys : List ℕ) → ((key : ℕ) → Contains keys key → one key ≡ other key) → map one keys ≡ map other keys
map_same one other [] same = refl
map_same one other (key ∷ rest) same =
    ap (λ place. place ∷ map one rest) (same key (0, omega arith, refl))
    ∙ ap (λ (places : List ℕ). other key ∷ places) (map_same one other rest (λ k among. same k (Contains-cons key k rest among)))

map-append : (f : ℕ → ℕ) (one other : List ℕ) → map f (one ++ other) ≡ map f one ++ map f other
map-append f [] other = refl
map-append f (x ∷ rest) other = ap (λ (list : List ℕ). f x ∷ list) (map-append f rest other)

-- what was put at a place last is there
pub with_again : (sockets : Sockets) (place : ℕ) (one other : Option Socket) → place ≤ length sockets → with_socket (with_socket sockets place one) place other ≡ with_socket sockets place other
with_again [] zero one other within = refl
with_again [] (suc place) one other within = absurd (omega (arith, within))
with_again (first ∷ rest) zero one other within = refl
with_again (first ∷ rest) (suc place) one other within = ap (λ (list : Sockets). first ∷ list) (with_again rest place one other (omega (arith, within)))

-- ---- a name

pub name_renamed : (number : ℕ → ℕ) (keyed sockets : Sockets) (key : ℕ) (node : Option ℕ) → IsSome (sock_at keyed key) → AreRenamed number keyed sockets
    → AreRenamed number (with_name keyed key node) (with_name sockets (number key) node)
name_renamed number keyed sockets key node there are = renamed_by number keyed sockets key (λ (socket : Socket). record socket { node = node }) (λ socket. refl) there are

-- ---- a stage

pub stage_renamed : (number : ℕ → ℕ) (keyed sockets : Sockets) (key : ℕ) (stage : Stage) → IsSome (sock_at keyed key) → AreRenamed number keyed sockets
    → AreRenamed number (with_stage keyed key stage) (with_stage sockets (number key) (stage_by number stage))
stage_renamed number keyed sockets key stage there are =
    subst (λ (socket : Socket). AreRenamed number (with_stage keyed key stage) (with_socket sockets (number key) (Some (record socket { stage = stage_by number stage }))))
    (sym (placed_at number keyed sockets key are there))
    (renamed_changed number keyed sockets key (record (socket_at keyed key) { stage = stage }) are there)

-- ---- as many wait by key as by place

pub refused_told : (number : ℕ → ℕ) (keyed sockets : Sockets) (key : ℕ) → IsSome (sock_at keyed key) → AreRenamed number keyed sockets → is_refused sockets (Some (number key)) ≡ is_refused keyed (Some key)
refused_told number keyed sockets key there are =
    ap (λ n. nat_le backlog n)
    (ap (λ stage. length (waiting_of stage)) (placed_stage number keyed sockets key are there)
    ∙ ap length (waiting_by number (stage_at keyed key))
    ∙ length-map (waiting_of (stage_at keyed key)) number)

-- ---- a connection

module _ (number : ℕ → ℕ) (keyed sockets : Sockets) (linked : AreLinked keyed) (are : AreRenamed number keyed sockets) (client listener made : ℕ) (client_there : IsSome (sock_at keyed client))
    (listener_there : IsSome (sock_at keyed listener)) (vacant : sock_at keyed made ≡ None) (within : made ≤ length keyed) where
  abbrev now : ℕ → ℕ
  now = numbered number made (length sockets)

  keeps : (key : ℕ) → IsSome (sock_at keyed key) → now key ≡ number key
  keeps key there = stays number made (length sockets) key (there_apart keyed made key vacant there)

  abbrev first : Sockets
  first = with_socket keyed made (Some (connected_to client))

  abbrev placed : Sockets
  placed = with_socket sockets (length sockets) (Some (connected_to (number client)))

  first_renamed : AreRenamed now first placed
  first_renamed =
      subst (λ (list : Sockets). AreRenamed now list placed) (with_again keyed made (Some new_socket) (Some (connected_to client)) within)
      (subst (λ (list : Sockets). AreRenamed now (with_socket (with_new keyed made) made (Some (connected_to client))) list)
      (with_again sockets (length sockets) (Some new_socket) (Some (connected_to (number client))) (omega arith))
      (subst (λ n. AreRenamed now (with_socket (with_new keyed made) made (Some (connected_to client))) (with_socket (with_new sockets (length sockets)) n (Some (connected_to (number client)))))
      (given number made (length sockets))
      (subst (λ n. AreRenamed now (with_socket (with_new keyed made) made (Some (connected_to client))) (with_socket (with_new sockets (length sockets)) (now made) (Some (connected_to n))))
      (keeps client client_there)
      (renamed_changed now (with_new keyed made) (with_new sockets (length sockets)) made (connected_to client) (new_renamed number keyed sockets linked are made vacant within)
      (ap is_some (sock_at-with keyed made (Some new_socket) within))))))

  first_other : (key : ℕ) → IsSome (sock_at keyed key) → sock_at first key ≡ sock_at keyed key
  first_other key there = sock_at-with_other keyed made key (Some (connected_to client)) within (there_apart keyed made key vacant there)

  abbrev second : Sockets
  second = with_stage first client (Connected (Some made) false false)

  abbrev connected_so : Sockets
  connected_so = with_stage placed (number client) (Connected (Some (length sockets)) false false)

  first_client : IsSome (sock_at first client)
  first_client = subst IsSome (sym (first_other client client_there)) client_there

  second_renamed : AreRenamed now second connected_so
  second_renamed =
      subst (λ n. AreRenamed now second (with_stage placed n (Connected (Some (length sockets)) false false))) (keeps client client_there)
      (subst (λ n. AreRenamed now second (with_stage placed (now client) (Connected (Some n) false false))) (given number made (length sockets))
      (stage_renamed now first placed client (Connected (Some made) false false) first_client first_renamed))

  waits_there : (key : ℕ) → Contains (waiting_of (stage_at keyed listener)) key → now key ≡ number key
  waits_there key among = keeps key (connected_there keyed key (linked.waiting listener key among))

  waiting_so : map now (waiting_of (stage_at keyed listener) ++ made ∷ []) ≡ waiting_of (stage_at sockets (number listener)) ++ length sockets ∷ []
  waiting_so =
      map-append now (waiting_of (stage_at keyed listener)) (made ∷ [])
      ∙ ap (λ n. map now (waiting_of (stage_at keyed listener)) ++ n ∷ []) (given number made (length sockets))
      ∙ ap (λ (list : List ℕ). list ++ length sockets ∷ [])
      (map_same now number (waiting_of (stage_at keyed listener)) waits_there
      ∙ sym (ap waiting_of (placed_stage number keyed sockets listener are listener_there) ∙ waiting_by number (stage_at keyed listener)))

  module _ (apart : listener ≢ client) where
    second_listener : IsSome (sock_at second listener)
    second_listener =
        subst IsSome
        (sym (sock_at-with_other first client listener (Some (record (socket_at first client) { stage = Connected (Some made) false false })) client_within apart
        ∙ first_other listener listener_there)) listener_there
      where
        client_within : client ≤ length first
        client_within = let below = there_within first client first_client in omega (arith, below)

    pub connect_renamed : AreRenamed now (after_connect keyed client listener made) (after_connect sockets (number client) (number listener) (length sockets))
    connect_renamed =
        subst (λ (waiting : List ℕ). AreRenamed now (after_connect keyed client listener made) (with_stage connected_so (number listener) (Listening waiting))) waiting_so
        (subst (λ n. AreRenamed now (after_connect keyed client listener made) (with_stage connected_so n (Listening (map now (waiting_of (stage_at keyed listener) ++ made ∷ []))))) (keeps listener listener_there)
        (stage_renamed now second connected_so listener (Listening (waiting_of (stage_at keyed listener) ++ made ∷ [])) second_listener second_renamed))
