-- A table of sockets by key and the same one by place, while a call changes one socket or makes some, and what calls on them are
-- told.
use Rattle.std.proofs.Common.{◌≡◌, ◌≢◌, ◌⊎◌, ℕ, zero, suc, ℤ, ◌+◌, ◌<◌, ◌≤◌, Bool, true, false, cond, List, [], ◌∷◌, map, length, Option, None, Some, IsSome, is_none, unwrap_or, refl, sym, ap, subst, ◌∙◌, arith, inl, inr, eq-eqb, ne_eqb, length-append, Contains}
use Rattle.std.proofs.lemmas.Bool.{cases_lt}
use Rattle.std.proofs.lemmas.List.{get_or_past}
use Rattle.chunk_queue.proofs.JoinedLemmas.{Contains-cons}
use Rattle.kheap_slabs.specs.Objects.{object}
use Rattle.kabi_types.specs.declared.errnos.Errno.TheVariants.{EDESTADDRREQ, EINVAL}
use Rattle.open_laws.specs.Socketed.{AreRenamed, socket_by, stage_by}
use Rattle.open_laws.proofs.SocketLemmas.{placed_at, placed_stage, renamed_changed}
use Rattle.open_laws.specs.Placed.{ArePlaced, numbered}
use Rattle.open_laws.proofs.PlaceLemmas.{placed_made}
use Rattle.posix_defs.specs.Socket.{Accepting, Takes, Waits, Refuses, Connected, Idle, Listening, Socket, Stage, accept, after_shutdown, behind_first, connected_to, first_waiting, is_connected, listen_fault, listening, new_socket, peer_of, shut_further, shutdown_fault, shuts_reading, shuts_writing, waiting_of, without_first}
use Rattle.posix_defs.specs.SocketLinks.{AreLinked}
use Rattle.posix_defs.specs.Sockets.{Sockets, after_accept, after_listen, after_shut, sock_at, socket_at, stage_at, with_new, with_pair, with_socket}
use Rattle.socket_laws.proofs.SocketCalls.{connected_there}
use Rattle.socket_laws.proofs.SocketLaws.{peer_there}
use Rattle.socket_laws.proofs.SocketTable.{length-with_there, sock_at-with, sock_at-with_other, with-length}

-- ---- one socket changes

-- a change that doesn't look at other sockets is the same at a key and at its place
pub renamed_by : (number : ℕ → ℕ) (keyed sockets : Sockets) (key : ℕ) (next : Socket → Socket) → ((socket : Socket) → socket_by number (next socket) ≡ next (socket_by number socket))
    → IsSome (sock_at keyed key) → AreRenamed number keyed sockets
    → AreRenamed number (with_socket keyed key (Some (next (socket_at keyed key)))) (with_socket sockets (number key) (Some (next (socket_at sockets (number key)))))
renamed_by number keyed sockets key next same used are =
    subst (λ (socket : Socket). AreRenamed number (with_socket keyed key (Some (next (socket_at keyed key)))) (with_socket sockets (number key) (Some socket)))
    (same (socket_at keyed key) ∙ ap next (sym (placed_at number keyed sockets key are used)))
    (renamed_changed number keyed sockets key (next (socket_at keyed key)) are used)

listening-by : (number : ℕ → ℕ) (stage : Stage) → stage_by number (listening stage) ≡ listening (stage_by number stage)
listening-by number Idle = refl
listening-by number (Listening waiting) = refl
listening-by number (Connected peer shut_read shut_write) = refl

shut_further-by : (number : ℕ → ℕ) (reading writing : Bool) (stage : Stage) → stage_by number (shut_further reading writing stage) ≡ shut_further reading writing (stage_by number stage)
shut_further-by number reading writing Idle = refl
shut_further-by number reading writing (Listening waiting) = refl
shut_further-by number reading writing (Connected peer shut_read shut_write) = refl

behind_first-by : (number : ℕ → ℕ) (waiting : List ℕ) → map number (behind_first waiting) ≡ behind_first (map number waiting)
behind_first-by number [] = refl
behind_first-by number (first ∷ rest) = refl

without_first-by : (number : ℕ → ℕ) (stage : Stage) → stage_by number (without_first stage) ≡ without_first (stage_by number stage)
without_first-by number Idle = refl
without_first-by number (Listening waiting) = ap Listening (behind_first-by number waiting)
without_first-by number (Connected peer shut_read shut_write) = refl

module _ (number : ℕ → ℕ) (keyed sockets : Sockets) (key : ℕ) (used : IsSome (sock_at keyed key)) (are : AreRenamed number keyed sockets) where
  pub listen_renamed : AreRenamed number (after_listen keyed key) (after_listen sockets (number key))
  listen_renamed =
      renamed_by number keyed sockets key (λ (socket : Socket). record socket { stage = listening socket.stage })
      (λ (socket : Socket). ap (λ stage. record socket { stage = stage }) (listening-by number socket.stage)) used are

  pub shut_renamed : (how : ℤ) → AreRenamed number (after_shut keyed key how) (after_shut sockets (number key) how)
  shut_renamed how =
      renamed_by number keyed sockets key (λ (socket : Socket). after_shutdown socket how)
      (λ (socket : Socket). ap (λ (stage : Stage). record (after_shutdown socket how) { stage = stage }) (shut_further-by number (shuts_reading how) (shuts_writing how) socket.stage)) used are

  pub accept_renamed : AreRenamed number (after_accept keyed key) (after_accept sockets (number key))
  accept_renamed =
      renamed_by number keyed sockets key (λ (socket : Socket). record socket { stage = without_first socket.stage })
      (λ (socket : Socket). ap (λ stage. record socket { stage = stage }) (without_first-by number socket.stage)) used are

-- ---- what calls are told

is_connected-by : (number : ℕ → ℕ) (stage : Stage) → is_connected (stage_by number stage) ≡ is_connected stage
is_connected-by number Idle = refl
is_connected-by number (Listening waiting) = refl
is_connected-by number (Connected peer shut_read shut_write) = refl

-- the same of an accept, with the place of the one that is taken
abbrev pub accepting_by : (ℕ → ℕ) → Accepting → Accepting
accepting_by number (Takes place) = Takes (number place)
accepting_by number Waits = Waits
accepting_by number (Refuses errno) = Refuses errno

first_waiting-by : (number : ℕ → ℕ) (waiting : List ℕ) (nonblock : Bool) → first_waiting (map number waiting) nonblock ≡ accepting_by number (first_waiting waiting nonblock)
first_waiting-by number [] true = refl
first_waiting-by number [] false = refl
first_waiting-by number (first ∷ rest) nonblock = refl

accept-by : (number : ℕ → ℕ) (stage : Stage) (room nonblock : Bool) → accept (stage_by number stage) room nonblock ≡ accepting_by number (accept stage room nonblock)
accept-by number Idle room nonblock = refl
accept-by number (Listening waiting) true nonblock = first_waiting-by number waiting nonblock
accept-by number (Listening waiting) false nonblock = refl
accept-by number (Connected peer shut_read shut_write) room nonblock = refl

module _ (number : ℕ → ℕ) (keyed sockets : Sockets) (key : ℕ) (used : IsSome (sock_at keyed key)) (are : AreRenamed number keyed sockets) where
  pub listen_told : listen_fault (socket_at sockets (number key)) ≡ listen_fault (socket_at keyed key)
  listen_told =
      ap listen_fault (placed_at number keyed sockets key are used)
      ∙ ap (λ (connected : Bool). cond connected (Some EINVAL) (cond (is_none (socket_at keyed key).node) (Some EDESTADDRREQ) None)) (is_connected-by number (stage_at keyed key))

  pub shut_told : shutdown_fault (stage_at sockets (number key)) ≡ shutdown_fault (stage_at keyed key)
  shut_told = ap shutdown_fault (placed_stage number keyed sockets key are used) ∙ by_stage (stage_at keyed key)
    where
      by_stage : (stage : Stage) → shutdown_fault (stage_by number stage) ≡ shutdown_fault stage
      by_stage Idle = refl
      by_stage (Listening waiting) = refl
      by_stage (Connected peer shut_read shut_write) = refl

  pub accept_told : (room nonblock : Bool) → accept (stage_at sockets (number key)) room nonblock ≡ accepting_by number (accept (stage_at keyed key) room nonblock)
  accept_told room nonblock =
      ap (λ stage. accept stage room nonblock) (placed_stage number keyed sockets key are used) ∙ accept-by number (stage_at keyed key) room nonblock

-- ---- sockets are made

map_same : (one other : ℕ → ℕ) (keys : List ℕ) → ((key : ℕ) → Contains keys key → one key ≡ other key) → map one keys ≡ map other keys
map_same one other [] same = refl
map_same one other (key ∷ rest) same =
    ap (λ place. place ∷ map one rest) (same key (0, omega arith, refl)) ∙ ap (λ (places : List ℕ). other key ∷ places) (map_same one other rest (λ k among. same k (Contains-cons key k rest among)))

stage_same : (one other : ℕ → ℕ) (stage : Stage) → ((key : ℕ) → peer_of stage ≡ Some key → one key ≡ other key) → ((key : ℕ) → Contains (waiting_of stage) key → one key ≡ other key)
    → stage_by one stage ≡ stage_by other stage
stage_same one other Idle peers waits = refl
stage_same one other (Listening waiting) peers waits = ap Listening (map_same one other waiting waits)
stage_same one other (Connected None shut_read shut_write) peers waits = refl
stage_same one other (Connected (Some peer) shut_read shut_write) peers waits = ap (λ place. Connected (Some place) shut_read shut_write) (peers peer refl)

-- a number that was given, and those that stay
pub given : (number : ℕ → ℕ) (key place : ℕ) → numbered number key place key ≡ place
given number key place = ap (λ b. cond b place (number key)) (eq-eqb key key refl)

pub stays : (number : ℕ → ℕ) (key place other : ℕ) → other ≢ key → numbered number key place other ≡ number other
stays number key place other apart = ap (λ b. cond b place (number other)) (ne_eqb other key apart)

none_there : (o : Option Socket) → o ≡ None → IsSome o → ⊥
none_there None none some = cc
none_there (Some socket) none some = cc

-- one that is there isn't under a key that is free
pub there_apart : (keyed : Sockets) (key other : ℕ) → sock_at keyed key ≡ None → IsSome (sock_at keyed other) → other ≢ key
there_apart keyed key other vacant there same = none_there (sock_at keyed other) (ap (sock_at keyed) same ∙ vacant) there

-- a socket says the same by other numbers, where those that it names have the same
pub socket_same : (number now : ℕ → ℕ) (keyed : Sockets) → AreLinked keyed → ((key : ℕ) → IsSome (sock_at keyed key) → now key ≡ number key)
    → (key : ℕ) (socket : Socket) → sock_at keyed key ≡ Some socket → socket_by number socket ≡ socket_by now socket
socket_same number now keyed linked same key socket is =
    ap (λ stage. record socket { stage = stage })
    (stage_same number now socket.stage
    (λ peer named. sym (same peer (peer_there keyed key peer linked (ap (λ o. peer_of (unwrap_or o new_socket).stage) is ∙ named))))
    (λ place among. sym (same place (connected_there keyed place (linked.waiting key place (subst (λ o. Contains (waiting_of (unwrap_or o new_socket).stage) place) (sym is) among))))))

-- a socket is made under a key that was free, and at the end of the list
made_at : (number now : ℕ → ℕ) (keyed sockets : Sockets) (key : ℕ) (x y : Socket) (before : ℕ → Socket → Socket → Type 0) → sock_at keyed key ≡ None → key ≤ length keyed → y ≡ socket_by now x
    → ((other : ℕ) (z w : Socket) → sock_at keyed other ≡ Some z → before other z w → w ≡ socket_by now z)
    → ArePlaced before number keyed (object sockets)
    → ArePlaced (λ k socket placed. placed ≡ socket_by now socket) (numbered number key (length sockets)) (with_socket keyed key (Some x)) (object (with_socket sockets (length sockets) (Some y)))
made_at number now keyed sockets key x y before vacant within says still are =
    placed_made before (λ k socket placed. placed ≡ socket_by now socket) number keyed (with_socket keyed key (Some x)) (object sockets) (object (with_socket sockets (length sockets) (Some y))) key (length sockets) x y
    vacant (sock_at-with keyed key (Some x) within) (get_or_past sockets (length sockets) None (omega arith))
    (sock_at-with sockets (length sockets) (Some y) (omega arith)) says
    (record {
      objects = λ other apart. sock_at-with_other keyed key other (Some x) within apart;
      things = λ place apart. sock_at-with_other sockets (length sockets) place (Some y) (omega arith) apart;
    })
    (λ other z w apart is said means. still other z w is means) are

-- a table is at most one longer
length-with_most : (sockets : Sockets) (place : ℕ) (socket : Option Socket) → length (with_socket sockets place socket) ≤ length sockets + 1
length-with_most [] place socket = omega arith
length-with_most (other ∷ rest) zero socket = omega arith
length-with_most (other ∷ rest) (suc place) socket = let behind = length-with_most rest place socket in omega (arith, behind)

length-with_past : (sockets : Sockets) (place : ℕ) (socket : Option Socket) → length sockets ≤ place → length (with_socket sockets place socket) ≡ length sockets + 1
length-with_past [] place socket past = refl
length-with_past (other ∷ rest) zero socket past = absurd (omega (arith, past))
length-with_past (other ∷ rest) (suc place) socket past = let behind = length-with_past rest place socket (omega (arith, past)) in omega (arith, behind)

-- so a key that it has then was one that it had, or the next one
pub new_within : (keyed : Sockets) (key : ℕ) → key < length (with_new keyed key) → key ≤ length keyed
new_within keyed key within = let most = length-with_most keyed key (Some new_socket) in omega (arith, within, most)

pub pair_within : (keyed : Sockets) (one other : ℕ) → one < length (with_pair keyed one other) → other < length (with_pair keyed one other) → one ≢ other
    → (one ≤ length keyed) × (other ≤ length (with_socket keyed one (Some (connected_to other))))
pair_within keyed one other within also_within apart =
    let most = length-with_most first other (Some (connected_to one)) in
    (by_one (cases_lt (length keyed) one) (cases_lt other (length first)), omega (arith, also_within, most))
  where
    first : Sockets
    first = with_socket keyed one (Some (connected_to other))

    by_one : (length keyed < one) ⊎ (one ≤ length keyed) → (other < length first) ⊎ (length first ≤ other) → one ≤ length keyed
    by_one (inr below) by_other = below
    by_one (inl above) (inl there) = absurd (
        let long = length-with_past keyed one (Some (connected_to other)) (omega (arith, above)) in
        let same = length-with_there first other (Some (connected_to one)) there in omega (arith, within, above, long, same))
    by_one (inl above) (inr past) = absurd (apart (
        let long = length-with_past keyed one (Some (connected_to other)) (omega (arith, above)) in
        let most = length-with_most first other (Some (connected_to one)) in omega (arith, within, also_within, above, past, long, most)))

module _ (number : ℕ → ℕ) (keyed sockets : Sockets) (linked : AreLinked keyed) (are : AreRenamed number keyed sockets) where
  pub new_renamed : (key : ℕ) → sock_at keyed key ≡ None → key ≤ length keyed
      → AreRenamed (numbered number key (length sockets)) (with_new keyed key) (with_new sockets (length sockets))
  new_renamed key vacant within =
      let now = numbered number key (length sockets) in
      made_at number now keyed sockets key new_socket new_socket (λ k socket placed. placed ≡ socket_by number socket) vacant within refl
      (λ other z w is means. means ∙ socket_same number now keyed linked (λ k there. stays number key (length sockets) k (there_apart keyed key k vacant there)) other z is) are

  pub pair_renamed : (one other : ℕ) → sock_at keyed one ≡ None → one ≤ length keyed → sock_at keyed other ≡ None → other ≤ length (with_socket keyed one (Some (connected_to other))) → one ≢ other
      → AreRenamed (numbered (numbered number one (length sockets)) other (length sockets + 1)) (with_pair keyed one other) (with_pair sockets (length sockets) (length sockets + 1))
  pair_renamed one other vacant within also_vacant also_within apart =
      subst (λ n. AreRenamed (numbered between other n) (with_pair keyed one other) (with_socket placed n (Some (connected_to (length sockets))))) next_place
      (made_at between (numbered between other (length placed)) first placed other (connected_to one) (connected_to (length sockets)) (λ k socket at. at ≡ socket_by now socket)
      (sock_at-with_other keyed one other (Some (connected_to other)) within (λ same. apart (sym same)) ∙ also_vacant)
      also_within
      (ap connected_to (sym (stays between other (length placed) one apart ∙ given number one (length sockets))))
      (λ k z w is means. means ∙ ap (λ n. socket_by (numbered between other n) z) (sym next_place))
      made)
    where
      between : ℕ → ℕ
      between = numbered number one (length sockets)

      now : ℕ → ℕ
      now = numbered between other (length sockets + 1)

      first : Sockets
      first = with_socket keyed one (Some (connected_to other))

      placed : Sockets
      placed = with_socket sockets (length sockets) (Some (connected_to (length sockets + 1)))

      next_place : length placed ≡ length sockets + 1
      next_place =
          ap length (with-length sockets (Some (connected_to (length sockets + 1))))
          ∙ (let more = length-append sockets (Some (connected_to (length sockets + 1)) ∷ []) in let single : length (Some (connected_to (length sockets + 1)) ∷ []) ≡ 1 = refl in omega (arith, more, single))

      made : ArePlaced (λ k socket at. at ≡ socket_by now socket) between first (object placed)
      made =
          made_at number now keyed sockets one (connected_to other) (connected_to (length sockets + 1)) (λ k socket at. at ≡ socket_by number socket) vacant within
          (ap connected_to (sym (given between other (length sockets + 1))))
          (λ k z w is means. means ∙ socket_same number now keyed linked (λ there_key there.
          stays between other (length sockets + 1) there_key (there_apart keyed other there_key also_vacant there)
          ∙ stays number one (length sockets) there_key (there_apart keyed one there_key vacant there)) k z is) are
