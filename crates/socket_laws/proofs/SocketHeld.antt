-- Every socket that is there is named or waits, before and after each call.
use Rattle.std.proofs.Common.{◌≡◌, ◌≢◌, inl, inr, ℕ, ℤ, ◌≤◌, Bool, true, false, List, [], ◌∷◌, ◌++◌, length, take, drop, Option, None, Some, IsSome, refl, sym, ap, subst, ◌∙◌, arith, Contains}
use Rattle.std.proofs.lemmas.Bool.{cases_eq}
use Rattle.std.proofs.lemmas.List.Elements.{Contains-append_left, Contains-append_right, Contains-append_cases, Contains-push, Contains-push_cases}
use Rattle.posix_defs.specs.Socket.{Stage, Idle, Listening, Connected, Socket, new_socket, connected_to, peer_of, waiting_of, is_connected, listening, without_first, without_peer, after_shutdown, shut_further, shuts_reading, shuts_writing}
use Rattle.posix_defs.specs.Sockets.{Sockets, sock_at, socket_at, stage_at, with_socket, with_stage, with_name, with_new, with_pair, after_listen, after_connect, after_accept, after_read, sent_to, after_write, after_shut, left_alone, gone, all_gone, after_close}
use Rattle.posix_defs.specs.SocketLinks.{AreLoose, WaitsFor, WaitsNowhere, AreLinked, AreHeld}
use Rattle.socket_laws.proofs.SocketTable.{sock_at-with, sock_at-with_other, length-with, there_within, Changed, Changed-with}
use Rattle.socket_laws.proofs.SocketLinked.{Parted, is_or_not, waiting_of-without_peer, parted_waits}
use Rattle.socket_laws.proofs.SocketCalls.{connected_there, gone_parted, gone_linked, listening_there, none_there, first_loose, rest_loose, waiting_loose}
use Rattle.socket_laws.proofs.SocketLaws.{peer_there, change_there}

-- as many are there, and the same wait
record Same (old new : Sockets) : Type 0 where
  pub there : (place : ℕ) → IsSome (sock_at new place) → IsSome (sock_at old place)
  pub still : (place : ℕ) → IsSome (sock_at old place) → IsSome (sock_at new place)
  pub waits : (listener place : ℕ) → WaitsFor new listener place → WaitsFor old listener place
  pub wait_still : (listener place : ℕ) → WaitsFor old listener place → WaitsFor new listener place

AreHeld-same : (old new : Sockets) (named : List ℕ) → Same old new → AreHeld old named → AreHeld new named
AreHeld-same old new named same held = record {
  held = λ place there. elim (held.held place (same.there place there)) [
    | inl named_too ↦ inl named_too
    | inr (listener, waits) ↦ inr (listener, same.wait_still listener place waits)
  ];
  there = λ place here. same.still place (held.there place here);
  apart = λ place here listener waits. held.apart place here listener (same.waits listener place waits);
}

-- one that is there gets another form, and the same wait for it
same_with : (sockets : Sockets) (place : ℕ) (socket : Socket) → IsSome (sock_at sockets place) → waiting_of socket.stage ≡ waiting_of (stage_at sockets place) → Same sockets (with_socket sockets place (Some socket))
same_with sockets place socket there waiting = record {
  there = λ other is. elim (cases_eq other place) [
    | inl same ↦ rw same there
    | inr differs ↦ rw (sock_at-with_other sockets place other (Some socket) within differs) at is
  ];
  still = λ other is. elim (cases_eq other place) [
    | inl same ↦ rw (same, sock_at-with sockets place (Some socket) within) refl
    | inr differs ↦ rw (sock_at-with_other sockets place other (Some socket) within differs) is
  ];
  waits = λ listener other there. rw (lists listener) at there;
  wait_still = λ listener other there. rw (lists listener) there;
}
  where
    within : place ≤ length sockets
    within = let is = there_within sockets place there in omega arith

    changed : Changed sockets (with_socket sockets place (Some socket)) place socket
    changed = Changed-with sockets place (Some socket) within

    lists : (listener : ℕ) → waiting_of (stage_at (with_socket sockets place (Some socket)) listener) ≡ waiting_of (stage_at sockets listener)
    lists listener = elim (cases_eq listener place) [
      | inl same ↦ ap (λ n. waiting_of (stage_at (with_socket sockets place (Some socket)) n)) same ∙ ap (λ s. waiting_of s.stage) changed.at ∙ waiting ∙ ap (λ n. waiting_of (stage_at sockets n)) (sym same)
      | inr differs ↦ ap (λ s. waiting_of s.stage) (changed.others listener differs)
    ]

held_with : (sockets : Sockets) (named : List ℕ) (place : ℕ) (socket : Socket) → IsSome (sock_at sockets place) → waiting_of socket.stage ≡ waiting_of (stage_at sockets place) → AreHeld sockets named → AreHeld (with_socket sockets place (Some socket)) named
held_with sockets named place socket there waiting held = AreHeld-same sockets (with_socket sockets place (Some socket)) named (same_with sockets place socket there waiting) held

pub named_held : (sockets : Sockets) (named : List ℕ) (place : ℕ) (bound : Option ℕ) → IsSome (sock_at sockets place) → AreHeld sockets named → AreHeld (with_name sockets place bound) named
named_held sockets named place bound there held = held_with sockets named place (record (socket_at sockets place) { node = bound }) there refl held

waiting_of-listening : (stage : Stage) → waiting_of (listening stage) ≡ waiting_of stage
waiting_of-listening Idle = refl
waiting_of-listening (Listening waiting) = refl
waiting_of-listening (Connected peer shut_read shut_write) = refl

pub listen_held : (sockets : Sockets) (named : List ℕ) (place : ℕ) → IsSome (sock_at sockets place) → AreHeld sockets named → AreHeld (after_listen sockets place) named
listen_held sockets named place there held = held_with sockets named place (record (socket_at sockets place) { stage = listening (stage_at sockets place) }) there (waiting_of-listening (stage_at sockets place)) held

pub read_held : (sockets : Sockets) (named : List ℕ) (place k : ℕ) → IsSome (sock_at sockets place) → AreHeld sockets named → AreHeld (after_read sockets place k) named
read_held sockets named place k there held = held_with sockets named place (record (socket_at sockets place) { bytes = drop k (socket_at sockets place).bytes }) there refl held

pub write_held : (sockets : Sockets) (named : List ℕ) (place : ℕ) (bytes : List ℕ) (k : ℕ) → AreLinked sockets → AreHeld sockets named → AreHeld (after_write sockets place bytes k) named
write_held sockets named place bytes k linked held = go (peer_of (stage_at sockets place)) refl
  where
    go : (peer : Option ℕ) → peer_of (stage_at sockets place) ≡ peer → AreHeld (sent_to sockets peer (take k bytes)) named
    go None e = held
    go (Some peer) e = held_with sockets named peer (record (socket_at sockets peer) { bytes = (socket_at sockets peer).bytes ++ take k bytes }) (peer_there sockets place peer linked e) refl held

waiting_of-shut : (stage : Stage) (reading writing : Bool) → waiting_of (shut_further reading writing stage) ≡ waiting_of stage
waiting_of-shut Idle reading writing = refl
waiting_of-shut (Listening waiting) reading writing = refl
waiting_of-shut (Connected peer shut_read shut_write) reading writing = refl

pub shut_held : (sockets : Sockets) (named : List ℕ) (place : ℕ) (how : ℤ) → IsSome (sock_at sockets place) → AreHeld sockets named → AreHeld (after_shut sockets place how) named
shut_held sockets named place how there held = held_with sockets named place (after_shutdown (socket_at sockets place) how) there (waiting_of-shut (stage_at sockets place) (shuts_reading how) (shuts_writing how)) held

-- nobody waits where no socket is
free_nowhere : (sockets : Sockets) (made : ℕ) → AreLinked sockets → sock_at sockets made ≡ None → WaitsNowhere sockets made
free_nowhere sockets made linked free listener waits =
    let there = linked.waiting listener made waits in let isnt : is_connected (stage_at sockets made) ≡ false = ap (λ s. is_connected s.stage) (none_there sockets made free) in cc

-- one that is made is named
made_held : (sockets : Sockets) (named : List ℕ) (made : ℕ) (socket : Socket) → WaitsNowhere sockets made → sock_at sockets made ≡ None → made ≤ length sockets → waiting_of socket.stage ≡ [] → AreHeld sockets named → AreHeld (with_socket sockets made (Some socket)) (made ∷ named)
made_held sockets named made socket nowhere free within none held = record {
  held = λ place there. elim (cases_eq place made) [
    | inl same ↦ inl (0, omega arith, sym same)
    | inr differs ↦ elim (held.held place (rw (sock_at-with_other sockets made place (Some socket) within differs) at there)) [
      | inl here ↦ inl (Contains-append_right (made ∷ []) named place here)
      | inr (listener, waits) ↦ inr (listener, rw (lists listener) waits)
    ]
  ];
  there = λ place here. elim (cases_eq place made) [
    | inl same ↦ rw (same, sock_at-with sockets made (Some socket) within) refl
    | inr differs ↦ rw (sock_at-with_other sockets made place (Some socket) within differs) (held.there place (behind place here differs))
  ];
  apart = λ place here listener waits. elim (cases_eq place made) [
    | inl same ↦ nowhere listener (rw (same, lists listener) at waits)
    | inr differs ↦ held.apart place (behind place here differs) listener (rw (lists listener) at waits)
  ];
}
  where
    changed : Changed sockets (with_socket sockets made (Some socket)) made socket
    changed = Changed-with sockets made (Some socket) within

    lists : (listener : ℕ) → waiting_of (stage_at (with_socket sockets made (Some socket)) listener) ≡ waiting_of (stage_at sockets listener)
    lists listener = elim (cases_eq listener made) [
      | inl same ↦ ap (λ n. waiting_of (stage_at (with_socket sockets made (Some socket)) n)) same ∙ ap (λ s. waiting_of s.stage) changed.at ∙ none ∙ sym (ap (λ n. waiting_of (stage_at sockets n)) same ∙ ap (λ s. waiting_of s.stage) (none_there sockets made free))
      | inr differs ↦ ap (λ s. waiting_of s.stage) (changed.others listener differs)
    ]

    behind : (place : ℕ) → Contains (made ∷ named) place → place ≢ made → Contains named place
    behind place here differs = elim (Contains-append_cases (made ∷ []) named place here) [
      | inl it ↦ absurd (differs (single place it))
      | inr there ↦ there
    ]
      where
        single : (place : ℕ) → Contains (made ∷ []) place → place ≡ made
        single place it = elim (Contains-push_cases [] made place it) [
          | inl none ↦ absurd (omega (arith, none.1))
          | inr same ↦ sym same
        ]

pub new_held : (sockets : Sockets) (named : List ℕ) (made : ℕ) → AreLinked sockets → sock_at sockets made ≡ None → made ≤ length sockets → AreHeld sockets named → AreHeld (with_new sockets made) (made ∷ named)
new_held sockets named made linked free within held = made_held sockets named made new_socket (free_nowhere sockets made linked free) free within refl held

pub pair_held : (sockets : Sockets) (named : List ℕ) (one other : ℕ) → AreLinked sockets → one ≢ other → sock_at sockets one ≡ None → sock_at sockets other ≡ None → one ≤ length sockets → other ≤ length (with_socket sockets one (Some (connected_to other))) → AreHeld sockets named → AreHeld (with_pair sockets one other) (other ∷ one ∷ named)
pair_held sockets named one other linked differ one_free other_free one_within other_within held =
    made_held (with_socket sockets one (Some (connected_to other))) (one ∷ named) other (connected_to one) (λ listener waits. free_nowhere sockets other linked other_free listener (rw (lists listener) at waits)) (sock_at-with_other sockets one other (Some (connected_to other)) one_within (λ same. differ (sym same)) ∙ other_free) other_within refl
    (made_held sockets named one (connected_to other) (free_nowhere sockets one linked one_free) one_free one_within refl held)
  where
    changed : Changed sockets (with_socket sockets one (Some (connected_to other))) one (connected_to other)
    changed = Changed-with sockets one (Some (connected_to other)) one_within

    lists : (listener : ℕ) → waiting_of (stage_at (with_socket sockets one (Some (connected_to other))) listener) ≡ waiting_of (stage_at sockets listener)
    lists listener = elim (cases_eq listener one) [
      | inl same ↦ ap (λ n. waiting_of (stage_at (with_socket sockets one (Some (connected_to other))) n)) same ∙ ap (λ s. waiting_of s.stage) changed.at ∙ sym (ap (λ n. waiting_of (stage_at sockets n)) same ∙ ap (λ s. waiting_of s.stage) (none_there sockets one one_free))
      | inr differs ↦ ap (λ s. waiting_of s.stage) (changed.others listener differs)
    ]

-- one that was in hand waits from now on
queued_held : (sockets : Sockets) (named : List ℕ) (listener added : ℕ) (waiting : List ℕ) → stage_at sockets listener ≡ Listening waiting → added ≢ listener → (Contains named added → ⊥) → AreHeld sockets (added ∷ named) → AreHeld (with_stage sockets listener (Listening (waiting ++ added ∷ []))) named
queued_held sockets named listener added waiting is differ absent held = record {
  held = λ place there. elim (held.held place (elim (cases_eq place listener) [
    | inl same ↦ rw same listener_there
    | inr differs ↦ rw (others_there place differs) at there
  ])) [
    | inl here ↦ elim (Contains-append_cases (added ∷ []) named place here) [
      | inl it ↦ inr (listener, rw now (let same : place ≡ added = single place it in rw same (Contains-push waiting added)))
      | inr behind ↦ inl behind
    ]
    | inr (one, waits) ↦ inr (
      one,
      elim (cases_eq one listener) [
        | inl same ↦ rw (same, now) (Contains-append_left waiting (added ∷ []) place (rw (same, is) at waits))
        | inr differs ↦ rw (lists one differs) waits
      ],
    )
  ];
  there = λ place here. elim (cases_eq place listener) [
    | inl same ↦ rw (same, sock_at-with sockets listener (Some next) within) refl
    | inr differs ↦ rw (others_there place differs) (held.there place (Contains-append_right (added ∷ []) named place here))
  ];
  apart = λ place here one waits. elim (cases_eq one listener) [
    | inl same ↦ elim (Contains-push_cases waiting added place (rw (same, now) at waits)) [
      | inl was ↦ held.apart place (Contains-append_right (added ∷ []) named place here) listener (rw is was)
      | inr it ↦ absent (rw (sym it) at here)
    ]
    | inr differs ↦ held.apart place (Contains-append_right (added ∷ []) named place here) one (rw (lists one differs) at waits)
  ];
}
  where
    next : Socket
    next = record (socket_at sockets listener) { stage = Listening (waiting ++ added ∷ []) }

    listener_there : IsSome (sock_at sockets listener)
    listener_there = listening_there sockets listener waiting is

    within : listener ≤ length sockets
    within = let there = there_within sockets listener listener_there in omega arith

    changed : Changed sockets (with_socket sockets listener (Some next)) listener next
    changed = Changed-with sockets listener (Some next) within

    now : stage_at (with_stage sockets listener (Listening (waiting ++ added ∷ []))) listener ≡ Listening (waiting ++ added ∷ [])
    now = ap (λ s. s.stage) changed.at

    lists : (one : ℕ) → one ≢ listener → waiting_of (stage_at (with_stage sockets listener (Listening (waiting ++ added ∷ []))) one) ≡ waiting_of (stage_at sockets one)
    lists one differs = ap (λ s. waiting_of s.stage) (changed.others one differs)

    others_there : (place : ℕ) → place ≢ listener → sock_at (with_socket sockets listener (Some next)) place ≡ sock_at sockets place
    others_there place differs = sock_at-with_other sockets listener place (Some next) within differs

    single : (place : ℕ) → Contains (added ∷ []) place → place ≡ added
    single place it = elim (Contains-push_cases [] added place it) [
      | inl none ↦ absurd (omega (arith, none.1))
      | inr same ↦ sym same
    ]

pub connect_held : (sockets : Sockets) (named : List ℕ) (client listener made : ℕ) (waiting : List ℕ) → AreLinked sockets → stage_at sockets client ≡ Idle → IsSome (sock_at sockets client) → sock_at sockets made ≡ None → made ≤ length sockets → stage_at sockets listener ≡ Listening waiting → AreHeld sockets named → AreHeld (after_connect sockets client listener made) named
connect_held sockets named client listener made waiting linked idle there free within listens held =
    let one = with_socket sockets made (Some (connected_to client)) in
    let made_new : Changed sockets one made (connected_to client) = Changed-with sockets made (Some (connected_to client)) within in
    let named_one : made ≢ client = λ same. let gone : sock_at sockets client ≡ None = ap (sock_at sockets) (sym same) ∙ free in grind arith in
    let client_there : IsSome (sock_at one client) = rw (sock_at-with_other sockets made client (Some (connected_to client)) within (λ same. named_one (sym same))) there in
    let client_idle : waiting_of (stage_at one client) ≡ [] = ap (λ s. waiting_of s.stage) (made_new.others client (λ same. named_one (sym same))) ∙ ap waiting_of idle in
    let first : AreHeld one (made ∷ named) = made_held sockets named made (connected_to client) (free_nowhere sockets made linked free) free within refl held in
    let second : AreHeld (with_stage one client (Connected (Some made) false false)) (made ∷ named) = held_with one (made ∷ named) client (record (socket_at one client) { stage = Connected (Some made) false false }) client_there (sym client_idle) first in
    let apart : listener ≢ client = λ same. let it : stage_at sockets listener ≡ Idle = ap (stage_at sockets) same ∙ idle in cc in
    let apart_too : made ≢ listener = λ same. let it : stage_at sockets listener ≡ Idle = ap (stage_at sockets) (sym same) ∙ ap (λ s. s.stage) (none_there sockets made free) in cc in
    let client_now = change_there one client (record (socket_at one client) { stage = Connected (Some made) false false }) client_there in
    let still : stage_at (with_stage one client (Connected (Some made) false false)) listener ≡ Listening waiting = ap (λ s. s.stage) (client_now.others listener apart ∙ made_new.others listener (λ same. apart_too (sym same))) ∙ listens in
    let last = queued_held (with_stage one client (Connected (Some made) false false)) named listener made waiting still apart_too (λ here. let it = held.there made here in grind arith) second in
    subst (λ w. AreHeld (with_stage (with_stage one client (Connected (Some made) false false)) listener (Listening (w ++ made ∷ []))) named) (sym (ap waiting_of listens)) last

-- the first that waited is named from then on
pub accept_held : (sockets : Sockets) (named : List ℕ) (listener first : ℕ) (rest : List ℕ) → AreLinked sockets → stage_at sockets listener ≡ Listening (first ∷ rest) → AreHeld sockets named → AreHeld (after_accept sockets listener) (first ∷ named)
accept_held sockets named listener first rest linked is held = record {
  held = λ place there. elim (held.held place (elim (cases_eq place listener) [
    | inl same ↦ rw same listener_there
    | inr differs ↦ rw (others_there place differs) at there
  ])) [
    | inl here ↦ inl (Contains-append_right (first ∷ []) named place here)
    | inr (one, waits) ↦ elim (cases_eq one listener) [
      | inl same ↦ elim (Contains-append_cases (first ∷ []) rest place (rw (same, is) at waits)) [
        | inl it ↦ inl (Contains-append_left (first ∷ []) named place it)
        | inr behind ↦ inr (one, rw (same, now) behind)
      ]
      | inr differs ↦ inr (one, rw (lists one differs) waits)
    ]
  ];
  there = λ place here. elim (cases_eq place listener) [
    | inl same ↦ rw (same, sock_at-with sockets listener (Some next) within) refl
    | inr differs ↦ rw (others_there place differs) (elim (Contains-append_cases (first ∷ []) named place here) [
      | inl it ↦ connected_there sockets place (linked.waiting listener place (rw is (Contains-append_left (first ∷ []) rest place it)))
      | inr behind ↦ held.there place behind
    ])
  ];
  apart = λ place here one waits. elim (Contains-append_cases (first ∷ []) named place here) [
    | inl it ↦ elim (cases_eq one listener) [
      | inl same ↦ (rw is at (linked.once listener)).0 (let first_is : place ≡ first = single place it in rw (first_is, same, now) at waits)
      | inr differs ↦ differs (linked.one_place one listener place (rw (lists one differs) at waits) (rw is (Contains-append_left (first ∷ []) rest place it)))
    ]
    | inr behind ↦ elim (cases_eq one listener) [
      | inl same ↦ held.apart place behind listener (rw is (Contains-append_right (first ∷ []) rest place (rw (same, now) at waits)))
      | inr differs ↦ held.apart place behind one (rw (lists one differs) at waits)
    ]
  ];
}
  where
    next : Socket
    next = record (socket_at sockets listener) { stage = without_first (stage_at sockets listener) }

    listener_there : IsSome (sock_at sockets listener)
    listener_there = listening_there sockets listener (first ∷ rest) is

    within : listener ≤ length sockets
    within = let there = there_within sockets listener listener_there in omega arith

    changed : Changed sockets (after_accept sockets listener) listener next
    changed = Changed-with sockets listener (Some next) within

    now : waiting_of (stage_at (after_accept sockets listener) listener) ≡ rest
    now = ap (λ s. waiting_of s.stage) changed.at ∙ ap (λ stage. waiting_of (without_first stage)) is

    lists : (one : ℕ) → one ≢ listener → waiting_of (stage_at (after_accept sockets listener) one) ≡ waiting_of (stage_at sockets one)
    lists one differs = ap (λ s. waiting_of s.stage) (changed.others one differs)

    others_there : (place : ℕ) → place ≢ listener → sock_at (after_accept sockets listener) place ≡ sock_at sockets place
    others_there place differs = sock_at-with_other sockets listener place (Some next) within differs

    single : (place : ℕ) → Contains (first ∷ []) place → place ≡ first
    single place it = elim (Contains-push_cases [] first place it) [
      | inl none ↦ absurd (omega (arith, none.1))
      | inr same ↦ sym same
    ]

-- who is there after one has gone
gone_there : (sockets : Sockets) (place other : ℕ) → AreLinked sockets → IsSome (sock_at sockets place) → other ≢ place → (IsSome (sock_at (gone sockets place) other) → IsSome (sock_at sockets other)) × (IsSome (sock_at sockets other) → IsSome (sock_at (gone sockets place) other))
gone_there sockets place other linked there differs = go (peer_of (stage_at sockets place)) refl
  where
    within : place ≤ length sockets
    within = let is = there_within sockets place there in omega arith

    without : sock_at (with_socket sockets place None) other ≡ sock_at sockets other
    without = sock_at-with_other sockets place other None within differs

    go : (peer : Option ℕ) → peer_of (stage_at sockets place) ≡ peer → (IsSome (sock_at (left_alone (with_socket sockets place None) peer) other) → IsSome (sock_at sockets other)) × (IsSome (sock_at sockets other) → IsSome (sock_at (left_alone (with_socket sockets place None) peer) other))
    go None e = ((λ is. rw without at is), (λ is. rw without is))
    go (Some peer) e =
        let peer_is_there = peer_there sockets place peer linked e in
        let longer = length-with sockets place None in
        let peer_within : peer ≤ length (with_socket sockets place None) = let is = there_within sockets peer peer_is_there in omega (arith, is, longer) in
        elim (cases_eq other peer) [
          | inl same ↦ ((λ is. rw same peer_is_there), (λ is. rw (same, sock_at-with (with_socket sockets place None) peer (Some (record (socket_at (with_socket sockets place None) peer) { stage = without_peer (stage_at (with_socket sockets place None) peer) })) peer_within) refl))
          | inr differs_too ↦
              let same = sock_at-with_other (with_socket sockets place None) peer other (Some (record (socket_at (with_socket sockets place None) peer) { stage = without_peer (stage_at (with_socket sockets place None) peer) })) peer_within differs_too in
              ((λ is. rw without at (rw same at is)), (λ is. rw same (rw without is)))
        ]

gone_itself : (sockets : Sockets) (place : ℕ) → AreLinked sockets → IsSome (sock_at sockets place) → sock_at (gone sockets place) place ≡ None
gone_itself sockets place linked there = go (peer_of (stage_at sockets place)) refl
  where
    within : place ≤ length sockets
    within = let is = there_within sockets place there in omega arith

    go : (peer : Option ℕ) → peer_of (stage_at sockets place) ≡ peer → sock_at (left_alone (with_socket sockets place None) peer) place ≡ None
    go None e = sock_at-with sockets place None within
    go (Some peer) e =
        let longer = length-with sockets place None in
        let peer_within : peer ≤ length (with_socket sockets place None) = let is = there_within sockets peer (peer_there sockets place peer linked e) in omega (arith, is, longer) in
        sock_at-with_other (with_socket sockets place None) peer place (Some (record (socket_at (with_socket sockets place None) peer) { stage = without_peer (stage_at (with_socket sockets place None) peer) })) peer_within (λ same. linked.apart place (e ∙ ap Some (sym same))) ∙ sock_at-with sockets place None within

-- those that waited for one that has gone are in hand
gone_held : (sockets : Sockets) (named : List ℕ) (place : ℕ) → AreLinked sockets → IsSome (sock_at sockets place) → WaitsNowhere sockets place → (Contains named place → ⊥) → AreHeld sockets (place ∷ named) → AreHeld (gone sockets place) (waiting_of (stage_at sockets place) ++ named)
gone_held sockets named place linked there nowhere absent held = record {
  held = λ other is. let differs : other ≢ place = λ same. let none = gone_itself sockets place linked there in let it : IsSome (sock_at (gone sockets place) place) = rw same at is in grind arith in
      elim (held.held other ((gone_there sockets place other linked there differs).0 is)) [
        | inl here ↦ elim (Contains-append_cases (place ∷ []) named other here) [
          | inl it ↦ absurd (differs (single other it))
          | inr behind ↦ inl (Contains-append_right (waiting_of (stage_at sockets place)) named other behind)
        ]
        | inr (one, waits) ↦ elim (cases_eq one place) [
          | inl same ↦ inl (Contains-append_left (waiting_of (stage_at sockets place)) named other (rw same at waits))
          | inr differs_too ↦ inr (one, rw (lists one differs_too) waits)
        ]
      ];
  there = λ other here. elim (Contains-append_cases (waiting_of (stage_at sockets place)) named other here) [
    | inl waits ↦ (gone_there sockets place other linked there (λ same. nowhere place (rw same at waits))).1 (connected_there sockets other (linked.waiting place other waits))
    | inr behind ↦ (gone_there sockets place other linked there (λ same. absent (rw same at behind))).1 (held.there other (Contains-append_right (place ∷ []) named other behind))
  ];
  apart = λ other here. elim (Contains-append_cases (waiting_of (stage_at sockets place)) named other here) [
    | inl waits ↦ (waiting_loose sockets place linked there nowhere).nowhere other waits
    | inr behind ↦ λ one waits. held.apart other (Contains-append_right (place ∷ []) named other behind) one (parted_waits sockets (gone sockets place) place parted linked nowhere one other waits)
  ];
}
  where
    parted : Parted sockets (gone sockets place) place
    parted = gone_parted sockets place linked there

    lists : (one : ℕ) → one ≢ place → waiting_of (stage_at (gone sockets place) one) ≡ waiting_of (stage_at sockets one)
    lists one differs = elim (is_or_not (peer_of (stage_at sockets place)) one) [
      | inl peer ↦ ap (λ s. waiting_of s.stage) (parted.alone one peer) ∙ waiting_of-without_peer (stage_at sockets one)
      | inr isnt ↦ ap (λ s. waiting_of s.stage) (parted.others one differs isnt)
    ]

    single : (other : ℕ) → Contains (place ∷ []) other → other ≡ place
    single other it = elim (Contains-push_cases [] place other it) [
      | inl none ↦ absurd (omega (arith, none.1))
      | inr same ↦ sym same
    ]

no_waiting : (stage : Stage) → is_connected stage ≡ true → waiting_of stage ≡ []
no_waiting Idle is = refl
no_waiting (Listening waiting) is = absurd (cc)
no_waiting (Connected peer shut_read shut_write) is = refl

all_gone_held : (sockets : Sockets) (named places : List ℕ) → AreLinked sockets → AreLoose sockets places → ((place : ℕ) → Contains places place → Contains named place → ⊥) → AreHeld sockets (places ++ named) → AreHeld (all_gone sockets places) named
all_gone_held sockets named [] linked loose apart held = held
all_gone_held sockets named (place ∷ rest) linked loose apart held =
    let there = first_loose sockets place rest loose in
    let here : Contains (place ∷ rest) place = (0, omega arith, refl) in
    let nowhere = loose.nowhere place here in
    all_gone_held (gone sockets place) named rest (gone_linked sockets place linked there nowhere) (rest_loose sockets place rest linked loose)
    (λ other behind. apart other (Contains-append_right (place ∷ []) rest other behind))
    (subst (λ waiting. AreHeld (gone sockets place) (waiting ++ (rest ++ named))) (no_waiting (stage_at sockets place) (loose.connected place here))
    (gone_held sockets (rest ++ named) place linked there nowhere (λ is. elim (Contains-append_cases rest named place is) [
      | inl behind ↦ loose.once.0 behind
      | inr named_too ↦ apart place here named_too
    ]) held))

-- one that was named is closed, and goes with all that wait for it
pub close_held : (sockets : Sockets) (named : List ℕ) (place : ℕ) → AreLinked sockets → (Contains named place → ⊥) → AreHeld sockets (place ∷ named) → AreHeld (after_close sockets place) named
close_held sockets named place linked absent held =
    let there = held.there place (0, omega arith, refl) in
    let nowhere = held.apart place (0, omega arith, refl) in
    all_gone_held (gone sockets place) named (waiting_of (stage_at sockets place)) (gone_linked sockets place linked there nowhere) (waiting_loose sockets place linked there nowhere)
    (λ other waits named_too. held.apart other (Contains-append_right (place ∷ []) named other named_too) place waits)
    (gone_held sockets named place linked there nowhere absent held)
