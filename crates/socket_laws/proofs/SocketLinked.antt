-- Sockets stay linked over each call.
use Rattle.std.proofs.Common.{◌≡◌, ◌≢◌, ◌⊎◌, inl, inr, ℕ, ◌<◌, ◌≤◌, true, false, List, [], ◌∷◌, ◌++◌, length, Option, None, Some, refl, sym, ap, ◌∙◌, arith, Contains}
use Rattle.std.proofs.Common.{length-append}
use Rattle.std.proofs.lemmas.Bool.{cases_eq}
use Rattle.std.proofs.lemmas.List.Elements.{Contains-append_right, Contains-push_cases}
use Rattle.posix_defs.specs.Socket.{Stage, Idle, Listening, Connected, Socket, new_socket, peer_of, waiting_of, is_connected, without_peer}
use Rattle.posix_defs.specs.Sockets.{Sockets, socket_at, stage_at, backlog}
use Rattle.posix_defs.specs.SocketLinks.{NoneTwice, room_of, WaitsFor, WaitsNowhere, AreLinked}
use Rattle.socket_laws.proofs.SocketTable.{Changed}

-- one socket is changed and has the peer that it had; of those that waited for it some or all wait still
pub record Eases (was now : Socket) : Type 0 where
  pub peer : peer_of now.stage ≡ peer_of was.stage
  pub connected : is_connected now.stage ≡ is_connected was.stage
  pub fewer : (place : ℕ) → Contains (waiting_of now.stage) place → Contains (waiting_of was.stage) place
  pub once : NoneTwice (waiting_of now.stage)
  pub backlog : length (waiting_of now.stage) ≤ backlog
  pub room : length now.bytes ≤ room_of now.stage

-- what holds of the socket of a place, and of all others
pub each : (P : ℕ → Socket → Type 0) (old new : Sockets) (place : ℕ) (socket : Socket) → Changed old new place socket → P place socket → ((other : ℕ) → other ≢ place → P other (socket_at old other)) → (other : ℕ) → P other (socket_at new other)
each P old new place socket changed here there other = elim (cases_eq other place) [
  | inl same ↦ rw (same, changed.at) here
  | inr differs ↦ rw (changed.others other differs) (there other differs)
]

module _ (old new : Sockets) (place : ℕ) (socket : Socket) (changed : Changed old new place socket) (eases : Eases (socket_at old place) socket) (linked : AreLinked old) where
  peers : (other : ℕ) → peer_of (stage_at new other) ≡ peer_of (stage_at old other)
  peers = each (λ other s. peer_of s.stage ≡ peer_of (stage_at old other)) old new place socket changed eases.peer (λ other differs. refl)

  connected : (other : ℕ) → is_connected (stage_at new other) ≡ is_connected (stage_at old other)
  connected = each (λ other s. is_connected s.stage ≡ is_connected (stage_at old other)) old new place socket changed eases.connected (λ other differs. refl)

  waits : (listener other : ℕ) → WaitsFor new listener other → WaitsFor old listener other
  waits = each (λ listener s. (other : ℕ) → Contains (waiting_of s.stage) other → WaitsFor old listener other) old new place socket changed eases.fewer (λ listener differs other there. there)

  pub AreLinked-eased : AreLinked new
  AreLinked-eased = record {
    paired = λ one other is. peers other ∙ linked.paired one other (sym (peers one) ∙ is);
    apart = λ other is. linked.apart other (sym (peers other) ∙ is);
    waiting = λ listener other there. connected other ∙ linked.waiting listener other (waits listener other there);
    once = each (λ other s. NoneTwice (waiting_of s.stage)) old new place socket changed eases.once (λ other differs. linked.once other);
    one_place = λ one another other here there. linked.one_place one another other (waits one other here) (waits another other there);
    backlog = each (λ other s. length (waiting_of s.stage) ≤ backlog) old new place socket changed eases.backlog (λ other differs. linked.backlog other);
    room = each (λ other s. length s.bytes ≤ room_of s.stage) old new place socket changed eases.room (λ other differs. linked.room other);
  }

-- it is decided whether a peer is this one
pub is_or_not : (peer : Option ℕ) (place : ℕ) → (peer ≡ Some place) ⊎ (peer ≢ Some place)
is_or_not None place = inr (λ is. cc)
is_or_not (Some other) place = elim (cases_eq other place) [
  | inl same ↦ inl (ap Some same)
  | inr differs ↦ inr (λ is. differs (cc))
]

pub peer_of-without_peer : (stage : Stage) → peer_of (without_peer stage) ≡ None
peer_of-without_peer Idle = refl
peer_of-without_peer (Listening waiting) = refl
peer_of-without_peer (Connected peer shut_read shut_write) = refl

pub waiting_of-without_peer : (stage : Stage) → waiting_of (without_peer stage) ≡ waiting_of stage
waiting_of-without_peer Idle = refl
waiting_of-without_peer (Listening waiting) = refl
waiting_of-without_peer (Connected peer shut_read shut_write) = refl

pub is_connected-without_peer : (stage : Stage) → is_connected (without_peer stage) ≡ is_connected stage
is_connected-without_peer Idle = refl
is_connected-without_peer (Listening waiting) = refl
is_connected-without_peer (Connected peer shut_read shut_write) = refl

room_of-without_peer : (stage : Stage) → room_of (without_peer stage) ≡ room_of stage
room_of-without_peer Idle = refl
room_of-without_peer (Listening waiting) = refl
room_of-without_peer (Connected peer true shut_write) = refl
room_of-without_peer (Connected peer false shut_write) = refl

-- the socket of a place has gone, and its peer has no peer any more
pub record Parted (old new : Sockets) (place : ℕ) : Type 0 where
  pub gone : socket_at new place ≡ new_socket
  pub alone : (peer : ℕ) → peer_of (stage_at old place) ≡ Some peer → socket_at new peer ≡ record (socket_at old peer) { stage = without_peer (stage_at old peer) }
  pub others : (other : ℕ) → other ≢ place → peer_of (stage_at old place) ≢ Some other → socket_at new other ≡ socket_at old other

module _ (old new : Sockets) (place : ℕ) (parted : Parted old new place) (linked : AreLinked old) (nowhere : WaitsNowhere old place) where
  -- what holds of a new socket, of one without its peer, and of all others
  each_parted : (P : ℕ → Socket → Type 0) → P place new_socket → ((peer : ℕ) → P peer (socket_at old peer) → P peer (record (socket_at old peer) { stage = without_peer (stage_at old peer) })) → ((other : ℕ) → other ≢ place → P other (socket_at old other)) → (other : ℕ) → P other (socket_at new other)
  each_parted P here there rest other = elim (cases_eq other place) [
    | inl same ↦ rw (same, parted.gone) here
    | inr differs ↦ elim (is_or_not (peer_of (stage_at old place)) other) [
      | inl is ↦ rw (parted.alone other is) (there other (rest other differs))
      | inr isnt ↦ rw (parted.others other differs isnt) (rest other differs)
    ]
  ]

  pub parted_waits : (listener other : ℕ) → WaitsFor new listener other → WaitsFor old listener other
  parted_waits = each_parted (λ listener s. (other : ℕ) → Contains (waiting_of s.stage) other → WaitsFor old listener other) (λ other there. absurd (omega (arith, there.1))) (λ peer holds other there. holds other (rw waiting_of-without_peer at there)) (λ listener differs other there. there)

  pub parted_connected : (other : ℕ) → other ≢ place → is_connected (stage_at new other) ≡ is_connected (stage_at old other)
  parted_connected = each_parted (λ other s. other ≢ place → is_connected s.stage ≡ is_connected (stage_at old other)) (λ differs. absurd (differs refl)) (λ peer holds differs. is_connected-without_peer (stage_at old peer) ∙ holds differs) (λ other differs differs_too. refl)

  -- one that has a peer still had it before, and that one has it still
  parted_pairs : (one other : ℕ) → peer_of (stage_at new one) ≡ Some other → peer_of (stage_at new other) ≡ Some one
  parted_pairs one other is = elim (cases_eq one place) [
    | inl same ↦ absurd (let none : peer_of (stage_at new one) ≡ None = ap (λ n. peer_of (stage_at new n)) same ∙ ap (λ s. peer_of s.stage) parted.gone in cc)
    | inr differs ↦ elim (is_or_not (peer_of (stage_at old place)) one) [
      | inl left ↦ absurd (let none : peer_of (stage_at new one) ≡ None = ap (λ s. peer_of s.stage) (parted.alone one left) ∙ peer_of-without_peer (stage_at old one) in cc)
      | inr stays ↦
          let was : peer_of (stage_at old one) ≡ Some other = sym (ap (λ s. peer_of s.stage) (parted.others one differs stays)) ∙ is in
          let back : peer_of (stage_at old other) ≡ Some one = linked.paired one other was in
          let here : other ≢ place = λ same. stays (ap (λ n. peer_of (stage_at old n)) (sym same) ∙ back) in
          let there : peer_of (stage_at old place) ≢ Some other = λ left. differs (let again : peer_of (stage_at old other) ≡ Some place = linked.paired place other left in cc) in
          ap (λ s. peer_of s.stage) (parted.others other here there) ∙ back
    ]
  ]

  pub AreLinked-parted : AreLinked new
  AreLinked-parted = record {
    paired = parted_pairs;
    apart = each_parted (λ other s. peer_of s.stage ≡ Some other → ⊥) (λ is. cc) (λ peer holds is. let none = peer_of-without_peer (stage_at old peer) in cc) (λ other differs. linked.apart other);
    waiting = λ listener other there. let was = parted_waits listener other there in
        parted_connected other (λ same. nowhere listener (rw same at was)) ∙ linked.waiting listener other was;
    once = each_parted (λ other s. NoneTwice (waiting_of s.stage)) tt (λ peer holds. rw waiting_of-without_peer holds) (λ other differs. linked.once other);
    one_place = λ one another other here there. linked.one_place one another other (parted_waits one other here) (parted_waits another other there);
    backlog = each_parted (λ other s. length (waiting_of s.stage) ≤ backlog) (omega arith) (λ peer holds. rw waiting_of-without_peer holds) (λ other differs. linked.backlog other);
    room = each_parted (λ other s. length s.bytes ≤ room_of s.stage) (omega arith) (λ peer holds. rw room_of-without_peer holds) (λ other differs. linked.room other);
  }

-- two sockets without peers are connected to each other
pub record Paired (old new : Sockets) (one other : ℕ) : Type 0 where
  pub one_is : stage_at new one ≡ Connected (Some other) false false
  pub other_is : stage_at new other ≡ Connected (Some one) false false
  pub one_bytes : length (socket_at new one).bytes ≤ 4096
  pub other_bytes : length (socket_at new other).bytes ≤ 4096
  pub others : (place : ℕ) → place ≢ one → place ≢ other → socket_at new place ≡ socket_at old place

module _ (old new : Sockets) (one other : ℕ) (differ : one ≢ other) (paired : Paired old new one other) (linked : AreLinked old) (one_free : peer_of (stage_at old one) ≡ None) (other_free : peer_of (stage_at old other) ≡ None) where
  each_paired : (P : ℕ → Socket → Type 0) → P one (socket_at new one) → P other (socket_at new other) → ((place : ℕ) → place ≢ one → place ≢ other → P place (socket_at old place)) → (place : ℕ) → P place (socket_at new place)
  each_paired P here there rest place = elim (cases_eq place one) [
    | inl same ↦ rw same here
    | inr differs ↦ elim (cases_eq place other) [
      | inl same ↦ rw same there
      | inr differs_too ↦ rw (paired.others place differs differs_too) (rest place differs differs_too)
    ]
  ]

  pub paired_waits : (listener place : ℕ) → WaitsFor new listener place → WaitsFor old listener place
  paired_waits = each_paired (λ listener s. (place : ℕ) → Contains (waiting_of s.stage) place → WaitsFor old listener place) (rw paired.one_is (λ place there. absurd (omega (arith, there.1)))) (rw paired.other_is (λ place there. absurd (omega (arith, there.1)))) (λ listener differs differs_too place there. there)

  paired_connected : (place : ℕ) → is_connected (stage_at old place) ≡ true → is_connected (stage_at new place) ≡ true
  paired_connected = each_paired (λ place s. is_connected (stage_at old place) ≡ true → is_connected s.stage ≡ true) (λ was. ap is_connected paired.one_is) (λ was. ap is_connected paired.other_is) (λ place differs differs_too was. was)

  -- nobody else has either as its peer
  free : (place peer free_place : ℕ) → peer_of (stage_at old free_place) ≡ None → peer_of (stage_at old place) ≡ Some peer → peer ≢ free_place
  free place peer free_place none is same = let back = linked.paired place peer is in let there : peer_of (stage_at old peer) ≡ None = ap (λ n. peer_of (stage_at old n)) same ∙ none in cc

  paired_pairs : (place peer : ℕ) → peer_of (stage_at new place) ≡ Some peer → peer_of (stage_at new peer) ≡ Some place
  paired_pairs place peer is = elim (cases_eq place one) [
    | inl same ↦ let named : peer ≡ other = let it : peer_of (stage_at new place) ≡ Some other = ap (λ n. peer_of (stage_at new n)) same ∙ ap peer_of paired.one_is in cc in
        ap (λ n. peer_of (stage_at new n)) named ∙ ap peer_of paired.other_is ∙ ap Some (sym same)
    | inr differs ↦ elim (cases_eq place other) [
      | inl same ↦ let named : peer ≡ one = let it : peer_of (stage_at new place) ≡ Some one = ap (λ n. peer_of (stage_at new n)) same ∙ ap peer_of paired.other_is in cc in
          ap (λ n. peer_of (stage_at new n)) named ∙ ap peer_of paired.one_is ∙ ap Some (sym same)
      | inr differs_too ↦
          let was : peer_of (stage_at old place) ≡ Some peer = sym (ap (λ s. peer_of s.stage) (paired.others place differs differs_too)) ∙ is in
          ap (λ s. peer_of s.stage) (paired.others peer (free place peer one one_free was) (free place peer other other_free was)) ∙ linked.paired place peer was
    ]
  ]

  pub AreLinked-paired : AreLinked new
  AreLinked-paired = record {
    paired = paired_pairs;
    apart = each_paired (λ place s. peer_of s.stage ≡ Some place → ⊥) (λ is. differ (let it = ap peer_of paired.one_is in cc)) (λ is. differ (let it = ap peer_of paired.other_is in cc)) (λ place differs differs_too. linked.apart place);
    waiting = λ listener place there. paired_connected place (linked.waiting listener place (paired_waits listener place there));
    once = each_paired (λ place s. NoneTwice (waiting_of s.stage)) (rw paired.one_is tt) (rw paired.other_is tt) (λ place differs differs_too. linked.once place);
    one_place = λ first second place here there. linked.one_place first second place (paired_waits first place here) (paired_waits second place there);
    backlog = each_paired (λ place s. length (waiting_of s.stage) ≤ backlog) (rw paired.one_is (omega arith)) (rw paired.other_is (omega arith)) (λ place differs differs_too. linked.backlog place);
    room = each_paired (λ place s. length s.bytes ≤ room_of s.stage) (rw paired.one_is paired.one_bytes) (rw paired.other_is paired.other_bytes) (λ place differs differs_too. linked.room place);
  }

NoneTwice-push : (places : List ℕ) (place : ℕ) → NoneTwice places → (Contains places place → ⊥) → NoneTwice (places ++ place ∷ [])
NoneTwice-push [] place once absent = ((λ there. omega (arith, there.1)), tt)
NoneTwice-push (first ∷ rest) place once absent = (
  (λ there. elim (Contains-push_cases rest place first there) [
    | inl here ↦ once.0 here
    | inr same ↦ absent (0, omega arith, sym same)
  ]),
  NoneTwice-push rest place once.1 (λ there. absent (Contains-append_right (first ∷ []) rest place there)),
)

-- one more waits for a listening socket
pub record Queued (old new : Sockets) (listener added : ℕ) (waiting : List ℕ) : Type 0 where
  pub stage : stage_at old listener ≡ Listening waiting
  pub now : stage_at new listener ≡ Listening (waiting ++ added ∷ [])
  pub bytes : (socket_at new listener).bytes ≡ (socket_at old listener).bytes
  pub others : (other : ℕ) → other ≢ listener → socket_at new other ≡ socket_at old other
  pub few : length waiting < 8
  pub connected : is_connected (stage_at old added) ≡ true
  pub nowhere : WaitsNowhere old added

module _ (old new : Sockets) (listener added : ℕ) (waiting : List ℕ) (queued : Queued old new listener added waiting) (linked : AreLinked old) where
  each_queued : (P : ℕ → Socket → Type 0) → P listener (socket_at new listener) → ((place : ℕ) → place ≢ listener → P place (socket_at old place)) → (place : ℕ) → P place (socket_at new place)
  each_queued P here rest place = elim (cases_eq place listener) [
    | inl same ↦ rw same here
    | inr differs ↦ rw (queued.others place differs) (rest place differs)
  ]

  queued_peers : (place : ℕ) → peer_of (stage_at new place) ≡ peer_of (stage_at old place)
  queued_peers = each_queued (λ place s. peer_of s.stage ≡ peer_of (stage_at old place)) (ap peer_of queued.now ∙ sym (ap peer_of queued.stage)) (λ place differs. refl)

  queued_connected : (place : ℕ) → is_connected (stage_at new place) ≡ is_connected (stage_at old place)
  queued_connected = each_queued (λ place s. is_connected s.stage ≡ is_connected (stage_at old place)) (ap is_connected queued.now ∙ sym (ap is_connected queued.stage)) (λ place differs. refl)

  -- who waits now waited for the same one before, or is the one that was added
  queued_waits : (one place : ℕ) → WaitsFor new one place → WaitsFor old one place ⊎ ((one ≡ listener) × (added ≡ place))
  queued_waits = each_queued (λ one s. (place : ℕ) → Contains (waiting_of s.stage) place → WaitsFor old one place ⊎ ((one ≡ listener) × (added ≡ place))) (λ place there. elim (Contains-push_cases waiting added place (rw queued.now at there)) [
    | inl here ↦ inl (rw queued.stage here)
    | inr it ↦ inr (refl, it)
  ]) (λ one differs place there. inl there)

  pub AreLinked-queued : AreLinked new
  AreLinked-queued = record {
    paired = λ one other is. queued_peers other ∙ linked.paired one other (sym (queued_peers one) ∙ is);
    apart = λ other is. linked.apart other (sym (queued_peers other) ∙ is);
    waiting = λ one place there. queued_connected place ∙ elim (queued_waits one place there) [
      | inl was ↦ linked.waiting one place was
      | inr (same, it) ↦ ap (λ n. is_connected (stage_at old n)) (sym it) ∙ queued.connected
    ];
    once = each_queued (λ place s. NoneTwice (waiting_of s.stage)) (rw queued.now (NoneTwice-push waiting added (rw queued.stage at (linked.once listener)) (λ there. queued.nowhere listener (rw queued.stage there)))) (λ place differs. linked.once place);
    one_place = λ one another place here there. elim (queued_waits one place here) [
      | inl was ↦ elim (queued_waits another place there) [
        | inl was_too ↦ linked.one_place one another place was was_too
        | inr (same, it) ↦ absurd (queued.nowhere one (rw it was))
      ]
      | inr (same, it) ↦ elim (queued_waits another place there) [
        | inl was_too ↦ absurd (queued.nowhere another (rw it was_too))
        | inr (same_too, it_too) ↦ same ∙ sym same_too
      ]
    ];
    backlog = each_queued (λ place s. length (waiting_of s.stage) ≤ backlog) (rw (queued.now, length-append) (omega (arith, queued.few))) (λ place differs. linked.backlog place);
    room = each_queued (λ place s. length s.bytes ≤ room_of s.stage) (let is = linked.room listener in rw (queued.now, queued.bytes) (rw queued.stage at is)) (λ place differs. linked.room place);
  }
