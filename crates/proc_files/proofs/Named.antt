-- The names of the machine's sockets, once a socket gets one or loses it, and once one is connected.
use Rattle.std.proofs.Common.{◌≡◌, ◌≢◌, ◌⊎◌, ℕ, ◌≤◌, ◌++◌, false, true, List, [], ◌∷◌, length, map, Option, None, Some, IsSome, is_some, unwrap_or, refl, sym, ap, ◌∙◌, subst, arith, inl, inr, Contains}
use Rattle.std.proofs.lemmas.Bool.{cases_eq, false≢true}
use Rattle.std.proofs.lemmas.List.Elements.{Contains-append_cases}
use Rattle.chunk_queue.proofs.JoinedLemmas.{Contains-cons, Contains-cons_cases}
use Rattle.kheap_laws.proofs.OnceLemmas.{Contains-single}
use Rattle.open_laws.specs.Socketed.{AreRenamed, stage_by}
use Rattle.open_laws.proofs.SocketLemmas.{placed_stage}
use Rattle.posix_defs.specs.Files.State.{Files, with_sockets, with_tree}
use Rattle.posix_defs.specs.PathCalls.{is_socket}
use Rattle.posix_defs.specs.Socket.{Stage, Idle, Listening, Connected, Socket, connected_to, is_connected, new_socket, waiting_of}
use Rattle.posix_defs.specs.SocketLinks.{AreLinked, AreNamedOnce, NamesNone, WaitsFor}
use Rattle.posix_defs.specs.Sockets.{Sockets, after_connect, sock_at, socket_at, stage_at, with_name, with_socket, with_stage}
use Rattle.posix_defs.specs.Tree.{Tree}
use Rattle.socket_laws.proofs.SocketCalls.{connected_there}
use Rattle.socket_laws.proofs.SocketLinked.{each}
use Rattle.socket_laws.proofs.SocketTable.{Changed, Changed-with, length-with}
use Rattle.proc_files.specs.Holders.{HaveNames, HaveNamesBut}
use Rattle.proc_files.proofs.Made.{MakesName}
use Rattle.proc_files.proofs.Placed.{waiting_by}
use Rattle.proc_files.proofs.Tables.{node_of}
use Rattle.proc_files.proofs.Ties.{none_is}

same_number : {a b : ℕ} → Some a ≡ Some b → a ≡ b
same_number e = cc

-- ---- no socket gets a name

-- who has a name had it, and it isn't the one that was freed; who waits waited, or has none
pub names_fewer : (freed : Option ℕ) (files : Files) (now : Sockets) → HaveNamesBut freed files
    → ((place number : ℕ) → node_of now place ≡ Some number → (node_of files.sockets place ≡ Some number) × (freed ≢ Some number))
    → ((listener place : ℕ) → WaitsFor now listener place → WaitsFor files.sockets listener place ⊎ (node_of now place ≡ None)) → HaveNames (with_sockets files now)
names_fewer freed files now names fewer waits = record {
  bound = λ place number is none. let was = fewer place number is in names.bound place number was.0 was.1;
  waiting = λ listener place waiting. elim (waits listener place waiting) [
    | inl waited ↦ by_node place (names.waiting listener place waited) (node_of now place) refl
    | inr none ↦ none
  ];
}
  where
    by_node : (place : ℕ) → node_of files.sockets place ≡ None → (o : Option ℕ) → node_of now place ≡ o → o ≡ None
    by_node place none None is = refl
    by_node place none (Some number) is = absurd (none_is (sym none ∙ (fewer place number is).0))

-- ---- one socket has another name

module _ (sockets : Sockets) (place : ℕ) (node : Option ℕ) (within : place ≤ length sockets) where
  change : Changed sockets (with_name sockets place node) place (record (socket_at sockets place) { node = node })
  change = Changed-with sockets place (Some (record (socket_at sockets place) { node = node })) within

  pub named_here : node_of (with_name sockets place node) place ≡ node
  named_here = ap (λ (s : Socket). s.node) change.at

  pub named_there : (other : ℕ) → other ≢ place → node_of (with_name sockets place node) other ≡ node_of sockets other
  named_there other apart = ap (λ (s : Socket). s.node) (change.others other apart)

  pub same_stages : (other : ℕ) → stage_at (with_name sockets place node) other ≡ stage_at sockets other
  same_stages =
      each (λ other s. s.stage ≡ stage_at sockets other) sockets (with_name sockets place node) place (record (socket_at sockets place) { node = node }) change refl (λ other apart. refl)

  pub same_waits : (listener other : ℕ) → WaitsFor (with_name sockets place node) listener other → WaitsFor sockets listener other
  same_waits listener other waits = subst (λ stage. Contains (waiting_of stage) other) (same_stages listener) waits

-- a name is taken, which was freed or not
pub taken_names : (freed : Option ℕ) (files : Files) (place number : ℕ) → HaveNamesBut freed files → place ≤ length files.sockets → node_of files.sockets place ≡ Some number
    → AreNamedOnce files.sockets → ((other : ℕ) → freed ≡ Some other → other ≡ number) → HaveNames (with_sockets files (with_name files.sockets place None))
taken_names freed files place number names within named once which =
    names_fewer freed files (with_name files.sockets place None) names
    (λ other n is. elim (cases_eq other place) [
      | inl same ↦ absurd (none_is (sym (named_here files.sockets place None within) ∙ ap (node_of (with_name files.sockets place None)) (sym same) ∙ is))
      | inr apart ↦
          let was = sym (named_there files.sockets place None within other apart) ∙ is in
          (was, λ free. apart (once.one_socket other place number (was ∙ ap Some (which n free)) named))
    ])
    (λ listener other waits. inl (same_waits files.sockets place None within listener other waits))

-- nobody had the name that was freed
pub none_named : (number : ℕ) (files : Files) → HaveNamesBut (Some number) files → NamesNone files.sockets number → HaveNames files
none_named number files names none = record {
  bound = λ place n is free. names.bound place n is (λ same. none place (is ∙ sym same));
  waiting = names.waiting;
}

-- ---- who waits is connected

map_has : (f : ℕ → ℕ) (keys : List ℕ) (place : ℕ) → Contains (map f keys) place → (key : ℕ) × Contains keys key × (f key ≡ place)
map_has f [] place among = absurd (omega (arith, among.1))
map_has f (key ∷ rest) place among = elim (Contains-cons_cases (f key) place (map f rest) among) [
  | inl same ↦ (key, (0, omega arith, refl), same)
  | inr behind ↦ let it = map_has f rest place behind in (it.0, Contains-cons key it.0 rest it.1, it.2)
]

has_mapped : (f : ℕ → ℕ) (keys : List ℕ) (key : ℕ) → Contains keys key → Contains (map f keys) (f key)
has_mapped f [] key among = absurd (omega (arith, among.1))
has_mapped f (first ∷ rest) key among = elim (Contains-cons_cases first key rest among) [
  | inl same ↦ subst (λ k. Contains (map f (first ∷ rest)) (f k)) same (0, omega arith, refl)
  | inr behind ↦ Contains-cons (f first) (f key) (map f rest) (has_mapped f rest key behind)
]

-- one that somebody waits for is there
listener_is : (sockets : Sockets) (listener place : ℕ) → WaitsFor sockets listener place → (socket : Socket) × (sock_at sockets listener ≡ Some socket)
listener_is sockets listener place waits = by_socket (sock_at sockets listener) refl waits
  where
    by_socket : (o : Option Socket) → sock_at sockets listener ≡ o → Contains (waiting_of (unwrap_or o new_socket).stage) place → (socket : Socket) × (sock_at sockets listener ≡ Some socket)
    by_socket None is among = absurd (omega (arith, among.1))
    by_socket (Some socket) is among = (socket, is)

-- who waits where, by key
pub record WaitsAt (number : ℕ → ℕ) (keyed : Sockets) (listener place : ℕ) : Type 0 where
  pub by : ℕ
  pub listens : number by ≡ listener
  pub key : ℕ
  pub is : number key ≡ place
  pub waits : WaitsFor keyed by key

module _ (number : ℕ → ℕ) (keyed sockets : Sockets) (are : AreRenamed number keyed sockets) where
  waiting_so : (key : ℕ) → IsSome (sock_at keyed key) → waiting_of (stage_at sockets (number key)) ≡ map number (waiting_of (stage_at keyed key))
  waiting_so key there = ap waiting_of (placed_stage number keyed sockets key are there) ∙ waiting_by number (stage_at keyed key)

  pub waits_by_key : (listener place : ℕ) → WaitsFor sockets listener place → WaitsAt number keyed listener place
  waits_by_key listener place waits =
      let there = listener_is sockets listener place waits in
      let at = are.found listener there.0 there.1 in
      let so = ap (λ p. waiting_of (stage_at sockets p)) (sym at.2) ∙ waiting_so at.0 at.1 in
      let key = map_has number (waiting_of (stage_at keyed at.0)) place (subst (λ (list : List ℕ). Contains list place) so waits) in
      record { by = at.0; listens = at.2; key = key.0; is = key.2; waits = key.1 }

  pub waits_by_place : (listener key : ℕ) → WaitsFor keyed listener key → WaitsFor sockets (number listener) (number key)
  waits_by_place listener key waits =
      let there = listener_is keyed listener key waits in
      subst (λ (list : List ℕ). Contains list (number key)) (sym (waiting_so listener (ap is_some there.1))) (has_mapped number (waiting_of (stage_at keyed listener)) key waits)

module _ (number : ℕ → ℕ) (keyed sockets : Sockets) (are : AreRenamed number keyed sockets) (linked : AreLinked keyed) where
  connected_by : (stage : Stage) → is_connected (stage_by number stage) ≡ is_connected stage
  connected_by Idle = refl
  connected_by (Listening waiting) = refl
  connected_by (Connected peer shut_read shut_write) = refl

  pub waiting_connected : (listener place : ℕ) → WaitsFor sockets listener place → is_connected (stage_at sockets place) ≡ true
  waiting_connected listener place waits =
      let at = waits_by_key number keyed sockets are listener place waits in
      let connected = linked.waiting at.by at.key at.waits in
      ap (λ p. is_connected (stage_at sockets p)) (sym at.is)
      ∙ ap is_connected (placed_stage number keyed sockets at.key are (connected_there keyed at.key connected))
      ∙ connected_by (stage_at keyed at.key) ∙ connected

-- ---- a socket gets a name

pub bound_names : (files : Files) (next : Tree) (place made : ℕ) → HaveNames files → MakesName files.tree next made → place ≤ length files.sockets
    → ((listener : ℕ) → WaitsFor files.sockets listener place → ⊥) → HaveNames (with_sockets (with_tree files next) (with_name files.sockets place (Some made)))
bound_names files next place made names makes within nowhere = record {
  bound = λ other number is none. elim (cases_eq other place) [
    | inl same ↦
        let it : made ≡ number = same_number (sym (named_here files.sockets place (Some made) within) ∙ ap (node_of (with_name files.sockets place (Some made))) (sym same) ∙ is) in
        ap (is_socket next) (sym it) ∙ makes.named
    | inr apart ↦
        let was = names.bound other number (sym (named_there files.sockets place (Some made) within other apart) ∙ is) none in
        makes.sockets number (λ same. false≢true (sym makes.unnamed ∙ ap (is_socket files.tree) (sym same) ∙ was)) ∙ was
  ];
  waiting = λ listener other waits.
      let waited = same_waits files.sockets place (Some made) within listener other waits in
      elim (cases_eq other place) [
        | inl same ↦ absurd (nowhere listener (subst (WaitsFor files.sockets listener) same waited))
        | inr apart ↦ named_there files.sockets place (Some made) within other apart ∙ names.waiting listener other waited
      ];
}

-- ---- a connection

module _ (sockets : Sockets) (client listener made : ℕ) (free : sock_at sockets made ≡ None) (within : made ≤ length sockets) (client_within : client ≤ length sockets) (listener_within : listener ≤ length sockets) where
  abbrev one : Sockets
  one = with_socket sockets made (Some (connected_to client))

  abbrev two : Sockets
  two = with_stage one client (Connected (Some made) false false)

  first : Changed sockets one made (connected_to client)
  first = Changed-with sockets made (Some (connected_to client)) within

  second : Changed one two client (record (socket_at one client) { stage = Connected (Some made) false false })
  second = Changed-with one client (Some (record (socket_at one client) { stage = Connected (Some made) false false })) (let longer = length-with sockets made (Some (connected_to client)) in omega (arith, client_within, longer))

  third : Changed two (after_connect sockets client listener made) listener (record (socket_at two listener) { stage = Listening (waiting_of (stage_at sockets listener) ++ made ∷ []) })
  third =
      Changed-with two listener (Some (record (socket_at two listener) { stage = Listening (waiting_of (stage_at sockets listener) ++ made ∷ []) }))
      (let longer = length-with sockets made (Some (connected_to client)) in
      let longer_too = length-with one client (Some (record (socket_at one client) { stage = Connected (Some made) false false })) in omega (arith, listener_within, longer, longer_too))

  nodes_one : (place : ℕ) → node_of one place ≡ node_of sockets place
  nodes_one =
      each (λ place s. s.node ≡ node_of sockets place) sockets one made (connected_to client) first (sym (ap (λ (o : Option Socket). (unwrap_or o new_socket).node) free)) (λ place apart. refl)

  nodes_two : (place : ℕ) → node_of two place ≡ node_of one place
  nodes_two = each (λ place s. s.node ≡ node_of one place) one two client (record (socket_at one client) { stage = Connected (Some made) false false }) second refl (λ place apart. refl)

  nodes_three : (place : ℕ) → node_of (after_connect sockets client listener made) place ≡ node_of two place
  nodes_three =
      each (λ place s. s.node ≡ node_of two place) two (after_connect sockets client listener made) listener
      (record (socket_at two listener) { stage = Listening (waiting_of (stage_at sockets listener) ++ made ∷ []) }) third refl (λ place apart. refl)

  -- nobody gets another name
  pub connect_nodes : (place : ℕ) → node_of (after_connect sockets client listener made) place ≡ node_of sockets place
  connect_nodes place = nodes_three place ∙ nodes_two place ∙ nodes_one place

  waits_one : (at place : ℕ) → WaitsFor one at place → WaitsFor sockets at place
  waits_one =
      each (λ at s. (place : ℕ) → Contains (waiting_of s.stage) place → WaitsFor sockets at place) sockets one made (connected_to client) first (λ place among. absurd (omega (arith, among.1)))
      (λ at apart place among. among)

  waits_two : (at place : ℕ) → WaitsFor two at place → WaitsFor sockets at place
  waits_two =
      each (λ at s. (place : ℕ) → Contains (waiting_of s.stage) place → WaitsFor sockets at place) one two client (record (socket_at one client) { stage = Connected (Some made) false false }) second
      (λ place among. absurd (omega (arith, among.1))) (λ at apart place among. waits_one at place among)

  -- and the new one waits beside those that waited
  pub connect_waits : (at place : ℕ) → WaitsFor (after_connect sockets client listener made) at place → WaitsFor sockets at place ⊎ (made ≡ place)
  connect_waits =
      each (λ at s. (place : ℕ) → Contains (waiting_of s.stage) place → WaitsFor sockets at place ⊎ (made ≡ place)) two (after_connect sockets client listener made) listener
      (record (socket_at two listener) { stage = Listening (waiting_of (stage_at sockets listener) ++ made ∷ []) }) third
      (λ place among. elim (Contains-append_cases (waiting_of (stage_at sockets listener)) (made ∷ []) place among) [
        | inl front ↦ inl front
        | inr back ↦ inr (Contains-single made place back)
      ])
      (λ at apart place among. inl (waits_two at place among))

pub connected_names : (files : Files) (client listener made : ℕ) → HaveNames files → sock_at files.sockets made ≡ None → made ≤ length files.sockets → client ≤ length files.sockets → listener ≤ length files.sockets
    → HaveNames (with_sockets files (after_connect files.sockets client listener made))
connected_names files client listener made names free within client_within listener_within =
    names_fewer None files (after_connect files.sockets client listener made) names
    (λ place number is. (sym (nodes place) ∙ is, λ none. none_is none))
    (λ at place waits. elim (connect_waits files.sockets client listener made free within client_within listener_within at place waits) [
      | inl waited ↦ inl waited
      | inr same ↦ inr (nodes place ∙ ap (node_of files.sockets) (sym same) ∙ ap (λ (o : Option Socket). (unwrap_or o new_socket).node) free)
    ])
  where
    nodes : (place : ℕ) → node_of (after_connect files.sockets client listener made) place ≡ node_of files.sockets place
    nodes = connect_nodes files.sockets client listener made free within client_within listener_within
