-- Who listens under the name of a node, and a name that is taken from its socket.
use Rattle.std.proofs.Common.{◌≡◌, ◌≢◌, ◌⊎◌, inl, inr, ℕ, zero, suc, ◌+◌, ◌<◌, ◌&&◌, Bool, true, false, List, [], ◌∷◌, length, Option, None, Some, map, unwrap_or, refl, sym, subst, ap, ◌∙◌, arith}
use Rattle.std.specs.List.{position_from}
use Rattle.std.specs.Option.{option_map}
use Rattle.std.proofs.lemmas.Bool.{cases_lt}
use Rattle.std.proofs.lemmas.Bool.Decides.{eqb_tells}
use Rattle.std.proofs.lemmas.List.{get_or_past}
use Rattle.posix_defs.specs.Socket.{Stage, Idle, Listening, Connected, Socket, new_socket}
use Rattle.posix_defs.specs.Sockets.{Sockets, sock_at, socket_at, stage_at, with_socket, with_name}
use Rattle.posix_defs.specs.SocketLinks.{AreNamedOnce, NamesNone}
use Rattle.posix_defs.specs.Files.State.{is_number}
use Rattle.posix_defs.specs.Files.SocketNames.{listens, listens_at, listener_at, unnamed, none_bound_to}

true_or_false : (b : Bool) → (b ≡ true) ⊎ (b ≡ false)
true_or_false true = inl refl
true_or_false false = inr refl

-- ---- the first that passes a test

found_from : (test : Option Socket → Bool) (from : ℕ) (sockets : Sockets) (place : ℕ) → test None ≡ false → test (sock_at sockets place) ≡ true → ((other : ℕ) → other < place → test (sock_at sockets other) ≡ false) → position_from test from sockets ≡ Some (from + place)
found_from test from [] place none holds before = absurd (cc)
found_from test from (first ∷ rest) zero none holds before = let here : test first ≡ true = holds in rw here (ap Some (omega arith))
found_from test from (first ∷ rest) (suc place) none holds before =
    let fails : test first ≡ false = before 0 (omega arith) in
    let behind = found_from test (from + 1) rest place none holds (λ other lt. before (suc other) (omega arith)) in
    rw fails (behind ∙ ap Some (omega arith))

none_from : (test : Option Socket → Bool) (from : ℕ) (sockets : Sockets) → ((place : ℕ) → test (sock_at sockets place) ≡ false) → position_from test from sockets ≡ None
none_from test from [] fails = refl
none_from test from (first ∷ rest) fails = let here : test first ≡ false = fails 0 in rw here (none_from test (from + 1) rest (λ place. fails (suc place)))

-- where the one that was found stands
record Found (test : Option Socket → Bool) (from : ℕ) (sockets : Sockets) (found : ℕ) : Type 0 where
  place : ℕ
  is : found ≡ from + place
  passes : test (sock_at sockets place) ≡ true

at_from : (test : Option Socket → Bool) (from : ℕ) (sockets : Sockets) (found : ℕ) → position_from test from sockets ≡ Some found → Found test from sockets found
at_from test from [] found is = absurd (cc)
at_from test from (first ∷ rest) found is = elim (true_or_false (test first)) [
  | inl holds ↦ record { place = 0; is = let same : from ≡ found = let it = rw holds at is in cc in omega arith; passes = holds }
  | inr fails ↦ (
      let behind = at_from test (from + 1) rest found (rw fails at is) in
      let further = behind.is in
      record { place = suc behind.place; is = omega (arith, further); passes = behind.passes }
      )
]

-- ---- what listens under a name

is_number_same : (number : ℕ) (node : Option ℕ) → is_number number node ≡ true → node ≡ Some number
is_number_same number None is = absurd (cc)
is_number_same number (Some other) is = elim (eqb_tells other number) [
  | inl (holds, same) ↦ ap Some same
  | inr (fails, differs) ↦ absurd (cc)
]

same_is_number : (number : ℕ) (node : Option ℕ) → node ≡ Some number → is_number number node ≡ true
same_is_number number None is = absurd (cc)
same_is_number number (Some other) is = elim (eqb_tells other number) [
  | inl (holds, same) ↦ holds
  | inr (fails, differs) ↦ absurd (differs (cc))
]

other_is_no_number : (number : ℕ) (node : Option ℕ) → node ≢ Some number → is_number number node ≡ false
other_is_no_number number node differs = elim (true_or_false (is_number number node)) [
  | inl holds ↦ absurd (differs (is_number_same number node holds))
  | inr fails ↦ fails
]

-- what it is that listens: a bound socket, with those that wait for it
pub record Listens (socket : Socket) (number : ℕ) : Type 0 where
  pub bound : socket.node ≡ Some number
  pub waiting : List ℕ
  pub stage : socket.stage ≡ Listening waiting

both : (one other : Bool) → (one && other) ≡ true → (one ≡ true) × (other ≡ true)
both true other is = (refl, is)
both false other is = absurd (cc)

listening_of : (stage : Stage) → listens stage ≡ true → (waiting : List ℕ) × (stage ≡ Listening waiting)
listening_of Idle is = absurd (cc)
listening_of (Listening waiting) is = (waiting, refl)
listening_of (Connected peer shut_read shut_write) is = absurd (cc)

listens_there : (number : ℕ) (held : Option Socket) → listens_at number held ≡ true → Listens (unwrap_or held new_socket) number
listens_there number None is = absurd (cc)
listens_there number (Some socket) is =
    let parts = both (is_number number socket.node) (listens socket.stage) is in
    let stage = listening_of socket.stage parts.1 in
    record { bound = is_number_same number socket.node parts.0; waiting = stage.0; stage = stage.1 }

there_listens : (number : ℕ) (held : Option Socket) (waiting : List ℕ) → (unwrap_or held new_socket).node ≡ Some number → (unwrap_or held new_socket).stage ≡ Listening waiting → listens_at number held ≡ true
there_listens number None waiting bound stage = absurd (cc)
there_listens number (Some socket) waiting bound stage = rw (same_is_number number socket.node bound) (ap listens stage)

pub listener_found : (sockets : Sockets) (place number : ℕ) (waiting : List ℕ) → AreNamedOnce sockets → (socket_at sockets place).node ≡ Some number → stage_at sockets place ≡ Listening waiting → listener_at sockets number ≡ Some place
listener_found sockets place number waiting once bound stage =
    let start : 0 + place ≡ place = omega arith in
    subst (λ at. listener_at sockets number ≡ Some at) start
    (found_from (listens_at number) 0 sockets place refl (there_listens number (sock_at sockets place) waiting bound stage) (λ other lt. elim (true_or_false (listens_at number (sock_at sockets other))) [
      | inl holds ↦ absurd (let same = once.one_socket other place number (listens_there number (sock_at sockets other) holds).bound bound in omega (arith, same))
      | inr fails ↦ fails
    ]))

pub listener_is : (sockets : Sockets) (place number : ℕ) → listener_at sockets number ≡ Some place → Listens (socket_at sockets place) number
listener_is sockets place number is =
    let found = at_from (listens_at number) 0 sockets place is in
    let same : found.place ≡ place = let it = found.is in omega (arith, it) in
    rw same at (listens_there number (sock_at sockets found.place) found.passes)

pub nobody_listens : (sockets : Sockets) (number : ℕ) → NamesNone sockets number → listener_at sockets number ≡ None
nobody_listens sockets number none = none_from (listens_at number) 0 sockets (λ place. elim (true_or_false (listens_at number (sock_at sockets place))) [
  | inl holds ↦ absurd (none place (listens_there number (sock_at sockets place) holds).bound)
  | inr fails ↦ fails
])

-- ---- a name is taken from its socket

map_same : (f : Option Socket → Option Socket) (sockets : Sockets) → ((place : ℕ) → f (sock_at sockets place) ≡ sock_at sockets place) → map f sockets ≡ sockets
map_same f [] same = refl
map_same f (first ∷ rest) same =
    let here : f first ≡ first = same 0 in
    rw (here, map_same f rest (λ place. same (suc place))) refl

map_one : (f : Option Socket → Option Socket) (sockets : Sockets) (place : ℕ) (now : Option Socket) → place < length sockets → f (sock_at sockets place) ≡ now → ((other : ℕ) → other ≢ place → f (sock_at sockets other) ≡ sock_at sockets other) → map f sockets ≡ with_socket sockets place now
map_one f [] place now within is others = absurd (omega arith)
map_one f (first ∷ rest) zero now within is others =
    let here : f first ≡ now = is in
    rw (here, map_same f rest (λ other. others (suc other) (λ same. absurd (omega (arith, same))))) refl
map_one f (first ∷ rest) (suc place) now within is others =
    let here : f first ≡ first = others 0 (λ same. absurd (omega (arith, same))) in
    let behind = map_one f rest place now (omega arith) is (λ other differs. others (suc other) (λ same. differs (omega (arith, same)))) in
    rw (here, behind) refl

map_at : (f : Option Socket → Option Socket) (sockets : Sockets) (place : ℕ) → f None ≡ None → sock_at (map f sockets) place ≡ f (sock_at sockets place)
map_at f [] place none = sym none
map_at f (first ∷ rest) zero none = refl
map_at f (first ∷ rest) (suc place) none = map_at f rest place none

-- one that isn't bound to the node stays as it is
unbound_stays : (number : ℕ) (held : Option Socket) → (unwrap_or held new_socket).node ≢ Some number → option_map (unnamed number) held ≡ held
unbound_stays number None differs = refl
unbound_stays number (Some socket) differs = rw (other_is_no_number number socket.node differs) refl

-- and one that is keeps no name
bound_unnamed : (number : ℕ) (held : Option Socket) → (unwrap_or held new_socket).node ≡ Some number → option_map (unnamed number) held ≡ Some (record (unwrap_or held new_socket) { node = None })
bound_unnamed number None bound = absurd (cc)
bound_unnamed number (Some socket) bound = rw (same_is_number number socket.node bound) refl

bound_within : (sockets : Sockets) (place number : ℕ) → (socket_at sockets place).node ≡ Some number → place < length sockets
bound_within sockets place number bound = elim (cases_lt place (length sockets)) [
  | inl lt ↦ lt
  | inr le ↦ absurd (
      let none : sock_at sockets place ≡ None = get_or_past sockets place None le in
      let unbound : (socket_at sockets place).node ≡ None = ap (λ (held : Option Socket). (unwrap_or held new_socket).node) none in
      cc
      )
]

pub freed_name : (sockets : Sockets) (place number : ℕ) → AreNamedOnce sockets → (socket_at sockets place).node ≡ Some number → none_bound_to sockets number ≡ with_name sockets place None
freed_name sockets place number once bound =
    map_one (option_map (unnamed number)) sockets place (Some (record (socket_at sockets place) { node = None })) (bound_within sockets place number bound) (bound_unnamed number (sock_at sockets place) bound)
    (λ other differs. unbound_stays number (sock_at sockets other) (λ also. differs (once.one_socket other place number also bound)))

pub no_name_to_free : (sockets : Sockets) (number : ℕ) → NamesNone sockets number → none_bound_to sockets number ≡ sockets
no_name_to_free sockets number none = map_same (option_map (unnamed number)) sockets (λ place. unbound_stays number (sock_at sockets place) (none place))

unnamed_is_unbound : (number : ℕ) (held : Option Socket) → (unwrap_or (option_map (unnamed number) held) new_socket).node ≢ Some number
unnamed_is_unbound number None is = cc
unnamed_is_unbound number (Some socket) is = elim (true_or_false (is_number number socket.node)) [
  | inl holds ↦ (let it = rw holds at is in cc)
  | inr fails ↦ (
      let still : socket.node ≡ Some number = rw fails at is in
      let holds = same_is_number number socket.node still in
      cc
      )
]

pub freed_is_nobodys : (sockets : Sockets) (number : ℕ) → NamesNone (none_bound_to sockets number) number
freed_is_nobodys sockets number place is =
    let at = map_at (option_map (unnamed number)) sockets place refl in
    unnamed_is_unbound number (sock_at sockets place) (ap (λ (held : Option Socket). (unwrap_or held new_socket).node) (sym at) ∙ is)

pub freed_once : (sockets : Sockets) (number : ℕ) → AreNamedOnce sockets → AreNamedOnce (none_bound_to sockets number)
freed_once sockets number once = record { one_socket = λ one other name here there. once.one_socket one other name (was one name here) (was other name there) }
  where
    kept : (held : Option Socket) (name : ℕ) → (unwrap_or (option_map (unnamed number) held) new_socket).node ≡ Some name → (unwrap_or held new_socket).node ≡ Some name
    kept None name is = is
    kept (Some socket) name is = elim (true_or_false (is_number number socket.node)) [
      | inl holds ↦ absurd (let it = rw holds at is in cc)
      | inr fails ↦ rw fails at is
    ]

    was : (place name : ℕ) → (socket_at (none_bound_to sockets number) place).node ≡ Some name → (socket_at sockets place).node ≡ Some name
    was place name is = kept (sock_at sockets place) name (ap (λ (held : Option Socket). (unwrap_or held new_socket).node) (sym (map_at (option_map (unnamed number)) sockets place refl)) ∙ is)
