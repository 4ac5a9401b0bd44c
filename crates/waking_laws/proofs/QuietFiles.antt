-- Changes of files that leave queues as they are, and of each description all but its offset.
use Rattle.std.proofs.Common.{◌≡◌, ℕ, zero, suc, Bool, true, false, cond, List, [], ◌∷◌, ◌++◌, length, Option, None, Some, map, refl, ap, sym, ◌∙◌, subst, inl, inr, unwrap_or, slice_set}
use Rattle.std.specs.Prelude.{slice_index_or}
use Rattle.std.specs.Option.{option_map}
use Rattle.std.proofs.lemmas.List.{get_or_append_left, get_or-set_same, get_or-set_other}
use Rattle.std.proofs.lemmas.Bool.Decides.{eqb_tells}
use Rattle.machine_laws.proofs.Places.{there_within}
use Rattle.posix_defs.specs.Files.Descriptions.{Description, description_at}
use Rattle.posix_defs.specs.Files.SocketNames.{after_freeing, none_bound_to, unnamed}
use Rattle.posix_defs.specs.Files.State.{Files, described_as, is_number, opened_as, pipe_at, with_pipes}
use Rattle.posix_defs.specs.Pipe.{Pipe, new_pipe}
use Rattle.posix_defs.specs.Socket.{Socket, new_socket}
use Rattle.posix_defs.specs.Sockets.{Sockets, sock_at, socket_at, with_name, with_new, with_socket}
use Rattle.waking_laws.proofs.Seeing.{SameSockets}

-- a description that is open on the same and for the same, and waits or doesn't as before
abbrev pub IsAlike : Description → Description → Type 0
IsAlike was now = (now.target ≡ was.target) × (now.access ≡ was.access) × (now.nonblock ≡ was.nonblock)

-- each description that was there is there still, but for its offset
abbrev pub KeepsDescribed : Files → Files → Type 0
KeepsDescribed old new =
    (place : ℕ) (was : Description) → description_at old.descriptions place ≡ Some was
    → (now : Description) × (description_at new.descriptions place ≡ Some now) × IsAlike was now

-- The same, and pipes, sockets and locks are as they were.
pub record KeepsQueues (old new : Files) : Type 0 where
  pub described : KeepsDescribed old new
  pub pipes : (place : ℕ) → pipe_at new place ≡ pipe_at old place
  pub sockets : SameSockets old.sockets new.sockets
  pub locks : new.locks ≡ old.locks

pub same_sockets : (sockets : Sockets) → SameSockets sockets sockets
same_sockets sockets = record { stage = λ place. refl; bytes = λ place. refl }

pub keeps : (old new : Files) → new.descriptions ≡ old.descriptions → new.pipes ≡ old.pipes → new.locks ≡ old.locks → SameSockets old.sockets new.sockets → KeepsQueues old new
keeps old new descriptions pipes locks sockets = record {
  described = λ place was is. (was, ap (λ list. description_at list place) descriptions ∙ is, (refl, refl, refl));
  pipes = λ place. ap (λ list. unwrap_or (slice_index_or list place None) new_pipe) pipes;
  sockets = sockets;
  locks = locks;
}

pub keeps_on : (old between new : Files) → KeepsQueues old between → KeepsQueues between new → KeepsQueues old new
keeps_on old between new one two = record {
  described = λ place was is.
      let first = one.described place was is in
      let second = two.described place first.0 first.1 in
      (second.0, second.1, (second.2.0 ∙ first.2.0, second.2.1 ∙ first.2.1, second.2.2 ∙ first.2.2));
  pipes = λ place. two.pipes place ∙ one.pipes place;
  sockets = (let before = one.sockets in let behind = two.sockets in record {
    stage = λ place. behind.stage place ∙ before.stage place;
    bytes = λ place. behind.bytes place ∙ before.bytes place;
  });
  locks = two.locks ∙ one.locks;
}

-- ---- descriptions

-- one more is made
pub opens_one : (pid fd : ℕ) (files : Files) (cloexec : Bool) (description : Description) → KeepsQueues files (opened_as files pid fd cloexec description)
opens_one pid fd files cloexec description = record {
  described = λ place was is.
      (was, get_or_append_left files.descriptions (Some description ∷ []) None place (there_within files.descriptions place was is) ∙ is, (refl, refl, refl));
  pipes = λ place. refl;
  sockets = same_sockets files.sockets;
  locks = refl;
}

-- one becomes another that is alike
pub redescribes : (files : Files) (at : ℕ) (was now : Description) → description_at files.descriptions at ≡ Some was → IsAlike was now → KeepsQueues files (described_as files at now)
redescribes files at was now there alike = record {
  described = λ place before is. elim (eqb_tells place at) [
    | inl same ↦ (now, here place same.1, like before (some_of (sym is ∙ ap (description_at files.descriptions) same.1 ∙ there)))
    | inr apart ↦ (before, get_or-set_other files.descriptions at place (Some now) None apart.1 ∙ is, (refl, refl, refl))
  ];
  pipes = λ place. refl;
  sockets = same_sockets files.sockets;
  locks = refl;
}
  where
    some_of : {one other : Description} → Some one ≡ Some other → one ≡ other
    some_of e = cc

    here : (place : ℕ) → place ≡ at → description_at (slice_set files.descriptions at (Some now)) place ≡ Some now
    here place same = ap (description_at (slice_set files.descriptions at (Some now))) same
        ∙ get_or-set_same files.descriptions at (Some now) None (there_within files.descriptions at was there)

    like : (before : Description) → before ≡ was → IsAlike before now
    like before same = subst (λ it. IsAlike it now) (sym same) alike

-- ---- pipes

-- one more is made, which is as one that isn't there
pub pipes_one : (files : Files) → KeepsQueues files (with_pipes files (files.pipes ++ Some new_pipe ∷ []))
pipes_one files = record { described = λ place was is. (was, is, (refl, refl, refl)); pipes = λ place. go files.pipes place; sockets = same_sockets files.sockets; locks = refl }
  where
    go : (pipes : List (Option Pipe)) (place : ℕ) → unwrap_or (slice_index_or (pipes ++ Some new_pipe ∷ []) place None) new_pipe ≡ unwrap_or (slice_index_or pipes place None) new_pipe
    go [] zero = refl
    go [] (suc place) = refl
    go (pipe ∷ pipes) zero = refl
    go (pipe ∷ pipes) (suc place) = go pipes place

-- ---- sockets

-- of two that may be there: as far, with the same bytes
abbrev pub IsAsFar : Option Socket → Option Socket → Type 0
IsAsFar was now = ((unwrap_or now new_socket).stage ≡ (unwrap_or was new_socket).stage) × ((unwrap_or now new_socket).bytes ≡ (unwrap_or was new_socket).bytes)

all_as_far : (old new : Sockets) → ((place : ℕ) → IsAsFar (sock_at old place) (sock_at new place)) → SameSockets old new
all_as_far old new each = record { stage = λ place. (let it = each place in it.0); bytes = λ place. (let it = each place in it.1) }

-- one that is there becomes one that is as far, or a new one is made
set_as_far : (sockets : Sockets) (at : ℕ) (now : Option Socket) → IsAsFar (sock_at sockets at) now → (place : ℕ)
    → IsAsFar (sock_at sockets place) (sock_at (with_socket sockets at now) place)
set_as_far [] at now alike zero = alike
set_as_far [] at now alike (suc place) = (refl, refl)
set_as_far (socket ∷ sockets) zero now alike zero = alike
set_as_far (socket ∷ sockets) zero now alike (suc place) = (refl, refl)
set_as_far (socket ∷ sockets) (suc at) now alike zero = (refl, refl)
set_as_far (socket ∷ sockets) (suc at) now alike (suc place) = set_as_far sockets at now alike place

pub makes_socket : (sockets : Sockets) → SameSockets sockets (with_new sockets (length sockets))
makes_socket sockets = all_as_far sockets (with_new sockets (length sockets)) (set_as_far sockets (length sockets) (Some new_socket) (go sockets))
  where
    go : (sockets : Sockets) → IsAsFar (sock_at sockets (length sockets)) (Some new_socket)
    go [] = (refl, refl)
    go (socket ∷ sockets) = go sockets

pub names_socket : (sockets : Sockets) (at : ℕ) (node : Option ℕ) → SameSockets sockets (with_name sockets at node)
names_socket sockets at node = all_as_far sockets (with_name sockets at node) (set_as_far sockets at (Some (record (socket_at sockets at) { node = node })) (refl, refl))

pub frees_names : (sockets : Sockets) (freed : Option ℕ) → SameSockets sockets (after_freeing sockets freed)
frees_names sockets None = same_sockets sockets
frees_names sockets (Some number) = all_as_far sockets (none_bound_to sockets number) (go sockets)
  where
    one : (b : Bool) (socket : Socket) → IsAsFar (Some socket) (Some (cond b (record socket { node = None }) socket))
    one true socket = (refl, refl)
    one false socket = (refl, refl)

    each : (there : Option Socket) → IsAsFar there (option_map (unnamed number) there)
    each None = (refl, refl)
    each (Some socket) = one (is_number number socket.node) socket

    go : (sockets : Sockets) (place : ℕ) → IsAsFar (sock_at sockets place) (sock_at (map (option_map (unnamed number)) sockets) place)
    go [] place = (refl, refl)
    go (socket ∷ sockets) zero = each socket
    go (socket ∷ sockets) (suc place) = go sockets place
