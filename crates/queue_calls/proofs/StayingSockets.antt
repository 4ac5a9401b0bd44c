-- No call on sockets without a name changes the tree, which of its nodes are open, or the name of a socket.
use Rattle.std.proofs.Common.{◌≡◌, ◌++◌, ℕ, ℤ, ◌+◌, [], ◌∷◌, length, Option, None, Some, is_some, refl, ◌∙◌}
use Rattle.kabi_types.specs.declared.errnos.Errno.{Errno}
use Rattle.kabi_types.specs.declared.scripts.Script.{Script}
use Rattle.proc_files.proofs.Openings.{all_same}
use Rattle.store_objects.proofs.Leaving.{new_named, nodes_behind, pair_named, same_named, same_opened}
use Rattle.queue_calls.proofs.Staying.{Stay, on_opened}
use Rattle.posix_defs.specs.Answer.{Answer}
use Rattle.posix_defs.specs.Calls.Opened.{Opened}
use Rattle.posix_defs.specs.Calls.OnSockets.{accept, accept_at, accepted, accepted_under, description_of, listen, listen_at, on_socket, paired, paired_under, resocketed, shutdown, shutdown_at, socket, socket_target, socketed, socketed_under, socketpair, unless_fault}
use Rattle.posix_defs.specs.Files.Descriptions.{Target, OnNode, OnPipe, OnSocket}
use Rattle.posix_defs.specs.Files.Descriptors.{Two, lowest_free, two_lowest_free}
use Rattle.posix_defs.specs.Files.State.{descriptors_of, with_sockets}
use Rattle.posix_defs.specs.Plain.{Plain}
use Rattle.posix_defs.specs.Socket.{Accepting, Takes, Waits, Refuses, accept as accept_in, after_shutdown, listen_fault, listening, shutdown_fault, without_first}
use Rattle.posix_defs.specs.Sockets.{Sockets, after_listen, after_shut, socket_at, stage_at}

module _ (script : Script) (plain : Plain) (pid : ℕ) where
  -- one description more, of a socket
  pub socket_stays : Stay plain (socket script plain pid)
  unfolding socket
  socket_stays = by_free (lowest_free (descriptors_of plain.files pid))
    where
      by_free : (o : Option ℕ) → Stay plain (socketed_under script plain pid o)
      by_free None = record { tree = refl; opens = refl; names = λ place. refl }
      by_free (Some fd) = record {
        tree = refl;
        opens = nodes_behind (socketed plain.files pid fd) plain.files plain.files.descriptions (description_of (length plain.files.sockets)) refl
            (all_same (socketed plain.files pid fd) plain.files plain.files.descriptions refl);
        names = new_named plain.files.sockets;
      }

  -- and two more
  pub socketpair_stays : Stay plain (socketpair script plain pid)
  unfolding socketpair
  socketpair_stays = by_free (two_lowest_free (descriptors_of plain.files pid))
    where
      by_free : (o : Option Two) → Stay plain (paired_under script plain pid o)
      by_free None = record { tree = refl; opens = refl; names = λ place. refl }
      by_free (Some two) = record {
        tree = refl;
        opens =
            let files = paired plain.files pid two in
            let one = description_of (length plain.files.sockets) in
            let other = description_of (length plain.files.sockets + 1) in
            nodes_behind files files (plain.files.descriptions ++ Some one ∷ []) other refl (λ at d there. refl)
            ∙ nodes_behind files plain.files plain.files.descriptions one refl (all_same files plain.files plain.files.descriptions refl);
        names = pair_named plain.files.sockets;
      }

  -- what goes by a socket
  by_socket : (fd : ℤ) (answer : Opened → ℕ → Answer) → ((opened : Opened) (place : ℕ) → Stay plain (answer opened place)) → Stay plain (on_socket script plain pid fd answer)
  by_socket fd answer each = on_opened script plain pid fd _ (λ opened is. by_target opened opened.is.target)
    where
      by_target : (opened : Opened) (on : Target) → Stay plain (socket_target script plain pid (answer opened) on)
      by_target opened (OnNode number) = record { tree = refl; opens = refl; names = λ place. refl }
      by_target opened (OnPipe place) = record { tree = refl; opens = refl; names = λ place. refl }
      by_target opened (OnSocket place) = each opened place

  -- and has its faults, or leaves other sockets with the same names
  by_fault : (fault : Option Errno) (sockets : Sockets) → ((place : ℕ) → (socket_at sockets place).node ≡ (socket_at plain.files.sockets place).node)
      → Stay plain (unless_fault script plain pid fault (resocketed script plain pid sockets))
  by_fault None sockets named = record { tree = refl; opens = same_opened plain.files (with_sockets plain.files sockets) refl refl; names = named }
  by_fault (Some errno) sockets named = record { tree = refl; opens = refl; names = λ place. refl }

  pub listen_stays : (fd : ℤ) → Stay plain (listen script plain pid fd)
  unfolding listen
  listen_stays fd =
      by_socket fd (λ opened. listen_at script plain pid)
      (λ opened place. by_fault (listen_fault (socket_at plain.files.sockets place)) (after_listen plain.files.sockets place)
      (same_named plain.files.sockets place (record (socket_at plain.files.sockets place) { stage = listening (stage_at plain.files.sockets place) }) refl))

  pub shutdown_stays : (fd how : ℤ) → Stay plain (shutdown script plain pid fd how)
  unfolding shutdown
  shutdown_stays fd how =
      by_socket fd (λ opened. shutdown_at script plain pid how)
      (λ opened place. by_fault (shutdown_fault (stage_at plain.files.sockets place)) (after_shut plain.files.sockets place how)
      (same_named plain.files.sockets place (after_shutdown (socket_at plain.files.sockets place) how) refl))

  pub accept_stays : (fd : ℤ) → Stay plain (accept script plain pid fd)
  unfolding accept
  accept_stays fd =
      let free = lowest_free (descriptors_of plain.files pid) in
      by_socket fd (accept_at script plain pid free)
      (λ opened place. by_answer place free (accept_in (stage_at plain.files.sockets place) (is_some free) opened.is.nonblock))
    where
      same : Stay plain (accepted_under script plain pid 0 None Waits)
      same = record { tree = refl; opens = refl; names = λ place. refl }

      by_answer : (listener : ℕ) (free : Option ℕ) (told : Accepting) → Stay plain (accepted_under script plain pid listener free told)
      by_answer listener None (Takes taken) = same
      by_answer listener None Waits = same
      by_answer listener None (Refuses errno) = same
      by_answer listener (Some fd) (Takes taken) = record {
        tree = refl;
        opens = nodes_behind (accepted plain.files pid listener fd taken) plain.files plain.files.descriptions (description_of taken) refl
            (all_same (accepted plain.files pid listener fd taken) plain.files plain.files.descriptions refl);
        names =
            same_named plain.files.sockets listener
            (record (socket_at plain.files.sockets listener) { stage = without_first (stage_at plain.files.sockets listener) }) refl;
      }
      by_answer listener (Some fd) Waits = same
      by_answer listener (Some fd) (Refuses errno) = same
