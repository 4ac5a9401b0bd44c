-- A write that ends its caller, and one that doesn't: that one is answered as who ignores SIGPIPE is.
use Rattle.std.proofs.Common.{◌≡◌, ℕ, ◌-◌, ◌==◌, ◌&&◌, ℤ, pos, Bool, true, false, not, cond, nat_le, Option, None, Some, refl, sym, ap, ◌∙◌}
use Rattle.kabi_types.specs.Arguments.{count_of}
use Rattle.kabi_types.specs.declared.errnos.Errno.TheVariants.{EBADF, EFAULT, ENOTCONN, EPIPE}
use Rattle.kabi_types.specs.declared.replies.Reply.TheVariants.{Val}
use Rattle.kabi_types.specs.declared.scripts.Script.{Script}
use Rattle.posix_defs.specs.Answer.{Answer, Ended, failed, replied}
use Rattle.posix_defs.specs.Ending.{die}
use Rattle.posix_defs.specs.Machine.{blocks}
use Rattle.posix_defs.specs.Memory.{is_mapped_range}
use Rattle.posix_defs.specs.Pipe.{Moving, Moves, Fails, Pipe, free_in, not_now, whole}
use Rattle.posix_defs.specs.Plain.{Plain}
use Rattle.posix_defs.specs.Process.{ignores_of, memory_of}
use Rattle.posix_defs.specs.Signals.{sigpipe}
use Rattle.posix_defs.specs.Socket.{Stage, Idle, Listening, Connected, is_connected}
use Rattle.posix_defs.specs.Sockets.{stage_at, free_at, write_in_stage, write_within}
use Rattle.posix_defs.specs.Files.Descriptions.{Target, OnNode, OnPipe, OnSocket, may_write}
use Rattle.posix_defs.specs.Files.State.{pipe_at}
use Rattle.posix_defs.specs.Calls.Opened.{Opened, answer_on, if_writable, opened_at}
use Rattle.posix_defs.specs.Calls.Reading.{of_bytes}
use Rattle.posix_defs.specs.Calls.Writing.{bytes_left, is_broken, is_unread, is_unread_in, put_in_pipe, put_in_socket, stopped, write, write_ends, write_ignoring, write_queue, write_target}

both_hold : (a b : Bool) → (a && b) ≡ true → (a ≡ true) × (b ≡ true)
both_hold true b e = (refl, e)
both_hold false b e = cc

module _ (script : Script) (plain : Plain) (pid : ℕ) (fd addr n : ℤ) (done : ℕ) where
  -- what holds of who ends, and of what one who goes on is answered, holds of the write
  pub of_write : (P : Answer → Type 0) → (write_ends plain pid fd addr n done ≡ true → P (Ended sigpipe (die plain pid sigpipe)))
      → (write_ends plain pid fd addr n done ≡ false → P (write_ignoring script plain pid fd addr n done)) → P (write script plain pid fd addr n done)
  unfolding write
  of_write P ends goes = go (write_ends plain pid fd addr n done) refl
    where
      go : (b : Bool) → write_ends plain pid fd addr n done ≡ b → P (cond b (Ended sigpipe (die plain pid sigpipe)) (write_ignoring script plain pid fd addr n done))
      go true is = ends is
      go false is = goes is

  pub write_is_ended : write_ends plain pid fd addr n done ≡ true → write script plain pid fd addr n done ≡ Ended sigpipe (die plain pid sigpipe)
  unfolding write
  write_is_ended is = ap (λ b. cond b (Ended sigpipe (die plain pid sigpipe)) (write_ignoring script plain pid fd addr n done)) is

  pub write_goes_on : write_ends plain pid fd addr n done ≡ false → write script plain pid fd addr n done ≡ write_ignoring script plain pid fd addr n done
  unfolding write
  write_goes_on is = ap (λ b. cond b (Ended sigpipe (die plain pid sigpipe)) (write_ignoring script plain pid fd addr n done)) is

  -- who ignores SIGPIPE goes on, and so does who has moved a part
  pub ignoring_goes_on : (ignores_of plain.table pid).broken_pipe ≡ true → write_ends plain pid fd addr n done ≡ false
  ignoring_goes_on ignores = ap (λ b. not b && (done == 0) && is_broken plain pid addr n (opened_at plain.files pid fd)) ignores

  pub ends_by : write_ends plain pid fd addr n done ≡ true
      → (ignores_of plain.table pid).broken_pipe ≡ false × (done == 0) ≡ true × is_broken plain pid addr n (opened_at plain.files pid fd) ≡ true
  ends_by is = go (ignores_of plain.table pid).broken_pipe (done == 0) (is_broken plain pid addr n (opened_at plain.files pid fd)) is
    where
      go : (a b c : Bool) → (not a && b && c) ≡ true → a ≡ false × b ≡ true × c ≡ true
      go true b c e = cc
      go false true c e = (refl, refl, e)
      go false false c e = cc

  -- ---- what nobody reads

  stage_stops : (opened : Opened) (place : ℕ) (stage : Stage) → is_unread_in plain.files.sockets stage ≡ true
      → cond (is_connected stage)
      (write_queue script plain pid opened.is.nonblock (count_of n) done (put_in_socket plain.files place (bytes_left plain pid addr (count_of n) done))
      (write_in_stage plain.files.sockets stage opened.is.nonblock (count_of n - done)))
      (failed script plain pid ENOTCONN)
      ≡ stopped script plain pid done EPIPE
  stage_stops opened place Idle e = cc
  stage_stops opened place (Listening waiting) e = cc
  stage_stops opened place (Connected peer shut_read true) e = refl
  stage_stops opened place (Connected None shut_read false) e = refl
  stage_stops opened place (Connected (Some peer) shut_read false) e =
      ap (λ b. write_queue script plain pid opened.is.nonblock (count_of n) done (put_in_socket plain.files place (bytes_left plain pid addr (count_of n) done))
      (cond b (Fails EPIPE) (write_within (free_at plain.files.sockets peer) opened.is.nonblock (count_of n - done)))) e

  -- what a write of a pipe that has readers comes to
  abbrev piped : Bool → Pipe → Moving
  piped nonblock pipe =
      cond (nat_le (count_of n) whole) (cond (nat_le (count_of n) (free_in pipe)) (Moves (count_of n - done)) (not_now nonblock))
      (cond (nat_le (count_of n - done) (free_in pipe)) (Moves (count_of n - done)) (cond (free_in pipe == 0) (not_now nonblock) (Moves (free_in pipe))))

  target_stops : (opened : Opened) (target : Target) → is_unread plain.files target ≡ true
      → write_target script plain pid opened addr (count_of n) done target ≡ stopped script plain pid done EPIPE
  target_stops opened (OnNode number) e = cc
  target_stops opened (OnPipe place) e =
      ap (λ b. write_queue script plain pid opened.is.nonblock (count_of n) done (put_in_pipe plain.files place (bytes_left plain pid addr (count_of n) done))
      (cond b (Fails EPIPE) (piped opened.is.nonblock (pipe_at plain.files place)))) e
  target_stops opened (OnSocket place) e = stage_stops opened place (stage_at plain.files.sockets place) e

  guarded : (a b c unread : Bool) (rest : Answer) → (a && b && not c && unread) ≡ true → (unread ≡ true → rest ≡ stopped script plain pid done EPIPE)
      → cond a (cond b (cond c (replied script plain pid (Val (pos 0))) rest) (failed script plain pid EFAULT)) (failed script plain pid EBADF)
      ≡ stopped script plain pid done EPIPE
  guarded true true false unread rest e stops = stops e
  guarded true true true unread rest e stops = cc
  guarded true false c unread rest e stops = cc
  guarded false b c unread rest e stops = cc

  -- to who ignores SIGPIPE such a write is what was moved of it, and EPIPE where that is nothing
  pub broken_stops : is_broken plain pid addr n (opened_at plain.files pid fd) ≡ true → write_ignoring script plain pid fd addr n done ≡ stopped script plain pid done EPIPE
  unfolding write_ignoring
  broken_stops is = go (opened_at plain.files pid fd) is
    where
      go : (o : Option Opened) → is_broken plain pid addr n o ≡ true → answer_on script plain pid (λ opened.
          if_writable script plain pid opened (of_bytes script plain pid addr n (write_target script plain pid opened addr (count_of n) done opened.is.target))) o
          ≡ stopped script plain pid done EPIPE
      go None e = cc
      go (Some opened) e = guarded (may_write opened.is.access) (is_mapped_range (memory_of plain.table pid) (count_of addr) (count_of n)) (count_of n == 0)
          (is_unread plain.files opened.is.target) _ e (target_stops opened opened.is.target)

  stopped_goes_on : (b : Bool) → blocks (cond b (failed script plain pid EPIPE) (replied script plain pid (Val (pos done)))) ≡ false
  stopped_goes_on true = refl
  stopped_goes_on false = refl

  -- a write blocks where it would of who ignores SIGPIPE
  pub write_blocks : blocks (write script plain pid fd addr n done) ≡ blocks (write_ignoring script plain pid fd addr n done)
  write_blocks = of_write (λ answer. blocks answer ≡ blocks (write_ignoring script plain pid fd addr n done))
      (λ ends. sym (ap blocks (broken_stops (ends_by ends).2) ∙ stopped_goes_on (done == 0))) (λ goes. refl)
