-- What a write of a pipe leads to.
use Rattle.std.proofs.Common.{◌≡◌, ℕ, ◌+◌, ◌-◌, ◌==◌, ℤ, pos, Bool, true, false, cond, List, take, length, length-append, Option, Some, refl, ap, sym, subst, ◌∙◌, arith}
use Rattle.std.specs.Prelude.{unwrap_or}
use Rattle.kabi_types.specs.declared.calls.Call.{Call}
use Rattle.kabi_types.specs.declared.calls.Call.TheVariants as call
use Rattle.kabi_types.specs.declared.errnos.Errno.{Errno}
use Rattle.kabi_types.specs.declared.replies.Reply.TheVariants.{Fail, Val}
use Rattle.kabi_types.specs.declared.scripts.Script.{Script}
use Rattle.kheap_slabs.specs.Heap.{Heap}
use Rattle.kheap_slabs.specs.Owners.{OwnsItsObjects}
use Rattle.pipe_ends.specs.Standing.{LeavesOthers, StandsFor as PipeStandsFor}
use Rattle.pipe_ends.proofs.StandingLemmas.{stands_for_one}
use Rattle.open_laws.specs.Placed.{Numbers}
use Rattle.posix_defs.specs.Account.{Account, account_on}
use Rattle.posix_defs.specs.Answer.{Blocked, failed, replied}
use Rattle.posix_defs.specs.Calls.Writing.{did_part, put_in_pipe, put_in_queue, stopped, write_queue}
use Rattle.posix_defs.specs.Files.State.{Files, pipe_at, with_pipe}
use Rattle.posix_defs.specs.Pipe.{Moving, Moves, Blocks, Fails, Pipe, after_write, new_pipe}
use Rattle.posix_defs.specs.Plain.{Plain, with_files}
use Rattle.posix_defs.specs.Turn.{account_after}
use Rattle.posix_defs.specs.declared.turner.Turned.TheVariants as turned
use Rattle.proc_numbers.specs.Having.{HaveOpen}
use Rattle.proc_table.specs.Accounting.{HasAccount}
use Rattle.proc_table.specs.Table.{TableView}
use Rattle.proc_table.proofs.LawLemmas.{elsewhere_account, elsewhere_table}
use Rattle.proc_numbers.specs.PipeMoving.{UnlessMoves, moved_in, told_write}
use Rattle.proc_numbers.specs.Standing.{IsKept, IsTold, Leads, StandsFor}
use Rattle.proc_numbers.proofs.FrontsMoved.{empty_pipe, front_stays}
use Rattle.proc_numbers.proofs.Leading.{leads_nowhere, leads_to_sleep}
use Rattle.proc_numbers.proofs.Settled.{forgotten}
use Rattle.proc_numbers.proofs.Turning.{fronts_turned, kept_turned, open_turned, same_nodes, same_pages, same_procs}

-- the pipe of a key is the machine's at its place
pub pipe_there : (numbers : Numbers) (h : Heap) (kept : TableView) (files : Files) (key : ℕ) (pipe : Pipe) (at : ℕ) → HaveOpen numbers h kept files → PipeStandsFor h key pipe at
    → pipe_at files (numbers.pipes key) ≡ pipe
pipe_there numbers h kept files key pipe at have stands =
    let there = have.opened.piped.there key stands.held stands.there in
    let means = have.opened.piped.means key stands.held there.0 stands.there there.1 in
    ap (λ (o : Option Pipe). unwrap_or o new_pipe) there.1 ∙ (stands_for_one h key there.0 pipe means.0 at means.1 stands).0

-- bytes moved: what is told is what is answered, and the account goes on with the machine
told_moved : (script : Script) (plain next : Plain) (pid n done k : ℕ) (all nonblock : Bool)
    → IsTold script plain pid
    (cond all (replied script next pid (Val (pos n))) (cond nonblock (replied script next pid (Val (pos (done + k)))) (did_part next pid k)))
    (cond all (turned.Done (Val (pos n))) (cond nonblock (turned.Done (Val (pos (done + k)))) (turned.Part k))) next
told_moved script plain next pid n done k true nonblock = refl
told_moved script plain next pid n done k false true = refl
told_moved script plain next pid n done k false false = refl

account_moved : (script : Script) (account : Account) (plain next : Plain) (pid : ℕ) (fd addr count : ℤ) (before n done k : ℕ) (all nonblock : Bool)
    → account_after account plain pid (call.Write fd addr count before)
    (cond all (replied script next pid (Val (pos n))) (cond nonblock (replied script next pid (Val (pos (done + k)))) (did_part next pid k)))
    ≡ account_on plain next account
account_moved script account plain next pid fd addr count before n done k true nonblock = refl
account_moved script account plain next pid fd addr count before n done k false true = refl
account_moved script account plain next pid fd addr count before n done k false false = refl

module _ (script : Script) (numbers : Numbers) (old new : Heap) (kept : TableView) (plain : Plain) (account : Account) (pid : ℕ) (fd addr count : ℤ) (before key : ℕ)
    (is : IsKept old kept) (stands : StandsFor numbers old kept plain account) (nonblock : Bool) (n done : ℕ) (bytes : List ℕ) (pipe : Pipe) (at : ℕ)
    (was : PipeStandsFor old key pipe at) where
  abbrev place : ℕ
  place = numbers.pipes key

  abbrev which : Call
  which = call.Write fd addr count before

  -- some bytes went into the pipe
  moved : (k : ℕ) → LeavesOthers old new key → OwnsItsObjects new → PipeStandsFor new key (after_write pipe bytes k) at
      → Leads script numbers new kept plain account pid which
      (put_in_queue script (with_files plain (with_pipe plain.files place (Some (after_write pipe bytes k)))) pid nonblock n done k) (told_write nonblock n done (Moves k))
  moved k others owns now =
      let next : Plain = with_files plain (with_pipe plain.files place (Some (after_write pipe bytes k))) in
      let table = elsewhere_table old new kept plain.table (same_procs old new key others) (same_nodes old new key others) (same_pages old new key others) stands.table in
      let frames = elsewhere_account old new kept account.frames (same_procs old new key others) (same_nodes old new key others) (same_pages old new key others) stands.frames in
      let keeps = kept_turned old new key others pipe (after_write pipe bytes k) at at was now refl refl kept is owns in
      let fronts = fronts_turned old new key others pipe (after_write pipe bytes k) at at was now numbers kept plain.files account stands.opened stands.fronts
      (front_stays (length pipe.bytes) (length (after_write pipe bytes k).bytes) at at
      (let long = length-append pipe.bytes (take k bytes) in omega (arith, long)) refl (empty_pipe new key (after_write pipe bytes k) at now)) in
      record {
        next = next;
        told_so = told_moved script plain next pid n done k (k == n - done) nonblock;
        stands = subst (StandsFor numbers new kept next) (sym (account_moved script account plain next pid fd addr count before n done k (k == n - done) nonblock)) (record {
          table = table;
          opened = open_turned old new key others pipe (after_write pipe bytes k) at at was now numbers kept plain.files stands.opened;
          frames = subst (HasAccount new kept) (sym (forgotten new kept next account.frames keeps.holds table frames)) frames;
          fronts = record { pipes = fronts.pipes; socks = fronts.socks };
        });
        controls = refl;
      }

  -- none did
  stops : (errno : Errno) (b : Bool) → Leads script numbers old kept plain account pid which
      (cond b (failed script plain pid errno) (replied script plain pid (Val (pos done)))) (cond b (turned.Done (Fail errno)) (turned.Done (Val (pos done))))
  stops errno true = leads_nowhere script numbers old kept plain account pid which is stands (Fail errno) refl
  stops errno false = leads_nowhere script numbers old kept plain account pid which is stands (Val (pos done)) refl

  by_moving : (moving : Moving) → LeavesOthers old new key → OwnsItsObjects new → PipeStandsFor new key (after_write pipe bytes (moved_in moving)) at → UnlessMoves moving (new ≡ old)
      → Leads script numbers new kept plain account pid which
      (write_queue script plain pid nonblock n done (λ k. with_pipe plain.files place (Some (after_write pipe bytes k))) moving) (told_write nonblock n done moving)
  by_moving (Moves k) others owns now refused = moved k others owns now
  by_moving Blocks others owns now refused =
      subst (λ (h : Heap). Leads script numbers h kept plain account pid which Blocked turned.Sleep) (sym refused)
      (leads_to_sleep script numbers old kept plain account pid which is stands)
  by_moving (Fails errno) others owns now refused =
      subst (λ (h : Heap). Leads script numbers h kept plain account pid which (stopped script plain pid done errno) (told_write nonblock n done (Fails errno))) (sym refused)
      (stops errno (done == 0))

  -- What a write leads to, by what moves.
  pub leads_written : (moving : Moving) → LeavesOthers old new key → OwnsItsObjects new → PipeStandsFor new key (after_write pipe bytes (moved_in moving)) at
      → UnlessMoves moving (new ≡ old)
      → Leads script numbers new kept plain account pid which
      (write_queue script plain pid nonblock n done (put_in_pipe plain.files place bytes) moving) (told_write nonblock n done moving)
  leads_written moving others owns now refused =
      subst (λ (p : Pipe). Leads script numbers new kept plain account pid which
      (write_queue script plain pid nonblock n done (λ k. with_pipe plain.files place (Some (after_write p bytes k))) moving) (told_write nonblock n done moving))
      (sym (pipe_there numbers old kept plain.files key pipe at stands.opened was)) (by_moving moving others owns now refused)

  pub kept_written : LeavesOthers old new key → OwnsItsObjects new → (k : ℕ) → PipeStandsFor new key (after_write pipe bytes k) at → IsKept new kept
  kept_written others owns k now = kept_turned old new key others pipe (after_write pipe bytes k) at at was now refl refl kept is owns
