-- What a read of a pipe leads to.
use Rattle.std.proofs.Common.{◌≡◌, ℕ, ◌<◌, ◌≤◌, ◌==◌, Bool, true, false, cond, min, ltb, ℤ, pos, List, take, length, length-drop, Option, Some, refl, ap, sym, subst, ◌∙◌, arith}
use Rattle.std.proofs.lemmas.Bool.{ltb-true, ltb-false}
use Rattle.std.proofs.lemmas.List.{length-take-le}
use Rattle.kabi_types.specs.declared.errnos.Errno.TheVariants.{EAGAIN}
use Rattle.kabi_types.specs.Arguments.{count_of}
use Rattle.kabi_types.specs.declared.calls.Call.{Call}
use Rattle.kabi_types.specs.declared.calls.Call.TheVariants as call
use Rattle.kabi_types.specs.declared.replies.Reply.TheVariants.{Fail, Val}
use Rattle.kabi_types.specs.declared.scripts.Script.{Script}
use Rattle.kheap_slabs.specs.Purse.{Purse}
use Rattle.kheap_slabs.specs.Heap.{Heap}
use Rattle.kheap_slabs.specs.Owners.{with_space}
use Rattle.pipe_ends.specs.Standing.{StandsFor as PipeStandsFor}
use Rattle.open_laws.specs.Placed.{Numbers}
use Rattle.posix_defs.specs.Account.{Account, front_after}
use Rattle.posix_defs.specs.Answer.{Blocked, failed, replied}
use Rattle.posix_defs.specs.Calls.Reading.{put, read_from_pipe}
use Rattle.posix_defs.specs.Files.State.{with_pipe}
use Rattle.posix_defs.specs.Memory.{after_put, stored}
use Rattle.posix_defs.specs.MemoryCalls.{remembered}
use Rattle.posix_defs.specs.Pipe.{Moving, Moves, Blocks, Fails, Pipe, after_read, not_now, pipe_read}
use Rattle.posix_defs.specs.Plain.{Plain, with_files}
use Rattle.posix_defs.specs.Process.{memory_of, with_memory}
use Rattle.posix_defs.specs.declared.turner.Turned.TheVariants as turned
use Rattle.proc_table.specs.Accounting.{HasAccount}
use Rattle.proc_table.specs.Standing.{IsTable}
use Rattle.proc_table.specs.Table.{TableView}
use Rattle.proc_table.proofs.LawLemmas.{elsewhere_account, elsewhere_table}
use Rattle.proc_numbers.specs.PipeMoving.{ReadsPipe, UnlessMoves, told_read}
use Rattle.proc_numbers.specs.Spaces.{HasSpace}
use Rattle.proc_numbers.specs.Standing.{IsKept, Leads, StandsFor}
use Rattle.proc_numbers.proofs.FrontsMoved.{front_moves}
use Rattle.proc_numbers.proofs.Leading.{leads_nowhere, leads_to_sleep}
use Rattle.proc_numbers.proofs.Remembering.{account_put, fronts_put, kept_put, open_put, space_on, table_put}
use Rattle.proc_numbers.proofs.Settled.{forgotten}
use Rattle.proc_numbers.proofs.Turning.{fronts_turned, kept_turned, open_turned, same_nodes, same_pages, same_procs, spaces_own}
use Rattle.proc_numbers.proofs.Putting.{pipe_there}

module _ (old : Heap) (before : Purse) (new : Heap) (after : Purse) (kept : TableView) (pid : ℕ) (space : List (Option ℕ)) (key start k : ℕ)
    (is : IsKept old kept) (has : HasSpace old kept pid space) (pipe : Pipe) (at : ℕ) (was : PipeStandsFor old key pipe at)
    (reads : ReadsPipe old before new after space key start pipe at k) where
  mid_kept : IsKept reads.mid kept
  mid_kept = kept_turned old reads.mid key reads.others pipe (after_read pipe k) at _ was reads.stands refl refl kept is reads.owned

  mid_space : HasSpace reads.mid kept pid space
  mid_space =
      space_on old reads.mid kept pid space (same_procs old reads.mid key reads.others)
      (λ others owned. (record others { queues = reads.owned.0.queues }, spaces_own old reads.mid key reads.others (with_space space others) owned reads.owned)) has

  pub kept_read : IsKept new kept
  kept_read = kept_put reads.mid before new after kept pid space start (take k pipe.bytes) mid_kept mid_space reads.puts

  module _ (script : Script) (numbers : Numbers) (plain : Plain) (account : Account) (stands : StandsFor numbers old kept plain account) (fd addr count : ℤ)
      (begins : start ≡ count_of addr) (within : k ≤ length pipe.bytes) (some : k ≡ 0 → length pipe.bytes ≡ 0) where
    abbrev place : ℕ
    place = numbers.pipes key

    abbrev which : Call
    which = call.Read fd addr count

    abbrev shorter : Plain
    shorter = with_files plain (with_pipe plain.files place (Some (after_read pipe k)))

    abbrev next : Plain
    next = remembered shorter pid (stored (memory_of plain.table pid) (count_of addr) (take k pipe.bytes))

    took : length (take k pipe.bytes) ≡ k
    took = length-take-le k pipe.bytes within

    pub moved : Leads script numbers new kept plain account pid which (put script shorter pid addr (take k pipe.bytes)) (told_read (Moves k))
    moved =
        let others = reads.others in
        let mid = reads.mid in
        let mid_table = elsewhere_table old mid kept plain.table (same_procs old mid key others) (same_nodes old mid key others) (same_pages old mid key others) stands.table in
        let mid_frames = elsewhere_account old mid kept account.frames (same_procs old mid key others) (same_nodes old mid key others) (same_pages old mid key others) stands.frames in
        let mid_fronts = fronts_turned old mid key others pipe (after_read pipe k) at _ was reads.stands numbers kept plain.files account stands.opened stands.fronts
        (ap (λ n. front_after (length pipe.bytes) n at) (length-drop k pipe.bytes) ∙ front_moves (length pipe.bytes) k at at within some refl) in
        let table = subst (λ a. IsTable new kept (with_memory plain.table pid (stored (memory_of plain.table pid) a (take k pipe.bytes)))) begins
        (table_put mid before new after kept pid space start (take k pipe.bytes) mid_kept mid_space reads.puts plain.table mid_table) in
        let frames = subst (λ a. HasAccount new kept (after_put account.frames pid a (length (take k pipe.bytes)))) begins
        (account_put mid before new after kept pid space start (take k pipe.bytes) mid_kept mid_space reads.puts account.frames mid_frames) in
        record {
          next = next;
          told_so = ap (λ n. replied script next pid (Val (pos n))) took;
          stands = record {
            table = table;
            opened = open_put mid before new after kept pid space start (take k pipe.bytes) mid_kept mid_space reads.puts numbers next.files
                (open_turned old mid key others pipe (after_read pipe k) at _ was reads.stands numbers kept plain.files stands.opened);
            frames = subst (HasAccount new kept) (sym (forgotten new kept next (after_put account.frames pid (count_of addr) (length (take k pipe.bytes))) kept_read.holds table frames)) frames;
            fronts = fronts_put mid before new after kept pid space start (take k pipe.bytes) mid_kept mid_space reads.puts numbers _ _ refl refl mid_fronts;
          };
          controls = refl;
        }

-- what a read moves is there, and nothing only at the end
pub read_moves : (pipe : Pipe) (nonblock : Bool) (n k : ℕ) → 0 < n → pipe_read pipe nonblock n ≡ Moves k → (k ≤ length pipe.bytes) × (k ≡ 0 → length pipe.bytes ≡ 0)
read_moves pipe nonblock n k some is = by_bytes (ltb 0 (length pipe.bytes)) refl is
  where
    moves_so : (a b : ℕ) → Moves a ≡ Moves b → a ≡ b
    moves_so a b e = cc

    waits : (b : Bool) (m : ℕ) → cond b (Fails EAGAIN) Blocks ≡ Moves m → ⊥
    waits true m e = cc
    waits false m e = cc

    ended : (b : Bool) → cond b (Moves 0) (not_now nonblock) ≡ Moves k → k ≡ 0
    ended true e = sym (moves_so 0 k e)
    ended false e = absurd (waits nonblock k e)

    by_bytes : (b : Bool) → ltb 0 (length pipe.bytes) ≡ b → cond b (Moves (min n (length pipe.bytes))) (cond (pipe.writers == 0) (Moves 0) (not_now nonblock)) ≡ Moves k
        → (k ≤ length pipe.bytes) × (k ≡ 0 → length pipe.bytes ≡ 0)
    by_bytes true there e =
        let taken = moves_so (min n (length pipe.bytes)) k e in
        let full = ltb-true 0 (length pipe.bytes) there in
        (omega (arith, taken), λ none. absurd (omega (arith, taken, full, some, none)))
    by_bytes false there e =
        let none = ltb-false 0 (length pipe.bytes) there in
        let taken = ended (pipe.writers == 0) e in
        (omega (arith, taken), λ zero_so. omega (arith, none))

module _ (old : Heap) (before : Purse) (new : Heap) (after : Purse) (kept : TableView) (pid : ℕ) (space : List (Option ℕ)) (key start n : ℕ) (nonblock : Bool)
    (is : IsKept old kept) (has : HasSpace old kept pid space) (pipe : Pipe) (at : ℕ) (was : PipeStandsFor old key pipe at) where
  pub kept_taken : (moving : Moving) → ((k : ℕ) → moving ≡ Moves k → ReadsPipe old before new after space key start pipe at k) → UnlessMoves moving (new ≡ old) → IsKept new kept
  kept_taken (Moves k) reads refused = kept_read old before new after kept pid space key start k is has pipe at was (reads k refl)
  kept_taken Blocks reads refused = subst (λ (h : Heap). IsKept h kept) (sym refused) is
  kept_taken (Fails errno) reads refused = subst (λ (h : Heap). IsKept h kept) (sym refused) is

  module _ (script : Script) (numbers : Numbers) (plain : Plain) (account : Account) (stands : StandsFor numbers old kept plain account) (fd addr count : ℤ)
      (begins : start ≡ count_of addr) (some : 0 < n) where
    -- What a read leads to, by what moves.
    pub leads_taken : (moving : Moving) → pipe_read pipe nonblock n ≡ moving → ((k : ℕ) → moving ≡ Moves k → ReadsPipe old before new after space key start pipe at k)
        → UnlessMoves moving (new ≡ old)
        → Leads script numbers new kept plain account pid (call.Read fd addr count) (read_from_pipe script plain pid (numbers.pipes key) addr moving) (told_read moving)
    leads_taken (Moves k) answer reads refused =
        let within = read_moves pipe nonblock n k some answer in
        subst (λ (p : Pipe). Leads script numbers new kept plain account pid (call.Read fd addr count)
        (put script (with_files plain (with_pipe plain.files (numbers.pipes key) (Some (after_read p k)))) pid addr (take k p.bytes)) (told_read (Moves k)))
        (sym (pipe_there numbers old kept plain.files key pipe at stands.opened was))
        (moved old before new after kept pid space key start k is has pipe at was (reads k refl) script numbers plain account stands fd addr count begins within.0 within.1)
    leads_taken Blocks answer reads refused =
        subst (λ (h : Heap). Leads script numbers h kept plain account pid (call.Read fd addr count) Blocked turned.Sleep) (sym refused)
        (leads_to_sleep script numbers old kept plain account pid (call.Read fd addr count) is stands)
    leads_taken (Fails errno) answer reads refused =
        subst (λ (h : Heap). Leads script numbers h kept plain account pid (call.Read fd addr count) (failed script plain pid errno) (turned.Done (Fail errno))) (sym refused)
        (leads_nowhere script numbers old kept plain account pid (call.Read fd addr count) is stands (Fail errno) refl)
