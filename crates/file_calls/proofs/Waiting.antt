-- An open that waits for the other side of a FIFO: when it blocks, and what it leads to.
use Rattle.std.proofs.Common.{◌≡◌, ℕ, ◌+◌, ◌≤◌, ◌==◌, not, nat_lt, ℤ, pos, Bool, true, false, cond, List, length, Option, None, Some, is_some, Result, Ok, Err, refl, ap, sym, ◌∙◌, subst, arith}
use Rattle.std.specs.Option.{option_and_then}
use Rattle.kabi_types.specs.declared.calls.Call.{Call}
use Rattle.kabi_types.specs.declared.calls.Call.TheVariants as call
use Rattle.kabi_types.specs.declared.errnos.Errno.{Errno}
use Rattle.kabi_types.specs.declared.replies.Reply.TheVariants.{Val}
use Rattle.kabi_types.specs.declared.scripts.Script.{Script}
use Rattle.posix_defs.specs.Account.{account_on, with_frames}
use Rattle.posix_defs.specs.Answer.{Answer, Blocked, replied}
use Rattle.posix_defs.specs.Calls.OnFiles.{end_awaits, end_opened, fifo_fault, fifo_pipe, fifo_waits, is_met, open_again, open_at, open_by, open_end, open_fifo, open_file, open_node, opened_node_as, opening_of}
use Rattle.posix_defs.specs.Calls.Writing.{did_part}
use Rattle.posix_defs.specs.Files.Descriptors.{lowest_free}
use Rattle.posix_defs.specs.Files.State.{HalfOpen, descriptors_of, opening_at, with_opening}
use Rattle.posix_defs.specs.Machine.{blocks}
use Rattle.posix_defs.specs.MemoryCalls.{frames_after}
use Rattle.posix_defs.specs.Needs.{need_of}
use Rattle.posix_defs.specs.Paths.{resolve}
use Rattle.posix_defs.specs.PathCalls.{is_fifo, open_path}
use Rattle.posix_defs.specs.Plain.{Plain, with_files}
use Rattle.posix_defs.specs.Process.{directory_of}
use Rattle.posix_defs.specs.Reaching.{IsLeft, has_succeeded, last_of, name_to_leave}
use Rattle.posix_defs.specs.Tree.{Tree}
use Rattle.posix_defs.specs.World.{Kept, World}
use Rattle.posix_defs.specs.declared.turner.Turned.{Turned}
use Rattle.posix_defs.specs.declared.turner.Turned.TheVariants as turned
use Rattle.store_objects.specs.declared.objects.Objects.{Objects}
use Rattle.store_objects.specs.Standing.{StandsFor, answered_in}
use Rattle.store_objects.specs.Walking.{KeepsOn, Serves, WorldReached}
use Rattle.store_objects.proofs.Leading.{settled_account}
use Rattle.store_objects.proofs.Replies.{GoesOn}

-- ---- which opens block

module _ (script : Script) (plain : Plain) (pid : ℕ) (path : List ℕ) (flags : ℤ) where
  -- one that begins doesn't
  pub begins_on : blocks (open_by script plain pid path flags None) ≡ false
  begins_on = at (lowest_free (descriptors_of plain.files pid))
    where
      end : (fd number : ℕ) (fault : Option Errno) → blocks (open_end script plain pid flags fd number fault) ≡ false
      end fd number (Some errno) = refl
      end fd number None = go (fifo_waits (fifo_pipe plain.files number) flags)
        where
          go : (b : Bool) → blocks (cond b (did_part (with_files plain (end_awaits plain.files pid flags fd number)) pid 1) (replied script (with_files plain (end_opened plain.files pid flags fd number)) pid (Val (pos fd)))) ≡ false
          go true = refl
          go false = refl

      there : (fd : ℕ) (r : Result (ℕ × Tree) Errno) → blocks (opened_node_as script plain pid flags fd r) ≡ false
      there fd (Err errno) = refl
      there fd (Ok found) = go (is_fifo found.1 found.0)
        where
          go : (b : Bool) → blocks (cond b (open_fifo script plain pid flags fd found.0) (open_node script plain pid flags fd found.0 found.1)) ≡ false
          go true = end fd found.0 (fifo_fault (fifo_pipe plain.files found.0) flags)
          go false = refl

      at : (o : Option ℕ) → blocks (open_at script plain pid path flags o) ≡ false
      at None = refl
      at (Some fd) = there fd (open_path plain.files.tree (directory_of plain.table pid) path (opening_of flags))

  -- one that has made its end does where the other side wasn't opened since
  pub waits_on : (opening : HalfOpen) → blocks (open_by script plain pid path flags (Some opening)) ≡ not (is_met plain.files pid opening)
  waits_on opening = go (is_met plain.files pid opening)
    where
      go : (b : Bool) → blocks (cond b (replied script (with_files plain (with_opening plain.files pid None)) pid (Val (pos opening.fd))) Blocked) ≡ not b
      go true = refl
      go false = refl

  pub open_blocks : (o : Option HalfOpen) → o ≡ opening_at plain.files pid → blocks (open_file script plain pid path flags) ≡ blocks (open_by script plain pid path flags o)
  unfolding open_file
  open_blocks o is = ap (λ (it : Option HalfOpen). blocks (open_by script plain pid path flags it)) (sym is)

-- an open is one that begins, or one that waits
pub opens_by : (script : Script) (plain : Plain) (pid : ℕ) (path : List ℕ) (flags : ℤ) (o : Option HalfOpen) → o ≡ opening_at plain.files pid
    → open_by script plain pid path flags o ≡ open_file script plain pid path flags
unfolding open_file
opens_by script plain pid path flags o is = ap (open_by script plain pid path flags) is

-- ---- what an open that waits leads to

-- the world in which a process waits no more
abbrev pub awake_in : World → ℕ → World
awake_in world pid = record world { plain = with_files world.plain (with_opening world.plain.files pid None) }

no_more : (a n : ℕ) → a ≤ a + n
no_more a n = omega arith

no_fewer : (a : ℕ) → a ≤ a
no_fewer a = omega arith

module _ (script : Script) (old : Objects) (pid : ℕ) (path : List ℕ) (flags : ℤ) (opening : HalfOpen)
    (sleeps : (world : World) → StandsFor script old world → opening_at world.plain.files pid ≡ Some opening) where
  abbrev which : Call
  which = call.OpenFile path flags

  -- what is kept stays
  keeps : (world next : World) (told : Turned) → StandsFor script old world → next.kept ≡ world.kept → next.reads ≡ world.reads → KeepsOn world pid which told next
  keeps world next told stands kept reads = record {
    names = subst (λ (k : Kept). length k.names ≤ length world.kept.names + (need_of which).name) (sym kept) (no_more (length world.kept.names) (need_of which).name);
    blocks = subst (λ (k : Kept). length k.blocks ≤ length world.kept.blocks + (need_of which).block) (sym kept) (no_more (length world.kept.blocks) (need_of which).block);
    vnodes = subst (λ (k : Kept). length k.vnodes ≤ length world.kept.vnodes + (need_of which).vnode) (sym kept) (no_more (length world.kept.vnodes) (need_of which).vnode);
    reads = subst (λ n. world.reads ≤ n) (sym reads) (no_fewer world.reads);
    untouched = λ none. (kept, reads);
    left = λ ok. subst (IsLeft next.plain.files.tree next.kept) (sym unnamed) tt;
    known = λ known. reads;
  }
    where
      unnamed : name_to_leave world.plain pid which ≡ None
      unnamed =
          ap (λ (o : Option HalfOpen). option_and_then (λ p. last_of (resolve world.plain.files.tree (directory_of world.plain.table pid) p)) (cond (is_some o) None (Some path))) (sleeps world stands)

  -- it sleeps on
  pub serves_asleep : ((world : World) → StandsFor script old world → is_met world.plain.files pid opening ≡ false)
      → Serves script old pid which (λ plain. open_again script plain pid opening) turned.Sleep old
  serves_asleep met = λ world stands sound alive.
      subst (λ b. WorldReached script old world pid which (cond b (replied script (awake_in world pid).plain pid (Val (pos opening.fd))) Blocked) turned.Sleep) (sym (met world stands))
      (record { next = world; stands = stands; tells = (refl, refl); account = refl; keeps = keeps world world turned.Sleep stands refl refl })

  -- it is over
  pub serves_awake : (mid new : Objects) (told : Turned) → ((world : World) → StandsFor script old world → is_met world.plain.files pid opening ≡ true)
      → ((world : World) → StandsFor script old world → StandsFor script mid (awake_in world pid))
      → told ≡ turned.Done (Val (pos opening.fd)) → GoesOn script mid pid (Val (pos opening.fd)) new
      → Serves script old pid which (λ plain. open_again script plain pid opening) told new
  serves_awake mid new told met wakes tells goes = λ world stands sound alive.
      let next = awake_in world pid in
      subst (λ b. WorldReached script new world pid which (cond b (replied script next.plain pid (Val (pos opening.fd))) Blocked) told) (sym (met world stands))
      (record {
        next = answered_in script next pid (Val (pos opening.fd));
        stands = goes next (wakes world stands);
        tells = (tells, refl);
        account = sym (settled_account script old world stands);
        keeps = keeps world (answered_in script next pid (Val (pos opening.fd))) told stands refl refl;
      })

-- ---- either

-- a call serves as an open where the store has its caller wait so
pub serves_by : (script : Script) (old : Objects) (pid : ℕ) (path : List ℕ) (flags : ℤ) (o : Option HalfOpen) (told : Turned) (new : Objects)
    → ((world : World) → StandsFor script old world → o ≡ opening_at world.plain.files pid)
    → Serves script old pid (call.OpenFile path flags) (λ plain. open_by script plain pid path flags o) told new
    → Serves script old pid (call.OpenFile path flags) (λ plain. open_file script plain pid path flags) told new
serves_by script old pid path flags o told new is does = λ world stands sound alive.
    subst (λ a. WorldReached script new world pid (call.OpenFile path flags) a told) (opens_by script world.plain pid path flags o (is world stands)) (does world stands sound alive)
