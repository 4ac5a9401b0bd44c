-- A call leads the objects of a store to what it was told.
use Rattle.std.proofs.Common.{◌≡◌, ℕ, refl, sym, subst, ◌∙◌}
use Rattle.kabi_types.specs.declared.calls.Call.{Call}
use Rattle.kabi_types.specs.declared.replies.Reply.{Reply}
use Rattle.kabi_types.specs.declared.scripts.Script.{Script}
use Rattle.kheap_slabs.specs.Heap.{Heap}
use Rattle.open_laws.specs.Placed.{Numbers}
use Rattle.posix_defs.specs.Account.{Account}
use Rattle.posix_defs.specs.Answer.{Answer, Part, replied}
use Rattle.posix_defs.specs.Control.{after_part}
use Rattle.posix_defs.specs.Plain.{Plain, answered, control_of, with_control}
use Rattle.posix_defs.specs.Turn.{account_after, touched}
use Rattle.posix_defs.specs.World.{World}
use Rattle.posix_defs.specs.declared.turner.Turned.{Turned}
use Rattle.posix_defs.specs.declared.turner.Turned.TheVariants as turned
use Rattle.proc_files.specs.Names.{name_of}
use Rattle.proc_numbers.specs.Standing.{IsKept, IsTold, Leads, StandsFor as QueuesStandFor}
use Rattle.store_objects.specs.declared.objects.Objects.{Objects}
use Rattle.store_objects.specs.Standing.{Performs, StandsFor, WorldAfter, answered_in}
use Rattle.store_objects.proofs.Fronts.{settled_after}
use Rattle.store_objects.proofs.Leading.{led_blocked}
use Rattle.store_objects.specs.Told.{behind_in, partly_in}
use Rattle.queue_calls.proofs.Queueing.{LeavesRest, mid, queues_stand, stands_mid}
use Rattle.queue_calls.proofs.Remaining.{Leaves}

-- What was told has been done: behind a call that is over its caller goes on, at a write of which a part was done it stays with
-- that, and at one that would block it stays.
pub record Follows (script : Script) (old : Objects) (pid : ℕ) (Parts : ℕ → Type 0) (told : Turned) (new : Objects) : Type 0 where
  pub done : (reply : Reply) → told ≡ turned.Done reply → (world : World) → StandsFor script old world → StandsFor script new (answered_in script world pid reply)
  pub part : (moved : ℕ) → told ≡ turned.Part moved → Parts moved → (world : World) → StandsFor script old world → StandsFor script new (partly_in world pid moved)
  pub sleeps : told ≡ turned.Sleep → (world : World) → StandsFor script old world → StandsFor script new world

-- so it has where it went on as one whose call is over, if no part was told
pub follows_done : (script : Script) (old : Objects) (pid : ℕ) (Parts : ℕ → Type 0) (told : Turned) (new : Objects)
    → ((world : World) → StandsFor script old world → StandsFor script new (behind_in script world pid told))
    → ((moved : ℕ) → told ≡ turned.Part moved → Parts moved → ⊥) → Follows script old pid Parts told new
follows_done script old pid Parts told new goes whole = record {
  done = λ reply is world stands. subst (λ t. StandsFor script new (behind_in script world pid t)) is (goes world stands);
  part = λ moved is some. absurd (whole moved is some);
  sleeps = λ is world stands. subst (λ t. StandsFor script new (behind_in script world pid t)) is (goes world stands);
}

-- and so it has where a part was told
pub follows_part : (script : Script) (old : Objects) (pid : ℕ) (Parts : ℕ → Type 0) (told : Turned) (new : Objects) (moved : ℕ) → told ≡ turned.Part moved
    → ((world : World) → StandsFor script old world → StandsFor script new (partly_in world pid moved)) → Follows script old pid Parts told new
follows_part script old pid Parts told new moved is goes = record {
  done = λ reply same world stands. absurd (let e : turned.Part moved ≡ turned.Done reply = sym is ∙ same in cc);
  part = λ other same some world stands.
      subst (λ k. StandsFor script new (partly_in world pid k)) (let e : turned.Part moved ≡ turned.Part other = sym is ∙ same in cc) (goes world stands);
  sleeps = λ same world stands. absurd (let e : turned.Part moved ≡ turned.Sleep = sym is ∙ same in cc);
}

-- the parts that were told are among those that the call may do
pub part_told : (script : Script) (plain : Plain) (pid : ℕ) (Parts : ℕ → Type 0) (answer : Answer) (moved : ℕ) (next : Plain)
    → IsTold script plain pid answer (turned.Part moved) next → Leaves Parts plain answer → Parts moved
part_told script plain pid Parts answer moved next is leaves = (subst (Leaves Parts plain) is leaves).0

module _ (script : Script) (old : Objects) (heap : Heap) (kept : IsKept heap old.procs) (rest : LeavesRest old.heap heap) (names : (key : ℕ) → name_of heap.socks key ≡ name_of old.heap.socks key)
    (pid : ℕ) (which : Call) (Parts : ℕ → Type 0) (new : Objects) where
  abbrev between : Objects
  between = mid script old heap kept rest names

  told_world : (world : World) → (stands : StandsFor script old world) → (answer : Answer) (told : Turned) (next : Plain) → IsTold script world.plain pid answer told next
      → QueuesStandFor stands.files.numbers heap old.procs next (account_after world.account world.plain pid which answer)
      → next.controls ≡ world.plain.controls → Leaves Parts world.plain answer → Follows script between pid Parts told new
      → WorldAfter script new world pid which answer told
  told_world world stands answer (turned.Done reply) next is leads controls leaves follows =
      subst (λ a. QueuesStandFor stands.files.numbers heap old.procs next (account_after world.account world.plain pid which a) → Leaves Parts world.plain a
      → WorldAfter script new world pid which a (turned.Done reply)) (sym is)
      (λ leads leaves.
      let account = account_after world.account world.plain pid which (replied script next pid reply) in
      let base : World = record world { plain = next; account = account } in
      record {
        next = answered_in script base pid reply;
        stands = follows.done reply refl base
            (stands_mid script old heap kept rest names world stands next account leads controls
            (record { family = leaves.family; works = leaves.works; nodes = record { tree = leaves.nodes.tree; opens = leaves.nodes.opens; names = leaves.nodes.names }; locks = leaves.locks })
            (settled_after world.plain (answered script next pid reply) (touched world.account pid which reply)));
        tells = (refl, refl);
        account = refl;
        kept = refl;
        reads = refl;
      }) leads leaves
  told_world world stands answer (turned.Part moved) next is leads controls leaves follows =
      subst (λ a. QueuesStandFor stands.files.numbers heap old.procs next (account_after world.account world.plain pid which a) → Leaves Parts world.plain a
      → WorldAfter script new world pid which a (turned.Part moved)) (sym is)
      (λ leads leaves.
      let after : Plain = with_control next pid (after_part (control_of next pid) moved) in
      let account = account_after world.account world.plain pid which (Part moved after) in
      let base : World = record world { plain = next; account = account } in
      record {
        next = partly_in base pid moved;
        stands = follows.part moved refl leaves.0 base
            (stands_mid script old heap kept rest names world stands next account leads controls
            (record { family = leaves.1.family; works = leaves.1.works; nodes = record { tree = leaves.1.nodes.tree; opens = leaves.1.nodes.opens; names = leaves.1.nodes.names }; locks = leaves.1.locks })
            (settled_after world.plain after world.account));
        tells = (refl, refl);
        account = refl;
        kept = refl;
        reads = refl;
      }) leads leaves
  told_world world stands answer turned.Sleep next is leads controls leaves follows =
      subst (λ a. QueuesStandFor stands.files.numbers heap old.procs next (account_after world.account world.plain pid which a)
      → WorldAfter script new world pid which a turned.Sleep) (sym is.0)
      (λ leads.
      led_blocked script new world pid which (follows.sleeps refl world
      (stands_mid script old heap kept rest names world stands world.plain world.account
      (subst (λ plain. QueuesStandFor stands.files.numbers heap old.procs plain world.account) is.1 leads) refl
      (record { family = λ family. family; works = refl; nodes = record { tree = refl; opens = refl; names = λ place. refl }; locks = refl }) stands.files.settled))) leads
  told_world world stands answer (turned.Ended status) next is leads controls leaves follows = absurd is
  told_world world stands answer turned.Gone next is leads controls leaves follows = absurd is

  -- The call leads to what it was told.
  pub performs : (answer : Plain → Answer) (told : Turned)
      → ((numbers : Numbers) (plain : Plain) (account : Account) → QueuesStandFor numbers old.heap old.procs plain account
      → Leads script numbers heap old.procs plain account pid which (answer plain) told)
      → ((world : World) → StandsFor script old world → Leaves Parts world.plain (answer world.plain))
      → Follows script between pid Parts told new → Performs script old pid which answer told new
  performs answer told leads leaves follows = λ world stands alive.
      let led = leads stands.files.numbers world.plain world.account (queues_stand script old world stands) in
      told_world world stands (answer world.plain) told led.next led.told_so led.stands led.controls (leaves world stands) follows
