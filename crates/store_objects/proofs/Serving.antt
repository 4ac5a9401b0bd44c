-- A call on files is over, and its caller goes on in the world that its answer reaches.
use Rattle.std.proofs.Common.{◌≡◌, ℕ, ◌+◌, ◌≤◌, true, length, refl, ap, sym, ◌∙◌, subst, arith}
use Rattle.kabi_types.specs.declared.calls.Call.{Call}
use Rattle.kabi_types.specs.declared.scripts.Script.{Script}
use Rattle.kabi_types.specs.declared.replies.Reply.{Reply}
use Rattle.kheap_slabs.specs.Objects.{count}
use Rattle.memfs_ops.specs.FileTree.{Stands}
use Rattle.posix_defs.specs.Answer.{Answer}
use Rattle.posix_defs.specs.Needs.{need_of}
use Rattle.posix_defs.specs.Plain.{Plain}
use Rattle.posix_defs.specs.Process.{is_alive}
use Rattle.posix_defs.specs.Reaching.{has_succeeded}
use Rattle.posix_defs.specs.Turn.{account_after}
use Rattle.posix_defs.specs.World.{World}
use Rattle.posix_defs.specs.declared.turner.Turned.{Turned}
use Rattle.posix_defs.specs.declared.turner.Turned.TheVariants as turned
use Rattle.proc_files.specs.Holders.{holders}
use Rattle.store_objects.specs.declared.objects.Objects.{Objects}
use Rattle.store_objects.specs.Standing.{IsSound, StandsFor, answered_in}
use Rattle.store_objects.specs.Trees.{others_in, pins_in}
use Rattle.store_objects.specs.Walking.{KeepsOn, Serves, WorldReached}
use Rattle.store_objects.proofs.KeptNow.{as_many_blocks, as_many_names, as_many_vnodes}
use Rattle.store_objects.proofs.Replies.{GoesOn}
use Rattle.store_objects.specs.FileMoves.{CachesWithin, FileMoves}
use Rattle.store_objects.specs.FileWorlds.{HasAnswered, LocksFollow, turned_in}
use Rattle.store_objects.proofs.FileMoving.{stands_turned}

-- so many are kept as the heap has
pub few : (new old need kept was : ℕ) → new ≤ old + need → new ≡ kept → old ≡ was → kept ≤ was + need
few new old need kept was within same is = omega arith

pub rises : (world was now : ℕ) → world ≡ was → was ≤ now → world ≤ now
rises world was now same more = omega arith

module _ (script : Script) (old mid new : Objects) (pid : ℕ) (which : Call) (said : Reply) (told : Turned) (within : CachesWithin old mid which) (tells : told ≡ turned.Done said) where
  -- what is kept, and how much was read, has gone on as it may
  keeps : (world : World) (answer : Answer) → StandsFor script old world → (has : HasAnswered script old mid world pid which answer said)
      → KeepsOn world pid which told (answered_in script (turned_in mid has.next (account_after world.account world.plain pid which answer)) pid said)
  keeps world answer stands has =
      let was = stands.tree.stands in
      let now : Stands mid.heap mid.tree has.next.files.tree (holders (others_in has.next) has.next.files) = has.turned.tree in
      let pins = holders (others_in has.next) has.next.files in
      record {
        names = few (count mid.heap.names) (count old.heap.names) (need_of which).name _ _ within.names (as_many_names mid.heap mid.tree has.next.files.tree pins now)
            (as_many_names old.heap old.tree world.plain.files.tree (pins_in world.plain) was ∙ ap (λ k. length k.names) (sym stands.tree.kept));
        blocks = few (count mid.heap.blocks) (count old.heap.blocks) (need_of which).block _ _ within.blocks (as_many_blocks mid.heap mid.tree has.next.files.tree pins now)
            (as_many_blocks old.heap old.tree world.plain.files.tree (pins_in world.plain) was ∙ ap (λ k. length k.blocks) (sym stands.tree.kept));
        vnodes = few (count mid.heap.vnodes) (count old.heap.vnodes) (need_of which).vnode _ _ within.vnodes (as_many_vnodes mid.heap mid.tree has.next.files.tree pins now)
            (as_many_vnodes old.heap old.tree world.plain.files.tree (pins_in world.plain) was ∙ ap (λ k. length k.vnodes) (sym stands.tree.kept));
        reads = rises world.reads old.tree.disk.reads mid.tree.disk.reads stands.tree.reads within.reads;
        untouched = λ none. let same = has.cached.untouched none in (same.0 ∙ sym stands.tree.kept, same.1 ∙ sym stands.tree.reads);
        left = λ ok. has.cached.left (sym (ap has_succeeded tells) ∙ ok);
        known = λ known. has.cached.known known ∙ sym stands.tree.reads;
      }

  -- The store stands for the worlds that the call's answers reach.
  pub serves : (answer : Plain → Answer) → FileMoves old mid → GoesOn script mid pid said new
      → ((world : World) → StandsFor script old world → IsSound world.plain → is_alive world.plain.table pid ≡ true
      → HasAnswered script old mid world pid which (answer world.plain) said) → LocksFollow script old mid pid answer said
      → Serves script old pid which answer told new
  serves answer moves goes on locks = λ world stands sound alive.
      let has = on world stands sound alive in
      let base = turned_in mid has.next (account_after world.account world.plain pid which (answer world.plain)) in
      let between : StandsFor script mid base = stands_turned script old mid world base stands moves has.turned (locks world stands sound has.next has.replies) in
      subst (λ a. WorldReached script new world pid which a told) (sym has.replies)
      (record {
        next = answered_in script base pid said;
        stands = goes base between;
        tells = (tells, refl);
        account = ap (account_after world.account world.plain pid which) has.replies;
        keeps = keeps world (answer world.plain) stands has;
      })
