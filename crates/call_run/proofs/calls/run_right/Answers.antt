use Rattle.std.proofs.Common.{◌+◌, ◌-◌, ◌<◌, ◌∙◌, ◌≡◌, ◌≤◌, ap, arith, le_refl, length, pos, refl, rules, subst, sym, w64}
use Rattle.std.proofs.lemmas.Int.{to_z-of_z}
use mir.Val.{of_z, to_z}
use Rattle.kabi_types.specs.Arguments.{count_of}
use Rattle.kabi_types.specs.declared.calls.Call.TheVariants as call
use Rattle.kabi_types.specs.declared.classes.Need.{Need}
use Rattle.kheap_slabs.specs.Heap.{live_bytes}
use Rattle.kheap_slabs.specs.Purse.{left_bytes}
use Rattle.posix_defs.specs.Needs.{bound, chunks_for, nodes_for, pages_in, pages_touched, slack}
use Rattle.posix_defs.specs.Process.{parent_of}
use Rattle.posix_defs.specs.Sizes.{reserve}
use Rattle.store_objects.proofs.Callers.{caller_lives}
use Rattle.store_objects.proofs.Paying.{uses_more, uses_nothing, uses_paid}
use Rattle.store_objects.proofs.Replies.{does_tell, parent_is}
use Rattle.store_objects.specs.Uses.{UsesAtMost}
use Rattle.call_run.proofs.BytesCached.{cached_that, queue_cached}
use Rattle.call_run.proofs.Breaking.{performs_write, serves_broken}
use Rattle.call_run.proofs.Dispatch.{done_is, named_four, named_one, named_three, named_two, numbered, performs_that, reaches_that, serves_that, spelt_one, spelt_two}
use Rattle.call_run.proofs.Naming.{has_file_need, has_left, has_need, leaf_where, may_fetch, paths_of_it, pays, right_that, room_kept, walks_connecting, walks_one, walks_opening, walks_two}
use Rattle.call_run.proofs.OnFiles.{written_anew}
use Rattle.call_run.specs.Families.{HasHalf, IsOffFiles, IsOnFile, is_moving}
use Rattle.call_run.proofs.calls.run_right.Goals as goal

-- ---- what its number names

pub named_by-named-requires-clause-kept : goal.named_by-named-requires-clause-kept
named_by-named-requires-clause-kept c = (c.args.script.now, c.requires.kept)

-- ---- Getpid

pub returns-in-Getpid-clause-uses : goal.returns-in-Getpid-clause-uses
returns-in-Getpid-clause-uses c = uses_nothing _ _ _ _ c.tell.ensures.takes

pub returns-in-Getpid-clause-does : goal.returns-in-Getpid-clause-does
returns-in-Getpid-clause-does c =
    performs_that c.in-Getpid.is (λ plain. refl)
    (does_tell c.args.script.now c.args.objects.now c.tell.new.objects c.args.caller.now.place.pid call.Getpid (pos c.args.caller.now.place.pid) c.tell.result _ (λ plain. pos c.args.caller.now.place.pid)
    c.tell.ensures.told c.tell.ensures.goes (λ frames. refl)
    (λ world stands. refl) (λ plain. refl))

pub returns-in-Getpid-clause-cached : goal.returns-in-Getpid-clause-cached
returns-in-Getpid-clause-cached c = cached_that _ _ _ _ c.in-Getpid.is tt

-- ---- Getppid

pub returns-in-Getppid-clause-uses : goal.returns-in-Getppid-clause-uses
returns-in-Getppid-clause-uses c = uses_nothing _ _ _ _ c.tell-in-Getppid.ensures.takes

pub returns-in-Getppid-clause-does : goal.returns-in-Getppid-clause-does
returns-in-Getppid-clause-does c =
    let it = c.requires.caller in
    performs_that c.in-Getppid.is (λ plain. refl)
    (does_tell c.args.script.now c.args.objects.now c.tell-in-Getppid.new.objects c.args.caller.now.place.pid call.Getppid (pos c.args.caller.now.parent) c.tell-in-Getppid.result _ (λ plain. pos (parent_of plain.table c.args.caller.now.place.pid))
    c.tell-in-Getppid.ensures.told c.tell-in-Getppid.ensures.goes (λ frames. refl)
    (λ world stands. ap pos (it.parent ∙ sym (parent_is c.args.script.now c.args.objects.now world.plain c.args.caller.now.place.pid it.proc stands.processes it.found))) (λ plain. refl))

pub returns-in-Getppid-clause-cached : goal.returns-in-Getppid-clause-cached
returns-in-Getppid-clause-cached c = cached_that _ _ _ _ c.in-Getppid.is tt

-- ---- SchedYield

pub returns-in-SchedYield-clause-uses : goal.returns-in-SchedYield-clause-uses
returns-in-SchedYield-clause-uses c = uses_nothing _ _ _ _ c.tell-in-SchedYield.ensures.takes

pub returns-in-SchedYield-clause-does : goal.returns-in-SchedYield-clause-does
returns-in-SchedYield-clause-does c =
    performs_that c.in-SchedYield.is (λ plain. refl)
    (does_tell c.args.script.now c.args.objects.now c.tell-in-SchedYield.new.objects c.args.caller.now.place.pid call.SchedYield (pos 0) c.tell-in-SchedYield.result _ (λ plain. pos 0)
    c.tell-in-SchedYield.ensures.told c.tell-in-SchedYield.ensures.goes (λ frames. refl)
    (λ world stands. refl) (λ plain. refl))

pub returns-in-SchedYield-clause-cached : goal.returns-in-SchedYield-clause-cached
returns-in-SchedYield-clause-cached c = cached_that _ _ _ _ c.in-SchedYield.is tt

-- ---- Fork

pub fork-requires-clause-room : goal.fork-requires-clause-room
fork-requires-clause-room c = pays c.args.objects.now.heap c.purse_for-paid.result c.args.call.now (c.purse_for-paid.ensures.within c.args.call.now c.requires.needed) c.requires.room

pub fork-requires-clause-left_proc : goal.fork-requires-clause-left_proc
fork-requires-clause-left_proc c =
    subst (λ (n : Need). 0 < n.proc)
    (sym (has_left c.purse_for-paid.ensures.value (c.target_of-target.ensures.other (ap is_moving c.in-Fork.is)) c.requires.needed c.requires.right c.in-Fork.is)) (omega arith)

pub fork-requires-clause-left_nodes : goal.fork-requires-clause-left_nodes
fork-requires-clause-left_nodes c =
    subst (λ (n : Need). 4 ≤ n.node)
    (sym (has_left c.purse_for-paid.ensures.value (c.target_of-target.ensures.other (ap is_moving c.in-Fork.is)) c.requires.needed c.requires.right c.in-Fork.is)) (omega arith)

pub fork-requires-clause-left_leaves : goal.fork-requires-clause-left_leaves
fork-requires-clause-left_leaves c =
    subst (λ (n : Need). 3 ≤ n.leaf)
    (sym (has_left c.purse_for-paid.ensures.value (c.target_of-target.ensures.other (ap is_moving c.in-Fork.is)) c.requires.needed c.requires.right c.in-Fork.is)) (omega arith)

pub fork-requires-clause-stands : goal.fork-requires-clause-stands
fork-requires-clause-stands c = (c.requires.stands.0, c.requires.stands.1)

pub returns-in-Fork-clause-uses : goal.returns-in-Fork-clause-uses
returns-in-Fork-clause-uses c = uses_paid _ _ _ _ _ _ c.fork.ensures.paid (c.purse_for-paid.ensures.within c.args.call.now c.requires.needed)

pub returns-in-Fork-clause-does : goal.returns-in-Fork-clause-does
returns-in-Fork-clause-does c = performs_that c.in-Fork.is (λ plain. refl) c.fork.ensures.does

pub returns-in-Fork-clause-cached : goal.returns-in-Fork-clause-cached
returns-in-Fork-clause-cached c = cached_that _ _ _ _ c.in-Fork.is tt

-- ---- Exec

pub exec-requires-clause-right : goal.exec-requires-clause-right
exec-requires-clause-right c = right_that c.requires.right (c.in-Exec.is ∙ ap call.Exec (sym c.items.ensures.same))

pub exec-requires-clause-may : goal.exec-requires-clause-may
exec-requires-clause-may c =
    walks_one c.purse_for-paid.ensures.value (c.target_of-target.ensures.other (ap is_moving c.in-Exec.is)) c.requires.needed c.requires.right
    (c.in-Exec.is ∙ ap call.Exec (sym c.items.ensures.same)) refl c.requires.room

pub exec-requires-clause-needed : goal.exec-requires-clause-needed
exec-requires-clause-needed c =
    has_need c.purse_for-paid.ensures.value (c.target_of-target.ensures.other (ap is_moving c.in-Exec.is)) c.requires.needed c.requires.right
    (c.in-Exec.is ∙ ap call.Exec (sym c.items.ensures.same)) refl

pub exec-requires-clause-room : goal.exec-requires-clause-room
exec-requires-clause-room c =
    subst (λ w. live_bytes c.args.objects.now.heap + bound w + reserve ≤ c.args.objects.now.heap.heap) (c.in-Exec.is ∙ ap call.Exec (sym c.items.ensures.same)) c.requires.room

pub returns-in-Exec-clause-uses : goal.returns-in-Exec-clause-uses
returns-in-Exec-clause-uses c =
    subst (λ w. UsesAtMost c.args.objects.now.heap c.exec.new.objects.heap (bound w) (slack w)) (sym (c.in-Exec.is ∙ ap call.Exec (sym c.items.ensures.same))) c.exec.ensures.uses

pub returns-in-Exec-clause-does : goal.returns-in-Exec-clause-does
returns-in-Exec-clause-does c = serves_that (c.in-Exec.is ∙ ap call.Exec (sym c.items.ensures.same)) c.exec.ensures.does

pub returns-in-Exec-clause-cached : goal.returns-in-Exec-clause-cached
returns-in-Exec-clause-cached c = cached_that _ _ _ _ c.in-Exec.is tt

-- ---- Exit

pub exit-requires-clause-stands : goal.exit-requires-clause-stands
exit-requires-clause-stands c = (c.args.script.now, c.requires.stands.0, c.requires.stands.1, c.requires.stands.2)

pub exit-requires-clause-room : goal.exit-requires-clause-room
exit-requires-clause-room c = room_kept c.args.objects.now.heap c.args.call.now c.requires.room

pub returns-in-Exit-clause-uses : goal.returns-in-Exit-clause-uses
returns-in-Exit-clause-uses c =
    uses_more _ _ _ _ (subst (λ which. UsesAtMost c.args.objects.now.heap c.exit.new.objects.heap 0 (slack which)) (sym c.in-Exit.is) c.exit.ensures.uses)

pub returns-in-Exit-clause-kept : goal.returns-in-Exit-clause-kept
returns-in-Exit-clause-kept c = c.exit.ensures.kept c.args.script.now c.requires.kept

pub returns-in-Exit-clause-does : goal.returns-in-Exit-clause-does
returns-in-Exit-clause-does c = serves_that (spelt_one call.Exit c.in-Exit.is (search (rules, to_z-of_z))) (c.exit.ensures.does c.args.script.now)

pub returns-in-Exit-clause-cached : goal.returns-in-Exit-clause-cached
returns-in-Exit-clause-cached c = cached_that _ _ _ _ c.in-Exit.is tt

-- ---- Waitpid

pub returns-in-Waitpid-clause-uses : goal.returns-in-Waitpid-clause-uses
returns-in-Waitpid-clause-uses c = uses_nothing _ _ _ _ c.wait.ensures.takes

pub returns-in-Waitpid-clause-does : goal.returns-in-Waitpid-clause-does
returns-in-Waitpid-clause-does c =
    performs_that (spelt_two call.Waitpid c.in-Waitpid.is (search (rules, to_z-of_z)) (search (rules, to_z-of_z))) (λ plain. refl) c.wait.ensures.does

pub returns-in-Waitpid-clause-cached : goal.returns-in-Waitpid-clause-cached
returns-in-Waitpid-clause-cached c = cached_that _ _ _ _ c.in-Waitpid.is tt

-- ---- Kill

pub signal_process-requires-clause-right : goal.signal_process-requires-clause-right
signal_process-requires-clause-right c =
    right_that c.requires.right (spelt_two call.Kill c.in-Kill.is (search (rules, to_z-of_z)) (search (rules, to_z-of_z)))

pub signal_process-requires-clause-room : goal.signal_process-requires-clause-room
signal_process-requires-clause-room c = room_kept c.args.objects.now.heap c.args.call.now c.requires.room

pub returns-in-Kill-clause-uses : goal.returns-in-Kill-clause-uses
returns-in-Kill-clause-uses c =
    uses_more _ _ _ _ (subst (λ which. UsesAtMost c.args.objects.now.heap c.signal_process.new.objects.heap 0 (slack which)) (sym c.in-Kill.is) c.signal_process.ensures.uses)

pub returns-in-Kill-clause-does : goal.returns-in-Kill-clause-does
returns-in-Kill-clause-does c =
    serves_that (spelt_two call.Kill c.in-Kill.is (search (rules, to_z-of_z)) (search (rules, to_z-of_z))) c.signal_process.ensures.does

pub returns-in-Kill-clause-cached : goal.returns-in-Kill-clause-cached
returns-in-Kill-clause-cached c = cached_that _ _ _ _ c.in-Kill.is tt

-- ---- Mmap

pub mmap-requires-clause-room : goal.mmap-requires-clause-room
mmap-requires-clause-room c = pays c.args.objects.now.heap c.purse_for-paid.result c.args.call.now (c.purse_for-paid.ensures.within c.args.call.now c.requires.needed) c.requires.room

pub mmap-requires-clause-left : goal.mmap-requires-clause-left
mmap-requires-clause-left c =
    let length : to_z w64 (of_z w64 c.in-Mmap.length) ≡ c.in-Mmap.length = search (rules, to_z-of_z) in
    subst (λ z. nodes_for (pages_in (count_of z)) ≤ c.purse_for-paid.result.left.node) (sym length)
    (subst (λ (n : Need). nodes_for (pages_in (count_of c.in-Mmap.length)) ≤ n.node)
    (sym (has_left c.purse_for-paid.ensures.value (c.target_of-target.ensures.other (ap is_moving c.in-Mmap.is)) c.requires.needed c.requires.right c.in-Mmap.is)) (le_refl _))

pub returns-in-Mmap-clause-uses : goal.returns-in-Mmap-clause-uses
returns-in-Mmap-clause-uses c = uses_paid _ _ _ _ _ _ c.mmap.ensures.paid (c.purse_for-paid.ensures.within c.args.call.now c.requires.needed)

pub returns-in-Mmap-clause-does : goal.returns-in-Mmap-clause-does
returns-in-Mmap-clause-does c = performs_that (spelt_one call.Mmap c.in-Mmap.is (search (rules, to_z-of_z))) (λ plain. refl) c.mmap.ensures.does

pub returns-in-Mmap-clause-cached : goal.returns-in-Mmap-clause-cached
returns-in-Mmap-clause-cached c = cached_that _ _ _ _ c.in-Mmap.is tt

-- ---- Munmap

pub returns-in-Munmap-clause-uses : goal.returns-in-Munmap-clause-uses
returns-in-Munmap-clause-uses c = uses_nothing _ _ _ _ c.munmap.ensures.takes

pub returns-in-Munmap-clause-does : goal.returns-in-Munmap-clause-does
returns-in-Munmap-clause-does c =
    performs_that (spelt_two call.Munmap c.in-Munmap.is (search (rules, to_z-of_z)) (search (rules, to_z-of_z))) (λ plain. refl) c.munmap.ensures.does

pub returns-in-Munmap-clause-cached : goal.returns-in-Munmap-clause-cached
returns-in-Munmap-clause-cached c = cached_that _ _ _ _ c.in-Munmap.is tt

-- ---- Store

pub store-requires-clause-room : goal.store-requires-clause-room
store-requires-clause-room c = pays c.args.objects.now.heap c.purse_for-paid.result c.args.call.now (c.purse_for-paid.ensures.within c.args.call.now c.requires.needed) c.requires.room

pub store-requires-clause-left : goal.store-requires-clause-left
store-requires-clause-left c =
    let addr : to_z w64 (of_z w64 c.in-Store.addr) ≡ c.in-Store.addr = search (rules, to_z-of_z) in
    subst (λ z. pages_touched (count_of z) (length c.in-Store.bytes) ≤ c.purse_for-paid.result.left.page) (sym addr)
    (subst (λ (n : Need). pages_touched (count_of c.in-Store.addr) (length c.in-Store.bytes) ≤ n.page)
    (sym (has_left c.purse_for-paid.ensures.value (c.target_of-target.ensures.other (ap is_moving c.in-Store.is)) c.requires.needed c.requires.right c.in-Store.is)) (le_refl _))

pub returns-in-Store-clause-uses : goal.returns-in-Store-clause-uses
returns-in-Store-clause-uses c = uses_paid _ _ _ _ _ _ c.store.ensures.paid (c.purse_for-paid.ensures.within c.args.call.now c.requires.needed)

pub returns-in-Store-clause-does : goal.returns-in-Store-clause-does
returns-in-Store-clause-does c =
    performs_that (spelt_one (λ z. call.Store z c.in-Store.bytes) c.in-Store.is (search (rules, to_z-of_z))) (λ plain. refl) c.store.ensures.does

pub returns-in-Store-clause-cached : goal.returns-in-Store-clause-cached
returns-in-Store-clause-cached c = cached_that _ _ _ _ c.in-Store.is tt

-- ---- Load

pub returns-in-Load-clause-uses : goal.returns-in-Load-clause-uses
returns-in-Load-clause-uses c = uses_nothing _ _ _ _ c.load.ensures.takes

pub returns-in-Load-clause-does : goal.returns-in-Load-clause-does
returns-in-Load-clause-does c =
    performs_that (spelt_two call.Load c.in-Load.is (search (rules, to_z-of_z)) (search (rules, to_z-of_z))) (λ plain. refl) c.load.ensures.does

pub returns-in-Load-clause-cached : goal.returns-in-Load-clause-cached
returns-in-Load-clause-cached c = cached_that _ _ _ _ c.in-Load.is tt

-- ---- OpenFile

pub open-requires-clause-right : goal.open-requires-clause-right
open-requires-clause-right c =
    right_that c.requires.right (spelt_one (call.OpenFile c.in-OpenFile.path) c.in-OpenFile.is (search (rules, to_z-of_z)) ∙ ap (λ p. call.OpenFile p (to_z w64 (of_z w64 c.in-OpenFile.flags))) (sym c.items-in-OpenFile.ensures.same))

pub open-requires-clause-may : goal.open-requires-clause-may
open-requires-clause-may c =
    walks_opening c.purse_for-paid.ensures.value (c.target_of-target.ensures.other (ap is_moving c.in-OpenFile.is)) c.requires.needed c.requires.right
    (spelt_one (call.OpenFile c.in-OpenFile.path) c.in-OpenFile.is (search (rules, to_z-of_z)) ∙ ap (λ p. call.OpenFile p (to_z w64 (of_z w64 c.in-OpenFile.flags))) (sym c.items-in-OpenFile.ensures.same)) refl c.requires.room

pub open-requires-clause-needed : goal.open-requires-clause-needed
open-requires-clause-needed c =
    has_need c.purse_for-paid.ensures.value (c.target_of-target.ensures.other (ap is_moving c.in-OpenFile.is)) c.requires.needed c.requires.right
    (spelt_one (call.OpenFile c.in-OpenFile.path) c.in-OpenFile.is (search (rules, to_z-of_z)) ∙ ap (λ p. call.OpenFile p (to_z w64 (of_z w64 c.in-OpenFile.flags))) (sym c.items-in-OpenFile.ensures.same)) refl

pub open-requires-clause-bytes : goal.open-requires-clause-bytes
open-requires-clause-bytes c =
    let paths = paths_of_it (spelt_one (call.OpenFile c.in-OpenFile.path) c.in-OpenFile.is (search (rules, to_z-of_z)) ∙ ap (λ p. call.OpenFile p (to_z w64 (of_z w64 c.in-OpenFile.flags))) (sym c.items-in-OpenFile.ensures.same)) c.requires.paths in paths.0

pub open-requires-clause-begins : goal.open-requires-clause-begins
open-requires-clause-begins c =
    let half = c.requires.half in
    (half.0, half.1, subst (λ w. HasHalf half.0.plain.files c.args.caller.now.place.pid w c.args.caller.now.control.done) c.in-OpenFile.is half.2)

pub returns-in-OpenFile-clause-uses : goal.returns-in-OpenFile-clause-uses
returns-in-OpenFile-clause-uses c = uses_paid _ _ _ _ _ _ c.open.ensures.paid (c.purse_for-paid.ensures.within c.args.call.now c.requires.needed)

pub returns-in-OpenFile-clause-does : goal.returns-in-OpenFile-clause-does
returns-in-OpenFile-clause-does c =
    serves_that (spelt_one (call.OpenFile c.in-OpenFile.path) c.in-OpenFile.is (search (rules, to_z-of_z)) ∙ ap (λ p. call.OpenFile p (to_z w64 (of_z w64 c.in-OpenFile.flags))) (sym c.items-in-OpenFile.ensures.same)) c.open.ensures.does

pub returns-in-OpenFile-clause-cached : goal.returns-in-OpenFile-clause-cached
returns-in-OpenFile-clause-cached c = cached_that _ _ _ _ c.in-OpenFile.is tt

-- ---- Close

pub close-requires-clause-room : goal.close-requires-clause-room
close-requires-clause-room c = room_kept c.args.objects.now.heap c.args.call.now c.requires.room

pub returns-in-Close-clause-uses : goal.returns-in-Close-clause-uses
returns-in-Close-clause-uses c =
    uses_more _ _ _ _ (subst (λ which. UsesAtMost c.args.objects.now.heap c.close.new.objects.heap 0 (slack which)) (sym c.in-Close.is) c.close.ensures.uses)

pub returns-in-Close-clause-does : goal.returns-in-Close-clause-does
returns-in-Close-clause-does c = serves_that (named_one c.named_by-named.ensures.number call.Close c.in-Close.is refl) c.close.ensures.does

pub returns-in-Close-clause-cached : goal.returns-in-Close-clause-cached
returns-in-Close-clause-cached c = cached_that _ _ _ _ c.in-Close.is tt

-- ---- Dup

pub dup-requires-clause-room : goal.dup-requires-clause-room
dup-requires-clause-room c = pays c.args.objects.now.heap c.purse_for-paid.result c.args.call.now (c.purse_for-paid.ensures.within c.args.call.now c.requires.needed) c.requires.room

pub dup-requires-clause-left_leaf : goal.dup-requires-clause-left_leaf
dup-requires-clause-left_leaf c =
    subst (λ (n : Need). 0 < n.leaf)
    (sym (has_left c.purse_for-paid.ensures.value (c.target_of-target.ensures.other (ap is_moving c.in-Dup.is)) c.requires.needed c.requires.right c.in-Dup.is)) (omega arith)

pub returns-in-Dup-clause-uses : goal.returns-in-Dup-clause-uses
returns-in-Dup-clause-uses c = uses_paid _ _ _ _ _ _ c.dup.ensures.paid (c.purse_for-paid.ensures.within c.args.call.now c.requires.needed)

pub returns-in-Dup-clause-does : goal.returns-in-Dup-clause-does
returns-in-Dup-clause-does c = performs_that (named_one c.named_by-named.ensures.number call.Dup c.in-Dup.is refl) (λ plain. refl) c.dup.ensures.does

pub returns-in-Dup-clause-cached : goal.returns-in-Dup-clause-cached
returns-in-Dup-clause-cached c = cached_that _ _ _ _ c.in-Dup.is tt

-- ---- Dup2

pub dup2-requires-clause-pays : goal.dup2-requires-clause-pays
dup2-requires-clause-pays c = pays c.args.objects.now.heap c.purse_for-paid.result c.args.call.now (c.purse_for-paid.ensures.within c.args.call.now c.requires.needed) c.requires.room

pub dup2-requires-clause-paid_by : goal.dup2-requires-clause-paid_by
dup2-requires-clause-paid_by c =
    subst (λ w. left_bytes c.purse_for-paid.result ≤ bound w) (named_two c.named_by-named.ensures.number call.Dup2 c.in-Dup2.is refl (search (rules, to_z-of_z)))
    (c.purse_for-paid.ensures.within c.args.call.now c.requires.needed)

pub dup2-requires-clause-room : goal.dup2-requires-clause-room
dup2-requires-clause-room c =
    subst (λ w. live_bytes c.args.objects.now.heap + bound w + reserve ≤ c.args.objects.now.heap.heap) (named_two c.named_by-named.ensures.number call.Dup2 c.in-Dup2.is refl (search (rules, to_z-of_z))) c.requires.room

pub dup2-requires-clause-left_leaf : goal.dup2-requires-clause-left_leaf
dup2-requires-clause-left_leaf c =
    subst (λ (n : Need). 0 < n.leaf)
    (sym (has_left c.purse_for-paid.ensures.value (c.target_of-target.ensures.other (ap is_moving c.in-Dup2.is)) c.requires.needed c.requires.right c.in-Dup2.is)) (omega arith)

pub returns-in-Dup2-clause-uses : goal.returns-in-Dup2-clause-uses
returns-in-Dup2-clause-uses c =
    subst (λ w. UsesAtMost c.args.objects.now.heap c.dup2.new.objects.heap (bound w) (slack w)) (sym (named_two c.named_by-named.ensures.number call.Dup2 c.in-Dup2.is refl (search (rules, to_z-of_z)))) c.dup2.ensures.uses

pub returns-in-Dup2-clause-does : goal.returns-in-Dup2-clause-does
returns-in-Dup2-clause-does c = serves_that (named_two c.named_by-named.ensures.number call.Dup2 c.in-Dup2.is refl (search (rules, to_z-of_z))) c.dup2.ensures.does

pub returns-in-Dup2-clause-cached : goal.returns-in-Dup2-clause-cached
returns-in-Dup2-clause-cached c = cached_that _ _ _ _ c.in-Dup2.is tt

-- ---- Fcntl

pub fcntl-requires-clause-room : goal.fcntl-requires-clause-room
fcntl-requires-clause-room c = pays c.args.objects.now.heap c.purse_for-paid.result c.args.call.now (c.purse_for-paid.ensures.within c.args.call.now c.requires.needed) c.requires.room

pub fcntl-requires-clause-left_leaf : goal.fcntl-requires-clause-left_leaf
fcntl-requires-clause-left_leaf c none =
    let cmd : to_z w64 (of_z w64 c.in-Fcntl.cmd) ≡ c.in-Fcntl.cmd = search (rules, to_z-of_z) in
    subst (λ (n : Need). 0 < n.leaf)
    (sym (has_left c.purse_for-paid.ensures.value (c.target_of-target.ensures.other (ap is_moving c.in-Fcntl.is)) c.requires.needed c.requires.right c.in-Fcntl.is))
    (leaf_where c.in-Fcntl.fd c.in-Fcntl.cmd c.in-Fcntl.arg (right_that c.requires.right c.in-Fcntl.is) (subst (λ z. count_of z ≡ 0) cmd none))

pub returns-in-Fcntl-clause-uses : goal.returns-in-Fcntl-clause-uses
returns-in-Fcntl-clause-uses c = uses_paid _ _ _ _ _ _ c.fcntl.ensures.paid (c.purse_for-paid.ensures.within c.args.call.now c.requires.needed)

pub returns-in-Fcntl-clause-does : goal.returns-in-Fcntl-clause-does
returns-in-Fcntl-clause-does c =
    performs_that (named_three c.named_by-named.ensures.number call.Fcntl c.in-Fcntl.is refl (search (rules, to_z-of_z)) (search (rules, to_z-of_z))) (λ plain. refl) c.fcntl.ensures.does

pub returns-in-Fcntl-clause-cached : goal.returns-in-Fcntl-clause-cached
returns-in-Fcntl-clause-cached c = cached_that _ _ _ _ c.in-Fcntl.is tt

-- ---- Read of a file

pub read-requires-clause-right : goal.read-requires-clause-right
read-requires-clause-right c =
    right_that c.requires.right (named_three c.named_by-named.ensures.number call.Read c.in-Read.is refl (search (rules, to_z-of_z)) (search (rules, to_z-of_z)))

pub read-requires-clause-may : goal.read-requires-clause-may
read-requires-clause-may c =
    may_fetch c.purse_for-paid.ensures.value c.in-File.is c.requires.needed c.requires.right
    (named_three c.named_by-named.ensures.number call.Read c.in-Read.is refl (search (rules, to_z-of_z)) (search (rules, to_z-of_z))) refl c.requires.room

pub read-requires-clause-needed : goal.read-requires-clause-needed
read-requires-clause-needed c =
    has_file_need c.purse_for-paid.ensures.value c.in-File.is c.requires.needed c.requires.right
    (named_three c.named_by-named.ensures.number call.Read c.in-Read.is refl (search (rules, to_z-of_z)) (search (rules, to_z-of_z)))

pub read-requires-clause-on : goal.read-requires-clause-on
read-requires-clause-on c =
    subst (IsOnFile c.args.objects.now.heap c.args.objects.now.procs c.args.caller.now.place.pid) (named_three c.named_by-named.ensures.number call.Read c.in-Read.is refl (search (rules, to_z-of_z)) (search (rules, to_z-of_z))) (c.target_of-target.ensures.on _ _ _ c.named_by-named.ensures.opened (numbered c.named_by-named.ensures.number c.in-Read.is refl) c.in-File.is)

pub returns-in-File-clause-uses : goal.returns-in-File-clause-uses
returns-in-File-clause-uses c = uses_paid _ _ _ _ _ _ c.read.ensures.paid (c.purse_for-paid.ensures.within c.args.call.now c.requires.needed)

pub returns-in-File-clause-does : goal.returns-in-File-clause-does
returns-in-File-clause-does c =
    serves_that (named_three c.named_by-named.ensures.number call.Read c.in-Read.is refl (search (rules, to_z-of_z)) (search (rules, to_z-of_z))) c.read.ensures.does

pub returns-in-File-clause-cached : goal.returns-in-File-clause-cached
returns-in-File-clause-cached c =
    cached_that _ _ _ _ (named_three c.named_by-named.ensures.number call.Read c.in-Read.is refl (search (rules, to_z-of_z)) (search (rules, to_z-of_z))) c.read.ensures.cached

-- ---- Read of a queue

pub read-requires-in-Queue-clause-room : goal.read-requires-in-Queue-clause-room
read-requires-in-Queue-clause-room c = pays c.args.objects.now.heap c.purse_for-paid.result c.args.call.now (c.purse_for-paid.ensures.within c.args.call.now c.requires.needed) c.requires.room

pub read-requires-in-Queue-clause-left : goal.read-requires-in-Queue-clause-left
read-requires-in-Queue-clause-left c =
    let addr : to_z w64 (of_z w64 c.in-Read.addr) ≡ c.in-Read.addr = search (rules, to_z-of_z) in
    let n : to_z w64 (of_z w64 c.in-Read.n) ≡ c.in-Read.n = search (rules, to_z-of_z) in
    subst (λ z. pages_touched (count_of z) (count_of (to_z w64 (of_z w64 c.in-Read.n))) ≤ c.purse_for-paid.result.left.page) (sym addr)
    (subst (λ z. pages_touched (count_of c.in-Read.addr) (count_of z) ≤ c.purse_for-paid.result.left.page) (sym n)
    (subst (λ (need : Need). pages_touched (count_of c.in-Read.addr) (count_of c.in-Read.n) ≤ need.page)
    (sym (has_left c.purse_for-paid.ensures.value c.in-Queue.is c.requires.needed c.requires.right c.in-Read.is)) (le_refl _)))

pub read-requires-in-Queue-clause-off : goal.read-requires-in-Queue-clause-off
read-requires-in-Queue-clause-off c =
    subst (IsOffFiles c.args.objects.now.heap c.args.objects.now.procs c.args.caller.now.place.pid) (named_three c.named_by-named.ensures.number call.Read c.in-Read.is refl (search (rules, to_z-of_z)) (search (rules, to_z-of_z))) (c.target_of-target.ensures.off _ _ _ c.named_by-named.ensures.opened (numbered c.named_by-named.ensures.number c.in-Read.is refl) c.in-Queue.is)

pub read-requires-in-Queue-clause-stands : goal.read-requires-in-Queue-clause-stands
read-requires-in-Queue-clause-stands c = (c.requires.stands.0, c.requires.stands.1)

pub returns-in-Queue-clause-uses : goal.returns-in-Queue-clause-uses
returns-in-Queue-clause-uses c = uses_paid _ _ _ _ _ _ c.read-in-Queue.ensures.paid (c.purse_for-paid.ensures.within c.args.call.now c.requires.needed)

pub returns-in-Queue-clause-does : goal.returns-in-Queue-clause-does
returns-in-Queue-clause-does c =
    performs_that (named_three c.named_by-named.ensures.number call.Read c.in-Read.is refl (search (rules, to_z-of_z)) (search (rules, to_z-of_z))) (λ plain. refl) c.read-in-Queue.ensures.does

pub returns-in-Queue-clause-cached : goal.returns-in-Queue-clause-cached
returns-in-Queue-clause-cached c =
    queue_cached c.args.objects.now c.read-in-Queue.new.objects c.args.caller.now.place.pid c.args.call.now c.in-Read.fd c.in-Read.addr c.in-Read.n c.read-in-Queue.result c.in-Read.is (c.target_of-target.ensures.off _ _ _ c.named_by-named.ensures.opened (numbered c.named_by-named.ensures.number c.in-Read.is refl) c.in-Queue.is)

-- ---- Write to a file

pub write-requires-clause-right : goal.write-requires-clause-right
write-requires-clause-right c =
    right_that c.requires.right (named_three c.named_by-named.ensures.number (λ x y z. call.Write x y z 0) (written_anew c.in-Write.is (c.target_of-target.ensures.fresh _ _ _ _ _ c.named_by-named.ensures.opened (numbered c.named_by-named.ensures.number c.in-Write.is refl) c.in-File-target.is c.requires.half.1 c.requires.half.2)) refl (search (rules, to_z-of_z)) (search (rules, to_z-of_z)))

pub write-requires-clause-may : goal.write-requires-clause-may
write-requires-clause-may c =
    may_fetch c.purse_for-paid.ensures.value c.in-File-target.is c.requires.needed c.requires.right
    (named_three c.named_by-named.ensures.number (λ x y z. call.Write x y z 0) (written_anew c.in-Write.is (c.target_of-target.ensures.fresh _ _ _ _ _ c.named_by-named.ensures.opened (numbered c.named_by-named.ensures.number c.in-Write.is refl) c.in-File-target.is c.requires.half.1 c.requires.half.2)) refl (search (rules, to_z-of_z)) (search (rules, to_z-of_z))) refl c.requires.room

pub write-requires-clause-needed : goal.write-requires-clause-needed
write-requires-clause-needed c =
    has_file_need c.purse_for-paid.ensures.value c.in-File-target.is c.requires.needed c.requires.right
    (named_three c.named_by-named.ensures.number (λ x y z. call.Write x y z 0) (written_anew c.in-Write.is (c.target_of-target.ensures.fresh _ _ _ _ _ c.named_by-named.ensures.opened (numbered c.named_by-named.ensures.number c.in-Write.is refl) c.in-File-target.is c.requires.half.1 c.requires.half.2)) refl (search (rules, to_z-of_z)) (search (rules, to_z-of_z)))

pub write-requires-clause-on : goal.write-requires-clause-on
write-requires-clause-on c =
    subst (IsOnFile c.args.objects.now.heap c.args.objects.now.procs c.args.caller.now.place.pid) (named_three c.named_by-named.ensures.number (λ x y z. call.Write x y z 0) (written_anew c.in-Write.is (c.target_of-target.ensures.fresh _ _ _ _ _ c.named_by-named.ensures.opened (numbered c.named_by-named.ensures.number c.in-Write.is refl) c.in-File-target.is c.requires.half.1 c.requires.half.2)) refl (search (rules, to_z-of_z)) (search (rules, to_z-of_z))) (c.target_of-target.ensures.on _ _ _ c.named_by-named.ensures.opened (numbered c.named_by-named.ensures.number c.in-Write.is refl) c.in-File-target.is)

pub returns-in-File-target-clause-uses : goal.returns-in-File-target-clause-uses
returns-in-File-target-clause-uses c = uses_paid _ _ _ _ _ _ c.write.ensures.paid (c.purse_for-paid.ensures.within c.args.call.now c.requires.needed)

pub returns-in-File-target-clause-does : goal.returns-in-File-target-clause-does
returns-in-File-target-clause-does c =
    serves_that (named_three c.named_by-named.ensures.number (λ x y z. call.Write x y z 0) (written_anew c.in-Write.is (c.target_of-target.ensures.fresh _ _ _ _ _ c.named_by-named.ensures.opened (numbered c.named_by-named.ensures.number c.in-Write.is refl) c.in-File-target.is c.requires.half.1 c.requires.half.2)) refl (search (rules, to_z-of_z)) (search (rules, to_z-of_z))) c.write.ensures.does

pub returns-in-File-target-clause-cached : goal.returns-in-File-target-clause-cached
returns-in-File-target-clause-cached c = cached_that _ _ _ _ c.in-Write.is tt

-- ---- Write to a queue that ends its caller

pub write_breaks-requires-clause-stands : goal.write_breaks-requires-clause-stands
write_breaks-requires-clause-stands c = (c.args.script.now, c.requires.stands.0, c.requires.stands.1)

pub write_breaks-requires-clause-right : goal.write_breaks-requires-clause-right
write_breaks-requires-clause-right c = right_that c.requires.right (named_three c.named_by-named.ensures.number (λ x y z. call.Write x y z c.in-Write.done) c.in-Write.is refl (search (rules, to_z-of_z)) (search (rules, to_z-of_z)))

pub break_off-requires-clause-stands : goal.break_off-requires-clause-stands
break_off-requires-clause-stands c = (c.args.script.now, c.requires.stands.0, c.requires.stands.1, c.requires.stands.2)

pub break_off-requires-clause-runs : goal.break_off-requires-clause-runs
break_off-requires-clause-runs c = caller_lives c.args.objects.now c.args.caller.now.place.pid c.args.caller.now c.requires.caller

pub break_off-requires-clause-room : goal.break_off-requires-clause-room
break_off-requires-clause-room c = room_kept c.args.objects.now.heap c.args.call.now c.requires.room

pub returns-then-write_breaks-clause-kept : goal.returns-then-write_breaks-clause-kept
returns-then-write_breaks-clause-kept c = c.break_off.ensures.kept c.args.script.now c.requires.kept

pub returns-then-write_breaks-clause-uses : goal.returns-then-write_breaks-clause-uses
returns-then-write_breaks-clause-uses c =
    uses_more _ _ _ _ (subst (λ which. UsesAtMost c.args.objects.now.heap c.break_off.new.objects.heap 0 (slack which)) (sym c.in-Write.is) c.break_off.ensures.uses)

pub returns-then-write_breaks-clause-does : goal.returns-then-write_breaks-clause-does
returns-then-write_breaks-clause-does c =
    serves_that (named_three c.named_by-named.ensures.number (λ x y z. call.Write x y z c.in-Write.done) c.in-Write.is refl (search (rules, to_z-of_z)) (search (rules, to_z-of_z)))
    (serves_broken c.args.script.now c.args.objects.now c.break_off.new.objects c.args.caller.now.place.pid _ _ _ c.in-Write.done c.break_off.result
    (λ world stands. sym c.if-write_breaks.true ∙ c.write_breaks.ensures c.args.script.now world stands) (c.break_off.ensures.does c.args.script.now _ _ _ c.in-Write.done))

pub returns-then-write_breaks-clause-cached : goal.returns-then-write_breaks-clause-cached
returns-then-write_breaks-clause-cached c = cached_that _ _ _ _ c.in-Write.is tt

-- ---- Write to a queue

pub write-requires-in-Queue-target-clause-room : goal.write-requires-in-Queue-target-clause-room
write-requires-in-Queue-target-clause-room c = pays c.args.objects.now.heap c.purse_for-paid.result c.args.call.now (c.purse_for-paid.ensures.within c.args.call.now c.requires.needed) c.requires.room

pub write-requires-in-Queue-target-clause-so_far : goal.write-requires-in-Queue-target-clause-so_far
write-requires-in-Queue-target-clause-so_far c =
    done_is c.args.call.now c.in-Write.fd c.in-Write.addr c.in-Write.n c.in-Write.done c.args.caller.now.control.done c.in-Write.is c.requires.so_far

pub write-requires-in-Queue-target-clause-left : goal.write-requires-in-Queue-target-clause-left
write-requires-in-Queue-target-clause-left c =
    let n : to_z w64 (of_z w64 c.in-Write.n) ≡ c.in-Write.n = search (rules, to_z-of_z) in
    subst (λ z. chunks_for (count_of z - c.in-Write.done) ≤ c.purse_for-paid.result.left.chunk) (sym n)
    (subst (λ (need : Need). chunks_for (count_of c.in-Write.n - c.in-Write.done) ≤ need.chunk)
    (sym (has_left c.purse_for-paid.ensures.value c.in-Queue-target.is c.requires.needed c.requires.right c.in-Write.is)) (le_refl _))

pub write-requires-in-Queue-target-clause-off : goal.write-requires-in-Queue-target-clause-off
write-requires-in-Queue-target-clause-off c =
    subst (IsOffFiles c.args.objects.now.heap c.args.objects.now.procs c.args.caller.now.place.pid) (named_three c.named_by-named.ensures.number (λ x y z. call.Write x y z c.in-Write.done) c.in-Write.is refl (search (rules, to_z-of_z)) (search (rules, to_z-of_z))) (c.target_of-target.ensures.off _ _ _ c.named_by-named.ensures.opened (numbered c.named_by-named.ensures.number c.in-Write.is refl) c.in-Queue-target.is)

pub write-requires-in-Queue-target-clause-stands : goal.write-requires-in-Queue-target-clause-stands
write-requires-in-Queue-target-clause-stands c = (c.requires.stands.0, c.requires.stands.1)

pub returns-else-write_breaks-clause-uses : goal.returns-else-write_breaks-clause-uses
returns-else-write_breaks-clause-uses c =
    uses_paid _ _ _ _ _ _ c.write-in-Queue-target.ensures.paid (c.purse_for-paid.ensures.within c.args.call.now c.requires.needed)

pub returns-else-write_breaks-clause-does : goal.returns-else-write_breaks-clause-does
returns-else-write_breaks-clause-does c =
    performs_that (named_three c.named_by-named.ensures.number (λ x y z. call.Write x y z c.in-Write.done) c.in-Write.is refl (search (rules, to_z-of_z)) (search (rules, to_z-of_z))) (λ plain. refl)
    (performs_write c.args.script.now c.args.objects.now c.write-in-Queue-target.new.objects c.args.caller.now.place.pid _ _ _ c.in-Write.done c.write-in-Queue-target.result
    (λ world stands. sym c.if-write_breaks.false ∙ c.write_breaks.ensures c.args.script.now world stands) c.write-in-Queue-target.ensures.does)

pub returns-else-write_breaks-clause-cached : goal.returns-else-write_breaks-clause-cached
returns-else-write_breaks-clause-cached c = cached_that _ _ _ _ c.in-Write.is tt

-- ---- Pread

pub pread-requires-clause-right : goal.pread-requires-clause-right
pread-requires-clause-right c =
    right_that c.requires.right (named_four c.named_by-named.ensures.number call.Pread c.in-Pread.is refl (search (rules, to_z-of_z)) (search (rules, to_z-of_z)) (search (rules, to_z-of_z)))

pub pread-requires-clause-may : goal.pread-requires-clause-may
pread-requires-clause-may c =
    may_fetch c.purse_for-paid.ensures.value (c.target_of-target.ensures.other (ap is_moving c.in-Pread.is)) c.requires.needed c.requires.right
    (named_four c.named_by-named.ensures.number call.Pread c.in-Pread.is refl (search (rules, to_z-of_z)) (search (rules, to_z-of_z)) (search (rules, to_z-of_z))) refl c.requires.room

pub pread-requires-clause-needed : goal.pread-requires-clause-needed
pread-requires-clause-needed c =
    has_file_need c.purse_for-paid.ensures.value (c.target_of-target.ensures.other (ap is_moving c.in-Pread.is)) c.requires.needed c.requires.right
    (named_four c.named_by-named.ensures.number call.Pread c.in-Pread.is refl (search (rules, to_z-of_z)) (search (rules, to_z-of_z)) (search (rules, to_z-of_z)))

pub returns-in-Pread-clause-uses : goal.returns-in-Pread-clause-uses
returns-in-Pread-clause-uses c = uses_paid _ _ _ _ _ _ c.pread.ensures.paid (c.purse_for-paid.ensures.within c.args.call.now c.requires.needed)

pub returns-in-Pread-clause-does : goal.returns-in-Pread-clause-does
returns-in-Pread-clause-does c =
    serves_that (named_four c.named_by-named.ensures.number call.Pread c.in-Pread.is refl (search (rules, to_z-of_z)) (search (rules, to_z-of_z)) (search (rules, to_z-of_z))) c.pread.ensures.does

pub returns-in-Pread-clause-cached : goal.returns-in-Pread-clause-cached
returns-in-Pread-clause-cached c =
    cached_that _ _ _ _ (named_four c.named_by-named.ensures.number call.Pread c.in-Pread.is refl (search (rules, to_z-of_z)) (search (rules, to_z-of_z)) (search (rules, to_z-of_z))) c.pread.ensures.cached

-- ---- Pwrite

pub pwrite-requires-clause-right : goal.pwrite-requires-clause-right
pwrite-requires-clause-right c =
    right_that c.requires.right (named_four c.named_by-named.ensures.number call.Pwrite c.in-Pwrite.is refl (search (rules, to_z-of_z)) (search (rules, to_z-of_z)) (search (rules, to_z-of_z)))

pub pwrite-requires-clause-may : goal.pwrite-requires-clause-may
pwrite-requires-clause-may c =
    may_fetch c.purse_for-paid.ensures.value (c.target_of-target.ensures.other (ap is_moving c.in-Pwrite.is)) c.requires.needed c.requires.right
    (named_four c.named_by-named.ensures.number call.Pwrite c.in-Pwrite.is refl (search (rules, to_z-of_z)) (search (rules, to_z-of_z)) (search (rules, to_z-of_z))) refl c.requires.room

pub pwrite-requires-clause-needed : goal.pwrite-requires-clause-needed
pwrite-requires-clause-needed c =
    has_file_need c.purse_for-paid.ensures.value (c.target_of-target.ensures.other (ap is_moving c.in-Pwrite.is)) c.requires.needed c.requires.right
    (named_four c.named_by-named.ensures.number call.Pwrite c.in-Pwrite.is refl (search (rules, to_z-of_z)) (search (rules, to_z-of_z)) (search (rules, to_z-of_z)))

pub returns-in-Pwrite-clause-uses : goal.returns-in-Pwrite-clause-uses
returns-in-Pwrite-clause-uses c = uses_paid _ _ _ _ _ _ c.pwrite.ensures.paid (c.purse_for-paid.ensures.within c.args.call.now c.requires.needed)

pub returns-in-Pwrite-clause-does : goal.returns-in-Pwrite-clause-does
returns-in-Pwrite-clause-does c =
    serves_that (named_four c.named_by-named.ensures.number call.Pwrite c.in-Pwrite.is refl (search (rules, to_z-of_z)) (search (rules, to_z-of_z)) (search (rules, to_z-of_z))) c.pwrite.ensures.does

pub returns-in-Pwrite-clause-cached : goal.returns-in-Pwrite-clause-cached
returns-in-Pwrite-clause-cached c = cached_that _ _ _ _ c.in-Pwrite.is tt

-- ---- Lseek

pub lseek-requires-clause-right : goal.lseek-requires-clause-right
lseek-requires-clause-right c =
    right_that c.requires.right (named_three c.named_by-named.ensures.number call.Lseek c.in-Lseek.is refl (search (rules, to_z-of_z)) (search (rules, to_z-of_z)))

pub returns-in-Lseek-clause-uses : goal.returns-in-Lseek-clause-uses
returns-in-Lseek-clause-uses c = uses_nothing _ _ _ _ c.lseek.ensures.takes

pub returns-in-Lseek-clause-does : goal.returns-in-Lseek-clause-does
returns-in-Lseek-clause-does c =
    serves_that (named_three c.named_by-named.ensures.number call.Lseek c.in-Lseek.is refl (search (rules, to_z-of_z)) (search (rules, to_z-of_z))) c.lseek.ensures.does

pub returns-in-Lseek-clause-cached : goal.returns-in-Lseek-clause-cached
returns-in-Lseek-clause-cached c = cached_that _ _ _ _ c.in-Lseek.is tt

-- ---- Readdir

pub readdir-requires-clause-right : goal.readdir-requires-clause-right
readdir-requires-clause-right c =
    right_that c.requires.right (named_three c.named_by-named.ensures.number call.Readdir c.in-Readdir.is refl (search (rules, to_z-of_z)) (search (rules, to_z-of_z)))

pub readdir-requires-clause-may : goal.readdir-requires-clause-may
readdir-requires-clause-may c =
    may_fetch c.purse_for-paid.ensures.value (c.target_of-target.ensures.other (ap is_moving c.in-Readdir.is)) c.requires.needed c.requires.right
    (named_three c.named_by-named.ensures.number call.Readdir c.in-Readdir.is refl (search (rules, to_z-of_z)) (search (rules, to_z-of_z))) refl c.requires.room

pub readdir-requires-clause-needed : goal.readdir-requires-clause-needed
readdir-requires-clause-needed c =
    has_file_need c.purse_for-paid.ensures.value (c.target_of-target.ensures.other (ap is_moving c.in-Readdir.is)) c.requires.needed c.requires.right
    (named_three c.named_by-named.ensures.number call.Readdir c.in-Readdir.is refl (search (rules, to_z-of_z)) (search (rules, to_z-of_z)))

pub returns-in-Readdir-clause-uses : goal.returns-in-Readdir-clause-uses
returns-in-Readdir-clause-uses c = uses_paid _ _ _ _ _ _ c.readdir.ensures.paid (c.purse_for-paid.ensures.within c.args.call.now c.requires.needed)

pub returns-in-Readdir-clause-does : goal.returns-in-Readdir-clause-does
returns-in-Readdir-clause-does c =
    serves_that (named_three c.named_by-named.ensures.number call.Readdir c.in-Readdir.is refl (search (rules, to_z-of_z)) (search (rules, to_z-of_z))) c.readdir.ensures.does

pub returns-in-Readdir-clause-cached : goal.returns-in-Readdir-clause-cached
returns-in-Readdir-clause-cached c =
    cached_that _ _ _ _ (named_three c.named_by-named.ensures.number call.Readdir c.in-Readdir.is refl (search (rules, to_z-of_z)) (search (rules, to_z-of_z))) c.readdir.ensures.cached

-- ---- Ftruncate

pub ftruncate-requires-clause-right : goal.ftruncate-requires-clause-right
ftruncate-requires-clause-right c =
    right_that c.requires.right (named_two c.named_by-named.ensures.number call.Ftruncate c.in-Ftruncate.is refl (search (rules, to_z-of_z)))

pub ftruncate-requires-clause-may : goal.ftruncate-requires-clause-may
ftruncate-requires-clause-may c =
    may_fetch c.purse_for-paid.ensures.value (c.target_of-target.ensures.other (ap is_moving c.in-Ftruncate.is)) c.requires.needed c.requires.right
    (named_two c.named_by-named.ensures.number call.Ftruncate c.in-Ftruncate.is refl (search (rules, to_z-of_z))) refl c.requires.room

pub ftruncate-requires-clause-needed : goal.ftruncate-requires-clause-needed
ftruncate-requires-clause-needed c =
    has_file_need c.purse_for-paid.ensures.value (c.target_of-target.ensures.other (ap is_moving c.in-Ftruncate.is)) c.requires.needed c.requires.right
    (named_two c.named_by-named.ensures.number call.Ftruncate c.in-Ftruncate.is refl (search (rules, to_z-of_z)))

pub returns-in-Ftruncate-clause-uses : goal.returns-in-Ftruncate-clause-uses
returns-in-Ftruncate-clause-uses c = uses_paid _ _ _ _ _ _ c.ftruncate.ensures.paid (c.purse_for-paid.ensures.within c.args.call.now c.requires.needed)

pub returns-in-Ftruncate-clause-does : goal.returns-in-Ftruncate-clause-does
returns-in-Ftruncate-clause-does c =
    serves_that (named_two c.named_by-named.ensures.number call.Ftruncate c.in-Ftruncate.is refl (search (rules, to_z-of_z))) c.ftruncate.ensures.does

pub returns-in-Ftruncate-clause-cached : goal.returns-in-Ftruncate-clause-cached
returns-in-Ftruncate-clause-cached c = cached_that _ _ _ _ c.in-Ftruncate.is tt

-- ---- Fstat

pub returns-in-Fstat-clause-uses : goal.returns-in-Fstat-clause-uses
returns-in-Fstat-clause-uses c = uses_nothing _ _ _ _ c.fstat.ensures.takes

pub returns-in-Fstat-clause-does : goal.returns-in-Fstat-clause-does
returns-in-Fstat-clause-does c = serves_that (named_one c.named_by-named.ensures.number call.Fstat c.in-Fstat.is refl) c.fstat.ensures.does

pub returns-in-Fstat-clause-cached : goal.returns-in-Fstat-clause-cached
returns-in-Fstat-clause-cached c = cached_that _ _ _ _ c.in-Fstat.is tt

-- ---- Stat

pub stat-requires-clause-stands : goal.stat-requires-clause-stands
stat-requires-clause-stands c = (c.requires.stands.0, c.requires.stands.1)

pub stat-requires-clause-right : goal.stat-requires-clause-right
stat-requires-clause-right c = right_that c.requires.right (c.in-Stat.is ∙ ap call.Stat (sym c.items-in-Stat.ensures.same))

pub stat-requires-clause-may : goal.stat-requires-clause-may
stat-requires-clause-may c =
    walks_one c.purse_for-paid.ensures.value (c.target_of-target.ensures.other (ap is_moving c.in-Stat.is)) c.requires.needed c.requires.right
    (c.in-Stat.is ∙ ap call.Stat (sym c.items-in-Stat.ensures.same)) refl c.requires.room

pub stat-requires-clause-needed : goal.stat-requires-clause-needed
stat-requires-clause-needed c =
    has_need c.purse_for-paid.ensures.value (c.target_of-target.ensures.other (ap is_moving c.in-Stat.is)) c.requires.needed c.requires.right
    (c.in-Stat.is ∙ ap call.Stat (sym c.items-in-Stat.ensures.same)) refl

pub returns-in-Stat-clause-uses : goal.returns-in-Stat-clause-uses
returns-in-Stat-clause-uses c = uses_paid _ _ _ _ _ _ c.stat.ensures.paid (c.purse_for-paid.ensures.within c.args.call.now c.requires.needed)

pub returns-in-Stat-clause-does : goal.returns-in-Stat-clause-does
returns-in-Stat-clause-does c = reaches_that (c.in-Stat.is ∙ ap call.Stat (sym c.items-in-Stat.ensures.same)) c.stat.ensures.does

pub returns-in-Stat-clause-cached : goal.returns-in-Stat-clause-cached
returns-in-Stat-clause-cached c = cached_that _ _ _ _ c.in-Stat.is tt

-- ---- Chdir

pub chdir-requires-clause-stands : goal.chdir-requires-clause-stands
chdir-requires-clause-stands c = (c.requires.stands.0, c.requires.stands.1)

pub chdir-requires-clause-right : goal.chdir-requires-clause-right
chdir-requires-clause-right c = right_that c.requires.right (c.in-Chdir.is ∙ ap call.Chdir (sym c.items-in-Chdir.ensures.same))

pub chdir-requires-clause-may : goal.chdir-requires-clause-may
chdir-requires-clause-may c =
    walks_one c.purse_for-paid.ensures.value (c.target_of-target.ensures.other (ap is_moving c.in-Chdir.is)) c.requires.needed c.requires.right
    (c.in-Chdir.is ∙ ap call.Chdir (sym c.items-in-Chdir.ensures.same)) refl c.requires.room

pub chdir-requires-clause-needed : goal.chdir-requires-clause-needed
chdir-requires-clause-needed c =
    has_need c.purse_for-paid.ensures.value (c.target_of-target.ensures.other (ap is_moving c.in-Chdir.is)) c.requires.needed c.requires.right
    (c.in-Chdir.is ∙ ap call.Chdir (sym c.items-in-Chdir.ensures.same)) refl

pub returns-in-Chdir-clause-uses : goal.returns-in-Chdir-clause-uses
returns-in-Chdir-clause-uses c = uses_paid _ _ _ _ _ _ c.chdir.ensures.paid (c.purse_for-paid.ensures.within c.args.call.now c.requires.needed)

pub returns-in-Chdir-clause-does : goal.returns-in-Chdir-clause-does
returns-in-Chdir-clause-does c = reaches_that (c.in-Chdir.is ∙ ap call.Chdir (sym c.items-in-Chdir.ensures.same)) c.chdir.ensures.does

pub returns-in-Chdir-clause-cached : goal.returns-in-Chdir-clause-cached
returns-in-Chdir-clause-cached c = cached_that _ _ _ _ c.in-Chdir.is tt

-- ---- Mkdir

pub mkdir-requires-clause-stands : goal.mkdir-requires-clause-stands
mkdir-requires-clause-stands c = (c.requires.stands.0, c.requires.stands.1)

pub mkdir-requires-clause-right : goal.mkdir-requires-clause-right
mkdir-requires-clause-right c = right_that c.requires.right (c.in-Mkdir.is ∙ ap call.Mkdir (sym c.items-in-Mkdir.ensures.same))

pub mkdir-requires-clause-may : goal.mkdir-requires-clause-may
mkdir-requires-clause-may c =
    walks_one c.purse_for-paid.ensures.value (c.target_of-target.ensures.other (ap is_moving c.in-Mkdir.is)) c.requires.needed c.requires.right
    (c.in-Mkdir.is ∙ ap call.Mkdir (sym c.items-in-Mkdir.ensures.same)) refl c.requires.room

pub mkdir-requires-clause-needed : goal.mkdir-requires-clause-needed
mkdir-requires-clause-needed c =
    has_need c.purse_for-paid.ensures.value (c.target_of-target.ensures.other (ap is_moving c.in-Mkdir.is)) c.requires.needed c.requires.right
    (c.in-Mkdir.is ∙ ap call.Mkdir (sym c.items-in-Mkdir.ensures.same)) refl

pub mkdir-requires-clause-bytes : goal.mkdir-requires-clause-bytes
mkdir-requires-clause-bytes c = let paths = paths_of_it (c.in-Mkdir.is ∙ ap call.Mkdir (sym c.items-in-Mkdir.ensures.same)) c.requires.paths in paths.0

pub returns-in-Mkdir-clause-uses : goal.returns-in-Mkdir-clause-uses
returns-in-Mkdir-clause-uses c = uses_paid _ _ _ _ _ _ c.mkdir.ensures.paid (c.purse_for-paid.ensures.within c.args.call.now c.requires.needed)

pub returns-in-Mkdir-clause-does : goal.returns-in-Mkdir-clause-does
returns-in-Mkdir-clause-does c = reaches_that (c.in-Mkdir.is ∙ ap call.Mkdir (sym c.items-in-Mkdir.ensures.same)) c.mkdir.ensures.does

pub returns-in-Mkdir-clause-cached : goal.returns-in-Mkdir-clause-cached
returns-in-Mkdir-clause-cached c = cached_that _ _ _ _ c.in-Mkdir.is tt

-- ---- Rmdir

pub rmdir-requires-clause-stands : goal.rmdir-requires-clause-stands
rmdir-requires-clause-stands c = (c.requires.stands.0, c.requires.stands.1)

pub rmdir-requires-clause-right : goal.rmdir-requires-clause-right
rmdir-requires-clause-right c = right_that c.requires.right (c.in-Rmdir.is ∙ ap call.Rmdir (sym c.items-in-Rmdir.ensures.same))

pub rmdir-requires-clause-may : goal.rmdir-requires-clause-may
rmdir-requires-clause-may c =
    walks_one c.purse_for-paid.ensures.value (c.target_of-target.ensures.other (ap is_moving c.in-Rmdir.is)) c.requires.needed c.requires.right
    (c.in-Rmdir.is ∙ ap call.Rmdir (sym c.items-in-Rmdir.ensures.same)) refl c.requires.room

pub rmdir-requires-clause-needed : goal.rmdir-requires-clause-needed
rmdir-requires-clause-needed c =
    has_need c.purse_for-paid.ensures.value (c.target_of-target.ensures.other (ap is_moving c.in-Rmdir.is)) c.requires.needed c.requires.right
    (c.in-Rmdir.is ∙ ap call.Rmdir (sym c.items-in-Rmdir.ensures.same)) refl

pub returns-in-Rmdir-clause-uses : goal.returns-in-Rmdir-clause-uses
returns-in-Rmdir-clause-uses c = uses_paid _ _ _ _ _ _ c.rmdir.ensures.paid (c.purse_for-paid.ensures.within c.args.call.now c.requires.needed)

pub returns-in-Rmdir-clause-does : goal.returns-in-Rmdir-clause-does
returns-in-Rmdir-clause-does c = reaches_that (c.in-Rmdir.is ∙ ap call.Rmdir (sym c.items-in-Rmdir.ensures.same)) c.rmdir.ensures.does

pub returns-in-Rmdir-clause-cached : goal.returns-in-Rmdir-clause-cached
returns-in-Rmdir-clause-cached c = cached_that _ _ _ _ c.in-Rmdir.is tt

-- ---- Unlink

pub unlink-requires-clause-right : goal.unlink-requires-clause-right
unlink-requires-clause-right c = right_that c.requires.right (c.in-Unlink.is ∙ ap call.Unlink (sym c.items-in-Unlink.ensures.same))

pub unlink-requires-clause-may : goal.unlink-requires-clause-may
unlink-requires-clause-may c =
    walks_one c.purse_for-paid.ensures.value (c.target_of-target.ensures.other (ap is_moving c.in-Unlink.is)) c.requires.needed c.requires.right
    (c.in-Unlink.is ∙ ap call.Unlink (sym c.items-in-Unlink.ensures.same)) refl c.requires.room

pub unlink-requires-clause-needed : goal.unlink-requires-clause-needed
unlink-requires-clause-needed c =
    has_need c.purse_for-paid.ensures.value (c.target_of-target.ensures.other (ap is_moving c.in-Unlink.is)) c.requires.needed c.requires.right
    (c.in-Unlink.is ∙ ap call.Unlink (sym c.items-in-Unlink.ensures.same)) refl

pub returns-in-Unlink-clause-uses : goal.returns-in-Unlink-clause-uses
returns-in-Unlink-clause-uses c = uses_paid _ _ _ _ _ _ c.unlink.ensures.paid (c.purse_for-paid.ensures.within c.args.call.now c.requires.needed)

pub returns-in-Unlink-clause-does : goal.returns-in-Unlink-clause-does
returns-in-Unlink-clause-does c = serves_that (c.in-Unlink.is ∙ ap call.Unlink (sym c.items-in-Unlink.ensures.same)) c.unlink.ensures.does

pub returns-in-Unlink-clause-cached : goal.returns-in-Unlink-clause-cached
returns-in-Unlink-clause-cached c = cached_that _ _ _ _ c.in-Unlink.is tt

-- ---- Link

pub link-requires-clause-stands : goal.link-requires-clause-stands
link-requires-clause-stands c = (c.requires.stands.0, c.requires.stands.1)

pub link-requires-clause-right : goal.link-requires-clause-right
link-requires-clause-right c =
    right_that c.requires.right (c.in-Link.is ∙ ap (λ p. call.Link p c.in-Link.new) (sym c.items-in-Link.ensures.same) ∙ ap (call.Link c.items-in-Link.result.now) (sym c.items-in-Link-2.ensures.same))

pub link-requires-clause-may : goal.link-requires-clause-may
link-requires-clause-may c =
    walks_two c.purse_for-paid.ensures.value (c.target_of-target.ensures.other (ap is_moving c.in-Link.is)) c.requires.needed c.requires.right
    (c.in-Link.is ∙ ap (λ p. call.Link p c.in-Link.new) (sym c.items-in-Link.ensures.same) ∙ ap (call.Link c.items-in-Link.result.now) (sym c.items-in-Link-2.ensures.same)) refl c.requires.room

pub link-requires-clause-needed : goal.link-requires-clause-needed
link-requires-clause-needed c =
    has_need c.purse_for-paid.ensures.value (c.target_of-target.ensures.other (ap is_moving c.in-Link.is)) c.requires.needed c.requires.right
    (c.in-Link.is ∙ ap (λ p. call.Link p c.in-Link.new) (sym c.items-in-Link.ensures.same) ∙ ap (call.Link c.items-in-Link.result.now) (sym c.items-in-Link-2.ensures.same)) refl

pub link-requires-clause-bytes : goal.link-requires-clause-bytes
link-requires-clause-bytes c =
    let paths = paths_of_it (c.in-Link.is ∙ ap (λ p. call.Link p c.in-Link.new) (sym c.items-in-Link.ensures.same) ∙ ap (call.Link c.items-in-Link.result.now) (sym c.items-in-Link-2.ensures.same)) c.requires.paths in paths.1.0

pub returns-in-Link-clause-uses : goal.returns-in-Link-clause-uses
returns-in-Link-clause-uses c = uses_paid _ _ _ _ _ _ c.link.ensures.paid (c.purse_for-paid.ensures.within c.args.call.now c.requires.needed)

pub returns-in-Link-clause-does : goal.returns-in-Link-clause-does
returns-in-Link-clause-does c =
    reaches_that (c.in-Link.is ∙ ap (λ p. call.Link p c.in-Link.new) (sym c.items-in-Link.ensures.same) ∙ ap (call.Link c.items-in-Link.result.now) (sym c.items-in-Link-2.ensures.same)) c.link.ensures.does

pub returns-in-Link-clause-cached : goal.returns-in-Link-clause-cached
returns-in-Link-clause-cached c = cached_that _ _ _ _ c.in-Link.is tt

-- ---- Rename

pub rename-requires-clause-right : goal.rename-requires-clause-right
rename-requires-clause-right c =
    right_that c.requires.right (c.in-Rename.is ∙ ap (λ p. call.Rename p c.in-Rename.new) (sym c.items-in-Rename.ensures.same) ∙ ap (call.Rename c.items-in-Rename.result.now) (sym c.items-in-Rename-2.ensures.same))

pub rename-requires-clause-may : goal.rename-requires-clause-may
rename-requires-clause-may c =
    walks_two c.purse_for-paid.ensures.value (c.target_of-target.ensures.other (ap is_moving c.in-Rename.is)) c.requires.needed c.requires.right
    (c.in-Rename.is ∙ ap (λ p. call.Rename p c.in-Rename.new) (sym c.items-in-Rename.ensures.same) ∙ ap (call.Rename c.items-in-Rename.result.now) (sym c.items-in-Rename-2.ensures.same)) refl c.requires.room

pub rename-requires-clause-needed : goal.rename-requires-clause-needed
rename-requires-clause-needed c =
    has_need c.purse_for-paid.ensures.value (c.target_of-target.ensures.other (ap is_moving c.in-Rename.is)) c.requires.needed c.requires.right
    (c.in-Rename.is ∙ ap (λ p. call.Rename p c.in-Rename.new) (sym c.items-in-Rename.ensures.same) ∙ ap (call.Rename c.items-in-Rename.result.now) (sym c.items-in-Rename-2.ensures.same)) refl

pub rename-requires-clause-bytes : goal.rename-requires-clause-bytes
rename-requires-clause-bytes c =
    let paths = paths_of_it (c.in-Rename.is ∙ ap (λ p. call.Rename p c.in-Rename.new) (sym c.items-in-Rename.ensures.same) ∙ ap (call.Rename c.items-in-Rename.result.now) (sym c.items-in-Rename-2.ensures.same)) c.requires.paths in paths.1.0

pub returns-in-Rename-clause-uses : goal.returns-in-Rename-clause-uses
returns-in-Rename-clause-uses c = uses_paid _ _ _ _ _ _ c.rename.ensures.paid (c.purse_for-paid.ensures.within c.args.call.now c.requires.needed)

pub returns-in-Rename-clause-does : goal.returns-in-Rename-clause-does
returns-in-Rename-clause-does c =
    serves_that (c.in-Rename.is ∙ ap (λ p. call.Rename p c.in-Rename.new) (sym c.items-in-Rename.ensures.same) ∙ ap (call.Rename c.items-in-Rename.result.now) (sym c.items-in-Rename-2.ensures.same)) c.rename.ensures.does

pub returns-in-Rename-clause-cached : goal.returns-in-Rename-clause-cached
returns-in-Rename-clause-cached c = cached_that _ _ _ _ c.in-Rename.is tt

-- ---- Pipe

pub pipe-requires-clause-room : goal.pipe-requires-clause-room
pipe-requires-clause-room c = pays c.args.objects.now.heap c.purse_for-paid.result c.args.call.now (c.purse_for-paid.ensures.within c.args.call.now c.requires.needed) c.requires.room

pub pipe-requires-clause-left_pipe : goal.pipe-requires-clause-left_pipe
pipe-requires-clause-left_pipe c =
    subst (λ (n : Need). 0 < n.pipe)
    (sym (has_left c.purse_for-paid.ensures.value (c.target_of-target.ensures.other (ap is_moving c.in-Pipe.is)) c.requires.needed c.requires.right c.in-Pipe.is)) (omega arith)

pub pipe-requires-clause-left_descs : goal.pipe-requires-clause-left_descs
pipe-requires-clause-left_descs c =
    subst (λ (n : Need). 2 ≤ n.desc)
    (sym (has_left c.purse_for-paid.ensures.value (c.target_of-target.ensures.other (ap is_moving c.in-Pipe.is)) c.requires.needed c.requires.right c.in-Pipe.is)) (omega arith)

pub pipe-requires-clause-left_leaf : goal.pipe-requires-clause-left_leaf
pipe-requires-clause-left_leaf c =
    subst (λ (n : Need). 0 < n.leaf)
    (sym (has_left c.purse_for-paid.ensures.value (c.target_of-target.ensures.other (ap is_moving c.in-Pipe.is)) c.requires.needed c.requires.right c.in-Pipe.is)) (omega arith)

pub returns-in-Pipe-clause-uses : goal.returns-in-Pipe-clause-uses
returns-in-Pipe-clause-uses c = uses_paid _ _ _ _ _ _ c.pipe.ensures.paid (c.purse_for-paid.ensures.within c.args.call.now c.requires.needed)

pub returns-in-Pipe-clause-does : goal.returns-in-Pipe-clause-does
returns-in-Pipe-clause-does c = performs_that c.in-Pipe.is (λ plain. refl) c.pipe.ensures.does

pub returns-in-Pipe-clause-cached : goal.returns-in-Pipe-clause-cached
returns-in-Pipe-clause-cached c = cached_that _ _ _ _ c.in-Pipe.is tt

-- ---- Socket

pub socket-requires-clause-room : goal.socket-requires-clause-room
socket-requires-clause-room c = pays c.args.objects.now.heap c.purse_for-paid.result c.args.call.now (c.purse_for-paid.ensures.within c.args.call.now c.requires.needed) c.requires.room

pub socket-requires-clause-left_sock : goal.socket-requires-clause-left_sock
socket-requires-clause-left_sock c =
    subst (λ (n : Need). 0 < n.sock)
    (sym (has_left c.purse_for-paid.ensures.value (c.target_of-target.ensures.other (ap is_moving c.in-Socket.is)) c.requires.needed c.requires.right c.in-Socket.is)) (omega arith)

pub socket-requires-clause-left_desc : goal.socket-requires-clause-left_desc
socket-requires-clause-left_desc c =
    subst (λ (n : Need). 0 < n.desc)
    (sym (has_left c.purse_for-paid.ensures.value (c.target_of-target.ensures.other (ap is_moving c.in-Socket.is)) c.requires.needed c.requires.right c.in-Socket.is)) (omega arith)

pub socket-requires-clause-stands : goal.socket-requires-clause-stands
socket-requires-clause-stands c = (c.requires.stands.0, c.requires.stands.1)

pub socket-requires-clause-left_leaf : goal.socket-requires-clause-left_leaf
socket-requires-clause-left_leaf c =
    subst (λ (n : Need). 0 < n.leaf)
    (sym (has_left c.purse_for-paid.ensures.value (c.target_of-target.ensures.other (ap is_moving c.in-Socket.is)) c.requires.needed c.requires.right c.in-Socket.is)) (omega arith)

pub returns-in-Socket-clause-uses : goal.returns-in-Socket-clause-uses
returns-in-Socket-clause-uses c = uses_paid _ _ _ _ _ _ c.socket.ensures.paid (c.purse_for-paid.ensures.within c.args.call.now c.requires.needed)

pub returns-in-Socket-clause-does : goal.returns-in-Socket-clause-does
returns-in-Socket-clause-does c = performs_that c.in-Socket.is (λ plain. refl) c.socket.ensures.does

pub returns-in-Socket-clause-cached : goal.returns-in-Socket-clause-cached
returns-in-Socket-clause-cached c = cached_that _ _ _ _ c.in-Socket.is tt

-- ---- Socketpair

pub socketpair-requires-clause-room : goal.socketpair-requires-clause-room
socketpair-requires-clause-room c = pays c.args.objects.now.heap c.purse_for-paid.result c.args.call.now (c.purse_for-paid.ensures.within c.args.call.now c.requires.needed) c.requires.room

pub socketpair-requires-clause-left_socks : goal.socketpair-requires-clause-left_socks
socketpair-requires-clause-left_socks c =
    subst (λ (n : Need). 2 ≤ n.sock)
    (sym (has_left c.purse_for-paid.ensures.value (c.target_of-target.ensures.other (ap is_moving c.in-Socketpair.is)) c.requires.needed c.requires.right c.in-Socketpair.is)) (omega arith)

pub socketpair-requires-clause-left_descs : goal.socketpair-requires-clause-left_descs
socketpair-requires-clause-left_descs c =
    subst (λ (n : Need). 2 ≤ n.desc)
    (sym (has_left c.purse_for-paid.ensures.value (c.target_of-target.ensures.other (ap is_moving c.in-Socketpair.is)) c.requires.needed c.requires.right c.in-Socketpair.is)) (omega arith)

pub socketpair-requires-clause-stands : goal.socketpair-requires-clause-stands
socketpair-requires-clause-stands c = (c.requires.stands.0, c.requires.stands.1)

pub socketpair-requires-clause-left_leaf : goal.socketpair-requires-clause-left_leaf
socketpair-requires-clause-left_leaf c =
    subst (λ (n : Need). 0 < n.leaf)
    (sym (has_left c.purse_for-paid.ensures.value (c.target_of-target.ensures.other (ap is_moving c.in-Socketpair.is)) c.requires.needed c.requires.right c.in-Socketpair.is)) (omega arith)

pub returns-in-Socketpair-clause-uses : goal.returns-in-Socketpair-clause-uses
returns-in-Socketpair-clause-uses c = uses_paid _ _ _ _ _ _ c.socketpair.ensures.paid (c.purse_for-paid.ensures.within c.args.call.now c.requires.needed)

pub returns-in-Socketpair-clause-does : goal.returns-in-Socketpair-clause-does
returns-in-Socketpair-clause-does c = performs_that c.in-Socketpair.is (λ plain. refl) c.socketpair.ensures.does

pub returns-in-Socketpair-clause-cached : goal.returns-in-Socketpair-clause-cached
returns-in-Socketpair-clause-cached c = cached_that _ _ _ _ c.in-Socketpair.is tt

-- ---- Bind

pub bind-requires-clause-right : goal.bind-requires-clause-right
bind-requires-clause-right c =
    right_that c.requires.right (named_one c.named_by-named.ensures.number (λ z. call.Bind z c.items-in-Bind.result.now) (c.in-Bind.is ∙ ap (call.Bind c.in-Bind.fd) (sym c.items-in-Bind.ensures.same)) refl)

pub bind-requires-clause-may : goal.bind-requires-clause-may
bind-requires-clause-may c =
    walks_one c.purse_for-paid.ensures.value (c.target_of-target.ensures.other (ap is_moving c.in-Bind.is)) c.requires.needed c.requires.right
    (named_one c.named_by-named.ensures.number (λ z. call.Bind z c.items-in-Bind.result.now) (c.in-Bind.is ∙ ap (call.Bind c.in-Bind.fd) (sym c.items-in-Bind.ensures.same)) refl) refl c.requires.room

pub bind-requires-clause-needed : goal.bind-requires-clause-needed
bind-requires-clause-needed c =
    has_need c.purse_for-paid.ensures.value (c.target_of-target.ensures.other (ap is_moving c.in-Bind.is)) c.requires.needed c.requires.right
    (named_one c.named_by-named.ensures.number (λ z. call.Bind z c.items-in-Bind.result.now) (c.in-Bind.is ∙ ap (call.Bind c.in-Bind.fd) (sym c.items-in-Bind.ensures.same)) refl) refl

pub bind-requires-clause-bytes : goal.bind-requires-clause-bytes
bind-requires-clause-bytes c =
    let paths = paths_of_it (named_one c.named_by-named.ensures.number (λ z. call.Bind z c.items-in-Bind.result.now) (c.in-Bind.is ∙ ap (call.Bind c.in-Bind.fd) (sym c.items-in-Bind.ensures.same)) refl) c.requires.paths in paths.0

pub returns-in-Bind-clause-uses : goal.returns-in-Bind-clause-uses
returns-in-Bind-clause-uses c = uses_paid _ _ _ _ _ _ c.bind.ensures.paid (c.purse_for-paid.ensures.within c.args.call.now c.requires.needed)

pub returns-in-Bind-clause-does : goal.returns-in-Bind-clause-does
returns-in-Bind-clause-does c =
    serves_that (named_one c.named_by-named.ensures.number (λ z. call.Bind z c.items-in-Bind.result.now) (c.in-Bind.is ∙ ap (call.Bind c.in-Bind.fd) (sym c.items-in-Bind.ensures.same)) refl) c.bind.ensures.does

pub returns-in-Bind-clause-cached : goal.returns-in-Bind-clause-cached
returns-in-Bind-clause-cached c = cached_that _ _ _ _ c.in-Bind.is tt

-- ---- Listen

pub listen-requires-clause-stands : goal.listen-requires-clause-stands
listen-requires-clause-stands c = (c.requires.stands.0, c.requires.stands.1)

pub returns-in-Listen-clause-uses : goal.returns-in-Listen-clause-uses
returns-in-Listen-clause-uses c = uses_nothing _ _ _ _ c.listen.ensures.takes

pub returns-in-Listen-clause-does : goal.returns-in-Listen-clause-does
returns-in-Listen-clause-does c = performs_that (named_one c.named_by-named.ensures.number call.Listen c.in-Listen.is refl) (λ plain. refl) c.listen.ensures.does

pub returns-in-Listen-clause-cached : goal.returns-in-Listen-clause-cached
returns-in-Listen-clause-cached c = cached_that _ _ _ _ c.in-Listen.is tt

-- ---- Connect

pub connect-requires-clause-right : goal.connect-requires-clause-right
connect-requires-clause-right c =
    right_that c.requires.right (named_one c.named_by-named.ensures.number (λ z. call.Connect z c.items-in-Connect.result.now) (c.in-Connect.is ∙ ap (call.Connect c.in-Connect.fd) (sym c.items-in-Connect.ensures.same)) refl)

pub connect-requires-clause-may : goal.connect-requires-clause-may
connect-requires-clause-may c =
    walks_connecting c.purse_for-paid.ensures.value (c.target_of-target.ensures.other (ap is_moving c.in-Connect.is)) c.requires.needed c.requires.right
    (named_one c.named_by-named.ensures.number (λ z. call.Connect z c.items-in-Connect.result.now) (c.in-Connect.is ∙ ap (call.Connect c.in-Connect.fd) (sym c.items-in-Connect.ensures.same)) refl) refl c.requires.room

pub connect-requires-clause-needed : goal.connect-requires-clause-needed
connect-requires-clause-needed c =
    has_need c.purse_for-paid.ensures.value (c.target_of-target.ensures.other (ap is_moving c.in-Connect.is)) c.requires.needed c.requires.right
    (named_one c.named_by-named.ensures.number (λ z. call.Connect z c.items-in-Connect.result.now) (c.in-Connect.is ∙ ap (call.Connect c.in-Connect.fd) (sym c.items-in-Connect.ensures.same)) refl) refl

pub returns-in-Connect-clause-uses : goal.returns-in-Connect-clause-uses
returns-in-Connect-clause-uses c = uses_paid _ _ _ _ _ _ c.connect.ensures.paid (c.purse_for-paid.ensures.within c.args.call.now c.requires.needed)

pub returns-in-Connect-clause-does : goal.returns-in-Connect-clause-does
returns-in-Connect-clause-does c =
    serves_that (named_one c.named_by-named.ensures.number (λ z. call.Connect z c.items-in-Connect.result.now) (c.in-Connect.is ∙ ap (call.Connect c.in-Connect.fd) (sym c.items-in-Connect.ensures.same)) refl) c.connect.ensures.does

pub returns-in-Connect-clause-cached : goal.returns-in-Connect-clause-cached
returns-in-Connect-clause-cached c = cached_that _ _ _ _ c.in-Connect.is tt

-- ---- Accept

pub accept-requires-clause-room : goal.accept-requires-clause-room
accept-requires-clause-room c = pays c.args.objects.now.heap c.purse_for-paid.result c.args.call.now (c.purse_for-paid.ensures.within c.args.call.now c.requires.needed) c.requires.room

pub accept-requires-clause-left_desc : goal.accept-requires-clause-left_desc
accept-requires-clause-left_desc c =
    subst (λ (n : Need). 0 < n.desc)
    (sym (has_left c.purse_for-paid.ensures.value (c.target_of-target.ensures.other (ap is_moving c.in-Accept.is)) c.requires.needed c.requires.right c.in-Accept.is)) (omega arith)

pub accept-requires-clause-stands : goal.accept-requires-clause-stands
accept-requires-clause-stands c = (c.requires.stands.0, c.requires.stands.1)

pub accept-requires-clause-left_leaf : goal.accept-requires-clause-left_leaf
accept-requires-clause-left_leaf c =
    subst (λ (n : Need). 0 < n.leaf)
    (sym (has_left c.purse_for-paid.ensures.value (c.target_of-target.ensures.other (ap is_moving c.in-Accept.is)) c.requires.needed c.requires.right c.in-Accept.is)) (omega arith)

pub returns-in-Accept-clause-uses : goal.returns-in-Accept-clause-uses
returns-in-Accept-clause-uses c = uses_paid _ _ _ _ _ _ c.accept.ensures.paid (c.purse_for-paid.ensures.within c.args.call.now c.requires.needed)

pub returns-in-Accept-clause-does : goal.returns-in-Accept-clause-does
returns-in-Accept-clause-does c = performs_that (named_one c.named_by-named.ensures.number call.Accept c.in-Accept.is refl) (λ plain. refl) c.accept.ensures.does

pub returns-in-Accept-clause-cached : goal.returns-in-Accept-clause-cached
returns-in-Accept-clause-cached c = cached_that _ _ _ _ c.in-Accept.is tt

-- ---- Shutdown

pub shutdown-requires-clause-stands : goal.shutdown-requires-clause-stands
shutdown-requires-clause-stands c = (c.requires.stands.0, c.requires.stands.1)

pub returns-in-Shutdown-clause-uses : goal.returns-in-Shutdown-clause-uses
returns-in-Shutdown-clause-uses c = uses_nothing _ _ _ _ c.shutdown.ensures.takes

pub returns-in-Shutdown-clause-does : goal.returns-in-Shutdown-clause-does
returns-in-Shutdown-clause-does c =
    performs_that (named_two c.named_by-named.ensures.number call.Shutdown c.in-Shutdown.is refl (search (rules, to_z-of_z))) (λ plain. refl) c.shutdown.ensures.does

pub returns-in-Shutdown-clause-cached : goal.returns-in-Shutdown-clause-cached
returns-in-Shutdown-clause-cached c = cached_that _ _ _ _ c.in-Shutdown.is tt

-- ---- Poll

pub returns-in-Poll-clause-uses : goal.returns-in-Poll-clause-uses
returns-in-Poll-clause-uses c = uses_nothing _ _ _ _ c.poll.ensures.takes

pub returns-in-Poll-clause-does : goal.returns-in-Poll-clause-does
returns-in-Poll-clause-does c =
    performs_that (spelt_one (λ z. call.Poll z c.in-Poll.entries) c.in-Poll.is (search (rules, to_z-of_z))) (λ plain. refl) c.poll.ensures.does

pub returns-in-Poll-clause-cached : goal.returns-in-Poll-clause-cached
returns-in-Poll-clause-cached c = cached_that _ _ _ _ c.in-Poll.is tt

-- ---- Signal

pub returns-in-Signal-clause-uses : goal.returns-in-Signal-clause-uses
returns-in-Signal-clause-uses c = uses_nothing _ _ _ _ c.signal.ensures.takes

pub returns-in-Signal-clause-does : goal.returns-in-Signal-clause-does
returns-in-Signal-clause-does c =
    performs_that (spelt_two call.Signal c.in-Signal.is (search (rules, to_z-of_z)) (search (rules, to_z-of_z))) (λ plain. refl) c.signal.ensures.does

pub returns-in-Signal-clause-cached : goal.returns-in-Signal-clause-cached
returns-in-Signal-clause-cached c = cached_that _ _ _ _ c.in-Signal.is tt

-- ---- Mkfifo

pub mkfifo-requires-clause-stands : goal.mkfifo-requires-clause-stands
mkfifo-requires-clause-stands c = (c.requires.stands.0, c.requires.stands.1)

pub mkfifo-requires-clause-right : goal.mkfifo-requires-clause-right
mkfifo-requires-clause-right c = right_that c.requires.right (c.in-Mkfifo.is ∙ ap call.Mkfifo (sym c.items-in-Mkfifo.ensures.same))

pub mkfifo-requires-clause-may : goal.mkfifo-requires-clause-may
mkfifo-requires-clause-may c =
    walks_one c.purse_for-paid.ensures.value (c.target_of-target.ensures.other (ap is_moving c.in-Mkfifo.is)) c.requires.needed c.requires.right
    (c.in-Mkfifo.is ∙ ap call.Mkfifo (sym c.items-in-Mkfifo.ensures.same)) refl c.requires.room

pub mkfifo-requires-clause-needed : goal.mkfifo-requires-clause-needed
mkfifo-requires-clause-needed c =
    has_need c.purse_for-paid.ensures.value (c.target_of-target.ensures.other (ap is_moving c.in-Mkfifo.is)) c.requires.needed c.requires.right
    (c.in-Mkfifo.is ∙ ap call.Mkfifo (sym c.items-in-Mkfifo.ensures.same)) refl

pub mkfifo-requires-clause-bytes : goal.mkfifo-requires-clause-bytes
mkfifo-requires-clause-bytes c = let paths = paths_of_it (c.in-Mkfifo.is ∙ ap call.Mkfifo (sym c.items-in-Mkfifo.ensures.same)) c.requires.paths in paths.0

pub returns-in-Mkfifo-clause-uses : goal.returns-in-Mkfifo-clause-uses
returns-in-Mkfifo-clause-uses c = uses_paid _ _ _ _ _ _ c.mkfifo.ensures.paid (c.purse_for-paid.ensures.within c.args.call.now c.requires.needed)

pub returns-in-Mkfifo-clause-does : goal.returns-in-Mkfifo-clause-does
returns-in-Mkfifo-clause-does c = reaches_that (c.in-Mkfifo.is ∙ ap call.Mkfifo (sym c.items-in-Mkfifo.ensures.same)) c.mkfifo.ensures.does

pub returns-in-Mkfifo-clause-cached : goal.returns-in-Mkfifo-clause-cached
returns-in-Mkfifo-clause-cached c = cached_that _ _ _ _ c.in-Mkfifo.is tt

-- ---- Setlk

pub setlk-requires-clause-right : goal.setlk-requires-clause-right
setlk-requires-clause-right c =
    right_that c.requires.right (named_four c.named_by-named.ensures.number call.Setlk c.in-Setlk.is refl (search (rules, to_z-of_z)) (search (rules, to_z-of_z)) (search (rules, to_z-of_z)))

pub setlk-requires-clause-pays : goal.setlk-requires-clause-pays
setlk-requires-clause-pays c = pays c.args.objects.now.heap c.purse_for-paid.result c.args.call.now (c.purse_for-paid.ensures.within c.args.call.now c.requires.needed) c.requires.room

pub setlk-requires-clause-left : goal.setlk-requires-clause-left
setlk-requires-clause-left c =
    subst (λ (n : Need). 2 ≤ n.lock)
    (sym (has_left c.purse_for-paid.ensures.value (c.target_of-target.ensures.other (ap is_moving c.in-Setlk.is)) c.requires.needed c.requires.right c.in-Setlk.is)) (omega arith)

pub returns-in-Setlk-clause-uses : goal.returns-in-Setlk-clause-uses
returns-in-Setlk-clause-uses c = uses_paid _ _ _ _ _ _ c.setlk.ensures.paid (c.purse_for-paid.ensures.within c.args.call.now c.requires.needed)

pub returns-in-Setlk-clause-does : goal.returns-in-Setlk-clause-does
returns-in-Setlk-clause-does c =
    serves_that (named_four c.named_by-named.ensures.number call.Setlk c.in-Setlk.is refl (search (rules, to_z-of_z)) (search (rules, to_z-of_z)) (search (rules, to_z-of_z))) c.setlk.ensures.does

pub returns-in-Setlk-clause-cached : goal.returns-in-Setlk-clause-cached
returns-in-Setlk-clause-cached c = cached_that _ _ _ _ c.in-Setlk.is tt

-- ---- Setlkw

pub setlkw-requires-clause-right : goal.setlkw-requires-clause-right
setlkw-requires-clause-right c =
    right_that c.requires.right (named_four c.named_by-named.ensures.number call.Setlkw c.in-Setlkw.is refl (search (rules, to_z-of_z)) (search (rules, to_z-of_z)) (search (rules, to_z-of_z)))

pub setlkw-requires-clause-pays : goal.setlkw-requires-clause-pays
setlkw-requires-clause-pays c = pays c.args.objects.now.heap c.purse_for-paid.result c.args.call.now (c.purse_for-paid.ensures.within c.args.call.now c.requires.needed) c.requires.room

pub setlkw-requires-clause-left : goal.setlkw-requires-clause-left
setlkw-requires-clause-left c =
    subst (λ (n : Need). 2 ≤ n.lock)
    (sym (has_left c.purse_for-paid.ensures.value (c.target_of-target.ensures.other (ap is_moving c.in-Setlkw.is)) c.requires.needed c.requires.right c.in-Setlkw.is)) (omega arith)

pub returns-in-Setlkw-clause-uses : goal.returns-in-Setlkw-clause-uses
returns-in-Setlkw-clause-uses c = uses_paid _ _ _ _ _ _ c.setlkw.ensures.paid (c.purse_for-paid.ensures.within c.args.call.now c.requires.needed)

pub returns-in-Setlkw-clause-does : goal.returns-in-Setlkw-clause-does
returns-in-Setlkw-clause-does c =
    serves_that (named_four c.named_by-named.ensures.number call.Setlkw c.in-Setlkw.is refl (search (rules, to_z-of_z)) (search (rules, to_z-of_z)) (search (rules, to_z-of_z))) c.setlkw.ensures.does

pub returns-in-Setlkw-clause-cached : goal.returns-in-Setlkw-clause-cached
returns-in-Setlkw-clause-cached c = cached_that _ _ _ _ c.in-Setlkw.is tt

-- ---- Getlk

pub getlk-requires-clause-right : goal.getlk-requires-clause-right
getlk-requires-clause-right c =
    right_that c.requires.right (named_four c.named_by-named.ensures.number call.Getlk c.in-Getlk.is refl (search (rules, to_z-of_z)) (search (rules, to_z-of_z)) (search (rules, to_z-of_z)))

pub returns-in-Getlk-clause-uses : goal.returns-in-Getlk-clause-uses
returns-in-Getlk-clause-uses c = uses_nothing _ _ _ _ c.getlk.ensures.takes

pub returns-in-Getlk-clause-does : goal.returns-in-Getlk-clause-does
returns-in-Getlk-clause-does c =
    serves_that (named_four c.named_by-named.ensures.number call.Getlk c.in-Getlk.is refl (search (rules, to_z-of_z)) (search (rules, to_z-of_z)) (search (rules, to_z-of_z))) c.getlk.ensures.does

pub returns-in-Getlk-clause-cached : goal.returns-in-Getlk-clause-cached
returns-in-Getlk-clause-cached c = cached_that _ _ _ _ c.in-Getlk.is tt
