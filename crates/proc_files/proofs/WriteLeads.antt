-- What a call that writes a node leads to.
use Rattle.std.proofs.Common.{◌≡◌, ℕ, ◌+◌, ◌<◌, pos, true, false, List, Option, Some, refl, ap, sym, subst, ◌∙◌}
use Rattle.std.specs.Prelude.{Result, Ok, Err}
use Rattle.kabi_types.specs.declared.calls.Call.{Call}
use Rattle.kabi_types.specs.declared.errnos.Errno.{Errno}
use Rattle.kabi_types.specs.declared.replies.Reply.TheVariants.{Fail, Val}
use Rattle.kabi_types.specs.declared.scripts.Script.{Script}
use Rattle.kheap_slabs.specs.Objects.{object, put}
use Rattle.kheap_slabs.specs.declared.objects.Desc.{Desc}
use Rattle.kheap_slabs.specs.declared.objects.Target.TheVariants as target
use Rattle.kheap_slabs.specs.Heap.{Heap}
use Rattle.memfs_ops.specs.Changing.{ChangedTo, LedTo}
use Rattle.memfs_ops.specs.FileTree.{Stands, TreeView}
use Rattle.open_laws.specs.Described.{counted_in}
use Rattle.open_laws.specs.Placed.{Numbers}
use Rattle.posix_defs.specs.Account.{Account}
use Rattle.posix_defs.specs.Answer.{Answer, replied}
use Rattle.posix_defs.specs.Calls.OnFiles.{resized_to}
use Rattle.posix_defs.specs.Calls.Opened.{Opened}
use Rattle.posix_defs.specs.Calls.Writing.{wrote, wrote_at}
use Rattle.posix_defs.specs.Files.Descriptions.{at_offset}
use Rattle.posix_defs.specs.Files.State.{Files, described_as, with_tree}
use Rattle.posix_defs.specs.DiskFormat.{greatest_size}
use Rattle.posix_defs.specs.MemoryCalls.{frames_after}
use Rattle.posix_defs.specs.Plain.{Plain, with_files}
use Rattle.posix_defs.specs.Tree.{Tree, is_directory}
use Rattle.posix_defs.specs.TreeChanges.{resize, write as tree_write}
use Rattle.proc_numbers.specs.Answering.{value_of, zero_of}
use Rattle.proc_table.specs.Table.{TableView}
use Rattle.proc_numbers.specs.Standing.{IsKept, StandsFor}
use Rattle.proc_files.specs.Answering.{AnswersHolding}
use Rattle.proc_files.specs.Closing.{CachesChange}
use Rattle.proc_files.specs.Holding.{HasSameKinds, HoldFiles, HoldSome}
use Rattle.proc_files.specs.Holders.{holders}
use Rattle.proc_files.specs.Reading.{LeadsHolding}
use Rattle.proc_files.specs.Seeking.{MovesDesc, moved}
use Rattle.proc_files.proofs.Beside.{account_beside, fronts_beside, kept_beside, same_descs, table_beside}
use Rattle.proc_files.proofs.Holding.{hold_moved, hold_on}
use Rattle.proc_files.proofs.Leading.{leads_so}
use Rattle.proc_files.proofs.Moved.{moved_account, moved_fronts, moved_kept, moved_table}
use Rattle.proc_files.proofs.Written.{hold_written, resize_kinds, write_ends, write_kinds}

same_kinds : (tree : Tree) → HasSameKinds tree tree
same_kinds tree = record { used = λ number. refl; directories = λ number. refl; sockets = λ number. refl; fifos = λ number. refl }

ok_same : {X : Type 0} (one other : X) → ◌≡◌ {A = Result X Errno} (Ok one) (Ok other) → one ≡ other
ok_same one other e = cc

err_same : {X : Type 0} (one other : Errno) → ◌≡◌ {A = Result X Errno} (Err one) (Err other) → one ≡ other
err_same one other e = cc

not_ok : {X : Type 0} (x : X) (errno : Errno) → ◌≡◌ {A = Result X Errno} (Err errno) (Ok x) → ⊥
not_ok x errno e = cc

not_err : {X : Type 0} (x : X) (errno : Errno) → ◌≡◌ {A = Result X Errno} (Ok x) (Err errno) → ⊥
not_err x errno e = cc

-- ---- ftruncate

module _ (script : Script) (numbers : Numbers) (others : ℕ → ℕ) (old new : Heap) (kept : TableView) (fs now : TreeView) (plain : Plain) (pid node size : ℕ) (caches : CachesChange old new)
    (hold : HoldFiles numbers others old kept fs plain.files) (answer : Answer) where
  resized_so : (r : Result Tree Errno) (done : Result (Unit {0}) Errno) → resize plain.files.tree node size ≡ r → ChangedTo new now plain.files.tree r (holders others plain.files) done
      → answer ≡ resized_to script plain pid r → AnswersHolding numbers others new kept now script plain pid answer (zero_of done)
  resized_so (Ok next) done is led said =
      subst (λ d. AnswersHolding numbers others new kept now script plain pid answer (zero_of d)) (sym led.0)
      (record {
        files = with_tree plain.files next;
        replies = said;
        holds = hold_written numbers others old new kept fs now plain.files next hold caches (resize_kinds plain.files.tree node size next is) led.1;
      })
  resized_so (Err errno) done is led said =
      subst (λ d. AnswersHolding numbers others new kept now script plain pid answer (zero_of d)) (sym led.0)
      (record {
        files = plain.files;
        replies = said;
        holds = hold_written numbers others old new kept fs now plain.files plain.files.tree hold caches (same_kinds plain.files.tree) led.1;
      })

  pub truncated : (done : Result (Unit {0}) Errno) → ChangedTo new now plain.files.tree (resize plain.files.tree node size) (holders others plain.files) done
      → answer ≡ resized_to script plain pid (resize plain.files.tree node size) → AnswersHolding numbers others new kept now script plain pid answer (zero_of done)
  truncated done led said = resized_so (resize plain.files.tree node size) done refl led said

-- they stand for some files then
resized_some : (numbers : Numbers) (others : ℕ → ℕ) (old new : Heap) (kept : TableView) (fs now : TreeView) (files : Files) (node size : ℕ) → CachesChange old new → HoldFiles numbers others old kept fs files
    → (r : Result Tree Errno) (done : Result (Unit {0}) Errno) → resize files.tree node size ≡ r → ChangedTo new now files.tree r (holders others files) done → HoldSome new kept now
resized_some numbers others old new kept fs now files node size caches hold (Ok next) done is led = record {
  numbers = numbers;
  others = others;
  files = with_tree files next;
  hold = hold_written numbers others old new kept fs now files next hold caches (resize_kinds files.tree node size next is) led.1;
}
resized_some numbers others old new kept fs now files node size caches hold (Err errno) done is led = record {
  numbers = numbers;
  others = others;
  files = files;
  hold = hold_written numbers others old new kept fs now files files.tree hold caches (same_kinds files.tree) led.1;
}

pub truncated_some : (old new : Heap) (kept : TableView) (fs mid now : TreeView) (node size : ℕ) (done : Result (Unit {0}) Errno) → CachesChange old new → (some : HoldSome old kept fs)
    → ((tree : Tree) (pins : ℕ → ℕ) → Stands old fs tree pins → Stands old mid tree pins)
    → ((tree : Tree) (pins : ℕ → ℕ) → Stands old mid tree pins → ChangedTo new now tree (resize tree node size) pins done) → HoldSome new kept now
truncated_some old new kept fs mid now node size done caches some stands led =
    let hold = hold_on some.numbers some.others old kept fs mid some.files stands some.hold in
    resized_some some.numbers some.others old new kept mid now some.files node size caches hold (resize some.files.tree node size) done refl (led some.files.tree (holders some.others some.files) hold.tree)

-- ---- writes

-- a write that goes begins below the greatest size
below : (h : Heap) (fs : TreeView) (tree : Tree) (node at : ℕ) (bytes : List ℕ) (pins : ℕ → ℕ) (count : ℕ) (r : Result (ℕ × Tree) Errno) → tree_write tree node at bytes ≡ r → LedTo h fs tree r pins (Ok count) → at < greatest_size
below h fs tree node at bytes pins count (Ok (made, next)) is led = write_ends tree node at bytes made next is
below h fs tree node at bytes pins count (Err errno) is led = absurd (not_err count errno led.0)

pub write_below : (h : Heap) (fs : TreeView) (tree : Tree) (node at : ℕ) (bytes : List ℕ) (pins : ℕ → ℕ) (count : ℕ) → LedTo h fs tree (tree_write tree node at bytes) pins (Ok count) → at < greatest_size
write_below h fs tree node at bytes pins count led = below h fs tree node at bytes pins count (tree_write tree node at bytes) refl led

-- what else the heap has then
pub unmoved_beside : (old new : Heap) → CachesChange old new → new ≡ record old { descs = new.descs; vnodes = new.vnodes; names = new.names; blocks = new.blocks; high = new.high }
unmoved_beside old new caches = subst (λ (h : Heap). h ≡ record old { descs = h.descs; vnodes = h.vnodes; names = h.names; blocks = h.blocks; high = h.high }) (sym caches) refl

pub written_beside : (old mid new : Heap) → CachesChange old mid → (key : ℕ) (desc : Desc) (offset : ℕ) → MovesDesc mid new key desc offset
    → new ≡ record old { descs = new.descs; vnodes = new.vnodes; names = new.names; blocks = new.blocks; high = new.high }
written_beside old mid new caches key desc offset moves =
    subst (λ (h : Heap). h ≡ record old { descs = h.descs; vnodes = h.vnodes; names = h.names; blocks = h.blocks; high = h.high }) (sym moves)
    (ap (λ (h : Heap). record h { descs = put mid.descs key (moved desc offset) }) caches)

module _ (script : Script) (numbers : Numbers) (others : ℕ → ℕ) (old mid : Heap) (kept : TableView) (fs now : TreeView) (plain : Plain) (account : Account) (pid : ℕ) (which : Call) (is : IsKept old kept)
    (stands : StandsFor numbers old kept plain account) (hold : HoldFiles numbers others old kept fs plain.files) (caches : CachesChange old mid) (answer : Answer) (node at : ℕ) (bytes : List ℕ) where
  pub kept_then : IsKept mid kept
  kept_then = kept_beside old mid caches kept is

  -- the offset stays
  pwrote : (r : Result (ℕ × Tree) Errno) (result : Result ℕ Errno) → tree_write plain.files.tree node at bytes ≡ r → LedTo mid now plain.files.tree r (holders others plain.files) result
      → answer ≡ wrote_at script plain pid r → ((count : ℕ) → frames_after account.frames pid which (Val (pos count)) ≡ account.frames)
      → LeadsHolding script numbers others mid kept now plain account pid which answer (value_of result)
  pwrote (Ok (count, next)) result so led said frames =
      subst (λ r. LeadsHolding script numbers others mid kept now plain account pid which answer (value_of r)) (sym led.0)
      (leads_so script numbers others mid kept now plain (with_files plain (with_tree plain.files next)) account pid which kept_then (table_beside old mid caches kept plain.table stands.table)
      (hold_written numbers others old mid kept fs now plain.files next hold caches (write_kinds plain.files.tree node at bytes count next so) led.1)
      (fronts_beside old mid caches numbers account stands.fronts) refl refl refl answer (Val (pos count)) account.frames said (frames count) (account_beside old mid caches kept account.frames stands.frames))
  pwrote (Err errno) result so led said frames =
      subst (λ r. LeadsHolding script numbers others mid kept now plain account pid which answer (value_of r)) (sym led.0)
      (leads_so script numbers others mid kept now plain plain account pid which kept_then (table_beside old mid caches kept plain.table stands.table)
      (hold_written numbers others old mid kept fs now plain.files plain.files.tree hold caches (same_kinds plain.files.tree) led.1)
      (fronts_beside old mid caches numbers account stands.fronts) refl refl refl answer (Fail errno) account.frames said refl (account_beside old mid caches kept account.frames stands.frames))

  pub pwrites : (result : Result ℕ Errno) → LedTo mid now plain.files.tree (tree_write plain.files.tree node at bytes) (holders others plain.files) result
      → answer ≡ wrote_at script plain pid (tree_write plain.files.tree node at bytes) → ((count : ℕ) → frames_after account.frames pid which (Val (pos count)) ≡ account.frames)
      → LeadsHolding script numbers others mid kept now plain account pid which answer (value_of result)
  pwrites result led said frames = pwrote (tree_write plain.files.tree node at bytes) result refl led said frames

  -- nothing could be written
  unwritten : (opened : Opened) (r : Result (ℕ × Tree) Errno) (errno : Errno) → LedTo mid now plain.files.tree r (holders others plain.files) (Err errno) → answer ≡ wrote script plain pid opened at r
      → LeadsHolding script numbers others mid kept now plain account pid which answer (Fail errno)
  unwritten opened (Ok (count, next)) errno led said = absurd (not_ok count errno led.0)
  unwritten opened (Err other) errno led said =
      subst (λ e. LeadsHolding script numbers others mid kept now plain account pid which answer (Fail e)) (sym (err_same errno other led.0))
      (leads_so script numbers others mid kept now plain plain account pid which kept_then (table_beside old mid caches kept plain.table stands.table)
      (hold_written numbers others old mid kept fs now plain.files plain.files.tree hold caches (same_kinds plain.files.tree) led.1)
      (fronts_beside old mid caches numbers account stands.fronts) refl refl refl answer (Fail other) account.frames said refl (account_beside old mid caches kept account.frames stands.frames))

  pub writes_nothing : (opened : Opened) (errno : Errno) → LedTo mid now plain.files.tree (tree_write plain.files.tree node at bytes) (holders others plain.files) (Err errno)
      → answer ≡ wrote script plain pid opened at (tree_write plain.files.tree node at bytes) → LeadsHolding script numbers others mid kept now plain account pid which answer (Fail errno)
  writes_nothing opened errno led said = unwritten opened (tree_write plain.files.tree node at bytes) errno led said

  -- the offset moves
  module _ (last : Heap) (key : ℕ) (desc : Desc) (count : ℕ) (there : object old.descs key ≡ Some desc) (on : desc.target ≡ target.Inode node) (file : is_directory plain.files.tree node ≡ false)
      (moves : MovesDesc mid last key desc (at + count)) where
    there_mid : object mid.descs key ≡ Some desc
    there_mid = ap (λ (d : List (Option Desc)). object d key) (same_descs old mid caches) ∙ there

    pub kept_last : IsKept last kept
    kept_last = moved_kept mid last key desc (at + count) there_mid moves kept kept_then

    opened : Opened
    opened = record { place = numbers.descs key; is = (counted_in numbers desc).is }

    written : (r : Result (ℕ × Tree) Errno) → tree_write plain.files.tree node at bytes ≡ r → LedTo mid now plain.files.tree r (holders others plain.files) (Ok count)
        → answer ≡ wrote script plain pid opened at r → frames_after account.frames pid which (Val (pos count)) ≡ account.frames
        → LeadsHolding script numbers others last kept now plain account pid which answer (Val (pos count))
    unfolding opened
    written (Ok (made, next)) so led said frames =
        let same : count ≡ made = ok_same count made led.0 in
        let kinds = write_kinds plain.files.tree node at bytes made next so in
        let files : Files = described_as (with_tree plain.files next) (numbers.descs key) (at_offset (counted_in numbers desc).is (at + count)) in
        leads_so script numbers others last kept now plain (with_files plain files) account pid which kept_last
        (moved_table mid last key desc (at + count) there_mid moves kept plain.table (table_beside old mid caches kept plain.table stands.table))
        (subst (λ (h : Heap). HoldFiles numbers others h kept now files) (sym moves)
        (hold_moved mid kept now key node desc (at + count) there_mid on numbers others (with_tree plain.files next)
        (λ directory. absurd (let both : true ≡ false = sym directory ∙ kinds.directories node ∙ file in cc))
        (hold_written numbers others old mid kept fs now plain.files next hold caches kinds led.1)))
        (moved_fronts mid last key desc (at + count) there_mid moves numbers account (fronts_beside old mid caches numbers account stands.fronts)) refl refl refl answer (Val (pos count)) account.frames
        (said
        ∙ ap
        (λ k. replied script (with_files plain (described_as (with_tree plain.files next) (numbers.descs key) (at_offset (counted_in numbers desc).is (at + k)))) pid (Val (pos k)))
        (sym same))
        frames (moved_account mid last key desc (at + count) there_mid moves kept account.frames (account_beside old mid caches kept account.frames stands.frames))
    written (Err errno) so led said frames = absurd (not_err count errno led.0)

    pub writes_some : LedTo mid now plain.files.tree (tree_write plain.files.tree node at bytes) (holders others plain.files) (Ok count)
        → answer ≡ wrote script plain pid (record { place = numbers.descs key; is = (counted_in numbers desc).is }) at (tree_write plain.files.tree node at bytes)
        → frames_after account.frames pid which (Val (pos count)) ≡ account.frames → LeadsHolding script numbers others last kept now plain account pid which answer (Val (pos count))
    unfolding opened
    writes_some led said frames = written (tree_write plain.files.tree node at bytes) refl led said frames
