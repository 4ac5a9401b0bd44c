-- Bytes of a node are put in a process's memory, and then maybe the offset moves.
use Rattle.std.proofs.Common.{◌≡◌, ℕ, ◌%◌, ℤ, pos, true, List, length, Option, Some, refl, ap, sym, subst, ◌∙◌}
use Rattle.kabi_types.specs.Arguments.{count_of}
use Rattle.kabi_types.specs.declared.calls.Call.{Call}
use Rattle.kabi_types.specs.declared.replies.Reply.TheVariants.{Val}
use Rattle.kabi_types.specs.declared.scripts.Script.{Script}
use Rattle.kheap_slabs.specs.Objects.{object, put as put_desc}
use Rattle.kheap_slabs.specs.Purse.{Purse}
use Rattle.kheap_slabs.specs.declared.objects.Desc.{Desc}
use Rattle.kheap_slabs.specs.declared.objects.Target.TheVariants as target
use Rattle.kheap_slabs.specs.Heap.{Heap}
use Rattle.kheap_slabs.specs.Paid.{IsPaid}
use Rattle.kheap_laws.proofs.PaidLemmas.{IsPaid-trans}
use Rattle.memfs_ops.specs.FileTree.{TreeView}
use Rattle.open_laws.specs.Described.{counted_in}
use Rattle.open_laws.specs.Open.{HaveFronts}
use Rattle.open_laws.specs.Placed.{Numbers}
use Rattle.posix_defs.specs.Account.{Account}
use Rattle.posix_defs.specs.Answer.{Answer, replied}
use Rattle.posix_defs.specs.Calls.Reading.{put}
use Rattle.posix_defs.specs.Files.Descriptions.{at_offset}
use Rattle.posix_defs.specs.Files.State.{Files, described_as}
use Rattle.posix_defs.specs.Memory.{after_put, stored}
use Rattle.posix_defs.specs.MemoryCalls.{frames_after, remembered}
use Rattle.posix_defs.specs.Plain.{Plain, with_files}
use Rattle.posix_defs.specs.Process.{memory_of, with_memory}
use Rattle.posix_defs.specs.Tree.{is_directory}
use Rattle.proc_table.specs.Accounting.{HasAccount}
use Rattle.proc_table.specs.Standing.{IsTable}
use Rattle.proc_table.specs.Table.{TableView}
use Rattle.proc_numbers.specs.Spaces.{HasSpace}
use Rattle.proc_numbers.specs.Standing.{IsKept, StandsFor}
use Rattle.proc_numbers.proofs.Remembering.{account_put, fronts_put, kept_put, open_put, table_put}
use Rattle.proc_files.specs.Holding.{CachesStay, HoldFiles}
use Rattle.proc_files.specs.Holders.{holders}
use Rattle.proc_files.specs.Reading.{LeadsHolding, ReadsNode}
use Rattle.proc_files.specs.Seeking.{MovesDesc, moved}
use Rattle.proc_files.specs.Closing.{CachesChange}
use Rattle.proc_files.proofs.Beside.{account_beside, fronts_beside, have_beside, kept_beside, space_beside, table_beside}
use Rattle.proc_files.proofs.Holding.{hold_moved, stands_on}
use Rattle.proc_files.proofs.Leading.{leads_so}
use Rattle.proc_files.proofs.Moved.{moved_account, moved_fronts, moved_kept, moved_table}

module _ (old : Heap) (before : Purse) (new : Heap) (after : Purse) (was now : TreeView) (space : List (Option ℕ)) (start : ℕ) (bytes : List ℕ)
    (reads : ReadsNode old before new after was now space start bytes) where
  abbrev mid : Heap
  mid = reads.mid

  pub fetched : CachesChange old mid
  fetched = subst (λ (h : Heap). h ≡ record old { vnodes = h.vnodes; names = h.names; blocks = h.blocks; high = h.high }) (sym reads.fetches.on.heap) refl

  pub read_paid : IsPaid old before new after
  read_paid = IsPaid-trans old before mid reads.spent new after reads.fetches.on.paid reads.puts.paid

  pub read_beside : new ≡ record old { nodes = new.nodes; pages = new.pages; blocks = new.blocks; high = new.high }
  read_beside =
      subst (λ (h : Heap). new ≡ record h { nodes = new.nodes; pages = new.pages; blocks = new.blocks; high = new.high }) reads.fetches.on.heap
      (reads.puts.moves.kept ∙ ap (λ b. record mid { nodes = new.nodes; pages = new.pages; blocks = b; high = new.high }) (sym (ap (λ (h : Heap). h.blocks) reads.puts.moves.kept)))

  -- and so once a Desc is at another offset
  pub moved_beside : (last : Heap) (key : ℕ) (desc : Desc) (offset : ℕ) → MovesDesc new last key desc offset
      → last ≡ record old { nodes = last.nodes; pages = last.pages; descs = last.descs; blocks = last.blocks; high = last.high }
  moved_beside last key desc offset moves =
      subst (λ (h : Heap). h ≡ record old { nodes = h.nodes; pages = h.pages; descs = h.descs; blocks = h.blocks; high = h.high }) (sym moves)
      (ap (λ (h : Heap). record h { descs = put_desc new.descs key (moved desc offset) }) read_beside)

  pub read_descs : new.descs ≡ old.descs
  read_descs = ap (λ (h : Heap). h.descs) read_beside

  caches_put : CachesStay mid new
  caches_put = record {
    vnodes = ap (λ (h : Heap). h.vnodes) reads.puts.moves.kept;
    names = ap (λ (h : Heap). h.names) reads.puts.moves.kept;
    blocks = ap (λ (h : Heap). h.blocks) reads.puts.moves.kept;
    size = ap (λ (h : Heap). h.heap) reads.puts.moves.kept;
  }

  module _ (kept : TableView) (pid : ℕ) (is : IsKept old kept) (has : HasSpace old kept pid space) where
    mid_kept : IsKept mid kept
    mid_kept = kept_beside old mid fetched kept is

    mid_space : HasSpace mid kept pid space
    mid_space = space_beside old mid fetched kept pid space has

    pub read_kept : IsKept new kept
    read_kept = kept_put mid reads.spent new after kept pid space start bytes mid_kept mid_space reads.puts

    module _ (numbers : Numbers) (others : ℕ → ℕ) (plain : Plain) (account : Account) (stands : StandsFor numbers old kept plain account) (hold : HoldFiles numbers others old kept was plain.files)
        (addr : ℤ) (begins : start ≡ count_of addr) where
      read_table : IsTable new kept (with_memory plain.table pid (stored (memory_of plain.table pid) (count_of addr) bytes))
      read_table =
          subst (λ a. IsTable new kept (with_memory plain.table pid (stored (memory_of plain.table pid) a bytes))) begins
          (table_put mid reads.spent new after kept pid space start bytes mid_kept mid_space reads.puts plain.table (table_beside old mid fetched kept plain.table stands.table))

      read_account : HasAccount new kept (after_put account.frames pid (count_of addr) (length bytes))
      read_account =
          subst (λ a. HasAccount new kept (after_put account.frames pid a (length bytes))) begins
          (account_put mid reads.spent new after kept pid space start bytes mid_kept mid_space reads.puts account.frames (account_beside old mid fetched kept account.frames stands.frames))

      read_fronts : HaveFronts numbers new account
      read_fronts = fronts_put mid reads.spent new after kept pid space start bytes mid_kept mid_space reads.puts numbers account account refl refl (fronts_beside old mid fetched numbers account stands.fronts)

      pub read_hold : HoldFiles numbers others new kept now plain.files
      read_hold = record {
        opened = open_put mid reads.spent new after kept pid space start bytes mid_kept mid_space reads.puts numbers plain.files
            (have_beside old mid fetched numbers kept plain.files plain.files refl refl refl refl refl hold.opened);
        tree = stands_on mid new now plain.files.tree (holders others plain.files) caches_put (reads.fetches.stands plain.files.tree (holders others plain.files) hold.tree);
        nodes = hold.nodes;
        beside = hold.beside;
      }

      module _ (script : Script) (which : Call) (answer : Answer) (count : ℕ) (counted : count ≡ length bytes)
          (frames_so : frames_after account.frames pid which (Val (pos count)) ≡ after_put account.frames pid (count_of addr) count) where
        -- the offset stays
        pub leads_put : answer ≡ put script plain pid addr bytes → LeadsHolding script numbers others new kept now plain account pid which answer (Val (pos count))
        leads_put is_so =
            leads_so script numbers others new kept now plain (remembered plain pid (stored (memory_of plain.table pid) (count_of addr) bytes)) account pid which read_kept read_table read_hold read_fronts
            refl refl refl answer (Val (pos count)) (after_put account.frames pid (count_of addr) (length bytes))
            (is_so ∙ ap (λ k. replied script (remembered plain pid (stored (memory_of plain.table pid) (count_of addr) bytes)) pid (Val (pos k))) (sym counted))
            (frames_so ∙ ap (after_put account.frames pid (count_of addr)) counted) read_account

        -- or it moves
        module _ (last : Heap) (key node : ℕ) (desc : Desc) (offset : ℕ) (there : object old.descs key ≡ Some desc) (on : desc.target ≡ target.Inode node)
            (moves : MovesDesc new last key desc offset) (between : is_directory plain.files.tree node ≡ true → offset % 32 ≡ 0) where
          there_now : object new.descs key ≡ Some desc
          there_now = ap (λ (d : List (Option Desc)). object d key) read_descs ∙ there

          abbrev files_then : Files
          files_then = described_as plain.files (numbers.descs key) (at_offset (counted_in numbers desc).is offset)

          abbrev then : Plain
          then = remembered (with_files plain files_then) pid (stored (memory_of plain.table pid) (count_of addr) bytes)

          pub last_kept : IsKept last kept
          last_kept = moved_kept new last key desc offset there_now moves kept read_kept

          last_hold : HoldFiles numbers others last kept now files_then
          last_hold =
              subst (λ (h : Heap). HoldFiles numbers others h kept now files_then) (sym moves)
              (hold_moved new kept now key node desc offset there_now on numbers others plain.files between read_hold)

          pub leads_moved : answer ≡ put script (with_files plain files_then) pid addr bytes → LeadsHolding script numbers others last kept now plain account pid which answer (Val (pos count))
          leads_moved is_so =
              leads_so script numbers others last kept now plain then account pid which last_kept
              (moved_table new last key desc offset there_now moves kept _ read_table) last_hold (moved_fronts new last key desc offset there_now moves numbers account read_fronts)
              refl refl refl answer (Val (pos count)) (after_put account.frames pid (count_of addr) (length bytes))
              (is_so ∙ ap (λ k. replied script then pid (Val (pos k))) (sym counted))
              (frames_so ∙ ap (after_put account.frames pid (count_of addr)) counted)
              (moved_account new last key desc offset there_now moves kept _ read_account)
