-- What the machine answers to a call on a number, by what the number names in the heap; and where a seek leads.
use Rattle.std.proofs.Common.{◌≡◌, ◌≢◌, ◌⊎◌, ℕ, zero, suc, ◌%◌, ◌==◌, ◌&&◌, ◌+ℤ◌, ℤ, pos, negsuc, not, Bool, true, false, cond, List, None, Some, refl, ap, sym, subst, ◌∙◌, inl, inr}
use Rattle.std.specs.Prelude.{IfOk, OnErr, nat_lt, Result, Ok, Err}
use Rattle.std.proofs.lemmas.Bool.Decides.{eqb_tells}
use Rattle.kabi_types.specs.Arguments.{count_of}
use Rattle.kabi_types.specs.declared.errnos.Errno.{Errno}
use Rattle.kabi_types.specs.declared.errnos.Errno.TheVariants.{EBADF, EINVAL, EOVERFLOW, ESPIPE}
use Rattle.kabi_types.specs.declared.replies.Reply.TheVariants.{Stat, Val}
use Rattle.kabi_types.specs.declared.replies.StatInfo.{StatInfo}
use Rattle.kabi_types.specs.declared.scripts.Script.{Script}
use Rattle.kheap_slabs.specs.Objects.{object}
use Rattle.kheap_slabs.specs.declared.objects.Target.{Target}
use Rattle.kheap_slabs.specs.declared.objects.Target.TheVariants as target
use Rattle.kheap_slabs.specs.Heap.{Heap}
use Rattle.memfs_ops.specs.FileTree.{Stands, TreeView}
use Rattle.open_laws.specs.Described.{counted_in, inode_in, target_in}
use Rattle.open_laws.specs.Owned.{HasItsOwners}
use Rattle.open_laws.specs.Placed.{Numbers}
use Rattle.posix_defs.specs.Answer.{Answer, failed, replied}
use Rattle.posix_defs.specs.Calls.OnFiles.{fstat, greatest_offset, info_of, is_between_entries, lseek, origin, seek_target, seek_to}
use Rattle.posix_defs.specs.Calls.Opened.{Opened, answer_on, moved_to, opened_at}
use Rattle.posix_defs.specs.Files.Descriptions.{at_offset}
use Rattle.posix_defs.specs.Files.State.{described_as}
use Rattle.posix_defs.specs.PathCalls.{stat_info}
use Rattle.posix_defs.specs.Plain.{Plain}
use Rattle.posix_defs.specs.Tree.{Tree, is_directory, size_at}
use Rattle.proc_numbers.specs.Found.{opened_in}
use Rattle.proc_numbers.specs.declared.lookups.Found.{Found}
use Rattle.proc_numbers.specs.Having.{AreListed}
use Rattle.proc_numbers.specs.Answering.{value_of}
use Rattle.proc_table.specs.Table.{TableView}
use Rattle.proc_files.specs.Answering.{AnswersHolding}
use Rattle.proc_files.specs.Holding.{HoldFiles, HoldSome}
use Rattle.proc_files.specs.Seeking.{MovesDesc, between_entries, offset_at, origin_in, sought}
use Rattle.proc_files.proofs.Holding.{hold_moved, hold_on, some_on}
use Rattle.proc_files.proofs.Moved.{moved_listed, moved_owners}

-- the description at the offset that was sought, or the fault
abbrev pub seek_led : Script → Plain → ℕ → Opened → Result ℕ Errno → Answer
seek_led script plain pid opened (Ok place) = replied script (moved_to plain opened place) pid (Val (pos place))
seek_led script plain pid opened (Err errno) = failed script plain pid errno

origin_same : (tree : Tree) (opened : Opened) (number whence : ℕ) → origin tree opened number whence ≡ origin_in whence opened.is.offset (size_at tree number)
origin_same tree opened number zero = refl
origin_same tree opened number (suc zero) = refl
origin_same tree opened number (suc (suc _)) = refl

module _ (script : Script) (plain : Plain) (pid : ℕ) (opened : Opened) (number : ℕ) where
  led : (to : ℤ) → seek_to script plain pid opened number to ≡ seek_led script plain pid opened (between_entries (is_directory plain.files.tree number) (offset_at to))
  led (negsuc _) = refl
  led (pos place) = by_size (nat_lt greatest_offset place)
    where
      by_entry : (b : Bool) → cond b (failed script plain pid EINVAL) (replied script (moved_to plain opened place) pid (Val (pos place)))
          ≡ seek_led script plain pid opened (cond b (Err EINVAL) (Ok place))
      by_entry true = refl
      by_entry false = refl

      by_size : (b : Bool)
          → cond b (failed script plain pid EOVERFLOW) (cond (is_between_entries plain.files.tree number place) (failed script plain pid EINVAL) (replied script (moved_to plain opened place) pid (Val (pos place))))
          ≡ seek_led script plain pid opened (between_entries (is_directory plain.files.tree number) (cond b (Err EOVERFLOW) (Ok place)))
      by_size true = refl
      by_size false = by_entry (is_directory plain.files.tree number && not (place % 32 == 0))

  pub seeks : (offset : ℤ) (whence : ℕ) → seek_to script plain pid opened number (pos (origin plain.files.tree opened number whence) +ℤ offset)
      ≡ seek_led script plain pid opened (between_entries (is_directory plain.files.tree number) (offset_at (pos (origin_in whence opened.is.offset (size_at plain.files.tree number)) +ℤ offset)))
  seeks offset whence =
      ap (λ from. seek_to script plain pid opened number (pos from +ℤ offset)) (origin_same plain.files.tree opened number whence)
      ∙ led (pos (origin_in whence opened.is.offset (size_at plain.files.tree number)) +ℤ offset)

-- what is sought, by what was told of the node
pub sought_is : (plain : Tree) (node had : ℕ) (offset whence : ℤ) (info : StatInfo) (from : ℕ) (r : Result ℕ Errno) → info ≡ stat_info plain node → from ≡ origin_in (count_of whence) had info.size
    → r ≡ offset_at (pos from +ℤ offset) → sought plain node had offset whence ≡ between_entries (is_directory plain node) r
sought_is plain node had offset whence info from r told origin led =
    sym (ap (between_entries (is_directory plain node)) (led ∙ ap (λ o. offset_at (pos o +ℤ offset)) (origin ∙ ap (λ (i : StatInfo). origin_in (count_of whence) had i.size) told)))

-- ---- by what a number names

module _ (script : Script) (numbers : Numbers) (plain : Plain) (pid : ℕ) (fd : ℤ) where
  -- a number that isn't open
  pub fstat_bad : opened_at plain.files pid fd ≡ None → fstat script plain pid fd ≡ failed script plain pid EBADF
  unfolding fstat
  fstat_bad none = ap (answer_on script plain pid (λ opened. replied script plain pid (Stat (info_of plain.files opened.is.target)))) none

  pub lseek_bad : (offset whence : ℤ) → opened_at plain.files pid fd ≡ None → lseek script plain pid fd offset whence ≡ failed script plain pid EBADF
  unfolding lseek
  lseek_bad offset whence none =
      ap (answer_on script plain pid (λ opened. seek_target script plain pid opened offset (count_of whence) opened.is.target)) none

  module _ (it : Found) (found : opened_at plain.files pid fd ≡ Some (opened_in numbers it)) where
    -- one that is
    pub fstat_is : fstat script plain pid fd ≡ replied script plain pid (Stat (info_of plain.files (target_in numbers it.desc.target)))
    unfolding fstat
    fstat_is = ap (answer_on script plain pid (λ opened. replied script plain pid (Stat (info_of plain.files opened.is.target)))) found

    lseek_is : (offset whence : ℤ) → lseek script plain pid fd offset whence ≡ seek_target script plain pid (opened_in numbers it) offset (count_of whence) (target_in numbers it.desc.target)
    unfolding lseek
    lseek_is offset whence =
        ap (answer_on script plain pid (λ opened. seek_target script plain pid opened offset (count_of whence) opened.is.target)) found

    -- on what has no node
    pub lseek_refused : (offset whence : ℤ) → inode_in it.desc.target ≡ None → lseek script plain pid fd offset whence ≡ failed script plain pid ESPIPE
    lseek_refused offset whence none = lseek_is offset whence ∙ by_target it.desc.target none
      where
        by_target : (what : Target) → inode_in what ≡ None → seek_target script plain pid (opened_in numbers it) offset (count_of whence) (target_in numbers what) ≡ failed script plain pid ESPIPE
        by_target (target.Inode number) none = cc
        by_target (target.Pipe key) none = refl
        by_target (target.Sock key) none = refl

    -- on a node
    pub lseek_leads : (offset whence : ℤ) (number : ℕ) → it.desc.target ≡ target.Inode number
        → lseek script plain pid fd offset whence ≡ seek_led script plain pid (opened_in numbers it) (sought plain.files.tree number it.desc.offset offset whence)
    lseek_leads offset whence number on =
        lseek_is offset whence
        ∙ ap (λ what. seek_target script plain pid (opened_in numbers it) offset (count_of whence) (target_in numbers what)) on
        ∙ seeks script plain pid (opened_in numbers it) number offset (count_of whence)

-- ---- what a seek leads to

-- an offset that is sought in a directory lies between two entries
sought_between : (directory : Bool) (r : Result ℕ Errno) (place : ℕ) → between_entries directory r ≡ Ok place → directory ≡ true → place % 32 ≡ 0
sought_between directory (Err errno) place is dir = absurd (cc)
sought_between false (Ok at) place is dir = absurd (cc)
sought_between true (Ok at) place is dir = by_place (eqb_tells (at % 32) 0) is
  where
    same : (one other : ℕ) → ◌≡◌ {A = Result ℕ Errno} (Ok one) (Ok other) → one ≡ other
    same one other e = cc

    apart : ◌≡◌ {A = Result ℕ Errno} (Err EINVAL) (Ok place) → ⊥
    apart e = cc

    by_place : (((at % 32 == 0) ≡ true) × (at % 32 ≡ 0)) ⊎ (((at % 32 == 0) ≡ false) × (at % 32 ≢ 0)) → ◌≡◌ {A = Result ℕ Errno} (cond (not (at % 32 == 0)) (Err EINVAL) (Ok at)) (Ok place) → place % 32 ≡ 0
    by_place (inl whole) e =
        let it : at ≡ place = same at place (sym (ap (λ b. cond {A = Result ℕ Errno} (not b) (Err EINVAL) (Ok at)) whole.0) ∙ e) in
        ap (λ k. k % 32) (sym it) ∙ whole.1
    by_place (inr part) e = absurd (apart (sym (ap (λ b. cond {A = Result ℕ Errno} (not b) (Err EINVAL) (Ok at)) part.0) ∙ e))

module _ (numbers : Numbers) (others : ℕ → ℕ) (old new : Heap) (kept : TableView) (fs now : TreeView) (script : Script) (plain : Plain) (pid : ℕ) (fd offset whence : ℤ) (it : Found) (node : ℕ)
    (hold : HoldFiles numbers others old kept now plain.files) (found : opened_at plain.files pid fd ≡ Some (opened_in numbers it)) (there : object old.descs it.key ≡ Some it.desc)
    (on : it.desc.target ≡ target.Inode node) where
  pub seek_holds : (r : Result ℕ Errno) → r ≡ sought plain.files.tree node it.desc.offset offset whence → IfOk r (λ place. MovesDesc old new it.key it.desc place) → OnErr r (new ≡ old)
      → AnswersHolding numbers others new kept now script plain pid (lseek script plain pid fd offset whence) (value_of r)
  seek_holds (Ok place) is moves same = record {
    files = described_as plain.files (numbers.descs it.key) (at_offset (counted_in numbers it.desc).is place);
    replies = lseek_leads script numbers plain pid fd it found offset whence node on ∙ ap (seek_led script plain pid (opened_in numbers it)) (sym is);
    holds =
        subst (λ (h : Heap). HoldFiles numbers others h kept now (described_as plain.files (numbers.descs it.key) (at_offset (counted_in numbers it.desc).is place))) (sym moves)
        (hold_moved old kept now it.key node it.desc place there on numbers others plain.files (sought_between (is_directory plain.files.tree node) _ place (sym is)) hold);
  }
  seek_holds (Err errno) is moves same = record {
    files = plain.files;
    replies = lseek_leads script numbers plain pid fd it found offset whence node on ∙ ap (seek_led script plain pid (opened_in numbers it)) (sym is);
    holds = subst (λ (h : Heap). HoldFiles numbers others h kept now plain.files) (sym same) hold;
  }

-- ---- what a seek leaves

module _ (old new : Heap) (it : Found) where
  pub seek_listed : (kept : TableView) (r : Result ℕ Errno) → object old.descs it.key ≡ Some it.desc → IfOk r (λ place. MovesDesc old new it.key it.desc place) → OnErr r (new ≡ old) → AreListed old kept
      → AreListed new kept
  seek_listed kept (Ok place) there moves same listed = moved_listed old new it.key it.desc place there moves kept listed
  seek_listed kept (Err errno) there moves same listed = subst (λ (h : Heap). AreListed h kept) (sym same) listed

  pub seek_owners : (r : Result ℕ Errno) → object old.descs it.key ≡ Some it.desc → IfOk r (λ place. MovesDesc old new it.key it.desc place) → OnErr r (new ≡ old) → (hand : List ℕ) → HasItsOwners old hand
      → HasItsOwners new hand
  seek_owners (Ok place) there moves same hand owners = moved_owners old new it.key it.desc place there moves hand owners
  seek_owners (Err errno) there moves same hand owners = subst (λ (h : Heap). HasItsOwners h hand) (sym same) owners

  pub seek_beside : (r : Result ℕ Errno) → object old.descs it.key ≡ Some it.desc → IfOk r (λ place. MovesDesc old new it.key it.desc place) → OnErr r (new ≡ old) → new ≡ record old { descs = new.descs }
  seek_beside (Ok place) there moves same = subst (λ (h : Heap). h ≡ record old { descs = h.descs }) (sym moves) refl
  seek_beside (Err errno) there moves same = subst (λ (h : Heap). h ≡ record old { descs = h.descs }) (sym same) refl

  pub seek_some : (kept : TableView) (fs now : TreeView) (node : ℕ) (some : HoldSome old kept fs) → ((tree : Tree) (pins : ℕ → ℕ) → Stands old fs tree pins → Stands old now tree pins)
      → object old.descs it.key ≡ Some it.desc → it.desc.target ≡ target.Inode node → (r : Result ℕ Errno) (offset whence : ℤ) → r ≡ sought some.files.tree node it.desc.offset offset whence
      → IfOk r (λ place. MovesDesc old new it.key it.desc place) → OnErr r (new ≡ old) → HoldSome new kept now
  seek_some kept fs now node some stands there on (Ok place) offset whence is moves same = record {
    numbers = some.numbers;
    others = some.others;
    files = described_as some.files (some.numbers.descs it.key) (at_offset (counted_in some.numbers it.desc).is place);
    hold =
        subst (λ (h : Heap). HoldFiles some.numbers some.others h kept now (described_as some.files (some.numbers.descs it.key) (at_offset (counted_in some.numbers it.desc).is place))) (sym moves)
        (hold_moved old kept now it.key node it.desc place there on some.numbers some.others some.files (sought_between (is_directory some.files.tree node) _ place (sym is))
        (hold_on some.numbers some.others old kept fs now some.files stands some.hold));
  }
  seek_some kept fs now node some stands there on (Err errno) offset whence is moves same =
      subst (λ (h : Heap). HoldSome h kept now) (sym same) (some_on old kept fs now stands some)
