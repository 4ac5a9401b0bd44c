-- What a call waits for, beside what a number of another is open on.
use Rattle.std.proofs.Common.{◌≡◌, ℕ, ◌==◌, ◌||◌, ◌+◌, ◌<◌, ℤ, not, Bool, true, false, cond, is_none, List, [], ◌∷◌, drop, length, map, get_or, Option, None, Some, refl, ap, sym, ◌∙◌, subst}
use Rattle.std.specs.List.{list_any}
use Rattle.std.specs.Option.{option_map}
use Rattle.std.proofs.lemmas.List.{drop_more}
use borrow.Author.Tests.{eqb-true, eq-eqb}
use Rattle.kabi_types.specs.Arguments.{argument_fault}
use Rattle.kabi_types.specs.declared.calls.Call.{Call}
use Rattle.kabi_types.specs.declared.calls.Call.TheVariants as call
use Rattle.kabi_types.specs.declared.scripts.Script.{Script}
use Rattle.kabi_types.specs.declared.short_lists.PollEntry.{PollEntry}
use Rattle.kheap_slabs.specs.Heap.{Heap}
use Rattle.kheap_slabs.specs.Objects.{InUse}
use Rattle.kheap_slabs.specs.declared.objects.Target.{Target as Held}
use Rattle.kheap_slabs.specs.declared.objects.Target.TheVariants as held
use Rattle.open_laws.specs.Described.{target_in}
use Rattle.open_laws.specs.Owned.{HasItsOwners, IsThereFor}
use Rattle.open_laws.specs.Placed.{Numbers}
use Rattle.posix_defs.specs.Calls.Opened.{Opened}
use Rattle.posix_defs.specs.Files.Descriptions.{Target, OnNode, OnPipe, OnSocket}
use Rattle.posix_defs.specs.Files.State.{Files}
use Rattle.posix_defs.specs.Plain.{Plain, call_of}
use Rattle.proc_numbers.specs.declared.lookups.Found.{Found}
use Rattle.proc_numbers.specs.declared.lookups.Named.{Named}
use Rattle.proc_numbers.specs.Found.{IsOpened, opened_in}
use Rattle.proc_numbers.specs.Having.{HaveOpen}
use Rattle.proc_numbers.proofs.OpenedBy.{opened_is}
use Rattle.proc_table.specs.Table.{TableView}
use Rattle.prog_ctl.specs.Waits.{wait_of}
use Rattle.prog_ctl.specs.declared.waits.Awaited.{Awaited}
use Rattle.prog_ctl.specs.declared.waits.Awaited.TheVariants.{Bytes, Room, Peer, Events, OtherSide}
use Rattle.waking_laws.specs.Waking.{awaited, is_apart, meet, target_at}
use Rattle.call_run.specs.Touching.{IsOpenOn, MeetsNone, meet_in}

-- ---- by keys and by places

-- the machine's target of a number is that of the Desc that was found
pub target_found : (h : Heap) (kept : TableView) (pid : ℕ) (on : Named) (fd : ℤ) (numbers : Numbers) (files : Files) → IsOpened h kept pid on → on.fd ≡ fd → HaveOpen numbers h kept files
    → target_at files pid fd ≡ option_map (λ (found : Found). target_in numbers found.desc.target) on.found
target_found h kept pid on fd numbers files opened same have =
    ap (target_at files pid) (sym same)
    ∙ ap (option_map (λ (it : Opened). it.is.target)) (opened_is h kept pid on opened numbers files have)
    ∙ mapped on.found
  where
    mapped : (o : Option Found) → option_map (λ (it : Opened). it.is.target) (option_map (opened_in numbers) o) ≡ option_map (λ (found : Found). target_in numbers found.desc.target) o
    mapped None = refl
    mapped (Some found) = refl

-- nothing meets what isn't open
pub meets_nothing : (target : Option Target) → meet target None ≡ false
meets_nothing None = refl
meets_nothing (Some (OnNode number)) = refl
meets_nothing (Some (OnPipe place)) = refl
meets_nothing (Some (OnSocket place)) = refl

module _ (numbers : Numbers) (h : Heap) (kept : TableView) (files : Files) (have : HaveOpen numbers h kept files) (owners : HasItsOwners h []) where
  pipe_there : (key : ℕ) → IsOpenOn h (held.Pipe key) → InUse h.pipes key
  pipe_there key open_on = (subst (IsThereFor h open_on.1.access) open_on.3 (owners.held.targets open_on.0 open_on.1 open_on.2)).0

  other_pipe : (key pipe : ℕ) → InUse h.pipes key → InUse h.pipes pipe → (key == pipe) ≡ false → (numbers.pipes key == numbers.pipes pipe) ≡ false
  other_pipe key pipe one other apart = go (numbers.pipes key == numbers.pipes pipe) refl
    where
      both : {X : Type 0} {b : Bool} → b ≡ true → b ≡ false → X
      both e f = cc

      go : (same : Bool) → (numbers.pipes key == numbers.pipes pipe) ≡ same → (numbers.pipes key == numbers.pipes pipe) ≡ false
      go true is = both (eq-eqb key pipe (have.opened.piped.once key pipe one other (eqb-true (numbers.pipes key) (numbers.pipes pipe) is))) apart
      go false is = is

  -- what doesn't meet by keys doesn't by places
  pub apart_by_keys : (one other : Held) → IsOpenOn h one → IsOpenOn h other → meet_in one other ≡ false
      → meet (Some (target_in numbers one)) (Some (target_in numbers other)) ≡ false
  apart_by_keys (held.Pipe key) (held.Pipe pipe) one other e = other_pipe key pipe (pipe_there key one) (pipe_there pipe other) e
  apart_by_keys (held.Sock key) (held.Sock sock) one other e = cc
  apart_by_keys (held.Inode number) other there also e = refl
  apart_by_keys (held.Pipe key) (held.Inode number) one other e = refl
  apart_by_keys (held.Pipe key) (held.Sock sock) one other e = refl
  apart_by_keys (held.Sock key) (held.Inode number) one other e = refl
  apart_by_keys (held.Sock key) (held.Pipe pipe) one other e = refl

-- the same number of the same process
pub meets_alike : (files : Files) (target : Option Target) (at who : ℕ) (fd number : ℤ) → at ≡ who → fd ≡ number → meet target (target_at files at fd) ≡ false
    → meet target (target_at files who number) ≡ false
meets_alike files target at who fd number same_pid same_fd apart =
    ap (λ n. meet target (target_at files n number)) (sym same_pid) ∙ ap (λ n. meet target (target_at files at n)) (sym same_fd) ∙ apart

-- ---- entries of poll

-- one that doesn't meet, before others that don't
pub meets_none_on : (files : Files) (who : ℕ) (target : Option Target) (entries : List PollEntry) (place : ℕ) (d : PollEntry) → place < length entries
    → meet target (target_at files who (get_or entries place d).fd) ≡ false → MeetsNone files who target (drop (place + 1) entries) → MeetsNone files who target (drop place entries)
meets_none_on files who target entries place d within here behind =
    subst (MeetsNone files who target) (sym (drop_more entries place d within)) (here, behind)

-- ---- the numbers of which it depends whether a call blocks

abbrev pub awaited_for : Option Awaited → List ℤ
awaited_for (Some (Bytes fd addr n)) = fd ∷ []
awaited_for (Some (Room fd addr n done)) = fd ∷ []
awaited_for (Some (Peer fd)) = fd ∷ []
awaited_for (Some (Events timeout entries)) = map (λ (entry : PollEntry). entry.fd) entries
awaited_for _ = []

awaited_is : (which : Call) → awaited which ≡ awaited_for (wait_of which)
awaited_is (call.Waitpid pid options) = refl
awaited_is (call.Read fd addr n) = refl
awaited_is (call.Write fd addr n done) = refl
awaited_is (call.Accept fd) = refl
awaited_is (call.Poll timeout entries) = refl
awaited_is (call.OpenFile path flags) = go (is_none (argument_fault (call.OpenFile path flags)))
  where
    go : (right : Bool) → [] ≡ awaited_for (cond right (Some OtherSide) None)
    go true = refl
    go false = refl
awaited_is _ = refl

module _ (script : Script) (plain : Plain) (who pid : ℕ) (fd : ℤ) where
  -- what a number of another is open on has nothing to do with any of these
  abbrev pub MeetsNoneOf : List ℤ → Type 0
  MeetsNoneOf fds = list_any (λ other. meet (target_at plain.files pid fd) (target_at plain.files who other)) fds ≡ false

  pub apart_so : (wait : Option Awaited) → wait ≡ wait_of (call_of script plain who) → MeetsNoneOf (awaited_for wait) → is_apart script plain who pid fd ≡ true
  apart_so wait is none =
      ap (λ fds. not (list_any (λ other. meet (target_at plain.files pid fd) (target_at plain.files who other)) fds)) (awaited_is (call_of script plain who) ∙ sym (ap awaited_for is))
      ∙ ap not none

  -- one that isn't open meets nothing
  pub none_open : target_at plain.files pid fd ≡ None → (fds : List ℤ) → MeetsNoneOf fds
  none_open none [] = refl
  none_open none (other ∷ fds) =
      ap (λ target. meet target (target_at plain.files who other) || list_any (λ n. meet (target_at plain.files pid fd) (target_at plain.files who n)) fds) none
      ∙ none_open none fds

  pub meets_not_one : (target : Target) (number : ℤ) → target_at plain.files pid fd ≡ Some target → meet (Some target) (target_at plain.files who number) ≡ false → MeetsNoneOf (number ∷ [])
  meets_not_one target number is apart =
      ap (λ b. b || false) (ap (λ it. meet it (target_at plain.files who number)) is ∙ apart)

  pub meets_no_entry : (target : Target) (entries : List PollEntry) → target_at plain.files pid fd ≡ Some target → MeetsNone plain.files who (Some target) entries
      → MeetsNoneOf (map (λ (entry : PollEntry). entry.fd) entries)
  meets_no_entry target [] is none = refl
  meets_no_entry target (entry ∷ entries) is none =
      ap (λ b. b || list_any (λ n. meet (target_at plain.files pid fd) (target_at plain.files who n)) (map (λ (one : PollEntry). one.fd) entries))
      (ap (λ it. meet it (target_at plain.files who entry.fd)) is ∙ none.0)
      ∙ meets_no_entry target entries is none.1

  -- one that awaits one number, and entries
  pub apart_number : (wait : Option Awaited) (target : Target) (at : ℕ) (seen number : ℤ) → wait ≡ wait_of (call_of script plain who) → awaited_for wait ≡ number ∷ []
      → target_at plain.files pid fd ≡ Some target → at ≡ who → seen ≡ number → meet (Some target) (target_at plain.files at seen) ≡ false → is_apart script plain who pid fd ≡ true
  apart_number wait target at seen number is awaits open_on same_pid same_fd apart =
      apart_so wait is (subst MeetsNoneOf (sym awaits) (meets_not_one target number open_on (meets_alike plain.files (Some target) at who seen number same_pid same_fd apart)))

  pub apart_entries : (wait : Option Awaited) (target : Target) (at : ℕ) (seen entries : List PollEntry) → wait ≡ wait_of (call_of script plain who)
      → awaited_for wait ≡ map (λ (entry : PollEntry). entry.fd) entries → target_at plain.files pid fd ≡ Some target → at ≡ who → seen ≡ entries
      → MeetsNone plain.files at (Some target) seen → is_apart script plain who pid fd ≡ true
  apart_entries wait target at seen entries is awaits open_on same_pid same_entries apart =
      apart_so wait is (subst MeetsNoneOf (sym awaits)
      (meets_no_entry target entries open_on (subst (λ n. MeetsNone plain.files n (Some target) entries) same_pid (subst (MeetsNone plain.files at (Some target)) same_entries apart))))
