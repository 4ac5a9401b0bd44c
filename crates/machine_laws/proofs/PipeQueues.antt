-- A pipe's bytes go in behind and come out in front, whoever puts and takes them.
use Rattle.std.proofs.Common.{◌≡◌, ℕ, zero, suc, ◌+◌, ◌-◌, ◌<◌, ◌≢◌, ◌==◌, ℤ, Bool, true, false, cond, List, [], ◌∷◌, ◌++◌, length, take, drop, slice_index_or, slice_set, Option, None, Some, is_some, unwrap_or, refl, ap, sym, ◌∙◌, subst, ◌⊎◌, inl, inr, arith}
use Rattle.std.proofs.lemmas.Bool.Decides.{eqb_tells}
use Rattle.std.proofs.lemmas.List.{get_or-set_same, get_or-set_other, get_or_past, get_or_append_left}
use Rattle.kabi_types.specs.Arguments.{argument_fault, count_of}
use Rattle.kabi_types.specs.declared.calls.Call.{Call}
use Rattle.kabi_types.specs.declared.calls.Call.TheVariants as calls
use Rattle.kabi_types.specs.declared.errnos.Errno.{Errno}
use Rattle.kabi_types.specs.declared.scripts.Script.{Script}
use Rattle.posix_defs.specs.Answer.{Answer}
use Rattle.posix_defs.specs.Machine.{machine, unless_wrong}
use Rattle.posix_defs.specs.Memory.{is_mapped_range, stored}
use Rattle.posix_defs.specs.Pipe.{Pipe, Moving, Moves, Blocks, Fails, after_read, after_write, new_pipe, pipe_read, pipe_write, with_end}
use Rattle.posix_defs.specs.Plain.{Plain}
use Rattle.posix_defs.specs.Process.{memory_of, with_memory}
use Rattle.posix_defs.specs.Files.Descriptions.{OnPipe, access_of, description_at, may_read, may_write}
use Rattle.posix_defs.specs.Files.State.{Files, pipe_at, pipe_there, with_pipe}
use Rattle.posix_defs.specs.Calls.Opened.{Opened, answer_on, on_open, opened_at}
use Rattle.posix_defs.specs.Calls.Reading.{is_directory_target, read, read_from_pipe, read_target}
use Rattle.posix_defs.specs.Calls.Writing.{bytes_left, put_in_pipe, write, write_ignoring, write_queue, write_target}
use Rattle.posix_defs.proofs.SignalLemmas.{of_write}
use Rattle.kern_laws.proofs.TablePlaces.{below_or_not}
use Rattle.machine_laws.specs.FileSteps as step
use Rattle.machine_laws.specs.FileSteps.{IsStep, LeadsTo}
use Rattle.machine_laws.specs.Queueing.{HasBytes, NoneGoes, PutsBehind, Queues, TakesFirst, with_bytes}
use Rattle.machine_laws.proofs.Fading.{Fades, close_fades, closed_by_fades, exec_fades}
use Rattle.machine_laws.proofs.FifoPlaces.{IsFifoAt, fifo_at_is, not_zero}
use Rattle.machine_laws.proofs.Places.{some_same}
use Rattle.machine_laws.proofs.Leading.{steps_lead}
use Rattle.machine_laws.proofs.Stepping.{step_of}

-- what holds of both holds of either
pub choose : (Holds : Answer → Type 0) (b : Bool) (one two : Answer) → (b ≡ true → Holds one) → (b ≡ false → Holds two) → Holds (cond b one two)
choose Holds true one two this that = this refl
choose Holds false one two this that = that refl

append_none : (xs : List ℕ) → xs ++ [] ≡ xs
append_none [] = refl
append_none (x ∷ xs) = ap (λ rest. x ∷ rest) (append_none xs)

-- as many as were taken are the same ones
take_told : (k : ℕ) (xs : List ℕ) → take (length (take k xs)) xs ≡ take k xs
take_told zero xs = refl
take_told (suc k) [] = refl
take_told (suc k) (x ∷ xs) = ap (λ rest. x ∷ rest) (take_told k xs)

drop_told : (k : ℕ) (xs : List ℕ) → drop (length (take k xs)) xs ≡ drop k xs
drop_told zero xs = refl
drop_told (suc k) [] = refl
drop_told (suc k) (x ∷ xs) = drop_told k xs

-- who is there stands within the list
within : (files : Files) (place : ℕ) (pipe : Pipe) → pipe_there files place ≡ Some pipe → place < length files.pipes
within files place pipe there = elim (below_or_not place (length files.pipes)) [
  | inl h ↦ h
  | inr h ↦ absurd (none_or_some (sym (get_or_past files.pipes place None h) ∙ there))
]
  where
    none_or_some : None ≡ Some pipe → ⊥
    none_or_some e = cc

module _ (script : Script) (plain : Plain) (pid : ℕ) (fd addr n : ℤ) (opened : Opened) (place : ℕ) (pipe : Pipe)
    (named : opened_at plain.files pid fd ≡ Some opened) (on : opened.is.target ≡ OnPipe place) (there : pipe_there plain.files place ≡ Some pipe) where
  at_is : pipe_at plain.files place ≡ pipe
  at_is = ap (λ o. unwrap_or o new_pipe) there

  on_it : (Holds : Answer → Type 0) (given : Opened → Answer) → Holds (given opened) → Holds (on_open script plain pid fd given)
  on_it Holds given rest = subst (λ o. Holds (answer_on script plain pid given o)) (sym named) rest

  -- ---- writes

  abbrev Puts : ℕ → Answer → Type 0
  Puts done given = PutsBehind place pipe done (bytes_left plain pid addr (count_of n) done) given

  nothing : (done told : ℕ) → told - done ≡ 0
      → pipe_there plain.files place ≡ Some (with_bytes pipe (pipe.bytes ++ take (told - done) (bytes_left plain pid addr (count_of n) done)))
  nothing done told none = there ∙ ap (λ bytes. Some (with_bytes pipe bytes)) (sym (append_none pipe.bytes))
      ∙ ap (λ m. Some (with_bytes pipe (pipe.bytes ++ take m (bytes_left plain pid addr (count_of n) done)))) (sym none)

  went_in : (done k told : ℕ) → told ≡ k
      → pipe_there (put_in_pipe plain.files place (bytes_left plain pid addr (count_of n) done) k) place
      ≡ Some (with_bytes pipe (pipe.bytes ++ take told (bytes_left plain pid addr (count_of n) done)))
  went_in done k told same =
      get_or-set_same plain.files.pipes place (Some (after_write (pipe_at plain.files place) (bytes_left plain pid addr (count_of n) done) k)) None (within plain.files place pipe there)
      ∙ ap (λ p. Some (after_write p (bytes_left plain pid addr (count_of n) done) k)) at_is
      ∙ ap (λ m. Some (after_write pipe (bytes_left plain pid addr (count_of n) done) m)) (sym same)

  all_of : (done k : ℕ) → (k == count_of n - done) ≡ true → count_of n - done ≡ k
  all_of done k is = elim (eqb_tells k (count_of n - done)) [ inl alike ↦ sym alike.1 | inr apart ↦ absurd (no (sym apart.0 ∙ is)) ]
    where
      no : false ≡ true → ⊥
      no e = cc

  queue_puts : (done : ℕ) (moving : Moving)
      → Puts done (write_queue script plain pid opened.is.nonblock (count_of n) done (put_in_pipe plain.files place (bytes_left plain pid addr (count_of n) done)) moving)
  queue_puts done (Moves k) =
      choose (Puts done) (k == count_of n - done) _ _ (λ all. went_in done k (count_of n - done) (all_of done k all)) (λ some.
      choose (Puts done) opened.is.nonblock _ _ (λ yes. went_in done k (done + k - done) (omega arith)) (λ no. went_in done k k refl))
  queue_puts done Blocks = tt
  queue_puts done (Fails e) = choose (Puts done) (done == 0) _ _ (λ none. tt) (λ some. nothing done done (omega arith))

  target_puts : (done : ℕ) → Puts done (write_target script plain pid opened addr (count_of n) done opened.is.target)
  target_puts done = subst (λ target. Puts done (write_target script plain pid opened addr (count_of n) done target)) (sym on)
      (queue_puts done (pipe_write (pipe_at plain.files place) opened.is.nonblock (count_of n) (count_of n - done)))

  ignoring_puts : (done : ℕ) → Puts done (write_ignoring script plain pid fd addr n done)
  unfolding write_ignoring
  ignoring_puts done = on_it (Puts done) _
      (choose (Puts done) (may_write opened.is.access) _ _ (λ may.
      choose (Puts done) (is_mapped_range (memory_of plain.table pid) (count_of addr) (count_of n)) _ _ (λ mapped.
      choose (Puts done) (count_of n == 0) _ _ (λ none. nothing done 0 (omega arith)) (λ some. target_puts done)) (λ unmapped. tt)) (λ no. tt))

  write_puts : (done : ℕ) → Puts done (write script plain pid fd addr n done)
  write_puts done = of_write script plain pid fd addr n done (Puts done) (λ ends. tt) (λ goes. ignoring_puts done)

  pub puts : (done : ℕ) → Puts done (machine script plain pid (calls.Write fd addr n done))
  puts done = go (argument_fault (calls.Write fd addr n done))
    where
      go : (fault : Option Errno) → Puts done (unless_wrong script plain pid fault (write script plain pid fd addr n done))
      go None = write_puts done
      go (Some e) = tt

  -- ---- reads

  abbrev Takes : Answer → Type 0
  Takes given = TakesFirst plain pid addr place pipe given

  read_takes : (moving : Moving) → Takes (read_from_pipe script plain pid place addr moving)
  read_takes (Moves k) = (left, λ some. ap (λ bytes. with_memory plain.table pid (stored (memory_of plain.table pid) (count_of addr) bytes)) taken)
    where
      told : length (take k (pipe_at plain.files place).bytes) ≡ length (take k pipe.bytes)
      told = ap (λ p. length (take k p.bytes)) at_is

      left : pipe_there (with_pipe plain.files place (Some (after_read (pipe_at plain.files place) k))) place
          ≡ Some (with_bytes pipe (drop (length (take k (pipe_at plain.files place).bytes)) pipe.bytes))
      left = get_or-set_same plain.files.pipes place (Some (after_read (pipe_at plain.files place) k)) None (within plain.files place pipe there)
          ∙ ap (λ p. Some (after_read p k)) at_is
          ∙ ap (λ bytes. Some (with_bytes pipe bytes)) (sym (ap (λ m. drop m pipe.bytes) told ∙ drop_told k pipe.bytes))

      taken : take k (pipe_at plain.files place).bytes ≡ take (length (take k (pipe_at plain.files place).bytes)) pipe.bytes
      taken = ap (λ p. take k p.bytes) at_is ∙ sym (ap (λ m. take m pipe.bytes) told ∙ take_told k pipe.bytes)
  read_takes Blocks = tt
  read_takes (Fails e) = tt

  target_takes : Takes (read_target script plain pid opened addr (count_of n) opened.is.target)
  target_takes = subst (λ target. Takes (read_target script plain pid opened addr (count_of n) target)) (sym on)
      (read_takes (pipe_read (pipe_at plain.files place) opened.is.nonblock (count_of n)))

  read_call : Takes (read script plain pid fd addr n)
  unfolding read
  read_call = on_it Takes _
      (choose Takes (may_read opened.is.access) _ _ (λ may.
      choose Takes (is_directory_target plain.files.tree opened.is.target) _ _ (λ yes. tt) (λ no.
      choose Takes (is_mapped_range (memory_of plain.table pid) (count_of addr) (count_of n)) _ _ (λ mapped.
      choose Takes (count_of n == 0) _ _ (λ none. (there, λ some. absurd (omega arith))) (λ some. target_takes)) (λ unmapped. tt))) (λ no. tt))

  pub takes : Takes (machine script plain pid (calls.Read fd addr n))
  takes = go (argument_fault (calls.Read fd addr n))
    where
      go : (fault : Option Errno) → Takes (unless_wrong script plain pid fault (read script plain pid fd addr n))
      go None = read_call
      go (Some e) = tt

-- ---- all other calls

module _ (plain : Plain) (pid : ℕ) (call : Call) (place : ℕ) (pipe : Pipe) (next : Files)
    (there : pipe_there plain.files place ≡ Some pipe) (stay : NoneGoes plain.files next) where
  abbrev Kept : Type 0
  Kept = HasBytes next place pipe ⊎ Queues plain pid call place

  -- nothing of it has changed
  unchanged_is : pipe_there next place ≡ Some pipe → HasBytes next place pipe
  unchanged_is is = record { now = pipe; is = is; bytes = refl; same = λ none. refl }

  same : (after : Files) → next ≡ after → after.pipes ≡ plain.files.pipes → Kept
  same after is pipes = inl (unchanged_is (ap (λ files. pipe_there files place) is ∙ ap (λ list. slice_index_or list place None) pipes ∙ there))

  -- where something is closed, a description would have gone
  faded : (after : Files) → next ≡ after → (closed : Files) → after.pipes ≡ closed.pipes → after.descriptions ≡ closed.descriptions → Fades plain.files closed → Kept
  faded after is closed pipes descriptions fades = elim fades.pipes [
    | inl unchanged ↦ same after is (pipes ∙ unchanged)
    | inr lost ↦ absurd (no (sym (ap (λ files. is_some (description_at files.descriptions lost.place)) is ∙ ap (λ list. is_some (description_at list lost.place)) descriptions ∙ ap is_some lost.gone)
        ∙ stay lost.place lost.description lost.was))
  ]
    where
      no : false ≡ true → ⊥
      no e = cc

  queued : (other : ℕ) (after : Option Pipe) → next ≡ with_pipe plain.files other after → (other ≡ place → Queues plain pid call place) → Kept
  queued other after is moved = elim (eqb_tells place other) [
    | inl alike ↦ inr (moved (sym alike.1))
    | inr apart ↦ inl (unchanged_is (ap (λ files. pipe_there files place) is ∙ get_or-set_other plain.files.pipes other place after None apart.1 ∙ there))
  ]

  -- a further end of a FIFO is opened
  joined : {number : ℕ} (other : ℕ) (writing : Bool) → IsFifoAt plain.files.pipes number other → number ≢ 0
      → pipe_there next place ≡ slice_index_or (slice_set plain.files.pipes other (Some (with_end (pipe_at plain.files other) writing))) place None → Kept
  joined other writing fifo some_node is = elim (eqb_tells place other) [
    | inr apart ↦ inl (unchanged_is (is ∙ get_or-set_other plain.files.pipes other place (Some (with_end (pipe_at plain.files other) writing)) None apart.1 ∙ there))
    | inl alike ↦ let was : pipe_there plain.files other ≡ Some pipe = ap (pipe_there plain.files) (sym alike.1) ∙ there in
        let same_pipe : pipe_at plain.files other ≡ pipe = ap (λ o. unwrap_or o new_pipe) was in
        inl (record {
          now = with_end (pipe_at plain.files other) writing;
          is = is ∙ ap (λ n. slice_index_or (slice_set plain.files.pipes other (Some (with_end (pipe_at plain.files other) writing))) n None) alike.1
              ∙ get_or-set_same plain.files.pipes other (Some (with_end (pipe_at plain.files other) writing)) None (within plain.files other pipe was);
          bytes = same_bytes (pipe_at plain.files other) writing ∙ ap (λ p. p.bytes) same_pipe;
          same = λ none. absurd (some_node (sym fifo.of ∙ ap (λ p. p.node) (some_same (pipe_there plain.files other) fifo.pipe pipe fifo.is was) ∙ none));
        })
  ]
    where
      same_bytes : (pipe : Pipe) (writing : Bool) → (with_end pipe writing).bytes ≡ pipe.bytes
      same_bytes pipe true = refl
      same_bytes pipe false = refl

  pub kept : {goes_on : Bool} → IsStep plain pid call goes_on next → Kept
  kept (step.stays is) = same _ is refl
  kept (step.shares fd opened from to named free is) = same _ is refl
  kept (step.shares_over fd to opened named may apart is) = faded _ is _ refl refl (close_fades plain.files pid (count_of to))
  kept (step.marks fd opened cloexec named is) = same _ is refl
  kept (step.closes fd opened named is) = faded _ is _ refl refl (close_fades plain.files pid (count_of fd))
  kept (step.describes fd opened description named target access between is) = same _ is refl
  kept (step.opens path flags fd found which free led other is) = same _ is refl
  kept (step.writes fd addr n done opened number at offset written reaches wrote is) = same _ is refl
  kept (step.writes_at fd addr n opened number at written reaches wrote is) = same _ is refl
  kept (step.resizes fd opened number size tree reaches sized is) = same _ is refl
  kept (step.makes path made which led is) = same _ is refl
  kept (step.makes_fifo path made which led is) = same _ is refl
  kept (step.removes path tree which led is) = same _ is refl
  kept (step.links old new tree which led is) = same _ is refl
  kept (step.unlinks path left which led is) = same _ is refl
  kept (step.renames old new left which led is) = same _ is refl
  kept (step.pipes two free is) = inl (unchanged_is (ap (λ files. pipe_there files place) is
      ∙ get_or_append_left plain.files.pipes (Some new_pipe ∷ []) None place (within plain.files place pipe there) ∙ there))
  kept (step.takes fd addr n opened other k which named on may moves is) = queued other _ is (λ here.
      record { fd = fd; opened = opened; named = named; target = on ∙ ap OnPipe here; moves = inl (addr, n, which) })
  kept (step.puts fd addr n done opened other k which named on may moves is) = queued other _ is (λ here.
      record { fd = fd; opened = opened; named = named; target = on ∙ ap OnPipe here; moves = inr (addr, n, done, which) })
  kept (step.joins path flags fd other found openings opens at may is) = joined other (may_write (access_of flags)) (fifo_at_is plain.files found.0 other at) (not_zero found.1 found.0 opens.fifo)
      (ap (λ files. pipe_there files place) is)
  kept (step.begins path flags fd found openings opens at may is) = inl (unchanged_is (ap (λ files. pipe_there files place) is
      ∙ get_or_append_left plain.files.pipes (Some _ ∷ []) None place (within plain.files place pipe there) ∙ there))
  kept (step.meets path flags opening which begun is) = same _ is refl
  kept (step.sockets fd free is) = same _ is refl
  kept (step.pairs two free is) = same _ is refl
  kept (step.binds fd path opened at made which named on fine led is) = same _ is refl
  kept (step.listens fd opened at named on fine is) = same _ is refl
  kept (step.shuts fd how opened at named on fine is) = same _ is refl
  kept (step.connects fd opened at number listener named on fine listening room is) = same _ is refl
  kept (step.accepts fd opened at to taken named on free first is) = same _ is refl
  kept (step.receives fd addr n opened at k which named on moves is) = same _ is refl
  kept (step.sends fd addr n done opened at k which named on moves is) = same _ is refl
  kept (step.locks fd opened number asked sets named_so target is_file places clear is) = same _ is refl
  kept (step.starts is) = faded _ is _ refl refl (exec_fades plain.files pid)
  kept (step.forks which is) = same _ is refl
  kept (step.ends_caller over ending is) = faded _ is _ refl refl (closed_by_fades plain.files pid)
  kept (step.ends_other who ending is) = faded _ is _ refl refl (closed_by_fades plain.files who)

pub others : (script : Script) (plain : Plain) (pid : ℕ) (call : Call) (place : ℕ) (pipe : Pipe) → pipe_there plain.files place ≡ Some pipe
    → LeadsTo (λ next. NoneGoes plain.files next.files → HasBytes next.files place pipe ⊎ Queues plain pid call place) (machine script plain pid call)
others script plain pid call place pipe there = steps_lead plain pid call _
    (λ goes_on next stepped stay. kept plain pid call place pipe next.files there stay stepped) (machine script plain pid call) (step_of script plain pid call)
