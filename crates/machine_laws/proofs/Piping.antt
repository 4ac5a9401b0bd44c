-- Pipes count the descriptions that are open on their ends, whatever a call is answered.
use Rattle.std.proofs.Common.{◌≡◌, ◌≢◌, ℕ, zero, suc, ◌+◌, ◌-◌, ◌<◌, ◌≤◌, ◌==◌, ◌&&◌, nat_le, ℤ, Bool, true, false, cond, List, [], ◌∷◌, ◌++◌, length, take, drop, Option, None, Some, is_some, slice_set, unwrap_or, refl, ap, sym, ◌∙◌, subst, inl, inr, arith, length-append, length-take, length-drop}
use Rattle.std.specs.List.{count_by}
use Rattle.std.proofs.lemmas.Bool.{leb-true}
use Rattle.std.proofs.lemmas.Bool.Decides.{eqb_tells}
use Rattle.std.proofs.lemmas.List.{get_or_past, get_or-set_same, get_or-set_other}
use Rattle.kabi_types.specs.Arguments.{count_of}
use Rattle.kabi_types.specs.declared.calls.Call.{Call}
use Rattle.kabi_types.specs.declared.errnos.Errno.TheVariants.{EPIPE}
use Rattle.kabi_types.specs.declared.scripts.Script.{Script}
use Rattle.posix_defs.specs.Ending.{die}
use Rattle.posix_defs.specs.Pipe.{Pipe, Moves, Fails, after_close, after_read, after_write, capacity, free_in, new_pipe, not_now, pipe_write, unopened, while_open, whole, with_end, without_reader, without_writer}
use Rattle.posix_defs.specs.Plain.{Plain, boot_plain, call_of}
use Rattle.posix_defs.specs.Machine.{machine}
use Rattle.posix_defs.specs.TreeChanges.{closed}
use Rattle.posix_defs.specs.Files.Descriptions.{Target, OnNode, OnPipe, OnSocket, Access, ReadOnly, WriteOnly, ReadWrite, Description, Descriptions, description_at, may_read, may_write, new_description, with_description}
use Rattle.posix_defs.specs.Files.State.{Files, node_of, opens, pipe_at, with_descriptions, with_tree}
use Rattle.posix_defs.specs.Files.Closing.{target_closed}
use Rattle.posix_defs.specs.Files.Whole.{is_pipe, is_read_end, is_write_end}
use Rattle.posix_defs.specs.Calls.OnFiles.{description_on, fifo_pipe}
use Rattle.posix_defs.specs.Calls.Opened.{Opened, opened_at}
use Rattle.machine_laws.specs.FileSteps as step
use Rattle.machine_laws.specs.FileSteps.{IsStep, LeadsTo}
use Rattle.machine_laws.specs.Reached.{IsReached}
use Rattle.machine_laws.proofs.Places.{not_some, some_same, there_within, naming}
use Rattle.machine_laws.specs.Piped.{ArePiped, IsCounted, IsEnd, pipe_in}
use Rattle.machine_laws.proofs.Items.{changed_is, count_kept, count_less, count_none, count_pushed, count_some, pushed_front, pushed_is, some_is, some_there, true_false}
use Rattle.machine_laws.proofs.FifoPlaces.{fifo_at_is, left_holds, one_side}
use Rattle.machine_laws.proofs.Closings.{IsClosedUnder, anybody, close_holds, closed_by_holds, exec_holds}
use Rattle.machine_laws.proofs.Inductions.{answers_keep, by_induction}

abbrev Pipes : Type 0
Pipes = List (Option Pipe)

itself : (n : ℕ) → (n == n) ≡ true
itself n = elim (eqb_tells n n) [ inl alike ↦ alike.0 | inr apart ↦ absurd (apart.1 refl) ]

differ : (a b : ℕ) → a ≢ b → (a == b) ≡ false
differ a b apart = elim (eqb_tells a b) [ inl alike ↦ absurd (apart alike.1) | inr other ↦ other.0 ]

-- ---- which descriptions are ends

reads_as : (q : ℕ) (description : Description) (target : Target) (access : Access) → description.target ≡ target → description.access ≡ access
    → is_read_end q (Some description) ≡ (is_pipe q target && may_read access)
reads_as q description target access on for = ap (λ t. is_pipe q t && may_read description.access) on ∙ ap (λ a. is_pipe q target && may_read a) for

writes_as : (q : ℕ) (description : Description) (target : Target) (access : Access) → description.target ≡ target → description.access ≡ access
    → is_write_end q (Some description) ≡ (is_pipe q target && may_write access)
writes_as q description target access on for = ap (λ t. is_pipe q t && may_write description.access) on ∙ ap (λ a. is_pipe q target && may_write a) for

-- a description that isn't open on the pipe is none of its ends
no_read_end : (q : ℕ) (description : Description) → is_pipe q description.target ≡ false → is_read_end q (Some description) ≡ false
no_read_end q description other = ap (λ b. b && may_read description.access) other

no_write_end : (q : ℕ) (description : Description) → is_pipe q description.target ≡ false → is_write_end q (Some description) ≡ false
no_write_end q description other = ap (λ b. b && may_write description.access) other

-- ---- a pipe among descriptions that change

-- the same ends, counted among other descriptions
counts_on : (old new : Descriptions) (q : ℕ) (pipe : Pipe) → count_by (is_read_end q) new ≡ count_by (is_read_end q) old → count_by (is_write_end q) new ≡ count_by (is_write_end q) old
    → IsCounted old q pipe → IsCounted new q pipe
counts_on old new q pipe reads writes counted = record { readers = counted.readers ∙ sym reads; writers = counted.writers ∙ sym writes; room = counted.room; unread = counted.unread }

-- of a description at a place another is open on the same, for the same
same_ends : (descriptions : Descriptions) (place : ℕ) (was now : Description) (q : ℕ) (pipe : Pipe) → description_at descriptions place ≡ Some was
    → now.target ≡ was.target → now.access ≡ was.access → IsCounted descriptions q pipe → IsCounted (with_description descriptions place (Some now)) q pipe
same_ends descriptions place was now q pipe there target access = counts_on descriptions (with_description descriptions place (Some now)) q pipe
    (count_kept (is_read_end q) descriptions place (Some now) None (there_within descriptions place was there)
    (reads_as q now was.target was.access target access ∙ sym (ap (is_read_end q) there)))
    (count_kept (is_write_end q) descriptions place (Some now) None (there_within descriptions place was there)
    (writes_as q now was.target was.access target access ∙ sym (ap (is_write_end q) there)))

-- a description of something else comes or goes
other_comes : (descriptions : Descriptions) (description : Description) (q : ℕ) (pipe : Pipe) → is_pipe q description.target ≡ false
    → IsCounted descriptions q pipe → IsCounted (descriptions ++ Some description ∷ []) q pipe
other_comes descriptions description q pipe other = counts_on descriptions (descriptions ++ Some description ∷ []) q pipe
    (count_pushed (is_read_end q) descriptions (Some description) 0 (ap (λ b. cond b 1 0) (no_read_end q description other)) ∙ nothing (count_by (is_read_end q) descriptions))
    (count_pushed (is_write_end q) descriptions (Some description) 0 (ap (λ b. cond b 1 0) (no_write_end q description other)) ∙ nothing (count_by (is_write_end q) descriptions))
  where
    nothing : (n : ℕ) → n + 0 ≡ n
    nothing n = omega arith

other_goes : (descriptions : Descriptions) (place : ℕ) (description : Description) (q : ℕ) (pipe : Pipe) → description_at descriptions place ≡ Some description
    → is_pipe q description.target ≡ false → IsCounted descriptions q pipe → IsCounted (with_description descriptions place None) q pipe
other_goes descriptions place description q pipe there other = counts_on descriptions (with_description descriptions place None) q pipe
    (count_kept (is_read_end q) descriptions place None None (there_within descriptions place description there) (sym (ap (is_read_end q) there ∙ no_read_end q description other)))
    (count_kept (is_write_end q) descriptions place None None (there_within descriptions place description there) (sym (ap (is_write_end q) there ∙ no_write_end q description other)))

-- ---- an end goes

-- what is left of a pipe with one end less
abbrev left_of : Bool → Pipe → Pipe
left_of writing pipe = cond writing (without_writer pipe) (without_reader pipe)

-- bytes stay, or are dropped
shorter : (b : Bool) (bytes : List ℕ) → length (cond b [] bytes) ≤ length bytes
shorter true bytes = omega arith
shorter false bytes = omega arith

end_goes : (descriptions : Descriptions) (place : ℕ) (description : Description) (q : ℕ) (pipe : Pipe) → description_at descriptions place ≡ Some description
    → description.target ≡ OnPipe q → description.access ≢ ReadWrite → IsCounted descriptions q pipe → IsCounted (with_description descriptions place None) q (left_of (may_write description.access) pipe)
end_goes descriptions place description q pipe there on one_end counted =
    subst (λ access. IsCounted (with_description descriptions place None) q (left_of (may_write access) pipe)) refl (go description.access refl)
  where
    within : place < length descriptions
    within = there_within descriptions place description there

    less : (test : Option Description → Bool) → test (Some description) ≡ true → test None ≡ false → count_by test (with_description descriptions place None) + 1 ≡ count_by test descriptions
    less test one none = count_less test descriptions place None None within (ap test there ∙ one) none

    kept : (test : Option Description → Bool) → test (Some description) ≡ false → test None ≡ false → count_by test (with_description descriptions place None) ≡ count_by test descriptions
    kept test other none = count_kept test descriptions place None None within (none ∙ sym (ap test there ∙ other))

    go : (access : Access) → description.access ≡ access → IsCounted (with_description descriptions place None) q (left_of (may_write access) pipe)
    go ReadOnly is = record {
      readers = (let before : pipe.readers ≡ count_by (is_read_end q) descriptions = counted.readers in
          let one : count_by (is_read_end q) (with_description descriptions place None) + 1 ≡ count_by (is_read_end q) descriptions =
          less (is_read_end q) (reads_as q description (OnPipe q) ReadOnly on is ∙ ap (λ b. b && true) (itself q)) refl in omega arith);
      writers = counted.writers ∙ sym (kept (is_write_end q) (writes_as q description (OnPipe q) ReadOnly on is ∙ ap (λ b. b && false) (itself q)) refl);
      room = (let before : length pipe.bytes ≤ capacity = counted.room in let fewer : length (cond (pipe.readers == 1) [] pipe.bytes) ≤ length pipe.bytes = shorter (pipe.readers == 1) pipe.bytes in omega arith);
      unread = λ none. ap (λ b. cond b [] pipe.bytes) (last none);
    }
      where
        last : pipe.readers - 1 ≡ 0 → (pipe.readers == 1) ≡ true
        last none = elim (eqb_tells pipe.readers 1) [
          | inl alike ↦ alike.0
          | inr apart ↦ absurd (let before : pipe.readers ≡ count_by (is_read_end q) descriptions = counted.readers in
              let one : count_by (is_read_end q) (with_description descriptions place None) + 1 ≡ count_by (is_read_end q) descriptions =
              less (is_read_end q) (reads_as q description (OnPipe q) ReadOnly on is ∙ ap (λ b. b && true) (itself q)) refl in
              let not_one : pipe.readers ≢ 1 = apart.1 in omega arith)
        ]
    go WriteOnly is = record {
      readers = counted.readers ∙ sym (kept (is_read_end q) (reads_as q description (OnPipe q) WriteOnly on is ∙ ap (λ b. b && false) (itself q)) refl);
      writers = (let before : pipe.writers ≡ count_by (is_write_end q) descriptions = counted.writers in
          let one : count_by (is_write_end q) (with_description descriptions place None) + 1 ≡ count_by (is_write_end q) descriptions =
          less (is_write_end q) (writes_as q description (OnPipe q) WriteOnly on is ∙ ap (λ b. b && true) (itself q)) refl in omega arith);
      room = counted.room;
      unread = counted.unread;
    }
    go ReadWrite is = absurd (one_end is)

-- an end comes
end_comes : (descriptions : Descriptions) (new : Description) (q : ℕ) (pipe : Pipe) → new.target ≡ OnPipe q → new.access ≢ ReadWrite → IsCounted descriptions q pipe
    → IsCounted (descriptions ++ Some new ∷ []) q (with_end pipe (may_write new.access))
end_comes descriptions new q pipe on one_end counted = subst (λ access. IsCounted (descriptions ++ Some new ∷ []) q (with_end pipe (may_write access))) refl (go new.access refl)
  where
    more : (test : Option Description → Bool) → test (Some new) ≡ true → count_by test (descriptions ++ Some new ∷ []) ≡ count_by test descriptions + 1
    more test one = count_pushed test descriptions (Some new) 1 (ap (λ b. cond b 1 0) one)

    kept : (test : Option Description → Bool) → test (Some new) ≡ false → count_by test (descriptions ++ Some new ∷ []) ≡ count_by test descriptions
    kept test none = count_pushed test descriptions (Some new) 0 (ap (λ b. cond b 1 0) none) ∙ (let e : count_by test descriptions + 0 ≡ count_by test descriptions = omega arith in e)

    go : (access : Access) → new.access ≡ access → IsCounted (descriptions ++ Some new ∷ []) q (with_end pipe (may_write access))
    go ReadOnly is = record {
      readers = ap (λ n. n + 1) counted.readers ∙ sym (more (is_read_end q) (reads_as q new (OnPipe q) ReadOnly on is ∙ ap (λ b. b && true) (itself q)));
      writers = counted.writers ∙ sym (kept (is_write_end q) (writes_as q new (OnPipe q) ReadOnly on is ∙ ap (λ b. b && false) (itself q)));
      room = counted.room;
      unread = λ none. absurd (let e : pipe.readers + 1 ≡ 0 = none in omega arith);
    }
    go WriteOnly is = record {
      readers = counted.readers ∙ sym (kept (is_read_end q) (reads_as q new (OnPipe q) WriteOnly on is ∙ ap (λ b. b && false) (itself q)));
      writers = ap (λ n. n + 1) counted.writers ∙ sym (more (is_write_end q) (writes_as q new (OnPipe q) WriteOnly on is ∙ ap (λ b. b && true) (itself q)));
      room = counted.room;
      unread = counted.unread;
    }
    go ReadWrite is = absurd (one_end is)

-- a pipe with one end more has some
some_of_end : (pipe : Pipe) (writing : Bool) → 0 < (with_end pipe writing).readers + (with_end pipe writing).writers
some_of_end pipe true = omega arith
some_of_end pipe false = omega arith

-- a pipe that has an end is there, and one that is there has an end
open_is : (pipe : Pipe) → 0 < pipe.readers + pipe.writers → while_open pipe ≡ Some pipe
open_is pipe some = go (pipe.readers == 0) (pipe.writers == 0) refl refl
  where
    none : (n : ℕ) → (n == 0) ≡ true → n ≡ 0
    none n is = elim (eqb_tells n 0) [ inl alike ↦ alike.1 | inr apart ↦ absurd (true_false (n == 0) is apart.0) ]

    go : (a b : Bool) → (pipe.readers == 0) ≡ a → (pipe.writers == 0) ≡ b → cond (a && b) None (Some pipe) ≡ Some pipe
    go true true no_reader no_writer = absurd (let r : pipe.readers ≡ 0 = none pipe.readers no_reader in let w : pipe.writers ≡ 0 = none pipe.writers no_writer in omega arith)
    go true false no_reader some_writer = refl
    go false b some_reader w = refl

is_open : (pipe left : Pipe) → while_open pipe ≡ Some left → (pipe ≡ left) × (0 < pipe.readers + pipe.writers)
is_open pipe left is = go (pipe.readers == 0) (pipe.writers == 0) refl refl is
  where
    some : (n : ℕ) → (n == 0) ≡ false → 0 < n
    some n is = elim (eqb_tells n 0) [ inl alike ↦ absurd (true_false (n == 0) alike.0 is) | inr apart ↦ (let h : n ≢ 0 = apart.1 in omega arith) ]

    go : (a b : Bool) → (pipe.readers == 0) ≡ a → (pipe.writers == 0) ≡ b → cond (a && b) None (Some pipe) ≡ Some left → (pipe ≡ left) × (0 < pipe.readers + pipe.writers)
    go true true no_reader no_writer e = absurd (not_some refl e)
    go true false no_reader some_writer e = (some_same (Some pipe) pipe left refl e, (let h : 0 < pipe.writers = some pipe.writers some_writer in omega arith))
    go false b some_reader w e = (some_same (Some pipe) pipe left refl e, (let h : 0 < pipe.readers = some pipe.readers some_reader in omega arith))

-- ---- all pipes, where a description changes

-- another pipe than one that a description is open on
apart_from : (q : ℕ) (target : Target) (p : ℕ) → target ≡ OnPipe p → q ≢ p → is_pipe q target ≡ false
apart_from q target p on apart = ap (is_pipe q) on ∙ differ p q (λ same. apart (sym same))

-- a description that is there among others that aren't fewer is one of the ends of its pipe
counts_end : (descriptions : Descriptions) (place : ℕ) (description : Description) (q : ℕ) (pipe : Pipe) → description_at descriptions place ≡ Some description
    → description.target ≡ OnPipe q → IsCounted descriptions q pipe → 0 < pipe.readers + pipe.writers
counts_end descriptions place description q pipe there on counted = go description.access refl
  where
    within : place < length descriptions
    within = there_within descriptions place description there

    reader : is_read_end q (Some description) ≡ true → 0 < pipe.readers + pipe.writers
    reader passes = let some : 0 < count_by (is_read_end q) descriptions = count_some (is_read_end q) descriptions place None within (ap (is_read_end q) there ∙ passes) in
        let same : pipe.readers ≡ count_by (is_read_end q) descriptions = counted.readers in omega arith

    writer : is_write_end q (Some description) ≡ true → 0 < pipe.readers + pipe.writers
    writer passes = let some : 0 < count_by (is_write_end q) descriptions = count_some (is_write_end q) descriptions place None within (ap (is_write_end q) there ∙ passes) in
        let same : pipe.writers ≡ count_by (is_write_end q) descriptions = counted.writers in omega arith

    go : (access : Access) → description.access ≡ access → 0 < pipe.readers + pipe.writers
    go ReadOnly is = reader (reads_as q description (OnPipe q) ReadOnly on is ∙ ap (λ b. b && true) (itself q))
    go WriteOnly is = writer (writes_as q description (OnPipe q) WriteOnly on is ∙ ap (λ b. b && true) (itself q))
    go ReadWrite is = reader (reads_as q description (OnPipe q) ReadWrite on is ∙ ap (λ b. b && true) (itself q))

-- each pipe that is there is one of before
ends_on : (old new : Pipes) → ((q : ℕ) → is_some (pipe_in old q) ≡ true → is_some (pipe_in new q) ≡ true) → (access : Access) (target : Target) → IsEnd old access target → IsEnd new access target
ends_on old new stay access (OnNode number) end = tt
ends_on old new stay access (OnPipe place) end = (stay place end.0, end.1)
ends_on old new stay access (OnSocket place) end = tt

module _ (descriptions : Descriptions) (pipes : Pipes) (piped : ArePiped descriptions pipes) where
  -- one that is there becomes another, which is open on the same, for the same
  described_piped : (place : ℕ) (was now : Description) → description_at descriptions place ≡ Some was → now.target ≡ was.target → now.access ≡ was.access
      → ArePiped (with_description descriptions place (Some now)) pipes
  described_piped place was now there target access = record {
    ends = λ other description is. elim (changed_is descriptions place (Some now) other description is) [
      | inl before ↦ piped.ends other description before.1
      | inr here ↦ subst (λ d. IsEnd pipes d.access d.target) (some_same (Some now) now description refl here.1)
          (subst (λ t. IsEnd pipes now.access t) (sym target) (subst (λ a. IsEnd pipes a was.target) (sym access) (piped.ends place was there)))
    ];
    counted = λ q pipe is. same_ends descriptions place was now q pipe there target access (piped.counted q pipe is);
    some_end = piped.some_end;
  }

  -- one more is there, which isn't open on a pipe
  opened_piped : (description : Description) → ((q : ℕ) → is_pipe q description.target ≡ false) → IsEnd pipes description.access description.target
      → ArePiped (descriptions ++ Some description ∷ []) pipes
  opened_piped new other end = record {
    ends = λ place description is. elim (pushed_is descriptions (Some new) place description is) [
      | inl before ↦ piped.ends place description before
      | inr last ↦ subst (λ d. IsEnd pipes d.access d.target) (some_same (Some new) new description refl last.1) end
    ];
    counted = λ q pipe is. other_comes descriptions new q pipe (other q) (piped.counted q pipe is);
    some_end = piped.some_end;
  }

  -- one that isn't open on a pipe goes
  gone_piped : (place : ℕ) (was : Description) → description_at descriptions place ≡ Some was → ((q : ℕ) → is_pipe q was.target ≡ false)
      → ArePiped (with_description descriptions place None) pipes
  gone_piped place was there other = record {
    ends = λ at description is. elim (changed_is descriptions place None at description is) [
      | inl before ↦ piped.ends at description before.1
      | inr here ↦ absurd (not_some refl here.1)
    ];
    counted = λ q pipe is. other_goes descriptions place was q pipe there (other q) (piped.counted q pipe is);
    some_end = piped.some_end;
  }

  -- an end of a pipe goes
  pub end_gone_piped : (place : ℕ) (was : Description) (p : ℕ) → description_at descriptions place ≡ Some was → was.target ≡ OnPipe p
      → ArePiped (with_description descriptions place None) (slice_set pipes p (after_close (unwrap_or (pipe_in pipes p) new_pipe) (may_write was.access)))
  end_gone_piped place was p there on = go (some_is (pipe_in pipes p) end.0)
    where
      end : IsEnd pipes was.access (OnPipe p)
      end = subst (IsEnd pipes was.access) on (piped.ends place was there)

      go : (pipe : Pipe) × (pipe_in pipes p ≡ Some pipe) → ArePiped (with_description descriptions place None) (slice_set pipes p (after_close (unwrap_or (pipe_in pipes p) new_pipe) (may_write was.access)))
      go here = subst (λ o. ArePiped (with_description descriptions place None) (slice_set pipes p (after_close (unwrap_or o new_pipe) (may_write was.access)))) (sym here.1) (by here.0 here.1)
        where
          by : (pipe : Pipe) → pipe_in pipes p ≡ Some pipe → ArePiped (with_description descriptions place None) (slice_set pipes p (while_open (left_of (may_write was.access) pipe)))
          by pipe is_there = record {
            ends = λ at description is. elim (changed_is descriptions place None at description is) [
              | inl before ↦ ends_after description at is description.target refl (piped.ends at description before.1)
              | inr here ↦ absurd (not_some refl here.1)
            ];
            counted = λ q other is. elim (changed_is pipes p (while_open (left_of (may_write was.access) pipe)) q other is) [
              | inl before ↦ other_goes descriptions place was q other there (apart_from q was.target p on before.0) (piped.counted q other before.1)
              | inr here ↦ let opened = is_open (left_of (may_write was.access) pipe) other here.1 in
                  subst (λ n. IsCounted (with_description descriptions place None) n other) (sym here.0) (subst (IsCounted (with_description descriptions place None) p) opened.0 left)
            ];
            some_end = λ q other is. elim (changed_is pipes p (while_open (left_of (may_write was.access) pipe)) q other is) [
              | inl before ↦ piped.some_end q other before.1
              | inr here ↦ let opened = is_open (left_of (may_write was.access) pipe) other here.1 in subst (λ pipe. 0 < pipe.readers + pipe.writers) opened.0 opened.1
            ];
          }
            where
              left : IsCounted (with_description descriptions place None) p (left_of (may_write was.access) pipe)
              left = end_goes descriptions place was p pipe there on end.1 (piped.counted p pipe is_there)

              within : p < length pipes
              within = there_within pipes p pipe is_there

              ends_after : (description : Description) (at : ℕ) → description_at (with_description descriptions place None) at ≡ Some description → (target : Target) → description.target ≡ target
                  → IsEnd pipes description.access description.target → IsEnd (slice_set pipes p (while_open (left_of (may_write was.access) pipe))) description.access description.target
              ends_after description at is target where_to before =
                  subst (IsEnd (slice_set pipes p (while_open (left_of (may_write was.access) pipe))) description.access) (sym where_to) (on_target target where_to (subst (IsEnd pipes description.access) where_to before))
                where
                  on_target : (target : Target) → description.target ≡ target → IsEnd pipes description.access target
                      → IsEnd (slice_set pipes p (while_open (left_of (may_write was.access) pipe))) description.access target
                  on_target (OnNode number) same held = tt
                  on_target (OnSocket number) same held = tt
                  on_target (OnPipe q) same held = elim (eqb_tells q p) [
                    | inr apart ↦ (ap is_some (get_or-set_other pipes p q (while_open (left_of (may_write was.access) pipe)) None apart.1) ∙ held.0, held.1)
                    | inl alike ↦ (
                      ap (λ n. is_some (pipe_in (slice_set pipes p (while_open (left_of (may_write was.access) pipe))) n)) alike.1
                          ∙ ap is_some (get_or-set_same pipes p (while_open (left_of (may_write was.access) pipe)) None within)
                          ∙ ap is_some (open_is (left_of (may_write was.access) pipe)
                          (counts_end (with_description descriptions place None) at description p (left_of (may_write was.access) pipe) is (same ∙ ap OnPipe alike.1) left)),
                      held.1,
                    )
                  ]

  -- a pipe that is there gets other bytes
  moved_piped : (p : ℕ) (pipe : Pipe) (bytes : List ℕ) → pipe_in pipes p ≡ Some pipe → length bytes ≤ capacity → (pipe.readers ≡ 0 → bytes ≡ [])
      → ArePiped descriptions (slice_set pipes p (Some (record pipe { bytes = bytes })))
  moved_piped p pipe bytes is_there room unread = record {
    ends = λ place description is. ends_on pipes (slice_set pipes p (Some (record pipe { bytes = bytes }))) stay description.access description.target (piped.ends place description is);
    counted = λ q other is. elim (changed_is pipes p (Some (record pipe { bytes = bytes })) q other is) [
      | inl before ↦ piped.counted q other before.1
      | inr here ↦ subst (λ n. IsCounted descriptions n other) (sym here.0) (subst (IsCounted descriptions p) (some_same (Some (record pipe { bytes = bytes })) (record pipe { bytes = bytes }) other refl here.1)
          (record { readers = as_before.readers; writers = as_before.writers; room = room; unread = unread }))
    ];
    some_end = λ q other is. elim (changed_is pipes p (Some (record pipe { bytes = bytes })) q other is) [
      | inl before ↦ piped.some_end q other before.1
      | inr here ↦ subst (λ pipe. 0 < pipe.readers + pipe.writers) (some_same (Some (record pipe { bytes = bytes })) (record pipe { bytes = bytes }) other refl here.1) (piped.some_end p pipe is_there)
    ];
  }
    where
      as_before : IsCounted descriptions p pipe
      as_before = piped.counted p pipe is_there

      stay : (q : ℕ) → is_some (pipe_in pipes q) ≡ true → is_some (pipe_in (slice_set pipes p (Some (record pipe { bytes = bytes }))) q) ≡ true
      stay q some = elim (eqb_tells q p) [
        | inr apart ↦ ap is_some (get_or-set_other pipes p q (Some (record pipe { bytes = bytes })) None apart.1) ∙ some
        | inl alike ↦ ap (λ n. is_some (pipe_in (slice_set pipes p (Some (record pipe { bytes = bytes }))) n)) alike.1
            ∙ ap is_some (get_or-set_same pipes p (Some (record pipe { bytes = bytes })) None (there_within pipes p pipe is_there))
      ]

  -- each pipe is there where one more is
  stay_pushed : (added : Pipe) (q : ℕ) → is_some (pipe_in pipes q) ≡ true → is_some (pipe_in (pipes ++ Some added ∷ []) q) ≡ true
  stay_pushed added q some = let here = some_is (pipe_in pipes q) some in some_there (pushed_front pipes (Some added) q here.0 here.1)

  last_pushed : (added : Pipe) → is_some (pipe_in (pipes ++ Some added ∷ []) (length pipes)) ≡ true
  last_pushed added = ap is_some (last_is pipes)
    where
      last_is : (xs : Pipes) → pipe_in (xs ++ Some added ∷ []) (length xs) ≡ Some added
      last_is [] = refl
      last_is (x ∷ xs) = last_is xs

  other_pipe : (q : ℕ) (pipe : Pipe) → pipe_in pipes q ≡ Some pipe → (length pipes == q) ≡ false
  other_pipe q pipe is = differ (length pipes) q (λ same. let h : q < length pipes = there_within pipes q pipe is in absurd (omega arith))

  -- nobody was open on a pipe that wasn't there
  nobody : (i : ℕ) → i < length descriptions → (o : Option Description) → description_at descriptions i ≡ o → (is_read_end (length pipes) o ≡ false) × (is_write_end (length pipes) o ≡ false)
  nobody i h None is = (refl, refl)
  nobody i h (Some description) is = let apart = go description.target refl in (no_read_end (length pipes) description apart, no_write_end (length pipes) description apart)
    where
      go : (target : Target) → description.target ≡ target → is_pipe (length pipes) description.target ≡ false
      go (OnNode number) on = ap (is_pipe (length pipes)) on
      go (OnSocket number) on = ap (is_pipe (length pipes)) on
      go (OnPipe q) on = ap (is_pipe (length pipes)) on ∙ differ q (length pipes) (λ same.
          let end = subst (IsEnd pipes description.access) on (piped.ends i description is) in
          true_false (is_some (pipe_in pipes q)) end.0 (ap is_some (get_or_past pipes q None (let e : q ≡ length pipes = same in omega arith))))

  -- one more end of a pipe that is there
  joined_piped : (p : ℕ) (pipe : Pipe) (new : Description) → pipe_in pipes p ≡ Some pipe → new.target ≡ OnPipe p → new.access ≢ ReadWrite
      → ArePiped (descriptions ++ Some new ∷ []) (slice_set pipes p (Some (with_end pipe (may_write new.access))))
  joined_piped p pipe new is_there on one_end = record {
    ends = λ place description is. elim (pushed_is descriptions (Some new) place description is) [
      | inl before ↦ ends_on pipes (slice_set pipes p (Some (with_end pipe (may_write new.access)))) stay description.access description.target (piped.ends place description before)
      | inr last ↦ subst (λ d. IsEnd (slice_set pipes p (Some (with_end pipe (may_write new.access)))) d.access d.target) (some_same (Some new) new description refl last.1)
          (subst (IsEnd (slice_set pipes p (Some (with_end pipe (may_write new.access)))) new.access) (sym on) (stay p (some_there is_there), one_end))
    ];
    counted = λ q other is. elim (changed_is pipes p (Some (with_end pipe (may_write new.access))) q other is) [
      | inl before ↦ other_comes descriptions new q other (apart_from q new.target p on before.0) (piped.counted q other before.1)
      | inr here ↦ subst (λ n. IsCounted (descriptions ++ Some new ∷ []) n other) (sym here.0) (subst (IsCounted (descriptions ++ Some new ∷ []) p)
          (some_same (Some (with_end pipe (may_write new.access))) (with_end pipe (may_write new.access)) other refl here.1) (end_comes descriptions new p pipe on one_end (piped.counted p pipe is_there)))
    ];
    some_end = λ q other is. elim (changed_is pipes p (Some (with_end pipe (may_write new.access))) q other is) [
      | inl before ↦ piped.some_end q other before.1
      | inr here ↦ subst (λ pipe. 0 < pipe.readers + pipe.writers) (some_same (Some (with_end pipe (may_write new.access))) (with_end pipe (may_write new.access)) other refl here.1)
          (some_of_end pipe (may_write new.access))
    ];
  }
    where
      stay : (q : ℕ) → is_some (pipe_in pipes q) ≡ true → is_some (pipe_in (slice_set pipes p (Some (with_end pipe (may_write new.access)))) q) ≡ true
      stay q some = elim (eqb_tells q p) [
        | inr apart ↦ ap is_some (get_or-set_other pipes p q (Some (with_end pipe (may_write new.access))) None apart.1) ∙ some
        | inl alike ↦ ap (λ n. is_some (pipe_in (slice_set pipes p (Some (with_end pipe (may_write new.access)))) n)) alike.1
            ∙ ap is_some (get_or-set_same pipes p (Some (with_end pipe (may_write new.access))) None (there_within pipes p pipe is_there))
      ]

  -- the first end of a FIFO, with its pipe
  begun_piped : (number : ℕ) (new : Description) → new.target ≡ OnPipe (length pipes) → new.access ≢ ReadWrite
      → ArePiped (descriptions ++ Some new ∷ []) (pipes ++ Some (with_end (unopened number) (may_write new.access)) ∷ [])
  begun_piped number new on one_end = record {
    ends = λ place description is. elim (pushed_is descriptions (Some new) place description is) [
      | inl before ↦ ends_on pipes (pipes ++ Some begun ∷ []) (stay_pushed begun) description.access description.target (piped.ends place description before)
      | inr last ↦ subst (λ d. IsEnd (pipes ++ Some begun ∷ []) d.access d.target) (some_same (Some new) new description refl last.1)
          (subst (IsEnd (pipes ++ Some begun ∷ []) new.access) (sym on) (last_pushed begun, one_end))
    ];
    counted = λ q pipe is. elim (pushed_is pipes (Some begun) q pipe is) [
      | inl before ↦ other_comes descriptions new q pipe (ap (is_pipe q) on ∙ other_pipe q pipe before) (piped.counted q pipe before)
      | inr last ↦ subst (λ n. IsCounted (descriptions ++ Some new ∷ []) n pipe) (sym last.0) (subst (IsCounted (descriptions ++ Some new ∷ []) (length pipes)) (some_same (Some begun) begun pipe refl last.1)
          (end_comes descriptions new (length pipes) (unopened number) on one_end nobodys))
    ];
    some_end = λ q pipe is. elim (pushed_is pipes (Some begun) q pipe is) [
      | inl before ↦ piped.some_end q pipe before
      | inr last ↦ subst (λ pipe. 0 < pipe.readers + pipe.writers) (some_same (Some begun) begun pipe refl last.1) (some_of_end (unopened number) (may_write new.access))
    ];
  }
    where
      begun : Pipe
      begun = with_end (unopened number) (may_write new.access)

      nobodys : IsCounted descriptions (length pipes) (unopened number)
      nobodys = record {
        readers = sym (count_none (is_read_end (length pipes)) descriptions None (λ i h. (nobody i h _ refl).0));
        writers = sym (count_none (is_write_end (length pipes)) descriptions None (λ i h. (nobody i h _ refl).1));
        room = omega arith;
        unread = λ none. refl;
      }

  -- a pipe is made, with a description for each end
  abbrev new_end : Access → Description
  new_end access = new_description (OnPipe (length pipes)) access

  abbrev with_ends : Descriptions
  with_ends = descriptions ++ Some (new_end ReadOnly) ∷ [] ++ Some (new_end WriteOnly) ∷ []

  made_piped : ArePiped with_ends (pipes ++ Some new_pipe ∷ [])
  made_piped = record {
    ends = λ place description is. elim (pushed_is (descriptions ++ Some (new_end ReadOnly) ∷ []) (Some (new_end WriteOnly)) place description is) [
      | inr second ↦ subst (λ d. IsEnd (pipes ++ Some new_pipe ∷ []) d.access d.target) (some_same (Some (new_end WriteOnly)) (new_end WriteOnly) description refl second.1) (last_pushed new_pipe, write_only)
      | inl front ↦ elim (pushed_is descriptions (Some (new_end ReadOnly)) place description front) [
        | inr first ↦ subst (λ d. IsEnd (pipes ++ Some new_pipe ∷ []) d.access d.target) (some_same (Some (new_end ReadOnly)) (new_end ReadOnly) description refl first.1) (last_pushed new_pipe, read_only)
        | inl before ↦ ends_on pipes (pipes ++ Some new_pipe ∷ []) (stay_pushed new_pipe) description.access description.target (piped.ends place description before)
      ]
    ];
    counted = λ q pipe is. elim (pushed_is pipes (Some new_pipe) q pipe is) [
      | inl before ↦ other_comes (descriptions ++ Some (new_end ReadOnly) ∷ []) (new_end WriteOnly) q pipe (other_pipe q pipe before)
          (other_comes descriptions (new_end ReadOnly) q pipe (other_pipe q pipe before) (piped.counted q pipe before))
      | inr last ↦ subst (λ n. IsCounted with_ends n pipe) (sym last.0) (subst (IsCounted with_ends (length pipes)) (some_same (Some new_pipe) new_pipe pipe refl last.1) new_counted)
    ];
    some_end = λ q pipe is. elim (pushed_is pipes (Some new_pipe) q pipe is) [
      | inl before ↦ piped.some_end q pipe before
      | inr last ↦ subst (λ pipe. 0 < pipe.readers + pipe.writers) (some_same (Some new_pipe) new_pipe pipe refl last.1) (omega arith)
    ];
  }
    where
      write_only : WriteOnly ≢ ReadWrite
      write_only e = true_false (may_read ReadWrite) refl (sym (ap may_read e))

      read_only : ReadOnly ≢ ReadWrite
      read_only e = true_false (may_write ReadWrite) refl (sym (ap may_write e))

      new_counted : IsCounted with_ends (length pipes) new_pipe
      new_counted = record {
        readers = (let before : count_by (is_read_end (length pipes)) descriptions ≡ 0 = count_none (is_read_end (length pipes)) descriptions None (λ i h. (nobody i h _ refl).0) in
            let first : count_by (is_read_end (length pipes)) (descriptions ++ Some (new_end ReadOnly) ∷ []) ≡ count_by (is_read_end (length pipes)) descriptions + 1 =
            count_pushed (is_read_end (length pipes)) descriptions (Some (new_end ReadOnly)) 1 (ap (λ b. cond (b && true) 1 0) (itself (length pipes))) in
            let second : count_by (is_read_end (length pipes)) with_ends ≡ count_by (is_read_end (length pipes)) (descriptions ++ Some (new_end ReadOnly) ∷ []) + 0 =
            count_pushed (is_read_end (length pipes)) (descriptions ++ Some (new_end ReadOnly) ∷ []) (Some (new_end WriteOnly)) 0 (ap (λ b. cond (b && false) 1 0) (itself (length pipes))) in
            omega arith);
        writers = (let before : count_by (is_write_end (length pipes)) descriptions ≡ 0 = count_none (is_write_end (length pipes)) descriptions None (λ i h. (nobody i h _ refl).1) in
            let first : count_by (is_write_end (length pipes)) (descriptions ++ Some (new_end ReadOnly) ∷ []) ≡ count_by (is_write_end (length pipes)) descriptions + 0 =
            count_pushed (is_write_end (length pipes)) descriptions (Some (new_end ReadOnly)) 0 (ap (λ b. cond (b && false) 1 0) (itself (length pipes))) in
            let second : count_by (is_write_end (length pipes)) with_ends ≡ count_by (is_write_end (length pipes)) (descriptions ++ Some (new_end ReadOnly) ∷ []) + 1 =
            count_pushed (is_write_end (length pipes)) (descriptions ++ Some (new_end ReadOnly) ∷ []) (Some (new_end WriteOnly)) 1 (ap (λ b. cond (b && true) 1 0) (itself (length pipes))) in
            omega arith);
        room = omega arith;
        unread = λ none. refl;
      }

-- ---- what a read and a write leave

take_short : (k : ℕ) (bytes : List ℕ) → length (take k bytes) ≤ k
take_short k bytes = rw length-take (omega arith)

-- a write puts no more bytes in than there is room for, and none where nobody reads
write_fits : (pipe : Pipe) (nonblock : Bool) (n m k : ℕ) → m ≤ n → pipe_write pipe nonblock n m ≡ Moves k → length pipe.bytes ≤ capacity → (length pipe.bytes + k ≤ capacity) × (pipe.readers ≡ 0 → ⊥)
write_fits pipe nonblock n m k part moves room =
    go (pipe.readers == 0) refl (nat_le n whole) (nat_le n (free_in pipe)) refl (nat_le m (free_in pipe)) refl (free_in pipe == 0) moves
  where
    wait : (b : Bool) → not_now b ≡ Moves k → ⊥
    wait true e = cc
    wait false e = cc

    refused : Fails EPIPE ≡ Moves k → ⊥
    refused e = cc

    moved : (to : ℕ) → Moves to ≡ Moves k → to ≡ k
    moved to e = cc

    fits : k ≤ capacity - length pipe.bytes → length pipe.bytes + k ≤ capacity
    fits h = omega arith

    reads : (pipe.readers == 0) ≡ false → pipe.readers ≡ 0 → ⊥
    reads some none = true_false (pipe.readers == 0) (ap (λ n. n == 0) none) some

    go : (none : Bool) → (pipe.readers == 0) ≡ none → (small whole_fits : Bool) → nat_le n (free_in pipe) ≡ whole_fits → (all_fits : Bool) → nat_le m (free_in pipe) ≡ all_fits → (full : Bool)
        → cond none (Fails EPIPE) (cond small (cond whole_fits (Moves m) (not_now nonblock)) (cond all_fits (Moves m) (cond full (not_now nonblock) (Moves (free_in pipe))))) ≡ Moves k
        → (length pipe.bytes + k ≤ capacity) × (pipe.readers ≡ 0 → ⊥)
    go true none small whole_fits w all_fits a full e = absurd (refused e)
    go false some true true w all_fits a full e = (fits (let same : m ≡ k = moved m e in let h : n ≤ capacity - length pipe.bytes = leb-true n (free_in pipe) w in omega arith), reads some)
    go false some true false w all_fits a full e = absurd (wait nonblock e)
    go false some false whole_fits w true a full e = (fits (let same : m ≡ k = moved m e in let h : m ≤ capacity - length pipe.bytes = leb-true m (free_in pipe) a in omega arith), reads some)
    go false some false whole_fits w false a true e = absurd (wait nonblock e)
    go false some false whole_fits w false a false e = (fits (let same : capacity - length pipe.bytes ≡ k = moved (free_in pipe) e in omega arith), reads some)

-- ---- steps

abbrev Holds : Files → Type 0
Holds files = ArePiped files.descriptions files.pipes

pub closes : IsClosedUnder anybody Holds
closes = record {
  shut = λ files pid fd who piped. piped;
  wakes = λ files pid who piped. piped;
  gone = λ files place description piped is none. gone files place description piped is description.target refl;
  unlocks = λ files locks piped. piped;
}
  where
    gone : (files : Files) (place : ℕ) (description : Description) → Holds files → description_at files.descriptions place ≡ Some description → (target : Target) → description.target ≡ target
        → Holds (target_closed (with_descriptions files (with_description files.descriptions place None)) description.access target)
    gone files place description piped is (OnNode number) on = go (opens (with_descriptions files (with_description files.descriptions place None)) number)
      where
        left : ArePiped (with_description files.descriptions place None) files.pipes
        left = gone_piped files.descriptions files.pipes piped place description is (λ q. ap (is_pipe q) on)

        go : (b : Bool) → Holds (cond b (with_descriptions files (with_description files.descriptions place None))
            (with_tree (with_descriptions files (with_description files.descriptions place None)) (closed files.tree number)))
        go true = left
        go false = left
    gone files place description piped is (OnPipe p) on = left_holds Holds _ (node_of files (OnPipe p)) left (λ tree. left)
      where
        left : ArePiped (with_description files.descriptions place None) (slice_set files.pipes p (after_close (pipe_at files p) (may_write description.access)))
        left = end_gone_piped files.descriptions files.pipes piped place description p is on
    gone files place description piped is (OnSocket other) on = gone_piped files.descriptions files.pipes piped place description is (λ q. ap (is_pipe q) on)

module _ (plain : Plain) (pid : ℕ) (call : Call) (next : Files) (piped : Holds plain.files) where
  by : (after : Files) → next ≡ after → Holds after → Holds next
  by after is holds = subst Holds (sym is) holds

  same : (after : Files) → next ≡ after → after.descriptions ≡ plain.files.descriptions → after.pipes ≡ plain.files.pipes → Holds next
  same after is descriptions pipes = by after is (subst (λ list. ArePiped list after.pipes) (sym descriptions) (subst (ArePiped plain.files.descriptions) (sym pipes) piped))

  described : (fd : ℤ) (opened : Opened) (now : Description) → opened_at plain.files pid fd ≡ Some opened → now.target ≡ opened.is.target → now.access ≡ opened.is.access
      → ArePiped (with_description plain.files.descriptions opened.place (Some now)) plain.files.pipes
  described fd opened now named target access = let naming_it = naming plain.files pid fd opened named in
      described_piped plain.files.descriptions plain.files.pipes piped opened.place opened.is now naming_it.there target access

  one : (description : Description) → ((q : ℕ) → is_pipe q description.target ≡ false) → IsEnd plain.files.pipes description.access description.target
      → ArePiped (plain.files.descriptions ++ Some description ∷ []) plain.files.pipes
  one description other end = opened_piped plain.files.descriptions plain.files.pipes piped description other end

  two : (first second : Description) → ((q : ℕ) → is_pipe q first.target ≡ false) → IsEnd plain.files.pipes first.access first.target
      → ((q : ℕ) → is_pipe q second.target ≡ false) → IsEnd plain.files.pipes second.access second.target
      → ArePiped (plain.files.descriptions ++ Some first ∷ [] ++ Some second ∷ []) plain.files.pipes
  two first second no_pipe first_end no_other second_end = opened_piped (plain.files.descriptions ++ Some first ∷ []) plain.files.pipes (one first no_pipe first_end) second no_other second_end

  -- a pipe that a descriptor names
  there : (fd : ℤ) (opened : Opened) (place : ℕ) → opened_at plain.files pid fd ≡ Some opened → opened.is.target ≡ OnPipe place → pipe_in plain.files.pipes place ≡ Some (pipe_at plain.files place)
  there fd opened place named on =
      let naming_it = naming plain.files pid fd opened named in
      let end : IsEnd plain.files.pipes opened.is.access (OnPipe place) = subst (IsEnd plain.files.pipes opened.is.access) on (piped.ends opened.place opened.is naming_it.there) in
      let here = some_is (pipe_in plain.files.pipes place) end.0 in here.1 ∙ sym (ap (λ o. Some (unwrap_or o new_pipe)) here.1)

  taken : (fd : ℤ) (opened : Opened) (place k : ℕ) → opened_at plain.files pid fd ≡ Some opened → opened.is.target ≡ OnPipe place
      → ArePiped plain.files.descriptions (slice_set plain.files.pipes place (Some (after_read (pipe_at plain.files place) k)))
  taken fd opened place k named on = let is = there fd opened place named on in let counted = piped.counted place (pipe_at plain.files place) is in
      moved_piped plain.files.descriptions plain.files.pipes piped place (pipe_at plain.files place) (drop k (pipe_at plain.files place).bytes) is
      (let h : length (pipe_at plain.files place).bytes ≤ capacity = counted.room in let e : length (drop k (pipe_at plain.files place).bytes) ≡ length (pipe_at plain.files place).bytes - k = length-drop k (pipe_at plain.files place).bytes in omega arith)
      (λ none. ap (drop k) (counted.unread none) ∙ drop_none k)
    where
      drop_none : (k : ℕ) → drop {A = ℕ} k [] ≡ []
      drop_none zero = refl
      drop_none (suc k) = refl

  put : (fd : ℤ) (opened : Opened) (place n done k : ℕ) (bytes : List ℕ) → opened_at plain.files pid fd ≡ Some opened → opened.is.target ≡ OnPipe place
      → pipe_write (pipe_at plain.files place) opened.is.nonblock n (n - done) ≡ Moves k
      → ArePiped plain.files.descriptions (slice_set plain.files.pipes place (Some (after_write (pipe_at plain.files place) bytes k)))
  put fd opened place n done k bytes named on moves = let is = there fd opened place named on in let counted = piped.counted place (pipe_at plain.files place) is in
      let fits = write_fits (pipe_at plain.files place) opened.is.nonblock n (n - done) k (omega arith) moves counted.room in
      moved_piped plain.files.descriptions plain.files.pipes piped place (pipe_at plain.files place) ((pipe_at plain.files place).bytes ++ take k bytes) is
      (let h : length (pipe_at plain.files place).bytes + k ≤ capacity = fits.0 in let short : length (take k bytes) ≤ k = take_short k bytes in
      let e : length ((pipe_at plain.files place).bytes ++ take k bytes) ≡ length (pipe_at plain.files place).bytes + length (take k bytes) = length-append (pipe_at plain.files place).bytes (take k bytes) in omega arith)
      (λ none. absurd (fits.1 none))

  step_piped : {goes_on : Bool} → IsStep plain pid call goes_on next → Holds next
  step_piped (step.stays is) = same _ is refl refl
  step_piped (step.shares fd opened from to named free is) = same _ is refl refl
  step_piped (step.shares_over fd to opened named may apart is) = by _ is (close_holds anybody Holds closes plain.files pid (count_of to) tt piped)
  step_piped (step.marks fd opened cloexec named is) = same _ is refl refl
  step_piped (step.closes fd opened named is) = by _ is (close_holds anybody Holds closes plain.files pid (count_of fd) tt piped)
  step_piped (step.describes fd opened description named target access between is) = by _ is (described fd opened description named target access)
  step_piped (step.opens path flags fd found which free led other is) = by _ is (one _ (λ q. refl) tt)
  step_piped (step.writes fd addr n done opened number at offset written reaches wrote is) = by _ is (described fd opened _ reaches.named refl refl)
  step_piped (step.writes_at fd addr n opened number at written reaches wrote is) = same _ is refl refl
  step_piped (step.resizes fd opened number size tree reaches sized is) = same _ is refl refl
  step_piped (step.makes path made which led is) = same _ is refl refl
  step_piped (step.makes_fifo path made which led is) = same _ is refl refl
  step_piped (step.removes path tree which led is) = same _ is refl refl
  step_piped (step.links old new tree which led is) = same _ is refl refl
  step_piped (step.unlinks path left which led is) = same _ is refl refl
  step_piped (step.renames old new left which led is) = same _ is refl refl
  step_piped (step.pipes two free is) = by _ is (made_piped plain.files.descriptions plain.files.pipes piped)
  step_piped (step.takes fd addr n opened place k which named on may moves is) = by _ is (taken fd opened place k named on)
  step_piped (step.puts fd addr n done opened place k which named on may moves is) = by _ is (put fd opened place (count_of n) done k _ named on moves)
  step_piped (step.joins path flags fd place found openings opens at may is) = let fifo = fifo_at_is plain.files found.0 place at in
      by _ is (joined_piped plain.files.descriptions plain.files.pipes piped place (pipe_at plain.files place) (description_on (OnPipe place) flags)
      (fifo.is ∙ sym (ap (λ o. Some (unwrap_or o new_pipe)) fifo.is)) refl (one_side (fifo_pipe plain.files found.0) flags opens.right))
  step_piped (step.begins path flags fd found openings opens at may is) = by _ is (begun_piped plain.files.descriptions plain.files.pipes piped found.0
      (description_on (OnPipe (length plain.files.pipes)) flags) refl (one_side (fifo_pipe plain.files found.0) flags opens.right))
  step_piped (step.meets path flags opening which begun is) = same _ is refl refl
  step_piped (step.sockets fd free is) = by _ is (one _ (λ q. refl) tt)
  step_piped (step.pairs free_two free is) = by _ is (two _ _ (λ q. refl) tt (λ q. refl) tt)
  step_piped (step.binds fd path opened place made which named on fine led is) = same _ is refl refl
  step_piped (step.listens fd opened place named on fine is) = same _ is refl refl
  step_piped (step.shuts fd how opened place named on fine is) = same _ is refl refl
  step_piped (step.connects fd opened place number listener named on fine listening room is) = same _ is refl refl
  step_piped (step.accepts fd opened place to taken_one named on free first is) = by _ is (one _ (λ q. refl) tt)
  step_piped (step.receives fd addr n opened place k which named on moves is) = same _ is refl refl
  step_piped (step.sends fd addr n done opened place k which named on moves is) = same _ is refl refl
  step_piped (step.locks fd opened number asked sets named_so target is_file places clear is) = same _ is refl refl
  step_piped (step.starts is) = by _ is (exec_holds anybody Holds closes plain.files pid tt piped)
  step_piped (step.forks which is) = same _ is refl refl
  step_piped (step.ends_caller over ending is) = by _ is (closed_by_holds anybody Holds closes plain.files pid (λ pid. tt) piped)
  step_piped (step.ends_other who ending is) = by _ is (closed_by_holds anybody Holds closes plain.files who (λ pid. tt) piped)

-- ---- answers

pub answers_piped : (script : Script) (plain : Plain) (pid : ℕ) (call : Call) → Holds plain.files → LeadsTo (λ next. Holds next.files) (machine script plain pid call)
answers_piped script plain pid call piped = answers_keep Holds script plain pid call (λ goes_on next stepped. step_piped plain pid call next piped stepped)

pub die_piped : (plain : Plain) (pid status : ℕ) → Holds plain.files → Holds (die plain pid status).files
die_piped plain pid status piped = closed_by_holds anybody Holds closes plain.files pid (λ pid. tt) piped

pub boot_piped : (script : Script) → Holds (boot_plain script).files
boot_piped script = record { ends = λ place description is. absurd (not_some refl is); counted = λ place pipe is. absurd (not_some refl is); some_end = λ place pipe is. absurd (not_some refl is) }

pub reached_piped : (script : Script) (plain : Plain) → IsReached script plain → Holds plain.files
reached_piped script plain reached = by_induction script (λ plain. Holds plain.files) (record {
  boot = boot_piped script;
  answer = λ plain pid reached piped alive. answers_piped script plain pid (call_of script plain pid) piped;
  refuse = λ plain pid reached piped. piped;
  kill = λ plain pid status reached piped. die_piped plain pid status piped;
}) reached
