-- What a process has by itself, in histories.
use Rattle.std.proofs.Common.{◌≡◌, ◌≢◌, ℕ, ◌≤◌, ◌==◌, Bool, true, false, List, [], ◌∷◌, ◌++◌, length, refl, ap, sym, ◌∙◌, subst, inl, inr, arith}
use Rattle.std.specs.List.{AllByRecursion}
use Rattle.std.proofs.lemmas.Bool.Decides.{eqb_tells}
use Rattle.kabi_types.specs.Arguments.{count_of}
use Rattle.kabi_types.specs.declared.errnos.Errno.TheVariants.{ENOMEM}
use Rattle.kabi_types.specs.declared.replies.Reply.TheVariants.{Fail}
use Rattle.kabi_types.specs.declared.entries.Entry.{Entry}
use Rattle.kabi_types.specs.declared.entries.Entry.TheVariants as entry
use Rattle.kabi_types.specs.declared.scripts.Script.{Script}
use Rattle.kabi_types.specs.declared.calls.CallKind.{CallKind}
use Rattle.posix_defs.specs.Answer as answer
use Rattle.posix_defs.specs.Answer.{Answer}
use Rattle.posix_defs.specs.Forking.{child_of}
use Rattle.posix_defs.specs.Ending.{die}
use Rattle.posix_defs.specs.History as histories
use Rattle.posix_defs.specs.History.{IsAnswered, IsRun, MayFollow, Past}
use Rattle.posix_defs.specs.Killing.{sigkill}
use Rattle.posix_defs.specs.Machine.{machine}
use Rattle.posix_defs.specs.Memory.{no_memory}
use Rattle.posix_defs.specs.Plain.{Plain, answered, call_of}
use Rattle.posix_defs.specs.Process.{is_alive, is_alive_in, process_at}
use Rattle.answer_laws.specs.Shapes as shape
use Rattle.answer_laws.specs.Shapes.{HasShape}
use Rattle.answer_laws.proofs.Shapes.{machine_shape}
use Rattle.kern_laws.specs.Sleeping.{is_of}
use Rattle.kern_laws.proofs.Families.{alive_there, follows_on, reached_kept}
use Rattle.kern_laws.proofs.Remembering.{alive_ignoring, alive_still, alive_working}
use Rattle.kern_laws.proofs.TablePlaces.{same_in_front, was_made}
use Rattle.machine_laws.specs.FileSteps.{LeadsTo}
use Rattle.machine_laws.specs.Reached.{IsReached}
use Rattle.machine_laws.proofs.Histories.{run_reached}
use Rattle.machine_laws.specs.Followed as followed
use Rattle.machine_laws.specs.Followed.{AreOfOthers, Follow}
use Rattle.machine_laws.specs.Own.{IsLeftAlone, KeepsOwn}
use Rattle.machine_laws.proofs.Alone.{answers_leave_alone, killed_leaves_alone, refused_leaves_alone}
use Rattle.machine_laws.proofs.Tables.{die_dead, reaped_dead, true_false}

-- ---- an entry

own_same : (who : ℕ) (plain : Plain) → KeepsOwn who plain plain
own_same who plain = record { memory = refl; directory = refl; ignores = refl; control = refl; numbers = refl; waits = refl; names = λ fd was is. (was, is, record { place = refl; target = refl; access = refl }) }

own_on : (who : ℕ) (old between new : Plain) → KeepsOwn who old between → KeepsOwn who between new → KeepsOwn who old new
own_on who old between new one two = record {
  memory = two.memory ∙ one.memory;
  directory = two.directory ∙ one.directory;
  ignores = two.ignores ∙ one.ignores;
  control = two.control ∙ one.control;
  numbers = two.numbers ∙ one.numbers;
  waits = two.waits ∙ one.waits;
  names = λ fd was is. let first = one.names fd was is in let second = two.names fd first.0 first.1 in (
    second.0,
    second.1,
    record {
      place = (let a = first.2 in let b = second.2 in b.place ∙ a.place);
      target = (let a = first.2 in let b = second.2 in b.target ∙ a.target);
      access = (let a = first.2 in let b = second.2 in b.access ∙ a.access);
    },
  );
}

-- this number is another
apart_from : (who other : ℕ) → (other == who) ≡ false → who ≢ other
apart_from who other is same = elim (eqb_tells other who) [ inl alike ↦ true_false alike.0 is | inr apart ↦ apart.1 (sym same) ]

module _ (script : Script) (history : List Entry) (past next : Past) (run : IsRun script history past) (who : ℕ) where
  reached : IsReached script past.plain
  reached = run_reached run

  to_end : (plain : Plain) → next.plain ≡ plain → KeepsOwn who past.plain plain → KeepsOwn who past.plain next.plain
  to_end plain is own = subst (KeepsOwn who past.plain) (sym is) own

  by_answer : (pid : ℕ) (of_kind : CallKind) (given : Plain → Answer) (sleepers : List ℕ)
      → ((plain : Plain) → LeadsTo (λ after. is_alive after.table who ≡ true → IsLeftAlone pid who past.plain after) (given plain)
      → is_alive plain.table who ≡ true → IsLeftAlone pid who past.plain plain)
      → (pid == who) ≡ false → IsAnswered script past pid of_kind given sleepers next → is_alive past.plain.table who ≡ true → is_alive next.plain.table who ≡ true → KeepsOwn who past.plain next.plain
  by_answer pid of_kind given sleepers holds other is alive still = to_end is.plain led
      (let may = is.may_run in
      let alone = holds is.plain (subst (LeadsTo (λ after. is_alive after.table who ≡ true → IsLeftAlone pid who past.plain after)) is.answers
      (answers_leave_alone script past.plain reached pid who (call_of script past.plain pid) may.alive (apart_from who pid other) alive))
      (subst (λ (plain : Plain). is_alive plain.table who ≡ true) led still) in alone.own)
    where
      led : next.plain ≡ is.plain
      led = ap (λ n. n.plain) is.leads

  own_after : (added : Entry) → MayFollow script past added next → is_of who added ≡ false → is_alive past.plain.table who ≡ true → is_alive next.plain.table who ≡ true
      → KeepsOwn who past.plain next.plain
  own_after (entry.Done pid of_kind reply) is other alive still = by_answer pid of_kind (answer.Done reply) _ (λ plain holds. holds) other is alive still
  own_after (entry.Part pid of_kind moved) is other alive still = by_answer pid of_kind (answer.Part moved) _ (λ plain holds. holds) other is alive still
  own_after (entry.Ended pid of_kind status) is other alive still = by_answer pid of_kind (answer.Ended status) _ (λ plain holds. holds) other is alive still
  own_after (entry.Slept pid of_kind) is other alive still = to_end past.plain (ap (λ n. n.plain) is.leads) (own_same who past.plain)
  own_after (entry.Refused pid of_kind asked) is other alive still = to_end (answered script past.plain pid (Fail ENOMEM)) (ap (λ n. n.plain) is.leads)
      (let alone = refused_leaves_alone script past.plain reached pid who (apart_from who pid other) in alone.own)
  own_after (entry.Gone pid of_kind) is other alive still = to_end past.plain (ap (λ n. n.plain) is.leads) (own_same who past.plain)
  own_after (entry.Killed pid waiter need live) is other alive still = to_end (die past.plain pid sigkill) (ap (λ n. n.plain) is.leads)
      (let alone = killed_leaves_alone script past.plain reached pid sigkill who (apart_from who pid other) alive
      (subst (λ (plain : Plain). is_alive plain.table who ≡ true) (ap (λ n. n.plain) is.leads) still) in alone.own)
  own_after (entry.Evicted what) is other alive still = to_end past.plain (ap (λ n. n.plain) is.leads) (own_same who past.plain)

pub follows_own : {script : Script} {history : List Entry} {past : Past} (added : Entry) (next : Past) → IsRun script history past → MayFollow script past added next
    → (who : ℕ) → is_of who added ≡ false → is_alive past.plain.table who ≡ true → is_alive next.plain.table who ≡ true → KeepsOwn who past.plain next.plain
follows_own {script} {history} {past} added next run follows who other alive still = own_after script history past next run who added follows other alive still

-- ---- who has ended

module _ (script : Script) (plain : Plain) (pid who : ℕ) (made : who ≤ length plain.table) (dead : is_alive plain.table who ≡ false) where
  abbrev Dead : Answer → Type 0
  Dead given = LeadsTo (λ next. is_alive next.table who ≡ false) given

  answers_dead : (call : _) (given : Answer) → HasShape script plain pid call given → Dead given
  answers_dead call given (shape.blocks may is) = subst Dead (sym is) tt
  answers_dead call given (shape.fails errno other is) = subst Dead (sym is) dead
  answers_dead call given (shape.tells files said is_said is) = subst Dead (sym is) dead
  answers_dead call given (shape.puts files memory said is_said put is) = subst Dead (sym is) (alive_still plain.table pid who memory ∙ dead)
  answers_dead call given (shape.moves path directory called led is) = subst Dead (sym is) (alive_working plain.table pid who directory ∙ dead)
  answers_dead call given (shape.disposes signal disposition ignores before called is) = subst Dead (sym is) (alive_ignoring plain.table pid who ignores ∙ dead)
  answers_dead call given (shape.parts files moved part is) = subst Dead (sym is) dead
  answers_dead call given (shape.awaits files begun is) = subst Dead (sym is) dead
  answers_dead call given (shape.starts place is) = subst Dead (sym is) (alive_still plain.table pid who no_memory ∙ dead)
  answers_dead call given (shape.forks is) = subst Dead (sym is) (ap is_alive_in (same_in_front plain.table (child_of pid (process_at plain.table pid)) who made) ∙ dead)
  answers_dead call given (shape.reaps child status over is) = subst Dead (sym is) (reaped_dead plain.table child who dead)
  answers_dead call given (shape.ends status is) = subst Dead (sym is) (die_dead plain.table pid status who dead)
  answers_dead call given (shape.ends_another target signal called first own lived is) = subst Dead (sym is) (die_dead plain.table target (count_of signal) who dead)

module _ (script : Script) (past next : Past) (who : ℕ) (made : who ≤ length past.plain.table) (dead : is_alive past.plain.table who ≡ false) where
  dead_at : (plain : Plain) → next.plain ≡ plain → is_alive plain.table who ≡ false → is_alive next.plain.table who ≡ false
  dead_at plain is over = ap (λ (p : Plain). is_alive p.table who) is ∙ over

  dead_answer : (pid : ℕ) (of_kind : CallKind) (given : Plain → Answer) (sleepers : List ℕ)
      → ((plain : Plain) → LeadsTo (λ after. is_alive after.table who ≡ false) (given plain) → is_alive plain.table who ≡ false)
      → IsAnswered script past pid of_kind given sleepers next → is_alive next.plain.table who ≡ false
  dead_answer pid of_kind given sleepers holds is = dead_at is.plain (ap (λ n. n.plain) is.leads)
      (holds is.plain (subst (LeadsTo (λ after. is_alive after.table who ≡ false)) is.answers
      (answers_dead script past.plain pid who made dead (call_of script past.plain pid) (machine script past.plain pid (call_of script past.plain pid))
      (machine_shape script past.plain pid (call_of script past.plain pid)))))

  dead_after : (added : Entry) → MayFollow script past added next → is_alive next.plain.table who ≡ false
  dead_after (entry.Done pid of_kind reply) is = dead_answer pid of_kind (answer.Done reply) _ (λ plain over. over) is
  dead_after (entry.Part pid of_kind moved) is = dead_answer pid of_kind (answer.Part moved) _ (λ plain over. over) is
  dead_after (entry.Ended pid of_kind status) is = dead_answer pid of_kind (answer.Ended status) _ (λ plain over. over) is
  dead_after (entry.Slept pid of_kind) is = dead_at past.plain (ap (λ n. n.plain) is.leads) dead
  dead_after (entry.Refused pid of_kind asked) is = dead_at _ (ap (λ n. n.plain) is.leads) dead
  dead_after (entry.Gone pid of_kind) is = dead_at past.plain (ap (λ n. n.plain) is.leads) dead
  dead_after (entry.Killed pid waiter need live) is = dead_at _ (ap (λ n. n.plain) is.leads) (die_dead past.plain.table pid sigkill who dead)
  dead_after (entry.Evicted what) is = dead_at past.plain (ap (λ n. n.plain) is.leads) dead

pub follows_dead : {script : Script} {history : List Entry} {past : Past} (added : Entry) (next : Past) → IsRun script history past → MayFollow script past added next
    → (who : ℕ) → who ≤ length past.plain.table → is_alive past.plain.table who ≡ false → is_alive next.plain.table who ≡ false
follows_dead {script} {history} {past} added next run follows who made dead = dead_after script past next who made dead added follows

-- ---- entries one after another

-- what such entries lead to is a history's
record IsFollowed (script : Script) (past next : Past) : Type 0 where
  history : List Entry
  run : IsRun script history next
  longer : length past.plain.table ≤ length next.plain.table

followed_on : {script : Script} {history : List Entry} {past next : Past} {entries : List Entry} → IsRun script history past → Follow script past entries next → IsFollowed script past next
followed_on {script} {history} {past} run followed.none = record { history = history; run = run; longer = omega arith }
followed_on {script} {history} {past} run (followed.more entries between next added before follows) = let so_far = followed_on run before in record {
  history = so_far.history ++ added ∷ [];
  run = histories.goes_on so_far.history between next added so_far.run follows;
  longer = (let leads = follows_on script between added next (reached_kept so_far.run) follows in let goes = leads.goes_on in
      let h : length past.plain.table ≤ length between.plain.table = so_far.longer in let k : length between.plain.table ≤ length next.plain.table = goes.grows in omega arith);
}

-- of a list and one more, it holds of those and of that one
all_but_last : (Holds : Entry → Type 0) (entries : List Entry) (last : Entry) → AllByRecursion Holds (entries ++ last ∷ []) → AllByRecursion Holds entries × Holds last
all_but_last Holds [] last all = (tt, all.0)
all_but_last Holds (entry ∷ entries) last all = let rest = all_but_last Holds entries last all.1 in ((all.0, rest.0), rest.1)

pub all_own : {script : Script} {history : List Entry} {past : Past} {entries : List Entry} {next : Past} → IsRun script history past → Follow script past entries next
    → (who : ℕ) → AreOfOthers who entries → is_alive past.plain.table who ≡ true → is_alive next.plain.table who ≡ true → KeepsOwn who past.plain next.plain
all_own {script} {history} {past} run followed.none who others alive still = own_same who past.plain
all_own {script} {history} {past} run (followed.more entries between next added before follows) who others alive still =
    go (λ lives. all_own run before who split.0 alive lives) (is_alive between.plain.table who) refl
  where
    split : AreOfOthers who entries × (is_of who added ≡ false)
    split = all_but_last (λ added. is_of who added ≡ false) entries added others

    so_far : IsFollowed script past between
    so_far = followed_on run before

    made : who ≤ length past.plain.table
    made = let there = alive_there past.plain.table who alive in let it = was_made past.plain.table who there.0 there.1 in it.1

    go : (is_alive between.plain.table who ≡ true → KeepsOwn who past.plain between.plain) → (b : Bool) → is_alive between.plain.table who ≡ b → KeepsOwn who past.plain next.plain
    go earlier true lives = own_on who past.plain between.plain next.plain (earlier lives) (follows_own added next so_far.run follows who split.1 lives still)
    go earlier false over = absurd (true_false still (follows_dead added next so_far.run follows who (let h : who ≤ length past.plain.table = made in let k : length past.plain.table ≤ length between.plain.table = so_far.longer in omega arith) over))
