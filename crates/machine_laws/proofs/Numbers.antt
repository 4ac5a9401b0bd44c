-- What another one's call leaves of the numbers of a process and of the descriptions that they name.
use Rattle.std.proofs.Common.{◌≡◌, ◌≢◌, ℕ, zero, suc, ◌≤◌, ℤ, pos, negsuc, Bool, true, false, List, [], ◌∷◌, length, Option, None, Some, is_some, unwrap_or, refl, ap, sym, ◌∙◌, subst, ◌⊎◌, inl, inr, arith}
use Rattle.std.specs.List.{filter}
use Rattle.std.proofs.lemmas.Bool.Decides.{eqb_tells}
use Rattle.std.proofs.lemmas.List.{get_or-set_same, get_or-set_other, get_or_append_left}
use Rattle.kabi_types.specs.Arguments.{count_of}
use Rattle.kabi_types.specs.declared.calls.Call.{Call}
use Rattle.kabi_types.specs.declared.calls.Call.TheVariants as calls
use Rattle.posix_defs.specs.Ending.{closed_by}
use Rattle.posix_defs.specs.Plain.{Plain}
use Rattle.posix_defs.specs.Files.Closing.{after_close, after_closes, after_end_of, after_exec_of, all_numbers, close_in, released}
use Rattle.posix_defs.specs.Files.Descriptors.{Descriptor, descriptor_at, descriptor_of, is_cloexec}
use Rattle.posix_defs.specs.Files.Descriptions.{Description, description_at}
use Rattle.posix_defs.specs.Files.State.{Files, HalfOpen, described_as, descriptors_of, opened_as, opening_at, with_heir, with_open, with_openings}
use Rattle.posix_defs.specs.Calls.Opened.{Opened, opened_at}
use Rattle.posix_defs.specs.ByPid.{at_pid}
use Rattle.kern_laws.proofs.Nexts.{at_other as pid_other}
use Rattle.kern_laws.proofs.TablePlaces.{get_front}
use Rattle.machine_laws.specs.Described.{AreDescribed}
use Rattle.machine_laws.proofs.Closings.{IsClosedUnder, close_holds, exec_holds, one_end_holds}
use Rattle.machine_laws.proofs.Halving.{opening_closed}
use Rattle.machine_laws.specs.FileSteps as step
use Rattle.machine_laws.specs.FileSteps.{IsStep, MayWait, may_end_other}
use Rattle.machine_laws.proofs.Fading.{Fades, close_fades, closed_by_fades, exec_fades}
use Rattle.machine_laws.proofs.Naming.{by_named}
use Rattle.machine_laws.proofs.Places.{IsNaming, naming, names_there, not_some, others_after, some_same, there_within}
use Rattle.machine_laws.proofs.SharedOffsets.{stay_open}
use Rattle.machine_laws.proofs.Shutting.{released_same, same_of}
use Rattle.machine_laws.specs.Own.{HasNone, IsStill}
use Rattle.machine_laws.proofs.Tables.{true_false}

-- ---- descriptions stay or go

-- The numbers of a process are the same, and the open that it waits in, and descriptions stay or go.
pub record Leaves (who : ℕ) (old new : Files) : Type 0 where
  pub numbers : descriptors_of new who ≡ descriptors_of old who
  pub each : (place : ℕ) (was : Description) → description_at old.descriptions place ≡ Some was
      → (description_at new.descriptions place ≡ Some was) ⊎ (description_at new.descriptions place ≡ None)
  pub waits : opening_at new who ≡ opening_at old who

-- The numbers of a process are the same, and so are the descriptions that were there.
pub record Keeps (who : ℕ) (old new : Files) : Type 0 where
  pub numbers : descriptors_of new who ≡ descriptors_of old who
  pub each : (place : ℕ) (was : Description) → description_at old.descriptions place ≡ Some was → description_at new.descriptions place ≡ Some was
  pub waits : opening_at new who ≡ opening_at old who

keeps_on : (who : ℕ) (old between new : Files) → Keeps who old between → Keeps who between new → Keeps who old new
keeps_on who old between new one two = record { numbers = two.numbers ∙ one.numbers; each = λ place was is. two.each place was (one.each place was is); waits = two.waits ∙ one.waits }

kept_leaves : (who : ℕ) (old new : Files) → Keeps who old new → Leaves who old new
kept_leaves who old new keeps = record { numbers = keeps.numbers; each = λ place was is. inl (keeps.each place was is); waits = keeps.waits }

keeps_same : (who : ℕ) (old new : Files) → new.descriptors ≡ old.descriptors → new.descriptions ≡ old.descriptions → new.openings ≡ old.openings → Keeps who old new
keeps_same who old new numbers descriptions openings = record {
  numbers = same_of old new numbers who;
  each = λ place was is. ap (λ list. description_at list place) descriptions ∙ is;
  waits = ap (λ list. unwrap_or (at_pid list who) None) openings;
}

-- another process's number changes
opens_number : (who pid fd : ℕ) (files : Files) (descriptor : Option Descriptor) → who ≢ pid → Keeps who files (with_open files pid fd descriptor)
opens_number who pid fd files descriptor apart = record { numbers = others_after files pid who fd descriptor apart; each = λ place was is. is; waits = refl }

-- another process has a new description
opens_one : (who pid fd : ℕ) (files : Files) (cloexec : Bool) (description : Description) → who ≢ pid → Keeps who files (opened_as files pid fd cloexec description)
opens_one who pid fd files cloexec description apart = record {
  numbers = others_after files pid who fd (Some (record { description = length files.descriptions; cloexec = cloexec })) apart;
  each = λ place was is. get_or_append_left files.descriptions (Some description ∷ []) None place (there_within files.descriptions place was is) ∙ is;
  waits = refl;
}

-- a child is made, which isn't one of those before
pub has_heir : (who parent : ℕ) (files : Files) → who ≤ length files.descriptors → who ≤ length files.openings → Leaves who files (with_heir files parent)
has_heir who parent files made made_too = record { numbers = stay_open files parent who made; each = λ place was is. inl is; waits = in_front who made_too }
  where
    in_front : (other : ℕ) → other ≤ length files.openings → opening_at (with_heir files parent) other ≡ opening_at files other
    in_front zero h = refl
    in_front (suc i) h = ap (λ o. unwrap_or o None) (get_front files.openings (None ∷ []) i (omega arith))

-- ---- another process closes

close_numbers : (who pid fd : ℕ) (files : Files) → who ≢ pid → descriptors_of (after_close files pid fd) who ≡ descriptors_of files who
close_numbers who pid fd files apart = go (descriptor_at (descriptors_of files pid) fd)
  where
    go : (o : Option Descriptor) → descriptors_of (close_in files pid fd o) who ≡ descriptors_of files who
    go None = refl
    go (Some descriptor) =
        same_of (with_open files pid fd None) (released (with_open files pid fd None) descriptor.description) (released_same (with_open files pid fd None) descriptor.description) who
        ∙ others_after files pid who fd None apart

closes_numbers : (who pid : ℕ) (files : Files) (fds : List ℕ) → who ≢ pid → descriptors_of (after_closes files pid fds) who ≡ descriptors_of files who
closes_numbers who pid files [] apart = refl
closes_numbers who pid files (fd ∷ fds) apart = closes_numbers who pid (after_close files pid fd) fds apart ∙ close_numbers who pid fd files apart

exec_numbers : (who pid : ℕ) (files : Files) → who ≢ pid → descriptors_of (after_exec_of files pid) who ≡ descriptors_of files who
unfolding after_exec_of
exec_numbers who pid files apart = closes_numbers who pid files (filter (is_cloexec (descriptors_of files pid)) all_numbers) apart

end_numbers : (who pid : ℕ) (files : Files) → who ≢ pid → descriptors_of (after_end_of files pid) who ≡ descriptors_of files who
unfolding after_end_of
end_numbers who pid files apart = closes_numbers who pid files all_numbers apart

fading : (who : ℕ) (old new : Files) → descriptors_of new who ≡ descriptors_of old who → opening_at new who ≡ opening_at old who → Fades old new → Leaves who old new
fading who old new numbers waits fades = record {
  numbers = numbers;
  each = λ place was is. elim (fades.each place) [ inl same ↦ inl (same ∙ is) | inr gone ↦ inr gone ];
  waits = waits;
}

-- the open that a process waits in
abbrev StillWaits : ℕ → Files → Files → Type 0
StillWaits who old files = opening_at files who ≡ opening_at old who

closed_waits : (who : ℕ) (old : Files) → IsClosedUnder (λ pid. who ≢ pid) (StillWaits who old)
closed_waits who old = opening_closed old who

closes : (who pid fd : ℕ) (files : Files) → who ≢ pid → Leaves who files (after_close files pid fd)
closes who pid fd files apart = fading who files (after_close files pid fd) (close_numbers who pid fd files apart)
    (close_holds (λ other. who ≢ other) (StillWaits who files) (closed_waits who files) files pid fd apart refl) (close_fades files pid fd)

pub execs : (who pid : ℕ) (files : Files) → who ≢ pid → Leaves who files (after_exec_of files pid)
execs who pid files apart = fading who files (after_exec_of files pid) (exec_numbers who pid files apart)
    (exec_holds (λ other. who ≢ other) (StillWaits who files) (closed_waits who files) files pid apart refl) (exec_fades files pid)

-- another ends, which isn't the first
pub ends : (who target : ℕ) (files : Files) → who ≢ target → target ≢ 1 → Leaves who files (closed_by files target)
ends who target files apart first = fading who files (closed_by files target) (numbers target apart first)
    (one_end_holds (λ other. who ≢ other) (StillWaits who files) (closed_waits who files) files target first apart refl) (closed_by_fades files target)
  where
    numbers : (target : ℕ) → who ≢ target → target ≢ 1 → descriptors_of (closed_by files target) who ≡ descriptors_of files who
    numbers zero apart first = end_numbers who zero files apart
    numbers (suc zero) apart first = absurd (first refl)
    numbers (suc (suc n)) apart first = end_numbers who (suc (suc n)) files apart

-- ---- steps of files

-- What becomes of a description when another process calls: it stays, it goes, or that process has a number of it, and it gets
-- another offset or other flags.
pub data Becomes (old : Files) (pid place : ℕ) (was : Description) (now : Option Description) : Type 0 where
  stays : now ≡ Some was → Becomes old pid place was now
  goes : now ≡ None → Becomes old pid place was now
  changes : (fd : ℤ) (opened : Opened) (description : Description) → opened_at old pid fd ≡ Some opened → opened.place ≡ place
      → now ≡ Some description → description.target ≡ was.target → description.access ≡ was.access → Becomes old pid place was now

pub record Spares (pid who : ℕ) (old new : Files) : Type 0 where
  pub numbers : descriptors_of new who ≡ descriptors_of old who
  pub becomes : (place : ℕ) (was : Description) → description_at old.descriptions place ≡ Some was → Becomes old pid place was (description_at new.descriptions place)
  pub waits : opening_at new who ≡ opening_at old who

pub leaves_spare : (pid who : ℕ) (old new : Files) → Leaves who old new → Spares pid who old new
leaves_spare pid who old new leaves = record {
  numbers = leaves.numbers;
  becomes = λ place was is. elim (leaves.each place was is) [ inl same ↦ stays same | inr gone ↦ goes gone ];
  waits = leaves.waits;
}

-- the description of a number becomes another, whatever else changes beside descriptors and descriptions
describes : (pid who : ℕ) (old files : Files) (fd : ℤ) (opened : Opened) (description : Description) → files.descriptors ≡ old.descriptors → files.descriptions ≡ old.descriptions → files.openings ≡ old.openings
    → opened_at old pid fd ≡ Some opened → description.target ≡ opened.is.target → description.access ≡ opened.is.access → Spares pid who old (described_as files opened.place description)
describes pid who old files fd opened description numbers same openings named target access = record {
  numbers = same_of old (described_as files opened.place description) numbers who;
  becomes = becomes;
  waits = ap (λ list. unwrap_or (at_pid list who) None) openings;
}
  where
    naming_it : IsNaming old pid fd opened
    naming_it = naming old pid fd opened named

    becomes : (place : ℕ) (was : Description) → description_at old.descriptions place ≡ Some was
        → Becomes old pid place was (description_at (described_as files opened.place description).descriptions place)
    becomes place was is = elim (eqb_tells place opened.place) [
      | inr apart ↦ stays (get_or-set_other files.descriptions opened.place place (Some description) None apart.1 ∙ ap (λ list. description_at list place) same ∙ is)
      | inl alike ↦ (let it : opened.is ≡ was = some_same (description_at old.descriptions opened.place) opened.is was naming_it.there (ap (description_at old.descriptions) (sym alike.1) ∙ is) in
          changes fd opened description named (sym alike.1)
          (ap (description_at (described_as files opened.place description).descriptions) alike.1
          ∙ get_or-set_same files.descriptions opened.place (Some description) None (there_within files.descriptions opened.place opened.is (ap (λ list. description_at list opened.place) same ∙ naming_it.there)))
          (target ∙ ap (λ d. d.target) it) (access ∙ ap (λ d. d.access) it))
    ]

module _ (plain : Plain) (pid who : ℕ) (call : Call) (next : Files) (apart : who ≢ pid) (no_fork : call ≢ calls.Fork) (no_other : may_end_other call ≡ false) where
  by : (after : Files) → next ≡ after → Leaves who plain.files after → Spares pid who plain.files next
  by after is leaves = subst (Spares pid who plain.files) (sym is) (leaves_spare pid who plain.files after leaves)

  same : (after : Files) → next ≡ after → after.descriptors ≡ plain.files.descriptors → after.descriptions ≡ plain.files.descriptions → after.openings ≡ plain.files.openings → Spares pid who plain.files next
  same after is numbers descriptions openings = by after is (kept_leaves who plain.files after (keeps_same who plain.files after numbers descriptions openings))

  -- a description is opened, or two, whatever else changes before beside descriptors and descriptions
  one : (files : Files) (fd : ℕ) (cloexec : Bool) (description : Description) → files.descriptors ≡ plain.files.descriptors → files.descriptions ≡ plain.files.descriptions → files.openings ≡ plain.files.openings
      → Keeps who plain.files (opened_as files pid fd cloexec description)
  one files fd cloexec description numbers descriptions openings = keeps_on who plain.files files (opened_as files pid fd cloexec description)
      (keeps_same who plain.files files numbers descriptions openings) (opens_one who pid fd files cloexec description apart)

  another : (files : Files) (fd : ℕ) (cloexec : Bool) (description : Description) → Keeps who plain.files files → Keeps who plain.files (opened_as files pid fd cloexec description)
  another files fd cloexec description keeps = keeps_on who plain.files files (opened_as files pid fd cloexec description) keeps (opens_one who pid fd files cloexec description apart)

  -- who waits for the other side of a FIFO is another
  waited : {flags : ℤ} {fd number : ℕ} (files : Files) (openings : List (Option HalfOpen)) → MayWait plain.files pid flags fd number openings → Keeps who plain.files files
      → Keeps who plain.files (with_openings files openings)
  waited files openings waits keeps = record { numbers = keeps.numbers; each = keeps.each; waits = others_wait waits }
    where
      others_wait : {flags : ℤ} {fd number : ℕ} → MayWait plain.files pid flags fd number openings → unwrap_or (at_pid openings who) None ≡ opening_at plain.files who
      others_wait (step.goes over is) = ap (λ list. unwrap_or (at_pid list who) None) is
      others_wait (step.waits still is) = ap (λ list. unwrap_or (at_pid list who) None) is ∙ ap (λ o. unwrap_or o None) (pid_other plain.files.openings pid who _ apart)

  opened : (after : Files) → next ≡ after → Keeps who plain.files after → Spares pid who plain.files next
  opened after is keeps = by after is (kept_leaves who plain.files after keeps)

  described : (files : Files) (fd : ℤ) (given : Opened) (description : Description) → next ≡ described_as files given.place description → files.descriptors ≡ plain.files.descriptors
      → files.descriptions ≡ plain.files.descriptions → files.openings ≡ plain.files.openings → opened_at plain.files pid fd ≡ Some given → description.target ≡ given.is.target → description.access ≡ given.is.access
      → Spares pid who plain.files next
  described files fd given description is numbers descriptions openings named target access =
      subst (Spares pid who plain.files) (sym is) (describes pid who plain.files files fd given description numbers descriptions openings named target access)

  -- another number names something after a closing
  closed_then : (to : ℕ) (descriptor : Option Descriptor) → Leaves who plain.files (with_open (after_close plain.files pid to) pid to descriptor)
  closed_then to descriptor = let leaves = closes who pid to plain.files apart in record {
    numbers = others_after (after_close plain.files pid to) pid who to descriptor apart ∙ leaves.numbers;
    each = leaves.each;
    waits = leaves.waits;
  }

  pub step_spares : IsStep plain pid call true next → Spares pid who plain.files next
  step_spares (step.stays is) = same _ is refl refl refl
  step_spares (step.shares fd given from to named free is) = opened _ is (opens_number who pid to plain.files _ apart)
  step_spares (step.shares_over fd to given named may other is) = by _ is (closed_then (count_of to) _)
  step_spares (step.marks fd given cloexec named is) = opened _ is (opens_number who pid (count_of fd) plain.files _ apart)
  step_spares (step.closes fd given named is) = by _ is (closes who pid (count_of fd) plain.files apart)
  step_spares (step.describes fd given description named target access between is) = described plain.files fd given description is refl refl refl named target access
  step_spares (step.opens path flags fd found which free led other is) = opened _ is (one _ fd _ _ refl refl refl)
  step_spares (step.writes fd addr n done given number at offset written reaches wrote is) = described _ fd given _ is refl refl refl reaches.named refl refl
  step_spares (step.writes_at fd addr n given number at written reaches wrote is) = same _ is refl refl refl
  step_spares (step.resizes fd given number size tree reaches sized is) = same _ is refl refl refl
  step_spares (step.makes path made which led is) = same _ is refl refl refl
  step_spares (step.makes_fifo path made which led is) = same _ is refl refl refl
  step_spares (step.removes path tree which led is) = same _ is refl refl refl
  step_spares (step.links old new tree which led is) = same _ is refl refl refl
  step_spares (step.unlinks path left which led is) = same _ is refl refl refl
  step_spares (step.renames old new left which led is) = same _ is refl refl refl
  step_spares (step.pipes two free is) = opened _ is (another _ two.second _ _ (one _ two.first _ _ refl refl refl))
  step_spares (step.takes fd addr n given place k which named on may moves is) = same _ is refl refl refl
  step_spares (step.puts fd addr n done given place k which named on may moves is) = same _ is refl refl refl
  step_spares (step.joins path flags fd place found openings opens at may is) = opened _ is (waited _ openings may (one _ fd _ _ refl refl refl))
  step_spares (step.begins path flags fd found openings opens at may is) = opened _ is (waited _ openings may (one _ fd _ _ refl refl refl))
  step_spares (step.meets path flags opening which begun is) = by _ is (record {
    numbers = refl;
    each = λ place was there. inl there;
    waits = ap (λ o. unwrap_or o None) (pid_other plain.files.openings pid who None apart);
  })
  step_spares (step.sockets fd free is) = opened _ is (one _ fd _ _ refl refl refl)
  step_spares (step.pairs two free is) = opened _ is (another _ two.second _ _ (one _ two.first _ _ refl refl refl))
  step_spares (step.binds fd path given place made which named on fine led is) = same _ is refl refl refl
  step_spares (step.listens fd given place named on fine is) = same _ is refl refl refl
  step_spares (step.shuts fd how given place named on fine is) = same _ is refl refl refl
  step_spares (step.connects fd given place number listener named on fine listening room is) = same _ is refl refl refl
  step_spares (step.accepts fd given place to taken named on free first is) = opened _ is (one _ to _ _ refl refl refl)
  step_spares (step.receives fd addr n given place k which named on moves is) = same _ is refl refl refl
  step_spares (step.sends fd addr n done given place k which named on moves is) = same _ is refl refl refl
  step_spares (step.locks fd opened number asked sets named_so target is_file places clear is) = same _ is refl refl refl
  step_spares (step.starts is) = by _ is (execs who pid plain.files apart)
  step_spares (step.forks which is) = absurd (no_fork which)
  step_spares (step.ends_caller over ending is) = absurd (true_false refl over)
  step_spares (step.ends_other other ending is) = absurd (true_false ending no_other)

-- ---- what a number names

module _ (pid who : ℕ) (old new : Files) (spares : Spares pid who old new) (described : AreDescribed new) where
  -- what a number names is there still
  there : (fd : ℤ) (was : Opened) (descriptor : Descriptor) → descriptor_of (descriptors_of old who) fd ≡ Some descriptor → descriptor.description ≡ was.place
      → is_some (description_at new.descriptions was.place) ≡ true
  there (pos fd) was descriptor held same = described.named was.place (by_named new was.place (record {
    who = who;
    fd = fd;
    descriptor = descriptor;
    held = ap (λ list. descriptor_at list fd) spares.numbers ∙ held;
    names = same;
  }))
  there (negsuc fd) was descriptor held same = absurd (not_some refl held)

  module _ (fd : ℤ) (was : Opened) (named : opened_at old who fd ≡ Some was) where
    naming_it : IsNaming old who fd was
    naming_it = naming old who fd was named

    held : descriptor_of (descriptors_of new who) fd ≡ Some naming_it.descriptor
    held = ap (λ list. descriptor_of list fd) spares.numbers ∙ naming_it.held

    some : is_some (description_at new.descriptions was.place) ≡ true
    some = there fd was naming_it.descriptor naming_it.held naming_it.place

    sees : (description : Description) → description_at new.descriptions was.place ≡ Some description → opened_at new who fd ≡ Some (record { place = was.place; is = description })
    sees description is = names_there new who fd naming_it.descriptor was.place description held naming_it.place is

    pub names_still : (now : Opened) × (opened_at new who fd ≡ Some now) × IsStill was now
    names_still = go (spares.becomes was.place was.is naming_it.there)
      where
        go : Becomes old pid was.place was.is (description_at new.descriptions was.place) → (now : Opened) × (opened_at new who fd ≡ Some now) × IsStill was now
        go (stays is) = (record { place = was.place; is = was.is }, sees was.is is, record { place = refl; target = refl; access = refl })
        go (goes is) = absurd (true_false some (ap is_some is))
        go (changes other opened description has at is target access) =
            (record { place = was.place; is = description }, sees description is, record { place = refl; target = target; access = access })

    pub names_same : HasNone old pid was.place → opened_at new who fd ≡ Some was
    names_same none = go (spares.becomes was.place was.is naming_it.there)
      where
        go : Becomes old pid was.place was.is (description_at new.descriptions was.place) → opened_at new who fd ≡ Some was
        go (stays is) = sees was.is is
        go (goes is) = absurd (true_false some (ap is_some is))
        go (changes other opened description has at is target access) = absurd (none other opened has at)
