-- What a process sees of a machine in which descriptions stay: its numbers are open on what they were open on.
use Rattle.std.proofs.Common.{◌≡◌, ℕ, ℤ, pos, negsuc, Bool, true, List, [], ◌∷◌, Option, None, Some, is_some, refl, ap, sym, subst}
use Rattle.std.specs.Option.{option_map}
use Rattle.kabi_types.specs.declared.scripts.Script.{Script}
use Rattle.machine_laws.proofs.Naming.{by_named}
use Rattle.machine_laws.proofs.Tables.{true_false}
use Rattle.machine_laws.specs.Described.{AreDescribed}
use Rattle.posix_defs.specs.Calls.Opened.{Opened, opened_at, opened_by}
use Rattle.posix_defs.specs.Control as program
use Rattle.posix_defs.specs.Files.Descriptions.{Description, Target, OnNode, OnPipe, OnSocket, description_at}
use Rattle.posix_defs.specs.Files.Descriptors.{Descriptor, descriptor_of}
use Rattle.posix_defs.specs.Files.State.{Files, descriptors_of, opening_at, pipe_at}
use Rattle.posix_defs.specs.Pipe.{opens_of}
use Rattle.posix_defs.specs.Plain.{Plain, control_of}
use Rattle.posix_defs.specs.Process.{is_alive_in, memory_in}
use Rattle.waking_laws.specs.Waking.{StaysItself, target_at}
use Rattle.waking_laws.proofs.Kin.{SameKin}
use Rattle.waking_laws.proofs.QuietFiles.{IsAlike, KeepsDescribed, KeepsQueues}
use Rattle.waking_laws.proofs.Seeing.{SameOpened, SeesQueue, SeesQueues, SeesSame}

-- ---- what a process has open

-- the description that a number names is there
pub is_there : (who : ℕ) (files : Files) → AreDescribed files → (fd : ℤ) (descriptor : Descriptor) → descriptor_of (descriptors_of files who) fd ≡ Some descriptor
    → is_some (description_at files.descriptions descriptor.description) ≡ true
is_there who files described (pos fd) descriptor held = described.named descriptor.description
    (by_named files descriptor.description (record { who = who; fd = fd; descriptor = descriptor; held = held; names = refl }))
is_there who files described (negsuc n) descriptor held = cc

module _ (who : ℕ) (old new : Files) (numbers : descriptors_of new who ≡ descriptors_of old who) (kept : KeepsDescribed old new) (described : AreDescribed old) where
  behind : (descriptor : Descriptor) (there : Option Description) → description_at old.descriptions descriptor.description ≡ there → is_some there ≡ true
      → SameOpened (option_map (λ (it : Description). record { place = descriptor.description; is = it }) there) (opened_by new (Some descriptor))
  behind descriptor None is some = absurd (true_false some refl)
  behind descriptor (Some was) is some =
      let it : (now : Description) × (description_at new.descriptions descriptor.description ≡ Some now) × IsAlike was now = kept descriptor.description was is in
      subst (λ there. SameOpened (Some (record { place = descriptor.description; is = was })) (option_map (λ (it : Description). record { place = descriptor.description; is = it }) there))
      (sym it.1) it.2

  pub opened_alike : (fd : ℤ) → SameOpened (opened_at old who fd) (opened_at new who fd)
  opened_alike fd =
      subst (λ list. SameOpened (opened_at old who fd) (opened_by new (descriptor_of list fd))) (sym numbers) (go (descriptor_of (descriptors_of old who) fd) refl)
    where
      go : (o : Option Descriptor) → descriptor_of (descriptors_of old who) fd ≡ o → SameOpened (opened_by old o) (opened_by new o)
      go None is = tt
      go (Some descriptor) is = behind descriptor _ refl (is_there who old described fd descriptor is)

  targets_alike : (was now : Option Opened) → SameOpened was now → option_map (λ (it : Opened). it.is.target) now ≡ option_map (λ (it : Opened). it.is.target) was
  targets_alike None None alike = refl
  targets_alike (Some it) (Some other) alike = ap Some alike.0
  targets_alike None (Some other) alike = absurd alike
  targets_alike (Some it) None alike = absurd alike

  pub same_targets : (fd : ℤ) → target_at new who fd ≡ target_at old who fd
  same_targets fd = targets_alike (opened_at old who fd) (opened_at new who fd) (opened_alike fd)

-- ---- a machine that is seen as the same

module _ (who : ℕ) (old new : Plain) (described : AreDescribed old.files) (control : control_of new who ≡ control_of old who)
    (numbers : descriptors_of new.files who ≡ descriptors_of old.files who) (kept : KeepsDescribed old.files new.files) (kin : SameKin who old.table new.table)
    (waits : opening_at new.files who ≡ opening_at old.files who) (opens : (place : ℕ) (writing : Bool) → opens_of (pipe_at new.files place) writing ≡ opens_of (pipe_at old.files place) writing) where
  -- what a process keeps by itself, and what it may wait for beside queues
  pub sees : (old.files.locks ≡ []) × (new.files.locks ≡ []) → SeesSame who old new
  sees unlocked = record {
    control = control;
    memory = ap memory_in kin.itself;
    exited = kin.exited;
    any = kin.any;
    numbers = numbers;
    opened = opened_alike who old.files new.files numbers kept described;
    waits = waits;
    opens = opens;
    unlocked = unlocked;
  }

  pub itself : (script : Script) → StaysItself script who old new
  itself script = record {
    lives = ap is_alive_in kin.itself;
    asks = ap (program.call_of script) control;
    opens = same_targets who old.files new.files numbers kept described;
  }

-- ---- queues

sees_queue : (old new : Files) → KeepsQueues old new → (target : Option Target) → SeesQueue old new target
sees_queue old new kept None = tt
sees_queue old new kept (Some (OnNode number)) = tt
sees_queue old new kept (Some (OnPipe place)) = kept.pipes place
sees_queue old new kept (Some (OnSocket place)) = kept.sockets

-- where all queues are the same, those that these numbers are open on are
pub sees_queues : (who : ℕ) (old new : Files) → KeepsQueues old new → (fds : List ℤ) → SeesQueues who old new fds
sees_queues who old new kept [] = tt
sees_queues who old new kept (fd ∷ fds) = (sees_queue old new kept (target_at old who fd), sees_queues who old new kept fds)
