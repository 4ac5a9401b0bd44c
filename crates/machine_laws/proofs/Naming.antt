-- What a descriptor names is there, and every description that is there is named, whatever a call is answered.
use Rattle.std.proofs.Common.{◌≡◌, ◌≢◌, ℕ, zero, suc, ◌+◌, ◌<◌, ◌≤◌, ◌==◌, ◌||◌, ℤ, pos, negsuc, Bool, true, false, cond, List, [], ◌∷◌, ◌++◌, length, Option, None, Some, is_some, slice_index_or, unwrap_or, refl, ap, sym, ◌∙◌, subst, ◌⊎◌, inl, inr, arith, length-append}
use Rattle.std.specs.List.{filter, list_any, range_with_len}
use Rattle.std.specs.Option.{option_and_then, option_map}
use Rattle.std.proofs.lemmas.Bool.Decides.{eqb_tells}
use Rattle.std.proofs.lemmas.List.{get_or-set_same, get_or-set_other, get_or_past, get_or_append_left, get_or_at, length-set}
use Rattle.std.proofs.lemmas.List.Folds.{list_any_at}
use Rattle.std.proofs.lemmas.Option.{slice_get-get_or}
use Rattle.kabi_types.specs.Arguments.{count_of}
use Rattle.kabi_types.specs.declared.calls.Call.{Call}
use Rattle.kabi_types.specs.declared.scripts.Script.{Script}
use Rattle.posix_defs.specs.ByPid.{at_pid}
use Rattle.posix_defs.specs.Ending.{closed_by, die}
use Rattle.posix_defs.specs.Plain.{Plain, boot_plain, last_pid}
use Rattle.posix_defs.specs.Machine.{machine}
use Rattle.posix_defs.specs.Process.{is_alive}
use Rattle.posix_defs.specs.Files.Descriptors.{Descriptor, Descriptors, Two, and_next, descriptor_at, is_cloexec, is_named, lowest_free, lowest_free_from, names_place, none_open, two_lowest_free, with_descriptor}
use Rattle.posix_defs.specs.Pipe.{unopened, with_end}
use Rattle.posix_defs.specs.Files.Descriptions.{Target, OnNode, OnPipe, OnSocket, Access, Description, Descriptions, access_of, description_at, may_write, with_description}
use Rattle.posix_defs.specs.Files.State.{Files, HalfOpen, boot_files, descriptors_of, described_as, node_of, opened_as, pipe_at, with_descriptions, with_heir, with_open, with_opening, with_openings, with_pipe, with_pipes, with_tree}
use Rattle.posix_defs.specs.Files.Closing.{after_close, after_closes, after_end_of, after_ends_of, after_exec_of, all_numbers, close_in, description_gone, gone_in, released, target_closed}
use Rattle.posix_defs.specs.Calls.Opened.{Opened}
use Rattle.posix_defs.specs.Calls.OnDescriptors.{cloexec_set, shared_at}
use Rattle.kern_laws.proofs.Bareness.{none_open_at}
use Rattle.kern_laws.proofs.Families.{alive_there}
use Rattle.kern_laws.proofs.TablePlaces.{below_or_not, was_made}
use Rattle.machine_laws.specs.FileSteps as step
use Rattle.machine_laws.specs.FileSteps.{IsStep, LeadsTo}
use Rattle.machine_laws.specs.Described.{AreDescribed}
use Rattle.machine_laws.specs.Placed.{IsPlaced}
use Rattle.machine_laws.proofs.Fading.{is_gone}
use Rattle.machine_laws.proofs.Leading.{steps_lead}
use Rattle.machine_laws.proofs.FifoPlaces.{left_holds, node_holds}
use Rattle.machine_laws.proofs.Places.{IsNaming, free_at, naming, not_some, opener_made, others_after, own_after, some_same, there_within}
use Rattle.machine_laws.proofs.SharedOffsets.{heirs_open, stay_open}
use Rattle.machine_laws.proofs.Shutting.{close_one, open_shuts, released_same, same_of, target_same}
use Rattle.machine_laws.proofs.Stepping.{step_of}

-- ---- who names a place

-- a descriptor of somebody names the place
pub record Names (files : Files) (place : ℕ) : Type 0 where
  pub who : ℕ
  pub fd : ℕ
  pub descriptor : Descriptor
  pub held : descriptor_at (descriptors_of files who) fd ≡ Some descriptor
  pub names : descriptor.description ≡ place

any_at : {X : Type 0} (test : X → Bool) (default : X) (xs : List X) → list_any test xs ≡ true → (i : ℕ) × (i < length xs) × (test (slice_index_or xs i default) ≡ true)
any_at test default [] e = absurd (no e)
  where
    no : false ≡ true → ⊥
    no f = cc
any_at test default (x ∷ xs) e = go (test x) refl (any_at test default xs) e
  where
    go : (b : Bool) → test x ≡ b → (list_any test xs ≡ true → (i : ℕ) × (i < length xs) × (test (slice_index_or xs i default) ≡ true)) → (b || list_any test xs) ≡ true
        → (i : ℕ) × (i < length (x ∷ xs)) × (test (slice_index_or (x ∷ xs) i default) ≡ true)
    go true is rest e = (0, omega arith, is)
    go false is rest e = let found = rest e in (suc found.0, (let h : found.0 < length xs = found.1 in omega arith), found.2)

descriptors_at : (files : Files) (i : ℕ) → i < length files.descriptors → descriptors_of files (suc i) ≡ slice_index_or files.descriptors i none_open
descriptors_at files i h = ap (λ found. unwrap_or found none_open) (slice_get-get_or files.descriptors i none_open h)

pub named_by : (files : Files) (place : ℕ) → is_named files.descriptors place ≡ true → Names files place
named_by files place e = go (any_at (list_any (names_place place)) none_open files.descriptors e)
  where
    same_number : (a b : ℕ) → (a == b) ≡ true → a ≡ b
    same_number a b is = elim (eqb_tells a b) [ inl alike ↦ alike.1 | inr apart ↦ absurd (no (sym apart.0 ∙ is)) ]
      where
        no : false ≡ true → ⊥
        no f = cc

    found : (who fd : ℕ) (o : Option Descriptor) → descriptor_at (descriptors_of files who) fd ≡ o → names_place place o ≡ true → Names files place
    found who fd None is e = absurd (no e)
      where
        no : false ≡ true → ⊥
        no f = cc
    found who fd (Some descriptor) is e = record { who = who; fd = fd; descriptor = descriptor; held = is; names = same_number descriptor.description place e }

    go : (i : ℕ) × (i < length files.descriptors) × (list_any (names_place place) (slice_index_or files.descriptors i none_open) ≡ true) → Names files place
    go here = let inner = any_at (names_place place) None (slice_index_or files.descriptors here.0 none_open) here.2 in
        found (suc here.0) inner.0 _ (ap (λ list. descriptor_at list inner.0) (descriptors_at files here.0 here.1)) inner.2

pub by_named : (files : Files) (place : ℕ) → Names files place → is_named files.descriptors place ≡ true
by_named files place names = go names.who names.held
  where
    itself : (n : ℕ) → (n == n) ≡ true
    itself n = elim (eqb_tells n n) [ inl alike ↦ alike.0 | inr apart ↦ absurd (apart.1 refl) ]

    names_it : names_place place (Some names.descriptor) ≡ true
    names_it = ap (λ p. names.descriptor.description == p) (sym names.names) ∙ itself names.descriptor.description

    go : (who : ℕ) → descriptor_at (descriptors_of files who) names.fd ≡ Some names.descriptor → is_named files.descriptors place ≡ true
    go zero held = absurd (let made = opener_made files zero (pos names.fd) names.descriptor held in (let h : 0 < 0 = made.0 in omega arith))
    go (suc i) held = let made = opener_made files (suc i) (pos names.fd) names.descriptor held in let h : i < length files.descriptors = (let m : suc i ≤ length files.descriptors = made.1 in omega arith) in
        let at = sym (ap (λ list. descriptor_at list names.fd) (descriptors_at files i h)) ∙ held in
        list_any_at (list_any (names_place place)) files.descriptors i none_open h
        (list_any_at (names_place place) (slice_index_or files.descriptors i none_open) names.fd None (there_within (slice_index_or files.descriptors i none_open) names.fd names.descriptor at)
        (ap (names_place place) at ∙ names_it))

-- ---- what is named is there, and what is there is named

record Told (files : Files) : Type 0 where
  named : (place : ℕ) → Names files place → is_some (description_at files.descriptions place) ≡ true
  there : (place : ℕ) → is_some (description_at files.descriptions place) ≡ true → Names files place

told_of : (files : Files) → AreDescribed files → Told files
told_of files described = record {
  named = λ place names. described.named place (by_named files place names);
  there = λ place some. named_by files place (described.there place some);
}

described_by : (files : Files) → Told files → AreDescribed files
described_by files told = record {
  named = λ place names. told.named place (named_by files place names);
  there = λ place some. by_named files place (told.there place some);
}

false_true : false ≡ true → ⊥
false_true e = cc

some_is : {X : Type 0} {x : X} {o : Option X} → o ≡ Some x → is_some o ≡ true
some_is e = ap is_some e

-- the same are named, and the same are there
pub names_in : (old new : Files) (place : ℕ) → new.descriptors ≡ old.descriptors → Names old place → Names new place
names_in old new place same names = record {
  who = names.who;
  fd = names.fd;
  descriptor = names.descriptor;
  held = ap (λ list. descriptor_at (unwrap_or (at_pid list names.who) none_open) names.fd) same ∙ names.held;
  names = names.names;
}

told_same : (old new : Files) → Told old → new.descriptors ≡ old.descriptors → ((place : ℕ) → is_some (description_at new.descriptions place) ≡ is_some (description_at old.descriptions place)) → Told new
told_same old new told same descriptions = record {
  named = λ place names. descriptions place ∙ told.named place (names_in new old place (sym same) names);
  there = λ place some. names_in old new place same (told.there place (sym (descriptions place) ∙ some));
}

-- ---- one descriptor changes

-- a name stays where another number changes
pub kept_name : (files : Files) (pid fd : ℕ) (changed : Option Descriptor) (place : ℕ) (names : Names files place) → (names.who ≡ pid → names.fd ≡ fd → ⊥)
    → Names (with_open files pid fd changed) place
kept_name files pid fd changed place names apart = record { who = names.who; fd = names.fd; descriptor = names.descriptor; held = held; names = names.names }
  where
    own : names.who ≡ pid → names.fd ≢ fd → descriptor_at (descriptors_of (with_open files pid fd changed) pid) names.fd ≡ Some names.descriptor
    own same other = let made = opener_made files names.who (pos names.fd) names.descriptor names.held in
        ap (λ list. descriptor_at list names.fd) (own_after files pid fd changed (subst (λ p. 0 < p) same made.0) (subst (λ p. p ≤ length files.descriptors) same made.1))
        ∙ get_or-set_other (descriptors_of files pid) fd names.fd changed None other ∙ sym (ap (λ p. descriptor_at (descriptors_of files p) names.fd) same) ∙ names.held

    held : descriptor_at (descriptors_of (with_open files pid fd changed) names.who) names.fd ≡ Some names.descriptor
    held = elim (eqb_tells names.who pid) [
      | inr other ↦ ap (λ list. descriptor_at list names.fd) (others_after files pid names.who fd changed other.1) ∙ names.held
      | inl alike ↦ ap (λ p. descriptor_at (descriptors_of (with_open files pid fd changed) p) names.fd) alike.1 ∙ own alike.1 (apart alike.1)
    ]

-- a name is that of the number that changed, or was there before
was_name : (files : Files) (pid fd : ℕ) (changed : Option Descriptor) (place : ℕ) → Names (with_open files pid fd changed) place
    → ((descriptor : Descriptor) × (changed ≡ Some descriptor) × (descriptor.description ≡ place)) ⊎ Names files place
was_name files pid fd changed place names = elim (eqb_tells names.who pid) [
  | inr other ↦ inr (record {
    who = names.who;
    fd = names.fd;
    descriptor = names.descriptor;
    held = sym (ap (λ list. descriptor_at list names.fd) (others_after files pid names.who fd changed other.1)) ∙ names.held;
    names = names.names;
  })
  | inl alike ↦ own alike.1
]
  where
    own : names.who ≡ pid → ((descriptor : Descriptor) × (changed ≡ Some descriptor) × (descriptor.description ≡ place)) ⊎ Names files place
    own same = elim (eqb_tells names.fd fd) [
      | inl both ↦ inl (names.descriptor, here both.1, names.names)
      | inr other ↦ inr (record {
        who = pid;
        fd = names.fd;
        descriptor = names.descriptor;
        held = sym (get_or-set_other (descriptors_of files pid) fd names.fd changed None other.1) ∙ set;
        names = names.names;
      })
    ]
      where
        made : (0 < pid) × (pid ≤ length files.descriptors)
        made = let after = opener_made (with_open files pid fd changed) names.who (pos names.fd) names.descriptor names.held in
            (subst (λ p. 0 < p) same after.0, let shuts = open_shuts files pid fd changed in subst (λ n. pid ≤ n) shuts.counted (subst (λ p. p ≤ length (with_open files pid fd changed).descriptors) same after.1))

        set : descriptor_at (with_descriptor (descriptors_of files pid) fd changed) names.fd ≡ Some names.descriptor
        set = sym (ap (λ list. descriptor_at list names.fd) (own_after files pid fd changed made.0 made.1))
            ∙ sym (ap (λ p. descriptor_at (descriptors_of (with_open files pid fd changed) p) names.fd) same) ∙ names.held

        here : names.fd ≡ fd → changed ≡ Some names.descriptor
        here both = let at = sym (ap (descriptor_at (with_descriptor (descriptors_of files pid) fd changed)) both) ∙ set in
            sym (get_or-set_same (descriptors_of files pid) fd changed None
            (subst (λ n. fd < n) (length-set (descriptors_of files pid) fd changed) (there_within (with_descriptor (descriptors_of files pid) fd changed) fd names.descriptor at))) ∙ at

-- the name of the number that changed
own_name : (files : Files) (pid fd : ℕ) (descriptor : Descriptor) → 0 < pid → pid ≤ length files.descriptors → fd < length (descriptors_of files pid)
    → Names (with_open files pid fd (Some descriptor)) descriptor.description
own_name files pid fd descriptor positive made within = record {
  who = pid;
  fd = fd;
  descriptor = descriptor;
  held = ap (λ list. descriptor_at list fd) (own_after files pid fd (Some descriptor) positive made) ∙ get_or-set_same (descriptors_of files pid) fd (Some descriptor) None within;
  names = refl;
}

-- a number that was free names what is there
shares_told : (files : Files) (pid to : ℕ) (descriptor : Descriptor) → Told files → descriptor_at (descriptors_of files pid) to ≡ None
    → is_some (description_at files.descriptions descriptor.description) ≡ true → Told (with_open files pid to (Some descriptor))
shares_told files pid to descriptor told free some = record {
  named = λ place names. elim (was_name files pid to (Some descriptor) place names) [
    | inl new ↦ ap (λ p. is_some (description_at files.descriptions p)) (sym new.2 ∙ ap (λ d. d.description) (some_same (Some new.0) new.0 descriptor refl (sym new.1))) ∙ some
    | inr old ↦ told.named place old
  ];
  there = λ place is. let names = told.there place is in kept_name files pid to (Some descriptor) place names
      (λ same number. not_some (ap (λ p. descriptor_at (descriptors_of files p) names.fd) same ∙ ap (descriptor_at (descriptors_of files pid)) number ∙ free) names.held);
}

-- who is there stands within
present_within : (descriptions : Descriptions) (place : ℕ) → is_some (description_at descriptions place) ≡ true → place < length descriptions
present_within descriptions place some = elim (below_or_not place (length descriptions)) [
  | inl h ↦ h
  | inr h ↦ absurd (false_true (sym (ap is_some (get_or_past descriptions place None h)) ∙ some))
]

-- a description is opened under a number that was free
opened_told : (files : Files) (pid fd : ℕ) (cloexec : Bool) (description : Description) → Told files → 0 < pid → pid ≤ length files.descriptors
    → fd < length (descriptors_of files pid) → descriptor_at (descriptors_of files pid) fd ≡ None → Told (opened_as files pid fd cloexec description)
opened_told files pid fd cloexec description told positive made within free = record { named = named; there = there }
  where
    between : Files
    between = with_open files pid fd (Some (record { description = length files.descriptions; cloexec = cloexec }))

    last : description_at (files.descriptions ++ Some description ∷ []) (length files.descriptions) ≡ Some description
    last = get_or_at files.descriptions (Some description) [] None (length files.descriptions) refl

    front : (place : ℕ) → place < length files.descriptions → description_at (files.descriptions ++ Some description ∷ []) place ≡ description_at files.descriptions place
    front place h = get_or_append_left files.descriptions (Some description ∷ []) None place h

    named : (place : ℕ) → Names (opened_as files pid fd cloexec description) place → is_some (description_at (files.descriptions ++ Some description ∷ []) place) ≡ true
    named place names = elim (was_name files pid fd (Some (record { description = length files.descriptions; cloexec = cloexec })) place
        (names_in (opened_as files pid fd cloexec description) (with_open files pid fd (Some (record { description = length files.descriptions; cloexec = cloexec }))) place refl names)) [
          | inl new ↦ ap (λ p. is_some (description_at (files.descriptions ++ Some description ∷ []) p))
              (sym new.2 ∙ ap (λ d. d.description) (some_same (Some new.0) new.0 _ refl (sym new.1))) ∙ ap is_some last
          | inr old ↦ let some = told.named place old in ap is_some (front place (present_within files.descriptions place some)) ∙ some
        ]

    there : (place : ℕ) → is_some (description_at (files.descriptions ++ Some description ∷ []) place) ≡ true → Names (opened_as files pid fd cloexec description) place
    there place some = names_in (with_open files pid fd (Some (record { description = length files.descriptions; cloexec = cloexec }))) (opened_as files pid fd cloexec description) place refl
        (elim (below_or_not place (length files.descriptions)) [
          | inl h ↦ let names = told.there place (sym (ap is_some (front place h)) ∙ some) in kept_name files pid fd _ place names
              (λ same number. not_some (ap (λ p. descriptor_at (descriptors_of files p) names.fd) same ∙ ap (descriptor_at (descriptors_of files pid)) number ∙ free) names.held)
          | inr h ↦ subst (Names (with_open files pid fd (Some (record { description = length files.descriptions; cloexec = cloexec }))))
              (let below = present_within (files.descriptions ++ Some description ∷ []) place some in
              let longer : length (files.descriptions ++ Some description ∷ []) ≡ length files.descriptions + 1 = length-append files.descriptions (Some description ∷ []) in
              let e : length files.descriptions ≡ place = omega arith in e)
              (own_name files pid fd (record { description = length files.descriptions; cloexec = cloexec }) positive made within)
        ])

-- a description becomes another
described_told : (files : Files) (place : ℕ) (old description : Description) → Told files → description_at files.descriptions place ≡ Some old → Told (described_as files place description)
described_told files place old description told was = told_same files (described_as files place description) told refl same
  where
    same : (other : ℕ) → is_some (description_at (with_description files.descriptions place (Some description)) other) ≡ is_some (description_at files.descriptions other)
    same other = elim (eqb_tells other place) [
      | inl alike ↦ ap (λ p. is_some (description_at (with_description files.descriptions place (Some description)) p)) alike.1
          ∙ ap is_some (get_or-set_same files.descriptions place (Some description) None (there_within files.descriptions place old was))
          ∙ sym (ap (λ p. is_some (description_at files.descriptions p)) alike.1 ∙ ap is_some was)
      | inr apart ↦ ap is_some (get_or-set_other files.descriptions place other (Some description) None apart.1)
    ]

-- a descriptor is closed by `exec` or not
marked_told : (files : Files) (pid fd : ℕ) (old : Descriptor) (cloexec : Bool) → Told files → descriptor_at (descriptors_of files pid) fd ≡ Some old
    → Told (with_open files pid fd (Some (record old { cloexec = cloexec })))
marked_told files pid fd old cloexec told held = record {
  named = λ place names. elim (was_name files pid fd (Some (record old { cloexec = cloexec })) place names) [
    | inl new ↦ told.named place (record {
      who = pid;
      fd = fd;
      descriptor = old;
      held = held;
      names = sym (ap (λ d. d.description) (some_same (Some new.0) new.0 _ refl (sym new.1))) ∙ new.2;
    })
    | inr before ↦ told.named place before
  ];
  there = λ place some. still place (told.there place some);
}
  where
    made : (0 < pid) × (pid ≤ length files.descriptors)
    made = opener_made files pid (pos fd) old held

    own : Names (with_open files pid fd (Some (record old { cloexec = cloexec }))) old.description
    own = own_name files pid fd (record old { cloexec = cloexec }) made.0 made.1 (there_within (descriptors_of files pid) fd old held)

    still : (place : ℕ) → Names files place → Names (with_open files pid fd (Some (record old { cloexec = cloexec }))) place
    still place names = elim (eqb_tells old.description place) [
      | inl alike ↦ subst (Names (with_open files pid fd (Some (record old { cloexec = cloexec })))) alike.1 own
      | inr apart ↦ kept_name files pid fd _ place names (λ same number. apart.1
          (ap (λ d. d.description) (some_same (Some old) old names.descriptor refl
          (sym held ∙ sym (ap (λ p. descriptor_at (descriptors_of files p) names.fd) same ∙ ap (descriptor_at (descriptors_of files pid)) number) ∙ names.held)) ∙ names.names))
    ]

-- ---- closing

pub target_descriptions : (files : Files) (access : Access) (target : Target) → (target_closed files access target).descriptions ≡ files.descriptions
target_descriptions files access (OnNode number) = node_holds (λ left. left.descriptions ≡ files.descriptions) files number refl (λ tree. refl)
target_descriptions files access (OnPipe place) = left_holds (λ left. left.descriptions ≡ files.descriptions) _ (node_of files (OnPipe place)) refl (λ tree. refl)
target_descriptions files access (OnSocket place) = refl

module _ (files : Files) (told : Told files) (pid fd : ℕ) (descriptor : Descriptor) (held : descriptor_at (descriptors_of files pid) fd ≡ Some descriptor) where
  -- who named another place names it still
  others_named : (place : ℕ) → place ≢ descriptor.description → Names files place → Names (with_open files pid fd None) place
  others_named place apart names = kept_name files pid fd None place names (λ same number. apart
      (sym names.names ∙ ap (λ d. d.description) (some_same (Some names.descriptor) names.descriptor descriptor refl
      (sym names.held ∙ (ap (λ p. descriptor_at (descriptors_of files p) names.fd) same ∙ ap (descriptor_at (descriptors_of files pid)) number) ∙ held))))

  were_named : (place : ℕ) → Names (with_open files pid fd None) place → is_some (description_at files.descriptions place) ≡ true
  were_named place names = elim (was_name files pid fd None place names) [ inl new ↦ absurd (not_some refl new.1) | inr old ↦ told.named place old ]

  still_named : is_named (with_open files pid fd None).descriptors descriptor.description ≡ true → Told (with_open files pid fd None)
  still_named is = record {
    named = were_named;
    there = λ place some. elim (eqb_tells place descriptor.description) [
      | inl alike ↦ subst (Names (with_open files pid fd None)) (sym alike.1) (named_by (with_open files pid fd None) descriptor.description is)
      | inr apart ↦ others_named place apart.1 (told.there place some)
    ];
  }

  abbrev without : Files
  without = with_descriptions (with_open files pid fd None) (with_description files.descriptions descriptor.description None)

  none_named : is_named (with_open files pid fd None).descriptors descriptor.description ≡ false → Told without
  none_named is = record {
    named = λ place names. let before = names_in without (with_open files pid fd None) place refl names in
        ap is_some (get_or-set_other files.descriptions descriptor.description place None None
        (λ same. false_true (sym is ∙ by_named (with_open files pid fd None) descriptor.description (subst (Names (with_open files pid fd None)) same before))))
        ∙ were_named place before;
    there = λ place some. elim (eqb_tells place descriptor.description) [
      | inl alike ↦ absurd (false_true (sym (ap (λ p. is_some (description_at (with_description files.descriptions descriptor.description None) p)) alike.1
          ∙ ap is_some (is_gone files.descriptions descriptor.description)) ∙ some))
      | inr apart ↦ names_in (with_open files pid fd None) without place refl
          (others_named place apart.1 (told.there place (sym (ap is_some (get_or-set_other files.descriptions descriptor.description place None None apart.1)) ∙ some)))
    ];
  }

  released_told : Told (released (with_open files pid fd None) descriptor.description)
  released_told = go (is_named (with_open files pid fd None).descriptors descriptor.description) refl
    where
      gone : (o : Option Description) → description_at files.descriptions descriptor.description ≡ o → is_named (with_open files pid fd None).descriptors descriptor.description ≡ false
          → Told (gone_in (with_open files pid fd None) descriptor.description o)
      gone None was is = absurd (false_true (sym (ap is_some was) ∙ told.named descriptor.description (record { who = pid; fd = fd; descriptor = descriptor; held = held; names = refl })))
      gone (Some description) was is = told_same without (target_closed without description.access description.target) (none_named is)
          (target_same without description.access description.target)
          (λ place. ap (λ list. is_some (description_at list place)) (target_descriptions without description.access description.target))

      go : (b : Bool) → is_named (with_open files pid fd None).descriptors descriptor.description ≡ b
          → Told (cond b (with_open files pid fd None) (description_gone (with_open files pid fd None) descriptor.description))
      go true is = still_named is
      go false is = gone (description_at files.descriptions descriptor.description) refl is

close_told : (files : Files) (pid fd : ℕ) → Told files → Told (after_close files pid fd)
close_told files pid fd told = go (descriptor_at (descriptors_of files pid) fd) refl
  where
    go : (o : Option Descriptor) → descriptor_at (descriptors_of files pid) fd ≡ o → Told (close_in files pid fd o)
    go None held = told
    go (Some descriptor) held = told_same (released (with_open files pid fd None) descriptor.description) (close_in files pid fd (Some descriptor))
        (released_told files told pid fd descriptor held) refl (λ place. refl)

closes_told : (files : Files) (pid : ℕ) (fds : List ℕ) → Told files → Told (after_closes files pid fds)
closes_told files pid [] told = told
closes_told files pid (fd ∷ fds) told = closes_told (after_close files pid fd) pid fds (close_told files pid fd told)

exec_told : (files : Files) (pid : ℕ) → Told files → Told (after_exec_of files pid)
unfolding after_exec_of
exec_told files pid told = closes_told files pid (filter (is_cloexec (descriptors_of files pid)) all_numbers) told

end_told : (files : Files) (pid : ℕ) → Told files → Told (after_end_of files pid)
unfolding after_end_of
end_told files pid told = told_same (after_closes files pid all_numbers) (with_opening (after_closes files pid all_numbers) pid None) (closes_told files pid all_numbers told) refl (λ place. refl)

ends_told : (files : Files) (pids : List ℕ) → Told files → Told (after_ends_of files pids)
ends_told files [] told = told
ends_told files (pid ∷ pids) told = ends_told (after_end_of files pid) pids (end_told files pid told)

closed_told : (files : Files) (pid : ℕ) → Told files → Told (closed_by files pid)
closed_told files zero told = end_told files zero told
closed_told files (suc zero) told = ends_told files (range_with_len 1 (length files.descriptors)) told
closed_told files (suc (suc pid)) told = end_told files (suc (suc pid)) told

-- another number of the same process stays
close_keeps : (files : Files) (pid fd other : ℕ) → other ≢ fd → descriptor_at (descriptors_of (after_close files pid fd) pid) other ≡ descriptor_at (descriptors_of files pid) other
close_keeps files pid fd other apart = go (descriptor_at (descriptors_of files pid) fd) refl
  where
    go : (o : Option Descriptor) → descriptor_at (descriptors_of files pid) fd ≡ o → descriptor_at (descriptors_of (close_in files pid fd o) pid) other ≡ descriptor_at (descriptors_of files pid) other
    go None held = refl
    go (Some descriptor) held = let made = opener_made files pid (pos fd) descriptor held in
        ap (λ list. descriptor_at list other) (same_of (with_open files pid fd None) (released (with_open files pid fd None) descriptor.description) (released_same (with_open files pid fd None) descriptor.description) pid
        ∙ own_after files pid fd None made.0 made.1) ∙ get_or-set_other (descriptors_of files pid) fd other None None apart

-- ---- fork

heir_told : (files : Files) (parent : ℕ) → Told files → Told (with_heir files parent)
heir_told files parent told = record { named = λ place names. told.named place (before place names names.who names.held); there = λ place some. after place (told.there place some) }
  where
    before : (place : ℕ) (names : Names (with_heir files parent) place) (who : ℕ) → descriptor_at (descriptors_of (with_heir files parent) who) names.fd ≡ Some names.descriptor → Names files place
    before place names who held = elim (below_or_not (length files.descriptors) who) [
      | inr old ↦ record { who = who; fd = names.fd; descriptor = names.descriptor; held = sym (ap (λ list. descriptor_at list names.fd) (stay_open files parent who old)) ∙ held; names = names.names }
      | inl new ↦ let made = opener_made (with_heir files parent) who (pos names.fd) names.descriptor held in
          let longer : length (with_heir files parent).descriptors ≡ length files.descriptors + 1 = length-append files.descriptors (descriptors_of files parent ∷ []) in
          let last : who ≡ suc (length files.descriptors) = (let h : who ≤ length (with_heir files parent).descriptors = made.1 in omega arith) in
          record { who = parent; fd = names.fd; descriptor = names.descriptor; held = sym (ap (λ list. descriptor_at list names.fd) (heirs_open files parent who last)) ∙ held; names = names.names }
    ]

    after : (place : ℕ) → Names files place → Names (with_heir files parent) place
    after place names = let made = opener_made files names.who (pos names.fd) names.descriptor names.held in
        record { who = names.who; fd = names.fd; descriptor = names.descriptor; held = ap (λ list. descriptor_at list names.fd) (stay_open files parent names.who made.1) ∙ names.held; names = names.names }

-- ---- steps

-- two numbers that are free, one after another
pub record AreFree (descriptors : Descriptors) (two : Two) : Type 0 where
  pub first : lowest_free descriptors ≡ Some two.first
  pub second : lowest_free_from descriptors (two.first + 1) ≡ Some two.second

pub are_free : (descriptors : Descriptors) (two : Two) → two_lowest_free descriptors ≡ Some two → AreFree descriptors two
are_free descriptors two is = go (lowest_free descriptors) refl is
  where
    both : (first : ℕ) (o : Option ℕ) → lowest_free descriptors ≡ Some first → lowest_free_from descriptors (first + 1) ≡ o
        → option_map (λ second. record { first = first; second = second }) o ≡ Some two → AreFree descriptors two
    both first None lowest next e = absurd (not_some refl e)
    both first (Some second) lowest next e = let same : record { first = first; second = second } ≡ two = some_same (Some two) _ two (sym e) refl in
        record {
          first = lowest ∙ ap (λ t. Some t.first) same;
          second = sym (ap (λ t. lowest_free_from descriptors (t.first + 1)) same) ∙ next ∙ ap (λ t. Some t.second) same;
        }

    go : (o : Option ℕ) → lowest_free descriptors ≡ o → option_and_then (and_next descriptors) o ≡ Some two → AreFree descriptors two
    go None lowest e = absurd (not_some refl e)
    go (Some first) lowest e = both first _ lowest refl e

module _ (plain : Plain) (pid : ℕ) (call : Call) (next : Files) (told : Told plain.files) (positive : 0 < pid) (made : pid ≤ length plain.files.descriptors) where
  same : (after : Files) → next ≡ after → after.descriptors ≡ plain.files.descriptors → after.descriptions ≡ plain.files.descriptions → Told next
  same after is descriptors descriptions = told_same plain.files next told (ap (λ files. files.descriptors) is ∙ descriptors)
      (λ place. ap (λ list. is_some (description_at list place)) (ap (λ files. files.descriptions) is ∙ descriptions))

  by : (after : Files) → next ≡ after → Told after → Told next
  by after is holds = subst Told (sym is) holds

  one : (files : Files) (fd : ℕ) (cloexec : Bool) (description : Description) → files.descriptors ≡ plain.files.descriptors → files.descriptions ≡ plain.files.descriptions
      → lowest_free (descriptors_of plain.files pid) ≡ Some fd → Told (opened_as files pid fd cloexec description)
  one files fd cloexec description descriptors descriptions lowest = let free = free_at (descriptors_of plain.files pid) 0 fd lowest in let as_before = same_of plain.files files descriptors pid in
      opened_told files pid fd cloexec description (told_same plain.files files told descriptors (λ place. ap (λ list. is_some (description_at list place)) descriptions))
      positive (subst (λ list. pid ≤ length list) (sym descriptors) made)
      (subst (λ list. fd < length list) (sym as_before) free.0) (ap (λ list. descriptor_at list fd) as_before ∙ free.1)

  -- who waits for the other side of a FIFO is another
  waited : (files : Files) (openings : List (Option HalfOpen)) → Told files → Told (with_openings files openings)
  waited files openings holds = told_same files (with_openings files openings) holds refl (λ place. refl)

  two_told : (files : Files) (two : Two) (first_is second_is : Description) → files.descriptors ≡ plain.files.descriptors → files.descriptions ≡ plain.files.descriptions
      → two_lowest_free (descriptors_of plain.files pid) ≡ Some two → Told (opened_as (opened_as files pid two.first false first_is) pid two.second false second_is)
  two_told files two first_is second_is descriptors descriptions lowest =
      opened_told (opened_as files pid two.first false first_is) pid two.second false second_is (one files two.first false first_is descriptors descriptions free.first)
      positive (subst (λ n. pid ≤ n) (sym (let shuts = open_shuts files pid two.first (Some (record { description = length files.descriptions; cloexec = false })) in shuts.counted ∙ ap (λ list. length list) descriptors)) made)
      (subst (λ list. two.second < length list) (sym after) (subst (λ n. two.second < n) (sym (length-set (descriptors_of files pid) two.first _)) (subst (λ list. two.second < length list) (sym as_before) second.0)))
      (ap (λ list. descriptor_at list two.second) after ∙ get_or-set_other (descriptors_of files pid) two.first two.second _ None apart ∙ ap (λ list. descriptor_at list two.second) as_before ∙ second.1)
    where
      free : AreFree (descriptors_of plain.files pid) two
      free = are_free (descriptors_of plain.files pid) two lowest

      second : (two.second < length (descriptors_of plain.files pid)) × (descriptor_at (descriptors_of plain.files pid) two.second ≡ None) × (two.first + 1 ≤ two.second)
      second = free_at (descriptors_of plain.files pid) (two.first + 1) two.second free.second

      apart : two.second ≢ two.first
      apart same_number = let h : two.first + 1 ≤ two.second = second.2 in absurd (omega arith)

      as_before : descriptors_of files pid ≡ descriptors_of plain.files pid
      as_before = same_of plain.files files descriptors pid

      after : descriptors_of (opened_as files pid two.first false first_is) pid ≡ with_descriptor (descriptors_of files pid) two.first (Some (record { description = length files.descriptions; cloexec = false }))
      after = own_after files pid two.first (Some (record { description = length files.descriptions; cloexec = false })) positive (subst (λ list. pid ≤ length list) (sym descriptors) made)

  over : (fd to : ℕ) (opened : Opened) → IsNaming plain.files pid (pos fd) opened → fd ≢ to → Told (shared_at (after_close plain.files pid to) pid opened to)
  over fd to opened named apart = shares_told (after_close plain.files pid to) pid to (record { description = opened.place; cloexec = false }) (close_told plain.files pid to told)
      (close_one plain.files pid to to (inl refl))
      (let closed_is = close_told plain.files pid to told in closed_is.named opened.place
      (record { who = pid; fd = fd; descriptor = named.descriptor; held = close_keeps plain.files pid to fd apart ∙ named.held; names = named.place }))

  apart_of : (a b : ℕ) → (a == b) ≡ false → a ≢ b
  apart_of a b is = elim (eqb_tells a b) [ inl alike ↦ absurd (false_true (sym is ∙ alike.0)) | inr apart ↦ apart.1 ]

  shares_over_told : (fd : ℤ) (to : ℕ) (opened : Opened) → IsNaming plain.files pid fd opened → (count_of fd == to) ≡ false → Told (shared_at (after_close plain.files pid to) pid opened to)
  shares_over_told (pos fd) to opened named apart = over fd to opened named (apart_of fd to apart)
  shares_over_told (negsuc n) to opened named apart = absurd (not_some refl named.held)

  marks_told : (fd : ℤ) (opened : Opened) (cloexec : Bool) → IsNaming plain.files pid fd opened
      → Told (with_open plain.files pid (count_of fd) (cloexec_set cloexec (descriptor_at (descriptors_of plain.files pid) (count_of fd))))
  marks_told (pos fd) opened cloexec named = subst (λ o. Told (with_open plain.files pid fd (cloexec_set cloexec o))) (sym named.held) (marked_told plain.files pid fd named.descriptor cloexec told named.held)
  marks_told (negsuc n) opened cloexec named = absurd (not_some refl named.held)

  step_told : {goes_on : Bool} → IsStep plain pid call goes_on next → Told next
  step_told (step.stays is) = same _ is refl refl
  step_told (step.shares fd opened from to named free is) = by _ is (let naming_it = naming plain.files pid fd opened named in let free_it = free_at (descriptors_of plain.files pid) from to free in
      shares_told plain.files pid to (record { description = opened.place; cloexec = false }) told free_it.1 (some_is naming_it.there))
  step_told (step.shares_over fd to opened named may apart is) = by _ is (shares_over_told fd (count_of to) opened (naming plain.files pid fd opened named) apart)
  step_told (step.marks fd opened cloexec named is) = by _ is (marks_told fd opened cloexec (naming plain.files pid fd opened named))
  step_told (step.closes fd opened named is) = by _ is (close_told plain.files pid (count_of fd) told)
  step_told (step.describes fd opened description named target access between is) = by _ is (let naming_it = naming plain.files pid fd opened named in described_told plain.files opened.place opened.is description told naming_it.there)
  step_told (step.opens path flags fd found which free led other is) = by _ is (one _ fd _ _ refl refl free)
  step_told (step.writes fd addr n done opened number at offset written reaches wrote is) = by _ is (let naming_it = naming plain.files pid fd opened reaches.named in
      described_told (with_tree plain.files written.1) opened.place opened.is _ (told_same plain.files (with_tree plain.files written.1) told refl (λ place. refl)) naming_it.there)
  step_told (step.writes_at fd addr n opened number at written reaches wrote is) = same _ is refl refl
  step_told (step.resizes fd opened number size tree reaches sized is) = same _ is refl refl
  step_told (step.makes path made_it which led is) = same _ is refl refl
  step_told (step.makes_fifo path made_it which led is) = same _ is refl refl
  step_told (step.removes path tree which led is) = same _ is refl refl
  step_told (step.links old new tree which led is) = same _ is refl refl
  step_told (step.unlinks path left which led is) = same _ is refl refl
  step_told (step.renames old new left which led is) = same _ is refl refl
  step_told (step.pipes two free is) = by _ is (two_told _ two _ _ refl refl free)
  step_told (step.takes fd addr n opened place k which named on may moves is) = same _ is refl refl
  step_told (step.puts fd addr n done opened place k which named on may moves is) = same _ is refl refl
  step_told (step.joins path flags fd place found openings opens at may is) = by _ is (waited _ openings (one (with_pipe plain.files place (Some (with_end (pipe_at plain.files place) (may_write (access_of flags))))) fd _ _ refl refl opens.free))
  step_told (step.begins path flags fd found openings opens at may is) = by _ is (waited _ openings (one (with_pipes plain.files (plain.files.pipes ++ Some (with_end (unopened found.0) (may_write (access_of flags))) ∷ [])) fd _ _ refl refl opens.free))
  step_told (step.meets path flags opening which begun is) = same _ is refl refl
  step_told (step.sockets fd free is) = by _ is (one _ fd _ _ refl refl free)
  step_told (step.pairs two free is) = by _ is (two_told _ two _ _ refl refl free)
  step_told (step.binds fd path opened place made_it which named on fine led is) = same _ is refl refl
  step_told (step.listens fd opened place named on fine is) = same _ is refl refl
  step_told (step.shuts fd how opened place named on fine is) = same _ is refl refl
  step_told (step.connects fd opened place number listener named on fine listening room is) = same _ is refl refl
  step_told (step.accepts fd opened place to taken named on free first is) = by _ is (one _ to _ _ refl refl free)
  step_told (step.receives fd addr n opened place k which named on moves is) = same _ is refl refl
  step_told (step.sends fd addr n done opened place k which named on moves is) = same _ is refl refl
  step_told (step.locks fd opened number asked sets named_so target is_file places clear is) = same _ is refl refl
  step_told (step.starts is) = by _ is (exec_told plain.files pid told)
  step_told (step.forks which is) = by _ is (heir_told plain.files pid told)
  step_told (step.ends_caller over ending is) = by _ is (closed_told plain.files pid told)
  step_told (step.ends_other who ending is) = by _ is (closed_told plain.files who told)

-- ---- answers

-- who is alive was made
alive_made : (plain : Plain) (pid : ℕ) → IsPlaced plain → is_alive plain.table pid ≡ true → (0 < pid) × (pid ≤ length plain.files.descriptors)
alive_made plain pid placed alive = let there = alive_there plain.table pid alive in let made = was_made plain.table pid there.0 there.1 in (
  made.0,
  (let places = placed.places in let one : length plain.files.descriptors ≡ last_pid plain = places.counted in let other : length plain.table ≡ last_pid plain = placed.counted in
      let h : pid ≤ length plain.table = made.1 in omega arith),
)

pub answers_described : (script : Script) (plain : Plain) (pid : ℕ) (call : Call) → IsPlaced plain → AreDescribed plain.files → is_alive plain.table pid ≡ true
    → LeadsTo (λ next. AreDescribed next.files) (machine script plain pid call)
answers_described script plain pid call placed described alive = let made = alive_made plain pid placed alive in
    steps_lead plain pid call (λ next. AreDescribed next.files)
    (λ goes_on next stepped. described_by next.files (step_told plain pid call next.files (told_of plain.files described) made.0 made.1 stepped))
    (machine script plain pid call) (step_of script plain pid call)

pub die_described : (plain : Plain) (pid status : ℕ) → AreDescribed plain.files → AreDescribed (die plain pid status).files
die_described plain pid status described = described_by (closed_by plain.files pid) (closed_told plain.files pid (told_of plain.files described))

pub boot_described : (script : Script) → AreDescribed (boot_plain script).files
boot_described script = record { named = λ place is. absurd (none_named_at place is); there = λ place some. absurd (no some) }
  where
    no : false ≡ true → ⊥
    no e = cc

    none_named_at : (place : ℕ) → is_named (boot_files script.disk).descriptors place ≡ true → ⊥
    none_named_at place is = let names = named_by (boot_files script.disk) place is in none_held names.who names.fd names.descriptor names.held
      where
        none_held : (who fd : ℕ) (descriptor : Descriptor) → descriptor_at (descriptors_of (boot_files script.disk) who) fd ≡ Some descriptor → ⊥
        none_held zero fd descriptor held = not_some (none_open_at fd) held
        none_held (suc zero) fd descriptor held = not_some (none_open_at fd) held
        none_held (suc (suc n)) fd descriptor held = not_some (none_open_at fd) held
