-- A text of groups reads in one way at most.
use Rattle.std.proofs.Common.{◌≡◌, ℕ, zero, suc, ◌+◌, ◌⊎◌, List, [], ◌∷◌, ◌++◌, length, Option, None, Result, Ok, Err, inl, inr, refl, sym, ap, ◌∙◌, subst, arith}
use Rattle.kabi_types.specs.declared.scripts.FaultKind.{FaultKind}
use Rattle.kabi_types.specs.declared.scripts.Script.{Script}
use Rattle.kabi_types.specs.declared.scripts.ScriptFault.{ScriptFault}
use Rattle.posix_defs.specs.declared.said.Word.{Word}
use Rattle.posix_defs.specs.ScriptText.{ReadsText}
use Rattle.posix_defs.specs.ScriptValues.{◌>>=◌}
use Rattle.posix_defs.specs.ScriptWords.{LineWords}
use Rattle.script_parse.proofs.OneReading.{line_is}
use Rattle.script_parse.proofs.TextReads.{reads_as}
use Rattle.group_heap.specs.declared.lists.Section.{Section}
use Rattle.group_heap.specs.Texts.{BeginsSection, Groups, IsWithin, ReadsFront, ReadsGroups, ReadsSections, StartsSection, fault_at, fault_behind, front_said, groups_of, section_said, text_of}
use Rattle.group_heap.specs.Texts as spec

-- two sets of words of one line say the same
said_once : {A : Type 0} (says : List Word → Result A FaultKind) (line : List ℕ) (words words' : Result (List Word) FaultKind) (a b : Result A FaultKind)
    → LineWords line words → LineWords line words' → (words >>= says) ≡ a → (words' >>= says) ≡ b → a ≡ b
said_once says line words words' a b has has' is is' = sym is ∙ ap (λ w. w >>= says) (sym (line_is line words has) ∙ line_is line words' has') ∙ is'

within_first : (line : List ℕ) (lines : List (List ℕ)) → IsWithin (line ∷ lines) → BeginsSection line → ⊥
within_first line lines within = within zero line (omega arith)

within_others : (line : List ℕ) (lines : List (List ℕ)) → IsWithin (line ∷ lines) → IsWithin lines
within_others line lines within = λ k d few. within (suc k) d (omega (arith, few))

-- lines are cut at the first that begins a section, and so in one way
cut_once : (body rest body' rest' : List (List ℕ)) → body ++ rest ≡ body' ++ rest' → IsWithin body → StartsSection rest → IsWithin body' → StartsSection rest'
    → (body ≡ body') × (rest ≡ rest')
cut_once [] rest [] rest' same within starts within' starts' = (refl, same)
cut_once [] rest (line ∷ body') rest' same within starts within' starts' =
    absurd (within_first line body' within' (subst StartsSection same starts))
cut_once (line ∷ body) rest [] rest' same within starts within' starts' =
    absurd (within_first line body within (subst StartsSection (sym same) starts'))
cut_once (line ∷ body) rest (line' ∷ body') rest' same within starts within' starts' =
    let first : line ≡ line' = cc in
    let others : body ++ rest ≡ body' ++ rest' = cc in
    let cut = cut_once body rest body' rest' others (within_others line body within) starts (within_others line' body' within') starts' in
    (let tails : body ≡ body' = cut.0 in (cc), cut.1)

-- what a reading of these lines is: of a line without a good name
record IsMisnamed (before : List Section) (line : ℕ) (first : List ℕ) (outcome : Result (List Section) ScriptFault) : Type 0 where
  words : Result (List Word) FaultKind
  kind : FaultKind
  has : LineWords first words
  is : (words >>= section_said before) ≡ Err kind
  told : outcome ≡ fault_at line kind

-- a section of this name and text, and what follows it
record IsNamed (before : List Section) (first name : List ℕ) (lines body rest : List (List ℕ)) : Type 0 where
  words : Result (List Word) FaultKind
  has : LineWords first words
  is : (words >>= section_said before) ≡ Ok name
  cut : lines ≡ body ++ rest
  within : IsWithin body
  starts : StartsSection rest

record IsFaulty (before : List Section) (line : ℕ) (first : List ℕ) (lines : List (List ℕ)) (outcome : Result (List Section) ScriptFault) : Type 0 where
  name : List ℕ
  body : List (List ℕ)
  rest : List (List ℕ)
  named : IsNamed before first name lines body rest
  fault : ScriptFault
  says : ReadsText (text_of body) (Err fault)
  told : outcome ≡ Err (fault_behind line fault)

record GoesFurther (before : List Section) (line : ℕ) (first : List ℕ) (lines : List (List ℕ)) (outcome : Result (List Section) ScriptFault) : Type 0 where
  section : Section
  body : List (List ℕ)
  rest : List (List ℕ)
  named : IsNamed before first section.name lines body rest
  says : ReadsText (text_of body) (Ok section.script)
  more : ReadsSections (before ++ section ∷ []) (line + 1 + length body) rest outcome

abbrev Inside : List Section → ℕ → List (List ℕ) → Result (List Section) ScriptFault → Type 0
Inside before line [] outcome = outcome ≡ Ok before
Inside before line (first ∷ lines) outcome = IsMisnamed before line first outcome ⊎ (IsFaulty before line first lines outcome ⊎ GoesFurther before line first lines outcome)

inside : (before : List Section) (line : ℕ) (lines : List (List ℕ)) (outcome : Result (List Section) ScriptFault) → ReadsSections before line lines outcome → Inside before line lines outcome
inside before line lines outcome (spec.ReadsSections.none before' line') = refl
inside before line lines outcome (spec.ReadsSections.misnamed before' line' first lines' words kind has is) =
    inl (record { words = words; kind = kind; has = has; is = is; told = refl })
inside before line lines outcome (spec.ReadsSections.faulty before' line' first body rest words name fault has is within starts says) =
    inr (inl (record { name = name; body = body; rest = rest; named = record { words = words; has = has; is = is; cut = refl; within = within; starts = starts }; fault = fault; says = says; told = refl }))
inside before line lines outcome (spec.ReadsSections.reads before' line' first body rest words section outcome' has is within starts says more) =
    inr (inr (record { section = section; body = body; rest = rest; named = record { words = words; has = has; is = is; cut = refl; within = within; starts = starts }; says = says; more = more }))

-- two readings of one text are the same
text_once : (text text' : List ℕ) (a b : Result Script ScriptFault) → text ≡ text' → ReadsText text a → ReadsText text' b → a ≡ b
text_once text text' a b same says says' = sym (reads_as text a says) ∙ reads_as text b (subst (λ t. ReadsText t b) (sym same) says')

named_once : (before : List Section) (first name name' : List ℕ) (lines body rest body' rest' : List (List ℕ)) → IsNamed before first name lines body rest
    → IsNamed before first name' lines body' rest' → (name ≡ name') × (body ≡ body') × (rest ≡ rest')
named_once before first name name' lines body rest body' rest' one other =
    let same = said_once (section_said before) first one.words other.words (Ok name) (Ok name') one.has other.has one.is other.is in
    let cut = cut_once body rest body' rest' (sym one.cut ∙ other.cut) one.within one.starts other.within other.starts in
    ((cc), cut.0, cut.1)

no_name : {X : Type 0} (before : List Section) (line : ℕ) (first name : List ℕ) (lines body rest : List (List ℕ)) (outcome : Result (List Section) ScriptFault)
    → IsMisnamed before line first outcome → IsNamed before first name lines body rest → X
no_name before line first name lines body rest outcome bad good =
    let same = said_once (section_said before) first bad.words good.words (Err bad.kind) (Ok name) bad.has good.has bad.is good.is in absurd cc

-- a name was told, and here a fault of the line
misnamed_once : (before : List Section) (line : ℕ) (first : List ℕ) (lines : List (List ℕ)) (words : Result (List Word) FaultKind) (kind : FaultKind) (b : Result (List Section) ScriptFault)
    → LineWords first words → (words >>= section_said before) ≡ Err kind → Inside before line (first ∷ lines) b → fault_at line kind ≡ b
misnamed_once before line first lines words kind b has is (inl bad) =
    let same = said_once (section_said before) first words bad.words (Err kind) (Err bad.kind) has bad.has is bad.is in
    let kinds : kind ≡ bad.kind = cc in
    ap (λ k. fault_at line k) kinds ∙ sym bad.told
misnamed_once before line first lines words kind b has is (inr (inl wrong)) =
    no_name before line first wrong.name lines wrong.body wrong.rest (fault_at line kind) (record { words = words; kind = kind; has = has; is = is; told = refl }) wrong.named
misnamed_once before line first lines words kind b has is (inr (inr further)) =
    no_name before line first further.section.name lines further.body further.rest (fault_at line kind) (record { words = words; kind = kind; has = has; is = is; told = refl }) further.named

faulty_once : (before : List Section) (line : ℕ) (first name : List ℕ) (lines body rest : List (List ℕ)) (fault : ScriptFault) (b : Result (List Section) ScriptFault)
    → IsNamed before first name lines body rest → ReadsText (text_of body) (Err fault) → Inside before line (first ∷ lines) b → Err (fault_behind line fault) ≡ b
faulty_once before line first name lines body rest fault b named says (inl bad) = no_name before line first name lines body rest b bad named
faulty_once before line first name lines body rest fault b named says (inr (inl wrong)) =
    let same = named_once before first name wrong.name lines body rest wrong.body wrong.rest named wrong.named in
    let faults = text_once (text_of body) (text_of wrong.body) (Err fault) (Err wrong.fault) (ap text_of same.1) says wrong.says in
    let alike : fault ≡ wrong.fault = cc in
    ap (λ f. Err (fault_behind line f)) alike ∙ sym wrong.told
faulty_once before line first name lines body rest fault b named says (inr (inr further)) =
    let same = named_once before first name further.section.name lines body rest further.body further.rest named further.named in
    let wrong = text_once (text_of body) (text_of further.body) (Err fault) (Ok further.section.script) (ap text_of same.1) says further.says in absurd cc

-- what goes further here goes further by the same section
further_once : (before : List Section) (line : ℕ) (first : List ℕ) (lines body rest : List (List ℕ)) (section : Section) (b : Result (List Section) ScriptFault)
    → IsNamed before first section.name lines body rest → ReadsText (text_of body) (Ok section.script) → Inside before line (first ∷ lines) b
    → ReadsSections (before ++ section ∷ []) (line + 1 + length body) rest b
further_once before line first lines body rest section b named says (inl bad) = no_name before line first section.name lines body rest b bad named
further_once before line first lines body rest section b named says (inr (inl wrong)) =
    let same = named_once before first section.name wrong.name lines body rest wrong.body wrong.rest named wrong.named in
    let other = text_once (text_of body) (text_of wrong.body) (Ok section.script) (Err wrong.fault) (ap text_of same.1) says wrong.says in absurd cc
further_once before line first lines body rest section b named says (inr (inr further)) =
    let same = named_once before first section.name further.section.name lines body rest further.body further.rest named further.named in
    let scripts = text_once (text_of body) (text_of further.body) (Ok section.script) (Ok further.section.script) (ap text_of same.1) says further.says in
    let script : section.script ≡ further.section.script = cc in
    let whole : section ≡ further.section = ap (λ n. record { name = n; script = section.script }) same.0 ∙ ap (λ s. record { name = further.section.name; script = s }) script in
    subst (λ s. ReadsSections (before ++ s ∷ []) (line + 1 + length body) rest b) (sym whole)
    (subst (λ ls. ReadsSections (before ++ further.section ∷ []) (line + 1 + length ls) rest b) (sym same.1)
    (subst (λ ls. ReadsSections (before ++ further.section ∷ []) (line + 1 + length further.body) ls b) (sym same.2) further.more))

sections_once : (before : List Section) (line : ℕ) (lines : List (List ℕ)) (a b : Result (List Section) ScriptFault) → ReadsSections before line lines a → ReadsSections before line lines b → a ≡ b
sections_once before line lines a b (spec.ReadsSections.none before' line') other = sym (inside before' line' [] b other)
sections_once before line lines a b (spec.ReadsSections.misnamed before' line' first lines' words kind has is) other =
    misnamed_once before' line' first lines' words kind b has is (inside before' line' (first ∷ lines') b other)
sections_once before line lines a b (spec.ReadsSections.faulty before' line' first body rest words name fault has is within starts says) other =
    faulty_once before' line' first name (body ++ rest) body rest fault b (record { words = words; has = has; is = is; cut = refl; within = within; starts = starts }) says
    (inside before' line' (first ∷ body ++ rest) b other)
sections_once before line lines a b (spec.ReadsSections.reads before' line' first body rest words section outcome has is within starts says more) other =
    sections_once (before' ++ section ∷ []) (line' + 1 + length body) rest outcome b more
    (further_once before' line' first (body ++ rest) body rest section b (record { words = words; has = has; is = is; cut = refl; within = within; starts = starts }) says
    (inside before' line' (first ∷ body ++ rest) b other))

front_once : (whole : Option ℕ) (line : ℕ) (lines : List (List ℕ)) (a b : Result Groups ScriptFault) → ReadsFront whole line lines a → ReadsFront whole line lines b → a ≡ b
front_once whole line lines a b (spec.ReadsFront.nothing _ _) (spec.ReadsFront.nothing _ _) = refl
front_once whole line lines a b (spec.ReadsFront.stops whole' line' first lines' words kind none has is) (spec.ReadsFront.stops _ _ _ _ words' kind' none' has' is') =
    let same = said_once (front_said whole') first words words' (Err kind) (Err kind') has has' is is' in
    let kinds : kind ≡ kind' = cc in
    ap (λ k. fault_at line' k) kinds
front_once whole line lines a b (spec.ReadsFront.stops whole' line' first lines' words kind none has is) (spec.ReadsFront.goes_on _ next _ _ _ words' outcome none' has' is' more) =
    let same = said_once (front_said whole') first words words' (Err kind) (Ok next) has has' is is' in absurd cc
front_once whole line lines a b (spec.ReadsFront.stops whole' line' first lines' words kind none has is) (spec.ReadsFront.sections bytes _ _ _ outcome begins says) =
    absurd (none refl begins)
front_once whole line lines a b (spec.ReadsFront.goes_on whole' next line' first lines' words outcome none has is more) (spec.ReadsFront.stops _ _ _ _ words' kind none' has' is') =
    let same = said_once (front_said whole') first words words' (Ok next) (Err kind) has has' is is' in absurd cc
front_once whole line lines a b (spec.ReadsFront.goes_on whole' next line' first lines' words outcome none has is more) (spec.ReadsFront.goes_on _ next' _ _ _ words' outcome' none' has' is' more') =
    let same = said_once (front_said whole') first words words' (Ok next) (Ok next') has has' is is' in
    let nexts : next' ≡ next = cc in
    front_once next (line' + 1) lines' outcome outcome' more (subst (λ n. ReadsFront n (line' + 1) lines' outcome') nexts more')
front_once whole line lines a b (spec.ReadsFront.goes_on whole' next line' first lines' words outcome none has is more) (spec.ReadsFront.sections bytes _ _ _ outcome' begins says) =
    absurd (none refl begins)
front_once whole line lines a b (spec.ReadsFront.sections bytes line' first lines' outcome begins says) (spec.ReadsFront.stops _ _ _ _ words kind none has is) = absurd (none refl begins)
front_once whole line lines a b (spec.ReadsFront.sections bytes line' first lines' outcome begins says) (spec.ReadsFront.goes_on _ next _ _ _ words outcome' none has is more) = absurd (none refl begins)
front_once whole line lines a b (spec.ReadsFront.sections bytes line' first lines' outcome begins says) (spec.ReadsFront.sections _ _ _ _ outcome' begins' says') =
    ap (groups_of bytes) (sections_once [] line' (first ∷ lines') outcome outcome' says says')

pub groups_once : (text : List ℕ) (a b : Result Groups ScriptFault) → ReadsGroups text a → ReadsGroups text b → a ≡ b
groups_once text a b (spec.ReadsGroups.too_long long) (spec.ReadsGroups.too_long long') = refl
groups_once text a b (spec.ReadsGroups.too_long long) (spec.ReadsGroups.reads outcome short says) = absurd (omega (arith, long, short))
groups_once text a b (spec.ReadsGroups.reads outcome short says) (spec.ReadsGroups.too_long long) = absurd (omega (arith, long, short))
groups_once text a b (spec.ReadsGroups.reads outcome short says) (spec.ReadsGroups.reads outcome' short' says') = front_once None 1 _ outcome outcome' says says'
