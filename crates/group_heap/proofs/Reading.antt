-- How far a text of groups is read.
use Rattle.std.proofs.Common.{◌≡◌, ℕ, ◌+◌, ◌≤◌, List, [], ◌∷◌, ◌++◌, length, Option, None, Some, Result, Ok, Err, sym, ap, ◌∙◌, subst}
use Rattle.kabi_types.specs.declared.scripts.FaultKind.{FaultKind}
use Rattle.kabi_types.specs.declared.scripts.FaultKind.TheVariants.{NoInit}
use Rattle.kabi_types.specs.declared.scripts.Script.{Script}
use Rattle.kabi_types.specs.declared.scripts.ScriptFault.{ScriptFault}
use Rattle.posix_defs.specs.declared.said.Word.{Word}
use Rattle.posix_defs.specs.ScriptText.{ReadsText, most_bytes}
use Rattle.posix_defs.specs.ScriptValues.{◌>>=◌}
use Rattle.posix_defs.specs.ScriptWords.{LineWords}
use Rattle.group_heap.specs.declared.faults.GroupFault.{GroupFault}
use Rattle.group_heap.specs.declared.faults.GroupFault.TheVariants as fault
use Rattle.group_heap.specs.declared.lists.Section.{Section}
use Rattle.group_heap.specs.Fronts.{BeginsFirst, BeginsNone, IsFront, LeadsTo}
use Rattle.group_heap.specs.Lines.{Cuts}
use Rattle.group_heap.specs.Outcomes.{Outcome, ReadsBehind, SaysAt, told_at, told_behind}
use Rattle.group_heap.specs.Texts.{Groups, ReadsFront, ReadsGroups, ReadsSections, fault_at, fault_behind, front_said, groups_of, lines_of, section_said, text_of}
use Rattle.group_heap.specs.Texts as spec

-- whatever the rest reads as before the first section, the whole reads as
abbrev pub FrontTo : List ℕ → Option ℕ → ℕ → List ℕ → Type 0
FrontTo text whole line rest = (outcome : Result Groups ScriptFault) → ReadsFront whole line (lines_of rest) outcome → ReadsFront None 1 (lines_of text) outcome

stops_at : (whole : Option ℕ) (line : ℕ) (first : List ℕ) (lines : List (List ℕ)) (words : Result (List Word) FaultKind) (said : Result (Option ℕ) FaultKind) (fault : ScriptFault)
    → BeginsNone whole first → LineWords first words → (words >>= front_said whole) ≡ said → Err fault ≡ told_at line said
    → ReadsFront whole line (first ∷ lines) (Err fault)
stops_at whole line first lines words (Ok next) fault none has is told = absurd cc
stops_at whole line first lines words (Err kind) fault none has is told =
    let same : record { line = line; what = kind } ≡ fault = cc in
    subst (λ f. ReadsFront whole line (first ∷ lines) (Err f)) same (spec.stops whole line first lines words kind none has is)

pub front_fault : (text rest first : List ℕ) (lines : List (List ℕ)) (whole : Option ℕ) (line : ℕ) (fault : ScriptFault) → FrontTo text whole line rest
    → lines_of rest ≡ first ∷ lines → BeginsNone whole first → SaysAt (front_said whole) line first (Err fault) → ReadsFront None 1 (lines_of text) (Err fault)
front_fault text rest first lines whole line fault to cut none says =
    to (Err fault) (subst (λ ls. ReadsFront whole line ls (Err fault)) (sym cut)
    (stops_at whole line first lines says.1.0 says.0 fault none says.1.1 says.1.2 says.2))

goes_at : (whole next : Option ℕ) (line : ℕ) (first : List ℕ) (lines : List (List ℕ)) (words : Result (List Word) FaultKind) (said : Result (Option ℕ) FaultKind) (outcome : Result Groups ScriptFault)
    → BeginsNone whole first → LineWords first words → (words >>= front_said whole) ≡ said → Ok next ≡ told_at line said
    → ReadsFront next (line + 1) lines outcome → ReadsFront whole line (first ∷ lines) outcome
goes_at whole next line first lines words (Ok next') outcome none has is told reads =
    let same : next' ≡ next = cc in
    spec.goes_on whole next line first lines words outcome none has (is ∙ ap (λ n. Ok n) same) reads
goes_at whole next line first lines words (Err kind) outcome none has is told reads = absurd cc

pub front_more : (text rest first : List ℕ) (lines : List (List ℕ)) (whole next : Option ℕ) (line : ℕ) (outcome : Result Groups ScriptFault) → FrontTo text whole line rest
    → lines_of rest ≡ first ∷ lines → BeginsNone whole first → SaysAt (front_said whole) line first (Ok next)
    → ReadsFront next (line + 1) lines outcome → ReadsFront None 1 (lines_of text) outcome
front_more text rest first lines whole next line outcome to cut none says reads =
    to outcome (subst (λ ls. ReadsFront whole line ls outcome) (sym cut) (goes_at whole next line first lines says.1.0 says.0 outcome none says.1.1 says.1.2 says.2 reads))

pub front_ends : (text rest first : List ℕ) (whole next : Option ℕ) (line : ℕ) → FrontTo text whole line rest
    → lines_of rest ≡ first ∷ [] → BeginsNone whole first → SaysAt (front_said whole) line first (Ok next) → ReadsFront None 1 (lines_of text) (fault_at 0 NoInit)
front_ends text rest first whole next line to cut none says =
    front_more text rest first [] whole next line (fault_at 0 NoInit) to cut none says (spec.nothing next (line + 1))

pub front_is : (text rest first : List ℕ) (lines : List (List ℕ)) (whole : Option ℕ) (bytes line : ℕ) (outcome : Result (List Section) ScriptFault) → FrontTo text whole line rest
    → lines_of rest ≡ first ∷ lines → BeginsFirst whole first bytes → ReadsSections [] line (lines_of rest) outcome
    → ReadsFront None 1 (lines_of text) (groups_of bytes outcome)
front_is text rest first lines whole bytes line outcome to cut begins reads =
    to (groups_of bytes outcome) (subst (λ w. ReadsFront w line (lines_of rest) (groups_of bytes outcome)) (sym begins.known)
    (subst (λ ls. ReadsFront (Some bytes) line ls (groups_of bytes outcome)) (sym cut)
    (spec.sections bytes line first lines outcome begins.begins (subst (λ ls. ReadsSections [] line ls outcome) cut reads))))

-- whatever the rest reads as behind the sections so far, the text reads as behind those that were there
abbrev pub SectionsTo : List Section → ℕ → List ℕ → List Section → ℕ → List ℕ → Type 0
SectionsTo before start text sections line rest =
    (outcome : Result (List Section) ScriptFault) → ReadsSections sections line (lines_of rest) outcome → ReadsSections before start (lines_of text) outcome

misnamed_at : (before : List Section) (line : ℕ) (first : List ℕ) (lines : List (List ℕ)) (words : Result (List Word) FaultKind) (said : Result (List ℕ) FaultKind) (fault : ScriptFault)
    → LineWords first words → (words >>= section_said before) ≡ said → Err fault ≡ told_at line said → ReadsSections before line (first ∷ lines) (Err fault)
misnamed_at before line first lines words (Ok name) fault has is told = absurd cc
misnamed_at before line first lines words (Err kind) fault has is told =
    let same : record { line = line; what = kind } ≡ fault = cc in
    subst (λ f. ReadsSections before line (first ∷ lines) (Err f)) same (spec.misnamed before line first lines words kind has is)

pub name_fault : (before : List Section) (start : ℕ) (text : List ℕ) (sections : List Section) (line : ℕ) (rest first : List ℕ) (lines : List (List ℕ)) (fault : ScriptFault)
    → SectionsTo before start text sections line rest → lines_of rest ≡ first ∷ lines → SaysAt (section_said sections) line first (Err fault)
    → ReadsSections before start (lines_of text) (Err fault)
name_fault before start text sections line rest first lines fault to cut says =
    to (Err fault) (subst (λ ls. ReadsSections sections line ls (Err fault)) (sym cut)
    (misnamed_at sections line first lines says.1.0 says.0 fault says.1.1 says.1.2 says.2))

-- the words of a line that has a name, and that they say it
abbrev Names : List Section → List ℕ → List ℕ → Type 0
Names before first name = (words : Result (List Word) FaultKind) × LineWords first words × ((words >>= section_said before) ≡ Ok name)

names_at : (before : List Section) (line : ℕ) (first name : List ℕ) (words : Result (List Word) FaultKind) (said : Result (List ℕ) FaultKind)
    → LineWords first words → (words >>= section_said before) ≡ said → Ok name ≡ told_at line said → Names before first name
names_at before line first name words (Ok name') has is told =
    let same : name' ≡ name = cc in
    (words, has, is ∙ ap (λ n. Ok n) same)
names_at before line first name words (Err kind) has is told = absurd cc

faulty_at : (before : List Section) (line : ℕ) (first name body : List ℕ) (count : ℕ) (lines rest : List (List ℕ)) (read : Result Script ScriptFault) (fault : ScriptFault)
    → Names before first name → Cuts lines body count rest → ReadsText body read → Err fault ≡ told_behind line read
    → ReadsSections before line (first ∷ lines) (Err fault)
faulty_at before line first name body count lines rest (Ok script) fault names cuts reads told = absurd cc
faulty_at before line first name body count lines rest (Err fault') fault names cuts reads told =
    let same : fault_behind line fault' ≡ fault = cc in
    subst (λ f. ReadsSections before line (first ∷ lines) (Err f)) same
    (subst (λ ls. ReadsSections before line (first ∷ ls) (Err (fault_behind line fault'))) (sym cuts.lines_are)
    (spec.faulty before line first cuts.body rest names.0 name fault' names.1 names.2 cuts.within cuts.starts
    (subst (λ t. ReadsText t (Err fault')) cuts.text_is reads)))

pub text_fault : (before : List Section) (start : ℕ) (text : List ℕ) (sections : List Section) (line : ℕ) (rest first name body : List ℕ) (count : ℕ) (lines more : List (List ℕ)) (fault : ScriptFault)
    → SectionsTo before start text sections line rest → lines_of rest ≡ first ∷ lines → SaysAt (section_said sections) line first (Ok name)
    → Cuts lines body count more → ReadsBehind line body (Err fault) → ReadsSections before start (lines_of text) (Err fault)
text_fault before start text sections line rest first name body count lines more fault to cut says cuts reads =
    to (Err fault) (subst (λ ls. ReadsSections sections line ls (Err fault)) (sym cut)
    (faulty_at sections line first name body count lines more reads.0 fault (names_at sections line first name says.1.0 says.0 says.1.1 says.1.2 says.2) cuts reads.1 reads.2))

reads_at : (before : List Section) (line : ℕ) (first name body : List ℕ) (count : ℕ) (lines rest : List (List ℕ)) (read : Result Script ScriptFault) (script : Script) (outcome : Result (List Section) ScriptFault)
    → Names before first name → Cuts lines body count rest → ReadsText body read → Ok script ≡ told_behind line read
    → ReadsSections (before ++ record { name = name; script = script } ∷ []) (line + 1 + count) rest outcome → ReadsSections before line (first ∷ lines) outcome
reads_at before line first name body count lines rest (Ok script') script outcome names cuts reads told more =
    let same : script' ≡ script = cc in
    subst (λ ls. ReadsSections before line (first ∷ ls) outcome) (sym cuts.lines_are)
    (spec.ReadsSections.reads before line first cuts.body rest names.0 (record { name = name; script = script }) outcome names.1 names.2 cuts.within cuts.starts
    (subst (λ t. ReadsText t (Ok script)) cuts.text_is (subst (λ s. ReadsText body (Ok s)) same reads))
    (subst (λ n. ReadsSections (before ++ record { name = name; script = script } ∷ []) (line + 1 + n) rest outcome) cuts.count_is more))
reads_at before line first name body count lines rest (Err fault) script outcome names cuts reads told more = absurd cc

pub section_more : (before : List Section) (start : ℕ) (text : List ℕ) (sections : List Section) (line : ℕ) (rest first name body : List ℕ) (count : ℕ) (lines more : List (List ℕ)) (script : Script)
    (outcome : Result (List Section) ScriptFault) → SectionsTo before start text sections line rest → lines_of rest ≡ first ∷ lines → SaysAt (section_said sections) line first (Ok name)
    → Cuts lines body count more → ReadsBehind line body (Ok script)
    → ReadsSections (sections ++ record { name = name; script = script } ∷ []) (line + 1 + count) more outcome → ReadsSections before start (lines_of text) outcome
section_more before start text sections line rest first name body count lines more script outcome to cut says cuts reads next =
    to outcome (subst (λ ls. ReadsSections sections line ls outcome) (sym cut)
    (reads_at sections line first name body count lines more reads.0 script outcome (names_at sections line first name says.1.0 says.0 says.1.1 says.1.2 says.2) cuts reads.1 reads.2 next))

-- where reading a line failed, so did reading the text
pub front_failed : {X Y : Type 0} (view : X → Y) (says : Result Y ScriptFault → Type 0) (text : List ℕ) (error : GroupFault) → Outcome view (Err error) says
    → ((what : ScriptFault) → says (Err what) → ReadsFront None 1 (lines_of text) (Err what)) → LeadsTo text (Err error)
front_failed view says text (fault.Bad what) told goes = goes what told
front_failed view says text fault.Memory told goes = tt

pub sections_failed : {X Y : Type 0} (view : X → Y) (says : Result Y ScriptFault → Type 0) (show : Unit {0} → List Section) (before : List Section) (line : ℕ) (text : List ℕ) (error : GroupFault)
    → Outcome view (Err error) says → ((what : ScriptFault) → says (Err what) → ReadsSections before line (lines_of text) (Err what))
    → Outcome show (Err error) (ReadsSections before line (lines_of text))
sections_failed view says show before line text (fault.Bad what) told goes = goes what told
sections_failed view says show before line text fault.Memory told goes = tt

pub front_wrong : (text : List ℕ) (error : GroupFault) → length text ≤ most_bytes → LeadsTo text (Err error) → Outcome (λ (groups : Groups). groups) (Err error) (ReadsGroups text)
front_wrong text (fault.Bad what) short told = spec.ReadsGroups.reads (Err what) short told
front_wrong text fault.Memory short told = tt

pub sections_wrong : (text : List ℕ) (whole line : ℕ) (rest : List ℕ) (show : Unit {0} → List Section) (error : GroupFault) → length text ≤ most_bytes → IsFront text whole line rest
    → Outcome show (Err error) (ReadsSections [] line (lines_of rest)) → Outcome (λ (groups : Groups). groups) (Err error) (ReadsGroups text)
sections_wrong text whole line rest show (fault.Bad what) short front told = spec.ReadsGroups.reads (Err what) short (front.reads (Err what) told)
sections_wrong text whole line rest show fault.Memory short front told = tt

pub groups_read : (text : List ℕ) (whole line : ℕ) (rest : List ℕ) (sections : List Section) → length text ≤ most_bytes → IsFront text whole line rest
    → ReadsSections [] line (lines_of rest) (Ok sections) → ReadsGroups text (Ok (record { whole = whole; sections = sections }))
groups_read text whole line rest sections short front reads = spec.ReadsGroups.reads (Ok (record { whole = whole; sections = sections })) short (front.reads (Ok sections) reads)

pub sections_end : (before : List Section) (start : ℕ) (text : List ℕ) (sections : List Section) (line : ℕ) (rest first name body : List ℕ) (count : ℕ) (lines more : List (List ℕ)) (script : Script)
    → SectionsTo before start text sections line rest → lines_of rest ≡ first ∷ lines → SaysAt (section_said sections) line first (Ok name)
    → Cuts lines body count more → more ≡ [] → ReadsBehind line body (Ok script)
    → ReadsSections before start (lines_of text) (Ok (sections ++ record { name = name; script = script } ∷ []))
sections_end before start text sections line rest first name body count lines more script to cut says cuts none reads =
    let all = sections ++ record { name = name; script = script } ∷ [] in
    section_more before start text sections line rest first name body count lines more script (Ok all) to cut says cuts reads
    (subst (λ ls. ReadsSections all (line + 1 + count) ls (Ok all)) (sym none) (spec.ReadsSections.none all (line + 1 + count)))
