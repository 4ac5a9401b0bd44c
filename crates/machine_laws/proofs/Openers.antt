-- Who opens a node.
use Rattle.std.proofs.Common.{◌≡◌, ◌≢◌, ℕ, zero, suc, ◌<◌, ◌==◌, ◌||◌, ◌&&◌, Bool, true, false, List, [], ◌∷◌, ◌++◌, length, Option, None, Some, slice_index_or, refl, ap, sym, ◌∙◌, ◌⊎◌, inl, inr, arith}
use Rattle.std.specs.List.{list_any}
use Rattle.std.proofs.lemmas.Bool.Decides.{eqb_tells}
use Rattle.std.proofs.lemmas.List.{get_or-set_same, get_or-set_other}
use Rattle.std.proofs.lemmas.List.Folds.{list_any_at}
use Rattle.posix_defs.specs.Pipe.{Pipe}
use Rattle.posix_defs.specs.Plain.{Plain}
use Rattle.posix_defs.specs.Process.{Process, Table, process_at, runs}
use Rattle.posix_defs.specs.Files.Descriptions.{Target, OnNode, OnPipe, OnSocket, Description, Descriptions, description_at, with_description}
use Rattle.posix_defs.specs.Files.State.{Files, is_number, node_of, opened_node, opens}
use Rattle.posix_defs.specs.Calls.OnNames.{is_busy, works_in}
use Rattle.machine_laws.proofs.FifoPlaces.{fifo_in}
use Rattle.machine_laws.proofs.Places.{not_some, some_same, there_within}
use Rattle.machine_laws.proofs.Items.{pushed_front, true_false}

-- the node that a description is open on, an end of a FIFO's pipe too, by the pipes
abbrev pub node_in : List (Option Pipe) → Target → Option ℕ
node_in pipes (OnNode number) = Some number
node_in pipes (OnPipe place) = fifo_in pipes place
node_in pipes (OnSocket place) = None

pub node_is : (files : Files) (target : Target) → node_of files target ≡ node_in files.pipes target
node_is files (OnNode number) = refl
node_is files (OnPipe place) = refl
node_is files (OnSocket place) = refl

-- a description opens the node
pub record Opener (descriptions : Descriptions) (pipes : List (Option Pipe)) (n : ℕ) : Type 0 where
  pub place : ℕ
  pub description : Description
  pub is : description_at descriptions place ≡ Some description
  pub on : node_in pipes description.target ≡ Some n

any_at : {X : Type 0} (test : X → Bool) (default : X) (xs : List X) → list_any test xs ≡ true → (i : ℕ) × (i < length xs) × (test (slice_index_or xs i default) ≡ true)
any_at test default [] e = absurd (true_false false e refl)
any_at test default (x ∷ xs) e = go (test x) refl (any_at test default xs) e
  where
    go : (b : Bool) → test x ≡ b → (list_any test xs ≡ true → (i : ℕ) × (i < length xs) × (test (slice_index_or xs i default) ≡ true)) → (b || list_any test xs) ≡ true
        → (i : ℕ) × (i < length (x ∷ xs)) × (test (slice_index_or (x ∷ xs) i default) ≡ true)
    go true is rest f = (0, omega arith, is)
    go false is rest f = let found = rest f in (suc found.0, (let h : found.0 < length xs = found.1 in omega arith), found.2)

itself : (n : ℕ) → (n == n) ≡ true
itself n = elim (eqb_tells n n) [ inl alike ↦ alike.0 | inr apart ↦ absurd (apart.1 refl) ]

pub opens_by : (files : Files) (n : ℕ) → opens files n ≡ true → Opener files.descriptions files.pipes n
opens_by files n e = go (any_at (λ description. is_number n (opened_node files description)) None files.descriptions e)
  where
    numbered : (o : Option ℕ) → is_number n o ≡ true → o ≡ Some n
    numbered None yes_it = absurd (true_false false yes_it refl)
    numbered (Some number) yes_it = ap Some (same (eqb_tells number n))
      where
        same : ((number == n) ≡ true) × (number ≡ n) ⊎ ((number == n) ≡ false) × (number ≢ n) → number ≡ n
        same (inl alike) = alike.1
        same (inr apart) = absurd (true_false (number == n) yes_it apart.0)

    found : (place : ℕ) (o : Option Description) → description_at files.descriptions place ≡ o → is_number n (opened_node files o) ≡ true → Opener files.descriptions files.pipes n
    found place None is yes_it = absurd (true_false false yes_it refl)
    found place (Some description) is yes_it =
        record { place = place; description = description; is = is; on = sym (node_is files description.target) ∙ numbered (node_of files description.target) yes_it }

    go : (i : ℕ) × (i < length files.descriptions) × (is_number n (opened_node files (description_at files.descriptions i)) ≡ true) → Opener files.descriptions files.pipes n
    go here = found here.0 (description_at files.descriptions here.0) refl here.2

pub by_opener : (files : Files) (n : ℕ) → Opener files.descriptions files.pipes n → opens files n ≡ true
by_opener files n opener = list_any_at (λ description. is_number n (opened_node files description)) files.descriptions opener.place None
    (there_within files.descriptions opener.place opener.description opener.is)
    (ap (λ description. is_number n (opened_node files description)) opener.is ∙ ap (is_number n) (node_is files opener.description.target ∙ opener.on) ∙ itself n)

-- who is opened is busy, and so is where somebody works
pub opener_busy : (plain : Plain) (n : ℕ) → Opener plain.files.descriptions plain.files.pipes n → is_busy plain n ≡ true
opener_busy plain n opener = ap (λ b. b || list_any (works_in n) plain.table) (by_opener plain.files n opener)

pub works_busy : (plain : Plain) (n : ℕ) → list_any (works_in n) plain.table ≡ true → is_busy plain n ≡ true
works_busy plain n works = ap (λ b. opens plain.files n || b) works ∙ or_true (opens plain.files n)
  where
    or_true : (b : Bool) → (b || true) ≡ true
    or_true true = refl
    or_true false = refl

-- ---- after a change of one description

pub pushed_opener : (descriptions : Descriptions) (pipes : List (Option Pipe)) (new : Description) (n : ℕ) → Opener descriptions pipes n → Opener (descriptions ++ Some new ∷ []) pipes n
pushed_opener descriptions pipes new n opener = record {
  place = opener.place;
  description = opener.description;
  is = pushed_front descriptions (Some new) opener.place opener.description opener.is;
  on = opener.on;
}

pub described_opener : (descriptions : Descriptions) (pipes : List (Option Pipe)) (place : ℕ) (was now : Description) (n : ℕ) → description_at descriptions place ≡ Some was → now.target ≡ was.target
    → Opener descriptions pipes n → Opener (with_description descriptions place (Some now)) pipes n
described_opener descriptions pipes place was now n there target opener = elim (eqb_tells opener.place place) [
  | inl alike ↦ record {
    place = place;
    description = now;
    is = get_or-set_same descriptions place (Some now) None (there_within descriptions place was there);
    on = ap (node_in pipes) (target ∙ ap (λ d. d.target) (some_same (description_at descriptions place) was opener.description there (ap (description_at descriptions) (sym alike.1) ∙ opener.is))) ∙ opener.on;
  }
  | inr apart ↦ record { place = opener.place; description = opener.description; is = get_or-set_other descriptions place opener.place (Some now) None apart.1 ∙ opener.is; on = opener.on }
]

-- another than one that goes, of a node that this one didn't open
pub gone_opener : (descriptions : Descriptions) (pipes : List (Option Pipe)) (place : ℕ) (was : Description) (n : ℕ) → description_at descriptions place ≡ Some was → (node_in pipes was.target ≡ Some n → ⊥)
    → Opener descriptions pipes n → Opener (with_description descriptions place None) pipes n
gone_opener descriptions pipes place was n there other opener = elim (eqb_tells opener.place place) [
  | inl alike ↦ absurd (other (ap (λ d. node_in pipes d.target) (some_same (description_at descriptions place) was opener.description there (ap (description_at descriptions) (sym alike.1) ∙ opener.is)) ∙ opener.on))
  | inr apart ↦ record { place = opener.place; description = opener.description; is = get_or-set_other descriptions place opener.place None None apart.1 ∙ opener.is; on = opener.on }
]

-- among other pipes, of which those of FIFOs that have an opener are the same FIFOs'
pub repiped_opener : (descriptions : Descriptions) (old new : List (Option Pipe)) (n : ℕ)
    → ((place : ℕ) (description : Description) (p : ℕ) → description_at descriptions place ≡ Some description → description.target ≡ OnPipe p → fifo_in old p ≡ Some n → fifo_in new p ≡ Some n)
    → Opener descriptions old n → Opener descriptions new n
repiped_opener descriptions old new n stays opener = record { place = opener.place; description = opener.description; is = opener.is; on = go opener.description.target refl opener.on }
  where
    go : (target : Target) → opener.description.target ≡ target → node_in old target ≡ Some n → node_in new target ≡ Some n
    go (OnNode number) on is = is
    go (OnPipe p) on is = stays opener.place opener.description p opener.is on is
    go (OnSocket place) on is = is

-- a process that lives works in its directory
pub works : (table : Table) (who : ℕ) (process : Process) → process_at table who ≡ Some process → runs process.status ≡ true → list_any (works_in process.directory) table ≡ true
works table zero process is alive = absurd (not_some refl is)
works table (suc i) process is alive = go table i is
  where
    here : works_in process.directory (Some process) ≡ true
    here = ap (λ b. b && (process.directory == process.directory)) alive ∙ itself process.directory

    first : (o : Option Process) (rest : Table) → o ≡ Some process → (works_in process.directory o || list_any (works_in process.directory) rest) ≡ true
    first o rest same = ap (λ o. works_in process.directory o || list_any (works_in process.directory) rest) same ∙ ap (λ b. b || list_any (works_in process.directory) rest) here

    later : (b c : Bool) → c ≡ true → (b || c) ≡ true
    later true c e = refl
    later false c e = e

    go : (table : Table) (i : ℕ) → process_at table (suc i) ≡ Some process → list_any (works_in process.directory) table ≡ true
    go [] i e = absurd (not_some refl e)
    go (o ∷ rest) zero e = first o rest e
    go (o ∷ rest) (suc k) e = later (works_in process.directory o) (list_any (works_in process.directory) rest) (go rest k e)
