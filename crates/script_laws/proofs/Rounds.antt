-- What the rounds of generated scripts consist of: calls with the operands that they need, and in one kind of round jumps and
-- labels between them.
use Rattle.std.proofs.Common.{◌≡◌, ◌<◌, ◌≤◌, ◌+◌, ◌*◌, ◌%◌, ◌^◌, ℕ, zero, suc, pos, negsuc, ◌==◌, true, List, [], ◌∷◌, map, length, Option, None, Some, refl, arith}
use Rattle.std.specs.Prelude.{int_le, codes}
use Rattle.std.specs.List.{AllByRecursion}
use Rattle.std.proofs.lemmas.Fmt.{length-decimal-le}
use Rattle.std.proofs.lemmas.List.{length-append, length-map}
use Rattle.kabi_types.specs.Words.{word_of}
use Rattle.kabi_types.specs.declared.calls.CallKind.{CallKind}
use Rattle.kabi_types.specs.declared.calls.CallKind.TheVariants as kind
use Rattle.kabi_types.specs.declared.scripts.Operand.{Operand}
use Rattle.kabi_types.specs.declared.scripts.Operand.TheVariants.{Reg, Number}
use Rattle.kabi_types.specs.declared.scripts.Statement.{Statement}
use Rattle.kabi_types.specs.declared.scripts.Statement.TheVariants as statement
use Rattle.posix_defs.specs.declared.said.Shape.{Shape}
use Rattle.posix_defs.specs.declared.said.Shape.TheVariants as shape
use Rattle.posix_defs.specs.declared.said.Word.{Word}
use Rattle.posix_defs.specs.declared.said.Word.TheVariants.{Bare, Quoted}
use Rattle.posix_defs.specs.Generator.{state_after, choice_of}
use Rattle.posix_defs.specs.Generated.{number, asks, asks_two, names, exits, directory, inside, file, other_file, writes_file, fills_pipe, forks, round_of, round, rounds_to}
use Rattle.posix_defs.specs.ScriptValues.{greatest_value}
use Rattle.posix_defs.specs.ScriptLines.{shape_of}
use Rattle.posix_defs.specs.Canonical.{operand_word, operand_words, register_word, target_words, statement_words}
use Rattle.posix_defs.specs.ValidScript.{IsOperand, IsPath, HasText, HasTwoPaths, Fits, AreTargets}
use Rattle.script_parse.proofs.Holds.{when, all_append}
use Rattle.script_laws.proofs.Names.{IsShort, short_path, short_directory, short_inside, short_file, short_other_file}
use Rattle.script_laws.proofs.ShortTexts.{IsShortWord, IsShortLine, short_text}

-- a register, or a number of at most six digits
abbrev pub IsSmall : Operand → Type 0
IsSmall (Reg register) = register < 16
IsSmall (Number (pos n)) = n < 10 ^ 6
IsSmall (Number (negsuc n)) = ⊥

small_operand : (operand : Operand) → IsSmall operand → IsOperand operand
small_operand (Reg register) is = is
small_operand (Number (pos n)) is = (refl, let below : int_le (pos n) greatest_value ≡ true = grind (arith, is) in below)
small_operand (Number (negsuc n)) is = absurd is

small_operands : (values : List Operand) → AllByRecursion IsSmall values → AllByRecursion IsOperand values
small_operands [] all = tt
small_operands (value ∷ values) all = (small_operand value all.0, small_operands values all.1)

short_register : (register : ℕ) → register < 16 → IsShortWord (register_word register)
short_register register is = omega (arith, length-decimal-le 2 register (omega arith) (omega (arith, is)) (omega (arith, is)))

pub short_operand : (operand : Operand) → IsSmall operand → IsShortWord (operand_word operand)
short_operand (Reg register) is = short_register register is
short_operand (Number (pos n)) is = omega (arith, length-decimal-le 6 n (omega arith) is (omega (arith, is)))
short_operand (Number (negsuc n)) is = absurd is

short_values : (values : List Operand) → AllByRecursion IsSmall values → AllByRecursion IsShortWord (map operand_word values)
short_values [] all = tt
short_values (value ∷ values) all = (short_operand value all.0, short_values values all.1)

short_texts : (texts : List (List ℕ)) → AllByRecursion IsShort texts → AllByRecursion IsShortWord (map Quoted texts)
short_texts [] all = tt
short_texts (text ∷ texts) all = (short_text text all.0, short_texts texts all.1)

-- the words of operands
record AreShort (count : ℕ) (words : List Word) : Type 0 where
  each : AllByRecursion IsShortWord words
  counts : length words ≡ count

short_operands : (shape : Shape) (values : List Operand) (texts : List (List ℕ)) → AllByRecursion IsSmall values → AllByRecursion IsShort texts
    → AreShort (length values + length texts) (operand_words shape values texts)
short_operands shape.PathValue values texts small short = record {
  each = all_append IsShortWord (map Quoted texts) (map operand_word values) (short_texts texts short) (short_values values small);
  counts = omega (arith, length-append (map Quoted texts) (map operand_word values), length-map {A = List ℕ} {B = Word} texts Quoted, length-map values operand_word);
}
short_operands _ values texts small short = record {
  each = all_append IsShortWord (map operand_word values) (map Quoted texts) (short_values values small) (short_texts texts short);
  counts = omega (arith, length-append (map operand_word values) (map Quoted texts), length-map {A = List ℕ} {B = Word} texts Quoted, length-map values operand_word);
}

short_targets : (first second : Option ℕ) → AreTargets first second → AllByRecursion IsShortWord (target_words first second) × (length (target_words first second) ≤ 3)
short_targets None second is = (tt, omega arith)
short_targets (Some first) None is = ((short_register first is, (omega arith, tt)), omega arith)
short_targets (Some first) (Some second) is = ((short_register first is.1, (short_register second is.2, (omega arith, tt))), omega arith)

-- a call with the operands that it needs, whose line is short
pub record IsRight (kind : CallKind) (values : List Operand) (texts : List (List ℕ)) (first second : Option ℕ) : Type 0 where
  pub operands : AllByRecursion IsOperand values
  pub fits : Fits (shape_of kind) values texts
  pub targets : AreTargets first second
  pub line : IsShortLine (statement_words [] (statement.Invoke kind values texts first second))

abbrev pub IsCall : Statement → Type 0
IsCall (statement.Invoke kind values texts first second) = IsRight kind values texts first second
IsCall _ = ⊥

right : (kind : CallKind) (values : List Operand) (texts : List (List ℕ)) (first second : Option ℕ) → AllByRecursion IsSmall values
    → AllByRecursion IsShort texts → length values + length texts ≤ 3 → length (word_of kind) ≤ 12 → Fits (shape_of kind) values texts
    → AreTargets first second → IsRight kind values texts first second
right kind values texts first second small short few word fits targets =
    let behind = short_operands (shape_of kind) values texts small short in
    let before = short_targets first second targets in
    let rest : List Word = Bare (word_of kind) ∷ operand_words (shape_of kind) values texts in
    record {
      operands = small_operands values small;
      fits = fits;
      targets = targets;
      line = record {
        each = all_append IsShortWord (target_words first second) rest before.0 (word, behind.each);
        few = omega (arith, few, before.1, behind.counts, length-append (target_words first second) rest);
      };
    }

-- the calls of the rounds

-- a call with values alone, one register or two
asks_right : (register : ℕ) (kind : CallKind) (values : List Operand) → register < 16 → AllByRecursion IsSmall values → length values ≤ 3
    → length (word_of kind) ≤ 12 → Fits (shape_of kind) values [] → IsCall (asks register kind values)
asks_right register kind values is small few word fits = right kind values [] (Some register) None small tt (omega (arith, few)) word fits is

asks_two_right : (first second : ℕ) (kind : CallKind) (values : List Operand) → first < 16 → second < 16 → AllByRecursion IsSmall values → length values ≤ 3
    → length (word_of kind) ≤ 12 → Fits (shape_of kind) values [] → IsCall (asks_two first second kind values)
asks_two_right first second kind values is also small few word fits =
    right kind values [] (Some first) (Some second) small tt (omega (arith, few)) word fits (refl, is, also)

-- a call with a text or two
names_right : (register : ℕ) (kind : CallKind) (values : List Operand) (texts : List (List ℕ)) → register < 16 → AllByRecursion IsSmall values
    → AllByRecursion IsShort texts → length values + length texts ≤ 3 → length (word_of kind) ≤ 12 → Fits (shape_of kind) values texts
    → IsCall (names register kind values texts)
names_right register kind values texts is small short few word fits = right kind values texts (Some register) None small short few word fits is

pub exits_right : (status : ℕ) → status < 10 ^ 6 → IsCall (exits status)
exits_right status small =
    right kind.Exit (number status ∷ []) [] None None (small, tt) tt (omega arith) (omega arith) (record { values_are = refl; texts_are = refl }) tt

pub maps_right : IsCall (asks 1 kind.Mmap (number 65536 ∷ []))
maps_right = asks_right 1 kind.Mmap _ (omega arith) (omega arith, tt) (omega arith) (omega arith) (record { values_are = refl; texts_are = refl })

has_path : (count : ℕ) (values : List Operand) (path : List ℕ) → length values ≡ count → IsShort path → HasText IsPath count values (path ∷ [])
has_path count values path counts is = record { text = path; values_are = counts; texts_are = refl; fits = short_path path is }

has_paths : (old new : List ℕ) → IsShort old → IsShort new → HasTwoPaths [] (old ∷ new ∷ [])
has_paths old new is also = record { old = old; new = new; values_are = refl; texts_are = refl; is_old = short_path old is; is_new = short_path new also }

one_path_right : (kind : CallKind) (path : List ℕ) → IsShort path → length (word_of kind) ≤ 12 → Fits (shape_of kind) [] (path ∷ [])
    → AllByRecursion IsCall (names 2 kind [] (path ∷ []) ∷ [])
one_path_right kind path is word fits = (names_right 2 kind [] (path ∷ []) (omega arith) tt (is, tt) (omega arith) word fits, tt)

two_paths_right : (kind : CallKind) (old new : List ℕ) → IsShort old → IsShort new → length (word_of kind) ≤ 12 → Fits (shape_of kind) [] (old ∷ new ∷ [])
    → AllByRecursion IsCall (names 2 kind [] (old ∷ new ∷ []) ∷ [])
two_paths_right kind old new is also word fits = (names_right 2 kind [] (old ∷ new ∷ []) (omega arith) tt (is, (also, tt)) (omega arith) word fits, tt)

writes_right : (q w : ℕ) → q < 16 → w < 20000 → AllByRecursion IsCall (writes_file q w)
writes_right q w small few =
    let path = short_file q (omega (arith, small)) in (
      names_right 2 kind.OpenFile (number 66 ∷ []) (file q ∷ []) (omega arith) (omega arith, tt) (path, tt) (omega arith) (omega arith)
          (has_path 1 (number 66 ∷ []) (file q) refl path),
      (
        asks_right 3 kind.Write (Reg 2 ∷ Reg 1 ∷ number w ∷ []) (omega arith) (omega arith, (omega arith, (omega (arith, few), tt))) (omega arith) (omega arith)
            (record { values_are = refl; texts_are = refl }),
        (asks_right 3 kind.Close (Reg 2 ∷ []) (omega arith) (omega arith, tt) (omega arith) (omega arith) (record { values_are = refl; texts_are = refl }), tt),
      ),
    )

pipe_right : AllByRecursion IsCall fills_pipe
pipe_right = (
  asks_two_right 2 3 kind.Pipe [] (omega arith) (omega arith) tt (omega arith) (omega arith) (record { values_are = refl; texts_are = refl }),
  (
    asks_right 4 kind.Write (Reg 3 ∷ Reg 1 ∷ number 100 ∷ []) (omega arith) (omega arith, (omega arith, (omega arith, tt))) (omega arith) (omega arith)
        (record { values_are = refl; texts_are = refl }),
    (
      asks_right 4 kind.Read (Reg 2 ∷ Reg 1 ∷ number 100 ∷ []) (omega arith) (omega arith, (omega arith, (omega arith, tt))) (omega arith) (omega arith)
          (record { values_are = refl; texts_are = refl }),
      (
        asks_right 4 kind.Close (Reg 2 ∷ []) (omega arith) (omega arith, tt) (omega arith) (omega arith) (record { values_are = refl; texts_are = refl }),
        (asks_right 4 kind.Close (Reg 3 ∷ []) (omega arith) (omega arith, tt) (omega arith) (omega arith) (record { values_are = refl; texts_are = refl }), tt),
      ),
    ),
  ),
)

pub fork_right : IsCall (asks 2 kind.Fork [])
fork_right = asks_right 2 kind.Fork [] (omega arith) tt (omega arith) (omega arith) (record { values_are = refl; texts_are = refl })

pub waits_right : IsCall (asks_two 3 4 kind.Waitpid (Reg 2 ∷ number 0 ∷ []))
waits_right =
    asks_two_right 3 4 kind.Waitpid (Reg 2 ∷ number 0 ∷ []) (omega arith) (omega arith) (omega arith, (omega arith, tt)) (omega arith) (omega arith)
    (record { values_are = refl; texts_are = refl })

pub stores_right : IsCall (names 3 kind.Store (Reg 1 ∷ []) (codes "x" ∷ []))
stores_right =
    names_right 3 kind.Store (Reg 1 ∷ []) (codes "x" ∷ []) (omega arith) (omega arith, tt) (record { plain = (refl, tt); short = omega arith }, tt) (omega arith)
    (omega arith) (record { text = codes "x"; values_are = refl; texts_are = refl; fits = (omega arith, (omega arith, tt)) })

-- a round is a few right calls, or the one that forks
pub by_kind : (P : List Statement → Type 0) (which i q w at : ℕ) → q < 16 → w < 20000
    → ((calls : List Statement) → AllByRecursion IsCall calls → length calls ≤ 8 → P calls) → P (forks i q at) → P (round_of which i q w at)
by_kind P which i q w at small few calls forked =
    let made = short_directory q (omega (arith, small)) in
    let within = short_inside q (omega (arith, small)) in
    let path = short_file q (omega (arith, small)) in
    let other = short_other_file q (omega (arith, small)) in
    when P (which == 0) _ _ (λ _. calls _ (one_path_right kind.Mkdir (directory q) made (omega arith) (has_path 0 [] (directory q) refl made)) (omega arith))
    (λ _. when P (which == 1) _ _ (λ _. calls _ (writes_right q w small few) (omega arith))
    (λ _. when P (which == 2) _ _ (λ _. calls _ (one_path_right kind.Unlink (file q) path (omega arith) (has_path 0 [] (file q) refl path)) (omega arith))
    (λ _. when P (which == 3) _ _ (λ _. calls _ (two_paths_right kind.Rename (file q) (inside q) path within (omega arith) (has_paths (file q) (inside q) path within)) (omega arith))
    (λ _. when P (which == 4) _ _ (λ _. calls _ pipe_right (omega arith))
    (λ _. when P (which == 5) _ _ (λ _. forked)
    (λ _. when P (which == 6) _ _ (λ _. calls _ (one_path_right kind.Stat (inside q) within (omega arith) (has_path 0 [] (inside q) refl within)) (omega arith))
    (λ _. calls _ (two_paths_right kind.Link (file q) (other_file q) path other (omega arith) (has_paths (file q) (other_file q) path other)) (omega arith))))))))

pub by_round : (P : List Statement → Type 0) (i state at : ℕ) → ((calls : List Statement) → AllByRecursion IsCall calls → length calls ≤ 8 → P calls)
    → ((q : ℕ) → q < 16 → P (forks i q at)) → P (round i state at)
by_round P i state at calls forked =
    by_kind P (choice_of state % 8) i (i % 16) (state % 20000) at (omega arith) (omega arith) calls (forked (i % 16) (omega arith))

-- so many rounds have at most so many statements
pub rounds_length : (n i : ℕ) → length (rounds_to n i) ≤ 1 + 8 * i
rounds_length n zero = omega arith
rounds_length n (suc i) =
    let before : List Statement = rounds_to n i in
    let more : List Statement = round i (state_after n (suc i)) (length before) in
    let few : length more ≤ 8 = by_round (λ r. length r ≤ 8) i (state_after n (suc i)) (length before) (λ calls are few. few) (λ q small. omega arith) in
    omega (arith, rounds_length n i, few, length-append before more)

calls_are : (P : Statement → Type 0) (calls : List Statement) → ((s : Statement) → IsCall s → P s) → AllByRecursion IsCall calls → AllByRecursion P calls
calls_are P [] each all = tt
calls_are P (s ∷ calls) each all = (each s all.0, calls_are P calls each all.1)

-- what holds of right calls, and of the statements that fork, holds of all statements of so many rounds
pub rounds_all : (P : Statement → Type 0) (n i : ℕ) → ((s : Statement) → IsCall s → P s)
    → ((j q at : ℕ) → j < i → q < 16 → AllByRecursion P (forks j q at)) → AllByRecursion P (rounds_to n i)
rounds_all P n zero each forked = (each _ maps_right, tt)
rounds_all P n (suc i) each forked =
    let before : List Statement = rounds_to n i in
    let state : ℕ = state_after n (suc i) in
    all_append P before (round i state (length before)) (rounds_all P n i each (λ j q at less small. forked j q at (omega (arith, less)) small))
    (by_round (AllByRecursion P) i state (length before) (λ calls are few. calls_are P calls each are) (λ q small. forked i q (length before) (omega arith) small))
