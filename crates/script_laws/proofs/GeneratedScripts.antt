-- A generated script, printed, is short enough for a text, and keeps what scripts promise.
use Rattle.std.proofs.Common.{◌<◌, ◌≤◌, ◌+◌, ◌*◌, ◌^◌, ℕ, zero, suc, List, [], ◌∷◌, map, length, refl, arith}
use Rattle.std.specs.Prelude.{codes}
use Rattle.std.specs.List.{AllByRecursion}
use Rattle.std.proofs.lemmas.Fmt.{length-decimal-le}
use Rattle.std.proofs.lemmas.List.{length-append, length-map}
use Rattle.kabi_types.specs.declared.calls.CallKind.TheVariants as kind
use Rattle.kabi_types.specs.declared.scripts.Operand.TheVariants.{Reg}
use Rattle.kabi_types.specs.declared.scripts.Program.{Program}
use Rattle.kabi_types.specs.declared.scripts.Statement.{Statement}
use Rattle.kabi_types.specs.declared.scripts.Statement.TheVariants as statement
use Rattle.kabi_types.specs.declared.scripts.Test.TheVariants.{Eq}
use Rattle.posix_defs.specs.declared.said.Word.{Word}
use Rattle.posix_defs.specs.declared.said.Word.TheVariants.{Bare}
use Rattle.posix_defs.specs.Generated.{number, asks, asks_two, names, exits, child_label, parent_label, forks, rounds_to, body_to, generated}
use Rattle.posix_defs.specs.Canonical.{number_word, statement_words, program_lines, script_lines, canonical}
use Rattle.posix_defs.specs.ValidScript.{IsStatement, IsProgram, AreApart, IsValid}
use Rattle.script_parse.proofs.Holds.{all_append}
use Rattle.script_laws.proofs.Lists.{AllFrom, all_from_append, each_place}
use Rattle.script_laws.proofs.Names.{IsShort, short_child, short_parent}
use Rattle.script_laws.proofs.Rounds.{IsCall, fork_right, waits_right, stores_right, exits_right, short_operand, rounds_length, rounds_all}
use Rattle.script_laws.proofs.ShortTexts.{IsShortLine, IsShortStatement, lines_length, short_name, short_lines}
use Rattle.script_laws.proofs.ValidRounds.{call_stands, rounds_stand}

-- lengths

call_short : (s : Statement) → IsCall s → IsShortStatement s
call_short (statement.Invoke _ _ _ _ _) is = is.line
call_short (statement.Set r v) is = absurd is
call_short (statement.Add r v) is = absurd is
call_short (statement.If left test right place) is = absurd is
call_short (statement.Jump place) is = absurd is
call_short (statement.Label name) is = absurd is
call_short (statement.Loop r place) is = absurd is

label_short : (name : List ℕ) → IsShort name → IsShortStatement (statement.Label name)
label_short name is = record { each = (omega arith, (short_name name is, tt)); few = omega arith }

forks_short : (i q at : ℕ) → i < 10 ^ 4 → q < 16 → AllByRecursion IsShortStatement (forks i q at)
forks_short i q at small few =
    let leap : IsShortStatement (statement.If (Reg 2) Eq (number 0) (at + 4)) = record {
      each = (omega arith, (short_operand (Reg 2) (omega arith), (omega arith, (short_operand (number 0) (omega arith), (omega arith, tt)))));
      few = omega arith;
    } in (
      call_short (asks 2 kind.Fork []) fork_right,
      (
        leap,
        (
          call_short (asks_two 3 4 kind.Waitpid (Reg 2 ∷ number 0 ∷ [])) waits_right,
          (
            record { each = (omega arith, (omega arith, tt)); few = omega arith },
            (
              label_short (child_label i) (short_child i small),
              (
                call_short (names 3 kind.Store (Reg 1 ∷ []) (codes "x" ∷ [])) stores_right,
                (call_short (exits q) (exits_right q (omega (arith, few))), (label_short (parent_label i) (short_parent i small), tt)),
              ),
            ),
          ),
        ),
      ),
    )

body_short : (n : ℕ) → n ≤ 1000 → AllByRecursion IsShortStatement (body_to n)
body_short n most =
    all_append IsShortStatement (rounds_to n n) (exits 0 ∷ [])
    (rounds_all IsShortStatement n n call_short (λ j q at less few. forks_short j q at (omega (arith, less, most)) few))
    (call_short (exits 0) (exits_right 0 (omega arith)), tt)

body_length : (n : ℕ) → length (body_to n) ≤ 2 + 8 * n
body_length n = omega (arith, rounds_length n n, length-append (rounds_to n n) (exits 0 ∷ []))

program_short : (n : ℕ) → n ≤ 1000 → AllByRecursion IsShortLine (program_lines (record { name = codes "init"; body = body_to n }))
program_short n most =
    let body : List Statement = body_to n in
    let all = body_short n most in (
      record { each = (omega arith, (omega arith, tt)); few = omega arith },
      all_append IsShortLine (map (statement_words body) body) _ (short_lines body body all all) (record { each = (omega arith, tt); few = omega arith }, tt),
    )

number_short : (word : List ℕ) (n : ℕ) → length word ≤ 12 → n < 10 ^ 7 → IsShortLine (Bare word ∷ number_word n ∷ [])
number_short word n few small = record {
  each = (few, (omega (arith, length-decimal-le 7 n (omega arith) small (omega (arith, small))), tt));
  few = omega arith;
}

pub generated_short : (n : ℕ) → n ≤ 1000 → length (canonical (generated n)) ≤ 1048576
generated_short n most =
    let body : List Statement = body_to n in
    let program : Program = record { name = codes "init"; body = body } in
    let lines : List (List Word) = script_lines (generated n) in
    let all : AllByRecursion IsShortLine lines = (
      number_short (codes "heap") 8388608 (omega arith) (omega arith),
      (
        number_short (codes "disk") 4096 (omega arith) (omega arith),
        (
          number_short (codes "steps") 100000 (omega arith) (omega arith),
          (
            record { each = (omega arith, (omega arith, tt)); few = omega arith },
            all_append IsShortLine (program_lines program) [] (program_short n most) tt,
          ),
        ),
      ),
    ) in
    let statements : List (List Word) = map (statement_words body) body in
    omega (
      arith,
      most,
      lines_length lines all,
      body_length n,
      length-append (program_lines program) [],
      length-append statements ((Bare (codes "end") ∷ []) ∷ []),
      length-map body (statement_words body),
    )

-- what scripts promise

-- each statement of a generated script stands where it may
body_stands : (n : ℕ) → n ≤ 1000 → AllFrom (IsStatement (body_to n)) 0 (body_to n)
body_stands n most =
    let rounds : List Statement = rounds_to n n in
    all_from_append (IsStatement (body_to n)) 0 (length rounds) rounds (exits 0 ∷ []) (omega arith) (rounds_stand n n (exits 0 ∷ []) (omega (arith, most)))
    (call_stands (body_to n) (length rounds) (exits 0) (exits_right 0 (omega arith)), tt)

pub generated_valid : (n : ℕ) → n ≤ 1000 → IsValid (generated n)
generated_valid n most =
    let body : List Statement = body_to n in
    let program : Program = record { name = codes "init"; body = body } in
    let all = body_stands n most in
    let is : IsProgram program = record {
      name = refl;
      short = omega (arith, most, body_length n);
      body = λ at. each_place (IsStatement body) 0 body all at at (omega arith);
    } in
    record {
      least_heap = omega arith;
      most_heap = omega arith;
      least_disk = omega arith;
      most_disk = omega arith;
      least_steps = omega arith;
      most_steps = omega arith;
      chooser = tt;
      most_programs = omega arith;
      programs = (is, tt);
      apart = one_apart program;
      init = record { at = 0; program = program; is_there = refl; is_named = refl };
    }
  where
    one_apart : (program : Program) → AreApart (program ∷ [])
    one_apart program zero zero less = absurd (omega (arith, less))
    one_apart program zero (suc b) less = tt
    one_apart program (suc a) b less = tt
