-- The statements of the rounds of a generated script are statements of its program: each jump goes to a later label, and each
-- label is the first of its name.
use Rattle.std.proofs.Common.{◌≢◌, ◌<◌, ◌≤◌, ◌+◌, ◌^◌, ℕ, zero, suc, List, [], ◌∷◌, ◌++◌, length, refl, sym, subst, arith}
use Rattle.std.specs.Prelude.{codes}
use Rattle.std.specs.List.{AllByRecursion}
use Rattle.std.proofs.lemmas.List.{append_assoc}
use Rattle.kabi_types.specs.declared.calls.CallKind.TheVariants as kind
use Rattle.kabi_types.specs.declared.scripts.Operand.TheVariants.{Reg}
use Rattle.kabi_types.specs.declared.scripts.Statement.{Statement}
use Rattle.kabi_types.specs.declared.scripts.Statement.TheVariants as statement
use Rattle.kabi_types.specs.declared.scripts.Test.TheVariants.{Eq}
use Rattle.posix_defs.specs.Generator.{state_after}
use Rattle.posix_defs.specs.Generated.{number, asks, asks_two, names, exits, child_label, parent_label, forks, round, rounds_to}
use Rattle.posix_defs.specs.ValidScript.{IsLabel, IsFirstLabel, IsStatement}
use Rattle.script_parse.proofs.Holds.{all_append}
use Rattle.script_laws.proofs.Lists.{AllFrom, all_from_append, found_behind, not_before}
use Rattle.script_laws.proofs.Names.{child_named, parent_named, children_apart, parents_apart, child_no_parent}
use Rattle.script_laws.proofs.Rounds.{IsCall, fork_right, waits_right, stores_right, exits_right, maps_right, by_round, rounds_all}

-- a right call stands anywhere
pub call_stands : (body : List Statement) (at : ℕ) (s : Statement) → IsCall s → IsStatement body at s
call_stands body at (statement.Invoke _ _ _ _ _) is = (is.operands, is.fits, is.targets)
call_stands body at (statement.Set r v) is = absurd is
call_stands body at (statement.Add r v) is = absurd is
call_stands body at (statement.If left test right place) is = absurd is
call_stands body at (statement.Jump place) is = absurd is
call_stands body at (statement.Label name) is = absurd is
call_stands body at (statement.Loop r place) is = absurd is

calls_stand : (body : List Statement) (at : ℕ) (calls : List Statement) → AllByRecursion IsCall calls → AllFrom (IsStatement body) at calls
calls_stand body at [] are = tt
calls_stand body at (s ∷ calls) are = (call_stands body at s are.0, calls_stand body (at + 1) calls are.1)

-- labels

-- the statement isn't the label of this name
abbrev IsOther : List ℕ → Statement → Type 0
IsOther name s = s ≢ statement.Label name

call_no_label : (name : List ℕ) (s : Statement) → IsCall s → IsOther name s
call_no_label name (statement.Invoke _ _ _ _ _) is same = cc
call_no_label name (statement.Set r v) is same = is
call_no_label name (statement.Add r v) is same = is
call_no_label name (statement.If left test right place) is same = is
call_no_label name (statement.Jump place) is same = is
call_no_label name (statement.Label label) is same = is
call_no_label name (statement.Loop r place) is same = is

-- the statements of a round that forks, up to its first label
abbrev first_four : ℕ → List Statement
first_four at =
    asks 2 kind.Fork [] ∷ statement.If (Reg 2) Eq (number 0) (at + 4) ∷ asks_two 3 4 kind.Waitpid (Reg 2 ∷ number 0 ∷ []) ∷ statement.Jump (at + 7) ∷ []

-- those of its child
abbrev next_three : ℕ → ℕ → List Statement
next_three i q = statement.Label (child_label i) ∷ names 3 kind.Store (Reg 1 ∷ []) (codes "x" ∷ []) ∷ exits q ∷ []

four_others : (name : List ℕ) (at : ℕ) → AllByRecursion (IsOther name) (first_four at)
four_others name at =
    let no_jump : IsOther name (statement.Jump (at + 7)) = λ same. cc in
    let no_if : IsOther name (statement.If (Reg 2) Eq (number 0) (at + 4)) = λ same. cc in
    (call_no_label name (asks 2 kind.Fork []) fork_right, (no_if, (call_no_label name (asks_two 3 4 kind.Waitpid (Reg 2 ∷ number 0 ∷ [])) waits_right, (no_jump, tt))))

three_others : (name : List ℕ) (i q : ℕ) → q < 16 → child_label i ≢ name → AllByRecursion (IsOther name) (next_three i q)
three_others name i q few other =
    (λ same. other cc, (call_no_label name (names 3 kind.Store (Reg 1 ∷ []) (codes "x" ∷ [])) stores_right, (call_no_label name (exits q) (exits_right q (omega (arith, few))), tt)))

forks_others : (name : List ℕ) (i q at : ℕ) → q < 16 → child_label i ≢ name → parent_label i ≢ name → AllByRecursion (IsOther name) (forks i q at)
forks_others name i q at few child parent =
    all_append (IsOther name) (first_four at) (next_three i q ++ statement.Label (parent_label i) ∷ []) (four_others name at)
    (all_append (IsOther name) (next_three i q) (statement.Label (parent_label i) ∷ []) (three_others name i q few child) (λ same. parent cc, tt))

-- the rounds before one have other labels than its own

no_child : (n i : ℕ) → i < 10 ^ 4 → AllByRecursion (IsOther (child_label i)) (rounds_to n i)
no_child n i small =
    rounds_all (IsOther (child_label i)) n i (call_no_label (child_label i))
    (λ j q at less few. forks_others (child_label i) j q at few (children_apart j i less small) (λ same. child_no_parent i j (sym same)))

no_parent : (n i : ℕ) → i < 10 ^ 4 → AllByRecursion (IsOther (parent_label i)) (rounds_to n i)
no_parent n i small =
    rounds_all (IsOther (parent_label i)) n i (call_no_label (parent_label i))
    (λ j q at less few. forks_others (parent_label i) j q at few (child_no_parent j i) (parents_apart j i less small))

-- the statements that fork stand behind the rounds before them
forks_stand : (before rest : List Statement) (i q : ℕ) → i < 10 ^ 4 → q < 16 → AllByRecursion (IsOther (child_label i)) before
    → AllByRecursion (IsOther (parent_label i)) before
    → AllFrom (IsStatement (before ++ (forks i q (length before) ++ rest))) (length before) (forks i q (length before))
forks_stand before rest i q small few child parent =
    let at : ℕ = length before in
    let body : List Statement = before ++ (forks i q at ++ rest) in
    let child_at : IsLabel body (at + 4) = (child_label i, found_behind before (forks i q at ++ rest) 4 (at + 4) refl) in
    let parent_at : IsLabel body (at + 7) = (parent_label i, found_behind before (forks i q at ++ rest) 7 (at + 7) refl) in
    let child_first : IsFirstLabel body (at + 1 + 1 + 1 + 1) (child_label i)
    = λ other less. not_before (statement.Label (child_label i)) before (first_four at) _ child (four_others (child_label i) at) other (omega (arith, less)) in
    let parent_first : IsFirstLabel body (at + 1 + 1 + 1 + 1 + 1 + 1 + 1) (parent_label i)
    = λ other less. not_before (statement.Label (parent_label i)) before (first_four at ++ next_three i q) _ parent
    (all_append (IsOther (parent_label i)) (first_four at) (next_three i q) (four_others (parent_label i) at)
    (three_others (parent_label i) i q few (child_no_parent i i))) other (omega (arith, less)) in (
      call_stands body at (asks 2 kind.Fork []) fork_right,
      (
        (omega arith, (refl, refl), omega arith, child_at),
        (
          call_stands body (at + 1 + 1) (asks_two 3 4 kind.Waitpid (Reg 2 ∷ number 0 ∷ [])) waits_right,
          (
            (omega arith, parent_at),
            (
              (child_named i small, child_first),
              (
                call_stands body (at + 1 + 1 + 1 + 1 + 1) (names 3 kind.Store (Reg 1 ∷ []) (codes "x" ∷ [])) stores_right,
                (
                  call_stands body (at + 1 + 1 + 1 + 1 + 1 + 1) (exits q) (exits_right q (omega (arith, few))),
                  ((parent_named i small, parent_first), tt),
                ),
              ),
            ),
          ),
        ),
      ),
    )

-- so many rounds stand in a program that goes on behind them
pub rounds_stand : (n i : ℕ) (rest : List Statement) → i ≤ 10 ^ 4 → AllFrom (IsStatement (rounds_to n i ++ rest)) 0 (rounds_to n i)
rounds_stand n zero rest small =
    let maps : Statement = asks 1 kind.Mmap (number 65536 ∷ []) in (call_stands (maps ∷ rest) 0 maps maps_right, tt)
rounds_stand n (suc i) rest small =
    let before : List Statement = rounds_to n i in
    let state : ℕ = state_after n (suc i) in
    let at : ℕ = length before in
    let more : List Statement = round i state at in
    let body : List Statement = before ++ (more ++ rest) in
    let stands : AllFrom (IsStatement body) at more =
    by_round (λ r. AllFrom (IsStatement (before ++ (r ++ rest))) at r) i state at
    (λ calls are few. calls_stand (before ++ (calls ++ rest)) at calls are)
    (λ q few. forks_stand before rest i q (omega (arith, small)) few (no_child n i (omega (arith, small))) (no_parent n i (omega (arith, small)))) in
    subst (λ b. AllFrom (IsStatement b) 0 (before ++ more)) (sym (append_assoc before more rest))
    (all_from_append (IsStatement body) 0 at before more (omega arith) (rounds_stand n i (more ++ rest) (omega (arith, small))) stands)
