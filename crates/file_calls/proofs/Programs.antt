-- Which program a process starts.
use Rattle.std.proofs.Common.{◌≡◌, ℕ, suc, ◌+◌, ◌<◌, ◌≤◌, ◌&&◌, ◌||◌, Bool, true, false, cond, List, [], ◌∷◌, length, Option, None, Some, Result, Ok, Err, refl, sym, ◌∙◌, arith, inl, inr}
use Rattle.std.specs.Prelude.{nat_eq, nat_le, ok_or}
use Rattle.std.specs.List.{AllByRecursion, list_all, position_from, starts_with}
use Rattle.std.proofs.lemmas.Bool.{false≢true}
use Rattle.std.proofs.lemmas.Bool.Decides.{leb_tells}
use Rattle.std.proofs.lemmas.List.Elements.{All-from_recursion}
use Rattle.kabi_types.specs.declared.scripts.Program.{Program}
use Rattle.kabi_types.specs.declared.scripts.Script.{Script}
use Rattle.kabi_types.specs.declared.errnos.Errno.{Errno}
use Rattle.kabi_types.specs.declared.errnos.Errno.TheVariants.{EACCES, ENOEXEC}
use Rattle.memfs_ops.specs.Starting.{ArePrograms}
use Rattle.posix_defs.specs.PathCalls.{bytes_in, exec_found, exec_path, first_line, is_fifo, is_socket, node_led, program_of, unless}
use Rattle.posix_defs.specs.Paths.{resolve}
use Rattle.posix_defs.specs.ScriptValues.{is_letter, is_name, is_name_byte}
use Rattle.posix_defs.specs.Tree.{Tree, is_directory, node_at}
use Rattle.posix_defs.specs.ValidScript.{IsProgram, IsValid}

-- ---- the names of programs fit

both : (a b : Bool) → a && b ≡ true → b ≡ true
both true b e = e
both false b e = absurd (false≢true e)

name_fits : (name : List ℕ) → is_name name ≡ true → length name ≤ 27
name_fits [] is = absurd (false≢true is)
name_fits (first ∷ rest) is =
    let short : nat_le (length rest) 26 ≡ true = both (is_letter first && list_all is_name_byte rest) (nat_le (length rest) 26) is in
    elim (leb_tells (length rest) 26) [
      | inl less ↦ (let l : length rest ≤ 26 = less.1 in omega arith)
      | inr more ↦ absurd (false≢true (sym more.0 ∙ short))
    ]

all_fit : (programs : List Program) → AllByRecursion IsProgram programs → AllByRecursion (λ (program : Program). length program.name ≤ 27) programs
all_fit [] all = tt
all_fit (program ∷ programs) all = (let it : IsProgram program = all.0 in name_fits program.name it.name, all_fit programs all.1)

-- so a valid script's may be started
pub are_programs : (script : Script) → IsValid script → ArePrograms script.programs
are_programs script valid = record { few = valid.most_programs; names = All-from_recursion (λ (program : Program). length program.name ≤ 27) script.programs (all_fit script.programs valid.programs) }

-- ---- what was found is there

position_within : {X : Type 0} (test : X → Bool) (first : ℕ) (xs : List X) (place : ℕ) → position_from test first xs ≡ Some place → place < first + length xs
position_within test first [] place is = cc
position_within test first (x ∷ xs) place is = by_test (test x) is (λ e. position_within test (first + 1) xs place e)
  where
    same : (a b : ℕ) → Some a ≡ Some b → a ≡ b
    same a b e = cc

    by_test : (b : Bool) → cond b (Some first) (position_from test (first + 1) xs) ≡ Some place → (position_from test (first + 1) xs ≡ Some place → place < first + 1 + length xs) → place < first + suc (length xs)
    by_test true e later = (let here : first ≡ place = same first place e in omega arith)
    by_test false e later = (let rest = later e in omega (arith, rest))

-- the program that a path names is one of the script
pub started_within : (tree : Tree) (cwd : ℕ) (path : List ℕ) (programs : List Program) (place : ℕ) → Ok place ≡ exec_path tree cwd path programs → place < length programs
started_within tree cwd path programs place is = by_led (node_led (resolve tree cwd path)) is
  where
    ok_of : (o : Option ℕ) → Ok place ≡ ok_or o ENOEXEC → o ≡ Some place
    ok_of (Some other) e = cc
    ok_of None e = cc

    by_line : (bytes : List ℕ) → Ok place ≡ program_of programs bytes → place < length programs
    by_line bytes e = (let within = position_within (λ program. starts_with nat_eq bytes (first_line program)) 0 programs place (ok_of _ e) in omega (arith, within))

    by_kind : (bad : Bool) (bytes : List ℕ) → Ok place ≡ unless bad EACCES (program_of programs bytes) → place < length programs
    by_kind true bytes e = cc
    by_kind false bytes e = by_line bytes e

    by_led : (led : Result ℕ Errno) → Ok place ≡ exec_found tree programs led → place < length programs
    by_led (Ok number) e = by_kind (is_directory tree number || is_socket tree number || is_fifo tree number) (bytes_in (node_at tree number)) e
    by_led (Err errno) e = cc

-- and the path leads to a node
pub started_led : (tree : Tree) (led : Result ℕ Errno) (programs : List Program) (place : ℕ) → Ok place ≡ exec_found tree programs led → (number : ℕ) × (led ≡ Ok number)
started_led tree (Ok number) programs place is = (number, refl)
started_led tree (Err errno) programs place is = cc
