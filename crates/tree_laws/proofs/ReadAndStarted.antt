-- What is read of a file that was written, and how much of a file tells the program that it starts.
use Rattle.std.proofs.Common.{◌≡◌, ℕ, suc, ◌+◌, ◌≤◌, cond, Bool, List, [], ◌∷◌, ◌++◌, length, take, drop, Option, Some, None, refl, sym, ap, ◌∙◌, arith, length-append, length-take}
use Rattle.std.specs.Prelude.{nat_eq, codes}
use lib.Pointwise.{pointwise}
use Rattle.std.specs.List.{All, position_from, starts_with}
use Rattle.std.specs.Option.{option_map, ok_or}
use Rattle.std.specs.Prelude.{Result}
use Rattle.std.proofs.lemmas.List.{take-take}
use Rattle.kabi_types.specs.declared.errnos.Errno.{Errno}
use Rattle.kabi_types.specs.declared.errnos.Errno.TheVariants.{ENOEXEC}
use Rattle.kabi_types.specs.declared.scripts.Program.{Program}
use Rattle.posix_defs.specs.FileBytes.{overwritten, fitting}
use Rattle.posix_defs.specs.Tree.{File, Node, Tree, node_at, with_node}
use Rattle.posix_defs.specs.TreeChanges.{with_bytes, with_bytes_in, blocks_for, write}
use Rattle.posix_defs.specs.PathCalls.{bytes_in, read_node, first_line, program_of}
use Rattle.posix_defs.proofs.TreeNodes.{is_number, node_at-with_node}
use Rattle.std.proofs.Common.{is_some, Ok}
use Rattle.tree_laws.proofs.FileBytesLaws.{written_back}
use Rattle.tree_laws.proofs.FileKeeps.{wrote}

pub written_read : (tree : Tree) (number links at : ℕ) (old bytes : List ℕ) (count : ℕ) (after : Tree) → node_at tree number ≡ Some (record { links = links; content = File old })
    → write tree number at bytes ≡ Ok (count, after) → read_node after number at count ≡ take count bytes
written_read tree number links at old bytes count after there is =
    let w = wrote tree number at bytes count after is in
    let new : List ℕ = take count bytes in
    let node : Node = record { links = links; content = File (overwritten at new old) } in
    let with_it : with_bytes tree number (overwritten at new) ≡ with_node tree number (Some node) =
    ap (λ (o : Option Node). with_node tree number (option_map {T = Node} (λ n. record n { content = with_bytes_in (overwritten at new) n.content }) o)) there in
    let here : node_at after number ≡ Some node = ap (λ (t : Tree). node_at t number) (w.tree_after ∙ with_it) ∙ node_at-with_node tree number (Some node) (is_number tree number (ap is_some there)) in
    let len : length new ≡ count = omega (arith, length-take count bytes, w.many) in
    ap (λ (o : Option Node). take count (drop at (bytes_in o))) here ∙ ap (λ (n : ℕ). take n (drop at (overwritten at new old))) (sym len) ∙ written_back at new old

line_len : (program : Program) → length program.name ≤ 27 → length (first_line program) ≤ 30
line_len program short = omega (arith, length-append (codes "#!" ++ program.name) (codes "\n"), length-append (codes "#!") program.name, short)

same_start : (program : Program) (bytes : List ℕ) → length program.name ≤ 27 → starts_with nat_eq (take 30 bytes) (first_line program) ≡ starts_with nat_eq bytes (first_line program)
same_start program bytes short = ap (λ (front : List ℕ). pointwise nat_eq (first_line program) front) (take-take (length (first_line program)) 30 bytes (line_len program short))

same_place : (programs : List Program) (bytes : List ℕ) (from : ℕ) → All (λ program. length program.name ≤ 27) programs
    → position_from (λ program. starts_with nat_eq (take 30 bytes) (first_line program)) from programs ≡ position_from (λ program. starts_with nat_eq bytes (first_line program)) from programs
same_place [] bytes from short = refl
same_place (program ∷ programs) bytes from short =
    let start = same_start program bytes (short 0 program (omega arith)) in
    let rest = same_place programs bytes (from + 1) (λ k d lt. short (suc k) d (omega (arith, lt))) in
    ap (λ (b : Bool). cond b (Some from) (position_from (λ p. starts_with nat_eq (take 30 bytes) (first_line p)) (from + 1) programs)) start
    ∙ ap (λ (o : Option ℕ). cond (starts_with nat_eq bytes (first_line program)) (Some from) o) rest

pub thirty_bytes : (programs : List Program) (bytes : List ℕ) → All (λ program. length program.name ≤ 27) programs → program_of programs (take 30 bytes) ≡ program_of programs bytes
thirty_bytes programs bytes short = ap (λ (o : Option ℕ). ok_or o ENOEXEC) (same_place programs bytes 0 short)
