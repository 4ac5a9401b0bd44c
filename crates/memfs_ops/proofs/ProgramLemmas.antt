-- The program that the first bytes of a file name.
use Rattle.std.proofs.Common.{◌≡◌, ℕ, ◌+◌, ◌≤◌, ◌++◌, Bool, true, false, not, ◌&&◌, ◌||◌, cond, List, [], ◌∷◌, length, take, drop, min, nat_eq, Option, Some, IsSome, refl, sym, ap, ◌∙◌, subst, inl, inr, arith}
use Rattle.std.specs.Prelude.{codes}
use Rattle.std.specs.List.{All, AllByRecursion, position_from, starts_with}
use lib.Pointwise.{pointwise}
use Rattle.std.specs.Option.{ok_or}
use Rattle.std.proofs.lemmas.Bool.{cases_eq, eq-eqb, eqb-true, ne_eqb, false≢true}
use Rattle.std.proofs.lemmas.List.{take-take, length-append}
use Rattle.std.proofs.lemmas.List.Elements.{All-head, All-tail}
use Rattle.std.proofs.Math.Seq.{take-append_seam}
use Rattle.kabi_types.specs.declared.scripts.Program.{Program}
use Rattle.kabi_types.specs.declared.errnos.Errno.TheVariants.{ENOEXEC}
use Rattle.posix_defs.specs.PathCalls.{program_of, first_line}
use Rattle.posix_defs.specs.DiskContents.{data_block}
use Rattle.posix_defs.specs.SoundDisk.{HasNode}
use Rattle.kabi_types.specs.declared.inodes.Inode.{Inode}
use Rattle.disk_laws.proofs.FormattedDisk.{one_inode}
use Rattle.memfs_file.specs.Ranges.{asked_to_read}
use Rattle.block_cache.specs.Blocks.{block_slot}
use Rattle.disk_layout.specs.Disk.{Disk}
use Rattle.lru_index.specs.Order.{Order}
use Rattle.cached_disk.specs.Lent.{IsCached}
use Rattle.memfs_ops.specs.FileTree.{TreeView}
use Rattle.memfs_ops.specs.Starting.{line_of, file_kind, KnowsLine, KeepsLine}

same_position : {K : Type 0} (one other : K → Bool) (P : K → Type 0) → ((x : K) → P x → one x ≡ other x) → (i : ℕ) (xs : List K) → All P xs → position_from one i xs ≡ position_from other i xs
same_position one other P same i [] all = refl
same_position one other P same i (x ∷ xs) all =
    ap (λ (b : Bool). cond b (Some i) (position_from one (i + 1) xs)) (same x (All-head P x xs all))
    ∙ ap (cond (other x) (Some i)) (same_position one other P same (i + 1) xs (All-tail P x xs all))

line_fits : (name : List ℕ) → length name ≤ 27 → length (line_of name) ≤ 30
line_fits name few =
    let end : length (name ++ codes "\n") ≡ length name + 1 = length-append name (codes "\n") in
    let whole : length (line_of name) ≡ 2 + length (name ++ codes "\n") = length-append (codes "#!") (name ++ codes "\n") in
    omega (arith, end, whole, few)

begins_alike : (bytes name : List ℕ) → length name ≤ 27 → starts_with nat_eq (take 30 bytes) (line_of name) ≡ starts_with nat_eq bytes (line_of name)
begins_alike bytes name few = ap (pointwise nat_eq (line_of name)) (take-take (length (line_of name)) 30 bytes (line_fits name few))

-- no line is longer than 30 bytes, so these tell
pub told_program : (programs : List Program) (bytes : List ℕ) → All (λ (program : Program). length program.name ≤ 27) programs → program_of programs (take 30 bytes) ≡ program_of programs bytes
told_program programs bytes names =
    ap (λ o. ok_or o ENOEXEC)
    (same_position (λ (program : Program). starts_with nat_eq (take 30 bytes) (first_line program)) (λ (program : Program). starts_with nat_eq bytes (first_line program)) (λ (program : Program). length program.name ≤ 27)
    (λ program few. begins_alike bytes program.name few) 0 programs names)

-- what was read stands in front
pub read_line : (out new front first : List ℕ) (result : ℕ) → new ≡ front ++ drop result out → front ≡ first → result ≡ length first → take result new ≡ first
read_line out new front first result is same len =
    ap (take result) (is ∙ ap (λ (bs : List ℕ). bs ++ drop result out) same) ∙ ap (λ n. take n (first ++ drop result out)) len ∙ take-append_seam first (drop result out)

-- ---- the line of a program, part by part

same_byte : (a b : ℕ) → nat_eq a b ≡ nat_eq b a
same_byte a b = elim (cases_eq a b) [
  | inl same ↦ eq-eqb a b same ∙ sym (eq-eqb b a (sym same))
  | inr other ↦ ne_eqb a b other ∙ sym (ne_eqb b a (λ same. other (sym same)))
]

and_and : (a b c : Bool) → ((a && b) && c) ≡ (a && (b && c))
and_and true b c = refl
and_and false b c = refl

begins_both : (front rest bytes : List ℕ) → starts_with nat_eq bytes (front ++ rest) ≡ (pointwise nat_eq (take (length front) bytes) front && starts_with nat_eq (drop (length front) bytes) rest)
begins_both [] rest bytes = refl
begins_both (x ∷ front) rest [] = refl
begins_both (x ∷ front) rest (y ∷ bytes) =
    ap (λ (b : Bool). b && starts_with nat_eq bytes (front ++ rest)) (same_byte x y)
    ∙ ap (λ (b : Bool). nat_eq y x && b) (begins_both front rest bytes)
    ∙ sym (and_and (nat_eq y x) (pointwise nat_eq (take (length front) bytes) front) (starts_with nat_eq (drop (length front) bytes) rest))

-- the mark is there
pub marked : (bytes name rest : List ℕ) → pointwise nat_eq (take 2 bytes) (codes "#!") ≡ true → rest ≡ drop 2 bytes → starts_with nat_eq rest (name ++ codes "\n") ≡ starts_with nat_eq bytes (line_of name)
marked bytes name rest there is = ap (λ (bs : List ℕ). starts_with nat_eq bs (name ++ codes "\n")) is ∙ sym (begins_both (codes "#!") (name ++ codes "\n") bytes ∙ ap (λ (b : Bool). b && starts_with nat_eq (drop 2 bytes) (name ++ codes "\n")) there)

-- the name is missing, or there
pub no_name : (bytes name : List ℕ) → pointwise nat_eq (take (length name) bytes) name ≡ false → false ≡ starts_with nat_eq bytes (name ++ codes "\n")
no_name bytes name none = sym (begins_both name (codes "\n") bytes ∙ ap (λ (b : Bool). b && starts_with nat_eq (drop (length name) bytes) (codes "\n")) none)

pub named : (bytes name rest : List ℕ) → pointwise nat_eq (take (length name) bytes) name ≡ true → rest ≡ drop (length name) bytes → starts_with nat_eq rest (codes "\n") ≡ starts_with nat_eq bytes (name ++ codes "\n")
named bytes name rest there is = ap (λ (bs : List ℕ). starts_with nat_eq bs (codes "\n")) is ∙ sym (begins_both name (codes "\n") bytes ∙ ap (λ (b : Bool). b && starts_with nat_eq (drop (length name) bytes) (codes "\n")) there)

-- ---- a node that is a file

pub file_tests : (dir socket fifo : Bool) → not (dir || socket || fifo) ≡ true → (dir ≡ false) × (socket ≡ false) × (fifo ≡ false)
file_tests false false false is = (refl, refl, refl)
file_tests false false true is = absurd (false≢true is)
file_tests false true fifo is = absurd (false≢true is)
file_tests true socket fifo is = absurd (false≢true is)

pub no_file : (test : Bool) → not test ≡ false → test ≡ true
no_file true is = refl
no_file false is = absurd (false≢true (sym is))

pub no_test : (test : Bool) → not test ≡ true → test ≡ false
no_test true is = absurd (false≢true is)
no_test false is = refl

-- ---- the block that a line stands in

all_cached : (was is : Order ℕ) (numbers : List ℕ) → ((number : ℕ) → block_slot is number ≡ block_slot was number) → AllByRecursion (IsCached was) numbers → AllByRecursion (IsCached is) numbers
all_cached was is [] same all = all
all_cached was is (number ∷ numbers) same all = (subst (λ (o : Option ℕ). IsSome o) (sym (same number)) all.0, all_cached was is numbers same all.1)

-- what was cached of a line is cached still, where at most the order of use is other
pub still_line : (was is : TreeView) (number : ℕ) → is.disk ≡ was.disk → ((block : ℕ) → block_slot is.blocks block ≡ block_slot was.blocks block) → KnowsLine was number → KnowsLine is number
still_line was is number disk same line inode has kind =
    subst (λ (d : Disk). AllByRecursion (IsCached is.blocks) (asked_to_read d.blocks inode 0 (min 30 inode.size))) (sym disk)
    (all_cached was.blocks is.blocks (asked_to_read was.disk.blocks inode 0 (min 30 inode.size)) same (line inode (subst (λ (d : Disk). HasNode d.blocks number inode) disk has) kind))

-- what is kept of a line, from where nothing on the disk was other
pub keeps_line : (was between is : TreeView) (number : ℕ) → between.disk.blocks ≡ was.disk.blocks → KeepsLine between is number → KeepsLine was is number
keeps_line was between is number same line inode has kind some =
    subst (λ (d : List (List ℕ)). IsCached is.blocks (data_block d inode 0)) same (line inode (subst (λ (d : List (List ℕ)). HasNode d number inode) (sym same) has) kind some)

-- the test of a file, by its inode
pub is_kind : (test : Bool) (inode : Inode) → test ≡ nat_eq inode.kind file_kind → test ≡ true → inode.kind ≡ file_kind
is_kind test inode is plain = eqb-true inode.kind file_kind (sym is ∙ plain)

-- what isn't a file by one inode isn't by another
pub other_kind : (disk : List (List ℕ)) (number : ℕ) (inode held : Inode) → HasNode disk number inode → HasNode disk number held → inode.kind ≡ file_kind → (test : Bool) → test ≡ nat_eq held.kind file_kind → test ≡ false → ⊥
other_kind disk number inode held has also kind test is other =
    let same : held ≡ inode = one_inode disk number held inode also.0 has.0 in
    let there : nat_eq held.kind file_kind ≡ true = eq-eqb held.kind file_kind (ap (λ (i : Inode). i.kind) same ∙ kind) in
    false≢true (sym other ∙ is ∙ there)
