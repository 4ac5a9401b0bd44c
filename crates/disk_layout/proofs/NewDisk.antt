-- The blocks of a new disk.
use Rattle.std.proofs.Common.{◌≡◌, ℕ, ◌+◌, ◌-◌, ◌<◌, ◌≤◌, List, [], ◌++◌, length, get_or, drop, set, replicate, refl, sym, ap, ◌∙◌, arith}
use Rattle.std.proofs.lemmas.List.{length-replicate, get_or-replicate, drop-replicate, length-set, get_or-set_same, get_or-set_other}
use Rattle.posix_defs.specs.DiskFormat.{table_end, inode_bytes, entry_bytes}
use Rattle.posix_defs.specs.DiskContents.{zeros, first_marked, new_root, entry_for, own_name, parent_name, new_entries, IsFormatted}

pub length-zeros : (n : ℕ) → length (zeros n) ≡ n
unfolding zeros
length-zeros n = length-replicate n 0

pub drop-zeros : (m n : ℕ) → drop m (zeros n) ≡ zeros (n - m)
unfolding zeros
drop-zeros m n = drop-replicate m n 0

pub length-own_entry : length (entry_bytes (entry_for 1 own_name)) ≡ 32
unfolding entry_bytes
length-own_entry = refl

pub length-parent_entry : length (entry_bytes (entry_for 1 parent_name)) ≡ 32
unfolding entry_bytes
length-parent_entry = refl

pub length-new_root : (blocks : ℕ) → length (inode_bytes (new_root blocks)) ≡ 64
unfolding inode_bytes
length-new_root blocks = refl

pub is_formatted : (blocks first size : ℕ) (start disk : List (List ℕ)) (zero map table entries : List ℕ) → 16 ≤ blocks → size ≡ 1024 → first ≡ table_end blocks + 1 → start ≡ replicate blocks zero → zero ≡ zeros size
    → disk ≡ set (set (set start 0 map) 1 table) first entries → length map ≡ size → ((place : ℕ) → place < size → get_or map place 0 ≡ first_marked (first + 1) place)
    → table ≡ inode_bytes (new_root blocks) ++ zeros (size - 64) → entries ≡ new_entries ++ zeros (size - 64) → IsFormatted blocks disk
is_formatted blocks first size start disk zero map table entries enough kilo is_first is_start is_zero is_disk map_len map_bytes is_table is_entries =
    let after_map : List (List ℕ) = set start 0 map in
    let after_table : List (List ℕ) = set after_map 1 table in
    let len0 : length start ≡ blocks = ap length is_start ∙ length-replicate blocks zero in
    let len1 : length after_map ≡ blocks = length-set start 0 map ∙ len0 in
    let len2 : length after_table ≡ blocks = length-set after_map 1 table ∙ len1 in
    let len3 : length disk ≡ blocks = ap length is_disk ∙ length-set after_table first entries ∙ len2 in
    let at0 : get_or disk 0 [] ≡ map = ap (λ (x : List (List ℕ)). get_or x 0 []) is_disk ∙ get_or-set_other after_table first 0 entries [] (omega (arith, is_first)) ∙ get_or-set_other after_map 1 0 table [] (omega arith) ∙ get_or-set_same start 0 map [] (omega (arith, len0)) in
    let at1 : get_or disk 1 [] ≡ table = ap (λ (x : List (List ℕ)). get_or x 1 []) is_disk ∙ get_or-set_other after_table first 1 entries [] (omega (arith, is_first)) ∙ get_or-set_same after_map 1 table [] (omega (arith, len1)) in
    let atf : get_or disk first [] ≡ entries = ap (λ (x : List (List ℕ)). get_or x first []) is_disk ∙ get_or-set_same after_table first entries [] (omega (arith, len2, is_first)) in
    record {
      count = len3;
      map_len = ap length at0 ∙ map_len ∙ kilo;
      map = λ place lt. ap (λ (x : List ℕ). get_or x place 0) at0 ∙ map_bytes place (omega (arith, lt, kilo)) ∙ ap (λ (n : ℕ). first_marked n place) (omega (arith, is_first));
      table = at1 ∙ is_table ∙ ap (λ (n : ℕ). inode_bytes (new_root blocks) ++ zeros (n - 64)) kilo;
      entries = ap (λ (n : ℕ). get_or disk n []) (sym is_first) ∙ atf ∙ is_entries ∙ ap (λ (n : ℕ). new_entries ++ zeros (n - 64)) kilo;
      others = λ number above other below.
          ap (λ (x : List (List ℕ)). get_or x number []) is_disk ∙ get_or-set_other after_table first number entries [] (λ e. other (e ∙ is_first)) ∙ get_or-set_other after_map 1 number table [] (omega (arith, above))
          ∙ get_or-set_other start 0 number map [] (omega (arith, above)) ∙ ap (λ (x : List (List ℕ)). get_or x number []) is_start ∙ get_or-replicate blocks number zero [] below ∙ is_zero ∙ ap zeros kilo;
    }
