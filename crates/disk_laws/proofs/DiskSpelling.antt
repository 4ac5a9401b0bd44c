-- An inode is spelled in one way, and in 64 bytes; the same of an entry, in 32.
use Rattle.std.proofs.Common.{◌≡◌, ℕ, suc, ◌+◌, ◌-◌, ◌*◌, ◌^◌, ◌<◌, List, [], ◌∷◌, ◌++◌, length, get_or, take, drop, replicate, refl, sym, ap, ◌∙◌, arith}
use Rattle.std.specs.Int.{w16, w32, to_be_bytes, from_be_bytes}
use Rattle.std.specs.List.{flat_map}
use Rattle.std.proofs.lemmas.List.{take_at, drop_at, length-append, length-replicate}
use Rattle.std.proofs.lemmas.List.Concat.{flat_map-cons}
use Rattle.std.proofs.lemmas.Nat.{from_be_bytes-to_be_bytes_2, from_be_bytes-to_be_bytes_4}
use Rattle.kabi_types.specs.declared.inodes.Inode.{Inode}
use Rattle.kabi_types.specs.declared.inodes.DirEntry.{DirEntry}
use Rattle.posix_defs.specs.DiskFormat.{Fits, IsEntry, inode_bytes, entry_bytes}

-- the bytes of numbers
abbrev pub words : List ℕ → List ℕ
words numbers = flat_map (to_be_bytes w32) numbers

-- equal rows with fronts of one length are equal piece by piece
pub split_same : (a b c d : List ℕ) → length a ≡ length b → a ++ c ≡ b ++ d → (a ≡ b) × (c ≡ d)
split_same a b c d len e =
    (sym (take_at a c (length a) refl) ∙ ap (take (length a)) e ∙ take_at b d (length a) (sym len), sym (drop_at a c (length a) refl) ∙ ap (drop (length a)) e ∙ drop_at b d (length a) (sym len))

pub same_2 : (m n : ℕ) → m < 2 ^ 16 → n < 2 ^ 16 → to_be_bytes w16 m ≡ to_be_bytes w16 n → m ≡ n
same_2 m n hm hn e = sym (from_be_bytes-to_be_bytes_2 m hm) ∙ ap (from_be_bytes w16) e ∙ from_be_bytes-to_be_bytes_2 n hn

pub same_4 : (m n : ℕ) → m < 2 ^ 32 → n < 2 ^ 32 → to_be_bytes w32 m ≡ to_be_bytes w32 n → m ≡ n
same_4 m n hm hn e = sym (from_be_bytes-to_be_bytes_4 m hm) ∙ ap (from_be_bytes w32) e ∙ from_be_bytes-to_be_bytes_4 n hn

pub length-words : (ns : List ℕ) → length (words ns) ≡ 4 * length ns
length-words [] = refl
length-words (n ∷ ns) = ap length (flat_map-cons (to_be_bytes w32) n ns) ∙ omega (arith, length-words ns, length-append (to_be_bytes w32 n) (words ns))

pub same_words : (ms ns : List ℕ) → length ms ≡ length ns → ((k : ℕ) → get_or ms k 0 < 2 ^ 32) → ((k : ℕ) → get_or ns k 0 < 2 ^ 32) → words ms ≡ words ns → ms ≡ ns
same_words [] [] len hm hn e = refl
same_words [] (n ∷ ns) len hm hn e = absurd (omega (arith, len))
same_words (m ∷ ms) [] len hm hn e = absurd (omega (arith, len))
same_words (m ∷ ms) (n ∷ ns) len hm hn e =
    let joined : to_be_bytes w32 m ++ words ms ≡ to_be_bytes w32 n ++ words ns = sym (flat_map-cons (to_be_bytes w32) m ms) ∙ e ∙ flat_map-cons (to_be_bytes w32) n ns in
    let parts = split_same (to_be_bytes w32 m) (to_be_bytes w32 n) (words ms) (words ns) refl joined in
    let first : m ≡ n = same_4 m n (hm 0) (hn 0) parts.0 in
    let others : ms ≡ ns = same_words ms ns (omega (arith, len)) (λ k. hm (suc k)) (λ k. hn (suc k)) parts.1 in
    ap (λ (k : ℕ). k ∷ ms) first ∙ ap (λ (ks : List ℕ). n ∷ ks) others

made : ℕ → ℕ → ℕ → List ℕ → ℕ → ℕ → Inode
made kind nlink size direct indirect double = record { kind = kind; nlink = nlink; size = size; direct = direct; indirect = indirect; double = double }

pub same_inode : (i j : Inode) → Fits i → Fits j → inode_bytes i ≡ inode_bytes j → i ≡ j
unfolding inode_bytes made
same_inode i j fi fj e =
    let zeros : List ℕ = replicate 8 0 in
    let last : Inode → List ℕ = λ n. to_be_bytes w32 n.double ++ zeros in
    let tail : Inode → List ℕ = λ n. to_be_bytes w32 n.indirect ++ last n in
    let p1 = split_same (i.kind ∷ 0 ∷ []) (j.kind ∷ 0 ∷ []) (to_be_bytes w16 i.nlink ++ (to_be_bytes w32 i.size ++ (words i.direct ++ tail i))) (to_be_bytes w16 j.nlink ++ (to_be_bytes w32 j.size ++ (words j.direct ++ tail j))) refl e in
    let p2 = split_same (to_be_bytes w16 i.nlink) (to_be_bytes w16 j.nlink) (to_be_bytes w32 i.size ++ (words i.direct ++ tail i)) (to_be_bytes w32 j.size ++ (words j.direct ++ tail j)) refl p1.1 in
    let p3 = split_same (to_be_bytes w32 i.size) (to_be_bytes w32 j.size) (words i.direct ++ tail i) (words j.direct ++ tail j) refl p2.1 in
    let len : length i.direct ≡ length j.direct = fi.count ∙ sym fj.count in
    let p4 = split_same (words i.direct) (words j.direct) (tail i) (tail j) (length-words i.direct ∙ ap (λ (n : ℕ). 4 * n) len ∙ sym (length-words j.direct)) p3.1 in
    let p5 = split_same (to_be_bytes w32 i.indirect) (to_be_bytes w32 j.indirect) (last i) (last j) refl p4.1 in
    let p6 = split_same (to_be_bytes w32 i.double) (to_be_bytes w32 j.double) zeros zeros refl p5.1 in
    let kind : i.kind ≡ j.kind = ap (λ (xs : List ℕ). get_or xs 0 0) p1.0 in
    let nlink : i.nlink ≡ j.nlink = same_2 i.nlink j.nlink fi.nlink fj.nlink p2.0 in
    let size : i.size ≡ j.size = same_4 i.size j.size fi.size fj.size p3.0 in
    let direct : i.direct ≡ j.direct = same_words i.direct j.direct len fi.direct fj.direct p4.0 in
    let indirect : i.indirect ≡ j.indirect = same_4 i.indirect j.indirect fi.indirect fj.indirect p5.0 in
    let double : i.double ≡ j.double = same_4 i.double j.double fi.double fj.double p6.0 in
    ap (λ (x : ℕ). made x i.nlink i.size i.direct i.indirect i.double) kind ∙ ap (λ (x : ℕ). made j.kind x i.size i.direct i.indirect i.double) nlink
    ∙ ap (λ (x : ℕ). made j.kind j.nlink x i.direct i.indirect i.double) size ∙ ap (λ (x : List ℕ). made j.kind j.nlink j.size x i.indirect i.double) direct
    ∙ ap (λ (x : ℕ). made j.kind j.nlink j.size j.direct x i.double) indirect ∙ ap (λ (x : ℕ). made j.kind j.nlink j.size j.direct j.indirect x) double

pub length-inode_bytes : (i : Inode) → Fits i → length (inode_bytes i) ≡ 64
unfolding inode_bytes
length-inode_bytes i fits =
    let rest : List ℕ = to_be_bytes w32 i.indirect ++ (to_be_bytes w32 i.double ++ replicate 8 0) in
    let many : length (words i.direct ++ rest) ≡ 56 = length-append (words i.direct) rest ∙ ap (λ (n : ℕ). n + 16) (length-words i.direct ∙ ap (λ (n : ℕ). 4 * n) fits.count) in
    omega (arith, many)

pub length-entry_bytes : (e : DirEntry) → IsEntry e → length (entry_bytes e) ≡ 32
unfolding entry_bytes
length-entry_bytes e is =
    let zeros : List ℕ = replicate (27 - length e.name) 0 in
    let many : length (e.name ++ zeros) ≡ 27 = omega (arith, length-append e.name zeros, length-replicate {A = ℕ} (27 - length e.name) 0, is.name.len.1) in
    omega (arith, many)

made_entry : ℕ → List ℕ → DirEntry
made_entry node name = record { node = node; name = name }

pub same_entry_bytes : (e f : DirEntry) → IsEntry e → IsEntry f → entry_bytes e ≡ entry_bytes f → e ≡ f
unfolding entry_bytes made_entry
same_entry_bytes e f is_e is_f same =
    let zeros : DirEntry → List ℕ = λ x. replicate (27 - length x.name) 0 in
    let p1 = split_same (to_be_bytes w32 e.node) (to_be_bytes w32 f.node) (length e.name ∷ (e.name ++ zeros e)) (length f.name ∷ (f.name ++ zeros f)) refl same in
    let len : length e.name ≡ length f.name = ap (λ (xs : List ℕ). get_or xs 0 0) p1.1 in
    let rest : e.name ++ zeros e ≡ f.name ++ zeros f = ap (drop 1) p1.1 in
    let name : e.name ≡ f.name = (split_same e.name f.name (zeros e) (zeros f) len rest).0 in
    let node : e.node ≡ f.node = same_4 e.node f.node is_e.node.1 is_f.node.1 p1.0 in
    ap (λ (n : ℕ). made_entry n e.name) node ∙ ap (λ (n : List ℕ). made_entry f.node n) name
