use Rattle.std.proofs.Common.{◌≡◌, ℕ, List, [], ◌∷◌, ◌++◌, length, drop, replicate, refl, ap, ◌∙◌, ◌+◌, ◌*◌, append_assoc, rules}
use Rattle.std.proofs.lemmas.List.{length-append}
use Rattle.std.specs.Int.{w16, w32, to_be_bytes}
use Rattle.posix_defs.specs.DiskFormat.{inode_bytes}
use Rattle.disk_laws.proofs.DiskSpelling.{words, length-words}
use Rattle.disk_layout.proofs.WordBytes.{put_on}
use Rattle.disk_layout.proofs.inodes.bytes_of.Goals as goal

pub returns : goal.returns
unfolding inode_bytes
returns c =
    let i = c.args.inode.now in
    let zeros : List ℕ = replicate 64 0 in
    let kind : List ℕ = i.kind ∷ 0 ∷ [] in
    let nlink : List ℕ = kind ++ to_be_bytes w16 i.nlink in
    let size : List ℕ = nlink ++ to_be_bytes w32 i.size in
    let direct : List ℕ = size ++ words i.direct in
    let a : c.put.new.out ≡ nlink ++ drop 4 zeros = put_on kind zeros (to_be_bytes w16 i.nlink) (i.kind ∷ replicate 63 0) c.put.new.out 2 2 refl refl refl (rw c.to_be_bytes.ensures at c.put.ensures) in
    let b : c.put-2.new.out ≡ size ++ drop 8 zeros = put_on nlink zeros (to_be_bytes w32 i.size) c.put.new.out c.put-2.new.out 4 4 refl refl a (rw c.to_be_bytes-2.ensures at c.put-2.ensures) in
    let len : length size ≡ 8 = refl in
    let many : length (words i.direct) ≡ 4 * length i.direct = length-words i.direct in
    let d : c.put_words.new.out ≡ direct ++ drop (8 + 4 * length i.direct) zeros = put_on size zeros (words i.direct) c.put-2.new.out c.put_words.new.out 8 (4 * length i.direct) refl many b c.put_words.ensures in
    let ten : length i.direct ≡ 10 = search rules in
    let d48 : c.put_words.new.out ≡ direct ++ drop 48 zeros = d ∙ ap (λ (n : ℕ). direct ++ drop (8 + 4 * n) zeros) ten in
    let full : length direct ≡ 48 = length-append size (words i.direct) ∙ ap (λ (n : ℕ). 8 + n) many ∙ ap (λ (n : ℕ). 8 + 4 * n) ten in
    let e : c.put-3.new.out ≡ (direct ++ to_be_bytes w32 i.indirect) ++ drop 52 zeros = put_on direct zeros (to_be_bytes w32 i.indirect) c.put_words.new.out c.put-3.new.out 48 4 full refl d48 (rw c.to_be_bytes-3.ensures at c.put-3.ensures) in
    let indirect : List ℕ = direct ++ to_be_bytes w32 i.indirect in
    let longer : length indirect ≡ 52 = length-append direct (to_be_bytes w32 i.indirect) ∙ ap (λ (n : ℕ). n + 4) full in
    let last : List ℕ = to_be_bytes w32 i.double ++ replicate 8 0 in
    let f : c.put-4.new.out ≡ (indirect ++ to_be_bytes w32 i.double) ++ drop 56 zeros = put_on indirect zeros (to_be_bytes w32 i.double) c.put-3.new.out c.put-4.new.out 52 4 longer refl e (rw c.to_be_bytes-4.ensures at c.put-4.ensures) in
    f ∙ append_assoc indirect (to_be_bytes w32 i.double) (replicate 8 0) ∙ append_assoc direct (to_be_bytes w32 i.indirect) last ∙ append_assoc size (words i.direct) (to_be_bytes w32 i.indirect ++ last)
