use Rattle.std.proofs.Common.{◌≡◌, ℕ, List, [], ◌∷◌, ◌++◌, ◌+◌, ◌-◌, length, drop, set, replicate, refl, ap, subst, ◌∙◌, append_assoc, arith}
use Rattle.std.specs.Int.{w32, to_be_bytes}
use Rattle.std.proofs.lemmas.List.{drop-replicate}
use Rattle.posix_defs.specs.DiskFormat.{entry_bytes}
use Rattle.disk_layout.proofs.WordBytes.{put_on}
use Rattle.disk_layout.proofs.entries.bytes_of_entry.Goals as goal

zeros_behind : (len : ℕ) → drop {A = ℕ} (5 + len) (replicate 32 0) ≡ replicate (27 - len) 0
zeros_behind len = let left : 32 - (5 + len) ≡ 27 - len = omega arith in drop-replicate (5 + len) 32 0 ∙ ap (λ (n : ℕ). replicate n 0) left

pub returns : goal.returns
unfolding entry_bytes
returns c =
    let e = c.args.entry.now in
    let name : List ℕ = c.items-name.result.now in
    let zeros : List ℕ = replicate 32 0 in
    let node : List ℕ = to_be_bytes w32 e.node in
    let len : List ℕ = node ++ length name ∷ [] in
    let a : c.put.new.out ≡ node ++ drop 4 zeros = put_on [] zeros node zeros c.put.new.out 0 4 refl refl refl (rw c.to_be_bytes.ensures at c.put.ensures) in
    let b : set c.put.new.out 4 (length name) ≡ len ++ drop 5 zeros = ap (λ (x : List ℕ). set x 4 (length name)) a in
    let d : c.put-2.new.out ≡ (len ++ name) ++ drop (5 + length name) zeros = put_on len zeros name (set c.put.new.out 4 (length name)) c.put-2.new.out 5 (length name) refl refl b c.put-2.ensures in
    let behind : drop (5 + length name) zeros ≡ replicate (27 - length name) 0 = zeros_behind (length name) in
    let whole : c.put-2.new.out ≡ node ++ (length name ∷ (name ++ replicate (27 - length name) 0)) = d ∙ append_assoc len name (drop (5 + length name) zeros) ∙ ap (λ (x : List ℕ). len ++ (name ++ x)) behind in
    subst (λ (n : List ℕ). c.put-2.new.out ≡ node ++ (length n ∷ (n ++ replicate (27 - length n) 0))) c.items-name.ensures.same whole
