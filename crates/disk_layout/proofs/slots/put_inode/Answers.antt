use Rattle.std.proofs.Common.{◌≡◌, ℕ, List, ◌+◌, ◌*◌, ◌++◌, ◌≤◌, ◌⊎◌, inl, inr, length, take, drop, ap, ◌∙◌, arith}
use Rattle.std.proofs.lemmas.Bool.{cases_lt}
use Rattle.disk_layout.proofs.WordBytes.{put_there, other_piece}
use Rattle.disk_layout.proofs.slots.put_inode.Goals as goal

abbrev after_put : List ℕ → List ℕ → ℕ → ℕ → List ℕ
after_put old bytes at len = take at old ++ (bytes ++ drop (at + len) old)

pub returns-clause-this : goal.returns-clause-this
returns-clause-this c =
    let len : length c.bytes_of.result ≡ 64 = omega arith in
    let at : ℕ = 64 * c.args.slot in
    let put : c.put.new.out ≡ after_put c.args.block.now c.bytes_of.result at 64 = c.put.ensures ∙ ap (after_put c.args.block.now c.bytes_of.result at) len in
    ap (λ (bytes : List ℕ). take 64 (drop at bytes)) put ∙ put_there c.args.block.now c.bytes_of.result at 64 len (omega (arith, c.requires)) ∙ c.bytes_of.ensures

pub returns-clause-others : goal.returns-clause-others
returns-clause-others c = λ other apart.
    let len : length c.bytes_of.result ≡ 64 = omega arith in
    let at : ℕ = 64 * c.args.slot in
    let put : c.put.new.out ≡ after_put c.args.block.now c.bytes_of.result at 64 = c.put.ensures ∙ ap (after_put c.args.block.now c.bytes_of.result at) len in
    let aside : (64 * other + 64 ≤ at) ⊎ (at + 64 ≤ 64 * other) = elim (cases_lt other c.args.slot) [ inl before ↦ inl (omega (arith, before)) | inr behind ↦ inr (omega (arith, behind, apart)) ] in
    ap (λ (bytes : List ℕ). take 64 (drop (64 * other) bytes)) put ∙ other_piece c.args.block.now c.bytes_of.result at (64 * other) 64 len aside (omega (arith, c.requires))
