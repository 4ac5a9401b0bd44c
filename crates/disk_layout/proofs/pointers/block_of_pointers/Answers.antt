use Rattle.std.proofs.Common.{ℕ, List, ◌+◌, ◌*◌, length, get_or, take, drop, replicate, ap, ◌∙◌, arith}
use Rattle.std.specs.Int.{w32, from_be_bytes}
use Rattle.std.proofs.lemmas.Nat.{from_be_bytes-to_be_bytes_4}
use Rattle.disk_layout.proofs.WordBytes.{nth_word}
use Rattle.disk_layout.proofs.pointers.block_of_pointers.Goals as goal

pub returns : goal.returns
returns c = λ place lt.
    let rest : List ℕ = drop (0 + 4 * length c.args.pointers.now) (replicate 1024 0) in
    ap (λ (bytes : List ℕ). from_be_bytes w32 (take 4 (drop (4 * place) bytes))) c.put_words.ensures
    ∙ ap (from_be_bytes w32) (nth_word c.args.pointers.now rest place (omega (arith, lt, c.told-pointers)))
    ∙ from_be_bytes-to_be_bytes_4 (get_or c.args.pointers.now place 0) (c.fits-pointers place)
