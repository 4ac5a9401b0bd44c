use Rattle.std.proofs.Common.{◌≡◌, ◌≢◌, ℕ, ◌<◌, List, length, set, sym, ap, ◌∙◌, arith}
use Rattle.std.proofs.lemmas.List.{get_or-set_same, get_or-set_other, length-set}
use Rattle.posix_defs.specs.SoundDisk.{block_bytes, pointer_at}
use Rattle.blk_map.proofs.Blocks.{got, written_is}
use Rattle.blk_map.proofs.pointing.set_pointer.Goals as goal

pub returns-clause-this : goal.returns-clause-this
returns-clause-this g c =
    let here = written_is (g.B.Blocks.blocks c.args.b.now) (g.B.Blocks.blocks c.get.new.self) (g.B.Blocks.blocks c.set.new.self) c.args.number c.block_of_pointers.result c.requires.on_disk c.get.ensures.kept c.set.ensures.after in
    let long : length c.pointers_in-pointers.result ≡ 256 = omega arith in
    ap (λ (bytes : List ℕ). pointer_at bytes c.args.place) here ∙ c.block_of_pointers.ensures c.args.place c.requires.place
    ∙ get_or-set_same c.pointers_in-pointers.result c.args.place c.args.block 0 (omega (arith, long, c.requires.place))

pub returns-clause-rest : goal.returns-clause-rest
returns-clause-rest g c = λ other within apart.
    let before : List (List ℕ) = g.B.Blocks.blocks c.args.b.now in
    let here = written_is before (g.B.Blocks.blocks c.get.new.self) (g.B.Blocks.blocks c.set.new.self) c.args.number c.block_of_pointers.result c.requires.on_disk c.get.ensures.kept c.set.ensures.after in
    ap (λ (bytes : List ℕ). pointer_at bytes other) here ∙ c.block_of_pointers.ensures other within ∙ get_or-set_other c.pointers_in-pointers.result c.args.place other c.args.block 0 apart
    ∙ c.pointers_in-pointers.ensures other within ∙ ap (λ (bytes : List ℕ). pointer_at bytes other) (sym (got before c.args.number c.get.result c.get.ensures.value))

pub returns-clause-others : goal.returns-clause-others
returns-clause-others g c = λ other apart.
    ap (λ (disk : List (List ℕ)). block_bytes disk other) (c.set.ensures.after ∙ ap (λ (disk : List (List ℕ)). set disk c.args.number c.block_of_pointers.result) c.get.ensures.kept)
    ∙ get_or-set_other {A = List ℕ} (g.B.Blocks.blocks c.args.b.now) c.args.number other c.block_of_pointers.result _ apart
