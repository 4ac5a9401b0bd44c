use Rattle.std.proofs.Common.{◌≡◌, ◌*◌, ◌≤◌, ℕ, max, true, false, sym, ap, ◌∙◌, subst}
use Rattle.kabi_types.specs.Call.{kind_of}
use Rattle.kabi_types.specs.Class.{size}
use Rattle.kabi_types.specs.Counts.{need_bytes}
use Rattle.kabi_types.specs.declared.classes.Class.TheVariants.{Block, Chunk}
use Rattle.kabi_types.specs.declared.classes.Need.{Need}
use Rattle.posix_defs.specs.Needs.{bound, is_write}
use Rattle.posix_defs.proofs.PriceLemmas.{greater, most_of_right, sums}
use Rattle.need_table.proofs.bounds.bound.Goals as goal

-- the blocks or the chunks of a need, whichever take more
abbrev greater_part : Need → ℕ
greater_part need = max (need.block * size Block) (need.chunk * size Chunk)

pub returns-then-is_write-clause-value : goal.returns-then-is_write-clause-value
returns-then-is_write-clause-value c =
    let writes : is_write (kind_of c.args.call.now) ≡ true = sym (c.is_write.ensures ∙ ap is_write c.kind.ensures) ∙ c.if-is_write.true in
    c.greater_part.ensures ∙ ap greater_part c.need-need.ensures.objects ∙ sym (greater c.args.call.now writes)

pub returns-then-is_write-clause-most : goal.returns-then-is_write-clause-most
returns-then-is_write-clause-most c =
    let value : c.greater_part.result ≡ bound c.args.call.now = returns-then-is_write-clause-value c in
    subst (λ n. n ≤ 39040) (sym value) (most_of_right c.args.call.now c.need-need.ensures.stored)

pub returns-else-is_write-clause-value : goal.returns-else-is_write-clause-value
returns-else-is_write-clause-value c =
    let reads : is_write (kind_of c.args.call.now) ≡ false = sym (c.is_write.ensures ∙ ap is_write c.kind.ensures) ∙ c.if-is_write.false in
    c.total.ensures ∙ ap need_bytes c.need-need.ensures.objects ∙ sym (sums c.args.call.now reads)

pub returns-else-is_write-clause-most : goal.returns-else-is_write-clause-most
returns-else-is_write-clause-most c =
    let value : c.total.result ≡ bound c.args.call.now = returns-else-is_write-clause-value c in
    subst (λ n. n ≤ 39040) (sym value) (most_of_right c.args.call.now c.need-need.ensures.stored)
