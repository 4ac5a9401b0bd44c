use Rattle.std.proofs.Common.{arith}
use Rattle.disk_layout.proofs.EntryBytes.{name_found}
use Rattle.disk_layout.proofs.entries.name_in.Goals as goal

pub returns-clause-found : goal.returns-clause-found
returns-clause-found c =
    name_found c.args.field.now c.args.len c.split_at.result.0.now c.split_at.result.1.now c.of.result c.requires (omega arith) (omega arith) c.split_at.ensures.front c.split_at.ensures.back
    (λ k. omega (arith, c.type_inv.field k)) (c.has_no_zero_or_slash.ensures.0 c.if-not-has_no_zero_or_slash.false) (c.all_zero.ensures.0 c.if-not-all_zero.false) c.of.ensures.same
