use Rattle.std.proofs.Common.{◌++◌, List, ℕ, nat_eq, ap, ◌∙◌}
use Rattle.std.specs.Prelude.{codes}
use Rattle.std.specs.List.{starts_with}
use Rattle.memfs_ops.proofs.ProgramLemmas.{marked, named, no_name}
use Rattle.memfs_ops.proofs.starting.begins_with_line.Goals as goal

pub returns-in-Some-strip_prefix : goal.returns-in-Some-strip_prefix
returns-in-Some-strip_prefix c =
    let first = c.in-Some.ensures.cases in
    let second = c.in-Some-strip_prefix.ensures.cases in
    c.starts_with.ensures.value
    ∙ named c.in-Some.marked.now c.items.result.now c.in-Some-strip_prefix.named.now second.0 second.1
    ∙ ap (λ (name : List ℕ). starts_with nat_eq c.in-Some.marked.now (name ++ codes "\n")) c.items.ensures.same
    ∙ marked c.args.bytes.now c.args.name.now c.in-Some.marked.now first.0 first.1

pub returns-in-None : goal.returns-in-None
returns-in-None c =
    let first = c.in-Some.ensures.cases in
    no_name c.in-Some.marked.now c.items.result.now c.in-None.ensures.cases
    ∙ ap (λ (name : List ℕ). starts_with nat_eq c.in-Some.marked.now (name ++ codes "\n")) c.items.ensures.same
    ∙ marked c.args.bytes.now c.args.name.now c.in-Some.marked.now first.0 first.1
