use Rattle.std.proofs.Common.{◌≡◌, ◌∙◌, arith}
use Rattle.disk_laws.proofs.DiskSpelling.{same_4}
use Rattle.disk_layout.proofs.EntryBytes.{entry_found, entry_fields, same_answer}
use Rattle.disk_layout.proofs.entries.entry_of.Goals as goal

pub returns-then-node-eq0-clause-only : goal.returns-then-node-eq0-clause-only
returns-then-node-eq0-clause-only c = λ entry is e.
    let f = entry_fields c.args.bytes.now entry is e in
    let same : c.word_at-node.result ≡ entry.node = same_4 c.word_at-node.result entry.node (omega arith) is.node.1 (c.word_at-node.ensures ∙ f.0) in
    absurd (omega (arith, same, is.node.0))

pub returns-in_default-clause-only : goal.returns-in_default-clause-only
returns-in_default-clause-only c = λ entry is e.
    let f = entry_fields c.args.bytes.now entry is e in
    let found = c.in_default.ensures.only entry.name is.name f.1 f.2 in
    absurd cc

pub returns-clause-found : goal.returns-clause-found
returns-clause-found c =
    let n = c.in-Some.ensures.found in
    (record { node = (omega arith, omega arith); name = n.0 }, entry_found c.args.bytes.now c.word_at-node.result c.in-Some.name (omega arith) c.word_at-node.ensures n.1 n.2)

pub returns-clause-only : goal.returns-clause-only
returns-clause-only c = λ entry is e.
    let f = entry_fields c.args.bytes.now entry is e in
    let node : c.word_at-node.result ≡ entry.node = same_4 c.word_at-node.result entry.node (omega arith) is.node.1 (c.word_at-node.ensures ∙ f.0) in
    let some = c.in-Some.ensures.only entry.name is.name f.1 f.2 in
    let name : c.in-Some.name ≡ entry.name = cc in
    same_answer c.word_at-node.result c.in-Some.name entry node name
