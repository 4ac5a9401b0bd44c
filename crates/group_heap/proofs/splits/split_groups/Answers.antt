use Rattle.std.proofs.Common.{List, Ok, Err, subst, arith}
use Rattle.std.proofs.lemmas.Result.{err_from_is_err_and}
use Rattle.group_heap.specs.declared.lists.Section.{Section}
use Rattle.group_heap.specs.Outcomes.{Outcome}
use Rattle.group_heap.specs.Texts.{ReadsSections, lines_of}
use Rattle.group_heap.specs.Texts as spec
use Rattle.group_heap.proofs.Reading.{front_wrong, groups_read, sections_wrong}
use Rattle.group_heap.proofs.ValidSections.{groups_valid, whole_within}
use Rattle.group_heap.proofs.splits.split_groups.Goals as goal

pub returns-then-text-gt-MOST_BYTES-clause-reads : goal.returns-then-text-gt-MOST_BYTES-clause-reads
returns-then-text-gt-MOST_BYTES-clause-reads c = let long = c.if-text-gt-MOST_BYTES.true in spec.ReadsGroups.too_long (omega (arith, long))

pub returns-in_err-whole-clause-reads : goal.returns-in_err-whole-clause-reads
returns-in_err-whole-clause-reads c =
    let p = err_from_is_err_and c.from_residual.result c.from_residual.ensures.1 in
    let short = c.if-text-gt-MOST_BYTES.false in
    rw (p.1, p.2) (front_wrong c.args.text.now c.in_err-whole.field-0.0 (omega (arith, short)) c.in_err-whole.ensures)

pub returns-in_err-read_sections-clause-reads : goal.returns-in_err-read_sections-clause-reads
returns-in_err-read_sections-clause-reads c =
    let p = err_from_is_err_and c.from_residual-in_err-read_sections.result c.from_residual-in_err-read_sections.ensures.1 in
    let short = c.if-text-gt-MOST_BYTES.false in
    let none = c.new-sections.ensures.items in
    rw (p.1, p.2) (sections_wrong c.args.text.now c.in_ok-whole.whole c.in_ok-whole.line c.in_ok-whole.rest.now (λ (u : Unit {0}). c.read_sections.new.sections.items) c.in_err-read_sections.field-0.0 (omega (arith, short)) c.in_ok-whole.ensures
    (subst (λ before. Outcome {X = Unit {0}} {Y = List Section} (λ u. c.read_sections.new.sections.items) (Err c.in_err-read_sections.field-0.0) (ReadsSections before c.in_ok-whole.line (lines_of c.in_ok-whole.rest.now))) none c.in_err-read_sections.ensures.reads))

read_so : goal.returns-clause-reads
read_so c =
    let short = c.if-text-gt-MOST_BYTES.false in
    groups_read c.args.text.now c.in_ok-whole.whole c.in_ok-whole.line c.in_ok-whole.rest.now c.read_sections.new.sections.items (omega (arith, short)) c.in_ok-whole.ensures
    (subst (λ before. ReadsSections before c.in_ok-whole.line (lines_of c.in_ok-whole.rest.now) (Ok c.read_sections.new.sections.items)) c.new-sections.ensures.items c.in_ok-read_sections.ensures.reads)

pub returns-clause-reads : goal.returns-clause-reads
returns-clause-reads c = read_so c

pub returns-clause-whole : goal.returns-clause-whole
returns-clause-whole c = whole_within c.args.text.now _ (read_so c)

pub returns-clause-valid : goal.returns-clause-valid
returns-clause-valid c = groups_valid c.args.text.now _ (read_so c)
