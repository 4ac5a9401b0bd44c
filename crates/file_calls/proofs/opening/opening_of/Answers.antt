use Rattle.std.proofs.Common.{ap, sym, ◌∙◌}
use Rattle.proc_table.specs.Opening.{opening_of}
use Rattle.file_calls.proofs.opening.opening_of.Goals as goal

pub at-requires-clause-stored : goal.at-requires-clause-stored
at-requires-clause-stored c = c.requires.stands.2.kept.holds.stored

pub returns : goal.returns
returns c = λ script world stands. sym (stands.files.opened.descriptors.openings.each c.args.place.pid ∙ ap opening_of c.at.ensures.found)
