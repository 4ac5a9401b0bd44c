use Rattle.std.proofs.Common.{refl}
use Rattle.script_parse.proofs.AsciiTexts.{ascii_reads}
use Rattle.script_parse.proofs.laws.worked_texts_read.Goals as goal

pub returns-clause-nothing : goal.returns-clause-nothing
returns-clause-nothing c = ascii_reads _ _ refl refl refl

pub returns-clause-first : goal.returns-clause-first
returns-clause-first c = ascii_reads _ _ refl refl refl

pub returns-clause-unknown : goal.returns-clause-unknown
returns-clause-unknown c = ascii_reads _ _ refl refl refl

pub returns-clause-socket : goal.returns-clause-socket
returns-clause-socket c = ascii_reads _ _ refl refl refl

pub returns-clause-unended : goal.returns-clause-unended
returns-clause-unended c = ascii_reads _ _ refl refl refl
