use Rattle.sizing_laws.proofs.Runs.{none_killed}
use Rattle.sizing_laws.proofs.sizes.nobody_is_killed_where_all_fit.Goals as goal

pub returns-clause-chosen : goal.returns-clause-chosen
returns-clause-chosen c = λ script steps run s r within. none_killed r within

pub returns-clause-anyhow : goal.returns-clause-anyhow
returns-clause-anyhow c = λ script steps run s r within. none_killed r within
