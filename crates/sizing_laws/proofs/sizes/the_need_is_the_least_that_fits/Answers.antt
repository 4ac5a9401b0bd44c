use Rattle.sizing_laws.proofs.Runs.{fits_with, needs_no_more}
use Rattle.sizing_laws.proofs.sizes.the_need_is_the_least_that_fits.Goals as goal

pub returns-clause-fits : goal.returns-clause-fits
returns-clause-fits c = λ script heap steps run s r within. fits_with heap r within

pub returns-clause-least : goal.returns-clause-least
returns-clause-least c = λ script heap steps run s r enough fit. needs_no_more heap r enough fit

pub returns-clause-fits_anyhow : goal.returns-clause-fits_anyhow
returns-clause-fits_anyhow c = λ script heap steps run s r within. fits_with heap r within

pub returns-clause-least_anyhow : goal.returns-clause-least_anyhow
returns-clause-least_anyhow c = λ script heap steps run s r enough fit. needs_no_more heap r enough fit
