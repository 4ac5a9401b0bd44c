use Rattle.run_report.proofs.Headlines.{keeps_summary}
use Rattle.run_report.proofs.laws.a_summary_keeps_the_headline.Goals as goal

pub returns : goal.returns
returns g c = λ script store end rounds text valid it. keeps_summary g.T.Turner.stands g.T.Turner.marks g.T.Turner.high script store end rounds text valid it
