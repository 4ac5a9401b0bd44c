use Rattle.run_report.proofs.Headlines.{keeps_headline}
use Rattle.run_report.proofs.laws.a_report_keeps_the_headline.Goals as goal

pub returns : goal.returns
returns g c = λ script store end text valid it. keeps_headline g.T.Turner.stands g.T.Turner.marks g.T.Turner.high script store end text valid it
