use lib.Utf8.{encode}
use Rattle.cli.proofs.ReportSteps.{picture_is}
use Rattle.cli.proofs.report.picture.Goals as goal

pub returns : goal.returns
unfolding encode
returns c = λ text same. picture_is c.in_ok-out.out _ _ _ _ text _ c.in_ok-out.ensures c.in_ok-push.ensures.bytes same
