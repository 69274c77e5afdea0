use Rattle.flow_model.proofs.PointLemmas.{IsLawful-points}
use Rattle.flow_model.proofs.journals.lawful_journals_have_points.Goals as goal

pub returns : goal.returns
returns c = IsLawful-points
