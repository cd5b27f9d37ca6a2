use Rattle.fr_model.proofs.Basis.{completing_makes, lawful_in}
use Rattle.fr_model.proofs.laws.law_completes.Goals as goal

pub returns-clause-fits : goal.returns-clause-fits
returns-clause-fits c column hooks table s tree v lawful checked suits e =
    (completing_makes column hooks table tree s v (lawful_in hooks tree lawful) checked suits e).fit

pub returns-clause-tokens : goal.returns-clause-tokens
returns-clause-tokens c column hooks table s tree v t lawful checked suits e =
    (completing_makes column hooks table tree s v (lawful_in hooks tree lawful) checked suits e).hold t
