use Rattle.fr_shape.specs.ParsingLaws.{parsed_fits, parsed_no_token}
use Rattle.fr_shape.proofs.laws.law_parsing.Goals as goal

pub returns : goal.returns
returns c = record { fits = parsed_fits; no_token = parsed_no_token }
