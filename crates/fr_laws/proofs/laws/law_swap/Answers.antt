use Rattle.fr_laws.proofs.EnteringAgain.{entering_again_keeps}
use Rattle.fr_laws.proofs.SwapScripts.{swapped_scripts_agree, tried_scripts_agree}
use Rattle.fr_laws.proofs.Swaps.{excursions_swap}
use Rattle.fr_laws.proofs.laws.law_swap.Goals as goal

pub returns-clause-swaps : goal.returns-clause-swaps
returns-clause-swaps c = excursions_swap

pub returns-clause-scripts : goal.returns-clause-scripts
returns-clause-scripts c = swapped_scripts_agree

pub returns-clause-tried : goal.returns-clause-tried
returns-clause-tried c = tried_scripts_agree

pub returns-clause-again : goal.returns-clause-again
returns-clause-again c = entering_again_keeps
