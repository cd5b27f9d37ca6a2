use Rattle.fr_script.proofs.InOrder.{document_in_order}
use Rattle.fr_script.proofs.document_laws.law_documents_in_order.Goals as goal

pub returns : goal.returns
returns c = record { in_order = document_in_order }
