use Rattle.fr_script.specs.Reading.{document_view}
use Rattle.fr_script.proofs.serving.answer.Goals as goal

pub answer_document-requires : goal.answer_document-requires
answer_document-requires c =
    c.law_documents_in_order.ensures.in_order c.args.bytes.now (document_view c.in-Ok.document) c.in-Ok.ensures.document
