use Rattle.fr_script.specs.Reading.{document_view}
use Rattle.fr_script.proofs.serving.respond.Goals as goal

pub respond_to_build-requires : goal.respond_to_build-requires
respond_to_build-requires c =
    c.law_documents_in_order.ensures.in_order c.args.bytes.now (document_view c.in-Ok.document) c.in-Ok.ensures.document

pub respond_to_plan-requires : goal.respond_to_plan-requires
respond_to_plan-requires c =
    c.law_documents_in_order.ensures.in_order c.args.bytes.now (document_view c.in-Ok.document) c.in-Ok.ensures.document
