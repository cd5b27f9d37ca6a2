use Rattle.fr_script.specs.Reading.{document_view}
use Rattle.fr_script.proofs.planning.plan_document.Goals as goal

pub plan_root-requires : goal.plan_root-requires
plan_root-requires c =
    c.law_documents_in_order.ensures.in_order c.args.bytes.now (document_view c.in-Ok.document) c.in-Ok.ensures.document
