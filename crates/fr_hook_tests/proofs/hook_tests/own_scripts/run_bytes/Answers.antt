use Rattle.fr_script.specs.Reading.{document_view}
use Rattle.fr_hook_tests.proofs.hook_tests.own_scripts.run_bytes.Goals as goal

pub run-requires : goal.run-requires
run-requires g c =
    c.law_documents_in_order.ensures.in_order c.args.document.now (document_view c.in-Ok.document) c.in-Ok.ensures.document
