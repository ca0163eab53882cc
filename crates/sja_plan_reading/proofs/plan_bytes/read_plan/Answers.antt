use Rattle.toml.specs.View.{table_view}
use Rattle.sja_plan_reading.specs.Inside.Views.{document_view}
use Rattle.sja_plan_reading.proofs.OneReading.PassedOn.{plain_document_fault}
use Rattle.sja_plan_reading.proofs.plan_bytes.read_plan.Goals as goal

-- what the document says is no plan
pub returns-clause-err : goal.returns-clause-err
returns-clause-err c =
    let text = c.in_ok-table.ensures.ok in
    plain_document_fault c.args.bytes.now (table_view c.in_ok-table.table) (document_view c.in_ok-document.document)
    c.in-Err.fault text.0 text.1 c.in_ok-document.ensures.ok c.in-Err.ensures.err
