use Rattle.lsp_messages.proofs.Landing.{row_after, row_begun, row_unbroken}
use Rattle.lsp_messages.proofs.text_laws.places_are_in_their_rows.Goals as goal

pub returns-clause-begun : goal.returns-clause-begun
returns-clause-begun c = row_begun

pub returns-clause-unbroken : goal.returns-clause-unbroken
returns-clause-unbroken c = row_unbroken

pub returns-clause-after_ends : goal.returns-clause-after_ends
returns-clause-after_ends c = row_after
