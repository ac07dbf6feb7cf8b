use Rattle.lsp_words.proofs.Rising.{leads_below}
use Rattle.lsp_words.proofs.mark_laws.jumps_lead_to_later_rows.Goals as goal

pub returns : goal.returns
returns c = leads_below
