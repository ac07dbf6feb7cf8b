use Rattle.std.proofs.Common.{◌∷◌, []}
use Rattle.lsp_server.specs.Framed.{framed}
use Rattle.lsp_server.specs.declared.frames.Item.TheVariants as item
use Rattle.lsp_server.proofs.ItemLemmas.{long_reads, then_read}
use Rattle.lsp_server.proofs.frame_laws.a_content_too_long_is_passed_over.Goals as goal

pub returns : goal.returns
returns c = λ content later long below. then_read (framed content) later (item.TooLong ∷ []) (long_reads content long below)
