use Rattle.std.proofs.Common.{◌++◌, ◌∷◌, []}
use Rattle.lsp_server.specs.Framed.{framed}
use Rattle.lsp_server.specs.declared.frames.Item.TheVariants as item
use Rattle.lsp_server.proofs.ItemLemmas.{frame_reads, then_read}
use Rattle.lsp_server.proofs.frame_laws.what_stands_before_a_frame_is_skipped.Goals as goal

pub returns : goal.returns
returns c = λ before content later n few fits. then_read (before ++ framed content) later (item.Content content ∷ []) (frame_reads before content n few fits)
