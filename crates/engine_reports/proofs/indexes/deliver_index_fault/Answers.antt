use Rattle.std.proofs.Common.{[], ◌∷◌, codes, ◌∙◌}
use Rattle.text_bytes.specs.Names.{newline}
use Rattle.trie_build.specs.IndexFaultTexts.{fault_text}
use Rattle.engine_reports.proofs.Bounds.{in_pieces}
use Rattle.engine_reports.proofs.indexes.deliver_index_fault.Goals as goal

pub returns : goal.returns
returns g c =
    rw (in_pieces (codes "devdry: index: ") c.as_bytes.result.now (fault_text c.args.fault) (newline ∷ []) (c.as_bytes.ensures.value ∙ c.text.ensures))
    c.deliver_in_pieces.ensures
