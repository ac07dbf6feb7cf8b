use Rattle.std.proofs.Common.{◌∙◌}
use Rattle.text_bytes.proofs.Utf8.{read_is}
use Rattle.text_bytes.proofs.characters.is_utf8.Goals as goal

pub returns : goal.returns
returns c = c.is_ok.ensures.value ∙ read_is _ _ _ c.args.text.now c.from_utf8.ensures.cases
