use Rattle.std.proofs.Common.{◌==◌, ap, ◌∙◌}
use Rattle.std.specs.Option.{is_some}
use Rattle.text_bytes.specs.Names.{open_bracket}
use Rattle.text_core.proofs.Found.{found_any}
use Rattle.text_core.proofs.packed.has_bracket.Goals as goal

pub returns : goal.returns
returns c = c.is_some.ensures ∙ ap is_some c.find.ensures.value ∙ found_any (λ b. b == open_bracket) c.args.text.now
