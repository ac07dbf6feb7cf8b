use Rattle.rule_tokens.specs.Integers.{is_separator}
use Rattle.eval_rendering.specs.Pieces.{ends_line}
use Rattle.eval_rendering.proofs.Parts.{cut_off}
use Rattle.eval_rendering.proofs.matching_laws.all_that_may_be_cut_off_is.Goals as goal

pub returns : goal.returns
returns c = record { compared = cut_off is_separator; read = cut_off ends_line }
