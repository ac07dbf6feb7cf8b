-- What is kept gives the lines their sources.
use Rattle.std.proofs.Common.{◌≡◌, List, None, ap}
use Rattle.text_bytes.specs.Text.{Text}
use Rattle.text_tables.specs.Pairs.{Pair}
use Rattle.device_core.specs.Values.{EventValue}
use Rattle.eval_rules.specs.declared.outcome.Outcome.{Outcome}
use Rattle.eval_sources.specs.Sources.{Held, Reports, Source, Stage, source_in, source_of}
use Rattle.engine_answers.specs.Answers.{lines_with, source_part}

pub lines_are : (stages : List Stage) (held : Held) (runs : Text) (event : EventValue) (outcome : Outcome) → Reports stages held
    → lines_with (λ item. source_part (source_in held None item)) runs event outcome ≡ lines_with (λ item. source_part (source_of stages item)) runs event outcome
unfolding Reports
lines_are stages held runs event outcome h =
    let same : source_in held None ≡ source_of stages = λ i item. h item i in ap (λ (source : Pair → Source). lines_with (λ item. source_part (source item)) runs event outcome) same
