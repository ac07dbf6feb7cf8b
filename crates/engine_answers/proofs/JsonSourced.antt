-- What is kept gives the values of an answer their sources.
use Rattle.std.proofs.Common.{◌≡◌, List, None, ap}
use Rattle.text_bytes.specs.Text.{Text}
use Rattle.text_tables.specs.Pairs.{Pair}
use Rattle.json.specs.Json.{Json}
use Rattle.device_core.specs.Values.{EventValue}
use Rattle.eval_rules.specs.declared.outcome.Outcome.{Outcome}
use Rattle.eval_sources.specs.Sources.{Held, Reports, Source, Stage, source_in, source_of}
use Rattle.engine_answers.specs.JsonAnswers.{answer_members}
use Rattle.engine_answers.specs.Members.{sourced}

pub values_are : (stages : List Stage) (held : Held) (runs : List Json) (why : Text) (event : EventValue) (outcome : Outcome) → Reports stages held
    → answer_members (λ item value. sourced (source_in held None item) value) runs why event outcome
    ≡ answer_members (λ item value. sourced (source_of stages item) value) runs why event outcome
unfolding Reports
values_are stages held runs why event outcome h =
    let same : source_in held None ≡ source_of stages = λ i item. h item i in
    ap (λ (source : Pair → Source). answer_members (λ item value. sourced (source item) value) runs why event outcome) same
