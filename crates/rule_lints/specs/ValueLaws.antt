-- What is true of the lints of values, in terms of texts.
use Rattle.std.specs.Prelude.{Bool, Option}
use Rattle.text_core.specs.Choices.{choice}
use Rattle.text_bytes.specs.Text.{Text}
use Rattle.rule_tokens.specs.Grammar.{Placed}
use Rattle.rule_tokens.specs.declared.kinds.Operator.{Operator}
use Rattle.rule_tokens.specs.declared.kinds.Quote.TheVariants.{Plain}
use Rattle.rule_lints.specs.Laws.{some_pattern}
use Rattle.rule_lints.specs.Never.{is_idle}
use Rattle.rule_lints.specs.declared.subjects.Subject.{Subject}

-- whether W16 is reported for a text that is compared with this
abbrev pub is_reported : Subject → Text → Bool
is_reported subject text = some_pattern (is_idle subject) (choice text)

-- a token as it is written, at the start of a line
abbrev pub token : Text → Option Text → Operator → Text → Placed
token key attribute operator value =
    record {
      parts = record { head = record { key = key; attribute = attribute; operator = operator }; quote = Plain; value = value };
      span = record { start = 0; end = 0 };
    }
