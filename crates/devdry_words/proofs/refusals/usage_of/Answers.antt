use Rattle.std.proofs.Common.{subst}
use Rattle.devdry_words.specs.Named.{IsUsageOf}
use Rattle.devdry_words.specs.Refusals.{invalid_value, no_answer_format, no_such_color, no_such_format, not_a_file, not_ignorable, not_rules}
use Rattle.devdry_words.proofs.refusals.usage_of.Goals as goal

pub returns-in-UnknownFormat : goal.returns-in-UnknownFormat
returns-in-UnknownFormat c =
    rw c.in-UnknownFormat.is (subst (λ value. IsUsageOf (invalid_value value no_such_format) c.usage_on_value.result) c.text.ensures c.usage_on_value.ensures)

pub returns-in-NoAnswerFormat : goal.returns-in-NoAnswerFormat
returns-in-NoAnswerFormat c =
    rw c.in-NoAnswerFormat.is (subst (λ value. IsUsageOf (invalid_value value no_answer_format) c.usage_on_value-in-NoAnswerFormat.result)
    c.text-in-NoAnswerFormat.ensures c.usage_on_value-in-NoAnswerFormat.ensures)

pub returns-in-UnknownColor : goal.returns-in-UnknownColor
returns-in-UnknownColor c =
    rw c.in-UnknownColor.is (subst (λ value. IsUsageOf (invalid_value value no_such_color) c.usage_on_value-in-UnknownColor.result)
    c.text-in-UnknownColor.ensures c.usage_on_value-in-UnknownColor.ensures)

pub returns-in-UnknownPart : goal.returns-in-UnknownPart
returns-in-UnknownPart c =
    rw c.in-UnknownPart.is
    (subst (λ value. IsUsageOf (invalid_value value not_ignorable) c.usage_on_code.result) c.unknown_text.ensures c.usage_on_code.ensures)

pub returns-in-NotRules : goal.returns-in-NotRules
returns-in-NotRules c =
    rw c.in-NotRules.is (subst (λ value. IsUsageOf (invalid_value value not_rules) c.usage_on_value-in-NotRules.result)
    c.unaddable_text.ensures c.usage_on_value-in-NotRules.ensures)

pub returns-in-NotFile : goal.returns-in-NotFile
returns-in-NotFile c =
    rw c.in-NotFile.is (subst (λ value. IsUsageOf (invalid_value value not_a_file) c.usage_on_value-in-NotFile.result)
    c.unaddable_text-in-NotFile.ensures c.usage_on_value-in-NotFile.ensures)
