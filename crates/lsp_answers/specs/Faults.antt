-- For proofs only: how a fault answers words.
use Rattle.std.specs.Prelude.{◌≡◌, Result, Err}
use Rattle.text_bytes.specs.Text.{Text}
use Rattle.lsp_answers.specs.Settings.{Settings}
use Rattle.lsp_answers.specs.declared.options.SettingsFault.{SettingsFault}
use Rattle.lsp_answers.specs.declared.options.SettingsFault.TheVariants.{Memory, Words}

-- A fault has what is said about the words, unless memory ran out.
abbrev pub AnswersWords : Result Settings Text → SettingsFault → Type 0
AnswersWords asked (Words said) = asked ≡ Err said
AnswersWords asked Memory = Unit {0}
