-- What is said about a text that is not a template.
use Rattle.std.specs.Prelude.{codes}
use Rattle.text_bytes.specs.Text.{Text}
use Rattle.rule_tokens.specs.declared.fault.TemplateFault.{TemplateFault}
use Rattle.rule_tokens.specs.declared.fault.TemplateFault.TheVariants.{Unknown, Brace, Number, Memory}

-- why a text is not a template, in words
abbrev pub fault_text : TemplateFault → Text
fault_text Unknown = codes "unknown substitution"
fault_text Brace = codes "name in braces expected"
fault_text Number = codes "word number expected"
fault_text Memory = codes "out of memory"
