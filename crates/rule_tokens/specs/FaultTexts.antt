-- What is said about a part of a line that is not a token.
use Rattle.std.specs.Prelude.{◌++◌, codes, decimal}
use Rattle.text_bytes.specs.Text.{Text}
use Rattle.rule_tokens.specs.declared.kinds.TokenFault.{TokenFault}
use Rattle.rule_tokens.specs.declared.kinds.TokenFaultKind.{TokenFaultKind}
use Rattle.rule_tokens.specs.declared.kinds.TokenFaultKind.TheVariants.{Syntax, Prefix}

-- why a part of a line is not a token, in words
abbrev pub kind_text : TokenFaultKind → Text
kind_text Syntax = codes "bad syntax"
kind_text Prefix = codes "bad quote prefix"

-- the same, with the place of the part
abbrev pub fault_text : TokenFault → Text
fault_text fault = kind_text fault.kind ++ codes " at byte " ++ decimal fault.at
