-- Tokens of rules as they are written, and what is reported for them if nothing is known about users and groups.
use Rattle.std.specs.Prelude.{List, Option, Some, None}
use Rattle.text_bytes.specs.Text.{Text}
use Rattle.rule_tokens.specs.Grammar.{Placed}
use Rattle.rule_tokens.specs.declared.kinds.Operator.{Operator}
use Rattle.rule_tokens.specs.declared.kinds.Operator.TheVariants.{Assign, Equal, NotEqual}
use Rattle.rule_tokens.specs.declared.kinds.Quote.{Quote}
use Rattle.rule_tokens.specs.declared.kinds.Quote.TheVariants.{Plain}
use Rattle.rule_remarks.specs.Accounts.{nobody}
use Rattle.rule_remarks.specs.Pairs.{pair_findings}
use Rattle.rule_remarks.specs.declared.pair_finding.PairFinding.{PairFinding}

-- a token with its parts
abbrev pub token : Text → Option Text → Operator → Quote → Text → Placed
token key attribute operator quote value = record {
  parts = record { head = record { key = key; attribute = attribute; operator = operator }; quote = quote; value = value };
  span = record { start = 0; end = 0 };
}

-- KEY=="value"
abbrev pub asks : Text → Text → Placed
asks key value = token key None Equal Plain value

-- KEY!="value"
abbrev pub asks_not : Text → Text → Placed
asks_not key value = token key None NotEqual Plain value

-- KEY="value"
abbrev pub gives : Text → Text → Placed
gives key value = token key None Assign Plain value

-- KEY{name}=="value"
abbrev pub asks_of : Text → Text → Text → Placed
asks_of key name value = token key (Some name) Equal Plain value

-- KEY{name}!="value"
abbrev pub asks_not_of : Text → Text → Text → Placed
asks_not_of key name value = token key (Some name) NotEqual Plain value

-- KEY{name}="value"
abbrev pub gives_of : Text → Text → Text → Placed
gives_of key name value = token key (Some name) Assign Plain value

-- what is reported for tokens if there is no list of users or groups
abbrev pub reported : List Placed → List PairFinding
reported tokens = pair_findings nobody tokens
