-- What is reported for the tokens of one rule, two by two.
use Rattle.std.specs.Prelude.{ℕ, ◌+◌, Bool, true, false, not, ◌&&◌, if◌then◌else◌, List, [], ◌∷◌, ◌++◌, map, fold, Option, Some, None}
use Rattle.std.specs.List.{list_any}
use Rattle.file_messages.specs.declared.message.MessageKind.{MessageKind}
use Rattle.file_messages.specs.declared.message.MessageKind.TheVariants.{MatchesExclude, SaidTwice}
use Rattle.rule_tokens.specs.Grammar.{Placed}
use Rattle.rule_remarks.specs.Accounts.{Accounts}
use Rattle.rule_remarks.specs.Relations.{is_against, is_same}
use Rattle.rule_remarks.specs.Said.{Said, said_of}
use Rattle.rule_remarks.specs.declared.pair_finding.PairFinding.{PairFinding}
use Rattle.rule_remarks.specs.declared.pair_finding.PairKind.{PairKind}
use Rattle.rule_remarks.specs.declared.pair_finding.PairKind.TheVariants.{Same, Against}

-- the message of a kind of pair
abbrev pub message_of : PairKind → MessageKind
message_of Same = SaidTwice
message_of Against = MatchesExclude

-- whether two kinds are the same
abbrev pub same_kind : PairKind → PairKind → Bool
same_kind Same Same = true
same_kind Against Against = true
same_kind _ _ = false

-- two tokens of a rule, and the place of the later one among its tokens; None for a token that is not compared with
-- others
pub record Pair : Type 0 where
  pub earlier : Option Said
  pub later : Option Said
  pub place : ℕ

-- a token with each of those after it, of which the first is at a place
abbrev pub pairs_with : Option Said → ℕ → List (Option Said) → List Pair
pairs_with a place [] = []
pairs_with a place (b ∷ tokens) = record { earlier = a; later = b; place = place } ∷ pairs_with a (place + 1) tokens

-- each two tokens, of which the first is at a place, as they are written
abbrev pub pairs_from : ℕ → List (Option Said) → List Pair
pairs_from place [] = []
pairs_from place (a ∷ tokens) = pairs_with a (place + 1) tokens ++ pairs_from (place + 1) tokens

-- whether two tokens are a pair of a kind
abbrev pub are_related : PairKind → Said → Said → Bool
are_related Same a b = is_same a b
are_related Against a b = is_against a b

-- the same for tokens that may not be compared
abbrev pub are_of_kind : PairKind → Option Said → Option Said → Bool
are_of_kind kind (Some a) (Some b) = are_related kind a b
are_of_kind kind None b = false
are_of_kind kind (Some a) None = false

-- whether a pair is of a kind
abbrev pub is_of_kind : PairKind → Pair → Bool
is_of_kind kind p = are_of_kind kind p.earlier p.later

-- what is reported for a pair of a kind
abbrev pub finding : PairKind → Pair → PairFinding
finding kind p = record { kind = kind; token = p.place }

-- whether a kind is among what is reported
abbrev pub is_reported : PairKind → List PairFinding → Bool
is_reported kind reported = list_any (λ f. same_kind kind f.kind) reported

-- what is reported, and a pair with it if it is of a kind that is not reported yet
abbrev pub with_kind : PairKind → List PairFinding → Pair → List PairFinding
with_kind kind reported p = if not (is_reported kind reported) && is_of_kind kind p then reported ++ finding kind p ∷ [] else reported

-- the same for both kinds
abbrev pub with_pair : List PairFinding → Pair → List PairFinding
with_pair reported p = with_kind Against (with_kind Same reported p) p

-- what is reported for pairs, one after another, added to what is reported already
abbrev pub reported_for : List PairFinding → List Pair → List PairFinding
reported_for reported pairs = fold with_pair reported pairs

-- what is reported for the tokens of a rule: the first pair of each kind, in the order in which the pairs are written
unfoldable pub pair_findings : Accounts → List Placed → List PairFinding
pair_findings accounts tokens = reported_for [] (pairs_from 0 (map (said_of accounts) tokens))
