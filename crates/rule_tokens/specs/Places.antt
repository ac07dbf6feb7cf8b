-- Where the tokens of a line lie in it.
use Rattle.std.specs.Prelude.{◌≡◌, ℕ, ◌+◌, ◌-◌, ◌<◌, ◌≤◌, List, [], ◌∷◌, ◌++◌, length, take, drop, Option, Ok, Err, All, ⊤}
use Rattle.text_bytes.specs.Text.{Text}
use Rattle.text_bytes.specs.Names.{double_quote}
use Rattle.rule_tokens.specs.declared.kinds.TokenFault.{TokenFault}
use Rattle.rule_tokens.specs.Grammar.{Placed, Item, BeginsWithToken, Lexes, answers, attribute_text}

-- The part is the slice of the line that begins at the place.
abbrev pub IsSliceAt : Text → ℕ → Text → Type 0
IsSliceAt line place part = take (length part) (drop place line) ≡ part

-- The token is a slice of the line: its bytes from start to end are this token and nothing more, it begins with its
-- key and its attribute, and ends with its value between quotes.
pub record IsSlice (line : Text) (t : Placed) : Type 0 where
  pub some : t.span.start < t.span.end
  pub within : t.span.end ≤ length line
  pub whole : BeginsWithToken (take (t.span.end - t.span.start) (drop t.span.start line)) t.parts []
  pub key : IsSliceAt line t.span.start t.parts.head.key
  pub attribute : IsSliceAt line (t.span.start + length t.parts.head.key) (attribute_text t.parts.head.attribute)
  pub opens : ℕ
  pub value : IsSliceAt line opens (double_quote ∷ t.parts.value ++ double_quote ∷ [])
  pub closes : opens + length (double_quote ∷ t.parts.value ++ double_quote ∷ []) ≡ t.span.end

-- A token is a slice of the line, and a fault's place is in the line or at its end.
abbrev pub LiesIn : Text → Item → Type 0
LiesIn line (Ok t) = IsSlice line t
LiesIn line (Err fault) = fault.at ≤ length line

-- The first item begins at the place or after it, each other one at the end of the one before it or after that, and
-- nothing follows a fault.
abbrev pub RisesFrom : ℕ → List Item → Type 0
RisesFrom place [] = ⊤
RisesFrom place (Ok t ∷ items) = (place ≤ t.span.start) × RisesFrom t.span.end items
RisesFrom place (Err fault ∷ items) = (place ≤ fault.at) × (items ≡ [])

-- The tokens of a line and its fault lie in it.
abbrev pub AllLie : Type 0
AllLie = (line : Text) (tokens : List Placed) (end : Option TokenFault) → Lexes line tokens end → All (LiesIn line) (answers tokens end)

-- They rise.
abbrev pub AllRise : Type 0
AllRise = (line : Text) (tokens : List Placed) (end : Option TokenFault) → Lexes line tokens end → RisesFrom 0 (answers tokens end)
