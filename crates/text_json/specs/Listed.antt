-- Serves inner proofs only: the tokens of members and of values one after another, without what encloses them.
use Rattle.std.specs.Prelude.{List, ◌∷◌, flat_map}
use Rattle.text_bytes.specs.Text.{Text}
use Rattle.json.specs.Json.{Json}
use Rattle.json.specs.Token as token
use Rattle.json.specs.Token.{Token}
use Rattle.json.specs.Tree.{json_tokens}

-- the tokens of members
abbrev pub member_tokens : List (Text × Json) → List Token
member_tokens ms = flat_map (λ m. token.key m.0 ∷ json_tokens m.1) ms

-- the tokens of values
abbrev pub value_tokens : List Json → List Token
value_tokens js = flat_map json_tokens js
