-- What is reported about parts of a joined line, with the places of these parts in it.
use Rattle.std.specs.Prelude.{ℕ, ◌-◌, length}
use Rattle.text_bytes.specs.Text.{Text}
use Rattle.rule_tokens.specs.Grammar.{Placed}
use Rattle.rule_types.specs.declared.spot.Spot.{Spot}

-- what is reported about a part of a line, with a text: the place of its first byte, and how many bytes it has
abbrev pub spot : {K : Type 0} → K → Text → ℕ → ℕ → Spot K
spot kind word start size = record { kind = kind; word = word; start = start; size = size }

-- the key of a token, reported with a text
abbrev pub spot_at_key : {K : Type 0} → K → Text → Placed → Spot K
spot_at_key kind word t = spot kind word t.span.start (length t.parts.head.key)

-- the place of the first byte of a token's value: the quote after it is the token's last byte
abbrev pub value_start : Placed → ℕ
value_start t = t.span.end - 1 - length t.parts.value

-- the value of a token between its quotes, reported with a text
abbrev pub value_spot : {K : Type 0} → K → Text → Placed → Spot K
value_spot kind word t = spot kind word (value_start t) (length t.parts.value)
