-- Reading a line token by token, as a function of lists. That this is the language of Grammar is proved of Tokens::new.
use Rattle.std.specs.Prelude.{◌≡◌, ◌↔◌, ℕ, zero, suc, ◌+◌, ◌-◌, Bool, true, false, List, [], ◌∷◌, length}
use Rattle.std.specs.Prelude.{drop, Option, Result, Ok, Err, All, if◌then◌else◌, ◌==◌, ◌&&◌, nat_lt}
use Rattle.text_bytes.specs.Text.{Text}
use Rattle.text_bytes.specs.Texts.{skip_while}
use Rattle.rule_tokens.specs.declared.kinds.TokenFault.{TokenFault}
use Rattle.rule_tokens.specs.declared.kinds.TokenFaultKind.{TokenFaultKind}
use Rattle.rule_tokens.specs.Values.{Means, has_escapes}
use Rattle.rule_tokens.specs.Grammar.{Parts, Placed, Item, Lexes, answers, is_gap_byte}
use Rattle.rule_tokens.specs.Reading.{token_at, unquoted}

-- The items of a text of this length that begins with what was read, if more gives those that follow at a place.
unfoldable pub items_after : (ℕ → Text → List Item) → ℕ → ℕ → Result (Parts × Text) TokenFaultKind → List Item
items_after more at len (Err kind) = Err (record { at = at; kind = kind }) ∷ []
items_after more at len (Ok x) =
    Ok (record { parts = x.0; span = record { start = at; end = at + (len - length x.1) } })
    ∷ (if length (skip_while is_gap_byte x.1) == 0 then [] else more (at + (len - length (skip_while is_gap_byte x.1))) (skip_while is_gap_byte x.1))

-- The items of a text that is at a place, at most n of them.
unfoldable pub items_within : ℕ → ℕ → Text → List Item
items_within zero at text = []
items_within (suc n) at text = items_after (items_within n) at (length text) (token_at text)

-- The items still to come after a place, none if the line is done.
unfoldable pub items_left : Bool → ℕ → Text → List Item
items_left true at text = []
items_left false at text = items_within (length text + 1) at text

-- Whether a line ends at a place, and begins before it.
abbrev pub is_over : ℕ → Text → Bool
is_over start line = nat_lt 0 start && start == length line

-- The tokens of a line from a place on in turn and the fault that ends them, none if the line is over there.
abbrev pub items_from : ℕ → Text → List Item
items_from start line = items_left (is_over start line) start (drop start line)

-- The tokens of a line in turn and the fault that ends them, as a function of the line.
abbrev pub items_of : Text → List Item
items_of line = items_from 0 line

-- The items of a line are just the tokens and the end that the grammar relates to it.
abbrev pub ItemsAreLexed : Type 0
ItemsAreLexed = (line : Text) (tokens : List Placed) (end : Option TokenFault) → Lexes line tokens end ↔ (items_of line ≡ answers tokens end)

-- A token's value means what is unquoted of it, and nothing else.
abbrev pub MeansUnquoted : Placed → Type 0
MeansUnquoted t = (bytes : Text) → Means (has_escapes t.parts.quote) t.parts.value bytes ↔ (unquoted t.parts.quote t.parts.value ≡ bytes)

-- So does the value of each token of a line.
abbrev pub ValuesAreMeant : Type 0
ValuesAreMeant = (line : Text) (tokens : List Placed) (end : Option TokenFault) → Lexes line tokens end → All MeansUnquoted tokens
