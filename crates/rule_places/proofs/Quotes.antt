-- Within a value a `\` comes directly before each quote.
use Rattle.std.proofs.Common.{◌≡◌, ℕ, ◌==◌, Bool, true, false, true≢false, not, ◌||◌, nat_lt, List, [], ◌∷◌, ◌++◌, refl, ap, sym, ◌∙◌, eqb-true}
use Rattle.std.specs.Char.{digit_value}
use Rattle.std.specs.List.{flat_map, list_all}
use Rattle.std.proofs.lemmas.Bool.{and_from, and_parts}
use Rattle.text_bytes.specs.Names.{backslash, double_quote}
use Rattle.rule_tokens.specs.Grammar.{AllAre}
use Rattle.rule_tokens.specs.Letters.{capital_u, letter_u, letter_x}
use Rattle.rule_tokens.specs.Values.{Piece, Spells, byte, hex, is_number, is_piece, letter, long, octal, short, spelling}
use Rattle.rule_places.specs.Laws.{escapes_quotes}
use Rattle.rule_places.proofs.Prefixes.{all_of, is_other}

-- a text whose quotes are escaped wherever it is
abbrev IsEscaped : List ℕ → Type 0
IsEscaped text = (before : ℕ) → escapes_quotes before text ≡ true

no_quotes : (bytes rest : List ℕ) → AllAre (is_other double_quote) bytes → IsEscaped rest → IsEscaped (bytes ++ rest)
no_quotes [] rest all h before = h before
no_quotes (b ∷ bytes) rest all h before =
    let parts = and_parts (is_other double_quote b) (list_all (is_other double_quote) bytes) all in
    and_from _ _ (ap (λ (c : Bool). c || (before == backslash)) parts.0) (no_quotes bytes rest parts.1 h b)

-- the byte after a `\`
after_backslash : (b : ℕ) (rest : List ℕ) → IsEscaped rest → IsEscaped (backslash ∷ b ∷ rest)
after_backslash b rest h before = and_from _ _ (by (not (b == double_quote))) (h b)
  where
    by : (c : Bool) → (c || (backslash == backslash)) ≡ true
    by true = refl
    by false = refl

-- digits
no_digit : (base : ℕ) → nat_lt (digit_value double_quote) base ≡ false → (d : ℕ) → nat_lt (digit_value d) base ≡ true → is_other double_quote d ≡ true
no_digit base none d h = by (d == double_quote) refl
  where
    by : (c : Bool) → (d == double_quote) ≡ c → not c ≡ true
    by true e = absurd (true≢false (sym h ∙ ap (λ (b : ℕ). nat_lt (digit_value b) base) (eqb-true d double_quote e) ∙ none))
    by false e = refl

digits_other : (base count : ℕ) (digits : List ℕ) → nat_lt (digit_value double_quote) base ≡ false → is_number base count digits ≡ true → AllAre (is_other double_quote) digits
unfolding is_number
digits_other base count digits none h = all_of (λ d. nat_lt (digit_value d) base) (is_other double_quote) digits (no_digit base none) (and_parts _ _ (and_parts _ _ h).1).0

number_escaped : (base count mark : ℕ) (digits rest : List ℕ) → nat_lt (digit_value double_quote) base ≡ false → is_number base count digits ≡ true → IsEscaped rest → IsEscaped (backslash ∷ mark ∷ (digits ++ rest))
number_escaped base count mark digits rest none h g = after_backslash mark (digits ++ rest) (no_quotes digits rest (digits_other base count digits none h) g)

piece_escaped : (escaped : Bool) (p : Piece) (rest : List ℕ) → is_piece escaped p ≡ true → IsEscaped rest → IsEscaped (spelling p ++ rest)
piece_escaped false (byte b) rest h g = no_quotes (b ∷ []) rest (and_from _ _ (and_parts (not (b == double_quote)) _ h).0 refl) g
piece_escaped true (byte b) rest h g = no_quotes (b ∷ []) rest (and_from _ _ (and_parts (not (b == double_quote)) _ h).0 refl) g
piece_escaped false (letter c) rest h g = after_backslash c rest g
piece_escaped true (letter c) rest h g = after_backslash c rest g
piece_escaped true (octal digits) rest h g = no_quotes (backslash ∷ digits) rest (digits_other 8 3 digits refl (and_parts (is_number 8 3 digits) _ h).0) g
piece_escaped true (hex digits) rest h g = number_escaped 16 2 letter_x digits rest refl h g
piece_escaped true (short digits) rest h g = number_escaped 16 4 letter_u digits rest refl (and_parts (is_number 16 4 digits) _ h).0 g
piece_escaped true (long digits) rest h g = number_escaped 16 8 capital_u digits rest refl (and_parts (is_number 16 8 digits) _ h).0 g
piece_escaped false _ rest h g = absurd (true≢false (sym h))

pieces_escaped : (escaped : Bool) (pieces : List Piece) → list_all (is_piece escaped) pieces ≡ true → IsEscaped (flat_map spelling pieces)
pieces_escaped escaped [] h = λ before. refl
pieces_escaped escaped (p ∷ pieces) h = let parts = and_parts (is_piece escaped p) (list_all (is_piece escaped) pieces) h in piece_escaped escaped p (flat_map spelling pieces) parts.0 (pieces_escaped escaped pieces parts.1)

pub value_escaped : (escaped : Bool) (pieces : List Piece) (text : List ℕ) (before : ℕ) → Spells escaped pieces text → escapes_quotes before text ≡ true
value_escaped escaped pieces text before s = ap (escapes_quotes before) s.spelled ∙ pieces_escaped escaped pieces s.allowed before
