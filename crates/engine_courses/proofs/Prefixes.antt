-- A text that begins with another one.
use Rattle.std.proofs.Common.{◌≡◌, Bool, true, false, ◌&&◌, ◌||◌, cond, eqb, [], ◌∷◌, ◌++◌, length, take, drop, Option, Some, None, option_map, append-nil, refl, ap, sym, ◌∙◌, arith}
use Rattle.std.specs.Option.{option_map_or}
use Rattle.std.proofs.lemmas.Bool.Decides.{nat_tests}
use Rattle.text_bytes.specs.Text.{Text}
use Rattle.text_tables.specs.Texts.{same_text}
use Rattle.text_bytes.specs.Texts.{following}

and_assoc : (a b c : Bool) → (a && (b && c)) ≡ ((a && b) && c)
and_assoc true b c = refl
and_assoc false b c = refl

-- a text is another with more after it if it begins with that one and has this after it
split_same : (prefix text more : Text) → same_text text (prefix ++ more) ≡ (same_text (take (length prefix) text) prefix && same_text (drop (length prefix) text) more)
split_same [] text more = refl
split_same (b ∷ prefix) [] more = refl
split_same (b ∷ prefix) (c ∷ text) more = ap (λ s. eqb c b && s) (split_same prefix text more) ∙ and_assoc (eqb c b) _ _

-- the same, by what follows the front
same_by : (prefix text more : Text) → same_text text (prefix ++ more) ≡ option_map_or (λ rest. same_text rest more) (following prefix text) false
same_by prefix text more = split_same prefix text more ∙ by (same_text (take (length prefix) text) prefix)
  where
    by : (s : Bool) → (s && same_text (drop (length prefix) text) more) ≡ option_map_or (λ rest. same_text rest more) (cond s (Some (drop (length prefix) text)) None) false
    by true = refl
    by false = refl

same_none : (text : Text) → same_text text [] ≡ eqb (length text) 0
same_none [] = refl
same_none (b ∷ text) = grind (arith, nat_tests)

-- a text asks for a place by what follows the file's name
asks_by : (file text more : Text) → (same_text text file || same_text text (file ++ more)) ≡ option_map_or (λ rest. eqb (length rest) 0 || same_text rest more) (following file text) false
asks_by file text more =
    ap (λ f. same_text text f || same_text text (file ++ more)) (sym (append-nil file))
    ∙ ap (λ s. s || same_text text (file ++ more)) (same_by file text [])
    ∙ ap (λ s. option_map_or (λ rest. same_text rest []) (following file text) false || s) (same_by file text more)
    ∙ by (following file text)
  where
    by : (o : Option Text) → (option_map_or (λ rest. same_text rest []) o false || option_map_or (λ rest. same_text rest more) o false) ≡ option_map_or (λ rest. eqb (length rest) 0 || same_text rest more) o false
    by None = refl
    by (Some rest) = ap (λ s. s || same_text rest more) (same_none rest)

module _ {B : Type 0} (value : B → Text) (file text more : Text) (after_it : Option B) (is : option_map value after_it ≡ following file text) where
  abbrev by_rest : Option Text → Bool
  by_rest o = option_map_or (λ rest. eqb (length rest) 0 || same_text rest more) o false

  -- a text that does not begin with the file's name asks for none of its lines
  pub asks_none : after_it ≡ None → false ≡ (same_text text file || same_text text (file ++ more))
  asks_none none = ap (λ o. by_rest (option_map value o)) (sym none) ∙ ap by_rest is ∙ sym (asks_by file text more)

  -- a text that goes on after the file's name asks for a line by that
  pub asks_after : (rest : B) (answer : Bool) → after_it ≡ Some rest → eqb (length (value rest)) 0 ≡ false → answer ≡ same_text (value rest) more → answer ≡ (same_text text file || same_text text (file ++ more))
  asks_after rest answer some filled same =
      same
      ∙ ap (λ b. b || same_text (value rest) more) (sym filled)
      ∙ ap (λ o. by_rest (option_map value o)) (sym some)
      ∙ ap by_rest is
      ∙ sym (asks_by file text more)
