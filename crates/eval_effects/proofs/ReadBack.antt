-- A text is read back from how it is shown.
use Rattle.std.proofs.Common.{◌≡◌, ◌<◌, ◌≤◌, ℕ, ◌+◌, ◌-◌, ◌/◌, ◌%◌, Bool, true, false, cond, ◌||◌, nat_lt, eqb, List, [], ◌∷◌, ◌++◌, All, length, take, drop, codes, refl, ap, sym, ◌∙◌, arith}
use Rattle.std.proofs.lemmas.Bool.{ltb-true, false≢true}
use Rattle.text_bytes.specs.Escapes.{escape_text, hex_digit, is_escaped, unescaped}
use Rattle.text_bytes.specs.Names.{double_quote, space}
use Rattle.text_bytes.specs.Texts.{begins_with, ends_in}
use Rattle.text_bytes.proofs.Escaping.{unescaped-escape_text}
use Rattle.eval_effects.specs.Laws.{read_back}
use Rattle.eval_effects.specs.Shown.{is_quoted, marked, most_shown, shown, size_note}

-- what is between two quotes
within : (text : List ℕ) → take (length (double_quote ∷ text ++ double_quote ∷ []) - 2) (drop 1 (double_quote ∷ text ++ double_quote ∷ [])) ≡ text
within text = ap (λ n. take n (text ++ double_quote ∷ [])) (sizes text) ∙ front text
  where
    more : (xs : List ℕ) → length (xs ++ double_quote ∷ []) ≡ length xs + 1
    more [] = refl
    more (x ∷ xs) = let e : length (xs ++ double_quote ∷ []) ≡ length xs + 1 = more xs in omega arith

    sizes : (xs : List ℕ) → length (double_quote ∷ xs ++ double_quote ∷ []) - 2 ≡ length xs
    sizes xs = let e : length (xs ++ double_quote ∷ []) ≡ length xs + 1 = more xs in omega arith

    front : (xs : List ℕ) → take (length xs) (xs ++ double_quote ∷ []) ≡ xs
    front [] = refl
    front (x ∷ xs) = ap (λ ys. x ∷ ys) (front xs)

-- an escaped byte does not begin with a quote unless the byte is one
no_quote_in : (b : ℕ) (needed : Bool) (rest : List ℕ) → eqb b double_quote ≡ false
    → begins_with double_quote (cond needed (codes "\\x" ++ hex_digit (b / 16) ∷ hex_digit (b % 16) ∷ []) (b ∷ []) ++ rest) ≡ false
no_quote_in b true rest e = refl
no_quote_in b false rest e = e

or_second : (a b : Bool) → (a || b) ≡ false → b ≡ false
or_second true b h = absurd (false≢true (sym h))
or_second false b h = h

no_quote : (text : List ℕ) → is_quoted text ≡ false → begins_with double_quote (escape_text text) ≡ false
no_quote [] h = absurd (false≢true (sym h))
no_quote (b ∷ text) h =
    no_quote_in b (is_escaped b) (escape_text text)
    (or_second (ends_in space (b ∷ text)) (begins_with double_quote (b ∷ text))
    (or_second (begins_with space (b ∷ text)) (ends_in space (b ∷ text) || begins_with double_quote (b ∷ text)) h))

marked_read_back : (text : List ℕ) → All (λ b. b < 256) text → read_back (marked text) ≡ text
unfolding marked
marked_read_back text h = by (is_quoted text) refl
  where
    by : (b : Bool) → is_quoted text ≡ b → read_back (cond b (double_quote ∷ escape_text text ++ double_quote ∷ []) (escape_text text)) ≡ text
    by true e = ap unescaped (within (escape_text text)) ∙ unescaped-escape_text text h
    by false e = ap (λ b. cond b (unescaped (take (length (escape_text text) - 2) (drop 1 (escape_text text)))) (unescaped (escape_text text))) (no_quote text e) ∙ unescaped-escape_text text h

not_over : (n : ℕ) → n ≤ 200 → nat_lt 200 n ≡ false
not_over n h = by (nat_lt 200 n) refl
  where
    by : (b : Bool) → nat_lt 200 n ≡ b → nat_lt 200 n ≡ false
    by true e = let over = ltb-true 200 n e in absurd (omega arith)
    by false e = e

pub shown_read_back : (text : List ℕ) → All (λ b. b < 256) text → length text ≤ 200 → read_back (shown text) ≡ text
unfolding shown
shown_read_back text h short = ap (λ b. read_back (cond b (marked (take most_shown text) ++ size_note (length text)) (marked text))) (not_over (length text) short) ∙ marked_read_back text h
