-- What a set of lines with codes holds.
use Rattle.std.proofs.Common.{◌≡◌, ℕ, Bool, true, false, ◌==◌, ◌||◌, ◌&&◌, cond, List, [], ◌∷◌, ◌++◌, map, refl, ap, sym, ◌∙◌}
use Rattle.std.specs.Cmp.Lexicographic.{bytes_decides}
use Rattle.std.specs.List.{list_any}
use Rattle.std.proofs.lemmas.Bool.{and_parts, eqb-true}
use Rattle.text_bytes.specs.Text.{Text}
use Rattle.text_tables.specs.Texts.{same_text}
use Rattle.engine_checks.specs.Tables.{has_code_at, is_code_at}

or_false : (a : Bool) → (a || false) ≡ a
or_false true = refl
or_false false = refl

or_more : (a b c d : Bool) → b ≡ (c || d) → (a || b) ≡ ((a || c) || d)
or_more true b c d h = refl
or_more false b c d h = h

or_there : (a b : Bool) → (a ≡ true → b ≡ true) → b ≡ (b || a)
or_there a true h = refl
or_there true false h = h refl
or_there false false h = refl

module _ {K : Type 0} (line : K → ℕ) (code : K → Text) where
  abbrev pub seen : K → ℕ × Text
  seen k = (line k, code k)

  abbrev pub is_at : ℕ → Text → K → Bool
  is_at n text k = n == line k && same_text text (code k)

  -- a code at a line is found exactly if the list has it
  pub has_held : (ks : List K) (n : ℕ) (text : Text) → list_any (is_at n text) ks ≡ has_code_at (map seen ks) n text
  has_held [] n text = refl
  has_held (k ∷ ks) n text = ap (λ b. is_at n text k || b) (has_held ks n text)

  following : (ks : List K) (k : K) (n : ℕ) (text : Text) → list_any (is_at n text) (ks ++ k ∷ []) ≡ (list_any (is_at n text) ks || is_at n text k)
  following [] k n text = or_false (is_at n text k)
  following (x ∷ ks) k n text = or_more (is_at n text x) _ _ _ (following ks k n text)

  same_at : (ks : List K) (k : K) (n : ℕ) (text : Text) → is_at n text k ≡ true → list_any (is_at n text) ks ≡ list_any (is_at (line k) (code k)) ks
  same_at ks k n text e =
      let both = and_parts (n == line k) (same_text text (code k)) e in
      ap (λ m. list_any (is_at m text) ks) (eqb-true n (line k) both.0) ∙ ap (λ t. list_any (is_at (line k) t) ks) ((bytes_decides text (code k)).0 both.1)

  -- what is put in is there, and so is what was there before
  pub added_held : (ks : List K) (k : K) (n : ℕ) (text : Text)
      → has_code_at (map seen (cond (list_any (is_at (line k) (code k)) ks) ks (ks ++ k ∷ []))) n text ≡ (has_code_at (map seen ks) n text || is_code_at n text (seen k))
  added_held ks k n text = by (list_any (is_at (line k) (code k)) ks) refl
    where
      by : (b : Bool) → list_any (is_at (line k) (code k)) ks ≡ b → has_code_at (map seen (cond b ks (ks ++ k ∷ []))) n text ≡ (has_code_at (map seen ks) n text || is_code_at n text (seen k))
      by true e = or_there (is_at n text k) (has_code_at (map seen ks) n text) (λ same. sym (has_held ks n text) ∙ same_at ks k n text same ∙ e)
      by false e = sym (has_held (ks ++ k ∷ []) n text) ∙ following ks k n text ∙ ap (λ b. b || is_at n text k) (has_held ks n text)
