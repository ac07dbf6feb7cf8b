-- The codes of a list, cut at its commas one by one.
use Rattle.std.proofs.Common.{◌≡◌, ℕ, ◌+◌, ◌-◌, ◌<◌, ◌≤◌, ◌==◌, Bool, List, [], ◌∷◌, ◌++◌, length, take, drop, Option, Some, None, option_map, unwrap_or, refl, ap, sym, ◌∙◌, append_assoc, arith}
use Rattle.std.specs.List.{slice_split, position}
use Rattle.std.proofs.lemmas.List.{length-take-le, length-drop}
use Rattle.text_bytes.specs.Names.{comma}
use Rattle.text_bytes.specs.Texts.{split_once}
use Rattle.text_bytes.specs.Text.{Text}
use Rattle.text_core.proofs.Cutting.{position-lt, split_none, split_some}
use Rattle.engine_checks.specs.Ignores.{Ignore, ignore_at, ignores_at}
use Rattle.engine_checks.specs.declared.ignores.Scope.{Scope}

abbrev is_comma : ℕ → Bool
is_comma b = b == comma

module _ (line : ℕ) (scope : Scope) (end : ℕ) where
  -- the codes of a list that ends before a column
  abbrev pub codes_of : Text → List Ignore
  codes_of list = ignores_at line scope (end - length list) (slice_split is_comma list)

  one_at : (rest code following : Text) (place : ℕ) → position is_comma rest ≡ Some place → code ≡ take place rest → following ≡ drop (place + 1) rest → length rest ≤ end
      → ignore_at line scope (end - length rest) code ∷ codes_of following ≡ codes_of rest
  one_at rest code following place at prefix back within =
      let inside : place < length rest = position-lt is_comma rest place at in
      let taken : length code ≡ place = ap length prefix ∙ length-take-le place rest (omega arith) in
      let left : length following ≡ length rest - (place + 1) = ap length back ∙ length-drop (place + 1) rest in
      let next : end - length following ≡ end - length rest + length code + 1 = omega arith in
      ap (λ column. ignore_at line scope (end - length rest) code ∷ ignores_at line scope column (slice_split is_comma following)) next
      ∙ ap (λ text. ignores_at line scope (end - length rest) (code ∷ slice_split is_comma text)) back
      ∙ ap (λ text. ignores_at line scope (end - length rest) (text ∷ slice_split is_comma (drop (place + 1) rest))) prefix
      ∙ ap (ignores_at line scope (end - length rest)) (sym (split_some is_comma rest place at))

  -- a code more
  pub code_more : (held : List Ignore) (rest code following : Text) (all : List Ignore) → Some (code, following) ≡ split_once comma rest → length rest ≤ end → held ++ codes_of rest ≡ all
      → (held ++ ignore_at line scope (end - length rest) code ∷ []) ++ codes_of following ≡ all
  unfolding split_once
  code_more held rest code following all h within so_far =
      append_assoc held (ignore_at line scope (end - length rest) code ∷ []) (codes_of following)
      ∙ ap (λ more. held ++ more) (by (position is_comma rest) refl (sym h))
      ∙ so_far
    where
      by : (p : Option ℕ) → position is_comma rest ≡ p → option_map {U = List ℕ × List ℕ} (λ n. (take n rest, drop (n + 1) rest)) p ≡ Some (code, following) → ignore_at line scope (end - length rest) code ∷ codes_of following ≡ codes_of rest
      by None e q = cc
      by (Some n) e q =
          let prefix : code ≡ take n rest = sym (ap (λ (o : Option (List ℕ × List ℕ)). (unwrap_or o ([], [])).0) q) in
          let back : following ≡ drop (n + 1) rest = sym (ap (λ (o : Option (List ℕ × List ℕ)). (unwrap_or o ([], [])).1) q) in
          one_at rest code following n e prefix back within

  -- the last code
  pub code_last : (held : List Ignore) (rest : Text) (all : List Ignore) → None ≡ split_once comma rest → held ++ codes_of rest ≡ all → held ++ ignore_at line scope (end - length rest) rest ∷ [] ≡ all
  unfolding split_once
  code_last held rest all h so_far = ap (λ more. held ++ more) (by (position is_comma rest) refl (sym h)) ∙ so_far
    where
      by : (p : Option ℕ) → position is_comma rest ≡ p → option_map {U = List ℕ × List ℕ} (λ n. (take n rest, drop (n + 1) rest)) p ≡ None → ignore_at line scope (end - length rest) rest ∷ [] ≡ codes_of rest
      by None e q = ap (ignores_at line scope (end - length rest)) (sym (split_none is_comma rest e))
      by (Some n) e q = cc
