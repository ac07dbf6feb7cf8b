-- What tables weigh as names are set and texts added or removed.
use Rattle.std.proofs.Common.{◌+◌, ◌≤◌, Bool, true, false, not, List, [], ◌∷◌, ◌++◌, if◌then◌else◌, arith}
use Rattle.std.proofs.lemmas.List.Sums.{sum_by-cons, sum_by_push}
use Rattle.text_bytes.specs.Text.{Text}
use Rattle.text_tables.specs.Texts.{is_among, same_text, with_text, with_texts, without_text}
use Rattle.text_tables.specs.Pairs.{Pair, with_value, with_values, without_name}
use Rattle.eval_assignments.specs.Lists.{without_texts}
use Rattle.eval_laws.specs.DeviceWeights.{pair_weight, pairs_weight, text_weight, texts_weight}
use Rattle.eval_laws.proofs.Sums.{filter_light, fold_light}

pub with_value_light : (pairs : List Pair) (name value : Text) → pairs_weight (with_value pairs name value) ≤ pairs_weight pairs + pair_weight (name, value)
with_value_light [] name value = let a = sum_by-cons pair_weight (name, value) [] in omega (arith, a)
with_value_light (pair ∷ pairs) name value = by (same_text name pair.0) (with_value_light pairs name value)
  where
    by : (b : Bool) → pairs_weight (with_value pairs name value) ≤ pairs_weight pairs + pair_weight (name, value)
        → pairs_weight (if b then (pair.0, value) ∷ pairs else pair ∷ with_value pairs name value) ≤ pairs_weight (pair ∷ pairs) + pair_weight (name, value)
    by true more =
        let a = sum_by-cons pair_weight (pair.0, value) pairs in
        let b = sum_by-cons pair_weight pair pairs in
        omega (arith, a, b)
    by false more =
        let a = sum_by-cons pair_weight pair (with_value pairs name value) in
        let b = sum_by-cons pair_weight pair pairs in
        omega (arith, a, b, more)

pub with_values_light : (pairs more : List Pair) → pairs_weight (with_values pairs more) ≤ pairs_weight pairs + pairs_weight more
with_values_light pairs more = fold_light pair_weight pair_weight (λ held pair. with_value held pair.0 pair.1) (λ held pair. with_value_light held pair.0 pair.1) pairs more

pub without_name_light : (pairs : List Pair) (name : Text) → pairs_weight (without_name pairs name) ≤ pairs_weight pairs
without_name_light pairs name = filter_light pair_weight (λ pair. not (same_text name pair.0)) pairs

pub with_text_light : (texts : List Text) (text : Text) → texts_weight (with_text texts text) ≤ texts_weight texts + text_weight text
with_text_light texts text = by (is_among texts text)
  where
    by : (b : Bool) → texts_weight (if b then texts else texts ++ text ∷ []) ≤ texts_weight texts + text_weight text
    by true = omega arith
    by false = let a = sum_by_push text_weight texts text in omega (arith, a)

pub with_texts_light : (texts more : List Text) → texts_weight (with_texts texts more) ≤ texts_weight texts + texts_weight more
with_texts_light texts more = fold_light text_weight text_weight with_text with_text_light texts more

pub without_text_light : (texts : List Text) (text : Text) → texts_weight (without_text texts text) ≤ texts_weight texts + text_weight text
without_text_light texts text = let a = filter_light text_weight (λ other. not (same_text text other)) texts in omega (arith, a)

-- texts without those that were removed
pub without_texts_light : (texts gone : List Text) → texts_weight (without_texts texts gone) ≤ texts_weight texts
without_texts_light texts [] = omega arith
without_texts_light texts (text ∷ gone) =
    let a = filter_light text_weight (λ other. not (same_text text other)) texts in
    let b = without_texts_light (without_text texts text) gone in
    omega (arith, a, b)
