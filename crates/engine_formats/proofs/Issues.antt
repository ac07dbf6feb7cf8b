-- The tokens of arrays, value by value.
use Rattle.std.proofs.Common.{◌≡◌, List, [], ◌∷◌, ◌++◌, map, flat_map, refl, ap, ◌∙◌, append_assoc}
use Rattle.json.specs.Json.{Json}
use Rattle.json.specs.Token as token
use Rattle.json.specs.Token.{Token}
use Rattle.json.specs.Tree.{items_tokens, json_tokens}
use Rattle.engine_formats.specs.Fingerprints.{FingerprintedValue}
use Rattle.text_json.specs.Values.{array_of, items_of}
use Rattle.engine_formats.specs.Json.{gitlab_issue}
use Rattle.engine_formats.specs.Sarif.{result_object, rule_object}
use Rattle.engine_formats.specs.Tokens.{issue_tokens, result_tokens, rule_tokens}
use Rattle.file_catalogue.specs.declared.remark.Remark.{Remark}

items_listed : {A : Type 0} (f : A → Json) (tokens : A → List Token) → ((x : A) → tokens x ≡ json_tokens (f x)) → (xs : List A)
    → flat_map tokens xs ++ token.end_array ∷ [] ≡ items_tokens (items_of (map f xs))
items_listed f tokens e [] = refl
items_listed f tokens e (x ∷ xs) =
    append_assoc (tokens x) (flat_map tokens xs) (token.end_array ∷ [])
    ∙ ap (λ (ts : List Token). ts ++ (flat_map tokens xs ++ token.end_array ∷ [])) (e x)
    ∙ ap (λ (ts : List Token). json_tokens (f x) ++ ts) (items_listed f tokens e xs)

pub report_listed : (fs : List FingerprintedValue) → token.begin_array ∷ (flat_map issue_tokens fs ++ token.end_array ∷ []) ≡ json_tokens (array_of (map gitlab_issue fs))
unfolding issue_tokens
report_listed fs = ap (λ (ts : List Token). token.begin_array ∷ ts) (items_listed gitlab_issue issue_tokens (λ (f : FingerprintedValue). refl) fs)

pub rules_listed : (remarks : List Remark) → token.begin_array ∷ (flat_map rule_tokens remarks ++ token.end_array ∷ []) ≡ json_tokens (array_of (map rule_object remarks))
unfolding rule_tokens
rules_listed remarks = ap (λ (ts : List Token). token.begin_array ∷ ts) (items_listed rule_object rule_tokens (λ (remark : Remark). refl) remarks)

pub results_listed : (fs : List FingerprintedValue) → token.begin_array ∷ (flat_map result_tokens fs ++ token.end_array ∷ []) ≡ json_tokens (array_of (map result_object fs))
unfolding result_tokens
results_listed fs = ap (λ (ts : List Token). token.begin_array ∷ ts) (items_listed result_object result_tokens (λ (f : FingerprintedValue). refl) fs)

-- tokens one after another, as they are written and as a value has them
pub seven_parts : (old a b c d e f g : List Token) → ((((((old ++ a) ++ b) ++ c) ++ d) ++ e) ++ f) ++ g ≡ old ++ (a ++ (b ++ (c ++ (d ++ (e ++ (f ++ g))))))
seven_parts old a b c d e f g = simp append_assoc

pub eight_parts : (old a b c d e f g h : List Token) → (((((((old ++ a) ++ b) ++ c) ++ d) ++ e) ++ f) ++ g) ++ h ≡ old ++ (a ++ (b ++ (c ++ (d ++ (e ++ ((f ++ g) ++ h))))))
eight_parts old a b c d e f g h = simp append_assoc
