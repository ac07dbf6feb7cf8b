-- Items of which each has to be a change.
use Rattle.std.proofs.Common.{◌≡◌, ℕ, suc, List, [], ◌∷◌, ◌++◌, Option, Some, None, length, option_and_then, option_map, refl, ap, ◌∙◌}
use Rattle.json.specs.Json.{Json}
use Rattle.text_json.specs.Values.{items_of}
use Rattle.lsp_messages.specs.ChangeValues.{ChangeValue}
use Rattle.lsp_messages.specs.Changes.{change_of, changes_in}

-- a change before others, of which there are none
none_after : (change : Option ChangeValue) → option_and_then (λ c. option_map (λ (cs : List ChangeValue). c ∷ cs) None) change ≡ None
none_after None = refl
none_after (Some change) = refl

pub one_fault : (before others : List Json) (value : Json) → change_of value ≡ None → changes_in (items_of (before ++ value ∷ others)) ≡ None
one_fault [] others value h = ap (λ change. option_and_then (λ c. option_map (λ (cs : List ChangeValue). c ∷ cs) (changes_in (items_of others))) change) h
one_fault (first ∷ before) others value h =
    ap (λ rest. option_and_then (λ c. option_map (λ (cs : List ChangeValue). c ∷ cs) rest) (change_of first)) (one_fault before others value h)
    ∙ none_after (change_of first)

one_more : (change : Option ChangeValue) (rest : Option (List ChangeValue)) (n count : ℕ) → ((m : ℕ) → option_map length rest ≡ Some m → m ≡ n)
    → option_map length (option_and_then (λ c. option_map (λ (cs : List ChangeValue). c ∷ cs) rest) change) ≡ Some count → count ≡ suc n
one_more None rest n count each h = cc
one_more (Some change) None n count each h = cc
one_more (Some change) (Some changes) n count each h = let same : length changes ≡ n = each (length changes) refl in cc

pub as_many : (values : List Json) (count : ℕ) → option_map length (changes_in (items_of values)) ≡ Some count → count ≡ length values
as_many [] count h = cc
as_many (value ∷ values) count h = one_more (change_of value) (changes_in (items_of values)) (length values) count (as_many values) h
