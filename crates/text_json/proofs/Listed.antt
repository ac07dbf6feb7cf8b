-- The tokens of an object and of an array, one part after another.
use Rattle.std.proofs.Common.{◌≡◌, ℕ, List, [], ◌∷◌, ◌++◌, refl, ap, sym, ◌∙◌, append-nil, append_assoc}
use Rattle.std.proofs.lemmas.Grind.{flat_map-append}
use Rattle.json.specs.Json.{Json}
use Rattle.json.specs.Token as token
use Rattle.json.specs.Token.{Token}
use Rattle.json.specs.Tree.{items_tokens, json_tokens, members_tokens}
use Rattle.text_json.specs.Listed.{member_tokens, value_tokens}
use Rattle.text_json.specs.Values.{array_of, items_of, members_of, object_of}

members_listed : (ms : List (List ℕ × Json)) → member_tokens ms ++ token.end_object ∷ [] ≡ members_tokens (members_of ms)
members_listed [] = refl
members_listed (m ∷ ms) =
    ap (λ (ts : List Token). token.key m.0 ∷ ts)
    (append_assoc (json_tokens m.1) (member_tokens ms) (token.end_object ∷ []) ∙ ap (λ (ts : List Token). json_tokens m.1 ++ ts) (members_listed ms))

pub object_listed : (ms : List (List ℕ × Json)) → token.begin_object ∷ (member_tokens ms ++ token.end_object ∷ []) ≡ json_tokens (object_of ms)
object_listed ms = ap (λ (ts : List Token). token.begin_object ∷ ts) (members_listed ms)

items_listed : (js : List Json) → value_tokens js ++ token.end_array ∷ [] ≡ items_tokens (items_of js)
items_listed [] = refl
items_listed (j ∷ js) =
    append_assoc (json_tokens j) (value_tokens js) (token.end_array ∷ []) ∙ ap (λ (ts : List Token). json_tokens j ++ ts) (items_listed js)

pub array_listed : (js : List Json) → token.begin_array ∷ (value_tokens js ++ token.end_array ∷ []) ≡ json_tokens (array_of js)
array_listed js = ap (λ (ts : List Token). token.begin_array ∷ ts) (items_listed js)

-- an array, as it is written after other tokens
pub array_written : (old : List Token) (js : List Json)
    → ((old ++ token.begin_array ∷ []) ++ value_tokens js) ++ token.end_array ∷ [] ≡ old ++ json_tokens (array_of js)
array_written old js =
    let parts : ((old ++ token.begin_array ∷ []) ++ value_tokens js) ++ token.end_array ∷ []
    ≡ old ++ token.begin_array ∷ (value_tokens js ++ token.end_array ∷ []) = simp append_assoc in
    parts ∙ ap (λ (ts : List Token). old ++ ts) (array_listed js)

-- a member that is an array, as it is written after others
pub array_after : (old : List Token) (k : List ℕ) (js : List Json)
    → (((old ++ token.key k ∷ []) ++ token.begin_array ∷ []) ++ value_tokens js) ++ token.end_array ∷ [] ≡ old ++ member_tokens ((k, array_of js) ∷ [])
array_after old k js =
    let parts : (((old ++ token.key k ∷ []) ++ token.begin_array ∷ []) ++ value_tokens js) ++ token.end_array ∷ [] ≡ old ++ token.key k ∷ (token.begin_array ∷ (value_tokens js ++ token.end_array ∷ [])) = simp append_assoc in
    parts ∙ ap (λ (ts : List Token). old ++ token.key k ∷ ts) (array_listed js ∙ sym (append-nil (json_tokens (array_of js))))

-- a member that is an object, as it is written after others
pub object_after : (old : List Token) (k : List ℕ) (ms : List (List ℕ × Json))
    → (((old ++ token.key k ∷ []) ++ token.begin_object ∷ []) ++ member_tokens ms) ++ token.end_object ∷ [] ≡ old ++ member_tokens ((k, object_of ms) ∷ [])
object_after old k ms =
    let parts : (((old ++ token.key k ∷ []) ++ token.begin_object ∷ []) ++ member_tokens ms) ++ token.end_object ∷ [] ≡ old ++ token.key k ∷ (token.begin_object ∷ (member_tokens ms ++ token.end_object ∷ [])) = simp append_assoc in
    parts ∙ ap (λ (ts : List Token). old ++ token.key k ∷ ts) (object_listed ms ∙ sym (append-nil (json_tokens (object_of ms))))

-- values, as they are written after others
pub values_after : (old : List Token) (first second : List Json) → (old ++ value_tokens first) ++ value_tokens second ≡ old ++ value_tokens (first ++ second)
values_after old first second =
    append_assoc old (value_tokens first) (value_tokens second) ∙ ap (λ (ts : List Token). old ++ ts) (sym (flat_map-append json_tokens first second))

-- one member's tokens
abbrev one : List ℕ × Json → List Token
one m = token.key m.0 ∷ json_tokens m.1

four_listed : (a b c d : List (List ℕ × Json)) → member_tokens (((a ++ b) ++ c) ++ d) ≡ ((member_tokens a ++ member_tokens b) ++ member_tokens c) ++ member_tokens d
four_listed a b c d =
    flat_map-append one ((a ++ b) ++ c) d
    ∙ ap (λ ts. ts ++ member_tokens d) (flat_map-append one (a ++ b) c ∙ ap (λ ts. ts ++ member_tokens c) (flat_map-append one a b))

-- an object of four lists of members, as it is written after others
pub four_after : (old : List Token) (a b c d : List (List ℕ × Json))
    → (((((old ++ token.begin_object ∷ []) ++ member_tokens a) ++ member_tokens b) ++ member_tokens c) ++ member_tokens d) ++ token.end_object ∷ []
    ≡ old ++ json_tokens (object_of (((a ++ b) ++ c) ++ d))
four_after old a b c d =
    let parts : (((((old ++ token.begin_object ∷ []) ++ member_tokens a) ++ member_tokens b) ++ member_tokens c) ++ member_tokens d) ++ token.end_object ∷ []
    ≡ old ++ token.begin_object ∷ ((((member_tokens a ++ member_tokens b) ++ member_tokens c) ++ member_tokens d) ++ token.end_object ∷ []) = simp append_assoc in
    parts
    ∙ ap (λ ts. old ++ token.begin_object ∷ (ts ++ token.end_object ∷ [])) (sym (four_listed a b c d))
    ∙ ap (λ ts. old ++ ts) (object_listed (((a ++ b) ++ c) ++ d))
