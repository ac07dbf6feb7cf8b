-- The tokens of what a server sends, part by part.
use Rattle.std.proofs.Common.{◌≡◌, ℕ, List, [], ◌∷◌, ◌++◌, refl, append_assoc}
use Rattle.json.specs.Json.{Json}
use Rattle.json.specs.Token as token
use Rattle.json.specs.Token.{Token}
use Rattle.json.specs.Tree.{json_tokens}
use Rattle.lsp_messages.specs.Responses.{notification_begins, notification_of, response_begins, response_of}

-- a response, as it is written after others
pub response_after : (old : List Token) (id result : Json)
    → ((old ++ response_begins id) ++ json_tokens result) ++ token.end_object ∷ [] ≡ old ++ json_tokens (response_of id result)
unfolding response_begins response_of
response_after old id result = simp append_assoc

pub response_listed : (id result : Json) → response_begins id ++ (json_tokens result ++ token.end_object ∷ []) ≡ json_tokens (response_of id result)
unfolding response_begins response_of
response_listed id result = simp append_assoc

-- a notification, as it is written after others
pub notification_after : (old : List Token) (method : List ℕ) (params : Json)
    → ((old ++ notification_begins method) ++ json_tokens params) ++ token.end_object ∷ [] ≡ old ++ json_tokens (notification_of method params)
unfolding notification_begins notification_of
notification_after old method params = simp append_assoc

pub notification_listed : (method : List ℕ) (params : Json)
    → notification_begins method ++ (json_tokens params ++ token.end_object ∷ []) ≡ json_tokens (notification_of method params)
unfolding notification_begins notification_of
notification_listed method params = refl
