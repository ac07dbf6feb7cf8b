-- Contents as values.
use Rattle.std.proofs.Common.{◌≡◌, ℕ, Bool, true, false, List, Some, None, refl, cond}
use Rattle.std.specs.Str.{IsUtf8, is_utf8}
use Rattle.std.proofs.lemmas.Str.{IsUtf8-from_is_utf8, is_utf8-from_IsUtf8}
use Rattle.json.specs.Json.{Json, document}
use Rattle.lsp_server.specs.Contents.{value_of_content}

-- a content that is UTF-8 and JSON is a value
pub value_given : (content : List ℕ) (value : Json) → IsUtf8 content × (document content ≡ Some value) → value_of_content content ≡ Some value
value_given content value h = rw (is_utf8-from_IsUtf8 content h.0) h.1

by_test : (b : Bool) (content : List ℕ) → (b ≡ true → document content ≡ None) → cond b (document content) None ≡ None
by_test true content h = h refl
by_test false content h = refl

-- another one is none
pub value_missing : (content : List ℕ) → (IsUtf8 content → document content ≡ None) → value_of_content content ≡ None
value_missing content h = by_test (is_utf8 content) content (λ is. h (IsUtf8-from_is_utf8 content is))
