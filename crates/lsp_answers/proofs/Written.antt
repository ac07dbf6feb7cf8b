-- The tokens of diagnostics, one part after another.
use Rattle.std.proofs.Common.{◌≡◌, ℕ, List, [], ◌∷◌, ◌++◌, Option, Some, None, append_assoc, decimal}
use Rattle.std.specs.Prelude.{codes}
use Rattle.json.specs.Json.{Json, string}
use Rattle.json.specs.Token as token
use Rattle.json.specs.Token.{Token}
use Rattle.json.specs.Tree.{json_tokens}
use Rattle.text_json.specs.Listed.{member_tokens}
use Rattle.text_json.specs.Told.{told, told_text}
use Rattle.text_json.specs.Values.{number_value, object_of}
use Rattle.lsp_answers.specs.Diagnostics.{tag_members}

-- a diagnostic, as it is written after other tokens, with a tag or without one
pub diagnostic_written : (old : List Token) (range : Json) (severity : ℕ) (code said : List ℕ) (tag : Option ℕ)
    → ((((((((old ++ token.begin_object ∷ []) ++ token.key (codes "range") ∷ []) ++ json_tokens range)
    ++ token.key (codes "severity") ∷ token.number (decimal severity) ∷ []) ++ token.key (codes "code") ∷ token.string (told_text code) ∷ [])
    ++ token.key (codes "source") ∷ token.string (codes "devdry") ∷ []) ++ token.key (codes "message") ∷ token.string (told_text said) ∷ [])
    ++ member_tokens (tag_members tag)) ++ token.end_object ∷ []
    ≡ old ++ json_tokens (object_of
    ((codes "range", range) ∷ (codes "severity", number_value severity) ∷ (codes "code", told code) ∷ (codes "source", string (codes "devdry"))
    ∷ (codes "message", told said) ∷ tag_members tag))
diagnostic_written old range severity code said None = simp append_assoc
diagnostic_written old range severity code said (Some tag) = simp append_assoc
