-- For proofs only: the tokens of an action before and after its edits.
use Rattle.std.specs.Prelude.{List, [], ◌∷◌, codes}
use Rattle.text_bytes.specs.Text.{Text}
use Rattle.json.specs.Token as token
use Rattle.json.specs.Token.{Token}
use Rattle.text_json.specs.Told.{told_text}

-- the tokens up to the edits
unfoldable pub action_begins : (title uri : Text) → List Token
action_begins title uri =
    token.begin_object ∷ token.key (codes "title") ∷ token.string (told_text title) ∷ token.key (codes "kind") ∷ token.string (codes "quickfix")
    ∷ token.key (codes "edit") ∷ token.begin_object ∷ token.key (codes "changes") ∷ token.begin_object ∷ token.key uri ∷ token.begin_array ∷ []

-- the tokens after the edits
abbrev pub action_ends : List Token
action_ends = token.end_array ∷ token.end_object ∷ token.end_object ∷ token.end_object ∷ []
