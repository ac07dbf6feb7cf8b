-- The options that a file may give, by what they have after their name.
use Rattle.std.specs.Prelude.{List, [], ◌∷◌, codes}
use Rattle.text_bytes.specs.Text.{Text}

-- options without a value
unfoldable pub flag_names : List Text
flag_names = codes "all" ∷ codes "check" ∷ codes "links" ∷ codes "lint" ∷ codes "no-style" ∷ codes "no-summary" ∷ codes "questions"
    ∷ codes "rules" ∷ codes "sources" ∷ codes "strict" ∷ codes "udev" ∷ codes "unused" ∷ []

-- options with a value, each of which can be given once
unfoldable pub valued_names : List Text
valued_names = codes "color" ∷ codes "format" ∷ codes "groups" ∷ codes "index" ∷ codes "root"
    ∷ codes "stdin-name" ∷ codes "users" ∷ []

-- options with a value, each of which can be given any number of times
unfoldable pub repeated_names : List Text
repeated_names = codes "ignore" ∷ codes "why" ∷ codes "with" ∷ []
