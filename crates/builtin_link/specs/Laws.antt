-- Serves laws only: versions.
use Rattle.std.specs.Prelude.{List, ◌∷◌, [], codes}
use Rattle.text_bytes.specs.Text.{Text}

-- the version of a kernel
abbrev pub release : Text
release = codes "6.18.44-fc-v973"

-- versions, each before the next
abbrev pub versions : List Text
versions =
    codes "122.1" ∷ codes "123~rc1-1" ∷ codes "123" ∷ codes "123-a" ∷ codes "123-a.1" ∷ codes "123-1" ∷ codes "123-1.1" ∷ codes "123^post1"
    ∷ codes "123.a-1" ∷ codes "123.1-1" ∷ codes "123a-1" ∷ codes "124-1" ∷ []
