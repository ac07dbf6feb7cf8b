-- What the words of a command line ask for.
use Rattle.std.specs.Prelude.{if◌then◌else◌, List, [], ◌∷◌, ◌||◌, codes}
use Rattle.std.specs.Str.{bytes_eq}
use Rattle.text_bytes.specs.Text.{Text}
use Rattle.devdry_lsp.specs.declared.words.Asked.{Asked}
use Rattle.devdry_lsp.specs.declared.words.Asked.TheVariants.{Help, Serve, Unknown, Version}

-- what a single word asks for; clients name the way that they speak by `--stdio`
abbrev pub asked_by : Text → Asked
asked_by word =
    if bytes_eq word (codes "--stdio") then Serve
    else if bytes_eq word (codes "--help") then Help
    else if bytes_eq word (codes "-h") then Help
    else if bytes_eq word (codes "--version") then Version
    else if bytes_eq word (codes "-V") then Version
    else Unknown

-- what words ask for: to serve a client if there are none
abbrev pub asked_of : List Text → Asked
asked_of [] = Serve
asked_of (word ∷ []) = asked_by word
asked_of (word ∷ other ∷ others) = Unknown
