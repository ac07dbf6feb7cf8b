-- The words of systemd's files that mean yes and no.
use Rattle.std.specs.Prelude.{Bool, List, map}
use Rattle.std.specs.Char.{to_ascii_lowercase}
use Rattle.std.specs.List.{list_any}
use Rattle.text_bytes.specs.Text.{Text}
use Rattle.text_tables.specs.Texts.{same_text}
use Rattle.link_files.specs.declared.booleans.TheConstants.{NO, YES}

-- whether a word is one of these, in letters of any case
abbrev pub is_any_of : List Text → Text → Bool
is_any_of words word = list_any (λ other. same_text (map to_ascii_lowercase word) (map to_ascii_lowercase other)) words

-- whether a word means yes
unfoldable pub is_yes : Text → Bool
is_yes word = is_any_of (map (λ yes. yes.now) YES) word

-- whether a word means no
unfoldable pub is_no : Text → Bool
is_no word = is_any_of (map (λ no. no.now) NO) word
