-- Which texts fit a pattern.
use Rattle.std.specs.Prelude.{◌≡◌, ◌<◌, Bool, true, false, ◌||◌, ◌&&◌, List, ◌∷◌, [], ◌++◌, IsTrue}
use Rattle.std.specs.Char.{eq_ignore_ascii_case}
use Rattle.std.specs.List.{AllZip}
use Rattle.text_bytes.specs.Text.{Text}
use Rattle.text_core.specs.Items.{takes}
use Rattle.text_core.specs.declared.item.Item.{Item}
use Rattle.text_core.specs.declared.item.Item.TheVariants.{Many}

-- Whether some suffix of a text, itself and the empty one included, passes a test.
abbrev pub some_suffix : (Text → Bool) → Text → Bool
some_suffix p [] = p []
some_suffix p (b ∷ t) = p (b ∷ t) || some_suffix p t

-- No item fits the empty text alone. What follows a Many fits some suffix of the text.
-- Each other item takes the first byte, and what follows it fits the rest.
abbrev pub fits : List Item → Text → Bool
fits [] [] = true
fits [] (b ∷ t) = false
fits (Many ∷ items) t = some_suffix (fits items) t
fits (x ∷ items) [] = false
fits (x ∷ items) (b ∷ t) = takes x b && fits items t

-- A text can be cut in two, so that each part passes a test of its own.
pub record Splits (first second : Text → Bool) (t : Text) : Type 0 where
  pub prefix : Text
  pub back : Text
  pub whole : t ≡ prefix ++ back
  pub first_passes : IsTrue (first prefix)
  pub second_passes : IsTrue (second back)

-- Two texts of bytes are equal except for the case of ASCII letters.
abbrev pub SameButCase : Text → Text → Type 0
SameButCase u v = AllZip (λ b c. (b < 256) × (c < 256) × IsTrue (eq_ignore_ascii_case b c)) u v
