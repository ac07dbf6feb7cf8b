-- A builtin's command read from the left, byte by byte. That its words are those of the grammar is a law.
use Rattle.std.specs.Prelude.{ℕ, Bool, ◌==◌, ◌||◌, if◌then◌else◌, List, [], ◌∷◌, ◌++◌, Option, Some, None, fold}
use Rattle.text_bytes.specs.Names.{space, single_quote, double_quote}
use Rattle.text_bytes.specs.declared.profile.Profile.{Profile}
use Rattle.text_bytes.specs.declared.profile.Profile.TheVariants.{Manual, Udev}
use Rattle.rule_tokens.specs.Integers.{is_separator}
use Rattle.text_bytes.specs.Text.{Text}
use Rattle.eval_commands.specs.declared.words.Place.{Place}
use Rattle.eval_commands.specs.declared.words.Place.TheVariants.{Between, InWord, Quoted}

-- a byte that groups everything up to the next such byte
abbrev pub is_quote : ℕ → Bool
is_quote b = b == single_quote || b == double_quote

-- a command of which a part was read: where the next byte is, the word so far, and the words before it
pub record Cut : Type 0 where
  pub place : Place
  pub word : Text
  pub words : List Text

-- a command of which nothing was read
abbrev pub unread_command : Cut
unread_command = record { place = Between; word = []; words = [] }

-- a byte more of the word
abbrev pub added : ℕ → Cut → Cut
added b cut = record { place = InWord; word = cut.word ++ b ∷ []; words = cut.words }

-- a byte of a word, outside of quotes
abbrev pub begun : ℕ → Cut → Cut
begun b cut = if is_quote b then record { place = Quoted b; word = cut.word; words = cut.words } else added b cut

-- a word ends
abbrev pub ended : Cut → Cut
ended cut = record { place = Between; word = cut.word; words = cut.words ++ cut.word ∷ [] }

-- a new word
abbrev pub emptied : Cut → Cut
emptied cut = record { place = cut.place; word = []; words = cut.words }

-- a byte after a quote
abbrev pub quoted : ℕ → ℕ → Cut → Cut
quoted quote b cut =
    if b == quote then record { place = InWord; word = cut.word; words = cut.words }
    else record { place = cut.place; word = cut.word ++ b ∷ []; words = cut.words }

-- whether a byte separates words: by the manual a space, and for udev also a tab, a newline and a carriage return
abbrev pub separates : Profile → ℕ → Bool
separates Manual b = b == space
separates Udev b = is_separator b

-- a byte, by where it is
abbrev pub took_at : Profile → Place → Cut → ℕ → Cut
took_at profile Between cut b = if separates profile b then cut else begun b (emptied cut)
took_at profile InWord cut b = if separates profile b then ended cut else begun b cut
took_at profile (Quoted quote) cut b = quoted quote b cut

-- a byte more of the command
abbrev pub took : Profile → Cut → ℕ → Cut
took profile cut b = took_at profile cut.place cut b

-- the words of a command that was read to its end
abbrev pub finished_at : Place → Cut → Option (List Text)
finished_at Between cut = Some cut.words
finished_at InWord cut = Some (ended cut).words
finished_at (Quoted quote) cut = None

-- the same
abbrev pub finished_words : Cut → Option (List Text)
finished_words cut = finished_at cut.place cut

-- the words of a command by the manual, unless a quote stays open
unfoldable pub command_words : Text → Option (List Text)
command_words text = finished_words (fold (took Manual) unread_command text)

-- the words of a command that was read to its end, which ends a quote that is open
abbrev pub closed_at : Place → Cut → List Text
closed_at Between cut = cut.words
closed_at InWord cut = (ended cut).words
closed_at (Quoted quote) cut = (ended cut).words

-- the same
abbrev pub closed : Cut → List Text
closed cut = closed_at cut.place cut

-- the words of a command for udev
unfoldable pub udev_words : Text → List Text
udev_words text = closed (fold (took Udev) unread_command text)
