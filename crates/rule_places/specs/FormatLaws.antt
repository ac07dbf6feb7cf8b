-- What is true of a rules file whose commas and blanks are mended.
use Rattle.std.specs.Prelude.{◌≡◌, ◌≤◌, ⊤, ℕ, Bool, true, false, not, List, [], ◌∷◌, ◌++◌, filter, length, map, None, Result, Ok, Err}
use Rattle.std.specs.List.{list_all}
use Rattle.text_bytes.specs.Text.{Text}
use Rattle.text_bytes.specs.Names.{newline}
use Rattle.text_bytes.specs.declared.source_file.SourceFile.{SourceFile}
use Rattle.text_bytes.specs.declared.profile.Profile.TheVariants.{Udev}
use Rattle.file_messages.specs.Messages.{is_style}
use Rattle.file_messages.specs.declared.message.Message.{Message}
use Rattle.file_messages.specs.declared.message.MessageKind.{MessageKind}
use Rattle.file_messages.specs.declared.message.MessageKind.TheVariants.{CommaExpected, BlankExpected, BlankBeforeComma}
use Rattle.rule_tokens.specs.Grammar.{Parts, Placed, answers}
use Rattle.rule_tokens.specs.Lines.{items_of}
use Rattle.rule_core.specs.Drafts.{Draft}
use Rattle.rule_core.specs.Style.{style_findings}
use Rattle.rule_types.specs.Tokens.{WrittenPart, tokens_in}
use Rattle.rule_types.specs.declared.spot.Spot.{Spot}
use Rattle.rule_places.specs.Alike.{is_idle}
use Rattle.rule_places.specs.Faults.{is_sound, is_to_mend, parts_read}
use Rattle.rule_places.specs.Gaps.{is_well_spaced}
use Rattle.rule_places.specs.Proposed.{Landed}
use Rattle.rule_places.specs.Rewritten.{written_between}
use Rattle.rule_places.specs.Stretches.{stretches}
use Rattle.rule_places.specs.declared.stretches.Stretch.{Stretch}

-- nothing is to mend in a joined line
abbrev pub IsMended : Landed → Type 0
IsMended x = is_to_mend x ≡ false

-- lines correspond one by one
abbrev pub Correspond : {X : Type 0} → (X → X → Type 0) → List X → List X → Type 0
Correspond R [] [] = ⊤
Correspond R [] (y ∷ ys) = ⊥
Correspond R (x ∷ xs) [] = ⊥
Correspond R (x ∷ xs) (y ∷ ys) = R x y × Correspond R xs ys

-- a line of a file is the same as another if it is a comment or has nothing but blanks
abbrev pub StaysIfIdle : Text → Text → Type 0
StaysIfIdle l k = is_idle l ≡ true → k ≡ l

-- what a part of a rule says, wherever its token is
abbrev pub said : WrittenPart → Parts
said w = w.token.parts

-- A joined line and what it was: it has the same number, the same becomes of its jump and its label, and it has the same bytes unless
-- something was to mend in it, and then no fault and the same tokens.
pub record IsAsItWas (x y : Landed) : Type 0 where
  pub number : y.0.line ≡ x.0.line
  pub landing : y.1 ≡ x.1
  pub bytes : is_to_mend x ≡ false → y.0.text ≡ x.0.text
  pub sound : is_to_mend x ≡ true → is_sound y.0.read y.1 ≡ true
  pub tokens : is_to_mend x ≡ true → map said (parts_read y.0.read) ≡ map said (parts_read x.0.read)

-- whether a kind of message is about the commas and blanks between tokens and after them
abbrev pub is_about_spacing : MessageKind → Bool
is_about_spacing CommaExpected = true
is_about_spacing BlankExpected = true
is_about_spacing BlankBeforeComma = true
is_about_spacing _ = false

-- whether nothing is said about the commas and blanks of a line with these tokens, also by udev's own readings of style
abbrev pub is_silent : Text → List Placed → Bool
is_silent text tokens = list_all (λ s. not (is_about_spacing s.kind)) (style_findings Udev text tokens)

-- nothing is said about the commas and blanks of a joined line, if it is a rule
abbrev pub IsSilent : Text → Result Draft (Spot MessageKind) → Type 0
IsSilent text (Err wrong) = ⊤
IsSilent text (Ok d) = is_silent text (tokens_in d.parts) ≡ true

-- lines as a text, each ended by a newline
abbrev pub text : List Text → Text
text [] = []
text (l ∷ ls) = l ++ newline ∷ text ls

-- a file with other bytes
abbrev pub with_bytes : SourceFile → Text → SourceFile
with_bytes f bytes = record f { bytes = bytes }

-- messages without those on style
abbrev pub but_style : List Message → List Message
but_style messages = filter (λ m. not (is_style m.kind)) messages

-- what is written of a joined line with these tokens if it is one line of its file
abbrev pub respaced : Text → List Placed → Text
respaced line tokens = written_between line (stretches line tokens) 0 (length line)

-- What is written of a line is read as tokens to its end, which say the same as these, and its commas and blanks are as they should be.
pub record IsRespaced (line : Text) (tokens : List Placed) : Type 0 where
  pub placed : List Placed
  pub reads : items_of (respaced line tokens) ≡ answers placed None
  pub same : map (λ t. t.parts) placed ≡ map (λ t. t.parts) tokens
  pub good : is_well_spaced (respaced line tokens) placed ≡ true

-- stretches in their order, from a place on, of which none is over another
abbrev pub Rise : ℕ → List Stretch → Type 0
Rise from [] = ⊤
Rise from (s ∷ ss) = (from ≤ s.start) × (s.start ≤ s.end) × Rise s.end ss
