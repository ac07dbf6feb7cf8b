-- Modes of files as udev reports them.
use Rattle.std.specs.Prelude.{ℕ, ◌+◌, ◌/◌, ◌%◌, if◌then◌else◌, [], ◌∷◌, Option, Some, None}
use Rattle.text_bytes.specs.Names.{digit_zero}
use Rattle.text_bytes.specs.Texts.{is_empty}
use Rattle.text_bytes.specs.Text.{Text}
use Rattle.rule_types.specs.declared.keys.Key.TheVariants as key
use Rattle.rule_types.specs.Rules.{Rule}
use Rattle.rule_types.specs.Topics.{mode_of}
use Rattle.eval_state.specs.Scenes.{noted, noted_key}
use Rattle.eval_state.specs.declared.note_kind.NoteKind.TheVariants.{ModeIgnored, NoValue}
use Rattle.eval_state.specs.declared.scene.Scene.{Scene}

-- a mode as four octal digits, the most significant first
abbrev pub four_digits : ℕ → Text
four_digits mode = (digit_zero + mode / 512) ∷ (digit_zero + mode / 64 % 8) ∷ (digit_zero + mode / 8 % 8) ∷ (digit_zero + mode % 8) ∷ []

-- a mode is set as udev reads it from a text; a text that is not a mode leaves a note, and the mode before stays
abbrev pub mode_read : Rule → Text → Option ℕ → Scene → Scene
mode_read r t None s = noted r ModeIgnored t s
mode_read r t (Some mode) s = record s { mode = Some (four_digits mode) }

-- a mode is set as udev takes it: so does an empty text
abbrev pub mode_set : Rule → Text → Scene → Scene
mode_set r t s = if is_empty t then noted_key r NoValue key.Mode None s else mode_read r t (mode_of t) s
