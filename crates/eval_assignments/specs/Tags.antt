-- Tags, as TAG changes them.
use Rattle.std.specs.Prelude.{ℕ, Bool, ◌==◌, ◌||◌, ◌&&◌, nat_le, if◌then◌else◌, List, [], length, None}
use Rattle.std.specs.Char.{is_ascii_alphanumeric}
use Rattle.std.specs.List.{list_all}
use Rattle.text_bytes.specs.Names.{minus, underscore}
use Rattle.text_bytes.specs.Texts.{is_empty}
use Rattle.text_bytes.specs.Text.{Text}
use Rattle.text_tables.specs.Texts.{with_text, without_text}
use Rattle.rule_types.specs.declared.keys.Key.TheVariants as key
use Rattle.rule_types.specs.declared.roles.AssignOperator.{AssignOperator}
use Rattle.rule_types.specs.declared.roles.AssignOperator.TheVariants.{Add, Remove}
use Rattle.rule_types.specs.Rules.{Rule}
use Rattle.eval_state.specs.Scenes.{noted, noted_key}
use Rattle.eval_state.specs.declared.note_kind.NoteKind.TheVariants.{NoValue, TagIgnored}
use Rattle.eval_state.specs.declared.scene.Scene.{Scene}
use Rattle.eval_assignments.specs.Lists.{without_texts}

-- whether a byte may be in a tag for udev
abbrev pub is_tag_byte : ℕ → Bool
is_tag_byte b = is_ascii_alphanumeric b || (b == minus || b == underscore)

-- the most bytes of a tag
abbrev pub most_tag_bytes : ℕ
most_tag_bytes = 255

-- whether udev accepts a text as a tag
abbrev pub is_tag : Text → Bool
is_tag t = nat_le (length t) most_tag_bytes && list_all is_tag_byte t

-- the tags at the end: those that were not removed
abbrev pub current_tags : Scene → List Text
current_tags s = without_texts s.state.tags s.gone

-- a tag that is set: again if it was removed, and at the end if it was not there
abbrev pub with_tag : Text → Scene → Scene
with_tag t s = record s { gone = without_text s.gone t; state = record s.state { tags = with_text s.state.tags t } }

-- a text is added as a tag; one that is not a tag leaves a note
abbrev pub tag_added : Rule → Text → Scene → Scene
tag_added r t s = if is_empty t then noted_key r NoValue key.Tag None s else if is_tag t then with_tag t s else noted r TagIgnored t s

-- a scene without tags
abbrev pub without_tags : Scene → Scene
without_tags s = record s { gone = []; state = record s.state { tags = [] } }

-- tags as an operator changes them for udev: what is removed is still met by TAG and TAGS
abbrev pub tag_changed : Rule → AssignOperator → Text → Scene → Scene
tag_changed r Remove t s = record s { gone = with_text s.gone t }
tag_changed r Add t s = tag_added r t s
tag_changed r _ t s = tag_added r t (without_tags s)
