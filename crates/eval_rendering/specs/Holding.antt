-- How a comparison holds, by what it looks at.
use Rattle.std.specs.Prelude.{Bool, false, not, if◌then◌else◌, List, Option, Some, None}
use Rattle.std.specs.List.{list_any}
use Rattle.text_bytes.specs.Names.{is_whitespace}
use Rattle.text_bytes.specs.Text.{Text}
use Rattle.text_core.specs.Choices.{choice_fits}
use Rattle.text_core.specs.declared.item.Item.{Item}
use Rattle.text_core.specs.declared.item.Item.TheVariants as item
use Rattle.rule_types.specs.declared.roles.MatchOperator.{MatchOperator}
use Rattle.rule_types.specs.declared.roles.MatchOperator.TheVariants.{Equal, NotEqual}
use Rattle.rule_types.specs.declared.part.Comparison.{Comparison}
use Rattle.text_bytes.specs.Texts.{trimmed}
use Rattle.eval_rendering.specs.Udev.{compared_with, last_is, members_fit, subsystem_fits}

-- what a match looks at: one text; an attribute or a constant, each of which may be absent; texts, of which some
-- member may fit; what no match holds for; what is not read in a dry run; and what udev compares in a different way:
-- a subsystem, an attribute, which may be absent, texts, and an attribute that is not read in a dry run
pub data Subject : Type 0 where
  one : Text → Subject
  attribute constant : Option Text → Subject
  members : List Text → Subject
  never unread : Subject
  udev_subsystem : Text → Subject
  udev_attribute : Option Text → Subject
  udev_members : List Text → Subject
  udev_unread : Subject

-- `!=` negates the answer
abbrev pub agrees : MatchOperator → Bool → Bool
agrees Equal fits = fits
agrees NotEqual fits = not fits

-- whether an item of a pattern is a byte of whitespace
abbrev pub is_whitespace_item : Item → Bool
is_whitespace_item (item.Byte b) = is_whitespace b
is_whitespace_item _ = false

-- whether the last part of a choice ends in a byte of whitespace
abbrev pub ends_in_whitespace : List (List Item) → Bool
ends_in_whitespace choice = last_is (last_is is_whitespace_item) choice

-- an attribute as it is compared: the whitespace at its end counts only if the choice has some there
abbrev pub as_compared : List (List Item) → Text → Text
as_compared choice text = if ends_in_whitespace choice then text else trimmed text

-- whether a comparison holds; what is absent or not read fails `==` and meets `!=`, but for udev an attribute fails
-- both
unfoldable pub holds : Subject → Comparison → Bool
holds (one text) wanted = agrees wanted.operator (choice_fits wanted.choice text)
holds (attribute None) wanted = agrees wanted.operator false
holds (attribute (Some text)) wanted = agrees wanted.operator (choice_fits wanted.choice (as_compared wanted.choice text))
holds (constant None) wanted = agrees wanted.operator false
holds (constant (Some text)) wanted = agrees wanted.operator (choice_fits wanted.choice text)
holds (members texts) wanted = agrees wanted.operator (list_any (choice_fits wanted.choice) texts)
holds never wanted = false
holds unread wanted = agrees wanted.operator false
holds (udev_subsystem text) wanted = agrees wanted.operator (subsystem_fits wanted text)
holds (udev_attribute None) wanted = false
holds (udev_attribute (Some text)) wanted = agrees wanted.operator (choice_fits wanted.choice (compared_with wanted.written text))
holds (udev_members texts) wanted = agrees wanted.operator (members_fit wanted texts)
holds udev_unread wanted = false
