-- What the text of a choice is: parts with bars between them, each of them the text of a pattern.
-- It says the same as the reading of `Choices`, and which of several faults is reported.
use Rattle.std.specs.Prelude.{◌≡◌, ◌≢◌, ℕ, ◌+◌, ◌<◌, ◌≤◌, ◌↔◌, List, ◌∷◌, [], ◌++◌, length, map, sum_by, All, IsOk, Result, Ok, Err}
use Rattle.std.specs.List.{join_with_byte}
use Rattle.text_bytes.specs.Text.{Text}
use Rattle.text_bytes.specs.Names.{bar}
use Rattle.text_core.specs.Spell.{max_len}
use Rattle.text_core.specs.declared.glob_fault.GlobFault.{GlobFault}
use Rattle.text_core.specs.declared.glob_fault.GlobFault.TheVariants.{Class, TooLong}
use Rattle.text_core.specs.declared.item.Item.{Item}

-- A text is these parts, at least one, with bars between them, and no part has a bar.
pub record AreParts (parts : List Text) (t : Text) : Type 0 where
  pub some : parts ≢ []
  pub joined : t ≡ join_with_byte bar parts
  pub no_bar : All (λ part. All (λ b. b ≢ bar) part) parts

-- The parts of a text spell these patterns, each its own.
pub record SpellParts (spelled : Text → Result (List Item) GlobFault) (t : Text) (patterns : List (List Item)) : Type 0 where
  pub parts : List Text
  pub are_parts : AreParts parts t
  pub each : map spelled parts ≡ map Ok patterns

-- A part of a text has a class at a place of the part, and at that place of the whole text, for which the parts before it and
-- the bars after these are counted too. All parts before it spell patterns.
pub record HasFaultyPart (spelled : Text → Result (List Item) GlobFault) (t : Text) (at : ℕ) : Type 0 where
  pub before : List Text
  pub part : Text
  pub following : List Text
  pub are_parts : AreParts (before ++ part ∷ following) t
  pub faultless : All (λ p. IsOk (spelled p)) before
  pub place : ℕ
  pub fault : spelled part ≡ Err (Class place)
  pub at_place : at ≡ sum_by (λ p. length p + 1) before + place

-- A function reads choices part by part: patterns if a text of at most 16,384 bytes has parts that spell them, the fault of
-- such a text's first faulty part, and TooLong only for longer texts.
pub record ReadsParts (spelled : Text → Result (List Item) GlobFault) (chosen : Text → Result (List (List Item)) GlobFault) : Type 0 where
  pub patterns : (t : Text) (patterns : List (List Item)) → (chosen t ≡ Ok patterns) ↔ ((length t ≤ max_len) × SpellParts spelled t patterns)
  pub class : (t : Text) (at : ℕ) → (chosen t ≡ Err (Class at)) ↔ ((length t ≤ max_len) × HasFaultyPart spelled t at)
  pub too_long : (t : Text) → (chosen t ≡ Err TooLong) ↔ (max_len < length t)
