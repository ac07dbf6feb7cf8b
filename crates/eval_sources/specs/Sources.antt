-- Where an item comes from, said without a walk; and what is kept for each item.
use Rattle.std.specs.Prelude.{◌≡◌, Bool, if◌then◌else◌, List, [], ◌∷◌, Option, Some, None, unwrap_or}
use Rattle.std.specs.List.{list_all}
use Rattle.text_bytes.specs.Text.{Text}
use Rattle.text_tables.specs.Texts.{same_text}
use Rattle.text_tables.specs.Pairs.{Pair, value_of}
use Rattle.rule_types.specs.Rules.{Rule}
use Rattle.eval_effects.specs.Items.{is_present}

-- a source: a rule, or none for something that was there from the start
abbrev pub Source : Type 0
Source = Option Rule

-- a stage: a rule and the items that are there after it, or no rule and those at the start
abbrev pub Stage : Type 0
Stage = Source × List Pair

-- whether an item is there at all of these stages
abbrev pub is_present_throughout : Pair → List Stage → Bool
is_present_throughout item stages = list_all (λ stage. is_present item stage.1) stages

-- where an item comes from: the first of these stages from which on it is there at all of them
unfoldable pub source_of : List Stage → Pair → Source
source_of [] item = None
source_of (stage ∷ later) item = if is_present_throughout item (stage ∷ later) then stage.0 else source_of later item

-- what is kept for the name of an item: its value, and where it comes from
abbrev pub Kept : Type 0
Kept = Text × Source

-- what is kept, by the names of items: nothing for one that is no longer there
abbrev pub Held : Type 0
Held = List (Text × Option Kept)

-- what is kept for a name, if anything is
abbrev pub kept_in : Held → Text → Option Kept
kept_in held name = unwrap_or (value_of held name) None

-- where an item comes from that has this value: from where the kept one does, if that has the same value, else from
-- this source
abbrev pub source_by : Option Kept → Source → Text → Source
source_by None source value = source
source_by (Some kept) source value = if same_text kept.0 value then kept.1 else source

-- the same for an item, by what is kept for all
abbrev pub source_in : Held → Source → Pair → Source
source_in held source item = source_by (kept_in held item.0) source item.1

-- what is kept says about each item where it comes from
unfoldable pub Reports : List Stage → Held → Type 0
Reports stages held = (item : Pair) → source_in held None item ≡ source_of stages item
