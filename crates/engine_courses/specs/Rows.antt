-- How often each rule was reached by events, and how often it ended at each of its keys.
use Rattle.std.specs.Prelude.{ℕ, ◌+◌, List, [], ◌∷◌, map, fold, slice_index_or, slice_set}
use Rattle.text_bytes.specs.Text.{Text}
use Rattle.builtin_devices.specs.Knowledge.{Known}
use Rattle.rule_types.specs.Rules.{Rule}
use Rattle.device_core.specs.Values.{EventValue}
use Rattle.device_core.specs.Tried.{tried}
use Rattle.eval_courses.specs.Fates.{fates, keys_of}
use Rattle.eval_courses.specs.declared.fate.Fate.{Fate}
use Rattle.eval_courses.specs.declared.fate.Fate.TheVariants.{Passed, Stopped, Met}

-- the counts of a rule: how many events reached it, and how many of these ended how: first those that met all its keys, then
-- those that each of its keys stopped
pub record Row : Type 0 where
  pub reached : ℕ
  pub ends : List ℕ

-- counts with one more at a place
abbrev pub raised : ℕ → List ℕ → List ℕ
raised place counts = slice_set counts place (slice_index_or counts place 0 + 1)

-- the counts of a rule with one more event that reached it and ended so
abbrev pub with_end : Row → ℕ → Row
with_end row end = record { reached = row.reached + 1; ends = raised end row.ends }

-- the counts of a rule after one more event
abbrev pub with_fate : Row → Fate → Row
with_fate row Passed = row
with_fate row (Stopped number) = with_end row number
with_fate row Met = with_end row 0

-- the counts of rules after one more event
unfoldable pub with_fates : List Row → List Fate → List Row
with_fates [] fates = []
with_fates (row ∷ rows) [] = row ∷ rows
with_fates (row ∷ rows) (f ∷ fates) = with_fate row f ∷ with_fates rows fates

-- the counts of a rule before any event
abbrev pub unreached : Rule → Row
unreached r = record { reached = 0; ends = 0 ∷ map (λ key. 0) (keys_of r) }

-- the counts of rules after more events
unfoldable pub counted : List Rule → Known → List Row → List EventValue → List Row
counted rules known rows events = fold (λ all event. with_fates all (fates (tried event rules) known event)) rows events

-- the names of the files that are reported on, the rules, what is known beyond an event, and the counts of the rules
pub record TallyValue (K : Type 0) : Type 0 where
  pub names : List Text
  pub rules : List Rule
  pub knowledge : K
  pub rows : List Row
