-- What counts are about: the fates of one rule at all events.
use Rattle.std.specs.Prelude.{ℕ, ◌==◌, Bool, true, false, List, map, fold, slice_index_or}
use Rattle.builtin_devices.specs.Knowledge.{Known}
use Rattle.rule_types.specs.Rules.{Rule}
use Rattle.device_core.specs.Values.{EventValue}
use Rattle.device_core.specs.Tried.{tried}
use Rattle.eval_courses.specs.Fates.{fates}
use Rattle.eval_courses.specs.declared.fate.Fate.{Fate}
use Rattle.eval_courses.specs.declared.fate.Fate.TheVariants.{Passed, Stopped, Met}
use Rattle.engine_courses.specs.Rows.{Row, unreached, with_fate}

-- whether an event reached its rule
abbrev pub is_reached : Fate → Bool
is_reached Passed = false
is_reached (Stopped number) = true
is_reached Met = true

-- whether an event ended at a place of its rule: at 0 if it met all keys, else at the number of the key that stopped it
abbrev pub ends_at : ℕ → Fate → Bool
ends_at place Passed = false
ends_at place (Stopped number) = place == number
ends_at place Met = place == 0

-- the counts of a rule after events at which it had these fates
abbrev pub after : Rule → List Fate → Row
after r fs = fold with_fate (unreached r) fs

-- the fates at some events of the rule at a place among all
abbrev pub fates_of : List Rule → Known → ℕ → List EventValue → List Fate
fates_of rules known place events = map (λ event. slice_index_or (fates (tried event rules) known event) place Passed) events
