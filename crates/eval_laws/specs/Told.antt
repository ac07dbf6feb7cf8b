-- What is told of rules one after another, for laws.
use Rattle.std.specs.Prelude.{ℕ, ◌+◌, Bool, if◌then◌else◌, nat_eq, not, List, [], ◌∷◌, Option, codes, length}
use Rattle.std.specs.List.{starts_with}
use Rattle.text_tables.specs.Pairs.{Pair}
use Rattle.text_tables.specs.Sorted.{by_name}
use Rattle.builtin_devices.specs.Knowledge.{Known}
use Rattle.rule_types.specs.Rules.{Rule}
use Rattle.rule_types.specs.declared.part.UpMatch.{UpMatch}
use Rattle.eval_state.specs.declared.scene.Scene.{Scene}
use Rattle.eval_acts.specs.Acts.{act_step}
use Rattle.eval_rules.specs.Jumps.{is_passed}
use Rattle.eval_rules.specs.Steps.{Went, apply, plain_step, result_step}
use Rattle.eval_effects.specs.Since.{Since, since_after}
use Rattle.eval_courses.specs.Courses.{acted, matched, searched}
use Rattle.engine_courses.specs.WhyLines.{jumping_after, sought_by}

-- a scene with its properties in the order of their names
abbrev pub with_sorted : Scene → Scene
with_sorted s = record s { state = record s.state { env = by_name s.state.env } }

-- whether an item is told in answers: a property whose name begins with a dot is for rules alone
abbrev pub is_told : Pair → Bool
is_told item = not (starts_with nat_eq item.0 (codes "env ."))

-- how many parts of a rule are reached, one after another: up to the first that stops the rule, and this one
unfoldable pub reached_by : {P : Type 0} → (P → Scene → Went) → List P → Scene → ℕ
reached_by step [] s = 0
reached_by step (p ∷ ps) s = 1 + (if (step p s).1 then reached_by step ps (step p s).0 else 0)

-- the lines of a search for one device: one for each of its matches, and one for its outcome; without a match there is none
abbrev pub search_lines : List UpMatch → ℕ
search_lines [] = 0
search_lines (part ∷ parts) = length (part ∷ parts) + 1

-- how many lines the keys have that a rule reaches
abbrev pub lines_reached : Known → Rule → Scene → ℕ
lines_reached known r s =
    (reached_by (plain_step r) r.plain s + (if (matched r s).1 then search_lines r.up else 0))
    + ((if (searched r s).1 then reached_by (act_step known r) r.acts (searched r s).0 else 0)
    + (if (acted known r s).1 then reached_by result_step r.results (acted known r s).0 else 0))

-- the rule whose jump is followed after rules one after another, if one is, by the one whose jump was followed before them
unfoldable pub jumping_over : Known → Option Rule → List Rule → Scene → Option Rule
jumping_over known jumping [] s = jumping
jumping_over known jumping (r ∷ rs) s =
    if is_passed (sought_by jumping) r then jumping_over known jumping rs s
    else jumping_over known (jumping_after (apply known r s).1 r) rs (apply known r s).0

-- since which rules keys are final after rules one after another; a rule that is passed over makes none final
unfoldable pub since_through : Known → Since → Option Rule → List Rule → Scene → Since
since_through known since jumping [] s = since
since_through known since jumping (r ∷ rs) s =
    if is_passed (sought_by jumping) r then since_through known since jumping rs s
    else since_through known (since_after since r (apply known r s).0.finals) (jumping_after (apply known r s).1 r) rs (apply known r s).0
