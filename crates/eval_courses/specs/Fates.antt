-- What became of each rule at an event: whether it was reached, and which of its keys stopped it.
use Rattle.std.specs.Prelude.{if◌then◌else◌, List, [], ◌∷◌, ◌++◌, map, length, Option, None}
use Rattle.text_bytes.specs.Text.{Text}
use Rattle.builtin_devices.specs.Knowledge.{Known}
use Rattle.rule_types.specs.Rules.{Rule}
use Rattle.rule_types.specs.declared.part.UpMatch.{UpMatch}
use Rattle.device_core.specs.Values.{EventValue}
use Rattle.eval_state.specs.Scenes.{start}
use Rattle.eval_state.specs.declared.scene.Scene.{Scene}
use Rattle.eval_acts.specs.Acts.{act_step}
use Rattle.eval_rules.specs.Jumps.{is_passed, sought_after}
use Rattle.eval_rules.specs.Steps.{apply, before_sets, plain_step, result_step}
use Rattle.eval_effects.specs.Shown.{joined}
use Rattle.eval_courses.specs.Courses.{acted, matched, reports_if_proceeding, searched, walk_reports}
use Rattle.eval_courses.specs.Keys.{act_key, plain_key, result_key, up_key}
use Rattle.eval_courses.specs.declared.fate.Fate.{Fate}
use Rattle.eval_courses.specs.declared.fate.Fate.TheVariants.{Passed, Stopped, Met}

-- the matches of one device, which count as one key, since one device has to meet all of them
abbrev pub search_key : List UpMatch → Text
search_key parts = joined (map up_key parts)

-- the keys of a rule, in the order of evaluation, each as it is written
abbrev pub keys_of : Rule → List Text
keys_of r = map plain_key r.plain ++ search_key r.up ∷ map act_key r.acts ++ map result_key r.results

-- the keys of a rule that were reached, the last of which stopped it unless all let it go on
unfoldable pub keys_reached : Known → Rule → Scene → List Text
keys_reached known r s =
    walk_reports (plain_step r) (λ part t. plain_key part ∷ []) r.plain s
    ++ reports_if_proceeding (λ t. search_key r.up ∷ []) (matched r s)
    ++ reports_if_proceeding (walk_reports (act_step known r) (λ act t. act_key act ∷ []) r.acts) (searched r s)
    ++ reports_if_proceeding (walk_reports result_step (λ part t. result_key part ∷ []) r.results) (acted known r s)

-- what became of a rule that was reached: all its keys let it go on, or one stopped it
unfoldable pub fate : Known → Rule → Scene → Fate
fate known r s = if (before_sets known r s).1 then Met else Stopped (length (keys_reached known r s))

-- what became of rules one after another, perhaps while a label is sought
unfoldable pub fates_from : Known → Option Text → List Rule → Scene → List Fate
fates_from known sought [] s = []
fates_from known sought (r ∷ rs) s =
    if is_passed sought r then Passed ∷ fates_from known sought rs s
    else fate known r s ∷ fates_from known (sought_after (apply known r s).1 r) rs (apply known r s).0

-- what became of each rule at an event
abbrev pub fates : List Rule → Known → EventValue → List Fate
fates rules known event = fates_from known None rules (start event)
