-- Rules that are evaluated while something watches: what it is told, and when. The scene becomes what it does anyway.
use Rattle.std.specs.Prelude.{Bool, true, false, if◌then◌else◌, List, [], ◌∷◌, Option, fold}
use Rattle.text_bytes.specs.Text.{Text}
use Rattle.builtin_devices.specs.Knowledge.{Known}
use Rattle.rule_types.specs.declared.part.Act.{Act}
use Rattle.rule_types.specs.declared.part.Comparison.{Comparison}
use Rattle.rule_types.specs.declared.part.PlainMatch.{PlainMatch}
use Rattle.rule_types.specs.Rules.{Rule}
use Rattle.eval_state.specs.declared.scene.Scene.{Scene}
use Rattle.eval_acts.specs.Acts.{act_step}
use Rattle.eval_rules.specs.Idle.{is_idle}
use Rattle.eval_rules.specs.Jumps.{is_passed, sought_after}
use Rattle.eval_rules.specs.Steps.{Went, if_proceeding, only_noted, plain_step, result_step, search, set_all, walk}

-- What happens, each told with the scene before it: a rule is passed over, since a label is sought, or it is entered; a
-- match of the event is met, one device searched, an act done, with what it leaves and whether the rule goes on, a match
-- of the result met; then a key stopped the rule, or it is skipped, since nothing in it counts, or its assignments are
-- made, with what they leave; and it is left, its end reached or not.
pub data Happening : Type 0 where
  passed entered searching stopped skipped : Rule → Happening
  meeting : Rule → PlainMatch → Happening
  acted : Rule → Act → Went → Happening
  comparing : Rule → Comparison → Happening
  assigned : Rule → Scene → Happening
  left : Rule → (reached : Bool) → Happening

-- what a watcher is after it was told what happens, and the scene before that
abbrev pub Telling : Type 0 → Type 0
Telling W = W → Happening → Scene → W

-- a scene and a watcher of it, and whether the rule goes on
abbrev pub Seen : Type 0 → Type 0
Seen W = (Scene × W) × Bool

-- a part of a rule, told by how it goes
abbrev pub told : {W P : Type 0} → Telling W → (P → Went → Happening) → (P → Scene → Went) → P → Scene × W → Seen W
told tell happening step p at = let went = step p at.0 in ((went.0, tell at.1 (happening p went) at.0), went.1)

-- a rule up to its assignments
abbrev pub keys_watched : {W : Type 0} → Telling W → Known → Rule → Scene × W → Seen W
keys_watched tell known r at =
    fold (λ went step. if_proceeding step went) (at, true)
    (walk (told tell (λ part went. meeting r part) (plain_step r)) r.plain
    ∷ told tell (λ parts went. searching r) search r.up
    ∷ walk (told tell (acted r) (act_step known r)) r.acts
    ∷ walk (told tell (λ part went. comparing r part) result_step) r.results
    ∷ [])

-- a rule after its keys: its assignments, if they let it go on
abbrev pub assigned_watched : {W : Type 0} → Telling W → Rule → Seen W → Seen W
assigned_watched tell r went =
    if went.1 then told tell (λ whole made. assigned r made.0) set_all r went.0 else ((went.0.0, tell went.0.1 (stopped r) went.0.0), false)

-- a rule that is skipped: its keys are told, and whether one stopped it
abbrev pub skip_told : {W : Type 0} → Telling W → Rule → Seen W → W
skip_told tell r went = tell went.0.1 (if went.1 then skipped r else stopped r) went.0.0

abbrev pub skipped_watched : {W : Type 0} → Telling W → Known → Rule → Scene × W → Seen W
skipped_watched tell known r at = (((only_noted known r at.0).0, skip_told tell r (keys_watched tell known r at)), false)

-- a rule in its five steps, or skipped
abbrev pub entered_watched : {W : Type 0} → Telling W → Known → Rule → Scene × W → Seen W
entered_watched tell known r at =
    if is_idle r at.0.state.event then skipped_watched tell known r at else assigned_watched tell r (keys_watched tell known r at)

-- a rule that is left
abbrev pub left_watched : {W : Type 0} → Telling W → Rule → Seen W → Seen W
left_watched tell r went = ((went.0.0, tell went.0.1 (left r went.1) went.0.0), went.1)

-- a rule over a scene
unfoldable pub apply_watched : {W : Type 0} → Telling W → Known → Rule → Scene × W → Seen W
apply_watched tell known r at = left_watched tell r (entered_watched tell known r (at.0, tell at.1 (entered r) at.0))

-- rules one after another, perhaps while a label is sought
unfoldable pub run_watched : {W : Type 0} → Telling W → Known → (sought : Option Text) → List Rule → Scene × W → Scene × W
run_watched tell known sought [] at = at
run_watched tell known sought (r ∷ rs) at =
    if is_passed sought r then run_watched tell known sought rs (at.0, tell at.1 (passed r) at.0)
    else run_watched tell known (sought_after (apply_watched tell known r at).1 r) rs (apply_watched tell known r at).0
