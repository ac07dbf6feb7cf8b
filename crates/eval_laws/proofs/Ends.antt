-- What an answer weighs, by the scene that it is made of.
use Rattle.std.proofs.Common.{◌≡◌, ◌+◌, ◌≤◌, List, [], ◌∷◌, Option, Some, None, map, option_map, refl, arith}
use Rattle.std.proofs.lemmas.List.Sums.{sum_by-cons, sum_by-append}
use Rattle.std.specs.List.{sum_by}
use Rattle.text_tables.specs.Pairs.{Pair}
use Rattle.text_tables.specs.Sorted.{by_name, put}
use Rattle.text_bytes.specs.Text.{Text}
use Rattle.rule_types.specs.Names.{run_name}
use Rattle.rule_types.specs.declared.keys.Key.TheVariants as key
use Rattle.rule_types.specs.declared.types.RunType.{RunType}
use Rattle.rule_types.specs.declared.types.RunType.TheVariants.{Program, Builtin}
use Rattle.eval_laws.specs.DeviceWeights.{given_weight, pair_weight, pairs_weight, text_weight}
use Rattle.eval_state.specs.declared.state.State.{State}
use Rattle.eval_rendering.specs.declared.rendered.Mode.TheVariants.{Plain}
use Rattle.eval_rendering.specs.declared.rendered.Rendered.{Rendered}
use Rattle.eval_rendering.specs.declared.rendered.Rendered.TheVariants as rendered
use Rattle.eval_state.specs.Notes.{note_about, word_of_key}
use Rattle.eval_state.specs.Runs.{RunValue, run_kind}
use Rattle.eval_state.specs.Texts.{filled}
use Rattle.eval_state.specs.declared.note_kind.NoteKind.TheVariants.{TextTooLong}
use Rattle.eval_state.specs.declared.made_runs.MadeRun.{MadeRun}
use Rattle.eval_state.specs.declared.scene.Scene.{Scene}
use Rattle.eval_rules.specs.Outcomes.{command, commands, late_note, late_notes, made_command, outcome_of, run_text}
use Rattle.eval_rules.specs.Steps.{with_selected}
use Rattle.eval_laws.specs.Weights.{command_weight, note_weight, outcome_weight}
use Rattle.eval_laws.specs.Inner.{made_weight, run_weight, scene_weight}
use Rattle.eval_laws.proofs.Sums.{fold_light, put_light}
use Rattle.eval_laws.proofs.Rendered.{IsShort, rendered_short}
use Rattle.eval_laws.proofs.Scenes.{note_light}
use Rattle.eval_laws.proofs.Tables.{without_texts_light}

sorted_light : (pairs : List Pair) → pairs_weight (by_name pairs) ≤ pairs_weight pairs
sorted_light pairs =
    let a = fold_light pair_weight pair_weight put (put_light pair_weight (λ p. p.0) (λ earlier later. later) (λ earlier later. omega arith)) [] pairs in
    omega (arith, a)

type_light : (kind : RunType) → text_weight (run_name kind) ≤ 8
type_light Program = omega arith
type_light Builtin = omega arith

-- a RUN is a command or a note
either_light : (kept : RunValue) (text : Rendered) → IsShort text → sum_by command_weight (command kept text) + sum_by note_weight (late_note kept text) ≤ run_weight kept
either_light kept (rendered.Text text) short =
    let a = sum_by-cons command_weight (record { kind = run_kind kept.braces; text = text }) [] in
    let b = type_light (run_kind kept.braces) in
    omega (arith, a, b, short)
either_light kept rendered.TooLong short =
    let a = sum_by-cons note_weight (note_about kept.rule TextTooLong (word_of_key key.Run (option_map run_name kept.braces))) [] in
    let b = note_light kept.rule TextTooLong (word_of_key key.Run (option_map run_name kept.braces)) in
    omega (arith, a, b)

runs_light : (state : State) (runs : List RunValue) → sum_by command_weight (commands state runs) + sum_by note_weight (late_notes state runs) ≤ sum_by run_weight runs
runs_light state [] = omega arith
runs_light state (kept ∷ runs) =
    let a = sum_by-append command_weight (command kept (run_text state kept)) (commands state runs) in
    let b = sum_by-append note_weight (late_note kept (run_text state kept)) (late_notes state runs) in
    let c = either_light kept (run_text state kept) (rendered_short kept.template (with_selected kept.selected state) Plain) in
    let d = sum_by-cons run_weight kept runs in
    let e = runs_light state runs in
    omega (arith, a, b, c, d, e)

made_light : (made : List MadeRun) → sum_by command_weight (map made_command made) ≡ sum_by made_weight made
made_light [] = refl
made_light (run ∷ made) =
    let a = sum_by-cons command_weight (made_command run) (map made_command made) in
    let b = sum_by-cons made_weight run made in
    let c = made_light made in
    omega (arith, a, b, c)

filled_light : (text : Option Text) → given_weight (filled text) ≤ given_weight text
filled_light None = omega arith
filled_light (Some []) = omega arith
filled_light (Some (b ∷ t)) = omega arith

pub outcome_light : (s : Scene) → outcome_weight (outcome_of s) ≤ scene_weight s
unfolding outcome_weight outcome_of scene_weight
outcome_light s =
    let a = sorted_light s.state.env in
    let b = runs_light s.state s.runs in
    let c = sum_by-append note_weight s.notes (late_notes s.state s.runs) in
    let d = sum_by-append command_weight (commands s.state s.runs) (map made_command s.made) in
    let e = made_light s.made in
    let f = without_texts_light s.state.tags s.gone in
    let g = filled_light s.state.name in
    omega (arith, a, b, c, d, e, f, g)
