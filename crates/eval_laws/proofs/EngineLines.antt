-- The lines of an answer with nothing in front of them.
use Rattle.std.proofs.Common.{◌≡◌, List, [], ◌∷◌, ◌++◌, map, flat_map, Some, refl, ap, sym, ◌∙◌}
use Rattle.std.proofs.lemmas.List.Concat.{flat_map-append, flat_map-cons}
use Rattle.std.proofs.lemmas.List.Folds.{flat_map-map}
use Rattle.text_bytes.specs.Text.{Text}
use Rattle.builtin_devices.specs.Knowledge.{Known}
use Rattle.rule_types.specs.Rules.{Rule}
use Rattle.device_core.specs.Values.{EventValue}
use Rattle.eval_rendering.specs.declared.rendered.Rendered.{Rendered}
use Rattle.eval_rendering.specs.declared.rendered.Rendered.TheVariants as rendered
use Rattle.eval_state.specs.Runs.{RunValue}
use Rattle.eval_state.specs.Scenes.{start}
use Rattle.eval_state.specs.declared.made_runs.MadeRun.{MadeRun}
use Rattle.eval_state.specs.declared.state.State.{State}
use Rattle.eval_rules.specs.Jumps.{run_all}
use Rattle.eval_rules.specs.Outcomes.{command, commands, made_command, outcome, outcome_of, run_text}
use Rattle.eval_rules.specs.declared.outcome.Command.{Command}
use Rattle.eval_unread.specs.Unread.{whole_outcome}
use Rattle.eval_sources.specs.Sources.{Source}
use Rattle.eval_sources.specs.Reported.{event_commands, sourced_commands, sourced_made}
use Rattle.engine_answers.specs.Lines.{run_line}
use Rattle.engine_answers.specs.Answers.{answer_lines, lines_by, lines_with}

-- nothing, wherever a line comes from
abbrev nothing : Source → Text
nothing source = []

-- the line of a command without its rule
abbrev line_of : Command × Rule → Text
line_of c = run_line c.0

module _ (state : State) where
  abbrev with_rule : RunValue → List (Command × Rule)
  with_rule kept = map (λ done. (done, kept.rule)) (command kept (run_text state kept))

  abbrev alone : RunValue → List Command
  alone kept = command kept (run_text state kept)

  one_command : (kept : RunValue) (text : Rendered) → flat_map line_of (map (λ done. (done, kept.rule)) (command kept text)) ≡ flat_map run_line (command kept text)
  one_command kept (rendered.Text text) = refl
  one_command kept rendered.TooLong = refl

  all_commands : (runs : List RunValue) → flat_map line_of (sourced_commands state runs) ≡ flat_map run_line (commands state runs)
  all_commands [] = refl
  all_commands (kept ∷ runs) =
      ap (flat_map line_of) (flat_map-cons with_rule kept runs)
      ∙ flat_map-append line_of (with_rule kept) (sourced_commands state runs)
      ∙ ap (λ first. first ++ flat_map line_of (sourced_commands state runs)) (one_command kept (run_text state kept))
      ∙ ap (λ rest. flat_map run_line (alone kept) ++ rest) (all_commands runs)
      ∙ sym (flat_map-append run_line (alone kept) (commands state runs))
      ∙ ap (flat_map run_line) (sym (flat_map-cons alone kept runs))

  -- the commands of a RUN among others
  pub commands_around : (before later : List RunValue) (run : RunValue) → sourced_commands state (before ++ run ∷ later) ≡ sourced_commands state before ++ (with_rule run ++ sourced_commands state later)
  commands_around before later run =
      flat_map-append with_rule before (run ∷ later) ∙ ap (λ rest. sourced_commands state before ++ rest) (flat_map-cons with_rule run later)

-- commands that were made at their rules, without these
made_lines : (made : List MadeRun) → flat_map line_of (map sourced_made made) ≡ flat_map run_line (map made_command made)
made_lines [] = refl
made_lines (m ∷ made) = ap (λ rest. run_line (made_command m) ++ rest) (made_lines made)

-- an event's commands without their rules
event_lines : (rules : List Rule) (known : Known) (event : EventValue) → flat_map line_of (event_commands rules known event) ≡ flat_map run_line (outcome rules known event).runs
unfolding outcome_of
event_lines rules known event =
    let end = run_all known rules (start event) in
    flat_map-append line_of (sourced_commands end.state end.runs) (map sourced_made end.made)
    ∙ ap (λ first. first ++ flat_map line_of (map sourced_made end.made)) (all_commands end.state end.runs)
    ∙ ap (λ rest. flat_map run_line (commands end.state end.runs) ++ rest) (made_lines end.made)
    ∙ sym (flat_map-append run_line (commands end.state end.runs) (map made_command end.made))

pub lines_alone : (rules : List Rule) (known : Known) (event : EventValue) → lines_by nothing rules known event ≡ answer_lines event (whole_outcome rules known event)
lines_alone rules known event =
    let as_text : Source × Text → Text = λ (l : Source × Text). nothing l.0 ++ l.1 in
    let beside : Command × Rule → Source × Text = λ (c : Command × Rule). (Some c.1, run_line c.0) in
    ap (λ runs. lines_with (λ item. []) runs event (whole_outcome rules known event)) (flat_map-map as_text beside (event_commands rules known event) ∙ event_lines rules known event)
