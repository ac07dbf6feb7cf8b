-- Rules without a jump, and commands one by one.
use Rattle.std.proofs.Common.{◌≡◌, Bool, true, false, List, [], ◌∷◌, ◌++◌, map, Option, None, refl, ap, ◌∙◌, append_assoc}
use Rattle.std.proofs.lemmas.List.Concat.{flat_map-append}
use Rattle.text_bytes.specs.Text.{Text}
use Rattle.builtin_devices.specs.Knowledge.{Known}
use Rattle.rule_types.specs.Rules.{Rule}
use Rattle.eval_state.specs.Runs.{RunValue, run_kind}
use Rattle.eval_state.specs.declared.scene.Scene.{Scene}
use Rattle.eval_rendering.specs.Rendering.{render}
use Rattle.eval_rendering.specs.declared.rendered.Mode.TheVariants.{Plain}
use Rattle.eval_rendering.specs.declared.rendered.Rendered.{Rendered}
use Rattle.eval_rendering.specs.declared.rendered.Rendered.TheVariants as rendered
use Rattle.eval_rules.specs.Jumps.{run, sought_after}
use Rattle.eval_rules.specs.Outcomes.{command, commands, made_command, outcome_of, run_text}
use Rattle.eval_rules.specs.Steps.{apply}

-- a rule whose end is not reached
pub stopped_follows : (known : Known) (r : Rule) (rs : List Rule) (s : Scene) → (apply known r s).1 ≡ false → run known None (r ∷ rs) s ≡ run known None rs (apply known r s).0
unfolding run
stopped_follows known r rs s h = ap (λ b. run known (sought_after b r) rs (apply known r s).0) h

no_jump : (r : Rule) (b : Bool) → r.goto ≡ None → sought_after b r ≡ None
no_jump r true h = h
no_jump r false h = refl

-- a rule without a jump
pub plain_follows : (known : Known) (r : Rule) (rs : List Rule) (s : Scene) → r.goto ≡ None → run known None (r ∷ rs) s ≡ run known None rs (apply known r s).0
unfolding run
plain_follows known r rs s h = ap (λ (l : Option Text). run known l rs (apply known r s).0) (no_jump r (apply known r s).1 h)

-- a RUN among others
pub one_command : (s : Scene) (before following : List RunValue) (kept : RunValue) (text : Text) → s.runs ≡ before ++ kept ∷ following → render kept.template (record s.state { selected = kept.selected }) Plain ≡ rendered.Text text
    → (outcome_of s).runs ≡ commands s.state before ++ record { kind = run_kind kept.braces; text = text } ∷ (commands s.state following ++ map made_command s.made)
unfolding outcome_of
one_command s before following kept text split is =
    ap (λ cs. cs ++ map made_command s.made)
    (ap (commands s.state) split
    ∙ flat_map-append (λ (k : RunValue). command k (run_text s.state k)) before (kept ∷ following)
    ∙ ap (λ (x : Rendered). commands s.state before ++ (command kept x ++ commands s.state following)) is)
    ∙ append_assoc (commands s.state before) (record { kind = run_kind kept.braces; text = text } ∷ commands s.state following) (map made_command s.made)

-- commands that were made at their rules, if no other is kept
pub made_set : (s : Scene) → s.runs ≡ [] → (outcome_of s).runs ≡ map made_command s.made
unfolding outcome_of
made_set s none = ap (λ (runs : List RunValue). commands s.state runs ++ map made_command s.made) none
