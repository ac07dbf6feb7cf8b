-- What is kept of each RUN, rendered one by one, and the outcome after that.
use Rattle.std.proofs.Common.{◌≡◌, ℕ, ◌+◌, ◌<◌, List, [], ◌++◌, map, length, drop, get_or, append_assoc, ap, sym, ◌∙◌}
use Rattle.std.specs.List.{flat_map}
use Rattle.std.proofs.lemmas.List.{drop_more}
use Rattle.text_tables.specs.Pairs.{Pair}
use Rattle.text_tables.specs.Sorted.{by_name}
use Rattle.eval_state.specs.declared.state.State.{State}
use Rattle.eval_rendering.specs.declared.rendered.Rendered.{Rendered}
use Rattle.eval_state.specs.Runs.{RunValue}
use Rattle.eval_state.specs.declared.notes.Note.{Note}
use Rattle.eval_state.specs.declared.scene.Scene.{Scene}
use Rattle.eval_rules.specs.Steps.{with_selected}
use Rattle.eval_rules.specs.Outcomes.{commands, late_notes, made_command, outcome_of, run_text}
use Rattle.eval_rules.specs.Inner.{made_from, unselected, with_notes}
use Rattle.eval_rules.specs.declared.outcome.Command.{Command}

module _ {A : Type 0} (give : RunValue → Rendered → List A) where
  abbrev pub given : State → List RunValue → List A
  given state runs = flat_map (λ kept. give kept (run_text state kept)) runs

  -- one RUN more, whatever device is selected then
  pub given_more : (runs : List RunValue) (i : ℕ) (x : RunValue) (s t : State) (rendered : Rendered) (held next all : List A) → i < length runs → x ≡ get_or runs i x
      → rendered ≡ run_text s x → t ≡ with_selected x.selected s → next ≡ held ++ give x rendered → held ++ given s (drop i runs) ≡ all → next ++ given t (drop (i + 1) runs) ≡ all
  given_more runs i x s t rendered held next all h is text to added whole =
      let rest : List RunValue = drop (i + 1) runs in
      ap (λ n. n ++ given t rest) added
      ∙ ap (λ (u : State). (held ++ give x rendered) ++ given u rest) to
      ∙ ap (λ r. (held ++ give x r) ++ given s rest) text
      ∙ append_assoc held (give x (run_text s x)) (given s rest)
      ∙ ap (λ (y : RunValue). held ++ (give y (run_text s y) ++ given s rest)) is
      ∙ ap (λ rs. held ++ given s rs) (sym (drop_more runs i x h))
      ∙ whole

-- a scene without what rendering changes in it
abbrev pub bare : Scene → Scene
bare s = record (unselected s) { notes = [] }

-- notes are all that rendering adds
pub noted_only : (s t : Scene) (notes : List Note) → bare s ≡ bare t → s.notes ≡ t.notes ++ notes → unselected s ≡ with_notes notes (unselected t)
noted_only s t notes same more = ap (λ (b : Scene). record b { notes = s.notes }) same ∙ ap (λ ns. record (bare t) { notes = ns }) more

-- the outcome, once all is rendered and sorted
pub finished : (s t : Scene) (runs left : List RunValue) (env sorted : List Pair) (done : List Command) → runs ≡ s.runs → left ≡ []
    → unselected t ≡ with_notes (late_notes s.state runs) (unselected (record s { runs = left })) → env ≡ t.state.env → sorted ≡ by_name env → done ≡ commands s.state runs ++ map made_command t.made → made_from t sorted done ≡ outcome_of s
unfolding outcome_of
finished s t runs left env sorted done all none same taken is rendered =
    ap (λ e. made_from t e done) (is ∙ ap by_name taken)
    ∙ ap (λ (u : Scene). made_from u (by_name u.state.env) done) same
    ∙ ap (λ d. made_from (with_notes (late_notes s.state runs) s) (by_name s.state.env) d) (rendered ∙ ap (λ (u : Scene). commands s.state runs ++ map made_command u.made) same)
    ∙ ap (λ rs. made_from (with_notes (late_notes s.state rs) s) (by_name s.state.env) (commands s.state rs ++ map made_command s.made)) all
