-- A watcher that is told a text for each key and one for the end of a rule is told the rule's course.
use Rattle.std.proofs.Common.{◌≡◌, Bool, true, false, cond, List, [], ◌∷◌, ◌++◌, codes, append_assoc, ap, ◌∙◌}
use Rattle.text_bytes.specs.Text.{Text}
use Rattle.builtin_devices.specs.Knowledge.{Known}
use Rattle.rule_types.specs.declared.part.Act.{Act}
use Rattle.rule_types.specs.declared.part.Comparison.{Comparison}
use Rattle.rule_types.specs.declared.part.PlainMatch.{PlainMatch}
use Rattle.rule_types.specs.Rules.{Rule}
use Rattle.eval_state.specs.declared.scene.Scene.{Scene}
use Rattle.eval_acts.specs.Acts.{act_step}
use Rattle.eval_effects.specs.Effects.{ending}
use Rattle.eval_effects.specs.Since.{Since}
use Rattle.eval_rules.specs.Idle.{is_idle}
use Rattle.eval_rules.specs.Steps.{Went, apply, before_sets, if_proceeding, only_noted, set_all, steps}
use Rattle.eval_rules.specs.Watched.{Telling, acted, assigned, assigned_watched, comparing, entered_watched, keys_watched, meeting, searching, skip_told, skipped, skipped_watched, stopped}
use Rattle.eval_courses.specs.Acts.{act_report}
use Rattle.eval_courses.specs.Courses.{course, end_of, key_reports}
use Rattle.eval_courses.specs.Looks.{plain_report, result_report}
use Rattle.eval_courses.specs.Skipped.{skipped_text}
use Rattle.eval_courses.specs.Upward.{search_reports}
use Rattle.eval_courses.proofs.Gathering.{keys_gather, seen}

module _ {W : Type 0} (tell : Telling W) (held : List Text → W) (known : Known) (since : Since) (r : Rule)
    (meet : (part : PlainMatch) (s : Scene) (texts : List Text) → tell (held texts) (meeting r part) s ≡ held (texts ++ plain_report part s.state ∷ []))
    (find : (s : Scene) (texts : List Text) → tell (held texts) (searching r) s ≡ held (texts ++ search_reports (is_idle r s.state.event) r.up s.state))
    (act : (act : Act) (s : Scene) (texts : List Text) → tell (held texts) (acted r act (act_step known r act s)) s ≡ held (texts ++ act_report known r act s ∷ []))
    (compare : (part : Comparison) (s : Scene) (texts : List Text) → tell (held texts) (comparing r part) s ≡ held (texts ++ result_report part s.state ∷ []))
    (stop : (s : Scene) (texts : List Text) → tell (held texts) (stopped r) s ≡ held (texts ++ codes "stops there" ∷ []))
    (skip : (s : Scene) (texts : List Text) → tell (held texts) (skipped r) s ≡ held (texts ++ skipped_text r s.state.event ∷ []))
    (assign : (s : Scene) (texts : List Text) → tell (held texts) (assigned r (set_all r s).0) s ≡ held (texts ++ ending since r s ∷ [])) where
  keys_are : (s : Scene) (texts : List Text) → keys_watched tell known r (s, held texts) ≡ seen tell held (before_sets known r s) (texts ++ key_reports known r s)
  unfolding key_reports
  keys_are s texts =
      keys_gather tell held known r (λ part t. plain_report part t.state ∷ []) (λ t. search_reports (is_idle r t.state.event) r.up t.state) (λ part t. act_report known r part t ∷ []) (λ part t. result_report part t.state ∷ [])
      meet find act compare s texts

  module _ (texts keys : List Text) where
    skip_ends : (went : Went) → skip_told tell r (seen tell held went (texts ++ keys)) ≡ held (texts ++ (keys ++ end_of true since r went ∷ []))
    skip_ends went = by went.1
      where
        by : (b : Bool) → tell (held (texts ++ keys)) (cond b (skipped r) (stopped r)) went.0 ≡ held (texts ++ (keys ++ end_of true since r (went.0, b) ∷ []))
        by true = skip went.0 (texts ++ keys) ∙ ap held (append_assoc texts keys (skipped_text r went.0.state.event ∷ []))
        by false = stop went.0 (texts ++ keys) ∙ ap held (append_assoc texts keys (codes "stops there" ∷ []))

    steps_end : (went : Went) → assigned_watched tell r (seen tell held went (texts ++ keys)) ≡ seen tell held (if_proceeding (set_all r) went) (texts ++ (keys ++ end_of false since r went ∷ []))
    steps_end went = by went.1
      where
        by : (b : Bool) → assigned_watched tell r (seen tell held (went.0, b) (texts ++ keys)) ≡ seen tell held (if_proceeding (set_all r) (went.0, b)) (texts ++ (keys ++ end_of false since r (went.0, b) ∷ []))
        by true = ap (λ w. (((set_all r went.0).0, w), true)) (assign went.0 (texts ++ keys) ∙ ap held (append_assoc texts keys (ending since r went.0 ∷ [])))
        by false = ap (λ w. ((went.0, w), false)) (stop went.0 (texts ++ keys) ∙ ap held (append_assoc texts keys (codes "stops there" ∷ [])))

  -- what a rule leaves, and what is told of it
  pub course_told : (s : Scene) (texts : List Text) → entered_watched tell known r (s, held texts) ≡ seen tell held (apply known r s) (texts ++ course known since r s)
  unfolding apply course steps
  course_told s texts = by (is_idle r s.state.event)
    where
      by : (b : Bool) → cond b (skipped_watched tell known r (s, held texts)) (assigned_watched tell r (keys_watched tell known r (s, held texts)))
          ≡ seen tell held (cond b (only_noted known r s) (steps known r s)) (texts ++ (key_reports known r s ++ end_of b since r (before_sets known r s) ∷ []))
      by true =
          ap (λ went. (((only_noted known r s).0, skip_told tell r went), false)) (keys_are s texts)
          ∙ ap (λ w. (((only_noted known r s).0, w), false)) (skip_ends texts (key_reports known r s) (before_sets known r s))
      by false = ap (assigned_watched tell r) (keys_are s texts) ∙ steps_end texts (key_reports known r s) (before_sets known r s)
