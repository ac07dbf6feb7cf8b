-- How a course ends.
use Rattle.std.proofs.Common.{◌≡◌, ◌↔◌, Bool, true, false, cond, List, [], ◌∷◌, ◌++◌, Option, Some, codes, map, nat_lt, get_or, refl, ap, sym, ◌∙◌, true≢false}
use Rattle.std.specs.Prelude.{unwrap_or}
use Rattle.text_bytes.specs.Text.{Text}
use Rattle.builtin_devices.specs.Knowledge.{Known}
use Rattle.rule_types.specs.Rules.{Rule}
use Rattle.eval_state.specs.declared.scene.Scene.{Scene}
use Rattle.eval_rules.specs.Idle.{is_idle}
use Rattle.eval_rules.specs.Steps.{Went, apply, only_noted, if_proceeding, set_all, steps, before_sets}
use Rattle.eval_effects.specs.Effects.{effects, ending, ending_of}
use Rattle.eval_effects.specs.Since.{Since}
use Rattle.eval_courses.specs.Courses.{course, end_of, end_reached, key_reports}
use Rattle.eval_courses.specs.Laws.{last_of}
use Rattle.eval_courses.specs.Skipped.{is_bare, skipped_by, skipped_change, skipped_text}
use Rattle.eval_rules.proofs.Staying.{tried_stays}
use Rattle.device_core.specs.Values.{EventValue}

-- the text after all others is the last
pub after_all : (texts : List Text) (text : Text) → last_of (texts ++ text ∷ []) ≡ Some text
after_all [] text = refl
after_all (t ∷ []) text = refl
after_all (t ∷ u ∷ ts) text = after_all (u ∷ ts) text

-- whether the second byte of a text is below the `t` of `stops there`
abbrev below_stops : Text → Bool
below_stops text = nat_lt (get_or text 1 0) 116

-- a rule whose end is reached is not reported as one that stops
not_stopped : (texts : List Text) → ending_of texts ≡ codes "stops there" → ⊥
not_stopped [] e = true≢false (ap below_stops e)
not_stopped (t ∷ ts) e = true≢false (ap below_stops e)

reached_not_stopped : (since : Since) (r : Rule) (s : Scene) → ending since r s ≡ codes "stops there" → ⊥
unfolding ending
reached_not_stopped since r s e = not_stopped (effects since r s r.sets) e

-- neither is one that is skipped
skip_not_stopped : (r : Rule) (event : EventValue) → skipped_text r event ≡ codes "stops there" → ⊥
unfolding skipped_text
skip_not_stopped r event e = by (is_bare r) (map (λ a. skipped_change event a.change) r.sets) e
  where
    by : (bare : Bool) (texts : List Text) → cond bare (codes "reached its end") (skipped_by texts) ≡ codes "stops there" → ⊥
    by true texts e = true≢false (ap below_stops e)
    by false [] e = true≢false (ap below_stops e)
    by false (t ∷ ts) e = true≢false (ap below_stops e)

end_not_stopped : (idle : Bool) (since : Since) (r : Rule) (s : Scene) → end_reached idle since r s ≡ codes "stops there" → ⊥
end_not_stopped true since r s e = skip_not_stopped r s.state.event e
end_not_stopped false since r s e = reached_not_stopped since r s e

ends : (idle : Bool) (since : Since) (r : Rule) (s : Scene) (b : Bool) → (Some (end_of idle since r (s, b)) ≡ Some (codes "stops there")) ↔ (b ≡ false)
ends idle since r s true = (λ e. absurd (end_not_stopped idle since r s (ap (λ (o : Option Text). unwrap_or o []) e)), λ h. absurd (true≢false h))
ends idle since r s false = (λ e. refl, λ h. refl)

-- what is reported last
last_is : (known : Known) (since : Since) (r : Rule) (s : Scene) → last_of (course known since r s) ≡ Some (end_of (is_idle r s.state.event) since r (before_sets known r s))
unfolding course
last_is known since r s = after_all (key_reports known r s) (end_of (is_idle r s.state.event) since r (before_sets known r s))

-- a rule ends where its keys end, unless it is skipped
rule_ends : (known : Known) (r : Rule) (s : Scene) → is_idle r s.state.event ≡ false → (apply known r s).1 ≡ (before_sets known r s).1
unfolding apply steps
rule_ends known r s h = ap (λ b. (cond b (only_noted known r s) (steps known r s)).1) h ∙ by (before_sets known r s).0 (before_sets known r s).1
  where
    by : (t : Scene) (b : Bool) → (if_proceeding (set_all r) (t, b)).1 ≡ b
    by t true = refl
    by t false = refl

-- the last text says whether a key stopped the rule
pub course_ends_so : (known : Known) (since : Since) (r : Rule) (s : Scene) → is_idle r s.state.event ≡ false
    → (last_of (course known since r s) ≡ Some (codes "stops there")) ↔ ((apply known r s).1 ≡ false)
course_ends_so known since r s h =
    let went : Went = before_sets known r s in
    let both = ends (is_idle r s.state.event) since r went.0 went.1 in
    (λ e. rule_ends known r s h ∙ both.0 (sym (last_is known since r s) ∙ e), λ n. last_is known since r s ∙ both.1 (sym (rule_ends known r s h) ∙ n))

passed : (since : Since) (r : Rule) (s : Scene) (b : Bool) → (Some (end_of true since r (s, b)) ≡ Some (skipped_text r s.state.event)) ↔ (b ≡ true)
passed since r s true = (λ e. refl, λ h. refl)
passed since r s false = (λ e. absurd (skip_not_stopped r s.state.event (sym (ap (λ (o : Option Text). unwrap_or o []) e))), λ h. absurd (true≢false (sym h)))

-- the last text says that a rule is skipped
pub skipped_ends : (known : Known) (since : Since) (r : Rule) (s : Scene) → is_idle r s.state.event ≡ true
    → (last_of (course known since r s) ≡ Some (skipped_text r s.state.event)) ↔ ((before_sets known r s).1 ≡ true)
skipped_ends known since r s h =
    let went : Went = before_sets known r s in
    let both = passed since r went.0 went.1 in
    let last : last_of (course known since r s) ≡ Some (end_of true since r went) = last_is known since r s ∙ ap (λ b. Some (end_of b since r went)) h in
    let same : Some (skipped_text r went.0.state.event) ≡ Some (skipped_text r s.state.event) = ap (λ event. Some (skipped_text r event)) (tried_stays known r s) in
    (λ e. both.0 (sym last ∙ e ∙ sym same), λ n. last ∙ both.1 n ∙ same)
