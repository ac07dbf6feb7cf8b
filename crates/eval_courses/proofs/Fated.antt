-- A watcher that notes where each rule ends knows what became of all of them.
use Rattle.std.proofs.Common.{◌≡◌, ℕ, ◌+◌, Bool, true, false, cond, List, [], ◌∷◌, ◌++◌, length, length-append, append_assoc, append-nil, Option, None, refl, ap, sym, ◌∙◌}
use Rattle.text_bytes.specs.Text.{Text}
use Rattle.builtin_devices.specs.Knowledge.{Known}
use Rattle.rule_types.specs.Rules.{Rule}
use Rattle.eval_state.specs.declared.scene.Scene.{Scene}
use Rattle.eval_rules.specs.Idle.{is_idle}
use Rattle.eval_rules.specs.Jumps.{is_passed, sought_after}
use Rattle.eval_rules.specs.Steps.{Went, apply, before_sets}
use Rattle.eval_rules.specs.Watched.{Seen, apply_watched, assigned_watched, keys_watched, run_watched, skipped, skipped_watched, stopped}
use Rattle.eval_rules.proofs.Watching.{apply_bare}
use Rattle.eval_courses.specs.declared.fate.Fate.{Fate}
use Rattle.eval_courses.specs.declared.fate.Fate.TheVariants.{Passed, Stopped, Met}
use Rattle.eval_courses.specs.Fates.{fate, fates_from, keys_reached, search_key}
use Rattle.eval_courses.specs.Inner.{Noted, noting, with_fate}
use Rattle.eval_courses.specs.Keys.{act_key, plain_key, result_key}
use Rattle.eval_courses.proofs.Gathering.{keys_gather}

-- what is held once these keys were begun
abbrev held : List Fate → List Text → Noted
held before texts = record { begun = length texts; fates = before }

one_more : (before : List Fate) (texts : List Text) (text : Text) → record { begun = length texts + 1; fates = before } ≡ held before (texts ++ text ∷ [])
one_more before texts text = ap (λ n. record { begun = n; fates = before }) (sym (length-append texts (text ∷ [])))

module _ (known : Known) where
  module _ (r : Rule) (s : Scene) (before : List Fate) where
    abbrev keys : List Text
    keys = keys_reached known r s

    keys_are : keys_watched noting known r (s, held before []) ≡ (((before_sets known r s).0, held before keys), (before_sets known r s).1)
    unfolding keys_reached
    keys_are =
        keys_gather noting (held before) known r (λ part t. plain_key part ∷ []) (λ t. search_key r.up ∷ []) (λ act t. act_key act ∷ []) (λ part t. result_key part ∷ [])
        (λ part t texts. one_more before texts (plain_key part)) (λ t texts. one_more before texts (search_key r.up))
        (λ act t texts. one_more before texts (act_key act)) (λ part t texts. one_more before texts (result_key part)) s []

    rule_is : (begun : ℕ) → (apply_watched noting known r (s, record { begun = begun; fates = before })).0.1.fates ≡ before ++ fate known r s ∷ []
    unfolding apply_watched fate
    rule_is begun = by (is_idle r s.state.event)
      where
        ends : (went : Went) → (assigned_watched noting r ((went.0, held before keys), went.1)).0.1.fates ≡ before ++ cond went.1 Met (Stopped (length keys)) ∷ []
        ends went = on went.1
          where
            on : (b : Bool) → (assigned_watched noting r ((went.0, held before keys), b)).0.1.fates ≡ before ++ cond b Met (Stopped (length keys)) ∷ []
            on true = refl
            on false = refl

        skips : (went : Went) (b : Bool) → (noting (held before keys) (cond b (skipped r) (stopped r)) went.0).fates ≡ before ++ cond b Met (Stopped (length keys)) ∷ []
        skips went true = refl
        skips went false = refl

        by : (b : Bool) → (cond b (skipped_watched noting known r (s, held before [])) (assigned_watched noting r (keys_watched noting known r (s, held before [])))).0.1.fates
            ≡ before ++ cond (before_sets known r s).1 Met (Stopped (length keys)) ∷ []
        by true =
            ap (λ (went : Seen Noted). (noting went.0.1 (cond went.1 (skipped r) (stopped r)) went.0.0).fates) keys_are
            ∙ skips (before_sets known r s) (before_sets known r s).1
        by false = ap (λ went. (assigned_watched noting r went).0.1.fates) keys_are ∙ ends (before_sets known r s)

  rules_are : (rules : List Rule) (sought : Option Text) (s : Scene) (w : Noted) → (run_watched noting known sought rules (s, w)).1.fates ≡ w.fates ++ fates_from known sought rules s
  unfolding run_watched fates_from
  rules_are [] sought s w = sym (append-nil w.fates)
  rules_are (r ∷ rs) sought s w =
      by (is_passed sought r) (rules_are rs sought s (with_fate w Passed)) (rules_are rs (sought_after went.1 r) went.0.0 went.0.1)
    where
      went : Seen Noted
      went = apply_watched noting known r (s, w)

      by : (b : Bool) → (run_watched noting known sought rs (s, with_fate w Passed)).1.fates ≡ (w.fates ++ Passed ∷ []) ++ fates_from known sought rs s
          → (run_watched noting known (sought_after went.1 r) rs went.0).1.fates ≡ went.0.1.fates ++ fates_from known (sought_after went.1 r) rs went.0.0
          → (cond b (run_watched noting known sought rs (s, with_fate w Passed)) (run_watched noting known (sought_after went.1 r) rs went.0)).1.fates
          ≡ w.fates ++ cond b (Passed ∷ fates_from known sought rs s) (fate known r s ∷ fates_from known (sought_after (apply known r s).1 r) rs (apply known r s).0)
      by true over through = over ∙ append_assoc w.fates (Passed ∷ []) (fates_from known sought rs s)
      by false over through =
          through
          ∙ ap (λ f. f ++ fates_from known (sought_after went.1 r) rs went.0.0) (rule_is r s w.fates w.begun)
          ∙ append_assoc w.fates (fate known r s ∷ []) (fates_from known (sought_after went.1 r) rs went.0.0)
          ∙ ap (λ (g : Went). w.fates ++ fate known r s ∷ fates_from known (sought_after g.1 r) rs g.0) (apply_bare noting known r (s, w))

  -- all that was noted
  pub all_noted : (rules : List Rule) (s t : Scene) (w v : Noted) (found : List Fate) → w ≡ record { begun = 0; fates = [] } → (t, v) ≡ run_watched noting known None rules (s, w) → found ≡ v.fates
      → found ≡ fates_from known None rules s
  all_noted rules s t w v found none ran is =
      is ∙ ap (λ (at : Scene × Noted). at.1.fates) ran ∙ ap (λ x. (run_watched noting known None rules (s, x)).1.fates) none ∙ rules_are rules None s (record { begun = 0; fates = [] })
