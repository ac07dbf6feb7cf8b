-- A watcher that is told what each act asks is told what all rules ask.
use Rattle.std.proofs.Common.{◌≡◌, Bool, true, false, cond, List, [], ◌∷◌, ◌++◌, Option, None, append-nil, refl, ap, sym, ◌∙◌}
use Rattle.std.specs.List.{filter}
use Rattle.std.proofs.lemmas.List.Elements.{filter-append}
use Rattle.std.proofs.lemmas.List.Sums.{fold-append}
use Rattle.text_bytes.specs.Text.{Text}
use Rattle.text_tables.specs.Texts.{with_text, with_texts}
use Rattle.builtin_devices.specs.Knowledge.{Known}
use Rattle.rule_types.specs.Rules.{Rule}
use Rattle.eval_state.specs.declared.scene.Scene.{Scene}
use Rattle.eval_rules.specs.Idle.{is_idle}
use Rattle.eval_rules.specs.Jumps.{is_passed, sought_after}
use Rattle.eval_rules.specs.Moments.{happening}
use Rattle.eval_rules.specs.Steps.{Went, apply, before_sets, if_proceeding, only_noted, plain_step, result_step, set_all, steps}
use Rattle.eval_rules.specs.Watched.{Seen, apply_watched, assigned_watched, keys_watched, run_watched, skip_told, skipped, skipped_watched, stopped}
use Rattle.eval_rules.specs.declared.watch.Moment.{Moment}
use Rattle.eval_rules.specs.declared.watch.Moment.TheVariants as moment
use Rattle.eval_courses.specs.Courses.{acted, matched, reports_if_proceeding, walk_reports}
use Rattle.eval_courses.specs.Inner.{asking}
use Rattle.eval_courses.specs.Questions.{act_asks, can_be_asked, rule_asks, rules_ask, with_asked}
use Rattle.eval_courses.proofs.Gathering.{keys_gather, keys_told}

-- commands are added in two parts
asked_more : (before xs ys : List Text) → with_asked before (xs ++ ys) ≡ with_asked (with_asked before xs) ys
asked_more before xs ys = ap (with_texts before) (filter-append can_be_asked xs ys) ∙ fold-append with_text before (filter can_be_asked xs) (filter can_be_asked ys)

-- only acts ask
pub moments_ask_nothing : (asked : List Text) (m : Moment) (s : Scene) → asked ≡ asking asked (happening m) s
moments_ask_nothing asked (moment.Passed r) s = refl
moments_ask_nothing asked (moment.Entered r) s = refl
moments_ask_nothing asked (moment.Meeting r part) s = refl
moments_ask_nothing asked (moment.Searching r) s = refl
moments_ask_nothing asked (moment.Comparing r part) s = refl
moments_ask_nothing asked (moment.Stopped r) s = refl
moments_ask_nothing asked (moment.Skipped r) s = refl
moments_ask_nothing asked (moment.Left r reached) s = refl

if_silent : (f : Scene → List Text) → ((s : Scene) → f s ≡ []) → (went : Went) → reports_if_proceeding f went ≡ []
if_silent f h went = by went.1
  where
    by : (b : Bool) → cond b (f went.0) [] ≡ []
    by true = h went.0
    by false = refl

walk_silent : {P : Type 0} (step : P → Scene → Went) (parts : List P) (s : Scene) → walk_reports step (λ part t. []) parts s ≡ []
unfolding walk_reports
walk_silent step [] s = refl
walk_silent step (part ∷ parts) s = if_silent (walk_reports step (λ part t. []) parts) (walk_silent step parts) (step part s)

module _ (known : Known) where
  -- what is told of a rule's keys is what its acts ask
  keys_ask : (r : Rule) (s : Scene) → keys_told asking (with_asked []) known r (λ part t. []) (λ t. []) (λ act t. act_asks act.kind t.state) (λ part t. []) s ≡ rule_asks known r s
  unfolding rule_asks
  keys_ask r s =
      ap (λ xs. ((xs ++ reports_if_proceeding (λ t. []) (matched r s)) ++ rule_asks known r s) ++ reports_if_proceeding (walk_reports result_step (λ part t. []) r.results) (acted known r s)) (walk_silent (plain_step r) r.plain s)
      ∙ ap (λ xs. (xs ++ rule_asks known r s) ++ reports_if_proceeding (walk_reports result_step (λ part t. []) r.results) (acted known r s)) (if_silent (λ t. []) (λ t. refl) (matched r s))
      ∙ ap (λ xs. rule_asks known r s ++ xs) (if_silent (walk_reports result_step (λ part t. []) r.results) (walk_silent result_step r.results) (acted known r s))
      ∙ append-nil (rule_asks known r s)

  module _ (r : Rule) (s : Scene) (asked : List Text) where
    abbrev after : Went → Seen (List Text)
    after went = ((went.0, with_asked asked (rule_asks known r s)), went.1)

    keys_are : keys_watched asking known r (s, asked) ≡ after (before_sets known r s)
    keys_are =
        keys_gather asking (with_asked asked) known r (λ part t. []) (λ t. []) (λ act t. act_asks act.kind t.state) (λ part t. [])
        (λ part t texts. ap (with_asked asked) (sym (append-nil texts))) (λ t texts. ap (with_asked asked) (sym (append-nil texts)))
        (λ act t texts. sym (asked_more asked texts (act_asks act.kind t.state))) (λ part t texts. ap (with_asked asked) (sym (append-nil texts))) s []
        ∙ ap (λ texts. (((before_sets known r s).0, with_asked asked texts), (before_sets known r s).1)) (keys_ask r s)

    ends : (went : Went) → assigned_watched asking r (after went) ≡ after (if_proceeding (set_all r) went)
    ends went = by went.1
      where
        by : (b : Bool) → assigned_watched asking r (after (went.0, b)) ≡ after (if_proceeding (set_all r) (went.0, b))
        by true = refl
        by false = refl

    skips : (went : Went) → skip_told asking r (after went) ≡ with_asked asked (rule_asks known r s)
    skips went = by went.1
      where
        by : (b : Bool) → asking (with_asked asked (rule_asks known r s)) (cond b (skipped r) (stopped r)) went.0 ≡ with_asked asked (rule_asks known r s)
        by true = refl
        by false = refl

    rule_is : apply_watched asking known r (s, asked) ≡ after (apply known r s)
    unfolding apply apply_watched steps
    rule_is = by (is_idle r s.state.event)
      where
        by : (b : Bool) → cond b (skipped_watched asking known r (s, asked)) (assigned_watched asking r (keys_watched asking known r (s, asked))) ≡ after (cond b (only_noted known r s) (steps known r s))
        by true =
            ap (λ went. (((only_noted known r s).0, skip_told asking r went), false)) keys_are
            ∙ ap (λ w. (((only_noted known r s).0, w), false)) (skips (before_sets known r s))
        by false = ap (assigned_watched asking r) keys_are ∙ ends (before_sets known r s)

  rules_are : (rules : List Rule) (sought : Option Text) (s : Scene) (asked : List Text) → (run_watched asking known sought rules (s, asked)).1 ≡ with_asked asked (rules_ask known sought rules s)
  unfolding run_watched rules_ask
  rules_are [] sought s asked = refl
  rules_are (r ∷ rs) sought s asked =
      by (is_passed sought r) (rules_are rs sought s asked) (rules_are rs (sought_after (apply known r s).1 r) (apply known r s).0 (with_asked asked (rule_asks known r s)))
    where
      holds : Option Text → Scene → List Text → Type 0
      holds wanted t before = (run_watched asking known wanted rs (t, before)).1 ≡ with_asked before (rules_ask known wanted rs t)

      by : (b : Bool) → holds sought s asked → holds (sought_after (apply known r s).1 r) (apply known r s).0 (with_asked asked (rule_asks known r s))
          → (cond b (run_watched asking known sought rs (s, asked)) (run_watched asking known (sought_after (apply_watched asking known r (s, asked)).1 r) rs (apply_watched asking known r (s, asked)).0)).1
          ≡ with_asked asked (cond b (rules_ask known sought rs s) (rule_asks known r s ++ rules_ask known (sought_after (apply known r s).1 r) rs (apply known r s).0))
      by true over through = over
      by false over through =
          ap (λ (went : Seen (List Text)). (run_watched asking known (sought_after went.1 r) rs went.0).1) (rule_is r s asked)
          ∙ through
          ∙ sym (asked_more asked (rule_asks known r s) (rules_ask known (sought_after (apply known r s).1 r) rs (apply known r s).0))

  -- all that was asked
  pub all_asked : (rules : List Rule) (s t : Scene) (before after found : List Text) → before ≡ [] → (t, after) ≡ run_watched asking known None rules (s, before) → found ≡ after → found ≡ with_asked [] (rules_ask known None rules s)
  all_asked rules s t before after found none is taken =
      taken
      ∙ ap (λ (at : Scene × List Text). at.1) is
      ∙ ap (λ texts. (run_watched asking known None rules (s, texts)).1) none
      ∙ rules_are rules None s []
