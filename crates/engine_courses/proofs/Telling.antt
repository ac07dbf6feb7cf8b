-- What is told of all rules is what is reported for those that are asked for.
use Rattle.std.proofs.Common.{◌≡◌, Bool, true, false, cond, is_some, List, [], ◌∷◌, ◌++◌, Option, Some, None, append_assoc, append-nil, refl, ap, sym, ◌∙◌}
use Rattle.std.specs.List.{flat_map, fold}
use Rattle.std.specs.Option.{option_and_then}
use Rattle.std.proofs.lemmas.List.Concat.{flat_map-append}
use Rattle.text_bytes.specs.Text.{Text}
use Rattle.builtin_devices.specs.Knowledge.{Known}
use Rattle.rule_types.specs.Rules.{Rule}
use Rattle.rule_types.specs.declared.part.Assignment.{Assignment}
use Rattle.eval_state.specs.declared.scene.Scene.{Scene}
use Rattle.eval_acts.specs.Acts.{act_step}
use Rattle.eval_assignments.specs.Steps.{set_step}
use Rattle.eval_assignments.proofs.Staying.{Stays, set_stays}
use Rattle.eval_effects.specs.Effects.{ending}
use Rattle.eval_effects.specs.Since.{Since, no_since, since_after}
use Rattle.eval_rules.specs.Idle.{is_idle}
use Rattle.eval_rules.specs.Jumps.{is_passed, sought_after}
use Rattle.eval_rules.specs.Steps.{Went, apply}
use Rattle.eval_rules.specs.Watched.{Seen, apply_watched, entered_watched, left_watched, run_watched}
use Rattle.eval_courses.specs.Acts.{act_report}
use Rattle.eval_courses.specs.Courses.{course}
use Rattle.eval_courses.specs.Looks.{plain_report, result_report}
use Rattle.eval_courses.specs.Upward.{search_reports}
use Rattle.eval_courses.proofs.Told.{course_told}
use Rattle.engine_courses.specs.Asked.{is_asked}
use Rattle.engine_courses.specs.Inner.{Reporting, about_of, reporting, with_lines, with_texts}
use Rattle.engine_courses.specs.WhyLines.{jumping_after, passed_texts, reported_from, reported_if_asked, rule_lines, sought_by, why_line}

-- assignments leave the event
pub sets_stay : (r : Rule) (sets : List Assignment) (s : Scene) → Stays s (fold (set_step r) s sets)
sets_stay r [] s = refl
sets_stay r (a ∷ sets) s = sets_stay r sets (set_step r s a) ∙ set_stays r a s

-- texts are added in two parts
more : (w : Reporting) (xs ys : List Text) → with_texts (with_texts w xs) ys ≡ with_texts w (xs ++ ys)
more w xs ys = ap (λ lines. record w { lines = lines }) (by w.about)
  where
    by : (o : Option Rule) → with_lines o (with_lines o w.lines xs) ys ≡ with_lines o w.lines (xs ++ ys)
    by None = refl
    by (Some r) = append_assoc w.lines (rule_lines (r, xs)) (rule_lines (r, ys)) ∙ ap (λ lines. w.lines ++ lines) (sym (flat_map-append (why_line r.file r.line) xs ys))

none : (w : Reporting) → with_texts w [] ≡ w
none w = ap (λ lines. record w { lines = lines }) (by w.about)
  where
    by : (o : Option Rule) → with_lines o w.lines [] ≡ w.lines
    by None = refl
    by (Some r) = append-nil w.lines

-- texts on a rule are lines if it is asked for
lines_are : (why : List Text) (r : Rule) (lines : Text) (texts : List Text) → with_lines (about_of why r) lines texts ≡ lines ++ flat_map rule_lines (reported_if_asked why r texts)
lines_are why r lines texts = by (is_asked why r.file r.line)
  where
    by : (b : Bool) → with_lines (cond b (Some r) None) lines texts ≡ lines ++ flat_map rule_lines (cond b ((r, texts) ∷ []) [])
    by true = ap (λ all. lines ++ all) (sym (append-nil (rule_lines (r, texts))))
    by false = sym (append-nil lines)

-- the label that is sought is that of the rule that jumps
jump_is : (reached : Bool) (r : Rule) → sought_by (jumping_after reached r) ≡ sought_after reached r
jump_is false r = refl
jump_is true r = by r.goto refl
  where
    by : (o : Option Text) → r.goto ≡ o → option_and_then (λ (x : Rule). x.goto) (cond (is_some o) (Some r) None) ≡ o
    by None e = refl
    by (Some label) e = e

module _ (known : Known) where
  -- what is known after a rule
  abbrev after : Reporting → Rule → Scene → Reporting
  after w r s = record w {
    about = about_of w.why r;
    jumping = jumping_after (apply known r s).1 r;
    since = since_after w.since r (apply known r s).0.finals;
    lines = w.lines ++ flat_map rule_lines (reported_if_asked w.why r (course known w.since r s));
  }

  module _ (w : Reporting) (r : Rule) where
    abbrev within : Reporting
    within = record w { about = about_of w.why r }

    entered_is : (s : Scene) → entered_watched reporting known r (s, within) ≡ (((apply known r s).0, with_texts within (course known w.since r s)), (apply known r s).1)
    unfolding act_report
    entered_is s =
        ap (λ v. entered_watched reporting known r (s, v)) (sym (none within))
        ∙ course_told reporting (with_texts within) known w.since r
        (λ part t texts. more within texts (plain_report part t.state ∷ [])) (λ t texts. more within texts (search_reports (is_idle r t.state.event) r.up t.state)) (λ act t texts. more within texts (act_report known r act t ∷ []))
        (λ part t texts. more within texts (result_report part t.state ∷ [])) (λ t texts. more within texts _) (λ t texts. more within texts _) (λ t texts. more within texts (ending w.since r t ∷ [])) s []

    rule_is : (s : Scene) → apply_watched reporting known r (s, w) ≡ (((apply known r s).0, after w r s), (apply known r s).1)
    unfolding apply_watched
    rule_is s =
        ap (left_watched reporting r) (entered_is s)
        ∙ ap (λ lines. (((apply known r s).0, record (after w r s) { lines = lines }), (apply known r s).1)) (lines_are w.why r w.lines (course known w.since r s))

  abbrev told : Seen Reporting → Rule → List Rule → Text
  told went r rs = (run_watched reporting known (sought_after went.1 r) rs went.0).1.lines

  rules_are : (rules : List Rule) (s : Scene) (w : Reporting) → (run_watched reporting known (sought_by w.jumping) rules (s, w)).1.lines ≡ w.lines ++ flat_map rule_lines (reported_from w.why known w.since w.jumping rules s)
  unfolding run_watched reported_from
  rules_are [] s w = sym (append-nil w.lines)
  rules_are (r ∷ rs) s w =
      by (is_passed (sought_by w.jumping) r) (rules_are rs s (record w { lines = w.lines ++ flat_map rule_lines (reported_if_asked w.why r (passed_texts w.jumping)) })) (rules_are rs (apply known r s).0 (after w r s))
    where
      skipped : List (Rule × List Text)
      skipped = reported_if_asked w.why r (passed_texts w.jumping)

      reported : List (Rule × List Text)
      reported = reported_if_asked w.why r (course known w.since r s)

      rest : Went → List (Rule × List Text)
      rest went = reported_from w.why known (since_after w.since r went.0.finals) (jumping_after went.1 r) rs went.0

      joined : (here others : List (Rule × List Text)) → (w.lines ++ flat_map rule_lines here) ++ flat_map rule_lines others ≡ w.lines ++ flat_map rule_lines (here ++ others)
      joined here others = append_assoc w.lines (flat_map rule_lines here) (flat_map rule_lines others) ∙ ap (λ lines. w.lines ++ lines) (sym (flat_map-append rule_lines here others))

      over : Reporting
      over = record w { lines = w.lines ++ flat_map rule_lines skipped }

      holds : Scene → Reporting → Type 0
      holds t v = (run_watched reporting known (sought_by v.jumping) rs (t, v)).1.lines ≡ v.lines ++ flat_map rule_lines (reported_from v.why known v.since v.jumping rs t)

      by : (b : Bool) → holds s over → holds (apply known r s).0 (after w r s)
          → (cond b (run_watched reporting known (sought_by w.jumping) rs (s, over)) (run_watched reporting known (sought_after (apply_watched reporting known r (s, w)).1 r) rs (apply_watched reporting known r (s, w)).0)).1.lines
          ≡ w.lines ++ flat_map rule_lines (cond b (skipped ++ reported_from w.why known w.since w.jumping rs s) (reported ++ rest (apply known r s)))
      by true past through = past ∙ joined skipped (reported_from w.why known w.since w.jumping rs s)
      by false past through =
          ap (λ went. told went r rs) (rule_is w r s)
          ∙ ap (λ sought. (run_watched reporting known sought rs ((apply known r s).0, after w r s)).1.lines) (sym (jump_is (apply known r s).1 r))
          ∙ through
          ∙ joined reported (rest (apply known r s))

  -- all that is told of rules, none of which jumped before
  pub all_told : (why : List Text) (rules : List Rule) (s t : Scene) (w v : Reporting) (lines : Text) → w ≡ record { why = why; about = None; jumping = None; since = no_since; lines = [] } → (t, v) ≡ run_watched reporting known None rules (s, w)
      → lines ≡ v.lines → lines ≡ flat_map rule_lines (reported_from why known no_since None rules s)
  all_told why rules s t w v lines begun is taken =
      taken
      ∙ ap (λ (at : Scene × Reporting). at.1.lines) is
      ∙ ap (λ u. (run_watched reporting known None rules (s, u)).1.lines) begun
      ∙ rules_are rules s (record { why = why; about = None; jumping = None; since = no_since; lines = [] })
