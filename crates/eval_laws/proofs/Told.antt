-- What is told of a rule after others, and how long a course is.
use Rattle.std.proofs.Common.{◌≡◌, ℕ, ◌+◌, Bool, true, false, cond, List, [], ◌∷◌, ◌++◌, map, length, is_some, Option, Some, None, append_assoc, append-nil, length-append, arith, refl, ap, sym, ◌∙◌}
use Rattle.std.proofs.lemmas.List.{length-map}
use Rattle.text_bytes.specs.Text.{Text}
use Rattle.builtin_devices.specs.Knowledge.{Known}
use Rattle.rule_types.specs.Rules.{Rule}
use Rattle.rule_types.specs.declared.part.Comparison.{Comparison}
use Rattle.rule_types.specs.declared.part.Act.{Act}
use Rattle.rule_types.specs.declared.part.PlainMatch.{PlainMatch}
use Rattle.rule_types.specs.declared.part.UpMatch.{UpMatch}
use Rattle.device_core.specs.Values.{EventValue}
use Rattle.device_core.specs.Tried.{lacks_event}
use Rattle.eval_state.specs.Scenes.{start}
use Rattle.eval_state.specs.declared.scene.Scene.{Scene}
use Rattle.eval_state.specs.declared.state.State.{State}
use Rattle.eval_acts.specs.Acts.{act_step}
use Rattle.eval_rules.specs.Idle.{is_idle}
use Rattle.eval_rules.specs.Jumps.{is_passed, run, run_all, sought_after}
use Rattle.eval_rules.specs.Steps.{Went, apply, before_sets, plain_step, result_step}
use Rattle.eval_effects.specs.Since.{Since, no_since, since_after}
use Rattle.eval_courses.specs.Acts.{act_report}
use Rattle.eval_courses.specs.Courses.{acted, act_reports, course, end_of, event_reports, key_reports, matched, reports_if_proceeding, result_reports, searched, walk_reports}
use Rattle.eval_courses.specs.Looks.{plain_report, result_report}
use Rattle.eval_courses.specs.Upward.{found_report, search_reports, up_report}
use Rattle.eval_rendering.specs.Subjects.{found_place}
use Rattle.engine_courses.specs.WhyLines.{jumping_after, passed_texts, reported_for, reported_from, reported_if_asked, sought_by}
use Rattle.eval_laws.specs.Told.{jumping_over, lines_reached, reached_by, search_lines, since_through}

-- ---- rules one after another

-- the label that is sought after a rule is that of the jump that is followed
same_sought : (reached : Bool) (r : Rule) → sought_by (jumping_after reached r) ≡ sought_after reached r
same_sought false r = refl
same_sought true r = by r.goto refl
  where
    by : (goto : Option Text) → r.goto ≡ goto → sought_by (cond (is_some goto) (Some r) None) ≡ goto
    by None e = refl
    by (Some name) e = e

module _ (why : List Text) (known : Known) where
  -- what is told of one rule
  abbrev told : Since → Option Rule → Rule → Scene → List (Rule × List Text)
  told since jumping r s = reported_if_asked why r (cond (is_passed (sought_by jumping) r) (passed_texts jumping) (course known since r s))

  one : (since : Since) (jumping : Option Rule) (r : Rule) (s : Scene) → reported_from why known since jumping (r ∷ []) s ≡ told since jumping r s
  unfolding reported_from
  one since jumping r s = by (is_passed (sought_by jumping) r)
    where
      by : (b : Bool) → cond b (reported_if_asked why r (passed_texts jumping) ++ []) (reported_if_asked why r (course known since r s) ++ []) ≡ reported_if_asked why r (cond b (passed_texts jumping) (course known since r s))
      by true = append-nil (reported_if_asked why r (passed_texts jumping))
      by false = append-nil (reported_if_asked why r (course known since r s))

  last_told : (since : Since) (jumping : Option Rule) (before : List Rule) (r : Rule) (s : Scene)
      → reported_from why known since jumping (before ++ r ∷ []) s
      ≡ reported_from why known since jumping before s ++ told (since_through known since jumping before s) (jumping_over known jumping before s) r (run known (sought_by jumping) before s)
  unfolding reported_from since_through jumping_over run
  last_told since jumping [] r s = one since jumping r s
  last_told since jumping (q ∷ before) r s =
      by (is_passed (sought_by jumping) q) (last_told since jumping before r s)
      (last_told (since_after since q (apply known q s).0.finals) (jumping_after (apply known q s).1 q) before r (apply known q s).0
      ∙ ap (λ sought. reported_from why known (since_after since q (apply known q s).0.finals) (jumping_after (apply known q s).1 q) before (apply known q s).0
      ++ told (since_through known (since_after since q (apply known q s).0.finals) (jumping_after (apply known q s).1 q) before (apply known q s).0)
      (jumping_over known (jumping_after (apply known q s).1 q) before (apply known q s).0) r (run known sought before (apply known q s).0)) (same_sought (apply known q s).1 q))
    where
      t : Scene
      t = (apply known q s).0

      later : Since
      later = since_after since q t.finals

      next : Option Rule
      next = jumping_after (apply known q s).1 q

      sought : Option Text
      sought = sought_after (apply known q s).1 q

      by : (b : Bool)
          → reported_from why known since jumping (before ++ r ∷ []) s
          ≡ reported_from why known since jumping before s ++ told (since_through known since jumping before s) (jumping_over known jumping before s) r (run known (sought_by jumping) before s)
          → reported_from why known later next (before ++ r ∷ []) t
          ≡ reported_from why known later next before t ++ told (since_through known later next before t) (jumping_over known next before t) r (run known sought before t)
          → cond b (reported_if_asked why q (passed_texts jumping) ++ reported_from why known since jumping (before ++ r ∷ []) s) (reported_if_asked why q (course known since q s) ++ reported_from why known later next (before ++ r ∷ []) t)
          ≡ cond b (reported_if_asked why q (passed_texts jumping) ++ reported_from why known since jumping before s) (reported_if_asked why q (course known since q s) ++ reported_from why known later next before t)
          ++ told (cond b (since_through known since jumping before s) (since_through known later next before t)) (cond b (jumping_over known jumping before s) (jumping_over known next before t)) r (cond b (run known (sought_by jumping) before s) (run known sought before t))
      by true h k =
          ap (λ texts. reported_if_asked why q (passed_texts jumping) ++ texts) h
          ∙ sym (append_assoc (reported_if_asked why q (passed_texts jumping)) (reported_from why known since jumping before s) (told (since_through known since jumping before s) (jumping_over known jumping before s) r (run known (sought_by jumping) before s)))
      by false h k =
          ap (λ texts. reported_if_asked why q (course known since q s) ++ texts) k
          ∙ sym (append_assoc (reported_if_asked why q (course known since q s)) (reported_from why known later next before t) (told (since_through known later next before t) (jumping_over known next before t) r (run known sought before t)))

-- what is told of the last of some rules
pub last_of_rules : (why : List Text) (before : List Rule) (r : Rule) (known : Known) (event : EventValue) → lacks_event event ≡ false
    → reported_for why (before ++ r ∷ []) known event
    ≡ reported_for why before known event
    ++ reported_if_asked why r
    (cond (is_passed (sought_by (jumping_over known None before (start event))) r) (passed_texts (jumping_over known None before (start event)))
    (course known (since_through known no_since None before (start event)) r (run_all known before (start event))))
last_of_rules why before r known event has =
    let last : List (Rule × List Text) =
    reported_if_asked why r
    (cond (is_passed (sought_by (jumping_over known None before (start event))) r) (passed_texts (jumping_over known None before (start event)))
    (course known (since_through known no_since None before (start event)) r (run_all known before (start event)))) in
    ap (λ (lacks : Bool). reported_from why known no_since None (cond lacks [] (before ++ r ∷ [])) (start event)) has
    ∙ last_told why known no_since None before r (start event)
    ∙ sym (ap (λ (lacks : Bool). reported_from why known no_since None (cond lacks [] before) (start event) ++ last) has)

-- at a device without an event nothing is told
pub none_told : (why : List Text) (rules : List Rule) (known : Known) (event : EventValue) → lacks_event event ≡ true → reported_for why rules known event ≡ []
unfolding reported_from
none_told why rules known event lacks = ap (λ (none : Bool). reported_from why known no_since None (cond none [] rules) (start event)) lacks

-- ---- one course

-- the texts of one part are one
walk_length : {P : Type 0} (step : P → Scene → Went) (text : P → Scene → Text) (ps : List P) (s : Scene) → length (walk_reports step (λ p t. text p t ∷ []) ps s) ≡ reached_by step ps s
unfolding walk_reports reached_by
walk_length step text [] s = refl
walk_length {P} step text (p ∷ ps) s = by (step p s).1 (walk_length step text ps (step p s).0)
  where
    by : (b : Bool) → length (walk_reports step (λ p t. text p t ∷ []) ps (step p s).0) ≡ reached_by step ps (step p s).0
        → length (text p s ∷ [] ++ cond b (walk_reports step (λ p t. text p t ∷ []) ps (step p s).0) []) ≡ 1 + cond b (reached_by step ps (step p s).0) 0
    by true h = omega (arith, h)
    by false h = refl

-- what is told only if a rule goes on
proceeding_length : (reported : Scene → List Text) (count : Scene → ℕ) (w : Went) → ((t : Scene) → length (reported t) ≡ count t) → length (reports_if_proceeding reported w) ≡ cond w.1 (count w.0) 0
proceeding_length reported count w h = by w.1
  where
    by : (b : Bool) → length (cond b (reported w.0) []) ≡ cond b (count w.0) 0
    by true = h w.0
    by false = refl

search_length : (idle : Bool) (parts : List UpMatch) (state : State) → length (search_reports idle parts state) ≡ search_lines parts
unfolding search_reports
search_length idle [] state = refl
search_length idle (part ∷ parts) state =
    length-append (map (λ (each : UpMatch). up_report each state) (part ∷ parts)) (found_report idle (part ∷ parts) state (found_place (part ∷ parts) state) ∷ [])
    ∙ ap (λ n. n + 1) (length-map (part ∷ parts) (λ (each : UpMatch). up_report each state))

keys_length : (known : Known) (r : Rule) (s : Scene) → length (key_reports known r s) ≡ lines_reached known r s
unfolding key_reports
keys_length known r s =
    let plains : List Text = event_reports r r.plain s in
    let found : List Text = reports_if_proceeding (λ (t : Scene). search_reports (is_idle r t.state.event) r.up t.state) (matched r s) in
    let acts : List Text = reports_if_proceeding (act_reports known r r.acts) (searched r s) in
    let results : List Text = reports_if_proceeding (result_reports r.results) (acted known r s) in
    let a : length plains ≡ reached_by (plain_step r) r.plain s = walk_length (plain_step r) (λ (part : PlainMatch) (t : Scene). plain_report part t.state) r.plain s in
    let b : length found ≡ cond (matched r s).1 (search_lines r.up) 0 = proceeding_length (λ (t : Scene). search_reports (is_idle r t.state.event) r.up t.state) (λ (t : Scene). search_lines r.up) (matched r s) (λ t. search_length (is_idle r t.state.event) r.up t.state) in
    let c : length acts ≡ cond (searched r s).1 (reached_by (act_step known r) r.acts (searched r s).0) 0 =
    proceeding_length (act_reports known r r.acts) (λ (t : Scene). reached_by (act_step known r) r.acts t) (searched r s) (λ t. walk_length (act_step known r) (λ (act : Act) (u : Scene). act_report known r act u) r.acts t) in
    let d : length results ≡ cond (acted known r s).1 (reached_by result_step r.results (acted known r s).0) 0 =
    proceeding_length (result_reports r.results) (λ (t : Scene). reached_by result_step r.results t) (acted known r s) (λ t. walk_length result_step (λ (part : Comparison) (u : Scene). result_report part u.state) r.results t) in
    omega (arith, length-append (plains ++ found ++ acts) results, length-append (plains ++ found) acts, length-append plains found, a, b, c, d)

pub course_length : (known : Known) (since : Since) (r : Rule) (s : Scene) → length (course known since r s) ≡ lines_reached known r s + 1
unfolding course
course_length known since r s =
    length-append (key_reports known r s) (end_of (is_idle r s.state.event) since r (before_sets known r s) ∷ []) ∙ ap (λ n. n + 1) (keys_length known r s)
