-- What a watcher gathers of a rule: what it holds grows by what is told of each key, and of the end.
use Rattle.std.proofs.Common.{◌≡◌, Bool, true, false, cond, List, [], ◌∷◌, ◌++◌, append_assoc, append-nil, ap, sym, ◌∙◌}
use Rattle.text_bytes.specs.Text.{Text}
use Rattle.builtin_devices.specs.Knowledge.{Known}
use Rattle.rule_types.specs.declared.part.Act.{Act}
use Rattle.rule_types.specs.declared.part.Comparison.{Comparison}
use Rattle.rule_types.specs.declared.part.PlainMatch.{PlainMatch}
use Rattle.rule_types.specs.Rules.{Rule}
use Rattle.eval_state.specs.declared.scene.Scene.{Scene}
use Rattle.eval_acts.specs.Acts.{act_step}
use Rattle.eval_rules.specs.Steps.{Went, before_sets, if_proceeding, plain_step, result_step, search, walk}
use Rattle.eval_rules.specs.Watched.{Seen, Telling, acted, comparing, keys_watched, meeting, searching, told}
use Rattle.eval_courses.specs.Courses.{acted as after_acts, matched, reports_if_proceeding, searched, walk_reports}

module _ {W : Type 0} (tell : Telling W) (held : List Text → W) where
  abbrev pub seen : Went → List Text → Seen W
  seen went texts = ((went.0, held texts), went.1)

  on_gathers : (next : Scene → Went) (watched : Scene × W → Seen W) (reported : Scene → List Text) → ((s : Scene) (texts : List Text) → watched (s, held texts) ≡ seen (next s) (texts ++ reported s))
      → (went : Went) (texts : List Text) → if_proceeding watched (seen went texts) ≡ seen (if_proceeding next went) (texts ++ reports_if_proceeding reported went)
  on_gathers next watched reported h went texts = by went.1
    where
      by : (b : Bool) → cond b (watched (went.0, held texts)) ((went.0, held texts), b) ≡ seen (cond b (next went.0) (went.0, b)) (texts ++ cond b (reported went.0) [])
      by true = h went.0 texts
      by false = ap (λ all. ((went.0, held all), false)) (sym (append-nil texts))

  walk_gathers : {P : Type 0} (step : P → Scene → Went) (watched : P → Scene × W → Seen W) (reported : P → Scene → List Text)
      → ((part : P) (s : Scene) (texts : List Text) → watched part (s, held texts) ≡ seen (step part s) (texts ++ reported part s)) → (parts : List P) (s : Scene) (texts : List Text)
      → walk watched parts (s, held texts) ≡ seen (walk step parts s) (texts ++ walk_reports step reported parts s)
  unfolding walk walk_reports
  walk_gathers step watched reported h [] s texts = ap (λ all. ((s, held all), true)) (sym (append-nil texts))
  walk_gathers step watched reported h (part ∷ parts) s texts =
      let more : List Text = reports_if_proceeding (walk_reports step reported parts) (step part s) in
      ap (if_proceeding (walk watched parts)) (h part s texts)
      ∙ on_gathers (walk step parts) (walk watched parts) (walk_reports step reported parts) (walk_gathers step watched reported h parts) (step part s) (texts ++ reported part s)
      ∙ ap (seen (if_proceeding (walk step parts) (step part s))) (append_assoc texts (reported part s) more)

  module _ (known : Known) (r : Rule) (meets : PlainMatch → Scene → List Text) (searches : Scene → List Text) (acts : Act → Scene → List Text) (compares : Comparison → Scene → List Text) where
    -- what is told of the keys of a rule that are reached
    abbrev pub keys_told : Scene → List Text
    keys_told s =
        walk_reports (plain_step r) meets r.plain s
        ++ reports_if_proceeding searches (matched r s)
        ++ reports_if_proceeding (walk_reports (act_step known r) acts r.acts) (searched r s)
        ++ reports_if_proceeding (walk_reports result_step compares r.results) (after_acts known r s)

    pub keys_gather : ((part : PlainMatch) (s : Scene) (texts : List Text) → tell (held texts) (meeting r part) s ≡ held (texts ++ meets part s))
        → ((s : Scene) (texts : List Text) → tell (held texts) (searching r) s ≡ held (texts ++ searches s))
        → ((act : Act) (s : Scene) (texts : List Text) → tell (held texts) (acted r act (act_step known r act s)) s ≡ held (texts ++ acts act s))
        → ((part : Comparison) (s : Scene) (texts : List Text) → tell (held texts) (comparing r part) s ≡ held (texts ++ compares part s))
        → (s : Scene) (texts : List Text) → keys_watched tell known r (s, held texts) ≡ seen (before_sets known r s) (texts ++ keys_told s)
    keys_gather meet search_told act compare s texts =
        let first : List Text = walk_reports (plain_step r) meets r.plain s in
        let second : List Text = reports_if_proceeding searches (matched r s) in
        let third : List Text = reports_if_proceeding (walk_reports (act_step known r) acts r.acts) (searched r s) in
        let fourth : List Text = reports_if_proceeding (walk_reports result_step compares r.results) (after_acts known r s) in
        let meets_watched : PlainMatch → Scene × W → Seen W = told tell (λ part went. meeting r part) (plain_step r) in
        let search_watched : Scene × W → Seen W = told tell (λ parts went. searching r) search r.up in
        let acts_watched : Act → Scene × W → Seen W = told tell (acted r) (act_step known r) in
        let compares_watched : Comparison → Scene × W → Seen W = told tell (λ part went. comparing r part) result_step in
        ap (λ went. if_proceeding (walk compares_watched r.results) (if_proceeding (walk acts_watched r.acts) (if_proceeding search_watched went)))
        (walk_gathers (plain_step r) meets_watched meets (λ part t more. ap (λ w. (((plain_step r part t).0, w), (plain_step r part t).1)) (meet part t more)) r.plain s texts)
        ∙ ap (λ went. if_proceeding (walk compares_watched r.results) (if_proceeding (walk acts_watched r.acts) went))
        (on_gathers (search r.up) search_watched searches (λ t more. ap (λ w. (((search r.up t).0, w), (search r.up t).1)) (search_told t more)) (matched r s) (texts ++ first))
        ∙ ap (if_proceeding (walk compares_watched r.results))
        (on_gathers (walk (act_step known r) r.acts) (walk acts_watched r.acts) (walk_reports (act_step known r) acts r.acts)
        (walk_gathers (act_step known r) acts_watched acts (λ part t more. ap (λ w. (((act_step known r part t).0, w), (act_step known r part t).1)) (act part t more)) r.acts) (searched r s) ((texts ++ first) ++ second))
        ∙ on_gathers (walk result_step r.results) (walk compares_watched r.results) (walk_reports result_step compares r.results)
        (walk_gathers result_step compares_watched compares (λ part t more. ap (λ w. (((result_step part t).0, w), (result_step part t).1)) (compare part t more)) r.results) (after_acts known r s) (((texts ++ first) ++ second) ++ third)
        ∙ ap (seen (before_sets known r s))
        (ap (λ all. (all ++ third) ++ fourth) (append_assoc texts first second)
        ∙ ap (λ all. all ++ fourth) (append_assoc texts (first ++ second) third)
        ∙ append_assoc texts ((first ++ second) ++ third) fourth)
