-- Whatever watches, the scene becomes what it would be anyway.
use Rattle.std.proofs.Common.{◌≡◌, Bool, true, false, cond, List, [], ◌∷◌, Option, Result, Ok, Err, OnErr, refl, ap, sym, ◌∙◌}
use Rattle.text_bytes.specs.Text.{Text}
use Rattle.builtin_devices.specs.Knowledge.{Known}
use Rattle.rule_types.specs.declared.part.Act.{Act}
use Rattle.rule_types.specs.declared.part.Comparison.{Comparison}
use Rattle.rule_types.specs.declared.part.PlainMatch.{PlainMatch}
use Rattle.rule_types.specs.Rules.{Rule}
use Rattle.eval_state.specs.declared.scene.Scene.{Scene}
use Rattle.eval_acts.specs.Acts.{act_step}
use Rattle.eval_rules.specs.Idle.{is_idle, note_all}
use Rattle.eval_rules.specs.Jumps.{is_passed, run, sought_after}
use Rattle.eval_rules.specs.Steps.{Went, apply, before_sets, if_proceeding, only_noted, plain_step, result_step, search, set_all, steps, walk, with_selected}
use Rattle.eval_rules.specs.Watched.{Happening, Seen, Telling, acted, apply_watched, assigned_watched, comparing, entered, entered_watched, keys_watched, meeting, passed, run_watched, searching, skip_told, skipped_watched, told}
use Rattle.eval_rules.proofs.Skipped.{passed_is}
use Rattle.eval_rules.proofs.Staying.{event_stays}

-- what holds anyway holds of an error
pub on_err : {T E P : Type 0} (r : Result T E) → P → OnErr r P
on_err (Ok x) p = tt
on_err (Err e) p = p

-- a step after others that let the rule go on, and one that is not made
after : {S : Type 0} (next : S → S × Bool) (went : S × Bool) (s t : S) (a b : Bool) → (s, a) ≡ went → a ≡ true → (t, b) ≡ next s → (t, b) ≡ if_proceeding next went
after next went s t a b is on goes = goes ∙ ap (if_proceeding next) (ap (λ c. (s, c)) (sym on) ∙ is)

halted : {S : Type 0} (next : S → S × Bool) (went : S × Bool) (s : S) (a : Bool) → (s, a) ≡ went → a ≡ false → (s, false) ≡ if_proceeding next went
halted next went s a is off = ap (if_proceeding next) (ap (λ c. (s, c)) (sym off) ∙ is)

module _ {W : Type 0} (tell : Telling W) (known : Known) where
  -- what becomes of the scene
  abbrev pub bare : Seen W → Went
  bare went = (went.0.0, went.1)

  if_bare : (next : Scene → Went) (seen : Scene × W → Seen W) → ((at : Scene × W) → bare (seen at) ≡ next at.0) → (w : Went) (v : Seen W) → bare v ≡ w
      → bare (if_proceeding seen v) ≡ if_proceeding next w
  if_bare next seen h w v e = by v.1 ∙ ap (if_proceeding next) e
    where
      by : (b : Bool) → bare (if_proceeding seen (v.0, b)) ≡ if_proceeding next (v.0.0, b)
      by true = h v.0
      by false = refl

  walk_bare : {P : Type 0} (step : P → Scene → Went) (happening : P → Went → Happening) (parts : List P) (at : Scene × W)
      → bare (walk (told tell happening step) parts at) ≡ walk step parts at.0
  unfolding walk
  walk_bare step happening [] at = refl
  walk_bare step happening (p ∷ ps) at =
      if_bare (walk step ps) (walk (told tell happening step) ps) (walk_bare step happening ps) (step p at.0) (told tell happening step p at) refl

  pub keys_bare : (r : Rule) (at : Scene × W) → bare (keys_watched tell known r at) ≡ before_sets known r at.0
  keys_bare r at =
      if_bare (walk result_step r.results) (walk (told tell (λ part went. comparing r part) result_step) r.results) (walk_bare result_step (λ part went. comparing r part) r.results) _ _
      (if_bare (walk (act_step known r) r.acts) (walk (told tell (acted r) (act_step known r)) r.acts) (walk_bare (act_step known r) (acted r) r.acts) _ _
      (if_bare (search r.up) (told tell (λ parts went. searching r) search r.up) (λ t. refl) _ _
      (walk_bare (plain_step r) (λ part went. meeting r part) r.plain at)))

  assigned_bare : (r : Rule) (at : Scene × W) → bare (assigned_watched tell r (keys_watched tell known r at)) ≡ steps known r at.0
  unfolding steps
  assigned_bare r at = by (keys_watched tell known r at).1 ∙ ap (if_proceeding (set_all r)) (keys_bare r at)
    where
      by : (b : Bool) → bare (assigned_watched tell r ((keys_watched tell known r at).0, b)) ≡ if_proceeding (set_all r) ((keys_watched tell known r at).0.0, b)
      by true = refl
      by false = refl

  pub entered_bare : (r : Rule) (at : Scene × W) → bare (entered_watched tell known r at) ≡ apply known r at.0
  unfolding apply
  entered_bare r at = by (is_idle r at.0.state.event)
    where
      by : (b : Bool) → bare (cond b (skipped_watched tell known r at) (assigned_watched tell r (keys_watched tell known r at))) ≡ cond b (only_noted known r at.0) (steps known r at.0)
      by true = refl
      by false = assigned_bare r at

  pub apply_bare : (r : Rule) (at : Scene × W) → bare (apply_watched tell known r at) ≡ apply known r at.0
  unfolding apply_watched
  apply_bare r at = entered_bare r (at.0, tell at.1 (entered r) at.0)

  -- the event of a rule that is entered stays
  pub entered_event : (r : Rule) (s t : Scene) (w v : W) (on : Bool) → ((t, v), on) ≡ entered_watched tell known r (s, w) → t.state.event ≡ s.state.event
  entered_event r s t w v on e = ap (λ (g : Went). g.0.state.event) (ap bare e ∙ entered_bare r (s, w)) ∙ event_stays known r s

  -- the four steps of the keys, by their parts
  abbrev met : Rule → List PlainMatch → Scene × W → Seen W
  met r parts at = walk (told tell (λ part went. meeting r part) (plain_step r)) parts at

  abbrev sought : Rule → Scene × W → Seen W
  sought r at = told tell (λ parts went. searching r) search r.up at

  abbrev done : Rule → List Act → Scene × W → Seen W
  done r parts at = walk (told tell (acted r) (act_step known r)) parts at

  abbrev compared : Rule → List Comparison → Scene × W → Seen W
  compared r parts at = walk (told tell (λ part went. comparing r part) result_step) parts at

  -- the search stops the rule
  pub search_stops : (r : Rule) (plain : List PlainMatch) (at s t : Scene × W) (a b : Bool) → plain ≡ r.plain → (s, a) ≡ met r plain at → a ≡ true → (t, b) ≡ sought r s → b ≡ false
      → (t, false) ≡ keys_watched tell known r at
  search_stops r plain at s t a b ps first on second off =
      halted (compared r r.results) (if_proceeding (done r r.acts) (if_proceeding (sought r) (met r r.plain at))) t false
      (halted (done r r.acts) (if_proceeding (sought r) (met r r.plain at)) t b (after (sought r) (met r r.plain at) s t a b (first ∙ ap (λ parts. met r parts at) ps) on second) off) refl

  -- an act stops the rule
  pub act_stops : (r : Rule) (plain : List PlainMatch) (acts : List Act) (at s t u : Scene × W) (a b d : Bool) → plain ≡ r.plain → (s, a) ≡ met r plain at → a ≡ true
      → (t, b) ≡ sought r s → b ≡ true → acts ≡ r.acts → (u, d) ≡ done r acts t → d ≡ false → (u, false) ≡ keys_watched tell known r at
  act_stops r plain acts at s t u a b d ps first on second goes qs third off =
      halted (compared r r.results) (if_proceeding (done r r.acts) (if_proceeding (sought r) (met r r.plain at))) u d
      (after (done r r.acts) (if_proceeding (sought r) (met r r.plain at)) t u b d
      (after (sought r) (met r r.plain at) s t a b (first ∙ ap (λ parts. met r parts at) ps) on second) goes (third ∙ ap (λ parts. done r parts t) qs)) off

  -- the rule comes to the matches of the result
  pub keys_end : (r : Rule) (plain : List PlainMatch) (acts : List Act) (results : List Comparison) (at s t u x : Scene × W) (a b d e : Bool) → plain ≡ r.plain → (s, a) ≡ met r plain at → a ≡ true
      → (t, b) ≡ sought r s → b ≡ true → acts ≡ r.acts → (u, d) ≡ done r acts t → d ≡ true → results ≡ r.results → (x, e) ≡ compared r results u → (x, e) ≡ keys_watched tell known r at
  keys_end r plain acts results at s t u x a b d e ps first on second goes qs third comes rs last =
      after (compared r r.results) (if_proceeding (done r r.acts) (if_proceeding (sought r) (met r r.plain at))) u x d e
      (after (done r r.acts) (if_proceeding (sought r) (met r r.plain at)) t u b d
      (after (sought r) (met r r.plain at) s t a b (first ∙ ap (λ parts. met r parts at) ps) on second) goes (third ∙ ap (λ parts. done r parts t) qs)) comes
      (last ∙ ap (λ parts. compared r parts u) rs)

  pub run_bare : (rules : List Rule) (sought : Option Text) (at : Scene × W) → (run_watched tell known sought rules at).0 ≡ run known sought rules at.0
  unfolding run run_watched
  run_bare [] sought at = refl
  run_bare (r ∷ rs) sought at =
      by (is_passed sought r) (run_bare rs sought (at.0, tell at.1 (passed r) at.0)) (run_bare rs (sought_after (apply_watched tell known r at).1 r) (apply_watched tell known r at).0)
    where
      by : (b : Bool) → (run_watched tell known sought rs (at.0, tell at.1 (passed r) at.0)).0 ≡ run known sought rs at.0
          → (run_watched tell known (sought_after (apply_watched tell known r at).1 r) rs (apply_watched tell known r at).0).0 ≡ run known (sought_after (apply_watched tell known r at).1 r) rs (apply_watched tell known r at).0.0
          → (cond b (run_watched tell known sought rs (at.0, tell at.1 (passed r) at.0)) (run_watched tell known (sought_after (apply_watched tell known r at).1 r) rs (apply_watched tell known r at).0)).0
          ≡ cond b (run known sought rs at.0) (run known (sought_after (apply known r at.0).1 r) rs (apply known r at.0).0)
      by true over on = over
      by false over on = on ∙ ap (λ (w : Went). run known (sought_after w.1 r) rs w.0) (apply_bare r at)

  -- a part that is told once it is done
  pub told_is : {P : Type 0} (happening : P → Went → Happening) (step : P → Scene → Went) (p : P) (s t : Scene) (w v : W) (on : Bool) → (t, on) ≡ step p s → v ≡ tell w (happening p (t, on)) s
      → ((t, v), on) ≡ told tell happening step p (s, w)
  told_is happening step p s t w v on went said = ap (λ x. ((t, x), on)) said ∙ ap (λ (g : Went). ((g.0, tell w (happening p g) s), g.1)) went

  -- a rule that is evaluated
  pub applied : (r : Rule) (s t : Scene) (w v : W) (on : Bool) → ((t, v), on) ≡ apply_watched tell known r (s, w) → (t, on) ≡ apply known r s
  applied r s t w v on e = ap bare e ∙ apply_bare r (s, w)

  -- all rules
  pub ran : (rules : List Rule) (sought : Option Text) (s t : Scene) (w v : W) → (t, v) ≡ run_watched tell known sought rules (s, w) → t ≡ run known sought rules s
  ran rules sought s t w v e = ap (λ (at : Scene × W). at.0) e ∙ run_bare rules sought (s, w)

  -- a rule that is skipped
  pub skipped_is : (r : Rule) (s t u : Scene) (w v x : W) (on : Bool) → is_idle r s.state.event ≡ true → ((t, v), on) ≡ keys_watched tell known r (s, w) → x ≡ skip_told tell r ((t, v), on)
      → u ≡ (if_proceeding (note_all r) (t, on)).0
      → ((record u { finals = s.finals; state = with_selected s.state.selected u.state }, x), false) ≡ skipped_watched tell known r (s, w)
  skipped_is r s t u w v x on idle keys said made =
      ap (λ y. ((record u { finals = s.finals; state = with_selected s.state.selected u.state }, y), false)) (said ∙ ap (skip_told tell r) keys)
      ∙ ap (λ (p : Went). ((p.0, skip_told tell r (keys_watched tell known r (s, w))), false)) (passed_is known r s t u on idle (ap bare keys ∙ keys_bare r (s, w)) made)
