-- What is kept while rules run says where items come from.
use Rattle.std.proofs.Common.{◌≡◌, Bool, true, false, List, [], ◌∷◌, ◌++◌, Option, Some, append_assoc, cond, refl, ap, subst, sym, ◌∙◌}
use Rattle.text_bytes.specs.Text.{Text}
use Rattle.builtin_devices.specs.Knowledge.{Known}
use Rattle.rule_types.specs.Rules.{Rule}
use Rattle.eval_state.specs.declared.scene.Scene.{Scene}
use Rattle.eval_acts.specs.Acts.{act_step}
use Rattle.eval_rules.specs.Idle.{is_idle}
use Rattle.eval_rules.specs.Jumps.{is_passed, sought_after}
use Rattle.eval_rules.specs.Steps.{Went, apply, if_proceeding, plain_step, result_step, search, walk}
use Rattle.eval_rules.specs.Watched.{Happening, Seen, acted, apply_watched, assigned_watched, comparing, entered_watched, keys_watched, meeting, run_watched, searching, skipped, skipped_watched, stopped, told}
use Rattle.eval_rules.proofs.Watching.{apply_bare}
use Rattle.eval_effects.specs.Items.{items}
use Rattle.eval_sources.specs.Inner.{Keeper, Keeps, Proceeds, can_change, keeping, kept_after_rule, told_after}
use Rattle.eval_sources.specs.Sources.{Reports, Source, Stage}
use Rattle.eval_sources.specs.Reported.{stages_from}
use Rattle.eval_sources.specs.Touched.{sizes}
use Rattle.eval_sources.proofs.Keeping.{keeps_same, reports}
use Rattle.eval_sources.proofs.Quiet.{items_stay, sizes_stay}
use Rattle.eval_sources.proofs.Touching.{told_on}

module _ (known : Known) where
  -- ---- a keeper hears of no key

  if_unheard : (next : Scene × Keeper → Seen Keeper) → ((at : Scene × Keeper) → (next at).0.1 ≡ at.1) → (v : Seen Keeper) → (if_proceeding next v).0.1 ≡ v.0.1
  if_unheard next h v = by v.1
    where
      by : (b : Bool) → (cond b (next v.0) v).0.1 ≡ v.0.1
      by true = h v.0
      by false = refl

  walk_unheard : {P : Type 0} (step : P → Scene → Went) (happening : P → Went → Happening) → ((p : P) (went : Went) (w : Keeper) (s : Scene) → keeping w (happening p went) s ≡ w)
      → (parts : List P) (at : Scene × Keeper) → (walk (told keeping happening step) parts at).0.1 ≡ at.1
  unfolding walk
  walk_unheard step happening h [] at = refl
  walk_unheard step happening h (p ∷ ps) at =
      if_unheard (walk (told keeping happening step) ps) (walk_unheard step happening h ps) (told keeping happening step p at) ∙ h p (step p at.0) at.1 at.0

  keys_unheard : (r : Rule) (at : Scene × Keeper) → (keys_watched keeping known r at).0.1 ≡ at.1
  keys_unheard r at =
      let plain : Scene × Keeper → Seen Keeper = walk (told keeping (λ part went. meeting r part) (plain_step r)) r.plain in
      let up : Scene × Keeper → Seen Keeper = told keeping (λ parts went. searching r) search r.up in
      let act : Scene × Keeper → Seen Keeper = walk (told keeping (acted r) (act_step known r)) r.acts in
      let compare : Scene × Keeper → Seen Keeper = walk (told keeping (λ part went. comparing r part) result_step) r.results in
      if_unheard compare (walk_unheard result_step (λ part went. comparing r part) (λ p went w s. refl) r.results) (if_proceeding act (if_proceeding up (plain at)))
      ∙ if_unheard act (walk_unheard (act_step known r) (acted r) (λ p went w s. refl) r.acts) (if_proceeding up (plain at))
      ∙ if_unheard up (λ t. refl) (plain at)
      ∙ walk_unheard (plain_step r) (λ part went. meeting r part) (λ p went w s. refl) r.plain at

  entered_unheard : (r : Rule) (at : Scene × Keeper) → (entered_watched keeping known r at).0.1 ≡ at.1
  entered_unheard r at = by (is_idle r at.0.state.event)
    where
      skip : (v : Seen Keeper) (on : Bool) → v.0.1 ≡ at.1 → keeping v.0.1 (cond on (skipped r) (stopped r)) v.0.0 ≡ at.1
      skip v true h = h
      skip v false h = h

      assign : (v : Seen Keeper) (on : Bool) → v.0.1 ≡ at.1 → (assigned_watched keeping r (v.0, on)).0.1 ≡ at.1
      assign v true h = h
      assign v false h = h

      by : (b : Bool) → (cond b (skipped_watched keeping known r at) (assigned_watched keeping r (keys_watched keeping known r at))).0.1 ≡ at.1
      by true = skip (keys_watched keeping known r at) (keys_watched keeping known r at).1 (keys_unheard r at)
      by false = assign (keys_watched keeping known r at) (keys_watched keeping known r at).1 (keys_unheard r at)

  -- the scene after a rule, and what is kept once it is left
  abbrev scene_after : Rule → Scene → Scene
  scene_after r s = (apply known r s).0

  abbrev keeper_after : Rule → Scene → Keeper → Keeper
  keeper_after r s w = kept_after_rule w r (apply known r s).1 (apply known r s).0

  applied : (r : Rule) (s : Scene) (w : Keeper) → apply_watched keeping known r (s, w) ≡ ((scene_after r s, keeper_after r s w), (apply known r s).1)
  unfolding apply_watched
  applied r s w =
      let e : Seen Keeper = entered_watched keeping known r (s, w) in
      let went : (e.0.0, e.1) ≡ apply known r s = apply_bare keeping known r (s, w) in
      let unheard : e.0.1 ≡ w = entered_unheard r (s, w) in
      λ i. (((went i).0, kept_after_rule (unheard i) r (went i).1 (went i).0), (went i).1)

  -- one rule more
  one_more : (r : Rule) (s : Scene) (w : Keeper) (before : List Stage) (last source : Source) → source ≡ Some r → w.0 ≡ sizes s → Keeps (before ++ (last, items s) ∷ []) (items s) w.1
      → ((keeper_after r s w).0 ≡ sizes (scene_after r s)) × Keeps (before ++ (last, items s) ∷ (source, items (scene_after r s)) ∷ []) (items (scene_after r s)) (keeper_after r s w).1
  unfolding Proceeds
  one_more r s w before last source from was keeps =
      subst (λ (o : Source). ((keeper_after r s w).0 ≡ sizes (scene_after r s)) × Keeps (before ++ (last, items s) ∷ (o, items (scene_after r s)) ∷ []) (items (scene_after r s)) (keeper_after r s w).1)
      (sym from) (by (can_change (apply known r s).1 r) refl)
    where
      t : Scene
      t = (apply known r s).0

      by : (b : Bool) → can_change (apply known r s).1 r ≡ b
          → ((cond b (sizes t, told_after r w.0 t w.1) w).0 ≡ sizes t) × Keeps (before ++ (last, items s) ∷ (Some r, items t) ∷ []) (items t) (cond b (sizes t, told_after r w.0 t w.1) w).1
      by true e = (refl, told_on known r s t (apply known r s).1 w.1 (told_after r w.0 t w.1) refl (ap (λ n. told_after r n t w.1) was) before last keeps)
      by false e = (
        was ∙ sym (sizes_stay known r s t (apply known r s).1 refl e),
        keeps_same (items s) (Some r) (items t) w.1 (items_stay known r s t (apply known r s).1 refl e) before last keeps,
      )

  -- rules, perhaps while a label is sought
  pub run_reports : (rules : List Rule) (sought : Option Text) (s : Scene) (w : Keeper) (before : List Stage) (last : Source) → w.0 ≡ sizes s → Keeps (before ++ (last, items s) ∷ []) (items s) w.1
      → Reports (before ++ (last, items s) ∷ stages_from known sought rules s) (run_watched keeping known sought rules (s, w)).1.1
  unfolding run_watched stages_from
  run_reports [] sought s w before last was keeps = reports before last (items s) w.1 keeps
  run_reports (r ∷ rs) sought s w before last was keeps =
      let t : Scene = scene_after r s in
      let v : Keeper = keeper_after r s w in
      let here : List Stage = (last, items s) ∷ [] in
      let source : Source = Some r in
      let next : Option Text = sought_after (apply known r s).1 r in
      let more = one_more r s w before last source refl was keeps in
      let kept : Keeps ((before ++ here) ++ (source, items t) ∷ []) (items t) v.1 = subst (λ stages. Keeps stages (items t) v.1) (sym (append_assoc before here ((source, items t) ∷ []))) more.1 in
      let rest = run_reports rs next t v (before ++ here) source more.0 kept in
      let on = subst (λ stages. Reports stages (run_watched keeping known next rs (t, v)).1.1) (append_assoc before here ((source, items t) ∷ stages_from known next rs t)) rest in
      by (is_passed sought r) (run_reports rs sought s w before last was keeps)
      (subst (λ (seen : Seen Keeper). Reports (before ++ (last, items s) ∷ (source, items t) ∷ stages_from known next rs t) (run_watched keeping known (sought_after seen.1 r) rs seen.0).1.1) (sym (applied r s w)) on)
    where
      by : (b : Bool) → Reports (before ++ (last, items s) ∷ stages_from known sought rs s) (run_watched keeping known sought rs (s, w)).1.1
          → Reports (before ++ (last, items s) ∷ (Some r, items (apply known r s).0) ∷ stages_from known (sought_after (apply known r s).1 r) rs (apply known r s).0)
          (run_watched keeping known (sought_after (apply_watched keeping known r (s, w)).1 r) rs (apply_watched keeping known r (s, w)).0).1.1
          → Reports
          (before
          ++ (last, items s)
          ∷ cond b (stages_from known sought rs s) ((Some r, items (apply known r s).0) ∷ stages_from known (sought_after (apply known r s).1 r) rs (apply known r s).0))
          (cond b (run_watched keeping known sought rs (s, w)) (run_watched keeping known (sought_after (apply_watched keeping known r (s, w)).1 r) rs (apply_watched keeping known r (s, w)).0)).1.1
      by true h k = h
      by false h k = k
