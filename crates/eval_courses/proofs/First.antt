-- The fates of rules, and the keys that were reached as the first of all.
use Rattle.std.proofs.Common.{◌≡◌, ◌↔◌, ℕ, suc, Bool, true, false, cond, List, [], ◌∷◌, ◌++◌, length, map, append_assoc, append-nil, Option, refl, ap, sym, ◌∙◌}
use Rattle.text_bytes.specs.Text.{Text}
use Rattle.builtin_devices.specs.Knowledge.{Known}
use Rattle.rule_types.specs.Rules.{Rule}
use Rattle.eval_state.specs.declared.scene.Scene.{Scene}
use Rattle.eval_acts.specs.Acts.{act_step}
use Rattle.eval_rules.specs.Jumps.{is_passed, sought_after}
use Rattle.eval_rules.specs.Steps.{Went, apply, before_sets, if_proceeding, plain_step, result_step, search, walk}
use Rattle.eval_courses.specs.Courses.{acted, matched, reports_if_proceeding, searched, walk_reports}
use Rattle.eval_courses.specs.Fates.{fate, fates_from, keys_of, keys_reached, search_key}
use Rattle.eval_courses.specs.Keys.{act_key, plain_key, result_key}
use Rattle.eval_courses.specs.declared.fate.Fate.TheVariants.{Passed, Stopped, Met}

pub met_so : (known : Known) (r : Rule) (s : Scene) → (fate known r s ≡ Met) ↔ ((before_sets known r s).1 ≡ true)
unfolding fate
met_so known r s = by (before_sets known r s).1 (length (keys_reached known r s))
  where
    by : (b : Bool) (n : ℕ) → (cond b Met (Stopped n) ≡ Met) ↔ (b ≡ true)
    by true n = (λ e. refl, λ e. refl)
    by false n = (λ e. cc, λ e. cc)

pub fates_each : (known : Known) (sought : Option Text) (rules : List Rule) (s : Scene) → length (fates_from known sought rules s) ≡ length rules
unfolding fates_from
fates_each known sought [] s = refl
fates_each known sought (r ∷ rs) s = by (is_passed sought r) (fates_each known sought rs s) (fates_each known (sought_after (apply known r s).1 r) rs (apply known r s).0)
  where
    by : (b : Bool) → length (fates_from known sought rs s) ≡ length rs → length (fates_from known (sought_after (apply known r s).1 r) rs (apply known r s).0) ≡ length rs
        → length (cond b (Passed ∷ fates_from known sought rs s) (fate known r s ∷ fates_from known (sought_after (apply known r s).1 r) rs (apply known r s).0)) ≡ length (r ∷ rs)
    by true over on = ap suc over
    by false over on = ap suc on

-- all keys of a step were reached if it lets the rule go on
walk_all : {P : Type 0} (step : P → Scene → Went) (key : P → Text) (parts : List P) (s : Scene) → (walk step parts s).1 ≡ true → walk_reports step (λ p t. key p ∷ []) parts s ≡ map key parts
unfolding walk walk_reports
walk_all step key [] s e = refl
walk_all step key (p ∷ ps) s e = by (step p s).1 (walk_all step key ps (step p s).0) e
  where
    by : (b : Bool) → ((walk step ps (step p s).0).1 ≡ true → walk_reports step (λ p t. key p ∷ []) ps (step p s).0 ≡ map key ps)
        → (cond b (walk step ps (step p s).0) ((step p s).0, b)).1 ≡ true → key p ∷ cond b (walk_reports step (λ p t. key p ∷ []) ps (step p s).0) [] ≡ key p ∷ map key ps
    by true all h = ap (λ keys. key p ∷ keys) (all h)
    by false all h = let no : false ≡ true = h in absurd cc

-- and else they are the first
walk_first : {P : Type 0} (step : P → Scene → Went) (key : P → Text) (parts : List P) (s : Scene) → (others : List Text) × (map key parts ≡ walk_reports step (λ p t. key p ∷ []) parts s ++ others)
unfolding walk_reports
walk_first step key [] s = ([], refl)
walk_first step key (p ∷ ps) s = by (step p s).1 (walk_first step key ps (step p s).0)
  where
    by : (b : Bool) → (others : List Text) × (map key ps ≡ walk_reports step (λ p t. key p ∷ []) ps (step p s).0 ++ others)
        → (others : List Text) × (map key (p ∷ ps) ≡ (key p ∷ cond b (walk_reports step (λ p t. key p ∷ []) ps (step p s).0) []) ++ others)
    by true w = (w.0, ap (λ keys. key p ∷ keys) w.1)
    by false w = (map key ps, refl)

stops : (next : Scene → Went) (went : Went) → went.1 ≡ false → (if_proceeding next went).1 ≡ false
stops next went e = ap (λ b. (cond b (next went.0) went).1) e ∙ e

goes : (next : Scene → Went) (went : Went) → went.1 ≡ true → if_proceeding next went ≡ next went.0
goes next went e = ap (λ b. cond b (next went.0) went) e

none : (f : Scene → List Text) (went : Went) → went.1 ≡ false → reports_if_proceeding f went ≡ []
none f went e = ap (λ b. cond b (f went.0) []) e

some : (f : Scene → List Text) (went : Went) → went.1 ≡ true → reports_if_proceeding f went ≡ f went.0
some f went e = ap (λ b. cond b (f went.0) []) e

-- four lists one after another, each by what it is
four : (a e b f c g d h : List Text) → a ≡ e → b ≡ f → c ≡ g → d ≡ h → a ++ (b ++ (c ++ d)) ≡ e ++ (f ++ (g ++ h))
four a e b f c g d h i j k l =
    ap (λ x. x ++ (b ++ (c ++ d))) i ∙ ap (λ x. e ++ (x ++ (c ++ d))) j ∙ ap (λ x. e ++ (f ++ (x ++ d))) k ∙ ap (λ x. e ++ (f ++ (g ++ x))) l

-- the keys of a rule, taken apart where they end
in_results : (p a c d w : List Text) (k : Text) → c ≡ d ++ w → p ++ (k ∷ (a ++ c)) ≡ (p ++ ((k ∷ []) ++ (a ++ d))) ++ w
in_results p a c d w k e = ap (λ x. p ++ (k ∷ (a ++ x))) e ∙ ap (λ x. p ++ (k ∷ x)) (sym (append_assoc a d w)) ∙ sym (append_assoc p (k ∷ (a ++ d)) w)

in_acts : (p a c d w : List Text) (k : Text) → a ≡ d ++ w → p ++ (k ∷ (a ++ c)) ≡ (p ++ ((k ∷ []) ++ (d ++ []))) ++ (w ++ c)
in_acts p a c d w k e =
    ap (λ x. p ++ (k ∷ (x ++ c))) e
    ∙ ap (λ x. p ++ (k ∷ x)) (append_assoc d w c)
    ∙ ap (λ x. p ++ (k ∷ (x ++ (w ++ c)))) (sym (append-nil d))
    ∙ sym (append_assoc p (k ∷ (d ++ [])) (w ++ c))

in_search : (p c : List Text) (k : Text) → p ++ (k ∷ c) ≡ (p ++ ((k ∷ []) ++ ([] ++ []))) ++ c
in_search p c k = sym (append_assoc p (k ∷ []) c)

in_matches : (p c d w : List Text) → p ≡ d ++ w → p ++ c ≡ (d ++ ([] ++ ([] ++ []))) ++ (w ++ c)
in_matches p c d w e = ap (λ x. x ++ c) e ∙ append_assoc d w c ∙ ap (λ x. x ++ (w ++ c)) (sym (append-nil d))

module _ (known : Known) (r : Rule) (s : Scene) where
  abbrev plain_keys : List Text
  plain_keys = map plain_key r.plain

  abbrev act_keys : List Text
  act_keys = map act_key r.acts

  abbrev result_keys : List Text
  result_keys = map result_key r.results

  -- what is reached of each of the four steps
  abbrev plain_reached : List Text
  plain_reached = walk_reports (plain_step r) (λ p t. plain_key p ∷ []) r.plain s

  abbrev seeks : Scene → List Text
  seeks t = search_key r.up ∷ []

  abbrev acts_from : Scene → List Text
  acts_from t = walk_reports (act_step known r) (λ act t. act_key act ∷ []) r.acts t

  abbrev results_from : Scene → List Text
  results_from t = walk_reports result_step (λ p t. result_key p ∷ []) r.results t

  abbrev search_reached : List Text
  search_reached = reports_if_proceeding seeks (matched r s)

  abbrev acts_reached : List Text
  acts_reached = reports_if_proceeding acts_from (searched r s)

  abbrev results_reached : List Text
  results_reached = reports_if_proceeding results_from (acted known r s)

  abbrev Keys : Type 0
  Keys = (others : List Text) × (plain_keys ++ (search_key r.up ∷ (act_keys ++ result_keys)) ≡ (plain_reached ++ (search_reached ++ (acts_reached ++ results_reached))) ++ others)

  joined_keys : (e f g h others : List Text) → plain_reached ≡ e → search_reached ≡ f → acts_reached ≡ g → results_reached ≡ h
      → plain_keys ++ (search_key r.up ∷ (act_keys ++ result_keys)) ≡ (e ++ (f ++ (g ++ h))) ++ others → Keys
  joined_keys e f g h others i j k l t =
      (others, t ∙ ap (λ keys. keys ++ others) (sym (four plain_reached e search_reached f acts_reached g results_reached h i j k l)))

  all_matched : (matched r s).1 ≡ true → plain_reached ≡ plain_keys
  all_matched m = walk_all (plain_step r) plain_key r.plain s m

  at_results : (matched r s).1 ≡ true → (searched r s).1 ≡ true → (acted known r s).1 ≡ true → Keys
  at_results m k a =
      let w = walk_first result_step result_key r.results (acted known r s).0 in
      let done : (walk (act_step known r) r.acts (searched r s).0).1 ≡ true = sym (ap (λ (x : Went). x.1) (goes (walk (act_step known r) r.acts) (searched r s) k)) ∙ a in
      joined_keys plain_keys (search_key r.up ∷ []) act_keys (results_from (acted known r s).0) w.0 (all_matched m) (some seeks (matched r s) m)
      (some acts_from (searched r s) k ∙ walk_all (act_step known r) act_key r.acts (searched r s).0 done) (some results_from (acted known r s) a)
      (in_results plain_keys act_keys result_keys (results_from (acted known r s).0) w.0 (search_key r.up) w.1)

  at_acts : (matched r s).1 ≡ true → (searched r s).1 ≡ true → (acted known r s).1 ≡ false → Keys
  at_acts m k a =
      let w = walk_first (act_step known r) act_key r.acts (searched r s).0 in
      joined_keys plain_keys (search_key r.up ∷ []) (acts_from (searched r s).0) [] (w.0 ++ result_keys) (all_matched m) (some seeks (matched r s) m)
      (some acts_from (searched r s) k) (none results_from (acted known r s) a)
      (in_acts plain_keys act_keys result_keys (acts_from (searched r s).0) w.0 (search_key r.up) w.1)

  at_search : (matched r s).1 ≡ true → (searched r s).1 ≡ false → Keys
  at_search m k =
      joined_keys plain_keys (search_key r.up ∷ []) [] [] (act_keys ++ result_keys) (all_matched m) (some seeks (matched r s) m)
      (none acts_from (searched r s) k) (none results_from (acted known r s) (stops (walk (act_step known r) r.acts) (searched r s) k))
      (in_search plain_keys (act_keys ++ result_keys) (search_key r.up))

  at_matches : (matched r s).1 ≡ false → Keys
  at_matches m =
      let k : (searched r s).1 ≡ false = stops (search r.up) (matched r s) m in
      let w = walk_first (plain_step r) plain_key r.plain s in
      joined_keys plain_reached [] [] [] (w.0 ++ (search_key r.up ∷ (act_keys ++ result_keys))) refl (none seeks (matched r s) m)
      (none acts_from (searched r s) k) (none results_from (acted known r s) (stops (walk (act_step known r) r.acts) (searched r s) k))
      (in_matches plain_keys (search_key r.up ∷ (act_keys ++ result_keys)) plain_reached w.0 w.1)

  pub reached_first : (others : List Text) × (keys_of r ≡ keys_reached known r s ++ others)
  unfolding keys_reached
  reached_first =
      let w : Keys = by (matched r s).1 (searched r s).1 (acted known r s).1 refl refl refl in (
        w.0,
        append_assoc plain_keys (search_key r.up ∷ act_keys) result_keys
            ∙ w.1
            ∙ ap (λ keys. keys ++ w.0)
            (sym (append_assoc (plain_reached ++ search_reached) acts_reached results_reached ∙ append_assoc plain_reached search_reached (acts_reached ++ results_reached))),
      )
    where
      by : (m k a : Bool) → (matched r s).1 ≡ m → (searched r s).1 ≡ k → (acted known r s).1 ≡ a → Keys
      by false k a e f g = at_matches e
      by true false a e f g = at_search e f
      by true true false e f g = at_acts e f g
      by true true true e f g = at_results e f g
