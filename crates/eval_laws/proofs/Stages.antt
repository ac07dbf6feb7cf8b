-- Which stages an item comes from.
use Rattle.std.proofs.Common.{◌≡◌, Bool, true, false, not, ◌&&◌, is_some, List, [], ◌∷◌, ◌++◌, Option, Some, None, cond, refl, ap, sym, ◌∙◌}
use Rattle.text_bytes.specs.Text.{Text}
use Rattle.text_tables.specs.Pairs.{Pair}
use Rattle.builtin_devices.specs.Knowledge.{Known}
use Rattle.rule_types.specs.Rules.{Rule}
use Rattle.eval_state.specs.declared.scene.Scene.{Scene}
use Rattle.eval_rules.specs.Jumps.{is_passed, run, sought_after}
use Rattle.eval_rules.specs.Steps.{apply}
use Rattle.eval_effects.specs.Items.{items}
use Rattle.eval_sources.specs.Sources.{Source, Stage, is_present_throughout, source_of}
use Rattle.eval_effects.specs.Items.{is_present}
use Rattle.eval_sources.specs.Reported.{stages_from, stages_over}

-- what is at the last of these stages, or otherwise what was there before them
abbrev last_of : List Pair → List Stage → List Pair
last_of were [] = were
last_of were (stage ∷ later) = last_of stage.1 later

-- each of these stages is after a rule
abbrev AreRules : List Stage → Type 0
AreRules [] = Unit {0}
AreRules (stage ∷ later) = (is_some stage.0 ≡ true) × AreRules later

and_false : (b : Bool) → (b && false) ≡ false
and_false true = refl
and_false false = refl

and_true : (b : Bool) → (b && true) ≡ b
and_true true = refl
and_true false = refl

right_of : (a b : Bool) → (a && b) ≡ true → b ≡ true
right_of true b h = h
right_of false b h = cc

left_of : (a b : Bool) → (a && b) ≡ true → a ≡ true
left_of true b h = refl
left_of false b h = cc

module _ (item : Pair) where
  -- what is there throughout is at the last stage
  is_present_last : (were : List Pair) (later : List Stage) → (is_present item were && is_present_throughout item later) ≡ true → is_present item (last_of were later) ≡ true
  is_present_last were [] h = left_of (is_present item were) true h
  is_present_last were (stage ∷ later) h = is_present_last stage.1 later (right_of (is_present item were) (is_present_throughout item (stage ∷ later)) h)

  -- what is not there throughout comes from a rule exactly if it is at the last stage
  comes : (were : List Pair) (later : List Stage) → AreRules later → (is_present item were && is_present_throughout item later) ≡ false → is_some (source_of later item) ≡ is_present item (last_of were later)
  unfolding source_of
  comes were [] are h = sym (sym (and_true (is_present item were)) ∙ h)
  comes were (stage ∷ later) are h = by (is_present_throughout item (stage ∷ later)) refl (comes stage.1 later are.1)
    where
      by : (b : Bool) → is_present_throughout item (stage ∷ later) ≡ b → (is_present_throughout item (stage ∷ later) ≡ false → is_some (source_of later item) ≡ is_present item (last_of stage.1 later))
          → is_some (cond b stage.0 (source_of later item)) ≡ is_present item (last_of stage.1 later)
      by true e rest = are.0 ∙ sym (is_present_last stage.1 later e)
      by false e rest = rest e

  pub none_where : (were : List Pair) (later : List Stage) → AreRules later
      → is_some (source_of ((None, were) ∷ later) item) ≡ (is_present item (last_of were later) && not (is_present_throughout item ((None, were) ∷ later)))
  unfolding source_of
  none_where were later are = by (is_present_throughout item ((None, were) ∷ later)) refl
    where
      nowhere : Source
      nowhere = None

      by : (b : Bool) → is_present_throughout item ((None, were) ∷ later) ≡ b → is_some (cond b nowhere (source_of later item)) ≡ (is_present item (last_of were later) && not b)
      by true e = sym (and_false (is_present item (last_of were later)))
      by false e = comes were later are e ∙ sym (and_true (is_present item (last_of were later)))

  not_throughout : (before later : List Stage) (last : Stage) → is_present item last.1 ≡ false → is_present_throughout item (before ++ last ∷ later) ≡ false
  not_throughout [] later last h = ap (λ b. b && is_present_throughout item later) h
  not_throughout (stage ∷ before) later last h = ap (λ b. is_present item stage.1 && b) (not_throughout before later last h) ∙ and_false (is_present item stage.1)

  pub from_then_on : (before later : List Stage) (last stage : Stage) → is_present item last.1 ≡ false → is_present_throughout item (stage ∷ later) ≡ true → source_of (before ++ last ∷ stage ∷ later) item ≡ stage.0
  unfolding source_of
  from_then_on [] later last stage h all =
      ap (λ b. cond b last.0 (source_of (stage ∷ later) item)) (not_throughout [] (stage ∷ later) last h) ∙ ap (λ b. cond b stage.0 (source_of later item)) all
  from_then_on (first ∷ before) later last stage h all =
      ap (λ b. cond b first.0 (source_of (before ++ last ∷ stage ∷ later) item)) (not_throughout (first ∷ before) (stage ∷ later) last h) ∙ from_then_on before later last stage h all

module _ (known : Known) where
  -- the stages after rules
  pub are_rules : (sought : Option Text) (rules : List Rule) (s : Scene) → AreRules (stages_from known sought rules s)
  unfolding stages_from
  are_rules sought [] s = tt
  are_rules sought (r ∷ rs) s = by (is_passed sought r) (are_rules sought rs s) (are_rules (sought_after (apply known r s).1 r) rs (apply known r s).0)
    where
      by : (b : Bool) → AreRules (stages_from known sought rs s) → AreRules (stages_from known (sought_after (apply known r s).1 r) rs (apply known r s).0)
          → AreRules (cond b (stages_from known sought rs s) ((Some r, items (apply known r s).0) ∷ stages_from known (sought_after (apply known r s).1 r) rs (apply known r s).0))
      by true passed come = passed
      by false passed come = (refl, come)

  -- the last of them is the stage at which the rules end
  pub ends : (sought : Option Text) (rules : List Rule) (s : Scene) → last_of (items s) (stages_from known sought rules s) ≡ items (run known sought rules s)
  unfolding stages_from run
  ends sought [] s = refl
  ends sought (r ∷ rs) s = by (is_passed sought r) (ends sought rs s) (ends (sought_after (apply known r s).1 r) rs (apply known r s).0)
    where
      by : (b : Bool) → last_of (items s) (stages_from known sought rs s) ≡ items (run known sought rs s)
          → last_of (items (apply known r s).0) (stages_from known (sought_after (apply known r s).1 r) rs (apply known r s).0) ≡ items (run known (sought_after (apply known r s).1 r) rs (apply known r s).0)
          → last_of (items s) (cond b (stages_from known sought rs s) ((Some r, items (apply known r s).0) ∷ stages_from known (sought_after (apply known r s).1 r) rs (apply known r s).0))
          ≡ items (cond b (run known sought rs s) (run known (sought_after (apply known r s).1 r) rs (apply known r s).0))
      by true passed come = passed
      by false passed come = come

  pub from_no_rule : (rules : List Rule) (s : Scene) (item : Pair) → is_some (source_of (stages_over known rules s) item) ≡ (is_present item (items (run known None rules s)) && not (is_present_throughout item (stages_over known rules s)))
  from_no_rule rules s item =
      none_where item (items s) (stages_from known None rules s) (are_rules None rules s)
      ∙ ap (λ end. is_present item end && not (is_present_throughout item (stages_over known rules s))) (ends None rules s)
