-- A label that is sought is found at the next rule that has it.
use Rattle.std.proofs.Common.{◌≡◌, suc, Bool, true, false, cond, not, List, [], ◌∷◌, ◌++◌, Option, Some, None, refl, ap, ◌∙◌, arith}
use Rattle.std.specs.Cmp.Lexicographic.{bytes_decides}
use Rattle.text_bytes.specs.Text.{Text}
use Rattle.text_tables.specs.Texts.{same_text}
use Rattle.builtin_devices.specs.Knowledge.{Known}
use Rattle.rule_laws.specs.Outcomes.{HasLabel}
use Rattle.rule_types.specs.Rules.{Rule}
use Rattle.eval_state.specs.declared.scene.Scene.{Scene}
use Rattle.eval_rules.specs.Steps.{apply}
use Rattle.eval_rules.specs.Jumps.{is_label, run, sought_after}

bears : (name : Text) (label : Option Text) → label ≡ Some name → is_label name label ≡ true
bears name label h = ap (is_label name) h ∙ (bytes_decides name name).1 refl

other : (name : Text) (label : Option Text) → (label ≡ Some name → ⊥) → is_label name label ≡ false
other name None h = refl
other name (Some l) h = by (same_text l name) refl
  where
    by : (b : Bool) → same_text l name ≡ b → b ≡ false
    by true e = absurd (h (ap Some ((bytes_decides l name).0 e)))
    by false e = refl

module _ (known : Known) (name : Text) (landing : Rule) (following : List Rule) (label : landing.label ≡ Some name) where
  found : (s : Scene) → run known (Some name) (landing ∷ following) s ≡ run known None (landing ∷ following) s
  unfolding run
  found s =
      ap (λ b. cond (not b) (run known (Some name) following s) (run known (sought_after (apply known landing s).1 landing) following (apply known landing s).0)) (bears name landing.label label)

  pub lands : (between : List Rule) (s : Scene) → (HasLabel name between → ⊥) → run known (Some name) (between ++ landing ∷ following) s ≡ run known None (landing ∷ following) s
  unfolding run
  lands [] s none = found s
  lands (r ∷ rs) s none =
      ap (λ b. cond (not b) (run known (Some name) (rs ++ landing ∷ following) s) (run known (sought_after (apply known r s).1 r) (rs ++ landing ∷ following) (apply known r s).0))
      (other name r.label (λ h. none (0, r, omega arith, refl, h)))
      ∙ lands rs s (λ h. none (suc h.0, h.1, omega (arith, h.2), h.3, h.4))

  -- a rule that jumps
  pub jumps : (r : Rule) (between : List Rule) (s : Scene) → r.goto ≡ Some name → (apply known r s).1 ≡ true → (HasLabel name between → ⊥)
      → run known None (r ∷ (between ++ landing ∷ following)) s ≡ run known None (landing ∷ following) (apply known r s).0
  unfolding run
  jumps r between s goto end none =
      ap (λ b. run known (sought_after b r) (between ++ landing ∷ following) (apply known r s).0) end
      ∙ ap (λ l. run known l (between ++ landing ∷ following) (apply known r s).0) goto
      ∙ lands between (apply known r s).0 none
