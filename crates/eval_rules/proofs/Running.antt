-- Rules one after another, a rule at a time.
use Rattle.std.proofs.Common.{◌≡◌, ℕ, suc, ◌+◌, Bool, true, false, cond, List, [], ◌∷◌, drop, take, Option, None, refl, ap, sym, ◌∙◌, arith}
use Rattle.std.specs.List.{prefix_len}
use Rattle.text_bytes.specs.Text.{Text}
use Rattle.builtin_devices.specs.Knowledge.{Known}
use Rattle.rule_types.specs.Rules.{Rule}
use Rattle.eval_state.specs.declared.scene.Scene.{Scene}
use Rattle.eval_rules.specs.Inner.{passed_told}
use Rattle.eval_rules.specs.Jumps.{is_passed, sought_after}
use Rattle.eval_rules.specs.Watched.{Telling, apply_watched, run_watched, passed}

module _ {W : Type 0} (tell : Telling W) (known : Known) where
  -- rules are passed over up to the first that is not
  abbrev landed : ℕ → List Rule → Scene × W → Scene × W
  landed n rules at = run_watched tell known None (drop n rules) (at.0, passed_told tell at.0 at.1 (take n rules))

  lands : (sought : Option Text) (rules : List Rule) (at : Scene × W) → run_watched tell known sought rules at ≡ landed (prefix_len (is_passed sought) rules) rules at
  unfolding run_watched
  lands sought [] at = refl
  lands sought (r ∷ rs) at = by (is_passed sought r) (lands sought rs (at.0, tell at.1 (passed r) at.0))
    where
      by : (b : Bool) → run_watched tell known sought rs (at.0, tell at.1 (passed r) at.0) ≡ landed (prefix_len (is_passed sought) rs) rs (at.0, tell at.1 (passed r) at.0)
          → cond b (run_watched tell known sought rs (at.0, tell at.1 (passed r) at.0)) (run_watched tell known (sought_after (apply_watched tell known r at).1 r) rs (apply_watched tell known r at).0)
          ≡ landed (cond b (1 + prefix_len (is_passed sought) rs) 0) (r ∷ rs) at
      by true h =
          let one : 1 + prefix_len (is_passed sought) rs ≡ suc (prefix_len (is_passed sought) rs) = omega arith in
          h ∙ ap (λ n. landed n (r ∷ rs) at) (sym one)
      by false h = refl

  -- a rule that is evaluated, and where it leads
  pub run_on : (r : Rule) (rs : List Rule) (at : Scene × W) (t : Scene) (v x : W) (reached : Bool) (next : Option Text) (n : ℕ) → ((t, v), reached) ≡ apply_watched tell known r at
      → next ≡ sought_after reached r → n ≡ prefix_len (is_passed next) rs → x ≡ passed_told tell t v (take n rs) → run_watched tell known None (drop n rs) (t, x) ≡ run_watched tell known None (r ∷ rs) at
  unfolding run_watched
  run_on r rs at t v x reached next n is e count said =
      ap (λ w. run_watched tell known None (drop n rs) (t, w)) said
      ∙ ap (λ m. landed m rs (t, v)) count
      ∙ sym (lands next rs (t, v))
      ∙ ap (λ l. run_watched tell known l rs (t, v)) e
      ∙ ap (λ (w : (Scene × W) × Bool). run_watched tell known (sought_after w.1 r) rs w.0) is
