-- Rules by their numbers: what follows a rule.
use Rattle.std.proofs.Common.{◌≡◌, ℕ, suc, ◌+◌, ◌<◌, ◌≤◌, Bool, true, false, cond, not, List, [], ◌∷◌, length, get_or, drop, Option, Some, None, refl, ap, sym, ◌∙◌, arith}
use Rattle.std.specs.Cmp.Lexicographic.{bytes_decides}
use Rattle.std.proofs.lemmas.List.{drop_more, drop_all, drop-drop}
use Rattle.text_bytes.specs.Text.{Text}
use Rattle.text_tables.specs.Texts.{same_text}
use Rattle.builtin_devices.specs.Knowledge.{Known}
use Rattle.rule_types.specs.Jumps.{is_named}
use Rattle.rule_types.specs.Rules.{Rule}
use Rattle.rule_types.specs.Passed.{over, skipped}
use Rattle.eval_core.proofs.Placing.{at_place}
use Rattle.eval_state.specs.declared.scene.Scene.{Scene}
use Rattle.eval_rules.specs.Jumps.{is_label, run, sought_after}
use Rattle.eval_rules.specs.Steps.{Went, apply}

-- ---- labels

flips : (a b : Text) → same_text a b ≡ same_text b a
flips a b = by (same_text a b) (same_text b a) refl refl
  where
    reversed : (x y : Text) → same_text x y ≡ true → same_text y x ≡ true
    reversed x y h = (bytes_decides y x).1 (sym ((bytes_decides x y).0 h))

    by : (p q : Bool) → same_text a b ≡ p → same_text b a ≡ q → p ≡ q
    by true q e f = sym (reversed a b e) ∙ f
    by false true e f = sym e ∙ reversed b a f
    by false false e f = refl

same_label : (name : Text) (label : Option Text) → is_label name label ≡ is_named name label
same_label name None = refl
same_label name (Some label) = flips label name

one_more : (n : ℕ) → 1 + n ≡ suc n
one_more n = omega arith

module _ (known : Known) where
  -- while a label is sought, rules are skipped up to the first that has it
  sought_over : (name : Text) (rules : List Rule) (s : Scene) → run known (Some name) rules s ≡ run known None (drop (over (Some name) rules) rules) s
  unfolding run
  sought_over name [] s = refl
  sought_over name (r ∷ rs) s =
      ap (λ b. cond (not b) (run known (Some name) rs s) (run known (sought_after (apply known r s).1 r) rs (apply known r s).0)) (same_label name r.label)
      ∙ by (is_named name r.label) (sought_over name rs s)
    where
      by : (b : Bool) → run known (Some name) rs s ≡ run known None (drop (over (Some name) rs) rs) s
          → cond (not b) (run known (Some name) rs s) (run known (sought_after (apply known r s).1 r) rs (apply known r s).0) ≡ run known None (drop (cond (not b) (1 + over (Some name) rs) 0) (r ∷ rs)) s
      by true h = refl
      by false h = h ∙ ap (λ n. run known None (drop n (r ∷ rs)) s) (sym (one_more (over (Some name) rs)))

  jump_over : (goto : Option Text) (rules : List Rule) (s : Scene) → run known goto rules s ≡ run known None (drop (over goto rules) rules) s
  jump_over None rules s = refl
  jump_over (Some name) rules s = sought_over name rules s

  next_rule : (rules : List Rule) (i : ℕ) (r : Rule) (s : Scene) → i < length rules
      → run known None (drop i rules) s ≡ run known (sought_after (apply known (get_or rules i r) s).1 (get_or rules i r)) (drop (i + 1) rules) (apply known (get_or rules i r) s).0
  unfolding run
  next_rule rules i r s h = ap (λ rs. run known None rs s) (drop_more rules i r h)

  -- a rule that was evaluated, and where it leads
  pub run_after : (rules : List Rule) (i : ℕ) (r : Rule) (e : ℕ) (s t : Scene) (reached : Bool) (j : ℕ) → i < length rules → (t, reached) ≡ apply known (get_or rules i r) s
      → j ≡ i + 1 + cond reached (get_or (skipped rules) i e) 0 → run known None (drop j rules) t ≡ run known None (drop i rules) s
  run_after rules i r e s t reached j h went to = by reached went to ∙ sym (next_rule rules i r s h)
    where
      rule : Rule
      rule = get_or rules i r

      led : (b : Bool) → (t, b) ≡ apply known rule s → run known (sought_after b rule) (drop (i + 1) rules) t ≡ run known (sought_after (apply known rule s).1 rule) (drop (i + 1) rules) (apply known rule s).0
      led b w = ap (λ (x : Went). run known (sought_after x.1 rule) (drop (i + 1) rules) x.0) w

      by : (b : Bool) → (t, b) ≡ apply known rule s → j ≡ i + 1 + cond b (get_or (skipped rules) i e) 0
          → run known None (drop j rules) t ≡ run known (sought_after (apply known rule s).1 rule) (drop (i + 1) rules) (apply known rule s).0
      by true w k =
          ap (λ n. run known None (drop n rules) t) (k ∙ ap (λ n. i + 1 + n) (at_place rules i r e h))
          ∙ ap (λ rs. run known None rs t) (sym (drop-drop (over rule.goto (drop (i + 1) rules)) (i + 1) rules))
          ∙ sym (jump_over rule.goto (drop (i + 1) rules) t)
          ∙ led true w
      by false w k =
          let next : j ≡ i + 1 = omega (arith, k) in
          ap (λ n. run known None (drop n rules) t) next ∙ led false w

-- no rule is left
pub run_end : (known : Known) (rules : List Rule) (i : ℕ) (s : Scene) → length rules ≤ i → run known None (drop i rules) s ≡ s
unfolding run
run_end known rules i s h = ap (λ rs. run known None rs s) (drop_all i rules h)
