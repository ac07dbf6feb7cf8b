-- What is reported, and what is not.
use Rattle.std.proofs.Common.{◌≡◌, Bool, true, false, ◌&&◌, cond, List, [], ◌∷◌, ◌++◌, Option, None, refl, ap, ◌∙◌}
use Rattle.std.specs.List.{filter, flat_map, list_all}
use Rattle.std.proofs.lemmas.List.Folds.{list_all-append}
use Rattle.file_messages.specs.declared.message.Message.{Message}
use Rattle.text_bytes.specs.Text.{Text}
use Rattle.builtin_devices.specs.Knowledge.{Known}
use Rattle.rule_types.specs.Rules.{Rule}
use Rattle.device_core.specs.Values.{EventValue}
use Rattle.device_core.specs.Tried.{tried}
use Rattle.eval_state.specs.Scenes.{start}
use Rattle.eval_state.specs.declared.scene.Scene.{Scene}
use Rattle.eval_rules.specs.Jumps.{is_passed}
use Rattle.eval_rules.specs.Steps.{apply}
use Rattle.eval_effects.specs.Since.{Since, no_since, since_after}
use Rattle.eval_courses.specs.Courses.{course}
use Rattle.engine_courses.specs.Asked.{is_asked, unread}
use Rattle.engine_courses.specs.WhyLines.{jumping_after, passed_texts, reported_for, reported_from, reported_if_asked, rule_lines, sought_by, unread_text, why_line, why_lines}

module _ (why : List Text) where
  abbrev asked : Rule × List Text → Bool
  asked reported = is_asked why reported.0.file reported.0.line

  one_asked : (r : Rule) (texts : List Text) → list_all asked (reported_if_asked why r texts) ≡ true
  one_asked r texts = by (is_asked why r.file r.line) refl
    where
      by : (b : Bool) → is_asked why r.file r.line ≡ b → list_all asked (cond b ((r, texts) ∷ []) []) ≡ true
      by true e = ap (λ a. a && true) e
      by false e = refl

  both_asked : (reported more : List (Rule × List Text)) → list_all asked reported ≡ true → list_all asked more ≡ true → list_all asked (reported ++ more) ≡ true
  both_asked reported more h g = list_all-append asked reported more ∙ ap (λ a. a && list_all asked more) h ∙ g

  -- rules that are not asked for have no line
  pub asked_alone : (known : Known) (since : Since) (jumping : Option Rule) (rules : List Rule) (s : Scene) → list_all asked (reported_from why known since jumping rules s) ≡ true
  unfolding reported_from
  asked_alone known since jumping [] s = refl
  asked_alone known since jumping (r ∷ rs) s =
      by _ _ (is_passed (sought_by jumping) r) (asked_alone known since jumping rs s)
      (asked_alone known (since_after since r (apply known r s).0.finals) (jumping_after (apply known r s).1 r) rs (apply known r s).0)
    where
      by : (a b : List (Rule × List Text)) (p : Bool) → list_all asked a ≡ true → list_all asked b ≡ true
          → list_all asked (cond p (reported_if_asked why r (passed_texts jumping) ++ a) (reported_if_asked why r (course known since r s) ++ b)) ≡ true
      by a b true h g = both_asked (reported_if_asked why r (passed_texts jumping)) a (one_asked r (passed_texts jumping)) h
      by a b false h g = both_asked (reported_if_asked why r (course known since r s)) b (one_asked r (course known since r s)) g

no_messages : (messages : List Message) (rules : List Rule) → unread [] messages rules ≡ []
unfolding unread
no_messages [] rules = refl
no_messages (m ∷ messages) rules = no_messages messages rules

no_rules : (known : Known) (since : Since) (jumping : Option Rule) (rules : List Rule) (s : Scene) → reported_from [] known since jumping rules s ≡ []
unfolding reported_from
no_rules known since jumping [] s = refl
no_rules known since jumping (r ∷ rs) s =
    by _ _ (is_passed (sought_by jumping) r) (no_rules known since jumping rs s)
    (no_rules known (since_after since r (apply known r s).0.finals) (jumping_after (apply known r s).1 r) rs (apply known r s).0)
  where
    by : (a b : List (Rule × List Text)) (p : Bool) → a ≡ [] → b ≡ [] → cond p a b ≡ []
    by a b true h g = h
    by a b false h g = g

-- if nothing is asked for, nothing is reported
pub nothing_reported : (messages : List Message) (rules : List Rule) (known : Known) (event : EventValue) → why_lines [] messages rules known event ≡ []
unfolding why_lines
nothing_reported messages rules known event =
    ap (λ ms. flat_map (λ m. why_line m.file m.line (unread_text m)) ms ++ flat_map rule_lines (reported_for [] rules known event)) (no_messages messages rules)
    ∙ ap (flat_map rule_lines) (no_rules known no_since None (tried event rules) (start event))
