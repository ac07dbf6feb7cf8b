-- Where no text asks for anything, nothing is told.
use Rattle.std.proofs.Common.{◌≡◌, Bool, true, false, cond, ◌==◌, List, [], ◌∷◌, ◌++◌, length, map, Bor, Option, None, flat_map, append-nil, refl, ap, sym, ◌∙◌, arith}
use Rattle.file_messages.specs.declared.message.Message.{Message}
use Rattle.text_bytes.specs.Text.{Text}
use Rattle.rule_types.specs.Rules.{Rule}
use Rattle.device_core.specs.Values.{EventValue}
use Rattle.device_core.specs.Tried.{tried}
use Rattle.builtin_devices.specs.Knowledge.{Known}
use Rattle.eval_state.specs.Scenes.{start}
use Rattle.eval_state.specs.declared.scene.Scene.{Scene}
use Rattle.eval_rules.specs.Jumps.{is_passed}
use Rattle.eval_rules.specs.Steps.{apply}
use Rattle.eval_effects.specs.Since.{Since, no_since, since_after}
use Rattle.engine_courses.specs.Asked.{unread}
use Rattle.engine_courses.specs.WhyLines.{jumping_after, reported_from, rule_lines, sought_by, unread_lines, why_lines}

none_reported : (known : Known) (since : Since) (jumping : Option Rule) (rules : List Rule) (s : Scene) → reported_from [] known since jumping rules s ≡ []
unfolding reported_from
none_reported known since jumping [] s = refl
none_reported known since jumping (r ∷ rs) s =
    by (is_passed (sought_by jumping) r) (none_reported known since jumping rs s)
    (none_reported known (since_after since r (apply known r s).0.finals) (jumping_after (apply known r s).1 r) rs (apply known r s).0)
  where
    over : List (Rule × List Text)
    over = reported_from [] known since jumping rs s

    through : List (Rule × List Text)
    through = reported_from [] known (since_after since r (apply known r s).0.finals) (jumping_after (apply known r s).1 r) rs (apply known r s).0

    by : (b : Bool) → over ≡ [] → through ≡ [] → cond b over through ≡ []
    by true passed reached = passed
    by false passed reached = reached

none_unread : (messages : List Message) (rules : List Rule) → unread [] messages rules ≡ []
unfolding unread
none_unread [] rules = refl
none_unread (m ∷ messages) rules = none_unread messages rules

-- without a text there are no lines
pub none_told : (messages : List Message) (rules : List Rule) (known : Known) (event : EventValue) → why_lines [] messages rules known event ≡ []
unfolding why_lines
none_told messages rules known event =
    ap (λ (left : List Message). unread_lines left ++ flat_map rule_lines (reported_from [] known no_since None (tried event rules) (start event))) (none_unread messages rules)
    ∙ ap (flat_map rule_lines) (none_reported known no_since None (tried event rules) (start event))

-- no text at all
pub none_asked : (why : List (Bor Text)) → (length why == 0) ≡ true → map (λ t. t.now) why ≡ []
none_asked [] none = refl
none_asked (text ∷ why) none = let some : (length (text ∷ why) == 0) ≡ false = grind arith in cc

-- lines stay as they are if nothing is added
pub stays : (lines : Text) (why : List Text) (messages : List Message) (rules : List Rule) (known : Known) (event : EventValue) → why ≡ []
    → lines ≡ lines ++ why_lines why messages rules known event
stays lines why messages rules known event none =
    sym (ap (λ (texts : List Text). lines ++ why_lines texts messages rules known event) none ∙ ap (λ (more : Text). lines ++ more) (none_told messages rules known event) ∙ append-nil lines)
