-- Texts that are added one after another are there once.
use Rattle.std.proofs.Common.{◌≡◌, ◌&&◌, ◌||◌, Bool, true, false, cond, List, [], ◌∷◌, ◌++◌, None, refl, ap, sym, ◌∙◌, true≢false}
use Rattle.std.specs.Cmp.Lexicographic.{bytes_decides}
use Rattle.std.specs.List.{AllByRecursion, IsDistinct, filter}
use Rattle.text_bytes.specs.Text.{Text}
use Rattle.text_tables.specs.Texts.{AreOnce, is_among, same_text, with_text, with_texts}
use Rattle.builtin_devices.specs.Knowledge.{Known}
use Rattle.device_core.specs.Values.{EventValue}
use Rattle.rule_types.specs.Rules.{Rule}
use Rattle.eval_state.specs.Scenes.{start}
use Rattle.eval_courses.specs.Questions.{can_be_asked, questions, rules_ask}

neither_first : (a b : Bool) → (a || b) ≡ false → a ≡ false
neither_first false b h = refl
neither_first true b h = h

neither_second : (a b : Bool) → (a || b) ≡ false → b ≡ false
neither_second false b h = h
neither_second true b h = cc h

reversed : (a b : Text) → same_text a b ≡ false → same_text b a ≡ false
reversed a b h = by (same_text b a) refl
  where
    by : (t : Bool) → same_text b a ≡ t → t ≡ false
    by false e = refl
    by true e = absurd (true≢false (sym ((bytes_decides a b).1 (sym ((bytes_decides b a).0 e))) ∙ h))

others_push : (x : Text) (texts : List Text) (text : Text) → AllByRecursion (λ y. same_text x y ≡ false) texts → same_text x text ≡ false → AllByRecursion (λ y. same_text x y ≡ false) (texts ++ text ∷ [])
others_push x [] text h k = (k, tt)
others_push x (y ∷ texts) text h k = (h.0, others_push x texts text h.1 k)

once_push : (texts : List Text) (text : Text) → AreOnce texts → is_among texts text ≡ false → AreOnce (texts ++ text ∷ [])
unfolding IsDistinct
once_push [] text h new = (tt, tt)
once_push (x ∷ texts) text h new = (others_push x texts text h.0 (reversed text x (neither_first (same_text text x) _ new)), once_push texts text h.1 (neither_second (same_text text x) _ new))

once_added : (texts : List Text) (text : Text) → AreOnce texts → AreOnce (with_text texts text)
once_added texts text h = by (is_among texts text) refl
  where
    by : (b : Bool) → is_among texts text ≡ b → AreOnce (cond b texts (texts ++ text ∷ []))
    by true e = h
    by false e = once_push texts text h e

all_once : (texts more : List Text) → AreOnce texts → AreOnce (with_texts texts more)
all_once texts [] h = h
all_once texts (text ∷ more) h = all_once (with_text texts text) more (once_added texts text h)

none_once : AreOnce []
unfolding IsDistinct
none_once = tt

-- no command is asked twice
pub asked_once : (rules : List Rule) (known : Known) (event : EventValue) → AreOnce (questions rules known event)
asked_once rules known event = all_once [] (filter can_be_asked (rules_ask known None rules (start event))) none_once

-- ---- what is among texts that are added

or_assoc : (a b c : Bool) → ((a || b) || c) ≡ (a || (b || c))
or_assoc true b c = refl
or_assoc false b c = refl

or_false : (a : Bool) → (a || false) ≡ a
or_false true = refl
or_false false = refl

or_again : (a b : Bool) → (b ≡ true → a ≡ true) → (a || b) ≡ a
or_again true b h = refl
or_again false true h = sym (h refl)
or_again false false h = refl

among_push : (texts : List Text) (text command : Text) → is_among (texts ++ text ∷ []) command ≡ (is_among texts command || same_text command text)
among_push [] text command = or_false (same_text command text)
among_push (x ∷ texts) text command = ap (λ b. same_text command x || b) (among_push texts text command) ∙ sym (or_assoc (same_text command x) (is_among texts command) (same_text command text))

among_added : (texts : List Text) (text command : Text) → is_among (with_text texts text) command ≡ (is_among texts command || same_text command text)
among_added texts text command = by (is_among texts text) refl
  where
    by : (b : Bool) → is_among texts text ≡ b → is_among (cond b texts (texts ++ text ∷ [])) command ≡ (is_among texts command || same_text command text)
    by true e = sym (or_again (is_among texts command) (same_text command text) (λ same. ap (is_among texts) ((bytes_decides command text).0 same) ∙ e))
    by false e = among_push texts text command

among_all : (texts more : List Text) (command : Text) → is_among (with_texts texts more) command ≡ (is_among texts command || is_among more command)
among_all texts [] command = sym (or_false (is_among texts command))
among_all texts (text ∷ more) command =
    among_all (with_text texts text) more command
    ∙ ap (λ b. b || is_among more command) (among_added texts text command)
    ∙ or_assoc (is_among texts command) (same_text command text) (is_among more command)

and_false : (a : Bool) → (a && false) ≡ false
and_false true = refl
and_false false = refl

among_left : (p : Text → Bool) (texts : List Text) (command : Text) → is_among (filter p texts) command ≡ (is_among texts command && p command)
among_left p [] command = refl
among_left p (text ∷ texts) command = by (p text) refl (same_text command text) refl (among_left p texts command)
  where
    by : (b : Bool) → p text ≡ b → (c : Bool) → same_text command text ≡ c → is_among (filter p texts) command ≡ (is_among texts command && p command)
        → is_among (cond b (text ∷ filter p texts) (filter p texts)) command ≡ ((c || is_among texts command) && p command)
    by true e true f h = ap (λ c. c || is_among (filter p texts) command) f ∙ sym (ap p ((bytes_decides command text).0 f) ∙ e)
    by true e false f h = ap (λ c. c || is_among (filter p texts) command) f ∙ h
    by false e true f h =
        let no : p command ≡ false = ap p ((bytes_decides command text).0 f) ∙ e in
        h ∙ ap (λ b. is_among texts command && b) no ∙ and_false (is_among texts command) ∙ sym no
    by false e false f h = h

-- a command is asked if the rules ask it and it can be asked
pub asked_if : (rules : List Rule) (known : Known) (event : EventValue) (command : Text)
    → is_among (questions rules known event) command ≡ (is_among (rules_ask known None rules (start event)) command && can_be_asked command)
asked_if rules known event command =
    among_all [] (filter can_be_asked (rules_ask known None rules (start event))) command ∙ among_left can_be_asked (rules_ask known None rules (start event)) command
