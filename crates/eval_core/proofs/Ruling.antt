-- A rule that is ruled out changes nothing, over an event by the manual.
use Rattle.std.proofs.Common.{◌≡◌, ℕ, zero, suc, ◌+◌, ◌-◌, Bool, true, false, cond, not, ◌&&◌, ◌==◌, List, [], ◌∷◌, length, get_or, position, slice_get, Option, Some, None, option_map, refl, ap, sym, ◌∙◌, true≢false, arith}
use Rattle.std.specs.List.{list_all}
use Rattle.std.specs.Option.{option_or}
use Rattle.std.specs.Cmp.Lexicographic.{bytes_decides}
use Rattle.std.proofs.lemmas.Bool.{eq-eqb}
use Rattle.std.proofs.lemmas.List.Quantifiers.{position-Some}
use Rattle.std.proofs.lemmas.Option.{slice_get-map, slice_get-get_or}
use Rattle.text_bytes.specs.Names.{is_whitespace}
use Rattle.text_bytes.specs.declared.profile.Profile.TheVariants.{Manual}
use Rattle.text_bytes.specs.Text.{Text}
use Rattle.text_tables.specs.Texts.{same_text}
use Rattle.text_tables.specs.Pairs.{value_of}
use Rattle.text_core.specs.Choices.{choice_fits}
use Rattle.text_core.specs.declared.item.Item.{Item}
use Rattle.text_core.specs.declared.item.Item.TheVariants as item
use Rattle.builtin_devices.specs.Knowledge.{Known}
use Rattle.rule_types.specs.declared.roles.MatchOperator.{MatchOperator}
use Rattle.rule_types.specs.declared.roles.MatchOperator.TheVariants.{Equal, NotEqual}
use Rattle.rule_types.specs.declared.roles.PlainKey.{PlainKey}
use Rattle.rule_types.specs.declared.roles.PlainKey.TheVariants as plain
use Rattle.rule_types.specs.declared.part.Comparison.{Comparison}
use Rattle.rule_types.specs.declared.part.PlainMatch.{PlainMatch}
use Rattle.rule_types.specs.Rules.{Rule}
use Rattle.eval_core.specs.Sketches.{exact_head, exact_sketch, first_byte, is_word_item, sketch}
use Rattle.eval_core.proofs.Heading.{fits_same_head}
use Rattle.eval_core.proofs.Sketching.{IsExact, exact, fits_same_sketch}
use Rattle.device_core.specs.Values.{EventValue}
use Rattle.eval_state.specs.Chains.{kernel_of}
use Rattle.eval_state.specs.Texts.{or_empty}
use Rattle.text_bytes.specs.Texts.{trimmed}
use Rattle.eval_state.specs.Scenes.{noted}
use Rattle.eval_state.specs.declared.note_kind.NoteKind.TheVariants.{AttributeNotRead}
use Rattle.eval_rendering.specs.Attributes.{attribute_by, is_not_read, is_not_read_by, value_by}
use Rattle.eval_rendering.specs.Holding.{agrees, attribute, ends_in_whitespace, holds, is_whitespace_item, one}
use Rattle.eval_rendering.specs.Subjects.{plain_subject, subsystem_by}
use Rattle.eval_rendering.specs.Udev.{passes}
use Rattle.eval_state.specs.declared.scene.Scene.{Scene}
use Rattle.eval_acts.specs.Acts.{act_step}
use Rattle.eval_acts.specs.Reaching.{match_reached}
use Rattle.eval_rules.specs.Steps.{if_proceeding, plain_step, result_step, search, set_all, steps, walk}
use Rattle.eval_core.specs.Checks.{after_others, attribute_seen, check_by, check_in, check_of, choice_check, differs, equal_check, first_attribute_slot, head_slot, is_other, is_ruled_out, seen, slot_of}
use Rattle.eval_core.specs.declared.checks.Check.{Check}

-- ---- what does not fit

not_fitting : (found number : ℕ) (fits : Bool) → (fits ≡ true → number ≡ found) → not (number == found) ≡ true → fits ≡ false
not_fitting found number true reports other = absurd (true≢false (sym other ∙ ap not (eq-eqb number found (reports refl))))
not_fitting found number false reports other = refl

-- a choice fits no text with another sketch
fits_not : (choice : List (List Item)) (found : ℕ) (text : Text) → exact_sketch choice ≡ Some found → not (sketch text == found) ≡ true → choice_fits choice text ≡ false
fits_not choice found text e other = not_fitting found (sketch text) (choice_fits choice text) (fits_same_sketch choice found text e) other

-- a comparison with what does not fit holds exactly if it is by `!=`
pub text_missed : (wanted : Comparison) (found : ℕ) (text : Text) → exact_sketch wanted.choice ≡ Some found → not (sketch text == found) ≡ true → holds (one text) wanted ≡ agrees wanted.operator false
unfolding holds
text_missed wanted found text e other = ap (agrees wanted.operator) (fits_not wanted.choice found text e other)

head_missed : (wanted : Comparison) (found : ℕ) (text : Text) → exact_head wanted.choice ≡ Some found → not (first_byte text == found) ≡ true → holds (one text) wanted ≡ agrees wanted.operator false
unfolding holds
head_missed wanted found text e other =
    ap (agrees wanted.operator) (not_fitting found (first_byte text) (choice_fits wanted.choice text) (fits_same_head wanted.choice found text e) other)

-- ---- attributes

-- the last of items that are not whitespace is not whitespace
last_word : (xs : List Item) (n : ℕ) → list_all is_word_item xs ≡ true → passes is_whitespace_item (slice_get xs n) ≡ false
last_word [] n w = refl
last_word (x ∷ xs) zero w = one_word x (list_all is_word_item xs) w
  where
    one_word : (x : Item) (more : Bool) → (is_word_item x && more) ≡ true → is_whitespace_item x ≡ false
    one_word (item.Byte b) more w = by (is_whitespace b) w
      where
        by : (space : Bool) → (not space && more) ≡ true → space ≡ false
        by true h = absurd (true≢false (sym h))
        by false h = refl
    one_word item.One more w = refl
    one_word item.Many more w = refl
    one_word (item.Among set) more w = refl
last_word (x ∷ xs) (suc n) w = last_word xs n (rest (is_word_item x) w)
  where
    rest : (b : Bool) → (b && list_all is_word_item xs) ≡ true → list_all is_word_item xs ≡ true
    rest true h = h
    rest false h = absurd (true≢false (sym h))

not_padded : (choice : List (List Item)) (found : ℕ) → exact_sketch choice ≡ Some found → ends_in_whitespace choice ≡ false
not_padded choice found e =
    let only : IsExact choice found = exact choice found e in
    ap ends_in_whitespace only.choice_is ∙ last_word only.items (length only.items - 1) only.words

pub attribute_missed : (wanted : Comparison) (found : ℕ) (value : Option Text) → exact_sketch wanted.choice ≡ Some found → is_other found (option_map (λ v. sketch (trimmed v)) value) ≡ true → holds (attribute value) wanted ≡ agrees wanted.operator false
unfolding holds
attribute_missed wanted found None e other = refl
attribute_missed wanted found (Some v) e other =
    ap (λ b. agrees wanted.operator (choice_fits wanted.choice (cond b v (trimmed v)))) (not_padded wanted.choice found e)
    ∙ ap (agrees wanted.operator) (fits_not wanted.choice found (trimmed v) e other)

-- ---- what is seen of an event

-- what is at the slot of an attribute
attribute_at : (names : List Text) (name : Text) (event : EventValue) (place : ℕ) → position (same_text name) names ≡ Some place → slice_get (seen names event) (place + first_attribute_slot) ≡ Some (attribute_seen event.device name)
attribute_at names name event place found =
    let five : place + first_attribute_slot ≡ suc (suc (suc (suc (suc place)))) = omega arith in
    let at = position-Some (same_text name) names place [] found in
    let is : name ≡ get_or names place [] = (bytes_decides name (get_or names place [])).0 at.1 in
    ap (λ n. slice_get (seen names event) n) five
    ∙ slice_get-map (attribute_seen event.device) names place
    ∙ ap (option_map (attribute_seen event.device)) (slice_get-get_or names place [] at.0)
    ∙ ap (λ n. Some (attribute_seen event.device n)) (sym is)

-- a match that is ruled out leaves nothing, and holds exactly if it is by `!=`
abbrev pub Misses : Rule → Scene → PlainKey → Comparison → Type 0
Misses r s key wanted = (match_reached r key s ≡ s) × (holds (plain_subject key s.state) wanted ≡ agrees wanted.operator false)

pub nothing_known : {A : Type 0} → false ≡ true → A
nothing_known h = absurd (true≢false (sym h))

-- by the manual an attribute that is reached leaves nothing
attribute_reached : (r : Rule) (name : Text) (s : Scene) → s.state.event.profile ≡ Manual → match_reached r (plain.Attr name) s ≡ s
unfolding is_not_read
attribute_reached r name s manual = ap (λ by. cond (is_not_read_by by name s.state.event) (noted r AttributeNotRead name s) s) manual

module _ (names : List Text) (r : Rule) (s : Scene) (manual : s.state.event.profile ≡ Manual) where
  text_ruled : (slot : ℕ) (text : Text) (wanted : Comparison) → slice_get (seen names s.state.event) slot ≡ Some (Some (sketch text)) → (o : Option ℕ) → exact_sketch wanted.choice ≡ o
      → is_ruled_out (seen names s.state.event) (check_by (Some slot) o) ≡ true → holds (one text) wanted ≡ agrees wanted.operator false
  text_ruled slot text wanted at None e h = nothing_known h
  text_ruled slot text wanted at (Some found) e h = text_missed wanted found text e (ap (λ o. differs o found) (sym at) ∙ h)

  attribute_ruled : (name : Text) (wanted : Comparison) (p : Option ℕ) → position (same_text name) names ≡ p → (o : Option ℕ) → exact_sketch wanted.choice ≡ o
      → is_ruled_out (seen names s.state.event) (check_by (after_others p) o) ≡ true → holds (attribute (value_of s.state.event.device.attrs name)) wanted ≡ agrees wanted.operator false
  attribute_ruled name wanted None at o e h = nothing_known h
  attribute_ruled name wanted (Some place) at None e h = nothing_known h
  attribute_ruled name wanted (Some place) at (Some found) e h =
      attribute_missed wanted found (value_of s.state.event.device.attrs name) e (ap (λ o. differs o found) (sym (attribute_at names name s.state.event place at)) ∙ h)

  key_missed : (key : PlainKey) (wanted : Comparison) → is_ruled_out (seen names s.state.event) (check_by (slot_of names key) (exact_sketch wanted.choice)) ≡ true → Misses r s key wanted
  key_missed plain.Action wanted h = (refl, text_ruled 0 s.state.event.action wanted refl (exact_sketch wanted.choice) refl h)
  key_missed plain.Kernel wanted h = (refl, text_ruled 1 (kernel_of s.state.event.device) wanted refl (exact_sketch wanted.choice) refl h)
  key_missed plain.Subsystem wanted h =
      let text : Text = or_empty s.state.event.device.subsystem in
      (refl, ap (λ by. holds (subsystem_by by text) wanted) manual ∙ text_ruled 2 text wanted refl (exact_sketch wanted.choice) refl h)
  key_missed plain.Driver wanted h = (refl, text_ruled 3 (or_empty s.state.event.device.driver) wanted refl (exact_sketch wanted.choice) refl h)
  key_missed (plain.Attr name) wanted h = (
    attribute_reached r name s manual,
    ap (λ by. holds (attribute_by by name s.state.event (Some s.state.event.device) (value_by by name s.state s.state.event.device)) wanted) manual
        ∙ attribute_ruled name wanted (position (same_text name) names) refl (exact_sketch wanted.choice) refl h,
  )
  key_missed key wanted h = nothing_known h

  head_ruled : (text : Text) (wanted : Comparison) → slice_get (seen names s.state.event) 4 ≡ Some (Some (first_byte text)) → (o : Option ℕ) → exact_head wanted.choice ≡ o
      → is_ruled_out (seen names s.state.event) (check_by (Some 4) o) ≡ true → holds (one text) wanted ≡ agrees wanted.operator false
  head_ruled text wanted at None e h = nothing_known h
  head_ruled text wanted at (Some found) e h = head_missed wanted found text e (ap (λ o. differs o found) (sym at) ∙ h)

  key_missed_at_its_head : (key : PlainKey) (wanted : Comparison) → is_ruled_out (seen names s.state.event) (check_by (head_slot key) (exact_head wanted.choice)) ≡ true → Misses r s key wanted
  key_missed_at_its_head plain.Kernel wanted h = (refl, head_ruled (kernel_of s.state.event.device) wanted refl (exact_head wanted.choice) refl h)
  key_missed_at_its_head key wanted h = nothing_known h

  pub missed : (key : PlainKey) (wanted : Comparison) → is_ruled_out (seen names s.state.event) (choice_check names key wanted.choice) ≡ true → Misses r s key wanted
  missed key wanted h = by (check_by (slot_of names key) (exact_sketch wanted.choice)) refl h
    where
      by : (check : Option Check) → check_by (slot_of names key) (exact_sketch wanted.choice) ≡ check
          → is_ruled_out (seen names s.state.event) (option_or check (check_by (head_slot key) (exact_head wanted.choice))) ≡ true → Misses r s key wanted
      by None e k = key_missed_at_its_head key wanted k
      by (Some check) e k = key_missed key wanted (ap (is_ruled_out (seen names s.state.event)) e ∙ k)

-- ---- a rule

-- a rule whose first match leaves nothing and does not hold
pub stops : (known : Known) (r : Rule) (s : Scene) (part : PlainMatch) (parts : List PlainMatch) → r.plain ≡ part ∷ parts → match_reached r part.key s ≡ s → holds (plain_subject part.key s.state) part.wanted ≡ false
    → steps known r s ≡ (s, false)
unfolding steps walk plain_step
stops known r s part parts plain leaves fails =
    let first : walk (plain_step r) r.plain s ≡ (s, false) =
    ap (λ ps. walk (plain_step r) ps s) plain
    ∙ ap (λ (t : Scene). if_proceeding (walk (plain_step r) parts) (t, holds (plain_subject part.key s.state) part.wanted)) leaves
    ∙ ap (λ b. if_proceeding (walk (plain_step r) parts) (s, b)) fails in
    ap (λ w. if_proceeding (set_all r) (if_proceeding (walk result_step r.results) (if_proceeding (walk (act_step known r) r.acts) (if_proceeding (search r.up) w)))) first

-- a rule that is ruled out changes nothing, and its end is not reached
pub ruled_out : (known : Known) (names : List Text) (r : Rule) (s : Scene) → s.state.event.profile ≡ Manual → is_ruled_out (seen names s.state.event) (check_of names r) ≡ true → steps known r s ≡ (s, false)
ruled_out known names r s manual h = by r.plain refl h
  where
    by : (parts : List PlainMatch) → r.plain ≡ parts → is_ruled_out (seen names s.state.event) (check_in names parts) ≡ true → steps known r s ≡ (s, false)
    by [] plain k = nothing_known k
    by (part ∷ parts) plain k = fails part.wanted.operator refl k
      where
        fails : (o : MatchOperator) → part.wanted.operator ≡ o → is_ruled_out (seen names s.state.event) (equal_check o (choice_check names part.key part.wanted.choice)) ≡ true → steps known r s ≡ (s, false)
        fails Equal e k =
            let misses = missed names r s manual part.key part.wanted k in
            stops known r s part parts plain misses.0 (misses.1 ∙ ap (λ o. agrees o false) e)
        fails NotEqual e k = nothing_known k
