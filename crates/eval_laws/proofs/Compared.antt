-- How what a key looks at is compared.
use Rattle.std.proofs.Common.{◌≡◌, Bool, true, false, cond, not, ◌||◌, ◌&&◌, List, [], ◌∷◌, Option, Some, None, option_to_list, refl, ap, ◌∙◌}
use Rattle.std.specs.List.{list_any}
use Rattle.text_bytes.specs.Text.{Text}
use Rattle.text_core.specs.Choices.{choice_fits}
use Rattle.text_bytes.specs.Texts.{trimmed}
use Rattle.rule_types.specs.declared.roles.MatchOperator.TheVariants.{Equal, NotEqual}
use Rattle.rule_types.specs.declared.part.Comparison.{Comparison}
use Rattle.eval_rendering.specs.Holding.{Subject, as_compared, attribute, constant, holds, members, never, one, udev_attribute, udev_members, udev_subsystem, udev_unread, unread}
use Rattle.eval_rendering.specs.Udev.{compared_with, members_fit, subsystem_fits}
use Rattle.eval_laws.specs.Comparing.{AreOpposite, ComparesAsItIs, ComparesWithoutItsEnd}
use Rattle.eval_laws.proofs.TextEnds.{choice_seen, choice_unseen, trimmed_is}

alone : (b : Bool) → b ≡ (b || false)
alone true = refl
alone false = refl

pub one_in_place : (text : Text) → ComparesAsItIs (one text) (text ∷ [])
unfolding holds
one_in_place text blind written choice = alone (choice_fits choice text)

pub members_in_place : (texts : List Text) → ComparesAsItIs (members texts) texts
unfolding holds
members_in_place texts blind written choice = refl

pub unread_in_place : ComparesAsItIs unread []
unfolding holds
unread_in_place blind written choice = refl

-- a constant, and what replaces one that no match holds of
pub constant_in_place : (known : Bool) (value : Option Text) → ComparesAsItIs (cond known (constant value) never) (cond known (option_to_list value) [])
unfolding holds
constant_in_place true None blind written choice = refl
constant_in_place true (Some text) blind written choice = alone (choice_fits choice text)
constant_in_place false value blind written choice = refl

-- by the manual every subject but one is either met or not
pub one_opposite : (text : Text) → AreOpposite (one text)
unfolding holds
one_opposite text wanted = refl

pub members_opposite : (texts : List Text) → AreOpposite (members texts)
unfolding holds
members_opposite texts wanted = refl

pub unread_opposite : AreOpposite unread
unfolding holds
unread_opposite wanted = refl

pub attribute_opposite : (value : Option Text) → AreOpposite (attribute value)
unfolding holds
attribute_opposite None wanted = refl
attribute_opposite (Some text) wanted = refl

pub constant_opposite : (value : Option Text) → AreOpposite (constant value)
unfolding holds
constant_opposite None wanted = refl
constant_opposite (Some text) wanted = refl

-- and whatever it is, at most one of both operators holds
not_both : (fits : Bool) → (not fits && fits) ≡ false
not_both true = refl
not_both false = refl

pub never_both : (subject : Subject) (wanted : Comparison) → (holds subject (record wanted { operator = NotEqual }) && holds subject (record wanted { operator = Equal })) ≡ false
unfolding holds
never_both (one text) wanted = not_both (choice_fits wanted.choice text)
never_both (attribute None) wanted = refl
never_both (attribute (Some text)) wanted = not_both (choice_fits wanted.choice (as_compared wanted.choice text))
never_both (constant None) wanted = refl
never_both (constant (Some text)) wanted = not_both (choice_fits wanted.choice text)
never_both (members texts) wanted = not_both (list_any (choice_fits wanted.choice) texts)
never_both never wanted = refl
never_both unread wanted = refl
never_both (udev_subsystem text) wanted = not_both (subsystem_fits wanted text)
never_both (udev_attribute None) wanted = refl
never_both (udev_attribute (Some text)) wanted = not_both (choice_fits wanted.choice (compared_with wanted.written text))
never_both (udev_members texts) wanted = not_both (members_fit wanted texts)
never_both udev_unread wanted = refl

pub attribute_cut : (text : Text) → ComparesWithoutItsEnd (attribute (Some text)) text
unfolding holds
attribute_cut text = record {
  whole = (λ blind written choice ends. ap (λ b. choice_fits choice (cond b text (trimmed text))) (choice_seen choice ends));
  cut = (λ blind written choice ends short is. ap (λ b. choice_fits choice (cond b text (trimmed text))) (choice_unseen choice ends) ∙ ap (choice_fits choice) (trimmed_is text short is));
}
