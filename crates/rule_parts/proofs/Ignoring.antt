-- Options that udev does not know.
use Rattle.std.proofs.Common.{◌≡◌, ℕ, Bool, true, false, ◌||◌, if◌then◌else◌, List, Option, Some, None, is_some, refl, ap, codes}
use Rattle.std.specs.Option.{unwrap_or}
use Rattle.text_bytes.specs.declared.profile.Profile.TheVariants as profile
use Rattle.rule_types.specs.declared.rule_option.RuleOption.{RuleOption}
use Rattle.rule_types.specs.declared.rule_option.RuleOption.TheVariants.{Ignored}
use Rattle.text_bytes.specs.Texts.{following}
use Rattle.rule_parts.specs.Options.{beside, words, is_known_option, option_of, other_option, udev_option, udev_other}

none_left : (o : Option RuleOption) → is_some o ≡ false → unwrap_or o Ignored ≡ Ignored
none_left None h = refl
none_left (Some o) h = absurd (cc)

by_static : (b : Bool) (o : Option RuleOption) → is_some (if b || true then Some Ignored else o) ≡ true
by_static true o = refl
by_static false o = refl

-- a level is an option that udev knows
level_is_known : (text level : List ℕ) → following (codes "log_level=") text ≡ Some level → is_some (other_option text) ≡ true
level_is_known text level e = rw e (by_static (is_some (following (codes "static_node=") text)) (beside words text))

by_level : (text : List ℕ) (level : Option (List ℕ)) → following (codes "log_level=") text ≡ level → is_some (other_option text) ≡ false → udev_other text level ≡ Some Ignored
by_level text None e h = ap Some (none_left (other_option text) h)
by_level text (Some level) e h = let known = level_is_known text level e in absurd (cc)

by_priority : (text : List ℕ) (number : Option (List ℕ)) → (is_some number || is_some (other_option text)) ≡ false → udev_option text number ≡ Some Ignored
by_priority text None h = by_level text (following (codes "log_level=") text) refl h
by_priority text (Some number) h = absurd (cc)

pub unknown_is_ignored : (text : List ℕ) → is_known_option text ≡ false → option_of profile.Udev text ≡ Some Ignored
unfolding option_of
unknown_is_ignored text h = by_priority text (following (codes "link_priority=") text) h
