-- What a match of ATTR or ATTRS looks at, wherever it is in memory.
use Rattle.std.specs.Prelude.{option_map}
use Rattle.eval_rendering.specs.Holding.{Subject, attribute, udev_attribute, udev_unread}
use Rattle.eval_rendering.specs.declared.matched_attributes.Attribute.{Attribute}
use Rattle.eval_rendering.specs.declared.matched_attributes.Attribute.TheVariants as borrowed

-- a borrowed attribute, as what a match looks at
abbrev pub borrowed_subject : Attribute → Subject
borrowed_subject (borrowed.Manual value) = attribute (option_map (λ t. t.now) value)
borrowed_subject (borrowed.Udev value) = udev_attribute (option_map (λ t. t.now) value)
borrowed_subject borrowed.NotRead = udev_unread
