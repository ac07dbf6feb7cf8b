use Rattle.std.proofs.Common.{◌≡◌, Bool, true, false, ◌&&◌, cond, List, ◌∷◌, [], ◌++◌, refl, ◌∙◌, ap}
use Rattle.std.specs.Prelude.{codes}
use Rattle.text_core.specs.Classes.{class_has, class_name, class_of}
use Rattle.text_core.specs.Elements.{element_of, named_class, takes_among}
use Rattle.text_core.specs.Fits.{fits}
use Rattle.text_core.specs.Fnmatch.{fnmatch_bracket, fnmatch_first, fnmatch_items}
use Rattle.text_core.specs.Items.{set_has}
use Rattle.text_core.specs.Sets.{set_of}
use Rattle.text_core.specs.declared.byte_class.ByteClass.{ByteClass}
use Rattle.text_core.specs.declared.byte_class.ByteClass.TheVariants.{Alphanumeric, Alphabetic, Blank, Control, Digit, Graphic, Lowercase, Printed, Punctuation, Whitespace, Uppercase, Hexdigit}
use Rattle.text_core.specs.declared.elements.Element.TheVariants.{Class}
use Rattle.text_core.specs.declared.item.Item.{Item}
use Rattle.text_core.specs.declared.item.Item.TheVariants.{Among}
use Rattle.text_core.specs.declared.reading.Reading.{Reading}
use Rattle.rule_laws.proofs.Belonging.{set_has-set_of}
use Rattle.rule_laws.proofs.udev_patterns.class_takes_its_bytes.Goals as goal

spelled : (reading : Reading) (class : ByteClass) → fnmatch_items reading (codes "[[:" ++ class_name class ++ codes ":]]") 0 ≡ Among (set_of (takes_among reading false (Class class ∷ []))) ∷ []
unfolding fnmatch_first fnmatch_bracket element_of named_class class_of
spelled reading Alphanumeric = refl
spelled reading Alphabetic = refl
spelled reading Blank = refl
spelled reading Control = refl
spelled reading Digit = refl
spelled reading Graphic = refl
spelled reading Lowercase = refl
spelled reading Printed = refl
spelled reading Punctuation = refl
spelled reading Whitespace = refl
spelled reading Uppercase = refl
spelled reading Hexdigit = refl

and_true : (v : Bool) → (v && true) ≡ v
and_true true = refl
and_true false = refl

as_it_is : (v : Bool) → cond v true false ≡ v
as_it_is true = refl
as_it_is false = refl

pub returns : goal.returns
returns c = λ reading class b h.
    ap (λ (items : List Item). fits items (b ∷ [])) (spelled reading class)
    ∙ and_true (set_has (set_of (takes_among reading false (Class class ∷ []))) b)
    ∙ set_has-set_of (takes_among reading false (Class class ∷ [])) b h
    ∙ as_it_is (class_has class b)
