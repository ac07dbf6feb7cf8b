-- The classes of bytes in the C locale.
use Rattle.std.specs.Prelude.{ℕ, Bool, ◌==◌, ◌||◌, List, [], ◌∷◌, Option, nat_eq, codes}
use Rattle.std.specs.Char.{is_ascii_alphabetic, is_ascii_alphanumeric, is_ascii_control, is_ascii_digit, is_ascii_graphic}
use Rattle.std.specs.Char.{is_ascii_hexdigit, is_ascii_lowercase, is_ascii_punctuation, is_ascii_uppercase}
use Rattle.std.specs.Cmp.Lexicographic.{pointwise}
use Rattle.std.specs.List.{find}
use Rattle.text_bytes.specs.Text.{Text}
use Rattle.text_bytes.specs.Names.{is_blank, is_whitespace, space}
use Rattle.text_core.specs.declared.byte_class.ByteClass.{ByteClass}
use Rattle.text_core.specs.declared.byte_class.ByteClass.TheVariants.{Alphanumeric, Alphabetic, Blank, Control, Digit, Graphic, Lowercase}
use Rattle.text_core.specs.declared.byte_class.ByteClass.TheVariants.{Printed, Punctuation, Whitespace, Uppercase, Hexdigit}

-- The name of a class.
abbrev pub class_name : ByteClass → Text
class_name Alphanumeric = codes "alnum"
class_name Alphabetic = codes "alpha"
class_name Blank = codes "blank"
class_name Control = codes "cntrl"
class_name Digit = codes "digit"
class_name Graphic = codes "graph"
class_name Lowercase = codes "lower"
class_name Printed = codes "print"
class_name Punctuation = codes "punct"
class_name Whitespace = codes "space"
class_name Uppercase = codes "upper"
class_name Hexdigit = codes "xdigit"

-- All classes.
abbrev pub classes : List ByteClass
classes =
    Alphanumeric ∷ Alphabetic ∷ Blank ∷ Control ∷ Digit ∷ Graphic ∷ Lowercase ∷ Printed ∷ Punctuation ∷ Whitespace ∷ Uppercase ∷ Hexdigit ∷ []

-- The class with a name, if there is one.
unfoldable pub class_of : Text → Option ByteClass
class_of name = find (λ class. pointwise nat_eq (class_name class) name) classes

-- Whether a class has a byte. What is printed is the space and the graphic bytes.
abbrev pub class_has : ByteClass → ℕ → Bool
class_has Alphanumeric b = is_ascii_alphanumeric b
class_has Alphabetic b = is_ascii_alphabetic b
class_has Blank b = is_blank b
class_has Control b = is_ascii_control b
class_has Digit b = is_ascii_digit b
class_has Graphic b = is_ascii_graphic b
class_has Lowercase b = is_ascii_lowercase b
class_has Printed b = b == space || is_ascii_graphic b
class_has Punctuation b = is_ascii_punctuation b
class_has Whitespace b = is_whitespace b
class_has Uppercase b = is_ascii_uppercase b
class_has Hexdigit b = is_ascii_hexdigit b
