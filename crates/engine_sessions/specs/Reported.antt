-- What a device reports about the items that went through it: `None` if it does not report them.
use Rattle.std.specs.Prelude.{◌≡◌, Option, Some, None, List, [], ◌++◌}
use Rattle.text_bytes.specs.Text.{Text}

-- what is reported once more items have followed
abbrev pub followed_by : {A : Type 0} → Option (List A) → List A → Option (List A)
followed_by None more = None
followed_by (Some items) more = Some (items ++ more)

-- what is reported for the items to come if these come first
abbrev pub led_by : {A : Type 0} → List A → Option (List A) → Option (List A)
led_by first None = None
led_by first (Some rest) = Some (first ++ rest)

-- no item is to come, as far as it is reported
abbrev pub NoneLeft : Option Text → Type 0
NoneLeft None = Unit {0}
NoneLeft (Some rest) = rest ≡ []
