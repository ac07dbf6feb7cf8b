-- W17, W19 and W22: blanks beside a `|`, what looks like a substitution, and names that are too long.
use Rattle.std.specs.Prelude.{Bool, not, ◌&&◌, ◌||◌, nat_lt, if◌then◌else◌, [], ◌∷◌, length, codes, is_some}
use Rattle.text_bytes.specs.Names.{dollar, percent, space}
use Rattle.text_bytes.specs.Texts.{begins_with, ends_in, is_empty}
use Rattle.text_bytes.specs.Text.{Text}
use Rattle.text_tables.specs.Texts.{same_text}
use Rattle.rule_tokens.specs.Grammar.{Placed, compares}
use Rattle.rule_types.specs.declared.part.Part.{Part}
use Rattle.rule_lints.specs.Parts.{comparison_of}
use Rattle.rule_lints.specs.Texts.{has_byte}
use Rattle.rule_lints.specs.Tables.{mistaken_substitutions, substitutions}
use Rattle.rule_lints.specs.ValueTexts.{has_one}

-- whether a part compares its value: that of PROGRAM, IMPORT and TEST is no pattern
abbrev pub is_compared : Part → Bool
is_compared p = is_some (comparison_of p)

-- Whether patterns have a blank beside a `|` that is not meant as a part of them: the first does not begin with one, or
-- the last does not end in one.
abbrev pub is_blank_beside_bar : Text → Bool
is_blank_beside_bar value =
    (has_one (codes "| " ∷ []) value && not (begins_with space value)) || (has_one (codes " |" ∷ []) value && not (ends_in space value))

-- Whether W19 is reported for a value: no substitution is made in one that is compared, and another one has a mistaken
-- substitution; one with doubled signs is left alone.
abbrev pub is_no_substitution : Bool → Text → Bool
is_no_substitution compared value =
    if compared then has_one substitutions value
    else (has_one mistaken_substitutions value && not (has_one (codes "%%" ∷ codes "$$" ∷ []) value))

-- whether a value is the same for each device: it is not empty, and has no substitution
abbrev pub is_constant : Text → Bool
is_constant value = not (is_empty value) && not (has_byte percent value || has_byte dollar value)

-- whether a token gives NAME a name that is longer than that of a network interface may be: 15 bytes, as the kernel's
-- IFNAMSIZ is 16 with the byte that ends it
abbrev pub is_long_name : Placed → Bool
is_long_name t =
    same_text t.parts.head.key (codes "NAME")
    && (not (compares t.parts.head.operator) && (is_constant t.parts.value && nat_lt 15 (length t.parts.value)))
