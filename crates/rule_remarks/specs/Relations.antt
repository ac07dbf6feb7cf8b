-- When two tokens of a rule say the same, and when they exclude each other.
use Rattle.std.specs.Prelude.{Bool, true, false, not, ◌&&◌, ◌||◌, nat_eq, if◌then◌else◌, List, take}
use Rattle.std.specs.Bool.{beq}
use Rattle.std.specs.List.{list_all, list_any, prefix_len, starts_with}
use Rattle.std.specs.Option.{option_eq}
use Rattle.std.specs.Ordering.{int_eq}
use Rattle.text_bytes.specs.Texts.{is_empty}
use Rattle.text_core.specs.Fnmatch.{is_special}
use Rattle.text_bytes.specs.Text.{Text}
use Rattle.text_tables.specs.Texts.{is_among, same_text}
use Rattle.rule_tokens.specs.declared.kinds.Operator.{Operator}
use Rattle.rule_tokens.specs.declared.kinds.Operator.TheVariants as op
use Rattle.rule_types.specs.Tokens.{same_operator}
use Rattle.rule_remarks.specs.Said.{Said}
use Rattle.rule_remarks.specs.declared.form.Form.{Form}
use Rattle.rule_remarks.specs.declared.form.Form.TheVariants as form

-- whether two operators are `==` and `!=`
abbrev pub are_opposite : Operator → Operator → Bool
are_opposite op.Equal op.NotEqual = true
are_opposite op.NotEqual op.Equal = true
are_opposite _ _ = false

-- whether two forms are the same
abbrev pub same_form : Form → Form → Bool
same_form form.AnySubsystem form.AnySubsystem = true
same_form form.Empty form.Empty = true
same_form form.Plain form.Plain = true
same_form form.Pattern form.Pattern = true
same_form form.PlainOrEmpty form.PlainOrEmpty = true
same_form form.PatternOrEmpty form.PatternOrEmpty = true
same_form form.Whole form.Whole = true
same_form _ _ = false

-- whether two tokens are of the same kind and about the same matter
abbrev pub same_matter : Said → Said → Bool
same_matter a b = same_text a.key b.key && (same_text a.kind b.kind && (same_text a.name b.name && option_eq int_eq a.number b.number))

-- whether two tokens compare in the same way
abbrev pub same_way : Said → Said → Bool
same_way a b = same_form a.form b.form && (beq a.blind b.blind && beq a.trims b.trims)

-- whether two lists have the same words, in any order
abbrev pub same_words : List Text → List Text → Bool
same_words ws vs = list_all (is_among vs) ws && list_all (is_among ws) vs

-- a form in which each text means the same
abbrev pub is_wordless : Form → Bool
is_wordless form.AnySubsystem = true
is_wordless form.Empty = true
is_wordless _ = false

-- whether the words of a token do not matter: in its form each text means the same, case counts, and it does not trim
abbrev pub lacks_words : Said → Bool
lacks_words a = is_wordless a.form && (not a.blind && not a.trims)

-- whether two tokens are alike: they differ in their operators at most
abbrev pub are_alike : Said → Said → Bool
are_alike a b = (same_matter a b && same_way a b) && (lacks_words a || same_words a.words b.words)

-- what is in a pattern before its first `*`, `?` or `[`
unfoldable pub beginning : Text → Text
beginning word = take (prefix_len (λ b. not (is_special b)) word) word

-- whether no text begins with both of two texts: neither is empty, and neither begins with the other
unfoldable pub part_ways : Text → Text → Bool
part_ways x y = (not (is_empty x) && not (is_empty y)) && (not (starts_with nat_eq x y) && not (starts_with nat_eq y x))

-- whether a beginning parts ways with those of all these patterns
unfoldable pub parts_from_all : Text → List Text → Bool
parts_from_all prefix vs = list_all (λ v. part_ways prefix (beginning v)) vs

-- whether the beginnings of any two patterns part ways, one from each list
abbrev pub all_part_ways : List Text → List Text → Bool
all_part_ways ws vs = list_all (λ w. parts_from_all (beginning w) vs) ws

-- whether no value can satisfy both lists of words, by their form
abbrev pub leave_nothing : Form → List Text → List Text → Bool
leave_nothing form.Plain ws vs = not (list_any (is_among vs) ws)
leave_nothing form.Pattern ws vs = all_part_ways ws vs
leave_nothing _ ws vs = false

-- whether a token compares by `==`, case counts, and it does not trim
abbrev pub is_strict : Said → Bool
is_strict a = same_operator a.operator op.Equal && (not a.blind && not a.trims)

-- whether two tokens of one matter compare by `==` so that no value can satisfy both
abbrev pub are_disjoint : Said → Said → Bool
are_disjoint a b = (same_matter a b && same_way a b) && ((is_strict a && is_strict b) && leave_nothing a.form a.words b.words)

-- whether two tokens say the same
unfoldable pub is_same : Said → Said → Bool
is_same a b = are_alike a b && same_operator a.operator b.operator

-- whether two tokens exclude each other
unfoldable pub is_against : Said → Said → Bool
is_against a b = if are_alike a b then are_opposite a.operator b.operator else are_disjoint a b
