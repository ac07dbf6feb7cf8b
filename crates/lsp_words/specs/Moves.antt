-- Where a row of a rules file goes on to at its next byte.
use Rattle.std.specs.Prelude.{Bool, if◌then◌else◌}
use Rattle.lsp_words.specs.declared.classes.Class.{Class}
use Rattle.lsp_words.specs.declared.classes.Class.TheVariants as class
use Rattle.lsp_words.specs.declared.moves.Bounds.{Bounds}
use Rattle.lsp_words.specs.declared.moves.Move.{Move}
use Rattle.lsp_words.specs.declared.moves.Place.{Place}
use Rattle.lsp_words.specs.declared.moves.Place.TheVariants as place
use Rattle.lsp_words.specs.declared.moves.Turn.{Turn}
use Rattle.lsp_words.specs.declared.moves.Turn.TheVariants.{Longer, Fresh, Empty}

-- a move to a place, and what becomes of the word
abbrev pub go : Place → Turn → Move
go p t = record { place = p; turn = t }

-- Outside quotes and braces: a quote begins a value, an open brace the braces of a key. Where a blank and a letter lead,
-- and whether a byte of an operator begins one, depends on the place.
abbrev pub outside : Place → Move → Turn → Class → Move
outside blank letter operator class.Letter = letter
outside blank letter operator class.Operator = go place.Operator operator
outside blank letter operator class.Blank = go blank Empty
outside blank letter operator class.Quote = go place.Value Empty
outside blank letter operator class.OpenBrace = go place.Braces Empty
outside blank letter operator _ = go place.Gap Empty

-- where only blanks come before, which a comment may follow
abbrev pub in_indent : Class → Move
in_indent class.Hash = go place.Comment Fresh
in_indent c = outside place.Indent (go place.Key Fresh) Fresh c

-- in the braces of a key, up to the brace that closes them
abbrev pub in_braces : Class → Move
in_braces class.CloseBrace = go place.Head Empty
in_braces _ = go place.Braces Longer

-- In a value where no name may stand: a quote ends the value, a sign may begin a substitution, and a bar another word.
abbrev pub in_later : Bounds → Class → Move
in_later bounds class.Quote = go place.Gap Empty
in_later bounds class.Backslash = go place.Escape Longer
in_later bounds class.Sign = if bounds.substitutes then go place.Name Fresh else go place.Later Longer
in_later bounds class.Bar = if bounds.splits then go place.Value Empty else go place.Later Longer
in_later bounds _ = go place.Later Longer

-- in a value where a name may stand, which blanks may come before
abbrev pub in_value : Bounds → Bool → Class → Move
in_value bounds is_empty class.Blank = if is_empty then go place.Value Empty else go place.Later Longer
in_value bounds is_empty class.Quote = in_later bounds class.Quote
in_value bounds is_empty class.Backslash = in_later bounds class.Backslash
in_value bounds is_empty class.Sign = in_later bounds class.Sign
in_value bounds is_empty class.Bar = in_later bounds class.Bar
in_value bounds is_empty _ = go place.Value Longer

-- directly after a backslash, which takes its meaning from a quote, or from any byte if the value has escapes
abbrev pub in_escape : Bounds → Class → Move
in_escape bounds class.Quote = go place.Later Longer
in_escape bounds c = if bounds.escapes then go place.Later Longer else in_later bounds c

-- In the name of a substitution: its sign once more stands for the sign itself, letters belong to the name, and behind
-- a name may be braces.
abbrev pub in_name : Bounds → Bool → Bool → Bool → Class → Move
in_name bounds is_double takes_letter has_letter class.Sign = if is_double then go place.Later Longer else in_later bounds class.Sign
in_name bounds is_double takes_letter has_letter class.Letter = if takes_letter then go place.Name Longer else in_later bounds class.Letter
in_name bounds is_double takes_letter has_letter class.OpenBrace = if has_letter then go place.Inner Empty else in_later bounds class.OpenBrace
in_name bounds is_double takes_letter has_letter c = in_later bounds c

-- in the braces of a substitution, up to the brace that closes them or the end of the value
abbrev pub in_inner : Class → Move
in_inner class.CloseBrace = go place.Later Empty
in_inner class.Quote = go place.Gap Empty
in_inner _ = go place.Inner Longer
