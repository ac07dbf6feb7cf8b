-- Names for the bytes that mean something in rules, database files and event blocks.
use Rattle.std.specs.Prelude.{ℕ, Bool, ◌==◌, ◌||◌, ◌&&◌, nat_le}

abbrev pub nul : ℕ
nul = 0

abbrev pub tab : ℕ
tab = 9

abbrev pub newline : ℕ
newline = 10

abbrev pub vertical_tab : ℕ
vertical_tab = 11

abbrev pub form_feed : ℕ
form_feed = 12

abbrev pub carriage_return : ℕ
carriage_return = 13

abbrev pub space : ℕ
space = 32

abbrev pub bang : ℕ
bang = 33

abbrev pub double_quote : ℕ
double_quote = 34

abbrev pub hash : ℕ
hash = 35

abbrev pub dollar : ℕ
dollar = 36

abbrev pub percent : ℕ
percent = 37

abbrev pub single_quote : ℕ
single_quote = 39

abbrev pub star : ℕ
star = 42

abbrev pub plus : ℕ
plus = 43

abbrev pub comma : ℕ
comma = 44

abbrev pub minus : ℕ
minus = 45

abbrev pub dot : ℕ
dot = 46

abbrev pub slash : ℕ
slash = 47

abbrev pub digit_zero : ℕ
digit_zero = 48

abbrev pub digit_nine : ℕ
digit_nine = 57

abbrev pub colon : ℕ
colon = 58

abbrev pub equals : ℕ
equals = 61

abbrev pub question_mark : ℕ
question_mark = 63

abbrev pub open_bracket : ℕ
open_bracket = 91

abbrev pub backslash : ℕ
backslash = 92

abbrev pub close_bracket : ℕ
close_bracket = 93

abbrev pub caret : ℕ
caret = 94

abbrev pub underscore : ℕ
underscore = 95

abbrev pub open_brace : ℕ
open_brace = 123

abbrev pub bar : ℕ
bar = 124

abbrev pub close_brace : ℕ
close_brace = 125

abbrev pub delete : ℕ
delete = 127

-- a space or a tab
abbrev pub is_blank : ℕ → Bool
is_blank b = b == space || b == tab

-- a space or one of the controls from tab to carriage return
abbrev pub is_whitespace : ℕ → Bool
is_whitespace b = b == space || (nat_le tab b && nat_le b carriage_return)
