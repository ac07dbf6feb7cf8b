-- Names for the letters that mean something before a value or after a backslash, and for the bytes that only escapes
-- mean.
use Rattle.std.specs.Prelude.{ℕ}

abbrev pub bell : ℕ
bell = 7

abbrev pub backspace : ℕ
backspace = 8

abbrev pub capital_u : ℕ
capital_u = 85

abbrev pub letter_a : ℕ
letter_a = 97

abbrev pub letter_b : ℕ
letter_b = 98

abbrev pub letter_e : ℕ
letter_e = 101

abbrev pub letter_f : ℕ
letter_f = 102

abbrev pub letter_i : ℕ
letter_i = 105

abbrev pub letter_n : ℕ
letter_n = 110

abbrev pub letter_r : ℕ
letter_r = 114

abbrev pub letter_s : ℕ
letter_s = 115

abbrev pub letter_t : ℕ
letter_t = 116

abbrev pub letter_u : ℕ
letter_u = 117

abbrev pub letter_v : ℕ
letter_v = 118

abbrev pub letter_x : ℕ
letter_x = 120
