-- What a program wrote is read back, a line for each property.
use Rattle.std.proofs.Common.{◌≡◌, inl, inr, ℕ, suc, ◌+◌, ◌-◌, Bool, true, false, cond, not, nat_lt, ◌==◌, ◌||◌, List, [], ◌∷◌, ◌++◌, All, length, get_or, take, drop, Some, None, option_map, position, flat_map, filter_map, if◌then◌else◌, refl, ap, sym, ◌∙◌, append_assoc, length-append, arith}
use Rattle.std.specs.List.{cons_option, list_any, prefix_len, slice_split, suffix_len}
use Rattle.std.specs.Option.{option_and_then}
use Rattle.std.proofs.lemmas.Bool.{eq-eqb, le-ltb}
use Rattle.std.proofs.lemmas.List.{drop_at, get_or-append_right, get_or_append_left, get_or_at, take_at}
use Rattle.std.proofs.lemmas.List.Elements.{All-head, All-tail}
use Rattle.std.proofs.lemmas.List.Splits.{slice_split_at}
use Rattle.std.proofs.lemmas.List.Sums.{prefix_len_is, suffix_len_is}
use Rattle.text_bytes.specs.Names.{equals, hash, is_blank}
use Rattle.text_bytes.specs.Texts.{begins_with, is_empty, split_once, unindented}
use Rattle.text_bytes.specs.Text.{Text}
use Rattle.text_tables.specs.Pairs.{Pair}
use Rattle.eval_acts.specs.Printed.{bare, before_end, line_property, printed_properties, property_cut, property_of, unquoted, unspaced}
use Rattle.eval_rendering.specs.Pieces.{ends_line}
use Rattle.eval_commands.specs.Words.{is_quote}
use Rattle.eval_laws.specs.PrintedLines.{IsGiven, IsPadded, IsWritten}
use Rattle.eval_laws.proofs.Options.{word_cut}

-- ---- blanks

-- what follows blanks, if it does not begin with one
unindented_is : (before : Text) (b : ℕ) (t : Text) → All (λ b. is_blank b ≡ true) before → is_blank b ≡ false → unindented (before ++ b ∷ t) ≡ b ∷ t
unindented_is before b t blank dark =
    let long : length (before ++ b ∷ t) ≡ length before + suc (length t) = length-append before (b ∷ t) in
    let n : prefix_len is_blank (before ++ b ∷ t) ≡ length before =
    prefix_len_is is_blank (before ++ b ∷ t) (length before) 0 (omega (arith, long))
    (λ k l. ap is_blank (get_or_append_left before (b ∷ t) 0 k l) ∙ blank k 0 l)
    (λ l. ap is_blank (get_or_at before b t 0 (length before) refl) ∙ dark) in
    drop_at before (b ∷ t) (prefix_len is_blank (before ++ b ∷ t)) (sym n)

-- what comes before blanks, if it does not end in one
unspaced_is : (beginning : Text) (b : ℕ) (following : Text) → All (λ b. is_blank b ≡ true) following → is_blank b ≡ false → unspaced ((beginning ++ b ∷ []) ++ following) ≡ beginning ++ b ∷ []
unspaced_is beginning b following blank dark =
    let text : Text = beginning ++ b ∷ [] in
    let whole : Text = text ++ following in
    let size : length text ≡ length beginning + 1 = length-append beginning (b ∷ []) in
    let long : length whole ≡ length text + length following = length-append text following in
    let n : suffix_len is_blank whole ≡ length whole - length text =
    suffix_len_is is_blank whole (length text) 0 (omega (arith, long))
    (λ k from l. ap is_blank (get_or-append_right text following (length text) k 0 refl from) ∙ blank (k - length text) 0 (omega (arith, long, from, l)))
    (λ some. ap is_blank (get_or_append_left text following 0 (length text - 1) (omega (arith, size)) ∙ get_or_at beginning b [] 0 (length text - 1) (omega (arith, size))) ∙ dark) in
    let left : length text ≡ length whole - suffix_len is_blank whole = omega (arith, n, long) in
    take_at text following (length whole - suffix_len is_blank whole) left

padded_bare : (whole text : Text) → IsPadded whole text → bare whole ≡ text
padded_bare whole text h =
    let tail : Text = h.rest ++ h.following in
    ap (λ t. bare t) (h.cut ∙ ap (λ t. h.before ++ (t ++ h.following)) h.starts)
    ∙ ap unspaced (unindented_is h.before h.first tail h.blank_before h.dark_first)
    ∙ ap (λ t. unspaced (t ++ h.following)) (sym h.starts ∙ h.ends)
    ∙ unspaced_is h.beginning h.last h.following h.blank_after h.dark_last
    ∙ sym h.ends

-- ---- values

before_quote : (quote : ℕ) (value : Text) → before_end quote (value ++ quote ∷ []) ≡ Some value
before_quote quote [] = ap (λ b. if b then Some [] else None) (eq-eqb quote quote refl)
before_quote quote (v ∷ value) =
    let text : Text = value ++ quote ∷ [] in
    let size : length text ≡ length value + 1 = length-append value (quote ∷ []) in
    let here : (get_or (v ∷ text) (length text) 0 == quote) ≡ true =
    eq-eqb (get_or (v ∷ text) (length text) 0) quote (get_or_at (v ∷ value) quote [] 0 (length text) (omega (arith, size))) in
    ap (λ b. if b then Some (take (length (v ∷ text) - 1) (v ∷ text)) else None) here
    ∙ ap Some (take_at (v ∷ value) (quote ∷ []) (length (v ∷ text) - 1) (omega (arith, size)))

-- a text that begins with no quote is its own value
as_it_is : (t : Text) → list_any is_quote (take 1 t) ≡ false → unquoted t ≡ Some t
as_it_is [] e = refl
as_it_is (b ∷ t) e = by (is_quote b) e
  where
    by : (q : Bool) → (q || false) ≡ false → (if q then before_end b t else Some (b ∷ t)) ≡ Some (b ∷ t)
    by true e = cc
    by false e = refl

written_read : (written value : Text) → IsWritten written value → unquoted written ≡ Some value
written_read written value (inl h) = as_it_is written h.1 ∙ ap Some h.0
written_read written value (inr h) =
    ap unquoted h.2
    ∙ ap (λ q. if q then before_end h.0 (value ++ h.0 ∷ []) else Some (h.0 ∷ value ++ h.0 ∷ [])) h.1
    ∙ before_quote h.0 value

-- ---- lines

property_is : (name written value : Text) (b c : ℕ) (t u : Text) → name ≡ b ∷ t → written ≡ c ∷ u → unquoted written ≡ Some value → property_of name written ≡ Some (name, value)
property_is name written value b c t u some_name some_written is =
    ap (λ e. if e || is_empty written then None else option_map {U = Pair} (λ v. (name, v)) (unquoted written)) (ap is_empty some_name)
    ∙ ap (λ e. if e then None else option_map {U = Pair} (λ v. (name, v)) (unquoted written)) (ap is_empty some_written)
    ∙ ap (option_map {U = Pair} (λ v. (name, v))) is

-- a line that begins in this way after blanks is not a comment
pub begins_so : (before : Text) (b : ℕ) (t line : Text) → line ≡ before ++ b ∷ t → All (λ b. is_blank b ≡ true) before → is_blank b ≡ false → begins_with hash (unindented line) ≡ (b == hash)
begins_so before b t line whole blank dark = ap (λ l. begins_with hash (unindented l)) whole ∙ ap (begins_with hash) (unindented_is before b t blank dark)

pub given_read : (line : Text) (property : Pair) → IsGiven line property → line_property line ≡ Some property
unfolding line_property
given_read line property h =
    let n = h.name in
    let v = h.value in
    let rest : Text = n.rest ++ (n.following ++ equals ∷ h.following) in
    let whole : line ≡ n.before ++ n.first ∷ rest =
    h.cut ∙ ap (λ f. f ++ equals ∷ h.following) (n.cut ∙ ap (λ t. n.before ++ (t ++ n.following)) n.starts)
    ∙ append_assoc n.before (n.first ∷ (n.rest ++ n.following)) (equals ∷ h.following)
    ∙ ap (λ t. n.before ++ n.first ∷ t) (append_assoc n.rest n.following (equals ∷ h.following)) in
    let no_comment : begins_with hash (unindented line) ≡ false =
    begins_so n.before n.first rest line whole n.blank_before n.dark_first ∙ sym (ap (begins_with hash) n.starts) ∙ h.no_comment in
    let cut : split_once equals line ≡ Some (h.beginning, h.following) = ap (split_once equals) h.cut ∙ word_cut h.beginning h.first h.following in
    ap (λ b. if b then None else option_and_then property_cut (split_once equals line)) no_comment
    ∙ ap (option_and_then property_cut) cut
    ∙ ap (λ t. property_of t (bare h.following)) (padded_bare h.beginning property.0 n)
    ∙ ap (property_of property.0) (padded_bare h.following h.written v)
    ∙ property_is property.0 h.written property.1 n.first v.first n.rest v.rest n.starts v.starts (written_read h.written property.1 h.meant)

all_passed : (line : Text) → list_any (λ b. b == equals) line ≡ false → prefix_len (λ b. not (b == equals)) line ≡ length line
all_passed [] e = refl
all_passed (b ∷ line) e = by (b == equals) e (all_passed line)
  where
    by : (w : Bool) → (w || list_any (λ b. b == equals) line) ≡ false → (list_any (λ b. b == equals) line ≡ false → prefix_len (λ b. not (b == equals)) line ≡ length line)
        → cond (not w) (1 + prefix_len (λ b. not (b == equals)) line) 0 ≡ suc (length line)
    by true e more = cc
    by false e more = let same : prefix_len (λ b. not (b == equals)) line ≡ length line = more e in omega (arith, same)

no_place : (line : Text) → list_any (λ b. b == equals) line ≡ false → position (λ b. b == equals) line ≡ None
no_place line none =
    ap (λ (n : ℕ). cond (nat_lt n (length line)) (Some n) None) (all_passed line none)
    ∙ ap (λ (v : Bool). cond v (Some (length line)) None) (le-ltb (length line) (length line) (omega arith))

pub bare_gives_none : (line : Text) → list_any (λ b. b == equals) line ≡ false → line_property line ≡ None
unfolding line_property split_once
bare_gives_none line none = by (begins_with hash (unindented line))
  where
    cut : split_once equals line ≡ None
    cut = ap (option_map {U = Text × Text} (λ n. (take n line, drop (n + 1) line))) (no_place line none)

    by : (b : Bool) → (if b then None else option_and_then property_cut (split_once equals line)) ≡ None
    by true = refl
    by false = ap (option_and_then property_cut) cut

pub comment_gives_none : (before rest : Text) → All (λ b. is_blank b ≡ true) before → line_property (before ++ hash ∷ rest) ≡ None
unfolding line_property
comment_gives_none before rest blank =
    ap (λ b. if b then None else option_and_then property_cut (split_once equals (before ++ hash ∷ rest)))
    (begins_so before hash rest (before ++ hash ∷ rest) refl blank refl)

-- ---- texts

pub lines_read : (end : ℕ) (lines : List Text) → ends_line end ≡ true → All (λ line. All (λ b. ends_line b ≡ false) line) lines
    → printed_properties (flat_map (λ line. line ++ end ∷ []) lines) ≡ filter_map line_property lines
unfolding printed_properties line_property split_once
lines_read end [] is each = refl
lines_read end (line ∷ lines) is each =
    let rest : Text = flat_map (λ line. line ++ end ∷ []) lines in
    let first : All (λ b. ends_line b ≡ false) line = All-head (λ l. All (λ b. ends_line b ≡ false) l) line lines each in
    let others : All (λ l. All (λ b. ends_line b ≡ false) l) lines = All-tail (λ l. All (λ b. ends_line b ≡ false) l) line lines each in
    ap (λ t. filter_map line_property (slice_split ends_line t)) (append_assoc line (end ∷ []) rest)
    ∙ ap (filter_map line_property) (slice_split_at ends_line line end rest first is)
    ∙ ap (cons_option (line_property line)) (lines_read end lines is others)
