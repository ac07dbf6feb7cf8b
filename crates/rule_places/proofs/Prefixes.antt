-- The letters of a wrong prefix come directly before the first quote after the key and its braces.
use Rattle.std.proofs.Common.{◌≡◌, ℕ, suc, ◌+◌, ◌-◌, ◌≤◌, ◌==◌, Bool, true, false, cond, true≢false, not, List, [], ◌∷◌, ◌++◌, length, take, drop, Option, Some, None, Ok, Err, refl, ap, sym, ◌∙◌, subst, append_assoc, length-append, length-drop, drop-drop, take_at, drop_at, eqb-true, eq-eqb, arith}
use Rattle.std.specs.List.{AllByRecursion, after_first, list_all}
use Rattle.std.proofs.Math.Seq.{drop-append-add}
use Rattle.std.proofs.lemmas.Bool.{and_from, and_parts}
use Rattle.std.proofs.lemmas.List.{length-take-le, take-append-drop}
use Rattle.text_bytes.specs.Names.{close_brace, double_quote, equals, bang, plus, minus, colon, is_blank, open_brace, space, tab}
use Rattle.text_bytes.specs.Texts.{begins_with}
use Rattle.rule_tokens.specs.Grammar.{AllAre, BeginsOther, BeginsWithToken, IsFault, Item, LexesAt, Placed, WrongPrefix, answers, attribute_bytes, attribute_text, faulty, is_attribute_byte, is_key_byte, is_letter, last, more, operator_text}
use Rattle.rule_tokens.specs.Lines.{is_over, items_from, items_left}
use Rattle.rule_tokens.specs.Prefixes.{letters_at}
use Rattle.rule_tokens.specs.declared.kinds.Operator.{Operator}
use Rattle.rule_tokens.specs.declared.kinds.Operator.TheVariants.{Equal, NotEqual, Add, Remove, AssignFinal, Assign}
use Rattle.rule_tokens.specs.declared.kinds.TokenFault.{TokenFault}
use Rattle.rule_tokens.proofs.HeadLemmas.{of_blank}
use Rattle.rule_tokens.proofs.LetterLemmas.{letters_again}
use Rattle.rule_tokens.proofs.RunLemmas.{apart, run_again}
use Rattle.rule_tokens.proofs.Steps.{left_done, left_given}
use Rattle.rule_core.specs.Letters.{after_braces, after_key, start_before_quote}

-- not this byte
abbrev pub is_other : ℕ → ℕ → Bool
is_other b x = not (x == b)

all_both : (class : ℕ → Bool) (xs ys : List ℕ) → AllAre class xs → AllAre class ys → AllAre class (xs ++ ys)
all_both class [] ys h g = g
all_both class (x ∷ xs) ys h g = let p = and_parts (class x) (list_all class xs) h in and_from (class x) _ p.0 (all_both class xs ys p.1 g)

pub all_of : (p q : ℕ → Bool) (xs : List ℕ) → ((b : ℕ) → p b ≡ true → q b ≡ true) → AllAre p xs → AllAre q xs
all_of p q [] f h = refl
all_of p q (x ∷ xs) f h = let both = and_parts (p x) (list_all p xs) h in and_from (q x) _ (f x both.0) (all_of p q xs f both.1)

-- what follows the first such byte
after_prefix : (b : ℕ) (prefix rest : List ℕ) → AllAre (is_other b) prefix → after_first (λ x. x == b) (prefix ++ b ∷ rest) ≡ rest
after_prefix b prefix rest all =
    let own : not (b == b) ≡ false = ap not (eq-eqb b b refl) in
    ap (λ (n : ℕ). drop (n + 1) (prefix ++ b ∷ rest)) (run_again (is_other b) prefix (b ∷ rest) all own) ∙ drop-append-add prefix (b ∷ rest) 1

-- a text that begins with no such byte
begins_other : (b : ℕ) (text : List ℕ) → BeginsOther (λ x. x == b) text → begins_with b text ≡ false
begins_other b [] h = refl
begins_other b (x ∷ text) h = h

-- what follows a key, and after its braces
after_attribute : (a : Option (List ℕ)) (rest : List ℕ) → AllAre is_attribute_byte (attribute_bytes a) → BeginsOther (λ x. x == open_brace) rest
    → cond (begins_with open_brace (attribute_text a ++ rest)) (after_first (λ b. b == close_brace) (attribute_text a ++ rest)) (attribute_text a ++ rest) ≡ rest
after_attribute None rest all o = ap (λ (c : Bool). cond c (after_first (λ b. b == close_brace) rest) rest) (begins_other open_brace rest o)
after_attribute (Some name) rest all o =
    let other : AllAre (is_other close_brace) name = all_of is_attribute_byte (is_other close_brace) name (λ b h. (and_parts (is_other close_brace b) _ h).0) all in
    ap (after_first (λ b. b == close_brace)) (append_assoc (open_brace ∷ name) (close_brace ∷ []) rest) ∙ after_prefix close_brace (open_brace ∷ name) rest other

attribute_begins : (a : Option (List ℕ)) (rest : List ℕ) → BeginsOther is_key_byte rest → BeginsOther is_key_byte (attribute_text a ++ rest)
attribute_begins None rest o = o
attribute_begins (Some name) rest o = refl

operator_begins : (class : ℕ → Bool) (o : Operator) (rest : List ℕ) → (class equals ≡ false) × (class bang ≡ false) × (class plus ≡ false) × (class minus ≡ false) × (class colon ≡ false) → BeginsOther class (operator_text o ++ rest)
operator_begins class Equal rest e = e.0
operator_begins class NotEqual rest e = e.1
operator_begins class Add rest e = e.2
operator_begins class Remove rest e = e.3
operator_begins class AssignFinal rest e = e.4
operator_begins class Assign rest e = e.0

-- no quote is in an operator, in blanks or in letters
operator_other : (o : Operator) → AllAre (is_other double_quote) (operator_text o)
operator_other Equal = refl
operator_other NotEqual = refl
operator_other Add = refl
operator_other Remove = refl
operator_other AssignFinal = refl
operator_other Assign = refl

blank_other : (b : ℕ) → is_blank b ≡ true → is_other double_quote b ≡ true
blank_other b h = ap not (of_blank (λ x. x == double_quote) refl refl b h)

letter_other : (b : ℕ) → is_letter b ≡ true → is_other double_quote b ≡ true
letter_other b h = by (b == double_quote) refl
  where
    by : (c : Bool) → (b == double_quote) ≡ c → not c ≡ true
    by true e = absurd (true≢false (sym h ∙ ap is_letter (eqb-true b double_quote e)))
    by false e = refl

-- a wrong prefix: what follows the quote
after_quote : (text : List ℕ) (w : WrongPrefix text) → after_first (λ b. b == double_quote) (after_braces text) ≡ w.rest
after_quote text w =
    let s = w.is_present in
    let letters = w.letters ++ double_quote ∷ w.rest in
    let value = s.before ++ (operator_text w.head.operator ++ (s.following ++ w.quoted)) in
    let other = λ (q : ℕ → Bool) (n : (q space ≡ false) × (q tab ≡ false)) (m : (q equals ≡ false) × (q bang ≡ false) × (q plus ≡ false) × (q minus ≡ false) × (q colon ≡ false)). apart is_blank q s.before (operator_text w.head.operator ++ (s.following ++ w.quoted)) (of_blank q n.0 n.1) s.blanks.0 (operator_begins q w.head.operator (s.following ++ w.quoted) m) in
    let spelled : text ≡ w.head.key ++ (attribute_text w.head.attribute ++ value) = s.spelled ∙ simp append_assoc in
    let starts = attribute_begins w.head.attribute value (other is_key_byte (refl, refl) (refl, refl, refl, refl, refl)) in
    let key : after_key text ≡ attribute_text w.head.attribute ++ value =
    ap after_key spelled
    ∙ ap (λ (n : ℕ). drop n (w.head.key ++ (attribute_text w.head.attribute ++ value))) (run_again is_key_byte w.head.key (attribute_text w.head.attribute ++ value) s.key starts)
    ∙ drop_at w.head.key (attribute_text w.head.attribute ++ value) (length w.head.key) refl in
    let braces : after_braces text ≡ value =
    ap (λ (rest : List ℕ). cond (begins_with open_brace rest) (after_first (λ b. b == close_brace) rest) rest) key
    ∙ after_attribute w.head.attribute value s.attribute (other (λ b. b == open_brace) (refl, refl) (refl, refl, refl, refl, refl)) in
    let prefix = s.before ++ (operator_text w.head.operator ++ (s.following ++ w.letters)) in
    let cut : value ≡ prefix ++ double_quote ∷ w.rest = ap (λ (q : List ℕ). s.before ++ (operator_text w.head.operator ++ (s.following ++ q))) w.spelled ∙ sym (simp append_assoc) in
    let none : AllAre (is_other double_quote) prefix =
    all_both (is_other double_quote) s.before _ (all_of is_blank (is_other double_quote) s.before blank_other s.blanks.0)
    (all_both (is_other double_quote) (operator_text w.head.operator) _ (operator_other w.head.operator)
    (all_both (is_other double_quote) s.following w.letters (all_of is_blank (is_other double_quote) s.following blank_other s.blanks.1) (all_of is_letter (is_other double_quote) w.letters letter_other w.letters_are))) in
    ap (after_first (λ b. b == double_quote)) (braces ∙ cut) ∙ after_prefix double_quote prefix w.rest none

-- the letters are at the place that is given for them
pub letters_in_place : (line : List ℕ) (at : ℕ) → at ≤ length line → WrongPrefix (drop at line)
    → take (length (letters_at (drop at line))) (drop (start_before_quote line (drop at line) (letters_at (drop at line))) line) ≡ letters_at (drop at line)
letters_in_place line at within w =
    let text = drop at line in
    let s = w.is_present in
    let prefix = w.head.key ++ attribute_text w.head.attribute ++ s.before ++ operator_text w.head.operator ++ s.following in
    let same : letters_at text ≡ w.letters = letters_again text w in
    let rest : after_first (λ b. b == double_quote) (after_braces text) ≡ w.rest = after_quote text w in
    let whole : length text ≡ length line - at = length-drop at line in
    let parts : length text ≡ length prefix + length w.quoted = ap length s.spelled ∙ length-append prefix w.quoted in
    let more : length w.quoted ≡ length w.letters + length (double_quote ∷ w.rest) = ap length w.spelled ∙ length-append w.letters (double_quote ∷ w.rest) in
    let start : start_before_quote line text (letters_at text) ≡ at + length prefix =
    ap (λ (x : List ℕ). length line - length x - 1 - length (letters_at text)) rest
    ∙ ap (λ (x : List ℕ). length line - length w.rest - 1 - length x) same
    ∙ place (length line) (length text) (length prefix) (length w.quoted) (length w.letters) (length w.rest) within whole parts more in
    ap (λ (n : ℕ). take (length (letters_at text)) (drop n line)) start
    ∙ ap (take (length (letters_at text))) (sym (drop-drop (length prefix) at line) ∙ ap (drop (length prefix)) s.spelled ∙ drop_at prefix w.quoted (length prefix) refl ∙ w.spelled)
    ∙ ap (λ (x : List ℕ). take (length x) (w.letters ++ double_quote ∷ w.rest)) same
    ∙ take_at w.letters (double_quote ∷ w.rest) (length w.letters) refl
    ∙ sym same
  where
    place : (line text prefix quoted letters rest : ℕ) → at ≤ line → text ≡ line - at → text ≡ prefix + quoted → quoted ≡ letters + suc rest → line - rest - 1 - letters ≡ at + prefix
    place line text prefix quoted letters rest h e f g = omega arith

-- a fault of a line is one of the text at its place
abbrev pub FaultIs : List ℕ → Item → Type 0
FaultIs line (Ok t) = Unit {0}
FaultIs line (Err fault) = IsFault (drop fault.at line) fault.kind

-- the bytes of a token before what follows it
pub own_of : (text : List ℕ) (t : Placed) (rest : List ℕ) → BeginsWithToken text t.parts rest → (own : List ℕ) × (text ≡ own ++ rest)
own_of text t rest s =
    let head = t.parts.head.key ++ attribute_text t.parts.head.attribute ++ s.head.before ++ operator_text t.parts.head.operator ++ s.head.following in
    let opened = s.letters ++ double_quote ∷ t.parts.value in (
      head ++ (opened ++ double_quote ∷ []),
      s.head.spelled ∙ ap (λ (q : List ℕ). head ++ q) (s.spelled ∙ sym (append_assoc opened (double_quote ∷ []) rest)) ∙ sym (append_assoc head (opened ++ double_quote ∷ []) rest),
    )

faults : (line before text : List ℕ) (at : ℕ) (tokens : List Placed) (end : Option TokenFault) → line ≡ before ++ text → length before ≡ at → LexesAt at text tokens end → AllByRecursion (FaultIs line) (answers tokens end)
faults line before text at [] None e l h = elim h [ ]
faults line before text at [] (Some fault) e l (faulty here is) =
    let is_present : drop fault.at line ≡ text = ap (λ (n : ℕ). drop n line) here ∙ ap (drop at) e ∙ drop_at before text at l in
    (subst (λ (t : List ℕ). IsFault t fault.kind) (sym is_present) is, tt)
faults line before text at (t ∷ []) None e l (last rest gap here between) = (tt, tt)
faults line before text at (t ∷ tokens) end e l (more rest gap next here between some following) =
    let o = own_of text t rest here.is_present in
    let own : length text ≡ length o.0 + length rest = ap length o.1 ∙ length-append o.0 rest in
    let spelled : line ≡ (before ++ (o.0 ++ gap)) ++ next =
    e ∙ (ap (λ v. before ++ v) (o.1 ∙ (ap (λ v. o.0 ++ v) between.spelled ∙ sym (append_assoc o.0 gap next))) ∙ sym (append_assoc before (o.0 ++ gap) next)) in
    let n : length (before ++ (o.0 ++ gap)) ≡ length before + (length o.0 + length gap) = length-append before (o.0 ++ gap) ∙ ap (λ n. length before + n) (length-append o.0 gap) in
    let place : length (before ++ (o.0 ++ gap)) ≡ t.span.end + length gap = omega (arith, here.end) in
    (tt, faults line (before ++ (o.0 ++ gap)) next (t.span.end + length gap) tokens end spelled place following)

pub all_faults : (start : ℕ) (line : List ℕ) → start ≤ length line → AllByRecursion (FaultIs line) (items_from start line)
all_faults start line within = by (is_over start line)
  where
    by : (done : Bool) → AllByRecursion (FaultIs line) (items_left done start (drop start line))
    by true = rw (left_done start (drop start line)) tt
    by false = let g = left_given start (drop start line) in rw g.3 (faults line (take start line) (drop start line) start g.0 g.1 (sym (take-append-drop start line)) (length-take-le start line within) g.2)
