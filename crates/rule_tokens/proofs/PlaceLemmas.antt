-- The tokens of a line are in it, one after another.
use Rattle.std.proofs.Common.{◌≡◌, ℕ, ◌+◌, ◌-◌, ◌<◌, ◌≤◌, Bool, true, false, List, [], ◌∷◌, ◌++◌, length, take, drop, Option, Some, None, Ok, Err, refl, ap, sym, ◌∙◌, arith, append_assoc, length-append}
use Rattle.std.specs.Prelude.{All}
use Rattle.std.proofs.lemmas.List.{take_at, drop_at, take-append-drop, length-take-le}
use Rattle.std.proofs.lemmas.List.Elements.{All-cons, All-nil}
use Rattle.text_bytes.specs.Names.{double_quote}
use Rattle.rule_tokens.specs.declared.kinds.TokenFault.{TokenFault}
use Rattle.rule_tokens.specs.Grammar.{Parts, Placed, Item, BeginsWithToken, TokenAt, LexesAt, faulty, last, more, answers, attribute_text, operator_text}
use Rattle.rule_tokens.specs.Places.{IsSlice, LiesIn, RisesFrom, AllLie, AllRise}
use Rattle.rule_tokens.specs.Lines.{items_left, items_from, items_of, is_over}
use Rattle.rule_tokens.proofs.IsPresent.{rest_is_shorter}
use Rattle.rule_tokens.proofs.Steps.{from_given, from_none, from_only, left_done, left_given}

-- a slice between what comes before and after it
slice_at : (line before part following : List ℕ) (place : ℕ) → line ≡ before ++ (part ++ following) → length before ≡ place → take (length part) (drop place line) ≡ part
slice_at line before part following place e l =
    let d : drop place line ≡ part ++ following = ap (λ t. drop place t) e ∙ drop_at before (part ++ following) place l in
    ap (λ t. take (length part) t) d ∙ take_at part following (length part) refl

-- the text is the bytes of a token and what follows it
record Own (text : List ℕ) (t : Parts) (rest : List ℕ) : Type 0 where
  own : List ℕ
  after_key : List ℕ
  after_attribute : List ℕ
  before_value : List ℕ
  spelled : text ≡ own ++ rest
  alone : BeginsWithToken own t []
  key : text ≡ t.head.key ++ after_key
  attribute : text ≡ t.head.key ++ (attribute_text t.head.attribute ++ after_attribute)
  value : text ≡ before_value ++ ((double_quote ∷ t.value ++ double_quote ∷ []) ++ rest)

-- a value between quotes, and what follows it
quoted_value : (quoted letters value rest : List ℕ) → quoted ≡ letters ++ double_quote ∷ value ++ double_quote ∷ rest → quoted ≡ letters ++ ((double_quote ∷ value ++ double_quote ∷ []) ++ rest)
quoted_value quoted letters value rest e =
    e ∙ (append_assoc letters (double_quote ∷ value) (double_quote ∷ rest) ∙ ap (λ v. letters ++ v) (sym (append_assoc (double_quote ∷ value) (double_quote ∷ []) rest)))

own_of : (text : List ℕ) (t : Parts) (rest : List ℕ) → BeginsWithToken text t rest → Own text t rest
own_of text t rest s =
    let head : List ℕ = t.head.key ++ attribute_text t.head.attribute ++ s.head.before ++ operator_text t.head.operator ++ s.head.following in
    let value : List ℕ = double_quote ∷ t.value ++ double_quote ∷ [] in
    let q : s.quoted ≡ s.letters ++ (value ++ rest) = quoted_value s.quoted s.letters t.value rest s.spelled in
    let e : text ≡ head ++ (s.letters ++ (value ++ rest)) = s.head.spelled ∙ ap (λ v. head ++ v) q in
    let k : text ≡ t.head.key ++ (attribute_text t.head.attribute ++ (s.head.before ++ (operator_text t.head.operator ++ (s.head.following ++ s.quoted)))) = s.head.spelled ∙ simp append_assoc in
    let last : List ℕ = s.letters ++ double_quote ∷ t.value ++ double_quote ∷ [] in
    let l : s.letters ++ (value ++ rest) ≡ last ++ rest = sym (append_assoc s.letters value rest) ∙ ap (λ v. v ++ rest) (sym (append_assoc s.letters (double_quote ∷ t.value) (double_quote ∷ []))) in
    record {
      own = head ++ last;
      after_key = attribute_text t.head.attribute ++ (s.head.before ++ (operator_text t.head.operator ++ (s.head.following ++ s.quoted)));
      after_attribute = s.head.before ++ (operator_text t.head.operator ++ (s.head.following ++ s.quoted));
      before_value = head ++ s.letters;
      spelled = e ∙ (ap (λ v. head ++ v) l ∙ sym (append_assoc head last rest));
      alone = record {
        quoted = last;
        letters = s.letters;
        pieces = s.pieces;
        head = record { before = s.head.before; following = s.head.following; spelled = refl; some_key = s.head.some_key; key = s.head.key; attribute = s.head.attribute; blanks = s.head.blanks };
        spelled = refl;
        letters_are = s.letters_are;
        prefix = s.prefix;
        value = s.value;
      };
      key = k;
      attribute = k;
      value = e ∙ sym (append_assoc head s.letters (value ++ rest));
    }

-- a token that is in a line is a slice of it
is_slice : (line before text : List ℕ) (at : ℕ) (t : Placed) (rest : List ℕ) → line ≡ before ++ text → length before ≡ at → TokenAt at text t rest → IsSlice line t
is_slice line before text at t rest e l h =
    let o = own_of text t.parts rest h.is_present in
    let value : List ℕ = double_quote ∷ t.parts.value ++ double_quote ∷ [] in
    let less : length rest < length text = rest_is_shorter text t.parts rest h.is_present in
    let long : length line ≡ length before + length text = ap length e ∙ length-append before text in
    let own : length text ≡ length o.own + length rest = ap length o.spelled ∙ length-append o.own rest in
    let start : length before ≡ t.span.start = l ∙ sym h.start in
    let key : length (before ++ t.parts.head.key) ≡ t.span.start + length t.parts.head.key = length-append before t.parts.head.key ∙ ap (λ n. n + length t.parts.head.key) start in
    let place : length (before ++ o.before_value) ≡ length before + length o.before_value = length-append before o.before_value in
    let parts : length text ≡ length o.before_value + length (value ++ rest) = ap length o.value ∙ length-append o.before_value (value ++ rest) in
    let both : length (value ++ rest) ≡ length value + length rest = length-append value rest in
    let size : t.span.end - t.span.start ≡ length o.own = span_size t.span.start t.span.end (length rest) (length before) (length text) (length o.own) start (h.end ∙ ap (λ n. n + length text) (sym l)) own in
    record {
      some = span_some t.span.start t.span.end (length rest) (length before) (length text) start (h.end ∙ ap (λ n. n + length text) (sym l)) less;
      within = span_within t.span.end (length rest) (length before) (length text) (length line) (h.end ∙ ap (λ n. n + length text) (sym l)) long;
      whole = whole o.own t (size) (slice_at line before o.own rest t.span.start (e ∙ ap (λ v. before ++ v) o.spelled) start) o.alone;
      key = slice_at line before t.parts.head.key o.after_key t.span.start (e ∙ ap (λ v. before ++ v) o.key) start;
      attribute = slice_at line (before ++ t.parts.head.key) (attribute_text t.parts.head.attribute) o.after_attribute (t.span.start + length t.parts.head.key) (e ∙ (ap (λ v. before ++ v) o.attribute ∙ sym (append_assoc before t.parts.head.key _))) key;
      opens = length (before ++ o.before_value);
      value = slice_at line (before ++ o.before_value) value rest (length (before ++ o.before_value)) (e ∙ (ap (λ v. before ++ v) o.value ∙ sym (append_assoc before o.before_value _))) refl;
      closes = span_closes (length (before ++ o.before_value)) (length value) t.span.end (length rest) (length before) (length text) (length o.before_value) (length (value ++ rest)) place (h.end ∙ ap (λ n. n + length text) (sym l)) parts both;
    }
  where
    span_size : (start end rest before text own : ℕ) → before ≡ start → end + rest ≡ before + text → text ≡ own + rest → end - start ≡ own
    span_size start end rest before text own e f g = omega arith

    span_some : (start end rest before text : ℕ) → before ≡ start → end + rest ≡ before + text → rest < text → start < end
    span_some start end rest before text e f g = omega arith

    span_within : (end rest before text line : ℕ) → end + rest ≡ before + text → line ≡ before + text → end ≤ line
    span_within end rest before text line e f = omega arith

    span_closes : (place value end rest before text first_piece both : ℕ) → place ≡ before + first_piece → end + rest ≡ before + text → text ≡ first_piece + both → both ≡ value + rest → place + value ≡ end
    span_closes place value end rest before text first_piece both e f g h = omega arith

    whole : (own : List ℕ) (t : Placed) → t.span.end - t.span.start ≡ length own → take (length own) (drop t.span.start line) ≡ own → BeginsWithToken own t.parts [] → BeginsWithToken (take (t.span.end - t.span.start) (drop t.span.start line)) t.parts []
    whole own t n e s = rw n (rw e s)

-- the tokens of a text in a line are in the line
lie : (line before text : List ℕ) (at : ℕ) (tokens : List Placed) (end : Option TokenFault) → line ≡ before ++ text → length before ≡ at → LexesAt at text tokens end → All (LiesIn line) (answers tokens end)
lie line before text at [] None e l h = elim h [ ]
lie line before text at [] (Some fault) e l (faulty here is) = let n : length line ≡ length before + length text = ap length e ∙ length-append before text in All-cons (LiesIn line) (Err fault) [] (omega (arith, here)) (All-nil (LiesIn line))
lie line before text at (t ∷ []) None e l (last rest gap here between) = All-cons (LiesIn line) (Ok t) [] (is_slice line before text at t rest e l here) (All-nil (LiesIn line))
lie line before text at (t ∷ tokens) end e l (more rest gap next here between some following) =
    let o = own_of text t.parts rest here.is_present in
    let own : length text ≡ length o.own + length rest = ap length o.spelled ∙ length-append o.own rest in
    let spelled : line ≡ (before ++ (o.own ++ gap)) ++ next =
    e ∙ (ap (λ v. before ++ v) (o.spelled ∙ (ap (λ v. o.own ++ v) between.spelled ∙ sym (append_assoc o.own gap next))) ∙ sym (append_assoc before (o.own ++ gap) next)) in
    let n : length (before ++ (o.own ++ gap)) ≡ length before + (length o.own + length gap) = length-append before (o.own ++ gap) ∙ ap (λ n. length before + n) (length-append o.own gap) in
    let place : length (before ++ (o.own ++ gap)) ≡ t.span.end + length gap = omega (arith, here.end) in
    All-cons (LiesIn line) (Ok t) (answers tokens end) (is_slice line before text at t rest e l here)
    (lie line (before ++ (o.own ++ gap)) next (t.span.end + length gap) tokens end spelled place following)

-- they rise
later : (place at : ℕ) (items : List Item) → place ≤ at → RisesFrom at items → RisesFrom place items
later place at [] l r = tt
later place at (Ok t ∷ items) l r = (omega (arith, r.0), r.1)
later place at (Err fault ∷ items) l r = (omega (arith, r.0), r.1)

rise : (at : ℕ) (text : List ℕ) (tokens : List Placed) (end : Option TokenFault) → LexesAt at text tokens end → RisesFrom at (answers tokens end)
rise at text [] None h = elim h [ ]
rise at text [] (Some fault) (faulty here is) = (omega (arith, here), refl)
rise at text (t ∷ []) None (last rest gap here between) = (omega (arith, here.start), tt)
rise at text (t ∷ tokens) end (more rest gap next here between some following) =
    (omega (arith, here.start), later t.span.end (t.span.end + length gap) (answers tokens end) (omega arith) (rise (t.span.end + length gap) next tokens end following))

pub all_lie : AllLie
all_lie line tokens end l = lie line [] line 0 tokens end refl refl l

pub all_rise : AllRise
all_rise line tokens end l = rise 0 line tokens end l

-- so it is of the items of a line from a place on
left_lie : (line : List ℕ) (start : ℕ) (done : Bool) → start ≤ length line → All (LiesIn line) (items_left done start (drop start line))
left_lie line start true l = rw (left_done start (drop start line)) (All-nil (LiesIn line))
left_lie line start false l =
    let g = left_given start (drop start line) in
    rw g.3 (lie line (take start line) (drop start line) start g.0 g.1 (sym (take-append-drop start line)) (length-take-le start line l) g.2)

left_rise : (line : List ℕ) (start : ℕ) (done : Bool) → RisesFrom start (items_left done start (drop start line))
left_rise line start true = rw (left_done start (drop start line)) tt
left_rise line start false = let g = left_given start (drop start line) in rw g.3 (rise start (drop start line) g.0 g.1 g.2)

pub from_lie : (start : ℕ) (line : List ℕ) → start ≤ length line → All (LiesIn line) (items_from start line)
from_lie start line l = left_lie line start (is_over start line) l

pub from_rise : (start : ℕ) (line : List ℕ) → RisesFrom start (items_from start line)
from_rise start line = left_rise line start (is_over start line)

pub new_lie : (line : List ℕ) → All (LiesIn line) (items_of line)
new_lie line = from_lie 0 line (omega arith)

-- what is true of the tokens of a line from a place on
pub ruleset tokens_from = (from_given, from_only, from_none, from_lie, from_rise)
