-- Gaps of which nothing is to be said.
use Rattle.std.proofs.Common.{◌≡◌, ◌↔◌, ℕ, ◌+◌, ◌<◌, ◌==◌, ◌&&◌, ◌||◌, Bool, true, false, cond, List, [], ◌∷◌, ◌++◌, length, drop, refl, ap, sym, ◌∙◌, arith}
use Rattle.std.proofs.lemmas.Bool.{eq-eqb, eqb-true, false≢true}
use Rattle.std.specs.List.{list_all}
use Rattle.std.proofs.lemmas.List.Sums.{sum_by-append, sum_by-cons}
use Rattle.text_bytes.specs.Names.{comma, is_blank}
use Rattle.file_messages.specs.declared.message.MessageKind.TheVariants.{BlankExpected, CommaExpected, ReadAsAssign}
use Rattle.file_messages.specs.declared.message.MessageKind.{MessageKind}
use Rattle.rule_tokens.specs.Grammar.{AllAre, Placed, is_gap_byte}
use Rattle.rule_tokens.specs.Values.{ends_in}
use Rattle.rule_parts.specs.Parts.{is_read_as_assign}
use Rattle.rule_types.specs.Spots.{spot}
use Rattle.rule_core.specs.Spots.{key_spot}
use Rattle.rule_types.specs.declared.spot.Spot.{Spot}
use Rattle.text_bytes.specs.declared.profile.Profile.TheVariants.{Manual}
use Rattle.rule_core.specs.Laws.{IsPlain, IsPlainAfter, IsPlainGap}
use Rattle.rule_core.specs.Places.{AreGaps, AreGapsAfter}
use Rattle.rule_core.specs.Style.{between, commas, gap_findings, operator_findings, style_after, style_findings}

-- ---- bytes

both : (a b : Bool) → (a && b) ≡ true → (a ≡ true) × (b ≡ true)
both true b e = (refl, e)
both false b e = cc

-- a byte of a gap that is not a comma is a blank
is_blank_byte : (b : ℕ) → is_gap_byte b ≡ true → (b == comma) ≡ false → is_blank b ≡ true
is_blank_byte b g n = by (is_blank b) refl
  where
    by : (c : Bool) → is_blank b ≡ c → c ≡ true
    by true e = refl
    by false e = absurd (false≢true (sym (ap (λ d. d || (b == comma)) e ∙ n) ∙ g))

-- a blank is not a comma
no_comma : (b : ℕ) → is_blank b ≡ true → (b == comma) ≡ false
no_comma b e = by (b == comma) refl
  where
    by : (c : Bool) → (b == comma) ≡ c → c ≡ false
    by true f = absurd (false≢true (ap is_blank (sym (eqb-true b comma f)) ∙ e))
    by false f = refl

one_more : (b : ℕ) (gap : List ℕ) → commas (b ∷ gap) ≡ cond (b == comma) 1 0 + commas gap
one_more b gap = sum_by-cons (λ c. cond (c == comma) 1 0) b gap

-- ---- no comma

blank_so : (gap : List ℕ) → AllAre is_gap_byte gap → commas gap ≡ 0 → AllAre is_blank gap
blank_so [] g n = refl
blank_so (b ∷ gap) g n = by (b == comma) refl (blank_so gap)
  where
    byte : (is_gap_byte b ≡ true) × AllAre is_gap_byte gap
    byte = both (is_gap_byte b) (list_all is_gap_byte gap) g

    count : (c : Bool) → (b == comma) ≡ c → cond c 1 0 + commas gap ≡ 0
    count c e = ap (λ d. cond d 1 0 + commas gap) (sym e) ∙ sym (one_more b gap) ∙ n

    by : (c : Bool) → (b == comma) ≡ c → (AllAre is_gap_byte gap → commas gap ≡ 0 → AllAre is_blank gap) → AllAre is_blank (b ∷ gap)
    by true e more = let one : 1 + commas gap ≡ 0 = count true e in absurd (omega arith)
    by false e more =
        let none : 0 + commas gap ≡ 0 = count false e in
        ap (λ d. d && list_all is_blank gap) (is_blank_byte b byte.0 e) ∙ more byte.1 (omega arith)

not_counted : (c : Bool) (n : ℕ) → c ≡ false → cond c 1 0 + n ≡ n
not_counted true n e = cc
not_counted false n e = omega arith

so_blank : (gap : List ℕ) → AllAre is_blank gap → commas gap ≡ 0
so_blank [] h = refl
so_blank (b ∷ gap) h =
    let two = both (is_blank b) (list_all is_blank gap) h in
    one_more b gap ∙ not_counted (b == comma) (commas gap) (no_comma b two.0) ∙ so_blank gap two.1

-- ---- one comma

ends_after : (b c : ℕ) (gap : List ℕ) → 0 < length gap → ends_in c (b ∷ gap) ≡ ends_in c gap
ends_after b c [] h = absurd (omega arith)
ends_after b c (d ∷ gap) h = refl

plain_so : (gap : List ℕ) → AllAre is_gap_byte gap → commas gap ≡ 1 → ends_in comma gap ≡ false → IsPlainGap gap
plain_so [] g n e = let none : 0 ≡ 1 = n in absurd (omega arith)
plain_so (b ∷ gap) g n e = by (b == comma) refl (plain_so gap)
  where
    byte : (is_gap_byte b ≡ true) × AllAre is_gap_byte gap
    byte = both (is_gap_byte b) (list_all is_gap_byte gap) g

    count : (c : Bool) → (b == comma) ≡ c → cond c 1 0 + commas gap ≡ 1
    count c f = ap (λ d. cond d 1 0 + commas gap) (sym f) ∙ sym (one_more b gap) ∙ n

    some : (gap : List ℕ) → (b == comma) ≡ true → ends_in comma (b ∷ gap) ≡ false → 0 < length gap
    some [] f e = absurd (false≢true (sym e ∙ f))
    some (c ∷ gap) f e = omega arith

    here : b ≡ comma → commas gap ≡ 0 → 0 < length gap → IsPlainGap (b ∷ gap)
    here same none h = record {
      before = [];
      following = gap;
      spelled = ap (λ c. c ∷ gap) same;
      blank_before = refl;
      blank_after = blank_so gap byte.1 none;
      some_after = h;
    }

    farther : is_blank b ≡ true → IsPlainGap gap → IsPlainGap (b ∷ gap)
    farther blank p = record {
      before = b ∷ p.before;
      following = p.following;
      spelled = ap (λ rest. b ∷ rest) p.spelled;
      blank_before = ap (λ d. d && list_all is_blank p.before) blank ∙ p.blank_before;
      blank_after = p.blank_after;
      some_after = p.some_after;
    }

    long : (gap : List ℕ) → commas gap ≡ 1 → 0 < length gap
    long [] f = let none : 0 ≡ 1 = f in absurd (omega arith)
    long (c ∷ gap) f = omega arith

    by : (c : Bool) → (b == comma) ≡ c → (AllAre is_gap_byte gap → commas gap ≡ 1 → ends_in comma gap ≡ false → IsPlainGap gap) → IsPlainGap (b ∷ gap)
    by true f more =
        let one : 1 + commas gap ≡ 1 = count true f in
        here (eqb-true b comma f) (omega arith) (some gap f e)
    by false f more =
        let one : 0 + commas gap ≡ 1 = count false f in
        let same : commas gap ≡ 1 = omega arith in
        farther (is_blank_byte b byte.0 f) (more byte.1 same (sym (ends_after b comma gap (long gap same)) ∙ e))

commas_both : (xs ys : List ℕ) → commas (xs ++ ys) ≡ commas xs + commas ys
commas_both xs ys = sum_by-append (λ c. cond (c == comma) 1 0) xs ys

one_comma : (gap : List ℕ) → IsPlainGap gap → commas gap ≡ 1
one_comma gap p =
    let all : commas gap ≡ commas p.before + commas (comma ∷ p.following) = ap commas p.spelled ∙ commas_both p.before (comma ∷ p.following) in
    let last : commas (comma ∷ p.following) ≡ 1 + commas p.following = one_more comma p.following in
    let none : commas p.before ≡ 0 = so_blank p.before p.blank_before in
    let neither : commas p.following ≡ 0 = so_blank p.following p.blank_after in
    omega (arith, all, last, none, neither)

ends_blank : (gap : List ℕ) → 0 < length gap → AllAre is_blank gap → ends_in comma gap ≡ false
ends_blank [] h a = absurd (omega arith)
ends_blank (b ∷ []) h a = no_comma b (both (is_blank b) true a).0
ends_blank (b ∷ c ∷ gap) h a = ends_blank (c ∷ gap) (omega arith) (both (is_blank b) (list_all is_blank (c ∷ gap)) a).1

ends_far : (before following : List ℕ) → 0 < length following → AllAre is_blank following → ends_in comma (before ++ comma ∷ following) ≡ false
ends_far [] following h a = ends_after comma comma following h ∙ ends_blank following h a
ends_far (b ∷ []) following h a = ends_far [] following h a
ends_far (b ∷ c ∷ before) following h a = ends_far (c ∷ before) following h a

-- ---- what is to be said

prefix_empty : (xs ys : List (Spot MessageKind)) → xs ++ ys ≡ [] → xs ≡ []
prefix_empty [] ys e = refl
prefix_empty (x ∷ xs) ys e = cc

back_empty : (xs ys : List (Spot MessageKind)) → xs ++ ys ≡ [] → ys ≡ []
back_empty [] ys e = e
back_empty (x ∷ xs) ys e = cc

both_empty : (xs ys : List (Spot MessageKind)) → xs ≡ [] → ys ≡ [] → xs ++ ys ≡ []
both_empty xs ys e f = ap (λ zs. zs ++ ys) e ∙ f

unsaid : (b : Bool) (f : Spot MessageKind) → cond b (f ∷ []) [] ≡ [] → b ≡ false
unsaid true f e = cc
unsaid false f e = refl

passed : (b : Bool) (f : Spot MessageKind) → cond b [] (f ∷ []) ≡ [] → b ≡ true
passed true f e = refl
passed false f e = cc

gap_passed : (gap : List ℕ) (t : Placed) → AllAre is_gap_byte gap → gap_findings Manual gap t ≡ [] → IsPlainGap gap
gap_passed gap t g e =
    let first : List (Spot MessageKind) = cond (commas gap == 1) [] (key_spot CommaExpected t ∷ []) in
    let second : List (Spot MessageKind) = cond (ends_in comma gap) (key_spot BlankExpected t ∷ []) [] in
    plain_so gap g (eqb-true (commas gap) 1 (passed (commas gap == 1) (key_spot CommaExpected t) (prefix_empty first second e))) (unsaid (ends_in comma gap) (key_spot BlankExpected t) (back_empty first second e))

plain_gap_passed : (gap : List ℕ) (t : Placed) → IsPlainGap gap → gap_findings Manual gap t ≡ []
plain_gap_passed gap t p =
    both_empty (cond (commas gap == 1) [] (key_spot CommaExpected t ∷ [])) (cond (ends_in comma gap) (key_spot BlankExpected t ∷ []) [])
    (ap (λ b. cond b [] (key_spot CommaExpected t ∷ [])) (eq-eqb (commas gap) 1 (one_comma gap p)))
    (ap (λ b. cond b (key_spot BlankExpected t ∷ []) []) (ap (ends_in comma) p.spelled ∙ ends_far p.before p.following p.some_after p.blank_after))

after_passed : (line : List ℕ) (place : ℕ) (tokens : List Placed) → AreGapsAfter line place tokens → style_after Manual line place tokens ≡ [] → IsPlainAfter line place tokens
after_passed line place [] g e = blank_so (drop place line) g (eqb-true (commas (drop place line)) 0 (passed (commas (drop place line) == 0) (spot CommaExpected [] place (length (drop place line))) e))
after_passed line place (t ∷ tokens) g e =
    let gap : List (Spot MessageKind) = gap_findings Manual (between place t.span.start line) t in
    let others : List (Spot MessageKind) = operator_findings Manual t ++ style_after Manual line t.span.end tokens in
    let rest = back_empty gap others e in (
      gap_passed (between place t.span.start line) t g.0 (prefix_empty gap others e),
      unsaid (is_read_as_assign t) (key_spot ReadAsAssign t) (prefix_empty (operator_findings Manual t) (style_after Manual line t.span.end tokens) rest),
      after_passed line t.span.end tokens g.1 (back_empty (operator_findings Manual t) (style_after Manual line t.span.end tokens) rest),
    )

unread : (t : Placed) → is_read_as_assign t ≡ false → operator_findings Manual t ≡ []
unread t e = ap (λ b. cond b (key_spot ReadAsAssign t ∷ []) []) e

plain_after_passed : (line : List ℕ) (place : ℕ) (tokens : List Placed) → IsPlainAfter line place tokens → style_after Manual line place tokens ≡ []
plain_after_passed line place [] p = ap (λ b. cond b [] (spot CommaExpected [] place (length (drop place line)) ∷ [])) (eq-eqb (commas (drop place line)) 0 (so_blank (drop place line) p))
plain_after_passed line place (t ∷ tokens) p =
    both_empty (gap_findings Manual (between place t.span.start line) t) (operator_findings Manual t ++ style_after Manual line t.span.end tokens) (plain_gap_passed (between place t.span.start line) t p.0)
    (both_empty (operator_findings Manual t) (style_after Manual line t.span.end tokens) (unread t p.1) (plain_after_passed line t.span.end tokens p.2))

pub plain_is_passed : (line : List ℕ) (tokens : List Placed) → AreGaps line tokens → (style_findings Manual line tokens ≡ []) ↔ IsPlain line tokens
plain_is_passed line [] g = (λ e. tt, λ p. refl)
plain_is_passed line (t ∷ tokens) g = (
  λ e. (
    unsaid (is_read_as_assign t) (key_spot ReadAsAssign t) (prefix_empty (operator_findings Manual t) (style_after Manual line t.span.end tokens) e),
    after_passed line t.span.end tokens g (back_empty (operator_findings Manual t) (style_after Manual line t.span.end tokens) e),
  ),
  λ p. both_empty (operator_findings Manual t) (style_after Manual line t.span.end tokens) (unread t p.0) (plain_after_passed line t.span.end tokens p.1),
)
