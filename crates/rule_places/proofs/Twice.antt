-- What is read again is what was mended.
use Rattle.std.proofs.Common.{◌≡◌, ◌⊎◌, inl, inr, ℕ, Bool, true, false, cond, ◌&&◌, ◌||◌, not, ◌==◌, List, ◌∷◌, [], map, Option, Some, None, Result, Ok, Err, refl, sym, ◌∙◌, ap}
use Rattle.std.proofs.lemmas.Bool.{eqb-true}
use Rattle.std.proofs.lemmas.Slice.Eq.{bytes_eq-Decides}
use Rattle.std.specs.Prelude.{nat_eq}
use Rattle.std.specs.Bool.{beq}
use Rattle.std.specs.Cmp.{booleans_Decides}
use Rattle.std.specs.Cmp.Lexicographic.{pointwise}
use Rattle.std.specs.Option.{option_eq}
use Rattle.std.specs.List.{AllByRecursion}
use Rattle.text_bytes.specs.declared.profile.Profile.TheVariants.{Manual}
use Rattle.text_tables.specs.Texts.{same_text}
use Rattle.rule_tokens.specs.Grammar.{Parts}
use Rattle.rule_tokens.specs.declared.kinds.Operator.{Operator}
use Rattle.rule_tokens.specs.declared.kinds.Operator.TheVariants as op
use Rattle.rule_tokens.specs.declared.kinds.Quote.{Quote}
use Rattle.rule_tokens.specs.declared.kinds.Quote.TheVariants as quote
use Rattle.rule_types.specs.declared.jumps.Landing.{Landing}
use Rattle.rule_core.specs.Lines.{joined_lines}
use Rattle.rule_core.specs.Drafts.{Draft}
use Rattle.rule_types.specs.Tokens.{WrittenPart, same_operator, tokens_in}
use Rattle.rule_types.specs.declared.spot.Spot.{Spot}
use Rattle.file_messages.specs.declared.message.MessageKind.{MessageKind}
use Rattle.rule_places.specs.Gaps.{is_well_spaced}
use Rattle.rule_places.specs.Alike.{is_idle, is_mended, is_mended_line, same_attribute, same_if_idle, same_landing, same_part, same_quote, says_same, stands_for}
use Rattle.rule_places.specs.Faults.{is_badly_spaced, is_faultless, is_sound, is_to_mend, parts_read}
use Rattle.rule_places.specs.FormatLaws.{Correspond, IsAsItWas, IsMended, StaysIfIdle, said}
use Rattle.rule_places.specs.Mended.{mended}
use Rattle.rule_places.specs.Proposed.{Landed, landed_in, proposed}
use Rattle.rule_places.specs.WholeLines.{whole_lines}
use Rattle.rule_places.proofs.Staying.{files_stay}

-- both of two answers
left : (a b : Bool) → (a && b) ≡ true → a ≡ true
left true b h = refl
left false b h = h

right : (a b : Bool) → (a && b) ≡ true → b ≡ true
right true b h = h
right false b h = cc

not_true : (a : Bool) → not a ≡ true → a ≡ false
not_true true h = cc
not_true false h = refl

text_is : (a b : List ℕ) → same_text a b ≡ true → a ≡ b
text_is a b h = (bytes_eq-Decides a b).0 h

operator_is : (a b : Operator) → same_operator a b ≡ true → a ≡ b
operator_is op.Equal op.Equal h = refl
operator_is op.Equal op.NotEqual h = cc
operator_is op.Equal op.Add h = cc
operator_is op.Equal op.Remove h = cc
operator_is op.Equal op.AssignFinal h = cc
operator_is op.Equal op.Assign h = cc
operator_is op.NotEqual op.Equal h = cc
operator_is op.NotEqual op.NotEqual h = refl
operator_is op.NotEqual op.Add h = cc
operator_is op.NotEqual op.Remove h = cc
operator_is op.NotEqual op.AssignFinal h = cc
operator_is op.NotEqual op.Assign h = cc
operator_is op.Add op.Equal h = cc
operator_is op.Add op.NotEqual h = cc
operator_is op.Add op.Add h = refl
operator_is op.Add op.Remove h = cc
operator_is op.Add op.AssignFinal h = cc
operator_is op.Add op.Assign h = cc
operator_is op.Remove op.Equal h = cc
operator_is op.Remove op.NotEqual h = cc
operator_is op.Remove op.Add h = cc
operator_is op.Remove op.Remove h = refl
operator_is op.Remove op.AssignFinal h = cc
operator_is op.Remove op.Assign h = cc
operator_is op.AssignFinal op.Equal h = cc
operator_is op.AssignFinal op.NotEqual h = cc
operator_is op.AssignFinal op.Add h = cc
operator_is op.AssignFinal op.Remove h = cc
operator_is op.AssignFinal op.AssignFinal h = refl
operator_is op.AssignFinal op.Assign h = cc
operator_is op.Assign op.Equal h = cc
operator_is op.Assign op.NotEqual h = cc
operator_is op.Assign op.Add h = cc
operator_is op.Assign op.Remove h = cc
operator_is op.Assign op.AssignFinal h = cc
operator_is op.Assign op.Assign h = refl

quote_is : (a b : Quote) → same_quote a b ≡ true → a ≡ b
quote_is quote.Plain quote.Plain h = refl
quote_is quote.Plain quote.Escaped h = cc
quote_is quote.Plain quote.Blind h = cc
quote_is quote.Plain quote.BlindEscaped h = cc
quote_is quote.Escaped quote.Plain h = cc
quote_is quote.Escaped quote.Escaped h = refl
quote_is quote.Escaped quote.Blind h = cc
quote_is quote.Escaped quote.BlindEscaped h = cc
quote_is quote.Blind quote.Plain h = cc
quote_is quote.Blind quote.Escaped h = cc
quote_is quote.Blind quote.Blind h = refl
quote_is quote.Blind quote.BlindEscaped h = cc
quote_is quote.BlindEscaped quote.Plain h = cc
quote_is quote.BlindEscaped quote.Escaped h = cc
quote_is quote.BlindEscaped quote.Blind h = cc
quote_is quote.BlindEscaped quote.BlindEscaped h = refl

attribute_is : (a b : Option (List ℕ)) → same_attribute a b ≡ true → a ≡ b
attribute_is None None h = refl
attribute_is None (Some b) h = cc
attribute_is (Some a) None h = cc
attribute_is (Some a) (Some b) h = ap (λ (t : List ℕ). Some t) (text_is a b h)

bool_is : (a b : Bool) → beq a b ≡ true → a ≡ b
bool_is a b h = (booleans_Decides a b).0 h

landing_is : (l k : Landing) → same_landing l k ≡ true → k ≡ l
landing_is l k h =
    let lost : l.lost ≡ k.lost = bool_is l.lost k.lost (left (beq l.lost k.lost) (beq l.unused k.unused) h) in
    let unused : l.unused ≡ k.unused = bool_is l.unused k.unused (right (beq l.lost k.lost) (beq l.unused k.unused) h) in
    landing l.lost k.lost l.unused k.unused lost unused where
      made : Bool → Bool → Landing
      made a b = record { lost = a; unused = b }

      landing : (a b c d : Bool) → a ≡ b → c ≡ d → made b d ≡ made a c
      landing a b c d e f = rw (e, f) refl

abbrev made : List ℕ → Option (List ℕ) → Operator → Quote → List ℕ → Parts
made k a o q v = record { head = record { key = k; attribute = a; operator = o }; quote = q; value = v }

parts_are : (k l : List ℕ) (a b : Option (List ℕ)) (o p : Operator) (q r : Quote) (v w : List ℕ) → k ≡ l → a ≡ b → o ≡ p → q ≡ r → v ≡ w → made l b p r w ≡ made k a o q v
parts_are k l a b o p q r v w d e f g h = rw (d, e, f, g, h) refl

said_is : (v w : WrittenPart) → same_part v w ≡ true → said w ≡ said v
said_is v w h =
    let s : Parts = v.token.parts in
    let t : Parts = w.token.parts in
    let key : Bool = same_text s.head.key t.head.key in
    let attribute : Bool = same_attribute s.head.attribute t.head.attribute in
    let operator : Bool = same_operator s.head.operator t.head.operator in
    let quoted : Bool = same_quote s.quote t.quote in
    let value : Bool = same_text s.value t.value in
    let two = right key (attribute && (operator && (quoted && value))) h in
    let three = right attribute (operator && (quoted && value)) two in
    let four = right operator (quoted && value) three in
    parts_are s.head.key t.head.key s.head.attribute t.head.attribute s.head.operator t.head.operator s.quote t.quote s.value t.value
    (text_is s.head.key t.head.key (left key (attribute && (operator && (quoted && value))) h))
    (attribute_is s.head.attribute t.head.attribute (left attribute (operator && (quoted && value)) two))
    (operator_is s.head.operator t.head.operator (left operator (quoted && value) three))
    (quote_is s.quote t.quote (left quoted value four)) (text_is s.value t.value (right quoted value four))

all_said : (vs ws : List WrittenPart) → pointwise same_part vs ws ≡ true → map said ws ≡ map said vs
all_said [] [] h = refl
all_said [] (w ∷ ws) h = cc
all_said (v ∷ vs) [] h = cc
all_said (v ∷ vs) (w ∷ ws) h =
    ap (λ (p : Parts). p ∷ map said ws) (said_is v w (left (same_part v w) (pointwise same_part vs ws) h))
    ∙ ap (λ (ps : List Parts). said v ∷ ps) (all_said vs ws (right (same_part v w) (pointwise same_part vs ws) h))

chosen : (m a b : Bool) → cond m a b ≡ true → m ≡ true → a ≡ true
chosen true a b h e = h
chosen false a b h e = cc

other : (m a b : Bool) → cond m a b ≡ true → m ≡ false → b ≡ true
other true a b h e = cc
other false a b h e = h

-- a line that is a mended one is as it was
line_is : (x y : Landed) → is_mended_line x y ≡ true → IsAsItWas x y
line_is x y h =
    let stands : stands_for x y ≡ true = left (stands_for x y) (says_same x y) h in
    let says : says_same x y ≡ true = right (stands_for x y) (says_same x y) h in
    let ends : (same_landing x.1 y.1 && not (is_to_mend y)) ≡ true = right (x.0.line == y.0.line) (same_landing x.1 y.1 && not (is_to_mend y)) stands in
    let sound : Bool = is_sound y.0.read y.1 in
    let tokens : Bool = pointwise same_part (parts_read x.0.read) (parts_read y.0.read) in
    let bytes : Bool = same_text x.0.text y.0.text in
    record {
      number = sym (eqb-true x.0.line y.0.line (left (x.0.line == y.0.line) (same_landing x.1 y.1 && not (is_to_mend y)) stands));
      landing = landing_is x.1 y.1 (left (same_landing x.1 y.1) (not (is_to_mend y)) ends);
      bytes = λ e. sym (text_is x.0.text y.0.text (other (is_to_mend x) (sound && tokens) bytes says e));
      sound = λ e. left sound tokens (chosen (is_to_mend x) (sound && tokens) bytes says e);
      tokens = λ e. all_said (parts_read x.0.read) (parts_read y.0.read) (right sound tokens (chosen (is_to_mend x) (sound && tokens) bytes says e));
    }

-- nothing is to mend in it
is_done : (x y : Landed) → is_mended_line x y ≡ true → IsMended y
is_done x y h =
    let stands : stands_for x y ≡ true = left (stands_for x y) (says_same x y) h in
    let ends : (same_landing x.1 y.1 && not (is_to_mend y)) ≡ true = right (x.0.line == y.0.line) (same_landing x.1 y.1 && not (is_to_mend y)) stands in
    not_true (is_to_mend y) (right (same_landing x.1 y.1) (not (is_to_mend y)) ends)

-- a line that is to be mended has no fault
pub sound_to_mend : (text : List ℕ) (read : Result Draft (Spot MessageKind)) (l : Landing) → is_badly_spaced text read l ≡ true → is_sound read l ≡ true
sound_to_mend text (Err wrong) l h = h
sound_to_mend text (Ok d) l h = left (is_faultless d l) (not (is_well_spaced text (tokens_in d.parts))) h

-- a line is as it is
line_is_itself : (x : Landed) → IsAsItWas x x
line_is_itself x = record { number = refl; landing = refl; bytes = λ e. refl; sound = λ e. sound_to_mend x.0.text x.0.read x.1 e; tokens = λ e. refl }

all_done : (xs ys : List Landed) → pointwise is_mended_line xs ys ≡ true → AllByRecursion IsMended ys
all_done [] [] h = tt
all_done [] (y ∷ ys) h = cc
all_done (x ∷ xs) [] h = cc
all_done (x ∷ xs) (y ∷ ys) h =
    (is_done x y (left (is_mended_line x y) (pointwise is_mended_line xs ys) h), all_done xs ys (right (is_mended_line x y) (pointwise is_mended_line xs ys) h))

corresponding : {X : Type 0} (E : X → X → Bool) (R : X → X → Type 0) → ((x y : X) → E x y ≡ true → R x y) → (xs ys : List X) → pointwise E xs ys ≡ true → Correspond R xs ys
corresponding E R f [] [] h = tt
corresponding E R f [] (y ∷ ys) h = cc
corresponding E R f (x ∷ xs) [] h = cc
corresponding E R f (x ∷ xs) (y ∷ ys) h = (f x y (left (E x y) (pointwise E xs ys) h), corresponding E R f xs ys (right (E x y) (pointwise E xs ys) h))

with_itself : {X : Type 0} (R : X → X → Type 0) → ((x : X) → R x x) → (xs : List X) → Correspond R xs xs
with_itself R f [] = tt
with_itself R f (x ∷ xs) = (f x, with_itself R f xs)

idle_is : (l k : List ℕ) → same_if_idle l k ≡ true → StaysIfIdle l k
idle_is l k h e = sym (text_is l k (by_idle (is_idle l) h e)) where
  by_idle : (v : Bool) → (not v || same_text l k) ≡ true → v ≡ true → same_text l k ≡ true
  by_idle true h e = h
  by_idle false h e = cc

-- what holds of a file, and of what is proposed for it if that is read as it was, holds of what it becomes
by_check : (P : List ℕ → Type 0) (bytes : List ℕ) → P bytes → (is_mended bytes (proposed bytes) ≡ true → P (proposed bytes)) → P (mended bytes)
unfolding mended
by_check P bytes kept changed = by_test (is_mended bytes (proposed bytes)) refl where
  by_test : (v : Bool) → is_mended bytes (proposed bytes) ≡ v → P (cond v (proposed bytes) bytes)
  by_test true e = changed e
  by_test false e = kept

-- the parts of the check
lines_agree : (old new : List ℕ) → is_mended old new ≡ true → pointwise is_mended_line (landed_in old) (landed_in new) ≡ true
lines_agree old new h =
    let opened : Bool = option_eq nat_eq (joined_lines Manual old).open_at (joined_lines Manual new).open_at in
    let idle : Bool = pointwise same_if_idle (whole_lines old) (whole_lines new) in
    let lines : Bool = pointwise is_mended_line (landed_in old) (landed_in new) in
    right idle lines (right opened (idle && lines) h)

idle_agree : (old new : List ℕ) → is_mended old new ≡ true → pointwise same_if_idle (whole_lines old) (whole_lines new) ≡ true
idle_agree old new h =
    let opened : Bool = option_eq nat_eq (joined_lines Manual old).open_at (joined_lines Manual new).open_at in
    let idle : Bool = pointwise same_if_idle (whole_lines old) (whole_lines new) in
    let lines : Bool = pointwise is_mended_line (landed_in old) (landed_in new) in
    left idle lines (right opened (idle && lines) h)

pub open_agrees : (old new : List ℕ) → is_mended old new ≡ true → (joined_lines Manual old).open_at ≡ (joined_lines Manual new).open_at
open_agrees old new h =
    let opened : Bool = option_eq nat_eq (joined_lines Manual old).open_at (joined_lines Manual new).open_at in
    let idle : Bool = pointwise same_if_idle (whole_lines old) (whole_lines new) in
    let lines : Bool = pointwise is_mended_line (landed_in old) (landed_in new) in
    open_is (joined_lines Manual old).open_at (joined_lines Manual new).open_at (left opened (idle && lines) h)
  where
    open_is : (a b : Option ℕ) → option_eq nat_eq a b ≡ true → a ≡ b
    open_is None None h = refl
    open_is None (Some b) h = cc
    open_is (Some a) None h = cc
    open_is (Some a) (Some b) h = ap (λ (n : ℕ). Some n) (eqb-true a b h)

pub open_stays : (bytes : List ℕ) → (joined_lines Manual (mended bytes)).open_at ≡ (joined_lines Manual bytes).open_at
open_stays bytes =
    by_check (λ m. (joined_lines Manual m).open_at ≡ (joined_lines Manual bytes).open_at) bytes refl (λ e. sym (open_agrees bytes (proposed bytes) e))

pub none_left : (bytes : List ℕ) → (mended bytes ≡ bytes) ⊎ AllByRecursion IsMended (landed_in (mended bytes))
none_left bytes =
    by_check (λ m. (m ≡ bytes) ⊎ AllByRecursion IsMended (landed_in m)) bytes (inl refl)
    (λ e. inr (all_done (landed_in bytes) (landed_in (proposed bytes)) (lines_agree bytes (proposed bytes) e)))

pub mended_twice : (bytes : List ℕ) → mended (mended bytes) ≡ mended bytes
mended_twice bytes = by_end (none_left bytes) where
  by_end : (mended bytes ≡ bytes) ⊎ AllByRecursion IsMended (landed_in (mended bytes)) → mended (mended bytes) ≡ mended bytes
  by_end (inl e) = ap mended e
  by_end (inr h) = files_stay (mended bytes) h

pub lines_stay : (bytes : List ℕ) → Correspond IsAsItWas (landed_in bytes) (landed_in (mended bytes))
lines_stay bytes =
    by_check (λ m. Correspond IsAsItWas (landed_in bytes) (landed_in m)) bytes (with_itself IsAsItWas line_is_itself (landed_in bytes))
    (λ e. corresponding is_mended_line IsAsItWas line_is (landed_in bytes) (landed_in (proposed bytes)) (lines_agree bytes (proposed bytes) e))

pub idle_lines_stay : (bytes : List ℕ) → Correspond StaysIfIdle (whole_lines bytes) (whole_lines (mended bytes))
idle_lines_stay bytes =
    by_check (λ m. Correspond StaysIfIdle (whole_lines bytes) (whole_lines m)) bytes (with_itself StaysIfIdle (λ l e. refl) (whole_lines bytes))
    (λ e. corresponding same_if_idle StaysIfIdle idle_is (whole_lines bytes) (whole_lines (proposed bytes)) (idle_agree bytes (proposed bytes) e))
