-- Signs of the shell outside of quotes.
use Rattle.std.proofs.Common.{◌≡◌, ℕ, ◌==◌, Bool, true, false, cond, ◌||◌, List, [], ◌∷◌, ◌++◌, flat_map, Option, Some, None, refl, ap, sym, ◌∙◌, subst, ◌↔◌, append_assoc, inl, inr, ◌⊎◌}
use Rattle.std.proofs.lemmas.Bool.{or_cases, or_left, or_right, eqb-true, eq-eqb, false≢true}
use Rattle.std.specs.List.{AllByRecursion}
use Rattle.rule_lints.specs.Commands.{has_shell_sign, has_sign_after, is_quote, is_shell_sign, open_after}
use Rattle.rule_lints.specs.Laws.{HasSignOutside, IsPiece, Piece, bare, quoted, written}
use Rattle.rule_lints.specs.Texts.{has_byte}

-- after a quote that is open, everything up to its next byte is skipped
passed_quote : (quote : ℕ) (within text : List ℕ) → has_byte quote within ≡ false → has_sign_after None text ≡ true → has_sign_after (Some quote) (within ++ quote ∷ text) ≡ true
passed_quote quote [] text h e = subst (λ (b : Bool). has_sign_after (cond b None (Some quote)) text ≡ true) (sym (eq-eqb quote quote refl)) e
passed_quote quote (b ∷ within) text h e = by (b == quote) refl h (λ g. passed_quote quote within text g e)
  where
    by : (c : Bool) → (b == quote) ≡ c → (c || has_byte quote within) ≡ false → (has_byte quote within ≡ false → has_sign_after (Some quote) (within ++ quote ∷ text) ≡ true) → has_sign_after (cond (b == quote) None (Some quote)) (within ++ quote ∷ text) ≡ true
    by true f g more = absurd (false≢true (sym g))
    by false f g more = subst (λ (c : Bool). has_sign_after (cond c None (Some quote)) (within ++ quote ∷ text) ≡ true) (sym f) (more g)

-- a piece is skipped
passed : (p : Piece) (text : List ℕ) → IsPiece p → has_sign_after None text ≡ true → has_sign_after None (written p ++ text) ≡ true
passed (bare b) text h e =
    or_right (is_shell_sign b text) _ (subst (λ (c : Bool). has_sign_after (cond c (Some b) None) text ≡ true) (sym h) e)
passed (quoted quote within) text h e =
    or_right (is_shell_sign quote ((within ++ quote ∷ []) ++ text)) _
    (subst (λ (c : Bool). has_sign_after (cond c (Some quote) None) ((within ++ quote ∷ []) ++ text) ≡ true) (sym h.0)
    (subst (λ (t : List ℕ). has_sign_after (Some quote) t ≡ true) (sym (append_assoc within (quote ∷ []) text)) (passed_quote quote within text h.1 e)))

all_passed : (pieces : List Piece) (text : List ℕ) → AllByRecursion IsPiece pieces → has_sign_after None text ≡ true → has_sign_after None (flat_map written pieces ++ text) ≡ true
all_passed [] text h e = e
all_passed (p ∷ pieces) text h e =
    subst (λ (t : List ℕ). has_sign_after None t ≡ true) (sym (append_assoc (written p) (flat_map written pieces) text))
    (passed p (flat_map written pieces ++ text) h.0 (all_passed pieces text h.1 e))

reported : (command : List ℕ) → HasSignOutside command → has_shell_sign command ≡ true
reported command s =
    ap has_shell_sign s.whole
    ∙ all_passed s.before (s.sign ∷ s.following) s.pieces (or_left (is_shell_sign s.sign s.following) _ s.is_sign)

-- a text that ends a quoted part, with a sign after it
record EndsQuoted (quote : ℕ) (text : List ℕ) : Type 0 where
  within : List ℕ
  following : List ℕ
  whole : text ≡ within ++ quote ∷ following
  none : has_byte quote within ≡ false
  outside : HasSignOutside following

-- what has a sign, after the quote that is open
abbrev Found : Option ℕ → List ℕ → Type 0
Found None text = HasSignOutside text
Found (Some quote) text = EndsQuoted quote text

with_piece : (p : Piece) (text whole : List ℕ) → IsPiece p → whole ≡ written p ++ text → HasSignOutside text → HasSignOutside whole
with_piece p text whole h e s =
    record {
      before = p ∷ s.before;
      pieces = (h, s.pieces);
      sign = s.sign;
      following = s.following;
      is_sign = s.is_sign;
      whole = e ∙ ap (λ (t : List ℕ). written p ++ t) s.whole ∙ sym (append_assoc (written p) (flat_map written s.before) (s.sign ∷ s.following));
    }

here : (b : ℕ) (text : List ℕ) → is_shell_sign b text ≡ true → HasSignOutside (b ∷ text)
here b text h = record { before = []; pieces = tt; sign = b; following = text; is_sign = h; whole = refl }

ended : (b : ℕ) (text : List ℕ) → is_quote b ≡ true → EndsQuoted b text → HasSignOutside (b ∷ text)
ended b text h q =
    with_piece (quoted b q.within) q.following (b ∷ text) (h, q.none) (ap (λ (t : List ℕ). b ∷ t) (q.whole ∙ sym (append_assoc q.within (b ∷ []) q.following))) q.outside

closed : (quote b : ℕ) (text : List ℕ) → b ≡ quote → HasSignOutside text → EndsQuoted quote (b ∷ text)
closed quote b text e s = record { within = []; following = text; whole = ap (λ (x : ℕ). x ∷ text) e; none = refl; outside = s }

longer : (quote b : ℕ) (text : List ℕ) → (b == quote) ≡ false → EndsQuoted quote text → EndsQuoted quote (b ∷ text)
longer quote b text e q =
    record {
      within = b ∷ q.within;
      following = q.following;
      whole = ap (λ (t : List ℕ). b ∷ t) q.whole;
      none = ap (λ (c : Bool). c || has_byte quote q.within) e ∙ q.none;
      outside = q.outside;
    }

found : (opened : Option ℕ) (text : List ℕ) → has_sign_after opened text ≡ true → Found opened text
found None [] h = absurd (false≢true h)
found (Some quote) [] h = absurd (false≢true h)
found None (b ∷ text) h = by (or_cases (is_shell_sign b text) (has_sign_after (open_after None b) text) h) (λ o g. found o text g)
  where
    following : (c : Bool) → is_quote b ≡ c → has_sign_after (cond c (Some b) None) text ≡ true → ((o : Option ℕ) → has_sign_after o text ≡ true → Found o text) → HasSignOutside (b ∷ text)
    following true e g more = ended b text e (more (Some b) g)
    following false e g more = with_piece (bare b) text (b ∷ text) e refl (more None g)

    by : (is_shell_sign b text ≡ true) ⊎ (has_sign_after (open_after None b) text ≡ true) → ((o : Option ℕ) → has_sign_after o text ≡ true → Found o text) → HasSignOutside (b ∷ text)
    by (inl e) more = here b text e
    by (inr e) more = following (is_quote b) refl e more
found (Some quote) (b ∷ text) h = by (b == quote) refl h (λ o g. found o text g)
  where
    by : (c : Bool) → (b == quote) ≡ c → has_sign_after (cond c None (Some quote)) text ≡ true → ((o : Option ℕ) → has_sign_after o text ≡ true → Found o text) → EndsQuoted quote (b ∷ text)
    by true e g more = closed quote b text (eqb-true b quote e) (more None g)
    by false e g more = longer quote b text e (more (Some quote) g)

pub signs_outside : (command : List ℕ) → (has_shell_sign command ≡ true) ↔ HasSignOutside command
signs_outside command = (found None command, reported command)
