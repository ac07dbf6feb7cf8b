-- A token at the front of a text: what is read is there, and what is there is read.
use Rattle.std.proofs.Common.{◌≡◌, ℕ, ◌<◌, Bool, true, false, List, ◌∷◌, ◌++◌, length, take, Option, Some, None, Result, Ok, Err, refl, ap, sym, ◌∙◌, ◌==◌, arith, append_assoc, length-append, subst}
use Rattle.std.specs.List.{flat_map, prefix_len}
use Rattle.std.proofs.lemmas.List.{take_at}
use Rattle.rule_tokens.specs.declared.kinds.Operator.{Operator}
use Rattle.rule_tokens.specs.declared.kinds.Quote.{Quote}
use Rattle.rule_tokens.specs.declared.kinds.TokenFaultKind.{TokenFaultKind}
use Rattle.rule_tokens.specs.declared.kinds.TokenFaultKind.TheVariants.{Syntax, Prefix}
use Rattle.text_bytes.specs.Names.{backslash, is_blank, equals, double_quote, space, tab}
use Rattle.text_bytes.specs.Texts.{ends_in}
use Rattle.rule_tokens.specs.Values.{Piece, spelling, has_escapes, Spells}
use Rattle.rule_tokens.specs.Grammar.{AllAre, BeginsOther, is_letter, Head, BeginsWithHead, Parts, BeginsWithToken, WrongPrefix, IsFault, prefix_quote}
use Rattle.rule_tokens.specs.Reading.{head_at, quoted_by, quote_at, pieces_of, value_length, value_at, token_at}
use Rattle.rule_tokens.proofs.RunLemmas.{Sound, bind_sound, run_again, run_all, apart, closed_again, closed_sound}
use Rattle.rule_tokens.proofs.HeadLemmas.{head_again, head_sound}
use Rattle.rule_tokens.proofs.Pieces.{no_piece, other_byte}
use Rattle.rule_tokens.proofs.PieceLists.{pieces_again, pieces_sound, plain_end}

map_sound : {A : Type 0} (P : A → Type 0) (Q : Type 0) (P2 : A → Type 0) (r : Result A TokenFaultKind) → Sound P Q r → ((x : A) → P x → P2 x) → Sound P2 Q r
map_sound P Q P2 (Ok x) p f = f x p
map_sound P Q P2 (Err Syntax) p f = tt
map_sound P Q P2 (Err Prefix) p f = p

value_again : (escaped : Bool) (ps : List Piece) (value rest : List ℕ) → Spells escaped ps value → value_at escaped (value ++ double_quote ∷ rest) ≡ Ok (value, rest)
value_again escaped ps value rest s =
    let e : pieces_of escaped 0 (value ++ double_quote ∷ rest) ≡ ps = pieces_again escaped ps value (double_quote ∷ rest) s (no_piece escaped rest).1 in
    closed_again double_quote (value_length escaped (value ++ double_quote ∷ rest)) value rest (ap (λ qs. length (flat_map spelling qs)) e ∙ sym (ap length s.spelled))

value_sound : (escaped : Bool) (text : List ℕ) → Sound (λ (x : List ℕ × List ℕ). (text ≡ x.0 ++ double_quote ∷ x.1) × Spells escaped (pieces_of escaped 0 text) x.0) ⊥ (value_at escaped text)
value_sound escaped text =
    map_sound _ ⊥ _ (value_at escaped text) (closed_sound double_quote (value_length escaped text) text refl) (λ (x : List ℕ × List ℕ) h.
    let ps = pieces_of escaped 0 text in
    let s = pieces_sound escaped 0 text in
    let e : x.0 ≡ flat_map spelling ps = h.1 ∙ (ap (λ t. take (length (flat_map spelling ps)) t) s.1.1 ∙ take_at (flat_map spelling ps) s.1.0 _ refl) in (
      h.0,
      record {
        spelled = e;
        allowed = s.0;
        end = λ f. rw e (plain escaped text x.1 f (h.0 ∙ ap (λ v. v ++ double_quote ∷ x.1) e));
      },
    ))
  where
    plain : (escaped : Bool) (text rest : List ℕ) → escaped ≡ false → text ≡ flat_map spelling (pieces_of escaped 0 text) ++ double_quote ∷ rest → ends_in backslash (flat_map spelling (pieces_of escaped 0 text)) ≡ false
    plain true text rest f e = absurd (cc)
    plain false text rest f e = plain_end 0 text rest e

record BeginsWithQuote (o : Operator) (text : List ℕ) (q : Quote) (rest : List ℕ) : Type 0 where
  letters : List ℕ
  spelled : text ≡ letters ++ double_quote ∷ rest
  letters_are : AllAre is_letter letters
  prefix : prefix_quote o letters ≡ Some q

record WrongLetters (o : Operator) (text : List ℕ) : Type 0 where
  letters : List ℕ
  rest : List ℕ
  spelled : text ≡ letters ++ double_quote ∷ rest
  letters_are : AllAre is_letter letters
  prefix : prefix_quote o letters ≡ None

quote_again : (o : Operator) (letters rest : List ℕ) → AllAre is_letter letters → quote_at o (letters ++ double_quote ∷ rest) ≡ quoted_by (prefix_quote o letters) rest
unfolding quote_at
quote_again o letters rest a = rw (closed_again double_quote _ letters rest (run_again is_letter letters (double_quote ∷ rest) a refl)) refl

quote_sound : (o : Operator) (text : List ℕ) → Sound (λ (x : Quote × List ℕ). BeginsWithQuote o text x.0 x.1) (WrongLetters o text) (quote_at o text)
unfolding quote_at
quote_sound o text =
    bind_sound _ ⊥ (λ (x : Quote × List ℕ). BeginsWithQuote o text x.0 x.1) (WrongLetters o text) _ _ (closed_sound double_quote (prefix_len is_letter text) text refl) (λ q. absurd q)
    (λ (x : List ℕ × List ℕ) h. by_prefix (prefix_quote o x.0) x.0 x.1 h.0 (rw h.1 (run_all is_letter text)) refl)
  where
    by_prefix : (q : Option Quote) (letters rest : List ℕ) → text ≡ letters ++ double_quote ∷ rest → AllAre is_letter letters → prefix_quote o letters ≡ q → Sound (λ (x : Quote × List ℕ). BeginsWithQuote o text x.0 x.1) (WrongLetters o text) (quoted_by q rest)
    by_prefix None letters rest s a e = record { letters = letters; rest = rest; spelled = s; letters_are = a; prefix = e }
    by_prefix (Some q) letters rest s a e = record { letters = letters; spelled = s; letters_are = a; prefix = e }

letter_begins : (q : ℕ → Bool) → ((b : ℕ) → is_letter b ≡ true → q b ≡ false) → q double_quote ≡ false → (text letters rest : List ℕ) → text ≡ letters ++ double_quote ∷ rest → AllAre is_letter letters → BeginsOther q text
letter_begins q d o text letters rest e a = rw e (apart is_letter q letters (double_quote ∷ rest) d a o)

no_blank : (b : ℕ) → is_letter b ≡ true → is_blank b ≡ false
no_blank b e = rw (other_byte is_letter b space e refl) (rw (other_byte is_letter b tab e refl) refl)

-- a head before letters and a quote is read
pub quoted_head : (text : List ℕ) (h : Head) (quoted letters rest : List ℕ) → BeginsWithHead text h quoted → quoted ≡ letters ++ double_quote ∷ rest → AllAre is_letter letters → head_at text ≡ Ok (h, quoted)
quoted_head text h quoted letters rest s e a =
    head_again text h quoted s (letter_begins is_blank no_blank refl quoted letters rest e a)
    (letter_begins (λ b. b == equals) (λ b l. other_byte is_letter b equals l refl) refl quoted letters rest e a)

-- a token that is there is read
pub token_again : (text : List ℕ) (t : Parts) (rest : List ℕ) → BeginsWithToken text t rest → token_at text ≡ Ok (t, rest)
unfolding token_at
token_again text t rest s =
    let e : s.quoted ≡ s.letters ++ double_quote ∷ (t.value ++ double_quote ∷ rest) = s.spelled ∙ simp append_assoc in
    let head = quoted_head text t.head s.quoted s.letters (t.value ++ double_quote ∷ rest) s.head e s.letters_are in
    let quote : quote_at t.head.operator s.quoted ≡ Ok (t.quote, t.value ++ double_quote ∷ rest) = rw e (quote_again t.head.operator s.letters (t.value ++ double_quote ∷ rest) s.letters_are ∙ rw s.prefix refl) in
    rw head (rw quote (rw (value_again (has_escapes t.quote) s.pieces t.value rest s.value) refl))

-- a wrong prefix is found
pub prefix_again : (text : List ℕ) → WrongPrefix text → token_at text ≡ Err Prefix
unfolding token_at
prefix_again text s =
    let head = quoted_head text s.head s.quoted s.letters s.rest s.is_present s.spelled s.letters_are in
    let quote : quote_at s.head.operator s.quoted ≡ Err Prefix = rw s.spelled (quote_again s.head.operator s.letters s.rest s.letters_are ∙ rw s.prefix refl) in
    rw head (rw quote refl)

token_sound : (text : List ℕ) → Sound (λ (x : Parts × List ℕ). BeginsWithToken text x.0 x.1) (WrongPrefix text) (token_at text)
unfolding token_at
token_sound text =
    let P : Parts × List ℕ → Type 0 = λ x. BeginsWithToken text x.0 x.1 in
    let Q = WrongPrefix text in
    bind_sound (λ (x : Head × List ℕ). BeginsWithHead text x.0 x.1) ⊥ P Q (head_at text) _ (head_sound text) (λ q. absurd q) (λ head h1.
    bind_sound (λ (x : Quote × List ℕ). BeginsWithQuote head.0.operator head.1 x.0 x.1) (WrongLetters head.0.operator head.1) P Q (quote_at head.0.operator head.1) _ (quote_sound head.0.operator head.1)
    (λ w. record { head = head.0; quoted = head.1; letters = w.letters; rest = w.rest; is_present = h1; spelled = w.spelled; letters_are = w.letters_are; prefix = w.prefix })
    (λ quote h2.
    bind_sound _ ⊥ P Q (value_at (has_escapes quote.0) quote.1) _ (value_sound (has_escapes quote.0) quote.1) (λ q. absurd q) (λ value h3.
    record {
      quoted = head.1;
      letters = h2.letters;
      pieces = pieces_of (has_escapes quote.0) 0 quote.1;
      head = h1;
      spelled = joined head.1 h2.letters quote.1 value.0 value.1 h2.spelled h3.0;
      letters_are = h2.letters_are;
      prefix = h2.prefix;
      value = h3.1;
    })))
  where
    joined : (t a t1 b t2 : List ℕ) → t ≡ a ++ double_quote ∷ t1 → t1 ≡ b ++ double_quote ∷ t2 → t ≡ a ++ double_quote ∷ b ++ double_quote ∷ t2
    joined t a t1 b t2 e f = let k : t ≡ a ++ (double_quote ∷ (b ++ double_quote ∷ t2)) = cc in k ∙ sym (simp append_assoc)

-- a token that is read is there
pub token_in_place : (text : List ℕ) (x : Parts × List ℕ) → token_at text ≡ Ok x → BeginsWithToken text x.0 x.1
token_in_place text x e = let P : Result (Parts × List ℕ) TokenFaultKind → Type 0 = λ r. Sound (λ (x : Parts × List ℕ). BeginsWithToken text x.0 x.1) (WrongPrefix text) r in subst P e (token_sound text)

prefix_in_place : (text : List ℕ) → token_at text ≡ Err Prefix → WrongPrefix text
prefix_in_place text e = let P : Result (Parts × List ℕ) TokenFaultKind → Type 0 = λ r. Sound (λ (x : Parts × List ℕ). BeginsWithToken text x.0 x.1) (WrongPrefix text) r in subst P e (token_sound text)

-- a fault that is found is one
pub fault_in_place : (text : List ℕ) (kind : TokenFaultKind) → token_at text ≡ Err kind → IsFault text kind
fault_in_place text Syntax e = ((λ t rest s. let k = token_again text t rest s in absurd (cc)), (λ w. let k = prefix_again text w in absurd (cc)))
fault_in_place text Prefix e = prefix_in_place text e

-- a fault is found
pub fault_again : (text : List ℕ) (kind : TokenFaultKind) → IsFault text kind → token_at text ≡ Err kind
fault_again text Prefix w = prefix_again text w
fault_again text Syntax h = by_result (token_at text) refl
  where
    by_result : (r : Result (Parts × List ℕ) TokenFaultKind) → token_at text ≡ r → r ≡ Err Syntax
    by_result (Ok x) e = absurd (h.0 x.0 x.1 (token_in_place text x e))
    by_result (Err Prefix) e = absurd (h.1 (prefix_in_place text e))
    by_result (Err Syntax) e = refl

-- what follows a token is shorter than the text that it begins
pub rest_is_shorter : (text : List ℕ) (t : Parts) (rest : List ℕ) → BeginsWithToken text t rest → length rest < length text
rest_is_shorter text t rest s = omega (arith, s.head.some_key, simp length-append at (ap length s.head.spelled), simp length-append at (ap length s.spelled))
