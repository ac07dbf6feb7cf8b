-- The head of a token: what is read is there, and what is there is read.
use Rattle.std.proofs.Common.{◌≡◌, ℕ, ◌<◌, Bool, true, false, List, [], ◌∷◌, ◌++◌, length, take, Option, Some, None, Ok, refl, ap, sym, ◌∙◌, ◌==◌, inl, inr, arith, append_assoc, rules, eqb-true}
use Rattle.std.specs.List.{prefix_len}
use Rattle.std.proofs.lemmas.Bool.{or_cases, ne_eqb}
use Rattle.std.proofs.lemmas.Bool.Decides.{nat_tests}
use Rattle.std.proofs.lemmas.List.{take_at, drop_at, take-append-drop}
use Rattle.std.proofs.lemmas.List.Folds.{length-prefix_len}
use Rattle.rule_tokens.specs.declared.kinds.Operator.{Operator}
use Rattle.rule_tokens.specs.declared.kinds.Operator.TheVariants.{Equal, NotEqual, Add, Remove, AssignFinal, Assign}
use Rattle.text_bytes.specs.Names.{is_blank, open_brace, close_brace, equals, bang, plus, minus, colon, space, tab}
use Rattle.text_bytes.specs.Texts.{skip_while}
use Rattle.rule_tokens.specs.Grammar.{AllAre, BeginsOther, Head, BeginsWithHead, operator_text, attribute_text, attribute_bytes, is_key_byte, is_attribute_byte}
use Rattle.rule_tokens.specs.Reading.{key_at, attribute_at, operator_at, head_at}
use Rattle.rule_tokens.proofs.RunLemmas.{Sound, bind_sound, cond_sound, run_again, run_all, apart, closed_again, closed_sound}

pub key_again : (key rest : List ℕ) → 0 < length key → AllAre is_key_byte key → BeginsOther is_key_byte rest → key_at (key ++ rest) ≡ Ok (key, rest)
unfolding key_at
key_again key rest some a o =
    let e : (length key == 0) ≡ false = ne_eqb (length key) 0 (λ z. absurd (omega arith)) in
    rw (run_again is_key_byte key rest a o) (rw e (rw (take_at key rest _ refl) (rw (drop_at key rest _ refl) refl)))

pub attribute_again : (a : Option (List ℕ)) (rest : List ℕ) → AllAre is_attribute_byte (attribute_bytes a) → BeginsOther (λ b. b == open_brace) rest → attribute_at (attribute_text a ++ rest) ≡ Ok (a, rest)
unfolding attribute_at
attribute_again None [] all o = refl
attribute_again None (b ∷ rest) all o = rw o refl
attribute_again (Some name) rest all o =
    let e : (name ++ close_brace ∷ []) ++ rest ≡ name ++ close_brace ∷ rest = append_assoc name (close_brace ∷ []) rest in
    let n = run_again is_attribute_byte name (close_brace ∷ rest) all refl in
    rw e (rw (closed_again close_brace _ name rest n) refl)

pub operator_again : (o : Operator) (rest : List ℕ) → BeginsOther (λ b. b == equals) rest → operator_at (operator_text o ++ rest) ≡ Ok (o, rest)
unfolding operator_at
operator_again Equal rest e = refl
operator_again NotEqual rest e = refl
operator_again Add rest e = refl
operator_again Remove rest e = refl
operator_again AssignFinal rest e = refl
operator_again Assign [] e = refl
operator_again Assign (b ∷ rest) e = rw e refl

pub skip_again : (run rest : List ℕ) → AllAre is_blank run → BeginsOther is_blank rest → skip_while is_blank (run ++ rest) ≡ rest
skip_again run rest a o = rw (run_again is_blank run rest a o) (drop_at run rest _ refl)

-- a blank is a space or a tab
pub of_blank : (q : ℕ → Bool) → q space ≡ false → q tab ≡ false → (b : ℕ) → is_blank b ≡ true → q b ≡ false
of_blank q s t b e = elim (or_cases (b == space) (b == tab) e) as (λ _. q b ≡ false) [ inl h ↦ ap q (eqb-true b space h) ∙ s | inr h ↦ ap q (eqb-true b tab h) ∙ t ]

operator_begins : (q : ℕ → Bool) (o : Operator) (rest : List ℕ) → (q equals ≡ false) × (q bang ≡ false) × (q plus ≡ false) × (q minus ≡ false) × (q colon ≡ false) → BeginsOther q (operator_text o ++ rest)
operator_begins q Equal rest e = e.0
operator_begins q NotEqual rest e = e.1
operator_begins q Add rest e = e.2
operator_begins q Remove rest e = e.3
operator_begins q AssignFinal rest e = e.4
operator_begins q Assign rest e = e.0

-- what begins with no blank and no equals sign ends a head
pub head_again : (text : List ℕ) (h : Head) (rest : List ℕ) → BeginsWithHead text h rest → BeginsOther is_blank rest → BeginsOther (λ b. b == equals) rest → head_at text ≡ Ok (h, rest)
unfolding head_at
head_again text h rest s o e =
    let other = λ (q : ℕ → Bool) (n : (q space ≡ false) × (q tab ≡ false)) (m : (q equals ≡ false) × (q bang ≡ false) × (q plus ≡ false) × (q minus ≡ false) × (q colon ≡ false)). apart is_blank q s.before (operator_text h.operator ++ (s.following ++ rest)) (of_blank q n.0 n.1) s.blanks.0 (operator_begins q h.operator (s.following ++ rest) m) in
    let spelled : text ≡ h.key ++ (attribute_text h.attribute ++ (s.before ++ (operator_text h.operator ++ (s.following ++ rest)))) = s.spelled ∙ simp append_assoc in
    let key : key_at text ≡ Ok (h.key, attribute_text h.attribute ++ (s.before ++ (operator_text h.operator ++ (s.following ++ rest)))) =
    rw spelled (key_again h.key _ s.some_key s.key (attribute_begins h.attribute _ (other is_key_byte (refl, refl) (refl, refl, refl, refl, refl)))) in
    let attribute = attribute_again h.attribute (s.before ++ (operator_text h.operator ++ (s.following ++ rest))) s.attribute (other (λ b. b == open_brace) (refl, refl) (refl, refl, refl, refl, refl)) in
    let blanks = skip_again s.before (operator_text h.operator ++ (s.following ++ rest)) s.blanks.0 (operator_begins is_blank h.operator (s.following ++ rest) (refl, refl, refl, refl, refl)) in
    let operator = operator_again h.operator (s.following ++ rest) (apart is_blank (λ b. b == equals) s.following rest (of_blank (λ b. b == equals) refl refl) s.blanks.1 e) in
    rw key (rw attribute (rw blanks (rw operator (rw (skip_again s.following rest s.blanks.1 o) refl))))
  where
    attribute_begins : (a : Option (List ℕ)) (rest : List ℕ) → BeginsOther is_key_byte rest → BeginsOther is_key_byte (attribute_text a ++ rest)
    attribute_begins None rest o = o
    attribute_begins (Some name) rest o = refl

key_sound : (text : List ℕ) → Sound (λ (x : List ℕ × List ℕ). (text ≡ x.0 ++ x.1) × (0 < length x.0) × AllAre is_key_byte x.0) ⊥ (key_at text)
unfolding key_at
key_sound text =
    cond_sound (λ (x : List ℕ × List ℕ). (text ≡ x.0 ++ x.1) × (0 < length x.0) × AllAre is_key_byte x.0) ⊥ (prefix_len is_key_byte text == 0) _ _ (λ _. tt)
    (λ e. (sym (take-append-drop (prefix_len is_key_byte text) text), rw (length-prefix_len is_key_byte text) (grind (arith, nat_tests)), run_all is_key_byte text))

attribute_sound : (text : List ℕ) → Sound (λ (x : Option (List ℕ) × List ℕ). (text ≡ attribute_text x.0 ++ x.1) × AllAre is_attribute_byte (attribute_bytes x.0)) ⊥ (attribute_at text)
unfolding attribute_at
attribute_sound [] = (refl, refl)
attribute_sound (b ∷ rest) =
    let P : Option (List ℕ) × List ℕ → Type 0 = λ x. (b ∷ rest ≡ attribute_text x.0 ++ x.1) × AllAre is_attribute_byte (attribute_bytes x.0) in
    cond_sound P ⊥ (b == open_brace) _ _
    (λ e. bind_sound (λ (x : List ℕ × List ℕ). (rest ≡ x.0 ++ close_brace ∷ x.1) × (x.0 ≡ take (prefix_len is_attribute_byte rest) rest)) ⊥ P ⊥ _ _
    (closed_sound close_brace (prefix_len is_attribute_byte rest) rest refl) (λ q. q)
    (λ x p. (named b rest x.0 x.1 (eqb-true b open_brace e) p.0, rw p.1 (run_all is_attribute_byte rest))))
    (λ _. (refl, refl))
  where
    named : (b : ℕ) (rest name more : List ℕ) → b ≡ open_brace → rest ≡ name ++ close_brace ∷ more → b ∷ rest ≡ open_brace ∷ (name ++ close_brace ∷ []) ++ more
    named b rest name more e f = let g = append_assoc name (close_brace ∷ []) more in cc

two : (a b c d : ℕ) (rest : List ℕ) → (a == c) ≡ true → (b == d) ≡ true → a ∷ b ∷ rest ≡ c ∷ d ∷ rest
two a b c d rest e f = let p : a ≡ c = search (rules, eqb-true) in let q : b ≡ d = search (rules, eqb-true) in cc

operator_sound : (text : List ℕ) → Sound (λ (x : Operator × List ℕ). text ≡ operator_text x.0 ++ x.1) ⊥ (operator_at text)
unfolding operator_at
operator_sound [] = tt
operator_sound (a ∷ []) =
    let P : Operator × List ℕ → Type 0 = λ x. a ∷ [] ≡ operator_text x.0 ++ x.1 in
    cond_sound P ⊥ (a == equals) _ _ (λ e. let p : a ≡ equals = search (rules, eqb-true) in ap (λ b. b ∷ []) p) (λ _. tt)
operator_sound (a ∷ b ∷ rest) =
    let P : Operator × List ℕ → Type 0 = λ x. a ∷ b ∷ rest ≡ operator_text x.0 ++ x.1 in
    cond_sound P ⊥ (b == equals) _ _
    (λ f. cond_sound P ⊥ (a == equals) _ _ (λ e. two a b equals equals rest e f)
    (λ _. cond_sound P ⊥ (a == bang) _ _ (λ e. two a b bang equals rest e f)
    (λ _. cond_sound P ⊥ (a == plus) _ _ (λ e. two a b plus equals rest e f)
    (λ _. cond_sound P ⊥ (a == minus) _ _ (λ e. two a b minus equals rest e f)
    (λ _. cond_sound P ⊥ (a == colon) _ _ (λ e. two a b colon equals rest e f) (λ _. tt))))))
    (λ _. cond_sound P ⊥ (a == equals) _ _ (λ e. let p : a ≡ equals = search (rules, eqb-true) in ap (λ c. c ∷ b ∷ rest) p) (λ _. tt))

pub head_sound : (text : List ℕ) → Sound (λ (x : Head × List ℕ). BeginsWithHead text x.0 x.1) ⊥ (head_at text)
unfolding head_at
head_sound text =
    let P : Head × List ℕ → Type 0 = λ x. BeginsWithHead text x.0 x.1 in
    bind_sound _ ⊥ P ⊥ (key_at text) _ (key_sound text) (λ q. q) (λ key h1.
    bind_sound _ ⊥ P ⊥ (attribute_at key.1) _ (attribute_sound key.1) (λ q. q) (λ attribute h2.
    bind_sound _ ⊥ P ⊥ (operator_at (skip_while is_blank attribute.1)) _ (operator_sound (skip_while is_blank attribute.1)) (λ q. q) (λ operator h3.
    let before = take (prefix_len is_blank attribute.1) attribute.1 in
    let following = take (prefix_len is_blank operator.1) operator.1 in
    let e1 = take-append-drop (prefix_len is_blank attribute.1) attribute.1 in
    let e2 = take-append-drop (prefix_len is_blank operator.1) operator.1 in
    record {
      before = before;
      following = following;
      spelled = joined text key.0 key.1 (attribute_text attribute.0) attribute.1 before (skip_while is_blank attribute.1) (operator_text operator.0) operator.1 following (skip_while is_blank operator.1) h1.0 h2.0 e1 h3 e2;
      some_key = h1.1;
      key = h1.2;
      attribute = h2.1;
      blanks = (run_all is_blank attribute.1, run_all is_blank operator.1);
    })))
  where
    joined : (t a t1 b t2 c t3 d t4 e t5 : List ℕ) → t ≡ a ++ t1 → t1 ≡ b ++ t2 → c ++ t3 ≡ t2 → t3 ≡ d ++ t4 → e ++ t5 ≡ t4 → t ≡ a ++ b ++ c ++ d ++ e ++ t5
    joined t a t1 b t2 c t3 d t4 e t5 h1 h2 h3 h4 h5 =
        let k : t ≡ a ++ (b ++ (c ++ (d ++ (e ++ t5)))) = cc in k ∙ sym (simp append_assoc)
