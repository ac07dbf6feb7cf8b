-- What is known of tokens lets through each that is alike, and each whose words are apart.
use Rattle.std.proofs.Common.{◌≡◌, ◌⊎◌, inl, inr, Bool, true, false, cond, not, ◌&&◌, ◌||◌, nat_eq, List, [], ◌∷◌, ◌++◌, filter, map, Option, Some, None, refl, ap, sym, ◌∙◌, true≢false, eq-eqb}
use Rattle.std.specs.Bool.{beq}
use Rattle.std.specs.List.{list_all, list_any, starts_with}
use Rattle.text_bytes.specs.Text.{Text}
use Rattle.text_bytes.specs.Texts.{is_empty}
use Rattle.text_tables.specs.Texts.{is_among, same_text, with_text, with_texts}
use Rattle.text_tables.specs.Pairs.{value_of}
use Rattle.text_tables.proofs.Found.{among_added, value_set}
use Rattle.rule_tokens.specs.declared.kinds.Operator.{Operator}
use Rattle.rule_tokens.specs.declared.kinds.Operator.TheVariants as op
use Rattle.rule_types.specs.Tokens.{same_operator}
use Rattle.rule_remarks.specs.Known.{Known, is_by_words, key_of, known_of, lets_out, may_be_apart, may_be_like, reach_of, reached, shared_with, with_option, with_token, with_words}
use Rattle.rule_remarks.specs.Relations.{are_alike, are_disjoint, is_strict, lacks_words, leave_nothing, part_ways, parts_from_all, same_form, same_matter, same_way, same_words}
use Rattle.rule_remarks.specs.Said.{Said}
use Rattle.rule_remarks.specs.declared.form.Form.{Form}
use Rattle.rule_remarks.specs.declared.form.Form.TheVariants as form
use Rattle.rule_remarks.proofs.Beginnings.{first_holds, second_holds}
use Rattle.rule_remarks.proofs.Likeness.{form_is, key_is, op_is}
use Rattle.rule_remarks.proofs.WordSets.{text_is, text_itself}

-- ---- tests

either : (a b : Bool) → (a || b) ≡ true → (a ≡ true) ⊎ (b ≡ true)
either true b h = inl refl
either false b h = inr h

pub or_left : (a b : Bool) → a ≡ true → (a || b) ≡ true
or_left a b h = ap (λ (x : Bool). x || b) h

pub or_right : (a b : Bool) → b ≡ true → (a || b) ≡ true
or_right true b h = refl
or_right false b h = h

pub both : (a b : Bool) → a ≡ true → b ≡ true → (a && b) ≡ true
both a b h k = ap (λ (x : Bool). x && b) h ∙ k

pub never : (a : Bool) → (a ≡ true → ⊥) → a ≡ false
never true f = absurd (f refl)
never false f = refl

or_false : (a : Bool) → a ≡ (a || false)
or_false true = refl
or_false false = refl

or_more : (a b c : Bool) → ((a || b) || c) ≡ (a || (b || c))
or_more true b c = refl
or_more false b c = refl

pub neither_first : (a b : Bool) → (a || b) ≡ false → a ≡ false
neither_first true b h = h
neither_first false b h = refl

pub neither_second : (a b : Bool) → (a || b) ≡ false → b ≡ false
neither_second true b h = absurd (true≢false h)
neither_second false b h = h

pub and_false : (a : Bool) → (a && false) ≡ false
and_false true = refl
and_false false = refl

all_more : (p q : Text → Bool) → ((w : Text) → p w ≡ true → q w ≡ true) → (ws : List Text) → list_all p ws ≡ true → list_all q ws ≡ true
all_more p q f [] h = refl
all_more p q f (w ∷ ws) h = both (q w) (list_all q ws) (f w (first_holds (p w) (list_all p ws) h)) (all_more p q f ws (second_holds (p w) (list_all p ws) h))

none_of : (p : Text → Bool) (ws : List Text) → ((w : Text) → is_among ws w ≡ true → p w ≡ true → ⊥) → list_any p ws ≡ false
none_of p [] f = refl
none_of p (w ∷ ws) f = by (p w) refl (none_of p ws (λ x i q. f x (or_right (same_text x w) (is_among ws x) i) q))
  where
    by : (b : Bool) → p w ≡ b → list_any p ws ≡ false → (b || list_any p ws) ≡ false
    by true e rest = absurd (f w (or_left (same_text w w) (is_among ws w) (text_itself w)) e)
    by false e rest = rest

some_of : (p : Text → Bool) (ws : List Text) (w : Text) → is_among ws w ≡ true → p w ≡ true → list_any p ws ≡ true
some_of p [] w i h = absurd (true≢false (sym i))
some_of p (v ∷ ws) w i h = by (λ e. some_of p ws w e h) (either (same_text w v) (is_among ws w) i)
  where
    by : (is_among ws w ≡ true → list_any p ws ≡ true) → (same_text w v ≡ true) ⊎ (is_among ws w ≡ true) → (p v || list_any p ws) ≡ true
    by rest (inl e) = or_left (p v) (list_any p ws) (ap p (sym (text_is w v e)) ∙ h)
    by rest (inr e) = or_right (p v) (list_any p ws) (rest e)

module _ {X : Type 0} where
  pub any_gives : (p : X → Bool) (q : Bool) → ((x : X) → p x ≡ true → q ≡ true) → (xs : List X) → list_any p xs ≡ true → q ≡ true
  any_gives p q f [] h = absurd (true≢false (sym h))
  any_gives p q f (x ∷ xs) h = by (any_gives p q f xs) (either (p x) (list_any p xs) h)
    where
      by : (list_any p xs ≡ true → q ≡ true) → (p x ≡ true) ⊎ (list_any p xs ≡ true) → q ≡ true
      by rest (inl e) = f x e
      by rest (inr e) = rest e

  pub any_more : (p q : X → Bool) → ((x : X) → p x ≡ true → q x ≡ true) → (xs : List X) → list_any p xs ≡ true → list_any q xs ≡ true
  any_more p q f [] h = h
  any_more p q f (x ∷ xs) h = by (any_more p q f xs) (either (p x) (list_any p xs) h)
    where
      by : (list_any p xs ≡ true → list_any q xs ≡ true) → (p x ≡ true) ⊎ (list_any p xs ≡ true) → (q x || list_any q xs) ≡ true
      by rest (inl e) = or_left (q x) (list_any q xs) (f x e)
      by rest (inr e) = or_right (q x) (list_any q xs) (rest e)

  pub any_of_two : (p q r : X → Bool) → ((x : X) → p x ≡ true → (q x ≡ true) ⊎ (r x ≡ true)) → (xs : List X) → list_any p xs ≡ true → (list_any q xs ≡ true) ⊎ (list_any r xs ≡ true)
  any_of_two p q r f [] h = absurd (true≢false (sym h))
  any_of_two p q r f (x ∷ xs) h = by (any_of_two p q r f xs) (either (p x) (list_any p xs) h)
    where
      here : (q x ≡ true) ⊎ (r x ≡ true) → (list_any q (x ∷ xs) ≡ true) ⊎ (list_any r (x ∷ xs) ≡ true)
      here (inl e) = inl (or_left (q x) (list_any q xs) e)
      here (inr e) = inr (or_left (r x) (list_any r xs) e)

      there : (list_any q xs ≡ true) ⊎ (list_any r xs ≡ true) → (list_any q (x ∷ xs) ≡ true) ⊎ (list_any r (x ∷ xs) ≡ true)
      there (inl e) = inl (or_right (q x) (list_any q xs) e)
      there (inr e) = inr (or_right (r x) (list_any r xs) e)

      by : (list_any p xs ≡ true → (list_any q xs ≡ true) ⊎ (list_any r xs ≡ true)) → (p x ≡ true) ⊎ (list_any p xs ≡ true) → (list_any q (x ∷ xs) ≡ true) ⊎ (list_any r (x ∷ xs) ≡ true)
      by rest (inl e) = here (f x e)
      by rest (inr e) = there (rest e)

-- ---- texts

added : (texts : List Text) (text : Text) → is_among (with_text texts text) text ≡ true
added texts text = among_added texts text text ∙ or_right (is_among texts text) (same_text text text) (text_itself text)

stays_among : (texts : List Text) (text other : Text) → is_among texts other ≡ true → is_among (with_text texts text) other ≡ true
stays_among texts text other h = among_added texts text other ∙ or_left (is_among texts other) (same_text other text) h

words_stay : (key : Text) (texts words : List Text) (other : Text) → is_among texts other ≡ true → is_among (with_words key texts words) other ≡ true
words_stay key texts [] other h = h
words_stay key texts (w ∷ ws) other h = words_stay key (with_text texts (key ++ w)) ws other (stays_among texts (key ++ w) other h)

words_there : (key : Text) (texts words : List Text) (word : Text) → is_among words word ≡ true → is_among (with_words key texts words) (key ++ word) ≡ true
words_there key texts [] word h = absurd (true≢false (sym h))
words_there key texts (w ∷ ws) word h = by (words_there key (with_text texts (key ++ w)) ws word) (either (same_text word w) (is_among ws word) h)
  where
    by : (is_among ws word ≡ true → is_among (with_words key (with_text texts (key ++ w)) ws) (key ++ word) ≡ true) → (same_text word w ≡ true) ⊎ (is_among ws word ≡ true) → is_among (with_words key (with_text texts (key ++ w)) ws) (key ++ word) ≡ true
    by rest (inl e) = words_stay key (with_text texts (key ++ w)) ws (key ++ word) (ap (λ (x : Text). is_among (with_text texts (key ++ w)) (key ++ x)) (text_is word w e) ∙ added texts (key ++ w))
    by rest (inr e) = rest e

among_all : (texts more : List Text) (w : Text) → is_among (with_texts texts more) w ≡ (is_among texts w || is_among more w)
among_all texts [] w = or_false (is_among texts w)
among_all texts (m ∷ ms) w =
    among_all (with_text texts m) ms w
    ∙ ap (λ (x : Bool). x || is_among ms w) (among_added texts m w)
    ∙ or_more (is_among texts w) (same_text w m) (is_among ms w)

filtered : (p : Text → Bool) (ts : List Text) (w : Text) → is_among (filter p ts) w ≡ true → (p w ≡ true) × (is_among ts w ≡ true)
filtered p [] w h = absurd (true≢false (sym h))
filtered p (t ∷ ts) w h = by (λ e. ((filtered p ts w e).0, or_right (same_text w t) (is_among ts w) (filtered p ts w e).1)) (p t) refl h
  where
    at : (is_among (filter p ts) w ≡ true → (p w ≡ true) × ((same_text w t || is_among ts w) ≡ true)) → p t ≡ true → (same_text w t ≡ true) ⊎ (is_among (filter p ts) w ≡ true) → (p w ≡ true) × ((same_text w t || is_among ts w) ≡ true)
    at rest e (inl q) = (ap p (text_is w t q) ∙ e, or_left (same_text w t) (is_among ts w) q)
    at rest e (inr q) = rest q

    by : (is_among (filter p ts) w ≡ true → (p w ≡ true) × ((same_text w t || is_among ts w) ≡ true)) → (b : Bool) → p t ≡ b → is_among (cond b (t ∷ filter p ts) (filter p ts)) w ≡ true → (p w ≡ true) × ((same_text w t || is_among ts w) ≡ true)
    by rest true e k = at rest e (either (same_text w t) (is_among (filter p ts) w) k)
    by rest false e k = rest k

mapped_all : (f : Text → Text) (p : Text → Bool) (ws : List Text) (w : Text) → list_all (λ x. p (f x)) ws ≡ true → is_among (map f ws) w ≡ true → p w ≡ true
mapped_all f p [] w h i = absurd (true≢false (sym i))
mapped_all f p (v ∷ ws) w h i =
    by (mapped_all f p ws w (second_holds (p (f v)) (list_all (λ x. p (f x)) ws) h)) (either (same_text w (f v)) (is_among (map f ws) w) i)
  where
    by : (is_among (map f ws) w ≡ true → p w ≡ true) → (same_text w (f v) ≡ true) ⊎ (is_among (map f ws) w ≡ true) → p w ≡ true
    by rest (inl e) = ap p (text_is w (f v) e) ∙ first_holds (p (f v)) (list_all (λ x. p (f x)) ws) h
    by rest (inr e) = rest e

-- ---- tokens that are alike

-- whether a token is like one and has an operator
abbrev pub is_like : Said → Operator → Option Said → Bool
is_like a o None = false
is_like a o (Some b) = are_alike a b && same_operator b.operator o

like_stays : (known : Known) (t : Option Said) (a : Said) (o : Operator) → may_be_like known a o ≡ true → may_be_like (with_option known t) a o ≡ true
like_stays known None a o h = h
like_stays known (Some b) a o h =
    both (is_among (with_token known b).texts (key_of a o)) (lacks_words a || list_all (λ word. is_among (with_token known b).texts (key_of a o ++ word)) a.words)
    (more (key_of a o) (first_holds (is_among known.texts (key_of a o)) (lacks_words a || list_all (λ word. is_among known.texts (key_of a o ++ word)) a.words) h))
    (by (either (lacks_words a) (list_all (λ word. is_among known.texts (key_of a o ++ word)) a.words)
    (second_holds (is_among known.texts (key_of a o)) (lacks_words a || list_all (λ word. is_among known.texts (key_of a o ++ word)) a.words) h)))
  where
    more : (t : Text) → is_among known.texts t ≡ true → is_among (with_token known b).texts t ≡ true
    more t e = words_stay (key_of b b.operator) (with_text known.texts (key_of b b.operator)) b.words t (stays_among known.texts (key_of b b.operator) t e)

    by : (lacks_words a ≡ true) ⊎ (list_all (λ word. is_among known.texts (key_of a o ++ word)) a.words ≡ true)
        → (lacks_words a || list_all (λ word. is_among (with_token known b).texts (key_of a o ++ word)) a.words) ≡ true
    by (inl e) = or_left (lacks_words a) (list_all (λ word. is_among (with_token known b).texts (key_of a o ++ word)) a.words) e
    by (inr e) =
        or_right (lacks_words a) (list_all (λ word. is_among (with_token known b).texts (key_of a o ++ word)) a.words)
        (all_more (λ word. is_among known.texts (key_of a o ++ word)) (λ word. is_among (with_token known b).texts (key_of a o ++ word)) (λ w i. more (key_of a o ++ w) i) a.words e)

like_here : (known : Known) (a b : Said) (o : Operator) → (are_alike a b && same_operator b.operator o) ≡ true → may_be_like (with_token known b) a o ≡ true
like_here known a b o h =
    both (is_among (with_token known b).texts (key_of a o)) (lacks_words a || list_all (λ word. is_among (with_token known b).texts (key_of a o ++ word)) a.words)
    (ap (is_among (with_token known b).texts) (sym one) ∙ words_stay (key_of b b.operator) (with_text known.texts (key_of b b.operator)) b.words (key_of b b.operator) (added known.texts (key_of b b.operator)))
    (by (either (lacks_words a) (same_words a.words b.words) (second_holds (same_matter a b && same_way a b) (lacks_words a || same_words a.words b.words) alike)))
  where
    alike : are_alike a b ≡ true
    alike = first_holds (are_alike a b) (same_operator b.operator o) h

    about : (same_matter a b && same_way a b) ≡ true
    about = first_holds (same_matter a b && same_way a b) (lacks_words a || same_words a.words b.words) alike

    one : key_of b b.operator ≡ key_of a o
    one = sym (key_is a b b.operator about) ∙ ap (key_of a) (op_is b.operator o (second_holds (are_alike a b) (same_operator b.operator o) h))

    by : (lacks_words a ≡ true) ⊎ (same_words a.words b.words ≡ true) → (lacks_words a || list_all (λ word. is_among (with_token known b).texts (key_of a o ++ word)) a.words) ≡ true
    by (inl e) = or_left (lacks_words a) (list_all (λ word. is_among (with_token known b).texts (key_of a o ++ word)) a.words) e
    by (inr e) =
        or_right (lacks_words a) (list_all (λ word. is_among (with_token known b).texts (key_of a o ++ word)) a.words)
        (all_more (is_among b.words) (λ word. is_among (with_token known b).texts (key_of a o ++ word))
        (λ w i. ap (λ (k : Text). is_among (with_token known b).texts (k ++ w)) (sym one) ∙ words_there (key_of b b.operator) (with_text known.texts (key_of b b.operator)) b.words w i)
        a.words (first_holds (list_all (is_among b.words) a.words) (list_all (is_among a.words) b.words) e))

pub like_known : (a : Said) (o : Operator) (tokens : List (Option Said)) → list_any (is_like a o) tokens ≡ true → may_be_like (known_of tokens) a o ≡ true
like_known a o [] h = absurd (true≢false (sym h))
like_known a o (t ∷ tokens) h = by (like_known a o tokens) (either (is_like a o t) (list_any (is_like a o) tokens) h)
  where
    here : (t : Option Said) → is_like a o t ≡ true → may_be_like (with_option (known_of tokens) t) a o ≡ true
    here None e = absurd (true≢false (sym e))
    here (Some b) e = like_here (known_of tokens) a b o e

    by : (list_any (is_like a o) tokens ≡ true → may_be_like (known_of tokens) a o ≡ true) → (is_like a o t ≡ true) ⊎ (list_any (is_like a o) tokens ≡ true)
        → may_be_like (with_option (known_of tokens) t) a o ≡ true
    by rest (inl e) = here t e
    by rest (inr e) = like_stays (known_of tokens) t a o (rest e)

-- ---- tokens whose words are apart

-- whether the words of a token exclude those of one
abbrev pub is_apart : Said → Option Said → Bool
is_apart a None = false
is_apart a (Some b) = are_disjoint a b

shared_reached : (o : Option (List Text)) (reach : List Text) (w : Text) → is_among (shared_with o reach) w ≡ true → is_among reach w ≡ true
shared_reached None reach w h = h
shared_reached (Some shared) reach w h = (filtered (is_among reach) shared w (sym (among_all [] (filter (is_among reach) shared) w) ∙ h)).0

shared_before : (shared reach : List Text) (w : Text) → is_among (shared_with (Some shared) reach) w ≡ true → is_among shared w ≡ true
shared_before shared reach w h = (filtered (is_among reach) shared w (sym (among_all [] (filter (is_among reach) shared) w) ∙ h)).1

out_by : (shared reach : List Text) → ((w : Text) → is_among reach w ≡ true → is_among shared w ≡ true → ⊥) → lets_out (Some shared) reach ≡ true
out_by shared reach f = ap not (none_of (is_among shared) reach f)

out_is : (shared reach : List Text) → lets_out (Some shared) reach ≡ true → (w : Text) → is_among reach w ≡ true → is_among shared w ≡ true → ⊥
out_is shared reach h w i s = true≢false (sym h ∙ ap not (some_of (is_among shared) reach w i s))

begins_itself : (w : Text) → starts_with nat_eq w w ≡ true
begins_itself [] = refl
begins_itself (a ∷ w) = both (nat_eq a a) (starts_with nat_eq w w) (eq-eqb a a refl) (begins_itself w)

no_part : (w : Text) → part_ways w w ≡ true → ⊥
unfolding part_ways
no_part w h =
    true≢false
    (sym (first_holds (not (starts_with nat_eq w w)) (not (starts_with nat_eq w w)) (second_holds (not (is_empty w) && not (is_empty w)) (not (starts_with nat_eq w w) && not (starts_with nat_eq w w)) h))
    ∙ ap not (begins_itself w))

parted : (w : Text) (vs : List Text) → parts_from_all w vs ≡ true → is_among (map (reached form.Pattern) vs) w ≡ true → part_ways w w ≡ true
unfolding parts_from_all
parted w vs h i = mapped_all (reached form.Pattern) (part_ways w) vs w h i

plain : (ws : List Text) (w : Text) → is_among (map (reached form.Plain) ws) w ≡ is_among ws w
plain [] w = refl
plain (v ∷ ws) w = ap (λ (b : Bool). same_text w v || b) (plain ws w)

words_apart : (f : Form) (ws vs : List Text) → leave_nothing f ws vs ≡ true → (w : Text) → is_among (map (reached f) ws) w ≡ true → is_among (map (reached f) vs) w ≡ true → ⊥
words_apart form.Plain ws vs h w i j = true≢false (sym h ∙ ap not (some_of (is_among vs) ws w (sym (plain ws w) ∙ i) (sym (plain vs w) ∙ j)))
words_apart form.Pattern ws vs h w i j = no_part w (parted w vs (mapped_all (reached form.Pattern) (λ (x : Text). parts_from_all x vs) ws w h i) j)
words_apart _ ws vs h w i j = true≢false (sym h)

by_words : (f : Form) (ws vs : List Text) → leave_nothing f ws vs ≡ true → is_by_words f ≡ true
by_words form.Plain ws vs h = refl
by_words form.Pattern ws vs h = refl
by_words _ ws vs h = absurd (true≢false (sym h))

module _ (a b : Said) (h : are_disjoint a b ≡ true) where
  about_one : (same_matter a b && same_way a b) ≡ true
  about_one = first_holds (same_matter a b && same_way a b) ((is_strict a && is_strict b) && leave_nothing a.form a.words b.words) h

  apart_by : ((is_strict a && is_strict b) && leave_nothing a.form a.words b.words) ≡ true
  apart_by = second_holds (same_matter a b && same_way a b) ((is_strict a && is_strict b) && leave_nothing a.form a.words b.words) h

  are_strict : (is_strict a && is_strict b) ≡ true
  are_strict = first_holds (is_strict a && is_strict b) (leave_nothing a.form a.words b.words) apart_by

  left_out : leave_nothing a.form a.words b.words ≡ true
  left_out = second_holds (is_strict a && is_strict b) (leave_nothing a.form a.words b.words) apart_by

  strict_one : is_strict a ≡ true
  strict_one = first_holds (is_strict a) (is_strict b) are_strict

  equal_one : a.operator ≡ op.Equal
  equal_one = op_is a.operator op.Equal (first_holds (same_operator a.operator op.Equal) (not a.blind && not a.trims) strict_one)

  equal_other : b.operator ≡ op.Equal
  equal_other = op_is b.operator op.Equal (first_holds (same_operator b.operator op.Equal) (not b.blind && not b.trims) (second_holds (is_strict a) (is_strict b) are_strict))

  one_key : key_of b b.operator ≡ key_of a a.operator
  one_key = sym (key_is a b b.operator about_one) ∙ ap (key_of a) (equal_other ∙ sym equal_one)

  one_form : a.form ≡ b.form
  one_form =
      form_is a.form b.form (first_holds (same_form a.form b.form) (beq a.blind b.blind && beq a.trims b.trims) (second_holds (same_matter a b) (same_way a b) about_one))

  reach_apart : (w : Text) → is_among (reach_of a) w ≡ true → is_among (reach_of b) w ≡ true → ⊥
  reach_apart w i j =
      words_apart a.form a.words b.words left_out w
      (sym (among_all [] (map (reached a.form) a.words) w) ∙ i)
      (ap (λ (f : Form). is_among (map (reached f) b.words) w) one_form ∙ sym (among_all [] (map (reached b.form) b.words) w) ∙ j)

  out_here : (known : Known) → lets_out (value_of (with_token known b).shared (key_of a a.operator)) (reach_of a) ≡ true
  out_here known =
      ap (λ (o : Option (List Text)). lets_out o (reach_of a))
      (value_set known.shared (key_of b b.operator) own (key_of a a.operator)
      ∙ ap (λ (t : Bool). cond t (Some own) (value_of known.shared (key_of a a.operator))) (ap (same_text (key_of a a.operator)) one_key ∙ text_itself (key_of a a.operator)))
      ∙ out_by own (reach_of a) (λ w i s. reach_apart w i (shared_reached (value_of known.shared (key_of b b.operator)) (reach_of b) w s))
    where
      own : List Text
      own = shared_with (value_of known.shared (key_of b b.operator)) (reach_of b)

out_stays : (known : Known) (t : Option Said) (key : Text) (reach : List Text) → lets_out (value_of known.shared key) reach ≡ true → lets_out (value_of (with_option known t).shared key) reach ≡ true
out_stays known None key reach h = h
out_stays known (Some b) key reach h =
    ap (λ (o : Option (List Text)). lets_out o reach) (value_set known.shared own (shared_with (value_of known.shared own) (reach_of b)) key)
    ∙ by (same_text key own) refl
  where
    own : Text
    own = key_of b b.operator

    less : (o : Option (List Text)) → lets_out o reach ≡ true → lets_out (Some (shared_with o (reach_of b))) reach ≡ true
    less None k = absurd (true≢false (sym k))
    less (Some shared) k = out_by (shared_with (Some shared) (reach_of b)) reach (λ w i s. out_is shared reach k w i (shared_before shared (reach_of b) w s))

    by : (c : Bool) → same_text key own ≡ c → lets_out (cond c (Some (shared_with (value_of known.shared own) (reach_of b))) (value_of known.shared key)) reach ≡ true
    by true e = less (value_of known.shared own) (ap (λ (k : Text). lets_out (value_of known.shared k) reach) (sym (text_is key own e)) ∙ h)
    by false e = h

out_known : (a : Said) (tokens : List (Option Said)) → list_any (is_apart a) tokens ≡ true → lets_out (value_of (known_of tokens).shared (key_of a a.operator)) (reach_of a) ≡ true
out_known a [] h = absurd (true≢false (sym h))
out_known a (t ∷ tokens) h = by (out_known a tokens) (either (is_apart a t) (list_any (is_apart a) tokens) h)
  where
    here : (t : Option Said) → is_apart a t ≡ true → lets_out (value_of (with_option (known_of tokens) t).shared (key_of a a.operator)) (reach_of a) ≡ true
    here None e = absurd (true≢false (sym e))
    here (Some b) e = out_here a b e (known_of tokens)

    by : (list_any (is_apart a) tokens ≡ true → lets_out (value_of (known_of tokens).shared (key_of a a.operator)) (reach_of a) ≡ true)
        → (is_apart a t ≡ true) ⊎ (list_any (is_apart a) tokens ≡ true) → lets_out (value_of (with_option (known_of tokens) t).shared (key_of a a.operator)) (reach_of a) ≡ true
    by rest (inl e) = here t e
    by rest (inr e) = out_stays (known_of tokens) t (key_of a a.operator) (reach_of a) (rest e)

pub apart_known : (a : Said) (tokens : List (Option Said)) → list_any (is_apart a) tokens ≡ true → may_be_apart (known_of tokens) a ≡ true
apart_known a tokens h =
    both (is_strict a && is_by_words a.form) (lets_out (value_of (known_of tokens).shared (key_of a a.operator)) (reach_of a))
    (both (is_strict a) (is_by_words a.form) (any_gives (is_apart a) (is_strict a) strict tokens h) (any_gives (is_apart a) (is_by_words a.form) words tokens h))
    (out_known a tokens h)
  where
    strict : (t : Option Said) → is_apart a t ≡ true → is_strict a ≡ true
    strict None e = absurd (true≢false (sym e))
    strict (Some b) e = strict_one a b e

    words : (t : Option Said) → is_apart a t ≡ true → is_by_words a.form ≡ true
    words None e = absurd (true≢false (sym e))
    words (Some b) e = by_words a.form a.words b.words (left_out a b e)
