-- What is found among texts and names after one is added or removed.
use Rattle.std.proofs.Common.{◌≡◌, Bool, true, false, List, [], ◌∷◌, ◌++◌, ◌||◌, ◌&&◌, not, Option, Some, None, is_some, cond, refl, ap, sym, ◌∙◌, true≢false}
use Rattle.std.specs.Cmp.Lexicographic.{bytes_decides}
use Rattle.text_bytes.specs.Text.{Text}
use Rattle.text_tables.specs.Texts.{same_text, is_among, with_text, without_text}
use Rattle.text_tables.specs.Pairs.{names, named, value_of, with_value, without_name}

is_same : (a b : Text) → same_text a b ≡ true → a ≡ b
is_same a b h = (bytes_decides a b).0 h

are_same : (a b : Text) → a ≡ b → same_text a b ≡ true
are_same a b h = (bytes_decides a b).1 h

or_false : (a : Bool) → (a || false) ≡ a
or_false true = refl
or_false false = refl

or_more : (a b c d : Bool) → b ≡ (c || d) → (a || b) ≡ ((a || c) || d)
or_more true b c d h = refl
or_more false b c d h = h

or_there : (a b : Bool) → (a ≡ true → b ≡ true) → b ≡ (b || a)
or_there a true h = refl
or_there true false h = h refl
or_there false false h = refl

among_after : (texts : List Text) (text other : Text) → is_among (texts ++ text ∷ []) other ≡ (is_among texts other || same_text other text)
among_after [] text other = or_false (same_text other text)
among_after (t ∷ ts) text other = or_more (same_text other t) _ _ _ (among_after ts text other)

-- what was added is there, and so is what was there before
pub among_added : (texts : List Text) (text other : Text) → is_among (with_text texts text) other ≡ (is_among texts other || same_text other text)
among_added texts text other = by (is_among texts text) refl
  where
    by : (b : Bool) → is_among texts text ≡ b → is_among (cond b texts (texts ++ text ∷ [])) other ≡ (is_among texts other || same_text other text)
    by true h = or_there (same_text other text) (is_among texts other) (λ e. ap (is_among texts) (is_same other text e) ∙ h)
    by false h = among_after texts text other

-- a text that is new follows the others
pub text_after : (texts : List Text) (text : Text) → is_among texts text ≡ false → with_text texts text ≡ texts ++ text ∷ []
text_after texts text new = ap (λ b. cond b texts (texts ++ text ∷ [])) new

-- a text that is there changes nothing
pub text_there : (texts : List Text) (text : Text) → is_among texts text ≡ true → with_text texts text ≡ texts
text_there texts text there = ap (λ b. cond b texts (texts ++ text ∷ [])) there

gone : (texts : List Text) (text : Text) → is_among (without_text texts text) text ≡ false
gone [] text = refl
gone (t ∷ ts) text = by (same_text text t) refl (gone ts text)
  where
    by : (b : Bool) → same_text text t ≡ b → is_among (without_text ts text) text ≡ false → is_among (cond (not b) (t ∷ without_text ts text) (without_text ts text)) text ≡ false
    by true e more = more
    by false e more = ap (λ b. b || is_among (without_text ts text) text) e ∙ more

kept : (texts : List Text) (text other : Text) → same_text other text ≡ false → is_among (without_text texts text) other ≡ is_among texts other
kept [] text other h = refl
kept (t ∷ ts) text other h = by (same_text text t) refl (kept ts text other h)
  where
    by : (b : Bool) → same_text text t ≡ b → is_among (without_text ts text) other ≡ is_among ts other → is_among (cond (not b) (t ∷ without_text ts text) (without_text ts text)) other ≡ (same_text other t || is_among ts other)
    by true e more = more ∙ ap (λ b. b || is_among ts other) (sym h ∙ ap (same_text other) (is_same text t e))
    by false e more = ap (λ b. same_text other t || b) more

-- what was removed is not there, and everything else is
pub among_removed : (texts : List Text) (text other : Text) → is_among (without_text texts text) other ≡ (not (same_text other text) && is_among texts other)
among_removed texts text other = by (same_text other text) refl
  where
    by : (b : Bool) → same_text other text ≡ b → is_among (without_text texts text) other ≡ (not b && is_among texts other)
    by true e = ap (is_among (without_text texts text)) (is_same other text e) ∙ gone texts text
    by false e = kept texts text other e

module _ {V : Type 0} where
  -- a name that was set has its value, and other names keep theirs
  pub value_set : (pairs : List (Text × V)) (name : Text) (value : V) (other : Text) → value_of (with_value pairs name value) other ≡ cond (same_text other name) (Some value) (value_of pairs other)
  value_set [] name value other = refl
  value_set (p ∷ ps) name value other = by (same_text name p.0) refl (value_set ps name value other)
    where
      twice : (b : Bool) → cond b (Some value) (value_of ps other) ≡ cond b (Some value) (cond b (Some p.1) (value_of ps other))
      twice true = refl
      twice false = refl

      apart : (b c : Bool) → (b ≡ true → c ≡ true → true ≡ false) → (r : Option V) → r ≡ cond b (Some value) (value_of ps other) → cond c (Some p.1) r ≡ cond b (Some value) (cond c (Some p.1) (value_of ps other))
      apart true true both r h = absurd (true≢false (both refl refl))
      apart true false both r h = h
      apart false true both r h = refl
      apart false false both r h = h

      by : (b : Bool) → same_text name p.0 ≡ b → value_of (with_value ps name value) other ≡ cond (same_text other name) (Some value) (value_of ps other)
          → value_of (cond b ((p.0, value) ∷ ps) (p ∷ with_value ps name value)) other ≡ cond (same_text other name) (Some value) (cond (same_text other p.0) (Some p.1) (value_of ps other))
      by true e more = twice (same_text other p.0) ∙ ap (λ n. cond (same_text other n) (Some value) (cond (same_text other p.0) (Some p.1) (value_of ps other))) (sym (is_same name p.0 e))
      by false e more = apart (same_text other name) (same_text other p.0) (λ x y. sym (are_same name p.0 (sym (is_same other name x) ∙ is_same other p.0 y)) ∙ e) (value_of (with_value ps name value) other) more

  never : (b : Bool) (o : Option V) → o ≡ None → o ≡ cond b None o
  never true o h = h
  never false o h = refl

  -- a name that was removed has no value, and other names keep theirs
  pub value_removed : (pairs : List (Text × V)) (name other : Text) → value_of (without_name pairs name) other ≡ cond (same_text other name) None (value_of pairs other)
  value_removed [] name other = never (same_text other name) None refl
  value_removed (p ∷ ps) name other = by (same_text name p.0) refl (value_removed ps name other)
    where
      twice : (b : Bool) → cond b None (value_of ps other) ≡ cond b None (cond b (Some p.1) (value_of ps other))
      twice true = refl
      twice false = refl

      apart : (b c : Bool) → (b ≡ true → c ≡ true → true ≡ false) → (r : Option V) → r ≡ cond b None (value_of ps other) → cond c (Some p.1) r ≡ cond b None (cond c (Some p.1) (value_of ps other))
      apart true true both r h = absurd (true≢false (both refl refl))
      apart true false both r h = h
      apart false true both r h = refl
      apart false false both r h = h

      by : (b : Bool) → same_text name p.0 ≡ b → value_of (without_name ps name) other ≡ cond (same_text other name) None (value_of ps other)
          → value_of (cond (not b) (p ∷ without_name ps name) (without_name ps name)) other ≡ cond (same_text other name) None (cond (same_text other p.0) (Some p.1) (value_of ps other))
      by true e more = more ∙ ap (λ n. cond (same_text other n) None (value_of ps other)) (is_same name p.0 e) ∙ twice (same_text other p.0) ∙ ap (λ n. cond (same_text other n) None (cond (same_text other p.0) (Some p.1) (value_of ps other))) (sym (is_same name p.0 e))
      by false e more = apart (same_text other name) (same_text other p.0) (λ x y. sym (are_same name p.0 (sym (is_same other name x) ∙ is_same other p.0 y)) ∙ e) (value_of (without_name ps name) other) more

  -- a name that is new follows the others
  pub set_after : (pairs : List (Text × V)) (name : Text) (value : V) → named pairs name ≡ false → with_value pairs name value ≡ pairs ++ (name, value) ∷ []
  set_after [] name value new = refl
  set_after (p ∷ ps) name value new = by (same_text name p.0) new (set_after ps name value)
    where
      by : (b : Bool) → (b || named ps name) ≡ false → (named ps name ≡ false → with_value ps name value ≡ ps ++ (name, value) ∷ []) → cond b ((p.0, value) ∷ ps) (p ∷ with_value ps name value) ≡ p ∷ (ps ++ (name, value) ∷ [])
      by true new more = cc
      by false new more = ap (λ qs. p ∷ qs) (more new)

  -- a name that is there takes another value in its place
  pub set_in_place : (pairs : List (Text × V)) (name : Text) (value : V) → named pairs name ≡ true → names (with_value pairs name value) ≡ names pairs
  set_in_place [] name value there = cc
  set_in_place (p ∷ ps) name value there = by (same_text name p.0) there (set_in_place ps name value)
    where
      by : (b : Bool) → (b || named ps name) ≡ true → (named ps name ≡ true → names (with_value ps name value) ≡ names ps) → names (cond b ((p.0, value) ∷ ps) (p ∷ with_value ps name value)) ≡ p.0 ∷ names ps
      by true there more = refl
      by false there more = ap (λ ns. p.0 ∷ ns) (more there)

  -- a name is there exactly if it has a value
  pub named_is : (pairs : List (Text × V)) (name : Text) → named pairs name ≡ is_some (value_of pairs name)
  named_is [] name = refl
  named_is (p ∷ ps) name = by (same_text name p.0) (named_is ps name)
    where
      by : (b : Bool) → named ps name ≡ is_some (value_of ps name) → (b || named ps name) ≡ is_some (cond b (Some p.1) (value_of ps name))
      by true h = refl
      by false h = h
