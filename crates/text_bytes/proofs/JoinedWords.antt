-- The words of a text, byte by byte.
use Rattle.std.proofs.Common.{◌≡◌, ℕ, Bool, true, false, not, ◌&&◌, cond, if◌then◌else◌, List, [], ◌∷◌, ◌++◌, filter, refl, sym, ap, ◌∙◌, append_assoc}
use Rattle.std.proofs.lemmas.List.{append-nil}
use Rattle.std.specs.List.{join_with_byte, onto_first, slice_split}
use Rattle.text_bytes.specs.Names.{underscore, is_whitespace}
use Rattle.text_bytes.specs.Texts.{is_empty}
use Rattle.text_bytes.specs.Steps.{added, further, with_byte, within}
use Rattle.text_bytes.specs.Underscores.{underscored, words}

-- words joined: the first, and each further one after `_`
joined_further : (word : List ℕ) (ws : List (List ℕ)) → join_with_byte underscore (word ∷ ws) ≡ word ++ further ws
joined_further word [] = sym (append-nil word)
joined_further word (next ∷ ws) = ap (λ t. word ++ (underscore ∷ t)) (joined_further next ws)

-- the cut of a text, as its first part and the others
abbrev pub beginning : List (List ℕ) → List ℕ
beginning [] = []
beginning (p ∷ ps) = p

abbrev pub others : List (List ℕ) → List (List ℕ)
others [] = []
others (p ∷ ps) = ps

abbrev pub kept : List (List ℕ) → List (List ℕ)
kept ps = filter (λ word. not (is_empty word)) ps

-- a word that goes on takes the first part, and the others follow it
within_is : (t : List ℕ) → within t ≡ beginning (slice_split is_whitespace t) ++ further (kept (others (slice_split is_whitespace t)))
within_is [] = refl
within_is (b ∷ t) = go (is_whitespace b) (slice_split is_whitespace t) (within_is t)
  where
    go : (w : Bool) (ps : List (List ℕ)) → within t ≡ beginning ps ++ further (kept (others ps))
        → (if w then further (kept (slice_split is_whitespace t)) else b ∷ within t) ≡ beginning (cond w ([] ∷ slice_split is_whitespace t) (onto_first b ps)) ++ further (kept (others (cond w ([] ∷ slice_split is_whitespace t) (onto_first b ps))))
    go true ps e = refl
    go false [] e = ap (λ u. b ∷ u) e
    go false (p ∷ ps) e = ap (λ u. b ∷ u) e

-- a byte that is not whitespace begins a word
pub words_begin : (b : ℕ) (t : List ℕ) → kept (onto_first b (slice_split is_whitespace t)) ≡ (b ∷ beginning (slice_split is_whitespace t)) ∷ kept (others (slice_split is_whitespace t))
words_begin b t = go (slice_split is_whitespace t)
  where
    go : (ps : List (List ℕ)) → kept (onto_first b ps) ≡ (b ∷ beginning ps) ∷ kept (others ps)
    go [] = refl
    go (p ∷ ps) = refl

-- at its start a text adds all its words
pub added_first : (gap : Bool) (t : List ℕ) → added true gap t ≡ underscored t
unfolding underscored
added_first gap [] = refl
added_first gap (b ∷ t) = go (is_whitespace b) (added_first gap t)
  where
    go : (w : Bool) → added true gap t ≡ join_with_byte underscore (words t)
        → (if w then added true gap t else b ∷ within t) ≡ join_with_byte underscore (kept (cond w ([] ∷ slice_split is_whitespace t) (onto_first b (slice_split is_whitespace t))))
    go true e = e
    go false e =
        ap (λ u. b ∷ u) (within_is t)
        ∙ sym (joined_further (b ∷ beginning (slice_split is_whitespace t)) (kept (others (slice_split is_whitespace t))))
        ∙ ap (join_with_byte underscore) (sym (words_begin b t))

-- what a text adds after whitespace, by its first byte
added_gap : (b : ℕ) (t : List ℕ) (w : Bool) → is_whitespace b ≡ w → further (words (b ∷ t)) ≡ (if w then further (words t) else underscore ∷ b ∷ within t)
added_gap b t w e = go (is_whitespace b) w e
  where
    go : (v w : Bool) → v ≡ w → further (kept (cond v ([] ∷ slice_split is_whitespace t) (onto_first b (slice_split is_whitespace t)))) ≡ (if w then further (words t) else underscore ∷ b ∷ within t)
    go true true e = refl
    go true false e = absurd (cc)
    go false true e = absurd (cc)
    go false false e = ap further (words_begin b t) ∙ ap (λ u. underscore ∷ b ∷ u) (sym (within_is t))

-- one byte of what is left goes over to the word
pub byte_passes : (word : List ℕ) (gap : Bool) (b : ℕ) (t : List ℕ)
    → word ++ added (is_empty word) gap (b ∷ t) ≡ with_byte word gap b ++ added (is_empty (with_byte word gap b)) (is_whitespace b) t
byte_passes word gap b t = go word gap (is_whitespace b) refl
  where
    over : (gap w : Bool) (word : List ℕ) → List ℕ
    over gap w word = if w then word else (if gap && not (is_empty word) then word ++ underscore ∷ [] else word) ++ b ∷ []

    go : (word : List ℕ) (gap w : Bool) → is_whitespace b ≡ w → word ++ added (is_empty word) gap (b ∷ t) ≡ over gap w word ++ added (is_empty (over gap w word)) w t
    go [] gap true e = ap (λ v. if v then added true gap t else b ∷ within t) e ∙ added_first gap t ∙ sym (added_first true t)
    go [] true false e = ap (λ v. if v then added true true t else b ∷ within t) e
    go [] false false e = ap (λ v. if v then added true false t else b ∷ within t) e
    go (x ∷ word) true true e = ap (λ u. (x ∷ word) ++ u) (added_gap b t true e)
    go (x ∷ word) false true e = ap (λ v. (x ∷ word) ++ (if v then further (words t) else b ∷ within t)) e
    go (x ∷ word) true false e =
        ap (λ u. (x ∷ word) ++ u) (added_gap b t false e)
        ∙ sym (append_assoc ((x ∷ word) ++ underscore ∷ []) (b ∷ []) (within t) ∙ append_assoc (x ∷ word) (underscore ∷ []) (b ∷ within t))
    go (x ∷ word) false false e =
        ap (λ v. (x ∷ word) ++ (if v then further (words t) else b ∷ within t)) e
        ∙ sym (append_assoc (x ∷ word) (b ∷ []) (within t))

-- if nothing is left, nothing is added
pub nothing_added : (first gap : Bool) → added first gap [] ≡ []
nothing_added true gap = refl
nothing_added false true = refl
nothing_added false false = refl

-- a word is whole if nothing is left
pub all_added : (word : List ℕ) (gap : Bool) → word ++ added (is_empty word) gap [] ≡ word
all_added word gap = ap (λ more. word ++ more) (nothing_added (is_empty word) gap) ∙ append-nil word
