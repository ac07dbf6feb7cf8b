-- The texts up to and including the first faulty one.
use Rattle.std.proofs.Common.{◌≡◌, ◌≤◌, ◌↔◌, ◌⊎◌, inl, inr, ℕ, suc, Bool, true, false, cond, List, [], ◌∷◌, ◌++◌, length, refl, ap, sym, ◌∙◌, subst, arith}
use Rattle.std.specs.Prelude.{All}
use Rattle.std.proofs.lemmas.Bool.Decides.{nat_tests}
use Rattle.std.proofs.lemmas.List.Elements.{All-nil, All-cons}
use Rattle.device_core.specs.Runs.{runs}
use Rattle.device_core.specs.RunBlocks.{up_to_faulty, blocks_of, is_too_long, most_bytes, FindsAll, FindsFaulty}

-- none of the texts is faulty
abbrev pub NoneFaulty : (List ℕ → Bool) → List (List ℕ) → Type 0
NoneFaulty is_faulty texts = All (λ text. is_faulty text ≡ false) texts

pub none : (is_faulty : List ℕ → Bool) → NoneFaulty is_faulty []
none is_faulty = All-nil (λ text. is_faulty text ≡ false)

pub one_more : (is_faulty : List ℕ → Bool) (text : List ℕ) (texts : List (List ℕ)) → is_faulty text ≡ false → NoneFaulty is_faulty texts → NoneFaulty is_faulty (text ∷ texts)
one_more is_faulty text texts e h = All-cons (λ text. is_faulty text ≡ false) text texts e h

first_is : (is_faulty : List ℕ → Bool) (text : List ℕ) (texts : List (List ℕ)) → NoneFaulty is_faulty (text ∷ texts) → is_faulty text ≡ false
first_is is_faulty text texts h = h 0 text (omega arith)

others_are : (is_faulty : List ℕ → Bool) (text : List ℕ) (texts : List (List ℕ)) → NoneFaulty is_faulty (text ∷ texts) → NoneFaulty is_faulty texts
others_are is_faulty text texts h = λ k d l. h (suc k) d (omega arith)

-- all of them, or those up to a faulty one
abbrev pub Finds : (List ℕ → Bool) → List (List ℕ) → List (List ℕ) → Type 0
Finds is_faulty texts found = FindsAll is_faulty texts found ⊎ FindsFaulty is_faulty texts found

-- one more text in front, which is not faulty
finds_after : (is_faulty : List ℕ → Bool) (text : List ℕ) (texts found : List (List ℕ)) → is_faulty text ≡ false → Finds is_faulty texts found → Finds is_faulty (text ∷ texts) (text ∷ found)
finds_after is_faulty text texts found e h = elim h [
  | inl all ↦ inl (record { none = one_more is_faulty text texts e all.none; all = ap (λ l. text ∷ l) all.all })
  | inr some ↦ inr (record {
    before = text ∷ some.before;
    faulty = some.faulty;
    following = some.following;
    texts_are = ap (λ l. text ∷ l) some.texts_are;
    none = one_more is_faulty text some.before e some.none;
    is = some.is;
    found_are = ap (λ l. text ∷ l) some.found_are;
  })
]

finds_by : (is_faulty : List ℕ → Bool) (text : List ℕ) (texts : List (List ℕ)) (faulty : Bool) → is_faulty text ≡ faulty → Finds is_faulty texts (up_to_faulty is_faulty texts)
    → Finds is_faulty (text ∷ texts) (text ∷ cond faulty [] (up_to_faulty is_faulty texts))
finds_by is_faulty text texts true e h = inr (record { before = []; faulty = text; following = texts; texts_are = refl; none = none is_faulty; is = e; found_are = refl })
finds_by is_faulty text texts false e h = finds_after is_faulty text texts (up_to_faulty is_faulty texts) e h

finds : (is_faulty : List ℕ → Bool) (texts : List (List ℕ)) → Finds is_faulty texts (up_to_faulty is_faulty texts)
finds is_faulty [] = inl (record { none = none is_faulty; all = refl })
finds is_faulty (text ∷ texts) = finds_by is_faulty text texts (is_faulty text) refl (finds is_faulty texts)

-- texts that are not faulty are skipped
pub past_good : (is_faulty : List ℕ → Bool) (good texts : List (List ℕ)) → NoneFaulty is_faulty good → up_to_faulty is_faulty (good ++ texts) ≡ good ++ up_to_faulty is_faulty texts
past_good is_faulty [] texts h = refl
past_good is_faulty (text ∷ good) texts h =
    let here : is_faulty text ≡ false = first_is is_faulty text good h in
    rw here (ap (λ l. text ∷ l) (past_good is_faulty good texts (others_are is_faulty text good h)))

pub all_good : (is_faulty : List ℕ → Bool) (texts : List (List ℕ)) → NoneFaulty is_faulty texts → up_to_faulty is_faulty texts ≡ texts
all_good is_faulty [] h = refl
all_good is_faulty (text ∷ texts) h =
    let here : is_faulty text ≡ false = first_is is_faulty text texts h in
    rw here (ap (λ l. text ∷ l) (all_good is_faulty texts (others_are is_faulty text texts h)))

found_is : (is_faulty : List ℕ → Bool) (texts found : List (List ℕ)) → Finds is_faulty texts found → found ≡ up_to_faulty is_faulty texts
found_is is_faulty texts found h = elim h [
  | inl all ↦ all.all ∙ sym (all_good is_faulty texts all.none)
  | inr some ↦ some.found_are
      ∙ sym (ap (up_to_faulty is_faulty) some.texts_are ∙ past_good is_faulty some.before (some.faulty ∷ some.following) some.none
      ∙ ap (λ b. some.before ++ some.faulty ∷ cond b [] (up_to_faulty is_faulty some.following)) some.is)
]

pub finds_blocks : (is_faulty : List ℕ → Bool) (input : List ℕ) (found : List (List ℕ)) → (found ≡ blocks_of is_faulty input) ↔ (FindsAll is_faulty (runs input) found ⊎ FindsFaulty is_faulty (runs input) found)
finds_blocks is_faulty input found = (λ e. subst (Finds is_faulty (runs input)) (sym e) (finds is_faulty (runs input)), found_is is_faulty (runs input) found)

sooner_by : (is_faulty : List ℕ → Bool) (texts : List (List ℕ)) (first second : Bool) → (second ≡ true → first ≡ true) → up_to_faulty is_faulty texts ≡ up_to_faulty is_faulty (up_to_faulty is_too_long texts)
    → cond first [] (up_to_faulty is_faulty texts) ≡ cond first [] (up_to_faulty is_faulty (cond second [] (up_to_faulty is_too_long texts)))
sooner_by is_faulty texts true second h e = refl
sooner_by is_faulty texts false true h e = let both : false ≡ true = h refl in absurd cc
sooner_by is_faulty texts false false h e = e

sooner : (is_faulty : List ℕ → Bool) → ((run : List ℕ) → is_too_long run ≡ true → is_faulty run ≡ true) → (texts : List (List ℕ)) → up_to_faulty is_faulty texts ≡ up_to_faulty is_faulty (up_to_faulty is_too_long texts)
sooner is_faulty h [] = refl
sooner is_faulty h (text ∷ texts) = ap (λ l. text ∷ l) (sooner_by is_faulty texts (is_faulty text) (is_too_long text) (h text) (sooner is_faulty h texts))

pub blocks_end_sooner : (is_faulty : List ℕ → Bool) → ((run : List ℕ) → is_too_long run ≡ true → is_faulty run ≡ true) → (input : List ℕ) → blocks_of is_faulty input ≡ up_to_faulty is_faulty (blocks_of is_too_long input)
blocks_end_sooner is_faulty h input = sooner is_faulty h (runs input)

-- a run that fits is not too long
pub fits_is_good : (run : List ℕ) → length run ≤ most_bytes → is_too_long run ≡ false
fits_is_good run h = grind (arith, nat_tests)
