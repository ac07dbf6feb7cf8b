-- What fits at a later place of a text.
use Rattle.std.proofs.Common.{◌≡◌, ℕ, Bool, true, false, ◌||◌, ◌&&◌, List, ◌∷◌, [], refl, sym, ◌∙◌, ap, inl, inr}
use Rattle.std.proofs.lemmas.Bool.{false≢true, or_cases, or_left, or_right, and_parts}
use Rattle.text_core.specs.Items.{takes}
use Rattle.text_core.specs.Fits.{fits, some_suffix}
use Rattle.text_core.specs.declared.item.Item.{Item}
use Rattle.text_core.specs.declared.item.Item.TheVariants.{Byte, One, Many, Among}

-- whether some suffix but the text itself passes a test
abbrev pub later : (List ℕ → Bool) → List ℕ → Bool
later p [] = false
later p (b ∷ t) = some_suffix p t

pub or_again : (a b : Bool) → (a || b) || b ≡ a || b
or_again true b = refl
or_again false true = refl
or_again false false = refl

-- here, or later
pub some_suffix-split : (p : List ℕ → Bool) (t : List ℕ) → some_suffix p t ≡ p t || later p t
some_suffix-split p [] = elim (p []) as (λ v. v ≡ v || false) [ true ↦ refl | false ↦ refl ]
some_suffix-split p (b ∷ t) = refl

-- a suffix of a suffix is a suffix
pub some_suffix_twice : (p : List ℕ → Bool) (t : List ℕ) → some_suffix (some_suffix p) t ≡ some_suffix p t
some_suffix_twice p [] = refl
some_suffix_twice p (b ∷ t) =
    ap (λ v. (p (b ∷ t) || some_suffix p t) || v) (some_suffix_twice p t) ∙ or_again (p (b ∷ t)) (some_suffix p t)

pub later_twice : (p : List ℕ → Bool) (t : List ℕ) → later (some_suffix p) t ≡ true → some_suffix p t ≡ true
later_twice p [] e = absurd (false≢true e)
later_twice p (b ∷ t) e = or_right (p (b ∷ t)) (some_suffix p t) (sym (some_suffix_twice p t) ∙ e)

-- an item that takes one byte
abbrev pub IsSingle : Item → Type 0
IsSingle Many = ⊥
IsSingle x = Unit {0}

pub fits_single : (x : Item) (items : List Item) (b : ℕ) (t : List ℕ) → IsSingle x → fits (x ∷ items) (b ∷ t) ≡ (takes x b && fits items t)
fits_single (Byte c) items b t s = refl
fits_single One items b t s = refl
fits_single Many items b t s = absurd s
fits_single (Among set) items b t s = refl

pub fits_single_end : (x : Item) (items : List Item) → IsSingle x → fits (x ∷ items) [] ≡ false
fits_single_end (Byte c) items s = refl
fits_single_end One items s = refl
fits_single_end Many items s = absurd s
fits_single_end (Among set) items s = refl

later_in_all : (p : List ℕ → Bool) (t : List ℕ) → later p t ≡ true → some_suffix p t ≡ true
later_in_all p t e = some_suffix-split p t ∙ or_right (p t) (later p t) e

pub some_suffix_prefix : (p : List ℕ → Bool) (t : List ℕ) → p t ≡ true → some_suffix p t ≡ true
some_suffix_prefix p [] e = e
some_suffix_prefix p (b ∷ t) e = or_left (p (b ∷ t)) (some_suffix p t) e

-- what fits later from one item on fits later from the next, one byte further
pub later_step : (x : Item) (items : List Item) (b : ℕ) (t : List ℕ) → IsSingle x
    → later (fits (x ∷ items)) (b ∷ t) ≡ true → later (fits items) t ≡ true
later_step x items b [] s e = absurd (false≢true (sym (fits_single_end x items s) ∙ e))
later_step x items b (c ∷ t) s e =
    elim (or_cases (fits (x ∷ items) (c ∷ t)) (some_suffix (fits (x ∷ items)) t) e) [
      | inl h ↦ some_suffix_prefix (fits items) t (and_parts (takes x c) (fits items t) (sym (fits_single x items c t s) ∙ h)).1
      | inr h ↦ later_in_all (fits items) t (later_step x items c t s h)
    ]

or_implied : (a b : Bool) → (b ≡ true → a ≡ true) → (a || b) ≡ a
or_implied true b h = refl
or_implied false true h = sym (h refl)
or_implied false false h = refl

-- at a Many, what is left decides for each suffix of the text
pub many_decides : (items : List Item) (t : List ℕ) (after : List Item) (rest : List ℕ)
    → fits items t ≡ fits (Many ∷ after) rest
    → (later (fits items) t ≡ true → later (fits (Many ∷ after)) rest ≡ true)
    → some_suffix (fits items) t ≡ some_suffix (fits after) rest
many_decides items t after rest now far =
    some_suffix-split (fits items) t ∙ or_implied (fits items t) (later (fits items) t) (λ h. now ∙ later_twice (fits after) rest (far h)) ∙ now

pub single_from : (x : Item) → (x ≡ Many → ⊥) → IsSingle x
single_from (Byte c) h = tt
single_from One h = tt
single_from Many h = h refl
single_from (Among set) h = tt

-- the next item is a Many
pub at_many : (p : List Item) (t : List ℕ) (items : List Item) (text : List ℕ) (x : Item) (after : List Item)
    → fits p t ≡ fits items text → (later (fits p) t ≡ true → later (fits items) text ≡ true)
    → items ≡ x ∷ after → x ≡ Many
    → (fits p t ≡ some_suffix (fits after) text) × (some_suffix (fits p) t ≡ some_suffix (fits after) text)
at_many p t items text x after now far e m =
    let whole : items ≡ Many ∷ after = e ∙ ap (λ (y : Item). y ∷ after) m in
    let here : fits p t ≡ fits (Many ∷ after) text = now ∙ ap (λ (y : List Item). fits y text) whole in
    (here, many_decides p t after text here (λ h. sym (ap (λ (y : List Item). later (fits y) text) whole) ∙ far h))

-- an item took its byte
pub after_single : (items : List Item) (text : List ℕ) (x : Item) (after : List Item) (b : ℕ) (more : List ℕ)
    → items ≡ x ∷ after → text ≡ b ∷ more → (x ≡ Many → ⊥) → takes x b ≡ true
    → (fits items text ≡ fits after more) × (later (fits items) text ≡ true → later (fits after) more ≡ true)
after_single items text x after b more e f m taken =
    let single : IsSingle x = single_from x m in
    let here : fits items text ≡ fits (x ∷ after) (b ∷ more) = cc in
    let step : fits (x ∷ after) (b ∷ more) ≡ (takes x b && fits after more) = fits_single x after b more single in
    let done : (takes x b && fits after more) ≡ fits after more = ap (λ v. v && fits after more) taken in
    let there : later (fits items) text ≡ later (fits (x ∷ after)) (b ∷ more) = cc in
    (here ∙ step ∙ done, λ h. later_step x after b more single (sym there ∙ h))

-- an item did not take its byte, or there is no byte
pub refused : (items : List Item) (text : List ℕ) (x : Item) (after : List Item) (b : ℕ) (more : List ℕ)
    → items ≡ x ∷ after → text ≡ b ∷ more → (x ≡ Many → ⊥) → takes x b ≡ false → fits items text ≡ false
refused items text x after b more e f m taken =
    let here : fits items text ≡ fits (x ∷ after) (b ∷ more) = cc in
    here ∙ fits_single x after b more (single_from x m) ∙ ap (λ v. v && fits after more) taken
