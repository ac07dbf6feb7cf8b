-- A pattern of two parts fits the texts that can be cut for them.
use Rattle.std.proofs.Common.{◌≡◌, ℕ, Bool, true, false, ◌&&◌, List, ◌∷◌, [], ◌++◌, refl, sym, ◌∙◌, ap, inl, inr, append_assoc, ◌⊎◌}
use Rattle.std.proofs.lemmas.Bool.{false≢true, or_cases, or_right, and_parts}
use Rattle.text_core.specs.Fits.{fits, some_suffix, Splits}
use Rattle.text_core.specs.Items.{takes}
use Rattle.text_core.specs.declared.item.Item.{Item}
use Rattle.text_core.specs.declared.item.Item.TheVariants.{Byte, One, Many, Among}
use Rattle.text_core.proofs.Suffixes.{IsSingle, fits_single, fits_single_end, some_suffix_prefix}

both : (a b : Bool) → a ≡ true → b ≡ true → (a && b) ≡ true
both a b e f = ap (λ (v : Bool). v && b) e ∙ f

-- if some suffix passes, there is a cut with that suffix after it
pub suffix_cut : (p : List ℕ → Bool) (t : List ℕ) → some_suffix p t ≡ true → Splits (λ _. true) p t
suffix_cut p [] e = record { prefix = []; back = []; whole = refl; first_passes = refl; second_passes = e }
suffix_cut p (b ∷ t) e = by_place (or_cases (p (b ∷ t)) (some_suffix p t) e) (suffix_cut p t) where
  by_place : (p (b ∷ t) ≡ true) ⊎ (some_suffix p t ≡ true) → (some_suffix p t ≡ true → Splits (λ _. true) p t) → Splits (λ _. true) p (b ∷ t)
  by_place (inl h) again = record { prefix = []; back = b ∷ t; whole = refl; first_passes = refl; second_passes = h }
  by_place (inr h) again =
      let s = again h in
      record { prefix = b ∷ s.prefix; back = s.back; whole = ap (λ (u : List ℕ). b ∷ u) s.whole; first_passes = refl; second_passes = s.second_passes }

pub cut_suffix : (p : List ℕ → Bool) (prefix back : List ℕ) → p back ≡ true → some_suffix p (prefix ++ back) ≡ true
cut_suffix p [] back e = some_suffix_prefix p back e
cut_suffix p (b ∷ prefix) back e = or_right (p (b ∷ (prefix ++ back))) (some_suffix p (prefix ++ back)) (cut_suffix p prefix back e)

-- from the whole to the parts
single_parts : (x : Item) (p q : List Item) (t : List ℕ) → IsSingle x → ((u : List ℕ) → fits (p ++ q) u ≡ true → Splits (fits p) (fits q) u)
    → fits (x ∷ (p ++ q)) t ≡ true → Splits (fits (x ∷ p)) (fits q) t
single_parts x p q [] s again e = absurd (false≢true (sym (fits_single_end x (p ++ q) s) ∙ e))
single_parts x p q (b ∷ t) s again e =
    let parts = and_parts (takes x b) (fits (p ++ q) t) (sym (fits_single x (p ++ q) b t s) ∙ e) in
    let rest : Splits (fits p) (fits q) t = again t parts.1 in
    record {
      prefix = b ∷ rest.prefix;
      back = rest.back;
      whole = ap (λ (u : List ℕ). b ∷ u) rest.whole;
      first_passes = fits_single x p b rest.prefix s ∙ both (takes x b) (fits p rest.prefix) parts.0 rest.first_passes;
      second_passes = rest.second_passes;
    }

many_parts : (p q : List Item) (t : List ℕ) → ((u : List ℕ) → fits (p ++ q) u ≡ true → Splits (fits p) (fits q) u)
    → some_suffix (fits (p ++ q)) t ≡ true → Splits (fits (Many ∷ p)) (fits q) t
many_parts p q t again e =
    let cut : Splits (λ _. true) (fits (p ++ q)) t = suffix_cut (fits (p ++ q)) t e in
    let rest : Splits (fits p) (fits q) cut.back = again cut.back cut.second_passes in
    record {
      prefix = cut.prefix ++ rest.prefix;
      back = rest.back;
      whole = cut.whole ∙ ap (λ (u : List ℕ). cut.prefix ++ u) rest.whole ∙ sym (append_assoc cut.prefix rest.prefix rest.back);
      first_passes = cut_suffix (fits p) cut.prefix rest.prefix rest.first_passes;
      second_passes = rest.second_passes;
    }

pub whole_parts : (p q : List Item) (t : List ℕ) → fits (p ++ q) t ≡ true → Splits (fits p) (fits q) t
whole_parts [] q t e = record { prefix = []; back = t; whole = refl; first_passes = refl; second_passes = e }
whole_parts (Many ∷ p) q t e = many_parts p q t (whole_parts p q) e
whole_parts (Byte c ∷ p) q t e = single_parts (Byte c) p q t tt (whole_parts p q) e
whole_parts (One ∷ p) q t e = single_parts One p q t tt (whole_parts p q) e
whole_parts (Among set ∷ p) q t e = single_parts (Among set) p q t tt (whole_parts p q) e

-- from the parts to the whole
single_whole : (x : Item) (p q : List Item) (prefix back : List ℕ) → IsSingle x → ((u : List ℕ) → fits p u ≡ true → fits (p ++ q) (u ++ back) ≡ true)
    → fits (x ∷ p) prefix ≡ true → fits (x ∷ (p ++ q)) (prefix ++ back) ≡ true
single_whole x p q [] back s again e = absurd (false≢true (sym (fits_single_end x p s) ∙ e))
single_whole x p q (b ∷ prefix) back s again e =
    let parts = and_parts (takes x b) (fits p prefix) (sym (fits_single x p b prefix s) ∙ e) in
    fits_single x (p ++ q) b (prefix ++ back) s ∙ both (takes x b) (fits (p ++ q) (prefix ++ back)) parts.0 (again prefix parts.1)

many_whole : (p q : List Item) (prefix back : List ℕ) → ((u : List ℕ) → fits p u ≡ true → fits (p ++ q) (u ++ back) ≡ true)
    → some_suffix (fits p) prefix ≡ true → some_suffix (fits (p ++ q)) (prefix ++ back) ≡ true
many_whole p q prefix back again e =
    let cut : Splits (λ _. true) (fits p) prefix = suffix_cut (fits p) prefix e in
    let there : some_suffix (fits (p ++ q)) (cut.prefix ++ (cut.back ++ back)) ≡ true = cut_suffix (fits (p ++ q)) cut.prefix (cut.back ++ back) (again cut.back cut.second_passes) in
    ap (λ (u : List ℕ). some_suffix (fits (p ++ q)) u) (ap (λ (u : List ℕ). u ++ back) cut.whole ∙ append_assoc cut.prefix cut.back back) ∙ there

pub parts_whole : (p q : List Item) (prefix back : List ℕ) → fits q back ≡ true → fits p prefix ≡ true → fits (p ++ q) (prefix ++ back) ≡ true
parts_whole [] q [] back following e = following
parts_whole [] q (b ∷ prefix) back following e = absurd (false≢true e)
parts_whole (Many ∷ p) q prefix back following e = many_whole p q prefix back (λ u. parts_whole p q u back following) e
parts_whole (Byte c ∷ p) q prefix back following e = single_whole (Byte c) p q prefix back tt (λ u. parts_whole p q u back following) e
parts_whole (One ∷ p) q prefix back following e = single_whole One p q prefix back tt (λ u. parts_whole p q u back following) e
parts_whole (Among set ∷ p) q prefix back following e = single_whole (Among set) p q prefix back tt (λ u. parts_whole p q u back following) e

pub any_fits : (t : List ℕ) → some_suffix (fits []) t ≡ true
any_fits [] = refl
any_fits (b ∷ t) = any_fits t

-- a text of one byte
pub one_byte : (x : Item) (t : List ℕ) → IsSingle x → fits (x ∷ []) t ≡ true → (b : ℕ) × (t ≡ b ∷ []) × (takes x b ≡ true)
one_byte x [] s e = absurd (false≢true (sym (fits_single_end x [] s) ∙ e))
one_byte x (b ∷ []) s e = (b, refl, (and_parts (takes x b) true (sym (fits_single x [] b [] s) ∙ e)).0)
one_byte x (b ∷ c ∷ t) s e = absurd (false≢true ((and_parts (takes x b) false (sym (fits_single x [] b (c ∷ t) s) ∙ e)).1))

pub byte_fits : (x : Item) (b : ℕ) → IsSingle x → takes x b ≡ true → fits (x ∷ []) (b ∷ []) ≡ true
byte_fits x b s e = fits_single x [] b [] s ∙ both (takes x b) true e refl
