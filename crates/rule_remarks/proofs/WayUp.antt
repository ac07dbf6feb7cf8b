-- `../` in a text.
use Rattle.std.proofs.Common.{◌≡◌, ℕ, true, List, [], ◌∷◌, ◌++◌, drop, refl, ap, ◌∙◌, ◌↔◌, codes, nat_eq, inl, inr, ◌⊎◌}
use Rattle.std.specs.List.{starts_with}
use Rattle.std.proofs.lemmas.Bool.{or_cases, or_right, false≢true}
use Rattle.std.proofs.lemmas.Bool.Decides.{Decides-eqb}
use Rattle.std.proofs.lemmas.Slice.Eq.{starts_is}
use Rattle.rule_remarks.specs.Attributes.{has_way_up}
use Rattle.rule_remarks.specs.Laws.{HasWayUp}

found : (text : List ℕ) → has_way_up text ≡ true → HasWayUp text
found [] h = absurd (false≢true h)
found (b ∷ text) h = by (or_cases (starts_with nat_eq (b ∷ text) (codes "../")) (has_way_up text) h) (λ g. found text g)
  where
    by : (starts_with nat_eq (b ∷ text) (codes "../") ≡ true) ⊎ (has_way_up text ≡ true) → (has_way_up text ≡ true → HasWayUp text) → HasWayUp (b ∷ text)
    by (inl e) more = record { prefix = []; following = drop 3 (b ∷ text); whole = (starts_is Decides-eqb (b ∷ text) (codes "../") _ refl).0 e }
    by (inr e) more =
        let rest = more e in
        record { prefix = b ∷ rest.prefix; following = rest.following; whole = ap (λ (t : List ℕ). b ∷ t) rest.whole }

is_present : (prefix following : List ℕ) → has_way_up (prefix ++ (codes "../" ++ following)) ≡ true
is_present [] following = refl
is_present (b ∷ prefix) following =
    or_right (starts_with nat_eq (b ∷ (prefix ++ (codes "../" ++ following))) (codes "../")) (has_way_up (prefix ++ (codes "../" ++ following))) (is_present prefix following)

pub ways_up : (text : List ℕ) → (has_way_up text ≡ true) ↔ HasWayUp text
ways_up text = (λ h. found text h, λ w. ap has_way_up w.whole ∙ is_present w.prefix w.following)
