use Rattle.std.proofs.Common.{rules, ◌≡◌, ℕ, true, ◌&&◌, List, ◌∷◌, [], map, eqb, refl, ◌∙◌, ap}
use Rattle.std.proofs.lemmas.Bool.{and_parts, eqb-true}
use Rattle.text_core.specs.Fits.{fits}
use Rattle.text_core.specs.Spell.{itself}
use Rattle.text_core.specs.declared.reading.Reading.TheVariants.{Exact}
use Rattle.rule_laws.proofs.udev_patterns.plain_part_fits_its_text_alone.Goals as goal

own_alone : (t u : List ℕ) → fits (map (itself Exact) t) u ≡ true → u ≡ t
own_alone [] [] e = refl
own_alone [] (c ∷ u) e = absurd cc
own_alone (b ∷ t) [] e = absurd cc
own_alone (b ∷ t) (c ∷ u) e =
    let parts = and_parts (eqb b c) (fits (map (itself Exact) t) u) e in
    let same : b ≡ c = eqb-true b c parts.0 in
    let rest : u ≡ t = own_alone t u parts.1 in
    cc (same, rest)

eqb_same : (b : ℕ) → eqb b b ≡ true
eqb_same b = search rules

fits_own : (t : List ℕ) → fits (map (itself Exact) t) t ≡ true
fits_own [] = refl
fits_own (b ∷ t) = ap (λ v. v && fits (map (itself Exact) t) t) (eqb_same b) ∙ fits_own t

pub returns : goal.returns
returns c = λ t u. (own_alone t u, λ e. ap (fits (map (itself Exact) t)) e ∙ fits_own t)
