-- The nearest of places, one place after another.
use Rattle.std.proofs.Common.{◌≡◌, ℕ, ◌+◌, ◌<◌, ◌≤◌, List, [], ◌∷◌, length, take, get_or, Option, Some, None, option_map, fold, refl, ap, sym, ◌∙◌}
use Rattle.std.specs.List.{filter_map, cons_option}
use Rattle.std.proofs.lemmas.List.{take_all, take_more}
use Rattle.std.proofs.lemmas.List.Elements.{filter_map-append}
use Rattle.std.proofs.lemmas.List.Sums.{fold-append}
use Rattle.text_bytes.specs.Text.{Text}
use Rattle.engine_courses.specs.Inner.{nearer, nearest_so_far}
use Rattle.engine_courses.specs.Nearest.{Candidate, Place, candidate_of, nearest}
use Rattle.engine_courses.proofs.Least.{nearest_is}

-- the nearest so far, with one place more that may be no candidate
abbrev pub with_next : Option Candidate → Option Candidate → Option Candidate
with_next best None = best
with_next best (Some found) = nearer best found

module _ (text : Text) (places : List Place) where
  abbrev pub so_far : ℕ → Option Candidate
  so_far i = nearest_so_far (filter_map (candidate_of text) (take i places))

  pub one_more : (i : ℕ) (place : Place) → i < length places → place ≡ get_or places i place → so_far (i + 1) ≡ with_next (so_far i) (candidate_of text place)
  one_more i place within is =
      ap (λ ps. nearest_so_far (filter_map (candidate_of text) ps)) (take_more places i place within)
      ∙ ap nearest_so_far (filter_map-append (candidate_of text) (take i places) (get_or places i place ∷ []))
      ∙ fold-append nearer None (filter_map (candidate_of text) (take i places)) (filter_map (candidate_of text) (get_or places i place ∷ []))
      ∙ ap (λ p. fold nearer (so_far i) (filter_map (candidate_of text) (p ∷ []))) (sym is)
      ∙ by (candidate_of text place)
    where
      by : (o : Option Candidate) → fold nearer (so_far i) (cons_option o []) ≡ with_next (so_far i) o
      by None = refl
      by (Some found) = refl

  pub all_seen : (i : ℕ) → length places ≤ i → option_map (λ found. found.1) (so_far i) ≡ nearest text places
  all_seen i end =
      ap (λ ps. option_map (λ found. found.1) (nearest_so_far (filter_map (candidate_of text) ps))) (take_all i places end)
      ∙ ap (option_map (λ found. found.1)) (nearest_is (filter_map (candidate_of text) places))
