-- Visits of added files, one after another.
use Rattle.std.proofs.Common.{◌≡◌, ◌∙◌, ◌++◌, ◌+◌, ◌<◌, ℕ, List, [], ◌∷◌, ap, arith, get_or, length, map, suc, sym, take, take-suc}
use Rattle.std.proofs.lemmas.List.{map-append}
use Rattle.std.proofs.lemmas.List.Elements.{All-push}
use Rattle.devdry_files.specs.Answers.{Answer}
use Rattle.devdry_folders.specs.Visits.{AreAddedVisits, IsAddedVisit}
use Rattle.devdry_folders.specs.declared.sights.Visit.{Visit}

-- the places of a list before the next one
one_more : {T : Type 0} (xs : List T) (place : ℕ) (d : T) → place < length xs → take (place + 1) xs ≡ take place xs ++ get_or xs place d ∷ []
one_more xs place d within =
    let one : place + 1 ≡ suc place = omega arith in
    ap (λ n. take n xs) one ∙ take-suc xs place d within

-- a visit of the added file of this place comes after those of the files before it
pub added_more : {T : Type 0} (text : T → List ℕ) (may : Answer → Type 0) (items : List T) (place : ℕ) (d : T) (visits : List Visit) (v : Visit)
    → place < length items → v.path ≡ text (get_or items place d) → IsAddedVisit may v → AreAddedVisits may (map text (take place items)) visits
    → AreAddedVisits may (map text (take (place + 1) items)) (visits ++ v ∷ [])
added_more text may items place d visits v within path visited were = record {
  added_so = map-append (λ v. v.path) visits (v ∷ [])
      ∙ ap (λ paths. paths ++ v.path ∷ []) were.added_so
      ∙ ap (λ p. map text (take place items) ++ p ∷ []) path
      ∙ sym (map-append text (take place items) (get_or items place d ∷ []))
      ∙ ap (map text) (sym (one_more items place d within));
  each = All-push (IsAddedVisit may) visits v were.each visited;
}
