-- The joined lines are the texts of the kept lines, one after another.
use Rattle.std.proofs.Common.{◌≡◌, ℕ, Bool, true, false, cond, List, [], ◌∷◌, ◌++◌, map, refl, ap, sym, ◌∙◌, append_assoc, append-nil}
use Rattle.std.specs.List.{flat_map, onto_first}
use Rattle.text_bytes.specs.Lines.{NumberedLine, numbered_lines}
use Rattle.text_bytes.specs.Numbers.{capped}
use Rattle.text_bytes.specs.Texts.{is_empty}
use Rattle.text_bytes.specs.declared.profile.Profile.{Profile}
use Rattle.rule_core.specs.Lines.{Piece, is_open, kept, lines_of_runs, piece_of, run_number, run_text, runs}
use Rattle.rule_places.specs.Shown.{AreJoined}

-- a run before others, which have what is left of a text; after an open one there are none
abbrev Before : Bool → (List ℕ → Type 0) → List (List Piece) → List Piece → List ℕ → Type 0
Before true others rs r text = rs ≡ []
Before false others rs r text = (left : List ℕ) × (text ≡ run_text r ++ left) × others left

-- the runs have this text
abbrev Have : List (List Piece) → List ℕ → Type 0
Have [] text = Unit {0}
Have (r ∷ rs) text = Before (is_open r) (Have rs) rs r text

abbrev piece : ℕ → List ℕ → Bool → Piece
piece n t c = record { number = n; text = t; continues = c }

-- a piece more at the front of the first run
onto : (n : ℕ) (t : List ℕ) (rs : List (List Piece)) (text : List ℕ) → Have rs text → Have (onto_first (piece n t true) rs) (t ++ text)
onto n t [] text h = refl
onto n t (r ∷ rs) text h = by (is_open r) h
  where
    by : (c : Bool) → Before c (Have rs) rs r text → Before c (Have rs) rs (piece n t true ∷ r) (t ++ text)
    by true h = h
    by false h = (h.0, ap (λ (x : List ℕ). t ++ x) h.1 ∙ sym (append_assoc t (run_text r) h.0), h.2)

one_more : (n : ℕ) (t : List ℕ) (c : Bool) (ps : List Piece) → Have (runs ps) (run_text ps) → Have (runs (piece n t c ∷ ps)) (run_text (piece n t c ∷ ps))
one_more n t true ps h = onto n t (runs ps) (run_text ps) h
one_more n t false ps h = (run_text ps, ap (λ (x : List ℕ). x ++ run_text ps) (sym (append-nil t)), h)

all_have : (ps : List Piece) → Have (runs ps) (run_text ps)
all_have [] = tt
all_have (p ∷ ps) = one_more p.number p.text p.continues ps (all_have ps)

-- the lines that runs give
line_more : (c : Bool) (n : ℕ) (t : List ℕ) (ls : List NumberedLine) → is_empty t ≡ c → flat_map (λ l. l.text) (cond c ls (record { number = n; text = t } ∷ ls)) ≡ t ++ flat_map (λ l. l.text) ls
line_more true n [] ls e = refl
line_more true n (b ∷ t) ls e = cc
line_more false n t ls e = refl

joined : (by : Profile) (rs : List (List Piece)) (text : List ℕ) → Have rs text → (left : List ℕ) × (text ≡ flat_map (λ l. l.text) (lines_of_runs by rs) ++ left)
joined by [] text h = (text, refl)
joined by (r ∷ rs) text h = on (is_open r) h (λ t g. joined by rs t g)
  where
    on : (c : Bool) → Before c (Have rs) rs r text → ((t : List ℕ) → Have rs t → (left : List ℕ) × (t ≡ flat_map (λ l. l.text) (lines_of_runs by rs) ++ left))
        → (left : List ℕ) × (text ≡ flat_map (λ l. l.text) (cond c (lines_of_runs by rs) (cond (is_empty (run_text r)) (lines_of_runs by rs) (record { number = capped (run_number by r); text = run_text r } ∷ lines_of_runs by rs))) ++ left)
    on true e others = (text, ap (λ (x : List (List Piece)). flat_map (λ l. l.text) (lines_of_runs by x) ++ text) (sym e))
    on false g others =
        let rest = others g.0 g.2 in (
          rest.0,
          g.1 ∙ ap (λ (x : List ℕ). run_text r ++ x) rest.1
              ∙ sym (append_assoc (run_text r) (flat_map (λ l. l.text) (lines_of_runs by rs)) rest.0)
              ∙ ap (λ (x : List ℕ). x ++ rest.0) (sym (line_more (is_empty (run_text r)) (capped (run_number by r)) (run_text r) (lines_of_runs by rs) refl)),
        )

pub all_joined : (by : Profile) (bytes : List ℕ) → AreJoined by bytes
all_joined by bytes = let ps = map piece_of (kept (numbered_lines bytes)) in joined by (runs ps) (run_text ps) (all_have ps)
