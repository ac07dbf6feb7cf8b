-- What the runs of pieces are, however they are found.
use Rattle.std.specs.Prelude.{◌≡◌, ◌↔◌, true, false, List, [], ◌∷◌, ◌++◌, All}
use Rattle.std.specs.List.{flat_map}
use Rattle.rule_core.specs.Lines.{Piece, run_text, runs}

-- A run that is not open ends in the first of its pieces that does not continue.
pub record IsClosed (run : List Piece) : Type 0 where
  pub before : List Piece
  pub last : Piece
  pub whole : run ≡ before ++ last ∷ []
  pub continued : All (λ p. p.continues ≡ true) before
  pub ended : last.continues ≡ false

-- The pieces that are left as one more run, if there are any.
abbrev pub open_run : List Piece → List (List Piece)
open_run [] = []
open_run (p ∷ ps) = (p ∷ ps) ∷ []

-- Pieces are these runs, one after another: closed ones, and then what is left, which all continues.
pub record AreRuns (ps : List Piece) (rs : List (List Piece)) : Type 0 where
  pub closed : List (List Piece)
  pub left : List Piece
  pub parts : rs ≡ closed ++ open_run left
  pub whole : ps ≡ flat_map (λ run. run) closed ++ left
  pub are_closed : All IsClosed closed
  pub all_continue : All (λ p. p.continues ≡ true) left

-- Pieces are runs in just one way.
abbrev pub OneWay : Type 0
OneWay = (ps : List Piece) (rs : List (List Piece)) → AreRuns ps rs ↔ (rs ≡ runs ps)

-- The texts of all runs together are the texts of all pieces, so that nothing of the kept lines is lost but the `\`
-- at their ends.
abbrev pub NoTextLost : Type 0
NoTextLost = (ps : List Piece) → flat_map run_text (runs ps) ≡ flat_map (λ p. p.text) ps
