-- Assignments that were meant as comparisons, token by token.
use Rattle.std.proofs.Common.{◌≡◌, ℕ, ◌+◌, ◌-◌, ◌<◌, suc, nat_lt, Bool, true, false, cond, ◌||◌, List, [], ◌∷◌, ◌++◌, length, get_or, drop, refl, ap, sym, ◌∙◌, append_assoc, arith, zero-add}
use Rattle.std.specs.List.{count_by, list_any}
use Rattle.std.proofs.Math.Seq.{drop-cons}
use Rattle.std.proofs.lemmas.Bool.{lt-ltb}
use Rattle.std.proofs.lemmas.List.Sums.{sum_by-cons}
use Rattle.text_bytes.specs.Text.{Text}
use Rattle.rule_lints.specs.declared.lint.Lint.{Lint}
use Rattle.rule_file_lints.specs.Compared.{assigned_value, meant_spots, meant_to_compare}
use Rattle.rule_file_lints.specs.Matches.{is_match}
use Rattle.rule_file_lints.specs.Steps.{before_matches, left_after}
use Rattle.rule_types.specs.Tokens.{WrittenPart}
use Rattle.rule_types.specs.declared.spot.Spot.{Spot}

-- how many matches tokens have
abbrev pub matches_in : List WrittenPart → ℕ
matches_in tokens = count_by (λ w. is_match w.part) tokens

matches_cons : (w : WrittenPart) (tokens : List WrittenPart) → matches_in (w ∷ tokens) ≡ cond (is_match w.part) 1 0 + matches_in tokens
matches_cons w tokens = sum_by-cons (λ x. cond (is_match x.part) 1 0) w tokens

some_counted : (tokens : List WrittenPart) → nat_lt 0 (matches_in tokens) ≡ list_any (λ w. is_match w.part) tokens
some_counted [] = refl
some_counted (w ∷ tokens) = ap (λ n. nat_lt 0 n) (matches_cons w tokens) ∙ by (is_match w.part) (some_counted tokens)
  where
    by : (b : Bool) → nat_lt 0 (matches_in tokens) ≡ list_any (λ x. is_match x.part) tokens
        → nat_lt 0 (cond b 1 0 + matches_in tokens) ≡ (b || list_any (λ x. is_match x.part) tokens)
    by true h = lt-ltb 0 (1 + matches_in tokens) (omega arith)
    by false h = ap (λ n. nat_lt 0 n) (zero-add (matches_in tokens)) ∙ h

left_is : (w : WrittenPart) (tokens : List WrittenPart) (n : ℕ) → n ≡ matches_in (w ∷ tokens) → left_after n w ≡ matches_in tokens
left_is w tokens n e = by (is_match w.part) (e ∙ matches_cons w tokens)
  where
    by : (b : Bool) → n ≡ cond b 1 0 + matches_in tokens → cond b (n - 1) n ≡ matches_in tokens
    by true h = omega (arith, h)
    by false h = omega (arith, h)

-- the lints so far and those of the tokens to come are all, and so many matches are to come
pub record MeantDown (compared : List Text) (start spots : List (Spot Lint)) (tokens : List WrittenPart) (matches i : ℕ) : Type 0 where
  pub so_far : spots ++ meant_to_compare compared (drop i tokens) ≡ start ++ meant_to_compare compared tokens
  pub left : matches ≡ matches_in (drop i tokens)

pub meant_past : (compared : List Text) (start spots more : List (Spot Lint)) (tokens : List WrittenPart) (matches next i : ℕ) (w : WrittenPart)
    → MeantDown compared start spots tokens matches i → i < length tokens → w ≡ get_or tokens i w
    → next ≡ left_after matches w → more ≡ spots ++ before_matches next compared w
    → MeantDown compared start more tokens next (i + 1)
meant_past compared start spots more tokens matches next i w before h e l m =
    let rest : List WrittenPart = drop (i + 1) tokens in
    let step : i + 1 ≡ suc i = omega arith in
    let cut : drop i tokens ≡ w ∷ rest = drop-cons tokens i w h ∙ ap (λ x. x ∷ drop (suc i) tokens) (sym e) ∙ ap (λ n. w ∷ drop n tokens) (sym step) in
    let is_left : next ≡ matches_in rest = l ∙ left_is w rest matches (before.left ∙ ap matches_in cut) in
    let reported : before_matches next compared w ≡ cond (list_any (λ x. is_match x.part) rest) (meant_spots compared w (assigned_value w.part)) [] =
    ap (λ b. cond b (meant_spots compared w (assigned_value w.part)) []) (ap (λ n. nat_lt 0 n) is_left ∙ some_counted rest) in
    record {
      so_far =
          ap (λ x. x ++ meant_to_compare compared rest) (m ∙ ap (λ x. spots ++ x) reported)
          ∙ append_assoc spots (cond (list_any (λ x. is_match x.part) rest) (meant_spots compared w (assigned_value w.part)) []) (meant_to_compare compared rest)
          ∙ ap (λ ts. spots ++ meant_to_compare compared ts) (sym cut)
          ∙ before.so_far;
      left = is_left;
    }
