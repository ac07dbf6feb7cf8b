-- A PROGRAM after a RESULT, token by token.
use Rattle.std.proofs.Common.{◌≡◌, Bool, true, false, cond, ◌||◌, List, [], ◌∷◌, ◌++◌, Option, Some, is_some, refl, sym, ap, ◌∙◌, append_assoc}
use Rattle.std.specs.List.{find}
use Rattle.rule_tokens.specs.Grammar.{Placed}
use Rattle.rule_remarks.specs.Laws.{HasLateProgram}
use Rattle.rule_remarks.specs.Remarks.{is_program, is_result, late_program}

-- the first PROGRAM of tokens that counts, by whether a RESULT comes before them
abbrev pub following : Bool → List Placed → Option Placed
following true tokens = find is_program tokens
following false tokens = late_program tokens

pub one_passed : (asked now : Bool) (t : Placed) (tokens : List Placed) (all : Option Placed) → following asked (t ∷ tokens) ≡ all → (asked ≡ true → is_program t ≡ false) → now ≡ (asked || is_result t) → following now tokens ≡ all
one_passed true now t tokens all h e k =
    ap (λ (b : Bool). following b tokens) k
    ∙ ap (λ (b : Bool). cond b (Some t) (find is_program tokens)) (sym (e refl))
    ∙ h
one_passed false now t tokens all h e k = ap (λ (b : Bool). following b tokens) k ∙ by (is_result t) ∙ h
  where
    by : (b : Bool) → following b tokens ≡ cond b (find is_program tokens) (late_program tokens)
    by true = refl
    by false = refl

-- the first PROGRAM among tokens
record HasProgram (tokens : List Placed) (program : Placed) : Type 0 where
  prefix : List Placed
  following : List Placed
  whole : tokens ≡ prefix ++ program ∷ following
  runs : is_program program ≡ true

first_in_place : (tokens : List Placed) (t : Placed) → find is_program tokens ≡ Some t → HasProgram tokens t
first_in_place [] t e = absurd (cc)
first_in_place (x ∷ tokens) t e = by (is_program x) refl e (λ g. first_in_place tokens t g)
  where
    by : (b : Bool) → is_program x ≡ b → cond b (Some x) (find is_program tokens) ≡ Some t → (find is_program tokens ≡ Some t → HasProgram tokens t) → HasProgram (x ∷ tokens) t
    by true f g more =
        let same : x ≡ t = cc in
        record { prefix = []; following = tokens; whole = ap (λ (y : Placed). y ∷ tokens) same; runs = ap is_program (sym same) ∙ f }
    by false f g more =
        let rest = more g in
        record { prefix = x ∷ rest.prefix; following = rest.following; whole = ap (λ (ts : List Placed). x ∷ ts) rest.whole; runs = rest.runs }

pub late_in_place : (tokens : List Placed) (t : Placed) → late_program tokens ≡ Some t → HasLateProgram tokens t
late_in_place [] t e = absurd (cc)
late_in_place (x ∷ tokens) t e = by (is_result x) refl e (λ g. late_in_place tokens t g)
  where
    by : (b : Bool) → is_result x ≡ b → cond b (find is_program tokens) (late_program tokens) ≡ Some t → (late_program tokens ≡ Some t → HasLateProgram tokens t) → HasLateProgram (x ∷ tokens) t
    by true f g more =
        let first = first_in_place tokens t g in
        record { prefix = []; result = x; between = first.prefix; following = first.following; whole = ap (λ (ts : List Placed). x ∷ ts) first.whole; asked = f; runs = first.runs }
    by false f g more =
        let rest = more g in
        record {
          prefix = x ∷ rest.prefix;
          result = rest.result;
          between = rest.between;
          following = rest.following;
          whole = ap (λ (ts : List Placed). x ∷ ts) rest.whole;
          asked = rest.asked;
          runs = rest.runs;
        }

-- if there is one, one is reported
first_found : (prefix following : List Placed) (t : Placed) → is_program t ≡ true → is_some (find is_program (prefix ++ t ∷ following)) ≡ true
first_found [] following t e = ap (λ (b : Bool). is_some (cond b (Some t) (find is_program following))) e
first_found (x ∷ prefix) following t e = by (is_program x) (first_found prefix following t e)
  where
    by : (b : Bool) → is_some (find is_program (prefix ++ t ∷ following)) ≡ true → is_some (cond b (Some x) (find is_program (prefix ++ t ∷ following))) ≡ true
    by true more = refl
    by false more = more

late_found : (prefix between following : List Placed) (r t : Placed) → is_result r ≡ true → is_program t ≡ true → is_some (late_program (prefix ++ r ∷ (between ++ t ∷ following))) ≡ true
late_found [] between following r t e f =
    ap (λ (b : Bool). is_some (cond b (find is_program (between ++ t ∷ following)) (late_program (between ++ t ∷ following)))) e ∙ first_found between following t f
late_found (x ∷ prefix) between following r t e f = by (is_result x) (late_found prefix between following r t e f)
  where
    whole : List Placed
    whole = prefix ++ r ∷ (between ++ t ∷ following)

    by : (b : Bool) → is_some (late_program whole) ≡ true → is_some (cond b (find is_program whole) (late_program whole)) ≡ true
    by true more = ap (λ (ts : List Placed). is_some (find is_program ts)) (sym (append_assoc prefix (r ∷ between) (t ∷ following))) ∙ first_found (prefix ++ r ∷ between) following t f
    by false more = more

pub late_reported : (tokens : List Placed) (t : Placed) → HasLateProgram tokens t → is_some (late_program tokens) ≡ true
late_reported tokens t h = ap (λ (ts : List Placed). is_some (late_program ts)) h.whole ∙ late_found h.prefix h.between h.following h.result t h.asked h.runs
