-- What the walk over pairs keeps.
use Rattle.std.proofs.Common.{◌≡◌, ℕ, ◌+◌, ◌-◌, ◌<◌, ◌≤◌, suc, List, [], ◌∷◌, ◌++◌, length, get_or, drop, Option, ap, sym, ◌∙◌, arith}
use Rattle.std.proofs.Math.Seq.{drop-cons}
use Rattle.std.proofs.lemmas.List.Sums.{fold-append}
use Rattle.rule_remarks.specs.Pairs.{pairs_from, pairs_with, reported_for, with_kind, with_pair}
use Rattle.rule_remarks.specs.Said.{Said}
use Rattle.rule_remarks.specs.declared.pair_finding.PairFinding.{PairFinding}
use Rattle.rule_remarks.specs.declared.pair_finding.PairKind.TheVariants.{Same, Against}

-- one pair of a token more
pub next_pair : (reported one new : List PairFinding) (a b : Option Said) (place i : ℕ) (tokens : List (Option Said)) → i < length tokens → b ≡ get_or tokens i b
    → one ≡ with_kind Same reported (record { earlier = a; later = b; place = place }) → new ≡ with_kind Against one (record { earlier = a; later = b; place = place })
    → reported_for new (pairs_with a (place + 1) (drop (i + 1) tokens)) ≡ reported_for reported (pairs_with a place (drop i tokens))
next_pair reported one new a b place i tokens h e m n =
    let step : i + 1 ≡ suc i = omega arith in
    let cut : drop i tokens ≡ b ∷ drop (i + 1) tokens = drop-cons tokens i b h ∙ ap (λ (x : Option Said). x ∷ drop (suc i) tokens) (sym e) ∙ ap (λ (k : ℕ). b ∷ drop k tokens) (sym step) in
    ap (λ (x : List PairFinding). reported_for x (pairs_with a (place + 1) (drop (i + 1) tokens)))
    (n ∙ ap (λ (x : List PairFinding). with_kind Against x (record { earlier = a; later = b; place = place })) m)
    ∙ sym (ap (λ (ts : List (Option Said)). reported_for reported (pairs_with a place ts)) cut)

-- the pairs of one token more
pub next_token : (reported new : List PairFinding) (a : Option Said) (left following : List (Option Said)) (n : ℕ) → left ≡ a ∷ following → length left ≤ n
    → new ≡ reported_for reported (pairs_with a (n - length following) following)
    → reported_for new (pairs_from (n - length following) following) ≡ reported_for reported (pairs_from (n - length left) left)
next_token reported new a left following n e h m =
    let size : length left ≡ suc (length following) = ap length e in
    let next : (n - length left) + 1 ≡ n - length following = omega (arith, size, h) in
    ap (λ (x : List PairFinding). reported_for x (pairs_from (n - length following) following)) m
    ∙ sym (fold-append with_pair reported (pairs_with a (n - length following) following) (pairs_from (n - length following) following))
    ∙ ap (λ (q : ℕ). reported_for reported (pairs_with a q following ++ pairs_from q following)) (sym next)
    ∙ ap (λ (ts : List (Option Said)). reported_for reported (pairs_from (n - length left) ts)) (sym e)

-- no token is left
pub no_token : (reported : List PairFinding) (place : ℕ) (left : List (Option Said)) → left ≡ [] → reported_for reported (pairs_from place left) ≡ reported
no_token reported place left e = ap (λ (ts : List (Option Said)). reported_for reported (pairs_from place ts)) e
