-- What memchr finds, in the words of the standard library.
use Rattle.std.proofs.Common.{◌≡◌, ℕ, ◌<◌, ◌≤◌, Bool, cond, List, length, get_or, Option, Some, None, ltb, ap, sym, ◌∙◌, arith}
use Rattle.std.specs.List.{position, position_or_len}
use Rattle.std.proofs.lemmas.Bool.{lt-ltb, le-ltb, false_from_ne_true}
use Rattle.std.proofs.lemmas.List.Sums.{position_or_len_is}
use Rattle.memchr.specs.Find.{IsFirstByte}

position_at : (test : ℕ → Bool) (hay : List ℕ) (k : ℕ) (o : Option ℕ) → position_or_len test hay ≡ k
    → cond (ltb k (length hay)) (Some k) None ≡ o → position test hay ≡ o
position_at test hay k o e h = ap (λ (n : ℕ). cond (ltb n (length hay)) (Some n) None) e ∙ h

pub position-from_first_byte : (test : ℕ → Bool) (hay : List ℕ) (r : Option ℕ) → IsFirstByte test hay r → r ≡ position test hay
position-from_first_byte test hay None h =
    let here : length hay ≤ length hay = omega arith in
    let none : position_or_len test hay ≡ length hay =
    position_or_len_is test hay (length hay) 0 here (λ k l. false_from_ne_true (test (get_or hay k 0)) (h k (omega arith) l)) (λ l. absurd (omega arith)) in
    sym (position_at test hay (length hay) None none (ap (λ (b : Bool). cond b (Some (length hay)) None) (le-ltb (length hay) (length hay) here)))
position-from_first_byte test hay (Some i) h =
    let within : i < length hay = h.0.high in
    let upto : i ≤ length hay = omega arith in
    let found : position_or_len test hay ≡ i =
    position_or_len_is test hay i 0 upto (λ k l. false_from_ne_true (test (get_or hay k 0)) (h.0.before k (omega arith) l)) (λ l. h.1) in
    sym (position_at test hay i (Some i) found (ap (λ (b : Bool). cond b (Some i) None) (lt-ltb i (length hay) within)))
