-- The sums of children and values, one node more.
use Rattle.std.proofs.Common.{◌≡◌, ℕ, zero, suc, ◌+◌, ◌-◌, ◌<◌, ◌≤◌, List, map, arith, zero-add, add-zero}
use Rattle.std.specs.List.{range_with_len, sum}
use Rattle.std.proofs.lemmas.List.FromFn.{sum_by-map-range_with_len_more}
use Rattle.trie_build.specs.Records.{node}
use Rattle.trie_build.specs.Header.{header_of}
use Rattle.trie_build.specs.Accepted.{HasShape, children_before, values_before}

-- a sum over the numbers below i + 1
pub sum_more : (f : ℕ → ℕ) (i : ℕ) → sum (map f (range_with_len 0 (i + 1))) ≡ sum (map f (range_with_len 0 i)) + f i
sum_more f i = sum_by-map-range_with_len_more (λ x. x) f 0 i i (zero-add i)

pub children_more : (bytes : List ℕ) (i : ℕ) → children_before bytes (i + 1) ≡ children_before bytes i + (node bytes i).count
children_more bytes i = sum_more (λ k. (node bytes k).count) i

pub values_more : (bytes : List ℕ) (i : ℕ) → values_before bytes (i + 1) ≡ values_before bytes i + (node bytes i).values
values_more bytes i = sum_more (λ k. (node bytes k).values) i

-- the sum over more numbers is not less
sum_grows : (f : ℕ → ℕ) (i d : ℕ) → sum (map f (range_with_len 0 i)) ≤ sum (map f (range_with_len 0 (i + d)))
sum_grows f i zero = rw add-zero (omega arith)
sum_grows f i (suc d) =
    let more : sum (map f (range_with_len 0 ((i + d) + 1))) ≡ sum (map f (range_with_len 0 (i + d))) + f (i + d) = sum_more f (i + d) in
    let same : (i + d) + 1 ≡ i + suc d = omega arith in
    rw (← same) (omega (arith, more, sum_grows f i d))

-- a node's values are among all
pub values_within : (bytes : List ℕ) (i : ℕ) → HasShape bytes → i < (header_of bytes).nodes → (node bytes i).first_value + (node bytes i).values ≤ (header_of bytes).values
values_within bytes i s h =
    let rest : ℕ = (header_of bytes).nodes - (i + 1) in
    let all : (i + 1) + rest ≡ (header_of bytes).nodes = omega arith in
    let grows : values_before bytes (i + 1) ≤ values_before bytes ((i + 1) + rest) = sum_grows (λ k. (node bytes k).values) (i + 1) rest in
    let grows_to : values_before bytes (i + 1) ≤ values_before bytes ((header_of bytes).nodes) = rw all at grows in
    omega (arith, grows_to, values_more bytes i, (s.each i h).first_value, s.values)
