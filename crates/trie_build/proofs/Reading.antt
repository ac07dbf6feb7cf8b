-- What is written is read again.
use Rattle.std.proofs.Common.{◌≡◌, ℕ, List, ◌++◌, ◌∙◌, ap}
use Rattle.byteorder.specs.Numbers.{little_number-reads_back}
use Rattle.trie_build.specs.Numbers.{number_at, number_bytes, IsSmall}
use Rattle.trie_build.specs.Records.{node_at, node_bytes, span_at, span_bytes, value_at, value_bytes}
use Rattle.trie_build.specs.Written.{IsSmallNode, IsSmallSpan, IsSmallValue}
use Rattle.trie_build.specs.declared.records.NodeRecord.{NodeRecord}
use Rattle.trie_build.specs.declared.records.ValueRecord.{ValueRecord}
use Rattle.trie_build.specs.declared.records.Span.{Span}

-- a number that is in front
pub number_read : (x : ℕ) (rest : List ℕ) → IsSmall x → number_at (number_bytes x ++ rest) 0 ≡ x
unfolding number_at
number_read x rest h = little_number-reads_back 4 x rest h

abbrev numbered : NodeRecord → ℕ → ℕ → ℕ → ℕ → ℕ → NodeRecord
numbered n a b c d e =
    record { kind = n.kind; byte = n.byte; first_zero = n.first_zero; second_zero = n.second_zero; set = a; first = b; count = c; first_value = d; values = e }

same_node : (n : NodeRecord) (a b c d e : ℕ) → a ≡ n.set → b ≡ n.first → c ≡ n.count → d ≡ n.first_value → e ≡ n.values → numbered n a b c d e ≡ n
same_node n a b c d e f g h i j =
    ap (λ x. numbered n x b c d e) f ∙ ap (λ x. numbered n n.set x c d e) g ∙ ap (λ x. numbered n n.set n.first x d e) h
    ∙ ap (λ x. numbered n n.set n.first n.count x e) i ∙ ap (λ x. numbered n n.set n.first n.count n.first_value x) j

-- a node that is in front
pub node_read : (n : NodeRecord) (rest : List ℕ) → IsSmallNode n → node_at (node_bytes n ++ rest) 0 ≡ n
unfolding number_at
node_read n rest h =
    let t : List ℕ = node_bytes n ++ rest in
    same_node n (number_at t 4) (number_at t 8) (number_at t 12) (number_at t 16) (number_at t 20)
    (little_number-reads_back 4 n.set (number_bytes n.first ++ (number_bytes n.count ++ (number_bytes n.first_value ++ (number_bytes n.values ++ rest)))) h.set)
    (little_number-reads_back 4 n.first (number_bytes n.count ++ (number_bytes n.first_value ++ (number_bytes n.values ++ rest))) h.first)
    (little_number-reads_back 4 n.count (number_bytes n.first_value ++ (number_bytes n.values ++ rest)) h.count)
    (little_number-reads_back 4 n.first_value (number_bytes n.values ++ rest) h.first_value)
    (little_number-reads_back 4 n.values rest h.values)

same_span : (s : Span) (a b : ℕ) → a ≡ s.place → b ≡ s.len → (let t : Span = record { place = a; len = b } in t) ≡ s
same_span s a b f g = ap (λ x. record { place = x; len = b }) f ∙ ap (λ x. record { place = s.place; len = x }) g

-- a part of the text that is in front
pub span_read : (s : Span) (rest : List ℕ) → IsSmallSpan s → span_at (span_bytes s ++ rest) 0 ≡ s
unfolding number_at
span_read s rest h =
    same_span s (number_at (span_bytes s ++ rest) 0) (number_at (span_bytes s ++ rest) 4)
    (little_number-reads_back 4 s.place (number_bytes s.len ++ rest) h.place) (little_number-reads_back 4 s.len rest h.len)

abbrev made : Span → Span → ℕ → Span → ℕ → ValueRecord
made key value order file line = record { key = key; value = value; order = order; file = file; line = line }

same_value : (v : ValueRecord) (key value file : Span) (order line : ℕ) → key ≡ v.key → value ≡ v.value → order ≡ v.order → file ≡ v.file → line ≡ v.line
    → made key value order file line ≡ v
same_value v key value file order line a b c d e =
    ap (λ x. made x value order file line) a ∙ ap (λ x. made v.key x order file line) b ∙ ap (λ x. made v.key v.value x file line) c
    ∙ ap (λ x. made v.key v.value v.order x line) d ∙ ap (λ x. made v.key v.value v.order v.file x) e

-- a value that is in front
pub value_read : (v : ValueRecord) (rest : List ℕ) → IsSmallValue v → value_at 2 (value_bytes v ++ rest) 0 ≡ v
unfolding number_at
value_read v rest h =
    let t : List ℕ = value_bytes v ++ rest in
    let line_on : List ℕ = number_bytes v.line ++ rest in
    let file_on : List ℕ = span_bytes v.file ++ line_on in
    let order_on : List ℕ = number_bytes v.order ++ file_on in
    same_value v (span_at t 0) (span_at t 8) (span_at t 20) (number_at t 16) (number_at t 28)
    (span_read v.key (span_bytes v.value ++ order_on) h.key)
    (span_read v.value order_on h.value)
    (little_number-reads_back 4 v.order file_on h.order)
    (span_read v.file line_on h.file)
    (little_number-reads_back 4 v.line rest h.line)
