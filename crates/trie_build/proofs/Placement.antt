-- Where the records of a written index are.
use Rattle.std.proofs.Common.{◌≡◌, ℕ, zero, suc, ◌+◌, ◌*◌, ◌<◌, List, [], ◌∷◌, ◌++◌, length, take, drop, get_or, refl, sym, ◌∙◌, ap, arith, flat_map, append_assoc, All, mul-suc, add-zero, zero-add, length-append}
use Rattle.std.proofs.Math.Seq.{drop-append-add}
use Rattle.std.proofs.lemmas.List.{drop-drop, get_or-drop, take_at}
use Rattle.std.proofs.lemmas.List.FromFn.{fill_by_all, get_or-map-range_with_len}
use Rattle.byteorder.specs.Numbers.{little_number-reads_back}
use Rattle.text_core.specs.declared.byte_set.ByteSet.{ByteSet}
use Rattle.trie_build.specs.Numbers.{number_at, number_bytes}
use Rattle.trie_nodes.specs.Bounds.{value_len}
use Rattle.trie_build.specs.Header.{header_bytes, header_of, text_start, whole_len}
use Rattle.trie_build.specs.Records.{no_span, node_at, node_bytes, span_at, value_at, value_bytes, node, value, set, set_bytes, text_of, value_start, set_start}
use Rattle.trie_build.specs.Written.{Draft, SaysDraft, IsWritable, draft_header, written, written_nodes, written_values, written_sets}
use Rattle.trie_build.specs.declared.header.Header.{Header}
use Rattle.trie_build.specs.declared.records.NodeRecord.{NodeRecord}
use Rattle.trie_build.specs.declared.records.ValueRecord.{ValueRecord}
use Rattle.trie_build.specs.declared.records.Span.{Span}
use Rattle.trie_build.proofs.Reading.{node_read, value_read}

-- pieces of one length, one after another
module _ {X : Type 0} (f : X → List ℕ) (len : ℕ) where
  one_more : (x : X) (xs : List X) (rest : List ℕ) (i : ℕ) → length (f x) ≡ len → drop (len * suc i) ((f x ++ flat_map f xs) ++ rest) ≡ drop (len * i) (flat_map f xs ++ rest)
  one_more x xs rest i here =
      let n : len * suc i ≡ length (f x) + len * i = omega (arith, mul-suc len i) in
      ap (λ k. drop k ((f x ++ flat_map f xs) ++ rest)) n
      ∙ ap (drop (length (f x) + len * i)) (append_assoc (f x) (flat_map f xs) rest)
      ∙ drop-append-add (f x) (flat_map f xs ++ rest) (len * i)

  none : (l : List ℕ) → drop (len * zero) l ≡ l
  none l = let n : len * zero ≡ 0 = omega arith in ap (λ k. drop k l) n

  -- the bytes from a piece on
  pub piece_at : (xs : List X) (rest : List ℕ) (i : ℕ) (d : X) → All (λ x. length (f x) ≡ len) xs → i < length xs
      → drop (len * i) (flat_map f xs ++ rest) ≡ f (get_or xs i d) ++ (flat_map f (drop (suc i) xs) ++ rest)
  piece_at [] rest i d all h = absurd (omega arith)
  piece_at (x ∷ xs) rest zero d all h = none ((f x ++ flat_map f xs) ++ rest) ∙ append_assoc (f x) (flat_map f xs) rest
  piece_at (x ∷ xs) rest (suc i) d all h =
      one_more x xs rest i (all zero x (omega arith)) ∙ piece_at xs rest i d (λ k e w. all (suc k) e (omega arith)) (omega arith)

  -- the bytes after all pieces
  pub after_all : (xs : List X) (rest : List ℕ) → All (λ x. length (f x) ≡ len) xs → drop (len * length xs) (flat_map f xs ++ rest) ≡ rest
  after_all [] rest all = none rest
  after_all (x ∷ xs) rest all = one_more x xs rest (length xs) (all zero x (omega arith)) ∙ after_all xs rest (λ k e w. all (suc k) e (omega arith))

  -- how many bytes there are
  pub length_all : (xs : List X) (rest : List ℕ) → All (λ x. length (f x) ≡ len) xs → length (flat_map f xs ++ rest) ≡ len * length xs + length rest
  length_all [] rest all = let n : len * zero ≡ 0 = omega arith in omega (arith, n)
  length_all (x ∷ xs) rest all =
      let own : length (f x) ≡ len = all zero x (omega arith) in
      let on : length (flat_map f xs ++ rest) ≡ len * length xs + length rest = length_all xs rest (λ k e w. all (suc k) e (omega arith)) in
      let n : len * suc (length xs) ≡ len + len * length xs = omega (arith, mul-suc len (length xs)) in
      let whole : length ((f x ++ flat_map f xs) ++ rest) ≡ length (f x) + length (flat_map f xs ++ rest) = ap length (append_assoc (f x) (flat_map f xs) rest) ∙ length-append (f x) (flat_map f xs ++ rest) in
      omega (arith, n, own, on, whole)

-- what is read from a place on
number_moved : (bytes : List ℕ) (p k : ℕ) → number_at (drop p bytes) k ≡ number_at bytes (p + k)
unfolding number_at
number_moved bytes p k = ap (λ l. number_at l 0) (drop-drop k p bytes)

byte_moved : (bytes : List ℕ) (p k : ℕ) → get_or (drop p bytes) k 0 ≡ get_or bytes (p + k) 0
byte_moved bytes p k = get_or-drop p bytes k 0

node_moved : (bytes : List ℕ) (p : ℕ) → node_at (drop p bytes) 0 ≡ node_at bytes p
node_moved bytes p =
    let here : get_or (drop p bytes) 0 0 ≡ get_or bytes p 0 = byte_moved bytes p 0 ∙ ap (λ k. get_or bytes k 0) (add-zero p) in
    let byte = byte_moved bytes p 1 in
    let low = byte_moved bytes p 2 in
    let high = byte_moved bytes p 3 in
    let set = number_moved bytes p 4 in
    let first = number_moved bytes p 8 in
    let count = number_moved bytes p 12 in
    let first_value = number_moved bytes p 16 in
    let values = number_moved bytes p 20 in
    cc

span_moved : (bytes : List ℕ) (p k : ℕ) → span_at (drop p bytes) k ≡ span_at bytes (p + k)
span_moved bytes p k =
    let place = number_moved bytes p k in
    let next : p + (k + 4) ≡ (p + k) + 4 = omega arith in
    let len : number_at (drop p bytes) (k + 4) ≡ number_at bytes ((p + k) + 4) = number_moved bytes p (k + 4) ∙ ap (number_at bytes) next in
    cc

value_moved : (bytes : List ℕ) (p : ℕ) → value_at 2 (drop p bytes) 0 ≡ value_at 2 bytes p
value_moved bytes p =
    let key : span_at (drop p bytes) 0 ≡ span_at bytes p = span_moved bytes p 0 ∙ ap (span_at bytes) (add-zero p) in
    let value = span_moved bytes p 8 in
    let order = number_moved bytes p 16 in
    let file = span_moved bytes p 20 in
    let line = number_moved bytes p 28 in
    cc

abbrev made : ℕ → ℕ → ℕ → ℕ → ℕ → ℕ → Header
made version nodes values sets text reserved = record { version = version; nodes = nodes; values = values; sets = sets; text = text; reserved = reserved }

-- a header is known by its fields
same_header : (h k : Header) → h.version ≡ k.version → h.nodes ≡ k.nodes → h.values ≡ k.values → h.sets ≡ k.sets → h.text ≡ k.text → h.reserved ≡ k.reserved
    → made h.version h.nodes h.values h.sets h.text h.reserved ≡ made k.version k.nodes k.values k.sets k.text k.reserved
same_header h k version nodes values sets text reserved =
    ap (λ x. made x h.nodes h.values h.sets h.text h.reserved) version ∙ ap (λ x. made k.version x h.values h.sets h.text h.reserved) nodes
    ∙ ap (λ x. made k.version k.nodes x h.sets h.text h.reserved) values ∙ ap (λ x. made k.version k.nodes k.values x h.text h.reserved) sets
    ∙ ap (λ x. made k.version k.nodes k.values k.sets x h.reserved) text ∙ ap (λ x. made k.version k.nodes k.values k.sets k.text x) reserved

module _ (d : Draft) (w : IsWritable d) where
  pub version_written : (header_of (written d)).version ≡ 2
  unfolding written number_at
  version_written = refl

  pub nodes_written : (header_of (written d)).nodes ≡ length d.nodes
  unfolding written number_at
  nodes_written = little_number-reads_back 4 (length d.nodes)
      (number_bytes (length d.values) ++ (number_bytes (length d.sets) ++ (number_bytes (length d.text) ++ (number_bytes 0 ++ written_nodes d)))) w.few_nodes

  pub values_written : (header_of (written d)).values ≡ length d.values
  unfolding written number_at
  values_written = little_number-reads_back 4 (length d.values) (number_bytes (length d.sets) ++ (number_bytes (length d.text) ++ (number_bytes 0 ++ written_nodes d))) w.few_values

  pub sets_written : (header_of (written d)).sets ≡ length d.sets
  unfolding written number_at
  sets_written = little_number-reads_back 4 (length d.sets) (number_bytes (length d.text) ++ (number_bytes 0 ++ written_nodes d)) w.few_sets

  pub text_written : (header_of (written d)).text ≡ length d.text
  unfolding written number_at
  text_written = little_number-reads_back 4 (length d.text) (number_bytes 0 ++ written_nodes d) w.short

  pub reserved_written : (header_of (written d)).reserved ≡ 0
  unfolding written number_at
  reserved_written = refl

  header_written : header_of (written d) ≡ draft_header d
  header_written = same_header (header_of (written d)) (draft_header d) version_written nodes_written values_written sets_written text_written reserved_written

  node_pieces : All (λ n. length (node_bytes n) ≡ 24) d.nodes
  node_pieces k n h = refl

  value_pieces : All (λ v. length (value_bytes v) ≡ 32) d.values
  value_pieces k v h = refl

  -- the bytes after the header, from a place on
  after_header : (n : ℕ) → drop (32 + n) (written d) ≡ drop n (written_nodes d)
  unfolding written
  after_header n = drop-append-add (header_bytes (draft_header d)) (written_nodes d) n

  after_nodes : (n : ℕ) → drop (32 + (24 * length d.nodes + n)) (written d) ≡ drop n (written_values d)
  after_nodes n =
      after_header (24 * length d.nodes + n) ∙ sym (drop-drop n (24 * length d.nodes) (written_nodes d))
      ∙ ap (drop n) (after_all node_bytes 24 d.nodes (written_values d) node_pieces)

  after_values : (n : ℕ) → drop (32 + (24 * length d.nodes + (32 * length d.values + n))) (written d) ≡ drop n (written_sets d)
  after_values n =
      after_nodes (32 * length d.values + n) ∙ sym (drop-drop n (32 * length d.values) (written_values d))
      ∙ ap (drop n) (after_all value_bytes 32 d.values (written_sets d) value_pieces)

  after_sets : (n : ℕ) → drop (32 + (24 * length d.nodes + (32 * length d.values + (32 * length d.sets + n)))) (written d) ≡ drop n d.text
  after_sets n =
      after_values (32 * length d.sets + n) ∙ sym (drop-drop n (32 * length d.sets) (written_sets d))
      ∙ ap (drop n) (after_all set_bytes 32 d.sets d.text w.sets)

  -- each node is read as it was written
  pub node_written : (i : ℕ) (n : NodeRecord) → i < length d.nodes → node (written d) i ≡ get_or d.nodes i n
  unfolding node
  node_written i n h =
      sym (node_moved (written d) (32 + 24 * i))
      ∙ ap (λ l. node_at l 0) (after_header (24 * i) ∙ piece_at node_bytes 24 d.nodes (written_values d) i n node_pieces h)
      ∙ node_read (get_or d.nodes i n) (flat_map node_bytes (drop (suc i) d.nodes) ++ written_values d) (w.nodes i n h)

  value_place : (j : ℕ) → value_start (header_of (written d)) j ≡ 32 + (24 * length d.nodes + 32 * j)
  value_place j =
      let n : (header_of (written d)).nodes ≡ length d.nodes = nodes_written in
      let len : value_len (header_of (written d)).version ≡ 32 = ap value_len version_written in
      let product : value_len (header_of (written d)).version * j ≡ 32 * j = ap (λ k. k * j) len in
      omega (arith, n, product)

  -- each value is read as it was written
  pub value_written : (j : ℕ) (v : ValueRecord) → j < length d.values → value (written d) j ≡ get_or d.values j v
  unfolding value
  value_written j v h =
      ap (λ k. value_at k (written d) (value_start (header_of (written d)) j)) version_written
      ∙ ap (value_at 2 (written d)) (value_place j)
      ∙ sym (value_moved (written d) (32 + (24 * length d.nodes + 32 * j)))
      ∙ ap (λ l. value_at 2 l 0) (after_nodes (32 * j) ∙ piece_at value_bytes 32 d.values (written_sets d) j v value_pieces h)
      ∙ value_read (get_or d.values j v) (flat_map value_bytes (drop (suc j) d.values) ++ written_sets d) (w.values j v h)

  set_place : (s : ℕ) → set_start (header_of (written d)) s ≡ 32 + (24 * length d.nodes + (32 * length d.values + 32 * s))
  set_place s =
      let n : (header_of (written d)).nodes ≡ length d.nodes = nodes_written in
      let len : value_len (header_of (written d)).version ≡ 32 = ap value_len version_written in
      let product : value_len (header_of (written d)).version * (header_of (written d)).values ≡ 32 * length d.values = ap (λ k. k * (header_of (written d)).values) len ∙ ap (λ k. 32 * k) values_written in
      omega (arith, n, product)

  -- each set is read as it was written
  pub set_written : (s : ℕ) (e : ByteSet) → s < length d.sets → set (written d) s ≡ get_or d.sets s e
  unfolding set
  set_written s e h =
      let own : ByteSet = get_or d.sets s e in
      let bits : take 32 (drop (set_start (header_of (written d)) s) (written d)) ≡ own.bits =
      ap (λ k. take 32 (drop k (written d))) (set_place s)
      ∙ ap (take 32) (after_values (32 * s) ∙ piece_at set_bytes 32 d.sets d.text s e w.sets h)
      ∙ take_at own.bits (flat_map set_bytes (drop (suc s) d.sets) ++ d.text) 32 (w.sets s e h) in
      ap (λ (b : List ℕ). record { bits = b }) bits

  text_place : text_start (header_of (written d)) ≡ 32 + (24 * length d.nodes + (32 * length d.values + (32 * length d.sets + 0)))
  text_place = let n : (header_of (written d)).sets ≡ length d.sets = sets_written in omega (arith, n, set_place (length d.sets))

  -- each part of the text is read as it was written
  pub text_part : (s : Span) → text_of (written d) s ≡ take s.len (drop s.place d.text)
  text_part s =
      let at : text_start (header_of (written d)) + s.place ≡ 32 + (24 * length d.nodes + (32 * length d.values + (32 * length d.sets + s.place))) = omega (arith, text_place) in
      ap (λ k. take s.len (drop k (written d))) at ∙ ap (take s.len) (after_sets s.place)

  -- the length is the one that the header asks for
  pub whole_written : length (written d) ≡ whole_len (header_of (written d))
  unfolding written
  whole_written =
      let header : length (header_bytes (draft_header d) ++ written_nodes d) ≡ 32 + length (written_nodes d) = length-append (header_bytes (draft_header d)) (written_nodes d) in
      omega (
        arith,
        header,
        length_all node_bytes 24 d.nodes (written_values d) node_pieces,
        length_all value_bytes 32 d.values (written_sets d) value_pieces,
        length_all set_bytes 32 d.sets d.text w.sets,
        text_place,
        text_written,
      )

-- records, for numbers that none has
abbrev pub no_node : NodeRecord
no_node = record { kind = 0; byte = 0; first_zero = 0; second_zero = 0; set = 0; first = 0; count = 0; first_value = 0; values = 0 }

abbrev pub no_value : ValueRecord
no_value = record { key = no_span; value = no_span; order = 0; file = no_span; line = 0 }

abbrev pub no_set : ByteSet
no_set = record { bits = [] }

pub written_says : (d : Draft) → IsWritable d → SaysDraft (written d) d
written_says d w = record {
  header = header_written d w;
  whole = whole_written d w;
  nodes = sym (fill_by_all (node (written d)) d.nodes (length d.nodes) no_node refl (λ i h. sym (node_written d w i no_node h)));
  values = sym (fill_by_all (value (written d)) d.values (length d.values) no_value refl (λ j h. sym (value_written d w j no_value h)));
  sets = sym (fill_by_all (set (written d)) d.sets (length d.sets) no_set refl (λ s h. sym (set_written d w s no_set h)));
  text = text_part d w;
}

-- what the bytes say, record by record
module _ (bytes : List ℕ) (d : Draft) (says : SaysDraft bytes d) where
  pub node_of_draft : (i : ℕ) (n : NodeRecord) → i < length d.nodes → node bytes i ≡ get_or d.nodes i n
  node_of_draft i n h = sym (get_or-map-range_with_len (node bytes) 0 (length d.nodes) i i n h (zero-add i)) ∙ ap (λ (l : List NodeRecord). get_or l i n) says.nodes

  pub value_of_draft : (j : ℕ) (v : ValueRecord) → j < length d.values → value bytes j ≡ get_or d.values j v
  value_of_draft j v h = sym (get_or-map-range_with_len (value bytes) 0 (length d.values) j j v h (zero-add j)) ∙ ap (λ (l : List ValueRecord). get_or l j v) says.values

  pub set_of_draft : (s : ℕ) (e : ByteSet) → s < length d.sets → set bytes s ≡ get_or d.sets s e
  set_of_draft s e h = sym (get_or-map-range_with_len (set bytes) 0 (length d.sets) s s e h (zero-add s)) ∙ ap (λ (l : List ByteSet). get_or l s e) says.sets
