-- What is at each place of a safe text.
use Rattle.std.proofs.Common.{◌≡◌, ℕ, ◌+◌, ◌<◌, List, ◌∷◌, [], ◌++◌, length, map, slice_index, zero-add}
use Rattle.std.specs.List.{range_with_len}
use Rattle.std.proofs.lemmas.List.FromFn.{get_or-map-range_with_len, length-map-range_with_len, map-range_with_len_more}
use Rattle.text_bytes.specs.Characters.{value_byte}
use Rattle.text_bytes.specs.Safe.{safe, safe_byte}

pub made_more : (marks text : List ℕ) (n : ℕ) → map (safe_byte marks text) (range_with_len 0 (n + 1)) ≡ map (safe_byte marks text) (range_with_len 0 n) ++ safe_byte marks text n ∷ []
made_more marks text n = map-range_with_len_more (safe_byte marks text) 0 n n (zero-add n)

pub length-safe : (marks text : List ℕ) → length (safe marks text) ≡ length text
unfolding safe
length-safe marks text = length-map-range_with_len (safe_byte marks text) 0 (length text)

pub safe-at : (marks text : List ℕ) (k : ℕ) → k < length text → slice_index (safe marks text) k ≡ safe_byte marks text k
unfolding safe
safe-at marks text k within = get_or-map-range_with_len (safe_byte marks text) 0 (length text) k k 0 within (zero-add k)

pub values_more : (text : List ℕ) (n : ℕ) → map (value_byte text) (range_with_len 0 (n + 1)) ≡ map (value_byte text) (range_with_len 0 n) ++ value_byte text n ∷ []
values_more text n = map-range_with_len_more (value_byte text) 0 n n (zero-add n)
