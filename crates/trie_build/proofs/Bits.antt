-- The bytes of a set, as they are in an index.
use Rattle.std.proofs.Common.{◌≡◌, ℕ, ◌+◌, ◌/◌, ◌%◌, ◌^◌, ◌<◌, eqb, List, take, drop, get_or, sym, ◌∙◌, ap, bit_and}
use Rattle.std.proofs.lemmas.List.{get_or-take, get_or-drop}
use Rattle.std.proofs.lemmas.Nat.Bits.{shr_and_one}
use Rattle.text_core.specs.Items.{set_has}
use Rattle.trie_build.specs.Header.{header_of}
use Rattle.trie_build.specs.Records.{set, set_start}

-- a set has a byte exactly if its bit is 1
pub bit_is : (bytes : List ℕ) (s b : ℕ) → b / 8 < 32 → eqb (bit_and (get_or bytes (set_start (header_of bytes) s + b / 8) 0 / 2 ^ (b % 8)) 1) 1 ≡ set_has (set bytes s) b
unfolding set
bit_is bytes s b h =
    let at : get_or (take 32 (drop (set_start (header_of bytes) s) bytes)) (b / 8) 0 ≡ get_or bytes (set_start (header_of bytes) s + b / 8) 0 =
    get_or-take 32 (drop (set_start (header_of bytes) s) bytes) (b / 8) 0 h ∙ get_or-drop (set_start (header_of bytes) s) bytes (b / 8) 0 in
    ap (λ k. eqb k 1) (shr_and_one (get_or bytes (set_start (header_of bytes) s + b / 8) 0) (b % 8))
    ∙ ap (λ k. eqb (k / 2 ^ (b % 8) % 2) 1) (sym at)
