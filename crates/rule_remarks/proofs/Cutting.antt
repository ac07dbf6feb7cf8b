-- The words of a text, cut at its bars.
use Rattle.std.proofs.Common.{◌≡◌, ℕ, ◌+◌, List, take, drop, Some, None, sym, ap}
use Rattle.std.specs.List.{position, slice_split}
use Rattle.text_core.specs.Choices.{is_bar}
use Rattle.text_core.proofs.Cutting.{split_none, split_some}
use Rattle.text_bytes.specs.Text.{Text}
use Rattle.rule_remarks.specs.Words.{with_word}
use Rattle.std.specs.Prelude.{fold}

-- a part that was added, and those after the bar to come
pub word_more : (words new : List Text) (rest part following : List ℕ) (k : ℕ) → position is_bar rest ≡ Some k → part ≡ take k rest → following ≡ drop (k + 1) rest
    → new ≡ with_word words part → fold with_word new (slice_split is_bar following) ≡ fold with_word words (slice_split is_bar rest)
word_more words new rest part following k h p b n = rw (n, p, b) (sym (ap (λ (parts : List Text). fold with_word words parts) (split_some is_bar rest k h)))

-- without a bar one part is left
pub word_last : (words : List Text) (rest : List ℕ) → position is_bar rest ≡ None → with_word words rest ≡ fold with_word words (slice_split is_bar rest)
word_last words rest h = sym (ap (λ (parts : List Text). fold with_word words parts) (split_none is_bar rest h))
