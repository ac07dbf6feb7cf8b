-- Characters counted byte by byte.
use Rattle.std.proofs.Common.{◌≡◌, ℕ, ◌+◌, ◌-◌, ◌^◌, ◌<◌, min, take, length, get_or, arith}
use Rattle.std.proofs.lemmas.List.Sums.{sum_by_more}
use Rattle.text_bytes.specs.Numbers.{capped}
use Rattle.text_bytes.specs.Text.{Text}
use Rattle.lsp_messages.specs.Units.{units, width}
use Rattle.lsp_messages.specs.declared.counting.Encoding.{Encoding}

-- one byte more is counted
pub units_more : (e : Encoding) (text : Text) (i n w : ℕ) → i < length text → n ≡ capped (units e (take i text)) → w ≡ width e (get_or text i 0)
    → min (n + w) (2 ^ 32 - 1) ≡ capped (units e (take (i + 1) text))
units_more e text i n w here so one = let more = sum_by_more (width e) text i 0 here in omega (arith, more)
