-- What is needed, gathered one after another.
use Rattle.std.specs.Prelude.{◌≡◌, List, [], ◌++◌}
use Rattle.std.proofs.Common.{sym}
use Rattle.std.proofs.lemmas.List.Sums.{fold-append}
use Rattle.text_bytes.specs.Text.{Text}
use Rattle.text_tables.specs.Texts.{with_text, with_texts}

-- words that are added after others are added with them
pub in_two : (more others : List Text) → with_texts (with_texts [] more) others ≡ with_texts [] (more ++ others)
in_two more others = sym (fold-append with_text [] more others)
