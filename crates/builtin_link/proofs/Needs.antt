-- Words that are needed, added in two steps.
use Rattle.std.proofs.Common.{◌≡◌, List, ◌++◌, sym}
use Rattle.std.proofs.lemmas.List.Sums.{fold-append}
use Rattle.text_bytes.specs.Text.{Text}
use Rattle.text_tables.specs.Texts.{with_text, with_texts}

pub in_two : (held more others : List Text) → with_texts (with_texts held more) others ≡ with_texts held (more ++ others)
in_two held more others = sym (fold-append with_text held more others)
