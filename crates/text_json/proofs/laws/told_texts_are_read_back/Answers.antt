use Rattle.text_json.proofs.ReadBack.{told_back, told_utf8}
use Rattle.text_json.proofs.laws.told_texts_are_read_back.Goals as goal

pub returns-clause-utf8 : goal.returns-clause-utf8
returns-clause-utf8 c text bytes = told_utf8 text (λ k within. bytes k 0 within)

pub returns-clause-read : goal.returns-clause-read
returns-clause-read c text bytes = told_back text (λ k within. bytes k 0 within)
