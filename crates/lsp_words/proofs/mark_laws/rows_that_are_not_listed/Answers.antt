use Rattle.std.proofs.Common.{◌∷◌, refl}
use Rattle.text_bytes.specs.Names.{hash}
use Rattle.lsp_words.proofs.Outlines.{blank_unlisted, comment_unlisted, indented_unlisted, no_record}
use Rattle.lsp_words.proofs.mark_laws.rows_that_are_not_listed.Goals as goal

pub returns-clause-comment : goal.returns-clause-comment
returns-clause-comment c = comment_unlisted

pub returns-clause-blank : goal.returns-clause-blank
returns-clause-blank c = blank_unlisted

pub returns-clause-indented : goal.returns-clause-indented
returns-clause-indented c = λ line b goes_on row e. indented_unlisted line b row e

pub returns-clause-comment_of_a_database : goal.returns-clause-comment_of_a_database
returns-clause-comment_of_a_database c = λ line goes_on row. no_record line (hash ∷ row) refl
