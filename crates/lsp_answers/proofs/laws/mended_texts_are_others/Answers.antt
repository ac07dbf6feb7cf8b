use Rattle.std.proofs.Common.{◌≡◌, ◌≢◌, Bool, true, false, ◌&&◌, not, Some, None, IfSome, cond, refl, sym}
use Rattle.std.proofs.lemmas.Str.{IsUtf8-from_is_utf8}
use Rattle.std.specs.Cmp.Lexicographic.{bytes_decides}
use Rattle.std.specs.Str.{IsUtf8, is_utf8}
use Rattle.text_bytes.specs.declared.source_file.FileKind.{FileKind}
use Rattle.text_bytes.specs.declared.source_file.FileKind.TheVariants.{Hwdb, Rules}
use Rattle.text_bytes.specs.Text.{Text}
use Rattle.text_tables.specs.Texts.{same_text}
use Rattle.rule_places.specs.Mended.{mended}
use Rattle.lsp_answers.specs.Documents.{kind_of}
use Rattle.lsp_answers.specs.Edits.{changes, mended_as}
use Rattle.lsp_answers.proofs.laws.mended_texts_are_others.Goals as goal

both : (a b : Bool) → (a && not b) ≡ true → (a ≡ true) × (b ≡ false)
both true false e = (refl, refl)
both true true e = absurd cc
both false b e = absurd cc

given_utf8 : (text new : Text) (b : Bool) → changes text new ≡ b → IfSome (cond b (Some new) None) IsUtf8
given_utf8 text new true e = IsUtf8-from_is_utf8 new (both (is_utf8 new) (same_text text new) e).0
given_utf8 text new false e = tt

given_other : (text new : Text) (b : Bool) → changes text new ≡ b → IfSome (cond b (Some new) None) (λ other. other ≢ text)
given_other text new true e =
    λ same.
    let is : same_text text new ≡ true = (bytes_decides text new).1 (sym same) in
    let is_not = (both (is_utf8 new) (same_text text new) e).1 in
    cc
given_other text new false e = tt

utf8 : (kind : FileKind) (text : Text) → IfSome (mended_as kind text) IsUtf8
utf8 Rules text = given_utf8 text (mended text) (changes text (mended text)) refl
utf8 Hwdb text = tt

other : (kind : FileKind) (text : Text) → IfSome (mended_as kind text) (λ new. new ≢ text)
other Rules text = given_other text (mended text) (changes text (mended text)) refl
other Hwdb text = tt

pub returns-clause-utf8 : goal.returns-clause-utf8
returns-clause-utf8 c uri text = utf8 (kind_of uri) text

pub returns-clause-other : goal.returns-clause-other
returns-clause-other c uri text = other (kind_of uri) text
