use Rattle.std.proofs.Common.{◌∷◌, ◌++◌, ◌||◌, decimal, ap, sym, ◌∙◌}
use Rattle.text_bytes.specs.Names.{colon}
use Rattle.text_bytes.specs.Text.{Text}
use Rattle.text_tables.specs.Texts.{same_text}
use Rattle.engine_courses.proofs.Prefixes.{asks_after, asks_none}
use Rattle.engine_courses.proofs.asked.asks.Goals as goal

pub returns-in-None : goal.returns-in-None
returns-in-None c =
    let both = c.alike-both.result in
    let line = colon ∷ decimal c.args.line in
    asks_none (λ t. t.now) both.file.now both.text.now line c.following.result c.following.ensures.value c.in-None.is
    ∙ ap (λ (names : Text × Text). same_text names.0 names.1 || same_text names.0 (names.1 ++ line)) c.alike-both.ensures

pub returns-else-is_empty : goal.returns-else-is_empty
returns-else-is_empty c =
    let both = c.alike-both.result in
    let line = colon ∷ decimal c.args.line in
    asks_after (λ t. t.now) both.file.now both.text.now line c.following.result c.following.ensures.value c.in-Some.rest c.is_line.result c.in-Some.is
    (sym c.is_empty.ensures ∙ c.if-is_empty.false) c.is_line.ensures
    ∙ ap (λ (names : Text × Text). same_text names.0 names.1 || same_text names.0 (names.1 ++ line)) c.alike-both.ensures
