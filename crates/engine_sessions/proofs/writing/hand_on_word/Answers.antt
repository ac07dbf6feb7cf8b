use Rattle.std.proofs.Common.{List, ℕ, [], ◌∷◌, ◌++◌, append_assoc}
use Rattle.std.proofs.lemmas.Result.{err_from_is_err_and, on_err_weaker}
use Rattle.text_bytes.specs.Escapes.{escape_text}
use Rattle.text_bytes.specs.Names.{newline}
use Rattle.engine_sessions.proofs.Breaks.{breaks-in-middle}
use Rattle.engine_sessions.proofs.Escaped.{breaks-second, takes-both}
use Rattle.engine_sessions.proofs.writing.hand_on_word.Goals as goal

pub returns-in_err-write_escaped-clause-part : goal.returns-in_err-write_escaped-clause-part
returns-in_err-write_escaped-clause-part g c =
    let shown : List ℕ = escape_text c.args.word.now in
    let p = err_from_is_err_and c.from_residual-in_err-write_escaped.result c.from_residual-in_err-write_escaped.ensures.1 in
    rw (p.1, append_assoc c.args.start.now shown (newline ∷ []))
    (breaks-in-middle _ _ _ c.args.start.now shown (newline ∷ []) c.in_ok-write_all.ensures.whole c.in_err-write_escaped.ensures.part)

pub returns-clause-part : goal.returns-clause-part
returns-clause-part g c =
    let shown : List ℕ = escape_text c.args.word.now in
    let takes = takes-both _ _ _ c.args.start.now shown c.in_ok-write_all.ensures.whole c.in_ok-write_escaped.ensures.whole in
    on_err_weaker c.hand_on.result (λ h. breaks-second _ _ _ (c.args.start.now ++ shown) (newline ∷ []) takes h) c.hand_on.ensures.part
