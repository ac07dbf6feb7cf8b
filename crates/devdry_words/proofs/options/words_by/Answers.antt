use Rattle.std.proofs.Common.{◌≡◌, IfOk, map, string_bytes, subst}
use Rattle.devdry_words.specs.Options.{added_to, behind_first}
use Rattle.devdry_words.proofs.Taken.{rows_are}
use Rattle.devdry_words.proofs.options.words_by.Goals as goal

pub returns-in-Some : goal.returns-in-Some
returns-in-Some c =
    subst (λ rows. IfOk c.words_with.result (λ all. map string_bytes all.items ≡ behind_first (added_to rows (map (λ w. w.now) c.args.added.now)) (map string_bytes c.args.words.now)))
    (rows_are _ _ c.in-Some.ensures.rows) c.words_with.ensures
