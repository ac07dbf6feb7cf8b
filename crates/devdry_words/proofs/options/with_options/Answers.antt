use Rattle.std.proofs.Common.{◌≡◌, IfOk, [], map, string_bytes, subst}
use Rattle.std.specs.Option.{option_map_or}
use Rattle.devdry_words.specs.Options.{added_to, behind_first}
use Rattle.devdry_words.proofs.Taken.{asked_is}
use Rattle.devdry_words.proofs.options.with_options.Goals as goal

pub returns-in-Ok : goal.returns-in-Ok
returns-in-Ok c =
    subst (λ asked. IfOk c.words_by.result (λ all. map string_bytes all.items ≡ behind_first (added_to (option_map_or (λ p. p.1) asked []) (map (λ w. w.now) c.args.added.now)) (map string_bytes c.args.words.now)))
    (asked_is _ _ _ c.in_ok-command.ensures c.in-Ok.ensures.matches) c.words_by.ensures
