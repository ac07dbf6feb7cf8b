use Rattle.std.proofs.Common.{◌≡◌, map, take}
use Rattle.text_bytes.specs.Text.{Text}
use Rattle.text_tables.specs.Texts.{is_among}
use Rattle.engine_checks.proofs.asked.ignored_codes.Given as goal

abbrev pub invariant-loop-text : goal.invariant-loop-text
invariant-loop-text l = (code : Text) → is_among l.codes code ≡ is_among (map (λ t. t.now) (take l.text-index l.ignored)) code
