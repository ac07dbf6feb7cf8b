use Rattle.std.proofs.Common.{◌≡◌, take}
use Rattle.std.specs.List.{list_any}
use Rattle.text_bytes.specs.Text.{Text}
use Rattle.text_tables.specs.Texts.{is_among}
use Rattle.engine_checks.specs.Tables.{is_in_file}
use Rattle.engine_checks.proofs.silenced.codes_in_file.Given as goal

abbrev pub invariant-loop-ignore : goal.invariant-loop-ignore
invariant-loop-ignore l = (code : Text) → is_among l.codes code ≡ list_any (is_in_file code) (take l.ignore-index l.ignores)
