use Rattle.std.proofs.Common.{◌≡◌, map, take}
use Rattle.text_bytes.specs.Text.{Text}
use Rattle.text_tables.specs.Texts.{is_among}
use Rattle.engine_reports.proofs.counts.names_in.Given as goal

abbrev pub invariant-loop-one : goal.invariant-loop-one
invariant-loop-one g l = (name : Text) → is_among l.names name ≡ is_among (map g.T.Named.name (take l.one-index l.reported)) name
