use Rattle.std.proofs.Common.{refl}
use Rattle.strsim.specs.Edits.{cost_at, next_row, rows}
use Rattle.text_bytes.specs.Texts.{split_once}
use Rattle.engine_formats.specs.Meant.{unknown_after}
use Rattle.engine_formats.specs.Near.{distance, nearest}
use Rattle.engine_formats.proofs.near_laws.some_unknown_names_are_found.Goals as goal

pub returns-clause-letter : goal.returns-clause-letter
unfolding nearest distance rows next_row cost_at
returns-clause-letter c = refl

pub returns-clause-key : goal.returns-clause-key
unfolding nearest distance rows next_row cost_at
returns-clause-key c = refl

pub returns-clause-case : goal.returns-clause-case
unfolding nearest distance rows next_row cost_at
returns-clause-case c = refl

pub returns-clause-none : goal.returns-clause-none
unfolding nearest distance rows next_row cost_at
returns-clause-none c = refl

pub returns-clause-builtin : goal.returns-clause-builtin
unfolding nearest distance rows next_row cost_at
returns-clause-builtin c = refl

pub returns-clause-option : goal.returns-clause-option
unfolding nearest distance rows next_row cost_at split_once
returns-clause-option c = refl

pub returns-clause-sign : goal.returns-clause-sign
unfolding nearest distance rows next_row cost_at unknown_after
returns-clause-sign c = refl
