use Rattle.std.proofs.Common.{refl}
use Rattle.lsp_words.specs.Tables.{entries_of}
use Rattle.lsp_words.proofs.laws.all_words_are_told_about.Goals as goal

pub returns-clause-keys : goal.returns-clause-keys
unfolding entries_of
returns-clause-keys c = refl

pub returns-clause-operators : goal.returns-clause-operators
unfolding entries_of
returns-clause-operators c = refl

pub returns-clause-imports : goal.returns-clause-imports
unfolding entries_of
returns-clause-imports c = refl

pub returns-clause-runs : goal.returns-clause-runs
unfolding entries_of
returns-clause-runs c = refl

pub returns-clause-builtins : goal.returns-clause-builtins
unfolding entries_of
returns-clause-builtins c = refl

pub returns-clause-substitutions : goal.returns-clause-substitutions
unfolding entries_of
returns-clause-substitutions c = refl

pub returns-clause-letters : goal.returns-clause-letters
unfolding entries_of
returns-clause-letters c = refl

pub returns-clause-options : goal.returns-clause-options
unfolding entries_of
returns-clause-options c = refl
