use Rattle.file_catalogue.specs.declared.remark.Remark.TheVariants as about
use Rattle.file_catalogue.proofs.Telling.{severity_told}
use Rattle.file_catalogue.proofs.laws.style_is_a_warning.Goals as goal

pub returns-clause-message : goal.returns-clause-message
returns-clause-message c kind = severity_told (about.Message kind)

pub returns-clause-lint : goal.returns-clause-lint
returns-clause-lint c lint = severity_told (about.Lint lint)

pub returns-clause-database : goal.returns-clause-database
returns-clause-database c lint = severity_told (about.DatabaseLint lint)

pub returns-clause-links : goal.returns-clause-links
returns-clause-links c fault = severity_told (about.LinkFault fault)

pub returns-clause-idle : goal.returns-clause-idle
returns-clause-idle c = severity_told about.IdleIgnore

pub returns-clause-unknown : goal.returns-clause-unknown
returns-clause-unknown c = severity_told about.UnknownCode
