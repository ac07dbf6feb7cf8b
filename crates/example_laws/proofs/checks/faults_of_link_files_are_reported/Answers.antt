use Rattle.std.proofs.Common.{◌∷◌, [], codes, refl}
use Rattle.text_bytes.specs.declared.source_file.FileKind.TheVariants.{Rules}
use Rattle.link_files.specs.Examples.{at}
use Rattle.engine_sessions.specs.declared.line.Format.TheVariants.{Gcc}
use Rattle.example_laws.specs.Answered.{text}
use Rattle.example_laws.specs.Checked.{not_linting, said}
use Rattle.example_laws.proofs.Checking.{checked_links}
use Rattle.example_laws.proofs.Computing.{computed}
use Rattle.example_laws.proofs.checks.faults_of_link_files_are_reported.Goals as goal

pub returns : goal.returns
unfolding computed
returns c = checked_links not_linting Gcc (at Rules 3 (codes "a.link") (codes "[Match]\nVirtualization=yes\n[Link]\nNmae=a\nNTupleFilter=maybe\nName\n[Matsch]") ∷ at Rules 3 (codes "b.link") (codes "[Link]\nName=b") ∷ []) (said (codes "2 files checked, 0 good, 2 bad\n") (text (codes "a.link:4:1: error: unknown key: Nmae [L2]" ∷ codes "a.link:5:14: error: bad value: maybe [L4]" ∷ codes "a.link:6:1: error: bad line: Name [L3]" ∷ codes "a.link:7:2: error: unknown section: Matsch [L1]" ∷ codes "b.link:1:1: error: file for no interface [L5]" ∷ [])) 1) (λ root. refl)
