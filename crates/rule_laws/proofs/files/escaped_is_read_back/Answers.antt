use Rattle.text_bytes.proofs.Escaping.{unescaped-escape_text}
use Rattle.rule_laws.proofs.files.escaped_is_read_back.Goals as goal

pub returns : goal.returns
returns c = unescaped-escape_text
