-- What is said about a session and a turn that failed.
use Rattle.std.specs.Prelude.{◌++◌, codes, decimal}
use Rattle.text_bytes.specs.Text.{Text}
use Rattle.device_core.specs.FaultTexts.{fault_text}
use Rattle.engine_sessions.specs.declared.session.SessionFault.{SessionFault}
use Rattle.engine_sessions.specs.declared.session.SessionFault.TheVariants.{Block, Memory, Ended}
use Rattle.engine_sessions.specs.declared.turning.TurnFault.{TurnFault}
use Rattle.engine_sessions.specs.declared.turning.TurnFault.TheVariants.{Read, Write, Session}

-- why nothing more is answered, in words: for a faulty block `block N, line L: TEXT`
abbrev pub session_text : SessionFault → Text
session_text (Block number fault) = codes "block " ++ decimal number ++ codes ", " ++ fault_text fault
session_text Memory = codes "out of memory"
session_text Ended = codes "session has ended"

-- why a turn failed, in words
abbrev pub turn_text : TurnFault → Text
turn_text Read = codes "read failed"
turn_text Write = codes "write failed"
turn_text (Session fault) = session_text fault
