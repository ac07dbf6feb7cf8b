-- What the streams of a run show.
use Rattle.engine_sessions.specs.Sinks.{SinkState}
use Rattle.engine_sessions.specs.Sources.{SourceState}

-- the two outputs
pub record Outputs : Type 0 where
  pub out : SinkState
  pub err : SinkState

-- the input and the two outputs
pub record Streams : Type 0 where
  pub input : SourceState
  pub out : SinkState
  pub err : SinkState

-- the outputs of a run
abbrev pub outputs : Streams → Outputs
outputs streams = record { out = streams.out; err = streams.err }
