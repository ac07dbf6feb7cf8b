-- The builtins that run once for an event.
use Rattle.std.specs.Prelude.{None}
use Rattle.eval_state.specs.declared.ran.Ran.{Ran}

-- none has run
abbrev pub none_ran : Ran
none_ran = record { usb_id = None; path_id = None }
