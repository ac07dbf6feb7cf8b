use Rattle.std.proofs.Common.{◌≡◌, map}
use Rattle.text_bytes.specs.declared.profile.Profile.TheVariants.{Udev}
use Rattle.text_tables.specs.Pairs.{with_values}
use Rattle.eval_state.specs.Properties.{given_properties}
use Rattle.eval_acts.specs.Imports.{names_fitting}
use Rattle.eval_acts.proofs.imports.set_filled_fitting.Given as goal

abbrev pub invariant-loop-name : goal.invariant-loop-name
invariant-loop-name l =
    with_values l.env (names_fitting l.names (given_properties Udev (map (λ e. (e.0.now, e.1.now)) l.name-iterator)))
    ≡ with_values l.fn.env (names_fitting l.fn.names (given_properties Udev l.fn.properties))
