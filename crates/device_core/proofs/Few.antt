-- No line makes more devices than an event may have.
use Rattle.std.proofs.Common.{◌≡◌, ◌<◌, Bool, true, false, [], ◌∷◌, ◌++◌, length, Option, Some, None, Result, Ok, Err, IfOk, nat_le, refl, subst, if◌then◌else◌, arith}
use Rattle.std.proofs.lemmas.List.{length-append}
use Rattle.std.specs.Option.{option_to_list}
use Rattle.text_bytes.specs.Text.{Text}
use Rattle.device_core.specs.Values.{DeviceValue, most_devices}
use Rattle.device_core.specs.Lines.{Row}
use Rattle.device_core.specs.Parts.{is_parent_path, is_device_path}
use Rattle.text_bytes.specs.Texts.{is_empty}
use Rattle.device_core.specs.Blocks.{BehindValue, behind_after}
use Rattle.device_core.specs.Steps.{Sofar, if_ok, begun, unasked, settled, path_step, device_step, above_step, pair_step, command_step, answer_step, output_step, row_step, plain_row, then_row, line_step, with_behind}
use Rattle.device_core.specs.declared.lines.LineKind.{LineKind}
use Rattle.device_core.specs.declared.lines.LineKind.TheVariants.{Action, Device, Field, Constant, Command, Answer, Output}
use Rattle.device_core.specs.declared.faults.BlockFaultKind.{BlockFaultKind}
use Rattle.device_core.specs.declared.faults.BlockFaultKind.TheVariants.{Twice, Path, Pair, TooDeep}

abbrev pub IsFew : Sofar → Type 0
IsFew t = length t.closed < most_devices

few_if : {X : Type 0} (f : X → Sofar) → ((x : X) → IsFew (f x)) → (r : Result X BlockFaultKind) → IfOk (if_ok f r) IsFew
few_if f few (Ok x) = few x
few_if f few (Err kind) = tt

abbrev pub again : Bool → Result Sofar BlockFaultKind
again empty = if empty then Err Pair else Err Twice

few_again : (empty : Bool) → IfOk (again empty) IsFew
few_again true = tt
few_again false = tt

few_device : (s : Sofar) (rest : Text) (o : Option DeviceValue) → s.last ≡ o → IsFew s → IfOk (if_ok (λ _. begun (unasked s) rest) (path_step (length s.closed) o rest)) IsFew
unfolding path_step
few_device s rest None is few = few_if (λ _. begun (unasked s) rest) (λ _. more) (if is_device_path rest then Ok tt else Err Path)
  where
    more : length (s.closed ++ option_to_list s.last) < most_devices
    more = rw (is, length-append s.closed []) (omega (arith, few))
few_device s rest (Some d) is few = by (nat_le 63 (length s.closed)) refl
  where
    more : nat_le 63 (length s.closed) ≡ false → length (s.closed ++ option_to_list s.last) < most_devices
    more e = rw (is, length-append s.closed (d ∷ [])) (grind arith)

    by : (t : Bool) → nat_le 63 (length s.closed) ≡ t → IfOk (if_ok {X = Unit {0}} (λ _. begun (unasked s) rest) (if t then Err TooDeep else (if is_parent_path d.path rest then Ok tt else Err Path))) IsFew
    by true e = tt
    by false e = few_if (λ _. begun (unasked s) rest) (λ _. more e) (if is_parent_path d.path rest then Ok tt else Err Path)

few_row : (s : Sofar) (kind : LineKind) (rest : Text) (answered : Bool) → IsFew s → IfOk (row_step s kind rest answered) IsFew
unfolding row_step device_step
few_row s Action rest answered few = few_again (is_empty rest)
few_row s Device rest answered few = few_device (settled s) rest s.last refl few
few_row s (Field field) rest answered few = few_if (λ d. record (settled s) { last = Some d; asked = None }) (λ _. few) (above_step s.last field rest)
few_row s Constant rest answered few = few_if (λ ps. record (settled s) { constants = ps; asked = None }) (λ _. few) (pair_step s.constants rest)
few_row s Command rest answered few = few_if (λ c. record (settled s) { asked = Some c }) (λ _. few) (command_step (settled s).programs rest answered)
few_row s Answer rest answered few = few_if (λ p. record (settled s) { pending = Some p; asked = None }) (λ _. few) (answer_step s.asked rest)
few_row s Output rest answered few = few_if (λ p. record s { pending = Some p; asked = None }) (λ _. few) (output_step s.pending rest)

few_behind : (b : BehindValue) (r : Result Sofar BlockFaultKind) → IfOk r IsFew → IfOk (if_ok (with_behind b) r) IsFew
few_behind b (Ok t) few = few
few_behind b (Err kind) few = tt

few_line : (s : Sofar) (answered : Bool) (row : Result Row BlockFaultKind) → IsFew s → IfOk (then_row s answered row) IsFew
few_line s answered (Err kind) few = tt
few_line s answered (Ok row) few = few_behind (behind_after s.behind row.0 row.1) (row_step s row.0 row.1 answered) (few_row s row.0 row.1 answered few)

-- a line more leaves them few
pub few_step : (s : Sofar) (line : Text) (answered : Bool) (t : Sofar) → line_step s line answered ≡ Ok t → IsFew s → IsFew t
unfolding line_step
few_step s line answered t e few = subst (λ (r : Result Sofar BlockFaultKind). IfOk r IsFew) e (few_line s answered (plain_row line) few)
