use Rattle.std.proofs.Common.{◌≡◌, ℕ, ◌-◌, List, true, drop, get_or, length, ap, sym, ◌∙◌, arith}
use Rattle.builtin_usb.specs.Interfaces.{Descriptors, descriptors, ending}
use Rattle.builtin_usb.proofs.Cutting.{all_reported, ends_alike, none_left, reported_first, too_short}
use Rattle.builtin_usb.proofs.interfaces.read.Goals as goal
use Rattle.builtin_usb.proofs.interfaces.read.Goals.{else-loop-rest-test, then-loop-rest-test+then-size-lt3}

pub loop-rest-preserved : goal.loop-rest-preserved
loop-rest-preserved c =
    let rest : List ℕ = c.loop-rest.rest.now in
    let longest : ℕ = length c.args.file.now - 9 in
    let size : c.from-size.result ≡ get_or rest 0 0 = omega arith in
    let cut : c.following-rest.result.now ≡ drop (get_or rest 0 0) rest = c.following-rest.ensures ∙ ap (λ (n : ℕ). drop n rest) size in
    record {
      interfaces = reported_first longest rest c.following-rest.result.now c.loop-rest.interfaces.items _ _ (omega arith) (omega arith) (omega arith)
          cut c.in_ok-push_reported.ensures c.loop-rest.invariant.interfaces;
      is_closed = ends_alike longest rest c.following-rest.result.now _ (omega arith) (omega arith) (omega arith) cut c.loop-rest.invariant.is_closed;
    }

pub returns-clause-interfaces : goal.returns-clause-interfaces
returns-clause-interfaces c =
    let rest : List ℕ = c.loop-rest.rest.now in
    let longest : ℕ = length c.args.file.now - 9 in
    let ends : descriptors longest 0 rest ≡ ending true = elim c.loop-rest-test.branch [
      | else-loop-rest-test w ↦ none_left longest rest (omega arith)
      | then-loop-rest-test+then-size-lt3 w ↦ too_short longest rest (omega arith)
    ] in
    all_reported longest rest c.loop-rest.interfaces.items _ true ends c.loop-rest.invariant.interfaces

pub returns-clause-is_closed : goal.returns-clause-is_closed
returns-clause-is_closed c =
    let rest : List ℕ = c.loop-rest.rest.now in
    let longest : ℕ = length c.args.file.now - 9 in
    let ends : descriptors longest 0 rest ≡ ending true = elim c.loop-rest-test.branch [
      | else-loop-rest-test w ↦ none_left longest rest (omega arith)
      | then-loop-rest-test+then-size-lt3 w ↦ too_short longest rest (omega arith)
    ] in
    sym (ap (λ (d : Descriptors). d.is_closed) ends) ∙ c.loop-rest.invariant.is_closed
