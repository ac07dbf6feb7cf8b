use Rattle.std.proofs.Common.{◌≡◌, Err, IfErr, IsErrAnd, Ok, Result, false, inr, subst, sym, true}
use Rattle.devdry_folders.specs.declared.reading.Report.{Report}
use Rattle.devdry_gathering.specs.Ended.{EndsIn}
use Rattle.devdry_gathering.specs.Reading.{IsOneUnread, IsUnread}
use Rattle.devdry_gathering.specs.declared.gathered.Ended.{Ended}
use Rattle.devdry_gathering.specs.declared.gathered.Ended.TheVariants.{Said, Memory}
use Rattle.devdry_gathering.proofs.reading.read_both.Goals as goal

-- what holds of what is said holds of it more weakly
weaker : (P Q : Report → Type 0) → ((report : Report) → P report → Q report) → (ended : Ended) → EndsIn P ended → EndsIn Q ended
weaker P Q step (Said report) h = step report h
weaker P Q step Memory h = tt

-- what `?` hands on is the fault itself
handed_on : {T : Type 0} (P : Ended → Type 0) (r : Result T Ended) (ended : Ended) → IsErrAnd r (λ e. e ≡ ended) → P ended → IfErr r P
handed_on P (Ok x) ended is h = tt
handed_on P (Err e) ended is h = subst P (sym is) h

pub returns-clause-old : goal.returns-clause-old
returns-clause-old g c = c.in_ok-old_read-2.ensures false c.in_ok-old_read.ensures.read

pub returns-clause-new : goal.returns-clause-new
returns-clause-new g c = c.in_ok-new_read-2.ensures true c.in_ok-new_read.ensures.read

pub returns-in_err-new_read-clause-said : goal.returns-in_err-new_read-clause-said
returns-in_err-new_read-clause-said g c =
    let may = g.D.Disk.may_answer c.args.disk.now in
    let one = IsOneUnread may c.args.old.now c.args.new.now in
    let ended = c.in_err-new_read.field-0.0 in
    handed_on (EndsIn one) c.from_residual-in_err-new_read.result ended c.from_residual-in_err-new_read.ensures.1
    (weaker (IsUnread may true c.args.new.now) one (λ report h. inr (c.in_ok-old_read.old_read, c.in_ok-old_read.ensures.read, h)) ended c.in_err-new_read.ensures.said)
