use Rattle.std.proofs.Common.{◌≡◌, Err, IfErr, IsErrAnd, List, Ok, Result, inl, inr, string_bytes, subst, sym, true, ℕ}
use Rattle.devdry_files.specs.Faults.{HasPath, IsFaultyIndex, IsFaultyWanted}
use Rattle.devdry_files.specs.declared.fault.ReadFault.{ReadFault}
use Rattle.devdry_files.specs.declared.fault.ReadFault.TheVariants.{Memory, Path}
use Rattle.devdry_gathering.specs.Reading.{IsFaulty}
use Rattle.devdry_gathering.proofs.reading.read_wanted.Goals as goal

-- what holds of a path holds of it more weakly
weaker : (P Q : List ℕ → Type 0) → ((path : List ℕ) → P path → Q path) → (fault : ReadFault) → HasPath P fault → HasPath Q fault
weaker P Q step (Path text) h = step (string_bytes text) h
weaker P Q step Memory h = tt

-- what `?` hands on is the fault itself
handed_on : {T : Type 0} (P : ReadFault → Type 0) (r : Result T ReadFault) (fault : ReadFault) → IsErrAnd r (λ e. e ≡ fault) → P fault → IfErr r P
handed_on P (Ok x) fault is h = tt
handed_on P (Err e) fault is h = subst P (sym is) h

pub returns-in_err-files-clause-fault : goal.returns-in_err-files-clause-fault
returns-in_err-files-clause-fault g c =
    let may = g.D.Disk.may_answer c.args.disk.now in
    let faulty = IsFaulty may c.args.takes_index c.args.line.now in
    let w = c.in_ok-wanted.wanted in
    let fault = c.in_err-files.field-0.0 in
    handed_on (HasPath faulty) c.from_residual-in_err-files.result fault c.from_residual-in_err-files.ensures.1
    (weaker (IsFaultyWanted may w) faulty (λ path h. (w, c.in_ok-wanted.ensures, inl h)) fault c.in_err-files.ensures.fault)

pub returns-in_err-index-clause-fault : goal.returns-in_err-index-clause-fault
returns-in_err-index-clause-fault g c =
    let may = g.D.Disk.may_answer c.args.disk.now in
    let takes = c.args.takes_index in
    let faulty = IsFaulty may takes c.args.line.now in
    let w = c.in_ok-wanted.wanted in
    let fault = c.in_err-index.field-0.0 in
    let last : (path : List ℕ) → (takes ≡ true) × IsFaultyIndex may w path → IsFaulty may takes c.args.line.now path =
    λ path h. (w, c.in_ok-wanted.ensures, inr (h.0, c.in_ok-files.files.items, c.in_ok-files.ensures.files, h.1)) in
    handed_on (HasPath faulty) c.from_residual-in_err-index.result fault c.from_residual-in_err-index.ensures.1
    (weaker (λ path. (takes ≡ true) × IsFaultyIndex may w path) faulty last fault c.in_err-index.ensures.fault)

pub returns-clause-read : goal.returns-clause-read
returns-clause-read g c = record {
  wanted = c.in_ok-wanted.wanted;
  wants = c.in_ok-wanted.ensures;
  are_files = c.in_ok-files.ensures.files;
  is_index = c.in_ok-index.ensures.index;
  reported = c.nothing.ensures;
}
