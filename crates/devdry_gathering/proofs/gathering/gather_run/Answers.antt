use Rattle.std.proofs.Common.{◌≡◌, Bool, Err, IfErr, List, Ok, Result, false, inl, inr, refl, rules, subst, sym, true, ℕ}
use Rattle.std.specs.Prelude.{MatchBool}
use Rattle.std.proofs.lemmas.Result.{IfOk-weaker}
use Rattle.engine_sessions.specs.Serves.{read_failed}
use Rattle.devdry_files.specs.declared.input_reading.InputFault.TheVariants.{Memory, Read}
use Rattle.devdry_gathering.specs.Gathered.{IsEnded}
use Rattle.devdry_gathering.specs.Gathers.{GathersInput, GathersKnown, GathersRun, names_input}
use Rattle.devdry_gathering.specs.Reading.{Says}
use Rattle.devdry_gathering.proofs.gathering.gather_run.Goals as goal

whenever : {T E : Type 0} (Q : Type 0) (r : Result T E) → Q → IfErr r (λ _. Q)
whenever Q (Ok x) q = tt
whenever Q (Err e) q = q

pub returns-then-not-is_name_among-clause-gathered : goal.returns-then-not-is_name_among-clause-gathered
returns-then-not-is_name_among-clause-gathered g c =
    let may = g.D.Disk.may_answer c.args.disk.now in
    let line = c.args.line in
    let before = g.I.Source.shown c.args.input.now in
    let named : names_input line ≡ false = search rules in
    IfOk-weaker c.gather_known.result _ _ (λ gathered h. subst (λ (b : Bool). MatchBool b (GathersInput may c.args.from_terminal line before gathered before)
    (GathersKnown may c.args.from_terminal line gathered × (before ≡ before))) (sym named) (h, refl)) c.gather_known.ensures

pub returns-then-not-is_name_among-clause-refused : goal.returns-then-not-is_name_among-clause-refused
returns-then-not-is_name_among-clause-refused g c = whenever _ c.gather_known.result (inl refl)

pub returns-in-Ok-clause-gathered : goal.returns-in-Ok-clause-gathered
returns-in-Ok-clause-gathered g c =
    let may = g.D.Disk.may_answer c.args.disk.now in
    let line = c.args.line in
    let before = g.I.Source.shown c.args.input.now in
    let now = g.I.Source.shown c.read_whole.new.input in
    let named : names_input line ≡ true = search rules in
    IfOk-weaker c.gather_known-in-Ok.result _ _ (λ gathered h. subst (λ (b : Bool). MatchBool b (GathersInput may c.args.from_terminal line before gathered now)
    (GathersKnown may c.args.from_terminal line gathered × (now ≡ before))) (sym named)
    (inl (c.in-Ok.bytes, c.in-Ok.ensures.whole, rw (c.new-disk.ensures.disk, c.new-disk.ensures.path, c.new-disk.ensures.bytes) at h))) c.gather_known-in-Ok.ensures

pub returns-in-Ok-clause-refused : goal.returns-in-Ok-clause-refused
returns-in-Ok-clause-refused g c =
    let named : names_input c.args.line ≡ true = search rules in
    whenever _ c.gather_known-in-Ok.result (inr (named, Memory, record { text = c.in-Ok.bytes; reads = c.in-Ok.ensures.whole.reads }))
