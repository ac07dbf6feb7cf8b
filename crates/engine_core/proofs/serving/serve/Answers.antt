use Rattle.std.proofs.Common.{◌≡◌, true, false, sym, ◌∙◌}
use Rattle.engine_core.specs.Outcomes.{reads_modaliases}
use Rattle.engine_core.proofs.Running.{look_ups_serve, others_serve}
use Rattle.engine_core.proofs.serving.serve.Goals as goal

pub returns-then-reads_modaliases-clause-runs : goal.returns-then-reads_modaliases-clause-runs
returns-then-reads_modaliases-clause-runs g c =
    let reads : reads_modaliases c.args.line.now ≡ true = sym c.reads_modaliases.ensures ∙ c.if-reads_modaliases.true in
    record {
      opened = c.open_index-opened.result;
      opens = c.open_index-opened.ensures;
      serves = look_ups_serve c.args.line.now c.args.files.items c.args.found.now c.open_index-opened.result _ _ _ reads c.serve_lookups.ensures;
      looks_up = λ e. c.serve_lookups.ensures;
      runs = λ e. let both : true ≡ false = sym reads ∙ e in absurd cc;
    }

pub returns-clause-runs : goal.returns-clause-runs
returns-clause-runs g c =
    let reads : reads_modaliases c.args.line.now ≡ false = sym c.reads_modaliases.ensures ∙ c.if-reads_modaliases.false in
    record {
      opened = c.open_index-opened.result;
      opens = c.open_index-opened.ensures;
      serves = others_serve c.args.line.now c.args.files.items c.args.found.now c.open_index-opened.result _ _ _ reads c.serve_verb.ensures.runs;
      looks_up = λ e. let both : true ≡ false = sym e ∙ reads in absurd cc;
      runs = λ e. c.serve_verb.ensures.runs;
    }

pub returns-then-reads_modaliases-clause-untouched : goal.returns-then-reads_modaliases-clause-untouched
returns-then-reads_modaliases-clause-untouched g c = λ other h.
    let both : true ≡ false = sym c.if-reads_modaliases.true ∙ c.reads_modaliases.ensures ∙ h in
    absurd cc
