use Rattle.std.proofs.Common.{◌∙◌, ap, codes}
use Rattle.std.proofs.lemmas.Result.{IfOk-weaker}
use Rattle.clap.specs.Simple.{App, new_shape, shape_of_fields}
use Rattle.devdry_words.specs.Built.{IsCommand}
use Rattle.devdry_words.proofs.Chains.{one_more}
use Rattle.devdry_words.proofs.commands.explain_command.Goals as goal

pub returns : goal.returns
returns c =
    let start : IsCommand (new_shape (codes "explain")) c.after_help.result = record {
      shape_is = ap shape_of_fields c.after_help.ensures ∙ ap shape_of_fields c.about.ensures ∙ ap (λ (x : App). x.top) c.new.ensures.app;
      is_local = ap (λ f. f.has_globals) c.after_help.ensures ∙ ap (λ f. f.has_globals) c.about.ensures ∙ c.new.ensures.local;
    } in
    IfOk-weaker c.arg.result _ _ (λ m h. one_more _ _ _ _ _ start c.code_argument.ensures h) c.arg.ensures
