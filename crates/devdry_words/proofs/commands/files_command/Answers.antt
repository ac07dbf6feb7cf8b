use Rattle.std.proofs.Common.{◌∙◌, ap, codes}
use Rattle.std.proofs.lemmas.Result.{IfOk-weaker}
use Rattle.clap.specs.Simple.{App, new_shape, shape_of_fields}
use Rattle.devdry_words.specs.Built.{IsCommand}
use Rattle.devdry_words.proofs.Chains.{one_more}
use Rattle.devdry_words.proofs.commands.files_command.Goals as goal

pub returns : goal.returns
returns c =
    let start : IsCommand (new_shape (codes "files")) c.after_help.result = record {
      shape_is = ap shape_of_fields c.after_help.ensures ∙ ap shape_of_fields c.about.ensures ∙ ap (λ (x : App). x.top) c.new.ensures.app;
      is_local = ap (λ f. f.has_globals) c.after_help.ensures ∙ ap (λ f. f.has_globals) c.about.ensures ∙ c.new.ensures.local;
    } in
    let first = one_more _ _ _ _ _ start c.options_option.ensures c.in_ok-arg.ensures in
    let second = one_more _ _ _ _ _ first c.root_option.ensures c.in_ok-arg-2.ensures in
    IfOk-weaker c.arg-3.result _ _ (λ m h. one_more _ _ _ _ _ second c.with_option.ensures h) c.arg-3.ensures
