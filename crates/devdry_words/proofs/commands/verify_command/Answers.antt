use Rattle.std.proofs.Common.{◌∙◌, ap, codes}
use Rattle.std.proofs.lemmas.Result.{IfOk-weaker}
use Rattle.clap.specs.Simple.{App, new_shape, shape_of_fields}
use Rattle.devdry_words.specs.Built.{IsCommand}
use Rattle.devdry_words.proofs.Chains.{one_more}
use Rattle.devdry_words.proofs.commands.verify_command.Goals as goal

pub returns : goal.returns
returns c =
    let start : IsCommand (new_shape (codes "verify")) c.after_help.result = record {
      shape_is = ap shape_of_fields c.after_help.ensures ∙ ap shape_of_fields c.about.ensures ∙ ap (λ (x : App). x.top) c.new.ensures.app;
      is_local = ap (λ f. f.has_globals) c.after_help.ensures ∙ ap (λ f. f.has_globals) c.about.ensures ∙ c.new.ensures.local;
    } in
    let first = one_more _ _ _ _ _ start c.options_option.ensures c.in_ok-arg.ensures in
    let second = one_more _ _ _ _ _ first c.root_option.ensures c.in_ok-arg-2.ensures in
    let third = one_more _ _ _ _ _ second c.with_option.ensures c.in_ok-arg-3.ensures in
    let fourth = one_more _ _ _ _ _ third c.strict_flag.ensures c.in_ok-arg-4.ensures in
    let fifth = one_more _ _ _ _ _ fourth c.all_flag.ensures c.in_ok-arg-5.ensures in
    let sixth = one_more _ _ _ _ _ fifth c.format_option.ensures c.in_ok-arg-6.ensures in
    let seventh = one_more _ _ _ _ _ sixth c.color_option.ensures c.in_ok-arg-7.ensures in
    let eighth = one_more _ _ _ _ _ seventh c.ignore_option.ensures c.in_ok-arg-8.ensures in
    let ninth = one_more _ _ _ _ _ eighth c.no_summary_flag.ensures c.in_ok-arg-9.ensures in
    let tenth = one_more _ _ _ _ _ ninth c.no_style_flag.ensures c.in_ok-arg-10.ensures in
    let eleventh = one_more _ _ _ _ _ tenth c.lint_flag.ensures c.in_ok-arg-11.ensures in
    let twelfth = one_more _ _ _ _ _ eleventh c.links_flag.ensures c.in_ok-arg-12.ensures in
    let thirteenth = one_more _ _ _ _ _ twelfth c.udev_flag.ensures c.in_ok-arg-13.ensures in
    let fourteenth = one_more _ _ _ _ _ thirteenth c.users_option.ensures c.in_ok-arg-14.ensures in
    let fifteenth = one_more _ _ _ _ _ fourteenth c.groups_option.ensures c.in_ok-arg-15.ensures in
    let sixteenth = one_more _ _ _ _ _ fifteenth c.input_name_option.ensures c.in_ok-arg-16.ensures in
    IfOk-weaker c.arg-17.result _ _ (λ m h. one_more _ _ _ _ _ sixteenth c.files_argument.ensures h) c.arg-17.ensures
