use Rattle.std.proofs.Common.{◌≡◌, ◌∙◌, IfOk, ap, eqb-true, false, length, rules, slice_index_or, subst, sym, vec_len}
use Rattle.builtin_devices.specs.Folders.{files_in}
use Rattle.builtin_devices.proofs.Gathered.{all_described, none_described}
use Rattle.builtin_devices.proofs.folders.described_devices.Goals as goal

pub returns-then-is_empty : goal.returns-then-is_empty
returns-then-is_empty c =
    let same : vec_len c.in_ok-lengths.lengths ≡ length c.in_ok-lengths.lengths.items = search rules in
    let none = eqb-true (vec_len c.in_ok-lengths.lengths) 0 (sym c.is_empty.ensures ∙ c.if-is_empty.true) in
    c.new.ensures.items ∙ none_described c.args.event.now c.in_ok-lengths.lengths.items (sym same ∙ none) c.in_ok-lengths.ensures

pub returns : goal.returns
returns c =
    let described = all_described c.args.event.now (files_in c.in_ok-folders.folders)
    (λ folder among. c.in_ok-folders.ensures folder among (ap (λ lengths. slice_index_or lengths (length folder) false) c.deref.ensures.value ∙ c.in_ok-lengths.ensures folder among)) in
    subst (λ ds. IfOk c.devices_in.result (λ devices. devices.items ≡ ds)) described c.devices_in.ensures
