use Rattle.std.proofs.Common.{◌≡◌, ◌∙◌, ◌++◌, ◌∷◌, [], ap, deque_len, length, map, rules, string_bytes, sym}
use Rattle.std.proofs.lemmas.List.{map-append}
use Rattle.std.proofs.lemmas.Result.{IfOk-weaker}
use Rattle.devdry_files.specs.Walks.{names_in}
use Rattle.devdry_files.proofs.Ways.{some_names}
use Rattle.devdry_files.proofs.rooted_steps.step_after.Goals as goal

pub returns-in-Some : goal.returns-in-Some
returns-in-Some g c =
    let front = c.pop_back.new.self.items in
    let name = c.as_str.result.now in
    let cut : names_in c.args.rest.now ≡ map string_bytes front ++ name ∷ [] =
    sym c.in_ok-names.ensures ∙ ap (map string_bytes) c.in-Some.ensures.items ∙ map-append string_bytes front (c.in-Some.name ∷ [])
    ∙ ap (λ text. map string_bytes front ++ text ∷ []) (sym c.as_str.ensures.value) in
    IfOk-weaker c.step_past.result _ _ (λ shown h. (map string_bytes front, name, cut, h)) c.step_past.ensures

pub returns-in-None : goal.returns-in-None
returns-in-None g c =
    let same : deque_len c.in_ok-names.names ≡ length c.in_ok-names.names.items = search rules in
    let none : length c.in_ok-names.names.items ≡ 0 = sym same ∙ c.in-None.ensures.cases.0 in
    absurd (some_names string_bytes c.in_ok-names.names.items c.args.rest.now none c.in_ok-names.ensures)
