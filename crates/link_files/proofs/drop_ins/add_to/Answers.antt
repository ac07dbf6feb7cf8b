use Rattle.std.proofs.Common.{ap, ◌∙◌, sym, map, [], ◌∷◌, refl}
use Rattle.std.proofs.lemmas.List.{map-append}
use Rattle.link_files.proofs.Owners.{added, first_added}
use Rattle.link_files.proofs.drop_ins.add_to.Goals as goal

pub returns-in-Some : goal.returns-in-Some
returns-in-Some c = λ other.
    added c.args.owners.now.entries c.args.name.now c.args.file.now other c.in-Some.own.now c.push.new.self _
    (c.get_mut.follows.holds c.push.new.self).0 (sym c.in-Some.ensures.value)
    (ap (map (λ f. f.now)) c.in_ok-push.ensures.items ∙ map-append (λ f. f.now) c.in-Some.own.now.items (c.args.file ∷ []))

pub returns : goal.returns
returns c = λ other.
    first_added c.args.owners.now.entries c.args.name.now c.args.file.now other c.args.name c.push-2.new.self c.insert.new.self.entries refl
    (rw c.get_mut.follows.holds-at-none at c.in_ok-insert.ensures.entries) (sym c.in_default.ensures.value)
    (ap (map (λ f. f.now)) (rw c.new-own.ensures.items at c.in_ok-push-2.ensures.items))
