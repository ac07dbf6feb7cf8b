use Rattle.std.proofs.Common.{◌-◌, arith, map, refl, string_bytes, subst, suc, IfSome}
use Rattle.devdry_files.specs.Walks.{Leads}
use Rattle.devdry_files.specs.declared.look.Look.TheVariants as look
use Rattle.devdry_files.specs.declared.step.End.TheVariants as ends
use Rattle.devdry_files.proofs.Ways.{leads_on}
use Rattle.devdry_files.proofs.walking.lead.Goals as goal

pub loop-init : goal.loop-init
loop-init g c left end at sum h = leads_on (g.D.Disk.may_answer c.args.disk.now) c.args.root.now (map string_bytes c.args.way.now.items) (map string_bytes c.args.ahead.items) end at left sum h

pub returns-in-Some : goal.returns-in-Some
returns-in-Some g c =
    let may = g.D.Disk.may_answer c.args.disk.now in
    let left = 40 - c.loop.counter in
    c.loop.invariant (suc left) c.in-Some.end (map string_bytes c.walk.new.way.items) (omega (arith, c.loop-test.true))
    (subst (λ o. IfSome o (λ e. Leads may c.args.root.now (suc left) (map string_bytes c.loop.way.items) (map string_bytes c.loop.ahead.items) e (map string_bytes c.walk.new.way.items))) c.in-Some.is (c.in_ok-end.ensures.ends left))

pub loop-preserved : goal.loop-preserved
loop-preserved g c left end at sum h = c.loop.invariant (suc left) end at (omega (arith, sum)) (c.in_ok-end.ensures.follows left end at c.in-None.is h)

pub returns : goal.returns
returns g c = c.loop.invariant 0 (ends.NoWay look.Failed) (map string_bytes c.loop.way.items) (omega (arith, c.loop-test.false, c.loop.auto.counter-end)) (refl, refl)
