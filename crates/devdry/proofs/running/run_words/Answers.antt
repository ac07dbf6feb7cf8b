use Rattle.std.proofs.Common.{◌≡◌, inl, map, refl, rules, string_bytes, subst, sym}
use Rattle.devdry_gathering.specs.Words.{AreWords}
use Rattle.devdry_gathering.specs.declared.gathered.Work.TheVariants.{Nothing}
use Rattle.devdry.proofs.running.run_words.Goals as goal

pub returns-in-Ok : goal.returns-in-Ok
returns-in-Ok g c =
    let all : c.deref.result.now ≡ c.in-Ok.all.items = search rules in
    c.run_all.ensures _ (subst (λ words. AreWords (g.D.Disk.may_answer c.args.disk.now) (map string_bytes c.args.words.items) (map string_bytes words)) (sym all) c.in-Ok.ensures.words)

pub returns-in-Err-Said : goal.returns-in-Err-Said
returns-in-Err-Said g c =
    inl (record {
      gathered = record { work = Nothing; report = c.in-Err-Said.report };
      input = g.I.Source.shown c.args.input.now;
      gathers = inl ((refl, rw c.in-Err-Said.field-0-is at c.in-Err-Said.ensures.said), refl);
      runs = rw c.in-Err-Said.field-0-is at c.run.ensures;
    })
