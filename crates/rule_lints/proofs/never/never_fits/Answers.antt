use Rattle.rule_lints.proofs.never.never_fits.Goals as goal

pub returns-in-Subsystem : goal.returns-in-Subsystem
returns-in-Subsystem c = rw c.in-Subsystem.is c.some_other_case.ensures

pub returns-in-Architecture : goal.returns-in-Architecture
returns-in-Architecture c = rw c.in-Architecture.is c.fits_none-in-Architecture.ensures
