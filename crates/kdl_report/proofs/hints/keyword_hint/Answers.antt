use Rattle.std.proofs.Common.{codes, refl}
use Rattle.kdl_report.proofs.HintSteps.{hint_for, no_hint}
use Rattle.kdl_report.proofs.hints.keyword_hint.Goals as goal

pub returns-in-true : goal.returns-in-true
returns-in-true c = hint_for c.args.word.now (codes "true") refl c.in-true.is

pub returns-in-false : goal.returns-in-false
returns-in-false c = hint_for c.args.word.now (codes "false") refl c.in-false.is

pub returns-in-null : goal.returns-in-null
returns-in-null c = hint_for c.args.word.now (codes "null") refl c.in-null.is

pub returns-in-nan : goal.returns-in-nan
returns-in-nan c = hint_for c.args.word.now (codes "nan") refl c.in-nan.is

pub returns-in-inf : goal.returns-in-inf
returns-in-inf c = hint_for c.args.word.now (codes "inf") refl c.in-inf.is

pub returns-in-text : goal.returns-in-text
returns-in-text c = hint_for c.args.word.now (codes "-inf") refl c.in-text.is

pub returns-in_default : goal.returns-in_default
returns-in_default c = let d = c.in_default in no_hint c.args.word.now c.utf8.word d.not-true d.not-false d.not-null d.not-nan d.not-inf d.not-text
