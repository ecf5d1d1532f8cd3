use Rattle.std.proofs.Common.{◌++◌, rules}
use Rattle.std.specs.Str.{chars, encode_utf8_all}
use Rattle.std.proofs.Output.{has_written_append, has_written_of_eq}
use Rattle.kdl_value.specs.Spelled.{char_text}
use Rattle.kdl_value.proofs.Spelling.PlainRuns.{escaped-run, escaped-end}
use Rattle.kdl_value.proofs.spelled.write_escaped.Goals as goal

pub runs-preserved : goal.runs-preserved
runs-preserved g c =
    let (text, done, whole, wrote) = c.runs.invariant in
    let run = c.before-in-runs.result.now in (
      c.in-Some.ensures.text,
      (done ++ encode_utf8_all (chars run)) ++ encode_utf8_all (char_text c.in-Some.c),
      escaped-run done c.runs.rest.now run c.skip_plain-next.result.now c.in-Some.following.now c.in-Some.c _ c.before-in-runs.ensures.parts c.before-in-runs.ensures.as_is c.in-Some.ensures.cases whole,
      λ plain.
          let sofar = wrote plain in
          let one = c.write_text.ensures sofar.plain (search rules) in
          let two = c.write_char_text.ensures one.plain (search rules) in
          has_written_append _ _ _ _ _ _ (has_written_append _ _ _ _ _ _ sofar one) two,
    )

pub returns-in-None : goal.returns-in-None
returns-in-None g c plain ok =
    let (text, done, whole, wrote) = c.runs.invariant in
    let sofar = wrote plain in
    let one = c.write_text.ensures sofar.plain (search rules) in
    has_written_of_eq _ _ _ _ _
    (escaped-end done c.runs.rest.now c.before-in-runs.result.now c.skip_plain-next.result.now _ c.before-in-runs.ensures.parts c.before-in-runs.ensures.as_is c.in-None.ensures.cases whole)
    (has_written_append _ _ _ _ _ _ sofar one)
