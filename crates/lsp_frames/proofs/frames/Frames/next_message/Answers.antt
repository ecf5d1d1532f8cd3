use Rattle.std.proofs.Common.{◌-◌, ◌∙◌, ap, drop, length, refl, arith}
use Rattle.lsp_frames.specs.declared.front.Front.TheVariants.{Whole}
use Rattle.lsp_frames.proofs.Taken.{is_first, passed, rest_fits, rest_left}
use Rattle.lsp_frames.proofs.frames.Frames.next_message.Goals as goal

pub overflow_sub-self : goal.overflow_sub-self
overflow_sub-self c =
    let whole = passed _ c.self.inside.bytes.items c.args.self.now c.self.inside.taken (Whole c.in-Whole.message c.in-Whole.rest) c.deref.ensures.value c.self.view_is c.in-Whole.ensures in
    omega (arith, rest_fits c.self.inside.bytes.items c.args.self.now _ c.in-Whole.rest.now c.self.inside.taken c.self.view_is whole)

pub returns-in-Whole : goal.returns-in-Whole
returns-in-Whole c =
    let whole = passed _ c.self.inside.bytes.items c.args.self.now c.self.inside.taken (Whole c.in-Whole.message c.in-Whole.rest) c.deref.ensures.value c.self.view_is c.in-Whole.ensures in (
      (
        refl,
        (λ _. tt),
        ap (λ k. drop (k - length c.in-Whole.rest.now) c.self.inside.bytes.items) (c.len.ensures ∙ c.self.inside.bytes.ok.0)
            ∙ rest_left c.self.inside.bytes.items c.args.self.now c.in-Whole.message.now c.in-Whole.rest.now c.self.inside.taken (omega arith) c.self.view_is whole,
      ),
      record { message = is_first c.args.self.now c.in-Whole.message.now c.in-Whole.rest.now whole; after = tt },
    )
