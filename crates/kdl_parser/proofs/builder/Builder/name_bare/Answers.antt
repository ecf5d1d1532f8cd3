use Rattle.std.proofs.Common.{rules, ap, arith}
use Rattle.kdl_text.specs.Internal.Here.{Here}
use Rattle.kdl_entry.proofs.Slicing.Between.{is_between}
use Rattle.kdl_entry.proofs.Slicing.SliceCost.{piece_bytes}
use Rattle.kdl_parser.proofs.builder.Builder.name_bare.Goals as goal

pub returns : goal.returns
returns g c =
    let name = rw (is_between c.args.at.now.start.rest c.args.at.now.end.rest c.slice_between-piece.result c.slice_between-piece.ensures.result) at c.in_ok-name.ensures in
    let piece = piece_bytes c.slice_between-piece.result _ _ c.slice_between-piece.ensures.result in
    record {
      did = search rules;
      same = search rules;
      sliced = record { most = omega (arith, piece, c.in_ok-self.ensures.slices.sliced.most, ap (λ (h : Here). h.steps) c.slice_between-piece.ensures.moved, c.begin_node.ensures.unsliced, ap (λ (h : Here). h.steps) c.begin_node.ensures.cursor) };
    }
