use Rattle.lsp_frames.specs.Heads.{length_in, length_of_line, lines, number, place_of}
use Rattle.lsp_frames.specs.Frames.{frame_in, head_size}
use Rattle.lsp_frames.proofs.laws.small_inputs_are_not_so.Goals as goal

pub returns-clause-none : goal.returns-clause-none
unfolding frame_in head_size length_in length_of_line lines number place_of
returns-clause-none c = λ h. cc
