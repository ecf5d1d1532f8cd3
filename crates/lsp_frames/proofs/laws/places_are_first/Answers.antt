use Rattle.lsp_frames.proofs.Places.{place_before, place_here, place_nowhere}
use Rattle.lsp_frames.proofs.laws.places_are_first.Goals as goal

pub returns-clause-here : goal.returns-clause-here
returns-clause-here c = place_here

pub returns-clause-before : goal.returns-clause-before
returns-clause-before c = place_before

pub returns-clause-nowhere : goal.returns-clause-nowhere
returns-clause-nowhere c = place_nowhere
