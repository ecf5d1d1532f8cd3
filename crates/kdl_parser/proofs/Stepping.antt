-- What a step of the builder does, by the machine's.

-- The document at the end of the text, after the current node.
pub mod Endings
-- A token's event brings the builder where the machine's step does.
pub mod Events
-- The span of nodes, from the first to the last, and their document.
pub mod NodeSpans
-- What the turns of the loop over the tokens cost.
pub mod TurnCost
-- What a step did that no token refuses.
pub mod StepsDone
-- Inside what is slashdashed the machine's step is that of the machine without data.
pub mod Dropped
-- What a token, a fault and the end do to the machine's runs.
pub mod MachineSteps
-- Where the place under way begins.
pub mod Origins
-- The places that the builder holds lie before the text that is left.
pub mod PlacesAhead
-- One more entry, one more node.
pub mod Views
