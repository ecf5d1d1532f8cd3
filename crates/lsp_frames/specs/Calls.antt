-- Calls on `Frames`, one after the other.
use Rattle.std.specs.Prelude.{ℕ, List, [], ◌∷◌, ◌++◌}
use Rattle.std.specs.Option.{option_map_or}
use Rattle.lsp_frames.specs.Frames.{frame_in, left_after}

-- a call of `push` with some bytes that does not fail, or of `next_message`
pub data Call : Type 0 where
  Push : (bytes : List ℕ) → Call
  Next : Call

-- the bytes that are left after a call, given those before it
abbrev pub left_by_call : Call → List ℕ → List ℕ
left_by_call (Push bytes) left = left ++ bytes
left_by_call Next left = left_after left

-- the message that a call gives, if it gives one
abbrev pub given_by_call : Call → List ℕ → List (List ℕ)
given_by_call (Push bytes) left = []
given_by_call Next left = option_map_or (λ f. f.0 ∷ []) (frame_in left) []

-- the bytes that a call pushes
abbrev pub pushed_by_call : Call → List ℕ
pushed_by_call (Push bytes) = bytes
pushed_by_call Next = []

-- the bytes that are left after the calls
abbrev pub left_by : List Call → List ℕ → List ℕ
left_by [] left = left
left_by (c ∷ cs) left = left_by cs (left_by_call c left)

-- the messages that the calls give
abbrev pub given_by : List Call → List ℕ → List (List ℕ)
given_by [] left = []
given_by (c ∷ cs) left = given_by_call c left ++ given_by cs (left_by_call c left)

-- the bytes that the calls push
abbrev pub pushed_by : List Call → List ℕ
pushed_by [] = []
pushed_by (c ∷ cs) = pushed_by_call c ++ pushed_by cs
