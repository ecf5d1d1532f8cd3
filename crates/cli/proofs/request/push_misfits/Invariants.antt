use Rattle.std.proofs.Common.{◌≡◌, ◌++◌, flat_map, string_bytes, take}
use Rattle.cli.specs.Requests.{misfit_line}
use Rattle.cli.proofs.request.push_misfits.Given as goal

-- the lines so far
abbrev pub invariant-loop-misfit : goal.invariant-loop-misfit
invariant-loop-misfit l = string_bytes l.out ≡ string_bytes l.initial.out ++ flat_map (misfit_line l.name l.lines) (take l.misfit-index l.misfits)
