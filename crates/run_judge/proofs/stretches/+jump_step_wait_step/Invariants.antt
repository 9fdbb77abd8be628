-- They call each other, and the pairs that are left fall.
use Prim.Native.Nat.{◌+◌, ◌*◌}
use Rattle.run_judge.proofs.stretches.+jump_step_wait_step.Given as goal

abbrev pub decreases-jump_step : goal.decreases-jump_step
decreases-jump_step l = 2 * l.further

abbrev pub decreases-wait_step : goal.decreases-wait_step
decreases-wait_step l = 2 * l.further + 1
